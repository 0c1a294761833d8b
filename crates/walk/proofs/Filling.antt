-- The laws of the walk: how the parts of a table make the whole, and what each kind of condition puts into it. Assumes nothing.
use mathlib.Core.Path.{◌≡◌, refl, sym, ap, ◌∙◌, subst}
use mathlib.Core.Bool.{Bool, true, false}
use mathlib.Core.List.{List, [], ◌∷◌, ◌++◌}
use Prim.Native.Nat.{ℕ, ◌+◌, ◌≤◌}
use native.Mathlib.Omega.{arith}
use lib.ListN.{length, get_or, length-append}
use Rattle.names.specs.Fields.{Got}
use Rattle.names.specs.Read.{ending, Read}
use Rattle.walk.specs.declared.Indexed.{Indexed}
use Rattle.condition.specs.Condition.{Binder, binder}
use Rattle.condition.specs.Places.{condition_here, term_here, is_condition, condition_in, is_term, term_in, aggregate_in, is_binder}
use Rattle.nodes.specs.Kinds.{kind_of, one_kind, two_kind, aggregate_kind_of}
use Rattle.nodes.specs.Offsets.{first_part, term_part, left_part}
use Rattle.nodes.specs.Looked.{Skipped, KindHere, TermKindHere, AggregateKindHere, OneHere, TwoHere, ComparedHere, QuantifiedHere, AddedHere, AggregateHere, BodyHere}
use Rattle.nodes.specs.Parts.{ComparisonHere}
use Rattle.walk.specs.Scopes.{Scoped, under, scoped, scoped_in}
use Rattle.walk.specs.Enclosing.{quantifies, aggregates, held_in}
use Rattle.walk.specs.Rows.{Row, scopes, below, held_by, Handed, InScope, InRow, Rows, reached_from, reached_within, Room, Put, Filled}
use Rattle.nodes.specs.Laws.Opens.{condition_ahead}
use Rattle.nodes.specs.Laws.Pieces.{comparison_parts}
use Rattle.nodes.specs.Laws.Inside.{two_inside, one_inside, compared_inside, quantified_inside, added_inside, aggregate_inside}
use Rattle.walk.proofs.Trees.{one_scoped, two_scoped, exists_scoped, alone_scoped, body_scoped, call_scoped, bare_scoped}
use Rattle.walk.proofs.Chains.{SameRows, rows_kept, rows_append, scope_on, row_scope_on, put_says, put_below, hold, below_held}
use Rattle.walk.proofs.Holders.{held_exists, held_aggregate}
use Rattle.std.specs.Prelude.{Ok}

-- a scope, as the walk hands it down
abbrev Scoping : Type 1
Scoping = Row → List ℕ → List ℕ → ℕ → List Binder → Type 0

-- what a scope stands for it goes on standing for further on in the table
record Lasting (row : Row) (scope : Scoping) (s : List ℕ) : Type 0 where
  on : (t u : List ℕ) (n m : ℕ) (bs : List Binder) → n ≤ m → SameRows (scopes row) t u n → scope row s t n bs → scope row s u m bs

module _ (s : List ℕ) where
  scope_lasts : (row : Row) → Lasting row InScope s
  scope_lasts row = record { on = scope_on s row }

  row_lasts : (row : Row) → Lasting row InRow s
  row_lasts row = record { on = row_scope_on s row }

  -- two parts, one after the other
  both : {A B : Type 0} {g : Got A} {h : Got B} {row : Row} {scope : Scoping} {at n : ℕ} {xs ys : List Binder → List Scoped} {t₀ t₁ t₂ : List ℕ} {a r : Indexed} → Lasting row scope s
      → Filled row scope s at g xs t₀ n t₁ a → Filled row scope s a.next h ys t₁ a.count t₂ r → Filled row scope s at h (λ bs. xs bs ++ ys bs) t₀ n t₂ r
  both {row = row} {n = n} {xs = xs} {ys = ys} {t₀ = t₀} {t₁ = t₁} {t₂ = t₂} {a = a} lasts p q = record {
    ends = q.ends;
    counted = λ bs. rw length-append (omega (arith, p.counted bs, q.counted bs));
    within = q.within;
    further = omega arith;
    took = omega arith;
    rows = λ bs h.
        rows_append s (scopes row) t₂ n a.count (xs bs) (ys bs) (p.counted bs)
        (rows_kept s (scopes row) t₁ t₂ n (xs bs) (λ k l. q.kept k (omega (arith, p.counted bs))) (p.rows bs h))
        (q.rows bs (lasts.on t₀ t₁ n a.count bs p.further p.kept h));
    kept = λ k l. q.kept k (omega arith) ∙ p.kept k l;
    size = q.size ∙ p.size;
  }

  -- under a scope that was made of another; what stands further on
  onward : {A : Type 0} {g : Got A} {row within : Row} {scope other : Scoping} {at m n : ℕ} {xs : List Binder → List Scoped} {t u : List ℕ} {r : Indexed} (more : List Binder → List Binder)
      → scopes within ≡ scopes row → Filled within scope s m g xs t n u r → at ≤ m → ((bs : List Binder) → other row s t n bs → scope within s t n (more bs)) → Filled row other s at g (λ bs. xs (more bs)) t n u r
  onward {n = n} {xs = xs} {t = t} {u = u} more e p h f = record {
    ends = p.ends;
    counted = λ bs. p.counted (more bs);
    within = p.within;
    further = p.further;
    took = omega arith;
    rows = λ bs i. subst (λ (b : Bool). Rows b s u n (xs (more bs))) e (p.rows (more bs) (f bs i));
    kept = subst (λ (b : Bool). SameRows b t u n) e p.kept;
    size = p.size;
  }

  -- a condition, and those below it
  self : {A : Type 0} {g : Got A} {row : Row} {at m n : ℕ} {xs : List Binder → List Scoped} {t₀ t₁ t₂ : List ℕ} {r : Indexed} → is_condition s at ≡ true
      → Put row t₀ n at t₁ → at + 9 ≤ m → Filled row (λ row s t k bs. InScope row s t₀ n bs) s m g xs t₁ (n + 1) t₂ r
      → Filled row InScope s at g (λ bs. under bs (condition_in s at) ∷ xs bs) t₀ n t₂ r
  unfolding Rows
  self {row = row} {at = at} {n = n} {t₀ = t₀} {t₂ = t₂} acc u h p = record {
    ends = p.ends;
    counted = λ bs. omega (arith, p.counted bs);
    within = p.within;
    further = omega arith;
    took = omega arith;
    rows = λ bs i. (put_says s row t₀ t₂ n at bs acc (p.kept n (omega arith) ∙ u.here) stays i, p.rows bs i);
    kept = stays;
    size = p.size ∙ u.size;
  }
    where
      stays : SameRows (scopes row) t₀ t₂ n
      stays k l = p.kept k (omega arith) ∙ u.kept k l

  empty : {A : Type 0} {g : Got A} {row : Row} {scope : Scoping} {at next n : ℕ} {t : List ℕ} → ending g ≡ Ok next → at ≤ next → n ≤ 3641 → Filled row scope s at g (λ bs. []) t n t (record { next = next; count = n })
  unfolding Rows
  empty e h i = record { ends = e; counted = λ bs. omega arith; within = i; further = omega arith; took = omega arith; rows = λ bs j. tt; kept = λ k l. refl; size = refl }

  -- the same for what ends alike and reaches the same
  alike : {A B : Type 0} {g : Got A} {h : Got B} {row : Row} {scope : Scoping} {at n : ℕ} {xs ys : List Binder → List Scoped} {t u : List ℕ} {r : Indexed} → ending h ≡ ending g → ((bs : List Binder) → ys bs ≡ xs bs)
      → Filled row scope s at g xs t n u r → Filled row scope s at h ys t n u r
  alike {n = n} e f p = record {
    ends = e ∙ p.ends;
    counted = λ bs. p.counted bs ∙ ap (λ l. n + length l) (sym (f bs));
    within = p.within;
    further = p.further;
    took = p.took;
    rows = λ bs i. rw (f bs) (p.rows bs i);
    kept = p.kept;
    size = p.size;
  }

-- a part ends where it was said to
ends_there : {x : Read} {m n : ℕ} → x ≡ Ok m → x ≡ Ok n → m ≡ n
ends_there e f = cc

-- what is asked of the byte that a kind is written as is asked of the kind
pub by_byte : (asked : ℕ → Bool) (byte k : ℕ) (b : Bool) → byte ≡ k → b ≡ asked byte → b ≡ asked k
by_byte asked byte k b e q = q ∙ ap asked e

-- What each kind of condition asks of its parts, and what it puts into the table. For `search`: the premises stand as the code learns them, in an order in
-- which each leaves little open when it is looked for.
module _ (s : List ℕ) (at : ℕ) (acc : is_condition s at ≡ true) (k : ℕ) (o : KindHere s at k) (p : ℕ) (place : p ≡ first_part s at) where
  module _ (b : Bool) (q : b ≡ two_kind k) (taken : b ≡ true) where
    two_is : TwoHere s at p
    two_is = two_inside s at acc p place k o.kind (sym q ∙ taken)

    pub two_first : is_condition s p ≡ true
    two_first = two_is.stands

    module _ {row : Row} {n : ℕ} {t₀ t₁ t₂ : List ℕ} {a : Indexed} (u : Put row t₀ n at t₁) (f : Filled row InScope s p (condition_here s p) (reached_from s p) t₁ (n + 1) t₂ a) where
      pub two_filled : {t₃ : List ℕ} {r : Indexed} → Filled row InScope s a.next (condition_here s a.next) (reached_from s a.next) t₂ a.count t₃ r
          → Filled row InScope s at (condition_here s at) (reached_from s at) t₀ n t₃ r
      unfolding reached_from
      two_filled g =
          let m : two_is.second ≡ a.next = ends_there two_is.between f.ends in
          alike s (rw m at two_is.ends) (two_scoped (condition_in s at) (condition_in s p) (condition_in s a.next) (ap two_kind (sym o.kind) ∙ sym q ∙ taken) (rw m at two_is.reaches))
          (self s acc u two_is.ahead (onward s (λ bs. bs) refl (both s (scope_lasts s row) f g) (omega arith) (λ bs i. scope_on s row t₀ t₁ n (n + 1) bs (omega arith) u.kept i)))

  module _ (b : Bool) (q : b ≡ one_kind k) (taken : b ≡ true) where
    one-is : OneHere s at p
    one-is = one_inside s at acc p place k o.kind (sym q ∙ taken)

    pub one_first : is_condition s p ≡ true
    one_first = one-is.stands

    pub one_filled : {row : Row} {n : ℕ} {t₀ t₁ t₂ : List ℕ} {r : Indexed} → Put row t₀ n at t₁ → Filled row InScope s p (condition_here s p) (reached_from s p) t₁ (n + 1) t₂ r
        → Filled row InScope s at (condition_here s at) (reached_from s at) t₀ n t₂ r
    unfolding reached_from
    one_filled {row} {n} {t₀} {t₁} u f =
        alike s one-is.ends (one_scoped (condition_in s at) (condition_in s p) (ap one_kind (sym o.kind) ∙ sym q ∙ taken) one-is.reaches)
        (self s acc u one-is.ahead (onward s (λ bs. bs) refl f (omega arith) (λ bs i. scope_on s row t₀ t₁ n (n + 1) bs (omega arith) u.kept i)))

  module _ (is : k ≡ 8) where
    compared_is : ComparedHere s at p
    compared_is = compared_inside s at acc p place k o.kind is

    pub comparison_first : is_term s p ≡ true
    comparison_first = compared_is.stands

    module _ {row within : Row} {n : ℕ} {t₀ t₁ t₂ : List ℕ} {a : Indexed} (u : Put row t₀ n at t₁) (d : Handed row within (below row at n)) (f : Filled within InRow s p (term_here s p) (reached_within s p) t₁ (n + 1) t₂ a) where
      parts : ComparisonHere s at (record { operator = get_or s (at + 9) 0; left = p; right = a.next })
      parts = comparison_parts s at acc (sym o.kind ∙ is) p place (get_or s (at + 9) 0) a.next refl (record { ends = f.ends; ahead = omega arith })

      pub comparison_filled : {t₃ : List ℕ} {r : Indexed} → Filled within InRow s a.next (term_here s a.next) (reached_within s a.next) t₂ a.count t₃ r
          → Filled row InScope s at (condition_here s at) (reached_from s at) t₀ n t₃ r
      unfolding reached_from reached_within scoped
      comparison_filled g =
          let m : compared_is.second ≡ a.next = ends_there compared_is.between f.ends in
          alike s (rw m at compared_is.ends) (λ bs. ap (scoped bs) parts.value ∙ ap (λ c. under bs c ∷ (scoped_in bs (term_in s p) ++ scoped_in bs (term_in s a.next))) (sym parts.value))
          (self s acc u compared_is.ahead (onward s (λ bs. bs) d.alike (both s (row_lasts s within) f g) (omega arith) (λ bs i. rw d.is (put_below s row t₀ t₁ n at bs u.here u.kept i))))

  module _ (is : k ≡ 9) where
    quantified-is : QuantifiedHere s at p
    quantified-is = quantified_inside s at acc p place k o.kind is

    pub exists_first : is_binder s p ≡ true
    exists_first = quantified-is.stands

    module _ {m : ℕ} (z : Skipped (binder s p) p m) where
      body_is : quantified-is.body ≡ m
      body_is = ends_there quantified-is.between z.ends

      pub exists_next : is_condition s m ≡ true
      exists_next = rw body_is at quantified-is.behind

      pub exists_filled : {row within : Row} {n : ℕ} {t₀ t₁ t₂ : List ℕ} {r : Indexed} → Room row s at (length t₀) n → Put row t₀ n at t₁ → Handed row within (below row at n)
          → Filled within InScope s m (condition_here s m) (reached_from s m) t₁ (n + 1) t₂ r → Filled row InScope s at (condition_here s at) (reached_from s at) t₀ n t₂ r
      unfolding reached_from
      exists_filled {row} {within} {n} {t₀} {t₁} room u d f =
          let nine : kind_of (condition_in s at) ≡ 9 = sym o.kind ∙ is in
          let far : at + 9 ≤ m = omega (arith, quantified-is.ahead, z.ahead) in
          alike s (rw body_is at quantified-is.ends) (λ bs. exists_scoped (condition_in s at) (condition_in s m) nine (rw body_is at quantified-is.reaches) bs ∙ ap (λ l. under bs (condition_in s at) ∷ scoped (bs ++ l) (condition_in s m)) (sym (held_exists s at acc nine)))
          (self s acc u far
          (onward s (λ bs. bs ++ held_in s at) d.alike f (omega arith) (λ bs i. rw (d.is, ← below_held row at n) (hold s (below row at n) t₁ (n + 1) at bs (omega arith) (quantifies acc nine) (put_below s row t₀ t₁ n at bs u.here u.kept i)))))

-- any other kind
module _ (s : List ℕ) (at : ℕ) (acc : is_condition s at ≡ true) (k : ℕ) (o : KindHere s at k) where
  pub alone_filled : {row : Row} {m n : ℕ} {t₀ t₁ : List ℕ} (two_in one_in : Bool) → two_in ≡ two_kind k → two_in ≡ false → one_in ≡ one_kind k → one_in ≡ false → (k ≡ 8 → ⊥) → (k ≡ 9 → ⊥) → Room row s at (length t₀) n → Put row t₀ n at t₁ → Skipped (condition_here s at) at m
      → Filled row InScope s at (condition_here s at) (reached_from s at) t₀ n t₁ (record { next = m; count = n + 1 })
  unfolding reached_from
  alone_filled {row} {m} {n} {t₀} {t₁} two_in one_in h h' i i' a b room u z =
      let e = alone_scoped (condition_in s at) (rw (← o.kind) (sym h ∙ h')) (rw (← o.kind) (sym i ∙ i')) (λ q. a (o.kind ∙ q)) (λ q. b (o.kind ∙ q)) in
      alike s refl e
      (self s acc u (omega arith) (empty s z.ends (condition_ahead s at acc z) (omega arith)))

-- The same of an operand.
module _ (s : List ℕ) (at : ℕ) (acc : is_term s at ≡ true) (k : ℕ) (o : TermKindHere s at k) (p : ℕ) where
  module _ (place : p ≡ term_part s at) (is : k ≡ 11) where
    aggregate-is : AggregateHere s at p
    aggregate-is = aggregate_inside s at acc p place k o is

    module _ (j : ℕ) (c : AggregateKindHere s p j) where
      pub body_filled : (j ≡ 3 → ⊥) → {row within : Row} {q n : ℕ} {t u : List ℕ} {r : Indexed} → BodyHere s p q → Handed row within (held_by row p) → Filled within InScope s q (condition_here s q) (reached_from s q) t n u r
          → Filled row InRow s at (term_here s at) (reached_within s at) t n u r
      unfolding reached_from reached_within scoped_in
      body_filled other {row} {within} {q} {n} {t} y d f =
          let not : aggregate_kind_of (aggregate_in s p) ≡ 3 → ⊥ = λ e. other (c.kind ∙ e) in
          let held = held_aggregate s p aggregate-is.stands in
          alike s (aggregate-is.ends ∙ y.ends) (λ bs. ap (scoped_in bs) aggregate-is.value ∙ body_scoped (aggregate_in s p) (condition_in s q) not y.value bs ∙ ap (λ l. scoped (bs ++ l) (condition_in s q)) (sym held))
          (onward s (λ bs. bs ++ held_in s p) d.alike f (omega (arith, aggregate-is.ahead, y.ahead)) (λ bs i. rw d.is (hold s row t n p bs (omega (arith, aggregate-is.ahead)) (aggregates aggregate-is.stands not) i)))

      pub call_filled : j ≡ 3 → {row : Row} {m n : ℕ} {t : List ℕ} → Room row s at (length t) n → Skipped (term_here s at) at m → Filled row InRow s at (term_here s at) (reached_within s at) t n t (record { next = m; count = n })
      unfolding reached_within scoped_in
      call_filled h room z =
          alike s refl (λ bs. ap (scoped_in bs) aggregate-is.value ∙ call_scoped (aggregate_in s p) (sym c.kind ∙ h) bs) (empty s z.ends z.ahead (omega arith))

  module _ (place : p ≡ left_part s at) (is : k ≡ 12) where
    added_is : AddedHere s at p
    added_is = added_inside s at acc p place (sym o.kind ∙ is)

    pub arith_first : is_term s p ≡ true
    arith_first = added_is.stands

    module _ {row : Row} {n : ℕ} {t₀ t₁ : List ℕ} {a : Indexed} (f : Filled row InRow s p (term_here s p) (reached_within s p) t₀ n t₁ a) where
      pub arith_filled : {t₂ : List ℕ} {r : Indexed} → Filled row InRow s a.next (term_here s a.next) (reached_within s a.next) t₁ a.count t₂ r
          → Filled row InRow s at (term_here s at) (reached_within s at) t₀ n t₂ r
      unfolding reached_within scoped_in
      arith_filled g =
          let m : added_is.second ≡ a.next = ends_there added_is.between f.ends in
          alike s (rw m at added_is.ends) (λ bs. ap (scoped_in bs) (rw m at added_is.value)) (onward s (λ bs. bs) refl (both s (row_lasts s row) f g) (omega (arith, added_is.ahead)) (λ bs i. i))

-- any other kind
module _ (s : List ℕ) (at : ℕ) (k : ℕ) (o : TermKindHere s at k) where
  pub bare_filled : {row : Row} {m n : ℕ} {t : List ℕ} → (k ≡ 11 → ⊥) → (k ≡ 12 → ⊥) → Room row s at (length t) n → Skipped (term_here s at) at m
      → Filled row InRow s at (term_here s at) (reached_within s at) t n t (record { next = m; count = n })
  unfolding reached_within
  bare_filled h i room z = alike s refl (bare_scoped (term_in s at) (λ e. h (o.kind ∙ e)) (λ e. i (o.kind ∙ e))) (empty s z.ends z.ahead (omega arith))

-- Where the part behind another stands.
module _ (s : List ℕ) (p : ℕ) {row : Row} {scope : Scoping} {m n : ℕ} {xs : List Binder → List Scoped} {t u : List ℕ} {a : Indexed} where
  pub two_next : Filled row scope s m (condition_here s p) xs t n u a → (at k : ℕ) → KindHere s at k → p ≡ first_part s at → (b : Bool) → b ≡ two_kind k → b ≡ true → is_condition s at ≡ true → is_condition s a.next ≡ true
  two_next f at k o place b q is acc = let v = two_is s at acc k o p place b q is in rw (ends_there f.ends v.between) v.behind

  pub comparison_next : Filled row scope s m (term_here s p) xs t n u a → (at : ℕ) → p ≡ first_part s at → kind_of (condition_in s at) ≡ 8 → is_condition s at ≡ true → is_term s a.next ≡ true
  comparison_next f at place is acc = let v = compared_inside s at acc p place 8 (sym is) refl in rw (ends_there f.ends v.between) v.behind

  pub arith_next : Filled row scope s m (term_here s p) xs t n u a → (at k : ℕ) → TermKindHere s at k → k ≡ 12 → p ≡ left_part s at → is_term s at ≡ true → is_term s a.next ≡ true
  arith_next f at k o is place acc = let v = added_is s at acc k o p place is in rw (ends_there f.ends v.between) v.behind
