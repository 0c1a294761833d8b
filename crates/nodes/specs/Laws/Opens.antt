-- What the code learns at a position of accepted bytes: the place behind a field, the kind of what stands there, where its parts stand. Assumes nothing.
use Rattle.std.specs.Prelude.{◌≡◌, refl, Bool, true, false, cond, List, ℕ, ◌+◌, ◌≤◌, ◌<◌, eqb, length, get_or, Result, Ok, Err}
use Rattle.std.specs.Result.{result_unwrap_or}
use Rattle.std.proofs.Common.{sym, ap, ◌∙◌, arith, rules, ne_eqb, eqb-true}
use Rattle.std.proofs.lemmas.Bool.{false≢true}
use Rattle.names.specs.Fields.{Got, got, bad, Reader, levels, each, counted}
use Rattle.names.specs.Read.{ending, accepted, value_or, Read}
use Rattle.names.specs.Laws.Readers.{arrives, has_value}
use Rattle.condition.specs.Condition.{Condition, one, two, negation, refine, formerly, previous, and, or, since, predicate, comparison, exists, tp, opaque, Term, entity, literal, integer, decimal, string, bool, context_field, scope_field, var, wildcard, array, aggregate, sigil, Aggregate, sum, count, call, slot, binder, condition_at, term_at}
use Rattle.condition.specs.Condition as tree
use Rattle.condition.specs.Places.{version_in, condition_here, term_here, is_condition, condition_in, is_term, term_in, aggregate_at, is_aggregate, aggregate_in, is_slot, is_binder}
use Rattle.condition.specs.Kinds.{Decodes}
use Rattle.condition.specs.declared.kind.Kind.{Kind}
use Rattle.condition.specs.declared.kind.TermKind as read
use Rattle.condition.specs.declared.kind.AggregateKind.{AggregateKind}
use Rattle.names.specs.declared.refusal.Refusal.{Refusal}
use Rattle.nodes.specs.Kinds.{kind_of, one_kind, two_kind, term_kind_of, aggregate_kind_of, kind_number, aggregate_kind_number, read_kind_number, told_apart}
use Rattle.nodes.specs.Looked.{place_of, Skipped, KindHere, TermKindHere, AggregateKindHere}
use Rattle.condition.specs.Laws.Sizes.{Forward, nine_condition, forward_slot, forward_binder, forward_counted, forward_condition, forward_term}
use Rattle.nodes.specs.Laws.Views.{Head, head_view, OneView, one_view, TwoView, two_view, ComparisonView, comparison_view, ExistsView, exists_view, span_view, inside, term_inside, term_number_lem, ArithView, arith_view, aggregate_head_view, SumView, sum_view, CountView, count_view, CallView, call_view}

-- what is accepted, and the place behind it
pub record Stands {A : Type 0} (g : Got A) (x : A) : Type 0 where
  pub end : ℕ
  pub read : g ≡ got x end

pub stood : {A : Type 0} (other : A) (g : Got A) → accepted g ≡ true → Stands g (value_or other g)
unfolding accepted value_or
stood other (got a n) e = record { end = n; read = refl }
stood other (bad r) e = absurd (false≢true e)

-- a field that is passed over
pub skipped : {A : Type 0} {f : Reader A} → Forward f → (s : List ℕ) (at : ℕ) (x : Read) (n : ℕ) → accepted (f s at) ≡ true → x ≡ ending (f s at) → n ≡ place_of at x → Skipped (f s at) at n
unfolding ending accepted
skipped {A} {f} p s at x n acc e h = go (f s at) refl acc e
  where
    go : (g : Got A) → f s at ≡ g → accepted g ≡ true → x ≡ ending g → Skipped (f s at) at n
    go (got a m) i j k =
        let q : n ≡ m = h ∙ ap (place_of at) k in
        let l = p.on s at i in
        record { ends = rw (i, q); ahead = omega arith }
    go (bad r) i j k = absurd (false≢true j)

module _ (s : List ℕ) (at : ℕ) (x : Read) (n : ℕ) where
  pub skipped_slot : is_slot s at ≡ true → x ≡ ending (slot s at) → n ≡ place_of at x → Skipped (slot s at) at n
  skipped_slot = skipped forward_slot s at x n

  pub skipped_binder : is_binder s at ≡ true → x ≡ ending (binder s at) → n ≡ place_of at x → Skipped (binder s at) at n
  skipped_binder = skipped forward_binder s at x n

  pub skipped_binders : accepted (counted (each binder) s at) ≡ true → x ≡ ending (counted (each binder) s at) → n ≡ place_of at x → Skipped (counted (each binder) s at) at n
  skipped_binders = skipped (forward_counted binder forward_binder) s at x n

  pub skipped_condition : is_condition s at ≡ true → (v : ℕ) → v ≡ version_in s → x ≡ ending (condition_at v levels s at) → n ≡ place_of at x → Skipped (condition_here s at) at n
  skipped_condition acc v i e = skipped (forward_condition (version_in s) levels) s at x n acc (rw i at e)

  pub skipped_term : is_term s at ≡ true → (v : ℕ) → v ≡ version_in s → x ≡ ending (term_at v levels false s at) → n ≡ place_of at x → Skipped (term_here s at) at n
  skipped_term acc v i e = skipped (forward_term (version_in s) levels false) s at x n acc (rw i at e)

pub ruleset passing = (rules, skipped_slot, skipped_binder, skipped_binders, skipped_condition, skipped_term)

-- where a field ends, by what was read
pub ends_at : {A : Type 0} {g : Got A} {a : A} {n m : ℕ} → g ≡ got a n → ending g ≡ Ok m → m ≡ n
ends_at e h = arrives e (sym h) refl

-- what is read at a place of another name
module _ (s : List ℕ) {p m n : ℕ} (i : p ≡ m) where
  pub condition_there : {x : Condition} → condition_here s m ≡ got x n → condition_here s p ≡ got x n
  condition_there e = rw i e

  pub condition_value : {x : Condition} → condition_here s m ≡ got x n → condition_in s p ≡ x
  unfolding condition_in
  condition_value e = rw i (has_value _ e)

  pub term_there : {x : Term} → term_here s m ≡ got x n → term_here s p ≡ got x n
  term_there e = rw i e

  pub term_value : {x : Term} → term_here s m ≡ got x n → term_in s p ≡ x
  unfolding term_in
  term_value e = rw i (has_value _ e)

-- the byte of a kind, where the tree tells the kind apart
raw : (b k other least : ℕ) → cond (eqb b other) least b ≡ k → (k ≡ least → ⊥) → b ≡ k
raw b k other least e h = go (eqb b other) refl e
  where
    go : (t : Bool) → eqb b other ≡ t → cond t least b ≡ k → b ≡ k
    go true i j = absurd (h (sym j))
    go false i j = j

-- the numbers of the kinds are these and no others
kind_numbers : (x : Condition) → (1 ≤ kind_of x) × (kind_of x ≤ 13)
kind_numbers (one negation at c) = (omega arith, omega arith)
kind_numbers (one refine at c) = (omega arith, omega arith)
kind_numbers (one (formerly w) at c) = (omega arith, omega arith)
kind_numbers (one (previous w) at c) = (omega arith, omega arith)
kind_numbers (two and at l r) = (omega arith, omega arith)
kind_numbers (two or at l r) = (omega arith, omega arith)
kind_numbers (two (since w) at l r) = (omega arith, omega arith)
kind_numbers (predicate at own ns act args) = (omega arith, omega arith)
kind_numbers (comparison at op l r) = (omega arith, omega arith)
kind_numbers (exists at b c) = (omega arith, omega arith)
kind_numbers (tp at x) = (omega arith, omega arith)
kind_numbers (opaque at) = (omega arith, omega arith)

term_numbers : (x : Term) → (1 ≤ term_kind_of x) × (term_kind_of x ≤ 13)
term_numbers (entity n) = (omega arith, omega arith)
term_numbers (literal (integer n)) = (omega arith, omega arith)
term_numbers (literal (decimal n)) = (omega arith, omega arith)
term_numbers (literal (string w)) = (omega arith, omega arith)
term_numbers (literal (bool b)) = (omega arith, omega arith)
term_numbers (context_field p) = (omega arith, omega arith)
term_numbers (scope_field p) = (omega arith, omega arith)
term_numbers (var v) = (omega arith, omega arith)
term_numbers wildcard = (omega arith, omega arith)
term_numbers (array ts) = (omega arith, omega arith)
term_numbers (aggregate a) = (omega arith, omega arith)
term_numbers (tree.arith op l r) = (omega arith, omega arith)
term_numbers sigil = (omega arith, omega arith)

aggregate_numbers : (x : Aggregate) → (1 ≤ aggregate_kind_of x) × (aggregate_kind_of x ≤ 3)
aggregate_numbers (sum span sl bs body) = (omega arith, omega arith)
aggregate_numbers (count span bs body) = (omega arith, omega arith)
aggregate_numbers (call span) = (omega arith, omega arith)

-- so the byte of a kind is from 1 to the last
in_range : (b other least last : ℕ) → 1 ≤ other → other ≤ last → {k : ℕ} → cond (eqb b other) least b ≡ k → 1 ≤ k → k ≤ last → (0 < b → last < b) → ⊥
in_range b other least last o l {k} e h m out = go (eqb b other) refl e
  where
    go : (t : Bool) → eqb b other ≡ t → cond t least b ≡ k → ⊥
    go true i j = let s = eqb-true b other i in let t = out (omega arith) in omega arith
    go false i j = let t = out (omega arith) in omega arith

-- and the kind that it is decoded to is not the one that is taken for a byte of none
taken : {K : Type 0} (number : K → ℕ) (last b : ℕ) → ((0 < b → last < b) → ⊥) → (r : Result K Refusal) → Decodes number last b r → (other : K) → b ≡ number (result_unwrap_or r other)
taken number last b known (Ok k) d other = sym d
taken number last b known (Err e) d other = absurd (known d.1)

not_sigil : (k : Kind) → (k ≡ Kind.SigilRef → ⊥) → kind_number k ≡ 12 → ⊥
not_sigil Kind.And h e = omega arith
not_sigil Kind.Or h e = omega arith
not_sigil Kind.Not h e = omega arith
not_sigil Kind.Formerly h e = omega arith
not_sigil Kind.Previous h e = omega arith
not_sigil Kind.Since h e = omega arith
not_sigil Kind.Predicate h e = omega arith
not_sigil Kind.Comparison h e = omega arith
not_sigil Kind.Exists h e = omega arith
not_sigil Kind.Timepoint h e = omega arith
not_sigil Kind.Call h e = omega arith
not_sigil Kind.SigilRef h e = h refl
not_sigil Kind.Refine h e = omega arith

-- A condition that stands at a position.
module _ (s : List ℕ) (at : ℕ) (acc : is_condition s at ≡ true) where
  pub condition_stands : Stands (condition_here s at) (condition_in s at)
  unfolding condition_in
  condition_stands = stood _ _ acc

  condition_head : Head s at (condition_in s at) (get_or s at 0)
  condition_head = head_view (version_in s) s at condition_stands.read

  pub condition_index : at < length s
  condition_index = inside (version_in s) s at condition_stands.read

  pub condition_room : at + 9 ≤ length s
  condition_room = let v = span_view s (at + 1) condition_head.spans in omega arith

  -- it takes nine bytes at least
  pub condition_ahead : {m : ℕ} → Skipped (condition_here s at) at m → at + 9 ≤ m
  condition_ahead z =
      let l = (nine_condition (version_in s) levels).on s at condition_stands.read in
      let e = arrives condition_stands.read (sym z.ends) refl in
      omega arith

  pub kind_sigil : get_or s at 0 ≡ 12 → KindHere s at 11
  kind_sigil e = record { inside = condition_room; kind = rw e at condition_head.kind }

  pub kind_itself : (get_or s at 0 ≡ 12 → ⊥) → KindHere s at (get_or s at 0)
  kind_itself h = record { inside = condition_room; kind = rw (ne_eqb (get_or s at 0) 12 h) at condition_head.kind }

  -- its kind by what its byte is decoded to
  module _ (r : Result Kind Refusal) (d : Decodes kind_number 13 (get_or s at 0) r) (k : Kind) (e : k ≡ result_unwrap_or r Kind.Call) where
    kind_read : get_or s at 0 ≡ kind_number k
    kind_read =
        let bounds = kind_numbers (condition_in s at) in
        rw e (taken kind_number 13 (get_or s at 0) (in_range (get_or s at 0) 12 11 13 (omega arith) (omega arith) condition_head.kind bounds.0 bounds.1) r d Kind.Call)

    pub kind_call : k ≡ Kind.SigilRef → KindHere s at (kind_number Kind.Call)
    kind_call h = kind_sigil (kind_read ∙ ap kind_number h)

    pub kind_told : (k ≡ Kind.SigilRef → ⊥) → KindHere s at (kind_number k)
    kind_told h = rw (← kind_read) (kind_itself (λ i. not_sigil k h (sym kind_read ∙ i)))

  -- its byte
  pub raw_kind : (k : ℕ) → (k ≡ 11 → ⊥) → kind_of (condition_in s at) ≡ k → get_or s at 0 ≡ k
  raw_kind k h e = raw (get_or s at 0) k 12 11 (condition_head.kind ∙ e) h

  module _ (k : ℕ) (o : k ≡ kind_of (condition_in s at)) where
    pub two_here : two_kind k ≡ true → TwoView (version_in s) k s at (condition_in s at) condition_stands.end
    two_here h =
        let i = raw_kind k (λ e. false≢true (rw e at h)) (sym o) in
        rw (← i) (two_view (version_in s) s at condition_stands.read (rw i h))

    pub one_here : one_kind k ≡ true → OneView (version_in s) k s at (condition_in s at) condition_stands.end
    one_here h =
        let i = raw_kind k (λ e. false≢true (rw e at h)) (sym o) in
        rw (← i) (one_view (version_in s) s at condition_stands.read (rw i h))

  pub comparison_here : kind_of (condition_in s at) ≡ 8 → ComparisonView (version_in s) s at (condition_in s at) condition_stands.end
  comparison_here e = comparison_view (version_in s) s at condition_stands.read (raw_kind 8 (λ i. omega arith) e)

  pub exists_here : kind_of (condition_in s at) ≡ 9 → ExistsView (version_in s) s at (condition_in s at) condition_stands.end
  exists_here e = exists_view (version_in s) s at condition_stands.read (raw_kind 9 (λ i. omega arith) e)

-- A term that stands at a position.
module _ (s : List ℕ) (at : ℕ) (acc : is_term s at ≡ true) where
  pub term_stands : Stands (term_here s at) (term_in s at)
  unfolding term_in
  term_stands = stood _ _ acc

  pub term_index : at < length s
  term_index = term_inside (version_in s) s at term_stands.read

  pub term_sigil : get_or s at 0 ≡ 14 → TermKindHere s at 13
  term_sigil e = record { inside = term_index; kind = rw e at (term_number_lem (version_in s) s at term_stands.read) }

  pub term_itself : (get_or s at 0 ≡ 14 → ⊥) → TermKindHere s at (get_or s at 0)
  term_itself h = record { inside = term_index; kind = rw (ne_eqb (get_or s at 0) 14 h) at (term_number_lem (version_in s) s at term_stands.read) }

  -- its kind by what its byte is decoded to
  pub term_told : (r : Result read.TermKind Refusal) → Decodes read_kind_number 14 (get_or s at 0) r → (j : read.TermKind) → j ≡ result_unwrap_or r read.TermKind.ParamRef
      → (k : ℕ) → k ≡ told_apart (read_kind_number j) → TermKindHere s at k
  term_told r d j e k is =
      let number = term_number_lem (version_in s) s at term_stands.read in
      let bounds = term_numbers (term_in s at) in
      let byte = taken read_kind_number 14 (get_or s at 0) (in_range (get_or s at 0) 14 13 14 (omega arith) (omega arith) number bounds.0 (omega (arith, bounds.1))) r d read.TermKind.ParamRef in
      record { inside = term_index; kind = is ∙ ap (λ i. told_apart (read_kind_number i)) e ∙ sym (ap told_apart byte) ∙ number }

  pub raw_term : (k : ℕ) → (k ≡ 13 → ⊥) → term_kind_of (term_in s at) ≡ k → get_or s at 0 ≡ k
  raw_term k h e = raw (get_or s at 0) k 14 13 (term_number_lem (version_in s) s at term_stands.read ∙ e) h

  pub arith_here : term_kind_of (term_in s at) ≡ 12 → ArithView (version_in s) s at (term_in s at) term_stands.end
  arith_here e = arith_view (version_in s) s at term_stands.read (raw_term 12 (λ i. omega arith) e)

-- An aggregate that stands at a position.
module _ (s : List ℕ) (at : ℕ) (acc : is_aggregate s at ≡ true) where
  pub aggregate_stands : Stands (aggregate_at s at) (aggregate_in s at)
  unfolding aggregate_in
  aggregate_stands = stood _ _ acc

  pub aggregate_kind_here : AggregateKindHere s at (get_or s at 0)
  aggregate_kind_here =
      let v = aggregate_head_view (version_in s) s at aggregate_stands.read in
      let w = span_view s (at + 1) v.spans in
      record { inside = omega arith; kind = v.kind }

  -- its kind by what its byte is decoded to
  pub aggregate_told : (r : Result AggregateKind Refusal) → Decodes aggregate_kind_number 3 (get_or s at 0) r → (k : AggregateKind) → k ≡ result_unwrap_or r AggregateKind.Call → AggregateKindHere s at (aggregate_kind_number k)
  aggregate_told r d k e =
      let bounds = aggregate_numbers (aggregate_in s at) in
      let own = aggregate_kind_here.kind in
      let byte = taken aggregate_kind_number 3 (get_or s at 0) (λ h. omega (arith, own, bounds.0, bounds.1, h (omega (arith, own, bounds.0)))) r d AggregateKind.Call in
      rw (e, ← byte) aggregate_kind_here

  pub aggregate_room : at + 9 ≤ length s
  aggregate_room = aggregate_kind_here.inside

  pub aggregate_index : at < length s
  aggregate_index = let o = aggregate_kind_here in omega arith

  byte_of : (k : ℕ) → k ≡ aggregate_kind_of (aggregate_in s at) → get_or s at 0 ≡ k
  byte_of k e = aggregate_kind_here.kind ∙ sym e

  pub sum_here : aggregate_kind_of (aggregate_in s at) ≡ 1 → SumView (version_in s) s at (aggregate_in s at) aggregate_stands.end
  sum_here e = sum_view (version_in s) s at aggregate_stands.read (byte_of 1 (sym e))

  pub count_here : aggregate_kind_of (aggregate_in s at) ≡ 2 → CountView (version_in s) s at (aggregate_in s at) aggregate_stands.end
  count_here e = count_view (version_in s) s at aggregate_stands.read (byte_of 2 (sym e))

  pub call_here : aggregate_kind_of (aggregate_in s at) ≡ 3 → CallView s at (aggregate_in s at) aggregate_stands.end
  call_here e = call_view (version_in s) s at aggregate_stands.read (byte_of 3 (sym e))

-- An aggregate is one of three.
pub counts : (x : Aggregate) → (aggregate_kind_of x ≡ 3 → ⊥) → (aggregate_kind_of x ≡ 1 → ⊥) → aggregate_kind_of x ≡ 2
counts (sum span sl bs body) h i = absurd (i refl)
counts (count span bs body) h i = refl
counts (call span) h i = absurd (h refl)

-- The kinds with one condition and with two.
module _ (k : ℕ) where
  pub one_of : (k ≡ 3) → true ≡ one_kind k
  one_of e = rw e

  pub one_of_4 : (k ≡ 4) → true ≡ one_kind k
  one_of_4 e = rw e

  pub one_of_5 : (k ≡ 5) → true ≡ one_kind k
  one_of_5 e = rw e

  pub one_of_13 : (k ≡ 13) → true ≡ one_kind k
  one_of_13 e = rw e

  pub none_of : (k ≡ 3 → ⊥) → (k ≡ 4 → ⊥) → (k ≡ 5 → ⊥) → (k ≡ 13 → ⊥) → false ≡ one_kind k
  none_of a b c d = rw (ne_eqb k 3 a, ne_eqb k 4 b, ne_eqb k 5 c, ne_eqb k 13 d)

  pub two_of : (k ≡ 1) → true ≡ two_kind k
  two_of e = rw e

  pub two_of_2 : (k ≡ 2) → true ≡ two_kind k
  two_of_2 e = rw e

  pub two_of_6 : (k ≡ 6) → true ≡ two_kind k
  two_of_6 e = rw e

  pub not_two : (k ≡ 1 → ⊥) → (k ≡ 2 → ⊥) → (k ≡ 6 → ⊥) → false ≡ two_kind k
  not_two a b c = rw (ne_eqb k 1 a, ne_eqb k 2 b, ne_eqb k 6 c)

pub ruleset opening = (rules, condition_index, kind_call, kind_told, term_index, term_told, aggregate_index, aggregate_told)
