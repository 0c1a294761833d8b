-- What is read holds no aggregate in an array, since below an array it is refused by 9. Assumes nothing.
use mathlib.Core.Path.{◌≡◌, refl, ap, ap₂}
use mathlib.Core.Bool.{Bool, true, false, cond, ◌&&◌}
use mathlib.Core.List.{List, [], ◌∷◌, ◌++◌}
use Prim.Native.Nat.{ℕ, zero, suc}
use lib.Dec.{eqb, leb}
use Rattle.names.specs.Lists.{every}
use Rattle.names.specs.Fields.{got, Reader, ◌>>=◌, ◌<∘>◌, pure, refuse, u8, i64, string_of, choose, levels, counted, each}
use Rattle.names.specs.Names.{plain, path_name}
use Rattle.names.specs.Paths.{path_of}
use Rattle.names.specs.Laws.Names.{and_left, and_right}
use Rattle.names.specs.Laws.Readers.{split, got_value}
use Rattle.decimal.specs.Decimal.{decimal_text}
use Rattle.condition.specs.Condition as tree
use Rattle.condition.specs.Condition.{Condition, Term, Terms, Aggregate, One, Two, one, two, predicate, comparison, exists, tp, opaque, entity, literal, context_field, scope_field, var, wildcard, array, aggregate, sigil, nil, cons, sum, count, call, span, slot, binder, operator, timepoint_of, given, truth, arith_op, entity_fields, argument_list, elements, element_list, unary, binary, predicate_of, comparison_of, exists_of, condition_kinds, sum_of, count_of, aggregate_kinds, aggregate_of, arith_of, term_kinds, too_deep, condition_at, term_at}
use Rattle.condition.specs.Walk.{reached, reached_in, reached_body}
use Rattle.condition.specs.Places.{version_in}
use Rattle.condition.specs.Laws.Tables.{◌also◌}
use Rattle.condition.specs.Laws.Records.{record_read}
use Rattle.nodes.specs.Laws.Choices.{no_value}
use Rattle.claims.specs.OwnBodies.{is_none, aggregates_in, aggregates_among, bare_arrays, bare_operands, none_in_arrays, ReadBare}
use Rattle.claims.proofs.Scoping.{both_true}
use Rattle.names.specs.declared.refusal.Refusal.TheVariants.{AggregateBelowArray, TooDeep, UndefinedChoice}
use Rattle.names.specs.declared.refusal.Refusal.{Refusal}

-- ---- a reader whose values are all of a kind

record Gives {A : Type 0} (P : A → Type 0) (f : Reader A) : Type 0 where
  on : (s : List ℕ) (at : ℕ) {a : A} {n : ℕ} → f s at ≡ got a n → P a

-- the readers of a table
AllGive : {A : Type 0} → (A → Type 0) → List (ℕ × Reader A) → Type 0
AllGive P [] = Unit {0}
AllGive P ((n, f) ∷ rest) = Gives P f × AllGive P rest

module _ {A : Type 0} {P : A → Type 0} where
  stay : (a : A) → P a → Gives P (pure a)
  stay a h = record { on = λ s at e. rw (← got_value e) h }

  never : (r : Refusal) → Gives P (refuse r)
  never r = record { on = λ s at e. no_value e }

  either_way : (b : Bool) {f g : Reader A} → Gives P f → Gives P g → Gives P (cond b f g)
  either_way true p q = p
  either_way false p q = q

  chosen : (k : ℕ) (table : List (ℕ × Reader A)) → AllGive P table → Gives P (choose k table)
  unfolding AllGive choose
  chosen k [] all = never UndefinedChoice
  chosen k ((n, f) ∷ rest) all = either_way (eqb k n) all.0 (chosen k rest all.1)

module _ {A B : Type 0} {P : B → Type 0} where
  -- one reader, whatever it gives, then another
  past : (f : Reader A) {g : A → Reader B} → ((a : A) → Gives P (g a)) → Gives P (f >>= g)
  past f q = record { on = λ s at e. let x = split (f s at) _ e in (q x.value).on s x.place x.rest }

  -- one whose values are known, then another
  then : {Q : A → Type 0} {f : Reader A} {g : A → Reader B} → Gives Q f → ((a : A) → Q a → Gives P (g a)) → Gives P (f >>= g)
  then {f = f} p q = record { on = λ s at e. let x = split (f s at) _ e in (q x.value (p.on s at x.first)).on s x.place x.rest }

  made : (f : Reader A) (h : A → B) → ((a : A) → P (h a)) → Gives P (h <∘> f)
  made f h q = past f (λ a. stay (h a) (q a))

-- ---- conditions whose comparisons are bare; terms with such in them; terms below an array

every_joined : {A : Type 0} (p : A → Bool) (xs ys : List A) → every p xs ≡ true → every p ys ≡ true → every p (xs ++ ys) ≡ true
unfolding every
every_joined p [] ys e h = h
every_joined p (x ∷ xs) ys e h = both_true (p x) (every p (xs ++ ys)) (and_left (p x) (every p xs) e) (every_joined p xs ys (and_right (p x) (every p xs) e) h)

record Bare (c : Condition) : Type 0 where
  all : every bare_operands (reached c) ≡ true

record BareTerm (t : Term) : Type 0 where
  arrays : bare_arrays t ≡ true
  all : every bare_operands (reached_in t) ≡ true

record BareBody (a : Aggregate) : Type 0 where
  all : every bare_operands (reached_body a) ≡ true

-- below an array there is none
abbrev Without : Term → Type 0
Without t = aggregates_in t ≡ []

-- a term, by whether it lies below an array
abbrev Kept : Bool → Term → Type 0
Kept true t = Without t
Kept false t = BareTerm t

module _ (v : ℕ) (f : Reader Condition) (t : Bool → Reader Term) (p : Gives Bare f) (q : (b : Bool) → Gives (Kept b) (t b)) where
  elements_without : (n : ℕ) → Gives (λ ts. aggregates_among ts ≡ []) (elements v f t n)
  unfolding elements aggregates_among
  elements_without zero = stay nil refl
  elements_without (suc n) = then (q true) λ x h. then (elements_without n) λ xs i. stay (cons x xs) (ap₂ ◌++◌ h i)

  list_without : Gives (λ ts. aggregates_among ts ≡ []) (element_list v f t)
  unfolding element_list
  list_without = past u8 λ n. elements_without n

  unary_bare : (kind : Reader One) → Gives Bare (unary v f t kind)
  unfolding unary reached every bare_operands
  unary_bare kind = past span λ at. past kind λ k. then p λ c h. stay (one k at c) (record { all = h.all })

  binary_bare : (kind : Reader Two) → Gives Bare (binary v f t kind)
  unfolding binary reached every bare_operands
  binary_bare kind = past span λ at. past kind λ k. then p λ l h. then p λ r i. stay (two k at l r) (record { all = every_joined bare_operands (reached l) (reached r) h.all i.all })

  predicate_bare : Gives Bare (predicate_of v f t)
  unfolding predicate_of reached every bare_operands
  predicate_bare = past span λ at. past span λ own. past (counted (each (string_of path_name))) λ ns. past (string_of plain) λ act. past (argument_list v f t) λ args. stay (predicate at own ns act args) (record { all = refl })

  comparison_bare : Gives Bare (comparison_of v f t)
  unfolding comparison_of reached every bare_operands
  comparison_bare =
      past span λ at. past operator λ op. then (q false) λ l h. then (q false) λ r i.
      stay (comparison at op l r)
      (record { all = both_true (bare_arrays l && bare_arrays r) (every bare_operands (reached_in l ++ reached_in r)) (both_true (bare_arrays l) (bare_arrays r) h.arrays i.arrays) (every_joined bare_operands (reached_in l) (reached_in r) h.all i.all) })

  exists_bare : Gives Bare (exists_of v f t)
  unfolding exists_of reached every bare_operands
  exists_bare = past span λ at. past binder λ b. then p λ c h. stay (exists at b c) (record { all = h.all })

  timepoint_bare : Gives Bare timepoint_of
  unfolding timepoint_of reached every bare_operands
  timepoint_bare = past span λ at. past slot λ x. stay (tp at x) (record { all = refl })

  opaque_bare : Gives Bare (opaque <∘> span)
  unfolding reached every bare_operands
  opaque_bare = made span opaque λ at. record { all = refl }

  conditions_bare : (k : ℕ) → Gives Bare (choose k (condition_kinds v f t))
  unfolding condition_kinds AllGive
  conditions_bare k =
      chosen k (condition_kinds v f t)
      (binary_bare _ also binary_bare _ also unary_bare _ also unary_bare _ also unary_bare _ also binary_bare _ also predicate_bare also comparison_bare also exists_bare
      also timepoint_bare also opaque_bare also opaque_bare also unary_bare _ also tt)

  aggregate_bare : Gives BareBody (aggregate_of v f t)
  unfolding aggregate_of aggregate_kinds AllGive sum_of count_of reached_body every
  aggregate_bare =
      past u8 λ k. chosen k (aggregate_kinds v f t)
      ((past span λ at. past slot λ x. past (counted (each binder)) λ bs. then p λ c h. stay (sum at x bs c) (record { all = h.all }))
      also (past span λ at. past (counted (each binder)) λ bs. then p λ c h. stay (count at bs c) (record { all = h.all }))
      also made span call (λ at. record { all = refl })
      also tt)

  -- a term that is no aggregate, no arithmetic and no array is of both kinds
  leaf : (b : Bool) (x : Term) → Without x → BareTerm x → Kept b x
  leaf true x h i = h
  leaf false x h i = i

  array_kept : (b : Bool) (ts : Terms) → aggregates_among ts ≡ [] → Kept b (array ts)
  unfolding aggregates_in bare_arrays reached_in every
  array_kept true ts h = h
  array_kept false ts h = record { arrays = ap is_none h; all = refl }

  arith_kept : (b : Bool) → Gives (Kept b) (arith_of v f t b)
  unfolding arith_of aggregates_in bare_arrays reached_in
  arith_kept true = past (given v arith_op) λ op. then (q true) λ l h. then (q true) λ r i. stay (tree.arith op l r) (ap₂ ◌++◌ h i)
  arith_kept false =
      past (given v arith_op) λ op. then (q false) λ l h. then (q false) λ r i.
      stay (tree.arith op l r) (record { arrays = both_true (bare_arrays l) (bare_arrays r) h.arrays i.arrays; all = every_joined bare_operands (reached_in l) (reached_in r) h.all i.all })

  aggregate_kept : (b : Bool) → Gives (Kept b) (cond b (refuse AggregateBelowArray) (aggregate <∘> aggregate_of v f t))
  unfolding bare_arrays reached_in
  aggregate_kept true = never AggregateBelowArray
  aggregate_kept false = then aggregate_bare λ a h. stay (aggregate a) (record { arrays = refl; all = h.all })

  terms_kept : (b : Bool) (k : ℕ) → Gives (Kept b) (choose k (term_kinds v f t b))
  unfolding term_kinds AllGive aggregates_in bare_arrays reached_in every
  terms_kept b k =
      chosen k (term_kinds v f t b)
      (made (entity_fields v) entity (λ x. leaf b (entity x) refl (record { arrays = refl; all = refl }))
      also made (given v i64) (λ x. literal (tree.integer x)) (λ x. leaf b (literal (tree.integer x)) refl (record { arrays = refl; all = refl }))
      also made (given v decimal_text) (λ x. literal (tree.decimal x)) (λ x. leaf b (literal (tree.decimal x)) refl (record { arrays = refl; all = refl }))
      also made (given v (string_of plain)) (λ x. literal (tree.string x)) (λ x. leaf b (literal (tree.string x)) refl (record { arrays = refl; all = refl }))
      also made (given v truth) (λ x. literal (tree.bool x)) (λ x. leaf b (literal (tree.bool x)) refl (record { arrays = refl; all = refl }))
      also made path_of context_field (λ x. leaf b (context_field x) refl (record { arrays = refl; all = refl }))
      also made path_of scope_field (λ x. leaf b (scope_field x) refl (record { arrays = refl; all = refl }))
      also made (string_of plain) var (λ x. leaf b (var x) refl (record { arrays = refl; all = refl }))
      also stay wildcard (leaf b wildcard refl (record { arrays = refl; all = refl }))
      also (then list_without λ ts h. stay (array ts) (array_kept b ts h))
      also aggregate_kept b
      also arith_kept b
      also stay sigil (leaf b sigil refl (record { arrays = refl; all = refl }))
      also stay sigil (leaf b sigil refl (record { arrays = refl; all = refl }))
      also tt)

deep : {A : Type 0} {P : A → Type 0} (last : ℕ) → Gives P (too_deep last)
unfolding too_deep
deep last = past u8 λ k. either_way (leb 1 k && leb k last) (never TooDeep) (never UndefinedChoice)

record AtLevel (v l : ℕ) : Type 0 where
  conditions : Gives Bare (condition_at v l)
  terms : (b : Bool) → Gives (Kept b) (term_at v l b)

at_level : (v l : ℕ) → AtLevel v l
unfolding condition_at term_at
at_level v zero = record { conditions = deep 13; terms = λ b. deep 14 }
at_level v (suc l) =
    let w = at_level v l in
    record {
      conditions = past u8 λ k. conditions_bare v (condition_at v l) (term_at v l) w.conditions w.terms k;
      terms = λ b. past u8 λ k. terms_kept v (condition_at v l) (term_at v l) w.conditions w.terms b k;
    }

pub read_bare : ReadBare
unfolding none_in_arrays
read_bare s acc = ((at_level (version_in s) levels).conditions.on s 5 (record_read s acc)).all
