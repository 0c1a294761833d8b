-- The aggregates and the leaves of terms in a row, one after another, and the aggregates of a comparison's operands. Assumes nothing.
use mathlib.Core.Path.{◌≡◌, refl, sym, ap, ap₂, ◌∙◌}
use mathlib.Core.Bool.{Bool, true, false}
use mathlib.Core.List.{List, [], ◌∷◌, ◌++◌, append_assoc, append-nil}
use mathlib.Core.Option.{Option}
use Prim.Native.Nat.{ℕ, zero, suc, ◌+◌, ◌-◌, ◌≤◌, ◌<◌}
use native.Mathlib.Numerals.{add-one, sub-one}
use native.Mathlib.Omega.{arith}
use borrow.Author.Rules.{rules}
use borrow.Author.Tests.{eqb-true, eqb-false}
use denote.Enum.Bare.{sameb}
use denote.Enum.Declared.{tag_of}
use lib.ListN.{length}
use Rattle.names.specs.Lists.{gather}
use Rattle.names.specs.Fields.{Got, got, many}
use Rattle.names.specs.Read.{row, row_in}
use Rattle.names.specs.Laws.Readers.{is_accepted, has_value}
use Rattle.names.specs.Laws.Rows.{Opens, opens, row_cons, row_empty}
use Rattle.condition.specs.Condition.{Span, Operator, Condition, Term, ArithOp, Aggregate, comparison, entity, literal, context_field, scope_field, var, wildcard, array, aggregate, sigil}
use Rattle.condition.specs.Condition as tree
use Rattle.condition.specs.Walk.{operand_aggregates}
use Rattle.condition.specs.Places.{term_here, is_condition, condition_in, is_term, term_in}
use Rattle.nodes.specs.Kinds.{kind_of, span_of, term_kind_of, term_kind_number}
use Rattle.nodes.specs.Offsets.{first_part, term_part, left_part}
use Rattle.nodes.specs.Laws.Inside.{place_compared, left_place, aggregate_inside}
use Rattle.nodes.specs.Looked.{Skipped, TermKindHere}
use Rattle.nodes.specs.Parts.{is_terms, aggregates_in, AggregateNext, OperandsHere, operand_leaves, leaves_in, LeafNext, NextLeafIs, NextPart}
use Rattle.nodes.specs.Laws.Opens.{term_there, Stands, stood, ends_at, term_stands, term_index, arith_here, comparison_here}
use Rattle.nodes.specs.Laws.Pieces.{term_ahead}
use Rattle.nodes.specs.Laws.Leaves.{leaf_itself, leaves_gather}
use Rattle.nodes.specs.declared.Several.{Several}
use Rattle.nodes.specs.declared.TermKind.{TermKind}
use Rattle.nodes.specs.declared.TermKind.TheVariants as kinds
use Rattle.nodes.specs.contracts.TermKind.{the_type}
use Rattle.names.specs.Laws.Lists.{gather_append}
use Rattle.std.specs.Prelude.{None}

-- an operand that is no aggregate and no arithmetic has none
no_aggregates : (x : Term) → (term_kind_of x ≡ 12 → ⊥) → (term_kind_of x ≡ 11 → ⊥) → operand_aggregates x ≡ []
unfolding operand_aggregates
no_aggregates (entity n) a b = refl
no_aggregates (literal l) a b = refl
no_aggregates (context_field p) a b = refl
no_aggregates (scope_field p) a b = refl
no_aggregates (var v) a b = refl
no_aggregates wildcard a b = refl
no_aggregates (array ts) a b = refl
no_aggregates (aggregate x) a b = absurd (b refl)
no_aggregates (tree.arith op l r) a b = absurd (a refl)
no_aggregates sigil a b = refl

-- the code compares kinds by the numbers of their cases
tagged : (k : TermKind) → term_kind_number k ≡ tag_of the_type k + 1
tagged kinds.Entity = refl
tagged kinds.Integer = refl
tagged kinds.Decimal = refl
tagged kinds.String = refl
tagged kinds.Bool = refl
tagged kinds.ContextField = refl
tagged kinds.ScopeField = refl
tagged kinds.Var = refl
tagged kinds.Wildcard = refl
tagged kinds.Array = refl
tagged kinds.Aggregate = refl
tagged kinds.Arith = refl
tagged kinds.Sigil = refl

module _ (k : TermKind) (b : Bool) where
  pub is_arith : b ≡ sameb the_type k kinds.Arith → b ≡ true → term_kind_number k ≡ 12
  is_arith e h = let i = eqb-true (tag_of the_type k) 11 (sym e ∙ h) in let j = tagged k in omega arith

  pub no_arith : b ≡ sameb the_type k kinds.Arith → b ≡ false → term_kind_number k ≡ 12 → ⊥
  no_arith e h n = let i = eqb-false (tag_of the_type k) 11 (sym e ∙ h) in let j = tagged k in i (omega arith)

  pub is_aggregated : b ≡ sameb the_type k kinds.Aggregate → b ≡ true → term_kind_number k ≡ 11
  is_aggregated e h = let i = eqb-true (tag_of the_type k) 10 (sym e ∙ h) in let j = tagged k in omega arith

  pub not_aggregated : b ≡ sameb the_type k kinds.Aggregate → b ≡ false → term_kind_number k ≡ 11 → ⊥
  not_aggregated e h n = let i = eqb-false (tag_of the_type k) 10 (sym e ∙ h) in let j = tagged k in i (omega arith)

-- terms in a row
module _ (s : List ℕ) (n at : ℕ) where
  terms_stand : is_terms s n at ≡ true → Stands (row term_here n s at) (row_in term_here s n at)
  terms_stand acc = stood _ _ acc

-- they have a byte each
row_room : (s : List ℕ) (n at : ℕ) {l : List Term} {e : ℕ} → row term_here (suc n) s at ≡ got l e → at + suc n ≤ length s
row_room s zero at h = let o = opens term_here s 1 at (omega arith) h in let i = term_index s at (is_accepted o.here) in omega arith
row_room s (suc n) at h =
    let o = opens term_here s (suc (suc n)) at (omega arith) h in
    let j = term_ahead s at o.here in
    let i = row_room s n o.p (rw sub-one at o.rest) in
    omega arith

-- two more in place of the first
two_more : (s : List ℕ) (n at : ℕ) {l r : Term} {others : List Term} {m p e : ℕ} → 0 < n → term_here s at ≡ got l m → term_here s m ≡ got r p → row term_here (n - 1) s p ≡ got others e
    → row term_here (n + 1) s at ≡ got (l ∷ r ∷ others) e
two_more s zero at h i j k = absurd (omega arith)
two_more s (suc n) at {l} {r} {others} {m} {p} {e} h i j k = rw add-one (row_cons term_here s (suc n) at i (row_cons term_here s n m j (rw sub-one at k)))

same_place : {A : Type 0} {g : Got A} {a b : A} {n m : ℕ} → g ≡ got a n → g ≡ got b m → n ≡ m
same_place e f = cc

comparison_whole : {x : Condition} {own : Span} {op : Operator} {l r : Term} → x ≡ comparison own op l r → x ≡ comparison (span_of x) op l r
comparison_whole e = rw e

few : (s : List ℕ) (n at : ℕ) → is_terms s n at ≡ true → n ≤ length s
few s zero at acc = omega arith
few s (suc n) at acc = let i = row_room s n at (terms_stand s (suc n) at acc).read in omega arith

-- What each term has, gathered along a row: of an arithmetic it is what its left has, then what its right has.
module _ {A : Type 0} (g : Term → List A) where
  abbrev pub parts_in : List ℕ → ℕ → ℕ → List A
  parts_in s n at = gather g (row_in term_here s n at)

  pub record TermsLeft (s : List ℕ) (list : List A) (n at : ℕ) : Type 0 where
    pub stands : is_terms s n at ≡ true
    pub small : n ≤ length s
    pub value : parts_in s n at ≡ list

  terms_left : (s : List ℕ) (n at : ℕ) → is_terms s n at ≡ true → TermsLeft s (parts_in s n at) n at
  terms_left s n at acc = record { stands = acc; small = few s n at acc; value = refl }

  module _ (s : List ℕ) (list : List A) (n at : ℕ) (inv : TermsLeft s list n at) where
    pub none_left : n ≤ 0 → list ≡ []
    unfolding gather
    none_left h = sym inv.value ∙ ap (gather g) (row_empty term_here s n at h (terms_stand s n at inv.stands).read)

    module _ (h : 0 < n) where
      first : Opens term_here s n at (row_in term_here s n at) (terms_stand s n at inv.stands).end
      first = opens term_here s n at h (terms_stand s n at inv.stands).read

      pub first_stands : is_term s at ≡ true
      first_stands = is_accepted first.here

      -- what the first has, then what the others have
      parted : list ≡ g (term_in s at) ++ gather g first.others
      unfolding gather term_in
      parted = sym inv.value ∙ ap (gather g) first.all ∙ ap (λ t. g t ++ gather g first.others) (sym (has_value _ first.here))

      module _ (m : ℕ) (z : Skipped (term_here s at) at m) where
        others_read : row term_here (n - 1) s m ≡ got first.others (terms_stand s n at inv.stands).end
        others_read = ap (row term_here (n - 1) s) (ends_at first.here z.ends) ∙ first.rest

        others_stand : is_terms s (n - 1) m ≡ true
        others_stand = is_accepted others_read

        others_are : list ≡ g (term_in s at) ++ parts_in s (n - 1) m
        others_are = parted ∙ ap (λ l. g (term_in s at) ++ gather g l) (sym (has_value [] others_read))

      turned : ((op : Option ArithOp) (l r : Term) → g (tree.arith op l r) ≡ g l ++ g r) → (k : ℕ) → TermKindHere s at k → k ≡ 12 → (p : ℕ) → p ≡ left_part s at → TermsLeft s list (n + 1) p
      unfolding gather
      turned splits k o is p place =
          let v = arith_here s at first_stands (sym o.kind ∙ is) in
          let e = same_place (term_stands s at first_stands).read first.here in
          let r = two_more s n _ h v.reads v.further (ap (row term_here (n - 1) s) e ∙ first.rest) in
          rw (left_place s at p place)
          (record {
            stands = is_accepted r;
            small = few s (n + 1) _ (is_accepted r);
            value =
                ap (gather g) (has_value [] r)
                ∙ sym (append_assoc (g v.left) (g v.right) (gather g first.others))
                ∙ sym (parted ∙ ap (λ t. g t ++ gather g first.others) v.whole ∙ ap (λ l. l ++ gather g first.others) (splits v.op v.left v.right));
          })

-- The leaves.
module _ (s : List ℕ) (n at : ℕ) (acc : is_terms s n at ≡ true) where
  pub no_leaves : n ≡ 0 → leaves_in s n at ≡ []
  unfolding leaves_in
  no_leaves e = none_left operand_leaves s (leaves_in s n at) n at (terms_left operand_leaves s n at acc) (omega arith)

  pub leaves_left : (n ≡ 0 → ⊥) → TermsLeft operand_leaves s (leaves_in s n at) (n - 1 + 1) at
  unfolding leaves_in
  leaves_left h = let e : n - 1 + 1 ≡ n = omega arith in rw e (terms_left operand_leaves s n at acc)

module _ (s : List ℕ) (list : List Term) (n at : ℕ) (inv : TermsLeft operand_leaves s list (n + 1) at) where
  pub leaf_first : is_term s at ≡ true
  leaf_first = first_stands operand_leaves s list (n + 1) at inv (omega arith)

  pub further_fits : n + 1 ≤ length s
  further_fits = inv.small

  module _ (k : ℕ) (o : TermKindHere s at k) where
    pub leaf_next : (k ≡ 12 → ⊥) → (m : ℕ) → Skipped (term_here s at) at m → LeafNext s list at (record { count = n; first = m })
    unfolding leaves_in
    leaf_next i m z =
        let e : n ≡ n + 1 - 1 = omega arith in
        record {
          stands = leaf_first;
          leaf = λ e. i (o.kind ∙ e);
          others = rw e (others_stand operand_leaves s list (n + 1) at inv (omega arith) m z);
          value =
              others_are operand_leaves s list (n + 1) at inv (omega arith) m z
              ∙ ap (λ l. l ++ parts_in operand_leaves s (n + 1 - 1) m) (leaf_itself (term_in s at) (λ e. i (o.kind ∙ e)))
              ∙ ap (λ j. term_in s at ∷ parts_in operand_leaves s j m) (sym e);
        }

    pub leaf_turn : k ≡ 12 → (p : ℕ) → p ≡ left_part s at → TermsLeft operand_leaves s list (n + 1 + 1) p
    unfolding operand_leaves
    leaf_turn is p place = turned operand_leaves s list (n + 1) at inv (omega arith) (λ op l r. refl) k o is p place

-- The aggregates are those of the leaves.
gathered_leaves : (ts : List Term) → gather operand_aggregates (gather operand_leaves ts) ≡ gather operand_aggregates ts
unfolding gather operand_aggregates
gathered_leaves [] = refl
gathered_leaves (t ∷ ts) = gather_append operand_aggregates (operand_leaves t) (gather operand_leaves ts) ∙ ap₂ ◌++◌ (leaves_gather operand_aggregates (λ op l r. refl) t) (gathered_leaves ts)

by_leaves : (s : List ℕ) (n at : ℕ) → gather operand_aggregates (leaves_in s n at) ≡ aggregates_in s n at
unfolding aggregates_in leaves_in
by_leaves s n at = gathered_leaves (row_in term_here s n at)

pub record AggregatesLeft (s : List ℕ) (list : List Aggregate) (left : Several) : Type 0 where
  pub stands : is_terms s left.count left.first ≡ true
  pub value : aggregates_in s left.count left.first ≡ list

pub aggregates_left : (s : List ℕ) (n at : ℕ) → is_terms s n at ≡ true → AggregatesLeft s (aggregates_in s n at) (record { count = n; first = at })
aggregates_left s n at acc = record { stands = acc; value = refl }

module _ (s : List ℕ) (list : List Aggregate) (left : Several) (inv : AggregatesLeft s list left) where
  pub leaves_stand : is_terms s left.count left.first ≡ true
  leaves_stand = inv.stands

  pub no_leaf : (x : NextPart) → NextLeafIs s (leaves_in s left.count left.first) x → x ≡ None → list ≡ []
  unfolding gather
  no_leaf x is e = let none : leaves_in s left.count left.first ≡ [] = rw e at is in sym inv.value ∙ sym (by_leaves s left.count left.first) ∙ ap (gather operand_aggregates) none

  module _ (p : ℕ) (rest : Several) (z : LeafNext s (leaves_in s left.count left.first) p rest) (k : ℕ) (o : TermKindHere s p k) where
    parted_leaf : list ≡ operand_aggregates (term_in s p) ++ aggregates_in s rest.count rest.first
    unfolding gather
    parted_leaf =
        sym inv.value
        ∙ sym (by_leaves s left.count left.first)
        ∙ ap (gather operand_aggregates) z.value
        ∙ ap (λ l. operand_aggregates (term_in s p) ++ l) (by_leaves s rest.count rest.first)

    pub found_next : k ≡ 11 → (q : ℕ) → q ≡ term_part s p → AggregateNext s list q rest
    unfolding operand_aggregates
    found_next is q place = let here = aggregate_inside s p z.stands q place k o is in record {
      stands = here.stands;
      others = z.others;
      value = parted_leaf ∙ ap (λ t. operand_aggregates t ++ aggregates_in s rest.count rest.first) here.value;
    }

    pub bare_turn : (k ≡ 11 → ⊥) → AggregatesLeft s list rest
    bare_turn i = record {
      stands = z.others;
      value = sym (parted_leaf ∙ ap (λ l. l ++ aggregates_in s rest.count rest.first) (no_aggregates (term_in s p) (λ e. z.leaf e) (λ e. i (o.kind ∙ e))));
    }

-- The operands of a comparison.
pub operands_here : (s : List ℕ) (at : ℕ) → is_condition s at ≡ true → kind_of (condition_in s at) ≡ 8 → (p : ℕ) → p ≡ first_part s at → OperandsHere s at (record { count = 2; first = p })
unfolding aggregates_in gather many
operands_here s at acc is p place =
    let v = comparison_here s at acc is in
    let j : p ≡ at + 10 = place_compared s at acc p place is in
    let r = row_cons term_here s 1 p (term_there s j v.reads) (row_cons term_here s 0 v.middle v.further refl) in
    record {
      op = v.test;
      left = v.left;
      right = v.right;
      stands = is_accepted r;
      whole = comparison_whole v.whole;
      value = ap (gather operand_aggregates) (has_value [] r) ∙ ap (λ l. operand_aggregates v.left ++ l) (append-nil (operand_aggregates v.right));
    }

pub ruleset along_aggregates = (rules, aggregates_left, leaves_stand, no_leaf, found_next, bare_turn, is_aggregated, not_aggregated)

pub ruleset along_leaves = (rules, no_leaves, leaves_left, leaf_first, further_fits, leaf_next, leaf_turn, is_arith, no_arith)
