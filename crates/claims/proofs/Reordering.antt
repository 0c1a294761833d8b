-- Swapped operands. Assumes nothing.
use mathlib.Core.Path.{◌≡◌, refl, sym, ap, ◌∙◌}
use mathlib.Core.Bool.{Bool, true, false, not}
use mathlib.Core.List.{List, [], ◌∷◌, ◌++◌}
use mathlib.Core.Option.{Option, none, some}
use native.Mathlib.Omega.{arith}
use lib.ListN.{length, length-append}
use Rattle.names.specs.Lists.{gather}
use Rattle.names.specs.Names.{same, last_of}
use Rattle.names.specs.Text.{text}
use Rattle.types.specs.Types as types
use Rattle.types.specs.Types.{Ty, Profile, scalar, fits, compatible, are_ordered}
use Rattle.types.specs.Laws.Order.{ordered_swapped}
use Rattle.types.specs.Laws.Profiles.{compatible_swapped}
use Rattle.condition.specs.Condition as condition
use Rattle.condition.specs.Condition.{Span, Condition, Term, Operator, comparison}
use Rattle.condition.specs.Walk.{reached, reached_in, reached_body, operand_aggregates, operand_binders, declared_by, declares, binders, last_named}
use Rattle.terms.specs.Terms.{word_type_by, annotation_type_by, var_type, term_type}
use Rattle.rules.specs.Rules.{breach_if, both, numeric_breaches, like_breaches, operands_by, ordering, arithmetic_breaches, node_breaches}
use Rattle.reports.specs.Reports.{Breach}
use Rattle.claims.specs.Examples.{AnyName, facts_in, reports, binder_of}
use Rattle.claims.specs.Rows.{Hold, end, ◌and◌}
use Rattle.claims.specs.Reordering.{shown, Turned, silent, shows, Reordering, asking_count, other_count, wholes}
use Rattle.claims.proofs.Examples.{computed, declared_type}

-- ---- a node

module _ (at : Span) where
  judged : (ordered : Bool) (t u : Ty) (b : Bool) → Turned ordered at (breach_if b (shown ordered t u) at) (breach_if b (shown ordered u t) at)
  judged ordered t u true = shows t u
  judged ordered t u false = silent

  types_turned : (p : Profile) (ordered : Bool) (t u : Ty) → Turned ordered at (operands_by p ordered t u at) (operands_by p ordered u t at)
  unfolding numeric_breaches like_breaches
  types_turned p true t u = rw (ordered_swapped u t) (judged true t u (not (are_ordered t u)))
  types_turned p false t u = rw (compatible_swapped p u t) (judged false t u (not (compatible p t u)))

  turned_by : (p : Profile) (ordered : Bool) (o q : Option Ty) → Turned ordered at (both o q (operands_by p ordered) at) (both q o (operands_by p ordered) at)
  turned_by p ordered none none = silent
  turned_by p ordered none (some u) = silent
  turned_by p ordered (some t) none = silent
  turned_by p ordered (some t) (some u) = types_turned p ordered t u

  as_many : {ordered : Bool} {own turned : List Breach} → Turned ordered at own turned → length own ≡ length turned
  as_many silent = refl
  as_many (shows t u) = refl

empty : {A : Type 0} (xs : List A) → length xs ≡ 0 → xs ≡ []
empty [] e = refl
empty (x ∷ xs) e = absurd (omega arith)

of_none : {A : Type 0} (xs ys : List A) → length xs ≡ length ys → xs ≡ [] → ys ≡ []
of_none xs ys e h = empty ys (sym e ∙ ap length h)

parts : {A : Type 0} (a b c d : List A) → length c ≡ length d → length (a ++ b ++ c) ≡ length (b ++ a ++ d)
parts a b c d e = simp length-append (omega (arith, e))

pub reordering : Reordering
unfolding node_breaches
reordering f at op back l r e =
    let own : List Breach = both (term_type (some f) l) (term_type (some f) r) (operands_by f.profile (ordering op)) at in
    let turned : List Breach = both (term_type (some f) r) (term_type (some f) l) (operands_by f.profile (ordering back)) at in
    let words : Turned (ordering op) at own turned = rw (← e) (turned_by at f.profile (ordering op) (term_type (some f) l) (term_type (some f) r)) in
    let count : length (node_breaches f (comparison at op l r)) ≡ length (node_breaches f (comparison at back r l)) =
    parts (arithmetic_breaches f l at) (arithmetic_breaches f r at) own turned (as_many at words) in
    record {
      own = own;
      turned = turned;
      words = words;
      before = refl;
      after = refl;
      count = count;
      none = (of_none _ _ count, of_none _ _ (sym count));
    }

-- ---- a whole condition

module _ (x : AnyName) where
  abbrev behind : Condition
  behind = comparison x.under.at condition.eq (asking_count x) (other_count x)

  abbrev in_front : Condition
  in_front = comparison x.under.at condition.eq (other_count x) (asking_count x)

  string_last : var_type (facts_in x.under behind) x.name ≡ some (scalar types.string)
  unfolding binders gather declares reached reached_in reached_body operand_binders operand_aggregates declared_by last_named annotation_type_by word_type_by last_of same text
  string_last = declared_type x.under behind x.name (text "String") (binder_of x.name (text "Long") ∷ []) [] refl refl

  long_last : var_type (facts_in x.under in_front) x.name ≡ some (scalar types.long)
  unfolding binders gather declares reached reached_in reached_body operand_binders operand_aggregates declared_by last_named annotation_type_by word_type_by last_of same text
  long_last = declared_type x.under in_front x.name (text "Long") (binder_of x.name (text "String") ∷ []) [] refl refl

  one_breach : reports x.under behind ≡ 1
  unfolding gather reached reached_in reached_body node_breaches arithmetic_breaches term_type like_breaches fits
  one_breach = computed x.under behind ∙ rw string_last

  no_breach : reports x.under in_front ≡ 0
  unfolding gather reached reached_in reached_body node_breaches arithmetic_breaches term_type like_breaches fits
  no_breach = computed x.under in_front ∙ rw long_last

pub whole_conditions : Hold wholes
whole_conditions = one_breach and no_breach and end
