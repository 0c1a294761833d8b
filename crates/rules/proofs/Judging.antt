-- What the judgements find, by the types of the terms: the cases of the code, as it learns them. Assumes nothing.
use mathlib.Core.Path.{◌≡◌, refl}
use mathlib.Core.Bool.{Bool, true, false, not}
use mathlib.Core.List.{List, []}
use mathlib.Core.Option.{Option, none, some}
use Prim.Native.Nat.{ℕ}
use borrow.Author.Rules.{rules}
use lib.Dec.{lit<}
use Rattle.names.specs.Read.{word_at}
use Rattle.types.specs.Types as types
use Rattle.types.specs.Types.{Ty, Profile, scalar, is_numeric, are_ordered, accepts, compatible, same_type}
use Rattle.types.specs.Laws.Texts.{Small}
use Rattle.types.specs.Meaning.{rich_of}
use Rattle.types.specs.declared.Rich.{Rich}
use Rattle.resolution.specs.Places.{typed_of, small_type}
use Rattle.condition.specs.Condition.{Span}
use Rattle.messages.specs.Words.{Rule, quoted, said_breaches, SaidStands, Tells}
use Rattle.rules.specs.Rules.{breach_if, both, not_long_here, numeric_breaches, like_breaches, operands_by, argument_breach, timepoint_breach}
use Rattle.rules.specs.Findings.{said_of}
use Rattle.rules.specs.declared.Finding.{Finding}
use Rattle.rules.specs.declared.Finding.TheVariants.{NotLong, NotNumeric, Unlike, WrongTimepoint, WrongArgument}
use Rattle.resolution.specs.Coded.{Typed}
use Rattle.std.specs.Prelude as code
use Rattle.std.specs.Prelude.{Some, None}

-- by the bytes of the schema and of the condition, it is what the rule says
abbrev Finds : List ℕ → List ℕ → Rule → code.Option Finding → Type 0
Finds s c rule f = Tells s c rule (said_of f)

-- a test that passed finds nothing, and one that did not its breach; b is what the code's test answered
module _ (s c : List ℕ) (q : Bool) (m : List ℕ) (b : Bool) (is : b ≡ q) where
  passed : b ≡ true → Finds s c (breach_if (not q) m) None
  passed e = rw (← is, e) (record { is = λ at. refl; stands = tt })

  broken : b ≡ false → (f : code.Option Finding) → SaidStands s c (said_of f) → ((at : Span) → said_breaches s c (said_of f) at ≡ breach_if true m at) → Finds s c (breach_if (not q) m) f
  broken e f stands breach = rw (← is, e) (record { is = breach; stands = stands })

-- a term has a type, which is small; or none
module _ (s c : List ℕ) (typed : Typed) where
  pub typed_as : (t : Rich) → typed ≡ Some t → typed_of s c typed ≡ some (rich_of s c t)
  typed_as t e = rw e

  pub known_small : (t : Rich) → typed ≡ Some t → small_type (typed_of s c typed) → Small (rich_of s c t)
  known_small t e h = rw e at h

  pub untyped : typed ≡ None → typed_of s c typed ≡ none
  untyped e = rw e

module _ (s c : List ℕ) where
  nothing_found : {rule : Rule} → ((at : Span) → [] ≡ rule at) → Finds s c rule None
  nothing_found e = record { is = e; stands = tt }

  -- an operand of arithmetic
  module _ (o : Option Ty) where
    pub leaf_untyped : o ≡ none → Finds s c (not_long_here o) None
    leaf_untyped e = rw e (nothing_found (λ at. refl))

    pub leaf_long : (t : Ty) → o ≡ some t → (b : Bool) → b ≡ is_numeric t → b ≡ true → Finds s c (not_long_here o) None
    leaf_long t e b is h = rw e (passed s c _ _ b is h)

    pub leaf_other : (t : Rich) → o ≡ some (rich_of s c t) → (b : Bool) → b ≡ is_numeric (rich_of s c t) → b ≡ false → Small (rich_of s c t) → Finds s c (not_long_here o) (Some (NotLong t))
    unfolding quoted
    leaf_other t e b is h small = rw e (broken s c _ _ b is h (Some (NotLong t)) (record { first = small; second = tt; third = tt; fourth = tt; below = lit< tt }) (λ at. refl))

  -- two operands
  pub numbers_passed : (x y : Ty) (b : Bool) → b ≡ are_ordered x y → b ≡ true → Finds s c (numeric_breaches x y) None
  unfolding numeric_breaches
  numbers_passed x y b is h = passed s c _ _ b is h

  pub like_passed : (p : Profile) (x y : Ty) (b : Bool) → b ≡ compatible p x y → b ≡ true → Finds s c (like_breaches p x y) None
  unfolding like_breaches
  like_passed p x y b is h = passed s c _ _ b is h

  module _ (l r : Rich) (small_l : Small (rich_of s c l)) (small_r : Small (rich_of s c r)) (b : Bool) where
    pub numbers_broken : b ≡ are_ordered (rich_of s c l) (rich_of s c r) → b ≡ false → Finds s c (numeric_breaches (rich_of s c l) (rich_of s c r)) (Some (NotNumeric l r))
    unfolding numeric_breaches quoted
    numbers_broken is h = broken s c _ _ b is h (Some (NotNumeric l r)) (record { first = small_l; second = small_r; third = tt; fourth = tt; below = lit< tt }) (λ at. refl)

    pub like_broken : (p : Profile) → b ≡ compatible p (rich_of s c l) (rich_of s c r) → b ≡ false → Finds s c (like_breaches p (rich_of s c l) (rich_of s c r)) (Some (Unlike l r))
    unfolding like_breaches quoted
    like_broken p is h = broken s c _ _ b is h (Some (Unlike l r)) (record { first = small_l; second = small_r; third = tt; fourth = tt; below = lit< tt }) (λ at. refl)

  module _ (left right : Typed) where
    pub left_untyped : (g : Ty → Ty → Rule) → left ≡ None → Finds s c (both (typed_of s c left) (typed_of s c right) g) None
    left_untyped g e = rw e (nothing_found (λ at. refl))

    pub right_untyped : (g : Ty → Ty → Rule) (l : Rich) → left ≡ Some l → right ≡ None → Finds s c (both (typed_of s c left) (typed_of s c right) g) None
    right_untyped g l e h = rw (e, h) (nothing_found (λ at. refl))

    module _ (l r : Rich) (e : left ≡ Some l) (g : right ≡ Some r) where
      module _ (p : Profile) (ordering : Bool) (f : code.Option Finding) where
        pub numbers_wanted : ordering ≡ true → Finds s c (numeric_breaches (rich_of s c l) (rich_of s c r)) f → Finds s c (both (typed_of s c left) (typed_of s c right) (operands_by p ordering)) f
        numbers_wanted h k = rw (e, g, h) k

        pub likes_wanted : ordering ≡ false → Finds s c (like_breaches p (rich_of s c l) (rich_of s c r)) f → Finds s c (both (typed_of s c left) (typed_of s c right) (operands_by p ordering)) f
        likes_wanted h k = rw (e, g, h) k

      module _ (name action : ℕ) (b : Bool) (is : b ≡ accepts (rich_of s c l) (rich_of s c r)) where
        pub argument_passed : b ≡ true → Finds s c (both (typed_of s c left) (typed_of s c right) (argument_breach (word_at c name) (word_at c action))) None
        unfolding argument_breach
        argument_passed h = rw (e, g) (passed s c _ _ b is h)

        pub argument_broken : b ≡ false → Small (rich_of s c l) → Small (rich_of s c r) → Finds s c (both (typed_of s c left) (typed_of s c right) (argument_breach (word_at c name) (word_at c action))) (Some (WrongArgument name action l r))
        unfolding argument_breach quoted
        argument_broken h y z = rw (e, g) (broken s c _ _ b is h (Some (WrongArgument name action l r)) (record { first = tt; second = tt; third = y; fourth = z; below = lit< tt }) (λ at. refl))

  -- a `tp`
  module _ (o : Option Ty) where
    pub tp_untyped : (name : List ℕ) → o ≡ none → Finds s c (timepoint_breach name o) None
    unfolding timepoint_breach
    tp_untyped name e = rw e (nothing_found (λ at. refl))

    pub tp_passed : (name : List ℕ) (t : Ty) → o ≡ some t → (b : Bool) → b ≡ same_type t (scalar types.timepoint) → b ≡ true → Finds s c (timepoint_breach name o) None
    unfolding timepoint_breach
    tp_passed name t e b is h = rw e (passed s c _ _ b is h)

    pub tp_broken : (name : ℕ) (t : Rich) → o ≡ some (rich_of s c t) → (b : Bool) → b ≡ same_type (rich_of s c t) (scalar types.timepoint) → b ≡ false
        → Small (rich_of s c t) → Finds s c (timepoint_breach (word_at c name) o) (Some (WrongTimepoint name t))
    unfolding timepoint_breach quoted
    tp_broken name t e b is h small = rw e (broken s c _ _ b is h (Some (WrongTimepoint name t)) (record { first = tt; second = tt; third = tt; fourth = small; below = lit< tt }) (λ at. refl))

pub ruleset leaf = (rules, typed_as, untyped, known_small, leaf_untyped, leaf_long, leaf_other)

pub ruleset numbers = (rules, numbers_passed, numbers_broken)

pub ruleset likes = (rules, like_passed, like_broken)

pub ruleset pair = (rules, known_small, left_untyped, right_untyped, numbers_wanted, likes_wanted)

pub ruleset arguments = (rules, known_small, left_untyped, right_untyped, argument_passed, argument_broken)

pub ruleset tps = (rules, typed_as, untyped, known_small, tp_untyped, tp_passed, tp_broken)
