-- A change of what the reports do not depend on: a condition with other windows, ids, values and operators. Two accepted records that such a change makes
-- one condition answer alike, whichever their versions (`Unseen`), and list the same windows where the change keeps these (`Unlisted`); `proofs/Changes.antt`
-- proves both. `Windows` and `Values` say which changes there are.
use Rattle.std.specs.Prelude.{ℕ, ◌≡◌, true, List}
use Rattle.std.proofs.Math.Option.{Option}
use Rattle.condition.specs.Condition.{Window, Entity, Literal, ArithOp, Condition, One, negation, refine, formerly, previous, Two, and, or, since, Arguments, Term, Terms, Aggregate, one, two, predicate, comparison, exists, tp, opaque, no_argument, argument, entity, literal, context_field, scope_field, var, wildcard, array, aggregate, arith, sigil, nil, cons, sum, count, call}
use Rattle.condition.specs.Places.{is_record, record_in}
use Rattle.terms.specs.Terms.{literal_type}
use Rattle.typecheck.specs.Check.{check_with}
use Rattle.sums.specs.Sums.{sums_with}
use Rattle.sweeps.specs.Windows as listing

-- what becomes of each window, entity, literal and operator
pub record Change : Type 0 where
  pub windows : Window → Window
  pub entities : Entity → Entity
  pub literals : Literal → Literal
  pub ops : Option ArithOp → Option ArithOp

-- the name of an entity's type and the type of a literal stay
pub record KeepsTypes (change : Change) : Type 0 where
  pub names : (n : Entity) → (change.entities n).name ≡ n.name
  pub kinds : (l : Literal) → literal_type (change.literals l) ≡ literal_type l

-- a window has the seconds that it had, or none as before
abbrev pub KeepsWindows : Change → Type 0
KeepsWindows change = (start : ℕ) (w : Window) → listing.concrete_of start (change.windows w) ≡ listing.concrete_of start w

-- a condition changed everywhere, also where the walk does not go
module _ (change : Change) where
  abbrev pub changed_one : One → One
  changed_one negation = negation
  changed_one refine = refine
  changed_one (formerly w) = formerly (change.windows w)
  changed_one (previous w) = previous (change.windows w)

  abbrev pub changed_two : Two → Two
  changed_two and = and
  changed_two or = or
  changed_two (since w) = since (change.windows w)

  unfoldable mutual
    pub changed : Condition → Condition
    changed (one k at c) = one (changed_one k) at (changed c)
    changed (two k at l r) = two (changed_two k) at (changed l) (changed r)
    changed (predicate at own ns act args) = predicate at own ns act (in_arguments args)
    changed (comparison at op l r) = comparison at op (in_term l) (in_term r)
    changed (exists at b c) = exists at b (changed c)
    changed (tp at s) = tp at s
    changed (opaque at) = opaque at

    pub in_arguments : Arguments → Arguments
    in_arguments no_argument = no_argument
    in_arguments (argument name field value rest) = argument name field (in_term value) (in_arguments rest)

    pub in_term : Term → Term
    in_term (entity n) = entity (change.entities n)
    in_term (literal l) = literal (change.literals l)
    in_term (context_field p) = context_field p
    in_term (scope_field p) = scope_field p
    in_term (var v) = var v
    in_term wildcard = wildcard
    in_term (array ts) = array (in_terms ts)
    in_term (aggregate a) = aggregate (in_aggregate a)
    in_term (arith op l r) = arith (change.ops op) (in_term l) (in_term r)
    in_term sigil = sigil

    pub in_terms : Terms → Terms
    in_terms nil = nil
    in_terms (cons t ts) = cons (in_term t) (in_terms ts)

    pub in_aggregate : Aggregate → Aggregate
    in_aggregate (sum at summand bs body) = sum at summand bs (changed body)
    in_aggregate (count at bs body) = count at bs (changed body)
    in_aggregate (call at) = call at

-- two condition records answer alike: the same outcome, which is the answer with its visits and each byte of the buffer, whatever else is asked
pub record Alike (a b : List ℕ) : Type 0 where
  pub checks : (rules : ℕ) (schema_bytes target_bytes buffer : List ℕ) → check_with rules schema_bytes a target_bytes buffer ≡ check_with rules schema_bytes b target_bytes buffer
  pub sums : (rules : ℕ) (buffer : List ℕ) → sums_with rules a buffer ≡ sums_with rules b buffer

-- and the same outcome of the listing, in sweeps of any period
abbrev pub ListedAlike : List ℕ → List ℕ → Type 0
ListedAlike a b = (period : ℕ) (buffer : List ℕ) → listing.windows a period buffer ≡ listing.windows b period buffer

-- records that a change makes one condition
abbrev pub Unseen : Type 0
Unseen = (change : Change) → KeepsTypes change → (a b : List ℕ) → is_record a ≡ true → is_record b ≡ true → changed change (record_in a) ≡ changed change (record_in b) → Alike a b

-- a record, and another whose condition is the changed one
abbrev pub ChangedOnce : Type 0
ChangedOnce = (change : Change) → KeepsTypes change → (a b : List ℕ) → is_record a ≡ true → is_record b ≡ true → record_in b ≡ changed change (record_in a) → Alike a b

-- the same of the listing, for a change of whatever keeps the windows
abbrev pub Unlisted : Type 0
Unlisted = (change : Change) → KeepsWindows change → (a b : List ℕ) → is_record a ≡ true → is_record b ≡ true → changed change (record_in a) ≡ changed change (record_in b) → ListedAlike a b

abbrev pub ListedOnce : Type 0
ListedOnce = (change : Change) → KeepsWindows change → (a b : List ℕ) → is_record a ≡ true → is_record b ≡ true → record_in b ≡ changed change (record_in a) → ListedAlike a b
