-- What a position of an accepted condition record stands for. A law says that what is read with fewer levels left is read alike with all 32, so a
-- position alone denotes a condition, a term, a list of arguments; where none stands there, any. Its version is the one that stands in the record.
use Rattle.std.specs.Prelude.{ℕ, ◌<◌, ◌≡◌, Bool, false, cond, List, [], leb, take, drop}
use Rattle.names.specs.Fields.{got, Reader, ◌>>=◌, pure, refuse, u8, choose, levels, number, whole}
use Rattle.names.specs.Paths.{path_of}
use Rattle.names.specs.Read.{accepted, value_or}
use Rattle.condition.specs.Condition.{Span, Condition, Term, Terms, Arguments, Aggregate, Slot, Annotation, Binder, opaque, wildcard, no_argument, nil, call, param_ref, timepoint, condition_at, term_at, arguments, elements, aggregate_of, unsaid, Window, slot, annotation, binder, units, window, condition_record}
use Rattle.names.specs.declared.refusal.Refusal.TheVariants.{UndefinedChoice}

abbrev pub nowhere : Span
nowhere = record { start = 0; end = 0 }

-- the record is accepted, and its condition
abbrev pub is_record : List ℕ → Bool
is_record s = accepted (whole condition_record s)

unfoldable pub record_in : List ℕ → Condition
record_in s = value_or (opaque nowhere) (whole condition_record s)

-- the version that stands behind the mark
unfoldable pub version_in : List ℕ → ℕ
version_in s = number 0 (take 2 (drop 3 s))

-- what is read there as a condition; that one stands there, and the condition
abbrev pub condition_here : Reader Condition
condition_here s = condition_at (version_in s) levels s

abbrev pub is_condition : List ℕ → ℕ → Bool
is_condition s at = accepted (condition_here s at)

unfoldable pub condition_in : List ℕ → ℕ → Condition
condition_in s at = value_or (opaque nowhere) (condition_here s at)

-- a term
abbrev pub term_here : Reader Term
term_here s = term_at (version_in s) levels false s

abbrev pub is_term : List ℕ → ℕ → Bool
is_term s at = accepted (term_here s at)

unfoldable pub term_in : List ℕ → ℕ → Term
term_in s at = value_or wildcard (term_here s at)

-- an aggregate, from its own kind byte on
abbrev pub aggregate_at : Reader Aggregate
aggregate_at s = aggregate_of (version_in s) (condition_at (version_in s) levels) (term_at (version_in s) levels) s

abbrev pub is_aggregate : List ℕ → ℕ → Bool
is_aggregate s at = accepted (aggregate_at s at)

unfoldable pub aggregate_in : List ℕ → ℕ → Aggregate
aggregate_in s at = value_or (call nowhere) (aggregate_at s at)

-- so many arguments of a predicate
abbrev pub arguments_at : ℕ → Reader Arguments
arguments_at n s = arguments (version_in s) (condition_at (version_in s) levels) (term_at (version_in s) levels) n s

abbrev pub is_arguments : List ℕ → ℕ → ℕ → Bool
is_arguments s n at = accepted (arguments_at n s at)

unfoldable pub arguments_in : List ℕ → ℕ → ℕ → Arguments
arguments_in s n at = value_or no_argument (arguments_at n s at)

-- so many elements of an array
abbrev pub elements_at : ℕ → Reader Terms
elements_at n s = elements (version_in s) (condition_at (version_in s) levels) (term_at (version_in s) levels) n s

abbrev pub is_elements : List ℕ → ℕ → ℕ → Bool
is_elements s n at = accepted (elements_at n s at)

unfoldable pub elements_in : List ℕ → ℕ → ℕ → Terms
elements_in s n at = value_or nil (elements_at n s at)

-- a path of plain strings
abbrev pub is_path : List ℕ → ℕ → Bool
is_path s at = accepted (path_of s at)

unfoldable pub path_in : List ℕ → ℕ → List (List ℕ)
path_in s at = value_or [] (path_of s at)

-- a slot, an annotation, a binder
abbrev pub is_slot : List ℕ → ℕ → Bool
is_slot s at = accepted (slot s at)

unfoldable pub slot_in : List ℕ → ℕ → Slot
slot_in s at = value_or param_ref (slot s at)

abbrev pub is_annotation : List ℕ → ℕ → Bool
is_annotation s at = accepted (annotation s at)

unfoldable pub annotation_in : List ℕ → ℕ → Annotation
annotation_in s at = value_or timepoint (annotation s at)

abbrev pub is_binder : List ℕ → ℕ → Bool
is_binder s at = accepted (binder s at)

unfoldable pub binder_in : List ℕ → ℕ → Binder
binder_in s at = value_or (record { slot = param_ref; annotation = timepoint }) (binder s at)

-- a window
abbrev pub is_window : List ℕ → ℕ → Bool
is_window s at = accepted (window (version_in s) s at)

unfoldable pub window_in : List ℕ → ℕ → Window
window_in s at = value_or unsaid (window (version_in s) s at)

-- a choice byte behind which nothing belongs to the choice: 0 to the last
unfoldable pub choice_up_to : ℕ → Reader ℕ
choice_up_to last = do
  k ← u8
  cond (leb k last) (pure k) (refuse UndefinedChoice)

-- the seconds of the unit that a choice byte stands for
pub record UnitOf (k seconds : ℕ) : Type 0 where
  pub reads : (s : List ℕ) (at : ℕ) → choose k units s at ≡ got seconds at
  pub some : 0 < seconds
