-- Values change no answer. Assumes nothing.
use mathlib.Core.Path.{◌≡◌, refl}
use mathlib.Core.Bool.{true}
use mathlib.Core.List.{List}
use Prim.Native.Nat.{ℕ}
use Rattle.condition.specs.Condition.{Window, unsaid, seconds, parameter, Literal, integer, decimal, string, bool}
use Rattle.condition.specs.Places.{is_record, record_in}
use Rattle.terms.specs.Terms.{literal_type}
use Rattle.sweeps.specs.Windows.{concrete_of}
use Rattle.claims.specs.Changes.{KeepsTypes, KeepsWindows, changed}
use Rattle.claims.specs.Values.{without_value, dropping_values, only_seconds, AllAlike, AnyValues, Erased, ErasedToFirst, AnyVersions}
use Rattle.claims.proofs.Changes.{unseen, changed_once, unlisted, listed_once}

same_kind : (l : Literal) → literal_type (without_value l) ≡ literal_type l
same_kind (integer n) = refl
same_kind (decimal n) = refl
same_kind (string w) = refl
same_kind (bool b) = refl

types_kept : (windows : Window → Window) → KeepsTypes (dropping_values windows)
types_kept windows = record { names = λ n. refl; kinds = same_kind }

windows_kept : KeepsWindows (dropping_values (λ w. w))
windows_kept start w = refl

seconds_kept : KeepsWindows (dropping_values only_seconds)
unfolding concrete_of
seconds_kept start unsaid = refl
seconds_kept start (seconds n) = refl
seconds_kept start parameter = refl

pub any_values : AnyValues
any_values a b is_a is_b same = record {
  answers = unseen (dropping_values (λ w. w)) (types_kept (λ w. w)) a b is_a is_b same;
  listings = unlisted (dropping_values (λ w. w)) windows_kept a b is_a is_b same;
}

-- a record and the one that the values are erased from
module _ (windows : Window → Window) (keeps : KeepsWindows (dropping_values windows)) where
  once : (a b : List ℕ) → is_record a ≡ true → is_record b ≡ true → record_in b ≡ changed (dropping_values windows) (record_in a) → AllAlike a b
  once a b is_a is_b same = record {
    answers = changed_once (dropping_values windows) (types_kept windows) a b is_a is_b same;
    listings = listed_once (dropping_values windows) keeps a b is_a is_b same;
  }

pub erased : Erased
erased = once (λ w. w) windows_kept

pub erased_to_first : ErasedToFirst
erased_to_first = once only_seconds seconds_kept

pub any_versions : AnyVersions
any_versions = unseen (dropping_values (λ w. unsaid)) (types_kept (λ w. unsaid))
