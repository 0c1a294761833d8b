-- Windows change no answer. Assumes nothing.
use mathlib.Core.Path.{refl}
use Rattle.condition.specs.Condition.{Window, parameter}
use Rattle.claims.specs.Changes.{KeepsTypes}
use Rattle.claims.specs.Windows.{windows_to, AnyWindows, FirstAndSecond}
use Rattle.claims.proofs.Changes.{unseen, changed_once}

types_kept : (w : Window) → KeepsTypes (windows_to w)
types_kept w = record { names = λ n. refl; kinds = λ l. refl }

pub any_windows : AnyWindows
any_windows w = unseen (windows_to w) (types_kept w)

pub first_and_second : FirstAndSecond
first_and_second a b is_a is_b first second = changed_once (windows_to parameter) (types_kept parameter) a b is_a is_b
