-- `names::fields::read_string` meets its contract. Assumes nothing.
use mathlib.Core.Path.{◌≡◌, sym, ◌∙◌}
use mathlib.Core.List.{List}
use mathlib.Core.Bool.{Bool, true, false}
use Prim.Native.Nat.{ℕ, ◌+◌, ◌-◌, ◌≤◌, ◌<◌}
use native.Mathlib.Nat.{add-sub_cancel_left}
use native.Mathlib.Omega.{arith}
use lib.ListN.{length, get_or, take, drop}
use borrow.Author.Rules.{rules}
use Rattle.names.specs.declared.Class.{Class}
use Rattle.names.specs.Class.{class_of}
use Rattle.names.specs.Fields.{string_of}
use Rattle.names.specs.Read.{ending, word_at}
use Rattle.names.specs.Laws.Readers.{string-end, string_short, string_outside, string_got}
use Rattle.names.proofs.fields.read_string.Statement.{statement}
use Rattle.names.proofs.fields.read_string.Tie as tie
use Rattle.std.specs.Prelude.{Ok, Err}
use Rattle.names.specs.declared.refusal.Refusal.TheVariants.{Cut, OutsideClass}

module _ (k : Class) (s : List ℕ) (at : ℕ) where
  no_length : length s ≤ at → Err Cut ≡ ending (string_of (class_of k) s at)
  unfolding ending
  no_length h = rw (string-end (class_of k) s at h)

  module _ (h : at < length s) where
    too_short : (n : ℕ) → n ≡ get_or s at 0 → length s - (at + 1) < n → Err Cut ≡ ending (string_of (class_of k) s at)
    unfolding ending
    too_short n e l = rw (string_short (class_of k) s at h (omega arith))

    module _ (n : ℕ) (size : n ≡ get_or s at 0) (l : n ≤ length s - (at + 1)) (b : Bool) (is : b ≡ class_of k (take (at + 1 + n - (at + 1)) (drop (at + 1) s))) where
      tested : b ≡ class_of k (word_at s at)
      tested = rw (← size) (rw add-sub_cancel_left at is)

      arrived : b ≡ true → Ok (at + 1 + n) ≡ ending (string_of (class_of k) s at)
      unfolding ending
      arrived e = rw (size, string_got (class_of k) s at h (omega arith) (sym tested ∙ e))

      outside : b ≡ false → Err OutsideClass ≡ ending (string_of (class_of k) s at)
      unfolding ending
      outside e = rw (string_outside (class_of k) s at h (omega arith) (sym tested ∙ e))

ruleset steps = (rules, no_length, too_short, arrived, outside)

pub read_string_spec : {M : Type 1} → statement M
read_string_spec =
    tie.close
    (tie.spec
    (λ c. search steps)
    (λ c. search steps)
    (λ c κs. search steps)
    (λ c. search steps)
    (λ c. search steps)
    (λ c. search steps)
    (λ c. search steps)
    (λ c. search steps)
    (λ c. search steps)
    (λ c. search steps)
    (λ c κs. search steps)
    (λ c. search steps)
    (λ c. search steps))
