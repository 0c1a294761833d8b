-- `reports::earlier::is_repeat` meets its contract. Assumes nothing.
use mathlib.Core.Path.{◌≡◌, refl, sym, ◌∙◌}
use mathlib.Core.Bool.{Bool, false}
use mathlib.Core.List.{List}
use Prim.Native.Nat.{ℕ, ◌+◌, ◌≤◌}
use native.Mathlib.Omega.{arith}
use lib.ListN.{length, take, drop, length-take, length-drop}
use lib.Seq.{drop-drop}
use borrow.Author.Tests.{eq-eqb, ne_eqb}
use Rattle.names.specs.Names.{same}
use Rattle.names.specs.Laws.Names.{same_lengths}
use Rattle.names.specs.Fields.{number}
use Rattle.reports.specs.Reports.{Breach, same_pair}
use Rattle.reports.specs.Decode.{long_at, report}
use borrow.Author.Rules.{rules}
use Rattle.reports.proofs.earlier.is_repeat.Goals as goal

module _ (s : List ℕ) (at : ℕ) (b : Breach) (n : ℕ) (starts : n ≡ number 0 (take 4 (drop at s))) where
  other_start : (b.start ≡ n → ⊥) → false ≡ same_pair b (report (drop at s))
  unfolding report
  other_start d = rw (ne_eqb b.start (number 0 (take 4 (drop at s))) (λ q. d (q ∙ sym starts)))

  module _ (e : b.start ≡ n) (k : ℕ) (is : k ≡ long_at s at) where
    -- then the messages decide
    message : (m : List ℕ) → m ≡ take k (drop (at + 10) s) → (r : Bool) → r ≡ same b.message m → r ≡ same_pair b (report (drop at s))
    unfolding report
    message m q r h = rw (eq-eqb b.start (number 0 (take 4 (drop at s))) (e ∙ starts), drop-drop, drop-drop, ← is, ← q) h

    other_length : at + 10 + long_at s at ≤ length s → (length b.message ≡ k → ⊥) → false ≡ same_pair b (report (drop at s))
    other_length fits d =
        message (take k (drop (at + 10) s)) refl false (sym (same_lengths _ _ (λ q. d (q ∙ simp (length-take, length-drop) (omega arith)))))

ruleset steps = (rules, other_start, message, other_length)

pub returns-then-it-first : goal.returns-then-it-first
returns-then-it-first c = search steps

pub returns-then-it-long : goal.returns-then-it-long
returns-then-it-long c = search steps

pub returns : goal.returns
returns c = search steps
