-- `names::fields::read_heading` meets its contract. Assumes nothing.
use mathlib.Core.Path.{◌≡◌}
use mathlib.Core.Bool.{Bool, true, false, ◌&&◌}
use mathlib.Core.List.{List}
use Prim.Native.Nat.{ℕ, ◌≤◌, ◌<◌}
use native.Mathlib.Nat.{zero-add}
use native.Mathlib.Omega.{arith}
use lib.Dec.{leb}
use lib.ListN.{length, take, drop}
use borrow.Author.Rules.{rules}
use borrow.Author.Tests.{le-leb, lt-leb}
use Rattle.names.specs.Fields.{Got, next, holds, u16, number, heading}
use Rattle.names.specs.Names.{same}
use Rattle.names.specs.Read.{ending, Read}
use Rattle.names.specs.Laws.Readers.{via, bytes-end, bytes_got, stops, goes, u16_value}
use Rattle.std.specs.Prelude.{Ok, Err}
use Rattle.names.specs.declared.refusal.Refusal.{Refusal}
use Rattle.names.specs.declared.refusal.Refusal.TheVariants.{Cut, OtherMark, OtherVersion}
use Rattle.names.specs.Laws.Readers.{handed_on}
use Rattle.names.proofs.fields.read_heading.Goals as goal

module _ (s mark : List ℕ) (newest : ℕ) where
  version : ℕ → ℕ → Got ℕ
  version v n = holds OtherVersion (leb 1 v && leb v newest) v s n

  too_short : length s < length mark → Err Cut ≡ ending (heading mark newest s 0)
  unfolding heading ending
  too_short h = rw (bytes-end s 0 (length mark) (omega arith))

  module _ (h : length mark ≤ length s) (b : Bool) (is : b ≡ same (take (length mark) s) mark) where
    other_mark : b ≡ false → Err OtherMark ≡ ending (heading mark newest s 0)
    unfolding heading ending
    other_mark e = rw (bytes_got s 0 (length mark) (omega arith), ← is, e)

    marked : b ≡ true → heading mark newest s 0 ≡ next (u16 s (length mark)) version
    unfolding heading version
    marked e = rw (bytes_got s 0 (length mark) (omega arith), ← is, e, zero-add)

    module _ (e : b ≡ true) (x : Read) (is' : x ≡ ending (u16 s (length mark))) where
      no_version : (r : Refusal) → x ≡ Err r → Err r ≡ ending (heading mark newest s 0)
      no_version r f = via (marked e) (stops _ _ f is')

      module _ (m : ℕ) (f : x ≡ Ok m) (v : ℕ) (is'' : v ≡ number 0 (take 2 (drop (length mark) s))) where
        no_number : v ≡ 0 → Err OtherVersion ≡ ending (heading mark newest s 0)
        unfolding version ending
        no_number g = via (marked e) (goes (u16 s (length mark)) version f is' λ w d. rw (u16_value s _ d, ← is'', g))

        module _ (some : v ≡ 0 → ⊥) where
          known : v ≤ newest → Ok m ≡ ending (heading mark newest s 0)
          unfolding version ending
          known g = via (marked e) (goes (u16 s (length mark)) version f is' λ w d. rw (u16_value s _ d, ← is'', le-leb 1 v (omega arith), le-leb v newest g))

          newer : newest < v → Err OtherVersion ≡ ending (heading mark newest s 0)
          unfolding version ending
          newer g = via (marked e) (goes (u16 s (length mark)) version f is' λ w d. rw (u16_value s _ d, ← is'', le-leb 1 v (omega arith), lt-leb v newest g))

ruleset steps = (rules, too_short, other_mark, no_version, no_number, known, newer)

pub returns-then-s-n : goal.returns-then-s-n
returns-then-s-n c = search steps

pub returns-in_err-m : goal.returns-in_err-m
returns-in_err-m c = handed_on c.from_residual.ensures.1 (search (steps, c.in_err-m.was))

pub returns-then-number-eq0 : goal.returns-then-number-eq0
returns-then-number-eq0 c = search (steps, c.in_ok-m.was)

pub returns-then-number-newest : goal.returns-then-number-newest
returns-then-number-newest c = search (steps, c.in_ok-m.was)

pub returns-then-same : goal.returns-then-same
returns-then-same c = search (steps, c.in_ok-m.was)

pub returns : goal.returns
returns c = search steps
