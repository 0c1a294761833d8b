-- `schema::read::follows` meets its contract. Assumes nothing.
use mathlib.Core.Path.{◌≡◌}
use mathlib.Core.List.{List}
use mathlib.Core.Bool.{Bool, true}
use Prim.Native.Nat.{ℕ}
use borrow.Author.Rules.{rules}
use Rattle.names.specs.Names.{below}
use Rattle.names.specs.Read.{word_at, earlier, Found}
use Rattle.schema.specs.Schema.{after}
use Rattle.std.specs.Prelude.{Some, None}
use Rattle.schema.proofs.read.follows.Goals as goal

module _ (s w : List ℕ) (b : Found) where
  first : b ≡ None → true ≡ after (earlier s b) w
  unfolding after
  first e = rw e

  later : (p : ℕ) → b ≡ Some p → (v w' : List ℕ) → v ≡ word_at s p → w' ≡ w → (r : Bool) → r ≡ below v w' → r ≡ after (earlier s b) w
  unfolding after
  later p e v w' is is' r h = rw (e, ← is, ← is') h

ruleset steps = (rules, first, later)

pub returns-in-None : goal.returns-in-None
returns-in-None c = search steps

pub returns-in-Some : goal.returns-in-Some
returns-in-Some c = search steps
