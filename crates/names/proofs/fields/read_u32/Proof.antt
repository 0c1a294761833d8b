-- `names::fields::read_u32` meets its contract. Assumes nothing.
use mathlib.Core.Path.{◌≡◌, ◌∙◌}
use mathlib.Core.List.{List}
use Prim.Native.Nat.{ℕ}
use borrow.Author.Rules.{rules}
use Rattle.names.specs.Fields.{bytes, u32}
use Rattle.names.specs.Read.{ending, Read}
use Rattle.names.specs.Laws.Readers.{last}
use Rattle.names.proofs.fields.read_u32.Statement.{statement}
use Rattle.names.proofs.fields.read_u32.Tie as tie

number_read : (s : List ℕ) (at : ℕ) (x : Read) → x ≡ ending (bytes 4 s at) → x ≡ ending (u32 s at)
unfolding u32
number_read s at x e = e ∙ last _ _

ruleset steps = (rules, number_read)

pub read_u32_spec : {M : Type 1} → statement M
read_u32_spec = tie.close (tie.spec (λ c κs. search steps) (λ c. search steps))
