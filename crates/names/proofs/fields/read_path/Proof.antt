-- `names::fields::read_path` meets its contract. Assumes nothing.
use mathlib.Core.Path.{◌≡◌}
use mathlib.Core.List.{List}
use Prim.Native.Nat.{ℕ}
use borrow.Author.Rules.{rules}
use Rattle.names.specs.declared.Class.TheVariants.{Plain}
use Rattle.names.specs.Class.{class_of}
use Rattle.names.specs.Fields.{each, counted, string_of}
use Rattle.names.specs.Paths.{path_of}
use Rattle.names.specs.Read.{ending, Read}
use Rattle.names.proofs.fields.read_path.Statement.{statement}
use Rattle.names.proofs.fields.read_path.Tie as tie

strings : (s : List ℕ) (at : ℕ) (x : Read) → x ≡ ending (counted (each (string_of (class_of Plain))) s at) → x ≡ ending (path_of s at)
unfolding path_of
strings s at x e = e

ruleset steps = (rules, strings)

pub read_path_spec : {M : Type 1} → statement M
read_path_spec = tie.close (tie.spec (λ c κs. search steps) (λ c. search steps))
