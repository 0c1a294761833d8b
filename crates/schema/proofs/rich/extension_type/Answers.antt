-- `schema::rich::extension_type` meets its contract. Assumes nothing.
use mathlib.Core.Path.{◌≡◌, ap, ◌∙◌}
use mathlib.Core.Bool.{Bool, true, false}
use mathlib.Core.List.{List, [], ◌∷◌}
use Prim.Native.Nat.{ℕ}
use borrow.Author.Rules.{rules}
use Rattle.std.specs.Prelude.{Option, Some, None}
use Rattle.std.specs.Option.{unwrap_or}
use Rattle.names.specs.Names.{same}
use Rattle.names.specs.Text.{text}
use Rattle.types.specs.Types.{dated, time_type}
use Rattle.types.specs.Meaning.{scalar_of, time_of}
use Rattle.types.specs.declared.Scalar.{Scalar}
use Rattle.schema.specs.Find.{extension_type}
use Rattle.schema.proofs.rich.extension_type.Goals as goal

module _ (w : List ℕ) (x : Bool) (e : x ≡ same w (100 ∷ 101 ∷ 99 ∷ 105 ∷ 109 ∷ 97 ∷ 108 ∷ [])) where
  is_decimal : x ≡ true → scalar_of Scalar.Decimal ≡ extension_type dated w
  unfolding extension_type text
  is_decimal h = rw (← e, h)

  is_other : x ≡ false → (t : Option Scalar) → time_of t ≡ time_type dated w → scalar_of (unwrap_or t Scalar.String) ≡ extension_type dated w
  unfolding extension_type text
  is_other h None answer = rw (← e, h, ← answer)
  is_other h (Some a) answer = rw (← e, h, ← answer)

  of_time : x ≡ false → (t : Option Scalar) → time_of t ≡ time_type dated w → (r : Scalar) → r ≡ unwrap_or t Scalar.String → scalar_of r ≡ extension_type dated w
  of_time h t answer r is = ap scalar_of is ∙ is_other h t answer

ruleset steps = (rules, is_decimal, of_time)

pub returns-then-same : goal.returns-then-same
returns-then-same c = search steps

pub returns : goal.returns
returns c = search steps
