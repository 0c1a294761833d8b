-- A number that fits is passed on as it was given.
use Rattle.std.proofs.Common.{◌≡◌, ap, ◌∙◌, List, ℕ}
use lib.IntN.{ℤ}
use mir.Syntax.{w64}
use mir.Val.{to_z, of_z, SFits}
use mir.ValLaws.{to_z-of_z}
use Rattle.reports.specs.Reports.{Outcome}
use Rattle.reports.specs.Placed.{placed}
use Rattle.decimal.specs.Decimal.{written}

pub passed : (z : ℤ) → SFits w64 z → (b : List ℕ) (o : Outcome)
    → o ≡ placed (written (to_z w64 (of_z w64 z))) b → o ≡ placed (written z) b
passed z f b o e = e ∙ ap (λ (y : ℤ). placed (written y) b) (to_z-of_z w64 z f)
