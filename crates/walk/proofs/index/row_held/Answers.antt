-- `walk::index::row_held` meets its contract. Assumes nothing.
use mathlib.Core.Path.{◌≡◌, refl}
use Prim.Native.Nat.{ℕ, ◌<◌}
use borrow.Author.Rules.{rules}
use Rattle.std.specs.Prelude.{Some, None}
use Rattle.walk.specs.declared.Scope.{Scope}
use Rattle.walk.specs.Rows.{Row, scopes, width, Fits, held_by, Handed}
use Rattle.walk.proofs.index.row_held.Goals as goal

module _ (row : Row) (at : ℕ) where
  place_held : row ≡ None → Handed row None (held_by row at)
  unfolding held_by Fits
  place_held is = rw is (record { is = refl; alike = refl; wide = refl; fits = tt })

  scope_held : (scope : Scope) → row ≡ Some scope → Fits row → at < 65536 → Handed row (Some (record { holder = at; node = scope.node })) (held_by row at)
  unfolding held_by scopes width Fits
  scope_held scope is f h = let g = rw is at f in rw is (record { is = refl; alike = refl; wide = refl; fits = (h, g.1) })

pub returns-in_err-scope : goal.returns-in_err-scope
returns-in_err-scope c = search (rules, place_held)

pub returns : goal.returns
returns c = search (rules, scope_held, c.in_ok-scope.was)
