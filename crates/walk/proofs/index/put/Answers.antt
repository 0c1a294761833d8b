-- `walk::index::put` meets its contract. The entries of the n-th row are set, and none of a row before it. Assumes nothing.
use mathlib.Core.Path.{◌≡◌, ap, ap₂, ◌∙◌}
use mathlib.Core.List.{List}
use Prim.Native.Nat.{ℕ, ◌+◌, ◌*◌, ◌≤◌, ◌<◌}
use native.Mathlib.Omega.{arith}
use borrow.Author.Rules.{rules}
use lib.ListN.{length, get_or, set, length-set}
use lib.Seq.{get_or-set_same, get_or-set_other}
use Rattle.std.specs.Prelude.{Some, None}
use Rattle.walk.specs.declared.Scope.{Scope}
use Rattle.walk.specs.Rows.{Row, scopes, width, Fits, row_at, row_of, MayPut, Put}
use Rattle.walk.proofs.index.put.Goals as goal

module _ (row : Row) (t : List ℕ) (n at : ℕ) (may : MayPut row (length t) n at) where
  module _ (scope : Scope) (is : row ≡ Some scope) where
    wide : 7282 ≤ length t
    unfolding width
    wide = let e = ap width is in omega (arith, may.enough)

    holder-fits : scope.holder < 65536
    unfolding Fits
    holder-fits = let f = rw is at may.fits in f.0

    node-fits : scope.node < 65536
    unfolding Fits
    node-fits = let f = rw is at may.fits in f.1

    first_index : 2 * n < length t
    first_index = omega (arith, wide, may.index)

    second_index : 2 * n + 1 < length (set t (2 * n) scope.holder)
    second_index = rw length-set (omega (arith, wide, may.index))

    abbrev after : List ℕ
    after = set (set t (2 * n) scope.holder) (2 * n + 1) scope.node

    below_row : (k : ℕ) → k < 2 * n → get_or after k 0 ≡ get_or t k 0
    below_row k l = get_or-set_other (set t (2 * n) scope.holder) (2 * n + 1) k scope.node 0 (λ e. omega arith) ∙ get_or-set_other t (2 * n) k scope.holder 0 (λ e. omega arith)

    scope_put : Put row t n at (set (set t (2 * n) scope.holder) (2 * n + 1) scope.node)
    unfolding scopes row_at row_of
    scope_put = rw is (record {
      here = ap₂ (λ (a b : ℕ). (a, b)) (get_or-set_other (set t (2 * n) scope.holder) (2 * n + 1) (2 * n) scope.node 0 (λ e. omega arith) ∙ get_or-set_same t (2 * n) scope.holder 0 first_index) (get_or-set_same (set t (2 * n) scope.holder) (2 * n + 1) scope.node 0 second_index);
      kept = λ k l. ap₂ (λ (a b : ℕ). (a, b)) (below_row (2 * k) (omega arith)) (below_row (2 * k + 1) (omega arith));
      size = length-set (set t (2 * n) scope.holder) (2 * n + 1) scope.node ∙ length-set t (2 * n) scope.holder;
    })

  module _ (is : row ≡ None) where
    place_index : n < length t
    unfolding width
    place_index = let e = ap width is in omega (arith, may.enough, may.index)

    place_put : Put row t n at (set t n at)
    unfolding scopes row_at row_of
    place_put = rw is (record {
      here = ap (λ (a : ℕ). (a, 0)) (get_or-set_same t n at 0 place_index);
      kept = λ k l. ap (λ (a : ℕ). (a, 0)) (get_or-set_other t n k at 0 (λ e. omega arith));
      size = length-set t n at;
    })

ruleset steps = (rules, holder-fits, node-fits, first_index, second_index, scope_put, place_index, place_put)

pub overflow_cast-holder : goal.overflow_cast-holder
overflow_cast-holder c = search steps

pub overflow_cast-node : goal.overflow_cast-node
overflow_cast-node c = search steps

pub bounds-table-n : goal.bounds-table-n
bounds-table-n c = search steps

pub bounds-table-n-in-Some : goal.bounds-table-n-in-Some
bounds-table-n-in-Some c = search steps

pub returns-in-Some : goal.returns-in-Some
returns-in-Some c = search steps

pub bounds-table-n-2 : goal.bounds-table-n-2
bounds-table-n-2 c = search steps

pub returns : goal.returns
returns c = search steps
