-- A type and attributes end behind the place where they are read. Assumes nothing.
use mathlib.Core.Path.{◌≡◌, refl}
use mathlib.Core.Bool.{Bool, true, false}
use mathlib.Core.List.{List}
use mathlib.Core.Option.{Option, none, some}
use Prim.Native.Nat.{ℕ, zero, suc, ◌≤◌, ◌<◌}
use native.Mathlib.Omega.{arith}
use borrow.Author.Tests.{leb-true, leb-false}
use lib.Dec.{leb}
use Rattle.names.specs.Fields.{got, Reader, u8, string_of, choose}
use Rattle.names.specs.Names.{path_name, plain}
use Rattle.names.specs.Laws.Readers.{u8_view, string_view, split, got_place, Each, each_below, ◌&◌}
use Rattle.schema.specs.Schema.{Declared, Attributes, kinds, ascending, type_at, attributes, attributes_of}
use Rattle.schema.specs.Laws.ByKind.{ascending_string, choose_above}
use Rattle.schema.proofs.Levels.{none_left}

module _ (f : Reader Declared) (ahead : (s : List ℕ) (at : ℕ) (t : Declared) (n : ℕ) → f s at ≡ got t n → at ≤ n) where
  fields_ahead : (n : ℕ) (before : Option (List ℕ)) (s : List ℕ) (at : ℕ) (a : Attributes) (m : ℕ) → attributes_of f n before s at ≡ got a m → at ≤ m
  unfolding attributes_of
  fields_ahead zero before s at a m e = let i = got_place e in omega arith
  fields_ahead (suc n) before s at a m e =
      let x = split (ascending plain before s at) _ e in
      let w = string_view plain s at (ascending_string plain before s at x.first) in
      let y = split (f s x.place) _ x.rest in
      let i = ahead s x.place y.value y.place y.first in
      let z = split (attributes_of f n (some x.value) s y.place) _ y.rest in
      let j = fields_ahead n (some x.value) s y.place z.value z.place z.first in
      let k = got_place z.rest in
      omega (arith, w.place)

  counted_ahead : (s : List ℕ) (at : ℕ) {a : Attributes} {m : ℕ} → attributes f s at ≡ got a m → at ≤ m
  unfolding attributes
  counted_ahead s at {a} {m} e =
      let x = split (u8 s at) _ e in
      let u = u8_view s at x.first in
      let i = fields_ahead x.value none s x.place a m x.rest in
      omega (arith, u.2)

  string_ahead : (s : List ℕ) (at : ℕ) {w : List ℕ} {n : ℕ} → string_of path_name s at ≡ got w n → at ≤ n
  string_ahead s at e = let w = string_view path_name s at e in omega (arith, w.place)

  kind_ahead : (s : List ℕ) (at : ℕ) (t : Declared) (n k : ℕ) → k < 11 → choose k (kinds f) s at ≡ got t n → at ≤ n
  unfolding choose kinds Each
  kind_ahead s at t n =
      each_below (λ k. choose k (kinds f) s at ≡ got t n → at ≤ n) 11 (
      tt
      & (λ e. let i = got_place e in omega arith)
      & (λ e. let i = got_place e in omega arith)
      & (λ e. let i = got_place e in omega arith)
      & (λ e. let x = split (string_of path_name s at) _ e in let i = got_place x.rest in let j = string_ahead s at x.first in omega arith)
      & (λ e. let x = split (f s at) _ e in let i = got_place x.rest in let j = ahead s at x.value x.place x.first in omega arith)
      & (λ e. let i = got_place e in omega arith)
      & (λ e. let x = split (attributes f s at) _ e in let i = got_place x.rest in let j = counted_ahead s at x.first in omega arith)
      & (λ e. let x = split (string_of path_name s at) _ e in let i = got_place x.rest in let j = string_ahead s at x.first in omega arith)
      & (λ e. let i = got_place e in omega arith)
      & (λ e. let i = got_place e in omega arith)
      & (λ e. let i = got_place e in omega arith))

  kinds_ahead : (s : List ℕ) (at : ℕ) (t : Declared) (n k : ℕ) → choose k (kinds f) s at ≡ got t n → at ≤ n
  kinds_ahead s at t n k e = go (leb k 10) refl
    where
      go : (b : Bool) → leb k 10 ≡ b → at ≤ n
      go true h = let l = leb-true k 10 h in kind_ahead s at t n k (omega arith) e
      go false h = let i = choose_above k f s at (leb-false k 10 h) in let z : ◌≡◌ {A = ℕ} 0 1 = cc in absurd (omega arith)

pub type_ahead : (l : ℕ) (s : List ℕ) (at : ℕ) (t : Declared) (n : ℕ) → type_at l s at ≡ got t n → at < n
unfolding type_at
type_ahead zero s at t n e = absurd (none_left s at e)
type_ahead (suc l) s at t n e =
    let a = split (u8 s at) _ e in
    let u = u8_view s at a.first in
    let i = kinds_ahead (type_at l) (λ r p v m h. let j = type_ahead l r p v m h in omega arith) s a.place t n a.value a.rest in
    omega (arith, u.2)
