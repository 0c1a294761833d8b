-- A type that is read with some levels left is read alike with more. Assumes nothing.
use mathlib.Core.Path.{◌≡◌, refl}
use mathlib.Core.Bool.{Bool, true, false, cond}
use mathlib.Core.List.{List}
use mathlib.Core.Option.{Option, none, some}
use Prim.Native.Nat.{ℕ, zero, suc, ◌≤◌, ◌<◌}
use native.Mathlib.Omega.{arith}
use borrow.Author.Tests.{leb-true, leb-false}
use lib.Dec.{leb}
use Rattle.names.specs.Fields.{got, Reader, refuse, u8, choose}
use Rattle.names.specs.Names.{plain}
use Rattle.names.specs.Laws.Readers.{Wider, next_wider, split, Each, each_below, ◌&◌}
use Rattle.schema.specs.Schema.{Declared, ascending, kinds, type_at, attributes, attributes_of}
use Rattle.schema.specs.Laws.ByKind.{choose_above}
use Rattle.names.specs.declared.refusal.Refusal.TheVariants.{UndefinedChoice, TooDeep}

module _ (f g : Reader Declared) (wide : Wider f g) where
  row_wider : (n : ℕ) (before : Option (List ℕ)) → Wider (attributes_of f n before) (attributes_of g n before)
  unfolding attributes_of
  row_wider zero before s at a m e = e
  row_wider (suc n) before s at a m e =
      next_wider (ascending plain before s at) _ _ _ (λ _ _ i. i)
      (λ w p. next_wider (f s p) (g s p) _ _ (wide s p)
      (λ t q. next_wider (attributes_of f n (some w) s q) (attributes_of g n (some w) s q) _ _ (row_wider n (some w) s q) (λ r u _ _ i. i))) a m e

  pub attributes_wider : Wider (attributes f) (attributes g)
  unfolding attributes
  attributes_wider s at = next_wider (u8 s at) _ _ _ (λ _ _ i. i) (λ n p. row_wider n none s p)

  choose_wider : (k : ℕ) → k < 11 → Wider (choose k (kinds f)) (choose k (kinds g))
  unfolding choose kinds Each
  choose_wider =
      each_below (λ k. Wider (choose k (kinds f)) (choose k (kinds g))) 11 (
      tt
      & (λ s at a n e. e)
      & (λ s at a n e. e)
      & (λ s at a n e. e)
      & (λ s at a n e. e)
      & (λ s at. next_wider (f s at) (g s at) _ _ (wide s at) (λ t p _ _ i. i))
      & (λ s at a n e. e)
      & (λ s at. next_wider (attributes f s at) (attributes g s at) _ _ (attributes_wider s at) (λ t p _ _ i. i))
      & (λ s at a n e. e)
      & (λ s at a n e. e)
      & (λ s at a n e. e)
      & (λ s at a n e. e))

  kinds_wider : (k : ℕ) → Wider (choose k (kinds f)) (choose k (kinds g))
  kinds_wider k s at a n e = go (leb k 10) refl
    where
      go : (b : Bool) → leb k 10 ≡ b → choose k (kinds g) s at ≡ got a n
      go true h = let l = leb-true k 10 h in choose_wider k (omega arith) s at a n e
      go false h = let i = choose_above k f s at (leb-false k 10 h) in let z : ◌≡◌ {A = ℕ} 0 1 = cc in absurd (omega arith)

-- with no level left nothing is read
pub none_left : (s : List ℕ) (at : ℕ) {t : Declared} {n : ℕ} → type_at 0 s at ≡ got t n → ⊥
unfolding type_at
none_left s at {t} {n} e = let a = split (u8 s at) _ e in go (leb a.value 10) a.place a.rest
  where
    go : (b : Bool) (p : ℕ) → cond b (refuse {A = Declared} TooDeep) (refuse UndefinedChoice) s p ≡ got t n → ⊥
    go true p i = let z : ◌≡◌ {A = ℕ} 0 1 = cc in omega arith
    go false p i = let z : ◌≡◌ {A = ℕ} 0 1 = cc in omega arith

pub type_wider : (l m : ℕ) → l ≤ m → Wider (type_at l) (type_at m)
unfolding type_at
type_wider zero m h s at t n e = absurd (none_left s at e)
type_wider (suc l) zero h s at t n e = absurd (omega arith)
type_wider (suc l) (suc m) h s at t n e =
    next_wider (u8 s at) _ _ _ (λ _ _ i. i) (λ k p. kinds_wider (type_at l) (type_at m) (type_wider l m (omega arith)) k s p) t n e
