-- Array layers are taken off both types by what `cmp` says of their numbers. Assumes nothing.
--     fewer, more, as_many       the first type has fewer layers, more, or as many
use Rattle.std.proofs.Common.{◌≡◌, refl, ◌∙◌, ◌<◌, ℕ, zero, suc, Bool, List}
use Rattle.std.proofs.Common.{Less, Equal, Greater, nat_cmp, not-suc-le-zero, le_of_suc-le-suc}
use Rattle.std.specs.Cmp.{ranked}
use Rattle.types.specs.Types.{Ty, array, fits}
use Rattle.types.specs.Laws.Types.{layers_same}
use Rattle.types.specs.Meaning.{base_of, layered}
use Rattle.types.specs.Rules.{loose, fits_by, unknown_fits}
use Rattle.types.specs.declared.Base.{Base}
use Rattle.types.specs.declared.Test.{Test}

module _ (r : Test) (s c : List ℕ) where
  -- beside a type with a layer more
  unknown_array : (x : Base) (t : Ty) → unknown_fits (loose r) x ≡ fits_by r (base_of s c x) (array t)
  unfolding fits
  unknown_array (Base.Plain b) t = refl
  unknown_array (Base.Tagged u) t = refl
  unknown_array Base.Untagged t = refl
  unknown_array Base.AnyArray t = refl
  unknown_array Base.MixedArray t = refl

  array_unknown : (t : Ty) (y : Base) → unknown_fits (loose r) y ≡ fits_by r (array t) (base_of s c y)
  unfolding fits
  array_unknown t (Base.Plain b) = refl
  array_unknown t (Base.Tagged u) = refl
  array_unknown t Base.Untagged = refl
  array_unknown t Base.AnyArray = refl
  array_unknown t Base.MixedArray = refl

  layers_fewer : (n m : ℕ) (x : Base) (t : Ty) → n < m
      → unknown_fits (loose r) x ≡ fits_by r (layered n (base_of s c x)) (layered m t)
  unfolding fits layered
  layers_fewer n zero x t h = absurd (not-suc-le-zero h)
  layers_fewer zero (suc m) x t h = unknown_array x (layered m t)
  layers_fewer (suc n) (suc m) x t h = layers_fewer n m x t (le_of_suc-le-suc h)

  layers_more : (n m : ℕ) (t : Ty) (y : Base) → m < n
      → unknown_fits (loose r) y ≡ fits_by r (layered n t) (layered m (base_of s c y))
  unfolding fits layered
  layers_more zero m t y h = absurd (not-suc-le-zero h)
  layers_more (suc n) zero t y h = array_unknown (layered n t) y
  layers_more (suc n) (suc m) t y h = layers_more n m t y (le_of_suc-le-suc h)

  -- the answer b of the code, whether the test is loose, and the layers and the base of either type
  module _ (b : Bool) (n m : ℕ) (x y : Base) where
    pub fewer : (l : Bool) → Less ≡ nat_cmp n m → l ≡ loose r → b ≡ unknown_fits l x
        → b ≡ fits_by r (layered n (base_of s c x)) (layered m (base_of s c y))
    fewer l h rule e = e ∙ rw rule (layers_fewer n m x (base_of s c y) (ranked n m Less h))

    pub more : (l : Bool) → Greater ≡ nat_cmp n m → l ≡ loose r → b ≡ unknown_fits l y
        → b ≡ fits_by r (layered n (base_of s c x)) (layered m (base_of s c y))
    more l h rule e = e ∙ rw rule (layers_more n m (base_of s c x) y (ranked n m Greater h))

    pub as_many : Equal ≡ nat_cmp n m → b ≡ fits_by r (base_of s c x) (base_of s c y)
        → b ≡ fits_by r (layered n (base_of s c x)) (layered m (base_of s c y))
    as_many h e = rw (ranked n m Equal h, layers_same) e

pub ruleset by_layers = (fewer, more, as_many)
