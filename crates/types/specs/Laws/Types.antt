-- Laws of the tests of types, for every number of layers. Assumes nothing.
--     any_array, any-array-right     an array of unknown elements passes with every array and with nothing else
--     any-array-inside               and so does one under layers, beside an array under as many
--     layers-same                    layers on both sides are taken off
--     scalar-alone                   a scalar passes every test with itself alone
--     only-long                      only Long is numeric
use Rattle.std.specs.Prelude.{◌≡◌, Bool, true, false, List}
use Rattle.std.proofs.Math.Path.{refl}
use Rattle.std.proofs.Math.Option.{Option}
use Prim.Native.Nat.{ℕ, zero, suc}
use Rattle.types.specs.Types.{Ty, Scalar, scalar, entity, any_array, mixed_array, array, long, string, decimal, bool, timepoint, object, never, datetime, duration, fits, same_type, is_numeric}
use Rattle.types.specs.Meaning.{layered}

-- an array: of unknown elements, of mixed ones, or of one type
unfoldable pub is_array : Ty → Bool
is_array (scalar a) = false
is_array (entity e) = false
is_array any_array = true
is_array mixed_array = true
is_array (array t) = true

module _ (tags : Option (List ℕ) → Option (List ℕ) → Bool) where
  pub any_array_lem : (t : Ty) → fits tags true any_array t ≡ is_array t
  unfolding fits is_array
  any_array_lem (scalar a) = refl
  any_array_lem (entity e) = refl
  any_array_lem any_array = refl
  any_array_lem mixed_array = refl
  any_array_lem (array t) = refl

  pub any_array_right : (t : Ty) → fits tags true t any_array ≡ is_array t
  unfolding fits is_array
  any_array_right (scalar a) = refl
  any_array_right (entity e) = refl
  any_array_right any_array = refl
  any_array_right mixed_array = refl
  any_array_right (array t) = refl

  module _ (u : Bool) where
    pub scalar_alone : (a : Scalar) (t : Ty) → fits tags u (scalar a) t ≡ same_type (scalar a) t
    unfolding fits
    scalar_alone a (scalar b) = refl
    scalar_alone a (entity e) = refl
    scalar_alone a any_array = refl
    scalar_alone a mixed_array = refl
    scalar_alone a (array t) = refl

    pub layers_same : (n : ℕ) (a b : Ty) → fits tags u (layered n a) (layered n b) ≡ fits tags u a b
    unfolding fits layered
    layers_same zero a b = refl
    layers_same (suc n) a b = layers_same n a b

  pub any_array_inside : (n : ℕ) (t : Ty) → fits tags true (layered n any_array) (layered n t) ≡ is_array t
  any_array_inside n t = rw layers_same (any_array_lem t)

  pub any_array_inside_right : (n : ℕ) (t : Ty) → fits tags true (layered n t) (layered n any_array) ≡ is_array t
  any_array_inside_right n t = rw layers_same (any_array_right t)

-- a type under at least one layer is an array
pub layered_array : (n : ℕ) (t : Ty) → is_array (layered (suc n) t) ≡ true
unfolding is_array layered
layered_array n t = refl

pub only_long : (t : Ty) → is_numeric t ≡ true → t ≡ scalar long
unfolding fits
only_long (scalar long) h = refl
only_long (scalar string) h = cc
only_long (scalar decimal) h = cc
only_long (scalar bool) h = cc
only_long (scalar timepoint) h = cc
only_long (scalar object) h = cc
only_long (scalar never) h = cc
only_long (scalar datetime) h = cc
only_long (scalar duration) h = cc
only_long (entity e) h = cc
only_long any_array h = cc
only_long mixed_array h = cc
only_long (array t) h = cc
