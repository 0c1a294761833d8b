-- What rule writers lean on when they reorder a comparison: laws of `accepts` and of `compatible` in the plain profile, for all types, under every number of layers.
-- `Relied` states all of them, `ReliedInCode` carries them to the answers of the code, and `Refuted` has what does not hold; Laws/Relations.antt proves them.
use Rattle.std.specs.Prelude.{◌≡◌, Bool, true, false, List, ℕ}
use Rattle.std.proofs.Math.Option.{none, some}
use Rattle.names.specs.Text.{text}
use Rattle.types.specs.Types.{Ty, scalar, long, bool, entity, any_array, mixed_array, array, plain, same_type, accepts, compatible}
use Rattle.types.specs.Meaning.{profile_in, rich_of}
use Rattle.types.specs.declared.Profile.TheVariants as Profile
use Rattle.types.specs.declared.Rich.{Rich}

-- no array of unknown elements, at any layer
unfoldable pub is_known : Ty → Bool
is_known (scalar a) = true
is_known (entity e) = true
is_known any_array = false
is_known mixed_array = true
is_known (array t) = is_known t

-- no untagged entity, at any layer
unfoldable pub is_tagged : Ty → Bool
is_tagged (scalar a) = true
is_tagged (entity none) = false
is_tagged (entity (some tag)) = true
is_tagged any_array = true
is_tagged mixed_array = true
is_tagged (array t) = is_tagged t

pub record Relied : Type 0 where
  -- both tests hold of a type and itself
  pub accepts_itself : (t : Ty) → accepts t t ≡ true
  pub compatible_itself : (t : Ty) → compatible plain t t ≡ true
  -- both are symmetric
  pub accepts_swapped : (t u : Ty) → accepts t u ≡ accepts u t
  pub compatible_swapped : (t u : Ty) → compatible plain t u ≡ compatible plain u t
  -- acceptance implies compatibility
  pub accepts_compatible : (t u : Ty) → accepts t u ≡ true → compatible plain t u ≡ true
  -- acceptance is equality by structure among types with no unknown array and no untagged entity
  pub accepts_equal : (t u : Ty) → is_known t ≡ true → is_tagged t ≡ true → is_known u ≡ true → is_tagged u ≡ true → accepts t u ≡ same_type t u
  -- and where `same_type` holds, the two types are one
  pub same_equal : (t u : Ty) → same_type t u ≡ true → t ≡ u
  -- compatibility is transitive among types with no unknown array; it is enough that the one between has none
  pub compatible_through : (t u v : Ty) → is_known u ≡ true → compatible plain t u ≡ true → compatible plain u v ≡ true → compatible plain t v ≡ true

-- an answer of a test of the code to two types in memory, as its contract has it, word for word; that of `compatible` under the plain profile
module _ (s c : List ℕ) (a b : Rich) (r : Bool) where
  abbrev pub EqualSays : Type 0
  EqualSays = r ≡ same_type (rich_of s c a) (rich_of s c b)

  abbrev pub AcceptsSays : Type 0
  AcceptsSays = r ≡ accepts (rich_of s c a) (rich_of s c b)

  abbrev pub CompatibleSays : Type 0
  CompatibleSays = r ≡ compatible (profile_in Profile.Plain) (rich_of s c a) (rich_of s c b)

-- The same of the code's answers, whatever the bytes of schema and condition are
pub record ReliedInCode (s c : List ℕ) : Type 0 where
  pub accepts_itself : (a : Rich) (r : Bool) → AcceptsSays s c a a r → r ≡ true
  pub compatible_itself : (a : Rich) (r : Bool) → CompatibleSays s c a a r → r ≡ true
  pub accepts_swapped : (a b : Rich) (r q : Bool) → AcceptsSays s c a b r → AcceptsSays s c b a q → r ≡ q
  pub compatible_swapped : (a b : Rich) (r q : Bool) → CompatibleSays s c a b r → CompatibleSays s c b a q → r ≡ q
  pub accepts_compatible : (a b : Rich) (r q : Bool) → AcceptsSays s c a b r → CompatibleSays s c a b q → r ≡ true → q ≡ true
  pub accepts_equal : (a b : Rich) (r q : Bool) → is_known (rich_of s c a) ≡ true → is_tagged (rich_of s c a) ≡ true → is_known (rich_of s c b) ≡ true → is_tagged (rich_of s c b) ≡ true → AcceptsSays s c a b r → EqualSays s c a b q → r ≡ q
  pub compatible_through : (a b d : Rich) (p q r : Bool) → is_known (rich_of s c b) ≡ true → CompatibleSays s c a b p → CompatibleSays s c b d q → CompatibleSays s c a d r → p ≡ true → q ≡ true → r ≡ true

-- What does not hold, by the smallest types that show it: each is computed.
pub record Refuted : Type 0 where
  -- compatibility is not transitive through an array of unknown elements, nor where one lies in an array
  pub unknown_between : (compatible plain (array (scalar long)) any_array ≡ true) × (compatible plain any_array (array (scalar bool)) ≡ true) × (compatible plain (array (scalar long)) (array (scalar bool)) ≡ false)
  pub unknown_inside : (compatible plain (array mixed_array) (array any_array) ≡ true) × (compatible plain (array any_array) (array (array (scalar long))) ≡ true) × (compatible plain (array mixed_array) (array (array (scalar long))) ≡ false)
  -- acceptance is not transitive through an untagged entity
  pub untagged_between : (accepts (entity (some (text "A"))) (entity none) ≡ true) × (accepts (entity none) (entity (some (text "B"))) ≡ true) × (accepts (entity (some (text "A"))) (entity (some (text "B"))) ≡ false)
  -- compatibility does not imply acceptance
  pub other_tags : (compatible plain (entity (some (text "A"))) (entity (some (text "B"))) ≡ true) × (accepts (entity (some (text "A"))) (entity (some (text "B"))) ≡ false)
  -- and without its two conditions acceptance is not equality
  pub unknown_accepted : (accepts any_array mixed_array ≡ true) × (same_type any_array mixed_array ≡ false)
  pub untagged_accepted : (accepts (entity none) (entity (some (text "A"))) ≡ true) × (same_type (entity none) (entity (some (text "A"))) ≡ false)
