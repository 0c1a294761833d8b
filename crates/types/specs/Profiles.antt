-- What a caller's profile changes in the test of two types on the sides of an equality: for all types, under every number of layers.
-- `Profiles` states it, `ProfilesInCode` carries it to the answers of the code; Laws/Profiles.antt proves them.
use Rattle.std.specs.Prelude.{◌≡◌, Bool, true, false, ◌↔◌, List, ℕ}
use Rattle.std.proofs.Math.Option.{none, some}
use Rattle.names.specs.Names.{same}
use Rattle.names.specs.Text.{text}
use Rattle.types.specs.Types.{Ty, entity, fits, plain, strict, accepts, compatible}
use Rattle.types.specs.Meaning.{layered, profile_in, rich_of}
use Rattle.types.specs.declared.Profile.{Profile}
use Rattle.types.specs.declared.Rich.{Rich}

-- `compatible` as it was before there was a profile to choose, word for word
abbrev pub compatible_before : Ty → Ty → Bool
compatible_before = fits (λ e f. true) true

-- two entities with unlike tags, under as many layers each
pub record Unlike (t u : Ty) : Type 0 where
  pub layers : ℕ
  pub left : List ℕ
  pub right : List ℕ
  pub is_left : t ≡ layered layers (entity (some left))
  pub is_right : u ≡ layered layers (entity (some right))
  pub unlike : same left right ≡ false

pub record Profiles : Type 0 where
  -- the plain test is what it was
  pub as_before : (t u : Ty) → compatible plain t u ≡ compatible_before t u
  -- the two tests differ there, and nowhere else
  pub differs : (t u : Ty) → ((compatible plain t u ≡ true) × (compatible strict t u ≡ false)) ↔ Unlike t u
  pub agrees : (t u : Ty) → (Unlike t u → ⊥) → compatible strict t u ≡ compatible plain t u
  -- the strict test is acceptance, as a relation
  pub is_acceptance : (t u : Ty) → compatible strict t u ≡ accepts t u
  -- it holds of a type and itself, is symmetric, and implies the plain one
  pub strict_itself : (t : Ty) → compatible strict t t ≡ true
  pub strict_swapped : (t u : Ty) → compatible strict t u ≡ compatible strict u t
  pub strict_plain : (t u : Ty) → compatible strict t u ≡ true → compatible plain t u ≡ true
  -- it is not transitive through an untagged entity
  pub untagged_between : (compatible strict (entity (some (text "A"))) (entity none) ≡ true) × (compatible strict (entity none) (entity (some (text "B"))) ≡ true) × (compatible strict (entity (some (text "A"))) (entity (some (text "B"))) ≡ false)

-- the answer of the code's test under a profile, as its contract has it, word for word
abbrev pub Says : List ℕ → List ℕ → Profile → Rich → Rich → Bool → Type 0
Says s c p a b r = r ≡ compatible (profile_in p) (rich_of s c a) (rich_of s c b)

-- the same of the code's answers, whatever the bytes of schema and condition are
pub record ProfilesInCode (s c : List ℕ) : Type 0 where
  pub differs : (a b : Rich) (r q : Bool) → Says s c Profile.Plain a b r → Says s c Profile.Strict a b q → Unlike (rich_of s c a) (rich_of s c b) → (r ≡ true) × (q ≡ false)
  pub agrees : (a b : Rich) (r q : Bool) → Says s c Profile.Plain a b r → Says s c Profile.Strict a b q → (Unlike (rich_of s c a) (rich_of s c b) → ⊥) → q ≡ r
  pub strict_plain : (a b : Rich) (r q : Bool) → Says s c Profile.Plain a b r → Says s c Profile.Strict a b q → q ≡ true → r ≡ true
