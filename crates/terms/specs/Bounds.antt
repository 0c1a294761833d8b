-- The bounds of the types that terms have, by the numbers of the code's values alone: with them their texts are bounded.
use Rattle.std.specs.Prelude.{ℕ, ◌≤◌, Some, None}
use Rattle.types.specs.Laws.Texts.{tag_length}
use Rattle.resolution.specs.Coded.{Typed}

abbrev pub layers_of : Typed → ℕ
layers_of (Some t) = t.layers
layers_of None = 0

abbrev pub tag_length_of : Typed → ℕ
tag_length_of (Some t) = tag_length t.base
tag_length_of None = 0

-- at most n layers over a tag of at most 255 bytes
pub record Within (n : ℕ) (r : Typed) : Type 0 where
  pub layers : layers_of r ≤ n
  pub tag : tag_length_of r ≤ 255
