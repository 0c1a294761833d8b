-- Segments joined by `::`, as they are measured and written.
use Rattle.std.specs.Prelude.{◌≡◌, List, [], ◌∷◌, ◌++◌, ℕ, ◌≤◌, length}

-- each behind `::`
unfoldable pub behind : List (List ℕ) → List ℕ
behind [] = []
behind (w ∷ ws) = (58 ∷ 58 ∷ w) ++ behind ws

-- a word's length; joined segments have two bytes for `::` in place of a length byte, so no more than the record's 32,768 and one for each segment
pub record Sized (w : List ℕ) (r : ℕ) : Type 0 where
  pub is : r ≡ length w
  pub most : r ≤ 33023
