-- The segments of the code's paths, and a path split at its first one.
use Rattle.std.specs.Prelude.{◌≡◌, List, ℕ, [], ◌∷◌, MatchOption}
use Rattle.std.specs.Prelude as code
use Rattle.names.specs.Read.{word_at}
use Rattle.names.specs.declared.Row.{Row}
use Rattle.resolution.specs.Places.{segments_in}
use Rattle.resolution.specs.declared.path.Path.{Path}
use Rattle.resolution.specs.declared.path.Headed.{Headed}

abbrev pub path_of : Path → List (List ℕ)
path_of path = segments_in path.bytes.now path.segments

abbrev pub headed_of : Headed → List (List ℕ)
headed_of path = word_at path.rest.bytes.now path.head ∷ path_of path.rest

-- a path as its first segment and the others, in the same bytes
pub record Split (c : List ℕ) (path : Row) (headed : Headed) : Type 0 where
  pub bytes : headed.rest.bytes.now ≡ c
  pub value : word_at c headed.head ∷ segments_in c headed.rest.segments ≡ segments_in c path

-- the answer where a path is split: none for a path without segments
abbrev pub Splits : List ℕ → Row → code.Option Headed → Type 0
Splits c path r = MatchOption r (segments_in c path ≡ []) (λ headed. Split c path headed)
