-- One target more in an accepted target record: its bytes, and the record with it. Assumes nothing.
use Rattle.std.specs.Prelude.{ℕ, ◌+◌, List, [], ◌∷◌, ◌++◌, get_or, take, drop}
use Rattle.names.specs.Fields.{Reader, Got, got, bad, ◌>>=◌, pure, heading, finished}
use Rattle.targets.specs.Targets.{Target, narrowing, target}

-- a target by itself: its namespace and its id as in the record, and no byte more
unfoldable pub alone_target : Reader Target
alone_target = do
  t ← target
  finished t

-- what stands before the count of targets: the heading and the two narrowings
unfoldable pub before_count : Reader ℕ
before_count = do
  _ ← heading (68 ∷ 87 ∷ 84 ∷ []) 1
  _ ← narrowing
  _ ← narrowing
  pure 0

-- the place behind what was read
unfoldable pub place_of : {A : Type 0} → Got A → ℕ
place_of (got a n) = n
place_of (bad r) = 0

-- where the count of targets stands
unfoldable pub count_at : List ℕ → ℕ
count_at s = place_of (before_count s 0)

-- the record with one target more, given by its bytes: its count is one more, and the target stands at its end
unfoldable pub with_one_more : List ℕ → List ℕ → List ℕ
with_one_more s new = take (count_at s) s ++ ((get_or s (count_at s) 0 + 1) ∷ drop (count_at s + 1) s) ++ new
