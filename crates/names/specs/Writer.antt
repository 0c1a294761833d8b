-- Bytes written into a lent buffer: what each writer does, and what it returns.
use Rattle.std.specs.Prelude.{◌≡◌, List, ◌++◌, ℕ, ◌+◌, ◌≤◌, length, take, drop}

-- the buffer s with the bytes vs from index at on
unfoldable pub store : List ℕ → ℕ → List ℕ → List ℕ
store s at vs = take at s ++ vs ++ drop (at + length vs) s

-- what a writer does: s' is s with vs from index at on, r is the next index, and vs had room
pub record Stored (s : List ℕ) (at : ℕ) (vs : List ℕ) (s' : List ℕ) (r : ℕ) : Type 0 where
  pub room : at + length vs ≤ length s
  pub next : r ≡ at + length vs
  pub bytes : s' ≡ store s at vs
