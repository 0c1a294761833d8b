-- What the laws of demand 3 speak of: pairs (message, start), and lists as sets.
use Rattle.std.specs.Prelude.{◌≡◌, ◌⊎◌, ◌↔◌, List, [], ◌∷◌, map, ℕ, ◌+◌, length}
use Rattle.reports.specs.Reports.{Breach}

-- the pair of a breach, and those of a list of breaches
pub record Pair : Type 0 where
  pub message : List ℕ
  pub start : ℕ

abbrev pub pair_of : Breach → Pair
pair_of b = record { message = b.message; start = b.start }

abbrev pub pairs : List Breach → List Pair
pairs bs = map pair_of bs

module _ {K : Type 0} where
  infix 40 ◌∈◌
  abbrev pub ◌∈◌ : K → List K → Type 0
  k ∈ [] = ⊥
  k ∈ (j ∷ l) = (k ≡ j) ⊎ (k ∈ l)

  abbrev pub NoDup : List K → Type 0
  NoDup [] = Unit {0}
  NoDup (j ∷ l) = (j ∈ l → ⊥) × NoDup l

  -- the same elements, whatever their order and repeats
  abbrev pub Same : List K → List K → Type 0
  Same l m = (k : K) → (k ∈ l) ↔ (k ∈ m)

  -- the sum of what f gives for each
  abbrev pub sum_of : (K → ℕ) → List K → ℕ
  sum_of f [] = 0
  sum_of f (j ∷ l) = f j + sum_of f l

-- the space for reports of these pairs: 10 bytes and the message's own for each
abbrev pub space : List Pair → ℕ
space ps = sum_of (λ p. 10 + length p.message) ps
