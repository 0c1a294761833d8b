-- What is claimed of a listing, beyond its definition. Proved in Laws/Listing.
use Rattle.std.specs.Prelude.{ℕ, ◌+◌, ◌*◌, ◌<◌, ◌≡◌, List, [], ◌∷◌}
use Rattle.condition.specs.Condition.{Condition}
use Rattle.sweeps.specs.Entries.{Entry}
use Rattle.sweeps.specs.Windows.{Concrete, concrete_windows, entries}

-- an entry is a window exactly: it starts there, and its sweeps of the period with a rest below the period are its seconds
pub record Swept (period : ℕ) (w : Concrete) (e : Entry) : Type 0 where
  pub start : e.start ≡ w.start
  pub exact : w.length ≡ e.sweeps * period + e.rest
  pub below : e.rest < period

-- two lists of one length, the first with the first, the second with the second, and so on
abbrev pub Pairwise : {A B : Type 0} → (A → B → Type 0) → List A → List B → Type 0
Pairwise R [] [] = Unit {0}
Pairwise R [] (y ∷ ys) = ⊥
Pairwise R (x ∷ xs) [] = ⊥
Pairwise R (x ∷ xs) (y ∷ ys) = R x y × Pairwise R xs ys

pub record Listing : Type 0 where
  -- the entries are exactly the reached concrete windows in order
  pub each : (period : ℕ) → 0 < period → (c : Condition) → Pairwise (Swept period) (concrete_windows c) (entries period c)
