-- What is claimed of a listing holds. Assumes nothing.
use Rattle.std.specs.Prelude.{ℕ, ◌<◌, refl, List, [], ◌∷◌, map}
use Rattle.std.proofs.Common.{sym, div-add-mod', mod-lt}
use Rattle.sweeps.specs.Windows.{Concrete, concrete_windows, in_sweeps, entries}
use Rattle.sweeps.specs.Listing.{Swept, Pairwise, Listing}

module _ (period : ℕ) (h : 0 < period) where
  swept : (w : Concrete) → Swept period w (in_sweeps period w)
  swept w = record { start = refl; exact = sym (div-add-mod' w.length period); below = mod-lt w.length h }

  pairs : (ws : List Concrete) → Pairwise (Swept period) ws (map (in_sweeps period) ws)
  pairs [] = tt
  pairs (w ∷ ws) = (swept w, pairs ws)

pub listing : Listing
unfolding entries
listing = record { each = λ period h c. pairs period h (concrete_windows c) }
