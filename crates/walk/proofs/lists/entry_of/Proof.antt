-- `walk::lists::entry_of` meets its contract. What is left of the directory lies within it. Assumes nothing.
use Prim.Native.Nat.{◌-◌}
use Rattle.walk.proofs.Directories.{Left, entry_halving}
use Rattle.walk.proofs.lists.entry_of.Statement.{statement}
use Rattle.walk.proofs.lists.entry_of.Tie as tie

abbrev invariant-loop-low : tie.invariant-loop-low
invariant-loop-low table at size low₀ high₀ low high = Left table low high

abbrev decreases-loop-low : tie.decreases-loop-low
decreases-loop-low table at size low₀ high₀ low high = high - low

pub entry_of_spec : {M : Type 1} → statement M
entry_of_spec =
    tie.close
    (tie.spec
    invariant-loop-low
    decreases-loop-low
    (λ c. search entry_halving)
    (λ c. search entry_halving)
    (λ c. search entry_halving)
    (λ c κs. search entry_halving)
    (λ c. search entry_halving)
    (λ c κs. search entry_halving)
    (λ c κs. search entry_halving)
    (λ c. search entry_halving)
    (λ c. search entry_halving)
    (λ c κs. search entry_halving)
    (λ c. search entry_halving)
    (λ c. search entry_halving)
    (λ c. search entry_halving)
    (λ c. search entry_halving)
    (λ c. search entry_halving)
    (λ c. search entry_halving)
    (λ c. search entry_halving))
