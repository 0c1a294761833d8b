-- The place is halved in: it lies between two ends that close in on it.
use Rattle.std.proofs.Common.{◌≡◌, ℕ, ◌+◌, ◌-◌, ◌/◌, ◌<◌, ◌≤◌, List, length, take, sym, ap, ◌∙◌, arith}
use Rattle.offence.specs.declared.Kind.{Kind}
use Rattle.offence.specs.Offence.{place, number_of}
use Rattle.offence.proofs.Fronts.{least, ahead, back}

-- the place lies between two ends
pub record Between (k : Kind) (s : List ℕ) (low high : ℕ) : Type 0 where
  pub from : low ≤ place (number_of k) s
  pub upto : place (number_of k) s ≤ high
  pub within : high ≤ length s

module _ (k : Kind) (s : List ℕ) where
  pub start : Between k s 0 (length s)
  start = record { from = omega arith; upto = omega (arith, (least (number_of k) s).upto); within = omega arith }

  module _ (low high : ℕ) (between : Between k s low high) where
    pub met : high ≤ low → low ≡ place (number_of k) s
    met h = omega arith

    module _ (h : low < high) (front : List ℕ) (is : front ≡ take (low + (high - low) / 2) s) where
      early : number_of k front ≡ 2 → Between k s (low + (high - low) / 2 + 1) high
      early e =
          let from = ahead k s (low + (high - low) / 2) (omega arith) (sym (ap (number_of k) is) ∙ e) in
          record { from = from; upto = between.upto; within = between.within }

      shown : (number_of k front ≡ 2 → ⊥) → Between k s low (low + (high - low) / 2)
      shown differs =
          let upto = back k s (low + (high - low) / 2) (λ e. differs (ap (number_of k) is ∙ e)) in
          record { from = between.from; upto = upto; within = omega arith }

      module _ (r : ℕ) (is_r : r ≡ number_of k front) where
        pub later : r ≡ 2 → Between k s (low + (high - low) / 2 + 1) high
        later e = early (sym is_r ∙ e)

        pub sooner : (r ≡ 2 → ⊥) → Between k s low (low + (high - low) / 2)
        sooner differs = shown (λ e. differs (is_r ∙ e))
