-- What the place says of the fronts of some bytes. Assumes nothing.
use mathlib.Core.Path.{◌≡◌, refl, sym, ◌∙◌}
use mathlib.Core.Bool.{Bool, true, false, cond}
use mathlib.Core.List.{List, ◌++◌}
use mathlib.Core.Logic.{⊎_elim}
use Prim.Native.Nat.{ℕ, zero, suc, ◌+◌, ◌≤◌, ◌<◌}
use native.Mathlib.Omega.{arith}
use borrow.Author.Tests.{eqb-true, eqb-false, leb-true, leb-false}
use lib.Dec.{eqb, leb}
use lib.ListN.{length, take, drop}
use Rattle.offence.specs.declared.Kind.{Kind}
use Rattle.offence.specs.declared.Kind.TheVariants.{Schema, Condition, Targets, Path}
use Rattle.offence.specs.Offence.{number_of, place_from, place}
use Rattle.offence.proofs.Steady.{Sure, early, alike, over, longer_front, whole_sure, whole_closes, too_long}
use Rattle.offence.proofs.Flat.{schema_ends, targets_ends, path_ends}
use Rattle.offence.proofs.Nested.{condition_ends}

-- of any numbers: the place lies between n and n + left; no front from n up to it shows anything; the front of the place does, unless the places ran out
pub record Least (f : List ℕ → ℕ) (s : List ℕ) (left n p : ℕ) : Type 0 where
  pub from : n ≤ p
  pub upto : p ≤ n + left
  pub below : (m : ℕ) → n ≤ m → m < p → f (take m s) ≡ 2
  pub shows : p < n + left → f (take p s) ≡ 2 → ⊥

module _ (f : List ℕ → ℕ) (s : List ℕ) where
  -- one place more in front
  least_more : (left n p : ℕ) → f (take n s) ≡ 2 → Least f s left (suc n) p → Least f s (suc left) n p
  least_more left n p e rest =
      record { from = omega (arith, rest.from); upto = omega (arith, rest.upto); below = λ m i k. go m (leb (suc n) m) refl i k; shows = λ i. rest.shows (omega arith) }
    where
      go : (m : ℕ) (b : Bool) → leb (suc n) m ≡ b → n ≤ m → m < p → f (take m s) ≡ 2
      go m true j i k = rest.below m (leb-true (suc n) m j) k
      go m false j i k =
          let is : m ≡ n = omega (arith, leb-false (suc n) m j) in
          rw is e

  least_from : (left n : ℕ) → Least f s left n (place_from f s left n)
  unfolding place_from
  least_from zero n = record { from = omega arith; upto = omega arith; below = λ m h k. absurd (omega arith); shows = λ h. absurd (omega arith) }
  least_from (suc left) n = go (eqb (f (take n s)) 2) refl (least_from left (suc n))
    where
      go : (b : Bool) → eqb (f (take n s)) 2 ≡ b → Least f s left (suc n) (place_from f s left (suc n)) → Least f s (suc left) n (cond b (place_from f s left (suc n)) n)
      go false h rest = record { from = omega arith; upto = omega arith; below = λ m i k. absurd (omega arith); shows = λ i. eqb-false _ _ h }
      go true h rest = least_more left n _ (eqb-true _ _ h) rest

  pub least : Least f s (length s) 0 (place f s)
  unfolding place
  least = least_from (length s) 0

-- Of the four records.
pub sure : (k : Kind) (s t : List ℕ) → length (s ++ t) ≤ 32768 → Sure (number_of k s) (number_of k (s ++ t))
sure Schema = whole_sure schema_ends
sure Condition = whole_sure condition_ends
sure Targets = whole_sure targets_ends
sure Path = whole_sure path_ends

-- a record with bytes behind it begins with one that has none
pub closed : (k : Kind) (s : List ℕ) → number_of k s ≡ 10 → (n : ℕ) × (n ≤ length s) × (number_of k (take n s) ≡ 0)
closed Schema s e = let x = whole_closes schema_ends s e in (x.end, x.inside, x.accepts)
closed Condition s e = let x = whole_closes condition_ends s e in (x.end, x.inside, x.accepts)
closed Targets s e = let x = whole_closes targets_ends s e in (x.end, x.inside, x.accepts)
closed Path s e = let x = whole_closes path_ends s e in (x.end, x.inside, x.accepts)

pub above : (k : Kind) (s : List ℕ) → 32768 < length s → number_of k s ≡ 1
above Schema s h = too_long _ s h
above Condition s h = too_long _ s h
above Targets s h = too_long _ s h
above Path s h = too_long _ s h

-- what shows in some bytes shows in more of them
grows : (k : Kind) (s t : List ℕ) → (number_of k s ≡ 2 → ⊥) → number_of k (s ++ t) ≡ 2 → ⊥
grows k s t shown e = go (leb (length (s ++ t)) 32768) refl
  where
    judge : Sure (number_of k s) (number_of k (s ++ t)) → ⊥
    judge (early i) = shown i
    judge (alike i) = shown (sym i ∙ e)
    judge (over i j) = ⊎_elim (λ z. omega (arith, sym e ∙ z)) (λ z. omega (arith, sym e ∙ z)) j

    go : (b : Bool) → leb (length (s ++ t)) 32768 ≡ b → ⊥
    go true h = judge (sure k s t (leb-true _ _ h))
    go false h = omega (arith, sym e ∙ above k (s ++ t) (leb-false _ _ h))

module _ (k : Kind) (s : List ℕ) where
  -- a front that only ends too early has shorter ones that do
  pub fronts : (m n : ℕ) → m ≤ n → number_of k (take n s) ≡ 2 → number_of k (take m s) ≡ 2
  fronts m n h e = go (eqb (number_of k (take m s)) 2) refl
    where
      go : (b : Bool) → eqb (number_of k (take m s)) 2 ≡ b → number_of k (take m s) ≡ 2
      go true i = eqb-true _ _ i
      go false i = absurd (grows k (take m s) (drop m (take n s)) (eqb-false _ _ i) (rw (longer_front s m n h) e))

  -- where the first n bytes end too early, the place is behind them; else it is not
  pub ahead : (n : ℕ) → n < length s → number_of k (take n s) ≡ 2 → n + 1 ≤ place (number_of k) s
  ahead n h e = go (leb (n + 1) (place (number_of k) s)) refl
    where
      go : (b : Bool) → leb (n + 1) (place (number_of k) s) ≡ b → n + 1 ≤ place (number_of k) s
      go true i = leb-true _ _ i
      go false i =
          let j : place (number_of k) s ≤ n = omega (arith, leb-false (n + 1) (place (number_of k) s) i) in
          absurd ((least (number_of k) s).shows (omega arith) (fronts (place (number_of k) s) n j e))

  pub back : (n : ℕ) → (number_of k (take n s) ≡ 2 → ⊥) → place (number_of k) s ≤ n
  back n shown = go (leb (place (number_of k) s) n) refl
    where
      go : (b : Bool) → leb (place (number_of k) s) n ≡ b → place (number_of k) s ≤ n
      go true i = leb-true _ _ i
      go false i = absurd (shown ((least (number_of k) s).below n (omega arith) (leb-false _ _ i)))
