-- What the place means, for each of the four records. Assumes nothing.
use mathlib.Core.Path.{◌≡◌, refl, sym, ap, ◌∙◌}
use mathlib.Core.Bool.{Bool, true, false, cond}
use mathlib.Core.List.{List, ◌++◌}
use mathlib.Core.Logic.{⊎_elim}
use Prim.Native.Nat.{ℕ, ◌+◌, ◌≤◌, ◌<◌}
use native.Mathlib.Omega.{arith}
use borrow.Author.Tests.{ltb-true, ltb-false, leb-true, leb-false}
use lib.Dec.{ltb, leb}
use lib.ListN.{length, take, drop, take-append-drop}
use lib.Seq.{take-length, take-take, length-take-le}
use Rattle.names.specs.Fields.{Reader, ◌>>=◌, bytes, heading, whole}
use Rattle.names.specs.Read.{refusal_number}
use Rattle.schema.specs.Schema.{schema_record}
use Rattle.condition.specs.Condition.{condition_record_up_to, condition_record}
use Rattle.targets.specs.Targets.{target_record}
use Rattle.targets.specs.PathRecord.{path_record}
use Rattle.offence.specs.declared.Kind.{Kind}
use Rattle.offence.specs.declared.Kind.TheVariants.{Schema, Condition, Targets, Path}
use Rattle.offence.specs.Offence.{mark_of, begins, number_of, place}
use Rattle.offence.proofs.Steady.{Sure, early, alike, over}
use Rattle.offence.proofs.Fronts.{least, sure, closed, above, fronts, back}

module _ (k : Kind) (s : List ℕ) where
  -- every shorter front only ends too early
  pub before : (m : ℕ) → m < place (number_of k) s → number_of k (take m s) ≡ 2
  before m h = (least (number_of k) s).below m (omega arith) h

  -- bytes that end too early have their end as the place
  pub at-the-end : number_of k s ≡ 2 → place (number_of k) s ≡ length s
  at-the-end e = go (ltb (place (number_of k) s) (length s)) refl
    where
      go : (b : Bool) → ltb (place (number_of k) s) (length s) ≡ b → place (number_of k) s ≡ length s
      go true h =
          let shorter : place (number_of k) s < length s = ltb-true _ _ h in
          let e' : number_of k (take (length s) s) ≡ 2 = rw (take-length s) e in
          absurd ((least (number_of k) s).shows (omega arith) (fronts k s (place (number_of k) s) (length s) (omega arith) e'))
      go false h = omega (arith, ltb-false (place (number_of k) s) (length s) h, (least (number_of k) s).upto)

  judged : length s ≤ 32768 → Sure (number_of k (take (place (number_of k) s) s)) (number_of k s)
  judged h =
      let p : ℕ = place (number_of k) s in
      let e : take p s ++ drop p s ≡ s = take-append-drop p s in
      rw e at (sure k (take p s) (drop p s) (rw e h))

  -- a front that ends too early is the whole
  all : number_of k (take (place (number_of k) s) s) ≡ 2 → take (place (number_of k) s) s ≡ s
  all e = go (ltb (place (number_of k) s) (length s)) refl
    where
      go : (b : Bool) → ltb (place (number_of k) s) (length s) ≡ b → take (place (number_of k) s) s ≡ s
      go true h = let shorter : place (number_of k) s < length s = ltb-true _ _ h in absurd ((least (number_of k) s).shows (omega arith) e)
      go false h =
          let i : place (number_of k) s ≡ length s = omega (arith, ltb-false (place (number_of k) s) (length s) h, (least (number_of k) s).upto) in
          ap (λ (n : ℕ). take n s) i ∙ take-length s

  -- 3 to 9, 13, 15 and 16: the front of the place is refused by the number of the whole
  pub there : length s ≤ 32768 → (number_of k s ≡ 0 → ⊥) → (number_of k s ≡ 10 → ⊥) → number_of k (take (place (number_of k) s) s) ≡ number_of k s
  there h refused inside = go (judged h)
    where
      go : Sure (number_of k (take (place (number_of k) s) s)) (number_of k s) → number_of k (take (place (number_of k) s) s) ≡ number_of k s
      go (early e) = ap (number_of k) (all e)
      go (alike e) = sym e
      go (over _ e) = absurd (⊎_elim refused inside e)

  -- 10: the front of the place is a record
  pub ended : number_of k s ≡ 10 → number_of k (take (place (number_of k) s) s) ≡ 0
  ended e = sized (leb (length s) 32768) refl
    where
      p : ℕ
      p = place (number_of k) s

      closing : number_of k (take p s) ≡ 10 → number_of k (take p s) ≡ 0
      closing i =
          let x = closed k (take p s) i in
          let q : p ≤ length s = omega (arith, (least (number_of k) s).upto) in
          let l : x.0 ≤ p = omega (arith, x.1, length-take-le p s q) in
          let j : number_of k (take x.0 s) ≡ 0 = rw (take-take x.0 p s l) at x.2 in
          let m : p ≤ x.0 = back k s x.0 (λ z. omega (arith, sym j ∙ z)) in
          let n : x.0 ≡ p = omega arith in
          rw n at j

      go : Sure (number_of k (take p s)) (number_of k s) → number_of k (take p s) ≡ 0
      go (early i) = absurd (omega (arith, sym i ∙ ap (number_of k) (all i) ∙ e))
      go (alike i) = closing (sym i ∙ e)
      go (over i _) = ⊎_elim (λ z. z) closing i

      sized : (b : Bool) → leb (length s) 32768 ≡ b → number_of k (take p s) ≡ 0
      sized true h = go (judged (leb-true _ _ h))
      sized false h = absurd (omega (arith, sym (above k s (leb-false _ _ h)) ∙ e))

-- Bytes that no record's mark begins are refused alike by all four.
module _ {A : Type 0} (mark : List ℕ) (newest : ℕ) (s : List ℕ) (rest : ℕ → Reader A) where
  unmarked_front : begins mark s ≡ false → refusal_number (whole (heading mark newest >>= rest) s) ≡ cond (leb (length s) 32768) (cond (leb (0 + length mark) (length s)) 3 2) 1
  unfolding whole heading bytes refusal_number
  unmarked_front e = go (leb (length s) 32768) refl (leb (0 + length mark) (length s)) refl
    where
      go : (b : Bool) → leb (length s) 32768 ≡ b → (d : Bool) → leb (0 + length mark) (length s) ≡ d → refusal_number (whole (heading mark newest >>= rest) s) ≡ cond (leb (length s) 32768) (cond (leb (0 + length mark) (length s)) 3 2) 1
      go false h d i = rw h
      go true h false i = rw (h, i)
      go true h true i = rw (h, i, e)

pub unmarked : (k : Kind) (s : List ℕ) → begins (mark_of k) s ≡ false → number_of k s ≡ cond (leb (length s) 32768) (cond (leb 3 (length s)) 3 2) 1
unfolding schema_record condition_record_up_to condition_record target_record path_record
unmarked Schema s e = unmarked_front (mark_of Schema) 1 s _ e
unmarked Condition s e = unmarked_front (mark_of Condition) 3 s _ e
unmarked Targets s e = unmarked_front (mark_of Targets) 1 s _ e
unmarked Path s e = unmarked_front (mark_of Path) 1 s _ e
