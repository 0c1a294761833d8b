-- Bytes that are no colon: the search for the simple name passes over eight of them at once. Assumes nothing.
use Rattle.std.specs.Prelude.{◌≡◌, refl, Bool, true, false, not, ◌&&◌, List, [], ◌∷◌, ℕ, ◌+◌, ◌<◌, ◌≤◌, eqb, length, get_or, drop}
use Rattle.std.proofs.Common.{◌∙◌, arith, add_assoc}
use Rattle.std.proofs.lemmas.Bool.{false≢true}
use Rattle.names.specs.Names.{simple_from}
use Rattle.names.specs.Laws.Names.{and_left, and_right}
use Rattle.names.specs.Laws.Walks.{here}

-- where the answer is yes, n bytes stand from a place on, and the simple name is the same without them
pub record Passed (s : List ℕ) (at n : ℕ) (r : Bool) : Type 0 where
  pub room : r ≡ true → at + n ≤ length s
  pub on : r ≡ true → (whole : List ℕ) → simple_from whole (drop at s) ≡ simple_from whole (drop (at + n) s)

abbrev other : ℕ → Bool
other b = not (eqb b 58)

not-true : (t : Bool) → not t ≡ true → t ≡ false
not-true true h = absurd (false≢true h)
not-true false h = refl

first : (whole : List ℕ) (b : ℕ) (w : List ℕ) → other b ≡ true → simple_from whole (b ∷ w) ≡ simple_from whole w
unfolding simple_from
first whole b [] h = refl
first whole b (c ∷ w) h = rw (not-true (eqb b 58) h)

pub not_passed : (s : List ℕ) (at n : ℕ) → Passed s at n false
not_passed s at n = record { room = λ h. absurd (false≢true h); on = λ h whole. absurd (false≢true h) }

module _ (s : List ℕ) (at : ℕ) where
  one : (i : ℕ) → i < length s → other (get_or s i 0) ≡ true → (whole : List ℕ) → simple_from whole (drop i s) ≡ simple_from whole (drop (i + 1) s)
  one i l h whole = rw (here s i l) (first whole (get_or s i 0) (drop (i + 1) s) h)

  begins : at < length s → Passed s at 1 (other (get_or s at 0))
  begins l = record { room = λ h. omega arith; on = one at l }

  more : (n : ℕ) {r : Bool} → at + n < length s → Passed s at n r → Passed s at (n + 1) (r && other (get_or s (at + n) 0))
  more n {r} l p = record {
    room = λ h. omega arith;
    on = λ h whole. p.on (and_left r (other (get_or s (at + n) 0)) h) whole ∙ one (at + n) l (and_right r (other (get_or s (at + n) 0)) h) whole ∙ rw add_assoc;
  }

  pub passed : at + 8 ≤ length s → Passed s at 8 (((((((other (get_or s at 0) && other (get_or s (at + 1) 0)) && other (get_or s (at + 2) 0)) && other (get_or s (at + 3) 0)) && other (get_or s (at + 4) 0)) && other (get_or s (at + 5) 0)) && other (get_or s (at + 6) 0)) && other (get_or s (at + 7) 0))
  passed l = more 7 (omega arith) (more 6 (omega arith) (more 5 (omega arith) (more 4 (omega arith) (more 3 (omega arith) (more 2 (omega arith) (more 1 (omega arith) (begins (omega arith))))))))
