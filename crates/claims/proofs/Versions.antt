-- Readers that know more versions or fewer. Assumes nothing.
use mathlib.Core.Path.{◌≡◌, refl, ap, ◌∙◌}
use mathlib.Core.Bool.{Bool, true, false, ◌&&◌, false≢true}
use mathlib.Core.List.{List, [], ◌∷◌}
use Prim.Native.Nat.{ℕ, ◌≤◌, ◌<◌}
use native.Mathlib.Omega.{arith}
use borrow.Author.Tests.{le-leb, lt-leb}
use lib.Dec.{leb}
use lib.ListN.{length, take, drop}
use Rattle.names.specs.Fields.{Got, got, bad, next, holds, bytes, u16, number, heading, whole}
use Rattle.names.specs.Names.{same}
use Rattle.names.specs.Read.{accepted}
use Rattle.names.specs.Laws.Readers.{bytes_view, u16_value, split, accept, whole_read}
use Rattle.condition.specs.Condition.{condition_record_up_to}
use Rattle.condition.specs.Places.{version_in}
use Rattle.claims.specs.Versions.{Known, Unknown}
use Rattle.names.specs.declared.refusal.Refusal.TheVariants.{OtherMark, OtherVersion}
use Rattle.names.specs.declared.refusal.Refusal.{Refusal}

abbrev mark : List ℕ
mark = 68 ∷ 87 ∷ 67 ∷ []

-- the version that is read behind the mark
version_read : (s : List ℕ) (p : ℕ) → p ≡ 3 → {v q : ℕ} → u16 s p ≡ got v q → v ≡ version_in s
unfolding version_in
version_read s p i e = u16_value s p e ∙ ap (λ (n : ℕ). number 0 (take 2 (drop n s))) i

-- the test of the version, by the newest that is known
abbrev tested : ℕ → List ℕ → ℕ → ℕ → Got ℕ
tested newest s v q = holds OtherVersion (leb 1 v && leb v newest) v s q

module _ (newest other : ℕ) (s : List ℕ) (h : version_in s ≤ newest) (k : version_in s ≤ other) where
  tests_alike : (p : ℕ) → p ≡ 3 → (g : Got ℕ) → u16 s p ≡ g → next g (tested newest s) ≡ next g (tested other s)
  tests_alike p i (bad r) e = refl
  tests_alike p i (got v q) e = let j = version_read s p i e in rw (le-leb v newest (omega arith), le-leb v other (omega arith))

  marks_alike : (n : ℕ) → n ≡ 3 → (b : Bool) (m : List ℕ) → next (holds OtherMark b m s n) (λ _ p. next (u16 s p) (tested newest s)) ≡ next (holds OtherMark b m s n) (λ _ p. next (u16 s p) (tested other s))
  marks_alike n i true m = tests_alike n i (u16 s n) refl
  marks_alike n i false m = refl

  headings_alike : heading mark newest s 0 ≡ heading mark other s 0
  unfolding heading
  headings_alike = go (bytes 3 s 0) refl
    where
      go : (g : Got (List ℕ)) → bytes 3 s 0 ≡ g
          → next g (λ m n. next (holds OtherMark (same m mark) m s n) (λ _ p. next (u16 s p) (tested newest s))) ≡ next g (λ m n. next (holds OtherMark (same m mark) m s n) (λ _ p. next (u16 s p) (tested other s)))
      go (bad r) e = refl
      go (got m n) e = marks_alike n (bytes_view s 0 3 e).2 (same m mark) m

pub known : Known
unfolding whole condition_record_up_to
known newest other s h k = rw (headings_alike newest other s h k)

-- no value is a refusal
no_value : {A P : Type 0} {a : A} {n : ℕ} {r : Refusal} → bad r ≡ got a n → P
no_value e = let z : ◌≡◌ {A = ℕ} 0 1 = cc in absurd (omega arith)

and-false : (b : Bool) → (b && false) ≡ false
and-false true = refl
and-false false = refl

module _ (newest other : ℕ) (s : List ℕ) (h : newest < version_in s) {w m : ℕ} where
  test_refused : (p : ℕ) → p ≡ 3 → (g : Got ℕ) → u16 s p ≡ g → next g (tested other s) ≡ got w m → next g (tested newest s) ≡ bad OtherVersion
  test_refused p i (bad r) e f = no_value f
  test_refused p i (got v q) e f = let j = version_read s p i e in rw (lt-leb v newest (omega arith), and-false)

  mark_passed : (n : ℕ) → n ≡ 3 → (b : Bool) (t : List ℕ) → next (holds OtherMark b t s n) (λ _ p. next (u16 s p) (tested other s)) ≡ got w m → next (holds OtherMark b t s n) (λ _ p. next (u16 s p) (tested newest s)) ≡ bad OtherVersion
  mark_passed n i true t f = test_refused n i (u16 s n) refl f
  mark_passed n i false t f = no_value f

  heading_refused : heading mark other s 0 ≡ got w m → heading mark newest s 0 ≡ bad OtherVersion
  unfolding heading
  heading_refused = go (bytes 3 s 0) refl
    where
      go : (g : Got (List ℕ)) → bytes 3 s 0 ≡ g
          → next g (λ t n. next (holds OtherMark (same t mark) t s n) (λ _ p. next (u16 s p) (tested other s))) ≡ got w m
          → next g (λ t n. next (holds OtherMark (same t mark) t s n) (λ _ p. next (u16 s p) (tested newest s))) ≡ bad OtherVersion
      go (bad r) e f = no_value f
      go (got t n) e f = mark_passed n (bytes_view s 0 3 e).2 (same t mark) t f

pub unknown : Unknown
unfolding whole accepted condition_record_up_to
unknown newest other s acc h =
    let x = accept (whole (condition_record_up_to other) s) acc in
    let y = split (heading mark other s 0) _ (whole_read (condition_record_up_to other) s x.read) in
    small (leb (length s) 32768) refl (heading_refused newest other s h y.first)
  where
    small : (b : Bool) → leb (length s) 32768 ≡ b → heading mark newest s 0 ≡ bad OtherVersion → whole (condition_record_up_to newest) s ≡ bad OtherVersion
    small true i e = rw (i, e)
    small false i e = absurd (false≢true (rw i at acc))
