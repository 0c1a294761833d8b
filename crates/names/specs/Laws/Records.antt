-- A whole record: its size, its front and its end, whatever stands between. Assumes nothing.
use Rattle.std.proofs.Common.{◌≡◌, sym, ◌∙◌}
use Rattle.std.specs.Prelude.{Bool, cond, List, ℕ, ◌≤◌, ◌<◌, leb, eqb, length, Ok, Err}
use Rattle.std.proofs.Common.{arith, le-leb}
use Rattle.std.proofs.Math.Bool.{true, false}
use Rattle.std.proofs.lemmas.Bool.{lt-leb}
use Rattle.names.specs.Fields.{got, bad, Reader, ◌>>=◌, heading, finished, whole, holds}
use Rattle.names.specs.Read.{ending, Read}
use Rattle.names.specs.Laws.Readers.{stops, goes}
use Rattle.names.specs.declared.refusal.Refusal.{Refusal}
use Rattle.names.specs.declared.refusal.Refusal.TheVariants.{TooLong, BytesAfter}

-- by the size
module _ {A : Type 0} (f : Reader A) (s : List ℕ) where
  pub too_long : 32768 < length s → Err TooLong ≡ ending (whole f s)
  unfolding whole ending
  too_long h = rw (lt-leb _ _ h)

  pub not_long : length s ≤ 32768 → (x : Read) → x ≡ ending (f s 0) → x ≡ ending (whole f s)
  unfolding whole
  not_long h x e = rw (le-leb _ _ h) e

-- What follows the front of a record answers for the record.
module _ {B : Type 0} (mark : List ℕ) (newest : ℕ) (s : List ℕ) (f : ℕ → Reader B) (x : Read) (is : x ≡ ending (whole (heading mark newest) s)) where
  pub start_stops : (r : Refusal) → x ≡ Err r → Err r ≡ ending (whole (heading mark newest >>= f) s)
  unfolding whole ending
  start_stops r e = go (leb (length s) 32768) is
    where
      go : (b : Bool) → x ≡ ending (cond b (heading mark newest s 0) (bad TooLong)) → Err r ≡ ending (cond b ((heading mark newest >>= f) s 0) (bad TooLong))
      go true i = stops (heading mark newest s 0) (λ v n. f v s n) e i
      go false i = sym e ∙ i

  pub start_goes : (p : ℕ) → x ≡ Ok p → {y : Read} → ((v : ℕ) → heading mark newest s 0 ≡ got v p → y ≡ ending (f v s p)) → y ≡ ending (whole (heading mark newest >>= f) s)
  unfolding whole ending
  start_goes p e {y} rest = go (leb (length s) 32768) is
    where
      go : (b : Bool) → x ≡ ending (cond b (heading mark newest s 0) (bad TooLong)) → y ≡ ending (cond b ((heading mark newest >>= f) s 0) (bad TooLong))
      go true i = goes (heading mark newest s 0) (λ v n. f v s n) e i rest
      go false i = let z : ◌≡◌ {A = ℕ} 0 1 = cc in absurd (omega arith)

-- The end of a record, whatever its value.
pub at-end : {A : Type 0} (a : A) (s : List ℕ) (at : ℕ) (x : Read) → x ≡ ending (finished at s at) → x ≡ ending (finished a s at)
unfolding finished ending
at-end a s at x e = go (eqb at (length s)) e
  where
    go : (b : Bool) → x ≡ ending (holds BytesAfter b at s at) → x ≡ ending (holds BytesAfter b a s at)
    go true i = i
    go false i = i
