-- An output that is written whole or not at all, as bytes at the front of a lent buffer. Assumes nothing.
use Rattle.std.specs.Prelude.{ℕ, ◌≤◌, ◌<◌, ◌≡◌, cond, List, ◌++◌, length, drop, leb}
use Rattle.std.proofs.Common.{◌∙◌, zero-add, arith, le-leb}
use Rattle.std.proofs.lemmas.Bool.{lt-leb}
use Rattle.names.specs.Writer.{store, Stored}
use Rattle.reports.specs.declared.Answer.{Answer}
use Rattle.reports.specs.Reports.{Outcome, refusal}
use Rattle.reports.specs.Answers.{outcome_of, Refuses}

-- the output at the front of the buffer and how many bytes it has, or 11 and the buffer as it was
unfoldable pub placed : List ℕ → List ℕ → Outcome
placed out buffer =
    cond (leb (length out) (length buffer))
    (record {
      answer = record { number = 0; record_number = 0; count = length out };
      buffer = out ++ drop (length out) buffer;
    })
    (refusal 11 0 buffer)

-- the code's answer where so many bytes were written
pub record Writes (count : ℕ) (r : Answer) : Type 0 where
  pub is : (s : List ℕ) → outcome_of r s ≡ record { answer = record { number = 0; record_number = 0; count = count }; buffer = s }

-- what an entry point says: the output was written, or there was no room for it
pub placed-fits : (out b : List ℕ) (t : List ℕ) (r : ℕ) → Stored b 0 out t r → (a : Answer) → Writes r a → outcome_of a t ≡ placed out b
unfolding placed store outcome_of
placed-fits out b t r i a w =
    let h : length out ≤ length b = omega (arith, i.room) in
    let e : r ≡ length out = omega (arith, i.next) in
    let k : t ≡ out ++ drop (length out) b = i.bytes ∙ rw zero-add in
    w.is t ∙ rw (le-leb (length out) (length b) h, k, e)

pub placed_not : (out b : List ℕ) → length b < length out → (a : Answer) → Refuses 11 0 a → outcome_of a b ≡ placed out b
unfolding placed
placed_not out b h a i = i.is b ∙ rw (lt-leb (length out) (length b) h)
