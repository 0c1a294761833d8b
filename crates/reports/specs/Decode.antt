-- A report's bytes, and the breaches read back from them. Assumes nothing.
use Rattle.std.specs.Prelude.{◌≡◌, refl, ℕ, zero, suc, ◌+◌, ◌≤◌, length}
use Rattle.std.proofs.Math.Path.{sym, ap}
use Rattle.std.proofs.Common.{ap₂, ◌∙◌, arith, length-append, drop-drop}
use mathlib.Core.List.{List, [], ◌∷◌, ◌++◌, append_assoc}
use Rattle.std.proofs.Math.ListN.{take, drop}
use Rattle.std.proofs.Math.Seq.{take-append_seam, drop-append_seam}
use Rattle.names.specs.Lists.{gather}
use Rattle.names.specs.Fields.{number, digits}
use Rattle.names.specs.Laws.Fields.{length_digits, number_front, behind_digits}
use Rattle.reports.specs.Reports.{Breach, encoded}

-- what stands before a report's message: start, end, and the message's length
unfoldable pub header : ℕ → ℕ → ℕ → List ℕ
header start end long = digits 4 start ++ digits 4 end ++ digits 2 long

pub length_header : (start end long : ℕ) → length (header start end long) ≡ 10
unfolding header
length_header start end long = simp (length-append, length_digits)

pub encoded_parts : (b : Breach) → encoded b ≡ header b.start b.end (length b.message) ++ b.message
unfolding encoded header
encoded_parts b = refl

-- how many bytes a report takes, and those of a list of breaches
abbrev pub width : Breach → ℕ
width b = length (encoded b)

pub width_is : (b : Breach) → width b ≡ 10 + length b.message
width_is b = rw (encoded_parts, length-append, length_header)

unfoldable pub size : List Breach → ℕ
size bs = length (gather encoded bs)

-- where the bytes begin with a report: the length of its message, the report, and the bytes behind it
abbrev pub long : List ℕ → ℕ
long s = number 0 (take 2 (drop 8 s))

-- the length of the message of a report that stands at a place
abbrev pub long_at : List ℕ → ℕ → ℕ
long_at s at = number 0 (take 2 (drop (at + 8) s))

unfoldable pub report : List ℕ → Breach
report s = record { start = number 0 (take 4 s); end = number 0 (take 4 (drop 4 s)); message = take (long s) (drop 10 s) }

unfoldable pub behind : List ℕ → List ℕ
behind s = drop (10 + long s) s

-- the first n reports
unfoldable pub reports : ℕ → List ℕ → List Breach
reports zero s = []
reports (suc n) s = report s ∷ reports n (behind s)

-- n whole reports are there
unfoldable pub Whole : ℕ → List ℕ → Type 0
Whole zero s = Unit {0}
Whole (suc n) s = (10 + long s ≤ length s) × Whole n (behind s)

-- a report at the front of the bytes
module _ (b : Breach) (t : List ℕ) where
  abbrev m : List ℕ
  m = b.message

  -- what follows the start, the end and the length
  abbrev t₂ : List ℕ
  t₂ = m ++ t

  abbrev t₁ : List ℕ
  t₁ = digits 2 (length m) ++ t₂

  abbrev t₀ : List ℕ
  t₀ = digits 4 b.end ++ t₁

  in_front : encoded b ++ t ≡ digits 4 b.start ++ t₀
  unfolding encoded
  in_front = simp append_assoc

  after_start : drop 4 (encoded b ++ t) ≡ t₀
  after_start = ap (drop 4) in_front ∙ behind_digits 4 b.start t₀

  after-end : drop 8 (encoded b ++ t) ≡ t₁
  after-end = sym (drop-drop 4 4 (encoded b ++ t)) ∙ ap (drop 4) after_start ∙ behind_digits 4 b.end t₁

  after_length : drop 10 (encoded b ++ t) ≡ t₂
  after_length = sym (drop-drop 2 8 (encoded b ++ t)) ∙ ap (drop 2) after-end ∙ behind_digits 2 (length m) t₂

  long_encoded : long (encoded b ++ t) ≡ length m
  long_encoded = ap (λ (s : List ℕ). number 0 (take 2 s)) after-end ∙ number_front 1 (length m) t₂

  pub report_encoded : report (encoded b ++ t) ≡ b
  unfolding report
  report_encoded = λ i. record {
    start = (ap (λ (s : List ℕ). number 0 (take 4 s)) in_front ∙ number_front 3 b.start t₀) i;
    end = (ap (λ (s : List ℕ). number 0 (take 4 s)) after_start ∙ number_front 3 b.end t₁) i;
    message = (ap₂ take long_encoded after_length ∙ take-append_seam m t) i;
  }

  pub behind_encoded : behind (encoded b ++ t) ≡ t
  unfolding behind
  behind_encoded = ap (λ (n : ℕ). drop (10 + n) (encoded b ++ t)) long_encoded ∙ sym (drop-drop (length m) 10 (encoded b ++ t)) ∙ ap (drop (length m)) after_length ∙ drop-append_seam m t

  pub fits_encoded : 10 + long (encoded b ++ t) ≤ length (encoded b ++ t)
  fits_encoded = rw (long_encoded, length-append, width_is) (omega arith)

pub reports_encoded : (bs : List Breach) (t : List ℕ) → reports (length bs) (gather encoded bs ++ t) ≡ bs
unfolding reports gather
reports_encoded [] t = refl
reports_encoded (b ∷ bs) t = rw (append_assoc, report_encoded, behind_encoded, reports_encoded bs t)

pub whole_encoded : (bs : List Breach) (t : List ℕ) → Whole (length bs) (gather encoded bs ++ t)
unfolding Whole gather
whole_encoded [] t = tt
whole_encoded (b ∷ bs) t = rw append_assoc (fits_encoded b (gather encoded bs ++ t), rw behind_encoded (whole_encoded bs t))
