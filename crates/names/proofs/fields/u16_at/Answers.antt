use Rattle.std.proofs.Common.{◌≡◌, List, [], ◌∷◌, ℕ, ◌+◌, ◌*◌, length, get_or, arith, ◌∙◌, ap}
use Rattle.names.specs.Fields.{number}
use Rattle.names.proofs.fields.u16_at.Goals as goal

two : (w : List ℕ) → length w ≡ 2 → get_or w 0 0 * 256 + get_or w 1 0 ≡ number 0 w
unfolding number
two [] h = absurd (omega arith)
two (a ∷ []) h = absurd (omega arith)
two (a ∷ b ∷ []) h = omega arith
two (a ∷ b ∷ c ∷ w) h = absurd (omega arith)

one : (w : List ℕ) → length w ≡ 1 → get_or w 0 0 ≡ number 0 w
unfolding number
one [] h = absurd (omega arith)
one (a ∷ []) h = omega arith
one (a ∷ b ∷ w) h = absurd (omega arith)

none : (w : List ℕ) → length w ≡ 0 → 0 ≡ number 0 w
unfolding number
none [] h = omega arith
none (a ∷ w) h = absurd (omega arith)

pub returns-in-len1 : goal.returns-in-len1
returns-in-len1 c = c.wide.ensures.value ∙ one c.part_of.result.now (omega arith) ∙ ap (number 0) c.part_of.ensures

pub returns-in-len2 : goal.returns-in-len2
returns-in-len2 c = c.from.ensures ∙ c.from_be_bytes.ensures ∙ two c.part_of.result.now (omega arith) ∙ ap (number 0) c.part_of.ensures

pub returns-in_default : goal.returns-in_default
returns-in_default c = none c.part_of.result.now (omega arith) ∙ ap (number 0) c.part_of.ensures
