use Rattle.std.proofs.Common.{◌≡◌, List, [], ◌∷◌, ℕ, ◌+◌, ◌≤◌, length, get_or, take, drop, arith, add-zero, length-drop, get_or-drop, ◌∙◌}
use Rattle.std.specs.Int.{w32, from_be_bytes}
use Rattle.names.specs.Fields.{number}
use Rattle.names.proofs.fields.u32_at.Goals as goal

-- the number of the first four bytes
of_four : (t : List ℕ) → 4 ≤ length t → number 0 (take 4 t) ≡ from_be_bytes w32 (get_or t 0 0 ∷ get_or t 1 0 ∷ get_or t 2 0 ∷ get_or t 3 0 ∷ [])
unfolding number
of_four [] h = absurd (omega arith)
of_four (a ∷ []) h = absurd (omega arith)
of_four (a ∷ b ∷ []) h = absurd (omega arith)
of_four (a ∷ b ∷ c ∷ []) h = absurd (omega arith)
of_four (a ∷ b ∷ c ∷ d ∷ t) h = omega arith

at_place : (s : List ℕ) (at : ℕ) → at + 4 ≤ length s → from_be_bytes w32 (get_or s at 0 ∷ get_or s (at + 1) 0 ∷ get_or s (at + 2) 0 ∷ get_or s (at + 3) 0 ∷ []) ≡ number 0 (take 4 (drop at s))
at_place s at h = rw (of_four (drop at s) (simp length-drop (omega arith))) (simp (get_or-drop, add-zero))

pub returns : goal.returns
returns c = c.from_be_bytes.ensures ∙ at_place c.args.s.now c.args.at c.requires
