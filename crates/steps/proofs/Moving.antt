-- The rules with bit 1 set, and the state with them. Assumes nothing.
use mathlib.Core.Path.{◌≡◌, refl, sym, ap, ◌∙◌}
use mathlib.Core.Bool.{Bool, true, false, cond}
use Prim.Native.Nat.{ℕ, zero, suc, ◌+◌, ◌*◌, ◌/◌, ◌%◌, ◌^◌, ◌<◌}
use native.Mathlib.Omega.{arith}
use borrow.Author.Rules.{rules}
use lib.Dec.{eqb}
use Rattle.std.specs.Int.Bits.{bit_or, or_zero_r}
use Rattle.std.proofs.lemmas.Nat.{or_block}
use Rattle.steps.specs.declared.Steps.{Steps}
use Rattle.steps.specs.Steps.{own_bodies, move}

-- of the two lowest bits, bit 1 is set
or_low : (r : ℕ) → r < 4 → bit_or r 2 ≡ cond (eqb (r / 2 % 2) 1) r (r + 2)
or_low zero h = refl
or_low (suc zero) h = refl
or_low (suc (suc zero)) h = refl
or_low (suc (suc (suc zero))) h = refl
or_low (suc (suc (suc (suc r)))) h = absurd (omega arith)

past_cond : (b : Bool) (a r : ℕ) → a + cond b r (r + 2) ≡ cond b (a + r) (a + r + 2)
past_cond true a r = refl
past_cond false a r = omega arith

-- and the bits above them stay
own_set : (rules : ℕ) → bit_or rules 2 ≡ own_bodies rules
unfolding own_bodies
own_set rules = go (rules / 4) (rules % 4) (omega arith) (omega arith)
  where
    go : (a r : ℕ) → r < 4 → rules ≡ a * 2 ^ 2 + r → bit_or rules 2 ≡ cond (eqb (rules / 2 % 2) 1) rules (rules + 2)
    go a r h e =
        let bit : rules / 2 % 2 ≡ r / 2 % 2 = omega arith in
        let both : bit_or (a * 2 ^ 2 + r) (0 * 2 ^ 2 + 2) ≡ bit_or a 0 * 2 ^ 2 + bit_or r 2 = or_block 2 a 0 r 2 h (omega arith) in
        rw bit (ap (λ (n : ℕ). bit_or n 2) e ∙ both ∙ rw (or_zero_r a, or_low r h) (past_cond (eqb (r / 2 % 2) 1) (a * 2 ^ 2) r) ∙ ap (λ (n : ℕ). cond (eqb (r / 2 % 2) 1) n (n + 2)) (sym e))

pub moved : (st : Steps) → record { rules = bit_or st.rules 2; stopped = st.stopped; marks = st.marks; used = st.used; visits = st.visits } ≡ move st
unfolding move
moved st = ap (λ (n : ℕ). record { rules = n; stopped = st.stopped; marks = st.marks; used = st.used; visits = st.visits }) (own_set st.rules)

pub ruleset moving = (rules, moved)
