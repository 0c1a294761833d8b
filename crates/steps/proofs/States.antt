-- The state: as it begins, after a target, and in an answer. Assumes nothing.
use mathlib.Core.Path.{◌≡◌, refl, ap, ◌∙◌}
use mathlib.Core.Bool.{Bool, true, false, cond}
use mathlib.Core.List.{[]}
use Prim.Native.Nat.{ℕ, ◌+◌, ◌-◌, ◌<◌, min}
use native.Mathlib.Omega.{arith}
use borrow.Author.Rules.{rules}
use borrow.Author.Tests.{ltb-true, ltb-false}
use lib.Dec.{ltb}
use lib.ListN.{set, replicate}
use Rattle.std.specs.Prelude.{Result, Ok, Err}
use Rattle.std.specs.Result.{OkIff, result_unwrap_or}
use Rattle.reports.specs.declared.Answer.{Answer}
use Rattle.reports.specs.declared.State.{State}
use Rattle.reports.specs.Reports.{Outcome}
use Rattle.reports.specs.Sink.{sink, outcome}
use Rattle.reports.specs.Answers.{Answers, Refuses}
use Rattle.typecheck.specs.declared.CheckAnswer.{CheckAnswer}
use Rattle.typecheck.specs.Answers.{WithVisits}
use Rattle.steps.specs.declared.Steps.{Steps}
use Rattle.steps.specs.Steps.{begins, capped, done_with}
use Rattle.steps.specs.Answers.{stepped_of}
use Rattle.steps.specs.Parts.{Answered, Told, Grown}

pub begun : (rules : ℕ) → record { rules = rules; stopped = 0; marks = replicate 256 0; used = 0; visits = 0 } ≡ begins rules
unfolding begins
begun rules = refl

-- the visits, up to the most that the state holds
min_capped : (n : ℕ) → min n 4294967295 ≡ capped n
unfolding capped
min_capped n = go (ltb n 4294967296) refl
  where
    go : (b : Bool) → ltb n 4294967296 ≡ b → min n 4294967295 ≡ cond b n 4294967295
    go true h = omega (arith, ltb-true n 4294967296 h)
    go false h = omega (arith, ltb-false n 4294967296 h)

pub visits_sum : {E : Type 0} (visits more : ℕ) (x : Result ℕ E) → OkIff x (more < 4294967296) more → (m : ℕ) → m ≡ result_unwrap_or x 4294967295 → (sum : ℕ) → sum ≡ min (visits + m) 4294967295 → sum ≡ capped (visits + more)
visits_sum visits more (Ok k) i m e sum g = let q : sum ≡ min (visits + more) 4294967295 = omega arith in q ∙ min_capped (visits + more)
visits_sum visits more (Err k) i m e sum g = let q : sum ≡ min (visits + more) 4294967295 = omega arith in q ∙ min_capped (visits + more)

-- the bytes that are used
module _ (used before after : ℕ) (g : Grown used before after) where
  pub used_behind : before ≡ used → after ≡ used + (after - before)
  used_behind e = omega (arith, g.more)

  pub used_still : (before ≡ used → ⊥) → used ≡ used + (after - before)
  used_still e = omega (arith, g.behind e)

-- the state after a target
pub after_target : (st : Steps) (i : ℕ) (before after : State) (begun : ℕ) (stopped : ℕ) → stopped ≡ cond after.full 1 0 → (used : ℕ) → used ≡ st.used + (after.used - before.used) → (visits : ℕ) → visits ≡ capped (st.visits + begun)
    → record { rules = st.rules; stopped = stopped; marks = set st.marks i 1; used = used; visits = visits } ≡ (done_with st i before after begun []).state
unfolding done_with
after_target st i before after begun stopped f used g visits e = λ k. record { rules = st.rules; stopped = f k; marks = set st.marks i 1; used = g k; visits = e k }

-- an answer and the state
pub is_answered : (st : Steps) (number which : ℕ) (a : Answer) → Refuses number which a → (r : CheckAnswer) → WithVisits a 0 r → Answered st number which (record { answer = r; state = st })
unfolding stepped_of
is_answered st number which a f r w = record { is = λ s k. record { check = (w.is s ∙ ap (λ (o : Outcome). record { outcome = o; visits = 0 }) (f.is s)) k; state = st } }

-- that of a call that is done holds no report
module _ (held : State) (none : (held.used ≡ 0) × ((held.count ≡ 0) × (held.full ≡ false))) where
  holds_none : held ≡ record { used = 0; count = 0; full = false }
  holds_none = λ i. record { used = none.0 i; count = none.1.0 i; full = none.1.1 i }

  pub is_done : (st : Steps) (a : Answer) → Answers held a → (r : CheckAnswer) → WithVisits a 0 r → Answered st 0 0 (record { answer = r; state = st })
  unfolding stepped_of
  is_done st a f r w =
      record { is = λ s k. record { check = (w.is s ∙ ap (λ (o : Outcome). record { outcome = o; visits = 0 }) (f.is s ∙ ap (λ (h : State). outcome (sink s h)) holds_none)) k; state = st } }

pub is_told : (st : Steps) (held : State) (a : Answer) → Answers held a → (r : CheckAnswer) → WithVisits a st.visits r → Told st held (record { answer = r; state = st })
unfolding stepped_of
is_told st held a f r w = record { is = λ s k. record { check = (w.is s ∙ ap (λ (o : Outcome). record { outcome = o; visits = st.visits }) (f.is s)) k; state = st } }

pub ruleset states = (rules, begun, visits_sum, used_behind, used_still, after_target, is_answered, is_done, is_told)
