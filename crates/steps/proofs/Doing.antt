-- A target done, and the answer so far: from what the buffer held to what it holds. Assumes nothing.
use mathlib.Core.Path.{◌≡◌, sym, ap, ap₂, subst, ◌∙◌}
use mathlib.Core.Bool.{cond}
use mathlib.Core.List.{List, [], ◌++◌}
use Prim.Native.Nat.{ℕ, ◌≤◌}
use native.Mathlib.Omega.{arith}
use borrow.Author.Rules.{rules}
use borrow.Author.Tests.{ne_eqb}
use lib.Dec.{eqb}
use lib.ListN.{length, take, drop, length-take}
use lib.Seq.{length-take-le}
use Rattle.schema.specs.Schema.{Schema}
use Rattle.condition.specs.Condition.{Condition}
use Rattle.targets.specs.Targets.{Target, Scope}
use Rattle.reports.specs.declared.State.{State}
use Rattle.reports.specs.declared.Resumed.{Resumed}
use Rattle.reports.specs.Sink.{Sink, sink, stopped, push_all, Sound}
use Rattle.reports.specs.Standing.{standing_state, resumed, Resumes}
use Rattle.reports.specs.Laws.Standing.{push_all_used}
use Rattle.typecheck.specs.declared.Progress.{Progress}
use Rattle.typecheck.specs.Check.{Choices, breaches_under, visits_under}
use Rattle.typecheck.specs.Run.{found_by, Visited}
use Rattle.typecheck.specs.Laws.Visits.{found_under}
use Rattle.steps.specs.declared.Steps.{Steps}
use Rattle.steps.specs.declared.Stepped.{Stepped}
use Rattle.steps.specs.Steps.{so_far, done_with, doing}
use Rattle.steps.specs.Answers.{stepped_of}
use Rattle.steps.specs.Parts.{Told, Grown}

-- ---- a buffer that is handed back

module _ (b : List ℕ) (st : Steps) (r : Resumed) (h : Resumes b st.used r) where
  held-is : r.state ≡ standing_state (take st.used b)
  unfolding resumed
  held-is = ap (λ (s : Sink). s.state) h.is

  pub so_far_open : st.stopped ≡ 0 → (a : Stepped) → Told st r.state a → stepped_of a b ≡ so_far st b
  unfolding so_far standing_state
  so_far_open e a t = t.is b ∙ rw (held-is, e)

  pub so_far_stopped : (st.stopped ≡ 0 → ⊥) → (last : State) → last ≡ stopped r.state → (a : Stepped) → Told st last a → stepped_of a b ≡ so_far st b
  unfolding so_far standing_state
  so_far_stopped e last q a t = t.is b ∙ rw (q, held-is, ne_eqb st.stopped 0 e)

  -- the part of it that may be used
  before : sink (take r.size b) r.state ≡ resumed st.used b
  before = h.is

  pub held_sound : Sound (sink (take r.size b) r.state)
  held_sound = subst Sound (sym before) h.sound

  part_length : length (take r.size b) ≡ r.size
  part_length = length-take-le r.size b h.within

  -- where something else stands in the used bytes, the reports take all that may be used
  part_full : (r.state.used ≡ st.used → ⊥) → length (take r.size b) ≤ r.state.used
  unfolding resumed
  part_full e =
      let all : take r.size b ≡ cond (eqb (standing_state (take st.used b)).used st.used) b (take (standing_state (take st.used b)).used b) = ap (λ (s : Sink). s.bytes) before in
      let front : take r.size b ≡ take r.state.used b = all ∙ rw (← held-is, ne_eqb r.state.used st.used e) in
      rw (front, length-take) (omega arith)

  module _ (k : Choices) (s : Schema) (c : Condition) (scope : Scope) (t : Target) (bytes : List ℕ) (long : length bytes ≡ length (take r.size b)) (after : Progress) {table : List ℕ}
      (v : Visited (take r.size b) r.state (visits_under k s c scope t) bytes after table) where
    all_put : sink bytes after.state ≡ push_all (resumed st.used b) (breaches_under k s c scope t)
    all_put = v.pushed.is ∙ ap₂ push_all before (found_under k s c scope t)

    used_more : r.state.used ≤ after.state.used
    used_more = rw (ap (λ (s : Sink). s.state.used) v.pushed.is) (push_all_used (sink (take r.size b) r.state) (found_by (visits_under k s c scope t)))

    pub used_grown : Grown st.used r.state.used after.state.used
    used_grown = record { more = used_more; behind = λ e. omega (arith, part_full e, used_more, v.pushed.still.sound.within) }

    bytes_kept : bytes ++ drop r.size b ≡ bytes ++ drop (length bytes) b
    bytes_kept = ap (λ (n : ℕ). bytes ++ drop n b) (sym (long ∙ part_length))

    pub target_done : (i : ℕ) (st' : Steps) → st' ≡ (done_with st i r.state after.state after.visits []).state → (a : Stepped) → Told st' after.state a → stepped_of a (bytes ++ drop r.size b) ≡ doing k s c scope st b (i, t)
    unfolding doing done_with
    target_done i st' q a told = told.is (bytes ++ drop r.size b) ∙ rw (q, bytes_kept, ← all_put, ← before, v.counted)

pub ruleset doings = (rules, so_far_open, so_far_stopped, held_sound, used_grown, target_done)
