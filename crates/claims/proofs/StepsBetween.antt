-- Between steps: a target is appended or withdrawn, and what is known goes on; and a call that is refused changes nothing. Assumes nothing.
use mathlib.Core.Path.{◌≡◌, refl, sym, ap, ap₂, subst, ◌∙◌}
use mathlib.Core.Bool.{Bool, true, false, cond, ◌&&◌, ◌||◌}
use mathlib.Core.List.{List, [], ◌∷◌, ◌++◌}
use mathlib.Core.Option.{Option, none, some}
use Prim.Native.Nat.{ℕ, ◌+◌, ◌≤◌, ◌<◌}
use native.Mathlib.Omega.{arith}
use lib.Dec.{ltb, leb, eqb}
use lib.ListN.{length, take, drop}
use lib.Seq.{take-append_seam}
use borrow.Author.Tests.{eqb-true, ltb-true, ltb-false, ne_eqb}
use Rattle.names.specs.Lists.{maybe}
use Rattle.names.specs.Fields.{Got, got, bad, either, bytes, whole, number_of}
use Rattle.schema.specs.Schema.{Schema}
use Rattle.condition.specs.Condition.{Condition}
use Rattle.targets.specs.Targets.{Target, Targets, Scope, target_record}
use Rattle.targets.specs.Appending.{alone_target, with_one_more}
use Rattle.reports.specs.Reports.{Breach, Outcome, refusal}
use Rattle.reports.specs.Placed.{placed}
use Rattle.reports.specs.Answers.{outcome_of}
use Rattle.typecheck.specs.Check.{Choices, choices_of, CheckOutcome}
use Rattle.typecheck.specs.Answers.{check_outcome_of}
use Rattle.typecheck.specs.Run.{Reading, refused, read, reading, by_reading}
use Rattle.steps.specs.declared.Steps.{Steps}
use Rattle.steps.specs.Steps.{SteppedOutcome, is_pending, first_pending, unchanged, marked, so_far, done_with, doing, step_over, step, append_to, append, withdraw}
use Rattle.steps.specs.Answers.{stepped_of}
use Rattle.claims.specs.Breaches.{under}
use Rattle.claims.specs.Steps.{Held, record_of, done_in, StepOf, AppendOf, WithdrawOf, Refused}
use Rattle.claims.proofs.StepsList.{at, done_more, marks_more, set_stays, withdraw_marks, withdraw_done}
use Rattle.claims.proofs.StepsRecord.{alone, one_more}
use Rattle.claims.proofs.StepsCalls.{Known, step_left, step_answer}
use Rattle.names.specs.declared.refusal.Refusal.{Refusal}
use Rattle.names.specs.declared.refusal.Refusal.TheVariants.{TooLong, Cut, OtherMark, OtherVersion, UndefinedChoice, OutsideClass, TooDeep, NotAscending, AggregateBelowArray, BytesAfter, NoSpace, NoSuchTarget, WindowOutOfRange, NoPeriod, MalformedDecimal, DecimalOutOfRange, ListFull, NotPending}

-- ---- no refusal has the number 0

never_0 : (r : Refusal) → number_of r ≡ 0 → ⊥
never_0 TooLong e = omega arith
never_0 Cut e = omega arith
never_0 OtherMark e = omega arith
never_0 OtherVersion e = omega arith
never_0 UndefinedChoice e = omega arith
never_0 OutsideClass e = omega arith
never_0 TooDeep e = omega arith
never_0 NotAscending e = omega arith
never_0 AggregateBelowArray e = omega arith
never_0 BytesAfter e = omega arith
never_0 NoSpace e = omega arith
never_0 NoSuchTarget e = omega arith
never_0 WindowOutOfRange e = omega arith
never_0 NoPeriod e = omega arith
never_0 MalformedDecimal e = omega arith
never_0 DecimalOutOfRange e = omega arith
never_0 ListFull e = omega arith
never_0 NotPending e = omega arith

-- ---- an outcome that is refused keeps the buffer

module _ (buffer : List ℕ) where
  abbrev Kept : Outcome → Type 0
  Kept o = (o.answer.number ≡ 0 → ⊥) → o.buffer ≡ buffer

  placed_kept : (out : List ℕ) → Kept (placed out buffer)
  unfolding placed
  placed_kept out = go (leb (length out) (length buffer)) _ _
    where
      go : (b : Bool) (count : ℕ) (bytes : List ℕ) → Kept (cond b (record { answer = record { number = 0; record_number = 0; count = count }; buffer = bytes }) (refusal 11 0 buffer))
      go true count bytes h = absurd (h refl)
      go false count bytes h = refl

  to_kept : (list : List ℕ) (ts : Targets) (new : List ℕ) → Kept (append_to buffer list ts new)
  unfolding append_to
  to_kept list ts new = go (alone_target new 0) (ltb 254 (length ts.list) || ltb 32768 (length list + length new))
    where
      go : (g : Got Target) (b : Bool) → Kept (either (λ r. refusal r 3 buffer) (λ t. cond b (refusal 18 0 buffer) (placed (with_one_more list new) buffer)) g)
      go (bad r) b h = refl
      go (got t n) true h = refl
      go (got t n) false h = placed_kept (with_one_more list new) h

  append_kept : (used : ℕ) (new : List ℕ) → Kept (append buffer used new)
  unfolding append
  append_kept used new = go (whole target_record (take used buffer))
    where
      go : (g : Got Targets) → Kept (either (λ r. refusal r 3 buffer) (λ ts. append_to buffer (take used buffer) ts new) g)
      go (bad r) h = refl
      go (got ts n) h = to_kept (take used buffer) ts new h

withdraw_kept : (st : Steps) (bytes : List ℕ) (position : ℕ) → ((withdraw st bytes position).check.outcome.answer.number ≡ 0 → ⊥) → (withdraw st bytes position).state ≡ st
unfolding withdraw
withdraw_kept st bytes position = go (whole target_record bytes)
  where
    by_mark : (b : Bool) → ((cond b (unchanged (marked st position 2) [] 0 0) (unchanged st [] 19 0)).check.outcome.answer.number ≡ 0 → ⊥) → (cond b (unchanged (marked st position 2) [] 0 0) (unchanged st [] 19 0)).state ≡ st
    by_mark true h = absurd (h refl)
    by_mark false h = refl

    go : (g : Got Targets) → ((either (λ r. unchanged st [] r 3) (λ ts. cond (ltb position (length ts.list) && is_pending st.marks position) (unchanged (marked st position 2) [] 0 0) (unchanged st [] 19 0)) g).check.outcome.answer.number ≡ 0 → ⊥)
        → (either (λ r. unchanged st [] r 3) (λ ts. cond (ltb position (length ts.list) && is_pending st.marks position) (unchanged (marked st position 2) [] 0 0) (unchanged st [] 19 0)) g).state ≡ st
    go (bad r) h = refl
    go (got ts n) h = by_mark (ltb position (length ts.list) && is_pending st.marks position) h

-- what is read is answered with record 0
over_zero : (k : Choices) (s : Schema) (c : Condition) (ts : Targets) (st : Steps) (buffer : List ℕ) → (step_over k s c ts st buffer).check.outcome.answer.record_number ≡ 0
unfolding step_over so_far doing done_with
over_zero k s c ts st buffer = go (eqb st.stopped 0) (first_pending st.marks 0 ts.list)
  where
    go : (b : Bool) (o : Option (ℕ × Target)) → (cond b (maybe (so_far st buffer) (doing k s c ts.scope st buffer) o) (so_far st buffer)).check.outcome.answer.record_number ≡ 0
    go false o = refl
    go true none = refl
    go true (some p) = refl

step_kept : (st : Steps) (s c bytes buffer : List ℕ) → let o = step st s c bytes buffer in
    (o.check.outcome.answer.record_number ≡ 0 → ⊥) → (o.state ≡ st) × (o.check.outcome.buffer ≡ buffer)
unfolding step
step_kept st s c bytes buffer = go (reading s c bytes)
  where
    go : (g : Reading) → let o = by_reading (unchanged st buffer) (λ s c ts. step_over (choices_of st.rules) s c ts st buffer) g in
        (o.check.outcome.answer.record_number ≡ 0 → ⊥) → (o.state ≡ st) × (o.check.outcome.buffer ≡ buffer)
    go (refused number which) h = (refl, refl)
    go (read s c ts) h = absurd (h (over_zero (choices_of st.rules) s c ts st buffer))

-- ---- what a call leaves

module _ (schema_bytes condition_bytes : List ℕ) (before after : Held) where
  -- an appended target
  module _ (r : AppendOf schema_bytes condition_bytes before after) (o : Outcome) (e : append before.list before.size r.new ≡ o) where
    append_left : after ≡ record { list = o.buffer; size = cond (eqb o.answer.number 0) o.answer.count before.size; state = before.state; reports = before.reports }
    unfolding outcome_of
    append_left =
        r.leaves
        ∙ λ i. record {
          list = ((r.contract ∙ e) i).buffer;
          size = cond (eqb ((r.contract ∙ e) i).answer.number 0) ((r.contract ∙ e) i).answer.count before.size;
          state = before.state;
          reports = before.reports;
        }

    append_number : r.result.number ≡ o.answer.number
    unfolding outcome_of
    append_number = λ i. ((r.contract ∙ e) i).answer.number

  -- a withdrawn one
  module _ (r : WithdrawOf schema_bytes condition_bytes before after) (o : SteppedOutcome) (e : withdraw before.state (record_of before) r.position ≡ o) where
    withdraw_left : after ≡ record { list = before.list; size = before.size; state = o.state; reports = before.reports }
    unfolding stepped_of
    withdraw_left = r.leaves ∙ λ i. record { list = before.list; size = before.size; state = ((r.contract ∙ e) i).state; reports = before.reports }

    withdraw_number : r.result.answer.number ≡ o.check.outcome.answer.number
    unfolding stepped_of check_outcome_of
    withdraw_number = λ i. ((r.contract ∙ e) i).check.outcome.answer.number

  -- ---- refused

  append_same : (r : AppendOf schema_bytes condition_bytes before after) → (r.result.number ≡ 0 → ⊥) → after ≡ before
  append_same r h =
      let o = append before.list before.size r.new in
      let number = append_number r o refl in
      append_left r o refl
      ∙ ap₂ (λ (l : List ℕ) (b : Bool). record { list = l; size = cond b o.answer.count before.size; state = before.state; reports = before.reports })
      (append_kept before.list before.size r.new (λ z. h (number ∙ z))) (ne_eqb o.answer.number 0 (λ z. h (number ∙ z)))

  withdraw_same : (r : WithdrawOf schema_bytes condition_bytes before after) → (r.result.answer.number ≡ 0 → ⊥) → after ≡ before
  withdraw_same r h =
      let o = withdraw before.state (record_of before) r.position in
      let number = withdraw_number r o refl in
      withdraw_left r o refl
      ∙ ap (λ (st : Steps). record { list = before.list; size = before.size; state = st; reports = before.reports })
      (withdraw_kept before.state (record_of before) r.position (λ z. h (number ∙ z)))

  step_same : (r : StepOf schema_bytes condition_bytes before after) → (r.result.answer.record ≡ 0 → ⊥) → after ≡ before
  unfolding check_outcome_of
  step_same r h =
      let o = step before.state schema_bytes condition_bytes (record_of before) before.reports in
      let which = step_answer schema_bytes condition_bytes before after r o refl in
      let same = step_kept before.state schema_bytes condition_bytes (record_of before) before.reports (λ z. h (ap (λ (x : CheckOutcome). x.outcome.answer.record_number) which ∙ z)) in
      step_left schema_bytes condition_bytes before after r o refl
      ∙ λ i. record { list = before.list; size = before.size; state = same.0 i; reports = same.1 i }

  pub refused_same : Refused schema_bytes condition_bytes before after
  refused_same = record { steps = step_same; appends = append_same; withdraws = withdraw_same }

  -- ---- what is known afterwards

  module _ (old : List ℕ) (scope : Scope) (list : List Target) (vs : List (List Breach)) (so : Known old scope list vs before) where
    -- a target that was appended
    pub record More (new : List ℕ) : Type 0 where
      pub target : Target
      pub given : alone_target new 0 ≡ got target (length new)
      pub known : Known old scope (list ++ (target ∷ [])) vs after
      pub state : after.state ≡ before.state
      pub done : done_in after.state.marks (list ++ (target ∷ [])) ≡ done_in before.state.marks list

    -- one that was withdrawn
    pub record Fewer : Type 0 where
      pub known : Known old scope list vs after
      pub rules : after.state.rules ≡ before.state.rules
      pub stopped : after.state.stopped ≡ before.state.stopped
      pub done : done_in after.state.marks list ≡ done_in before.state.marks list
      pub marks : (i : ℕ) → (at before.state.marks i ≡ 0 → ⊥) → at after.state.marks i ≡ at before.state.marks i

    module _ (r : AppendOf schema_bytes condition_bytes before after) (z : r.result.number ≡ 0) where
      abbrev rec : List ℕ
      rec = record_of before

      abbrev out : List ℕ
      out = with_one_more rec r.new

      -- the record with it stands at the front of the buffer
      record Placed : Type 0 where
        own : Target
        end : ℕ
        alone : alone_target r.new 0 ≡ got own end
        few : length list ≤ 254
        short : length rec + length r.new ≤ 32768
        is : append before.list before.size r.new ≡ record { answer = record { number = 0; record_number = 0; count = length out }; buffer = out ++ drop (length out) before.list }

      read_so : append before.list before.size r.new ≡ append_to before.list rec (under scope list) r.new
      unfolding append
      read_so = rw so.read

      zero : (append_to before.list rec (under scope list) r.new).answer.number ≡ 0
      zero = sym (append_number r _ read_so) ∙ z

      is_placed : Placed
      unfolding append_to placed
      is_placed = go (alone_target r.new 0) refl (ltb 254 (length list)) refl (ltb 32768 (length rec + length r.new)) refl (leb (length out) (length before.list)) refl
        where
          go : (g : Got Target) → alone_target r.new 0 ≡ g → (a : Bool) → ltb 254 (length list) ≡ a → (b : Bool) → ltb 32768 (length rec + length r.new) ≡ b
              → (d : Bool) → leb (length out) (length before.list) ≡ d → Placed
          go (bad x) e a ea b eb d ed = absurd (never_0 x (rw e at zero))
          go (got t n) e true ea b eb d ed = absurd (let y : ◌≡◌ {A = ℕ} 18 0 = rw (e, ea) at zero in omega arith)
          go (got t n) e false ea true eb d ed = absurd (let y : ◌≡◌ {A = ℕ} 18 0 = rw (e, ea, eb) at zero in omega arith)
          go (got t n) e false ea false eb false ed = absurd (let y : ◌≡◌ {A = ℕ} 11 0 = rw (e, ea, eb, ed) at zero in omega arith)
          go (got t n) e false ea false eb true ed =
              record { own = t; end = n; alone = e; few = ltb-false _ _ ea; short = ltb-false _ _ eb; is = read_so ∙ rw (e, ea, eb, ed) }

      pub append_more : More r.new
      append_more =
          let p = is_placed in
          let t = p.own in
          let l = alone r.new p.alone in
          let to : Held = record { list = out ++ drop (length out) before.list; size = length out; state = before.state; reports = before.reports } in
          let is : after ≡ to = append_left r _ p.is in
          let done = done_more before.state.marks list so.marks t in
          record {
            target = t;
            given = p.alone ∙ ap (got t) l.end;
            known =
                subst (λ (h : Held). Known old scope (list ++ (t ∷ [])) vs h) (sym is)
                (record {
                  end = length out;
                  read = ap (whole target_record) (take-append_seam out (drop (length out) before.list)) ∙ one_more rec so.read r.new p.alone p.short;
                  marks = marks_more before.state.marks list so.marks t (omega (arith, p.few));
                  log = so.log;
                  few = omega (arith, so.few, ap length done);
                });
            state = ap (λ (h : Held). h.state) is;
            done = ap (λ (h : Held). done_in h.state.marks (list ++ (t ∷ []))) is ∙ done;
          }

    module _ (r : WithdrawOf schema_bytes condition_bytes before after) (z : r.result.answer.number ≡ 0) where
      abbrev st : Steps
      st = before.state

      abbrev p : ℕ
      p = r.position

      -- a target of the list that is pending
      record Marked : Type 0 where
        inside : p < length list
        waits : at st.marks p ≡ 0
        is : withdraw st (record_of before) p ≡ unchanged (marked st p 2) [] 0 0

      is_marked : Marked
      unfolding withdraw is_pending
      is_marked = go (ltb p (length list)) refl (eqb (at st.marks p) 0) refl
        where
          by : withdraw st (record_of before) p ≡ cond (ltb p (length list) && is_pending st.marks p) (unchanged (marked st p 2) [] 0 0) (unchanged st [] 19 0)
          by = rw so.read

          zero : (cond (ltb p (length list) && is_pending st.marks p) (unchanged (marked st p 2) [] 0 0) (unchanged st [] 19 0)).check.outcome.answer.number ≡ 0
          zero = sym (withdraw_number r _ by) ∙ z

          go : (a : Bool) → ltb p (length list) ≡ a → (b : Bool) → eqb (at st.marks p) 0 ≡ b → Marked
          go false ea b eb = absurd (let y : ◌≡◌ {A = ℕ} 19 0 = rw ea at zero in omega arith)
          go true ea false eb = absurd (let y : ◌≡◌ {A = ℕ} 19 0 = rw (ea, eb) at zero in omega arith)
          go true ea true eb = record { inside = ltb-true _ _ ea; waits = eqb-true _ _ eb; is = by ∙ rw (ea, eb) }

      pub withdraw_fewer : Fewer
      withdraw_fewer =
          let m = is_marked in
          let to : Held = record { list = before.list; size = before.size; state = marked st p 2; reports = before.reports } in
          let is : after ≡ to = withdraw_left r _ m.is in
          let done = withdraw_done st.marks list so.marks p m.inside m.waits in
          record {
            known =
                subst (λ (h : Held). Known old scope list vs h) (sym is)
                (record {
                  end = so.end;
                  read = so.read;
                  marks = withdraw_marks st.marks list so.marks p m.inside m.waits;
                  log = record { bytes = so.log.bytes; used = so.log.used; stopped = so.log.stopped; visits = so.log.visits };
                  few = omega (arith, so.few, ap length done);
                });
            rules = ap (λ (h : Held). h.state.rules) is;
            stopped = ap (λ (h : Held). h.state.stopped) is;
            done = ap (λ (h : Held). done_in h.state.marks list) is ∙ done;
            marks = λ i h. ap (λ (h : Held). at h.state.marks i) is ∙ set_stays st.marks list so.marks p 2 m.waits i h;
          }
