-- A move from flat to own bodies in the middle of a stepping check: `moving` is the claim of `specs/Moves.antt`. Assumes nothing.
use mathlib.Core.Path.{◌≡◌, refl, sym, ap, ap₂, subst, ◌∙◌}
use mathlib.Core.Bool.{Bool, true, false, cond}
use mathlib.Core.Logic.{inl, inr, ⊎_elim, ◌↔◌}
use mathlib.Core.List.{List, [], ◌++◌, append-nil, map-append}
use Prim.Native.Nat.{ℕ, ◌+◌, ◌*◌, ◌/◌, ◌%◌, ◌≤◌}
use native.Mathlib.Omega.{arith}
use lib.Dec.{eqb}
use lib.ListN.{length, length-append}
use borrow.Author.Tests.{eqb-true, eqb-false, eq-eqb}
use Rattle.names.specs.Lists.{gather, select}
use Rattle.names.specs.Laws.Lists.{gather_append}
use Rattle.schema.specs.Schema.{Schema}
use Rattle.schema.specs.Places.{schema_in}
use Rattle.condition.specs.Condition.{Condition}
use Rattle.condition.specs.Places.{record_in}
use Rattle.condition.specs.Walk.{reached}
use Rattle.walk.specs.Scopes.{flat, own, binding_of}
use Rattle.targets.specs.Targets.{Target, Targets, Scope}
use Rattle.reports.specs.Reports.{Breach, once, reported}
use Rattle.reports.specs.Pairs.{◌∈◌, NoDup, Same, Pair, pair_of, pairs, space}
use Rattle.reports.specs.Laws.Reports as laws
use Rattle.reports.specs.Laws.Sets.{in_left, in_right, in_append}
use Rattle.typecheck.specs.Check.{profile_of, choices_of, visits_under, begun, is_checked, CheckOutcome}
use Rattle.typecheck.specs.Run.{found_by}
use Rattle.typecheck.specs.Laws.Visits.{found_all}
use Rattle.steps.specs.declared.Steps.{Steps}
use Rattle.steps.specs.Steps.{own_bodies, move, so_far}
use Rattle.claims.specs.Written.{written}
use Rattle.claims.specs.Breaches.{Run, under}
use Rattle.claims.specs.Steps.{Held, done_in, done_by, check_so_far}
use Rattle.claims.specs.Moves.{OneWay, MoveOf, CallsAndMoves, none, more, moves, MovedHistory, PairOfEither, Union, SpaceForBoth, both_checked, pairs_so_far, Both, Moved, Moving}
use Rattle.claims.proofs.Demand3.{breaches, pair_of_lem}
use Rattle.claims.proofs.Visits.{all_begun, in_all, billed}
use Rattle.claims.proofs.StepsCalls.{Known}
use Rattle.claims.proofs.StepsHistory.{Fixed, started, Past, past, visits_by, Since, onward, onward_call}
use Rattle.claims.proofs.StepsDone.{number_stopped, accepted_with, made, done-is, done_read, check_made, step_answers, step_stopped}
use Rattle.claims.proofs.Steps.{at_start}

-- ---- a move

bit_set : (rules : ℕ) → own_bodies rules / 2 % 2 ≡ 1
unfolding own_bodies
bit_set rules = go (eqb (rules / 2 % 2) 1) refl
  where
    go : (b : Bool) → eqb (rules / 2 % 2) 1 ≡ b → cond b rules (rules + 2) / 2 % 2 ≡ 1
    go true e = eqb-true _ _ e
    go false e = let h = eqb-false (rules / 2 % 2) 1 e in omega arith

set_already : (rules : ℕ) → rules / 2 % 2 ≡ 1 → own_bodies rules ≡ rules
unfolding own_bodies
set_already rules e = ap (λ (b : Bool). cond b rules (rules + 2)) (eq-eqb (rules / 2 % 2) 1 e)

same_rest : (rules : ℕ) → own_bodies rules % 2 ≡ rules % 2
unfolding own_bodies
same_rest rules = go (eqb (rules / 2 % 2) 1)
  where
    go : (b : Bool) → cond b rules (rules + 2) % 2 ≡ rules % 2
    go true = refl
    go false = omega arith

bound_own : (rules : ℕ) → binding_of rules ≡ own → rules / 2 % 2 ≡ 1
unfolding binding_of
bound_own rules e = go (eqb (rules / 2 % 2) 1) refl e
  where
    go : (b : Bool) → eqb (rules / 2 % 2) 1 ≡ b → cond b own flat ≡ own → rules / 2 % 2 ≡ 1
    go true h i = eqb-true _ _ h
    go false h i = absurd (let z : ◌≡◌ {A = ℕ} 0 1 = cc in omega arith)

-- a state with other rules
abbrev ruled : Steps → ℕ → Steps
ruled st rules = record { rules = rules; stopped = st.stopped; marks = st.marks; used = st.used; visits = st.visits }

one_way_lem : (st : Steps) → OneWay st
unfolding move binding_of profile_of
one_way_lem st =
    record {
      binding = rw (bit_set st.rules);
      profile = rw (same_rest st.rules);
      already = λ e. ap (ruled st) (set_already st.rules (bound_own st.rules e));
      again = ap (ruled st) (set_already (own_bodies st.rules) (bit_set st.rules));
    }

-- no answer changes
move_keeps : (before after : Held) → MoveOf before after → check_so_far after ≡ check_so_far before
unfolding so_far move
move_keeps before after m = ap check_so_far m.leaves ∙ ap (λ (st : Steps). (so_far st before.reports).check) m.contract

-- ---- what is known goes on

module _ {before after : Held} (m : MoveOf before after) where
  moved_to : after ≡ record { list = before.list; size = before.size; state = ruled before.state (own_bodies before.state.rules); reports = before.reports }
  unfolding move
  moved_to = m.leaves ∙ ap (λ (st : Steps). record { list = before.list; size = before.size; state = st; reports = before.reports }) m.contract

  known_moved : (old : List ℕ) (scope : Scope) (list : List Target) (vs : List (List Breach)) → Known old scope list vs before → Known old scope list vs after
  known_moved old scope list vs so =
      subst (λ (h : Held). Known old scope list vs h) (sym moved_to)
      (record {
        end = so.end;
        read = so.read;
        marks = so.marks;
        log = record { bytes = so.log.bytes; used = so.log.used; stopped = so.log.stopped; visits = so.log.visits };
        few = so.few;
      })

module _ {schema_bytes condition_bytes old : List ℕ} (g : Fixed schema_bytes condition_bytes old) where
  abbrev Now : Past schema_bytes condition_bytes → Held → Type 0
  Now = Since schema_bytes condition_bytes old g

  -- the first move
  since_first : (p : Past schema_bytes condition_bytes) (before after : Held) (so : Now p before) → MoveOf before after → Now (past schema_bytes condition_bytes old g p before so (own_bodies p.rules)) after
  unfolding gather
  since_first p before after so m =
      record {
        list = so.list;
        behind = [];
        done = ap (λ (h : Held). done_in h.state.marks so.list) (moved_to m) ∙ so.done ∙ sym (append-nil (p.front ++ so.behind));
        known = rw append-nil (known_moved m old g.scope so.list _ so.known);
        same = ap (λ (h : Held). h.state.rules) (moved_to m) ∙ ap own_bodies so.same;
      }

  -- another
  since_move : (p : Past schema_bytes condition_bytes) → p.rules / 2 % 2 ≡ 1 → (before after : Held) → Now p before → MoveOf before after → Now p after
  since_move p e before after so m =
      record {
        list = so.list;
        behind = so.behind;
        done = ap (λ (h : Held). done_in h.state.marks so.list) (moved_to m) ∙ so.done;
        known = known_moved m old g.scope so.list _ so.known;
        same = ap (λ (h : Held). h.state.rules) (moved_to m) ∙ ap own_bodies so.same ∙ set_already p.rules e;
      }

  since_all : (p : Past schema_bytes condition_bytes) → p.rules / 2 % 2 ≡ 1 → (first now : Held) → Now p first → CallsAndMoves schema_bytes condition_bytes first now → Now p now
  since_all p e first now so none = so
  since_all p e first now so (more {before = mid} calls call) = (onward_call schema_bytes condition_bytes old g p mid now (since_all p e first mid so calls) call).since
  since_all p e first now so (moves {before = mid} calls m) = since_move p e mid now (since_all p e first mid so calls) m

-- ---- both parts

module _ {schema_bytes condition_bytes old : List ℕ} (g : Fixed schema_bytes condition_bytes old) (rules : ℕ) (front : List Target) where
  abbrev s : Schema
  s = schema_in schema_bytes

  abbrev c : Condition
  c = record_in condition_bytes

  -- what was done before the first move, and by which rules it goes on
  abbrev p : Past schema_bytes condition_bytes
  p = record { rules = own_bodies rules; front = front; earlier = gather (visits_by schema_bytes condition_bytes old g rules) front }

  module _ (h : Held) (so : Since schema_bytes condition_bytes old g p h) where
    abbrev A : Targets
    A = under g.scope front

    abbrev B : Targets
    B = under g.scope so.behind

    abbrev bs : List Breach
    bs = breaches rules s c A ++ breaches (own_bodies rules) s c B

    abbrev vs : List (List Breach)
    vs = made g p h so

    found_both : found_by vs ≡ bs
    found_both =
        gather_append (λ v. v) (gather (visits_under (choices_of rules) s c g.scope) front) (gather (visits_under (choices_of (own_bodies rules)) s c g.scope) so.behind)
        ∙ ap₂ (λ (x y : List Breach). x ++ y) (found_all (choices_of rules) s c g.scope front) (found_all (choices_of (own_bodies rules)) s c g.scope so.behind)

    check_both : check_so_far h ≡ both_checked rules s c A B old
    check_both = check_made g p h so ∙ ap (λ (l : List Breach). record { outcome = reported (once [] l) old; visits = begun old [] vs }) found_both

    run : (check_so_far h).outcome ≡ reported (once [] bs) old
    run = ap (λ (o : CheckOutcome). o.outcome) check_both

    -- their pairs
    either_of : (k : Pair) → (k ∈ pairs bs) ↔ PairOfEither rules s c A B k
    either_of k =
        let e : pairs bs ≡ pairs (breaches rules s c A) ++ pairs (breaches (own_bodies rules) s c B) = map-append pair_of (breaches rules s c A) (breaches (own_bodies rules) s c B) in
        let a = pair_of_lem rules s c A k in
        let b = pair_of_lem (own_bodies rules) s c B k in (
          (λ i. ⊎_elim (λ j. inl (a.0 j)) (λ j. inr (b.0 j)) (in_append k (pairs (breaches rules s c A)) (pairs (breaches (own_bodies rules) s c B)) (rw e at i))),
          (λ i. rw e (⊎_elim (λ j. in_left k (pairs (breaches rules s c A)) (pairs (breaches (own_bodies rules) s c B)) (a.1 j)) (λ j. in_right k (pairs (breaches rules s c A)) (pairs (breaches (own_bodies rules) s c B)) (b.1 j)) i)),
        )

    union_by : (ps : List Pair) → NoDup ps → Same ps (pairs bs) → Union rules s c A B ps
    union_by ps each all = record { each = each; all = λ k. ((λ i. (either_of k).0 ((all k).0 i)), (λ i. (all k).1 ((either_of k).1 i))) }

    -- as many visits as by one rule
    as_many : length vs ≡ length (select (is_checked s g.scope) (front ++ so.behind)) * length (reached c)
    as_many =
        let f : ℕ → Target → List (List Breach) = λ r. visits_under (choices_of r) s c g.scope in
        omega (
          arith,
          length-append (gather (f rules) front) (gather (f (own_bodies rules)) so.behind),
          in_all (choices_of (own_bodies rules)) s c g.scope so.behind,
          in_all (choices_of rules) s c g.scope so.behind,
          in_all (choices_of rules) s c g.scope (front ++ so.behind),
          ap length (gather_append (f rules) front so.behind),
          length-append (gather (f rules) front) (gather (f rules) so.behind),
        )

    module _ (room : SpaceForBoth rules s c A B old) where
      fits : space (pairs (once [] bs)) ≤ length old
      fits = room.room (pairs (once [] bs)) (union_by (pairs (once [] bs)) (laws.no_repeats bs) (laws.members bs))

      zero : (check_so_far h).outcome.answer.number ≡ 0
      zero = laws.run_zero bs old (check_so_far h).outcome run fits

      visits_as : (any : ℕ) (r : Run any schema_bytes condition_bytes (written (done_by h))) → r.answer.number ≡ 0 → (check_so_far h).visits ≡ r.answer.visits
      visits_as any r z =
          let all = all_begun old [] vs (sym (ap (λ (o : CheckOutcome). o.outcome.answer.number) (check_made g p h so)) ∙ zero) in
          let done = ((billed schema_bytes condition_bytes (written (done_by h)) s c (done_by h) (accepted_with g (written (done_by h)) (done_read g p h so))).visits any r).product z in
          ap (λ (o : CheckOutcome). o.visits) (check_made g p h so) ∙ all ∙ as_many
          ∙ ap (λ (ts : Targets). length (select (is_checked s ts.scope) ts.list) * length (reached c)) (sym (done-is g p h so)) ∙ sym done

      both : Both schema_bytes condition_bytes rules A B h
      unfolding so_far
      both =
          record {
            number = zero;
            pairs = union_by (pairs_so_far h) (laws.run_once bs old (check_so_far h).outcome run fits) (laws.run_members bs old (check_so_far h).outcome run fits);
            count = λ ps u. laws.run_count bs old (check_so_far h).outcome run fits ps u.each (λ k. ((λ i. (either_of k).1 ((u.all k).0 i)), (λ i. (u.all k).1 ((either_of k).0 i))));
            visits = visits_as;
          }

-- ---- the claim

moved : (schema_bytes condition_bytes : List ℕ) (rules : ℕ) (old : List ℕ) (first split now : Held) → MovedHistory schema_bytes condition_bytes rules old first split now → Moved schema_bytes condition_bytes rules old split now
moved schema_bytes condition_bytes rules old first split now history =
    let b = started schema_bytes condition_bytes rules old first history.history.start in
    let g = b.fixed in
    let before = (onward schema_bytes condition_bytes old g (start_of rules) first split (at_start b) history.history.calls).since in
    let so = since_all g (p g rules before.behind) (bit_set rules) history.moved now (since_first g (start_of rules) split history.moved before history.move) history.calls in
    at_both g rules before.behind split (sym (done-is g (start_of rules) split before)) now so
  where
    start_of : ℕ → Past schema_bytes condition_bytes
    start_of rules = record { rules = rules; front = []; earlier = [] }

    at_both : (g : Fixed schema_bytes condition_bytes old) (rules : ℕ) (front : List Target) (split : Held) → under g.scope front ≡ done_by split → (h : Held) (so : Since schema_bytes condition_bytes old g (p g rules front) h) → Moved schema_bytes condition_bytes rules old split h
    at_both g rules front split e h so =
        let q = p g rules front in
        record {
          since = so.behind;
          done = done-is g q h so ∙ ap (λ (ts : Targets). under ts.scope (ts.list ++ so.behind)) e;
          check = check_both g rules front h so ∙ ap (λ (ts : Targets). both_checked rules (schema_in schema_bytes) (record_in condition_bytes) ts (under ts.scope so.behind) old) e;
          both =
              subst
              (λ (ts : Targets). SpaceForBoth rules (schema_in schema_bytes) (record_in condition_bytes) ts (under ts.scope so.behind) old → Both schema_bytes condition_bytes rules ts (under ts.scope so.behind) h)
              e (both g rules front h so);
          each_step = step_answers g q h so;
          after11 = λ f after r. step_stopped g q h so after r (number_stopped h f);
          keeps = move_keeps h;
        }

pub moving : Moving
moving = record { one_way = one_way_lem; moved = moved }
