-- The stepping check: a list of targets of which each position is pending, done or withdrawn. A step does the first pending one; between steps targets are
-- appended, or a pending one is withdrawn, and no position ever moves.
-- The caller holds all of it: the list is record 3, the reports stand in the buffer, and the state says what those two do not. Nothing is assumed of any of them.
use Rattle.std.specs.Prelude.{ℕ, ◌+◌, ◌-◌, ◌/◌, ◌%◌, Bool, cond, ◌&&◌, ◌||◌, List, [], ◌∷◌, ◌++◌, length, get_or, set, take, drop, replicate, ltb, eqb}
use Rattle.std.proofs.Math.Option.{Option, none, some}
use Rattle.names.specs.Lists.{maybe}
use Rattle.names.specs.Fields.{either, whole}
use Rattle.schema.specs.Schema.{Schema}
use Rattle.condition.specs.Condition.{Condition}
use Rattle.targets.specs.Targets.{Target, Targets, Scope, target_record}
use Rattle.targets.specs.Appending.{alone_target, with_one_more}
use Rattle.reports.specs.declared.State.{State}
use Rattle.reports.specs.Reports.{Outcome, refusal}
use Rattle.reports.specs.Placed.{placed}
use Rattle.reports.specs.Sink.{answer, push_all}
use Rattle.reports.specs.Standing.{standing, resumed}
use Rattle.typecheck.specs.Check.{Choices, choices_of, breaches_under, visits_under, CheckOutcome, unvisited}
use Rattle.typecheck.specs.Run.{reading, by_reading, begun_from}
use Rattle.steps.specs.declared.Steps.{Steps}

-- ---- the list

-- What a mark says of its position: 0 pending, 1 done, 2 withdrawn. (A state that was not left by these calls may have others: they are those of positions that
-- are not pending.)
abbrev pub pending : ℕ
pending = 0

abbrev pub done : ℕ
done = 1

abbrev pub withdrawn : ℕ
withdrawn = 2

unfoldable pub is_pending : List ℕ → ℕ → Bool
is_pending marks i = eqb (get_or marks i pending) pending

-- the first pending target, with its position, of those that stand from a position on
unfoldable pub first_pending : List ℕ → ℕ → List Target → Option (ℕ × Target)
first_pending marks i [] = none
first_pending marks i (t ∷ rest) = cond (is_pending marks i) (some (i, t)) (first_pending marks (i + 1) rest)

-- the state with another mark at a position
abbrev pub marked : Steps → ℕ → ℕ → Steps
marked st i mark = record { rules = st.rules; stopped = st.stopped; marks = set st.marks i mark; used = st.used; visits = st.visits }

-- ---- what a call gives: the answer, the buffer and the visits as a check has them, and the state to hand in next
pub record SteppedOutcome : Type 0 where
  pub check : CheckOutcome
  pub state : Steps

-- a refused call changes nothing
abbrev pub unchanged : Steps → List ℕ → ℕ → ℕ → SteppedOutcome
unchanged st buffer number rec = record { check = unvisited number rec buffer; state = st }

-- ---- the start: the records are read as Check reads them, and no target is done. (No buffer is lent.)
unfoldable pub begins : ℕ → Steps
begins rules = record { rules = rules; stopped = 0; marks = replicate 256 pending; used = 0; visits = 0 }

unfoldable pub start : ℕ → List ℕ → List ℕ → List ℕ → SteppedOutcome
start rules schema_bytes condition_bytes target_bytes =
    by_reading (unchanged (begins rules) []) (λ s c ts. unchanged (begins rules) [] 0 0) (reading schema_bytes condition_bytes target_bytes)

-- ---- a step

-- the answer of the check so far, which is the answer again where no target is done any more
unfoldable pub so_far : Steps → List ℕ → SteppedOutcome
so_far st buffer =
    record {
      check =
          record {
            outcome =
                record {
                  answer = record { number = cond (eqb st.stopped 0) 0 11; record_number = 0; count = length (standing (take st.used buffer)) };
                  buffer = buffer;
                };
            visits = st.visits;
          };
      state = st;
    }

-- a number of visits as the state holds it: those above 2^32 - 1 are that many
unfoldable pub capped : ℕ → ℕ
capped n = cond (ltb n 4294967296) n 4294967295

-- the target at a position is done: the reports before it and after it, the visits begun for it, and the bytes that it leaves
unfoldable pub done_with : Steps → ℕ → State → State → ℕ → List ℕ → SteppedOutcome
done_with st i before after begun bytes =
    let visits = capped (st.visits + begun) in
    record {
      check = record { outcome = record { answer = answer after; buffer = bytes }; visits = visits };
      state =
          record {
            rules = st.rules;
            stopped = cond after.full 1 0;
            marks = set st.marks i done;
            used = st.used + (after.used - before.used);
            visits = visits;
          };
    }

-- a target done: what it breaks goes behind the earlier reports, as far as it is new and fits; it is done whether all fits or not
unfoldable pub doing : Choices → Schema → Condition → Scope → Steps → List ℕ → ℕ × Target → SteppedOutcome
doing k s c scope st buffer (i, t) =
    let before = resumed st.used buffer in
    let after = push_all before (breaches_under k s c scope t) in
    done_with st i before.state after.state (begun_from before (visits_under k s c scope t)) (after.bytes ++ drop (length after.bytes) buffer)

-- the first pending target is done, nothing where none is pending, and nothing after one that did not fit
unfoldable pub step_over : Choices → Schema → Condition → Targets → Steps → List ℕ → SteppedOutcome
step_over k s c ts st buffer =
    cond (eqb st.stopped 0)
    (maybe (so_far st buffer) (doing k s c ts.scope st buffer) (first_pending st.marks 0 ts.list))
    (so_far st buffer)

unfoldable pub step : Steps → List ℕ → List ℕ → List ℕ → List ℕ → SteppedOutcome
step st schema_bytes condition_bytes target_bytes buffer =
    by_reading (unchanged st buffer) (λ s c ts. step_over (choices_of st.rules) s c ts st buffer) (reading schema_bytes condition_bytes target_bytes)

-- ---- between steps

-- A target appended to a list that was read, which stands at the front of a buffer: the target is read as record 3; 18 where the list would have more than
-- 255 targets or 32,768 bytes; 11 where the buffer has no room for it. The count is the list's new length
unfoldable pub append_to : List ℕ → List ℕ → Targets → List ℕ → Outcome
append_to buffer list ts new =
    either (λ r. refusal r 3 buffer)
    (λ t. cond (ltb 254 (length ts.list) || ltb 32768 (length list + length new)) (refusal 18 0 buffer) (placed (with_one_more list new) buffer))
    (alone_target new 0)

-- the list is the first `used` bytes of the buffer, all of it where it is shorter, and is read before the target
unfoldable pub append : List ℕ → ℕ → List ℕ → Outcome
append buffer used new =
    let list = take used buffer in
    either (λ r. refusal r 3 buffer) (λ ts. append_to buffer list ts new) (whole target_record list)

-- a pending target withdrawn by its position; 19 where it is done, withdrawn or absent. (No buffer is lent.)
unfoldable pub withdraw : Steps → List ℕ → ℕ → SteppedOutcome
withdraw st target_bytes position =
    either (λ r. unchanged st [] r 3)
    (λ ts. cond (ltb position (length ts.list) && is_pending st.marks position)
    (unchanged (marked st position withdrawn) [] 0 0)
    (unchanged st [] 19 0))
    (whole target_record target_bytes)

-- ---- the rule is changed

-- rules with bit 1 (value 2) set, so that each binder has its own body; nothing changes where it is set already
unfoldable pub own_bodies : ℕ → ℕ
own_bodies rules = cond (eqb (rules / 2 % 2) 1) rules (rules + 2)

-- From flat to own bodies, one way: the targets done later follow the new rule, and nothing else of the state changes. No record is read, and nothing is refused
unfoldable pub move : Steps → Steps
move st = record { rules = own_bodies st.rules; stopped = st.stopped; marks = st.marks; used = st.used; visits = st.visits }
