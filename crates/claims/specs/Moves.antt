-- Changing the rule in the middle of a stepping check, from flat to own bodies. At every point after the first move the check so far is that of the targets done
-- before it, by the rules of the start, and of those done since, by own bodies, with no pair twice. `proofs/Moves.antt` proves it.
use Rattle.std.specs.Prelude.{ℕ, ◌≤◌, ◌≡◌, ◌⊎◌, ◌↔◌, List, [], ◌++◌, length}
use Rattle.names.specs.Lists.{gather}
use Rattle.schema.specs.Schema.{Schema}
use Rattle.schema.specs.Places.{schema_in}
use Rattle.condition.specs.Condition.{Condition}
use Rattle.condition.specs.Places.{record_in}
use Rattle.walk.specs.Scopes.{own, binding_of}
use Rattle.targets.specs.Targets.{Target, Targets}
use Rattle.reports.specs.Reports.{once, reported}
use Rattle.reports.specs.Decode.{reports}
use Rattle.reports.specs.Pairs.{◌∈◌, NoDup, Pair, pairs, space}
use Rattle.typecheck.specs.Check.{profile_of, choices_of, breaches_under, visits_under, begun, CheckOutcome}
use Rattle.typecheck.specs.Answers.{check_outcome_of}
use Rattle.steps.specs.declared.Steps.{Steps}
use Rattle.steps.specs.Steps.{own_bodies, move}
use Rattle.claims.specs.Written.{written}
use Rattle.claims.specs.Breaches.{PairOf, Run, under}
use Rattle.claims.specs.Steps.{Held, done_by, targets_of, check_so_far, StepOf, Call, History}

-- ---- a move

-- the rules that it leaves bind by own bodies; strict or plain stays; where they did before, it changes nothing
pub record OneWay (st : Steps) : Type 0 where
  pub binding : binding_of (move st).rules ≡ own
  pub profile : profile_of (move st).rules ≡ profile_of st.rules
  pub already : binding_of st.rules ≡ own → move st ≡ st
  pub again : move (move st) ≡ move st

-- as the contract of `dogwood_steps_move` has it
pub record MoveOf (before after : Held) : Type 0 where
  pub result : Steps
  pub contract : result ≡ move before.state
  pub leaves : after ≡ record { list = before.list; size = before.size; state = result; reports = before.reports }

module _ (schema_bytes condition_bytes : List ℕ) where
  -- any calls one after another, with moves among them
  pub data CallsAndMoves (first : Held) : Held → Type 0 where
    none : CallsAndMoves first first
    more : {before after : Held} → CallsAndMoves first before → Call schema_bytes condition_bytes before after → CallsAndMoves first after
    moves : {before after : Held} → CallsAndMoves first before → MoveOf before after → CallsAndMoves first after

  -- a history with a move: what was held at the first move, what it left, and what is held after any calls and moves since
  pub record MovedHistory (rules : ℕ) (old : List ℕ) (first split now : Held) : Type 0 where
    pub history : History schema_bytes condition_bytes rules old first split
    pub moved : Held
    pub move : MoveOf split moved
    pub calls : CallsAndMoves moved now

-- ---- what is claimed

-- a pair of a breach in the first part by the rules of the start, or in the second by own bodies
abbrev pub PairOfEither : ℕ → Schema → Condition → Targets → Targets → Pair → Type 0
PairOfEither rules s c front behind k = PairOf rules s c front k ⊎ PairOf (own_bodies rules) s c behind k

-- some pairs are the union of these, each listed once
pub record Union (rules : ℕ) (s : Schema) (c : Condition) (front behind : Targets) (ps : List Pair) : Type 0 where
  pub each : NoDup ps
  pub all : (k : Pair) → (k ∈ ps) ↔ PairOfEither rules s c front behind k

-- space for all reports of both parts
pub record SpaceForBoth (rules : ℕ) (s : Schema) (c : Condition) (front behind : Targets) (buffer : List ℕ) : Type 0 where
  pub room : (ps : List Pair) → Union rules s c front behind ps → space ps ≤ length buffer

-- one check over both parts, each by its own rules, whatever the space
abbrev pub both_checked : ℕ → Schema → Condition → Targets → Targets → List ℕ → CheckOutcome
both_checked rules s c front behind buffer =
    record {
      outcome =
          reported
          (once [] (gather (breaches_under (choices_of rules) s c front.scope) front.list ++ gather (breaches_under (choices_of (own_bodies rules)) s c behind.scope) behind.list))
          buffer;
      visits =
          begun buffer []
          (gather (visits_under (choices_of rules) s c front.scope) front.list ++ gather (visits_under (choices_of (own_bodies rules)) s c behind.scope) behind.list);
    }

-- the pairs that are reported so far, read off the buffer
abbrev pub pairs_so_far : Held → List Pair
pairs_so_far h = pairs (reports (check_so_far h).outcome.answer.count h.reports)

module _ (schema_bytes condition_bytes : List ℕ) where
  abbrev s : Schema
  s = schema_in schema_bytes

  abbrev c : Condition
  c = record_in condition_bytes

  -- with space for all
  pub record Both (rules : ℕ) (front behind : Targets) (now : Held) : Type 0 where
    pub number : (check_so_far now).outcome.answer.number ≡ 0
    pub pairs : Union rules s c front behind (pairs_so_far now)
    pub count : (ps : List Pair) → Union rules s c front behind ps → (check_so_far now).outcome.answer.count ≡ length ps
    -- the visits are as many as those of a check of all targets done by any rules, without a move
    pub visits : (any : ℕ) (r : Run any schema_bytes condition_bytes (written (done_by now))) → r.answer.number ≡ 0 → (check_so_far now).visits ≡ r.answer.visits

  pub record Moved (rules : ℕ) (old : List ℕ) (split now : Held) : Type 0 where
    -- the targets done are those done before the first move, then those done since
    pub since : List Target
    pub done : done_by now ≡ under (targets_of split).scope ((done_by split).list ++ since)
    pub check : check_so_far now ≡ both_checked rules s c (done_by split) (under (targets_of split).scope since) old
    pub both : SpaceForBoth rules s c (done_by split) (under (targets_of split).scope since) old → Both rules (done_by split) (under (targets_of split).scope since) now
    -- a step answers so for the targets done with it; after 11 it answers 11 and changes nothing
    pub each_step : (after : Held) (r : StepOf schema_bytes condition_bytes now after) → check_outcome_of r.result.answer after.reports ≡ check_so_far after
    pub after11 : (check_so_far now).outcome.answer.number ≡ 11 → (after : Held) → StepOf schema_bytes condition_bytes now after → after ≡ now
    -- a move changes no answer so far
    pub keeps : (after : Held) → MoveOf now after → check_so_far after ≡ check_so_far now

-- of all states, and of all records, rules, buffers and histories with a move
pub record Moving : Type 0 where
  pub one_way : (st : Steps) → OneWay st
  pub moved : (schema_bytes condition_bytes : List ℕ) (rules : ℕ) (old : List ℕ) (first split now : Held)
      → MovedHistory schema_bytes condition_bytes rules old first split now → Moved schema_bytes condition_bytes rules old split now
