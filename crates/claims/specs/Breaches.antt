-- Demand 3 in plain words: a breach under a target, the pairs (message, start) of a run, space for all reports, and the claim over runs of the check.
-- `proofs/Demand3.antt` proves it.
use Rattle.std.specs.Prelude.{ℕ, ◌+◌, ◌≤◌, ◌≡◌, true, ◌↔◌, List, ◌++◌, length, drop}
use Rattle.names.specs.Fields.{got, whole}
use Rattle.types.specs.Types.{dated}
use Rattle.schema.specs.Schema.{Schema, schema_record}
use Rattle.schema.specs.Find.{find_action}
use Rattle.condition.specs.Condition.{Condition, condition_record}
use Rattle.walk.specs.Scopes.{Scoped, binding_of, nodes_by}
use Rattle.targets.specs.Targets.{Target, Targets, Scope, target_record}
use Rattle.reports.specs.Reports.{Breach}
use Rattle.reports.specs.Decode.{reports}
use Rattle.reports.specs.Pairs.{◌∈◌, NoDup, Same, Pair, pair_of, pairs, space}
use Rattle.typecheck.specs.Check.{profile_of, breaches_at, is_checked, check_with}
use Rattle.typecheck.specs.Answers.{check_outcome_of}
use Rattle.typecheck.specs.declared.CheckAnswer.{CheckAnswer}
use Rattle.claims.specs.Written.{written}

-- three records that are accepted, and what they hold
pub record Accepted (schema_bytes condition_bytes target_bytes : List ℕ) (s : Schema) (c : Condition) (ts : Targets) : Type 0 where
  pub schema_end : ℕ
  pub schema : whole schema_record schema_bytes ≡ got s schema_end
  pub condition_end : ℕ
  pub condition : whole condition_record condition_bytes ≡ got c condition_end
  pub targets_end : ℕ
  pub targets : whole target_record target_bytes ≡ got ts targets_end

-- a breach: what the typing rules give at one reached node under one target, before repeats are dropped, with the caller's rules, which also say among which
-- binders the node's names are looked up
pub record BreachUnder (rules : ℕ) (s : Schema) (c : Condition) (scope : Scope) (t : Target) (b : Breach) : Type 0 where
  pub node : Scoped
  pub is_reached : node ∈ nodes_by (binding_of rules) c
  pub breaks : b ∈ breaches_at dated (profile_of rules) s scope (find_action s t.namespace t.id) node

-- a breach under one of the targets that are checked
pub record BreachOf (rules : ℕ) (s : Schema) (c : Condition) (ts : Targets) (b : Breach) : Type 0 where
  pub target : Target
  pub listed : target ∈ ts.list
  pub checked : is_checked s ts.scope target ≡ true
  pub breach : BreachUnder rules s c ts.scope target b

-- a pair (message, start) of such a breach
pub record PairOf (rules : ℕ) (s : Schema) (c : Condition) (ts : Targets) (k : Pair) : Type 0 where
  pub breach : Breach
  pub pair : k ≡ pair_of breach
  pub is_breach : BreachOf rules s c ts breach

-- some pairs are the different ones of the breaches, each listed once
pub record Different (rules : ℕ) (s : Schema) (c : Condition) (ts : Targets) (ps : List Pair) : Type 0 where
  pub each : NoDup ps
  pub all : (k : Pair) → (k ∈ ps) ↔ PairOf rules s c ts k

-- space for all reports: 10 bytes and the message's own for each different pair
pub record SpaceForAll (rules : ℕ) (s : Schema) (c : Condition) (ts : Targets) (buffer : List ℕ) : Type 0 where
  pub room : (ps : List Pair) → Different rules s c ts ps → space ps ≤ length buffer

-- a run over three records with the caller's rules, as the contract of `dogwood_check_with` has it: the answer, and the buffer before and after. One of
-- `dogwood_check` is a run with rules 0, since `check` is `check_with 0`
pub record Run (rules : ℕ) (schema_bytes condition_bytes target_bytes : List ℕ) : Type 0 where
  pub answer : CheckAnswer
  pub before : List ℕ
  pub after : List ℕ
  pub contract : check_outcome_of answer after ≡ check_with rules schema_bytes condition_bytes target_bytes before

-- the pairs that a run reported, read off its buffer
abbrev pub reported_pairs : {rules : ℕ} {schema_bytes condition_bytes target_bytes : List ℕ} → Run rules schema_bytes condition_bytes target_bytes → List Pair
reported_pairs r = pairs (reports r.answer.count r.after)

-- the pairs that are in both of two lists, each listed once
pub record Shared (a b shared : List Pair) : Type 0 where
  pub each : NoDup shared
  pub all : (k : Pair) → (k ∈ shared) ↔ ((k ∈ a) × (k ∈ b))

-- a target list under a narrowing
abbrev pub under : Scope → List Target → Targets
under scope list = record { scope = scope; list = list }

module _ (rules : ℕ) (schema_bytes condition_bytes : List ℕ) (s : Schema) (c : Condition) where
  -- what is claimed of one run
  pub record Exact (target_bytes : List ℕ) (ts : Targets) (r : Run rules schema_bytes condition_bytes target_bytes) : Type 0 where
    pub number : r.answer.number ≡ 0
    -- the reports are exactly the different pairs among the breaches under the targets that are checked, each once
    pub pairs : Different rules s c ts (reported_pairs r)
    -- the count is their number
    pub count : (ps : List Pair) → Different rules s c ts ps → r.answer.count ≡ length ps
    -- 0 exactly where there is no such breach
    pub none : (r.answer.count ≡ 0) ↔ ((b : Breach) → BreachOf rules s c ts b → ⊥)
    -- the bytes behind the reports are as they were
    pub rest : drop (space (reported_pairs r)) r.after ≡ drop (space (reported_pairs r)) r.before

  -- one list: its reports are exactly the different pairs of its breaches
  abbrev pub Alone : Type 0
  Alone =
      (target_bytes : List ℕ) (ts : Targets) → Accepted schema_bytes condition_bytes target_bytes s c ts
      → (r : Run rules schema_bytes condition_bytes target_bytes) → SpaceForAll rules s c ts r.before
      → Exact target_bytes ts r

  -- a list's record is accepted, and its runs
  abbrev pub Taken : Targets → Type 0
  Taken ts = Accepted schema_bytes condition_bytes (written ts) s c ts

  abbrev pub RunOf : Targets → Type 0
  RunOf ts = Run rules schema_bytes condition_bytes (written ts)

  -- count(A then B) = count(A) + count(B) - the number of pairs reported both for A and for B
  pub record Counts (front behind all : Targets) (a : RunOf front) (b : RunOf behind) (ab : RunOf all) : Type 0 where
    pub shared : List Pair
    pub is_shared : Shared (reported_pairs a) (reported_pairs b) shared
    pub count : (ps : List Pair) → Shared (reported_pairs a) (reported_pairs b) ps → ab.answer.count + length ps ≡ a.answer.count + b.answer.count

  -- two lists under one narrowing, of which only the joined one is known to be accepted: either is accepted by itself, and the counts join
  pub record Joining (front behind all : Targets) : Type 0 where
    pub taken_front : Taken front
    pub taken_behind : Taken behind
    pub counts : (a : RunOf front) (b : RunOf behind) (ab : RunOf all)
        → SpaceForAll rules s c front a.before → SpaceForAll rules s c behind b.before → SpaceForAll rules s c all ab.before
        → Counts front behind all a b ab

  abbrev pub Joined : Type 0
  Joined = (scope : Scope) (front behind : List Target) → Taken (under scope (front ++ behind))
      → Joining (under scope front) (under scope behind) (under scope (front ++ behind))

  -- two lists with the same targets, whatever their order and repeats: the same pairs, and as many
  abbrev pub Alike : Type 0
  Alike =
      (scope : Scope) (front behind : List Target) → Taken (under scope front) → Taken (under scope behind) → Same front behind
      → (a : RunOf (under scope front)) (b : RunOf (under scope behind))
      → SpaceForAll rules s c (under scope front) a.before → SpaceForAll rules s c (under scope behind) b.before
      → Same (reported_pairs a) (reported_pairs b) × (a.answer.count ≡ b.answer.count)

  -- demand 3, one claim over whole target lists, with any rules: for every accepted schema, condition, narrowing and list with space for all reports, whatever the
  -- buffers held before
  pub record Claim : Type 0 where
    pub alone : Alone
    pub joined : Joined
    pub alike : Alike
    -- `written` leaves out no record: one that is accepted is the one that is written
    pub no_other : (target_bytes : List ℕ) (ts : Targets) → Accepted schema_bytes condition_bytes target_bytes s c ts → target_bytes ≡ written ts
