-- Examples of binders in their own bodies, from the bytes of the records to the answers, under two statements: `Hold lines`, what the flat and the own-body check
-- or Sums says of a condition under the target `view`, and `Hold witnesses`, which of the four conditions hold of it and what all four of these say.
use Rattle.std.specs.Prelude.{ℕ, Bool, true, false, List, [], ◌∷◌, ◌++◌, length}
use Rattle.std.proofs.Math.Option.{none}
use Rattle.names.specs.Fields.{whole}
use Rattle.names.specs.Read.{value_or}
use Rattle.names.specs.Text.{text}
use Rattle.schema.specs.Schema.{Schema, schema_record}
use Rattle.targets.specs.Targets.{Targets, target_record}
use Rattle.condition.specs.Condition.{Condition}
use Rattle.condition.specs.Places.{record_in}
use Rattle.walk.specs.Scopes.{Binding, flat, own}
use Rattle.reports.specs.Reports.{Outcome}
use Rattle.reports.specs.Decode.{reports}
use Rattle.typecheck.specs.Check.{check_with}
use Rattle.sums.specs.Sums.{sums_with}
use Rattle.claims.specs.Rows.{Row, of_all}
use Rattle.claims.specs.WholeRun.{schema_bytes, target_bytes}
use Rattle.claims.specs.StrictExamples.{Told, one}
use Rattle.claims.specs.VisitsExamples.{lent}
use Rattle.claims.specs.WindowExamples.{Answered, answered, of_version, spanned, node, call}
use Rattle.claims.specs.OwnBodies.{all_binders, each_once, none_like_input, none_in_arguments, each_in_body}

-- ---- conditions

abbrev pub string : List ℕ → List ℕ
string w = length w ∷ w

-- `name: type`, and a slot that has no name
abbrev pub typed : List ℕ → List ℕ → List ℕ
typed name type = 0 ∷ (string name ++ (1 ∷ string type))

abbrev pub unnamed : List ℕ → List ℕ
unnamed type = 1 ∷ 1 ∷ string type

abbrev pub long : List ℕ
long = typed (text "v") (text "Long")

abbrev pub words : List ℕ
words = typed (text "v") (text "String")

abbrev pub both : List ℕ → List ℕ → List ℕ
both left right = node 1 (left ++ right)

abbrev pub exists : List ℕ → List ℕ → List ℕ
exists binder body = node 9 (binder ++ body)

abbrev pub equal : List ℕ → List ℕ → List ℕ
equal left right = node 8 (4 ∷ (left ++ right))

abbrev pub timepoint : List ℕ → List ℕ
timepoint name = node 10 (0 ∷ string name)

-- a predicate with one argument
abbrev pub asking : List ℕ → List ℕ
asking value = node 7 (spanned (0 ∷ 0 ∷ 1 ∷ 0 ∷ 0 ∷ value))

-- the terms `1`, `"s"`, `v`, `[t]`, `t + u`
abbrev pub integer : List ℕ
integer = 2 ∷ []

abbrev pub letters : List ℕ
letters = 4 ∷ []

abbrev pub v : List ℕ
v = 8 ∷ string (text "v")

abbrev pub only : List ℕ → List ℕ
only t = 10 ∷ 1 ∷ t

abbrev pub plus : List ℕ → List ℕ → List ℕ
plus t u = 12 ∷ (t ++ u)

-- `count for (..) body` and `sum v for (..) body` with so many binders
abbrev pub counting : ℕ → List ℕ → List ℕ → List ℕ
counting many list body = 11 ∷ node 2 (many ∷ (list ++ body))

abbrev pub summing : ℕ → List ℕ → List ℕ → List ℕ
summing many list body = 11 ∷ node 1 (0 ∷ (string (text "v") ++ (many ∷ (list ++ body))))

-- ---- what is asked

-- so many reports
abbrev pub counted : ℕ → Answered
counted n = record { number = 0; which = 0; count = n }

-- the rules that choose a binding, and nothing else
abbrev pub choosing : Binding → ℕ
choosing flat = 0
choosing own = 2

abbrev pub check_of : Binding → List ℕ → List ℕ → Outcome
check_of binding schema condition = (check_with (choosing binding) schema (of_version 1 condition) target_bytes (lent 200)).outcome

abbrev pub sums_of : Binding → List ℕ → Outcome
sums_of binding condition = sums_with (choosing binding) (of_version 1 condition) (lent 200)

-- how many reports a check has
abbrev pub checks : Binding → List ℕ → ℕ → Row
checks binding condition n = of_all (Unit {0}) (λ x. answered (check_of binding schema_bytes condition)) (counted n)

-- and Sums
abbrev pub adds : Binding → List ℕ → ℕ → Row
adds binding condition n = of_all (Unit {0}) (λ x. answered (sums_of binding condition)) (counted n)

-- the one report, at 0 to 0
abbrev pub told : Outcome → Told
told o = record { number = o.answer.number; record_number = o.answer.record_number; says = reports o.answer.count o.buffer }

abbrev pub tells : (Unit {0} → Outcome) → List ℕ → Row
tells asked message = of_all (Unit {0}) (λ x. told (asked x)) (one 0 0 message)

-- ---- the conditions of several rows

-- a schema whose action `view` has the input field `v: String`
abbrev pub with_input : List ℕ
with_input =
    (0x44 ∷ 0x57 ∷ 0x53 ∷ 0 ∷ 1 ∷ 0 ∷ 0 ∷ 0 ∷ 1 ∷ string (text "Action")) ++ string (text "view")
    ++ (0 ∷ 0 ∷ 6 ∷ 1 ∷ string (text "input")) ++ (6 ∷ 1 ∷ string (text "v")) ++ (1 ∷ [])

-- `(exists v: Long. f()) and v == "s"`, and the same with `v == 1`
abbrev pub outside : List ℕ
outside = both (exists long call) (equal v letters)

abbrev pub outside_of : List ℕ
outside_of = both (exists long call) (equal v integer)

-- `exists v: Long. ((exists v: String. f()) and v == 1)`
abbrev pub reused : List ℕ
reused = exists long (both (exists words call) (equal v integer))

-- a predicate whose argument is `sum v for (v: String) f()`
abbrev pub summed : List ℕ
summed = asking (summing 1 words call)

-- `exists v: Long. v == 1`
abbrev pub proper : List ℕ
proper = exists long (equal v integer)

abbrev pub lines : List Row
lines =
    -- what a binder covers: not what stands beside its body
    checks flat outside 1
    ∷ checks own outside 0
    -- nor the other operand
    ∷ checks flat (equal (counting 1 words call) v) 1
    ∷ checks own (equal (counting 1 words call) v) 0
    -- nor a sibling's body: each aggregate has its own list
    ∷ checks flat (equal (counting 1 words (equal v integer)) (counting 1 long call)) 0
    ∷ checks own (equal (counting 1 words (equal v integer)) (counting 1 long call)) 1
    -- the innermost counts, and the last in one list
    ∷ checks own reused 0
    ∷ checks flat reused 1
    ∷ checks own (exists long (exists words (equal v integer))) 1
    ∷ checks own (equal integer (counting 2 (long ++ words) (equal v integer))) 1
    ∷ checks own (equal integer (counting 2 (words ++ long) (equal v integer))) 0
    -- else the input field, as if there were no binder
    ∷ of_all (Unit {0}) (λ x. answered (check_of flat with_input outside_of)) (counted 0)
    ∷ tells (λ x. check_of own with_input outside_of) (text "equality requires both sides to have the same type, got `string` and `int`")
    -- what a use is: the name of a `tp`
    ∷ checks flat (both (exists (typed (text "t") (text "Long")) call) (timepoint (text "t"))) 1
    ∷ checks own (both (exists (typed (text "t") (text "Long")) call) (timepoint (text "t"))) 0
    ∷ checks own (exists (typed (text "t") (text "Long")) (timepoint (text "t"))) 1
    -- a slot without a name hides nothing
    ∷ checks own (exists long (exists (unnamed (text "String")) (equal v letters))) 1
    -- `[v]` is mixed
    ∷ checks own (exists long (equal (only v) (only integer))) 1
    -- under an operand's arithmetic
    ∷ tells (λ x. check_of own schema_bytes (exists words (equal (plus v integer) integer))) (text "arithmetic operates only on `Long` values, but this operand has type `string`")
    -- Sums: the aggregate's own list, else the innermost around the aggregate
    ∷ adds flat (both (equal integer (summing 1 long call)) (exists words call)) 1
    ∷ adds own (both (equal integer (summing 1 long call)) (exists words call)) 0
    ∷ tells (λ x. sums_of own (exists words (equal integer (summing 0 [] call)))) (text "cannot sum `v`: sum requires a `Long` summand, but `v` is `String`.")
    -- a binder inside the body does not cover the summand, nor does a sibling's list
    ∷ adds own (equal integer (summing 0 [] (exists words call))) 0
    ∷ adds own (equal (counting 1 words call) (summing 0 [] call)) 0
    -- a sum in a predicate argument; its body is not entered
    ∷ adds flat summed 0
    ∷ adds own summed 1
    ∷ adds own (asking (counting 0 [] (equal integer (summing 1 words call)))) 0
    ∷ []

-- ---- which of the four conditions are needed

-- the four, and how many reports there are: of the flat check, the own-body check, flat Sums, own-body Sums
pub record Tried : Type 0 where
  pub once : Bool
  pub apart : Bool
  pub outside : Bool
  pub inside : Bool
  pub flat_check : ℕ
  pub own_check : ℕ
  pub flat_sums : ℕ
  pub own_sums : ℕ

abbrev pub tried : List ℕ → List ℕ → Tried
tried schema condition =
    let s : Schema = value_or (record { entities = []; actions = [] }) (whole schema_record schema) in
    let c : Condition = record_in (of_version 1 condition) in
    let ts : Targets = value_or (record { scope = record { principal = none; resource = none }; list = [] }) (whole target_record target_bytes) in
    record {
      once = each_once (all_binders c);
      apart = none_like_input s ts (all_binders c);
      outside = none_in_arguments c;
      inside = each_in_body (all_binders c) c;
      flat_check = (check_of flat schema condition).answer.count;
      own_check = (check_of own schema condition).answer.count;
      flat_sums = (sums_of flat condition).answer.count;
      own_sums = (sums_of own condition).answer.count;
    }

abbrev pub tries : List ℕ → List ℕ → Tried → Row
tries schema condition answer = of_all (Unit {0}) (λ x. tried schema condition) answer

abbrev pub witnesses : List Row
witnesses =
    -- a name declared twice, and nothing else amiss: the checks differ
    tries schema_bytes reused (record { once = false; apart = true; outside = true; inside = true; flat_check = 1; own_check = 0; flat_sums = 0; own_sums = 0 })
    -- an aggregate in a predicate argument, and nothing else amiss: Sums differ
    ∷ tries schema_bytes summed (record { once = true; apart = true; outside = false; inside = true; flat_check = 0; own_check = 0; flat_sums = 0; own_sums = 1 })
    -- a use outside its binder's body, and nothing else amiss: the checks differ
    ∷ tries schema_bytes outside (record { once = true; apart = true; outside = true; inside = false; flat_check = 1; own_check = 0; flat_sums = 0; own_sums = 0 })
    -- a summand outside its binder's body: Sums differ
    ∷ tries schema_bytes (equal (counting 1 words call) (summing 0 [] call)) (record { once = true; apart = true; outside = true; inside = false; flat_check = 0; own_check = 0; flat_sums = 1; own_sums = 0 })
    -- a binder named like an input field matters to a use outside its body, which then has the field's type
    ∷ tries with_input outside_of (record { once = true; apart = false; outside = true; inside = false; flat_check = 0; own_check = 1; flat_sums = 0; own_sums = 0 })
    -- and not to one inside: `ChecksAlike` does not ask for it
    ∷ tries with_input proper (record { once = true; apart = false; outside = true; inside = true; flat_check = 0; own_check = 0; flat_sums = 0; own_sums = 0 })
    -- all four hold
    ∷ tries schema_bytes proper (record { once = true; apart = true; outside = true; inside = true; flat_check = 0; own_check = 0; flat_sums = 0; own_sums = 0 })
    ∷ []
