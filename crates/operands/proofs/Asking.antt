-- The operand of the comparison at a condition's root, its target and the records that are read before. Assumes nothing.
use mathlib.Core.Path.{◌≡◌, refl, sym, ap, ◌∙◌}
use mathlib.Core.Bool.{true}
use mathlib.Core.List.{List}
use mathlib.Core.Option.{none, some}
use Prim.Native.Nat.{ℕ}
use borrow.Author.Rules.{rules}
use lib.Seq.{length-take-le}
use Rattle.names.specs.Fields.{whole}
use Rattle.names.specs.Read.{Found}
use Rattle.types.specs.Types.{plain}
use Rattle.types.specs.declared.Profile.{Profile}
use Rattle.schema.specs.Schema.{schema_record}
use Rattle.schema.specs.Find.{find_action}
use Rattle.schema.specs.Places.{is_schema, schema_in, is_action, action_in, found_in, found_stands, FindsAction, ActionsOf}
use Rattle.targets.specs.Targets.{target_record}
use Rattle.targets.specs.PathRecord.{target_at}
use Rattle.targets.specs.Places.{targets_in, is_target, target_in, FindsTarget}
use Rattle.condition.specs.Condition.{Condition, one, two, predicate, comparison, exists, tp, opaque, condition_record}
use Rattle.nodes.specs.Kinds.{kind_of, span_of, kind_number}
use Rattle.nodes.specs.Laws.Numbers.{not_comparison}
use Rattle.nodes.specs.declared.Kind.{Kind}
use Rattle.condition.specs.Places.{is_record, record_in, is_condition, condition_in, is_term, term_in}
use Rattle.nodes.specs.Looked.{KindHere}
use Rattle.nodes.specs.Parts.{ComparisonHere}
use Rattle.walk.specs.Enclosing.{around_at, binding_in, Names}
use Rattle.walk.specs.Laws.Nodes.{some_reached}
use Rattle.walk.specs.declared.Binding.{Binding}
use Rattle.nodes.specs.declared.ComparisonAt.{ComparisonAt}
use Rattle.condition.specs.Laws.Records.{record_starts, record_value}
use Rattle.resolution.specs.Places.{typed_of}
use Rattle.terms.specs.Terms.{facts_of, term_type}
use Rattle.terms.specs.Facts.{facts_in, Known, FactsOf}
use Rattle.terms.specs.Answers.{TypeOf}
use Rattle.terms.specs.declared.Common.{Common}
use Rattle.terms.specs.declared.Facts.{Facts}
use Rattle.terms.specs.Laws.Facts.{facts_mean}
use Rattle.typecheck.specs.Run.{ReadRecords, ReadAs, Holds, reading, by_reading}
use Rattle.typecheck.specs.Laws.Reading.{by_order, accepted_reading}
use Rattle.typecheck.specs.declared.RefusedRecord.{RefusedRecord}
use Rattle.typecheck.specs.declared.Records.{Records}
use Rattle.operands.specs.Operands.{refused, leaving, operand_in, shown, answered}
use Rattle.operands.specs.Operands.{under_target, at_position, operand_type}
use Rattle.operands.specs.Answers.{Answered, outcome_of, place_of}
use Rattle.operands.specs.declared.Operand.{Operand}
use Rattle.operands.specs.declared.Answer.{Answer}
use Rattle.std.specs.Prelude.{Ok, Err, Some, None}
use Rattle.resolution.specs.Coded.{Typed}
use Rattle.names.specs.declared.refusal.Refusal.TheVariants.{NoSuchTarget}

-- ---- the operand

no_operand : (which : Operand) (x : Condition) → (kind_of x ≡ 8 → ⊥) → operand_in which x ≡ none
unfolding operand_in
no_operand which (one k span c) h = refl
no_operand which (two k span l r) h = refl
no_operand which (predicate span own ns name args) h = refl
no_operand which (comparison span op l r) h = absurd (h refl)
no_operand which (exists span b c) h = refl
no_operand which (tp span s) h = refl
no_operand which (opaque span) h = refl

module _ (s c n : List ℕ) (f : Facts) (read : is_record c ≡ true) where
  pub root_stands : is_condition c 5 ≡ true
  root_stands = record_starts c read

  module _ (kind : Kind) (o : KindHere c 5 (kind_number kind)) where
    pub no_comparison : (kind ≡ Kind.Comparison → ⊥) → (which : Operand) (b : List ℕ) → outcome_of (Ok Answer.NoComparison) b ≡ answered which (record_in c) (facts_in s c n f) b
    unfolding answered outcome_of
    no_comparison h which b = rw (no_operand which (record_in c) (λ e. not_comparison kind h (o.kind ∙ ap kind_of (record_value c read) ∙ e)))

    pub a_comparison : kind ≡ Kind.Comparison → kind_of (condition_in c 5) ≡ 8
    a_comparison e = sym o.kind ∙ ap kind_number e

  module _ (p : ComparisonAt) (h : ComparisonHere c 5 p) (which : Operand) where
    operand_in_lem : operand_in which (record_in c) ≡ some (term_in c (place_of p which))
    unfolding operand_in
    operand_in_lem =
        let e : record_in c ≡ comparison (span_of (condition_in c 5)) h.op (term_in c p.left) (term_in c p.right) = sym (record_value c read) ∙ h.value in
        ap (operand_in which) e ∙ go which
      where
        go : (w : Operand) → operand_in w (comparison (span_of (condition_in c 5)) h.op (term_in c p.left) (term_in c p.right)) ≡ some (term_in c (place_of p w))
        go Operand.Left = refl
        go Operand.Right = refl

    module _ (at : ℕ) (q : at ≡ place_of p which) where
      pub operand_stands : is_term c at ≡ true
      operand_stands = rw q (go which)
        where
          go : (w : Operand) → is_term c (place_of p w) ≡ true
          go Operand.Left = h.left
          go Operand.Right = h.right

      pub operand_answered : (x : Typed) → TypeOf s c (term_type (some (facts_in s c n f)) (term_in c at)) x → (b : List ℕ) (a : Answered) (t : List ℕ)
          → outcome_of a t ≡ shown (typed_of s c x) b → outcome_of a t ≡ answered which (record_in c) (facts_in s c n f) b
      unfolding answered
      operand_answered x v b a t i = rw (operand_in_lem, ← q, ← v.value) i

pub ruleset comparing = (rules, root_stands, no_comparison, a_comparison, operand_stands, operand_answered)

-- ---- the facts of a target

module _ (s c n : List ℕ) (found : Found) (common : Common) (f : Facts) (k : FactsOf n found common f) where
  pub facts_known : is_schema s ≡ true → is_record c ≡ true → found_stands (is_action s) found ≡ true → (env : List ℕ) → Names c (binding_in common.binding) env → ActionsOf s common.actions → ∥ Known s c env f ∥₁
  facts_known schema condition stands env e g = ∣ record {
    ready = record { schema = schema; condition = condition; named = rw k.shared e; actions = rw k.shared g };
    action = rw k.action stands;
    node = rw k.node (some_reached (record_in c));
  } ∣₁

  -- by the flat environment
  pub flat_answered : common.profile ≡ Profile.Plain → common.binding ≡ Binding.Flat → (which : Operand) (b : List ℕ) (a : Answered) (t : List ℕ) → outcome_of a t ≡ answered which (record_in c) (facts_in s c n f) b
      → outcome_of a t ≡ answered which (record_in c) (facts_of plain (schema_in s) (record_in c) (targets_in n).scope (found_in (action_in s) found)) b
  unfolding around_at binding_in
  flat_answered p q which b a t i = let j = rw (facts_mean s c n found common f k) at i in rw (p, q) at j

pub ruleset by_action = (rules, length-take-le, facts_known, flat_answered)

module _ (s c n : List ℕ) (at : ℕ) (w : List ℕ) (is_w : w ≡ (target_in n at).namespace) (v : List ℕ) (is_v : v ≡ (target_in n at).id) (x : Found) (finds : FindsAction s (find_action (schema_in s) w v) x) where
  pub action_stands : found_stands (is_action s) x ≡ true
  action_stands = finds.stands

  pub target_answered : (which : Operand) (b : List ℕ) (a : Answered) (t : List ℕ) → outcome_of a t ≡ answered which (record_in c) (facts_of plain (schema_in s) (record_in c) (targets_in n).scope (found_in (action_in s) x)) b
      → outcome_of a t ≡ under_target (schema_in s) (record_in c) (targets_in n) which b (target_in n at)
  unfolding under_target
  target_answered which b a t i =
      let h : found_in (action_in s) x ≡ find_action (schema_in s) (target_in n at).namespace (target_in n at).id = rw (← is_w, ← is_v) finds.value in
      rw (← h) i

pub ruleset by_target = (rules, action_stands, target_answered)

-- ---- the position

module _ (s c n : List ℕ) (position : ℕ) (x : Found) (finds : FindsTarget n (target_at position (targets_in n).list) x) where
  pub position_stands : (at : ℕ) → x ≡ Some at → is_target n at ≡ true
  position_stands at e = rw e at finds.stands

  module _ (which : Operand) (b : List ℕ) where
    pub position_absent : x ≡ None → outcome_of (Err (record { refusal = NoSuchTarget; «record» = 3 })) b ≡ at_position (schema_in s) (record_in c) (targets_in n) position which b
    unfolding at_position outcome_of
    position_absent e =
        let h : none ≡ target_at position (targets_in n).list = rw e at finds.value in
        rw (← h)

    pub position_found : (at : ℕ) → x ≡ Some at → (a : Answered) (t : List ℕ) → outcome_of a t ≡ under_target (schema_in s) (record_in c) (targets_in n) which b (target_in n at)
        → outcome_of a t ≡ at_position (schema_in s) (record_in c) (targets_in n) position which b
    unfolding at_position
    position_found at e a t i =
        let h : some (target_in n at) ≡ target_at position (targets_in n).list = rw e at finds.value in
        rw (← h) i

pub ruleset positions = (rules, position_stands, position_absent, position_found)

-- ---- the whole

module _ (s c n : List ℕ) (position : ℕ) (which : Operand) (b : List ℕ) where
  -- what is asked is said of the reading of the three records
  asked_reading : operand_type s c n position which b
      ≡ by_reading (λ k w. leaving (refused k w) b)
      (λ s c ts. at_position s c ts position which b) (reading s c n)
  unfolding operand_type reading
  asked_reading =
      by_order (λ k w. leaving (refused k w) b) (λ s c ts. at_position s c ts position which b)
      (whole schema_record s) (whole condition_record c) (whole target_record n)

  module _ (x : ReadRecords) (is : ReadAs s c n x) where
    pub all_refused : (e : RefusedRecord) → x ≡ Err e
        → outcome_of (Err e) b ≡ operand_type s c n position which b
    unfolding outcome_of
    all_refused e is_e = sym (asked_reading ∙ rw (rw is_e at is))

    pub all_answered : (r : Records) → x ≡ Ok r → (a : Answered) (t : List ℕ)
        → outcome_of a t ≡ at_position (schema_in r.schema.bytes.now)
        (record_in r.condition.bytes.now) (targets_in r.targets.bytes.now) position which b
        → outcome_of a t ≡ operand_type s c n position which b
    all_answered r is_r a t i =
        let held : Holds s c n r = rw is_r at is in
        i ∙ rw (held.schema, held.condition, held.targets)
        (sym (asked_reading ∙ rw (accepted_reading s c n held.accepted)))

pub ruleset asking = (rules, all_refused, all_answered)
