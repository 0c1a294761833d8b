-- The rules at one reached node, by what stands there. Assumes nothing.
use mathlib.Core.Path.{◌≡◌, refl, sym, ap, ◌∙◌}
use mathlib.Core.Bool.{Bool, true, cond, ◌||◌}
use mathlib.Core.List.{List, [], ◌++◌}
use mathlib.Core.Logic.{◌⊎◌, inl, inr}
use mathlib.Core.Option.{some}
use Prim.Native.Nat.{ℕ}
use borrow.Author.Rules.{rules}
use borrow.Author.Tests.{ne_eqb}
use lib.Dec.{ltb, eqb, lit<}
use Rattle.types.specs.Types.{Profile}
use Rattle.names.specs.Lists.{gather}
use Rattle.names.specs.Read.{word_at}
use Rattle.condition.specs.Condition as tree
use Rattle.condition.specs.Condition.{Span, Condition, Term, integer, decimal, string, bool, Slot, named, param_ref, binder_ref, Operator, le, lt, ge, gt, eq, not_eq, one, two, predicate, comparison, exists, tp, opaque, entity, literal, context_field, scope_field, var, wildcard, array, aggregate, sigil}
use Rattle.nodes.specs.Kinds.{kind_of, span_of, term_kind_of, operator_number, kind_number, term_kind_number}
use Rattle.nodes.specs.Laws.Numbers.{same_term_kind, not_wildcard, not_aggregate, not_arith, not_predicate, not_comparison, not_timepoint}
use Rattle.nodes.specs.declared.Kind.{Kind}
use Rattle.nodes.specs.declared.TermKind.{TermKind}
use Rattle.condition.specs.Places.{is_condition, condition_in, is_term, term_in, is_slot, slot_in}
use Rattle.nodes.specs.Offsets.{first_part}
use Rattle.nodes.specs.Laws.Pieces.{timepoint_inside}
use Rattle.nodes.specs.Laws.Leaves.{leaves_gather, one_term, one_leaves, leaf_next, leaf_stands, leaf_plain, fewer_leaves}
use Rattle.nodes.specs.Looked.{KindHere, TermKindHere}
use Rattle.nodes.specs.Parts.{Spans, ComparisonHere, TimepointHere, SlotHere, is_terms, leaves_in, NextLeafIs, NextPart}
use Rattle.nodes.specs.declared.Ends.{Ends}
use Rattle.nodes.specs.declared.ComparisonAt.{ComparisonAt}
use Rattle.nodes.specs.declared.Several.{Several}
use Rattle.nodes.specs.declared.SlotAt.{SlotAt}
use Rattle.resolution.specs.Places.{typed_of}
use Rattle.reports.specs.declared.State.{State}
use Rattle.reports.specs.Reports.{Breach}
use Rattle.reports.specs.Sink.{Sink, sink, push, push_all}
use Rattle.reports.specs.Slots.{Lent, Pushed}
use Rattle.reports.specs.Laws.Sinks.{Reporting, reporting_next, reporting_over, recorded_none, recorded_then}
use Rattle.terms.specs.Terms.{Facts, term_type}
use Rattle.terms.specs.Answers.{TypeOf}
use Rattle.terms.specs.Facts.{facts_in, NameTyped}
use Rattle.terms.specs.Settings.{facts_at}
use Rattle.terms.specs.declared.Facts as Code
use Rattle.messages.specs.Words.{Rule, Said, quoted, said_breaches, Tells, span_in}
use Rattle.rules.specs.Messages.{wildcard_inside}
use Rattle.rules.specs.Rules.{breach_if, both, not_long_here, operands_by, ordering, leaf_breaches, arithmetic_breaches, timepoint_breach, timepoint_breaches, node_breaches}
use Rattle.rules.specs.Findings.{said_of, found_breaches}
use Rattle.terms.specs.declared.setting.Setting.{Setting}
use Rattle.rules.specs.Places.{node_at, ComparedHere, JudgedHere}
use Rattle.rules.specs.declared.Compared.{Compared}
use Rattle.rules.specs.declared.Judged.{Judged}
use Rattle.rules.specs.declared.Finding.{Finding}
use Rattle.rules.specs.declared.Finding.TheVariants.{Wildcard}
use Rattle.resolution.specs.Coded.{Typed}
use Rattle.std.specs.Prelude as code
use Rattle.std.specs.Prelude.{Some, None}

-- ---- terms by their kinds

module _ (f : Facts) (at : Span) where
  leaf_by_kind : (t : Term) → (term_kind_of t ≡ 12 → ⊥) → leaf_breaches f t at ≡ cond (eqb (term_kind_of t) 9) (breach_if true wildcard_inside at) (cond (eqb (term_kind_of t) 11 || eqb (term_kind_of t) 13) [] (not_long_here (term_type (some f) t) at))
  unfolding leaf_breaches
  leaf_by_kind (entity n) e = refl
  leaf_by_kind (literal (integer v)) e = refl
  leaf_by_kind (literal (decimal v)) e = refl
  leaf_by_kind (literal (string v)) e = refl
  leaf_by_kind (literal (bool v)) e = refl
  leaf_by_kind (context_field p) e = refl
  leaf_by_kind (scope_field p) e = refl
  leaf_by_kind (var v) e = refl
  leaf_by_kind wildcard e = refl
  leaf_by_kind (array ts) e = refl
  leaf_by_kind (aggregate a) e = refl
  leaf_by_kind (tree.arith op l r) e = absurd (e refl)
  leaf_by_kind sigil e = refl

  operand_by_kind : (t : Term) → arithmetic_breaches f t at ≡ cond (eqb (term_kind_of t) 12) (leaf_breaches f t at) []
  unfolding arithmetic_breaches
  operand_by_kind (entity n) = refl
  operand_by_kind (literal (integer v)) = refl
  operand_by_kind (literal (decimal v)) = refl
  operand_by_kind (literal (string v)) = refl
  operand_by_kind (literal (bool v)) = refl
  operand_by_kind (context_field p) = refl
  operand_by_kind (scope_field p) = refl
  operand_by_kind (var v) = refl
  operand_by_kind wildcard = refl
  operand_by_kind (array ts) = refl
  operand_by_kind (aggregate a) = refl
  operand_by_kind (tree.arith op l r) = refl
  operand_by_kind sigil = refl

-- a leaf, by its kind
module _ (f : Facts) (s c : List ℕ) (at : ℕ) (kind : TermKind) (o : TermKindHere c at (term_kind_number kind)) (other : term_kind_of (term_in c at) ≡ 12 → ⊥) where
  leaf-is : (span : Span) → leaf_breaches f (term_in c at) span ≡ cond (eqb (term_kind_number kind) 9) (breach_if true wildcard_inside span) (cond (eqb (term_kind_number kind) 11 || eqb (term_kind_number kind) 13) [] (not_long_here (term_type (some f) (term_in c at)) span))
  leaf-is span = rw o.kind (leaf_by_kind f span (term_in c at) other)

  pub leaf_wild : kind ≡ TermKind.Wildcard → Tells s c (leaf_breaches f (term_in c at)) (said_of (Some Wildcard))
  unfolding quoted
  leaf_wild e = record { is = λ span. rw (leaf-is span, e); stands = record { first = tt; second = tt; third = tt; fourth = tt; below = lit< tt } }

  pub leaf_passed : (kind ≡ TermKind.Aggregate) ⊎ (kind ≡ TermKind.Sigil) → Tells s c (leaf_breaches f (term_in c at)) (said_of None)
  leaf_passed (inl e) = record { is = λ span. rw (leaf-is span, e); stands = tt }
  leaf_passed (inr e) = record { is = λ span. rw (leaf-is span, e); stands = tt }

  pub leaf_typed : (kind ≡ TermKind.Wildcard → ⊥) → (kind ≡ TermKind.Aggregate → ⊥) → (kind ≡ TermKind.Sigil → ⊥) → (r : Typed) → TypeOf s c (term_type (some f) (term_in c at)) r → {x : Said} → Tells s c (not_long_here (typed_of s c r)) x → Tells s c (leaf_breaches f (term_in c at)) x
  leaf_typed a b d r v g = record {
    is = λ span. rw (leaf-is span, ne_eqb _ _ (not_wildcard kind a), ne_eqb _ _ (not_aggregate kind b), ne_eqb _ _ (λ e. d (same_term_kind kind TermKind.Sigil e)), ← v.value) (g.is span);
    stands = g.stands;
  }

-- ---- what was found is reported where the rule stands

module _ (s c : List ℕ) {old new table : List ℕ} {st st' : State} {x : Said} where
  told : (rule : Rule) (at : Span) → Tells s c rule x → Pushed old st (said_breaches s c x at) new st' table → Pushed old st (rule at) new st' table
  told rule at g p = rw (← g.is at) p

-- the leaves of a term, left then right: those that are left, put in, make the whole
module _ (f : Facts) (c : List ℕ) (span : Span) where
  abbrev breaches_of : Term → List Breach
  breaches_of t = leaf_breaches f t span

  pub record LeavesLeft (whole now : Sink) (table : List ℕ) (left : Several) : Type 0 where
    pub stands : is_terms c left.count left.first ≡ true
    pub reporting : Reporting push (λ (s : Sink). Lent s table) breaches_of whole now (leaves_in c left.count left.first)

  leaves_are : (at : ℕ) → is_term c at ≡ true → gather breaches_of (leaves_in c 1 at) ≡ breaches_of (term_in c at)
  unfolding leaf_breaches
  leaves_are at acc = ap (gather breaches_of) (one_leaves c at acc) ∙ leaves_gather breaches_of (λ op l r. refl) (term_in c at)

  pub leaves_begin : (now : Sink) (table : List ℕ) (at : ℕ) → Lent now table → is_term c at ≡ true → LeavesLeft (push_all now (leaf_breaches f (term_in c at) span)) now table (record { count = 1; first = at })
  leaves_begin now table at p acc = record { stands = one_term c at acc; reporting = record { still = p; same = ap (push_all now) (leaves_are at acc) } }

  pub leaves_stand : {whole now : Sink} {table : List ℕ} {left : Several} → LeavesLeft whole now table left → is_terms c left.count left.first ≡ true
  leaves_stand l = l.stands

  module _ (left : Several) (x : NextPart) (is : NextLeafIs c (leaves_in c left.count left.first) x) where
    pub leaves_over : {old now table : List ℕ} {st₀ st : State} {bs : List Breach} → LeavesLeft (push_all (sink old st₀) bs) (sink now st) table left → x ≡ None → Pushed old st₀ bs now st table
    leaves_over l e =
        let none : leaves_in c left.count left.first ≡ [] = rw e at is in
        let r = l.reporting in
        reporting_over push breaches_of (rw none at r)

    module _ (at : ℕ) (rest : Several) (e : x ≡ Some (at, rest)) where
      pub leaves_turn : {whole : Sink} {now after table table' : List ℕ} {st st' : State} → LeavesLeft whole (sink now st) table left → (s : List ℕ) {y : Said} → Tells s c (leaf_breaches f (term_in c at)) y
          → Pushed now st (said_breaches s c y span) after st' table' → LeavesLeft whole (sink after st') table' rest
      leaves_turn l s g p =
          let r = l.reporting in
          record { stands = (leaf_next c left x is at rest e).others; reporting = reporting_next push breaches_of (rw (leaf_next c left x is at rest e).value at r) (told s c (leaf_breaches f (term_in c at)) span g p) }

-- an operand, by its kind
module _ (f : Facts) (c : List ℕ) (at : ℕ) (kind : TermKind) (o : TermKindHere c at (term_kind_number kind)) where
  pub operand_arithmetic : kind ≡ TermKind.Arith → (span : Span) {old new table : List ℕ} {st st' : State} → Pushed old st (leaf_breaches f (term_in c at) span) new st' table → Pushed old st (arithmetic_breaches f (term_in c at) span) new st' table
  operand_arithmetic e span g = rw (operand_by_kind f span (term_in c at), ← o.kind, e) g

  pub operand_plain : (kind ≡ TermKind.Arith → ⊥) → (span : Span) (old : List ℕ) (st : State) (table : List ℕ) → Lent (sink old st) table → Pushed old st (arithmetic_breaches f (term_in c at) span) old st table
  operand_plain n span old st table p = rw (operand_by_kind f span (term_in c at), ← o.kind, ne_eqb _ _ (not_arith kind n)) (recorded_none old st p)

pub ruleset leaf_kinds = (rules, leaf_wild, leaf_passed, leaf_typed)

pub ruleset each_leaf = (rules, leaves_begin, leaves_stand, leaves_over, leaf_stands, leaf_plain, fewer_leaves, leaves_turn)

pub ruleset operand_kinds = (rules, operand_plain, operand_arithmetic)

-- ---- a comparison

ordering-is : (op : Operator) → ordering op ≡ ltb (operator_number op) 4
ordering-is le = refl
ordering-is lt = refl
ordering-is ge = refl
ordering-is gt = refl
ordering-is eq = refl
ordering-is not_eq = refl

span-is : {span : Span} {r : Ends} → Spans span r → span ≡ span_in r
span-is {span} {r} e = λ i. record { start = sym e.start i; end = sym e.end i }

pub compared_here : (c : List ℕ) (at : ℕ) (r : Ends) → Spans (span_of (condition_in c at)) r → (p : ComparisonAt) → ComparisonHere c at p → (ordered : Bool) → ordered ≡ ltb p.operator 4
    → ComparedHere c at (record { span = r; ordering = ordered; left = p.left; right = p.right })
compared_here c at r span p h ordered o = record {
  op = h.op;
  ordered = o ∙ ap (λ (n : ℕ). ltb n 4) h.number ∙ sym (ordering-is h.op);
  left = h.left;
  right = h.right;
  value = h.value ∙ ap (λ (l : Span). comparison l h.op (term_in c p.left) (term_in c p.right)) (span-is span);
}

pub operands_typed : (f : Facts) (s c : List ℕ) (left right : ℕ) (p : Profile) (ordered : Bool) (l r : Typed) → TypeOf s c (term_type (some f) (term_in c left)) l → TypeOf s c (term_type (some f) (term_in c right)) r
    → {x : Said} → Tells s c (both (typed_of s c l) (typed_of s c r) (operands_by p ordered)) x → Tells s c (both (term_type (some f) (term_in c left)) (term_type (some f) (term_in c right)) (operands_by p ordered)) x
operands_typed f s c left right p ordered l r v w g = rw (← v.value, ← w.value) g

-- arithmetic first, then the types
pub comparison_told : (f : Facts) (s c : List ℕ) (at : ℕ) (p : Compared) → ComparedHere c at p → {x : Said}
    → Tells s c (both (term_type (some f) (term_in c p.left)) (term_type (some f) (term_in c p.right)) (operands_by f.profile p.ordering)) x
    → {old mid new between table : List ℕ} {st st₁ st' : State} → Pushed old st (arithmetic_breaches f (term_in c p.left) (span_in p.span) ++ arithmetic_breaches f (term_in c p.right) (span_in p.span)) mid st₁ between
    → Pushed mid st₁ (said_breaches s c x (span_in p.span)) new st' table → Pushed old st (node_breaches f (condition_in c at)) new st' table
unfolding node_breaches
comparison_told f s c at p h g e r =
    rw (h.value, ← h.ordered) (recorded_then e (told s c (both (term_type (some f) (term_in c p.left)) (term_type (some f) (term_in c p.right)) (operands_by f.profile p.ordering)) (span_in p.span) g r))

pub ruleset comparing = (rules, compared_here)

pub ruleset typing = (rules, operands_typed)

pub ruleset in_turn = (rules, recorded_then)

pub ruleset comparisons = (rules, comparison_told)

-- ---- a `tp`

-- its slot
module _ (s c : List ℕ) (at : ℕ) (r : SlotAt) (e : SlotHere c at r) where
  pub slot_sigil : (r ≡ SlotAt.ParamRef) ⊎ (r ≡ SlotAt.BinderRef) → (f : Facts) → Tells s c (timepoint_breaches f (slot_in c at)) (said_of None)
  unfolding timepoint_breaches
  slot_sigil (inl g) f = rw (e.value, g) (record { is = λ span. refl; stands = tt })
  slot_sigil (inr g) f = rw (e.value, g) (record { is = λ span. refl; stands = tt })

  pub slot_named : (p : ℕ) → r ≡ SlotAt.Named p → (name : List ℕ) → name ≡ word_at c p → (n : List ℕ) (facts : Code.Facts) (typed : Typed) → NameTyped s c facts name typed
      → {x : Said} → Tells s c (timepoint_breach (word_at c p) (typed_of s c typed)) x → Tells s c (timepoint_breaches (facts_in s c n facts) (slot_in c at)) x
  unfolding timepoint_breaches
  slot_named p g name w n facts typed v h = record { is = λ span. rw (e.value, g, ← w, ← v.value n, w) (h.is span); stands = h.stands }

pub ruleset slots = (rules, slot_sigil, slot_named)

pub timepoint_slot : (s : List ℕ) (at : ℕ) → is_condition s at ≡ true → kind_of (condition_in s at) ≡ 10 → (p : ℕ) → p ≡ first_part s at → is_slot s p ≡ true
timepoint_slot s at acc is p e = (timepoint_inside s at acc is p e).stands

module _ (t : Setting) (at : ℕ) where
  pub tp_judged : (r : Ends) → Spans (span_of (condition_in t.condition.bytes.now at)) r → (p : ℕ) → TimepointHere t.condition.bytes.now at p → (x : code.Option Finding)
      → Tells t.schema.bytes.now t.condition.bytes.now (timepoint_breaches (facts_at t) (slot_in t.condition.bytes.now p)) (said_of x)
      → JudgedHere t (node_at t at) (record { span = r; finding = x })
  unfolding node_breaches
  tp_judged r span p h x g = record { is = g.is (span_in r) ∙ sym (rw (h.value, span-is span)); stands = g.stands }

pub ruleset tps = (rules, timepoint_inside, timepoint_slot, tp_judged)

-- what was judged is reported
pub judged_told : {t : Setting} {bs : List Breach} {r : Judged} → JudgedHere t bs r → {old new table : List ℕ} {st st' : State} → Pushed old st (found_breaches t r.finding (span_in r.span)) new st' table → Pushed old st bs new st' table
judged_told h e = rw h.is at e

pub ruleset judging = (rules, judged_told)

-- ---- any node

quiet : (f : Facts) (x : Condition) → (kind_of x ≡ 7 → ⊥) → (kind_of x ≡ 8 → ⊥) → (kind_of x ≡ 10 → ⊥) → node_breaches f x ≡ []
unfolding node_breaches
quiet f (one k span d) a b e = refl
quiet f (two k span l r) a b e = refl
quiet f (predicate span own ns act args) a b e = absurd (a refl)
quiet f (comparison span op l r) a b e = absurd (b refl)
quiet f (exists span d x) a b e = refl
quiet f (tp span d) a b e = absurd (e refl)
quiet f (opaque span) a b e = refl

module _ (c : List ℕ) (at : ℕ) (kind : Kind) (o : KindHere c at (kind_number kind)) where
  pub node_quiet : (kind ≡ Kind.Predicate → ⊥) → (kind ≡ Kind.Comparison → ⊥) → (kind ≡ Kind.Timepoint → ⊥) → (f : Facts) (old : List ℕ) (st : State) (table : List ℕ) → Lent (sink old st) table → Pushed old st (node_breaches f (condition_in c at)) old st table
  node_quiet a b d f old st table p = rw (quiet f (condition_in c at) (λ e. not_predicate kind a (o.kind ∙ e)) (λ e. not_comparison kind b (o.kind ∙ e)) (λ e. not_timepoint kind d (o.kind ∙ e))) (recorded_none old st p)

  -- the kind of a node is asked for its parts
  pub node_kind : (k : Kind) → kind ≡ k → kind_of (condition_in c at) ≡ kind_number k
  node_kind k e = sym o.kind ∙ ap kind_number e

pub ruleset nodes = (rules, node_kind, node_quiet)
