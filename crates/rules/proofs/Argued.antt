-- The arguments of a predicate, as the code learns them. Assumes nothing.
use mathlib.Core.Path.{◌≡◌, refl, sym, ap, ◌∙◌}
use mathlib.Core.Bool.{true}
use mathlib.Core.List.{List}
use mathlib.Core.Option.{Option, some}
use Prim.Native.Nat.{ℕ, ◌+◌, ◌-◌, ◌≤◌, ◌<◌}
use native.Mathlib.Omega.{arith}
use borrow.Author.Rules.{rules}
use Rattle.names.specs.Fields.{string_of}
use Rattle.names.specs.Names.{path_name}
use Rattle.names.specs.Read.{word_at, row_in, Found}
use Rattle.types.specs.Types.{Ty}
use Rattle.condition.specs.Condition.{Span}
use Rattle.nodes.specs.Kinds.{own_span_of}
use Rattle.condition.specs.Places.{condition_in, term_in, path_in, is_arguments, arguments_in}
use Rattle.nodes.specs.Parts.{Spans, PredicateHere, ArgumentHere}
use Rattle.nodes.specs.declared.Ends.{Ends}
use Rattle.nodes.specs.declared.PredicateAt.{PredicateAt}
use Rattle.nodes.specs.declared.ArgumentAt.{ArgumentAt}
use Rattle.nodes.specs.Laws.Pieces.{arguments_over}
use Rattle.schema.specs.Schema.{Action}
use Rattle.schema.specs.Places.{schema_in, is_action, action_in, Answers}
use Rattle.resolution.specs.Resolution.{context_type_by, predicate_action}
use Rattle.resolution.specs.Places.{typed_of}
use Rattle.terms.specs.Terms.{Facts, term_type}
use Rattle.terms.specs.Answers.{TypeOf}
use Rattle.reports.specs.declared.State.{State}
use Rattle.reports.specs.Sink.{Sink, sink, push_all}
use Rattle.reports.specs.Slots.{Lent, Pushed}
use Rattle.reports.specs.Laws.Sinks.{recorded_more}
use Rattle.reports.specs.Kept.{fold}
use Rattle.reports.specs.Reports.{Breach}
use Rattle.terms.specs.Settings.{facts_at}
use Rattle.terms.specs.declared.setting.Setting.{Setting}
use Rattle.messages.specs.Words.{Said, said_breaches, Tells, span_in}
use Rattle.rules.specs.Rules.{both, argument_breach, argument_breaches, node_breaches}
use Rattle.rules.specs.Places.{arguments_at, node_at, AppliedHere}
use Rattle.rules.specs.declared.Applied.{Applied}
use Rattle.resolution.specs.Coded.{Typed}

-- ---- one argument

pub argument_typed : (s c : List ℕ) (at name : ℕ) (expected actual : Option Ty) (x y : Typed) → TypeOf s c expected x → TypeOf s c actual y
    → {r : Said} → Tells s c (both (typed_of s c x) (typed_of s c y) (argument_breach (word_at c at) (word_at c name))) r → Tells s c (both expected actual (argument_breach (word_at c at) (word_at c name))) r
argument_typed s c at name expected actual x y h k g = rw (← h.value, ← k.value) g

-- ---- the arguments: those that are left make the whole

module _ (f : Facts) (s c : List ℕ) (own : Span) (name : List ℕ) (action : Option Action) where
  pub record Arguing (whole now : Sink) (table : List ℕ) (n at : ℕ) : Type 0 where
    pub still : Lent now table
    pub stands : is_arguments c n at ≡ true
    pub same : push_all now (argument_breaches f name action (arguments_in c n at) own) ≡ whole

  pub arguing_begins : (now : Sink) (table : List ℕ) (n at : ℕ) → Lent now table → is_arguments c n at ≡ true → Arguing (push_all now (argument_breaches f name action (arguments_in c n at) own)) now table n at
  arguing_begins now table n at p is = record { still = p; stands = is; same = refl }

  module _ (n at : ℕ) where
    pub arguing_over : {old now table : List ℕ} {st₀ st : State} {bs : List Breach} → Arguing (push_all (sink old st₀) bs) (sink now st) table n at → n ≤ 0 → Pushed old st₀ bs now st table
    unfolding argument_breaches fold
    arguing_over a h = record { still = a.still; is = rw (arguments_over c n at h) at a.same }

    pub arguing_turn : {whole : Sink} {now next table table' : List ℕ} {st r : State} → Arguing whole (sink now st) table n at → 0 < n → (p : ArgumentAt) → ArgumentHere c (n - 1 + 1) at p → {x : Said}
        → Tells s c (both (context_type_by f.vocabulary action (path_in c p.field)) (term_type (some f) (term_in c p.term)) (argument_breach (word_at c at) name)) x
        → Pushed now st (said_breaches s c x own) next r table' → Arguing whole (sink next r) table' (n - 1) p.next
    unfolding argument_breaches
    arguing_turn a more p first g e =
        let there : n - 1 + 1 ≡ n = omega (arith, more) in
        let h : ArgumentHere c n at p = rw there at first in
        record {
          still = e.still;
          stands = h.rest;
          same = recorded_more e _ ∙ rw (h.value, ← g.is own) at a.same;
        }

-- ---- the predicate

module _ (t : Setting) (at : ℕ) (r : Ends) (span : Spans (own_span_of (condition_in t.condition.bytes.now at)) r) (p : PredicateAt) (h : PredicateHere t.condition.bytes.now at p) (x : Found)
    (a : Answers (is_action t.schema.bytes.now) (action_in t.schema.bytes.now) (predicate_action (schema_in t.schema.bytes.now) (row_in (string_of path_name) t.condition.bytes.now p.names p.namespace) (word_at t.condition.bytes.now p.action)) x) where
  predicate-is : node_at t at ≡ argument_breaches (facts_at t) (word_at t.condition.bytes.now p.action) (predicate_action (schema_in t.schema.bytes.now) (row_in (string_of path_name) t.condition.bytes.now p.names p.namespace) (word_at t.condition.bytes.now p.action)) (arguments_in t.condition.bytes.now p.count p.first) (own_span_of (condition_in t.condition.bytes.now at))
  unfolding node_breaches
  predicate-is = rw h.names.value (ap (node_breaches (facts_at t)) h.value)

  pub applied_here : AppliedHere t at (record { span = r; name = p.action; action = x; count = p.count; first = p.first })
  applied_here = record {
    action = a.stands;
    args = h.args;
    value = let here : own_span_of (condition_in t.condition.bytes.now at) ≡ span_in r = λ i. record { start = sym span.start i; end = sym span.end i } in sym (predicate-is ∙ rw (here, ← a.value));
  }

-- its breaches are those of its arguments
pub predicate_told : (t : Setting) (at : ℕ) (p : Applied) → AppliedHere t at p → {old new table : List ℕ} {st st' : State} → Pushed old st (arguments_at t p) new st' table → Pushed old st (node_at t at) new st' table
predicate_told t at p h e = rw h.value at e

pub ruleset by_types = (rules, argument_typed)

pub ruleset arguing = (rules, arguing_begins, arguing_over, arguing_turn)

pub ruleset applying = (rules, applied_here)

pub ruleset of_predicate = (rules, predicate_told)
