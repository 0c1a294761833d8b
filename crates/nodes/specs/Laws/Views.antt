-- Accepted bytes taken apart: what stands at the parts of a condition, a term, an aggregate, a list, by the byte of its kind. A part is read with all
-- 32 levels, as a position denotes it, and in the version of the whole. Assumes nothing.
use Rattle.std.specs.Prelude.{◌≡◌, Bool, cond, List, ℕ, ◌+◌, ◌≤◌, ◌<◌, eqb, length, get_or, take, drop}
use Rattle.std.proofs.Math.Path.{refl, sym, ap}
use Rattle.std.proofs.Common.{◌∙◌}
use Rattle.std.proofs.Math.Bool.{true, false}
use Rattle.std.proofs.lemmas.Bool.{false≢true}
use Rattle.std.proofs.Math.Option.{Option}
use native.Mathlib.Omega.{arith}
use Rattle.names.specs.Fields.{Got, got, Reader, ◌<∘>◌, pure, next, u8, u32, i64, number, bytes, choose, levels, string_of, each, counted}
use Rattle.names.specs.Names.{plain, path_name}
use Rattle.names.specs.Paths.{path_of}
use Rattle.decimal.specs.Decimal.{decimal_text}
use Rattle.names.specs.Laws.Readers.{split, u8_view, bytes_view, got_value, got_place, Each, keys_up_to, ◌&◌}
use Rattle.condition.specs.Condition.{Span, Slot, Condition, Term, Arguments, Aggregate, Operator, Binder, Window, One, Two, one, two, predicate, comparison, exists, tp, opaque, negation, formerly, previous, refine, and, or, since, le, lt, ge, gt, eq, not_eq, integer, decimal, string, bool, entity, literal, context_field, scope_field, var, wildcard, array, aggregate, sigil, sum, count, call, span, slot, operators, operator, binder, window, ArithOp, given, truth, arith_op, entity_fields, timepoint_of, argument_list, element_list, unary, binary, predicate_of, comparison_of, exists_of, condition_kinds, sum_of, count_of, aggregate_kinds, aggregate_of, arith_of, term_kinds, condition_at, term_at}
use Rattle.condition.specs.Condition as tree
use Rattle.nodes.specs.Kinds.{kind_of, span_of, term_kind_of, aggregate_kind_of, aggregate_span_of, operator_number, one_number, two_number, one_window, two_window, two_kind, one_kind, window_kind}
use Rattle.nodes.specs.Offsets.{behind_span, op_length}
use Rattle.nodes.specs.Laws.Choices.{by_kind, no_value}
use Rattle.nodes.specs.Laws.Windows.{window_place}
use Rattle.nodes.specs.Laws.Given.{op_place}
use Rattle.condition.specs.Laws.Levels.{condition_wider, term_wider}

-- a 32-bit number, and the two of a span
record WordView (s : List ℕ) (at v n : ℕ) : Type 0 where
  inside : at + 4 ≤ length s
  value : v ≡ number 0 (take 4 (drop at s))
  place : n ≡ at + 4

u32_view : (s : List ℕ) (at : ℕ) {v n : ℕ} → u32 s at ≡ got v n → WordView s at v n
unfolding u32
u32_view s at e =
    let a = split (bytes 4 s at) _ e in
    let b = bytes_view s at 4 a.first in
    record { inside = b.0; value = sym (got_value a.rest) ∙ ap (number 0) b.1; place = sym (got_place a.rest) ∙ b.2 }

pub record SpanView (s : List ℕ) (at : ℕ) (v : Span) (n : ℕ) : Type 0 where
  pub inside : at + 8 ≤ length s
  pub start : v.start ≡ number 0 (take 4 (drop at s))
  pub end : v.end ≡ number 0 (take 4 (drop (at + 4) s))
  pub place : n ≡ at + 8

pub span_view : (s : List ℕ) (at : ℕ) {v : Span} {n : ℕ} → span s at ≡ got v n → SpanView s at v n
unfolding span
span_view s at {v} {n} e =
    let a = split (u32 s at) _ e in
    let b = split (u32 s a.place) _ a.rest in
    let i = u32_view s at a.first in
    let j = u32_view s a.place b.first in
    let k = got_place b.rest in
    let l = got_value b.rest in
    record {
      inside = omega arith;
      start = ap (λ (w : Span). w.start) (sym l) ∙ i.value;
      end = ap (λ (w : Span). w.end) (sym l) ∙ j.value ∙ ap (λ (p : ℕ). number 0 (take 4 (drop p s))) i.place;
      place = omega arith;
    }

-- a span behind a kind byte, and what is read behind the span
record AfterSpan {A : Type 0} (s : List ℕ) (at : ℕ) (f : Span → ℕ → Got A) (x : A) (n : ℕ) : Type 0 where
  own : Span
  spans : span s (at + 1) ≡ got own (at + 9)
  rest : f own (at + 9) ≡ got x n

module _ {A : Type 0} (s : List ℕ) (at : ℕ) {x : A} {n : ℕ} (f : Span → ℕ → Got A) where
  after_span : next (span s (at + 1)) f ≡ got x n → AfterSpan s at f x n
  after_span e =
      let a = split (span s (at + 1)) _ e in
      let h = (span_view s (at + 1) a.first).place in
      let i : a.place ≡ at + 9 = omega arith in
      record { own = a.value; spans = a.first ∙ ap (got a.value) i; rest = rw (← i) a.rest }

-- what stands behind the span of a condition of kind k that has conditions in it: which of these it is (`number`), and its window
pub record Behind (version k : ℕ) (s : List ℕ) (at number : ℕ) (w : Window) (p : ℕ) : Type 0 where
  pub place : p ≡ at + 9 + behind_span version k s at
  pub kind : number ≡ k
  pub windows : window_kind k ≡ true → window version s (at + 9) ≡ got w p

-- Conditions.
pub record OneView (version k : ℕ) (s : List ℕ) (at : ℕ) (x : Condition) (n : ℕ) : Type 0 where
  pub kind : One
  pub own : Span
  pub body : Condition
  pub spans : span s (at + 1) ≡ got own (at + 9)
  pub behind : Behind version k s at (one_number kind) (one_window kind) (at + 9 + behind_span version k s at)
  pub reads : condition_at version levels s (at + 9 + behind_span version k s at) ≡ got body n
  pub whole : x ≡ one kind own body

pub record TwoView (version k : ℕ) (s : List ℕ) (at : ℕ) (x : Condition) (n : ℕ) : Type 0 where
  pub kind : Two
  pub own : Span
  pub left : Condition
  pub middle : ℕ
  pub right : Condition
  pub spans : span s (at + 1) ≡ got own (at + 9)
  pub behind : Behind version k s at (two_number kind) (two_window kind) (at + 9 + behind_span version k s at)
  pub reads : condition_at version levels s (at + 9 + behind_span version k s at) ≡ got left middle
  pub further : condition_at version levels s middle ≡ got right n
  pub whole : x ≡ two kind own left right

pub record PredicateView (version : ℕ) (s : List ℕ) (at : ℕ) (x : Condition) (n : ℕ) : Type 0 where
  pub around : Span
  pub own : Span
  pub namespace : List (List ℕ)
  pub name : ℕ
  pub action : List ℕ
  pub list : ℕ
  pub args : Arguments
  pub spans : span s (at + 1) ≡ got around (at + 9)
  pub owns : span s (at + 9) ≡ got own (at + 17)
  pub lies : counted (each (string_of path_name)) s (at + 17) ≡ got namespace name
  pub acts : string_of plain s name ≡ got action list
  pub lists : argument_list version (condition_at version levels) (term_at version levels) s list ≡ got args n
  pub whole : x ≡ predicate around own namespace action args

pub record ComparisonView (version : ℕ) (s : List ℕ) (at : ℕ) (x : Condition) (n : ℕ) : Type 0 where
  pub own : Span
  pub test : Operator
  pub left : Term
  pub middle : ℕ
  pub right : Term
  pub spans : span s (at + 1) ≡ got own (at + 9)
  pub tests : operator s (at + 9) ≡ got test (at + 10)
  pub reads : term_at version levels false s (at + 10) ≡ got left middle
  pub further : term_at version levels false s middle ≡ got right n
  pub whole : x ≡ comparison own test left right

pub record ExistsView (version : ℕ) (s : List ℕ) (at : ℕ) (x : Condition) (n : ℕ) : Type 0 where
  pub own : Span
  pub declared : Binder
  pub middle : ℕ
  pub body : Condition
  pub spans : span s (at + 1) ≡ got own (at + 9)
  pub declares : binder s (at + 9) ≡ got declared middle
  pub reads : condition_at version levels s middle ≡ got body n
  pub whole : x ≡ exists own declared body

pub record TimepointView (s : List ℕ) (at : ℕ) (x : Condition) (n : ℕ) : Type 0 where
  pub own : Span
  pub place : Slot
  pub spans : span s (at + 1) ≡ got own (at + 9)
  pub reads : slot s (at + 9) ≡ got place n
  pub whole : x ≡ tp own place

pub record OpaqueView (s : List ℕ) (at : ℕ) (x : Condition) (n : ℕ) : Type 0 where
  pub own : Span
  pub spans : span s (at + 1) ≡ got own (at + 9)
  pub end : n ≡ at + 9
  pub whole : x ≡ opaque own

-- an operator is one byte
choose_place : (k : ℕ) (s : List ℕ) (at : ℕ) {o : Operator} {n : ℕ} → choose k operators s at ≡ got o n → (n ≡ at) × (operator_number o ≡ k)
unfolding choose operators Each keys_up_to
choose_place k s at {o} {n} e =
    let own : (p : Operator) → got p at ≡ got o n → (n ≡ at) × (operator_number o ≡ operator_number p) = λ p i. (sym (got_place i), ap operator_number (sym (got_value i))) in
    by_kind s at 5 operators refl (λ j. (n ≡ at) × (operator_number o ≡ j)) ((((((tt, own le), own lt), own ge), own gt), own eq), own not_eq) k e

pub operator_view : (s : List ℕ) (at : ℕ) {o : Operator} {n : ℕ} → operator s at ≡ got o n → (n ≡ at + 1) × (operator_number o ≡ get_or s at 0)
unfolding operator
operator_view s at {o} {n} e =
    let a = split (u8 s at) _ e in
    let v = u8_view s at a.first in
    let p = choose_place a.value s a.place a.rest in
    (p.0 ∙ v.2, p.1 ∙ v.1)

-- each kind of condition with conditions in it, by what is read behind its span
module _ (version : ℕ) (s : List ℕ) (at : ℕ) {A : Type 0} (number : A → ℕ) (says : A → Window) where
  abbrev KindRead : ℕ → Reader A → Type 0
  KindRead k kind = (j : A) (p : ℕ) → kind s (at + 9) ≡ got j p → Behind version k s at (number j) (says j) p

  bare : (j : A) → window_kind (number j) ≡ false → eqb (number j) 8 ≡ false → KindRead (number j) (pure j)
  unfolding behind_span
  bare j none other i p e =
      let q = got_place e in
      record { place = rw (other, none) (omega arith); kind = ap number (sym (got_value e)); windows = λ h. absurd (false≢true (sym none ∙ h)) }

  windowed : (k : ℕ) (make : Window → A) → ((w : Window) → number (make w) ≡ k) → ((w : Window) → says (make w) ≡ w) → window_kind k ≡ true → eqb k 8 ≡ false → KindRead k (make <∘> window version)
  unfolding behind_span
  windowed k make numbered said is other i p e =
      let a = split (window version s (at + 9)) _ e in
      let q = got_place a.rest in
      let v : make a.value ≡ i = got_value a.rest in
      let h = window_place version s (at + 9) a.first in
      record {
        place = rw (other, is) (omega arith);
        kind = ap number (sym v) ∙ numbered a.value;
        windows = λ _. a.first ∙ ap (got a.value) q ∙ ap (λ w. got w p) (sym (said a.value) ∙ ap says v);
      }

module _ (version : ℕ) (s : List ℕ) (at : ℕ) {x : Condition} {n : ℕ} where
  unary_view : (k : ℕ) (kind : Reader One) → KindRead version s at one_number one_window k kind → unary version (condition_at version levels) (term_at version levels) kind s (at + 1) ≡ got x n → OneView version k s at x n
  unfolding unary
  unary_view k kind known e =
      let a = after_span s at _ e in
      let c = split (kind s (at + 9)) _ a.rest in
      let i = known c.value c.place c.first in
      let b = split (condition_at version levels s c.place) _ c.rest in
      record {
        kind = c.value;
        own = a.own;
        body = b.value;
        spans = a.spans;
        behind = rw (← i.place) i;
        reads = rw (← i.place) (b.first ∙ ap (got b.value) (got_place b.rest));
        whole = sym (got_value b.rest);
      }

  binary_view : (k : ℕ) (kind : Reader Two) → KindRead version s at two_number two_window k kind → binary version (condition_at version levels) (term_at version levels) kind s (at + 1) ≡ got x n → TwoView version k s at x n
  unfolding binary
  binary_view k kind known e =
      let a = after_span s at _ e in
      let c = split (kind s (at + 9)) _ a.rest in
      let i = known c.value c.place c.first in
      let b = split (condition_at version levels s c.place) _ c.rest in
      let d = split (condition_at version levels s b.place) _ b.rest in
      record {
        kind = c.value;
        own = a.own;
        left = b.value;
        middle = b.place;
        right = d.value;
        spans = a.spans;
        behind = rw (← i.place) i;
        reads = rw (← i.place) b.first;
        further = d.first ∙ ap (got d.value) (got_place d.rest);
        whole = sym (got_value d.rest);
      }

  -- the kinds themselves
  not_view : unary version (condition_at version levels) (term_at version levels) (pure negation) s (at + 1) ≡ got x n → OneView version 3 s at x n
  not_view = unary_view 3 (pure negation) (bare version s at one_number one_window negation refl refl)

  formerly_view : unary version (condition_at version levels) (term_at version levels) (formerly <∘> window version) s (at + 1) ≡ got x n → OneView version 4 s at x n
  formerly_view = unary_view 4 (formerly <∘> window version) (windowed version s at one_number one_window 4 formerly (λ _. refl) (λ _. refl) refl refl)

  previous_view : unary version (condition_at version levels) (term_at version levels) (previous <∘> window version) s (at + 1) ≡ got x n → OneView version 5 s at x n
  previous_view = unary_view 5 (previous <∘> window version) (windowed version s at one_number one_window 5 previous (λ _. refl) (λ _. refl) refl refl)

  refine_view : unary version (condition_at version levels) (term_at version levels) (pure refine) s (at + 1) ≡ got x n → OneView version 13 s at x n
  refine_view = unary_view 13 (pure refine) (bare version s at one_number one_window refine refl refl)

  and_view : binary version (condition_at version levels) (term_at version levels) (pure and) s (at + 1) ≡ got x n → TwoView version 1 s at x n
  and_view = binary_view 1 (pure and) (bare version s at two_number two_window and refl refl)

  or_view : binary version (condition_at version levels) (term_at version levels) (pure or) s (at + 1) ≡ got x n → TwoView version 2 s at x n
  or_view = binary_view 2 (pure or) (bare version s at two_number two_window or refl refl)

  since_view : binary version (condition_at version levels) (term_at version levels) (since <∘> window version) s (at + 1) ≡ got x n → TwoView version 6 s at x n
  since_view = binary_view 6 (since <∘> window version) (windowed version s at two_number two_window 6 since (λ _. refl) (λ _. refl) refl refl)

  acting_view : predicate_of version (condition_at version levels) (term_at version levels) s (at + 1) ≡ got x n → PredicateView version s at x n
  unfolding predicate_of
  acting_view e =
      let a = after_span s at _ e in
      let b = split (span s (at + 9)) _ a.rest in
      let h = (span_view s (at + 9) b.first).place in
      let i : b.place ≡ at + 17 = omega arith in
      let d = split (counted (each (string_of path_name)) s b.place) _ b.rest in
      let f = split (string_of plain s d.place) _ d.rest in
      let g = split (argument_list version (condition_at version levels) (term_at version levels) s f.place) _ f.rest in
      record {
        around = a.own;
        own = b.value;
        namespace = d.value;
        name = d.place;
        action = f.value;
        list = f.place;
        args = g.value;
        spans = a.spans;
        owns = b.first ∙ ap (got b.value) i;
        lies = ap (counted (each (string_of path_name)) s) (sym i) ∙ d.first;
        acts = f.first;
        lists = g.first ∙ ap (got g.value) (got_place g.rest);
        whole = sym (got_value g.rest);
      }

  testing_view : comparison_of version (condition_at version levels) (term_at version levels) s (at + 1) ≡ got x n → ComparisonView version s at x n
  unfolding comparison_of
  testing_view e =
      let a = after_span s at _ e in
      let b = split (operator s (at + 9)) _ a.rest in
      let h = (operator_view s (at + 9) b.first).0 in
      let i : b.place ≡ at + 10 = omega arith in
      let d = split (term_at version levels false s b.place) _ b.rest in
      let f = split (term_at version levels false s d.place) _ d.rest in
      record {
        own = a.own;
        test = b.value;
        left = d.value;
        middle = d.place;
        right = f.value;
        spans = a.spans;
        tests = b.first ∙ ap (got b.value) i;
        reads = ap (term_at version levels false s) (sym i) ∙ d.first;
        further = f.first ∙ ap (got f.value) (got_place f.rest);
        whole = sym (got_value f.rest);
      }

  binding_view : exists_of version (condition_at version levels) (term_at version levels) s (at + 1) ≡ got x n → ExistsView version s at x n
  unfolding exists_of
  binding_view e =
      let a = after_span s at _ e in
      let b = split (binder s (at + 9)) _ a.rest in
      let d = split (condition_at version levels s b.place) _ b.rest in
      record {
        own = a.own;
        declared = b.value;
        middle = b.place;
        body = d.value;
        spans = a.spans;
        declares = b.first;
        reads = d.first ∙ ap (got d.value) (got_place d.rest);
        whole = sym (got_value d.rest);
      }

module _ (s : List ℕ) (at : ℕ) {x : Condition} {n : ℕ} where
  pointing_view : timepoint_of s (at + 1) ≡ got x n → TimepointView s at x n
  unfolding timepoint_of
  pointing_view e =
      let a = after_span s at _ e in
      let b = split (slot s (at + 9)) _ a.rest in
      record { own = a.own; place = b.value; spans = a.spans; reads = b.first ∙ ap (got b.value) (got_place b.rest); whole = sym (got_value b.rest) }

  bare_view : next (span s (at + 1)) (λ v m. got (opaque v) m) ≡ got x n → OpaqueView s at x n
  bare_view e =
      let a = after_span s at _ e in
      record { own = a.own; spans = a.spans; end = sym (got_place a.rest); whole = sym (got_value a.rest) }

-- SigilRef counts as Call
abbrev pub condition_number : ℕ → ℕ
condition_number k = cond (eqb k 12) 11 k

-- what every condition has: its span and its kind
pub record Head (s : List ℕ) (at : ℕ) (x : Condition) (k : ℕ) : Type 0 where
  pub spans : span s (at + 1) ≡ got (span_of x) (at + 9)
  pub kind : condition_number k ≡ kind_of x

head : {s : List ℕ} {at : ℕ} {x y : Condition} (k : ℕ) → span s (at + 1) ≡ got (span_of y) (at + 9) → x ≡ y → condition_number k ≡ kind_of y → Head s at x k
head k spans whole kind = record { spans = rw whole spans; kind = rw whole kind }

module _ (version : ℕ) (s : List ℕ) (at : ℕ) {x : Condition} {n : ℕ} where
  pub heads : (k : ℕ) → choose k (condition_kinds version (condition_at version levels) (term_at version levels)) s (at + 1) ≡ got x n → Head s at x k
  unfolding choose condition_kinds Each keys_up_to
  heads =
      let ones : (j : ℕ) → condition_number j ≡ j → OneView version j s at x n → Head s at x j = λ j i v. head j v.spans v.whole (i ∙ sym v.behind.kind) in
      let twos : (j : ℕ) → condition_number j ≡ j → TwoView version j s at x n → Head s at x j = λ j i v. head j v.spans v.whole (i ∙ sym v.behind.kind) in
      by_kind s (at + 1) 13 (condition_kinds version (condition_at version levels) (term_at version levels)) refl (Head s at x)
      (tt
      & no_value
      & (λ e. twos 1 refl (and_view version s at e))
      & (λ e. twos 2 refl (or_view version s at e))
      & (λ e. ones 3 refl (not_view version s at e))
      & (λ e. ones 4 refl (formerly_view version s at e))
      & (λ e. ones 5 refl (previous_view version s at e))
      & (λ e. twos 6 refl (since_view version s at e))
      & (λ e. let v = acting_view version s at e in head 7 v.spans v.whole refl)
      & (λ e. let v = testing_view version s at e in head 8 v.spans v.whole refl)
      & (λ e. let v = binding_view version s at e in head 9 v.spans v.whole refl)
      & (λ e. let v = pointing_view s at e in head 10 v.spans v.whole refl)
      & (λ e. let v = bare_view s at e in head 11 v.spans v.whole refl)
      & (λ e. let v = bare_view s at e in head 12 v.spans v.whole refl)
      & (λ e. ones 13 refl (refine_view version s at e)))

  pub ones : (k : ℕ) → choose k (condition_kinds version (condition_at version levels) (term_at version levels)) s (at + 1) ≡ got x n → one_kind k ≡ true → OneView version k s at x n
  unfolding choose condition_kinds Each keys_up_to
  ones =
      by_kind s (at + 1) 13 (condition_kinds version (condition_at version levels) (term_at version levels)) refl (λ k. one_kind k ≡ true → OneView version k s at x n)
      (tt
      & (λ _ h. absurd (false≢true h))
      & (λ _ h. absurd (false≢true h))
      & (λ _ h. absurd (false≢true h))
      & (λ e h. not_view version s at e)
      & (λ e h. formerly_view version s at e)
      & (λ e h. previous_view version s at e)
      & (λ _ h. absurd (false≢true h))
      & (λ _ h. absurd (false≢true h))
      & (λ _ h. absurd (false≢true h))
      & (λ _ h. absurd (false≢true h))
      & (λ _ h. absurd (false≢true h))
      & (λ _ h. absurd (false≢true h))
      & (λ _ h. absurd (false≢true h))
      & (λ e h. refine_view version s at e))

  pub twos : (k : ℕ) → choose k (condition_kinds version (condition_at version levels) (term_at version levels)) s (at + 1) ≡ got x n → two_kind k ≡ true → TwoView version k s at x n
  unfolding choose condition_kinds Each keys_up_to
  twos =
      by_kind s (at + 1) 13 (condition_kinds version (condition_at version levels) (term_at version levels)) refl (λ k. two_kind k ≡ true → TwoView version k s at x n)
      (tt
      & (λ _ h. absurd (false≢true h))
      & (λ e h. and_view version s at e)
      & (λ e h. or_view version s at e)
      & (λ _ h. absurd (false≢true h))
      & (λ _ h. absurd (false≢true h))
      & (λ _ h. absurd (false≢true h))
      & (λ e h. since_view version s at e)
      & (λ _ h. absurd (false≢true h))
      & (λ _ h. absurd (false≢true h))
      & (λ _ h. absurd (false≢true h))
      & (λ _ h. absurd (false≢true h))
      & (λ _ h. absurd (false≢true h))
      & (λ _ h. absurd (false≢true h))
      & (λ _ h. absurd (false≢true h)))

-- One view for each shape, by the kind byte.
module _ (version : ℕ) (s : List ℕ) (at : ℕ) {x : Condition} {n : ℕ} (e : condition_at version levels s at ≡ got x n) where
  pub inside : at < length s
  unfolding condition_at
  inside = (u8_view s at (split (u8 s at) _ e).first).0

  inner : choose (get_or s at 0) (condition_kinds version (condition_at version levels) (term_at version levels)) s (at + 1) ≡ got x n
  unfolding condition_at
  inner =
      let a = split (u8 s at) _ (condition_wider version 32 33 (omega arith) s at x n e) in
      let v = u8_view s at a.first in
      let r = a.rest in
      rw (← v.1, ← v.2) r

  of_kind : (k : ℕ) → get_or s at 0 ≡ k → choose k (condition_kinds version (condition_at version levels) (term_at version levels)) s (at + 1) ≡ got x n
  of_kind k i = rw (← i) inner

  pub head_view : Head s at x (get_or s at 0)
  head_view = heads version s at (get_or s at 0) inner

  pub one_view : one_kind (get_or s at 0) ≡ true → OneView version (get_or s at 0) s at x n
  one_view = ones version s at (get_or s at 0) inner

  pub two_view : two_kind (get_or s at 0) ≡ true → TwoView version (get_or s at 0) s at x n
  two_view = twos version s at (get_or s at 0) inner

  pub predicate_view : get_or s at 0 ≡ 7 → PredicateView version s at x n
  unfolding choose condition_kinds
  predicate_view k = acting_view version s at (of_kind 7 k)

  pub comparison_view : get_or s at 0 ≡ 8 → ComparisonView version s at x n
  unfolding choose condition_kinds
  comparison_view k = testing_view version s at (of_kind 8 k)

  pub exists_view : get_or s at 0 ≡ 9 → ExistsView version s at x n
  unfolding choose condition_kinds
  exists_view k = binding_view version s at (of_kind 9 k)

  pub timepoint_view : get_or s at 0 ≡ 10 → TimepointView s at x n
  unfolding choose condition_kinds
  timepoint_view k = pointing_view s at (of_kind 10 k)

-- Terms.
pub record ArithView (version : ℕ) (s : List ℕ) (at : ℕ) (t : Term) (n : ℕ) : Type 0 where
  pub op : Option ArithOp
  pub left : Term
  pub middle : ℕ
  pub right : Term
  pub says : given version arith_op s (at + 1) ≡ got op (at + 1 + op_length version)
  pub reads : term_at version levels false s (at + 1 + op_length version) ≡ got left middle
  pub further : term_at version levels false s middle ≡ got right n
  pub whole : t ≡ tree.arith op left right

-- a term that is one part behind its kind byte
pub record PartView {A : Type 0} (f : Reader A) (make : A → Term) (s : List ℕ) (at : ℕ) (t : Term) (n : ℕ) : Type 0 where
  pub part : A
  pub reads : f s (at + 1) ≡ got part n
  pub whole : t ≡ make part

part_view : {A : Type 0} (f : Reader A) (make : A → Term) (s : List ℕ) (at : ℕ) {t : Term} {n : ℕ} → next (f s (at + 1)) (λ a m. got (make a) m) ≡ got t n → PartView f make s at t n
part_view f make s at e = let a = split (f s (at + 1)) _ e in record { part = a.value; reads = a.first ∙ ap (got a.value) (got_place a.rest); whole = sym (got_value a.rest) }

-- BinderRef counts as ParamRef
abbrev pub term_number : ℕ → ℕ
term_number k = cond (eqb k 14) 13 k

-- a leaf: a term of any kind but an aggregate and an arithmetic
abbrev pub is_leaf : ℕ → Bool
is_leaf k = cond (eqb k 11) false (cond (eqb k 12) false true)

module _ (version : ℕ) (s : List ℕ) (at : ℕ) {t : Term} {n : ℕ} where
  adding_view : arith_of version (condition_at version levels) (term_at version levels) false s (at + 1) ≡ got t n → ArithView version s at t n
  unfolding arith_of
  adding_view e =
      let o = split (given version arith_op s (at + 1)) _ e in
      let i = op_place version s (at + 1) o.first in
      let a = split (term_at version levels false s o.place) _ o.rest in
      let b = split (term_at version levels false s a.place) _ a.rest in
      record {
        op = o.value;
        left = a.value;
        middle = a.place;
        right = b.value;
        says = o.first ∙ ap (got o.value) i;
        reads = ap (term_at version levels false s) (sym i) ∙ a.first;
        further = b.first ∙ ap (got b.value) (got_place b.rest);
        whole = sym (got_value b.rest);
      }

  numbers : (k : ℕ) → choose k (term_kinds version (condition_at version levels) (term_at version levels) false) s (at + 1) ≡ got t n → term_number k ≡ term_kind_of t
  unfolding choose term_kinds Each keys_up_to
  numbers =
      let own : (u : Term) → got u (at + 1) ≡ got t n → term_kind_of u ≡ term_kind_of t = λ u e. ap term_kind_of (got_value e) in
      let is : (u : Term) → t ≡ u → term_kind_of u ≡ term_kind_of t = λ u e. ap term_kind_of (sym e) in
      by_kind s (at + 1) 14 (term_kinds version (condition_at version levels) (term_at version levels) false) refl (λ k. term_number k ≡ term_kind_of t)
      (tt
      & no_value
      & (λ e. is _ (part_view (entity_fields version) entity s at e).whole)
      & (λ e. is _ (part_view (given version i64) (λ v. literal (integer v)) s at e).whole)
      & (λ e. is _ (part_view (given version decimal_text) (λ v. literal (decimal v)) s at e).whole)
      & (λ e. is _ (part_view (given version (string_of plain)) (λ v. literal (string v)) s at e).whole)
      & (λ e. is _ (part_view (given version truth) (λ v. literal (bool v)) s at e).whole)
      & (λ e. is _ (part_view path_of context_field s at e).whole)
      & (λ e. is _ (part_view path_of scope_field s at e).whole)
      & (λ e. is _ (part_view (string_of plain) var s at e).whole)
      & own wildcard
      & (λ e. is _ (part_view (element_list version (condition_at version levels) (term_at version levels)) array s at e).whole)
      & (λ e. is _ (part_view (aggregate_of version (condition_at version levels) (term_at version levels)) aggregate s at e).whole)
      & (λ e. is _ (adding_view e).whole)
      & own sigil
      & own sigil)

-- One view for each shape, by the kind byte.
module _ (version : ℕ) (s : List ℕ) (at : ℕ) {t : Term} {n : ℕ} (e : term_at version levels false s at ≡ got t n) where
  pub term_inside : at < length s
  unfolding term_at
  term_inside = (u8_view s at (split (u8 s at) _ e).first).0

  inner_term : choose (get_or s at 0) (term_kinds version (condition_at version levels) (term_at version levels) false) s (at + 1) ≡ got t n
  unfolding term_at
  inner_term =
      let a = split (u8 s at) _ (term_wider version false 32 33 (omega arith) s at t n e) in
      let v = u8_view s at a.first in
      let r = a.rest in
      rw (← v.1, ← v.2) r

  of_term_kind : (k : ℕ) → get_or s at 0 ≡ k → choose k (term_kinds version (condition_at version levels) (term_at version levels) false) s (at + 1) ≡ got t n
  of_term_kind k i = rw (← i) inner_term

  pub term_number_lem : term_number (get_or s at 0) ≡ term_kind_of t
  term_number_lem = numbers version s at (get_or s at 0) inner_term

  pub entity_view : get_or s at 0 ≡ 1 → PartView (entity_fields version) entity s at t n
  unfolding choose term_kinds
  entity_view k = part_view _ _ s at (of_term_kind 1 k)

  pub context_view : get_or s at 0 ≡ 6 → PartView path_of context_field s at t n
  unfolding choose term_kinds
  context_view k = part_view _ _ s at (of_term_kind 6 k)

  pub scope_view : get_or s at 0 ≡ 7 → PartView path_of scope_field s at t n
  unfolding choose term_kinds
  scope_view k = part_view _ _ s at (of_term_kind 7 k)

  pub var_view : get_or s at 0 ≡ 8 → PartView (string_of plain) var s at t n
  unfolding choose term_kinds
  var_view k = part_view _ _ s at (of_term_kind 8 k)

  pub array_view : get_or s at 0 ≡ 10 → PartView (element_list version (condition_at version levels) (term_at version levels)) array s at t n
  unfolding choose term_kinds
  array_view k = part_view _ _ s at (of_term_kind 10 k)

  pub aggregate_view : get_or s at 0 ≡ 11 → PartView (aggregate_of version (condition_at version levels) (term_at version levels)) aggregate s at t n
  unfolding choose term_kinds
  aggregate_view k = part_view _ _ s at (of_term_kind 11 k)

  pub arith_view : get_or s at 0 ≡ 12 → ArithView version s at t n
  unfolding choose term_kinds
  arith_view k = adding_view version s at (of_term_kind 12 k)

-- Aggregates, from their own kind byte on.
pub record SumView (version : ℕ) (s : List ℕ) (at : ℕ) (x : Aggregate) (n : ℕ) : Type 0 where
  pub own : Span
  pub summand : Slot
  pub list : ℕ
  pub declared : List Binder
  pub middle : ℕ
  pub body : Condition
  pub spans : span s (at + 1) ≡ got own (at + 9)
  pub adds : slot s (at + 9) ≡ got summand list
  pub declares : counted (each binder) s list ≡ got declared middle
  pub reads : condition_at version levels s middle ≡ got body n
  pub whole : x ≡ sum own summand declared body

pub record CountView (version : ℕ) (s : List ℕ) (at : ℕ) (x : Aggregate) (n : ℕ) : Type 0 where
  pub own : Span
  pub declared : List Binder
  pub middle : ℕ
  pub body : Condition
  pub spans : span s (at + 1) ≡ got own (at + 9)
  pub declares : counted (each binder) s (at + 9) ≡ got declared middle
  pub reads : condition_at version levels s middle ≡ got body n
  pub whole : x ≡ count own declared body

pub record CallView (s : List ℕ) (at : ℕ) (x : Aggregate) (n : ℕ) : Type 0 where
  pub own : Span
  pub spans : span s (at + 1) ≡ got own (at + 9)
  pub end : n ≡ at + 9
  pub whole : x ≡ call own

pub record AggregateHead (s : List ℕ) (at : ℕ) (x : Aggregate) (k : ℕ) : Type 0 where
  pub spans : span s (at + 1) ≡ got (aggregate_span_of x) (at + 9)
  pub kind : k ≡ aggregate_kind_of x

aggregate_head : {s : List ℕ} {at : ℕ} {x y : Aggregate} (k : ℕ) → span s (at + 1) ≡ got (aggregate_span_of y) (at + 9) → x ≡ y → k ≡ aggregate_kind_of y → AggregateHead s at x k
aggregate_head k spans whole kind = record { spans = rw whole spans; kind = rw whole kind }

module _ (s : List ℕ) (at : ℕ) {x : Aggregate} {n : ℕ} where
  calling_view : next (span s (at + 1)) (λ v m. got (call v) m) ≡ got x n → CallView s at x n
  calling_view e =
      let a = after_span s at _ e in
      record { own = a.own; spans = a.spans; end = sym (got_place a.rest); whole = sym (got_value a.rest) }

module _ (version : ℕ) (s : List ℕ) (at : ℕ) {x : Aggregate} {n : ℕ} where
  summing_view : sum_of version (condition_at version levels) (term_at version levels) s (at + 1) ≡ got x n → SumView version s at x n
  unfolding sum_of
  summing_view e =
      let a = after_span s at _ e in
      let b = split (slot s (at + 9)) _ a.rest in
      let d = split (counted (each binder) s b.place) _ b.rest in
      let f = split (condition_at version levels s d.place) _ d.rest in
      record {
        own = a.own;
        summand = b.value;
        list = b.place;
        declared = d.value;
        middle = d.place;
        body = f.value;
        spans = a.spans;
        adds = b.first;
        declares = d.first;
        reads = f.first ∙ ap (got f.value) (got_place f.rest);
        whole = sym (got_value f.rest);
      }

  counting_view : count_of version (condition_at version levels) (term_at version levels) s (at + 1) ≡ got x n → CountView version s at x n
  unfolding count_of
  counting_view e =
      let a = after_span s at _ e in
      let d = split (counted (each binder) s (at + 9)) _ a.rest in
      let f = split (condition_at version levels s d.place) _ d.rest in
      record {
        own = a.own;
        declared = d.value;
        middle = d.place;
        body = f.value;
        spans = a.spans;
        declares = d.first;
        reads = f.first ∙ ap (got f.value) (got_place f.rest);
        whole = sym (got_value f.rest);
      }

  aggregate_heads : (k : ℕ) → choose k (aggregate_kinds version (condition_at version levels) (term_at version levels)) s (at + 1) ≡ got x n → AggregateHead s at x k
  unfolding choose aggregate_kinds Each keys_up_to
  aggregate_heads =
      by_kind s (at + 1) 3 (aggregate_kinds version (condition_at version levels) (term_at version levels)) refl (AggregateHead s at x)
      ((((tt, no_value), λ e. let v = summing_view e in aggregate_head 1 v.spans v.whole refl), λ e. let v = counting_view e in aggregate_head 2 v.spans v.whole refl), λ e. let v = calling_view s at e in aggregate_head 3 v.spans v.whole refl)

module _ (version : ℕ) (s : List ℕ) (at : ℕ) {x : Aggregate} {n : ℕ} (e : aggregate_of version (condition_at version levels) (term_at version levels) s at ≡ got x n) where
  inner_aggregate : choose (get_or s at 0) (aggregate_kinds version (condition_at version levels) (term_at version levels)) s (at + 1) ≡ got x n
  unfolding aggregate_of
  inner_aggregate =
      let a = split (u8 s at) _ e in
      let v = u8_view s at a.first in
      let r = a.rest in
      rw (← v.1, ← v.2) r

  of_aggregate_kind : (k : ℕ) → get_or s at 0 ≡ k → choose k (aggregate_kinds version (condition_at version levels) (term_at version levels)) s (at + 1) ≡ got x n
  of_aggregate_kind k i = rw (← i) inner_aggregate

  pub aggregate_head_view : AggregateHead s at x (get_or s at 0)
  aggregate_head_view = aggregate_heads version s at (get_or s at 0) inner_aggregate

  pub sum_view : get_or s at 0 ≡ 1 → SumView version s at x n
  unfolding choose aggregate_kinds
  sum_view k = summing_view version s at (of_aggregate_kind 1 k)

  pub count_view : get_or s at 0 ≡ 2 → CountView version s at x n
  unfolding choose aggregate_kinds
  count_view k = counting_view version s at (of_aggregate_kind 2 k)

  pub call_view : get_or s at 0 ≡ 3 → CallView s at x n
  unfolding choose aggregate_kinds
  call_view k = calling_view s at (of_aggregate_kind 3 k)
