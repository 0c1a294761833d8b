-- What the parts of a condition, a term, an aggregate, a list are, as the code hands them out. Assumes nothing.
use Rattle.std.specs.Prelude.{◌≡◌, true, false, List, [], ◌∷◌, ℕ, zero, suc, ◌+◌, ◌-◌, ◌≤◌, ◌<◌, length}
use Rattle.std.proofs.Math.Path.{refl, sym, ap, ap₂}
use Rattle.std.proofs.Common.{◌∙◌, sub-one, rules}
use native.Mathlib.Omega.{arith}
use Rattle.std.proofs.Math.ListN.{get_or}
use Rattle.names.specs.Fields.{got, Reader, u8, string_of, each, counted, choose, levels}
use Rattle.names.specs.Names.{plain, path_name, identifier, last_of}
use Rattle.names.specs.Paths.{path_of}
use Rattle.names.specs.Read.{ending, accepted, value_or, word_at, row, Listed, Read}
use Rattle.names.specs.Laws.Readers.{split, u8_view, accept, is_accepted, has_value, got_value, got_place, string_view, Each, keys_up_to}
use Rattle.names.specs.Laws.Rows.{counted_view, listed, Opens, opens, Remaining, row_empty}
use Rattle.nodes.specs.declared.Ends.{Ends}
use Rattle.nodes.specs.declared.SlotAt.{SlotAt}
use Rattle.nodes.specs.declared.SlotAt.TheVariants.{Named, ParamRef, BinderRef}
use Rattle.condition.specs.Condition.{Span, Slot, named, binder_ref, Binder, Condition, Term, Terms, Arguments, Aggregate, predicate, tp, no_argument, argument, context_field, scope_field, var, array, nil, cons, sum, slot_kinds, slot, binder, span, arguments, argument_list, elements, element_list, condition_at, term_at}
use Rattle.condition.specs.Walk.{reached, reached_body, declared_by}
use Rattle.condition.specs.Places.{version_in, term_here, is_condition, condition_in, is_term, term_in, is_aggregate, aggregate_in, is_arguments, arguments_in, is_elements, elements_in, is_path, path_in, is_slot, slot_in, arguments_at, elements_at}
use Rattle.nodes.specs.Offsets.{first_part, term_part, left_part, aggregate_part}
use Rattle.nodes.specs.Laws.Inside.{same_end, ended, place_other, place_compared, compared_inside, added_inside}
use Rattle.nodes.specs.Kinds.{kind_of, span_of, own_span_of, term_kind_of, aggregate_kind_of, aggregate_span_of}
use Rattle.nodes.specs.Looked.{place_of, Skipped, TermKindHere, AggregateKindHere, ComparedHere, BodyHere}
use Rattle.nodes.specs.Parts.{EndsHere, Spans, ComparisonHere, ArithHere, PredicateHere, ArgumentHere, TimepointHere, ElementsHere, ElementHere, PathHere, SummandHere, binders_in, BindersHere, slot_of, segments_in, SegmentsHere, SlotHere}
use Rattle.condition.specs.Laws.Sizes.{forward_counted, forward_string, forward_path, one_term}
use Rattle.condition.specs.Laws.Levels.{term_anywhere}
use Rattle.nodes.specs.Laws.Choices.{by_kind}
use Rattle.nodes.specs.Laws.Views.{head_view, span_view, operator_view, PredicateView, predicate_view, timepoint_view, aggregate_head_view, PartView, context_view, scope_view, var_view, array_view}
use Rattle.nodes.specs.Laws.Opens.{term_there, term_value, Stands, skipped, stood, ends_at, condition_stands, condition_room, raw_kind, comparison_here, term_stands, term_index, raw_term, aggregate_stands, aggregate_kind_here, sum_here, count_here, counts}

-- The place behind path names and behind a path.
module _ (s : List ℕ) (at : ℕ) (x : Read) (n : ℕ) where
  pub skipped_names : accepted (counted (each (string_of path_name)) s at) ≡ true → x ≡ ending (counted (each (string_of path_name)) s at) → n ≡ place_of at x → Skipped (counted (each (string_of path_name)) s at) at n
  skipped_names = skipped (forward_counted (string_of path_name) (forward_string path_name)) s at x n

  pub skipped_path : is_path s at ≡ true → x ≡ ending (path_of s at) → n ≡ place_of at x → Skipped (path_of s at) at n
  skipped_path = skipped forward_path s at x n

-- Spans.
spans_of : {s : List ℕ} {at n : ℕ} {v : Span} {r : Ends} → span s at ≡ got v n → EndsHere s at r → Spans v r
spans_of {s} {at} e h = let w = span_view s at e in record { start = h.start ∙ sym w.start; end = h.end ∙ sym w.end }

timepoint_value : {x : Condition} {own : Span} {p q : Slot} → x ≡ tp own p → q ≡ p → x ≡ tp (span_of x) q
timepoint_value e f = rw (e, f)

predicate_value : {x : Condition} {around own : Span} {ns : List (List ℕ)} {v w : List ℕ} {l m : Arguments} → x ≡ predicate around own ns v l → w ≡ v → m ≡ l → x ≡ predicate (span_of x) (own_span_of x) ns w m
predicate_value e f g = rw (e, f, g)

argument_value : {l rest more : Arguments} {v w : List ℕ} {f g : List (List ℕ)} {t u : Term} → l ≡ argument v f t rest → w ≡ v → g ≡ f → u ≡ t → more ≡ rest → l ≡ argument w g u more
argument_value e a b c d = rw (e, a, b, c, d)

sum_value : {x : Aggregate} {own : Span} {p q : Slot} {bs : List Binder} {c : Condition} → x ≡ sum own p bs c → q ≡ p → x ≡ sum (aggregate_span_of x) q bs c
sum_value e f = rw (e, f)

module _ (s : List ℕ) (at : ℕ) (acc : is_condition s at ≡ true) where
  pub span_room : at + 1 + 8 ≤ length s
  span_room = let h = condition_room s at acc in omega arith

  pub span_here : (r : Ends) → EndsHere s (at + 1) r → Spans (span_of (condition_in s at)) r
  span_here r h = spans_of (head_view (version_in s) s at (condition_stands s at acc).read).spans h

  -- a predicate
  module _ (is : kind_of (condition_in s at) ≡ 7) where
    acting : PredicateView (version_in s) s at (condition_in s at) (condition_stands s at acc).end
    acting = predicate_view (version_in s) s at (condition_stands s at acc).read (raw_kind s at acc 7 (λ i. omega arith) is)

    pub own_room : at + 9 + 8 ≤ length s
    own_room = (span_view s (at + 9) acting.owns).inside

    pub own_here : (r : Ends) → EndsHere s (at + 9) r → Spans (own_span_of (condition_in s at)) r
    own_here r h = rw acting.whole (spans_of acting.owns h)

  -- the slot of a timepoint
  pub timepoint_inside : kind_of (condition_in s at) ≡ 10 → (p : ℕ) → p ≡ first_part s at → TimepointHere s at p
  unfolding slot_in
  timepoint_inside is p e =
      let v = timepoint_view (version_in s) s at (condition_stands s at acc).read (raw_kind s at acc 10 (λ i. omega arith) is) in
      let i = place_other s at acc p e 10 (sym is) refl refl (λ q. omega arith) in
      rw i (record { stands = is_accepted v.reads; value = timepoint_value v.whole (has_value _ v.reads) })

pub aggregate_span_room : (s : List ℕ) (at : ℕ) → is_aggregate s at ≡ true → at + 1 + 8 ≤ length s
aggregate_span_room s at acc = let o = aggregate_kind_here s at acc in omega arith

pub aggregate_span_here : (s : List ℕ) (at : ℕ) → is_aggregate s at ≡ true → (r : Ends) → EndsHere s (at + 1) r → Spans (aggregate_span_of (aggregate_in s at)) r
aggregate_span_here s at acc r h = spans_of (aggregate_head_view (version_in s) s at (aggregate_stands s at acc).read).spans h

-- a term takes one byte at least
pub term_ahead : (s : List ℕ) (at : ℕ) {t : Term} {n : ℕ} → term_here s at ≡ got t n → at < n
term_ahead s at e = let l = (one_term (version_in s) levels false).on s at e in omega arith

-- Comparisons and arithmetic.
module _ (s : List ℕ) (at : ℕ) (acc : is_condition s at ≡ true) (is : kind_of (condition_in s at) ≡ 8) where
  pub comparison_index : at + 9 < length s
  comparison_index = let h = term_index s (at + 10) (is_accepted (comparison_here s at acc is).reads) in omega arith

  module _ (p : ℕ) (e : p ≡ first_part s at) where
    compared : ComparedHere s at p
    compared = compared_inside s at acc p e 8 (sym is) refl

    pub comparison_left : is_term s p ≡ true
    comparison_left = compared.stands

    pub comparison_parts : (k m : ℕ) → k ≡ get_or s (at + 9) 0 → Skipped (term_here s p) p m → ComparisonHere s at (record { operator = k; left = p; right = m })
    comparison_parts k m f z =
        let v = comparison_here s at acc is in
        let j : p ≡ at + 10 = place_compared s at acc p e is in
        let i = ends_at (term_there s j v.reads) z.ends in
        let l = term_ahead s p (term_there s j v.reads) in
        record {
          op = v.test;
          number = f ∙ sym (operator_view s (at + 9) v.tests).1;
          left = compared.stands;
          right = is_accepted (term_there s i v.further);
          ahead = omega (arith, compared.ahead);
          further = omega arith;
          value = rw (term_value s j v.reads, term_value s i v.further, v.whole);
        }

module _ (s : List ℕ) (at : ℕ) (acc : is_term s at ≡ true) (p : ℕ) (e : p ≡ left_part s at) (is : term_kind_of (term_in s at) ≡ 12) where
  pub arith_left : is_term s p ≡ true
  arith_left = (added_inside s at acc p e is).stands

  pub arith_parts : (m : ℕ) → Skipped (term_here s p) p m → ArithHere s at (record { left = p; right = m })
  arith_parts m z =
      let h = added_inside s at acc p e is in
      let w = term_stands s p h.stands in
      let i : m ≡ h.second = ends_at w.read z.ends ∙ sym (ends_at w.read h.between) in
      let l = term_ahead s p w.read in
      let q = ends_at w.read z.ends in
      rw i (record { op = h.op; left = h.stands; right = h.behind; ahead = h.ahead; further = omega arith; value = h.value })

module _ (s : List ℕ) (at : ℕ) (acc : is_term s at ≡ true) (p : ℕ) (e : p ≡ term_part s at) where
  -- names and paths
  module _ (k : ℕ) (o : TermKindHere s at k) where
    pub var_inside : k ≡ 8 → term_in s at ≡ var (word_at s p)
    unfolding term_part
    var_inside is =
        let v = var_view (version_in s) s at (term_stands s at acc).read (raw_term s at acc 8 (λ i. omega arith) (sym o.kind ∙ is)) in
        rw e (v.whole ∙ ap var (string_view plain s (at + 1) v.reads).word)

    pub context_inside : k ≡ 6 → PathHere context_field s at p
    unfolding term_part path_in
    context_inside is =
        let v = context_view (version_in s) s at (term_stands s at acc).read (raw_term s at acc 6 (λ i. omega arith) (sym o.kind ∙ is)) in
        rw e (record { stands = is_accepted v.reads; value = v.whole ∙ ap context_field (sym (has_value _ v.reads)) })

    pub scope_inside : k ≡ 7 → PathHere scope_field s at p
    unfolding term_part path_in
    scope_inside is =
        let v = scope_view (version_in s) s at (term_stands s at acc).read (raw_term s at acc 7 (λ i. omega arith) (sym o.kind ∙ is)) in
        rw e (record { stands = is_accepted v.reads; value = v.whole ∙ ap scope_field (sym (has_value _ v.reads)) })

    pub context_path : k ≡ 6 → is_path s p ≡ true
    context_path is = (context_inside is).stands

    pub scope_path : k ≡ 7 → is_path s p ≡ true
    scope_path is = (scope_inside is).stands

-- Lists: a count and the things.
pub counted_here : {A : Type 0} (f : Reader A) (s : List ℕ) (at : ℕ) → accepted (counted (each f) s at) ≡ true → Listed f s (value_or [] (counted (each f) s at)) (get_or s at 0) (at + 1)
counted_here f s at acc = let w = stood [] (counted (each f) s at) acc in listed f s (get_or s at 0) (at + 1) (counted_view f s at w.read).read

pub counted_index : {A : Type 0} (f : Reader A) (s : List ℕ) (at : ℕ) → accepted (counted (each f) s at) ≡ true → at < length s
counted_index f s at acc = let w = stood [] (counted (each f) s at) acc in (counted_view f s at w.read).inside

module _ (s : List ℕ) (at : ℕ) where
  pub path_index : is_path s at ≡ true → at < length s
  unfolding path_of
  path_index acc = counted_index (string_of plain) s at acc

  pub path_listed : is_path s at ≡ true → (n : ℕ) → n ≡ get_or s at 0 → Listed (string_of plain) s (path_in s at) n (at + 1)
  unfolding path_of path_in
  path_listed acc n e = rw e (counted_here (string_of plain) s at acc)

  pub segments_index : SegmentsHere s at → at < length s
  segments_index h = counted_index (string_of identifier) s at h.stands

  pub segments_listed : SegmentsHere s at → (n : ℕ) → n ≡ get_or s at 0 → Listed (string_of identifier) s (segments_in s at) n (at + 1)
  unfolding segments_in
  segments_listed h n e = rw e (counted_here (string_of identifier) s at h.stands)

-- A predicate's parts.
module _ (s : List ℕ) (at : ℕ) (acc : is_condition s at ≡ true) (is : kind_of (condition_in s at) ≡ 7) where
  pub names_stand : accepted (counted (each (string_of path_name)) s (at + 17)) ≡ true
  names_stand = is_accepted (acting s at acc is).lies

  pub names_index : at + 17 < length s
  names_index = counted_index (string_of path_name) s (at + 17) names_stand

  module _ (p : ℕ) (z : Skipped (counted (each (string_of path_name)) s (at + 17)) (at + 17) p) where
    action_place : p ≡ (acting s at acc is).name
    action_place = ends_at (acting s at acc is).lies z.ends

    acts : string_of plain s p ≡ got (acting s at acc is).action (acting s at acc is).list
    acts = ap (string_of plain s) action_place ∙ (acting s at acc is).acts

    pub action_inside : p + 1 + get_or s p 0 ≤ length s
    action_inside = let v = string_view plain s p acts in omega arith

    module _ (m : ℕ) (e : m ≡ p + 1 + get_or s p 0) where
      arguments_read : argument_list (version_in s) (condition_at (version_in s) levels) (term_at (version_in s) levels) s m ≡ got (acting s at acc is).args (condition_stands s at acc).end
      arguments_read = ap (argument_list (version_in s) (condition_at (version_in s) levels) (term_at (version_in s) levels) s) (e ∙ sym (string_view plain s p acts).place) ∙ (acting s at acc is).lists

      record ListView (l : Arguments) (n : ℕ) : Type 0 where
        inside : m < length s
        read : arguments_at (get_or s m 0) s (m + 1) ≡ got l n

      list_view : ListView (acting s at acc is).args (condition_stands s at acc).end
      unfolding argument_list
      list_view =
          let a = split (u8 s m) _ arguments_read in
          let u = u8_view s m a.first in
          record { inside = u.0; read = rw (← u.1, ← u.2) a.rest }

      pub arguments_index : m < length s
      arguments_index = list_view.inside

      pub predicate_parts : (j k : ℕ) → j ≡ get_or s (at + 17) 0 → k ≡ get_or s m 0 → PredicateHere s at (record { names = j; namespace = at + 17 + 1; action = p; count = k; first = m + 1 })
      unfolding arguments_in
      predicate_parts j k f g =
          let v = acting s at acc is in
          let w = counted_view (string_of path_name) s (at + 17) v.lies in
          let l = list_view in
          record {
            namespace = v.namespace;
            names = rw f (listed (string_of path_name) s (get_or s (at + 17) 0) (at + 17 + 1) w.read);
            args = rw g (is_accepted l.read);
            ahead = omega arith;
            value = predicate_value v.whole (sym (string_view plain s p acts).word) (rw g (has_value _ l.read));
          }

-- The first of so many arguments.
record FirstArgument (s : List ℕ) (n at : ℕ) (l : Arguments) (end : ℕ) : Type 0 where
  name : List ℕ
  p : ℕ
  field : List (List ℕ)
  q : ℕ
  term : Term
  r : ℕ
  rest : Arguments
  names : string_of plain s at ≡ got name p
  leads : path_of s p ≡ got field q
  reads : term_here s q ≡ got term r
  goes : arguments_at (n - 1) s r ≡ got rest end
  whole : l ≡ argument name field term rest

first_argument : (s : List ℕ) (n at : ℕ) {l : Arguments} {end : ℕ} → 0 < n → arguments_at n s at ≡ got l end → FirstArgument s n at l end
unfolding arguments
first_argument s zero at h e = absurd (omega arith)
first_argument s (suc n) at h e =
    let a = split (string_of plain s at) _ e in
    let b = split (path_of s a.place) _ a.rest in
    let d = split (term_here s b.place) _ b.rest in
    let f = split (arguments_at n s d.place) _ d.rest in
    record {
      name = a.value;
      p = a.place;
      field = b.value;
      q = b.place;
      term = d.value;
      r = d.place;
      rest = f.value;
      names = a.first;
      leads = b.first;
      reads = d.first;
      goes = rw sub-one (f.first ∙ ap (got f.value) (got_place f.rest));
      whole = sym (got_value f.rest);
    }

module _ (s : List ℕ) (n at : ℕ) (acc : is_arguments s n at ≡ true) (h : 0 < n) where
  arguments_stand : Stands (arguments_at n s at) (arguments_in s n at)
  unfolding arguments_in
  arguments_stand = stood _ _ acc

  first_of : FirstArgument s n at (arguments_in s n at) arguments_stand.end
  first_of = first_argument s n at h arguments_stand.read

  pub argument_inside : at + 1 + get_or s at 0 ≤ length s
  argument_inside = let v = string_view plain s at first_of.names in omega arith

  module _ (p : ℕ) (e : p ≡ at + 1 + get_or s at 0) where
    leading : path_of s p ≡ got first_of.field first_of.q
    leading = ap (path_of s) (e ∙ sym (string_view plain s at first_of.names).place) ∙ first_of.leads

    pub field_stands : is_path s p ≡ true
    field_stands = is_accepted leading

    module _ (q : ℕ) (z : Skipped (path_of s p) p q) where
      reading : term_here s q ≡ got first_of.term first_of.r
      reading = term_there s (ends_at leading z.ends) first_of.reads

      pub value_stands : is_term s q ≡ true
      value_stands = is_accepted reading

      pub argument_parts : (r : ℕ) → Skipped (term_here s q) q r → ArgumentHere s n at (record { field = p; term = q; next = r })
      unfolding path_in arguments_in
      argument_parts r y =
          let i = ends_at reading y.ends in
          let goes = ap (arguments_at (n - 1) s) i ∙ first_of.goes in
          let l = term_ahead s q reading in
          record {
            field = field_stands;
            term = value_stands;
            rest = is_accepted goes;
            ahead = omega arith;
            further = omega arith;
            value = argument_value first_of.whole (sym (string_view plain s at first_of.names).word) (has_value _ leading) (term_value s refl reading) (has_value _ goes);
          }

pub arguments_over : (s : List ℕ) (n at : ℕ) → n ≤ 0 → arguments_in s n at ≡ no_argument
unfolding arguments_in arguments value_or
arguments_over s zero at h = refl
arguments_over s (suc n) at h = absurd (omega arith)

-- The elements of an array, and the first of so many.
module _ (s : List ℕ) (at : ℕ) (acc : is_term s at ≡ true) (is : term_kind_of (term_in s at) ≡ 10) where
  record ElementsView (l : Terms) (n : ℕ) : Type 0 where
    inside : at + 1 < length s
    read : elements_at (get_or s (at + 1) 0) s (at + 2) ≡ got l n
    whole : term_in s at ≡ array l

  arrays : PartView (element_list (version_in s) (condition_at (version_in s) levels) (term_at (version_in s) levels)) array s at (term_in s at) (term_stands s at acc).end
  arrays = array_view (version_in s) s at (term_stands s at acc).read (raw_term s at acc 10 (λ i. omega arith) is)

  elements_view : ElementsView arrays.part (term_stands s at acc).end
  unfolding element_list
  elements_view =
      let a = split (u8 s (at + 1)) _ arrays.reads in
      let u = u8_view s (at + 1) a.first in
      let i : a.place ≡ at + 2 = omega arith in
      record { inside = u.0; read = rw (← u.1, ← i) a.rest; whole = arrays.whole }

  module _ (p : ℕ) (e : p ≡ term_part s at) where
    pub elements_index : p < length s
    unfolding term_part
    elements_index = rw e elements_view.inside

    pub elements_parts : (k : ℕ) → k ≡ get_or s p 0 → ElementsHere s at (record { count = k; first = p + 1 })
    unfolding term_part elements_in
    elements_parts k f =
        let v = elements_view in
        let i : p + 1 ≡ at + 2 = omega arith in
        let g : k ≡ get_or s (at + 1) 0 = f ∙ ap (λ j. get_or s j 0) e in
        rw i (record { stands = rw g (is_accepted v.read); ahead = omega arith; value = v.whole ∙ ap array (rw g (sym (has_value _ v.read))) })

record FirstElement (s : List ℕ) (n at : ℕ) (l : Terms) (end : ℕ) : Type 0 where
  term : Term
  p : ℕ
  rest : Terms
  reads : term_here s at ≡ got term p
  goes : elements_at (n - 1) s p ≡ got rest end
  whole : l ≡ cons term rest

first_element : (s : List ℕ) (n at : ℕ) {l : Terms} {end : ℕ} → 0 < n → elements_at n s at ≡ got l end → FirstElement s n at l end
unfolding elements
first_element s zero at h e = absurd (omega arith)
first_element s (suc n) at h e =
    let a = split (term_at (version_in s) levels true s at) _ e in
    let b = split (elements_at n s a.place) _ a.rest in
    record {
      term = a.value;
      p = a.place;
      rest = b.value;
      reads = term_anywhere (version_in s) levels s at a.value a.place a.first;
      goes = rw sub-one (b.first ∙ ap (got b.value) (got_place b.rest));
      whole = sym (got_value b.rest);
    }

module _ (s : List ℕ) (n at : ℕ) (acc : is_elements s n at ≡ true) (h : 0 < n) where
  elements_stand : Stands (elements_at n s at) (elements_in s n at)
  unfolding elements_in
  elements_stand = stood _ _ acc

  element_of : FirstElement s n at (elements_in s n at) elements_stand.end
  element_of = first_element s n at h elements_stand.read

  pub element_stands : is_term s at ≡ true
  element_stands = is_accepted element_of.reads

  pub element_parts : (p : ℕ) → Skipped (term_here s at) at p → ElementHere s n at p
  unfolding elements_in
  element_parts p z =
      let i = ends_at element_of.reads z.ends in
      let goes = ap (elements_at (n - 1) s) i ∙ element_of.goes in
      let l = term_ahead s at element_of.reads in
      record {
        element = element_stands;
        rest = is_accepted goes;
        ahead = omega arith;
        value = element_of.whole ∙ ap₂ cons (sym (term_value s refl element_of.reads)) (sym (has_value _ goes));
      }

pub elements_over : (s : List ℕ) (n at : ℕ) → n ≤ 0 → elements_in s n at ≡ nil
unfolding elements_in elements value_or
elements_over s zero at h = refl
elements_over s (suc n) at h = absurd (omega arith)

-- The summand, the binders and the body of an aggregate.
module _ (s : List ℕ) (at : ℕ) (acc : is_aggregate s at ≡ true) where
  pub summand_inside : aggregate_kind_of (aggregate_in s at) ≡ 1 → (p : ℕ) → p ≡ aggregate_part s at → SummandHere s at p
  unfolding aggregate_part slot_in
  summand_inside is p e =
      let v = sum_here s at acc is in
      rw e (record { declared = v.declared; body = v.body; stands = is_accepted v.adds; value = sum_value v.whole (has_value _ v.adds) })

  pub summand_slot : aggregate_kind_of (aggregate_in s at) ≡ 1 → (p : ℕ) → p ≡ aggregate_part s at → is_slot s p ≡ true
  summand_slot is p e = (summand_inside is p e).stands

  module _ (k : ℕ) (o : AggregateKindHere s at k) (p : ℕ) (e : p ≡ aggregate_part s at) where
    pub sum_slot : k ≡ 1 → is_slot s p ≡ true
    sum_slot is = (summand_inside (sym o.kind ∙ is) p e).stands

    pub sum_declares : k ≡ 1 → (q : ℕ) → Skipped (slot s p) p q → BindersHere s at q
    unfolding aggregate_part binders_in declared_by reached_body condition_in
    sum_declares is q z =
        let v = sum_here s at acc (sym o.kind ∙ is) in
        let i : q ≡ v.list = ends_at (ap (slot s) e ∙ v.adds) z.ends in
        let d = ap (counted (each binder) s) i ∙ v.declares in
        record {
          body = v.middle;
          stands = is_accepted d;
          ahead = omega (arith, z.ahead);
          value = ap declared_by v.whole ∙ sym (has_value _ d);
          between = ended d;
          behind = is_accepted v.reads;
          reaches = ap reached_body v.whole ∙ ap reached (sym (has_value _ v.reads));
          ends = same_end (aggregate_stands s at acc).read v.reads;
        }

    pub count_declares : (aggregate_kind_of (aggregate_in s at) ≡ 3 → ⊥) → (k ≡ 1 → ⊥) → BindersHere s at p
    unfolding aggregate_part binders_in declared_by reached_body condition_in
    count_declares h not =
        let v = count_here s at acc (counts (aggregate_in s at) h (λ i. not (o.kind ∙ i))) in
        rw e (record {
          body = v.middle;
          stands = is_accepted v.declares;
          ahead = omega arith;
          value = ap declared_by v.whole ∙ sym (has_value _ v.declares);
          between = ended v.declares;
          behind = is_accepted v.reads;
          reaches = ap reached_body v.whole ∙ ap reached (sym (has_value _ v.reads));
          ends = same_end (aggregate_stands s at acc).read v.reads;
        })

pub body_here : (s : List ℕ) (at p : ℕ) → BindersHere s at p → (q : ℕ) → Skipped (counted (each binder) s p) p q → BodyHere s at q
body_here s at p h q z =
    let w = stood [] (counted (each binder) s p) h.stands in
    let i : q ≡ h.body = ends_at w.read z.ends ∙ sym (ends_at w.read h.between) in
    record { stands = rw i h.behind; value = rw i h.reaches; ends = rw i h.ends; ahead = omega (arith, h.ahead, z.ahead) }

-- Slots.
module _ (s : List ℕ) (at : ℕ) (acc : is_slot s at ≡ true) where
  slot_stands : Stands (slot s at) (slot_in s at)
  unfolding slot_in
  slot_stands = stood _ _ acc

  record SlotView (x : Slot) (n : ℕ) : Type 0 where
    inside : at < length s
    read : choose (get_or s at 0) slot_kinds s (at + 1) ≡ got x n

  slot_view : SlotView (slot_in s at) slot_stands.end
  unfolding slot
  slot_view =
      let a = split (u8 s at) _ slot_stands.read in
      let u = u8_view s at a.first in
      record { inside = u.0; read = rw (← u.1, ← u.2) a.rest }

  pub slot_index : at < length s
  slot_index = slot_view.inside

  of_slot : (k : ℕ) → get_or s at 0 ≡ k → choose k slot_kinds s (at + 1) ≡ got (slot_in s at) slot_stands.end
  of_slot k e = rw (← e) slot_view.read

  slot_here : (r : SlotAt) → slot_in s at ≡ slot_of s r → SlotHere s at r
  slot_here (Named p) e = record { number = rw e; value = e }
  slot_here ParamRef e = record { number = rw e; value = e }
  slot_here BinderRef e = record { number = rw e; value = e }

  pub slot_name : get_or s at 0 ≡ 0 → SlotHere s at (Named (at + 1))
  unfolding choose slot_kinds
  slot_name e =
      let a = split (string_of plain s (at + 1)) _ (of_slot 0 e) in
      slot_here (Named (at + 1)) (sym (got_value a.rest) ∙ ap named (string_view plain s (at + 1) a.first).word)

  pub slot_param : get_or s at 0 ≡ 1 → SlotHere s at ParamRef
  unfolding choose slot_kinds
  slot_param e = slot_here ParamRef (sym (got_value (of_slot 1 e)))

  binder_slot : (get_or s at 0 ≡ 0 → ⊥) → (get_or s at 0 ≡ 1 → ⊥) → slot_in s at ≡ binder_ref
  unfolding choose slot_kinds Each keys_up_to
  binder_slot h i =
      by_kind s (at + 1) 2 slot_kinds refl (λ k. (k ≡ 0 → ⊥) → (k ≡ 1 → ⊥) → slot_in s at ≡ binder_ref)
      (((tt, λ e a b. absurd (a refl)), λ e a b. absurd (b refl)), λ e a b. sym (got_value e))
      (get_or s at 0) slot_view.read h i

  pub slot_binder : (get_or s at 0 ≡ 0 → ⊥) → (get_or s at 0 ≡ 1 → ⊥) → SlotHere s at BinderRef
  slot_binder h i = slot_here BinderRef (binder_slot h i)

-- The last segment of an annotation: what is left of the segments has the same last one.
abbrev pub SegmentsLeft : List ℕ → ℕ → ℕ → ℕ → Type 0
SegmentsLeft s start n at = Remaining (string_of identifier) s last_of (last_of (segments_in s start)) n at

module _ (s : List ℕ) (start : ℕ) where
  pub segments_start : SegmentsHere s start → (n : ℕ) → n ≡ get_or s start 0 → SegmentsLeft s start n (start + 1)
  segments_start h n e = record { left = segments_in s start; there = segments_listed s start h n e; same = refl }

  pub segments_some : SegmentsHere s start → (n : ℕ) → n ≡ get_or s start 0 → 0 < n
  segments_some h n e = omega arith

  module _ (n at : ℕ) (left : SegmentsLeft s start n at) where
    row_read : Stands (row (string_of identifier) n s at) left.left
    row_read = let a = accept _ left.there.stands in record { end = a.place; read = a.read ∙ ap (λ l. got l a.place) (sym (has_value [] a.read) ∙ left.there.value) }

    first_segment : 0 < n → Opens (string_of identifier) s n at left.left row_read.end
    first_segment h = opens (string_of identifier) s n at h row_read.read

    pub segment_inside : 1 < n → at + 1 + get_or s at 0 ≤ length s
    segment_inside h = let v = string_view identifier s at (first_segment (omega arith)).here in omega arith

    pub segments_turn : 1 < n → (m : ℕ) → m ≡ at + 1 + get_or s at 0 → SegmentsLeft s start (n - 1) m
    unfolding last_of
    segments_turn h m e =
        let o = first_segment (omega arith) in
        let q = opens (string_of identifier) s (n - 1) o.p (omega arith) o.rest in
        let i : o.p ≡ m = (string_view identifier s at o.here).place ∙ sym e in
        record {
          left = o.others;
          there = listed (string_of identifier) s (n - 1) m (ap (row (string_of identifier) (n - 1) s) (sym i) ∙ o.rest);
          same = sym (ap last_of (o.all ∙ ap (λ l. o.own ∷ l) q.all) ∙ ap last_of (sym q.all)) ∙ left.same;
        }

    pub segments-end : 0 < n → n ≤ 1 → word_at s at ≡ last_of (segments_in s start)
    unfolding last_of
    segments-end h i =
        let o = first_segment h in
        let e = row_empty (string_of identifier) s (n - 1) o.p (omega arith) o.rest in
        sym (string_view identifier s at o.here).word ∙ sym (ap last_of (o.all ∙ ap (λ l. o.own ∷ l) e)) ∙ left.same

pub ruleset pieces = (rules, span_room, span_here, own_room, own_here, aggregate_span_room, aggregate_span_here, comparison_left, comparison_index, comparison_parts, arith_left, arith_parts, path_index, path_listed, segments_index, segments_listed, elements_index, elements_parts, element_stands, element_parts, sum_slot, sum_declares, count_declares, body_here, slot_index, slot_name, slot_param, slot_binder)

pub ruleset predicates_parts = (rules, names_stand, names_index, action_inside, arguments_index, predicate_parts)

pub ruleset arguments_parts = (rules, argument_inside, field_stands, value_stands, argument_parts)

pub ruleset last_of_segments = (rules, segments_index, segments_start, segments_some, segment_inside, segments_turn, segments-end)
