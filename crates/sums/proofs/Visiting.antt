-- The Sums of terms, arguments and reached conditions, one after the other. Assumes nothing.
use mathlib.Core.Path.{◌≡◌, refl, sym, ap, ◌∙◌}
use mathlib.Core.Bool.{Bool, true, false, cond, ◌&&◌}
use mathlib.Core.List.{List, []}
use Prim.Native.Nat.{ℕ, zero, suc, ◌+◌, ◌-◌, ◌≤◌}
use native.Mathlib.Omega.{arith}
use borrow.Author.Rules.{rules}
use lib.Dec.{leb, eqb}
use borrow.Author.Tests.{eqb-true, eqb-false}
use lib.ListN.{length, drop, drop_of_length-le}
use Rattle.names.specs.Fields.{Got, got, Reader, next, u8, refuse, choose, levels, string_of, i64}
use Rattle.names.specs.Lists.{gather}
use Rattle.names.specs.Names.{plain}
use Rattle.names.specs.Paths.{path_of}
use Rattle.names.specs.Laws.Readers.{split, got_value, Each, keys_up_to}
use Rattle.nodes.specs.declared.Several.{Several}
use Rattle.nodes.specs.declared.ComparisonAt.{ComparisonAt}
use Rattle.nodes.specs.declared.PredicateAt.{PredicateAt}
use Rattle.nodes.specs.declared.ArgumentAt.{ArgumentAt}
use Rattle.decimal.specs.Decimal.{decimal_text}
use Rattle.condition.specs.Condition.{Binder, Condition, Term, Terms, Aggregate, Arguments, one, two, predicate, comparison, exists, tp, opaque, entity, literal, context_field, scope_field, var, wildcard, array, aggregate, sigil, sum, count, call, integer, decimal, string, bool, elements, element_list, arith_of, term_kinds, too_deep, condition_at, term_at, given, truth, arith_op, entity_fields}
use Rattle.condition.specs.Condition as tree
use Rattle.nodes.specs.Kinds.{kind_of, term_kind_of, aggregate_kind_of}
use Rattle.condition.specs.Places.{version_in, record_in, condition_in, is_term, term_in, aggregate_in, is_arguments, arguments_in}
use Rattle.nodes.specs.Laws.Inside.{aggregate_first, aggregate_inside}
use Rattle.nodes.specs.Looked.{KindHere, TermKindHere, AggregateKindHere, AggregateHere}
use Rattle.nodes.specs.Parts.{ComparisonHere, PredicateHere, ArgumentHere, is_terms, leaves_in, NextLeafIs, NextPart}
use Rattle.nodes.specs.Laws.Leaves.{leaves_gather, one_term, one_leaves, leaf_next, leaf_stands, leaf_plain, fewer_leaves}
use Rattle.walk.specs.Index.{Index, Reached}
use Rattle.walk.specs.Scopes.{Scoped, Binding, nodes_by}
use Rattle.walk.specs.Enclosing.{around_at}
use Rattle.walk.specs.Laws.Nodes.{length_by, reached_index, reached_by}
use Rattle.nodes.specs.Laws.Choices.{by_kind, no_value}
use Rattle.nodes.specs.Laws.Views.{array_view}
use Rattle.nodes.specs.Laws.Opens.{term_stands, raw_term}
use Rattle.nodes.specs.Laws.Pieces.{arguments_over}
use Rattle.reports.specs.Reports.{Breach}
use Rattle.reports.specs.declared.State.{State}
use Rattle.reports.specs.Kept.{fold}
use Rattle.reports.specs.Sink.{Sink, sink, Sound, append, append_all, Appended}
use Rattle.reports.specs.Laws.Sinks.{sound_start, recorded_none, recorded_more, recorded_then, Reporting, reporting_begins, reporting_next, reporting_over}
use Rattle.sums.specs.Sums.{aggregate_breaches, term_breaches, terms_breaches, arguments_breaches, condition_breaches, breaches}
use Rattle.names.specs.declared.refusal.Refusal.TheVariants.{UndefinedChoice, TooDeep}
use Rattle.std.specs.Prelude.{Some, None}

-- ---- an array holds no aggregate, however deep

-- a term made of one part
record Made {A : Type 0} (make : A → Term) (t : Term) : Type 0 where
  part : A
  whole : t ≡ make part

made : {A : Type 0} (g : Got A) (make : A → Term) {t : Term} {n : ℕ} → next g (λ a m. got (make a) m) ≡ got t n → Made make t
made g make e = let a = split g _ e in record { part = a.value; whole = sym (got_value a.rest) }

-- what is read without an aggregate has no report
module _ (d : Binding) (bs : List Binder) where
  part_free : {A : Type 0} (g : Got A) (make : A → Term) {x : Term} {n : ℕ} → ((a : A) → term_breaches d bs (make a) ≡ []) → next g (λ a m. got (make a) m) ≡ got x n → term_breaches d bs x ≡ []
  part_free g make i j = let v = made g make j in ap (term_breaches d bs) v.whole ∙ i v.part

  module _ (v : ℕ) (f : Reader Condition) (t : Bool → Reader Term) (free : (s : List ℕ) (at : ℕ) (x : Term) (n : ℕ) → t true s at ≡ got x n → term_breaches d bs x ≡ []) where
    elements_free : (k : ℕ) (s : List ℕ) (at : ℕ) {l : Terms} {n : ℕ} → elements v f t k s at ≡ got l n → terms_breaches d bs l ≡ []
    unfolding elements terms_breaches
    elements_free zero s at e = ap (terms_breaches d bs) (sym (got_value e))
    elements_free (suc k) s at e =
        let a = split (t true s at) _ e in
        let b = split (elements v f t k s a.place) _ a.rest in
        ap (terms_breaches d bs) (sym (got_value b.rest)) ∙ rw (free s at a.value a.place a.first, elements_free k s a.place b.first)

    list_free : (s : List ℕ) (at : ℕ) {l : Terms} {n : ℕ} → element_list v f t s at ≡ got l n → terms_breaches d bs l ≡ []
    unfolding element_list
    list_free s at e = let a = split (u8 s at) _ e in elements_free a.value s a.place a.rest

    kinds_free : (k : ℕ) (s : List ℕ) (at : ℕ) {x : Term} {n : ℕ} → choose k (term_kinds v f t true) s at ≡ got x n → term_breaches d bs x ≡ []
    unfolding choose term_kinds Each keys_up_to term_breaches arith_of
    kinds_free k s at {x} {n} e =
        let own : (u : Term) → term_breaches d bs u ≡ [] → got u at ≡ got x n → term_breaches d bs x ≡ [] = λ u i j. ap (term_breaches d bs) (sym (got_value j)) ∙ i in
        let arrays : next (element_list v f t s at) (λ a m. got (array a) m) ≡ got x n → term_breaches d bs x ≡ [] =
        λ j. let a = split (element_list v f t s at) _ j in ap (term_breaches d bs) (sym (got_value a.rest)) ∙ list_free s at a.first in
        let sums : arith_of v f t true s at ≡ got x n → term_breaches d bs x ≡ [] =
        λ j.
        let o = split (given v arith_op s at) _ j in
        let a = split (t true s o.place) _ o.rest in
        let b = split (t true s a.place) _ a.rest in
        ap (term_breaches d bs) (sym (got_value b.rest)) ∙ rw (free s o.place a.value a.place a.first, free s a.place b.value b.place b.first) in
        by_kind s at 14 (term_kinds v f t true) refl (λ _. term_breaches d bs x ≡ [])
        (((((((((((((((tt, no_value), part_free (entity_fields v s at) entity (λ _. refl)), part_free (given v i64 s at) (λ w. literal (integer w)) (λ _. refl)), part_free (given v decimal_text s at) (λ w. literal (decimal w)) (λ _. refl)), part_free (given v (string_of plain) s at) (λ w. literal (string w)) (λ _. refl)), part_free (given v truth s at) (λ w. literal (bool w)) (λ _. refl)), part_free (path_of s at) context_field (λ _. refl)), part_free (path_of s at) scope_field (λ _. refl)), part_free (string_of plain s at) var (λ _. refl)), own wildcard refl), arrays), no_value), sums), own sigil refl), own sigil refl)
        k e

  too_deep_lem : {A : Type 0} (last : ℕ) (s : List ℕ) (at : ℕ) {x : A} {n : ℕ} {P : Type 0} → too_deep last s at ≡ got x n → P
  unfolding too_deep
  too_deep_lem last s at {x} {n} {P} e =
      let a = split (u8 s at) _ e in
      go (leb 1 a.value && leb a.value last) a.place a.rest
    where
      go : (b : Bool) (p : ℕ) → cond b (refuse TooDeep) (refuse UndefinedChoice) s p ≡ got x n → P
      go true p i = no_value i
      go false p i = no_value i

  term_free : (v l : ℕ) (s : List ℕ) (at : ℕ) (x : Term) (n : ℕ) → term_at v l true s at ≡ got x n → term_breaches d bs x ≡ []
  unfolding term_at
  term_free v zero s at x n e = too_deep_lem 14 s at e
  term_free v (suc l) s at x n e = let a = split (u8 s at) _ e in kinds_free v (condition_at v l) (λ b. term_at v l b) (term_free v l) a.value s a.place a.rest

  array_free : (s : List ℕ) (at : ℕ) → is_term s at ≡ true → term_kind_of (term_in s at) ≡ 10 → term_breaches d bs (term_in s at) ≡ []
  unfolding term_breaches
  array_free s at acc is =
      let v = array_view (version_in s) s at (term_stands s at acc).read (raw_term s at acc 10 (λ i. omega arith) is) in
      ap (term_breaches d bs) v.whole ∙ list_free (version_in s) (condition_at (version_in s) levels) (λ b. term_at (version_in s) levels b) (term_free (version_in s) levels) s (at + 1) v.reads

  -- a term of any kind but an aggregate, an arithmetic and an array
  leaf_free : (x : Term) → (term_kind_of x ≡ 12 → ⊥) → (term_kind_of x ≡ 11 → ⊥) → (term_kind_of x ≡ 10 → ⊥) → term_breaches d bs x ≡ []
  unfolding term_breaches
  leaf_free (entity n) a b c = refl
  leaf_free (literal l) a b c = refl
  leaf_free (context_field p) a b c = refl
  leaf_free (scope_field p) a b c = refl
  leaf_free (var v) a b c = refl
  leaf_free wildcard a b c = refl
  leaf_free (array ts) a b c = absurd (c refl)
  leaf_free (aggregate x) a b c = absurd (b refl)
  leaf_free (tree.arith op l r) a b c = absurd (a refl)
  leaf_free sigil a b c = refl

  other_free : (x : Aggregate) → (aggregate_kind_of x ≡ 1 → ⊥) → aggregate_breaches d bs x ≡ []
  unfolding aggregate_breaches
  other_free (sum span s bs body) h = absurd (h refl)
  other_free (count span bs body) h = refl
  other_free (call span) h = refl

  condition_free : (x : Condition) → (kind_of x ≡ 8 → ⊥) → (kind_of x ≡ 7 → ⊥) → condition_breaches d bs x ≡ []
  unfolding condition_breaches
  condition_free (one k span c) a b = refl
  condition_free (two k span l r) a b = refl
  condition_free (predicate span own ns act args) a b = absurd (b refl)
  condition_free (comparison span op l r) a b = absurd (a refl)
  condition_free (exists span x c) a b = refl
  condition_free (tp span s) a b = refl
  condition_free (opaque span) a b = refl

no_report : (old : List ℕ) (st : State) → Sound (sink old st) → (bs : List Breach) → bs ≡ [] → Appended old st bs old st
no_report old st p bs e = rw e (recorded_none old st p)

-- ---- a leaf

module _ (d : Binding) (bs : List Binder) (s : List ℕ) (at : ℕ) {old : List ℕ} {st : State} where
  module _ (p : ℕ) (h : AggregateHere s at p) where
    pub sum_visited : {new : List ℕ} {r : State} → Appended old st (aggregate_breaches d bs (aggregate_in s p)) new r → Appended old st (term_breaches d bs (term_in s at)) new r
    unfolding term_breaches
    sum_visited e = rw h.value e

    pub other_visited : (k : ℕ) → AggregateKindHere s p k → (k ≡ 1 → ⊥) → Sound (sink old st) → Appended old st (term_breaches d bs (term_in s at)) old st
    unfolding term_breaches
    other_visited k o i q = rw h.value (no_report old st q _ (other_free d bs (aggregate_in s p) (λ e. i (o.kind ∙ e))))

  pub leaf_visited : is_term s at ≡ true → (term_kind_of (term_in s at) ≡ 12 → ⊥) → (k : ℕ) → TermKindHere s at k → (k ≡ 11 → ⊥) → Sound (sink old st) → Appended old st (term_breaches d bs (term_in s at)) old st
  leaf_visited acc h k o i p = no_report old st p _ (go (eqb (term_kind_of (term_in s at)) 10) refl)
    where
      go : (b : Bool) → eqb (term_kind_of (term_in s at)) 10 ≡ b → term_breaches d bs (term_in s at) ≡ []
      go true e = array_free d bs s at acc (eqb-true _ _ e)
      go false e = leaf_free d bs (term_in s at) h (λ q. i (o.kind ∙ q)) (eqb-false _ _ e)

pub is_sum : (s : List ℕ) (p k : ℕ) → AggregateKindHere s p k → k ≡ 1 → aggregate_kind_of (aggregate_in s p) ≡ 1
is_sum s p k o e = sym o.kind ∙ e

pub ruleset visits = (rules, is_sum, aggregate_first, aggregate_inside, sum_visited, other_visited, leaf_visited)

-- ---- a term: what is left of its leaves, reported, makes the whole

pub record LeavesOn (d : Binding) (bs : List Binder) (s : List ℕ) (whole now : Sink) (left : Several) : Type 0 where
  pub stands : is_terms s left.count left.first ≡ true
  pub so : Reporting append Sound (term_breaches d bs) whole now (leaves_in s left.count left.first)

module _ (d : Binding) (bs : List Binder) (s : List ℕ) where
  pub leaves_begin : (at : ℕ) → is_term s at ≡ true → (a : Sink) → Sound a → LeavesOn d bs s (append_all a (term_breaches d bs (term_in s at))) a (record { count = 1; first = at })
  unfolding term_breaches
  leaves_begin at acc a k =
      let e : gather (term_breaches d bs) (leaves_in s 1 at) ≡ term_breaches d bs (term_in s at) =
      ap (gather (term_breaches d bs)) (one_leaves s at acc) ∙ leaves_gather (term_breaches d bs) (λ op l r. refl) (term_in s at) in
      record { stands = one_term s at acc; so = record { still = k; same = ap (append_all a) e } }

  module _ (left : Several) (x : NextPart) (y : NextLeafIs s (leaves_in s left.count left.first) x) where
    pub leaves_done : {old now : List ℕ} {st₀ st : State} {found : List Breach} → LeavesOn d bs s (append_all (sink old st₀) found) (sink now st) left → x ≡ None → Appended old st₀ found now st
    leaves_done l e =
        let i : leaves_in s left.count left.first ≡ [] = rw e at y in
        let r = l.so in
        reporting_over append (term_breaches d bs) (rw i at r)

    module _ (p : ℕ) (rest : Several) (e : x ≡ Some (p, rest)) where
      pub leaves_turn : {whole : Sink} {now next : List ℕ} {st r : State} → LeavesOn d bs s whole (sink now st) left → Appended now st (term_breaches d bs (term_in s p)) next r → LeavesOn d bs s whole (sink next r) rest
      leaves_turn l q = let i = l.so in record { stands = (leaf_next s left x y p rest e).others; so = reporting_next append (term_breaches d bs) (rw (leaf_next s left x y p rest e).value at i) q }

pub ruleset leafing = (rules, leaves_begin, leaves_done, leaf_stands, leaf_plain, fewer_leaves, leaves_turn)

-- ---- arguments: what is left of them, reported, makes the whole

pub record ArgumentsLeft (d : Binding) (bs : List Binder) (s : List ℕ) (whole now : Sink) (n at : ℕ) : Type 0 where
  pub stands : is_arguments s n at ≡ true
  pub sound : Sound now
  pub same : append_all now (arguments_breaches d bs (arguments_in s n at)) ≡ whole

module _ (d : Binding) (bs : List Binder) (s : List ℕ) where
  pub arguments_begin : (n at : ℕ) (a : Sink) → is_arguments s n at ≡ true → Sound a → ArgumentsLeft d bs s (append_all a (arguments_breaches d bs (arguments_in s n at))) a (n - 0) at
  arguments_begin n at a h k = let all : n - 0 ≡ n = omega arith in rw all (record { stands = h; sound = k; same = refl })

  -- the i-th of `end` comes next
  module _ (end i at : ℕ) where
    pub arguments_done : {old now : List ℕ} {st₀ st : State} {found : List Breach} → ArgumentsLeft d bs s (append_all (sink old st₀) found) (sink now st) (end - i) at → end ≤ i → Appended old st₀ found now st
    unfolding arguments_breaches fold
    arguments_done l h = record { still = l.sound; is = rw (arguments_over s (end - i) at (omega arith)) at l.same }

    pub arguments_turn : {whole : Sink} {now next : List ℕ} {st r : State} → ArgumentsLeft d bs s whole (sink now st) (end - i) at → (p : ArgumentAt) → ArgumentHere s (end - i) at p
        → Appended now st (term_breaches d bs (term_in s p.term)) next r → ArgumentsLeft d bs s whole (sink next r) (end - (i + 1)) p.next
    unfolding arguments_breaches
    arguments_turn l p h e =
        let left : end - (i + 1) ≡ end - i - 1 = omega arith in
        rw left (record { stands = h.rest; sound = e.still; same = recorded_more e _ ∙ (rw h.value at l.same) })

pub ruleset arguing = (rules, arguments_begin, arguments_done, arguments_turn)

-- ---- a reached condition

module _ (d : Binding) (bs : List Binder) (s : List ℕ) (at : ℕ) {old : List ℕ} {st : State} where
  pub comparison_visited : (p : ComparisonAt) → ComparisonHere s at p → {mid new : List ℕ} {st' r : State} → Appended old st (term_breaches d bs (term_in s p.left)) mid st'
      → Appended mid st' (term_breaches d bs (term_in s p.right)) new r → Appended old st (condition_breaches d bs (condition_in s at)) new r
  unfolding condition_breaches
  comparison_visited p h first second = let e : condition_breaches d bs (condition_in s at) ≡ _ = ap (condition_breaches d bs) h.value in rw e (recorded_then first second)

  pub predicate_visited : (p : PredicateAt) → PredicateHere s at p → {new : List ℕ} {r : State} → Appended old st (arguments_breaches d bs (arguments_in s p.count p.first)) new r
      → Appended old st (condition_breaches d bs (condition_in s at)) new r
  unfolding condition_breaches
  predicate_visited p h k = let e : condition_breaches d bs (condition_in s at) ≡ _ = ap (condition_breaches d bs) h.value in rw e k

  pub others_visited : (k : ℕ) → KindHere s at k → (k ≡ 8 → ⊥) → (k ≡ 7 → ⊥) → Sound (sink old st) → Appended old st (condition_breaches d bs (condition_in s at)) old st
  others_visited k o h i p = no_report old st p _ (condition_free d bs (condition_in s at) (λ q. h (o.kind ∙ q)) (λ q. i (o.kind ∙ q)))

pub is_comparison : (s : List ℕ) (at k : ℕ) → KindHere s at k → k ≡ 8 → kind_of (condition_in s at) ≡ 8
is_comparison s at k o e = sym o.kind ∙ e

pub ruleset nodes = (rules, is_comparison, comparison_visited, predicate_visited, others_visited)

-- ---- all of them

abbrev pub of_node : Binding → Scoped → List Breach
of_node d x = condition_breaches d x.around x.node

abbrev pub PlacesLeft : Binding → List ℕ → Sink → Sink → ℕ → Type 0
PlacesLeft d s whole now i = Reporting append Sound (of_node d) whole now (drop i (nodes_by d (record_in s)))

module _ (d : Binding) (s : List ℕ) where
  pub places_begin : (a : Sink) → Sound a → PlacesLeft d s (append_all a (breaches d (record_in s))) a 0
  unfolding breaches
  places_begin a k = reporting_begins append (of_node d) a (nodes_by d (record_in s)) k

  pub places_done : {old now : List ℕ} {st₀ st : State} {bs : List Breach} (i : ℕ) → PlacesLeft d s (append_all (sink old st₀) bs) (sink now st) i → (places : List ℕ) → Index s places → length places ≤ i → Appended old st₀ bs now st
  places_done i l places h k =
      let over : length (nodes_by d (record_in s)) ≤ i = omega (arith, h.size, length_by (record_in s) d) in
      let e : drop i (nodes_by d (record_in s)) ≡ [] = drop_of_length-le (nodes_by d (record_in s)) over in
      reporting_over append (of_node d) (rw e at l)

  pub places_turn : {whole : Sink} {now next : List ℕ} {st r : State} (i : ℕ) → PlacesLeft d s whole (sink now st) i → (at : ℕ) → Reached s i at → Appended now st (condition_breaches d (around_at d s i) (condition_in s at)) next r → PlacesLeft d s whole (sink next r) (i + 1)
  places_turn i l at h e = reporting_next append (of_node d) (rw (reached_by s i at h d) at l) e

pub ruleset placing = (rules, sound_start, reached_index, places_begin, places_done, places_turn)
