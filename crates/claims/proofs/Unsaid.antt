-- What the records of a version do not say: windows in version 1, values below version 3. Assumes nothing.
use mathlib.Core.Path.{◌≡◌, refl, sym, ap, ap₂, ◌∙◌}
use mathlib.Core.Bool.{Bool, true, false, cond, ◌&&◌}
use mathlib.Core.List.{List, [], ◌∷◌, map}
use mathlib.Core.Option.{Option, none}
use Prim.Native.Nat.{ℕ, zero, suc, ◌≤◌}
use native.Mathlib.Omega.{arith}
use borrow.Author.Tests.{le-leb}
use lib.Dec.{leb, eqb}
use Rattle.names.specs.Fields.{got, Reader, ◌>>=◌, ◌<∘>◌, pure, refuse, u8, i64, string_of, counted, each, choose, levels}
use Rattle.names.specs.Names.{plain, path_name}
use Rattle.names.specs.Paths.{path_of}
use Rattle.names.specs.Laws.Readers.{split, got_value}
use Rattle.decimal.specs.Decimal.{decimal_text}
use Rattle.condition.specs.Condition as tree
use Rattle.condition.specs.Condition.{Window, unsaid, Entity, window, One, Two, Condition, Arguments, Term, Terms, Aggregate, one, two, predicate, comparison, exists, tp, opaque, argument, no_argument, entity, literal, integer, decimal, string, bool, given, truth, arith_op, entity_fields, array, aggregate, nil, cons, sum, count, call, span, slot, binder, operator, timepoint_of, arguments, argument_list, elements, element_list, unary, binary, predicate_of, comparison_of, exists_of, condition_kinds, sum_of, count_of, aggregate_kinds, aggregate_of, arith_of, term_kinds, too_deep, condition_at, term_at}
use Rattle.condition.specs.Places.{record_in, version_in}
use Rattle.condition.specs.Laws.Tables.{◌also◌}
use Rattle.condition.specs.Laws.Records.{record_read}
use Rattle.condition.specs.Walk.{reached}
use Rattle.names.specs.Lists.{gather}
use Rattle.sweeps.specs.Windows.{Concrete, concrete_of, concrete_in, concrete_windows, in_sweeps, entries}
use Rattle.claims.specs.Changes.{Change, changed_one, changed_two, changed, in_arguments, in_term, in_terms, in_aggregate}
use Rattle.claims.specs.Windows.{windows_to, NoneInFirst, NoneListed}
use Rattle.claims.specs.Values.{dropping_values, NoneBelowThird}
use Rattle.claims.proofs.Changes.{gathered}
use Rattle.names.specs.declared.refusal.Refusal.{Refusal}
use Rattle.names.specs.declared.refusal.Refusal.TheVariants.{AggregateBelowArray, TooDeep, UndefinedChoice}

-- what a reader gives has a property
record Gives {A : Type 0} (P : A → Type 0) (f : Reader A) : Type 0 where
  on : (s : List ℕ) (at : ℕ) {a : A} {n : ℕ} → f s at ≡ got a n → P a

-- the readers of a table
AllGive : {A : Type 0} (P : A → Type 0) → List (ℕ × Reader A) → Type 0
AllGive P [] = Unit {0}
AllGive P ((n, f) ∷ rest) = Gives P f × AllGive P rest

module _ {A : Type 0} {P : A → Type 0} where
  just : {a : A} → P a → Gives P (pure a)
  just {a} p = record { on = λ s at {a = b} e. let z : b ≡ a = sym (got_value e) in rw z p }

  never : (r : Refusal) → Gives P (refuse r)
  never r = record { on = λ s at e. let z : ◌≡◌ {A = ℕ} 0 1 = cc in absurd (omega arith) }

  either_way : (b : Bool) {f g : Reader A} → Gives P f → Gives P g → Gives P (cond b f g)
  either_way true p q = p
  either_way false p q = q

  chosen : (k : ℕ) (table : List (ℕ × Reader A)) → AllGive P table → Gives P (choose k table)
  unfolding AllGive choose
  chosen k [] all = never UndefinedChoice
  chosen k ((n, f) ∷ rest) all = either_way (eqb k n) all.0 (chosen k rest all.1)

module _ {A B : Type 0} {Q : B → Type 0} where
  -- one reader, then another: what the first gives has a property, or it may be anything
  on : {P : A → Type 0} {f : Reader A} {g : A → Reader B} → Gives P f → ((a : A) → P a → Gives Q (g a)) → Gives Q (f >>= g)
  on {P} {f} {g} p q = record { on = λ s at e. let x = split (f s at) _ e in (q x.value (p.on s at x.first)).on s x.place x.rest }

  after : (f : Reader A) {g : A → Reader B} → ((a : A) → Gives Q (g a)) → Gives Q (f >>= g)
  after f {g} q = record { on = λ s at e. let x = split (f s at) _ e in (q x.value).on s x.place x.rest }

module _ {A : Type 0} {P Q : A → Type 0} where
  because : {f : Reader A} → ((a : A) → P a → Q a) → Gives P f → Gives Q f
  because i p = record { on = λ s at {a = a} e. i a (p.on s at e) }

-- what is so of everything
whatever : {A : Type 0} {P : A → Type 0} {f : Reader A} → ((a : A) → P a) → Gives P f
whatever p = record { on = λ s at {a = a} e. p a }

-- a change that leaves all that a version's readers give
record Leaves (change : Change) (v : ℕ) : Type 0 where
  windows : Gives (λ w. change.windows w ≡ w) (window v)
  entities : Gives (λ n. change.entities n ≡ n) (entity_fields v)
  integers : Gives (λ n. change.literals (integer n) ≡ integer n) (given v i64)
  decimals : Gives (λ n. change.literals (decimal n) ≡ decimal n) (given v decimal_text)
  strings : Gives (λ w. change.literals (string w) ≡ string w) (given v (string_of plain))
  truths : Gives (λ b. change.literals (bool b) ≡ bool b) (given v truth)
  ops : Gives (λ op. change.ops op ≡ op) (given v arith_op)

module _ (change : Change) where
  abbrev Bare : Condition → Type 0
  Bare c = changed change c ≡ c

  abbrev BareTerm : Term → Type 0
  BareTerm t = in_term change t ≡ t

  abbrev BareOne : One → Type 0
  BareOne k = changed_one change k ≡ k

  abbrev BareTwo : Two → Type 0
  BareTwo k = changed_two change k ≡ k

module _ (change : Change) (v : ℕ) (leaves : Leaves change v) where
  module _ (f : Reader Condition) (t : Bool → Reader Term) (p : Gives (Bare change) f) (q : (b : Bool) → Gives (BareTerm change) (t b)) where
    arguments_bare : (n : ℕ) → Gives (λ args. in_arguments change args ≡ args) (arguments v f t n)
    unfolding arguments in_arguments
    arguments_bare zero = just refl
    arguments_bare (suc n) = after (string_of plain) λ name. after path_of λ field. on (q false) λ value e. on (arguments_bare n) λ rest i. just (ap₂ (argument name field) e i)

    list_bare : Gives (λ args. in_arguments change args ≡ args) (argument_list v f t)
    unfolding argument_list
    list_bare = after u8 arguments_bare

    elements_bare : (n : ℕ) → Gives (λ ts. in_terms change ts ≡ ts) (elements v f t n)
    unfolding elements in_terms
    elements_bare zero = just refl
    elements_bare (suc n) = on (q true) λ u e. on (elements_bare n) λ rest i. just (ap₂ cons e i)

    element_list_bare : Gives (λ ts. in_terms change ts ≡ ts) (element_list v f t)
    unfolding element_list
    element_list_bare = after u8 elements_bare

    unary_bare : {kind : Reader One} → Gives (BareOne change) kind → Gives (Bare change) (unary v f t kind)
    unfolding unary changed
    unary_bare h = after span λ at. on h λ k e. on p λ c i. just (ap₂ (λ j d. one j at d) e i)

    binary_bare : {kind : Reader Two} → Gives (BareTwo change) kind → Gives (Bare change) (binary v f t kind)
    unfolding binary changed
    binary_bare h = after span λ at. on h λ k e. on p λ l i. on p λ r j. just (ap (λ m. two m at (changed change l) (changed change r)) e ∙ ap₂ (two k at) i j)

    predicate_bare : Gives (Bare change) (predicate_of v f t)
    unfolding predicate_of changed
    predicate_bare = after span λ at. after span λ own. after (counted (each (string_of path_name))) λ ns. after (string_of plain) λ act. on list_bare λ args e. just (ap (predicate at own ns act) e)

    comparison_bare : Gives (Bare change) (comparison_of v f t)
    unfolding comparison_of changed
    comparison_bare = after span λ at. after operator λ op. on (q false) λ l e. on (q false) λ r i. just (ap₂ (comparison at op) e i)

    exists_bare : Gives (Bare change) (exists_of v f t)
    unfolding exists_of changed
    exists_bare = after span λ at. after binder λ b. on p λ c e. just (ap (exists at b) e)

    timepoint_bare : Gives (Bare change) timepoint_of
    unfolding timepoint_of changed
    timepoint_bare = after span λ at. after slot λ x. just refl

    opaque_bare : Gives (Bare change) (opaque <∘> span)
    unfolding changed
    opaque_bare = after span λ at. just refl

    -- a kind with a window
    looking_bare : (make : Window → One) → ((w : Window) → changed_one change (make w) ≡ make (change.windows w)) → Gives (BareOne change) (make <∘> window v)
    looking_bare make is = on leaves.windows λ w e. just (is w ∙ ap make e)

    conditions_bare : (k : ℕ) → Gives (Bare change) (choose k (condition_kinds v f t))
    unfolding condition_kinds AllGive
    conditions_bare k =
        chosen k (condition_kinds v f t)
        (binary_bare (just refl)
        also binary_bare (just refl)
        also unary_bare (just refl)
        also unary_bare (looking_bare tree.formerly (λ _. refl))
        also unary_bare (looking_bare tree.previous (λ _. refl))
        also binary_bare (on leaves.windows λ w e. just (ap tree.since e))
        also predicate_bare
        also comparison_bare
        also exists_bare
        also timepoint_bare
        also opaque_bare
        also opaque_bare
        also unary_bare (just refl)
        also tt)

    aggregate_bare : Gives (λ a. in_aggregate change a ≡ a) (aggregate_of v f t)
    unfolding aggregate_of aggregate_kinds AllGive sum_of count_of in_aggregate
    aggregate_bare =
        after u8 λ k. chosen k (aggregate_kinds v f t)
        ((after span λ at. after slot λ summand. after (counted (each binder)) λ bs. on p λ c e. just (ap (sum at summand bs) e))
        also (after span λ at. after (counted (each binder)) λ bs. on p λ c e. just (ap (count at bs) e))
        also (after span λ at. just refl)
        also tt)

    arith_bare : (b : Bool) → Gives (BareTerm change) (arith_of v f t b)
    unfolding arith_of in_term
    arith_bare b = on leaves.ops λ op h. on (q b) λ l e. on (q b) λ r i. just (ap (λ o. tree.arith o (in_term change l) (in_term change r)) h ∙ ap₂ (tree.arith op) e i)

    terms_bare : (b : Bool) (k : ℕ) → Gives (BareTerm change) (choose k (term_kinds v f t b))
    unfolding term_kinds AllGive in_term
    terms_bare b k =
        chosen k (term_kinds v f t b)
        ((on leaves.entities λ n e. just (ap entity e))
        also (on leaves.integers λ n e. just (ap literal e))
        also (on leaves.decimals λ n e. just (ap literal e))
        also (on leaves.strings λ w e. just (ap literal e))
        also (on leaves.truths λ b e. just (ap literal e))
        also (after path_of λ n. just refl)
        also (after path_of λ n. just refl)
        also (after (string_of plain) λ n. just refl)
        also just refl
        also (on element_list_bare λ ts e. just (ap array e))
        also either_way b (never AggregateBelowArray) (on aggregate_bare λ a e. just (ap aggregate e))
        also arith_bare b
        also just refl
        also just refl
        also tt)

  deep_bare : {A : Type 0} {P : A → Type 0} (last : ℕ) → Gives P (too_deep last)
  unfolding too_deep
  deep_bare last = after u8 λ k. either_way (leb 1 k && leb k last) (never TooDeep) (never UndefinedChoice)

  record AtLevel (l : ℕ) : Type 0 where
    conditions : Gives (Bare change) (condition_at v l)
    terms : (b : Bool) → Gives (BareTerm change) (term_at v l b)

  at_level : (l : ℕ) → AtLevel l
  unfolding condition_at term_at
  at_level zero = record { conditions = deep_bare 13; terms = λ b. deep_bare 14 }
  at_level (suc l) =
      let w = at_level l in
      record {
        conditions = after u8 λ k. conditions_bare (condition_at v l) (term_at v l) w.conditions w.terms k;
        terms = λ b. after u8 λ k. terms_bare (condition_at v l) (term_at v l) w.conditions w.terms b k;
      }

-- ---- version 1 says no window

first_leaves : (v : ℕ) → v ≤ 1 → Leaves (windows_to unsaid) v
unfolding window
first_leaves v first = record {
  windows = rw (le-leb v 1 first) (just refl);
  entities = whatever (λ _. refl);
  integers = whatever (λ _. refl);
  decimals = whatever (λ _. refl);
  strings = whatever (λ _. refl);
  truths = whatever (λ _. refl);
  ops = whatever (λ _. refl);
}

pub none_in_first : NoneInFirst
none_in_first s acc first = (at_level (windows_to unsaid) (version_in s) (first_leaves (version_in s) (omega arith)) levels).conditions.on s 5 (record_read s acc)

-- ---- so nothing is listed

unsaid_none : (c : Condition) → concrete_in (changed (windows_to unsaid) c) ≡ []
unfolding changed concrete_in concrete_of
unsaid_none (one tree.negation at c) = refl
unsaid_none (one tree.refine at c) = refl
unsaid_none (one (tree.formerly w) at c) = refl
unsaid_none (one (tree.previous w) at c) = refl
unsaid_none (two tree.and at l r) = refl
unsaid_none (two tree.or at l r) = refl
unsaid_none (two (tree.since w) at l r) = refl
unsaid_none (predicate at own ns act args) = refl
unsaid_none (comparison at op l r) = refl
unsaid_none (exists at b c) = refl
unsaid_none (tp at s) = refl
unsaid_none (opaque at) = refl

none_gathered : (cs : List Condition) → gather {B = Concrete} (λ c. []) cs ≡ []
unfolding gather
none_gathered [] = refl
none_gathered (c ∷ cs) = none_gathered cs

pub none_listed : NoneListed
unfolding entries concrete_windows
none_listed period s acc first =
    ap (map (in_sweeps period))
    (ap (λ c. gather concrete_in (reached c)) (sym (none_in_first s acc first))
    ∙ gathered (windows_to unsaid) concrete_in (λ c. []) unsaid_none (record_in s)
    ∙ none_gathered (reached (record_in s)))

-- ---- the versions below 3 say no value

abbrev called : List ℕ → Option (List ℕ) → Entity
called name id = record { name = name; id = id }

module _ (v : ℕ) (before : v ≤ 2) where
  not_said : {A : Type 0} (f : Reader A) → Gives (λ o. o ≡ none) (given v f)
  unfolding given
  not_said f = rw (le-leb v 2 before) (just refl)

  no_id : Gives (λ n. (dropping_values (λ w. w)).entities n ≡ n) (entity_fields v)
  unfolding entity_fields
  no_id = after (string_of path_name) λ name. on (not_said (string_of plain)) λ id e. just (ap (called name) (sym e))

  below_leaves : Leaves (dropping_values (λ w. w)) v
  below_leaves = record {
    windows = whatever (λ _. refl);
    entities = no_id;
    integers = because (λ n e. ap integer (sym e)) (not_said i64);
    decimals = because (λ n e. ap decimal (sym e)) (not_said decimal_text);
    strings = because (λ w e. ap string (sym e)) (not_said (string_of plain));
    truths = because (λ b e. ap bool (sym e)) (not_said truth);
    ops = because (λ op e. sym e) (not_said arith_op);
  }

pub none_below_third : NoneBelowThird
none_below_third s acc before = (at_level (dropping_values (λ w. w)) (version_in s) (below_leaves (version_in s) before) levels).conditions.on s 5 (record_read s acc)
