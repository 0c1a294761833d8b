-- How many bytes are read at least. A condition takes nine for each condition that its walk reaches and three for each named binder (`condition_bytes`); so
-- a record has at most 3,640 reached conditions and 10,921 named binders (`record_bytes`, `record_nodes`). Readers only go forward. Assumes nothing.
use Rattle.std.specs.Prelude.{◌≡◌, Bool, true, false, cond, ◌&&◌, eqb, leb, length}
use Rattle.std.proofs.Math.Path.{refl}
use Rattle.std.proofs.Common.{sym, ◌∙◌, length-append}
use mathlib.Core.List.{List, [], ◌∷◌, ◌++◌, append-nil}
use Rattle.std.proofs.Math.Option.{Option, some}
use Prim.Native.Nat.{ℕ, zero, suc, ◌+◌, ◌*◌, ◌≤◌}
use native.Mathlib.Omega.{arith}
use Rattle.names.specs.Lists.{gather, select}
use Rattle.names.specs.Laws.Lists.{gather_append}
use Rattle.names.specs.Fields.{got, Reader, ◌>>=◌, ◌<∘>◌, pure, refuse, holds, u8, u32, u64, i64, twos_complement, bytes, string_of, many, counted, choose, each, levels}
use Rattle.names.specs.Paths.{path_of}
use Rattle.decimal.specs.Decimal.{decimal_of, judged, decimal_text}
use Rattle.decimal.specs.Decimal.{Decimal}
use Rattle.std.specs.Prelude.{Ok, Err}
use Rattle.names.specs.declared.refusal.Refusal.{Refusal}
use Rattle.names.specs.declared.refusal.Refusal.TheVariants.{UndefinedChoice, OutsideClass, AggregateBelowArray, TooDeep, WindowOutOfRange}
use Rattle.names.specs.Laws.Readers.{split, u8_view, bytes_view, got_value, got_place}
use Rattle.condition.specs.Condition.{Condition, Term, Aggregate, Binder, Slot, Annotation, named, param_ref, binder_ref, Span, Operator, Window, One, Two, one, two, predicate, comparison, exists, tp, opaque, aggregate, call, span, slot_kinds, slot, annotation, binder, operators, operator, units, fits, seconds, amount_of, seconds_of, window_kinds, window, given, truths, truth, ArithOp, arith_ops, arith_op, entity_fields, timepoint_of, arguments, argument_list, elements, element_list, unary, binary, predicate_of, comparison_of, exists_of, condition_kinds, sum_of, count_of, aggregate_kinds, aggregate_of, arith_of, term_kinds, too_deep, condition_at, term_at}
use Rattle.condition.specs.Condition as tree
use Rattle.condition.specs.Walk.{declared_by, operand_aggregates, operand_binders, reached, reached_in, reached_body, declares, binders, has_name, named_ones}
use Rattle.condition.specs.Places.{is_record, record_in, version_in}
use Rattle.condition.specs.Laws.Tables.{◌also◌}
use Rattle.condition.specs.Laws.Records.{record_read}

-- ---- how much each weighs

-- binders: three for each that has a name
unfoldable pub binders_weight : List Binder → ℕ
binders_weight bs = 3 * length (named_ones bs)

-- reached conditions: nine for each, and the binders that they declare
unfoldable pub nodes_weight : List Condition → ℕ
nodes_weight xs = 9 * length xs + binders_weight (gather declares xs)

unfoldable pub weight : Condition → ℕ
weight c = nodes_weight (reached c)

unfoldable pub aggregate_weight : Aggregate → ℕ
aggregate_weight a = binders_weight (declared_by a) + nodes_weight (reached_body a)

unfoldable pub term_weight : Term → ℕ
term_weight t = binders_weight (operand_binders t) + nodes_weight (reached_in t)

more_named : (b : Bool) (x : Binder) (xs : List Binder) → length (cond b (x ∷ xs) xs) ≡ length (cond b (x ∷ []) []) + length xs
more_named true x xs = omega arith
more_named false x xs = omega arith

pub named_append : (xs ys : List Binder) → length (named_ones (xs ++ ys)) ≡ length (named_ones xs) + length (named_ones ys)
unfolding named_ones select
named_append [] ys = omega arith
named_append (x ∷ xs) ys =
    let b = has_name x.slot in
    let e = named_append xs ys in
    omega (arith, more_named b x (named_ones (xs ++ ys)), more_named b x (named_ones xs))

binders_append : (xs ys : List Binder) → binders_weight (xs ++ ys) ≡ binders_weight xs + binders_weight ys
unfolding binders_weight
binders_append xs ys = rw named_append (omega arith)

one_binder : (b : Binder) (bs : List Binder) → binders_weight (b ∷ bs) ≡ binders_weight (b ∷ []) + binders_weight bs
one_binder b bs = binders_append (b ∷ []) bs

nodes_append : (xs ys : List Condition) → nodes_weight (xs ++ ys) ≡ nodes_weight xs + nodes_weight ys
unfolding nodes_weight
nodes_append xs ys = rw (length-append, gather_append, binders_append) (omega arith)

first_node : (x : Condition) (xs : List Condition) → nodes_weight (x ∷ xs) ≡ 9 + binders_weight (declares x) + nodes_weight xs
unfolding nodes_weight gather
first_node x xs = rw binders_append (omega arith)

one_weight : (k : One) (at : Span) (c : Condition) → weight (one k at c) ≡ 9 + weight c
unfolding weight reached declares binders_weight named_ones select
one_weight k at c = first_node (one k at c) (reached c)

two_weight : (k : Two) (at : Span) (l r : Condition) → weight (two k at l r) ≡ 9 + weight l + weight r
unfolding weight reached declares binders_weight named_ones select
two_weight k at l r = first_node (two k at l r) (reached l ++ reached r) ∙ rw nodes_append (omega arith)

exists_weight : (at : Span) (b : Binder) (c : Condition) → weight (exists at b c) ≡ 9 + binders_weight (b ∷ []) + weight c
unfolding weight reached declares
exists_weight at b c = first_node (exists at b c) (reached c)

comparison_weight : (at : Span) (op : Operator) (l r : Term) → weight (comparison at op l r) ≡ 9 + term_weight l + term_weight r
unfolding weight term_weight reached declares
comparison_weight at op l r = first_node (comparison at op l r) (reached_in l ++ reached_in r) ∙ rw (binders_append, nodes_append) (omega arith)

arith_weight : (op : Option ArithOp) (l r : Term) → term_weight (tree.arith op l r) ≡ term_weight l + term_weight r
unfolding term_weight operand_binders operand_aggregates reached_in
arith_weight op l r = rw (gather_append, binders_append, nodes_append) (omega arith)

aggregate_weight_lem : (a : Aggregate) → term_weight (aggregate a) ≡ aggregate_weight a
unfolding term_weight aggregate_weight operand_binders operand_aggregates reached_in gather
aggregate_weight_lem a = rw append-nil

-- ---- a reader that takes so many bytes at least, of which k stand before it

pub record Owes {A : Type 0} (k : ℕ) (size : A → ℕ) (f : Reader A) : Type 0 where
  pub on : (s : List ℕ) (at : ℕ) {a : A} {n : ℕ} → f s at ≡ got a n → size a + at ≤ n + k

abbrev pub Takes : {A : Type 0} → ℕ → Reader A → Type 0
Takes k f = Owes 0 (λ _. k) f

abbrev pub Forward : {A : Type 0} → Reader A → Type 0
Forward f = Takes 0 f

module _ {A : Type 0} where
  stay : {k : ℕ} {size : A → ℕ} (a : A) → size a ≤ k → Owes k size (pure a)
  stay {k} {size} a h = record { on = λ s at {a = b} e. let z : b ≡ a = sym (got_value e) in rw z (omega (arith, got_place e)) }

  never : {k : ℕ} {size : A → ℕ} (r : Refusal) → Owes {A = A} k size (refuse r)
  never r = record { on = λ s at e. let z : ◌≡◌ {A = ℕ} 0 1 = cc in absurd (omega arith) }

  either_way : {k : ℕ} {size : A → ℕ} (b : Bool) {f g : Reader A} → Owes k size f → Owes k size g → Owes k size (cond b f g)
  either_way true p q = p
  either_way false p q = q

  weaker : {k : ℕ} {f : Reader A} → Takes k f → Forward f
  weaker p = record { on = λ s at e. omega (arith, p.on s at e) }

  -- the readers of a table
  AllOwe : ℕ → (A → ℕ) → List (ℕ × Reader A) → Type 0
  AllOwe k size [] = Unit {0}
  AllOwe k size ((n, f) ∷ rest) = Owes k size f × AllOwe k size rest

  chosen : {m : ℕ} {size : A → ℕ} (k : ℕ) (table : List (ℕ × Reader A)) → AllOwe m size table → Owes m size (choose k table)
  unfolding AllOwe choose
  chosen k [] all = never UndefinedChoice
  chosen k ((n, f) ∷ rest) all = either_way (eqb k n) all.0 (chosen k rest all.1)

module _ {A B : Type 0} where
  -- one reader, then another
  on : {k : ℕ} {size : A → ℕ} {all : B → ℕ} {f : Reader A} {g : A → Reader B} → Owes 0 size f → ((a : A) → Owes (k + size a) all (g a)) → Owes k all (f >>= g)
  on {k} {size} {all} {f} {g} p q = record { on = λ s at e. let x = split (f s at) _ e in omega (arith, p.on s at x.first, (q x.value).on s x.place x.rest) }

  made : {k : ℕ} {size : A → ℕ} {all : B → ℕ} {f : Reader A} (h : A → B) → Owes 0 size f → ((a : A) → all (h a) ≤ k + size a) → Owes k all (h <∘> f)
  made h p q = on p (λ a. stay (h a) (q a))

one_u8 : Takes 1 u8
one_u8 = record { on = λ s at e. omega (arith, (u8_view s at e).2) }

forward_u8 : Forward u8
forward_u8 = record { on = λ s at e. omega (arith, (u8_view s at e).2) }

whole_bytes : (k : ℕ) → Takes k (bytes k)
whole_bytes k = record { on = λ s at e. omega (arith, (bytes_view s at k e).2) }

four_u32 : Takes 4 u32
unfolding u32
four_u32 = on (whole_bytes 4) λ w. stay _ (omega arith)

eight_u64 : Takes 8 u64
unfolding u64
eight_u64 = on (whole_bytes 8) λ w. stay _ (omega arith)

test : {A : Type 0} {k : ℕ} {size : A → ℕ} (r : Refusal) (b : Bool) (a : A) → size a ≤ k → Owes k size (holds r b a)
test r true a h = stay a h
test r false a h = never r

-- a string takes its length byte at least
one_string : (class : List ℕ → Bool) → Takes 1 (string_of class)
unfolding string_of
one_string class = on one_u8 λ n. on (whole_bytes n) λ w. test OutsideClass (class w) w (omega arith)

pub forward_string : (class : List ℕ → Bool) → Forward (string_of class)
forward_string class = weaker (one_string class)

-- things one after another, where a list weighs no more than its things
module _ {A : Type 0} (size : A → ℕ) (all : List A → ℕ) (none : all [] ≤ 0) (more : (a : A) (rest : List A) → all (a ∷ rest) ≤ size a + all rest) where
  many_owe : {K : Type 0} (key : A → K) (f : Option K → Reader A) → ((k : Option K) → Owes 0 size (f k)) → (n : ℕ) (before : Option K) → Owes 0 all (many key f n before)
  unfolding many
  many_owe key f p zero before = stay [] none
  many_owe key f p (suc n) before = on (p before) λ a. on (many_owe key f p n _) λ rest. stay _ (omega (arith, more a rest))

  counted_owe : (f : Reader A) → Owes 0 size f → Owes 0 all (counted (each f))
  unfolding counted
  counted_owe f p = on forward_u8 λ n. many_owe _ _ (λ _. p) n _

pub forward_counted : {A : Type 0} (f : Reader A) → Forward f → Forward (counted (each f))
forward_counted f p = counted_owe (λ _. 0) (λ _. 0) (omega arith) (λ _ _. omega arith) f p

pub forward_path : Forward path_of
unfolding path_of
forward_path = forward_counted _ (forward_string _)

pub eight_span : Takes 8 span
unfolding span
eight_span = on four_u32 λ a. on four_u32 λ b. stay _ (omega arith)

-- a slot takes one byte, and one more where it has a name
slot_weight : Slot → ℕ
slot_weight (named w) = 2
slot_weight param_ref = 1
slot_weight binder_ref = 1

slot_owes : Owes 0 slot_weight slot
unfolding slot slot_kinds AllOwe slot_weight
slot_owes = on one_u8 λ k. chosen k slot_kinds (made _ (one_string _) (λ _. omega arith), (stay _ (omega arith), (stay _ (omega arith), tt)))

pub forward_slot : Forward slot
forward_slot = record { on = λ s at e. omega (arith, slot_owes.on s at e) }

one_annotation : Takes 1 annotation
unfolding annotation
one_annotation = on one_u8 λ n. either_way (eqb n 0) (stay _ (omega arith)) (on (many_owe (λ _. 0) (λ _. 0) (omega arith) (λ _ _. omega arith) _ _ (λ _. forward_string _) n _) λ w. stay _ (omega arith))

-- a binder with a name takes three
binder_owes : Owes 0 (λ b. binders_weight (b ∷ [])) binder
unfolding binder binders_weight named_ones select slot_weight
binder_owes = on slot_owes λ x. on one_annotation λ a. stay _ (slot-fits x a)
  where
    slot-fits : (x : Slot) (a : Annotation) → binders_weight (record { slot = x; annotation = a } ∷ []) ≤ 0 + slot_weight x + 1
    slot-fits (named w) a = omega arith
    slot-fits param_ref a = omega arith
    slot-fits binder_ref a = omega arith

pub forward_binder : Forward binder
forward_binder = record { on = λ s at e. omega (arith, binder_owes.on s at e) }

binders_owe : Owes 0 binders_weight (counted (each binder))
unfolding binders_weight named_ones select
binders_owe = counted_owe (λ b. binders_weight (b ∷ [])) binders_weight (omega arith) (λ b bs. omega (arith, one_binder b bs)) binder binder_owes

forward_operator : Forward operator
unfolding operator operators AllOwe
forward_operator = on forward_u8 λ k. chosen k operators (stay _ (omega arith), (stay _ (omega arith), (stay _ (omega arith), (stay _ (omega arith), (stay _ (omega arith), (stay _ (omega arith), tt))))))

forward_amount : (unit : ℕ) → Forward (amount_of unit)
unfolding amount_of
forward_amount unit = on eight_u64 λ n. test WindowOutOfRange (fits unit n) (seconds (n * unit)) (omega arith)

forward_unit : (k : ℕ) → Forward (choose k units)
unfolding units AllOwe
forward_unit k = chosen k units (stay _ (omega arith) also stay _ (omega arith) also stay _ (omega arith) also stay _ (omega arith) also tt)

forward_seconds : Forward seconds_of
unfolding seconds_of
forward_seconds = on forward_u8 λ k. on (forward_unit k) λ unit. forward_amount unit

pub forward_window : (v : ℕ) → Forward (window v)
unfolding window window_kinds AllOwe
forward_window v = either_way (leb v 1) (stay _ (omega arith)) (on forward_u8 λ k. chosen k window_kinds (forward_seconds also stay _ (omega arith) also tt))

-- a kind that stands behind a span: none of its bytes, or a window
forward_kind : {A : Type 0} (a : A) → Forward (pure a)
forward_kind a = stay a (omega arith)

forward_windowed : {A : Type 0} (make : Window → A) (v : ℕ) → Forward (make <∘> window v)
forward_windowed make v = made make (forward_window v) (λ _. omega arith)

-- what version 3 brought
forward_given : {A : Type 0} (v : ℕ) {f : Reader A} → Forward f → Forward (given v f)
unfolding given
forward_given v p = either_way (leb v 2) (stay _ (omega arith)) (made some p (λ _. omega arith))

forward_i64 : Forward i64
unfolding i64
forward_i64 = made twos_complement eight_u64 (λ _. omega arith)

forward_decimal : Forward decimal_text
unfolding decimal_text judged
forward_decimal = on (forward_string _) λ w. judges (decimal_of w)
  where
    judges : (d : Decimal) → Forward (judged d)
    judges (Ok z) = stay z (omega arith)
    judges (Err r) = never r

forward_truth : Forward truth
unfolding truth truths AllOwe
forward_truth = on forward_u8 λ k. chosen k truths (stay _ (omega arith) also stay _ (omega arith) also tt)

forward_arith_op : Forward arith_op
unfolding arith_op arith_ops AllOwe
forward_arith_op = on forward_u8 λ k. chosen k arith_ops (stay _ (omega arith) also stay _ (omega arith) also stay _ (omega arith) also tt)

pub forward_entity : (v : ℕ) → Forward (entity_fields v)
unfolding entity_fields
forward_entity v = on (forward_string _) λ _. on (forward_given v (forward_string _)) λ _. stay _ (omega arith)

-- a condition with none in it, and an operand with no aggregate in it
light : (c : Condition) → reached c ≡ c ∷ [] → declares c ≡ [] → weight c ≡ 9
unfolding weight binders_weight nodes_weight named_ones select gather
light c e h = rw e (first_node c [] ∙ rw h)

-- ---- what nested conditions and terms take, if those in them take as much

module _ (v : ℕ) (f : Reader Condition) (t : Bool → Reader Term) (p : Owes 0 weight f) (q : (b : Bool) → Owes 0 (λ x. term_weight x + 1) (t b)) where
  forward_arguments : (n : ℕ) → Forward (arguments v f t n)
  unfolding arguments
  forward_arguments zero = stay _ (omega arith)
  forward_arguments (suc n) = on (forward_string _) λ _. on forward_path λ _. on (q false) λ _. on (forward_arguments n) λ _. stay _ (omega arith)

  forward_elements : (n : ℕ) → Forward (elements v f t n)
  unfolding elements
  forward_elements zero = stay _ (omega arith)
  forward_elements (suc n) = on (q true) λ _. on (forward_elements n) λ _. stay _ (omega arith)

  forward_argument_list : Forward (argument_list v f t)
  unfolding argument_list
  forward_argument_list = on forward_u8 λ n. forward_arguments n

  forward_element_list : Forward (element_list v f t)
  unfolding element_list
  forward_element_list = on forward_u8 λ n. forward_elements n

  -- each kind of condition behind its kind byte
  unary_owes : {kind : Reader One} → Forward kind → Owes 1 weight (unary v f t kind)
  unfolding unary
  unary_owes h = on eight_span λ at. on h λ k. on p λ c. stay _ (omega (arith, one_weight k at c))

  binary_owes : {kind : Reader Two} → Forward kind → Owes 1 weight (binary v f t kind)
  unfolding binary
  binary_owes h = on eight_span λ at. on h λ k. on p λ l. on p λ r. stay _ (omega (arith, two_weight k at l r))

  predicate_owes : Owes 1 weight (predicate_of v f t)
  unfolding predicate_of reached declares
  predicate_owes = on eight_span λ at. on eight_span λ own. on (forward_counted _ (forward_string _)) λ ns. on (forward_string _) λ act. on forward_argument_list λ args. stay _ (omega (arith, light (predicate at own ns act args) refl refl))

  comparison_owes : Owes 1 weight (comparison_of v f t)
  unfolding comparison_of
  comparison_owes = on eight_span λ at. on forward_operator λ op. on (q false) λ l. on (q false) λ r. stay _ (omega (arith, comparison_weight at op l r))

  exists_owes : Owes 1 weight (exists_of v f t)
  unfolding exists_of
  exists_owes = on eight_span λ at. on binder_owes λ b. on p λ c. stay _ (omega (arith, exists_weight at b c))

  timepoint_owes : Owes 1 weight timepoint_of
  unfolding timepoint_of reached declares
  timepoint_owes = on eight_span λ at. on forward_slot λ x. stay _ (omega (arith, light (tp at x) refl refl))

  opaque_owes : Owes 1 weight (opaque <∘> span)
  unfolding reached declares
  opaque_owes = made opaque eight_span λ at. omega (arith, light (opaque at) refl refl)

  conditions_owe : (k : ℕ) → Owes 1 weight (choose k (condition_kinds v f t))
  unfolding condition_kinds AllOwe
  conditions_owe k =
      chosen k (condition_kinds v f t)
      (binary_owes (forward_kind _)
      also binary_owes (forward_kind _)
      also unary_owes (forward_kind _)
      also unary_owes (forward_windowed _ v)
      also unary_owes (forward_windowed _ v)
      also binary_owes (forward_windowed _ v)
      also predicate_owes
      also comparison_owes
      also exists_owes
      also timepoint_owes
      also opaque_owes
      also opaque_owes
      also unary_owes (forward_kind _)
      also tt)

  sum_owes : Owes 0 aggregate_weight (sum_of v f t)
  unfolding sum_of aggregate_weight declared_by reached_body weight
  sum_owes = on eight_span λ _. on forward_slot λ _. on binders_owe λ bs. on p λ c. stay _ (omega arith)

  count_owes : Owes 0 aggregate_weight (count_of v f t)
  unfolding count_of aggregate_weight declared_by reached_body weight
  count_owes = on eight_span λ _. on binders_owe λ bs. on p λ c. stay _ (omega arith)

  call_owes : Owes 0 aggregate_weight (call <∘> span)
  unfolding aggregate_weight declared_by reached_body binders_weight nodes_weight named_ones select gather
  call_owes = made call eight_span λ _. omega arith

  aggregate_owes : Owes 0 aggregate_weight (aggregate_of v f t)
  unfolding aggregate_of aggregate_kinds AllOwe
  aggregate_owes = on forward_u8 λ k. chosen k (aggregate_kinds v f t) (sum_owes, (count_owes, (call_owes, tt)))

  -- each kind of term behind its kind byte
  arith_owes : (b : Bool) → Owes 1 (λ x. term_weight x + 1) (arith_of v f t b)
  unfolding arith_of
  arith_owes b = on (forward_given v forward_arith_op) λ op. on (q b) λ l. on (q b) λ r. stay _ (omega (arith, arith_weight op l r))

  terms_owe : (b : Bool) (k : ℕ) → Owes 1 (λ x. term_weight x + 1) (choose k (term_kinds v f t b))
  unfolding term_kinds AllOwe term_weight operand_binders operand_aggregates reached_in binders_weight nodes_weight named_ones select gather
  terms_owe b k =
      chosen k (term_kinds v f t b)
      (made _ (forward_entity v) (λ _. omega arith)
      also made _ (forward_given v forward_i64) (λ _. omega arith)
      also made _ (forward_given v forward_decimal) (λ _. omega arith)
      also made _ (forward_given v (forward_string _)) (λ _. omega arith)
      also made _ (forward_given v forward_truth) (λ _. omega arith)
      also made _ forward_path (λ _. omega arith)
      also made _ forward_path (λ _. omega arith)
      also made _ (forward_string _) (λ _. omega arith)
      also stay _ (omega arith)
      also made _ forward_element_list (λ _. omega arith)
      also either_way b (never AggregateBelowArray) (made aggregate aggregate_owes (λ a. omega (arith, aggregate_weight_lem a)))
      also arith_owes b
      also stay _ (omega arith)
      also stay _ (omega arith)
      also tt)

deep_owes : {A : Type 0} {size : A → ℕ} (last : ℕ) → Owes 0 size (too_deep last)
unfolding too_deep
deep_owes last = on one_u8 λ k. either_way (leb 1 k && leb k last) (never TooDeep) (never UndefinedChoice)

record AtLevel (v l : ℕ) : Type 0 where
  conditions : Owes 0 weight (condition_at v l)
  terms : (b : Bool) → Owes 0 (λ x. term_weight x + 1) (term_at v l b)

at_level : (v l : ℕ) → AtLevel v l
unfolding condition_at term_at
at_level v zero = record { conditions = deep_owes 13; terms = λ b. deep_owes 14 }
at_level v (suc l) =
    let w = at_level v l in
    record {
      conditions = on one_u8 λ k. conditions_owe v (condition_at v l) (term_at v l) w.conditions w.terms k;
      terms = λ b. on one_u8 λ k. terms_owe v (condition_at v l) (term_at v l) w.conditions w.terms b k;
    }

-- ---- the statements

module _ (v l : ℕ) (s : List ℕ) (at : ℕ) where
  -- a condition: nine bytes for each that its walk reaches, three for each named binder
  pub condition_bytes : {c : Condition} {n : ℕ} → condition_at v l s at ≡ got c n → 9 * length (reached c) + 3 * length (named_ones (binders c)) + at ≤ n
  unfolding weight nodes_weight binders_weight binders
  condition_bytes e = omega (arith, (at_level v l).conditions.on s at e)

  -- a term: the same for its aggregates' bodies and binders, and its kind byte
  pub term_bytes : (b : Bool) {x : Term} {n : ℕ} → term_at v l b s at ≡ got x n → 9 * length (reached_in x) + 3 * length (named_ones (operand_binders x)) + 3 * length (named_ones (gather declares (reached_in x))) + 1 + at ≤ n
  unfolding term_weight nodes_weight binders_weight
  term_bytes b e = omega (arith, ((at_level v l).terms b).on s at e)

-- a whole record, behind its mark and version
module _ (s : List ℕ) (acc : is_record s ≡ true) where
  pub record_bytes : 9 * length (reached (record_in s)) + 3 * length (named_ones (binders (record_in s))) + 5 ≤ length s
  record_bytes = omega (arith, condition_bytes (version_in s) levels s 5 (record_read s acc))

  pub record_nodes : 9 * length (reached (record_in s)) + 5 ≤ length s
  record_nodes = omega (arith, record_bytes)

pub nine_condition : (v l : ℕ) → Takes 9 (condition_at v l)
unfolding weight nodes_weight reached
nine_condition v l = record { on = λ s at {a = c} e. omega (arith, (at_level v l).conditions.on s at e, some_reached c) }
  where
    some_reached : (c : Condition) → 1 ≤ length (reached c)
    some_reached (one k at c) = omega arith
    some_reached (two k at l r) = omega arith
    some_reached (predicate at own ns act args) = omega arith
    some_reached (comparison at op l r) = omega arith
    some_reached (exists at b c) = omega arith
    some_reached (tp at x) = omega arith
    some_reached (opaque at) = omega arith

pub forward_condition : (v l : ℕ) → Forward (condition_at v l)
forward_condition v l = weaker (nine_condition v l)

-- and a term one
pub one_term : (v l : ℕ) (b : Bool) → Takes 1 (term_at v l b)
one_term v l b = record { on = λ s at e. omega (arith, ((at_level v l).terms b).on s at e) }

pub forward_term : (v l : ℕ) (b : Bool) → Forward (term_at v l b)
forward_term v l b = weaker (one_term v l b)
