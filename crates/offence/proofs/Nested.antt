-- The condition record is read left to right: the condition and the term reader by the levels that are left. Assumes nothing.
use mathlib.Core.Path.{refl}
use mathlib.Core.Bool.{Bool, true, false, ◌&&◌}
use mathlib.Core.Option.{none}
use Prim.Native.Nat.{ℕ, zero, suc, ◌*◌}
use lib.Dec.{leb, eqb}
use Rattle.names.specs.Fields.{Reader, ◌<∘>◌, i64, twos_complement, choose, counted, each, levels}
use Rattle.names.specs.Names.{identifier, path_name, plain}
use Rattle.decimal.specs.Decimal.{decimal_of, judged, decimal_text, held, well_formed, in_range, value_of}
use Rattle.std.specs.Prelude.{List, ℤ, cond, Ok, Err}
use Rattle.condition.specs.Condition.{Condition, Term, Window, One, Two, seconds, units, fits, amount_of, seconds_of, window_kinds, window, given, truths, truth, arith_ops, arith_op, entity_fields, span, slot_kinds, slot, annotation, binder, operators, operator, timepoint_of, arguments, argument_list, elements, element_list, unary, binary, predicate_of, comparison_of, exists_of, condition_kinds, sum_of, count_of, aggregate_kinds, aggregate_of, arith_of, term_kinds, too_deep, condition_at, term_at, condition_record_up_to, condition_record}
use Rattle.offence.proofs.Steady.{Steady, Ends, pure_steady, refuse_steady, cond_steady, then_steady, map_steady, u8_steady, u32_steady, u64_steady, holds_steady, string_steady, many_steady, counted_steady, path_steady, heading_steady, then_ends, finished_ends}
use Rattle.names.specs.declared.refusal.Refusal.TheVariants.{AggregateBelowArray, DecimalOutOfRange, MalformedDecimal, TooDeep, UndefinedChoice, WindowOutOfRange}

span_steady : Steady span
unfolding span
span_steady = then_steady u32_steady (λ a. then_steady u32_steady (λ b. pure_steady))

slot_steady : Steady slot
unfolding slot slot_kinds choose
slot_steady =
    then_steady u8_steady (λ k.
    cond_steady (eqb k 0) (map_steady _ (string_steady plain)) (cond_steady (eqb k 1) pure_steady (cond_steady (eqb k 2) pure_steady (refuse_steady UndefinedChoice refl))))

annotation_steady : Steady annotation
unfolding annotation
annotation_steady =
    then_steady u8_steady (λ n. cond_steady (eqb n 0) pure_steady (then_steady (many_steady (λ w. w) (λ before. string_steady identifier) n none) (λ segments. pure_steady)))

binder_steady : Steady binder
unfolding binder
binder_steady = then_steady slot_steady (λ s. then_steady annotation_steady (λ a. pure_steady))

binders_steady : Steady (counted (each binder))
binders_steady = counted_steady (λ before. binder_steady)

operator_steady : Steady operator
unfolding operator operators choose
operator_steady =
    then_steady u8_steady (λ k.
    cond_steady (eqb k 0) pure_steady
    (cond_steady (eqb k 1) pure_steady
    (cond_steady (eqb k 2) pure_steady
    (cond_steady (eqb k 3) pure_steady
    (cond_steady (eqb k 4) pure_steady
    (cond_steady (eqb k 5) pure_steady (refuse_steady UndefinedChoice refl)))))))

amount_steady : (unit : ℕ) → Steady (amount_of unit)
unfolding amount_of
amount_steady unit = then_steady u64_steady (λ n. holds_steady WindowOutOfRange refl (fits unit n) (seconds (n * unit)))

seconds_steady : Steady seconds_of
unfolding seconds_of units choose
seconds_steady =
    then_steady u8_steady (λ k.
    then_steady
    (cond_steady (eqb k 0) pure_steady (cond_steady (eqb k 1) pure_steady (cond_steady (eqb k 2) pure_steady (cond_steady (eqb k 3) pure_steady (refuse_steady UndefinedChoice refl)))))
    (λ unit. amount_steady unit))

window_steady : (version : ℕ) → Steady (window version)
unfolding window window_kinds choose
window_steady version =
    cond_steady (leb version 1) pure_steady
    (then_steady u8_steady (λ k. cond_steady (eqb k 0) seconds_steady (cond_steady (eqb k 1) pure_steady (refuse_steady UndefinedChoice refl))))

-- what version 3 brought
given_steady : {A : Type 0} (version : ℕ) {f : Reader A} → Steady f → Steady (given version f)
unfolding given
given_steady version f = cond_steady (leb version 2) pure_steady (map_steady _ f)

i64_steady : Steady i64
unfolding i64
i64_steady = map_steady twos_complement u64_steady

-- a text is a value, or one of the two refusals
decided_steady : (shaped within : Bool) (z : ℤ) → Steady (judged (cond shaped (cond within (Ok z) (Err DecimalOutOfRange)) (Err MalformedDecimal)))
unfolding judged
decided_steady true true z = pure_steady
decided_steady true false z = refuse_steady DecimalOutOfRange refl
decided_steady false within z = refuse_steady MalformedDecimal refl

judged_steady : (w : List ℕ) → Steady (judged (decimal_of w))
unfolding decimal_of held
judged_steady w = decided_steady (well_formed w) (in_range (value_of w)) (value_of w)

decimal_steady : Steady decimal_text
unfolding decimal_text
decimal_steady = then_steady (string_steady plain) judged_steady

truth_steady : Steady truth
unfolding truth truths choose
truth_steady = then_steady u8_steady (λ k. cond_steady (eqb k 0) pure_steady (cond_steady (eqb k 1) pure_steady (refuse_steady UndefinedChoice refl)))

arith_op_steady : Steady arith_op
unfolding arith_op arith_ops choose
arith_op_steady = then_steady u8_steady (λ k. cond_steady (eqb k 0) pure_steady (cond_steady (eqb k 1) pure_steady (cond_steady (eqb k 2) pure_steady (refuse_steady UndefinedChoice refl))))

entity_steady : (version : ℕ) → Steady (entity_fields version)
unfolding entity_fields
entity_steady version = then_steady (string_steady path_name) (λ name. then_steady (given_steady version (string_steady plain)) (λ id. pure_steady))

timepoint_steady : Steady timepoint_of
unfolding timepoint_of
timepoint_steady = then_steady span_steady (λ at. then_steady slot_steady (λ s. pure_steady))

module _ (version : ℕ) (f : Reader Condition) (t : Bool → Reader Term) (inner : Steady f) (term : (b : Bool) → Steady (t b)) where
  arguments_steady : (n : ℕ) → Steady (arguments version f t n)
  unfolding arguments
  arguments_steady zero = pure_steady
  arguments_steady (suc n) =
      then_steady (string_steady plain) (λ name. then_steady path_steady (λ field. then_steady (term false) (λ value. then_steady (arguments_steady n) (λ rest. pure_steady))))

  argument_list_steady : Steady (argument_list version f t)
  unfolding argument_list
  argument_list_steady = then_steady u8_steady arguments_steady

  elements_steady : (n : ℕ) → Steady (elements version f t n)
  unfolding elements
  elements_steady zero = pure_steady
  elements_steady (suc n) = then_steady (term true) (λ a. then_steady (elements_steady n) (λ rest. pure_steady))

  element_list_steady : Steady (element_list version f t)
  unfolding element_list
  element_list_steady = then_steady u8_steady elements_steady

  unary_steady : {kind : Reader One} → Steady kind → Steady (unary version f t kind)
  unfolding unary
  unary_steady kind = then_steady span_steady (λ at. then_steady kind (λ k. then_steady inner (λ body. pure_steady)))

  binary_steady : {kind : Reader Two} → Steady kind → Steady (binary version f t kind)
  unfolding binary
  binary_steady kind = then_steady span_steady (λ at. then_steady kind (λ k. then_steady inner (λ left. then_steady inner (λ right. pure_steady))))

  windowed_steady : {A : Type 0} (make : Window → A) → Steady (make <∘> window version)
  windowed_steady make = map_steady make (window_steady version)

  predicate_steady : Steady (predicate_of version f t)
  unfolding predicate_of
  predicate_steady =
      then_steady span_steady
      (λ at. then_steady span_steady
      (λ own. then_steady (counted_steady (λ before. string_steady path_name))
      (λ namespace. then_steady (string_steady plain) (λ action. then_steady argument_list_steady (λ args. pure_steady)))))

  comparison_steady : Steady (comparison_of version f t)
  unfolding comparison_of
  comparison_steady =
      then_steady span_steady (λ at. then_steady operator_steady (λ op. then_steady (term false) (λ left. then_steady (term false) (λ right. pure_steady))))

  exists_steady : Steady (exists_of version f t)
  unfolding exists_of
  exists_steady = then_steady span_steady (λ at. then_steady binder_steady (λ b. then_steady inner (λ body. pure_steady)))

  condition_kinds_steady : (k : ℕ) → Steady (choose k (condition_kinds version f t))
  unfolding choose condition_kinds
  condition_kinds_steady k =
      cond_steady (eqb k 1) (binary_steady pure_steady)
      (cond_steady (eqb k 2) (binary_steady pure_steady)
      (cond_steady (eqb k 3) (unary_steady pure_steady)
      (cond_steady (eqb k 4) (unary_steady (windowed_steady _))
      (cond_steady (eqb k 5) (unary_steady (windowed_steady _))
      (cond_steady (eqb k 6) (binary_steady (windowed_steady _))
      (cond_steady (eqb k 7) predicate_steady
      (cond_steady (eqb k 8) comparison_steady
      (cond_steady (eqb k 9) exists_steady
      (cond_steady (eqb k 10) timepoint_steady
      (cond_steady (eqb k 11) (map_steady _ span_steady)
      (cond_steady (eqb k 12) (map_steady _ span_steady)
      (cond_steady (eqb k 13) (unary_steady pure_steady) (refuse_steady UndefinedChoice refl)))))))))))))

  sum_steady : Steady (sum_of version f t)
  unfolding sum_of
  sum_steady = then_steady span_steady (λ at. then_steady slot_steady (λ summand. then_steady binders_steady (λ binders. then_steady inner (λ body. pure_steady))))

  count_steady : Steady (count_of version f t)
  unfolding count_of
  count_steady = then_steady span_steady (λ at. then_steady binders_steady (λ binders. then_steady inner (λ body. pure_steady)))

  aggregate_steady : Steady (aggregate_of version f t)
  unfolding aggregate_of aggregate_kinds choose
  aggregate_steady =
      then_steady u8_steady (λ k.
      cond_steady (eqb k 1) sum_steady (cond_steady (eqb k 2) count_steady (cond_steady (eqb k 3) (map_steady _ span_steady) (refuse_steady UndefinedChoice refl))))

  arith_steady : (b : Bool) → Steady (arith_of version f t b)
  unfolding arith_of
  arith_steady b = then_steady (given_steady version arith_op_steady) (λ op. then_steady (term b) (λ left. then_steady (term b) (λ right. pure_steady)))

  term_kinds_steady : (b : Bool) (k : ℕ) → Steady (choose k (term_kinds version f t b))
  unfolding choose term_kinds
  term_kinds_steady b k =
      cond_steady (eqb k 1) (map_steady _ (entity_steady version))
      (cond_steady (eqb k 2) (map_steady _ (given_steady version i64_steady))
      (cond_steady (eqb k 3) (map_steady _ (given_steady version decimal_steady))
      (cond_steady (eqb k 4) (map_steady _ (given_steady version (string_steady plain)))
      (cond_steady (eqb k 5) (map_steady _ (given_steady version truth_steady))
      (cond_steady (eqb k 6) (map_steady _ path_steady)
      (cond_steady (eqb k 7) (map_steady _ path_steady)
      (cond_steady (eqb k 8) (map_steady _ (string_steady plain))
      (cond_steady (eqb k 9) pure_steady
      (cond_steady (eqb k 10) (map_steady _ element_list_steady)
      (cond_steady (eqb k 11) (cond_steady b (refuse_steady AggregateBelowArray refl) (map_steady _ aggregate_steady))
      (cond_steady (eqb k 12) (arith_steady b)
      (cond_steady (eqb k 13) pure_steady
      (cond_steady (eqb k 14) pure_steady (refuse_steady UndefinedChoice refl))))))))))))))

too_deep_steady : {A : Type 0} (last : ℕ) → Steady (too_deep {A = A} last)
unfolding too_deep
too_deep_steady last = then_steady u8_steady (λ k. cond_steady (leb 1 k && leb k last) (refuse_steady TooDeep refl) (refuse_steady UndefinedChoice refl))

mutual
  unfolding condition_at term_at

  condition_steady : (version left : ℕ) → Steady (condition_at version left)
  condition_steady version zero = too_deep_steady 13
  condition_steady version (suc left) = then_steady u8_steady (λ k. condition_kinds_steady version (condition_at version left) (λ b. term_at version left b) (condition_steady version left) (λ b. term_steady version left b) k)

  term_steady : (version left : ℕ) (b : Bool) → Steady (term_at version left b)
  term_steady version zero b = too_deep_steady 14
  term_steady version (suc left) b = then_steady u8_steady (λ k. term_kinds_steady version (condition_at version left) (λ b. term_at version left b) (condition_steady version left) (λ b. term_steady version left b) b k)

pub condition_ends : Ends condition_record
unfolding condition_record_up_to condition_record
condition_ends = then_ends (heading_steady _ _) (λ version. then_ends (condition_steady version levels) (λ c. finished_ends _))
