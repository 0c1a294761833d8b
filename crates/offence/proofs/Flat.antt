-- The schema record, the target record and the path record are read left to right. Assumes nothing.
use mathlib.Core.Path.{refl}
use mathlib.Core.Bool.{Bool}
use mathlib.Core.List.{List}
use mathlib.Core.Option.{Option, none, some}
use Prim.Native.Nat.{ℕ, zero, suc}
use lib.Dec.{leb, eqb}
use Rattle.names.specs.Fields.{Reader, choose, counted, levels}
use Rattle.names.specs.Names.{path_name, path_or_none, plain}
use Rattle.schema.specs.Schema.{Declared, Key, after, ascending, attributes_of, attributes, kinds, type_at, entity_type, key_after, action, key_of, schema_record}
use Rattle.targets.specs.Targets.{narrowings, narrowing, target, target_record}
use Rattle.targets.specs.PathRecord.{sides, scope_side, path_record}
use Rattle.offence.proofs.Steady.{Steady, Ends, pure_steady, refuse_steady, holds_steady, cond_steady, then_steady, map_steady, u8_steady, u16_steady, string_steady, many_steady, counted_steady, path_steady, heading_steady, then_ends, finished_ends}
use Rattle.names.specs.declared.refusal.Refusal.TheVariants.{NotAscending, TooDeep, UndefinedChoice}

-- The schema.
ascending_steady : (class : List ℕ → Bool) (before : Option (List ℕ)) → Steady (ascending class before)
unfolding ascending
ascending_steady class before = then_steady (string_steady class) (λ w. holds_steady NotAscending refl (after before w) w)

names_steady : Steady (counted (ascending path_name))
names_steady = counted_steady (ascending_steady path_name)

module _ (type : Reader Declared) (inner : Steady type) where
  row_steady : (n : ℕ) (before : Option (List ℕ)) → Steady (attributes_of type n before)
  unfolding attributes_of
  row_steady zero before = pure_steady
  row_steady (suc n) before = then_steady (ascending_steady plain before) (λ name. then_steady inner (λ t. then_steady (row_steady n (some name)) (λ rest. pure_steady)))

  attributes_steady : Steady (attributes type)
  unfolding attributes
  attributes_steady = then_steady u8_steady (λ n. row_steady n none)

  kinds_steady : (k : ℕ) → Steady (choose k (kinds type))
  unfolding choose kinds
  kinds_steady k =
      cond_steady (eqb k 0) pure_steady
      (cond_steady (eqb k 1) pure_steady
      (cond_steady (eqb k 2) pure_steady
      (cond_steady (eqb k 3) (map_steady _ (string_steady path_name))
      (cond_steady (eqb k 4) (map_steady _ inner)
      (cond_steady (eqb k 5) pure_steady
      (cond_steady (eqb k 6) (map_steady _ attributes_steady)
      (cond_steady (eqb k 7) (map_steady _ (string_steady path_name))
      (cond_steady (eqb k 8) pure_steady
      (cond_steady (eqb k 9) pure_steady
      (cond_steady (eqb k 10) pure_steady (refuse_steady UndefinedChoice refl)))))))))))

type_steady : (left : ℕ) → Steady (type_at left)
unfolding type_at
type_steady zero = then_steady u8_steady (λ k. cond_steady (leb k 10) (refuse_steady TooDeep refl) (refuse_steady UndefinedChoice refl))
type_steady (suc left) = then_steady u8_steady (λ k. kinds_steady (type_at left) (type_steady left) k)

entity_steady : (before : Option (List ℕ)) → Steady (entity_type before)
unfolding entity_type
entity_steady before =
    then_steady (ascending_steady path_name before) (λ name. then_steady names_steady (λ ancestors. then_steady (attributes_steady (type_at levels) (type_steady levels)) (λ fields. pure_steady)))

action_steady : (before : Option Key) → Steady (action before)
unfolding action
action_steady before =
    then_steady (string_steady path_name)
    (λ type. then_steady (string_steady plain)
    (λ id. then_steady (holds_steady NotAscending refl (key_after before (record { type = type; id = id })) id)
    (λ _. then_steady names_steady (λ principals. then_steady names_steady (λ resources. then_steady (type_steady levels) (λ context. pure_steady))))))

pub schema_ends : Ends schema_record
unfolding schema_record
schema_ends =
    then_ends (heading_steady _ _)
    (λ _. then_ends u16_steady
    (λ n. then_ends (many_steady _ entity_steady n none)
    (λ es. then_ends u16_steady
    (λ m. then_ends (many_steady key_of action_steady m none)
    (λ acts. finished_ends _)))))

-- Targets, and a path.
narrowing_steady : Steady narrowing
unfolding narrowing narrowings choose
narrowing_steady =
    then_steady u8_steady (λ k.
    cond_steady (eqb k 0) pure_steady
    (cond_steady (eqb k 1) pure_steady
    (cond_steady (eqb k 2) (map_steady _ (string_steady path_name))
    (cond_steady (eqb k 3) (map_steady _ (string_steady path_name))
    (cond_steady (eqb k 4) (map_steady _ (string_steady path_name)) (refuse_steady UndefinedChoice refl))))))

target_steady : Steady target
unfolding target
target_steady = then_steady (string_steady path_or_none) (λ ns. then_steady (string_steady plain) (λ id. pure_steady))

pub targets_ends : Ends target_record
unfolding target_record
targets_ends =
    then_ends (heading_steady _ _)
    (λ _. then_ends narrowing_steady
    (λ p. then_ends narrowing_steady
    (λ r. then_ends (counted_steady (λ before. target_steady))
    (λ list. finished_ends _))))

side_steady : Steady scope_side
unfolding scope_side sides choose
side_steady = then_steady u8_steady (λ k. cond_steady (eqb k 0) pure_steady (cond_steady (eqb k 1) pure_steady (refuse_steady UndefinedChoice refl)))

pub path_ends : Ends path_record
unfolding path_record
path_ends =
    then_ends (heading_steady _ _) (λ _. then_ends side_steady (λ side. then_ends path_steady (λ path. then_ends u8_steady (λ position. finished_ends _))))
