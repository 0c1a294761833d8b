-- The definition computes: document 01's whole run, a Bool below an Integer under a target that no action is declared for. Assumes nothing.
use mathlib.Core.Path.{◌≡◌, refl}
use mathlib.Core.List.{List, [], ◌∷◌}
use Prim.Native.Nat.{ℕ}
use Rattle.names.specs.Fields.{bytes, u8, u16, u32, number, string_of, many, counted, heading, finished, whole, choose}
use Rattle.names.specs.Lists.{first, every}
use Rattle.names.specs.Names.{same, plain, plain_byte, path_or_none}
use Rattle.names.specs.Text.{text}
use Rattle.types.specs.Types.{render}
use Rattle.schema.specs.Schema.{schema_record}
use Rattle.schema.specs.Find.{find_action}
use Rattle.targets.specs.Targets.{narrowings, narrowing, target, target_record}
use Rattle.targets.specs.PathRecord.{target_at}
use Rattle.condition.specs.Condition.{span, operators, operator, comparison_of, condition_kinds, term_kinds, given, condition_at, term_at, condition_record_up_to, condition_record}
use Rattle.terms.specs.Terms.{term_type}
use Rattle.operands.specs.Operands.{Outcome, written, refused, operand_in, placed, answered, under_target, at_position, operand_type}
use Rattle.operands.specs.declared.Operand.{Operand}
use Rattle.operands.specs.declared.Operand.TheVariants.{Left, Right}

abbrev asked : ℕ → Operand → List ℕ → Outcome
asked =
    operand_type
    (68 ∷ 87 ∷ 83 ∷ 0 ∷ 1 ∷ 0 ∷ 0 ∷ 0 ∷ 0 ∷ [])
    (68 ∷ 87 ∷ 67 ∷ 0 ∷ 1 ∷ 8 ∷ 0 ∷ 0 ∷ 0 ∷ 0 ∷ 0 ∷ 0 ∷ 0 ∷ 8 ∷ 1 ∷ 5 ∷ 2 ∷ [])
    (68 ∷ 87 ∷ 84 ∷ 0 ∷ 1 ∷ 0 ∷ 0 ∷ 1 ∷ 0 ∷ 4 ∷ 118 ∷ 105 ∷ 101 ∷ 119 ∷ [])

pub record Rows : Type 0 where
  -- the left operand fills a buffer of seven bytes, the right one leaves what stands behind it
  pub left : asked 0 Left (text "_______") ≡ record { answer = written 7; buffer = text "boolean" }
  pub right : asked 0 Right (text "_______") ≡ record { answer = written 3; buffer = text "int____" }
  -- 11 where the buffer is a byte too short, 12 where there is no such target
  pub short : asked 0 Left (text "______") ≡ record { answer = refused 11 0; buffer = text "______" }
  pub absent : asked 1 Left (text "_______") ≡ record { answer = refused 12 3; buffer = text "_______" }

pub examples : Rows
unfolding bytes u8 u16 u32 number string_of many counted heading finished whole choose first every same plain plain_byte path_or_none text render schema_record find_action narrowings narrowing target target_record target_at span operators operator comparison_of condition_kinds term_kinds given condition_at term_at condition_record_up_to condition_record term_type operand_in placed answered under_target at_position operand_type
examples = record { left = refl; right = refl; short = refl; absent = refl }
