-- Small records, read by computation. Assumes nothing.
use mathlib.Core.Path.{◌≡◌, refl}
use mathlib.Core.List.{[], ◌∷◌}
use Rattle.names.specs.Fields.{got, bad, bytes, u8, u16, number, many, heading, finished, choose, string_of}
use Rattle.names.specs.Lists.{every}
use Rattle.names.specs.Names.{same, plain, plain_byte, below}
use Rattle.schema.specs.Schema.{type_at, kinds, attributes, attributes_of, ascending, after, object, attribute, nothing, long, set, string, schema_record}
use Rattle.names.specs.declared.refusal.Refusal.TheVariants.{NotAscending}

empty : schema_record (68 ∷ 87 ∷ 83 ∷ 0 ∷ 1 ∷ 0 ∷ 0 ∷ 0 ∷ 0 ∷ []) 0 ≡ got (record { entities = []; actions = [] }) 9
unfolding schema_record heading bytes u16 number many finished same
empty = refl

-- { a: Long, b: Set<String> }, and the same with its names not ascending
two : type_at 32 (6 ∷ 2 ∷ 1 ∷ 97 ∷ 0 ∷ 1 ∷ 98 ∷ 4 ∷ 1 ∷ []) 0 ≡ got (object (attribute (97 ∷ []) long (attribute (98 ∷ []) (set string) nothing))) 9
unfolding type_at kinds choose u8 bytes attributes attributes_of ascending after string_of plain plain_byte every below
two = refl

unordered : type_at 32 (6 ∷ 2 ∷ 1 ∷ 98 ∷ 0 ∷ 1 ∷ 97 ∷ 4 ∷ 1 ∷ []) 0 ≡ bad NotAscending
unfolding type_at kinds choose u8 bytes attributes attributes_of ascending after string_of plain plain_byte every below
unordered = refl
