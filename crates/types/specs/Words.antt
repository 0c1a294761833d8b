-- The texts of types by the code's enum, and the words that they are made of, in one table.
use Rattle.std.specs.Prelude.{ℕ, zero, suc, List, [], ◌∷◌, ◌++◌, get_or}
use Rattle.names.specs.Text.{text}
use Rattle.types.specs.Types.{Ty, rank, display, render}
use Rattle.types.specs.Meaning.{scalar_of}
use Rattle.types.specs.declared.Base.{Base}
use Rattle.types.specs.declared.Form.{Form}

abbrev pub text_by : Form → Ty → List ℕ
text_by Form.Display = display
text_by Form.Render = render

-- the scalars' words by their rank, then the others: an entity, an array of unknown elements, one of mixed ones as displayed and
-- as rendered, what stands before a tag as displayed and as rendered, and what opens and closes a layer
unfoldable pub words : List (List ℕ)
words =
    text "int" ∷ text "string" ∷ text "decimal" ∷ text "boolean" ∷ text "timepoint" ∷ text "object" ∷ text "never" ∷ text "datetime"
    ∷ text "duration" ∷ text "entity" ∷ text "array" ∷ text "mixed-type array" ∷ text "array<?>" ∷ text "" ∷ text "entity:" ∷ text "array<" ∷ text ">" ∷ []

abbrev pub type_word : ℕ → List ℕ
type_word k = get_or words k []

abbrev pub mixed_word : Form → ℕ
mixed_word Form.Display = 11
mixed_word Form.Render = 12

abbrev pub tag_mark : Form → ℕ
tag_mark Form.Display = 13
tag_mark Form.Render = 14

-- the word of a base, which its tag follows where it has one
abbrev pub word_of : Form → Base → ℕ
word_of f (Base.Plain a) = rank (scalar_of a)
word_of f (Base.Tagged t) = tag_mark f
word_of f Base.Untagged = 9
word_of f Base.AnyArray = 10
word_of f Base.MixedArray = mixed_word f

-- n times s
unfoldable pub repeated : ℕ → List ℕ → List ℕ
repeated zero s = []
repeated (suc n) s = repeated n s ++ s
