-- The messages: the fixed texts between the words that a message quotes, and a message as these texts and words by turns.
-- Each row is a `format!` of the Rust.
use Rattle.std.specs.Prelude.{ℕ, List, [], ◌∷◌, ◌++◌, get_or, drop}
use Rattle.names.specs.Text.{text}
use Rattle.reports.specs.declared.Message.{Message}
use Rattle.reports.specs.declared.Message.TheVariants.{WrongArgument, WrongTimepoint, NotNumeric, UnlikeTypes, WildcardInside, NotLong, CannotSum, CannotSumTimepoint, CannotSumDecimal}

unfoldable pub parts : Message → List (List ℕ)
parts WrongArgument =
    text "argument `"
    ∷ text "` of `"
    ∷ text "` expects `"
    ∷ text "` but got `"
    ∷ text "`"
    ∷ []
parts WrongTimepoint =
    text "`tp("
    ∷ text ")` binds `"
    ∷ text "` to the current timepoint, but `"
    ∷ text "` is declared `"
    ∷ text "`; a `tp` variable must be declared `Timepoint`"
    ∷ []
parts NotNumeric =
    text "comparison requires numeric operands on both sides, got `"
    ∷ text "` and `"
    ∷ text "`"
    ∷ []
parts UnlikeTypes =
    text "equality requires both sides to have the same type, got `"
    ∷ text "` and `"
    ∷ text "`"
    ∷ []
parts WildcardInside =
    text "a wildcard (`*` / `_`) cannot appear inside an arithmetic expression; it resolves to no value, so the whole guard would be silently false"
    ∷ []
parts NotLong =
    text "arithmetic operates only on `Long` values, but this operand has type `"
    ∷ text "`"
    ∷ []
parts CannotSum =
    text "cannot sum `"
    ∷ text "`: sum requires a `Long` summand, but `"
    ∷ text "` is `"
    ∷ text "`."
    ∷ []
parts CannotSumTimepoint =
    text "cannot sum `"
    ∷ text "`: sum requires a `Long` summand, but `"
    ∷ text "` is `Timepoint`. Timepoints are ordinal positions, not quantities — use a Timepoint in the `for (…)` binders to keep per-timepoint rows, not as the value being summed."
    ∷ []
parts CannotSumDecimal =
    text "cannot sum `"
    ∷ text "`: sum requires a `Long` summand, but `"
    ∷ text "` is `Decimal`. Dogwood arithmetic operates only on `Long` values, not decimals."
    ∷ []

abbrev pub part : Message → ℕ → List ℕ
part m i = get_or (parts m) i []

-- how many words it quotes
abbrev pub words : Message → ℕ
words WrongArgument = 4
words WrongTimepoint = 4
words NotNumeric = 2
words UnlikeTypes = 2
words WildcardInside = 0
words NotLong = 1
words CannotSum = 3
words CannotSumTimepoint = 2
words CannotSumDecimal = 2

-- how many bytes its texts have
abbrev pub text_size : Message → ℕ
text_size WrongArgument = 39
text_size WrongTimepoint = 109
text_size NotNumeric = 65
text_size UnlikeTypes = 65
text_size WildcardInside = 137
text_size NotLong = 71
text_size CannotSum = 59
text_size CannotSumTimepoint = 223
text_size CannotSumDecimal = 131

-- a text, a word, a text, a word, .., a text
unfoldable pub filled : List (List ℕ) → List (List ℕ) → List ℕ
filled [] ws = []
filled (p ∷ ps) [] = p
filled (p ∷ ps) (w ∷ ws) = p ++ w ++ filled ps ws

-- the message with these words from its text i on; and the whole of it
unfoldable pub from : Message → ℕ → List (List ℕ) → List ℕ
from m i ws = filled (drop i (parts m)) ws

abbrev pub message : Message → List (List ℕ) → List ℕ
message m ws = from m 0 ws
