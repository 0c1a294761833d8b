-- What a word of a message is, and a message with its words: their bytes, given those of the schema s and of the condition c.
use Rattle.std.specs.Prelude.{Option, None, Some, List, [], ◌∷◌, map, ◌≡◌, ℕ, ◌+◌, ◌≤◌, ◌<◌, length, get_or, take}
use Rattle.names.specs.Names.{joined}
use Rattle.names.specs.Read.{word_at}
use Rattle.types.specs.Types.{display}
use Rattle.types.specs.Laws.Texts.{Small}
use Rattle.types.specs.Meaning.{rich_of}
use Rattle.nodes.specs.declared.Ends.{Ends}
use Rattle.condition.specs.Condition.{Span}
use Rattle.nodes.specs.Parts.{segments_in, SegmentsHere}
use Rattle.reports.specs.Messages.{message, words, text_size}
use Rattle.reports.specs.declared.Message.{Message}
use Rattle.reports.specs.Pairs.{sum_of}
use Rattle.reports.specs.Reports.{Breach}
use Rattle.messages.specs.declared.Word.{Word}
use Rattle.messages.specs.declared.Word.TheVariants.{Nothing, Name, Shown, Joined}
use Rattle.messages.specs.declared.Sentence.{Sentence}

abbrev pub word_text : List ℕ → List ℕ → Word → List ℕ
word_text s c Nothing = []
word_text s c (Name p) = word_at c p
word_text s c (Shown t) = display (rich_of s c t)
word_text s c (Joined p) = joined (segments_in c p)

abbrev pub words_of : Sentence → List Word
words_of m = get_or m.words 0 Nothing ∷ get_or m.words 1 Nothing ∷ get_or m.words 2 Nothing ∷ get_or m.words 3 Nothing ∷ []

abbrev pub word_of : Sentence → ℕ → Word
word_of m i = get_or (words_of m) i Nothing

-- the words that it quotes, and its text
unfoldable pub quoted : List ℕ → List ℕ → Sentence → List (List ℕ)
quoted s c m = take (words m.which) (map (word_text s c) (words_of m))

abbrev pub text_of : List ℕ → List ℕ → Sentence → List ℕ
text_of s c m = message m.which (quoted s c m)

-- how long a word can be, and a message with its words
abbrev pub word_most : Word → ℕ
word_most Nothing = 0
word_most (Name p) = 255
word_most (Shown t) = 479
word_most (Joined p) = 33023

abbrev pub most : Sentence → ℕ
most m = text_size m.which + sum_of word_most (words_of m)

-- what must hold of a word: a type is small, and segments stand in a record; and of a message: 16 bits hold its length
abbrev pub WordStands : List ℕ → List ℕ → Word → Type 0
WordStands s c Nothing = Unit {0}
WordStands s c (Name p) = Unit {0}
WordStands s c (Shown t) = Small (rich_of s c t)
WordStands s c (Joined p) = SegmentsHere c p × (length c ≤ 32768)

pub record Stands (s c : List ℕ) (m : Sentence) : Type 0 where
  pub first : WordStands s c (word_of m 0)
  pub second : WordStands s c (word_of m 1)
  pub third : WordStands s c (word_of m 2)
  pub fourth : WordStands s c (word_of m 3)
  pub below : most m < 65536

-- what is said of something: nothing, or a message
abbrev pub Said : Type 0
Said = Option Sentence

abbrev pub say : Message → Word → Word → Word → Word → Said
say which a b c d = Some (record { which = which; words = a ∷ b ∷ c ∷ d ∷ [] })

-- A rule: what is broken at a span. What is said is one, and stands.
abbrev pub Rule : Type 0
Rule = Span → List Breach

abbrev pub said_breaches : List ℕ → List ℕ → Said → Rule
said_breaches s c None at = []
said_breaches s c (Some m) at = record { start = at.start; end = at.end; message = text_of s c m } ∷ []

abbrev pub SaidStands : List ℕ → List ℕ → Said → Type 0
SaidStands s c None = Unit {0}
SaidStands s c (Some m) = Stands s c m

-- what a judgement ensures: wherever it is reported, what it says is what the rule says
pub record Tells (s c : List ℕ) (rule : Rule) (r : Said) : Type 0 where
  pub is : (at : Span) → said_breaches s c r at ≡ rule at
  pub stands : SaidStands s c r

-- the code's span
abbrev pub span_in : Ends → Span
span_in e = record { start = e.start; end = e.end }
