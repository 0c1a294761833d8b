-- How many words a message quotes, and how long it is at the most. Assumes nothing.
use Rattle.std.specs.Prelude.{◌≡◌, refl, ℕ, zero, suc, ◌+◌, ◌≤◌, ◌<◌, length, get_or, take, drop}
use Rattle.std.proofs.Common.{◌∙◌, Fits}
use mathlib.Core.List.{List, [], ◌∷◌, map}
use native.Mathlib.Omega.{arith}
use Rattle.std.specs.Int.{w8}
use Rattle.std.proofs.Math.ListN.{get_or-map}
use Rattle.std.proofs.Math.Seq.{get_or-take, length-take-le}
use Rattle.names.specs.Read.{word_at}
use Rattle.names.specs.Laws.Walks.{take_at_most}
use Rattle.types.specs.Types.{display}
use Rattle.types.specs.Laws.Texts.{Small, text_bound}
use Rattle.types.specs.Meaning.{rich_of}
use Rattle.types.specs.declared.Rich.{Rich}
use Rattle.types.specs.declared.Form.TheVariants as Form
use Rattle.reports.specs.Messages.{words}
use Rattle.reports.specs.Laws.Messages.{words_few, message_length}
use Rattle.reports.specs.Pairs.{sum_of}
use Rattle.messages.specs.Words.{word_text, words_of, word_of, quoted, text_of, WordStands, Stands, word_most, most}
use Rattle.messages.specs.Laws.Segments.{joined_most}
use Rattle.messages.specs.declared.Word.{Word}
use Rattle.messages.specs.declared.Word.TheVariants.{Nothing, Name, Shown, Joined}
use Rattle.messages.specs.declared.Sentence.{Sentence}

-- ---- the words of a message

module _ (s c : List ℕ) (m : Sentence) where
  pub quoted_count : length (quoted s c m) ≡ words m.which
  unfolding quoted
  quoted_count = length-take-le (words m.which) (map (word_text s c) (words_of m)) (words_few m.which)

  pub quoted_word : (i : ℕ) → i < words m.which → get_or (quoted s c m) i [] ≡ word_text s c (word_of m i)
  unfolding quoted
  quoted_word i h = get_or-take (words m.which) (map (word_text s c) (words_of m)) i [] h ∙ get_or-map (word_text s c) (words_of m) i Nothing

-- ---- how long each can be

-- the elements of a list are bytes
abbrev pub Bytes : List ℕ → Type 0
Bytes s = (i : ℕ) → Fits w8 (get_or s i 0)

pub word_short : (s : List ℕ) → Bytes s → (at : ℕ) → length (word_at s at) ≤ 255
word_short s bytes at = omega (arith, take_at_most (get_or s at 0) (drop (at + 1) s), bytes at)

pub shown_short : (s c : List ℕ) (t : Rich) → Small (rich_of s c t) → length (display (rich_of s c t)) ≤ 479
shown_short s c t small = text_bound Form.Display (rich_of s c t) small

-- of a record whose elements are bytes
module _ (s c : List ℕ) (bytes : Bytes c) where
  word_within : (w : Word) → WordStands s c w → length (word_text s c w) ≤ word_most w
  word_within Nothing h = omega arith
  word_within (Name p) h = word_short c bytes p
  word_within (Shown t) h = shown_short s c t h
  word_within (Joined p) h = joined_most c p h.0 (get_or c p 0) refl h.1 (omega (arith, bytes p))

  sum_take : (n : ℕ) (l : List (List ℕ)) → sum_of length (take n l) ≤ sum_of length l
  sum_take zero l = omega arith
  sum_take (suc n) [] = omega arith
  sum_take (suc n) (w ∷ l) = omega (arith, sum_take n l)

  pub text_within : (m : Sentence) → Stands s c m → length (text_of s c m) ≤ most m
  unfolding quoted
  text_within m h =
      omega (
        arith,
        message_length m.which (quoted s c m) (quoted_count s c m),
        sum_take (words m.which) (map (word_text s c) (words_of m)),
        word_within (word_of m 0) h.first,
        word_within (word_of m 1) h.second,
        word_within (word_of m 2) h.third,
        word_within (word_of m 3) h.fourth,
      )
