-- Laws of the messages: the fixed texts as one table, and how long a message is. Assumes nothing.
use Rattle.std.specs.Prelude.{◌≡◌, refl, ℕ, suc, ◌+◌, ◌≤◌, ◌<◌, length, get_or, drop}
use Rattle.std.proofs.Common.{sym, ap, ◌∙◌, add-one, arith, length-append, drop_of_length-le, get_or-drop, drop-cons, lit<, lit≤}
use mathlib.Core.List.{List, [], ◌∷◌, ◌++◌, append_assoc}
use Rattle.std.proofs.Math.ListN.{get_or-append}
use Rattle.names.specs.Lists.{gather}
use Rattle.names.specs.Text.{text}
use Rattle.names.specs.Writer.{Stored}
use Rattle.names.specs.Laws.Writers.{stored_none, stored_more, stored_length}
use Rattle.reports.specs.declared.Message.{Message}
use Rattle.reports.specs.declared.Message.TheVariants.{WrongArgument, WrongTimepoint, NotNumeric, UnlikeTypes, WildcardInside, NotLong, CannotSum, CannotSumTimepoint, CannotSumDecimal}
use Rattle.reports.specs.Messages.{parts, part, words, text_size, filled, from, message}
use Rattle.reports.specs.Pairs.{sum_of}

-- so many texts, one more than words
pub parts_count : (m : Message) → length (parts m) ≡ words m + 1
unfolding parts
parts_count WrongArgument = refl
parts_count WrongTimepoint = refl
parts_count NotNumeric = refl
parts_count UnlikeTypes = refl
parts_count WildcardInside = refl
parts_count NotLong = refl
parts_count CannotSum = refl
parts_count CannotSumTimepoint = refl
parts_count CannotSumDecimal = refl

-- ---- one table

abbrev pub first_of : Message → ℕ
first_of WrongArgument = 0
first_of WrongTimepoint = 5
first_of NotNumeric = 10
first_of UnlikeTypes = 13
first_of WildcardInside = 16
first_of NotLong = 17
first_of CannotSum = 19
first_of CannotSumTimepoint = 23
first_of CannotSumDecimal = 26

-- all the texts, message by message
unfoldable pub pieces : List (List ℕ)
pieces = gather parts (WrongArgument ∷ WrongTimepoint ∷ NotNumeric ∷ UnlikeTypes ∷ WildcardInside ∷ NotLong ∷ CannotSum ∷ CannotSumTimepoint ∷ CannotSumDecimal ∷ [])

-- the texts of a message stand in it from its first place on
from_first : (m : Message) → drop (first_of m) pieces ≡ parts m ++ drop (first_of m + length (parts m)) pieces
unfolding pieces parts gather
from_first WrongArgument = refl
from_first WrongTimepoint = refl
from_first NotNumeric = refl
from_first UnlikeTypes = refl
from_first WildcardInside = refl
from_first NotLong = refl
from_first CannotSum = refl
from_first CannotSumTimepoint = refl
from_first CannotSumDecimal = refl

pub piece_is : (m : Message) (i : ℕ) → i ≤ words m → get_or pieces (first_of m + i) [] ≡ part m i
piece_is m i h =
    sym (get_or-drop (first_of m) pieces i [])
    ∙ ap (λ (l : List (List ℕ)). get_or l i []) (from_first m)
    ∙ get_or-append (parts m) (drop (first_of m + length (parts m)) pieces) [] i (omega (arith, parts_count m))

pub pieces_last : (m : Message) → first_of m + words m < 29
pieces_last WrongArgument = lit< tt
pieces_last WrongTimepoint = lit< tt
pieces_last NotNumeric = lit< tt
pieces_last UnlikeTypes = lit< tt
pieces_last WildcardInside = lit< tt
pieces_last NotLong = lit< tt
pieces_last CannotSum = lit< tt
pieces_last CannotSumTimepoint = lit< tt
pieces_last CannotSumDecimal = lit< tt

-- ---- a message, text by text

module _ (m : Message) (i : ℕ) where
  from_word : (w : List ℕ) (ws : List (List ℕ)) → i < words m → from m i (w ∷ ws) ≡ (part m i ++ w) ++ from m (suc i) ws
  unfolding from filled
  from_word w ws h = rw (drop-cons (parts m) i [] (omega (arith, parts_count m)))

  from_last : i ≤ words m → from m i [] ≡ part m i
  unfolding from filled
  from_last h = rw (drop-cons (parts m) i [] (omega (arith, parts_count m)))

-- A loop that writes a message: the texts before the text i are written, each with its word, and what is left makes the whole.
pub record Composing (m : Message) (ws : List (List ℕ)) (old : List ℕ) (start : ℕ) (now : List ℕ) (at i : ℕ) : Type 0 where
  pub done : List ℕ
  pub written : Stored old start done now at
  pub same : done ++ from m i (drop i ws) ≡ message m ws
  pub inside : i ≤ words m

module _ (m : Message) (ws : List (List ℕ)) (full : length ws ≡ words m) (old : List ℕ) (start : ℕ) (room : start + length (message m ws) ≤ length old) where
  pub composing_begins : Composing m ws old start old start 0
  composing_begins = record { done = []; written = stored_none old start (omega arith); same = refl; inside = omega arith }

  module _ (now : List ℕ) (at i : ℕ) (c : Composing m ws old start now at i) where
    left_room : at + length (from m i (drop i ws)) ≤ length now
    left_room = omega (arith, ap length c.same, length-append c.done (from m i (drop i ws)), c.written.next, stored_length c.written)

    -- one more text, and the word behind it
    module _ (h : i < words m) where
      next_word : from m i (drop i ws) ≡ (part m i ++ get_or ws i []) ++ from m (suc i) (drop (suc i) ws)
      next_word = ap (from m i) (drop-cons ws i [] (omega arith)) ∙ from_word m i (get_or ws i []) (drop (suc i) ws) h

      pub composing_room : at + length (part m i ++ get_or ws i []) ≤ length now
      composing_room = omega (arith, left_room, ap length next_word, length-append (part m i ++ get_or ws i []) (from m (suc i) (drop (suc i) ws)))

      pub composing_turn : {now' : List ℕ} {at' : ℕ} → Stored now at (part m i ++ get_or ws i []) now' at' → Composing m ws old start now' at' (i + 1)
      composing_turn p = rw add-one (record {
        done = c.done ++ (part m i ++ get_or ws i []);
        written = stored_more c.written p;
        same = append_assoc c.done (part m i ++ get_or ws i []) (from m (suc i) (drop (suc i) ws)) ∙ ap (λ (l : List ℕ). c.done ++ l) (sym next_word) ∙ c.same;
        inside = omega arith;
      })

    -- the last text
    module _ (h : words m ≤ i) where
      last_text : from m i (drop i ws) ≡ part m i
      last_text = ap (from m i) (drop_of_length-le ws {i = i} (omega arith)) ∙ from_last m i c.inside

      pub last_room : at + length (part m i) ≤ length now
      last_room = omega (arith, left_room, ap length last_text)

      pub composing_over : {now' : List ℕ} {at' : ℕ} → Stored now at (part m i) now' at' → Stored old start (message m ws) now' at'
      composing_over p =
          let e : c.done ++ part m i ≡ message m ws = ap (λ (l : List ℕ). c.done ++ l) (sym last_text) ∙ c.same in
          rw (← e) (stored_more c.written p)

-- ---- how long a message is

pub texts_size : (m : Message) → sum_of length (parts m) ≡ text_size m
unfolding parts text
texts_size WrongArgument = refl
texts_size WrongTimepoint = refl
texts_size NotNumeric = refl
texts_size UnlikeTypes = refl
texts_size WildcardInside = refl
texts_size NotLong = refl
texts_size CannotSum = refl
texts_size CannotSumTimepoint = refl
texts_size CannotSumDecimal = refl

pub text_most : (m : Message) → text_size m ≤ 223
text_most WrongArgument = lit≤ tt
text_most WrongTimepoint = lit≤ tt
text_most NotNumeric = lit≤ tt
text_most UnlikeTypes = lit≤ tt
text_most WildcardInside = lit≤ tt
text_most NotLong = lit≤ tt
text_most CannotSum = lit≤ tt
text_most CannotSumTimepoint = lit≤ tt
text_most CannotSumDecimal = lit≤ tt

filled_length : (ps ws : List (List ℕ)) → length ps ≡ length ws + 1 → length (filled ps ws) ≡ sum_of length ps + sum_of length ws
unfolding filled
filled_length [] ws e = absurd (omega arith)
filled_length (p ∷ []) [] e = omega arith
filled_length (p ∷ (q ∷ ps)) [] e = absurd (omega arith)
filled_length (p ∷ ps) (w ∷ ws) e = simp length-append (omega (arith, filled_length ps ws (omega arith)))

-- with as many words as it quotes: the bytes of its texts, and those of the words
pub message_length : (m : Message) (ws : List (List ℕ)) → length ws ≡ words m → length (message m ws) ≡ text_size m + sum_of length ws
unfolding from
message_length m ws e = filled_length (parts m) ws (omega (arith, parts_count m)) ∙ rw (texts_size m)

-- ---- the most words

pub words_few : (m : Message) → words m ≤ 4
words_few WrongArgument = lit≤ tt
words_few WrongTimepoint = lit≤ tt
words_few NotNumeric = lit≤ tt
words_few UnlikeTypes = lit≤ tt
words_few WildcardInside = lit≤ tt
words_few NotLong = lit≤ tt
words_few CannotSum = lit≤ tt
words_few CannotSumTimepoint = lit≤ tt
words_few CannotSumDecimal = lit≤ tt
