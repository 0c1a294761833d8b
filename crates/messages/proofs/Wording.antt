-- A message with its words, measured and written: what each function asks, and what it has done in the end. Assumes nothing.
use mathlib.Core.Path.{◌≡◌, refl, sym, ap, ◌∙◌}
use mathlib.Core.List.{List, [], ◌++◌}
use Prim.Native.Nat.{ℕ, zero, suc, ◌+◌, ◌*◌, ◌≤◌, ◌<◌}
use native.Mathlib.Omega.{arith}
use native.Mathlib.Numerals.{add-one}
use mir.Syntax.{w64}
use mir.Val.{Fits}
use borrow.Author.Rules.{rules, Fits-under}
use lib.ListN.{length, get_or, take, drop, length-take, drop_of_length-le}
use lib.Seq.{get_or-take, drop-cons}
use Rattle.names.specs.Writer.{Stored}
use Rattle.names.specs.Laws.Writers.{stored_none, stored_more}
use Rattle.types.specs.Types.{display}
use Rattle.types.specs.Laws.Texts.{Small, text_counted}
use Rattle.types.specs.Meaning.{rich_of}
use Rattle.types.specs.declared.Rich.{Rich}
use Rattle.types.specs.declared.Form.TheVariants as Form
use Rattle.reports.specs.Messages.{part, words, text_size}
use Rattle.reports.specs.Laws.Messages.{Composing, composing_begins, composing_room, composing_turn, last_room, composing_over, words_few, text_most, message_length}
use Rattle.reports.specs.Pairs.{sum_of}
use Rattle.messages.specs.Joined.{Sized}
use Rattle.messages.specs.Words.{word_text, word_of, quoted, text_of, WordStands}
use Rattle.messages.specs.Laws.Lengths.{quoted_count, quoted_word, shown_short}
use Rattle.messages.specs.declared.Word.{Word}
use Rattle.messages.specs.declared.Word.TheVariants.{Nothing, Shown}
use Rattle.messages.specs.declared.Sentence.{Sentence}

-- ---- the word of a place

word_there : (m : Sentence) (i : ℕ) → i < 4 → get_or m.words i Nothing ≡ word_of m i
word_there m zero h = refl
word_there m (suc zero) h = refl
word_there m (suc (suc zero)) h = refl
word_there m (suc (suc (suc i))) h = let e : i ≡ 0 = omega arith in rw e

-- ---- one word, written

module _ (s c : List ℕ) (w : Word) (out : List ℕ) (at : ℕ) (stands : WordStands s c w) (room : at + length (word_text s c w) ≤ length out) where
  pub nothing_put : w ≡ Nothing → Stored out at (word_text s c w) out at
  nothing_put e = let r = rw e at room in rw e (stored_none out at (omega arith))

pub ruleset putting = (rules, nothing_put)

-- a text, and the word behind it
module _ (s c : List ℕ) (m : Sentence) (i : ℕ) (few : i < 4) (w : Word) (there : w ≡ get_or m.words i Nothing) where
  is : w ≡ word_of m i
  is = there ∙ word_there m i few

  module _ (out : List ℕ) (at : ℕ) (out' : List ℕ) (next : ℕ) (put : Stored out at (part m.which i) out' next) where
    pub word_put : {out'' : List ℕ} {r : ℕ} → Stored out' next (word_text s c w) out'' r → Stored out at (part m.which i ++ word_text s c (word_of m i)) out'' r
    word_put q = stored_more put (rw is at q)

pub ruleset parting = (rules, word_put)

-- ---- one word, measured

module _ (s c : List ℕ) where
  shown_counted : (t : Rich) → Small (rich_of s c t) → length (display (rich_of s c t)) < 18446744073709551616
  shown_counted t small = text_counted Form.Display (rich_of s c t) small

  shown_sized : (t : Rich) → Small (rich_of s c t) → (r : ℕ) → r ≡ length (display (rich_of s c t)) → Sized (display (rich_of s c t)) r
  shown_sized t small r is = record { is = is; most = omega (arith, shown_short s c t small) }

  module _ (w : Word) (stands : WordStands s c w) (t : Rich) (e : w ≡ Shown t) where
    shown_small : Small (rich_of s c t)
    shown_small = rw e at stands

    pub shown_fits : length (display (rich_of s c t)) < 18446744073709551616
    shown_fits = shown_counted t shown_small

    pub word_shown : (r : ℕ) → r ≡ length (display (rich_of s c t)) → Sized (word_text s c w) r
    word_shown r is = rw e (shown_sized t shown_small r is)

pub ruleset sizing = (rules, shown_fits, word_shown)

-- ---- a message, written

-- so many words as it quotes
module _ (s c : List ℕ) (m : Sentence) (n : ℕ) (count : n ≡ words m.which) where
  module _ (old : List ℕ) (start : ℕ) (room : start + length (text_of s c m) ≤ length old) where
    pub writing_begins : Composing m.which (quoted s c m) old start old start 0
    writing_begins = composing_begins m.which (quoted s c m) (quoted_count s c m) old start room

    module _ (now : List ℕ) (at i : ℕ) (k : Composing m.which (quoted s c m) old start now at i) where
      module _ (h : i < n) where
        pub turn_inside : i < words m.which
        turn_inside = omega arith

        pub turn_few : i < 4
        turn_few = omega (arith, words_few m.which)

        pub turn_room : at + length (part m.which i ++ word_text s c (word_of m i)) ≤ length now
        turn_room = rw (← quoted_word s c m i turn_inside) (composing_room m.which (quoted s c m) (quoted_count s c m) old start room now at i k turn_inside)

        pub turn_done : {now' : List ℕ} {at' : ℕ} → Stored now at (part m.which i ++ word_text s c (word_of m i)) now' at' → Composing m.which (quoted s c m) old start now' at' (i + 1)
        turn_done p = composing_turn m.which (quoted s c m) (quoted_count s c m) old start room now at i k turn_inside (rw (← quoted_word s c m i turn_inside) at p)

      -- all of them are written: i, which is no more than n, is n
      module _ (h : n ≤ i) (end : i ≤ n) where
        all : i ≡ n
        all = omega arith

        pub last_inside : n ≤ words m.which
        last_inside = omega arith

        pub piece_room : at + length (part m.which n) ≤ length now
        piece_room = rw (← all) (last_room m.which (quoted s c m) (quoted_count s c m) old start room now at i k (omega arith))

        pub all_written : {now' : List ℕ} {at' : ℕ} → Stored now at (part m.which n) now' at' → Stored old start (text_of s c m) now' at'
        all_written p = composing_over m.which (quoted s c m) (quoted_count s c m) old start room now at i k (omega arith) (rw (← all) at p)

pub ruleset writing = (rules, writing_begins, turn_inside, turn_few, turn_room, turn_done, last_inside, piece_room, all_written)

-- ---- a message, measured: what is left of its words, counted, makes the whole

pub record Measuring (s c : List ℕ) (m : Sentence) (size i : ℕ) : Type 0 where
  pub same : size + sum_of length (drop i (quoted s c m)) ≡ length (text_of s c m)
  pub below : size ≤ 223 + i * 33023
  pub inside : i ≤ words m.which

module _ (s c : List ℕ) (m : Sentence) (n : ℕ) (count : n ≡ words m.which) where
  pub measuring_begins : (size : ℕ) → size ≡ text_size m.which → Measuring s c m size 0
  measuring_begins size is = record {
    same = omega (arith, message_length m.which (quoted s c m) (quoted_count s c m));
    below = omega (arith, text_most m.which);
    inside = omega arith;
  }

  module _ (size i : ℕ) (k : Measuring s c m size i) where
    module _ (h : i < length (take n m.words)) where
      counted : i < n
      counted = omega (arith, length-take n m.words)

      there : get_or (take n m.words) i Nothing ≡ word_of m i
      there = get_or-take n m.words i Nothing counted ∙ word_there m i (omega (arith, words_few m.which, counted))

      module _ (r : ℕ) (sized : Sized (word_text s c (get_or (take n m.words) i Nothing)) r) where
        pub size_fits : Fits w64 (size + r)
        size_fits = Fits-under w64 (size + r) 200000 (omega (arith, words_few m.which, k.below, counted, sized.most)) tt

        pub measuring_turn : Measuring s c m (size + r) (i + 1)
        measuring_turn =
            let inside : i < words m.which = omega (arith, counted) in
            let long : r ≡ length (get_or (quoted s c m) i []) = sized.is ∙ ap (λ (v : Word). length (word_text s c v)) there ∙ ap length (sym (quoted_word s c m i inside)) in
            let parts : sum_of length (drop i (quoted s c m)) ≡ length (get_or (quoted s c m) i []) + sum_of length (drop (suc i) (quoted s c m)) =
            ap (sum_of length) (drop-cons (quoted s c m) i [] (omega (arith, quoted_count s c m))) in
            rw add-one (record {
              same = omega (arith, k.same);
              below = omega (arith, k.below, sized.most);
              inside = inside;
            })

    pub measured : length m.words ≡ 4 → length (take n m.words) ≤ i → size ≡ length (text_of s c m)
    measured four h =
        let over : n ≤ i = omega (arith, length-take n m.words, words_few m.which) in
        omega (arith, k.same, ap (sum_of length) (drop_of_length-le (quoted s c m) {i = i} (omega (arith, quoted_count s c m))))

pub ruleset measuring = (rules, measuring_begins, size_fits, measuring_turn, measured)
