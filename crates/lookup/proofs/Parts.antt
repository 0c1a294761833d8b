-- The parts of an output, written one behind the other. Assumes nothing.
use mathlib.Core.Path.{◌≡◌, refl, ap}
use mathlib.Core.List.{List, [], ◌∷◌}
use Prim.Native.Nat.{ℕ, ◌+◌, ◌≤◌, ◌<◌}
use native.Mathlib.Omega.{arith}
use borrow.Author.Rules.{rules}
use lib.ListN.{length, set, length-append}
use Rattle.names.specs.Fields.{digits}
use Rattle.names.specs.Laws.Fields.{length_digits}
use Rattle.names.specs.Read.{word_at}
use Rattle.names.specs.Writer.{store, Stored}
use Rattle.names.specs.Laws.Writers.{stored_more, stored_length}
use Rattle.types.specs.Types.{Ty, render}
use Rattle.types.specs.Laws.Texts.{Small, text_bound, text_counted}
use Rattle.types.specs.declared.Form.TheVariants as Form
use Rattle.resolution.specs.Laws.Sizes.{Bytes, word_short}
use Rattle.lookup.specs.Lookup.{sized}
use Rattle.lookup.specs.Places.{Long}

-- the first byte
first_byte : (s : List ℕ) (b : ℕ) → 1 ≤ length s → Stored s 0 (b ∷ []) (set s 0 b) 1
unfolding store
first_byte (x ∷ s) b h = record { room = omega arith; next = refl; bytes = refl }
first_byte [] b h = absurd (omega arith)

module _ (s : List ℕ) (status count : ℕ) (h : 3 ≤ length s) (t : List ℕ) (r : ℕ) (w : Stored (set s 0 status) 1 (digits 2 count) t r) where
  pub start_stored : Stored s 0 (status ∷ digits 2 count) t r
  start_stored = stored_more (first_byte s status (omega arith)) w

  pub start_length : length t ≡ length s
  start_length = stored_length start_stored

pub ruleset starts = (rules, start_stored, start_length)

pub length_sized : (w : List ℕ) → length (sized w) ≡ 2 + length w
length_sized w = simp (length-append, length_digits) refl

-- a string behind its length
module _ (w s : List ℕ) (at : ℕ) (room : at + length (sized w) ≤ length s) where
  pub length_room : at + 2 ≤ length s
  length_room = omega (arith, length_sized w)

  module _ (long : ℕ) (is : long ≡ length w) (t : List ℕ) (m : ℕ) (first : Stored s at (digits 2 long) t m) where
    pub text_room : m + length w ≤ length t
    text_room = omega (arith, length_sized w, first.next, length_digits 2 long, stored_length first)

    pub string_stored : (u : List ℕ) (r : ℕ) → Stored t m w u r → Stored s at (sized w) u r
    string_stored u r second = rw (← is) (stored_more first second)

-- a type's text is short
module _ (t : Ty) (small : Small t) where
  pub type_long : (long : ℕ) → long ≡ length (render t) → Long (render t) long
  type_long long e = record { is = e; brief = rw e (omega (arith, text_bound Form.Render t small)) }

  pub type_counted : length (render t) < 18446744073709551616
  type_counted = text_counted Form.Render t small

  pub type-fits : (long : ℕ) → Long (render t) long → long < 65536
  type-fits long l = omega (arith, l.brief)

-- and so is a word
module _ (s : List ℕ) (bytes : Bytes s) (p : ℕ) (w : List ℕ) (is : w ≡ word_at s p) where
  pub word_long : Long (word_at s p) (length w)
  word_long = record { is = ap length is; brief = rw is (omega (arith, word_short s bytes p)) }

  pub word_fits : length w < 65536
  word_fits = rw is (omega (arith, word_short s bytes p))

  pub word_room : (t : List ℕ) (at : ℕ) → at + length (sized (word_at s p)) ≤ length t → at + length (sized w) ≤ length t
  word_room t at room = rw is room

  pub word_put : (t : List ℕ) (at : ℕ) (u : List ℕ) (r : ℕ) → Stored t at (sized w) u r → Stored t at (sized (word_at s p)) u r
  word_put t at u r i = rw is at i

pub ruleset strings = (rules, length_room, text_room, string_stored, type_long, type-fits, type_counted, word_long, word_fits, word_room, word_put)
