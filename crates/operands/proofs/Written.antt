-- The text of a type at the front of a buffer. Assumes nothing.
use mathlib.Core.Path.{◌≡◌, ◌∙◌}
use mathlib.Core.List.{List, ◌++◌}
use Prim.Native.Nat.{ℕ, ◌+◌, ◌≤◌, ◌<◌}
use native.Mathlib.Nat.{zero-add}
use native.Mathlib.Omega.{arith}
use borrow.Author.Rules.{rules}
use borrow.Author.Tests.{le-leb, lt-leb}
use lib.ListN.{length, drop}
use Rattle.names.specs.Writer.{store, Stored}
use Rattle.names.specs.Laws.Writers.{stored_length}
use Rattle.types.specs.Types.{Ty, render}
use Rattle.types.specs.Laws.Texts.{Small, text_counted}
use Rattle.types.specs.Meaning.{rich_of}
use Rattle.types.specs.declared.Form.TheVariants as Form
use Rattle.types.specs.declared.Rich.{Rich}
use Rattle.resolution.specs.Places.{typed_of, small_type}
use Rattle.operands.specs.Operands.{placed, shown}
use Rattle.operands.specs.Answers.{Answered, outcome_of}
use Rattle.operands.specs.declared.Answer.{Answer}
use Rattle.resolution.specs.Coded.{Typed}
use Rattle.std.specs.Prelude.{Some, None, Ok, Err}
use Rattle.names.specs.declared.refusal.Refusal.TheVariants.{NoSpace}

pub type_counted : (t : Ty) → Small t → length (render t) < 18446744073709551616
type_counted t small = text_counted Form.Render t small

-- a text that was measured
module _ (w b : List ℕ) where
  pub place_not : (long : ℕ) → long ≡ length w → length b < long → outcome_of (Err (record { refusal = NoSpace; «record» = 0 })) b ≡ placed w b
  unfolding placed outcome_of
  place_not long is h = rw (lt-leb (length w) (length b) (omega (arith, is)))

  pub place_room : (long : ℕ) → long ≡ length w → long ≤ length b → 0 + length w ≤ length b
  place_room long is h = omega (arith, is)

  pub place_whole : (t : List ℕ) (r : ℕ) → Stored b 0 w t r → outcome_of (Ok (Answer.Written r)) t ≡ placed w b
  unfolding placed store outcome_of
  place_whole t r i =
      let h : length w ≤ length b = omega (arith, i.room) in
      let e : r ≡ length w = omega (arith, i.next) in
      let k : t ≡ w ++ drop (length w) b = i.bytes ∙ rw zero-add in
      rw (le-leb (length w) (length b) h, k, e)

pub ruleset placing = (rules, stored_length, type_counted, place_not, place_room, place_whole)

-- a type, if there is one
module _ (s c b : List ℕ) (x : Typed) where
  pub show_untyped : x ≡ None → outcome_of (Ok Answer.Untyped) b ≡ shown (typed_of s c x) b
  unfolding outcome_of
  show_untyped e = rw e

  module _ (t : Rich) (e : x ≡ Some t) where
    pub show_small : small_type (typed_of s c x) → Small (rich_of s c t)
    show_small h = rw e at h

    pub show_typed : (a : Answered) (d : List ℕ) → outcome_of a d ≡ placed (render (rich_of s c t)) b → outcome_of a d ≡ shown (typed_of s c x) b
    show_typed a d i = rw e i

pub ruleset showing = (rules, show_untyped, show_small, show_typed)
