-- Bytes put into a buffer one by one: the first of them are in place, and then all. Assumes nothing.
use mathlib.Core.Path.{◌≡◌, refl, ◌∙◌}
use mathlib.Core.List.{List}
use Prim.Native.Nat.{ℕ, ◌+◌, ◌≤◌, ◌<◌}
use native.Mathlib.Numerals.{add-one}
use native.Mathlib.Omega.{arith}
use lib.ListN.{length, get_or, set, length-set}
use lib.Seq.{paste, paste-zero, paste-suc, take-length}
use borrow.Author.Rules.{rules}
use Rattle.names.specs.Writer.{store, Stored}

-- the first `i` bytes are in place
pub record Pasted (s : List ℕ) (at : ℕ) (vs : List ℕ) (t : List ℕ) (i : ℕ) : Type 0 where
  pub placed : t ≡ paste s at vs i
  pub size : length t ≡ length s

pub paste_none : (s : List ℕ) (at : ℕ) (vs : List ℕ) → Pasted s at vs s 0
paste_none s at vs = record { placed = paste-zero s at vs; size = refl }

module _ (s : List ℕ) (at : ℕ) (vs : List ℕ) (room : at + length vs ≤ length s) (i : ℕ) (t : List ℕ) (inv : Pasted s at vs t i) where
  pub paste_index : i < length vs → at + i < length t
  paste_index h = omega (arith, inv.size)

  pub paste_turn : i < length vs → Pasted s at vs (set t (at + i) (get_or vs i 0)) (i + 1)
  paste_turn h = record { placed = rw (inv.placed, paste-suc s at vs i 0 (omega arith) h, add-one); size = length-set t (at + i) _ ∙ inv.size }

  pub paste_all : i ≡ length vs → Stored s at vs t (at + length vs)
  unfolding store
  paste_all e = record { room = room; next = refl; bytes = inv.placed ∙ rw (e, take-length) }

pub ruleset pasting = (rules, paste_none, paste_index, paste_turn, paste_all)
