-- `schema::read::read_name` meets its contract. Assumes nothing.
use mathlib.Core.Path.{◌≡◌}
use mathlib.Core.List.{List}
use mathlib.Core.Bool.{Bool, true, false}
use Prim.Native.Nat.{ℕ}
use borrow.Author.Rules.{rules}
use Rattle.names.specs.declared.Class.{Class}
use Rattle.names.specs.Class.{class_of}
use Rattle.names.specs.Fields.{string_of}
use Rattle.names.specs.Read.{ending, word_at, earlier, Read, Found}
use Rattle.names.specs.Laws.Readers.{stops, goes, string_view}
use Rattle.schema.specs.Schema.{after, ascending}
use Rattle.std.specs.Prelude.{Ok, Err}
use Rattle.names.specs.declared.refusal.Refusal.{Refusal}
use Rattle.names.specs.declared.refusal.Refusal.TheVariants.{NotAscending}
use Rattle.names.specs.Laws.Readers.{handed_on}
use Rattle.schema.proofs.read.read_name.Goals as goal

module _ (k : Class) (b : Found) (s : List ℕ) (at : ℕ) (x : Read) (read : x ≡ ending (string_of (class_of k) s at)) where
  no_string : (r : Refusal) → x ≡ Err r → Err r ≡ ending (ascending (class_of k) (earlier s b) s at)
  unfolding ascending
  no_string r e = stops _ _ e read

  module _ (n : ℕ) (e : x ≡ Ok n) (t : Bool) (is : t ≡ after (earlier s b) (word_at s at)) where
    in_order_lem : t ≡ true → Ok n ≡ ending (ascending (class_of k) (earlier s b) s at)
    unfolding ascending ending
    in_order_lem f = goes _ _ e read λ w h. rw ((string_view (class_of k) s at h).word, ← is, f)

    out_of_order : t ≡ false → Err NotAscending ≡ ending (ascending (class_of k) (earlier s b) s at)
    unfolding ascending ending
    out_of_order f = goes _ _ e read λ w h. rw ((string_view (class_of k) s at h).word, ← is, f)

ruleset steps = (rules, no_string, in_order_lem, out_of_order)

pub returns-in_err-n : goal.returns-in_err-n
returns-in_err-n c = handed_on c.from_residual.ensures.1 (search (steps, c.in_err-n.was))

pub returns-then-follows : goal.returns-then-follows
returns-then-follows c = search (steps, c.in_ok-n.was)

pub returns : goal.returns
returns c = search (steps, c.in_ok-n.was)
