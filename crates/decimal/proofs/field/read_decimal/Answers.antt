-- `decimal::field::read_decimal` meets its contract. Assumes nothing.
use mathlib.Core.Path.{◌≡◌, sym, ap, ◌∙◌}
use mathlib.Core.List.{List}
use Prim.Native.Nat.{ℕ}
use lib.IntN.{ℤ}
use Rattle.std.specs.Prelude.{Ok, Err}
use Rattle.std.proofs.Common.{rules}
use Rattle.names.specs.Names.{plain}
use Rattle.names.specs.Fields.{string_of}
use Rattle.names.specs.Read.{ending, word_at, Read}
use Rattle.names.specs.Laws.Readers.{stops, goes, string_view, handed_on}
use Rattle.names.specs.declared.refusal.Refusal.{Refusal}
use Rattle.decimal.specs.Decimal.{decimal_of, judged, decimal_text, Decimal}
use Rattle.decimal.proofs.field.read_decimal.Goals as goal

module _ (s : List ℕ) (at : ℕ) (x : Read) (is : x ≡ ending (string_of plain s at)) where
  refused : (e : Refusal) → x ≡ Err e → Err e ≡ ending (decimal_text s at)
  unfolding decimal_text
  refused e p = stops _ _ p is

  module _ (n : ℕ) (p : x ≡ Ok n) (w : List ℕ) (e : w ≡ word_at s at) (d : Decimal) (q : d ≡ decimal_of w) where
    went : {r : Read} → r ≡ ending (judged d s n) → r ≡ ending (decimal_text s at)
    unfolding decimal_text
    went i = goes _ _ p is λ v g. i ∙ ap ending (ap (λ (t : Decimal). judged t s n) (q ∙ ap decimal_of (e ∙ sym (string_view plain s at g).word)))

    accepted : (z : ℤ) → d ≡ Ok z → Ok n ≡ ending (decimal_text s at)
    unfolding judged ending
    accepted z f = went (rw f)

    not_decimal : (r : Refusal) → d ≡ Err r → Err r ≡ ending (decimal_text s at)
    unfolding judged ending
    not_decimal r f = went (rw f)

ruleset steps = (rules, refused, accepted, not_decimal)

pub returns-in_err-end : goal.returns-in_err-end
returns-in_err-end c = handed_on c.from_residual.ensures.1 (search (steps, c.in_err-end.was))

pub returns-in_err-value_of : goal.returns-in_err-value_of
returns-in_err-value_of c = handed_on c.from_residual-in_err-value_of.ensures.1 (search (steps, c.in_ok-end.was, c.in_err-value_of.was))

pub returns : goal.returns
returns c = search (steps, c.in_ok-end.was, c.in_ok-value_of.was)
