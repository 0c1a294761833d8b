-- What is left behind a minus, or the whole text, is the definition's. Assumes nothing.
use Rattle.std.proofs.Common.{◌≡◌, ◌∙◌, ◌+◌, ap, sym, ℕ, length, List, [], ◌∷◌, Bor, true, false}
use Rattle.std.proofs.Math.Path.{refl}
use Rattle.std.specs.Prelude.{Option, Some, None, MatchOption, drop}
use Rattle.std.specs.Option.{unwrap_or}
use lib.ListN.{take}
use mathlib.Core.Bool.{and-true}
use lib.Dec.{eqb}
use lib.Pointwise.{pointwise}
use Rattle.decimal.specs.Decimal.{unsigned}
use Rattle.decimal.proofs.text.without_minus.Goals as goal

kept : (w : List ℕ) → pointwise eqb (take 1 w) (45 ∷ []) ≡ false → w ≡ unsigned w
unfolding unsigned
kept [] e = refl
kept (b ∷ w) e = let q : eqb b 45 ≡ false = sym (and-true _) ∙ e in rw q

taken : (w : List ℕ) → pointwise eqb (take 1 w) (45 ∷ []) ≡ true → drop 1 w ≡ unsigned w
unfolding unsigned
taken [] e = refl
taken (b ∷ w) e = let q : eqb b 45 ≡ true = sym (and-true _) ∙ e in rw q

left : (w : Bor (List ℕ)) (r : Option (Bor (List ℕ))) → MatchOption r (pointwise eqb (take 1 w.now) (45 ∷ []) ≡ false) (λ x. (pointwise eqb (take 1 w.now) (45 ∷ []) ≡ true) × (x.now ≡ drop 1 w.now) × (length x.now + 1 ≡ length w.now)) → (unwrap_or r w).now ≡ unsigned w.now
left w None e = kept w.now e
left w (Some x) e = e.1 ∙ taken w.now e.0

pub returns : goal.returns
returns c = ap (λ (b : Bor (List ℕ)). b.now) c.unwrap_or.ensures ∙ left c.args.w c.strip_prefix.result c.strip_prefix.ensures.cases
