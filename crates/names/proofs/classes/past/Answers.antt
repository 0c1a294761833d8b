use Rattle.std.proofs.Common.{◌≡◌, true, false, List, ◌∷◌, ℕ, eqb, sym, ap, ◌∙◌}
use Rattle.std.proofs.lemmas.Bool.{false≢true}
use Rattle.std.proofs.Math.Bool.{or-false}
use borrow.Author.Tests.{ne_eqb}
use Rattle.names.specs.declared.Place.{Place}
use Rattle.names.specs.declared.Place.TheVariants.{Inside}
use Rattle.names.specs.Names.{letter, letter_or_digit, path_tail}
use Rattle.names.specs.Class.{path_from}
use Rattle.names.proofs.classes.past.Goals as goal

-- a letter or digit is no colon
no_colon : (b : ℕ) → true ≡ letter_or_digit b → eqb b 58 ≡ false
unfolding letter_or_digit letter
no_colon b h = ne_eqb b 58 (λ e. false≢true (sym (h ∙ ap letter_or_digit e)))

goes_on : (p : Place) (b : ℕ) → p ≡ Inside → true ≡ letter_or_digit b → (w : List ℕ) → path_tail w ≡ path_from p (b ∷ w)
unfolding path_tail
goes_on p b e h w = rw (e, ← h, no_colon b h) (sym (or-false (path_tail w)))

pub returns-in-Inside : goal.returns-in-Inside
returns-in-Inside c = goes_on c.args.place c.args.b c.in-Inside.is c.if-is_letter_or_digit.ensures
