use Rattle.std.proofs.Common.{◌≡◌, Bool, true, false, List, [], ◌∷◌, ℕ, length, refl, ◌∙◌, arith, rules, tests}
use Rattle.std.specs.List.{list_all}
use Rattle.std.proofs.lemmas.Iterator.{YieldsList-from_slice}
use Rattle.std.proofs.lemmas.Iterator.Search.{all_from_yields_List}
use Rattle.names.specs.Names.{identifier, letter, letter_or_digit}
use Rattle.names.specs.Laws.Lists.{all_every}
use Rattle.names.proofs.classes.is_identifier.Goals as goal

empty : (s : List ℕ) → length s ≡ 0 → false ≡ identifier s
unfolding identifier
empty [] h = refl
empty (b ∷ w) h = absurd (omega arith)

module _ (s : List ℕ) (b : ℕ) (w : List ℕ) (is : s ≡ b ∷ w) where
  begun : true ≡ letter b → (r : Bool) → r ≡ list_all letter_or_digit w → r ≡ identifier s
  unfolding identifier
  begun h r e = rw (is, ← h) (e ∙ all_every letter_or_digit w)

  no_letter : (r : Bool) → r ≡ false → r ≡ letter b → r ≡ identifier s
  unfolding identifier
  no_letter r e h = rw (is, ← h, e)

pub returns-in_default : goal.returns-in_default
returns-in_default c = empty c.args.s.now c.in_default.ensures.cases

pub returns-then-is_letter : goal.returns-then-is_letter
returns-then-is_letter c =
    begun c.args.s.now _ _ c.in-Some.ensures.cases.0 c.if-is_letter.ensures _
    (all_from_yields_List letter_or_digit _ _ _ c.all.ensures.ran (YieldsList-from_slice c.in-Some.rest.now cc) (λ x b q k. search (rules, tests)))

pub returns-else-is_letter : goal.returns-else-is_letter
returns-else-is_letter c = no_letter c.args.s.now _ _ c.in-Some.ensures.cases.0 _ c.if-is_letter.false c.is_letter.ensures
