-- Choice bytes behind which nothing belongs to the choice: a table of such choices is read like the byte alone. Assumes nothing.
use mathlib.Core.Path.{◌≡◌, refl, ◌∙◌}
use mathlib.Core.Bool.{Bool, true, false, cond}
use mathlib.Core.List.{List}
use Prim.Native.Nat.{ℕ, suc, ◌+◌, ◌≤◌, ◌<◌}
use native.Mathlib.Omega.{arith}
use borrow.Author.Rules.{rules}
use borrow.Author.Tests.{leb-true, leb-false, le-leb, lt-leb}
use lib.Dec.{leb}
use lib.ListN.{length, get_or}
use Rattle.names.specs.Fields.{Reader, next, pure, refuse, u8, choose}
use Rattle.names.specs.Read.{ending, Read}
use Rattle.names.specs.Laws.Readers.{u8-end, u8_got, alike, choose_beyond, keys_up_to, Each, each_below}
use Rattle.condition.specs.Condition.{operators, operator, truths, truth, arith_ops, arith_op}
use Rattle.condition.specs.Places.{choice_up_to}
use Rattle.std.specs.Prelude.{Ok, Err}
use Rattle.names.specs.declared.refusal.Refusal.TheVariants.{Cut, UndefinedChoice}

module _ (last : ℕ) (s : List ℕ) (at : ℕ) where
  pub choice-end : length s ≤ at → Err Cut ≡ ending (choice_up_to last s at)
  unfolding choice_up_to ending
  choice-end h = rw (u8-end s at h)

  module _ (h : at < length s) where
    pub choice_undefined : last < get_or s at 0 → Err UndefinedChoice ≡ ending (choice_up_to last s at)
    unfolding choice_up_to ending
    choice_undefined k = rw (u8_got s at h, lt-leb _ _ k)

    pub choice_got : get_or s at 0 ≤ last → Ok (at + 1) ≡ ending (choice_up_to last s at)
    unfolding choice_up_to ending
    choice_got k = rw (u8_got s at h, le-leb _ _ k)

  -- a table with these choices
  module _ {A : Type 0} (table : List (ℕ × Reader A)) (keys : keys_up_to last table ≡ true) (nothing : (p : ℕ) → Each (λ k. Ok p ≡ ending (choose k table s p)) (suc last)) where
    as_table : ending (choice_up_to last s at) ≡ ending (next (u8 s at) (λ k p. choose k table s p))
    unfolding choice_up_to ending
    as_table = alike (u8 s at) _ _ λ k p. go k p (leb k last) refl
      where
        go : (k p : ℕ) (b : Bool) → leb k last ≡ b → ending (cond b (pure k) (refuse UndefinedChoice) s p) ≡ ending (choose k table s p)
        go k p true e = let l = leb-true k last e in each_below (λ j. Ok p ≡ ending (choose j table s p)) (suc last) (nothing p) k (omega arith)
        go k p false e = rw (choose_beyond s p last k (leb-false k last e) table keys)

module _ (s : List ℕ) (at : ℕ) (x : Read) where
  pub operator_read : x ≡ ending (choice_up_to 5 s at) → x ≡ ending (operator s at)
  unfolding operator operators choose ending keys_up_to Each
  operator_read e = e ∙ as_table 5 s at operators refl (λ p. ((((((tt, refl), refl), refl), refl), refl), refl))

  pub truth_read : x ≡ ending (choice_up_to 1 s at) → x ≡ ending (truth s at)
  unfolding truth truths choose ending keys_up_to Each
  truth_read e = e ∙ as_table 1 s at truths refl (λ p. ((tt, refl), refl))

  pub op_read : x ≡ ending (choice_up_to 2 s at) → x ≡ ending (arith_op s at)
  unfolding arith_op arith_ops choose ending keys_up_to Each
  op_read e = e ∙ as_table 2 s at arith_ops refl (λ p. (((tt, refl), refl), refl))

pub ruleset choices = (rules, choice-end, choice_undefined, choice_got, operator_read)
