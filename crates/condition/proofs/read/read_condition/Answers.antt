-- `condition::read::read_condition` meets its contract. Assumes nothing.
use mathlib.Core.Path.{◌≡◌, sym, ap, ◌∙◌}
use mathlib.Core.List.{List, [], ◌∷◌}
use Prim.Native.Nat.{ℕ}
use borrow.Author.Rules.{rules}
use Rattle.names.specs.Fields.{got, heading, finished, whole, levels}
use Rattle.names.specs.Read.{ending, Read}
use Rattle.names.specs.Laws.Readers.{heading_version, stops, goes}
use Rattle.names.specs.Laws.Records.{start_stops, start_goes, at-end}
use Rattle.condition.specs.Condition.{condition_at, condition_record_up_to, condition_record}
use Rattle.condition.specs.Places.{version_in}
use Rattle.std.specs.Prelude.{Ok, Err}
use Rattle.names.specs.declared.refusal.Refusal.{Refusal}
use Rattle.names.specs.Laws.Readers.{handed_on}
use Rattle.condition.proofs.read.read_condition.Goals as goal

module _ (s : List ℕ) (x : Read) (is : x ≡ ending (whole (heading (68 ∷ 87 ∷ 67 ∷ []) 3) s)) where
  no_heading : (r : Refusal) → x ≡ Err r → Err r ≡ ending (whole condition_record s)
  unfolding condition_record_up_to condition_record
  no_heading r e = start_stops (68 ∷ 87 ∷ 67 ∷ []) 3 s _ x is r e

  module _ (at : ℕ) (e : x ≡ Ok at) (version : ℕ) (is_version : version ≡ version_in s) (y : Read) (is' : y ≡ ending (condition_at version levels s at)) where
    -- the version that the heading gives is the one that the code took
    root_is : (v : ℕ) → heading (68 ∷ 87 ∷ 67 ∷ []) 3 s 0 ≡ got v at → y ≡ ending (condition_at v levels s at)
    unfolding version_in
    root_is v h = is' ∙ ap (λ w. ending (condition_at w levels s at)) (is_version ∙ sym (heading_version (68 ∷ 87 ∷ 67 ∷ []) 3 s h))

    no_root : (r : Refusal) → y ≡ Err r → Err r ≡ ending (whole condition_record s)
    unfolding condition_record_up_to condition_record
    no_root r f = start_goes (68 ∷ 87 ∷ 67 ∷ []) 3 s _ x is at e (λ v h. stops _ _ f (root_is v h))

    ended : (end : ℕ) → y ≡ Ok end → (z : Read) → z ≡ ending (finished end s end) → z ≡ ending (whole condition_record s)
    unfolding condition_record_up_to condition_record
    ended end f z i = start_goes (68 ∷ 87 ∷ 67 ∷ []) 3 s _ x is at e (λ v h. goes _ _ f (root_is v h) λ c _. at-end c s end z i)

ruleset steps = (rules, no_heading, no_root, ended)

pub returns-in_err-at : goal.returns-in_err-at
returns-in_err-at c = handed_on c.from_residual.ensures.1 (search (steps, c.in_err-at.was))

pub returns-in_err-end : goal.returns-in_err-end
returns-in_err-end c = handed_on c.from_residual-in_err-end.ensures.1 (search (steps, c.in_ok-at.was, c.in_err-end.was))

pub returns : goal.returns
returns c = search (steps, c.in_ok-at.was, c.in_ok-end.was)
