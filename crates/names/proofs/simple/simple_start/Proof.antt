-- `names::simple::simple_start` meets its contract: at `i`, with `start` behind the last `::` so far. Assumes nothing.
use mathlib.Core.Path.{◌≡◌, refl, sym, ◌∙◌}
use mathlib.Core.Bool.{Bool, true, cond, ◌&&◌}
use mathlib.Core.List.{List, ◌∷◌}
use Prim.Native.Nat.{ℕ, ◌+◌, ◌-◌, ◌≤◌, ◌<◌}
use native.Mathlib.Omega.{arith}
use lib.Dec.{eqb}
use lib.ListN.{length, get_or, drop}
use borrow.Author.Rules.{rules}
use borrow.Author.Tests.{eq-eqb, ne_eqb}
use Rattle.names.specs.Names.{simple_from, simple_name}
use Rattle.names.specs.Laws.Colons.{Passed}
use Rattle.names.specs.Laws.Walks.{here, done}
use Rattle.names.proofs.simple.simple_start.Statement.{statement}
use Rattle.names.proofs.simple.simple_start.Tie as tie

record Searched (s : List ℕ) (start i : ℕ) : Type 0 where
  inside : i ≤ length s
  from : start ≤ length s
  whole : simple_from (drop start s) (drop i s) ≡ simple_name s

begins : (s : List ℕ) → Searched s 0 0
unfolding simple_name
begins s = record { inside = omega arith; from = omega arith; whole = refl }

step : (rest : List ℕ) (b c : ℕ) (w : List ℕ)
    → simple_from rest (b ∷ (c ∷ w)) ≡ simple_from (cond (eqb b 58 && eqb c 58) w rest) (c ∷ w)
unfolding simple_from
step rest b c w = refl

module _ {s : List ℕ} {start i : ℕ} (inv : Searched s start i) where
  at-end : length s ≤ i → drop start s ≡ simple_name s
  unfolding simple_from
  at-end h = rw (done s i h) at inv.whole

  eight_on : (r : Bool) → Passed s i 8 r → r ≡ true → Searched s start (i + 8)
  eight_on r p e = record { inside = p.room e; from = inv.from; whole = sym (p.on e (drop start s)) ∙ inv.whole }

  module _ (h : i < length s) where
    at_last : length s ≤ i + 1 → drop start s ≡ simple_name s
    unfolding simple_from
    at_last k = rw (here s i h, done s (i + 1) k) at inv.whole

    module _ (k : i + 1 < length s) where
      one_on : (get_or s i 0 ≡ 58 → ⊥) → Searched s start (i + 1)
      one_on n = record {
        inside = omega arith;
        from = inv.from;
        whole = rw (here s (i + 1) k) (rw (here s i h, here s (i + 1) k, step, ne_eqb _ _ n) at inv.whole);
      }

      module _ (e : get_or s i 0 ≡ 58) where
        one_on' : (get_or s (i + 1) 0 ≡ 58 → ⊥) → Searched s start (i + 1)
        one_on' n = record {
          inside = omega arith;
          from = inv.from;
          whole = rw (here s (i + 1) k) (rw (here s i h, here s (i + 1) k, step, eq-eqb _ _ e, ne_eqb _ _ n) at inv.whole);
        }

        two_on : get_or s (i + 1) 0 ≡ 58 → Searched s (i + 1 + 1) (i + 1)
        two_on f = record {
          inside = omega arith;
          from = omega arith;
          whole = rw (here s (i + 1) k) (rw (here s i h, here s (i + 1) k, step, eq-eqb _ _ e, eq-eqb _ _ f) at inv.whole);
        }

ruleset steps = (rules, begins, at-end, eight_on, at_last, one_on, one_on', two_on)

abbrev invariant-loop-i : tie.invariant-loop-i
invariant-loop-i s start₀ i₀ start i = Searched s start i

abbrev decreases-loop-i : tie.decreases-loop-i
decreases-loop-i s start₀ i₀ start i = length s - i

pub simple_start_spec : {M : Type 1} → statement M
simple_start_spec =
    tie.close
    (tie.spec
    invariant-loop-i
    decreases-loop-i
    (λ c. search steps)
    (λ c κs. search steps)
    (λ c. search steps)
    (λ c. search steps)
    (λ c. search steps)
    (λ c. search steps)
    (λ c. search steps)
    (λ c. search steps)
    (λ c. search steps)
    (λ c. search steps)
    (λ c. search steps)
    (λ c. search steps)
    (λ c. search steps)
    (λ c. search steps)
    (λ c. search steps)
    (λ c. search steps)
    (λ c. search steps))
