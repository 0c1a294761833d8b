-- What holds binders, by its byte: an Exists has kind 9, and an aggregate never. Assumes nothing.
use mathlib.Core.Path.{◌≡◌, sym, ◌∙◌}
use mathlib.Core.Bool.{true}
use mathlib.Core.List.{List}
use Prim.Native.Nat.{ℕ, ◌<◌}
use native.Mathlib.Omega.{arith}
use borrow.Author.Tests.{eq-eqb, ne_eqb}
use lib.ListN.{length, get_or}
use Rattle.condition.specs.Condition.{Aggregate, sum, count, call}
use Rattle.condition.specs.Walk.{declares, declared_by}
use Rattle.condition.specs.Places.{is_condition, condition_in, is_aggregate, aggregate_in}
use Rattle.nodes.specs.Kinds.{kind_of, aggregate_kind_of}
use Rattle.nodes.specs.Laws.Opens.{raw_kind, condition_index, aggregate_kind_here, aggregate_index}
use Rattle.walk.specs.Enclosing.{IsHolder, quantifies, aggregates, held_in}

not_nine : (x : Aggregate) → aggregate_kind_of x ≡ 9 → ⊥
not_nine (sum span sl bs body) e = omega arith
not_nine (count span bs body) e = omega arith
not_nine (call span) e = omega arith

module _ (s : List ℕ) (at : ℕ) where
  pub aggregate_byte : is_aggregate s at ≡ true → get_or s at 0 ≡ 9 → ⊥
  aggregate_byte acc e = not_nine (aggregate_in s at) (sym (aggregate_kind_here s at acc).kind ∙ e)

  pub held_exists : is_condition s at ≡ true → kind_of (condition_in s at) ≡ 9 → held_in s at ≡ declares (condition_in s at)
  unfolding held_in
  held_exists acc e = rw (eq-eqb (get_or s at 0) 9 (raw_kind s at acc 9 (λ i. omega arith) e))

  pub held_aggregate : is_aggregate s at ≡ true → held_in s at ≡ declared_by (aggregate_in s at)
  unfolding held_in
  held_aggregate acc = rw (ne_eqb (get_or s at 0) 9 (aggregate_byte acc))

  -- by the byte that the code looks at
  module _ (h : IsHolder s at) where
    pub holder_index : at < length s
    holder_index = go h
      where
        go : IsHolder s at → at < length s
        go (quantifies acc e) = condition_index s at acc
        go (aggregates acc e) = aggregate_index s at acc

    pub exists_stands : get_or s at 0 ≡ 9 → is_condition s at ≡ true
    exists_stands nine = go h
      where
        go : IsHolder s at → is_condition s at ≡ true
        go (quantifies acc e) = acc
        go (aggregates acc e) = absurd (aggregate_byte acc nine)

    pub exists_nine : get_or s at 0 ≡ 9 → kind_of (condition_in s at) ≡ 9
    exists_nine nine = go h
      where
        go : IsHolder s at → kind_of (condition_in s at) ≡ 9
        go (quantifies acc e) = e
        go (aggregates acc e) = absurd (aggregate_byte acc nine)

    pub aggregate_stands : (get_or s at 0 ≡ 9 → ⊥) → is_aggregate s at ≡ true
    aggregate_stands other = go h
      where
        go : IsHolder s at → is_aggregate s at ≡ true
        go (quantifies acc e) = absurd (other (raw_kind s at acc 9 (λ i. omega arith) e))
        go (aggregates acc e) = acc

    pub no_call : (get_or s at 0 ≡ 9 → ⊥) → aggregate_kind_of (aggregate_in s at) ≡ 3 → ⊥
    no_call other = go h
      where
        go : IsHolder s at → aggregate_kind_of (aggregate_in s at) ≡ 3 → ⊥
        go (quantifies acc e) = absurd (other (raw_kind s at acc 9 (λ i. omega arith) e))
        go (aggregates acc e) = e
