-- What is known at a position of an accepted record once the code has looked there.
use Rattle.std.specs.Prelude.{◌≡◌, true, List, [], ◌∷◌, ◌++◌, ℕ, ◌+◌, ◌≤◌, ◌<◌, length, Ok, Err}
use Rattle.std.proofs.Math.Option.{Option}
use Rattle.names.specs.Fields.{Got}
use Rattle.names.specs.Read.{ending, Read}
use Rattle.condition.specs.Condition.{ArithOp, aggregate, arith, binder}
use Rattle.condition.specs.Places.{condition_here, term_here, is_condition, condition_in, is_term, term_in, aggregate_at, is_aggregate, aggregate_in, is_binder, binder_in}
use Rattle.nodes.specs.Kinds.{kind_of, term_kind_of, aggregate_kind_of}
use Rattle.condition.specs.Walk.{reached, reached_in, reached_body, declares}

-- the place behind what was read; where it was refused, another
abbrev pub place_of : ℕ → Read → ℕ
place_of other (Ok n) = n
place_of other (Err r) = other

-- a field that is passed over: the place behind it, which lies ahead
pub record Skipped {A : Type 0} (g : Got A) (at n : ℕ) : Type 0 where
  pub ends : ending g ≡ Ok n
  pub ahead : at ≤ n

-- the kind of the condition, of the term, of the aggregate that stands there
pub record KindHere (s : List ℕ) (at k : ℕ) : Type 0 where
  pub inside : at + 9 ≤ length s
  pub kind : k ≡ kind_of (condition_in s at)

pub record TermKindHere (s : List ℕ) (at k : ℕ) : Type 0 where
  pub inside : at < length s
  pub kind : k ≡ term_kind_of (term_in s at)

pub record AggregateKindHere (s : List ℕ) (at k : ℕ) : Type 0 where
  pub inside : at + 9 ≤ length s
  pub kind : k ≡ aggregate_kind_of (aggregate_in s at)

-- the condition in another
pub record OneHere (s : List ℕ) (at p : ℕ) : Type 0 where
  pub stands : is_condition s p ≡ true
  pub ahead : at + 9 ≤ p
  pub reaches : reached (condition_in s at) ≡ condition_in s at ∷ reached (condition_in s p)
  pub ends : ending (condition_here s at) ≡ ending (condition_here s p)

-- the two conditions in another, of which the second stands where the first ends
pub record TwoHere (s : List ℕ) (at p : ℕ) : Type 0 where
  pub second : ℕ
  pub stands : is_condition s p ≡ true
  pub ahead : at + 9 ≤ p
  pub between : ending (condition_here s p) ≡ Ok second
  pub behind : is_condition s second ≡ true
  pub reaches : reached (condition_in s at) ≡ condition_in s at ∷ (reached (condition_in s p) ++ reached (condition_in s second))
  pub ends : ending (condition_here s at) ≡ ending (condition_here s second)

-- the operands of a comparison
pub record ComparedHere (s : List ℕ) (at p : ℕ) : Type 0 where
  pub second : ℕ
  pub stands : is_term s p ≡ true
  pub ahead : at + 9 ≤ p
  pub between : ending (term_here s p) ≡ Ok second
  pub behind : is_term s second ≡ true
  pub reaches : reached (condition_in s at) ≡ condition_in s at ∷ (reached_in (term_in s p) ++ reached_in (term_in s second))
  pub ends : ending (condition_here s at) ≡ ending (term_here s second)

-- the binder and the body of an Exists
pub record QuantifiedHere (s : List ℕ) (at p : ℕ) : Type 0 where
  pub body : ℕ
  pub stands : is_binder s p ≡ true
  pub value : declares (condition_in s at) ≡ binder_in s p ∷ []
  pub ahead : at + 9 ≤ p
  pub between : ending (binder s p) ≡ Ok body
  pub behind : is_condition s body ≡ true
  pub reaches : reached (condition_in s at) ≡ condition_in s at ∷ reached (condition_in s body)
  pub ends : ending (condition_here s at) ≡ ending (condition_here s body)

-- the operands of an arithmetic
pub record AddedHere (s : List ℕ) (at p : ℕ) : Type 0 where
  pub op : Option ArithOp
  pub second : ℕ
  pub stands : is_term s p ≡ true
  pub ahead : at < p
  pub between : ending (term_here s p) ≡ Ok second
  pub behind : is_term s second ≡ true
  pub value : term_in s at ≡ arith op (term_in s p) (term_in s second)
  pub ends : ending (term_here s at) ≡ ending (term_here s second)

-- the aggregate that a term is
pub record AggregateHere (s : List ℕ) (at p : ℕ) : Type 0 where
  pub stands : is_aggregate s p ≡ true
  pub ahead : at < p
  pub value : term_in s at ≡ aggregate (aggregate_in s p)
  pub ends : ending (term_here s at) ≡ ending (aggregate_at s p)

-- the body of an aggregate
pub record BodyHere (s : List ℕ) (at p : ℕ) : Type 0 where
  pub stands : is_condition s p ≡ true
  pub value : reached_body (aggregate_in s at) ≡ reached (condition_in s p)
  pub ends : ending (aggregate_at s at) ≡ ending (condition_here s p)
  pub ahead : at + 9 ≤ p
