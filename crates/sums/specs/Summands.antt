-- The summand of a Sum, by what its slot is in the code, and where its name is looked up.
use Rattle.std.specs.Prelude.{ℕ, ◌≡◌, List}
use Rattle.condition.specs.Condition.{Binder, Condition, sum}
use Rattle.condition.specs.Places.{aggregate_in}
use Rattle.nodes.specs.Kinds.{aggregate_span_of}
use Rattle.nodes.specs.Parts.{slot_of}
use Rattle.nodes.specs.declared.SlotAt.{SlotAt}
use Rattle.walk.specs.Enclosing.{around_at, binding_in}
use Rattle.sums.specs.declared.place.Place.{Place}

pub record SummandIs (s : List ℕ) (at : ℕ) (x : SlotAt) : Type 0 where
  pub declared : List Binder
  pub body : Condition
  pub value : aggregate_in s at ≡ sum (aggregate_span_of (aggregate_in s at)) (slot_of s x) declared body

-- the binders that names are looked up among at a place
abbrev pub binders_at : Place → List Binder
binders_at p = around_at (binding_in p.binding) p.condition.bytes.now p.node
