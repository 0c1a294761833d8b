-- `nodes::offsets::first_part` meets its contract. Assumes nothing.
use Rattle.nodes.specs.Laws.Inside.{inside_room}
use Rattle.nodes.proofs.Windowed.{window_stands}
use Rattle.nodes.proofs.offsets.first_part.Goals as goal

ruleset steps = (inside_room, window_stands)

pub overflow_add-next : goal.overflow_add-next
overflow_add-next c = search steps

pub bounds-s-at : goal.bounds-s-at
bounds-s-at c = search steps

pub window_length-requires : goal.window_length-requires
window_length-requires c = search steps

pub returns-in-8-clause-value : goal.returns-in-8-clause-value
returns-in-8-clause-value c = search steps

pub returns-in-4-to-6-clause-value : goal.returns-in-4-to-6-clause-value
returns-in-4-to-6-clause-value c = search steps

pub returns-in_default-clause-value : goal.returns-in_default-clause-value
returns-in_default-clause-value c = search steps

pub returns-in_default-2-clause-value : goal.returns-in_default-2-clause-value
returns-in_default-2-clause-value c = search steps
