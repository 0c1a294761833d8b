-- `resolution::ordering::next_rendering` meets its contract. Assumes nothing.
use Rattle.resolution.proofs.Rendered.{picking_path}
use Rattle.resolution.proofs.ordering.next_rendering.Goals as goal

pub returns-in_err-split_first-clause-result_value : goal.returns-in_err-split_first-clause-result_value
returns-in_err-split_first-clause-result_value c = search (picking_path, c.in_err-split_first.was)
