-- `resolution::ordering::renders_below` meets its contract. Assumes nothing.
use Rattle.resolution.proofs.Rendered.{comparing}
use Rattle.resolution.proofs.ordering.renders_below.Goals as goal

pub render-n-requires : goal.render-n-requires
render-n-requires c = search comparing

pub render-m-requires : goal.render-m-requires
render-m-requires c = search comparing

pub returns : goal.returns
returns c = search comparing
