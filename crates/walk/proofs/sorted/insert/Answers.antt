use Rattle.walk.proofs.Spots.{shift_done}
use Rattle.walk.proofs.sorted.insert.Goals as goal

pub returns : goal.returns
returns c =
    let copied = c.copy_within.ensures in
    shift_done _ _ _ _ c.requires.0 c.requires.1 _ copied.len copied.by_index.0 copied.by_index.1
