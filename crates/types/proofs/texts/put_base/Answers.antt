-- `types::texts::put_base` meets its contract: the word, and the tag behind it. Assumes nothing.
use Rattle.std.proofs.Common.{ap, arith, length}
use Rattle.names.specs.Laws.Writers.{stored_more, stored_length}
use Rattle.types.proofs.Words.{base_text, base_length}
use Rattle.types.proofs.texts.put_base.Goals as goal

pub put-next-requires : goal.put-next-requires
put-next-requires c =
    let a = c.args in
    omega (
      arith,
      base_length a.schema.now a.condition.now a.form a.base,
      ap length c.word_of.ensures,
    )

pub put-requires : goal.put-requires
put-requires c =
    let a = c.args in
    omega (
      arith,
      base_length a.schema.now a.condition.now a.form a.base,
      ap length c.word_of.ensures,
      ap length c.tag_part.ensures,
      stored_length c.put-next.ensures,
    )

pub returns : goal.returns
returns c =
    let a = c.args in
    rw (
      base_text a.schema.now a.condition.now a.form a.base,
      ← c.word_of.ensures,
      ← c.tag_part.ensures,
    ) (stored_more c.put-next.ensures c.put.ensures)
