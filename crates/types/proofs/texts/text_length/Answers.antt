-- `types::texts::text_length` meets its contract: a layer adds seven bytes. Assumes nothing.
use Rattle.std.proofs.Common.{ap, length, arith}
use Rattle.types.specs.Laws.Texts.{length_layers}
use Rattle.types.specs.Meaning.{base_of}
use Rattle.types.proofs.Words.{base_length}
use Rattle.types.proofs.texts.text_length.Goals as goal

pub returns : goal.returns
returns c =
    let a = c.args in
    omega (
      arith,
      length_layers a.form a.t.layers (base_of a.schema.now a.condition.now a.t.base),
      base_length a.schema.now a.condition.now a.form a.t.base,
      ap length c.word_of-word.ensures,
      ap length c.tag_part-tag.ensures,
    )

pub overflow_mul-result : goal.overflow_mul-result
overflow_mul-result c = let sum = returns c in omega arith

pub overflow_add-result-3 : goal.overflow_add-result-3
overflow_add-result-3 c = let sum = returns c in omega arith
