-- `types::texts::put_type` meets its contract: the openings, the base and the closings, one behind
-- the other. Assumes nothing.
use Rattle.std.proofs.Common.{arith}
use Rattle.names.specs.Text.{text}
use Rattle.names.specs.Laws.Writers.{stored_more, stored_length}
use Rattle.types.specs.Meaning.{base_of}
use Rattle.types.proofs.Words.{layers_text, layers_length}
use Rattle.types.proofs.texts.put_type.Goals as goal

pub put_words-opened-requires : goal.put_words-opened-requires
unfolding text
put_words-opened-requires c =
    let a = c.args in
    omega (arith, layers_length a.form a.t.layers (base_of a.schema.now a.condition.now a.t.base))

pub put_base-named-requires : goal.put_base-named-requires
unfolding text
put_base-named-requires c =
    let a = c.args in
    omega (
      arith,
      layers_length a.form a.t.layers (base_of a.schema.now a.condition.now a.t.base),
      stored_length c.put_words-opened.ensures,
    )

pub put_words-requires : goal.put_words-requires
unfolding text
put_words-requires c =
    let a = c.args in
    omega (
      arith,
      layers_length a.form a.t.layers (base_of a.schema.now a.condition.now a.t.base),
      stored_length c.put_words-opened.ensures,
      stored_length c.put_base-named.ensures,
    )

pub returns : goal.returns
unfolding text
returns c =
    let a = c.args in
    rw (layers_text a.form a.t.layers (base_of a.schema.now a.condition.now a.t.base)) (
    stored_more (stored_more c.put_words-opened.ensures c.put_base-named.ensures) c.put_words.ensures
    )
