use Rattle.terms.proofs.Plain.{leaves}
use Rattle.terms.proofs.literals.entity_tag.Goals as goal

pub returns : goal.returns
returns c = search (leaves, c.tag_at-own.ensures.by_index)
