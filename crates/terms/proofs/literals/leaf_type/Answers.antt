-- `terms::literals::leaf_type` meets its contract. Assumes nothing.
use Rattle.terms.proofs.Plain.{leaves}
use Rattle.terms.proofs.literals.leaf_type.Goals as goal

pub entity_tag-tag-requires-clause-at_in_bounds : goal.entity_tag-tag-requires-clause-at_in_bounds
entity_tag-tag-requires-clause-at_in_bounds c = search leaves

pub entity_tag-tag-requires-clause-at_in_bounds_2 : goal.entity_tag-tag-requires-clause-at_in_bounds_2
entity_tag-tag-requires-clause-at_in_bounds_2 c = search leaves

pub returns-in-Entity : goal.returns-in-Entity
returns-in-Entity c = search leaves

pub returns-in_default : goal.returns-in_default
returns-in_default c = search leaves
