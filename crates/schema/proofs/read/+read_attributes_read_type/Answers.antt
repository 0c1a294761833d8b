-- `schema::read::read_type` and `schema::read::read_attributes` meet their contracts. Assumes nothing.
use Rattle.schema.specs.Laws.ByKind.{types}
use Rattle.names.specs.Laws.Readers.{handed_on}
use Rattle.schema.proofs.read.+read_attributes_read_type.Goals as goal

pub read_attributes-returns-in_default : goal.read_attributes-returns-in_default
read_attributes-returns-in_default t c = search types

pub read_attributes-loop-init : goal.read_attributes-loop-init
read_attributes-loop-init t c = search types

pub read_attributes-returns-in_err-n : goal.read_attributes-returns-in_err-n
read_attributes-returns-in_err-n t c = handed_on c.from_residual.ensures.1 (search (types, c.in_err-n.was))

pub read_attributes-returns-in_err-m : goal.read_attributes-returns-in_err-m
read_attributes-returns-in_err-m t c = handed_on c.from_residual-in_err-m.ensures.1 (search (types, c.in_ok-n.was, c.in_err-m.was))

pub read_attributes-loop-preserved : goal.read_attributes-loop-preserved
read_attributes-loop-preserved t c = search (types, c.in_ok-n.was, c.in_ok-m.was)

pub read_attributes-returns : goal.read_attributes-returns
read_attributes-returns t c = search types

pub read_type-returns-in_default : goal.read_type-returns-in_default
read_type-returns-in_default t c = search types

pub read_type-returns-in_err-kind : goal.read_type-returns-in_err-kind
read_type-returns-in_err-kind t c = handed_on c.from_residual.ensures.1 (search (types, c.in_err-kind.was))

pub read_type-returns-then-left-eq0 : goal.read_type-returns-then-left-eq0
read_type-returns-then-left-eq0 t c = search (types, c.in_ok-kind.was)

pub read_type-returns-in-Set : goal.read_type-returns-in-Set
read_type-returns-in-Set t c = search (types, c.in_ok-kind.was)

pub read_type-returns-in-Record : goal.read_type-returns-in-Record
read_type-returns-in-Record t c = search (types, c.in_ok-kind.was)

pub read_type-returns-in-Extension : goal.read_type-returns-in-Extension
read_type-returns-in-Extension t c = search (types, c.in_ok-kind.was)

pub read_type-returns-in_default-kind : goal.read_type-returns-in_default-kind
read_type-returns-in_default-kind t c = search (types, c.in_ok-kind.was)
