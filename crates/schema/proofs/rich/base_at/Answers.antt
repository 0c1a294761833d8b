-- `schema::rich::base_at` meets its contract. Assumes nothing.
use Rattle.schema.proofs.Bases.{bases}
use Rattle.schema.proofs.rich.base_at.Goals as goal

pub tag_at-requires : goal.tag_at-requires
tag_at-requires c = search bases

pub returns-in-Long : goal.returns-in-Long
returns-in-Long c = search bases

pub returns-in-String : goal.returns-in-String
returns-in-String c = search bases

pub returns-in-Bool : goal.returns-in-Bool
returns-in-Bool c = search bases

pub returns-in-Extension : goal.returns-in-Extension
returns-in-Extension c = search bases

pub returns-in-AnySet : goal.returns-in-AnySet
returns-in-AnySet c = search bases

pub returns-in-Record : goal.returns-in-Record
returns-in-Record c = search bases

pub returns-in-Entity : goal.returns-in-Entity
returns-in-Entity c = search bases

pub returns-in-Never : goal.returns-in-Never
returns-in-Never c = search bases

pub returns-in-Set : goal.returns-in-Set
returns-in-Set c = search bases
