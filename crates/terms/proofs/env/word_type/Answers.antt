-- `terms::env::word_type` meets its contract. Assumes nothing.
use Rattle.terms.proofs.Fields.{word_types}
use Rattle.terms.proofs.env.word_type.Goals as goal

pub returns-then-same : goal.returns-then-same
returns-then-same c = search word_types

pub returns-then-same-2 : goal.returns-then-same-2
returns-then-same-2 c = search word_types

pub returns-then-same-3 : goal.returns-then-same-3
returns-then-same-3 c = search word_types

pub returns-then-same-4 : goal.returns-then-same-4
returns-then-same-4 c = search word_types

pub returns-then-same-5 : goal.returns-then-same-5
returns-then-same-5 c = search word_types

pub returns-then-same-6 : goal.returns-then-same-6
returns-then-same-6 c = search word_types

pub returns : goal.returns
returns c = search word_types
