use Rattle.terms.proofs.Fields.{fields}
use Rattle.terms.proofs.env.input_type.Goals as goal

pub returns-in_err-fields : goal.returns-in_err-fields
returns-in_err-fields c = search fields

pub returns-in_err-input : goal.returns-in_err-input
returns-in_err-input c = search fields

pub returns : goal.returns
returns c = search (fields, c.in_ok-fields.was, c.in_ok-input.was)
