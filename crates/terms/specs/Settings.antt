-- What the functions that judge in a setting of the code say: the definitions' facts of it, and a type that it gives.
use Rattle.std.specs.Prelude.{List, ℕ}
use Rattle.std.proofs.Math.Option.{Option}
use Rattle.types.specs.Types.{Ty}
use Rattle.resolution.specs.Coded.{Typed}
use Rattle.terms.specs.Terms as Terms
use Rattle.terms.specs.Facts.{facts_in}
use Rattle.terms.specs.Answers.{TypeOf}
use Rattle.terms.specs.declared.setting.Setting.{Setting}

-- the facts that a node is judged under
abbrev pub facts_at : Setting → Terms.Facts
facts_at t = facts_in t.schema.bytes.now t.condition.bytes.now t.targets.now t.facts

-- the type, if there is one
abbrev pub TypeIn : Setting → Option Ty → Typed → Type 0
TypeIn t = TypeOf t.schema.bytes.now t.condition.bytes.now
