-- What the code's answer to a question says, and that its types are small: this has one proof at most, so that it may stand beside the answer.
use Rattle.std.specs.Coded.{le_prop}
use Rattle.std.proofs.Math.Path.{ap₂}
use Rattle.resolution.specs.Resolution as Resolution
use Rattle.resolution.specs.Places.{small_path}
use Rattle.resolution.specs.Passes.{scope_of}
use Rattle.resolution.specs.declared.ScopePath.{ScopePath}
use Rattle.lookup.specs.declared.question.Question.{Question}

abbrev pub said : Question → ScopePath → Resolution.ScopePath
said q answer = scope_of q.candidates.scope.schema.bytes.now q.path.bytes.now answer

pub small_once : (o : Resolution.ScopePath) → IsProp (small_path o)
small_once (Resolution.ScopePath.resolved t) = λ a b. ap₂ (λ l g. record { layers = l; tag = g }) (le_prop a.layers b.layers) (le_prop a.tag b.tag)
small_once (Resolution.ScopePath.missing segment names) = le_prop
small_once (Resolution.ScopePath.non_record segment) = le_prop
small_once (Resolution.ambiguous words) = le_prop
small_once Resolution.unknown = le_prop
