-- What a question of the code asks, and the strings of an answer.
use Rattle.std.specs.Prelude.{ℕ, ◌<◌, ◌≡◌, List, [], ◌∷◌, length}
use Rattle.names.specs.Lists.{gather, select}
use Rattle.names.specs.Read.{word_at}
use Rattle.types.specs.Types.{render}
use Rattle.types.specs.Meaning.{rich_of}
use Rattle.resolution.specs.Resolution as Resolution
use Rattle.resolution.specs.Resolution.{scope_path}
use Rattle.resolution.specs.Paths.{path_of}
use Rattle.resolution.specs.Scopes.{schema_of, narrowing_of, types_of}
use Rattle.resolution.specs.Passes.{failing, renderings_on}
use Rattle.resolution.specs.declared.ScopePath.{ScopePath}
use Rattle.resolution.specs.declared.candidates.Candidates.{Candidates}
use Rattle.lookup.specs.Lookup.{sized}
use Rattle.lookup.specs.declared.question.Question.{Question}
use Rattle.lookup.specs.declared.Measured.{Measured}

-- the answer that a path has on the entity types that a scope chooses from
abbrev pub answer_on : Candidates → List (List ℕ) → Resolution.ScopePath
answer_on candidates path = scope_path (schema_of candidates.scope) (narrowing_of candidates.scope) (types_of candidates) path

-- the answer to a question
abbrev pub answer_to : Question → Resolution.ScopePath
answer_to q = answer_on q.candidates (path_of q.path)

-- the entity types on which the path fails by the missing segment at p
abbrev pub entities_of : Question → ℕ → List (List ℕ)
entities_of q p = select (failing (schema_of q.candidates.scope) (narrowing_of q.candidates.scope) (path_of q.path) (word_at q.path.bytes.now p)) (types_of q.candidates)

-- the texts of the types that the path has, in order and each once
abbrev pub rendered_of : Question → List (List ℕ)
rendered_of q = renderings_on (schema_of q.candidates.scope) (narrowing_of q.candidates.scope) (types_of q.candidates) (path_of q.path)

-- the strings of the code's answer to a question
abbrev pub strings_of : Question → ScopePath → List (List ℕ)
strings_of q (ScopePath.Resolved t) = render (rich_of q.candidates.scope.schema.bytes.now q.path.bytes.now t) ∷ []
strings_of q (ScopePath.Missing p) = word_at q.path.bytes.now p ∷ entities_of q p
strings_of q (ScopePath.NonRecord p) = word_at q.path.bytes.now p ∷ []
strings_of q ScopePath.Ambiguous = rendered_of q
strings_of q ScopePath.Unknown = []

-- the length of a string that is short: a name, or the text of a small type
pub record Long (w : List ℕ) (long : ℕ) : Type 0 where
  pub is : long ≡ length w
  pub brief : long < 1000

-- a measure that can be added to
pub record Room (m : Measured) (long : ℕ) : Type 0 where
  pub few : m.count < 65536
  pub short : m.size < 4294967296
  pub brief : long < 1000

-- how many strings there are, and how many bytes they take with their lengths
pub record Measures (ws : List (List ℕ)) (m : Measured) : Type 0 where
  pub count : m.count ≡ length ws
  pub size : m.size ≡ length (gather sized ws)
  pub few : m.count < 65536
  pub short : m.size < 4294967296
