-- Where the first part of a node stands. Nothing but this file, its functions (`src/offsets.rt`) and the views of a node (`Laws/Views`) counts bytes of a node.
use Rattle.std.specs.Prelude.{ℕ, ◌+◌, cond, List, eqb, leb, get_or}
use Rattle.condition.specs.Places.{version_in}
use Rattle.nodes.specs.Kinds.{window_kind}

-- a record's own condition, behind the mark and the version
abbrev pub root : ℕ
root = 5

-- the bytes of a window in a version: none in version 1, else a choice byte, and behind it those of a unit and an amount where it is 0
unfoldable pub window_length : ℕ → List ℕ → ℕ → ℕ
window_length version s at = cond (leb version 1) 0 (cond (eqb (get_or s at 0) 0) 10 1)

-- what a condition of this kind has behind the kind byte and the span: an operator, or a window
unfoldable pub behind_span : ℕ → ℕ → List ℕ → ℕ → ℕ
behind_span version k s at = cond (eqb k 8) 1 (cond (window_kind k) (window_length version s (at + 9)) 0)

-- in a condition: behind all this
unfoldable pub first_part : List ℕ → ℕ → ℕ
first_part s at = at + 9 + behind_span (version_in s) (get_or s at 0) s at

-- in a term: behind the kind byte
unfoldable pub term_part : List ℕ → ℕ → ℕ
term_part s at = at + 1

-- the bytes of an Arith's operator in a version: none below version 3
unfoldable pub op_length : ℕ → ℕ
op_length version = cond (leb version 2) 0 1

-- in an Arith: its left term, behind the kind byte and the operator
unfoldable pub left_part : List ℕ → ℕ → ℕ
left_part s at = at + 1 + op_length (version_in s)

-- in an aggregate: behind the kind byte and the span
unfoldable pub aggregate_part : List ℕ → ℕ → ℕ
aggregate_part s at = at + 9
