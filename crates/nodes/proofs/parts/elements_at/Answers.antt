-- `nodes::parts::elements_at` meets its contract. Assumes nothing.
use Rattle.std.proofs.Common.{◌≡◌, true, ℕ, ◌+◌, List}
use Rattle.std.specs.Prelude.{get_or}
use Rattle.condition.specs.Places.{is_term, term_in}
use Rattle.nodes.specs.Kinds.{term_kind_of}
use Rattle.nodes.specs.Offsets.{term_part}
use Rattle.nodes.specs.Parts.{ElementsHere}
use Rattle.nodes.specs.Laws.Pieces.{pieces, elements_parts}
use Rattle.nodes.proofs.parts.elements_at.Goals as goal

listed : (s : List ℕ) (at : ℕ) → is_term s at ≡ true → term_kind_of (term_in s at) ≡ 10 → (p : ℕ) → p ≡ term_part s at
    → (k : ℕ) → k ≡ get_or s p 0 → (m : ℕ) → m ≡ p + 1 → ElementsHere s at (record { count = k; first = m })
listed s at acc is p place k e m f = rw f (elements_parts s at acc is p place k e)

pub list_at-requires : goal.list_at-requires
list_at-requires c = search pieces

pub returns : goal.returns
returns c = listed _ _ c.requires.at_value c.requires.at_value_2 _ c.term_part.ensures.value _ c.list_at.ensures.count _ c.list_at.ensures.first
