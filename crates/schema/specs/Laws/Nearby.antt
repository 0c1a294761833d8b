-- The whole row of entity types serves every name, and so may begin each search. Assumes nothing.
use Rattle.std.specs.Prelude.{◌≡◌, Bool, List, ℕ}
use Rattle.std.proofs.Common.{ap}
use Rattle.names.specs.Lists.{first}
use Rattle.names.specs.Names.{same}
use Rattle.names.specs.Read.{word_at}
use Rattle.names.specs.declared.Row.{Row}
use Rattle.schema.specs.Schema.{EntityType}
use Rattle.schema.specs.Find.{find_entity}
use Rattle.schema.specs.Places.{EntitiesOf, serves, Nearby, Near}

-- an entity type has a name
abbrev pub is_named : List ℕ → EntityType → Bool
is_named name e = same e.name name

pub all_serve : (s : List ℕ) (r : Row) → EntitiesOf s r → (name : List ℕ) → serves s r name
unfolding find_entity
all_serve s r l name = ap (first (is_named name)) l.value

pub nearby_all : (s : List ℕ) (r : Row) → EntitiesOf s r → Nearby s r
nearby_all s r l = record { stands = l.stands; behind = λ name h. all_serve s r l name }

-- where the search for a name ended, that of the same name did
pub near_word : (s : List ℕ) (r : Row) (p : ℕ) → Near s (word_at s p) r → (w : List ℕ) → w ≡ word_at s p → Near s w r
near_word s r p l w is_w = rw is_w l
