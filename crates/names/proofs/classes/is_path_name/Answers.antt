use Rattle.std.proofs.Common.{◌≡◌, List, [], ℕ, ◌≤◌, length, drop, refl, ◌∙◌}
use denote.Enum.Bare.{sameb}
use Rattle.names.specs.declared.Place.{Place}
use Rattle.names.specs.declared.Place.TheVariants.{Start, Inside, Colon, Nowhere}
use Rattle.names.specs.contracts.Place.{the_type}
use Rattle.names.specs.Names.{path_name, path_tail, second_colon}
use Rattle.names.specs.Class.{path_from}
use Rattle.names.specs.Laws.Walks.{done}
use Rattle.names.proofs.classes.is_path_name.Goals as goal

-- a path name may end inside an identifier alone
may_end : (p : Place) → sameb the_type p Inside ≡ path_from p []
unfolding path_name path_tail second_colon
may_end Start = refl
may_end Inside = refl
may_end Colon = refl
may_end Nowhere = refl

ends : (s : List ℕ) (i : ℕ) (p : Place) → path_from p (drop i s) ≡ path_name s → length s ≤ i → sameb the_type p Inside ≡ path_name s
ends s i p inv h = may_end p ∙ rw (← inv, done s i h)

pub returns : goal.returns
returns c = c.eq.ensures ∙ ends c.args.s.now c.loop-b.b-index c.loop-b.place c.loop-b.invariant c.loop-b-test.false
