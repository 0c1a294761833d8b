-- Laws of order. Assumes nothing.
--     ordered-swapped     the sides may be swapped
--     ordered-before      where the left type is neither datetime nor duration, order wants two numbers, as it did before there were these two
use Rattle.std.specs.Prelude.{◌≡◌, refl, Bool, true, false, ◌&&◌, ◌||◌, List, ℕ}
use Rattle.std.proofs.Math.Option.{Option, none, some}
use Rattle.types.specs.Types.{Ty, scalar, long, same_tag, same_type, is_numeric, is_time, has_order, are_ordered}
use Rattle.types.specs.Laws.Types.{only_long}
use Rattle.types.specs.Laws.Relations.{relied, same_swapped, fits_swapped}

same_tag_swapped : (e f : Option (List ℕ)) → same_tag e f ≡ same_tag f e
same_tag_swapped none none = refl
same_tag_swapped none (some y) = refl
same_tag_swapped (some x) none = refl
same_tag_swapped (some x) (some y) = same_swapped x y

type_swapped : (t u : Ty) → same_type t u ≡ same_type u t
type_swapped = fits_swapped same_tag false same_tag_swapped

and-false : (b : Bool) → false ≡ (b && false)
and-false true = refl
and-false false = refl

pub ordered_swapped : (l r : Ty) → are_ordered l r ≡ are_ordered r l
ordered_swapped l r = go (same_type l r) refl
  where
    go : (b : Bool) → same_type l r ≡ b → are_ordered l r ≡ are_ordered r l
    go true e = rw (relied.same_equal l r e)
    go false e = rw (← type_swapped l r, e, ← and-false (has_order l), ← and-false (has_order r))

module _ (l r : Ty) where
  by_number : (b : Bool) → is_numeric l ≡ b → ((b || false) && same_type l r) ≡ (b && is_numeric r)
  by_number true e = rw (only_long l e) (type_swapped (scalar long) r)
  by_number false e = refl

  pub ordered_before : is_time l ≡ false → are_ordered l r ≡ (is_numeric l && is_numeric r)
  ordered_before h = rw h (by_number (is_numeric l) refl)
