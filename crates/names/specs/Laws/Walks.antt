-- A loop that walks a list by index: what is left of the list at `i`, in a turn and after the last. Assumes nothing.
use Rattle.std.specs.Prelude.{◌≡◌, List, [], ◌∷◌, ℕ, zero, suc, ◌+◌, ◌-◌, ◌≤◌, ◌<◌, length, get_or, take, drop}
use Rattle.std.proofs.Common.{sym, ◌∙◌, add-one, drop_of_length-le, length-take, length-drop, arith, drop-cons, drop-drop}
use Rattle.std.proofs.Math.Nat.{sub-zero, suc-sub-suc, zero-sub, min-le_left}
use Rattle.std.proofs.Math.ListN.{get_or-eq_default}
use Rattle.std.proofs.Math.Seq.{drop-nil, take-nil, take_all}

pub here : (s : List ℕ) (i : ℕ) → i < length s → drop i s ≡ get_or s i 0 ∷ drop (i + 1) s
here s i h = rw (add-one, drop-cons s i 0)

pub done : (s : List ℕ) (i : ℕ) → length s ≤ i → drop i s ≡ []
done s i h = drop_of_length-le s h

-- the part from a place on, as `&s[i..]` cuts it
pub rest_of : (s : List ℕ) (i : ℕ) → take (length s - i) (drop i s) ≡ drop i s
rest_of s i = let l : length (drop i s) ≡ length s - i = length-drop i s in take_all (length s - i) (drop i s) (omega arith)

pub drop_take : (r n : ℕ) (l : List ℕ) → drop r (take n l) ≡ take (n - r) (drop r l)
drop_take zero n l = rw sub-zero
drop_take (suc r) zero l = rw zero-sub (drop-nil (suc r))
drop_take (suc r) (suc n) [] = drop-nil (suc r) ∙ sym (take-nil (suc n - suc r))
drop_take (suc r) (suc n) (x ∷ l) = rw suc-sub-suc (drop_take r n l)

-- a part of a part
pub part_of_part : (b r n : ℕ) (l : List ℕ) → take (n - r) (drop (b + r) l) ≡ drop r (take n (drop b l))
part_of_part b r n l = rw (drop_take, drop-drop)

pub take_at_most : (n : ℕ) (l : List ℕ) → length (take n l) ≤ n
take_at_most n l = rw length-take (min-le_left n (length l))

-- what stands past the end
pub past_end : (s : List ℕ) (i : ℕ) → length s ≤ i → 0 ≡ get_or s i 0
past_end s i h = sym (get_or-eq_default s 0 h)
