-- What two reads, one behind the other, put into a space.
use Rattle.std.proofs.Common.{◌≡◌, ℕ, ◌+◌, ◌≤◌, List, ◌++◌, None, Some, length, take, drop, sym, ap, ◌∙◌, subst, le_refl, append_assoc, drop_at, length-take-le}
use Rattle.std.proofs.lemmas.Slice.{take-put_mid_below}
use Rattle.std.specs.Io.KnownBytes.{Consumes}
use Rattle.std.specs.declared.option.Option.{Option}
use borrow.Rule.Slice.PartMut.{put_mid, post_of}
use lib.Seq.{take-add, take-append-le}

both : (a b c : Option (List ℕ)) (xs ys : List ℕ) → Consumes a b xs → Consumes b c ys → Consumes a c (xs ++ ys)
both None b c xs ys p q = tt
both (Some s) None c xs ys p q = absurd p
both (Some s) (Some t) None xs ys p q = absurd q
both (Some s) (Some t) (Some u) xs ys p q = p ∙ ap (λ l. xs ++ l) q ∙ sym (append_assoc xs ys u)

-- the bytes at the front of a space in whose rest others were put
front : (a k n : ℕ) (old part : List ℕ) → a ≤ length old → n ≤ length part → take a old ++ take n part ≡ take (a + n) (put_mid a k old part)
front a k n old part within fits =
    let after = post_of a k old in
    let new = put_mid a k old part in
    let rest : drop a new ≡ part ++ after = drop_at (take a old) (part ++ after) a (length-take-le a old within) in
    let here : take n (drop a new) ≡ take n part = ap (take n) rest ∙ take-append-le n part after fits in
    ap (λ l. take a old ++ l) (sym here) ∙ ap (λ l. l ++ take n (drop a new)) (sym (take-put_mid_below _ _ _ _ _ (le_refl _) within)) ∙ sym (take-add a n new)

pub taken : (r s t : Option (List ℕ)) (a k n : ℕ) (old part : List ℕ) → a ≤ length old → n ≤ length part
    → Consumes r s (take a old) → Consumes s t (take n part) → Consumes r t (take (a + n) (put_mid a k old part))
taken r s t a k n old part within fits p q = subst (Consumes r t) (front a k n old part within fits) (both r s t _ _ p q)
