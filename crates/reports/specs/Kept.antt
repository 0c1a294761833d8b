-- What a buffer of L bytes keeps of a list of breaches: as a fold that takes them one by one, and as its meaning.
-- Assumes nothing.
use Rattle.std.specs.Prelude.{◌≡◌, refl, Bool, true, false, cond, not, List, [], ◌∷◌, ◌++◌, ℕ, ◌+◌, ◌-◌, ◌≤◌, ◌<◌, length, leb, ltb, eqb}
use Rattle.std.proofs.Common.{sym, ap, ◌∙◌, append_assoc, append-nil, arith, length-append, leb-true, leb-false, le-leb, ltb-true, ltb-false, le-ltb, lt-ltb, eq-eqb, ne_eqb}
use Rattle.std.proofs.Math.Bool.{or_comm, or-false}
use Rattle.std.proofs.Math.Nat.{sub-zero}
use Rattle.std.proofs.lemmas.Bool.{lt-leb}
use Rattle.names.specs.Lists.{any_of, gather}
use Rattle.names.specs.Laws.Lists.{any_append, gather_append}
use Rattle.reports.specs.Reports.{Breach, same_pair, once, fitting}
use Rattle.reports.specs.Decode.{width, size}

unfoldable pub fold : {A B : Type 0} → (A → B → A) → A → List B → A
fold f a [] = a
fold f a (b ∷ bs) = fold f (f a b) bs

pub fold_append : {A B : Type 0} (f : A → B → A) (a : A) (xs ys : List B) → fold f a (xs ++ ys) ≡ fold f (fold f a xs) ys
unfolding fold
fold_append f a [] ys = refl
fold_append f a (x ∷ xs) ys = fold_append f (f a x) xs ys

-- the reports kept, in order, and whether one did not fit
pub record Log : Type 0 where
  pub kept : List Breach
  pub full : Bool

abbrev pub empty : Log
empty = record { kept = []; full = false }

-- one breach: nothing after one that did not fit, and only what fits
unfoldable pub step : ℕ → Log → Breach → Log
step L l b =
    cond l.full l
    (cond (leb (size l.kept + width b) L)
    (record { kept = l.kept ++ (b ∷ []); full = false })
    (record { kept = l.kept; full = true }))

-- and no pair twice
unfoldable pub step_once : ℕ → Log → Breach → Log
step_once L l b = cond (any_of (same_pair b) l.kept) l (step L l b)

-- the meaning of the fold over `step`
unfoldable pub kept : ℕ → List Breach → Log
kept L bs = record { kept = fitting L bs; full = ltb L (size bs) }

pub size_nil : size [] ≡ 0
unfolding size gather
size_nil = refl

pub size_cons : (b : Breach) (bs : List Breach) → size (b ∷ bs) ≡ width b + size bs
unfolding size gather
size_cons b bs = simp length-append

pub size_snoc : (bs : List Breach) (b : Breach) → size (bs ++ (b ∷ [])) ≡ size bs + width b
unfolding size gather
size_snoc bs b = simp (gather_append, length-append, append-nil)

-- ---- the fold over `step` is its meaning

full_stays : (L : ℕ) (rs bs : List Breach) → fold (step L) (record { kept = rs; full = true }) bs ≡ record { kept = rs; full = true }
unfolding fold step
full_stays L rs [] = refl
full_stays L rs (b ∷ bs) = full_stays L rs bs

-- from a log that has room left
From : ℕ → List Breach → List Breach → Type 0
From L rs bs =
    fold (step L) (record { kept = rs; full = false }) bs
    ≡ record { kept = rs ++ fitting (L - size rs) bs; full = ltb (L - size rs) (size bs) }

ltb_as : (a b c d : ℕ) → (c < d → a < b) → (d ≤ c → b ≤ a) → ltb a b ≡ ltb c d
ltb_as a b c d f g = go (ltb c d) refl
  where
    go : (t : Bool) → ltb c d ≡ t → ltb a b ≡ t
    go true e = lt-ltb a b (f (ltb-true c d e))
    go false e = le-ltb a b (g (ltb-false c d e))

turn : (L : ℕ) (rs : List Breach) (b : Breach) (bs : List Breach) → size rs ≤ L → ((ts : List Breach) → size ts ≤ L → From L ts bs)
    → (room : Bool) → leb (size rs + width b) L ≡ room → From L rs (b ∷ bs)
unfolding From fold step fitting
turn L rs b bs h ih true e' =
    let w = width b in
    let ts = rs ++ (b ∷ []) in
    let fits : size rs + w ≤ L = leb-true (size rs + w) L e' in
    let k : L - size ts ≡ L - size rs - w = rw size_snoc (omega arith) in
    let q : ltb (L - size ts) (size bs) ≡ ltb (L - size rs) (size (b ∷ bs)) =
    rw (k, size_cons) (ltb_as (L - size rs - w) (size bs) (L - size rs) (w + size bs) (omega arith) (omega arith)) in
    rw (e', le-leb w (L - size rs) (omega arith))
    (ih ts (rw size_snoc fits)
    ∙ λ i. record {
      kept = (append_assoc rs (b ∷ []) (fitting (L - size ts) bs) ∙ ap (λ (n : ℕ). rs ++ (b ∷ fitting n bs)) k) i;
      full = q i;
    })
turn L rs b bs h ih false e' =
    let w = width b in
    let over : L < size rs + w = leb-false (size rs + w) L e' in
    rw (e', lt-leb w (L - size rs) (omega arith))
    (full_stays L rs bs
    ∙ λ i. record {
      kept = sym (append-nil rs) i;
      full = sym (lt-ltb (L - size rs) (size (b ∷ bs)) (rw size_cons (omega arith))) i;
    })

steps_from : (L : ℕ) (rs bs : List Breach) → size rs ≤ L → From L rs bs
unfolding From fold fitting
steps_from L rs [] h =
    let q : ltb (L - size rs) (size []) ≡ false = rw size_nil (le-ltb (L - size rs) 0 (omega arith)) in
    λ i. record { kept = sym (append-nil rs) i; full = sym q i }
steps_from L rs (b ∷ bs) h = turn L rs b bs h (λ ts k. steps_from L ts bs k) (leb (size rs + width b) L) refl

pub steps_kept : (L : ℕ) (bs : List Breach) → fold (step L) empty bs ≡ kept L bs
unfolding kept From
steps_kept L bs = rw (size_nil, sub-zero) at (steps_from L [] bs (rw size_nil (omega arith)))

-- ---- the fold over `step_once` is the fold over `step` of each pair once

-- `once` looks at the pairs before, and not at their order
pub once_before : (xs ys bs : List Breach) → ((b : Breach) → any_of (same_pair b) xs ≡ any_of (same_pair b) ys) → once xs bs ≡ once ys bs
unfolding once any_of
once_before xs ys [] e = refl
once_before xs ys (b ∷ bs) e = rw (e b, once_before xs ys bs e, once_before (b ∷ xs) (b ∷ ys) bs (λ c. rw (e c)))

snoc_cons : (rs bs : List Breach) (b : Breach) → once (rs ++ (b ∷ [])) bs ≡ once (b ∷ rs) bs
unfolding any_of
snoc_cons rs bs b = once_before (rs ++ (b ∷ [])) (b ∷ rs) bs (λ c. rw (any_append, or-false, or_comm))

more : (L : ℕ) (rs bs : List Breach) (b : Breach) (full : Bool) (room : Bool) → leb (size rs + width b) L ≡ room →
    let l = step L (record { kept = rs; full = full }) b in
    fold (step L) l (once l.kept bs) ≡ fold (step L) l (once (b ∷ rs) bs)
unfolding step
more L rs bs b true room e = full_stays L rs (once rs bs) ∙ sym (full_stays L rs (once (b ∷ rs) bs))
more L rs bs b false true e = rw (e, snoc_cons)
more L rs bs b false false e = rw e (full_stays L rs (once rs bs) ∙ sym (full_stays L rs (once (b ∷ rs) bs)))

pub steps_once : (L : ℕ) (l : Log) (bs : List Breach) → fold (step_once L) l bs ≡ fold (step L) l (once l.kept bs)
unfolding fold step_once once
steps_once L l [] = refl
steps_once L l (b ∷ bs) =
    (elim (any_of (same_pair b) l.kept) as (λ t. any_of (same_pair b) l.kept ≡ t → fold (step_once L) l (b ∷ bs) ≡ fold (step L) l (once l.kept (b ∷ bs))) [
      | true ↦ λ e. rw e (steps_once L l bs)
      | false ↦ λ e. rw e (steps_once L (step L l b) bs ∙ more L l.kept bs b l.full (leb (size l.kept + width b) L) refl)
    ]) refl

-- ---- what `fitting` is: of the fronts that fit, the longest

pub fitting_front : (L : ℕ) (bs : List Breach) → (rest : List Breach) × (bs ≡ fitting L bs ++ rest)
unfolding fitting
fitting_front L [] = ([], refl)
fitting_front L (b ∷ bs) =
    let w = width b in
    let more = fitting_front (L - w) bs in
    elim (leb w L) as (λ t. (rest : List Breach) × (b ∷ bs ≡ cond t (b ∷ fitting (L - w) bs) [] ++ rest))
    [ true ↦ (more.0, ap (λ (l : List Breach). b ∷ l) more.1) | false ↦ (b ∷ bs, refl) ]

pub fitting-fits : (L : ℕ) (bs : List Breach) → size (fitting L bs) ≤ L
unfolding fitting
fitting-fits L [] = rw size_nil (omega arith)
fitting-fits L (b ∷ bs) =
    let w = width b in
    (elim (leb w L) as (λ t. leb w L ≡ t → size (fitting L (b ∷ bs)) ≤ L) [
      | true ↦ λ e. rw (e, size_cons) (omega (arith, leb-true w L e, fitting-fits (L - w) bs))
      | false ↦ λ e. rw (e, size_nil) (omega arith)
    ]) refl

pub fitting_longest : (L : ℕ) (xs ys : List Breach) → size xs ≤ L → length xs ≤ length (fitting L (xs ++ ys))
unfolding fitting
fitting_longest L [] ys h = omega arith
fitting_longest L (x ∷ xs) ys h =
    let w = width x in
    let k : w + size xs ≤ L = rw size_cons at h in
    rw (le-leb w L (omega arith)) (omega (arith, fitting_longest (L - w) xs ys (omega arith)))

-- with space for all, all; else fewer
pub fitting_all : (L : ℕ) (bs : List Breach) → size bs ≤ L → fitting L bs ≡ bs
unfolding fitting
fitting_all L [] h = refl
fitting_all L (b ∷ bs) h =
    let w = width b in
    let k : w + size bs ≤ L = rw size_cons at h in
    rw (le-leb w L (omega arith), fitting_all (L - w) bs (omega arith))

pub fitting_less : (L : ℕ) (bs : List Breach) → L < size bs → length (fitting L bs) < length bs
unfolding fitting
fitting_less L [] h = absurd (let k : L < 0 = rw size_nil at h in omega arith)
fitting_less L (b ∷ bs) h =
    let w = width b in
    let k : L < w + size bs = rw size_cons at h in
    (elim (leb w L) as (λ t. leb w L ≡ t → length (fitting L (b ∷ bs)) < length (b ∷ bs)) [
      | true ↦ λ e. rw e (let p : w ≤ L = leb-true w L e in omega (arith, fitting_less (L - w) bs (omega arith)))
      | false ↦ λ e. rw e (omega arith)
    ]) refl

-- so one that did not fit shows in the count
pub full_fewer : (L : ℕ) (bs : List Breach) → eqb (length (fitting L bs)) (length bs) ≡ not (ltb L (size bs))
full_fewer L bs =
    (elim (ltb L (size bs)) as (λ t. ltb L (size bs) ≡ t → eqb (length (fitting L bs)) (length bs) ≡ not t) [
      | true ↦ λ e. let k = fitting_less L bs (ltb-true _ _ e) in ne_eqb (length (fitting L bs)) (length bs) (λ q. omega arith)
      | false ↦ λ e. eq-eqb _ _ (ap length (fitting_all L bs (ltb-false _ _ e)))
    ]) refl
