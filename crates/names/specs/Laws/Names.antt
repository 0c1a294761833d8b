-- Laws of names. Assumes nothing.
--     same_refl, same-eq, same-lengths     `same` is equality
--     same-pointwise                       and what the library's `==` says of two slices
--     order-refl, order_same               the order is 1 just at equal strings
--     same-order, below-order              what `same` and `below` say, by the order
--     cmp-less, cmp-equal, cmp-more        what the library's `cmp` says of two numbers, by `order_number`
--     order_flip                           the other way round it is the opposite: it is total
--     below-trans                          `below` is transitive
use Rattle.std.specs.Prelude.{◌≡◌, refl, Bool, true, false, cond, ◌&&◌, List, [], ◌∷◌, ℕ, suc, ◌-◌, ◌<◌, length, eqb, ltb}
use Rattle.std.specs.Cmp.Lexicographic.{pointwise}
use Rattle.std.specs.Ordering.{nat_cmp}
use Rattle.std.proofs.Common.{sym, ap, ap₂, ◌∙◌, arith, le_of_lt, le_of_eq, le_antisymm}
use Rattle.std.proofs.Math.Bool.{and-false}
use Rattle.std.proofs.lemmas.Bool.{false≢true}
use borrow.Author.Tests.{eq-eqb, ne_eqb, eqb-true, lt-ltb, le-ltb, ltb-true, ltb-false}
use Rattle.names.specs.Names.{same, below, order}
use Rattle.names.specs.Order.{order_number}

pub and_left : (a b : Bool) → (a && b) ≡ true → a ≡ true
and_left true b h = refl
and_left false b h = absurd (false≢true h)

pub and_right : (a b : Bool) → (a && b) ≡ true → b ≡ true
and_right true b h = h
and_right false b h = absurd (false≢true h)

pub same_lengths : (s t : List ℕ) → (length s ≡ length t → ⊥) → same s t ≡ false
unfolding same
same_lengths [] [] h = absurd (h refl)
same_lengths [] (b ∷ t) h = refl
same_lengths (a ∷ s) [] h = refl
same_lengths (a ∷ s) (b ∷ t) h = rw (same_lengths s t (λ e. h (ap suc e)), and-false)

pub same_pointwise : (s t : List ℕ) → pointwise eqb s t ≡ same s t
unfolding same
same_pointwise [] [] = refl
same_pointwise [] (b ∷ t) = refl
same_pointwise (a ∷ s) [] = refl
same_pointwise (a ∷ s) (b ∷ t) = ap (λ r. eqb a b && r) (same_pointwise s t)

pub same_refl : (s : List ℕ) → same s s ≡ true
unfolding same
same_refl [] = refl
same_refl (a ∷ s) = rw (eq-eqb a a refl, same_refl s)

pub same_eq : (s t : List ℕ) → same s t ≡ true → s ≡ t
unfolding same
same_eq [] [] h = refl
same_eq [] (b ∷ t) h = absurd (false≢true h)
same_eq (a ∷ s) [] h = absurd (false≢true h)
same_eq (a ∷ s) (b ∷ t) h = ap₂ ◌∷◌ (eqb-true a b (and_left (eqb a b) (same s t) h)) (same_eq s t (and_right (eqb a b) (same s t) h))

-- ---- the order

-- one number before the other, the same, or after it
pub data Three (x y : ℕ) : Type 0 where
  less : x < y → Three x y
  equal : x ≡ y → Three x y
  more : y < x → Three x y

pub three : (x y : ℕ) → Three x y
three x y = go (ltb x y) (ltb y x) refl refl
  where
    go : (p q : Bool) → ltb x y ≡ p → ltb y x ≡ q → Three x y
    go true q e f = less (ltb-true x y e)
    go false true e f = more (ltb-true y x f)
    go false false e f = equal (le_antisymm (ltb-false y x f) (ltb-false x y e))

module _ (x y : ℕ) where
  pub cmp_less : x < y → order_number (nat_cmp x y) ≡ 0
  cmp_less h = rw (lt-ltb x y h)

  pub cmp_equal : x ≡ y → order_number (nat_cmp x y) ≡ 1
  cmp_equal e = rw (le-ltb x y (le_of_eq (sym e)), eq-eqb x y e)

  pub cmp_more : y < x → order_number (nat_cmp x y) ≡ 2
  cmp_more h = rw (le-ltb x y (le_of_lt h), ne_eqb x y (λ e. omega arith))

module _ (x y : ℕ) (xs ys : List ℕ) where
  below_less : x < y → below (x ∷ xs) (y ∷ ys) ≡ true
  unfolding below
  below_less h = rw (lt-ltb x y h)

  below_more : y < x → below (x ∷ xs) (y ∷ ys) ≡ false
  unfolding below
  below_more h = rw (le-ltb x y (le_of_lt h), ne_eqb x y (λ e. omega arith))

  below_equal : x ≡ y → below (x ∷ xs) (y ∷ ys) ≡ below xs ys
  unfolding below
  below_equal e = rw (le-ltb x y (le_of_eq (sym e)), eq-eqb x y e)

  pub order_less : x < y → order (x ∷ xs) (y ∷ ys) ≡ 0
  unfolding order
  order_less h = rw (below_less h)

  pub order_more : y < x → order (x ∷ xs) (y ∷ ys) ≡ 2
  unfolding order same
  order_more h = rw (below_more h, ne_eqb x y (λ e. omega arith))

  pub order_equal : x ≡ y → order (x ∷ xs) (y ∷ ys) ≡ order xs ys
  unfolding order same
  order_equal e = rw (below_equal e, eq-eqb x y e)

  -- two bytes that differ decide
  pub order_cmp : (x ≡ y → ⊥) → order_number (nat_cmp x y) ≡ order (x ∷ xs) (y ∷ ys)
  order_cmp n = go (three x y)
    where
      go : Three x y → order_number (nat_cmp x y) ≡ order (x ∷ xs) (y ∷ ys)
      go (less h) = cmp_less x y h ∙ sym (order_less h)
      go (equal e) = absurd (n e)
      go (more h) = cmp_more x y h ∙ sym (order_more h)

-- whether the order is that of the strings' first, by the number
pub below_order : (xs ys : List ℕ) → below xs ys ≡ eqb (order xs ys) 0
unfolding order
below_order xs ys = go (below xs ys) (same xs ys)
  where
    go : (b s : Bool) → b ≡ eqb (cond b 0 (cond s 1 2)) 0
    go true s = refl
    go false true = refl
    go false false = refl

pub order_refl : (xs : List ℕ) → order xs xs ≡ 1
unfolding order below same
order_refl [] = refl
order_refl (x ∷ xs) = order_equal x x xs xs refl ∙ order_refl xs

pub order_flip : (xs ys : List ℕ) → order ys xs ≡ 2 - order xs ys
unfolding order below same
order_flip [] [] = refl
order_flip [] (y ∷ ys) = refl
order_flip (x ∷ xs) [] = refl
order_flip (x ∷ xs) (y ∷ ys) = go (three x y) (order_flip xs ys)
  where
    go : Three x y → order ys xs ≡ 2 - order xs ys → order (y ∷ ys) (x ∷ xs) ≡ 2 - order (x ∷ xs) (y ∷ ys)
    go (less h) ih = order_more y x ys xs h ∙ ap (λ (n : ℕ). 2 - n) (sym (order_less x y xs ys h))
    go (equal e) ih = order_equal y x ys xs (sym e) ∙ ih ∙ ap (λ (n : ℕ). 2 - n) (sym (order_equal x y xs ys e))
    go (more h) ih = order_less y x ys xs h ∙ ap (λ (n : ℕ). 2 - n) (sym (order_more x y xs ys h))

pub order_same : (xs ys : List ℕ) → order xs ys ≡ 1 → xs ≡ ys
unfolding order
order_same xs ys e = same_eq xs ys (go (below xs ys) (same xs ys) e)
  where
    go : (b s : Bool) → ◌≡◌ {A = ℕ} (cond b 0 (cond s 1 2)) 1 → s ≡ true
    go true s e = absurd (omega arith)
    go false true e = refl
    go false false e = absurd (omega arith)

-- two strings are the same where their order says so
pub same_order : (xs ys : List ℕ) → same xs ys ≡ eqb (order xs ys) 1
unfolding order
same_order xs ys = go (same xs ys) refl
  where
    other : (b s : Bool) → s ≡ false → false ≡ eqb (cond b 0 (cond s 1 2)) 1
    other true s e = refl
    other false true e = absurd (false≢true (sym e))
    other false false e = refl

    go : (t : Bool) → same xs ys ≡ t → same xs ys ≡ eqb (order xs ys) 1
    go true e = e ∙ rw (same_eq xs ys e) (sym (ap (λ (n : ℕ). eqb n 1) (order_refl ys)))
    go false e = e ∙ other (below xs ys) (same xs ys) e

pub below_trans : (xs ys zs : List ℕ) → below xs ys ≡ true → below ys zs ≡ true → below xs zs ≡ true
unfolding below
below_trans [] [] zs p q = absurd (false≢true p)
below_trans (x ∷ xs) [] zs p q = absurd (false≢true p)
below_trans [] (y ∷ ys) [] p q = absurd (false≢true q)
below_trans [] (y ∷ ys) (z ∷ zs) p q = refl
below_trans (x ∷ xs) (y ∷ ys) [] p q = absurd (false≢true q)
below_trans (x ∷ xs) (y ∷ ys) (z ∷ zs) p q = go (three x y) (three y z) (below_trans xs ys zs)
  where
    go : Three x y → Three y z → (below xs ys ≡ true → below ys zs ≡ true → below xs zs ≡ true) → below (x ∷ xs) (z ∷ zs) ≡ true
    go (less h) (less k) ih = below_less x z xs zs (omega arith)
    go (less h) (equal k) ih = below_less x z xs zs (omega arith)
    go (less h) (more k) ih = absurd (false≢true (sym (below_more y z ys zs k) ∙ q))
    go (equal h) (less k) ih = below_less x z xs zs (omega arith)
    go (equal h) (equal k) ih = below_equal x z xs zs (h ∙ k) ∙ ih (sym (below_equal x y xs ys h) ∙ p) (sym (below_equal y z ys zs k) ∙ q)
    go (equal h) (more k) ih = absurd (false≢true (sym (below_more y z ys zs k) ∙ q))
    go (more h) k ih = absurd (false≢true (sym (below_more x y xs ys h) ∙ p))
