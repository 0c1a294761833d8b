use Rattle.std.proofs.Common.{rules, ◌≡◌, ◌⊎◌, inl, inr, List, [], ◌∷◌, ℕ, ◌+◌, length, arith, sym, ◌∙◌, ap}
use Rattle.std.specs.declared.cmp.Ordering.{Ordering}
use Rattle.std.specs.Ordering.{nat_cmp}
use Rattle.names.specs.Names.{below, same, order}
use Rattle.names.specs.Order.{order_number}
use Rattle.names.specs.Laws.Names.{cmp_less, cmp_equal, cmp_more, order_cmp, order_equal}
use Rattle.names.proofs.bytewise.compare_bytes.Goals as goal

-- two bytes in front
turn : (p q : List ℕ) (x y : ℕ) (xs ys : List ℕ) → p ≡ x ∷ xs → q ≡ y ∷ ys → (x ≡ y → ⊥) → order_number (nat_cmp x y) ≡ order p q
turn p q x y xs ys e f n = rw (e, f) (order_cmp x y xs ys n)

same_turn : (p q : List ℕ) (x y : ℕ) (xs ys : List ℕ) → p ≡ x ∷ xs → q ≡ y ∷ ys → x ≡ y → order xs ys ≡ order p q
same_turn p q x y xs ys e f n = rw (e, f) (sym (order_equal x y xs ys n))

-- one has ended: of so many bytes in all
ends : (p q : List ℕ) (m n : ℕ) → (length p ≡ 0) ⊎ (length q ≡ 0) → length p + n ≡ length q + m → order_number (nat_cmp m n) ≡ order p q
unfolding order below same
ends [] [] m n e h = cmp_equal m n (omega arith)
ends [] (y ∷ q) m n e h = cmp_less m n (omega arith)
ends (x ∷ p) [] m n e h = cmp_more m n (omega arith)
ends (x ∷ p) (y ∷ q) m n (inl e) h = absurd (omega arith)
ends (x ∷ p) (y ∷ q) m n (inr e) h = absurd (omega arith)

-- the order of the lengths is the order of the lists
closes : (a b p q : List ℕ) (o : Ordering) → order p q ≡ order a b → (length p ≡ 0) ⊎ (length q ≡ 0) → length p + length b ≡ length q + length a
    → o ≡ nat_cmp (length a) (length b) → order_number o ≡ order a b
closes a b p q o left over as_much is = ap order_number is ∙ ends p q (length a) (length b) over as_much ∙ left

pub returns-then-x-y : goal.returns-then-x-y
returns-then-x-y c =
    let is = c.in-Some.ensures.steps in
    ap order_number c.cmp.ensures ∙ turn _ _ _ _ _ _ is.0 is.1 c.if-x-y.true ∙ c.loop-x.invariant.left

pub loop-x-preserved : goal.loop-x-preserved
loop-x-preserved c =
    let is = c.in-Some.ensures.steps in
    record {
      left = same_turn _ _ _ _ _ _ is.0 is.1 c.if-x-y.false ∙ c.loop-x.invariant.left;
      as_much = omega (arith, ap length is.0, ap length is.1, c.loop-x.invariant.as_much);
    }

pub returns : goal.returns
returns c =
    let over : (length c.loop-x.x-iterator.a.rest.now ≡ 0) ⊎ (length c.loop-x.x-iterator.b.rest.now ≡ 0) = elim c.in-None.ensures.steps [ inl w ↦ inl w.1.0 | inr w ↦ inr w.1.0 ] in
    let inv = c.loop-x.invariant in
    search (rules, closes, over, inv.left, inv.as_much)
