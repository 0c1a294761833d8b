use Rattle.std.proofs.Common.{◌≡◌, List, ℕ, ◌+◌, ◌-◌, ◌*◌, ◌/◌, ◌<◌, min, length, take, drop, arith, ap, ◌∙◌}
use Rattle.std.specs.Ordering.{nat_cmp}
use Rattle.names.specs.Names.{order}
use Rattle.names.specs.Order.{order_number}
use Rattle.names.specs.Laws.Words.{WordAt, words_cmp, words_equal}
use Rattle.names.specs.Laws.Walks.{rest_of}
use Rattle.names.proofs.bytewise.compare.Goals as goal

module _ (a b : List ℕ) (i : ℕ) (h : i < min (length a) (length b) / 8) (inv : order (drop (8 * i) a) (drop (8 * i) b) ≡ order a b) (x y : ℕ) (p : WordAt a (8 * i) x) (q : WordAt b (8 * i) y) where
  decide : (x ≡ y → ⊥) → order_number (nat_cmp x y) ≡ order a b
  decide n = words_cmp a b (8 * i) x y (omega arith) (omega arith) p q n ∙ inv

  agree : x ≡ y → order (drop (8 * (i + 1)) a) (drop (8 * (i + 1)) b) ≡ order a b
  agree e =
      let k : 8 * (i + 1) ≡ 8 * i + 8 = omega arith in
      rw k (words_equal a b (8 * i) x y (omega arith) (omega arith) p q e ∙ inv)

-- what is left behind the last word
ends : (a b : List ℕ) (n i : ℕ) → order (drop (8 * i) a) (drop (8 * i) b) ≡ order a b → i ≡ n
    → order (take (length a - 8 * n) (drop (8 * n) a)) (take (length b - 8 * n) (drop (8 * n) b)) ≡ order a b
ends a b n i inv e = rw (rest_of a (8 * n), rest_of b (8 * n), ← e) inv

pub returns-then-x-y : goal.returns-then-x-y
returns-then-x-y c =
    ap order_number c.cmp.ensures
    ∙ decide c.args.a.now c.args.b.now c.loop-i.i (omega arith) c.loop-i.invariant _ _ c.word_at-x.ensures c.word_at-y.ensures c.if-x-y.true

pub loop-i-preserved : goal.loop-i-preserved
loop-i-preserved c = agree c.args.a.now c.args.b.now c.loop-i.i (omega arith) c.loop-i.invariant _ _ c.word_at-x.ensures c.word_at-y.ensures c.if-x-y.false

pub returns : goal.returns
returns c = c.compare_bytes.ensures ∙ ends c.args.a.now c.args.b.now _ c.loop-i.i c.loop-i.invariant (omega arith)
