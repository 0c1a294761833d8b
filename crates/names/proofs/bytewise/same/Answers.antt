use Rattle.std.proofs.Common.{rules, ◌≡◌, Bool, false, List, ℕ, ◌+◌, ◌-◌, ◌*◌, ◌/◌, ◌<◌, eqb, length, take, drop, arith, sym, ◌∙◌}
use Rattle.std.specs.Cmp.Lexicographic.{pointwise}
use Rattle.names.specs.Names.{same}
use Rattle.names.specs.Laws.Names.{same_lengths, same_pointwise}
use Rattle.names.specs.Laws.Words.{WordAt, words_same, words_differ}
use Rattle.names.specs.Laws.Walks.{rest_of}
use Rattle.names.proofs.bytewise.same.Goals as goal

module _ (a b : List ℕ) (long : length a ≡ length b) (i : ℕ) (h : i < length a / 8) (inv : same (drop (8 * i) a) (drop (8 * i) b) ≡ same a b) (x y : ℕ) (p : WordAt a (8 * i) x) (q : WordAt b (8 * i) y) where
  differ : (x ≡ y → ⊥) → false ≡ same a b
  differ n = words_differ a b (8 * i) x y (omega arith) (omega arith) p q n ∙ inv

  agree : x ≡ y → same (drop (8 * (i + 1)) a) (drop (8 * (i + 1)) b) ≡ same a b
  agree e =
      let k : 8 * (i + 1) ≡ 8 * i + 8 = omega arith in
      rw k (words_same a b (8 * i) x y (omega arith) (omega arith) p q e ∙ inv)

-- what is left behind the last word
ends : (a b : List ℕ) (i : ℕ) → same (drop (8 * i) a) (drop (8 * i) b) ≡ same a b → i ≡ length a / 8
    → (r : Bool) → r ≡ pointwise eqb (take (length a - 8 * (length a / 8)) (drop (8 * (length a / 8)) a)) (take (length b - 8 * (length a / 8)) (drop (8 * (length a / 8)) b)) → r ≡ same a b
ends a b i inv e r is = is ∙ rw (rest_of a (8 * (length a / 8)), rest_of b (8 * (length a / 8)), ← e) (same_pointwise (drop (8 * i) a) (drop (8 * i) b) ∙ inv)

pub returns-then-a-b : goal.returns-then-a-b
returns-then-a-b c = sym (same_lengths c.args.a.now c.args.b.now c.if-a-b.true)

pub returns-then-word_at : goal.returns-then-word_at
returns-then-word_at c = differ c.args.a.now c.args.b.now c.if-a-b.false c.loop-i.i c.loop-i-test.true c.loop-i.invariant _ _ c.word_at.ensures c.word_at-in-loop-i.ensures c.if-word_at.true

pub loop-i-preserved : goal.loop-i-preserved
loop-i-preserved c = agree c.args.a.now c.args.b.now c.if-a-b.false c.loop-i.i c.loop-i-test.true c.loop-i.invariant _ _ c.word_at.ensures c.word_at-in-loop-i.ensures c.if-word_at.false

pub returns : goal.returns
returns c =
    let all : c.loop-i.i ≡ length c.args.a.now / 8 = omega arith in
    search (rules, ends, all)
