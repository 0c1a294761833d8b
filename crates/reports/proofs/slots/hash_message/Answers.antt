-- `reports::slots::hash_message` meets its contract. Assumes nothing.
use Rattle.std.proofs.Common.{◌≡◌, ℕ, zero, suc, ◌+◌, ◌-◌, ◌*◌, ◌/◌, ◌<◌, ◌≤◌, List, [], length, get_or, take, drop, refl, sym, ap, ◌∙◌, arith, drop-drop, sub-one}
use Rattle.std.proofs.Math.Nat.{sub-zero}
use Rattle.std.proofs.lemmas.List.{take-take}
use Rattle.std.specs.Simd.{first_chunks}
use Rattle.names.specs.Fields.{number}
use Rattle.names.specs.Laws.Walks.{drop_take}
use Rattle.reports.specs.Slots.{mixed, mixed_bytes, joined, mixed_words, hashed_message}
use Rattle.reports.proofs.slots.hash_message.Goals as goal

chunk_at : (k i : ℕ) (s : List ℕ) → i < k → get_or (first_chunks 8 k s) i [] ≡ take 8 (drop (8 * i) s)
chunk_at zero i s h = absurd (omega arith)
chunk_at (suc k) zero s h = refl
chunk_at (suc k) (suc i) s h =
    let e : 8 + 8 * i ≡ 8 * suc i = omega arith in
    chunk_at k i (drop 8 s) (omega arith) ∙ ap (take 8) (drop-drop (8 * i) 8 s ∙ ap (λ (n : ℕ). drop n s) e)

begins : (by : ℕ) (s : List ℕ) → mixed_words by (length s / 8 - 0) 0 0 (drop (8 * 0) s) ≡ hashed_message by s
unfolding hashed_message
begins by s = rw (sub-zero (length s / 8))

word_more : (by left one two : ℕ) (s : List ℕ) → 0 < left
    → mixed_words by left one two s ≡ mixed_words by (left - 1) (mixed by one (number 0 (take 4 s))) (mixed by two (number 0 (take 4 (drop 4 s)))) (drop 8 s)
unfolding mixed_words
word_more by zero one two s h = absurd (omega arith)
word_more by (suc n) one two s h = rw sub-one

module _ (by : ℕ) (s : List ℕ) (one two done : ℕ) (so_far : mixed_words by (length s / 8 - done) one two (drop (8 * done) s) ≡ hashed_message by s) where
  goes_on : done < length s / 8 → (w : List ℕ) → w ≡ take 8 (drop (8 * done) s)
      → (one' two' : ℕ) → one' ≡ mixed by one (number 0 (take 4 w)) → two' ≡ mixed by two (number 0 (take 4 (drop 4 w)))
      → mixed_words by (length s / 8 - (done + 1)) one' two' (drop (8 * (done + 1)) s) ≡ hashed_message by s
  goes_on h w is one' two' p q =
      let t : List ℕ = drop (8 * done) s in
      let first : take 4 w ≡ take 4 t = ap (take 4) is ∙ take-take 4 8 t (omega arith) in
      let second : take 4 (drop 4 w) ≡ take 4 (drop 4 t) = ap (λ (v : List ℕ). take 4 (drop 4 v)) is ∙ ap (take 4) (drop_take 4 8 t) ∙ take-take 4 4 (drop 4 t) (omega arith) in
      let one_less : length s / 8 - (done + 1) ≡ length s / 8 - done - 1 = omega arith in
      let e : 8 * (done + 1) ≡ 8 * done + 8 = omega arith in
      let further : drop (8 * (done + 1)) s ≡ drop 8 t = ap (λ (n : ℕ). drop n s) e ∙ sym (drop-drop 8 (8 * done) s) in
      rw (one_less, further, p, first, q, second) (rw (word_more by (length s / 8 - done) one two t (omega arith)) at so_far)

  ends : length s / 8 ≤ done → done ≤ length s / 8 → (g r : ℕ) → g ≡ joined by one two → r ≡ mixed_bytes by g (drop (length s / 8 * 8) s) → r ≡ hashed_message by s
  unfolding mixed_words
  ends h k g r e is =
      let none : length s / 8 - done ≡ 0 = omega arith in
      let there : length s / 8 * 8 ≡ 8 * done = omega arith in
      is ∙ rw (e, there) (rw none at so_far)

pub loop-word-init : goal.loop-word-init
loop-word-init c = begins c.args.by c.args.message.now

pub loop-word-preserved : goal.loop-word-preserved
loop-word-preserved c =
    let few : c.loop-word.word-index < length c.args.message.now / 8 = omega (arith, c.as_chunks.ensures.front_len) in
    goes_on _ _ _ _ _ c.loop-word.invariant few _
    (ap (λ (l : List (List ℕ)). get_or l c.loop-word.word-index []) c.as_chunks.ensures.front ∙ chunk_at (length c.args.message.now / 8) c.loop-word.word-index c.args.message.now few)
    _ _
    (c.mix-one.ensures ∙ ap (mixed c.args.by c.loop-word.one) c.u32_at.ensures)
    (c.mix-two.ensures ∙ ap (mixed c.args.by c.loop-word.two) c.u32_at-in-loop-word.ensures)

pub returns : goal.returns
returns c =
    ends _ _ _ _ _ c.loop-word.invariant (omega (arith, c.as_chunks.ensures.front_len)) (omega (arith, c.as_chunks.ensures.front_len)) c.join.result _ c.join.ensures
    (c.mix_bytes.ensures ∙ ap (mixed_bytes c.args.by c.join.result) c.as_chunks.ensures.back)
