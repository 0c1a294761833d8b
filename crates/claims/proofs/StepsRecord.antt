-- Record 3 with one target more: it is accepted, and the target is the last one. And how many targets bytes can say. Assumes nothing.
use mathlib.Core.Path.{◌≡◌, sym, ap, ap₂, subst, ◌∙◌}
use mathlib.Core.Logic.{⊎_elim}
use mathlib.Core.List.{List, [], ◌∷◌, ◌++◌, append_assoc, append-nil}
use Prim.Native.Nat.{ℕ, ◌+◌, ◌≤◌, ◌<◌}
use native.Mathlib.Omega.{arith}
use lib.Dec.{eqb}
use lib.ListN.{length, get_or, take, drop, length-append}
use lib.Seq.{take-append_seam, drop-append-add, get_or-append_seam, drop-length}
use borrow.Author.Tests.{eqb-true}
use Rattle.names.specs.Lists.{gather}
use Rattle.names.specs.Laws.Lists.{gather_append}
use Rattle.names.specs.Laws.Words.{Bytes}
use Rattle.names.specs.Fields.{got, whole, finished}
use Rattle.names.specs.Laws.Readers.{split, held, whole_read}
use Rattle.targets.specs.Targets.{Target, Targets, target, target_record}
use Rattle.targets.specs.Appending.{alone_target, before_count, place_of, count_at, with_one_more}
use Rattle.reports.specs.Laws.Sets.{in_append}
use Rattle.claims.specs.Written as written
use Rattle.claims.specs.Written.{of_narrowing, of_target, written}
use Rattle.claims.specs.Breaches.{under}
use Rattle.claims.proofs.Written.{Stands, first, second, Reads, Readable, mark, heading_reads, target_gave, record_gave, accepted}
use Rattle.names.specs.declared.refusal.Refusal.TheVariants.{BytesAfter}

-- ---- a target by itself

pub record Alone (new : List ℕ) (t : Target) (n : ℕ) : Type 0 where
  pub bytes : new ≡ of_target t
  pub end : n ≡ length new
  pub reads : Reads target (of_target t) t

pub alone : (new : List ℕ) {t : Target} {n : ℕ} → alone_target new 0 ≡ got t n → Alone new t n
unfolding alone_target finished
alone new {t} {n} e =
    let a = split (target new 0) _ e in
    let h = held BytesAfter (eqb a.place (length new)) new a.rest in
    let g = target_gave new 0 a.first in
    let end : a.place ≡ length new = eqb-true _ _ h.passed in
    subst (λ (t : Target). Alone new t n) h.value
    (record {
      bytes = g.stands.here ∙ ap (λ (l : List ℕ). of_target a.value ++ l) (ap (λ (m : ℕ). drop m new) end ∙ drop-length new) ∙ append-nil (of_target a.value);
      end = sym h.place ∙ end;
      reads = g.reads;
    })

-- ---- where the count stands

-- one more at a place, and some bytes behind all
counted_up : (a : List ℕ) (k : ℕ) (b new : List ℕ) → take (length a) (a ++ (k ∷ b)) ++ ((get_or (a ++ (k ∷ b)) (length a) 0 + 1) ∷ drop (length a + 1) (a ++ (k ∷ b))) ++ new ≡ a ++ ((k + 1) ∷ (b ++ new))
counted_up a k b new = rw (take-append_seam a (k ∷ b), get_or-append_seam a k b 0, drop-append-add a (k ∷ b) 1) (append_assoc a ((k + 1) ∷ b) new)

module _ (ts : Targets) (r : Readable ts) where
  abbrev p : List ℕ
  p = of_narrowing ts.scope.principal

  abbrev q : List ℕ
  q = of_narrowing ts.scope.resource

  abbrev rows : List ℕ
  rows = gather of_target ts.list

  -- the bytes before it
  abbrev front : List ℕ
  front = written.heading ++ (p ++ q)

  apart : written ts ≡ front ++ (length ts.list ∷ rows)
  apart = simp append_assoc

  count_place : count_at (written ts) ≡ length front
  unfolding count_at before_count place_of
  count_place =
      let s = written ts in
      let h : Stands s s 0 (length s) =
      record { here = sym (append-nil s) ∙ ap (λ (l : List ℕ). s ++ l) (sym (drop-length s)); ends = omega arith; inside = omega arith } in
      let b = second written.heading (p ++ (q ++ (length ts.list ∷ rows))) h in
      let d = second p (q ++ (length ts.list ∷ rows)) b in
      rw (
        heading_reads mark s 0 5 (first written.heading (p ++ (q ++ (length ts.list ∷ rows))) h),
        r.principal s 5 _ (first p (q ++ (length ts.list ∷ rows)) b),
        r.resource s _ _ (first q (length ts.list ∷ rows) d),
      )
      (omega (arith, length-append p q))

  -- with the bytes of a target at its end
  more_bytes : (new : List ℕ) → with_one_more (written ts) new ≡ front ++ ((length ts.list + 1) ∷ (rows ++ new))
  unfolding with_one_more
  more_bytes new =
      let at : count_at (written ts) ≡ length front = count_place in
      ap (λ (m : ℕ). take m (written ts) ++ ((get_or (written ts) m 0 + 1) ∷ drop (m + 1) (written ts)) ++ new) at
      ∙ ap (λ (s : List ℕ). take (length front) s ++ ((get_or s (length front) 0 + 1) ∷ drop (length front + 1) s) ++ new) apart
      ∙ counted_up front (length ts.list) rows new

  more_length : (new : List ℕ) → length (with_one_more (written ts) new) ≡ length (written ts) + length new
  more_length new =
      ap length (more_bytes new) ∙ length-append front ((length ts.list + 1) ∷ (rows ++ new))
      ∙ omega (arith, length-append rows new, ap length apart, length-append front (length ts.list ∷ rows))

  module _ (t : Target) where
    abbrev more : Targets
    more = under ts.scope (ts.list ++ (t ∷ []))

    more_written : with_one_more (written ts) (of_target t) ≡ written more
    unfolding gather
    more_written =
        more_bytes (of_target t)
        ∙ rw (gather_append of_target ts.list (t ∷ []), length-append ts.list (t ∷ []), append-nil (of_target t)) (simp append_assoc)

    more_readable : Reads target (of_target t) t → Readable more
    more_readable own =
        record {
          principal = r.principal;
          resource = r.resource;
          targets = λ u h. ⊎_elim (λ i. r.targets u i) (λ i. ⊎_elim (λ e. rw e own) (λ none. absurd none) i) (in_append u ts.list (t ∷ []) h);
        }

-- ---- the record

module _ (s : List ℕ) {ts : Targets} {n : ℕ} (e : whole target_record s ≡ got ts n) where
  -- a target more is accepted as the last one, where the record is not too long with it
  pub one_more : (new : List ℕ) {t : Target} {m : ℕ} → alone_target new 0 ≡ got t m → length s + length new ≤ 32768
      → whole target_record (with_one_more s new) ≡ got (under ts.scope (ts.list ++ (t ∷ []))) (length (with_one_more s new))
  one_more new {t} i l =
      let g = record_gave s (whole_read target_record s e) in
      let a = alone new i in
      let is : with_one_more s new ≡ written (under ts.scope (ts.list ++ (t ∷ []))) = ap₂ with_one_more g.is a.bytes ∙ more_written ts g.readable t in
      let long : length (with_one_more s new) ≤ 32768 = omega (arith, ap (λ (w : List ℕ). length (with_one_more w new)) g.is, more_length ts g.readable new, ap length g.is) in
      let k = accepted (under ts.scope (ts.list ++ (t ∷ []))) (more_readable ts g.readable t a.reads) (subst (λ (w : List ℕ). length w ≤ 32768) is long) in
      subst (λ (w : List ℕ). whole target_record w ≡ got (under ts.scope (ts.list ++ (t ∷ []))) (length w)) (sym is) k

  -- bytes can say no more than 255 targets
  pub few_targets : Bytes s → length ts.list ≤ 255
  unfolding Bytes
  few_targets b =
      let g = record_gave s (whole_read target_record s e) in
      omega (arith, byte_at (front ts g.readable) (length ts.list) (rows ts g.readable) (subst Bytes (g.is ∙ apart ts g.readable) b))
    where
      byte_at : (xs : List ℕ) (y : ℕ) (ys : List ℕ) → Bytes (xs ++ (y ∷ ys)) → y < 256
      byte_at [] y ys h = h.0
      byte_at (x ∷ xs) y ys h = byte_at xs y ys h.1
