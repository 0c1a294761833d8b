-- Demand 3. A run is given by its list of breaches alone: it answers and leaves `reported (once [] bs) old`. Then, with space for all reports
-- (10 bytes and the message's own for each different pair of message and start), whatever the buffer held before:
--     run-kept                    the buffer holds the whole reports that fit, before the first that does not
--     run-zero, run-over          the number is 0; without the space it is 11
--     run-members, run-once       the pairs reported are exactly those of the breaches, each of them once
--     run-breaches, run-first     every report is a breach, and of each pair it is the first, whose end stays
--     run-count, run_none         the count is the number of the different pairs, 0 exactly where there is no breach
--     run-rest                    the bytes behind the reports are as they were
--     runs-alike                  order and repeats do not matter: the same pairs, the same count
--     runs-joined                 the count of two lists joined is the sum of theirs, less the pairs that both have
-- The laws above them say the same of the lists `once [] bs`. Assumes nothing.
use Rattle.std.specs.Prelude.{◌≡◌, ◌↔◌, ℕ, ◌+◌, ◌≤◌, ◌<◌, length, drop}
use Rattle.std.proofs.Math.Path.{refl}
use Rattle.std.proofs.Common.{sym, ◌∙◌, arith}
use mathlib.Core.List.{List, [], ◌∷◌, ◌++◌, cons≢nil}
use Rattle.std.proofs.Math.Seq.{drop-append_seam}
use borrow.Author.Tests.{eq-eqb, ne_eqb}
use Rattle.names.specs.Lists.{any_of, first, gather}
use Rattle.reports.specs.Reports.{Breach, same_pair, once, encoded, fitting, Outcome, reported}
use Rattle.reports.specs.Decode.{width_is, size, reports, reports_encoded}
use Rattle.reports.specs.Kept.{size_nil, size_cons, fitting_all, fitting_less}
use Rattle.reports.specs.Pairs.{◌∈◌, NoDup, Same, Pair, pair_of, pairs, space}
use Rattle.reports.specs.Laws.Sets.{length_same, sum_same}
use Rattle.reports.specs.Laws.Once.{both, exactly, once_nodup, length_pairs, both_in, both_nodup, length_joined, first_once, once_from, once_append, once_same}
use Rattle.reports.specs.Laws.Once as O

-- ---- the reports of a list of breaches

module _ (bs : List Breach) where
  -- the pairs reported are those of the breaches
  pub members : Same (pairs (once [] bs)) (pairs bs)
  members = exactly bs

  -- each once
  pub no_repeats : NoDup (pairs (once [] bs))
  no_repeats = once_nodup [] bs

  -- every report is a breach
  pub from_breaches : (b : Breach) → b ∈ once [] bs → b ∈ bs
  from_breaches b = once_from b [] bs

  -- and of each pair it is the first, so that the first one's end stays
  pub first_stays : (b : Breach) → first (same_pair b) (once [] bs) ≡ first (same_pair b) bs
  unfolding any_of
  first_stays b = first_once (pair_of b) [] bs refl

  -- the different pairs, however one lists them
  module _ (ps : List Pair) (n : NoDup ps) (s : Same ps (pairs bs)) where
    listed : Same (pairs (once [] bs)) ps
    listed k = ((λ h. (s k).1 ((members k).0 h)), (λ h. (members k).1 ((s k).0 h)))

    -- the count is their number
    pub count : length (once [] bs) ≡ length ps
    count = length_pairs bs ∙ length_same (pairs (once [] bs)) ps no_repeats n listed

    -- and the space is theirs
    pub space_once : space (pairs (once [] bs)) ≡ space ps
    space_once = sum_same (λ p. 10 + length p.message) (pairs (once [] bs)) ps no_repeats n listed

-- zero just where there is no breach
pub none : (bs : List Breach) → (length (once [] bs) ≡ 0) ↔ (bs ≡ [])
unfolding once any_of
none [] = ((λ _. refl), (λ _. refl))
none (b ∷ bs) = ((λ h. absurd (omega arith)), (λ e. absurd (cons≢nil e)))

module _ (xs ys : List Breach) where
  -- order and repeats do not matter: where the pairs are the same, the reports' pairs are, and their number
  pub same_members : Same (pairs xs) (pairs ys) → Same (pairs (once [] xs)) (pairs (once [] ys))
  same_members s k = ((λ h. (members ys k).1 ((s k).0 ((members xs k).0 h))), (λ h. (members xs k).1 ((s k).1 ((members ys k).0 h))))

  pub same_count : Same (pairs xs) (pairs ys) → length (once [] xs) ≡ length (once [] ys)
  same_count s = count xs (pairs (once [] ys)) (no_repeats ys) (λ k. ((λ h. (s k).1 ((members ys k).0 h)), (λ h. (members ys k).1 ((s k).0 h)))) ∙ sym (length_pairs ys)

  pub same_breaches : Same xs ys → Same (pairs xs) (pairs ys)
  same_breaches = O.same_breaches xs ys

  -- of two lists joined: the sum, less the pairs that both have, each of them once
  pub in_both : (k : Pair) → (k ∈ both xs ys) ↔ ((k ∈ pairs xs) × (k ∈ pairs ys))
  in_both = both_in xs ys

  pub both_once : NoDup (both xs ys)
  both_once = both_nodup xs ys

  pub count_joined : length (once [] (xs ++ ys)) + length (both xs ys) ≡ length (once [] xs) + length (once [] ys)
  count_joined = length_joined xs ys

-- what was reported before counts by its pairs alone, in any order and with repeats
pub before : (xs ys bs : List Breach) → Same (pairs xs) (pairs ys) → once xs bs ≡ once ys bs
before = once_same

-- one list behind the other: of the second, the pairs that neither were reported before nor stand in the first
pub parts : (before xs ys : List Breach) → once before (xs ++ ys) ≡ once before xs ++ once (xs ++ before) ys
parts = once_append

-- ---- their bytes in a buffer

-- the bytes of reports are the space of their pairs
pub size_space : (rs : List Breach) → size rs ≡ space (pairs rs)
size_space [] = size_nil
size_space (r ∷ rs) = omega (arith, size_cons r rs, width_is r, size_space rs)

-- with space for all, the answer is 0 and the number of the reports, and the buffer begins with them
pub all_reported : (rs : List Breach) (buffer : List ℕ) → space (pairs rs) ≤ length buffer
    → reported rs buffer ≡ record {
      answer = record { number = 0; record_number = 0; count = length rs };
      buffer = gather encoded rs ++ drop (length (gather encoded rs)) buffer;
    }
unfolding reported
all_reported rs buffer h = rw (fitting_all (length buffer) rs (omega (arith, size_space rs)), eq-eqb (length rs) (length rs) refl)

-- with space or not, the bytes read back as the reports that fit
pub read_back : (rs : List Breach) (buffer : List ℕ) → reports (reported rs buffer).answer.count (reported rs buffer).buffer ≡ fitting (length buffer) rs
unfolding reported
read_back rs buffer = reports_encoded (fitting (length buffer) rs) _

-- ---- a run: from what its breaches are

module _ (bs : List Breach) (old : List ℕ) (o : Outcome) (run : o ≡ reported (once [] bs) old) where
  -- the reports that the buffer holds after it
  abbrev pub held : List Breach
  held = reports o.answer.count o.buffer

  -- whole reports in their order, with space for all or not
  pub run_kept : held ≡ fitting (length old) (once [] bs)
  run_kept = rw run (read_back (once [] bs) old)

  -- where the space does not suffice, it says so
  pub run_over : length old < space (pairs (once [] bs)) → o.answer.number ≡ 11
  unfolding reported
  run_over h =
      let fewer = fitting_less (length old) (once [] bs) (omega (arith, size_space (once [] bs))) in
      rw (run, ne_eqb (length (fitting (length old) (once [] bs))) (length (once [] bs)) (λ q. omega arith))

  module _ (room : space (pairs (once [] bs)) ≤ length old) where
    all : o ≡ record {
      answer = record { number = 0; record_number = 0; count = length (once [] bs) };
      buffer = gather encoded (once [] bs) ++ drop (length (gather encoded (once [] bs))) old;
    }
    all = run ∙ all_reported (once [] bs) old room

    holds : held ≡ once [] bs
    holds = rw all (reports_encoded (once [] bs) (drop (length (gather encoded (once [] bs))) old))

    pub run_zero : o.answer.number ≡ 0
    run_zero = rw all

    pub run_members : Same (pairs held) (pairs bs)
    run_members = rw holds (members bs)

    pub run_once : NoDup (pairs held)
    run_once = rw holds (no_repeats bs)

    pub run_breaches : (b : Breach) → b ∈ held → b ∈ bs
    run_breaches b h = from_breaches bs b (rw holds at h)

    pub run_first : (b : Breach) → first (same_pair b) held ≡ first (same_pair b) bs
    run_first b = rw holds (first_stays bs b)

    pub run_count : (ps : List Pair) → NoDup ps → Same ps (pairs bs) → o.answer.count ≡ length ps
    run_count ps n s = rw all (count bs ps n s)

    pub run_none : (o.answer.count ≡ 0) ↔ (bs ≡ [])
    run_none = rw all (none bs)

    pub run_rest : drop (space (pairs held)) o.buffer ≡ drop (space (pairs held)) old
    unfolding size
    run_rest =
        rw (holds, ← size_space (once [] bs), all) (drop-append_seam (gather encoded (once [] bs)) (drop (length (gather encoded (once [] bs))) old))

-- two runs with the same pairs, in any order and with repeats, into buffers of any contents
pub runs_alike : (xs ys : List Breach) (old₁ old₂ : List ℕ) (o₁ o₂ : Outcome) → o₁ ≡ reported (once [] xs) old₁ → o₂ ≡ reported (once [] ys) old₂
    → space (pairs (once [] xs)) ≤ length old₁ → space (pairs (once [] ys)) ≤ length old₂ → Same (pairs xs) (pairs ys) → o₁.answer.count ≡ o₂.answer.count
runs_alike xs ys old₁ old₂ o₁ o₂ r₁ r₂ h₁ h₂ s = rw (all xs old₁ o₁ r₁ h₁, all ys old₂ o₂ r₂ h₂) (same_count xs ys s)

-- three runs, over xs, over ys and over both
pub runs_joined : (xs ys : List Breach) (old₁ old₂ old₃ : List ℕ) (o₁ o₂ o₃ : Outcome)
    → o₁ ≡ reported (once [] xs) old₁ → o₂ ≡ reported (once [] ys) old₂ → o₃ ≡ reported (once [] (xs ++ ys)) old₃
    → space (pairs (once [] xs)) ≤ length old₁ → space (pairs (once [] ys)) ≤ length old₂ → space (pairs (once [] (xs ++ ys))) ≤ length old₃
    → o₃.answer.count + length (both xs ys) ≡ o₁.answer.count + o₂.answer.count
runs_joined xs ys old₁ old₂ old₃ o₁ o₂ o₃ r₁ r₂ r₃ h₁ h₂ h₃ =
    rw (all xs old₁ o₁ r₁ h₁, all ys old₂ o₂ r₂ h₂, all (xs ++ ys) old₃ o₃ r₃ h₃) (count_joined xs ys)
