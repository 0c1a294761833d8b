-- Between steps: each exit of appending and of withdrawing. Assumes nothing.
use mathlib.Core.Path.{◌≡◌, refl, sym, ap, ◌∙◌}
use mathlib.Core.Bool.{Bool, true, false, cond, ◌&&◌, ◌||◌}
use mathlib.Core.List.{List, [], ◌++◌}
use Prim.Native.Nat.{ℕ, ◌+◌, ◌-◌, ◌≤◌, ◌<◌, min}
use native.Mathlib.Nat.{zero-add}
use native.Mathlib.Numerals.{add-one}
use native.Mathlib.Omega.{arith}
use borrow.Author.Rules.{rules}
use borrow.Author.Tests.{lt-ltb, le-ltb, leb-true, leb-false, eq-eqb, ne_eqb}
use lib.Dec.{ltb, leb}
use lib.ListN.{length, get_or, set, take, length-append, length-set}
use lib.Seq.{length-take-le, take_all, take-length, get_or-take, set_split, take-set-lt, drop-set-lt}
use Rattle.names.specs.Fields.{whole, number_of}
use Rattle.names.specs.Read.{ending, value_or, Read}
use Rattle.names.specs.Writer.{store, Stored}
use Rattle.names.specs.Laws.Readers.{accept, passes, refused_by}
use Rattle.names.specs.Laws.Rows.{listed_length}
use Rattle.targets.specs.Targets.{Target, target, target_record}
use Rattle.targets.specs.Places.{are_targets, targets_in, CountedAt}
use Rattle.targets.specs.Appending.{alone_target, count_at, with_one_more}
use Rattle.reports.specs.declared.Answer.{Answer}
use Rattle.reports.specs.Reports.{Outcome, refusal}
use Rattle.reports.specs.Answers.{outcome_of, Refuses}
use Rattle.reports.specs.Placed.{placed, Writes, placed-fits, placed_not}
use Rattle.steps.specs.declared.Steps.{Steps}
use Rattle.steps.specs.declared.Stepped.{Stepped}
use Rattle.steps.specs.Steps.{is_pending, marked, unchanged, append_to, append, withdraw}
use Rattle.steps.specs.Answers.{stepped_of}
use Rattle.steps.specs.Parts.{Answered}
use Rattle.std.specs.Prelude.{Ok, Err}
use Rattle.names.specs.declared.refusal.Refusal.{Refusal}

-- ---- the front of a buffer

-- the first `used` bytes of a buffer, all of it where it is shorter
pub front_inside : (s : List ℕ) (used end : ℕ) → end ≡ min used (length s) → end ≤ length s
front_inside s used end e = omega arith

pub front_same : (s : List ℕ) (used end : ℕ) → end ≡ min used (length s) → take end s ≡ take used s
front_same s used end e = go (leb used (length s)) refl
  where
    go : (b : Bool) → leb used (length s) ≡ b → take end s ≡ take used s
    go true h = let k : used ≤ length s = leb-true _ _ h in let q : end ≡ used = omega arith in rw q
    go false h = let k : length s < used = leb-false _ _ h in let q : end ≡ length s = omega arith in rw q (take-length s ∙ sym (take_all used s (omega arith)))

-- ---- one target more

with_one_more_lem : (s new : List ℕ) (at : ℕ) → at ≡ count_at s → at < length s → with_one_more s new ≡ set s at (get_or s at 0 + 1) ++ new
unfolding with_one_more
with_one_more_lem s new at e h = rw (← e, add-one at, set_split s at (get_or s at 0 + 1) h)

pub set_kept : (l t : List ℕ) (i v : ℕ) → length t ≡ length (set l i v) → length t ≡ length l
set_kept l t i v e = e ∙ length-set l i v

pub ruleset putting = (rules, set_kept)

-- A list that was read, and the target.
module _ (list : List ℕ) (end : ℕ) (new : List ℕ) (inside : end ≤ length list) (x : Read) (is : x ≡ ending (alone_target new 0)) where
  pub target_refused : (r : Refusal) → x ≡ Err r → (a : Answer) → Refuses (number_of r) 3 a → outcome_of a list ≡ append_to list (take end list) (targets_in (take end list)) new
  unfolding append_to
  target_refused r e a i = i.is list ∙ rw (refused_by (alone_target new 0) x r is e)

  module _ (p : ℕ) (e : x ≡ Ok p) (at : ℕ) (c : CountedAt (take end list) (targets_in (take end list)).list at) where
    abbrev ts : List Target
    ts = (targets_in (take end list)).list

    end_length : length (take end list) ≡ end
    end_length = length-take-le end list inside

    count_inside : at < end
    count_inside = omega (arith, end_length, c.inside)

    pub count_stands : at < length list
    count_stands = omega (arith, count_inside)

    count_byte : get_or (take end list) at 0 ≡ get_or list at 0
    count_byte = get_or-take end list at 0 count_inside

    how_many : length ts ≡ get_or list at 0
    how_many = listed_length target (take end list) ts (get_or (take end list) at 0) (at + 1) c.listed ∙ count_byte

    -- the target was read: what follows is by the numbers
    by_numbers : {o : Outcome} → o ≡ cond (ltb 254 (length ts) || ltb 32768 (length (take end list) + length new)) (refusal 18 0 list) (placed (with_one_more (take end list) new) list)
        → o ≡ append_to list (take end list) (targets_in (take end list)) new
    unfolding append_to
    by_numbers q = q ∙ rw (accept (alone_target new 0) (passes (alone_target new 0) is e)).read

    pub too_many : 254 < get_or list at 0 → (a : Answer) → Refuses 18 0 a → outcome_of a list ≡ append_to list (take end list) (targets_in (take end list)) new
    too_many h a i = by_numbers (i.is list ∙ rw (how_many, lt-ltb 254 (get_or list at 0) h))

    module _ (few : get_or list at 0 ≤ 254) where
      pub too_long : 32768 < end + length new → (a : Answer) → Refuses 18 0 a → outcome_of a list ≡ append_to list (take end list) (targets_in (take end list)) new
      too_long h a i = by_numbers (i.is list ∙ rw (how_many, le-ltb 254 (get_or list at 0) few, end_length, lt-ltb 32768 (end + length new) h))

      module _ (short : end + length new ≤ 32768) (there : at ≡ count_at (take end list)) where
        allowed : {o : Outcome} → o ≡ placed (with_one_more (take end list) new) list → o ≡ append_to list (take end list) (targets_in (take end list)) new
        allowed q = by_numbers (q ∙ rw (how_many, le-ltb 254 (get_or list at 0) few, end_length, le-ltb 32768 (end + length new) short))

        longer : with_one_more (take end list) new ≡ set (take end list) at (get_or list at 0 + 1) ++ new
        longer = with_one_more_lem (take end list) new at there c.inside ∙ ap (λ (v : ℕ). set (take end list) at (v + 1) ++ new) count_byte

        long : length (with_one_more (take end list) new) ≡ end + length new
        long = ap length longer ∙ simp (length-append, length-set) (omega (arith, end_length))

        pub no_room : length list - end < length new → (a : Answer) → Refuses 11 0 a → outcome_of a list ≡ append_to list (take end list) (targets_in (take end list)) new
        no_room h a i = allowed (placed_not (with_one_more (take end list) new) list (omega (arith, long)) a i)

        pub one_more : (t : List ℕ) (r : ℕ) → Stored (set list at (get_or list at 0 + 1)) end new t r → (a : Answer) → Writes r a → outcome_of a t ≡ append_to list (take end list) (targets_in (take end list)) new
        unfolding store
        one_more t r p a w =
            let v = get_or list at 0 + 1 in
            let h : at < end + length new = omega (arith, count_inside) in
            let size : length (set list at v) ≡ length list = length-set list at v in
            let stored : Stored list 0 (with_one_more (take end list) new) t r = record {
              room = omega (arith, long, p.room);
              next = omega (arith, long, p.next);
              bytes = p.bytes ∙ rw (take-set-lt end list at v count_inside, drop-set-lt (end + length new) list at v h, ← longer, ← long, zero-add);
            } in
            allowed (placed-fits (with_one_more (take end list) new) list t r stored a w)

pub ruleset appending_to = (rules, length-take-le, target_refused, count_stands, too_many, too_long, no_room, one_more)

-- the list is read first
module _ (buffer : List ℕ) (used : ℕ) (new : List ℕ) (end : ℕ) (same : take end buffer ≡ take used buffer) (x : Read) (is : x ≡ ending (whole target_record (take end buffer))) where
  pub list_refused : (r : Refusal) → x ≡ Err r → (a : Answer) → Refuses (number_of r) 3 a → outcome_of a buffer ≡ append buffer used new
  unfolding append
  list_refused r e a i = i.is buffer ∙ rw (← same, refused_by (whole target_record (take end buffer)) x r is e)

  module _ (p : ℕ) (e : x ≡ Ok p) where
    pub list_read : are_targets (take end buffer) ≡ true
    list_read = passes (whole target_record (take end buffer)) is e

    pub list_appended : (o : Outcome) → o ≡ append_to buffer (take end buffer) (targets_in (take end buffer)) new → o ≡ append buffer used new
    unfolding append value_or
    list_appended o q =
        let w = accept (whole target_record (take end buffer)) list_read in
        q ∙ rw (← same, w.read)

pub ruleset appending = (rules, front_inside, front_same, length-take-le, list_refused, list_read, list_appended)

-- ---- withdrawing

module _ (n : List ℕ) (st : Steps) (position : ℕ) (x : Read) (is : x ≡ ending (whole target_record n)) where
  pub unread : (r : Refusal) → x ≡ Err r → (a : Stepped) → Answered st (number_of r) 3 a → stepped_of a [] ≡ withdraw st n position
  unfolding withdraw
  unread r e a i = i.is [] ∙ rw (refused_by (whole target_record n) x r is e)

  module _ (p : ℕ) (e : x ≡ Ok p) where
    pub read_list : are_targets n ≡ true
    read_list = passes (whole target_record n) is e

    module _ (i : ℕ) (is_i : i ≡ position) (m : ℕ) (is_m : m ≡ length (targets_in n).list) where
      was_read : (st' : Steps) (number : ℕ) (a : Stepped) → Answered st' number 0 a
          → unchanged st' [] number 0 ≡ cond (ltb position (length (targets_in n).list) && is_pending st.marks position) (unchanged (marked st position 2) [] 0 0) (unchanged st [] 19 0)
          → stepped_of a [] ≡ withdraw st n position
      unfolding withdraw value_or
      was_read st' number a g q = g.is [] ∙ q ∙ rw (accept (whole target_record n) read_list).read

      pub absent : m ≤ i → (a : Stepped) → Answered st 19 0 a → stepped_of a [] ≡ withdraw st n position
      absent h a g = was_read st 19 a g (rw (le-ltb position (length (targets_in n).list) (omega arith)))

      module _ (h : i < m) where
        within : ltb position (length (targets_in n).list) ≡ true
        within = lt-ltb position (length (targets_in n).list) (omega arith)

        pub not_pending : (get_or st.marks i 0 ≡ 0 → ⊥) → (a : Stepped) → Answered st 19 0 a → stepped_of a [] ≡ withdraw st n position
        unfolding is_pending
        not_pending d a g = was_read st 19 a g (rw (within, ← is_i, ne_eqb (get_or st.marks i 0) 0 d))

        pub taken_back : get_or st.marks i 0 ≡ 0 → (st' : Steps) → st' ≡ marked st i 2 → (a : Stepped) → Answered st' 0 0 a → stepped_of a [] ≡ withdraw st n position
        unfolding is_pending
        taken_back d st' q a g = was_read st' 0 a g (rw (q, within, ← is_i, eq-eqb (get_or st.marks i 0) 0 d))

pub ruleset withdrawing = (rules, unread, read_list, absent, not_pending, taken_back)
