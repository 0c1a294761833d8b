-- What stands where the first part of a node does, by the kind of the node. Assumes nothing.
use Rattle.std.specs.Prelude.{◌≡◌, true, false, List, [], ◌∷◌, ◌++◌, ℕ, ◌+◌, ◌≤◌, ◌<◌, get_or, Ok}
use Rattle.std.proofs.Math.Path.{refl, ap}
use Rattle.std.proofs.Common.{sym, ap₂, ◌∙◌, arith, rules}
use Rattle.std.proofs.Math.Bool.{false≢true}
use borrow.Author.Tests.{ne_eqb, le-leb, lt-leb}
use Rattle.std.proofs.Math.Dec.{eqb}
use Rattle.names.specs.Fields.{Got, got}
use Rattle.names.specs.Read.{ending}
use Rattle.names.specs.Laws.Readers.{is_accepted, has_value}
use Rattle.condition.specs.Condition.{Condition, aggregate}
use Rattle.condition.specs.Condition as tree
use Rattle.condition.specs.Walk.{reached, reached_in, declares}
use Rattle.condition.specs.Places.{version_in, is_condition, condition_in, is_term, term_in, is_aggregate, aggregate_in, binder_in}
use Rattle.nodes.specs.Kinds.{kind_of, one_kind, two_kind, window_kind, term_kind_of}
use Rattle.nodes.specs.Offsets.{window_length, behind_span, first_part, term_part, op_length, left_part, aggregate_part}
use Rattle.nodes.specs.Looked.{TermKindHere, OneHere, TwoHere, ComparedHere, QuantifiedHere, AddedHere, AggregateHere}
use Rattle.nodes.specs.Laws.Views.{aggregate_view}
use Rattle.nodes.specs.Laws.Opens.{condition_value, term_value, condition_stands, condition_index, raw_kind, two_here, one_here, comparison_here, exists_here, term_stands, raw_term, arith_here}

-- what was read ends where its last part does
pub same_end : {A B : Type 0} {g : Got A} {h : Got B} {a : A} {b : B} {n : ℕ} → g ≡ got a n → h ≡ got b n → ending g ≡ ending h
unfolding ending
same_end e f = rw (e, f)

pub ended : {A : Type 0} {g : Got A} {a : A} {n : ℕ} → g ≡ got a n → ending g ≡ Ok n
unfolding ending
ended e = rw e

module _ (s : List ℕ) (at : ℕ) where
  pub part_compared : get_or s at 0 ≡ 8 → at + 9 + 1 ≡ first_part s at
  unfolding first_part behind_span
  part_compared e = rw e

  module _ (other : get_or s at 0 ≡ 8 → ⊥) where
    pub part_low : get_or s at 0 < 4 → at + 9 ≡ first_part s at
    unfolding first_part behind_span
    part_low h = rw (ne_eqb _ 8 other, lt-leb 4 (get_or s at 0) h) (omega arith)

    module _ (l : 4 ≤ get_or s at 0) where
      pub part_high : 6 < get_or s at 0 → at + 9 ≡ first_part s at
      unfolding first_part behind_span
      part_high h = rw (ne_eqb _ 8 other, le-leb 4 (get_or s at 0) l, lt-leb (get_or s at 0) 6 h) (omega arith)

      pub part_windowed : get_or s at 0 ≤ 6 → (r : ℕ) → r ≡ window_length (version_in s) s (at + 9) → at + 9 + r ≡ first_part s at
      unfolding first_part behind_span
      part_windowed h r e = rw (ne_eqb _ 8 other, le-leb 4 (get_or s at 0) l, le-leb (get_or s at 0) 6 h, e)

  module _ (acc : is_condition s at ≡ true) where
    pub place_compared : (p : ℕ) → p ≡ first_part s at → kind_of (condition_in s at) ≡ 8 → p ≡ at + 10
    place_compared p e is = let i = part_compared (raw_kind s at acc 8 (λ q. omega arith) is) in omega arith

    module _ (p : ℕ) (e : p ≡ first_part s at) (k : ℕ) (o : k ≡ kind_of (condition_in s at)) where
      place_kind : (k ≡ 11 → ⊥) → p ≡ at + 9 + behind_span (version_in s) k s at
      unfolding first_part
      place_kind i = e ∙ ap (λ j. at + 9 + behind_span (version_in s) j s at) (raw_kind s at acc k i (sym o))

      pub place_other : eqb k 8 ≡ false → window_kind k ≡ false → (k ≡ 11 → ⊥) → p ≡ at + 9
      unfolding behind_span
      place_other h w i = place_kind i ∙ rw (h, w) (omega arith)

      pub two_inside : two_kind k ≡ true → TwoHere s at p
      unfolding reached
      two_inside h =
          let v = two_here s at acc k o h in
          let i = place_kind (λ q. false≢true (rw q at h)) in
          rw i (record {
            second = v.middle;
            stands = is_accepted v.reads;
            ahead = omega arith;
            between = ended v.reads;
            behind = is_accepted v.further;
            reaches = rw (condition_value s refl v.reads, condition_value s refl v.further) (ap reached v.whole ∙ ap (λ x. x ∷ (reached v.left ++ reached v.right)) (sym v.whole));
            ends = same_end (condition_stands s at acc).read v.further;
          })

      pub one_inside : one_kind k ≡ true → OneHere s at p
      unfolding reached
      one_inside h =
          let v = one_here s at acc k o h in
          let i = place_kind (λ q. false≢true (rw q at h)) in
          rw i (record {
            stands = is_accepted v.reads;
            ahead = omega arith;
            reaches = rw (condition_value s refl v.reads) (ap reached v.whole ∙ ap (λ x. x ∷ reached v.body) (sym v.whole));
            ends = same_end (condition_stands s at acc).read v.reads;
          })

      pub compared_inside : k ≡ 8 → ComparedHere s at p
      unfolding reached
      compared_inside h =
          let v = comparison_here s at acc (sym o ∙ h) in
          let i : p ≡ at + 10 = place_compared p e (sym o ∙ h) in
          rw i (record {
            second = v.middle;
            stands = is_accepted v.reads;
            ahead = omega arith;
            between = ended v.reads;
            behind = is_accepted v.further;
            reaches = rw (term_value s refl v.reads, term_value s refl v.further) (ap reached v.whole ∙ ap (λ x. x ∷ (reached_in v.left ++ reached_in v.right)) (sym v.whole));
            ends = same_end (condition_stands s at acc).read v.further;
          })

      pub quantified_inside : k ≡ 9 → QuantifiedHere s at p
      unfolding reached binder_in declares
      quantified_inside h =
          let v = exists_here s at acc (sym o ∙ h) in
          let i = place_other (ap (λ j. eqb j 8) h) (ap window_kind h) (λ q. omega arith) in
          rw i (record {
            body = v.middle;
            stands = is_accepted v.declares;
            value = ap declares v.whole ∙ ap (λ b. b ∷ []) (sym (has_value _ v.declares));
            ahead = omega arith;
            between = ended v.declares;
            behind = is_accepted v.reads;
            reaches = rw (condition_value s refl v.reads) (ap reached v.whole ∙ ap (λ x. x ∷ reached v.body) (sym v.whole));
            ends = same_end (condition_stands s at acc).read v.reads;
          })

  pub term_place : (p : ℕ) → p ≡ term_part s at → p ≡ at + 1
  unfolding term_part
  term_place p e = e

  pub left_place : (p : ℕ) → p ≡ left_part s at → p ≡ at + 1 + op_length (version_in s)
  unfolding left_part
  left_place p e = e

  pub added_inside : is_term s at ≡ true → (p : ℕ) → p ≡ left_part s at → term_kind_of (term_in s at) ≡ 12 → AddedHere s at p
  added_inside acc p e is =
      let v = arith_here s at acc is in
      rw (left_place p e) (record {
        op = v.op;
        second = v.middle;
        stands = is_accepted v.reads;
        ahead = omega arith;
        between = ended v.reads;
        behind = is_accepted v.further;
        value = v.whole ∙ ap₂ (tree.arith v.op) (sym (term_value s refl v.reads)) (sym (term_value s refl v.further));
        ends = same_end (term_stands s at acc).read v.further;
      })

  module _ (acc : is_term s at ≡ true) (p : ℕ) (e : p ≡ term_part s at) where
    pub aggregate_inside : (k : ℕ) → TermKindHere s at k → k ≡ 11 → AggregateHere s at p
    unfolding term_part aggregate_in
    aggregate_inside k o is =
        let v = aggregate_view (version_in s) s at (term_stands s at acc).read (raw_term s at acc 11 (λ i. omega arith) (sym o.kind ∙ is)) in
        rw e (record {
          stands = is_accepted v.reads;
          ahead = omega arith;
          value = v.whole ∙ ap aggregate (sym (has_value _ v.reads));
          ends = same_end (term_stands s at acc).read v.reads;
        })

    pub aggregate_first : (k : ℕ) → TermKindHere s at k → k ≡ 11 → is_aggregate s p ≡ true
    aggregate_first k o is = (aggregate_inside k o is).stands

pub term-part-is : (s : List ℕ) (at : ℕ) → at + 1 ≡ term_part s at
unfolding term_part
term-part-is s at = refl

module _ (s : List ℕ) (at v : ℕ) (is : v ≡ version_in s) where
  pub left_before : v ≤ 2 → at + 1 ≡ left_part s at
  unfolding left_part op_length
  left_before h = rw (← is, le-leb v 2 h) (omega arith)

  pub left_behind : 2 < v → at + 2 ≡ left_part s at
  unfolding left_part op_length
  left_behind h = rw (← is, lt-leb v 2 h) (omega arith)

pub aggregate-part-is : (s : List ℕ) (at : ℕ) → at + 9 ≡ aggregate_part s at
unfolding aggregate_part
aggregate-part-is s at = refl

pub ruleset inside_room = (rules, condition_index, part_compared, part_low, part_high, part_windowed, term-part-is, left_before, left_behind, aggregate-part-is)
