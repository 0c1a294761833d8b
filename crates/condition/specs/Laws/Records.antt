-- An accepted record: its size, and its condition, which stands at place 5, is read in the version that stands in the record, and ends where the record
-- does. Assumes nothing.
use Rattle.std.specs.Prelude.{◌≡◌, Bool, cond, List, [], ◌∷◌, ℕ, ◌≤◌, eqb}
use Rattle.std.proofs.Math.Path.{refl, sym, ap}
use Rattle.std.proofs.Common.{◌∙◌}
use Rattle.std.proofs.Math.Bool.{true, false}
use Rattle.std.proofs.lemmas.Bool.{false≢true}
use borrow.Author.Tests.{leb-true, eqb-true}
use Rattle.std.proofs.Math.Dec.{leb}
use Rattle.std.proofs.Math.ListN.{length}
use Rattle.names.specs.Fields.{got, bad, heading, levels, finished, whole}
use Rattle.names.specs.Read.{accepted}
use Rattle.names.specs.Laws.Readers.{split, held, heading_place, heading_version, whole_read, accept, is_accepted, has_value}
use Rattle.condition.specs.Condition.{condition_at, condition_record_up_to, condition_record}
use Rattle.condition.specs.Places.{is_record, record_in, version_in, condition_here, is_condition, condition_in}
use Rattle.names.specs.declared.refusal.Refusal.TheVariants.{TooLong, BytesAfter}

module _ (s : List ℕ) (acc : is_record s ≡ true) where
  pub record_read : condition_here s 5 ≡ got (record_in s) (length s)
  unfolding condition_record_up_to condition_record record_in version_in finished
  record_read =
      let w = accept (whole condition_record s) acc in
      let a = split (heading (68 ∷ 87 ∷ 67 ∷ []) 3 s 0) _ (whole_read condition_record s w.read) in
      let b = split (condition_at a.value levels s a.place) _ a.rest in
      let f = held BytesAfter (eqb b.place (length s)) s b.rest in
      let p : a.place ≡ 5 = heading_place (68 ∷ 87 ∷ 67 ∷ []) 3 s a.first in
      let v : a.value ≡ version_in s = heading_version (68 ∷ 87 ∷ 67 ∷ []) 3 s a.first in
      let x : record_in s ≡ b.value = has_value _ w.read ∙ sym f.value in
      let n : b.place ≡ length s = eqb-true b.place (length s) f.passed in
      ap (λ w. condition_at w levels s 5) (sym v) ∙ ap (condition_at a.value levels s) (sym p) ∙ b.first ∙ ap (λ y. got y b.place) (sym x) ∙ ap (got (record_in s)) n

  pub record_small : length s ≤ 32768
  unfolding whole accepted
  record_small = go (leb (length s) 32768) refl acc
    where
      go : (b : Bool) → leb (length s) 32768 ≡ b → accepted (cond b (condition_record s 0) (bad TooLong)) ≡ true → length s ≤ 32768
      go true e h = leb-true _ _ e
      go false e h = absurd (false≢true h)

  pub record_starts : is_condition s 5 ≡ true
  record_starts = is_accepted record_read

  pub record_value : condition_in s 5 ≡ record_in s
  unfolding condition_in
  record_value = has_value _ record_read
