-- A whole run of Sums. Assumes nothing.
use mathlib.Core.Path.{◌≡◌, refl, ap, ◌∙◌}
use mathlib.Core.Bool.{true}
use mathlib.Core.List.{List}
use Prim.Native.Nat.{ℕ}
use native.Mathlib.Omega.{arith}
use borrow.Author.Rules.{rules}
use Rattle.names.specs.Fields.{Got, got, bad, either, whole, number_of}
use Rattle.names.specs.Read.{ending, value_or, Read}
use Rattle.names.specs.Laws.Readers.{passes}
use Rattle.condition.specs.Condition.{Condition, opaque, condition_record}
use lib.Seq.{length-take-le}
use Rattle.condition.specs.Places.{nowhere, is_record, record_in}
use Rattle.condition.specs.Laws.Records.{record_small}
use Rattle.reports.specs.declared.Answer.{Answer}
use Rattle.reports.specs.Reports.{refusal, reported}
use Rattle.reports.specs.Laws.Sinks.{sound_start}
use Rattle.reports.specs.Answers.{outcome_of, Refuses, appended}
use Rattle.walk.specs.Scopes.{Binding, binding_of}
use Rattle.walk.specs.Enclosing.{binding_in}
use Rattle.walk.specs.declared.Binding as walk
use Rattle.sums.specs.Sums.{breaches, sums_with, sums}
use Rattle.std.specs.Prelude.{Ok, Err}
use Rattle.names.specs.declared.refusal.Refusal.{Refusal}

pub ruleset run_over = (rules, length-take-le, record_small, sound_start, appended)

-- by what the reader answered
module _ (d : Binding) (g : Got Condition) (x : Read) (is : x ≡ ending g) (old : List ℕ) where
  stopped : (n : Refusal) → x ≡ Err n → refusal (number_of n) 2 old ≡ either (λ r. refusal r 2 old) (λ c. reported (breaches d c) old) g
  unfolding ending
  stopped n e = go g is
    where
      go : (g : Got Condition) → x ≡ ending g → refusal (number_of n) 2 old ≡ either (λ r. refusal r 2 old) (λ c. reported (breaches d c) old) g
      go (got a m) i = let z : ◌≡◌ {A = ℕ} 0 1 = cc in absurd (omega arith)
      go (bad r) i = let q : n ≡ r = cc in ap (λ (k : Refusal). refusal (number_of k) 2 old) q

  went : (n : ℕ) → x ≡ Ok n → reported (breaches d (value_or (opaque nowhere) g)) old ≡ either (λ r. refusal r 2 old) (λ c. reported (breaches d c) old) g
  unfolding ending value_or
  went n e = go g is
    where
      go : (g : Got Condition) → x ≡ ending g → reported (breaches d (value_or (opaque nowhere) g)) old ≡ either (λ r. refusal r 2 old) (λ c. reported (breaches d c) old) g
      go (got a m) i = refl
      go (bad r) i = let z : ◌≡◌ {A = ℕ} 0 1 = cc in absurd (omega arith)

module _ (rules : ℕ) (s : List ℕ) (x : Read) (is : x ≡ ending (whole condition_record s)) (old : List ℕ) (r : Answer) where
  pub sums_refused : (n : Refusal) → x ≡ Err n → Refuses (number_of n) 2 r → outcome_of r old ≡ sums_with rules s old
  unfolding sums_with
  sums_refused n e h = h.is old ∙ stopped (binding_of rules) (whole condition_record s) x is old n e

  module _ (n : ℕ) (e : x ≡ Ok n) where
    pub sums_reads : is_record s ≡ true
    sums_reads = passes (whole condition_record s) is e

    pub sums_reported : (d : walk.Binding) → binding_in d ≡ binding_of rules → (new : List ℕ) → outcome_of r new ≡ reported (breaches (binding_in d) (record_in s)) old → outcome_of r new ≡ sums_with rules s old
    unfolding sums_with record_in
    sums_reported d is_d new h = h ∙ rw is_d (went (binding_of rules) (whole condition_record s) x is old n e)

pub ruleset running = (rules, sums_refused, sums_reads, sums_reported)

pub no_rules : (s old new : List ℕ) (r : Answer) → outcome_of r new ≡ sums_with 0 s old → outcome_of r new ≡ sums s old
unfolding sums
no_rules s old new r h = h

pub ruleset unruled = (rules, no_rules)
