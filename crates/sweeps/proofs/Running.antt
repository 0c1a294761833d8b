-- A whole listing: the window of a condition, the reached conditions, the record. Assumes nothing.
use mathlib.Core.Path.{◌≡◌, refl, ap, ◌∙◌}
use mathlib.Core.Bool.{true, false≢true}
use mathlib.Core.List.{List, [], ◌∷◌, ◌++◌, map}
use Prim.Native.Nat.{ℕ, ◌+◌, ◌≤◌, ◌<◌}
use native.Mathlib.Omega.{arith}
use borrow.Author.Rules.{rules}
use borrow.Author.Tests.{eq-eqb, ne_eqb}
use lib.ListN.{length, drop, drop_of_length-le}
use lib.Seq.{length-take-le}
use Rattle.names.specs.Lists.{gather}
use Rattle.names.specs.Fields.{Got, got, bad, either, whole, number_of}
use Rattle.names.specs.Read.{ending, accepted, value_or, Read}
use Rattle.names.specs.Laws.Readers.{passes, refused_by}
use Rattle.condition.specs.Condition.{Condition, opaque, condition_record}
use Rattle.condition.specs.Places.{nowhere, is_record, record_in, condition_in}
use Rattle.condition.specs.Walk.{reached}
use Rattle.nodes.specs.declared.Ends.{Ends}
use Rattle.nodes.specs.declared.WindowAt.{WindowAt}
use Rattle.nodes.specs.declared.WindowAt.TheVariants.{Unsaid, Parameter, Seconds}
use Rattle.nodes.specs.Kinds.{span_of}
use Rattle.nodes.specs.Parts.{WindowHere, Spans}
use Rattle.walk.specs.Index.{nodes_of, Index, Reached}
use Rattle.reports.specs.declared.Answer.{Answer}
use Rattle.reports.specs.declared.State.{State}
use Rattle.reports.specs.Kept.{fold}
use Rattle.reports.specs.Reports.{refusal}
use Rattle.reports.specs.Sink.{Sink, sink, none, outcome}
use Rattle.reports.specs.Answers.{outcome_of, Answers, Refuses}
use Rattle.reports.specs.Laws.Sinks.{recorded_none, Reporting, reporting_begins, reporting_next, reporting_over}
use Rattle.sweeps.specs.Entries.{Entry, listed}
use Rattle.sweeps.specs.Entering.{enter, Fit, Entered}
use Rattle.sweeps.specs.Windows.{concrete_of, concrete_in, concrete_windows, in_sweeps, entries, swept, windows}
use Rattle.sweeps.specs.Laws.Entries.{fit_start, all_listed}
use Rattle.std.specs.Prelude.{Ok, Err}
use Rattle.names.specs.declared.refusal.Refusal.{Refusal}

-- ---- the window of one condition

module _ (s : List ℕ) (at period : ℕ) (x : WindowAt) (h : WindowHere s at x) (old : List ℕ) (st : State) where
  pub window_seconds : (n : ℕ) → x ≡ Seconds n → (ends : Ends) → Spans (span_of (condition_in s at)) ends → {new : List ℕ} {r : State}
      → Entered old st (in_sweeps period (record { start = ends.start; length = n }) ∷ []) new r → Entered old st (map (in_sweeps period) (concrete_in (condition_in s at))) new r
  unfolding concrete_in concrete_of
  window_seconds n e ends span j = rw (h.value, e, ← span.start) j

  pub window_parameter : x ≡ Parameter → Fit (sink old st) → Entered old st (map (in_sweeps period) (concrete_in (condition_in s at))) old st
  unfolding concrete_in concrete_of
  window_parameter e p = rw (h.value, e) (recorded_none old st p)

  pub window_unsaid : x ≡ Unsaid → Fit (sink old st) → Entered old st (map (in_sweeps period) (concrete_in (condition_in s at))) old st
  unfolding concrete_in concrete_of
  window_unsaid e p = rw (h.value, e) (recorded_none old st p)

pub ruleset conditions = (rules, window_seconds, window_parameter, window_unsaid)

-- ---- all of them

abbrev pub each : ℕ → Condition → List Entry
each period c = map (in_sweeps period) (concrete_in c)

map-append : {A B : Type 0} (f : A → B) (xs ys : List A) → map f (xs ++ ys) ≡ map f xs ++ map f ys
map-append f [] ys = refl
map-append f (x ∷ xs) ys = ap (λ l. f x ∷ l) (map-append f xs ys)

each_gathered : (period : ℕ) (cs : List Condition) → map (in_sweeps period) (gather concrete_in cs) ≡ gather (each period) cs
unfolding gather
each_gathered period [] = refl
each_gathered period (c ∷ cs) = map-append (in_sweeps period) (concrete_in c) (gather concrete_in cs) ∙ ap (λ l. each period c ++ l) (each_gathered period cs)

entries_gathered : (period : ℕ) (c : Condition) → entries period c ≡ gather (each period) (reached c)
unfolding entries concrete_windows
entries_gathered period c = each_gathered period (reached c)

abbrev pub PlacesLeft : List ℕ → ℕ → Sink → Sink → ℕ → Type 0
PlacesLeft s period whole now i = Reporting enter Fit (each period) whole now (drop i (nodes_of s))

module _ (s : List ℕ) (period : ℕ) where
  pub places_begin : (a : Sink) → Fit a → PlacesLeft s period (fold enter a (entries period (record_in s))) a 0
  places_begin a k = rw entries_gathered (reporting_begins enter (each period) a (nodes_of s) k)

  pub places_done : {old now : List ℕ} {st₀ st : State} {es : List Entry} (i : ℕ) → PlacesLeft s period (fold enter (sink old st₀) es) (sink now st) i → (places : List ℕ) → Index s places → length places ≤ i → Entered old st₀ es now st
  places_done i l places h k =
      let over : length (nodes_of s) ≤ i = omega (arith, h.size) in
      let e : drop i (nodes_of s) ≡ [] = drop_of_length-le (nodes_of s) over in
      reporting_over enter (each period) (rw e at l)

  pub places_turn : {whole : Sink} {now next : List ℕ} {st r : State} (i : ℕ) → PlacesLeft s period whole (sink now st) i → (at : ℕ) → Reached s i at → Entered now st (map (in_sweeps period) (concrete_in (condition_in s at))) next r → PlacesLeft s period whole (sink next r) (i + 1)
  places_turn i l at h e = reporting_next enter (each period) (rw h.rest at l) e

pub ruleset placing = (rules, fit_start, places_begin, places_done, places_turn)

-- ---- the record

pub entered_listed : (old new : List ℕ) (st : State) (r : Answer) (es : List Entry) → Entered old none es new st → Answers st r → outcome_of r new ≡ listed es old
entered_listed old new st r es p a = a.is new ∙ ap outcome p.is ∙ all_listed old es

pub ruleset recording = (rules, length-take-le, entered_listed)

module _ (period : ℕ) (old : List ℕ) (c : Condition) (r : Answer) where
  pub no_period : period ≡ 0 → Refuses 14 0 r → outcome_of r old ≡ swept period old c
  unfolding swept
  no_period e h = rw (eq-eqb period 0 e) (h.is old)

  pub with_period : (n : ℕ) → n ≡ period → 0 < n → (new : List ℕ) → outcome_of r new ≡ listed (entries n c) old → outcome_of r new ≡ swept period old c
  unfolding swept
  with_period n e some new h = rw (ne_eqb period 0 (λ z. omega arith)) (rw e at h)

pub ruleset sweeping = (rules, no_period, with_period)

read_value : {A B : Type 0} (d : A) (f : ℕ → B) (k : A → B) (g : Got A) → accepted g ≡ true → k (value_or d g) ≡ either f k g
unfolding accepted value_or
read_value d f k (got a n) e = refl
read_value d f k (bad r) e = absurd (false≢true e)

module _ (s : List ℕ) (period : ℕ) (x : Read) (is : x ≡ ending (whole condition_record s)) (old : List ℕ) (r : Answer) where
  pub windows_refused : (n : Refusal) → x ≡ Err n → Refuses (number_of n) 2 r → outcome_of r old ≡ windows s period old
  unfolding windows
  windows_refused n e h = rw (refused_by (whole condition_record s) x n is e) (h.is old)

  module _ (n : ℕ) (e : x ≡ Ok n) where
    pub windows_reads : is_record s ≡ true
    windows_reads = passes (whole condition_record s) is e

    pub windows_swept : (new : List ℕ) → outcome_of r new ≡ swept period old (record_in s) → outcome_of r new ≡ windows s period old
    unfolding windows record_in
    windows_swept new h = h ∙ read_value (opaque nowhere) (λ k. refusal k 2 old) (swept period old) (whole condition_record s) windows_reads

pub ruleset running = (rules, windows_refused, windows_reads, windows_swept)
