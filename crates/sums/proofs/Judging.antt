-- The report of one Sum: the cases of the code, as it learns them. Assumes nothing.
use mathlib.Core.Path.{◌≡◌, refl, sym, ap, ◌∙◌}
use mathlib.Core.Bool.{Bool, true, false, ◌||◌}
use mathlib.Core.List.{List, [], ◌∷◌, ◌++◌}
use mathlib.Core.Option.{Option, some}
use Prim.Native.Nat.{ℕ, ◌+◌, ◌≤◌, ◌<◌}
use native.Mathlib.Omega.{arith}
use borrow.Author.Rules.{rules}
use lib.ListN.{length}
use lib.Dec.{lit<}
use Rattle.std.specs.Prelude.{None, Some}
use Rattle.names.specs.Names.{same, last_of}
use Rattle.names.specs.Read.{word_at}
use Rattle.names.specs.Text.{text}
use Rattle.names.specs.Writer.{Stored}
use Rattle.nodes.specs.declared.Bound.{Bound}
use Rattle.nodes.specs.declared.Bound.TheVariants.{Segments, Timepoint, Nothing}
use Rattle.nodes.specs.declared.SlotAt.{SlotAt}
use Rattle.nodes.specs.declared.SlotAt.TheVariants.{Named, ParamRef, BinderRef}
use Rattle.nodes.specs.declared.Ends.{Ends}
use Rattle.names.specs.Lists.{maybe}
use Rattle.condition.specs.Condition.{Slot, Binder, Annotation, sum, path}
use Rattle.nodes.specs.Kinds.{aggregate_kind_of, aggregate_span_of}
use Rattle.condition.specs.Places.{aggregate_in}
use Rattle.nodes.specs.Laws.Pieces.{summand_inside, summand_slot}
use Rattle.nodes.specs.Parts.{segments_in, SegmentsHere, is_binders, binders_in, BindersHere, bound_in, BoundStands, BoundBy, slot_of, SummandHere, Spans, SlotHere}
use Rattle.condition.specs.Walk.{declared_by, last_named}
use Rattle.walk.specs.Scopes.{Binding}
use Rattle.walk.specs.Enclosing.{binding_in}
use Rattle.walk.specs.Laws.Named.{last_append}
use Rattle.walk.specs.declared.Binding as walk
use Rattle.walk.specs.declared.Binding.TheVariants as code
use Rattle.reports.specs.declared.Message.TheVariants.{CannotSum, CannotSumTimepoint, CannotSumDecimal}
use Rattle.reports.specs.declared.State.{State}
use Rattle.reports.specs.Decode.{header}
use Rattle.reports.specs.Sink.{sink, more, stopped, room_for, Sound, Appended}
use Rattle.reports.specs.Laws.Sinks.{header_room, message_room, count_room, append_stored, append_stopped, recorded_none, appended_one}
use Rattle.messages.specs.declared.Word.TheVariants as Word
use Rattle.messages.specs.declared.Word.TheVariants.{Name, Joined}
use Rattle.messages.specs.declared.Sentence.{Sentence}
use Rattle.messages.specs.Words.{Said, text_of, quoted, Stands, say, said_breaches, SaidStands, Tells, span_in}
use Rattle.messages.specs.Laws.Lengths.{Bytes, text_within}
use Rattle.sums.specs.Summands.{SummandIs}
use Rattle.sums.specs.Sums.{summand_breach, summand_binders, aggregate_breaches}

-- `decimal` and `Decimal`
module _ (w : List ℕ) (b : Bool) (is : b ≡ same w (100 ∷ 101 ∷ 99 ∷ 105 ∷ 109 ∷ 97 ∷ 108 ∷ [])) where
  pub small_decimal : b ≡ true → true ≡ (same w (text "decimal") || same w (text "Decimal"))
  unfolding text
  small_decimal e = rw (← is, e)

  pub large_decimal : b ≡ false → (r : Bool) → r ≡ same w (68 ∷ 101 ∷ 99 ∷ 105 ∷ 109 ∷ 97 ∷ 108 ∷ []) → r ≡ (same w (text "decimal") || same w (text "Decimal"))
  unfolding text
  large_decimal e r j = rw (← is, e) j

pub ruleset decimals = (rules, small_decimal, large_decimal)

-- A path: w is its last segment.
module _ (s : List ℕ) (at p : ℕ) (there : word_at s p ≡ last_of (segments_in s at)) (w : List ℕ) (is : w ≡ word_at s p) (b : Bool) (long : b ≡ same w (76 ∷ 111 ∷ 110 ∷ 103 ∷ [])) (name : ℕ) where
  last : last_of (segments_in s at) ≡ w
  last = sym (is ∙ there)

  pub path_long : b ≡ true → Tells s s (summand_breach (word_at s name) (some (path (segments_in s at)))) None
  unfolding summand_breach text
  path_long e = record { is = λ span. rw (last, ← long, e); stands = tt }

  module _ (e : b ≡ false) (d : Bool) (decimal : d ≡ (same w (text "decimal") || same w (text "Decimal"))) where
    pub path_decimal : d ≡ true → (r : Said) → r ≡ say CannotSumDecimal (Name name) (Name name) Word.Nothing Word.Nothing → Tells s s (summand_breach (word_at s name) (some (path (segments_in s at)))) r
    unfolding summand_breach text quoted
    path_decimal i r j = rw j (record { is = λ span. rw (last, ← long, e, ← decimal, i); stands = record { first = tt; second = tt; third = tt; fourth = tt; below = lit< tt } })

    pub path_other : d ≡ false → SegmentsHere s at → length s ≤ 32768 → (r : Said) → r ≡ say CannotSum (Name name) (Name name) (Joined at) Word.Nothing → Tells s s (summand_breach (word_at s name) (some (path (segments_in s at)))) r
    unfolding summand_breach text quoted
    path_other i h k r j = rw j (record { is = λ span. rw (last, ← long, e, ← decimal, i); stands = record { first = tt; second = tt; third = (h, k); fourth = tt; below = lit< tt } })

pub ruleset paths = (rules, path_long, path_decimal, path_other)

-- What the name is bound to.
module _ (s : List ℕ) (x : Bound) where
  pub segments_there : BoundStands s x → (p : ℕ) → x ≡ Segments p → SegmentsHere s p
  segments_there h p e = rw e at h

  module _ (name : ℕ) where
    pub bound_path : (p : ℕ) → x ≡ Segments p → (r : Said) → Tells s s (summand_breach (word_at s name) (some (path (segments_in s p)))) r → Tells s s (summand_breach (word_at s name) (bound_in s x)) r
    bound_path p e r j = rw e j

    pub bound_timepoint : x ≡ Timepoint → (r : Said) → r ≡ say CannotSumTimepoint (Name name) (Name name) Word.Nothing Word.Nothing → Tells s s (summand_breach (word_at s name) (bound_in s x)) r
    unfolding summand_breach quoted
    bound_timepoint e r j = rw (e, j) (record { is = λ span. refl; stands = record { first = tt; second = tt; third = tt; fourth = tt; below = lit< tt } })

    pub bound_nothing : x ≡ Nothing → Tells s s (summand_breach (word_at s name) (bound_in s x)) None
    unfolding summand_breach
    bound_nothing e = rw e (record { is = λ span. refl; stands = tt })

pub ruleset bounds = (rules, segments_there, bound_path, bound_timepoint, bound_nothing)

-- What is said, put in: nothing; a message, measured, behind its header; or no room for it.
module _ (s : List ℕ) (x : Said) (old : List ℕ) (st : State) (span : Ends) where
  pub said_nothing : x ≡ None → Sound (sink old st) → Appended old st (said_breaches s s x (span_in span)) old st
  said_nothing e p = rw e (recorded_none old st p)

  module _ (m : Sentence) (e : x ≡ Some m) (stands : SaidStands s s x) where
    pub message_stands : Stands s s m
    message_stands = rw e at stands

    module _ (long : ℕ) (is : long ≡ length (text_of s s m)) where
      pub long_below : Bytes s → long < 65536
      long_below bytes = omega (arith, text_within s s bytes m message_stands, message_stands.below)

      module _ (t : Bool) (room : t ≡ room_for (sink old st) long) where
        module _ (y : t ≡ true) (s' : List ℕ) (at : ℕ) (h : Stored old st.used (header span.start span.end long) s' at) where
          pub text_room : at + length (text_of s s m) ≤ length s'
          text_room = omega (arith, message_room old st long room y span.start span.end h)

          pub message_appended : {s'' : List ℕ} {next : ℕ} → Stored s' at (text_of s s m) s'' next → {r : State} → r ≡ more st next → Sound (sink old st) → Appended old st (said_breaches s s x (span_in span)) s'' r
          message_appended w q p = rw e (appended_one p _ (append_stored old st _ long room is y h w q))

        pub message_stopped : t ≡ false → {r : State} → r ≡ stopped st → Sound (sink old st) → Appended old st (said_breaches s s x (span_in span)) old r
        message_stopped n q p = rw e (appended_one p _ (append_stopped old st _ long room is n q))

pub ruleset appending = (rules, header_room, count_room, said_nothing, message_stands, long_below, text_room, message_appended, message_stopped)

-- A Sum is no call.
pub sum_no_call : (s : List ℕ) (at : ℕ) → aggregate_kind_of (aggregate_in s at) ≡ 1 → aggregate_kind_of (aggregate_in s at) ≡ 3 → ⊥
sum_no_call s at e f = omega (arith, e, f)

-- The summand's slot.
pub slot_is : (s : List ℕ) (at p : ℕ) → SummandHere s at p → (x : SlotAt) → SlotHere s p x → SummandIs s at x
slot_is s at p h x i = record {
  declared = h.declared;
  body = h.body;
  value = h.value ∙ ap (λ (l : Slot). sum (aggregate_span_of (aggregate_in s at)) l h.declared h.body) i.value;
}

pub ruleset summands = (rules, summand_inside, summand_slot, slot_is)

module _ (d : Binding) (bs : List Binder) (s : List ℕ) (at : ℕ) (x : SlotAt) (h : SummandIs s at x) (old : List ℕ) (st : State) where
  pub slot_param : x ≡ ParamRef → Sound (sink old st) → Appended old st (aggregate_breaches d bs (aggregate_in s at)) old st
  unfolding aggregate_breaches
  slot_param e k = rw (h.value, e) (recorded_none old st k)

  pub slot_binder : x ≡ BinderRef → Sound (sink old st) → Appended old st (aggregate_breaches d bs (aggregate_in s at)) old st
  unfolding aggregate_breaches
  slot_binder e k = rw (h.value, e) (recorded_none old st k)

  module _ (q : ℕ) (e : x ≡ Named q) (w : List ℕ) (is : w ≡ word_at s q) (b : Bound) (says : BoundBy s (last_named w (summand_binders d bs (declared_by (aggregate_in s at)))) b) (ends : Ends) (spans : Spans (aggregate_span_of (aggregate_in s at)) ends) where
    pub slot_named : (said : Said) → Tells s s (summand_breach (word_at s q) (bound_in s b)) said → (new : List ℕ) (r : State) → Appended old st (said_breaches s s said (span_in ends)) new r → Appended old st (aggregate_breaches d bs (aggregate_in s at)) new r
    unfolding aggregate_breaches declared_by
    slot_named said tells new r j =
        let span : span_in ends ≡ aggregate_span_of (aggregate_in s at) = λ k. record { start = spans.start k; end = spans.end k } in
        let list : h.declared ≡ declared_by (aggregate_in s at) = sym (ap declared_by h.value) in
        let v : aggregate_breaches d bs (aggregate_in s at) ≡ summand_breach (word_at s q) (last_named (word_at s q) (summand_binders d bs (declared_by (aggregate_in s at)))) (aggregate_span_of (aggregate_in s at)) =
        ap (aggregate_breaches d bs) h.value
        ∙ ap (λ (y : SlotAt). aggregate_breaches d bs (sum (aggregate_span_of (aggregate_in s at)) (slot_of s y) h.declared h.body)) e
        ∙ ap (λ (l : List Binder). summand_breach (word_at s q) (last_named (word_at s q) (summand_binders d bs l)) (aggregate_span_of (aggregate_in s at))) list in
        rw (v, ← is, ← says.value, is, ← span, ← tells.is (span_in ends)) j

pub ruleset slots = (rules, sum_no_call, slot_param, slot_binder, slot_named)

-- What binds the summand's name: in the flat environment what binds it at the place; else the aggregate's own list, and then what is around.
module _ (s name : List ℕ) (bs list : List Binder) (d : walk.Binding) (r : Bound) where
  pub by_flat : d ≡ code.Flat → BoundBy s (last_named name bs) r → BoundBy s (last_named name (summand_binders (binding_in d) bs list)) r
  unfolding binding_in
  by_flat e h = rw e h

  pub by_own : d ≡ code.Own → BoundBy s (last_named name (bs ++ list)) r → BoundBy s (last_named name (summand_binders (binding_in d) bs list)) r
  unfolding binding_in
  by_own e h = rw e h

pub ruleset either_way = (rules, by_flat, by_own)

module _ (s : List ℕ) (at p : ℕ) (here : BindersHere s at p) (name : List ℕ) (x : Bound) (says : BoundBy s (last_named name (binders_in s p)) x) (bs : List Binder) where
  listed : last_named name (bs ++ declared_by (aggregate_in s at)) ≡ maybe (last_named name bs) some (bound_in s x)
  listed = last_append name bs (declared_by (aggregate_in s at)) ∙ ap (λ (o : Option Annotation). maybe (last_named name bs) some o) (ap (last_named name) here.value ∙ sym says.value)

  listed_path : (q : ℕ) → x ≡ Segments q → BoundBy s (last_named name (bs ++ declared_by (aggregate_in s at))) x
  listed_path q e = record { stands = says.stands; value = rw listed (rw e) }

  listed_timepoint : x ≡ Timepoint → BoundBy s (last_named name (bs ++ declared_by (aggregate_in s at))) x
  listed_timepoint e = record { stands = says.stands; value = rw listed (rw e) }

  pub listed_here : (x ≡ Nothing → ⊥) → BoundBy s (last_named name (bs ++ declared_by (aggregate_in s at))) x
  listed_here h = go x refl
    where
      go : (y : Bound) → x ≡ y → BoundBy s (last_named name (bs ++ declared_by (aggregate_in s at))) x
      go (Segments q) e = listed_path q e
      go Timepoint e = listed_timepoint e
      go Nothing e = absurd (h e)

  pub listed_nowhere : x ≡ Nothing → (r : Bound) → BoundBy s (last_named name bs) r → BoundBy s (last_named name (bs ++ declared_by (aggregate_in s at))) r
  listed_nowhere e r h = record { stands = h.stands; value = h.value ∙ sym (listed ∙ rw e) }

  pub listed_stands : is_binders s p ≡ true
  listed_stands = here.stands

pub ruleset own_first = (rules, listed_stands, listed_here, listed_nowhere)
