-- Laws of the sink. Assumes nothing.
--     sound-start                              what the first call of a run requires
--     recorded-none, recorded-then             nothing is reported; one call behind the other
--     appended_one                             one breach
--     reporting-..                             a loop over a list
--     pushAll-reported, appendAll-reported     a run from no report answers and leaves what `reported` says
--     push-.., append-.., room-..              the cases of the code, as it learns them
use Rattle.std.specs.Prelude.{◌≡◌, Bool, not, ℕ, ◌+◌, ◌-◌, ◌≤◌, ◌<◌, drop, ltb}
use Rattle.std.proofs.Math.Path.{refl}
use Rattle.std.proofs.Common.{sym, ap, subst, subst₂, ◌∙◌, true≢false, arith, length-append, length-drop, drop-drop}
use Rattle.std.proofs.Math.Bool.{true, false, cond}
use Rattle.std.proofs.lemmas.Bool.{false≢true}
use mathlib.Core.List.{List, [], ◌∷◌, ◌++◌, append-nil}
use Rattle.std.proofs.Math.ListN.{length}
use Rattle.std.proofs.Math.Seq.{take-append_seam, drop-append_seam, drop-append-add}
use Rattle.std.proofs.Math.Dec.{leb}
use borrow.Author.Tests.{leb-true, le-leb, lt-leb}
use Rattle.names.specs.Lists.{any_of, gather}
use Rattle.names.specs.Laws.Lists.{gather_append}
use Rattle.names.specs.Writer.{store, Stored}
use Rattle.names.specs.Laws.Writers.{stored_more, stored_length}
use Rattle.reports.specs.declared.State.{State}
use Rattle.reports.specs.Reports.{Breach, same_pair, once, encoded, fitting, reported}
use Rattle.reports.specs.Decode.{header, length_header, encoded_parts, width, width_is, size, Whole, reports_encoded, whole_encoded}
use Rattle.reports.specs.Kept.{fold, fold_append, Log, empty, step, step_once, kept, steps_kept, steps_once, size_nil, size_cons, size_snoc, full_fewer}
use Rattle.reports.specs.Sink.{Sink, sink, held, more, stopped, append, push, append_all, push_all, room_for, written, log_of, Sound, Recorded, Appended, start, outcome}

-- ---- a log, written

pub log_written : (old : List ℕ) (l : Log) → log_of (written old l) ≡ l
unfolding written
log_written old l = λ i. record { kept = reports_encoded l.kept (drop (length (gather encoded l.kept)) old) i; full = l.full }

pub length_written : (old : List ℕ) (rs : List Breach) → size rs ≤ length old → length (gather encoded rs ++ drop (length (gather encoded rs)) old) ≡ length old
unfolding size
length_written old rs h = simp (length-append, length-drop) (omega arith)

-- one more report stored behind those that stand there
snoc_bytes : (old : List ℕ) (rs : List Breach) (b : Breach)
    → store (gather encoded rs ++ drop (length (gather encoded rs)) old) (length (gather encoded rs)) (encoded b)
    ≡ gather encoded (rs ++ (b ∷ [])) ++ drop (length (gather encoded (rs ++ (b ∷ [])))) old
unfolding store gather
snoc_bytes old rs b = rw (take-append_seam, drop-append-add, drop-drop, gather_append, append-nil, length-append)

append_at : (old : List ℕ) (rs : List Breach) (b : Breach) → size rs ≤ length old
    → (full room : Bool) → leb (size rs + width b) (length old) ≡ room
    → append (written old (record { kept = rs; full = full })) b ≡ written old (step (length old) (record { kept = rs; full = full }) b)
unfolding append written step store size
append_at old rs b h true room e = refl
append_at old rs b h false true e = rw (length_written, e) λ i. record {
  bytes = snoc_bytes old rs b i;
  state = record { used = sym (size_snoc rs b) i; count = sym (length-append rs (b ∷ [])) i; full = false };
}
append_at old rs b h false false e = rw (length_written, e)

pub append_written : (old : List ℕ) (l : Log) (b : Breach) → size l.kept ≤ length old
    → append (written old l) b ≡ written old (step (length old) l b)
append_written old l b h = append_at old l.kept b h l.full (leb (size l.kept + width b) (length old)) refl

push_written : (old : List ℕ) (l : Log) (b : Breach) → size l.kept ≤ length old
    → push (written old l) b ≡ written old (step_once (length old) l b)
unfolding push step_once
push_written old l b h =
    let e : held (written old l) ≡ l.kept = ap (λ (k : Log). k.kept) (log_written old l) in
    rw e (elim (any_of (same_pair b) l.kept) as (λ t. cond t (written old l) (append (written old l) b) ≡ written old (cond t l (step (length old) l b)))
    [ true ↦ refl | false ↦ append_written old l b h ])

-- what a sound sink is
pub sound_whole : (s : Sink) → Sound s → Whole s.state.count s.bytes
unfolding written
sound_whole s p =
    subst₂ Whole (sym (ap (λ (t : Sink). t.state.count) p.is)) (sym (ap (λ (t : Sink). t.bytes) p.is)) (whole_encoded (held s) (drop (length (gather encoded (held s))) s.bytes))

length_size : (rs : List Breach) → length rs ≤ size rs
length_size [] = omega arith
length_size (r ∷ rs) = rw size_cons (omega (arith, width_is r, length_size rs))

pub sound_count : (s : Sink) → Sound s → s.state.count ≤ s.state.used
unfolding written size
sound_count s p = omega (arith, ap (λ (t : Sink). t.state.count) p.is, ap (λ (t : Sink). t.state.used) p.is, length_size (held s))

pub sound_size : (s : Sink) → Sound s → size (held s) ≤ length s.bytes
unfolding written size
sound_size s p = omega (arith, ap (λ (t : Sink). t.state.used) p.is, p.within)

fits_at : (L : ℕ) (rs : List Breach) (b : Breach) → size rs ≤ L → (full room : Bool) → leb (size rs + width b) L ≡ room
    → size (step L (record { kept = rs; full = full }) b).kept ≤ L
unfolding step
fits_at L rs b h true room e = h
fits_at L rs b h false true e = rw (e, size_snoc) (leb-true _ _ e)
fits_at L rs b h false false e = rw e h

pub step_fits : (L : ℕ) (l : Log) (b : Breach) → size l.kept ≤ L → size (step L l b).kept ≤ L
step_fits L l b h = fits_at L l.kept b h l.full (leb (size l.kept + width b) L) refl

stepOnce-fits : (L : ℕ) (l : Log) (b : Breach) → size l.kept ≤ L → size (step_once L l b).kept ≤ L
unfolding step_once
stepOnce-fits L l b h = elim (any_of (same_pair b) l.kept) as (λ t. size (cond t l (step L l b)).kept ≤ L) [ true ↦ h | false ↦ step_fits L l b h ]

rewritten : (old : List ℕ) (l : Log) → written (written old l).bytes l ≡ written old l
unfolding written
rewritten old l = rw drop-append_seam

-- a log that fits is sound as it is written
pub sound_written : (old : List ℕ) (l : Log) → size l.kept ≤ length old → Sound (written old l)
unfolding written size
sound_written old l h = record {
  is = sym (ap (written (written old l).bytes) (log_written old l) ∙ rewritten old l);
  within = rw (length_written old l.kept) h;
}

pub sound_append : (s : Sink) (b : Breach) → Sound s → Sound (append s b)
sound_append s b p =
    let L = length s.bytes in
    let h = sound_size s p in
    subst Sound (sym (ap (λ (t : Sink). append t b) p.is ∙ append_written s.bytes (log_of s) b h))
    (sound_written s.bytes (step L (log_of s) b) (step_fits L (log_of s) b h))

pub sound_push : (s : Sink) (b : Breach) → Sound s → Sound (push s b)
unfolding push
sound_push s b p = elim (any_of (same_pair b) (held s)) as (λ t. Sound (cond t s (append s b))) [ true ↦ p | false ↦ sound_append s b p ]

-- ---- for a caller; f is `push` or `append`, or puts in something else than breaches

-- nothing is reported; one call behind the other
module _ {B : Type 0} {f : Sink → B → Sink} {fit : Sink → Type 0} where
  pub recorded_none : (s : List ℕ) (st : State) → fit (sink s st) → Recorded f fit s st [] s st
  unfolding fold
  recorded_none s st p = record { still = p; is = refl }

  module _ {s s' : List ℕ} {st st' : State} {xs : List B} (p : Recorded f fit s st xs s' st') where
    pub recorded_more : (ys : List B) → fold f (sink s' st') ys ≡ fold f (sink s st) (xs ++ ys)
    recorded_more ys = ap (λ (t : Sink). fold f t ys) p.is ∙ sym (fold_append f (sink s st) xs ys)

    pub recorded_then : {next : Sink → Type 0} {s'' : List ℕ} {st'' : State} {ys : List B} → Recorded f next s' st' ys s'' st'' → Recorded f next s st (xs ++ ys) s'' st''
    recorded_then {ys = ys} q = record { still = q.still; is = q.is ∙ recorded_more ys }

-- one breach
pub appended_one : {s s' : List ℕ} {st st' : State} → Sound (sink s st) → (b : Breach) → sink s' st' ≡ append (sink s st) b → Appended s st (b ∷ []) s' st'
unfolding fold
appended_one {s} {s'} {st} p b e = record { still = subst Sound (sym e) (sound_append (sink s st) b p); is = e }

-- a loop that reports what g says of each of a list: what is left of the list, put in, makes the whole
pub record Reporting {A B : Type 0} (f : Sink → B → Sink) (fit : Sink → Type 0) (g : A → List B) (whole now : Sink) (left : List A) : Type 0 where
  pub still : fit now
  pub same : fold f now (gather g left) ≡ whole

module _ {A B : Type 0} (f : Sink → B → Sink) {fit : Sink → Type 0} (g : A → List B) where
  pub reporting_begins : (s : Sink) (xs : List A) → fit s → Reporting f fit g (fold f s (gather g xs)) s xs
  reporting_begins s xs p = record { still = p; same = refl }

  pub reporting_next : {next : Sink → Type 0} {whole : Sink} {s s' : List ℕ} {st st' : State} {x : A} {left : List A}
      → Reporting f fit g whole (sink s st) (x ∷ left) → Recorded f next s st (g x) s' st' → Reporting f next g whole (sink s' st') left
  unfolding gather
  reporting_next {left = left} r p = record { still = p.still; same = recorded_more p (gather g left) ∙ r.same }

  pub reporting_over : {s s' : List ℕ} {st st' : State} {bs : List B} → Reporting f fit g (fold f (sink s st) bs) (sink s' st') [] → Recorded f fit s st bs s' st'
  unfolding fold gather
  reporting_over r = record { still = r.still; is = r.same }

-- ---- a run: from no report, over a buffer that holds anything

start_written : (old : List ℕ) → start old ≡ written old empty
unfolding written gather
start_written old = refl

pub sound_start : (old : List ℕ) → Sound (start old)
sound_start old = subst Sound (sym (start_written old)) (sound_written old empty (rw size_nil (omega arith)))

-- a fold over sinks is the fold over logs
module _ (f : Sink → Breach → Sink) (g : ℕ → Log → Breach → Log)
    (is : (old : List ℕ) (l : Log) (b : Breach) → size l.kept ≤ length old → f (written old l) b ≡ written old (g (length old) l b))
    (fits : (L : ℕ) (l : Log) (b : Breach) → size l.kept ≤ L → size (g L l b).kept ≤ L) where
  fold_written : (old : List ℕ) (l : Log) (bs : List Breach) → size l.kept ≤ length old
      → fold f (written old l) bs ≡ written old (fold (g (length old)) l bs)
  unfolding fold
  fold_written old l [] h = refl
  fold_written old l (b ∷ bs) h = rw (is old l b h) (fold_written old (g (length old) l b) bs (fits (length old) l b h))

pub append_all_kept : (old : List ℕ) (bs : List Breach) → append_all (start old) bs ≡ written old (kept (length old) bs)
append_all_kept old bs =
    ap (λ (s : Sink). append_all s bs) (start_written old)
    ∙ fold_written append step append_written step_fits old empty bs (rw size_nil (omega arith))
    ∙ ap (written old) (steps_kept (length old) bs)

pub push_all_kept : (old : List ℕ) (bs : List Breach) → push_all (start old) bs ≡ written old (kept (length old) (once [] bs))
push_all_kept old bs =
    ap (λ (s : Sink). push_all s bs) (start_written old)
    ∙ fold_written push step_once push_written stepOnce-fits old empty bs (rw size_nil (omega arith))
    ∙ ap (written old) (steps_once (length old) empty bs ∙ steps_kept (length old) (once [] bs))

swapped : (t : Bool) → ◌≡◌ {A = ℕ} (cond t 11 0) (cond (not t) 0 11)
swapped true = refl
swapped false = refl

written_reported : (old : List ℕ) (bs : List Breach) → outcome (written old (kept (length old) bs)) ≡ reported bs old
unfolding written kept reported
written_reported old bs = rw full_fewer λ i. record {
  answer = record { number = swapped (ltb (length old) (size bs)) i; record_number = 0; count = length (fitting (length old) bs) };
  buffer = gather encoded (fitting (length old) bs) ++ drop (length (gather encoded (fitting (length old) bs))) old;
}

-- breaches put in one by one, from no report, leave and answer what the definition says
pub append_all_reported : (old : List ℕ) (bs : List Breach) → outcome (append_all (start old) bs) ≡ reported bs old
append_all_reported old bs = ap outcome (append_all_kept old bs) ∙ written_reported old bs

pub push_all_reported : (old : List ℕ) (bs : List Breach) → outcome (push_all (start old) bs) ≡ reported (once [] bs) old
push_all_reported old bs = ap outcome (push_all_kept old bs) ∙ written_reported old (once [] bs)

-- ---- the cases of the code, as it learns them

-- whether there is room for a report
module _ (s : List ℕ) (st : State) (long : ℕ) where
  pub room_full : st.full ≡ true → false ≡ room_for (sink s st) long
  unfolding room_for
  room_full f = rw f

  module _ (f : st.full ≡ false) (p : Sound (sink s st)) where
    pub room_over : length s - st.used < 10 + long → false ≡ room_for (sink s st) long
    unfolding room_for
    room_over h =
        let over : length s < st.used + (10 + long) = omega (arith, p.within) in
        rw (f, lt-leb _ _ over)

    pub room_left : 10 + long ≤ length s - st.used → true ≡ room_for (sink s st) long
    unfolding room_for
    room_left h =
        let left : st.used + (10 + long) ≤ length s = omega (arith, p.within) in
        rw (f, le-leb _ _ left)

-- what room_for says, t being the code's answer
record Room (s : List ℕ) (st : State) (long : ℕ) : Type 0 where
  open_yet : st.full ≡ false
  left : st.used + (10 + long) ≤ length s

has_room : (s : List ℕ) (st : State) (long : ℕ) (full fits : Bool) → st.full ≡ full → leb (st.used + (10 + long)) (length s) ≡ fits → room_for (sink s st) long ≡ true → Room s st long
unfolding room_for
has_room s st long true fits e g h = absurd (false≢true (rw e at h))
has_room s st long false false e g h = absurd (false≢true (rw (e, g) at h))
has_room s st long false true e g h = record { open_yet = e; left = leb-true _ _ g }

-- where there is room: for the header, for the message behind it, and so many reports fit a number
module _ (s : List ℕ) (st : State) (long : ℕ) {t : Bool} (is : t ≡ room_for (sink s st) long) (e : t ≡ true) where
  room : Room s st long
  room = has_room s st long st.full (leb (st.used + (10 + long)) (length s)) refl refl (sym is ∙ e)

  pub header_room : st.used + (10 + long) ≤ length s
  header_room = room.left

  pub message_room : (start end : ℕ) {s' : List ℕ} {at : ℕ} → Stored s st.used (header start end long) s' at → at + long ≤ length s'
  message_room start end h = omega (arith, h.next, length_header start end long, stored_length h, room.left)

pub count_room : (s : List ℕ) (st : State) (start end long : ℕ) {s' : List ℕ} {at : ℕ} → Stored s st.used (header start end long) s' at
    → (m : List ℕ) {s'' : List ℕ} {next : ℕ} → Stored s' at m s'' next → Sound (sink s st) → st.count < next
count_room s st start end long h m b p = omega (arith, sound_count (sink s st) p, h.next, b.next, length_header start end long)

-- a state that is full stays as it is
full_state : (st : State) → st.full ≡ true → stopped st ≡ st
full_state st e = λ i. record { used = st.used; count = st.count; full = sym e i }

-- one report behind those that stand there: its header, then its message; long is the message's length as it was measured
module _ (s : List ℕ) (st : State) (b : Breach) (long : ℕ) where
  stops_at : long ≡ length b.message → (full fits : Bool) → st.full ≡ full → leb (st.used + (10 + long)) (length s) ≡ fits → room_for (sink s st) long ≡ false
      → sink s (stopped st) ≡ append (sink s st) b
  unfolding append room_for
  stops_at q true fits e g h = rw (full_state st e, e)
  stops_at q false true e g h = absurd (true≢false (rw (e, g) at h))
  stops_at q false false e g h = rw (e, width_is, ← q, g)

  module _ {t : Bool} (is : t ≡ room_for (sink s st) long) (measured : long ≡ length b.message) where
    pub append_stopped : t ≡ false → {r : State} → r ≡ stopped st → sink s r ≡ append (sink s st) b
    append_stopped e q = ap (sink s) q ∙ stops_at measured st.full (leb (st.used + (10 + long)) (length s)) refl refl (sym is ∙ e)

    pub append_stored : t ≡ true → {s' s'' : List ℕ} {at next : ℕ} → Stored s st.used (header b.start b.end long) s' at
        → Stored s' at b.message s'' next → {r : State} → r ≡ more st next → sink s'' r ≡ append (sink s st) b
    unfolding append
    append_stored e {s'} {s''} h m q =
        let there = room s st long is e in
        let whole = stored_more (rw measured at h) m in
        let fits : leb (st.used + width b) (length s) ≡ true = rw (width_is, ← measured) (le-leb _ _ there.left) in
        rw (there.open_yet, fits, encoded_parts b) (ap (sink s'') q ∙ λ i. sink (whole.bytes i) (more st (whole.next i)))

module _ (s : List ℕ) (st : State) (b : Breach) where
  append_full : st.full ≡ true → sink s st ≡ append (sink s st) b
  unfolding append
  append_full f = rw f

  pub push_full : st.full ≡ true → sink s st ≡ push (sink s st) b
  unfolding push
  push_full f =
      elim (any_of (same_pair b) (held (sink s st))) as (λ t. sink s st ≡ cond t (sink s st) (append (sink s st) b)) [ true ↦ refl | false ↦ append_full f ]

  -- t is what the search for the pair answered
  pub push_old : {t : Bool} → t ≡ any_of (same_pair b) (held (sink s st)) → t ≡ true → sink s st ≡ push (sink s st) b
  unfolding push
  push_old is e = rw (← is, e)

  pub push_new : {t : Bool} {r : Sink} → t ≡ any_of (same_pair b) (held (sink s st)) → t ≡ false → r ≡ append (sink s st) b → r ≡ push (sink s st) b
  unfolding push
  push_new is e a = rw (← is, e) a
