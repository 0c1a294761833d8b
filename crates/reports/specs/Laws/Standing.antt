-- Laws of the reports that stand in some bytes. Assumes nothing.
--     standing-held, standing-count       those of a sound sink are the reports that it holds
--     resumed-held                        and where all fitted, the buffer is taken up again as it was left
--     sound-pushAll, pushAll-long, pushAll-used    what is put in leaves a sound sink of as many bytes, of which no fewer are used
--     header-..                           a header that was read
--     further, further-sound              one more of the reports that stand there
--     standing-over, resumed-..           the cases of the code, as it learns them
use Rattle.std.specs.Prelude.{◌≡◌, refl, Bool, true, false, cond, ℕ, zero, suc, ◌+◌, ◌-◌, ◌*◌, ◌/◌, ◌%◌, ◌≤◌, ◌<◌, get_or, leb}
use Rattle.std.proofs.Math.Path.{sym, ap, ap₂}
use Rattle.std.proofs.Common.{subst, ◌∙◌, add_assoc, length-append, length-drop, take-append-drop, length-take-le, take-take, drop-drop}
use mathlib.Core.List.{List, [], ◌∷◌, ◌++◌, append_assoc, append-nil}
use native.Mathlib.Omega.{arith}
use Rattle.std.proofs.Math.ListN.{length, take, drop}
use Rattle.std.proofs.Math.Seq.{take-length, take-append_seam, drop-append_seam, take-add}
use borrow.Author.Tests.{le-leb, lt-leb, eq-eqb, ne_eqb}
use Rattle.names.specs.Lists.{any_of, gather}
use Rattle.names.specs.Fields.{number, digits}
use Rattle.names.specs.Laws.Fields.{number_front, behind_digits, eight_digits}
use Rattle.names.specs.Laws.Walks.{here, take_at_most}
use Rattle.names.specs.Laws.Words.{Bytes, WordAt}
use Rattle.names.specs.Writer.{store}
use Rattle.reports.specs.declared.State.{State}
use Rattle.reports.specs.declared.Header.{Header}
use Rattle.reports.specs.Reports.{Breach, same_pair, once, encoded, fitting}
use Rattle.reports.specs.Decode.{header, encoded_parts, width, width_is, size, long, report, behind, report_encoded, behind_encoded, fits_encoded}
use Rattle.reports.specs.Kept.{fold, Log, kept, fitting-fits}
use Rattle.reports.specs.Sink.{Sink, sink, held, more, append, push, push_all, written, Sound, start}
use Rattle.reports.specs.Laws.Sinks.{length_written, sound_written, sound_append, sound_push, sound_count, push_all_kept}
use Rattle.reports.specs.Laws.Slots.{held_count, held_used}
use Rattle.reports.specs.Standing.{standing_among, standing, standing_state, resumed, HeaderAt, Stands, Resumes}

-- ---- what was written stands there

-- as many as there are bytes are enough
among_enough : (m n : ℕ) (s : List ℕ) → length s ≤ m → length s ≤ n → standing_among m s ≡ standing_among n s
unfolding standing_among behind
among_enough zero zero s h k = refl
among_enough zero (suc n) s h k = rw (lt-leb (10 + long s) (length s) (omega arith))
among_enough (suc m) zero s h k = rw (lt-leb (10 + long s) (length s) (omega arith))
among_enough (suc m) (suc n) s h k =
    let l : length (behind s) ≡ length s - (10 + long s) = length-drop (10 + long s) s in
    ap (λ (bs : List Breach). cond (leb (10 + long s) (length s)) (report s ∷ bs) []) (among_enough m n (behind s) (omega arith) (omega arith))

-- the first, and then those behind it
standing_first : (s : List ℕ) → standing s ≡ cond (leb (10 + long s) (length s)) (report s ∷ standing (behind s)) []
unfolding standing standing_among behind
standing_first s =
    let l : length (behind s) ≡ length s - (10 + long s) = length-drop (10 + long s) s in
    among_enough (length s) (suc (length s)) s (omega arith) (omega arith)
    ∙ ap (λ (bs : List Breach). cond (leb (10 + long s) (length s)) (report s ∷ bs) []) (among_enough (length s) (length (behind s)) (behind s) (omega arith) (omega arith))

standing_one : (b : Breach) (t : List ℕ) → standing (encoded b ++ t) ≡ b ∷ standing t
standing_one b t = standing_first (encoded b ++ t) ∙ rw (le-leb (10 + long (encoded b ++ t)) (length (encoded b ++ t)) (fits_encoded b t), report_encoded, behind_encoded)

pub standing_encoded : (bs : List Breach) (t : List ℕ) → standing (gather encoded bs ++ t) ≡ bs ++ standing t
unfolding gather
standing_encoded [] t = refl
standing_encoded (b ∷ bs) t = rw append_assoc (standing_one b (gather encoded bs ++ t) ∙ ap (λ (l : List Breach). b ∷ l) (standing_encoded bs t))

standing_none : standing [] ≡ []
unfolding standing standing_among
standing_none = refl

-- a buffer with its state
module _ (s : Sink) (p : Sound s) where
  bytes_are : s.bytes ≡ gather encoded (held s) ++ drop s.state.used s.bytes
  unfolding written size
  bytes_are = ap (λ (t : Sink). t.bytes) p.is ∙ ap (λ (n : ℕ). gather encoded (held s) ++ drop n s.bytes) (sym (held_used s p))

  front-is : take s.state.used s.bytes ≡ gather encoded (held s)
  unfolding size
  front-is = ap₂ take (held_used s p) bytes_are ∙ take-append_seam (gather encoded (held s)) (drop s.state.used s.bytes)

  -- where nothing stands behind its reports, they are those that stand there
  stands_alone : standing (drop s.state.used s.bytes) ≡ [] → standing s.bytes ≡ held s
  stands_alone e = ap standing bytes_are ∙ standing_encoded (held s) (drop s.state.used s.bytes) ∙ rw (e, append-nil)

  pub standing_held : standing (take s.state.used s.bytes) ≡ held s
  standing_held = ap standing (front-is ∙ sym (append-nil (gather encoded (held s)))) ∙ standing_encoded (held s) [] ∙ rw (standing_none, append-nil)

  pub standing_count : length (standing (take s.state.used s.bytes)) ≡ s.state.count
  standing_count = ap length standing_held ∙ held_count s p

  module _ (yet : s.state.full ≡ false) where
    state-is : (t : List ℕ) → standing t ≡ held s → s.state ≡ standing_state t
    unfolding standing_state
    state-is t e = λ i. record { used = (held_used s p ∙ ap size (sym e)) i; count = (sym (held_count s p) ∙ ap length (sym e)) i; full = yet i }

    -- a buffer that is handed back as it was left
    pub resumed_held : resumed s.state.used s.bytes ≡ s
    unfolding resumed
    resumed_held = rw (← state-is (take s.state.used s.bytes) standing_held, eq-eqb s.state.used s.state.used refl)

    pub standing_over : length (drop s.state.used s.bytes) < 10 + long (drop s.state.used s.bytes) → s.state ≡ standing_state s.bytes
    standing_over h =
        let rest = drop s.state.used s.bytes in
        state-is s.bytes (stands_alone (standing_first rest ∙ rw (lt-leb (10 + long rest) (length rest) h)))

-- what is put in
pub sound_push_all : (s : Sink) (bs : List Breach) → Sound s → Sound (push_all s bs)
unfolding fold
sound_push_all s [] p = p
sound_push_all s (b ∷ bs) p = sound_push_all (push s b) bs (sound_push s b p)

pub push_all_long : (old : List ℕ) (bs : List Breach) → length (push_all (start old) bs).bytes ≡ length old
unfolding written kept
push_all_long old bs = ap (λ (s : Sink). length s.bytes) (push_all_kept old bs) ∙ length_written old (fitting (length old) (once [] bs)) (fitting-fits (length old) (once [] bs))

push_used : (s : Sink) (b : Breach) → s.state.used ≤ (push s b).state.used
unfolding push append
push_used s b = go (any_of (same_pair b) (held s)) s.state.full (leb (s.state.used + width b) (length s.bytes)) _ _ (omega arith) (omega arith)
  where
    go : (seen full fits : Bool) (more stopped : Sink) → s.state.used ≤ more.state.used → s.state.used ≤ stopped.state.used
        → s.state.used ≤ (cond seen s (cond full s (cond fits more stopped))).state.used
    go true full fits more stopped h i = omega arith
    go false true fits more stopped h i = omega arith
    go false false true more stopped h i = h
    go false false false more stopped h i = i

pub push_all_used : (s : Sink) (bs : List Breach) → s.state.used ≤ (push_all s bs).state.used
unfolding fold
push_all_used s [] = omega arith
push_all_used s (b ∷ bs) = omega (arith, push_used s b, push_all_used (push s b) bs)

-- bytes that begin with reports, and the state of these
sound_front : (s : List ℕ) (bs : List Breach) (rest : List ℕ) → s ≡ gather encoded bs ++ rest → (st : State) → st ≡ record { used = size bs; count = length bs; full = false } → Sound (sink s st)
unfolding written size
sound_front s bs rest e st q =
    let l : Log = record { kept = bs; full = false } in
    let is : sink s st ≡ written s l =
    λ i. sink ((e ∙ ap (λ (t : List ℕ). gather encoded bs ++ t) (sym (ap (drop (size bs)) e ∙ drop-append_seam (gather encoded bs) rest))) i) (q i) in
    subst Sound (sym is) (sound_written s l (omega (arith, ap length e, length-append (gather encoded bs) rest)))

-- ---- a buffer that is handed back: t is the bytes that are used
module _ (s : List ℕ) (used : ℕ) (t : List ℕ) (front : t ≡ take used (drop 0 s)) (st : State) (is : st ≡ standing_state t) (p : Sound (sink t st)) where
  abbrev bs : List Breach
  bs = held (sink t st)

  state_of : st ≡ record { used = size bs; count = length bs; full = false }
  unfolding standing_state
  state_of = λ i. record { used = held_used (sink t st) p i; count = sym (held_count (sink t st) p) i; full = ap (λ (x : State). x.full) is i }

  used_state : standing_state (take used s) ≡ st
  used_state = ap standing_state (sym front) ∙ sym is

  within_used : st.used ≤ used
  within_used = omega (arith, p.within, ap length front, take_at_most used s)

  within_all : st.used ≤ length s
  within_all = omega (arith, p.within, ap length front, simp length-append at (ap length (take-append-drop used s)))

  -- the reports are the first bytes of the whole buffer
  taken : take st.used s ≡ gather encoded bs
  taken = sym (take-take st.used used s within_used) ∙ ap (take st.used) (sym front) ∙ front-is (sink t st) p

  pub resumed_all : st.used ≡ used → Resumes s used (record { state = st; size = length s })
  unfolding resumed
  resumed_all e =
      let r : resumed used s ≡ sink s st = rw (used_state, eq-eqb st.used used e) in
      record {
        is = ap (λ (b : List ℕ). sink b st) (take-length s) ∙ sym r;
        sound = rw r (sound_front s bs (drop st.used s) (sym (take-append-drop st.used s) ∙ ap (λ (b : List ℕ). b ++ drop st.used s) taken) st state_of);
        within = omega arith;
      }

  pub resumed_part : (st.used ≡ used → ⊥) → Resumes s used (record { state = st; size = st.used })
  unfolding resumed
  resumed_part e =
      let r : resumed used s ≡ sink (take st.used s) st = rw (used_state, ne_eqb st.used used e) in
      record { is = sym r; sound = rw r (sound_front (take st.used s) bs [] (taken ∙ sym (append-nil (gather encoded bs))) st state_of); within = within_all }

-- ---- a header that was read

-- a number that is made of bytes has these as its digits
digits_behind : (k n : ℕ) (w : List ℕ) → Bytes w → digits (suc (k + length w)) (number n w) ≡ digits (suc k) n ++ w
unfolding number Bytes digits
digits_behind k n [] h =
    let e : k + 0 ≡ k = omega arith in
    rw (e, append-nil)
digits_behind k n (d ∷ w) h =
    let e : k + length (d ∷ w) ≡ suc k + length w = omega arith in
    let q : (n * 256 + d) / 256 ≡ n = omega (arith, h.0) in
    let r : (n * 256 + d) % 256 ≡ d = omega (arith, h.0) in
    rw e (digits_behind (suc k) (n * 256 + d) w h.1 ∙ rw (q, r, append_assoc))

digits_number : (w : List ℕ) → 0 < length w → Bytes w → digits (length w) (number 0 w) ≡ w
unfolding number Bytes digits
digits_number [] l h = absurd (omega arith)
digits_number (a ∷ w) l h =
    let e : 0 + length w ≡ length w = omega arith in
    let z : 0 * 256 + a ≡ a = omega arith in
    rw z (rw (e, z) at (digits_behind 0 (0 * 256 + a) w h.1))

module _ (s : List ℕ) (at : ℕ) (inside : at + 10 ≤ length s) where
  -- its first eight bytes, and the two behind them
  eight : (both : ℕ) → WordAt s at both → take 8 (drop at s) ≡ digits 4 (both / 4294967296) ++ digits 4 (both % 4294967296)
  eight both w =
      let l : length (take 8 (drop at s)) ≡ 8 = length-take-le 8 (drop at s) (simp length-drop (omega arith)) in
      let d : digits 8 both ≡ take 8 (drop at s) = rw w.is (rw l at (digits_number (take 8 (drop at s)) (omega arith) w.bytes)) in
      sym d ∙ sym (eight_digits both)

  two : (high low : ℕ) → high ≡ get_or s (at + 8) 0 → low ≡ get_or s (at + 9) 0 → low < 256 → take 2 (drop 8 (drop at s)) ≡ digits 2 (high * 256 + low)
  unfolding digits
  two high low h k l =
      let next : at + 8 + 1 ≡ at + 9 = omega arith in
      let q : (high * 256 + low) / 256 ≡ high = omega arith in
      let r : (high * 256 + low) % 256 ≡ low = omega arith in
      rw (drop-drop, here s (at + 8) (omega arith), next, here s (at + 9) (omega arith), q, r, h, k)

  pub header_read : (both : ℕ) → WordAt s at both → (high : ℕ) → high ≡ get_or s (at + 8) 0 → (low : ℕ) → low ≡ get_or s (at + 9) 0 → low < 256 → HeaderAt s at (record { start = both / 4294967296; end = both % 4294967296; long = high * 256 + low })
  unfolding header
  header_read both w high h low k l = record { is = take-add 8 2 (drop at s) ∙ ap₂ (λ (a b : List ℕ). a ++ b) (eight both w) (two high low h k l) }

long_behind : (a b n : ℕ) (t : List ℕ) → long (header a b n ++ t) ≡ n
unfolding header
long_behind a b n t =
    let rest = digits 4 b ++ (digits 2 n ++ t) in
    let parts : header a b n ++ t ≡ digits 4 a ++ rest = rw (append_assoc, append_assoc) in
    let behind : drop 8 (header a b n ++ t) ≡ digits 2 n ++ t = ap (drop 8) parts ∙ sym (drop-drop 4 4 (digits 4 a ++ rest)) ∙ ap (drop 4) (behind_digits 4 a rest) ∙ behind_digits 4 b (digits 2 n ++ t) in
    ap (λ (u : List ℕ). number 0 (take 2 u)) behind ∙ number_front 1 n t

module _ (s : List ℕ) (at : ℕ) (h : Header) (r : HeaderAt s at h) where
  abbrev from : List ℕ
  from = drop at s

  parted : from ≡ header h.start h.end h.long ++ drop 10 from
  parted = sym (take-append-drop 10 from) ∙ ap (λ (t : List ℕ). t ++ drop 10 from) r.is

  pub header_long : long from ≡ h.long
  header_long = ap long parted ∙ long_behind h.start h.end h.long (drop 10 from)

  -- with its message behind it, which is all there
  module _ (m : List ℕ) (is : m ≡ take h.long (drop (at + 10) s)) (fits : at + 10 + h.long ≤ length s) where
    abbrev b : Breach
    b = record { start = h.start; end = h.end; message = m }

    message : m ≡ take h.long (drop 10 from)
    message = is ∙ ap (take h.long) (sym (drop-drop 10 at s))

    as_long : length m ≡ h.long
    as_long = ap length is ∙ length-take-le h.long (drop (at + 10) s) (simp length-drop (omega arith))

    in_front : from ≡ encoded b ++ drop (at + 10 + h.long) s
    in_front =
        parted
        ∙ ap (λ (t : List ℕ). header h.start h.end h.long ++ t) (sym (take-append-drop h.long (drop 10 from)))
        ∙ rw (← message, ← as_long, drop-drop, drop-drop, encoded_parts, append_assoc, add_assoc)

    pub header_report : report from ≡ b
    header_report = ap report in_front ∙ report_encoded b (drop (at + 10 + h.long) s)

    pub header_stands : Stands s at (at + 10 + h.long)
    header_stands = record { within = fits; is = in_front ∙ ap (λ (x : Breach). encoded x ++ drop (at + 10 + h.long) s) (sym header_report) }

-- ---- one more of the reports that stand there

module _ (s : List ℕ) (st : State) (p : Sound (sink s st)) (yet : st.full ≡ false) (next : ℕ) (stands : Stands s st.used next) where
  abbrev one : Breach
  one = report (drop st.used s)

  ends : st.used + width one ≡ next
  ends = omega (arith, p.within, stands.within, ap length stands.is, length-append (encoded one) (drop next s), length-drop st.used s, length-drop next s)

  -- it is as if it were put in: its bytes are there
  pub further : sink s (more st next) ≡ append (sink s st) one
  unfolding append store
  further =
      let fits : st.used + width one ≤ length s = omega (arith, ends, stands.within) in
      let same : s ≡ take st.used s ++ encoded one ++ drop (st.used + width one) s = sym (take-append-drop st.used s) ∙ ap (λ (t : List ℕ). take st.used s ++ t) stands.is ∙ rw (← ends, append_assoc) in
      rw (yet, le-leb (st.used + width one) (length s) fits) λ i. sink (same i) (more st (sym ends i))

  pub further_sound : Sound (sink s (more st next))
  further_sound = subst Sound (sym further) (sound_append (sink s st) one p)

  pub further_count : st.count < next
  further_count = omega (arith, ends, width_is one, sound_count (sink s st) p)

  pub further_on : st.used < next
  further_on = omega (arith, ends, width_is one)
