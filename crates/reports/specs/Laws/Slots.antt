-- Laws of the table of slots: what a search knows on its way, and what one entry more changes. Assumes nothing.
use Rattle.std.specs.Prelude.{◌≡◌, ◌⊎◌, Bool, cond, ◌||◌, ℕ, zero, suc, ◌+◌, ◌-◌, ◌≤◌, ◌<◌, get_or, set, take, replicate, ltb, leb, eqb}
use Rattle.std.proofs.Math.Path.{refl, sym, ap}
use Rattle.std.proofs.Common.{subst, ◌∙◌, inl, inr, ⊎_elim, true≢false, arith, mod-lt, eq-or-lt_of_le, add_comm, add-one, length-set, length-drop, drop-drop, get_or-drop, get_or-set_same, get_or-set_other, below_more, ltb-true, ltb-false, lt-ltb, le-ltb, eqb-true, eq-eqb, ne_eqb}
use Rattle.std.proofs.Math.Bool.{true, false}
use Rattle.std.proofs.lemmas.Bool.{false≢true, eqb-false}
use mathlib.Core.List.{List, [], ◌∷◌, ◌++◌, append_assoc}
use Rattle.std.proofs.Math.ListN.{length, drop, length-append}
use Rattle.std.proofs.Math.Seq.{drop-append_seam}
use Rattle.names.specs.Lists.{any_of, gather}
use Rattle.names.specs.Laws.Lists.{any_append, gather_append}
use Rattle.names.specs.Names.{same}
use Rattle.names.specs.Writer.{Stored}
use Rattle.names.specs.Laws.Writers.{stored_text}
use Rattle.names.specs.Laws.Names.{same_eq, and_left, and_right}
use Rattle.reports.specs.declared.State.{State}
use Rattle.reports.specs.Reports.{Breach, same_pair, encoded}
use Rattle.reports.specs.Decode.{width, size, reports, long, long_at, report, report_encoded, fits_encoded}
use Rattle.reports.specs.Kept.{fold, Log, step}
use Rattle.reports.specs.Sink.{Sink, sink, held, append, push, Sound, written, log_of, start}
use Rattle.reports.specs.Laws.Sinks.{log_written, length_written, append_written, step_fits, sound_size, sound_start, sound_push}
use Rattle.reports.specs.Slots.{key_of, slots_of, hashed, first_slot, slot_at, Met, taken, EntryOf, Meets, Tabled, FreeFor, room, is_open, Filed, Empty, Lent, Pushed}

-- ---- the reports of a sound buffer, by the size of those before them

module _ (s : Sink) (p : Sound s) (before : List Breach) (b : Breach) (after : List Breach) (split : held s ≡ before ++ (b ∷ after)) where
  abbrev behind : List ℕ
  behind = gather encoded after ++ drop (length (gather encoded (held s))) s.bytes

  bytes_split : s.bytes ≡ gather encoded before ++ (encoded b ++ behind)
  unfolding written gather
  bytes_split =
      ap (λ (t : Sink). t.bytes) p.is
      ∙ ap (λ (bs : List Breach). gather encoded bs ++ drop (length (gather encoded (held s))) s.bytes) split
      ∙ rw (gather_append, append_assoc, append_assoc)

  stands : drop (size before) s.bytes ≡ encoded b ++ behind
  unfolding size
  stands = ap (drop (size before)) bytes_split ∙ drop-append_seam (gather encoded before) (encoded b ++ behind)

  pub report_at : report (drop (size before) s.bytes) ≡ b
  report_at = ap report stands ∙ report_encoded b behind

  pub report_whole : size before + 10 + long_at s.bytes (size before) ≤ length s.bytes
  unfolding size
  report_whole =
      let fits : 10 + long (drop (size before) s.bytes) ≤ length (drop (size before) s.bytes) = rw stands (fits_encoded b behind) in
      omega (arith, simp (drop-drop, length-drop) at fits, simp length-append at (ap length bytes_split))

-- ---- tests of all of a list, by its parts

module _ (q : Breach → Bool) where
  pub any_there : (bs before : List Breach) (b : Breach) (after : List Breach) → bs ≡ before ++ (b ∷ after) → q b ≡ true → any_of q bs ≡ true
  unfolding any_of
  any_there bs before b after e h = rw (e, any_append, h) (or-true (any_of q before))
    where
      or-true : (t : Bool) → (t || true) ≡ true
      or-true true = refl
      or-true false = refl

-- ---- the search

pub first_within : (key m : ℕ) (b : Breach) → 0 < m → first_slot key m b < m
first_within key m b h = mod-lt (hashed key b.start b.message) h

-- one of the slots, and each slot comes within as many steps as there are slots
module _ (m first : ℕ) (h : first < m) where
  pub slot_within : (k : ℕ) → k < m → slot_at m first k < m
  slot_within k l = go (ltb (first + k) m) refl
    where
      go : (t : Bool) → ltb (first + k) m ≡ t → slot_at m first k < m
      go true e = rw e (ltb-true (first + k) m e)
      go false e =
          let over : m ≤ first + k = ltb-false (first + k) m e in
          rw e (omega arith)

  -- how many steps a slot is away
  abbrev away : ℕ → ℕ
  away j = cond (ltb j first) (j + m - first) (j - first)

  away_within : (j : ℕ) → j < m → away j < m
  away_within j l = go (ltb j first) refl
    where
      go : (t : Bool) → ltb j first ≡ t → away j < m
      go true e =
          let under : j < first = ltb-true j first e in
          rw e (omega arith)
      go false e = rw e (omega arith)

  away_slot : (j : ℕ) → j < m → slot_at m first (away j) ≡ j
  away_slot j l = go (ltb j first) refl
    where
      go : (t : Bool) → ltb j first ≡ t → slot_at m first (away j) ≡ j
      go true e =
          let under : j < first = ltb-true j first e in
          let over : ltb (first + (j + m - first)) m ≡ false = le-ltb (first + (j + m - first)) m (omega arith) in
          rw (e, over) (omega arith)
      go false e =
          let under : first ≤ j = ltb-false j first e in
          let over : ltb (first + (j - first)) m ≡ true = lt-ltb (first + (j - first)) m (omega arith) in
          rw (e, over) (omega arith)

-- where no slot is free, all are taken
pub all_taken : (slots : List ℕ) → ((j : ℕ) → j < length slots → 0 < get_or slots j 0) → taken slots ≡ length slots
unfolding taken
all_taken [] h = refl
all_taken (e ∷ es) h = rw (ne_eqb e 0 (λ z. omega (arith, h 0 (omega arith)))) (ap suc (all_taken es (λ j l. h (suc j) (omega arith))))

-- one slot more is taken
taken_under : (x : ℕ) (xs ys : List ℕ) → taken xs ≡ taken ys + 1 → taken (x ∷ xs) ≡ taken (x ∷ ys) + 1
unfolding taken
taken_under x xs ys q = go (eqb x 0)
  where
    go : (t : Bool) → cond t (taken xs) (suc (taken xs)) ≡ cond t (taken ys) (suc (taken ys)) + 1
    go true = q
    go false = omega arith

pub taken_set : (slots : List ℕ) (j e : ℕ) → j < length slots → get_or slots j 0 ≡ 0 → 0 < e → taken (set slots j e) ≡ taken slots + 1
unfolding taken
taken_set [] j e h f p = absurd (omega arith)
taken_set (x ∷ xs) zero e h f p = rw (ne_eqb e 0 (λ z. omega arith), eq-eqb x 0 f) (omega arith)
taken_set (x ∷ xs) (suc j) e h f p = taken_under x (set xs j e) xs (taken_set xs j e (omega arith) f p)

-- what a search for the pair b knows after k steps: each slot passed has a report, and not this one
pub record Searched (key : ℕ) (s slots : List ℕ) (b : Breach) (k : ℕ) : Type 0 where
  pub passed : (i : ℕ) → i < k → 0 < get_or slots (slot_at (length slots) (first_slot key (length slots) b) i) 0
  pub other : (i : ℕ) → i < k → same_pair b (report (drop (get_or slots (slot_at (length slots) (first_slot key (length slots) b) i) 0 - 1) s)) ≡ false

pub searched_none : (key : ℕ) (s slots : List ℕ) (b : Breach) → Searched key s slots b 0
searched_none key s slots b = record { passed = λ i h. absurd (omega arith); other = λ i h. absurd (omega arith) }

-- the slot of the next step
module _ (key : ℕ) (s slots : List ℕ) (b : Breach) (k entry : ℕ) (before : Searched key s slots b k) (at : ℕ) (is : at ≡ slot_at (length slots) (first_slot key (length slots) b) k) (here : entry ≡ get_or slots at 0) where
  pub searched_more : (entry ≡ 0 → ⊥) → same_pair b (report (drop (entry - 1) s)) ≡ false → Searched key s slots b (k + 1)
  searched_more full unlike = record {
    passed = λ i h. below_more (λ n. 0 < get_or slots (slot_at (length slots) (first_slot key (length slots) b) n) 0) k before.passed (rw (← is, ← here) (omega arith)) i h;
    other = λ i h. below_more (λ n. same_pair b (report (drop (get_or slots (slot_at (length slots) (first_slot key (length slots) b) n) 0 - 1) s)) ≡ false) k before.other (rw (← is, ← here) unlike) i h;
  }

-- pairs that are alike are looked for from the same slot, and are those of the same reports
module _ (a b : Breach) (h : same_pair a b ≡ true) where
  starts : a.start ≡ b.start
  starts = eqb-true a.start b.start (and_left (eqb a.start b.start) (same a.message b.message) h)

  messages : a.message ≡ b.message
  messages = same_eq a.message b.message (and_right (eqb a.start b.start) (same a.message b.message) h)

  same_first : (key m : ℕ) → first_slot key m b ≡ first_slot key m a
  same_first key m = rw (starts, messages)

  same_any : (bs : List Breach) → any_of (same_pair b) bs ≡ any_of (same_pair a) bs
  same_any bs = rw (starts, messages)

module _ (sink : Sink) (p : Sound sink) (key : ℕ) (slots : List ℕ) (tabled : Tabled key (held sink) slots) (b : Breach) where
  -- an entry's report, and that it is whole
  pub entry_whole : (j : ℕ) → 0 < get_or slots j 0 → (get_or slots j 0 - 1) + 10 + long_at sink.bytes (get_or slots j 0 - 1) ≤ length sink.bytes
  entry_whole j h =
      let e = tabled.entries j h in
      let at : get_or slots j 0 - 1 ≡ size e.before = omega (arith, e.place) in
      rw at (report_whole sink p e.before e.here e.after e.split)

  pub entry_seen : (j : ℕ) → 0 < get_or slots j 0 → same_pair b (report (drop (get_or slots j 0 - 1) sink.bytes)) ≡ true → any_of (same_pair b) (held sink) ≡ true
  entry_seen j h q =
      let e = tabled.entries j h in
      let at : get_or slots j 0 - 1 ≡ size e.before = omega (arith, e.place) in
      any_there (same_pair b) (held sink) e.before e.here e.after e.split (rw (at, report_at sink p e.before e.here e.after e.split) at q)

  -- a free slot after k steps: none of the reports is the pair
  module _ (k : ℕ) (searched : Searched key sink.bytes slots b k) (free : get_or slots (slot_at (length slots) (first_slot key (length slots) b) k) 0 ≡ 0) where
    -- a report that has the pair would have been met: before, at, or behind the free slot
    module _ (m : Meets key (held sink) slots b) where
      met_before : m.met.steps < k → ⊥
      met_before l =
          let e = m.entry_of in
          let at : get_or slots (slot_at (length slots) (first_slot key (length slots) b) m.met.steps) 0 - 1 ≡ size e.before = omega (arith, m.met.here, e.place) in
          let other : same_pair b e.here ≡ false = rw (at, report_at sink p e.before e.here e.after e.split) at (searched.other m.met.steps l) in
          true≢false (sym m.same ∙ other)

      met_behind : k ≤ m.met.steps → ⊥
      met_behind l =
          ⊎_elim (λ same. omega (arith, m.met.here, m.entry_of.place, free, ap (λ n. get_or slots (slot_at (length slots) (first_slot key (length slots) b) n) 0) same)) (λ less. omega (arith, m.met.passed k less)) (eq-or-lt_of_le l)

      not_met : ⊥
      not_met = go (ltb m.met.steps k) refl
        where
          go : (t : Bool) → ltb m.met.steps k ≡ t → ⊥
          go true l = met_before (ltb-true m.met.steps k l)
          go false l = met_behind (ltb-false m.met.steps k l)

    pub free_new : any_of (same_pair b) (held sink) ≡ false
    free_new = go (any_of (same_pair b) (held sink)) refl
      where
        go : (t : Bool) → any_of (same_pair b) (held sink) ≡ t → t ≡ false
        go true q = absurd (not_met (tabled.met b q))
        go false q = refl

  -- and one is free while there are fewer reports than slots
  pub some_free : (k : ℕ) → length slots ≤ k → Searched key sink.bytes slots b k → length (held sink) < length slots → ⊥
  some_free k over searched fewer =
      let m : ℕ = length slots in
      let within = first_within key m b (omega arith) in
      let all = all_taken slots (λ j l. subst (λ n. 0 < get_or slots n 0) (away_slot m (first_slot key m b) within j l) (searched.passed (away m (first_slot key m b) within j) (omega (arith, away_within m (first_slot key m b) within j l)))) in
      omega (arith, all, tabled.number)

-- ---- one report more

-- a pair of a list with one more at its end: of the list, or that one's
any_snoc : (c b : Breach) (bs : List Breach) → any_of (same_pair c) (bs ++ (b ∷ [])) ≡ true → (any_of (same_pair c) bs ≡ true) ⊎ (same_pair c b ≡ true)
unfolding any_of
any_snoc c b bs h = go (any_of (same_pair c) bs) (same_pair c b) refl refl (sym (any_append (same_pair c) bs (b ∷ [])) ∙ h)
  where
    go : (t u : Bool) → any_of (same_pair c) bs ≡ t → same_pair c b ≡ u → (any_of (same_pair c) bs || (same_pair c b || false)) ≡ true → (any_of (same_pair c) bs ≡ true) ⊎ (same_pair c b ≡ true)
    go true u e g k = inl e
    go false true e g k = inr g
    go false false e g k = absurd (false≢true (rw (e, g) at k))

-- an entry stays in its slot where a free slot is taken
module _ (slots : List ℕ) (j e : ℕ) (h : j < length slots) (free : get_or slots j 0 ≡ 0) (p : 0 < e) where
  kept : (i : ℕ) → 0 < get_or slots i 0 → get_or (set slots j e) i 0 ≡ get_or slots i 0
  kept i l = get_or-set_other slots j i e 0 (λ q. omega (arith, ap (λ n. get_or slots n 0) q, free))

  still : (i : ℕ) → 0 < get_or slots i 0 → 0 < get_or (set slots j e) i 0
  still i l = rw (kept i l) l

  met_still : (first entry : ℕ) → 0 < entry → Met slots first entry → Met (set slots j e) first entry
  met_still first entry some m = record {
    steps = m.steps;
    within = rw length-set m.within;
    here = rw length-set (kept (slot_at (length slots) first m.steps) (rw m.here some) ∙ m.here);
    passed = λ k l. rw length-set (still (slot_at (length slots) first k) (m.passed k l));
  }

-- the entry of one of the reports is that of one of more
abbrev entry_more : (bs : List Breach) (b : Breach) {entry : ℕ} → EntryOf bs entry → EntryOf (bs ++ (b ∷ [])) entry
entry_more bs b x = record {
  before = x.before;
  here = x.here;
  after = x.after ++ (b ∷ []);
  split = ap (λ (l : List Breach). l ++ (b ∷ [])) x.split ∙ append_assoc x.before (x.here ∷ x.after) (b ∷ []);
  place = x.place;
}

abbrev entry_last : (bs : List Breach) (b : Breach) → EntryOf (bs ++ (b ∷ [])) (size bs + 1)
entry_last bs b = record { before = bs; here = b; after = []; split = refl; place = refl }

-- a report whose pair the slots have is there already
pub tabled_repeat : (key : ℕ) (bs : List Breach) (slots : List ℕ) → Tabled key bs slots → (b : Breach) → any_of (same_pair b) bs ≡ true → Tabled key (bs ++ (b ∷ [])) slots
tabled_repeat key bs slots tabled b h = record {
  number = omega (arith, tabled.number, length-append bs (b ∷ []));
  entries = λ j l. entry_more bs b (tabled.entries j l);
  met = λ c q.
      let m = tabled.met c (⊎_elim (λ old. old) (λ like. sym (same_any c b like bs) ∙ h) (any_snoc c b bs q)) in
      record { entry = m.entry; met = m.met; entry_of = entry_more bs b m.entry_of; same = m.same };
}

-- the slot that a search gave takes the report
module _ (key : ℕ) (bs : List Breach) (slots : List ℕ) (tabled : Tabled key bs slots) (b : Breach) (j : ℕ) (slot : FreeFor key bs slots b j) where
  abbrev entry : ℕ
  entry = size bs + 1

  slot_inside : j < length slots
  slot_inside = rw slot.is (slot_within (length slots) (first_slot key (length slots) b) (first_within key (length slots) b (omega (arith, slot.within))) slot.steps slot.within)

  here_now : get_or (set slots j entry) j 0 ≡ entry
  here_now = get_or-set_same slots j entry 0 slot_inside

  met_new : Met (set slots j entry) (first_slot key (length (set slots j entry)) b) entry
  met_new = record {
    steps = slot.steps;
    within = rw length-set slot.within;
    here = rw (length-set, ← slot.is) here_now;
    passed = λ k l. rw length-set (still slots j entry slot_inside slot.free (omega arith) (slot_at (length slots) (first_slot key (length slots) b) k) (slot.passed k l));
  }

  met_all : (c : Breach) → any_of (same_pair c) (bs ++ (b ∷ [])) ≡ true → Meets key (bs ++ (b ∷ [])) (set slots j entry) c
  met_all c h = ⊎_elim (λ q. old (tabled.met c q)) (λ q. new q) (any_snoc c b bs h)
    where
      old : Meets key bs slots c → Meets key (bs ++ (b ∷ [])) (set slots j entry) c
      old m = record {
        entry = m.entry;
        met = rw length-set (met_still slots j entry slot_inside slot.free (omega arith) (first_slot key (length slots) c) m.entry (omega (arith, m.entry_of.place)) m.met);
        entry_of = entry_more bs b m.entry_of;
        same = m.same;
      }

      new : same_pair c b ≡ true → Meets key (bs ++ (b ∷ [])) (set slots j entry) c
      new q = record { entry = entry; met = rw (← same_first c b q key (length (set slots j entry))) met_new; entry_of = entry_last bs b; same = q }

  entries_all : (i : ℕ) → 0 < get_or (set slots j entry) i 0 → EntryOf (bs ++ (b ∷ [])) (get_or (set slots j entry) i 0)
  entries_all i l = go (eqb i j) refl
    where
      go : (t : Bool) → eqb i j ≡ t → EntryOf (bs ++ (b ∷ [])) (get_or (set slots j entry) i 0)
      go true e = rw (eqb-true i j e, here_now) (entry_last bs b)
      go false e =
          let other : get_or (set slots j entry) i 0 ≡ get_or slots i 0 = get_or-set_other slots j i entry 0 (eqb-false i j e) in
          rw other (entry_more bs b (tabled.entries i (rw other at l)))

  pub tabled_more : Tabled key (bs ++ (b ∷ [])) (set slots j entry)
  tabled_more = record {
    number = omega (arith, taken_set slots j entry slot_inside slot.free (omega arith), tabled.number, length-append bs (b ∷ []));
    entries = entries_all;
    met = met_all;
  }

-- no report is in slots that are all free
pub taken_none : (slots : List ℕ) → ((j : ℕ) → get_or slots j 0 ≡ 0) → taken slots ≡ 0
unfolding taken
taken_none [] h = refl
taken_none (e ∷ es) h = rw (eq-eqb e 0 (h 0)) (taken_none es (λ j. h (suc j)))

pub tabled_none : (key : ℕ) (slots : List ℕ) → ((j : ℕ) → get_or slots j 0 ≡ 0) → Tabled key [] slots
unfolding any_of
tabled_none key slots free = record {
  number = omega (arith, taken_none slots free);
  entries = λ j l. absurd (omega (arith, free j));
  met = λ b q. absurd (false≢true q);
}

-- ---- a buffer and its table

-- an entry behind the key is a slot: reading it, and setting it, which leaves the key
pub slot_entry : (table : List ℕ) (j : ℕ) → get_or (slots_of table) j 0 ≡ get_or table (j + 1) 0
slot_entry table j = get_or-drop 1 table j 0 ∙ ap (λ n. get_or table n 0) (add_comm 1 j)

pub slots_length : (table : List ℕ) → length (slots_of table) ≡ length table - 1
slots_length table = length-drop 1 table

pub key_set : (table : List ℕ) (j e : ℕ) → key_of (set table (j + 1) e) ≡ key_of table
key_set [] j e = refl
key_set (x ∷ xs) j e = rw add-one

pub slots_set : (table : List ℕ) (j e : ℕ) → slots_of (set table (j + 1) e) ≡ set (slots_of table) j e
slots_set [] j e = refl
slots_set (x ∷ xs) j e = rw add-one

module _ (s : Sink) (p : Sound s) where
  pub held_count : length (held s) ≡ s.state.count
  unfolding written
  held_count = sym (ap (λ (t : Sink). t.state.count) p.is)

  pub held_used : s.state.used ≡ size (held s)
  unfolding written size
  held_used = ap (λ (t : Sink). t.state.used) p.is

  -- one report more, or one that does not fit
  module _ (b : Breach) where
    log_append : log_of (append s b) ≡ step (length s.bytes) (log_of s) b
    log_append =
        ap log_of (ap (λ (t : Sink). append t b) p.is ∙ append_written s.bytes (log_of s) b (sound_size s p))
        ∙ log_written s.bytes (step (length s.bytes) (log_of s) b)

    fits_step : (full fits : Bool) → s.state.full ≡ full → leb (size (held s) + width b) (length s.bytes) ≡ fits → (append s b).state.full ≡ false → held (append s b) ≡ held s ++ (b ∷ [])
    unfolding step
    fits_step true fits e g h = absurd (true≢false (sym (ap (λ (l : Log). l.full) log_append ∙ rw e) ∙ h))
    fits_step false true e g h = ap (λ (l : Log). l.kept) log_append ∙ rw (e, g)
    fits_step false false e g h = absurd (true≢false (sym (ap (λ (l : Log). l.full) log_append ∙ rw (e, g)) ∙ h))

    pub held_more : (append s b).state.full ≡ false → held (append s b) ≡ held s ++ (b ∷ [])
    held_more = fits_step s.state.full (leb (size (held s) + width b) (length s.bytes)) refl refl

    stops_step : (full fits : Bool) → s.state.full ≡ full → leb (size (held s) + width b) (length s.bytes) ≡ fits → (append s b).state.full ≡ true → held (append s b) ≡ held s
    unfolding step
    stops_step true fits e g h = ap (λ (l : Log). l.kept) log_append ∙ rw e
    stops_step false true e g h = absurd (true≢false (sym h ∙ ap (λ (l : Log). l.full) log_append ∙ rw (e, g)))
    stops_step false false e g h = ap (λ (l : Log). l.kept) log_append ∙ rw (e, g)

    pub held_still : (append s b).state.full ≡ true → held (append s b) ≡ held s
    held_still = stops_step s.state.full (leb (size (held s) + width b) (length s.bytes)) refl refl

    append_length : length (append s b).bytes ≡ length s.bytes
    unfolding written
    append_length =
        ap (λ (t : Sink). length t.bytes) (ap (λ (t : Sink). append t b) p.is ∙ append_written s.bytes (log_of s) b (sound_size s p))
        ∙ length_written s.bytes (step (length s.bytes) (log_of s) b).kept (step_fits (length s.bytes) (log_of s) b (sound_size s p))

-- the table at the start of a run
pub filed_start : (old table : List ℕ) → Empty table → Filed (start old) table
unfolding reports
filed_start old table free = record { tabled = λ few short. tabled_none (key_of table) (slots_of table) free }

-- the code's answer t, whether the table is of use: it takes one more, and every place fits a slot
module _ (s : List ℕ) (st : State) (table : List ℕ) (p : Sound (sink s st)) (filed : Filed (sink s st) table) where
  abbrev before : Sink
  before = sink s st

  module _ {t : Bool} (is : t ≡ is_open before table) where
    few_open : t ≡ true → st.count < room (length (slots_of table))
    few_open e = ltb-true st.count (room (length (slots_of table))) (and_left (ltb st.count (room (length (slots_of table)))) (ltb (length s) 4294967295) (sym is ∙ e))

    pub open_short : t ≡ true → length s < 4294967295
    open_short e = ltb-true (length s) 4294967295 (and_right (ltb st.count (room (length (slots_of table)))) (ltb (length s) 4294967295) (sym is ∙ e))

    pub open_tabled : t ≡ true → Tabled (key_of table) (held before) (slots_of table)
    open_tabled e = filed.tabled (omega (arith, few_open e, held_count before p)) (open_short e)

    -- the slot that was found, and the place that is put into it
    pub free_within : t ≡ true → (b : Breach) (j : ℕ) → FreeFor (key_of table) (held before) (slots_of table) b j → j + 1 < length table
    free_within e b j slot =
        let inside : j < length (slots_of table) = rw slot.is (slot_within (length (slots_of table)) (first_slot (key_of table) (length (slots_of table)) b) (first_within (key_of table) (length (slots_of table)) b (omega (arith, slot.within))) slot.steps slot.within) in
        omega (arith, slots_length table)

    pub place-fits : t ≡ true → st.used < 4294967295
    place-fits e = omega (arith, open_short e, p.within)

    pub open_room : t ≡ true → length (held before) < length (slots_of table)
    open_room e = omega (arith, few_open e, held_count before p)

  -- a report that the search did not find
  module _ (b : Breach) {after : Sink} (is : after ≡ append before b) where
    pub filed_more : Tabled (key_of table) (held before) (slots_of table) → (j : ℕ) → FreeFor (key_of table) (held before) (slots_of table) b j
        → after.state.full ≡ false → (table' : List ℕ) → table' ≡ set table (j + 1) (st.used + 1) → Filed after table'
    filed_more tabled j slot kept' table' e = record {
      tabled = λ few short.
          rw (is, held_more before p b (ap (λ (x : Sink). x.state.full) (sym is) ∙ kept'), e, key_set, slots_set, held_used before p) (tabled_more (key_of table) (held before) (slots_of table) tabled b j slot);
    }

    -- one whose pair the table has
    pub filed_repeat : Tabled (key_of table) (held before) (slots_of table) → any_of (same_pair b) (held before) ≡ true → after.state.full ≡ false → Filed after table
    filed_repeat tabled old kept' = record {
      tabled = λ few short. rw (is, held_more before p b (ap (λ (x : Sink). x.state.full) (sym is) ∙ kept')) (tabled_repeat (key_of table) (held before) (slots_of table) tabled b old);
    }

    pub filed_still : after.state.full ≡ true → Filed after table
    filed_still full = record {
      tabled = λ few short.
          let same : held after ≡ held before = ap held is ∙ held_still before p b (ap (λ (x : Sink). x.state.full) (sym is) ∙ full) in
          let long : length after.bytes ≡ length s = ap (λ (x : Sink). length x.bytes) is ∙ append_length before p b in
          rw same (filed.tabled (rw same at few) (omega arith));
    }

    -- where the table takes no more
    pub filed_beyond : {t : Bool} → t ≡ is_open before table → t ≡ false → Filed after table
    filed_beyond {t} known e = go after.state.full refl
      where
        go : (full : Bool) → after.state.full ≡ full → Filed after table
        go true f = filed_still f
        go false f = record {
          tabled = λ few short.
              let more : held after ≡ held before ++ (b ∷ []) = ap held is ∙ held_more before p b (ap (λ (x : Sink). x.state.full) (sym is) ∙ f) in
              let long : length after.bytes ≡ length s = ap (λ (x : Sink). length x.bytes) is ∙ append_length before p b in
              let fewer : st.count < room (length (slots_of table)) = omega (arith, simp length-append at (rw more at few), held_count before p) in
              let shorter : length s < 4294967295 = omega arith in
              absurd (true≢false (sym (known ∙ rw (lt-ltb st.count (room (length (slots_of table))) fewer, lt-ltb (length s) 4294967295 shorter)) ∙ e));
        }

-- ---- what is lent, from call to call

-- a table of nothing but zeros, and what is lent to the first call of a run
zeros_free : (n j : ℕ) → get_or {A = ℕ} (replicate n 0) j 0 ≡ 0
zeros_free zero j = refl
zeros_free (suc n) zero = refl
zeros_free (suc n) (suc j) = zeros_free n j

pub zeros_empty : (n : ℕ) → Empty (replicate n 0)
zeros_empty zero j = refl
zeros_empty (suc n) j = zeros_free n j

pub lent_start : (old table : List ℕ) → Empty table → Lent (start old) table
lent_start old table free = record { sound = sound_start old; filed = filed_start old table free }

-- one breach; one whose message was composed in a scratch
pub pushed_one : {s s' : List ℕ} {st st' : State} {table table' : List ℕ} → Lent (sink s st) table → (b : Breach) → sink s' st' ≡ push (sink s st) b → Filed (sink s' st') table' → Pushed s st (b ∷ []) s' st' table'
unfolding fold
pushed_one {s} {s'} {st} p b e filed = record { still = record { sound = subst Sound (sym e) (sound_push (sink s st) b p.sound); filed = filed }; is = e }

pub pushed_composed : (start end : ℕ) {old new m : List ℕ} {n : ℕ} → Stored old 0 m new n → {s s' : List ℕ} {st st' : State} {table' : List ℕ}
    → Pushed s st (record { start = start; end = end; message = take n new } ∷ []) s' st' table' → Pushed s st (record { start = start; end = end; message = m } ∷ []) s' st' table'
pushed_composed start end w p = rw (stored_text w) at p
