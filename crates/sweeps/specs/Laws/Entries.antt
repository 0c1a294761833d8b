-- Laws of entries. Assumes nothing.
--     fit-start           what the first call of a listing requires
--     entered-one         one entry
--     all_listed          entries put in one by one, from none, leave and answer what `listed` says
use Rattle.std.specs.Prelude.{◌≡◌, Bool, cond, not, List, [], ◌∷◌, ◌++◌, ℕ, zero, suc, ◌+◌, ◌*◌, ◌≤◌, ◌<◌, length, take, drop, leb}
use Rattle.std.proofs.Math.Path.{refl, subst}
use Rattle.std.proofs.Common.{sym, ap, ◌∙◌, append_assoc, append-nil, arith, length-append, length-drop, drop-drop, leb-true, leb-false, le-leb}
use Rattle.std.proofs.Math.Bool.{true, false}
use Rattle.std.proofs.Math.Seq.{take-append_seam, drop-append-add}
use Rattle.std.proofs.lemmas.Bool.{lt-leb}
use Rattle.names.specs.Lists.{gather}
use Rattle.names.specs.Laws.Lists.{gather_append}
use Rattle.names.specs.Laws.Fields.{length_digits}
use Rattle.names.specs.Laws.Writers.{length_store}
use Rattle.names.specs.Writer.{store}
use Rattle.reports.specs.declared.State.{State}
use Rattle.reports.specs.Kept.{fold}
use Rattle.reports.specs.Sink.{Sink, sink, start, outcome}
use Rattle.sweeps.specs.Entries.{Entry, encoded, room, listed}
use Rattle.sweeps.specs.Entering.{enter, Fit, Entered}

pub length_encoded : (e : Entry) → length (encoded e) ≡ 20
unfolding encoded
length_encoded e = simp (length-append, length_digits)

length_entries : (es : List Entry) → length (gather encoded es) ≡ length es * 20
unfolding gather
length_entries [] = refl
length_entries (e ∷ es) = simp (length-append, length_encoded) (omega (arith, length_entries es))

-- ---- entries as they stand in a buffer that held `old` before

unfoldable written : List ℕ → List Entry → Bool → Sink
written old es full =
    sink (gather encoded es ++ drop (length es * 20) old) (record { used = length es * 20; count = length es; full = full })

length_written : (old : List ℕ) (es : List Entry) → length es * 20 ≤ length old → length (gather encoded es ++ drop (length es * 20) old) ≡ length old
length_written old es h = simp (length-append, length_entries, length-drop) (omega arith)

-- one more stored behind those that stand there
snoc_bytes : (old : List ℕ) (es : List Entry) (e : Entry)
    → store (gather encoded es ++ drop (length es * 20) old) (length es * 20) (encoded e) ≡ gather encoded (es ++ (e ∷ [])) ++ drop (length (es ++ (e ∷ [])) * 20) old
unfolding store gather
snoc_bytes old es e =
    let n : length (es ++ (e ∷ [])) * 20 ≡ length es * 20 + 20 = simp length-append (omega arith) in
    rw (n, ← length_entries es, length_encoded, take-append_seam, drop-append-add, length_entries, drop-drop, gather_append, append-nil, append_assoc)

entered-fits : (old : List ℕ) (es : List Entry) (e : Entry) → length es * 20 + 20 ≤ length old → enter (written old es false) e ≡ written old (es ++ (e ∷ [])) false
unfolding enter written
entered-fits old es e h =
    let l : length es * 20 ≤ length old = omega arith in
    let n : length es + 1 ≡ length (es ++ (e ∷ [])) = sym (length-append es (e ∷ [])) in
    let u : length es * 20 + 20 ≡ length (es ++ (e ∷ [])) * 20 = omega arith in
    rw (length_written old es l, le-leb _ _ h) λ i. sink (snoc_bytes old es e i) (record { used = u i; count = n i; full = false })

entered_not : (old : List ℕ) (es : List Entry) (e : Entry) → length es * 20 ≤ length old → length old < length es * 20 + 20 → enter (written old es false) e ≡ written old es true
unfolding enter written
entered_not old es e l h = rw (length_written old es l, lt-leb _ _ h)

full_stays : (old : List ℕ) (es xs : List Entry) → fold enter (written old es true) xs ≡ written old es true
unfolding fold enter written
full_stays old es [] = refl
full_stays old es (x ∷ xs) = full_stays old es xs

take_none : (m : ℕ) → take {A = Entry} m [] ≡ []
take_none zero = refl
take_none (suc m) = refl

leb_suc : (a b : ℕ) → leb a b ≡ leb (suc a) (suc b)
leb_suc a b = go (leb a b) refl
  where
    go : (t : Bool) → leb a b ≡ t → t ≡ leb (suc a) (suc b)
    go true e = sym (le-leb (suc a) (suc b) (omega (arith, leb-true a b e)))
    go false e = sym (lt-leb (suc a) (suc b) (omega (arith, leb-false a b e)))

-- what is left of a buffer's room takes as many of the next entries
enters_from : (old : List ℕ) (es xs : List Entry) (m : ℕ) → length es + m ≡ room old
    → fold enter (written old es false) xs ≡ written old (es ++ take m xs) (not (leb (length xs) m))
unfolding fold
enters_from old es [] m e =
    rw (le-leb 0 m (omega arith)) (ap (λ (ks : List Entry). written old ks false) (sym (ap (λ (r : List Entry). es ++ r) (take_none m) ∙ append-nil es)))
enters_from old es (x ∷ xs) zero e =
    let l : length es * 20 ≤ length old = omega arith in
    let h : length old < length es * 20 + 20 = omega arith in
    let t : leb (length (x ∷ xs)) 0 ≡ false = lt-leb (length (x ∷ xs)) 0 (omega arith) in
    rw (entered_not old es x l h, t) (full_stays old es xs ∙ ap (λ (ks : List Entry). written old ks true) (sym (append-nil es)))
enters_from old es (x ∷ xs) (suc m) e =
    let h : length es * 20 + 20 ≤ length old = omega arith in
    let k : length (es ++ (x ∷ [])) + m ≡ room old = simp length-append (omega arith) in
    rw (entered-fits old es x h) (enters_from old (es ++ (x ∷ [])) xs m k ∙ λ i. written old (append_assoc es (x ∷ []) (take m xs) i) (not (leb_suc (length xs) m i)))

-- ---- what callers cite

pub fit_start : (old : List ℕ) → Fit (start old)
fit_start old = record { used = refl; within = omega arith }

number_of_lem : (t : Bool) → ◌≡◌ {A = ℕ} (cond (not t) 11 0) (cond t 0 11)
number_of_lem true = refl
number_of_lem false = refl

pub all_listed : (old : List ℕ) (es : List Entry) → outcome (fold enter (start old) es) ≡ listed es old
unfolding listed written gather
all_listed old es =
    ap outcome (enters_from old [] es (room old) (omega arith))
    ∙ λ i. record {
      answer = record { number = number_of_lem (leb (length es) (room old)) i; record_number = 0; count = length (take (room old) es) };
      buffer = gather encoded (take (room old) es) ++ drop (length (take (room old) es) * 20) old;
    }

-- one entry
module _ (s : List ℕ) (st : State) (e : Entry) where
  fit_enter : (full fits : Bool) → st.full ≡ full → leb (st.used + 20) (length s) ≡ fits → Fit (sink s st) → Fit (enter (sink s st) e)
  unfolding enter
  fit_enter true fits f g p = rw f (record { used = p.used; within = p.within })
  fit_enter false true f g p = rw (f, g) (record { used = omega (arith, p.used); within = rw (length_store s st.used (encoded e) (rw length_encoded (leb-true _ _ g))) (leb-true _ _ g) })
  fit_enter false false f g p = rw (f, g) (record { used = p.used; within = p.within })

  pub entered_one : Fit (sink s st) → {s' : List ℕ} {st' : State} → sink s' st' ≡ enter (sink s st) e → Entered s st (e ∷ []) s' st'
  unfolding fold
  entered_one p q = record { still = subst Fit (sym q) (fit_enter st.full (leb (st.used + 20) (length s)) refl refl p); is = q }
