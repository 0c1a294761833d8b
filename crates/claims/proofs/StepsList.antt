-- The marks of a list: which target a step does, and what a mark more changes in the targets done. Assumes nothing.
use mathlib.Core.Path.{◌≡◌, refl, sym, ap, ap₂, ◌∙◌}
use mathlib.Core.Bool.{Bool, true, false, cond}
use mathlib.Core.Logic.{inl, inr, ⊎_elim}
use mathlib.Core.List.{List, [], ◌∷◌, ◌++◌, append-nil}
use mathlib.Core.Option.{Option, some}
use Prim.Native.Nat.{ℕ, suc, ◌+◌, ◌≤◌, ◌<◌}
use native.Mathlib.Omega.{arith}
use native.Mathlib.Decide.{ℕ_discrete}
use lib.Dec.{eqb}
use lib.ListN.{length, get_or, set, length-append, length-set}
use lib.Seq.{get_or-set_same, get_or-set_other}
use borrow.Author.Tests.{eqb-true, eqb-false, ne_eqb}
use Rattle.names.specs.Lists.{maybe, gather}
use Rattle.targets.specs.Targets.{Target}
use Rattle.reports.specs.Pairs.{◌∈◌}
use Rattle.steps.specs.Steps.{is_pending, first_pending}
use Rattle.claims.specs.Steps.{done_from, done_in}

-- the mark at a position
abbrev pub at : List ℕ → ℕ → ℕ
at marks i = get_or marks i 0

-- ---- the targets done

module _ (marks : List ℕ) where
  pub done_append : (i : ℕ) (xs ys : List Target) → done_from marks i (xs ++ ys) ≡ done_from marks i xs ++ done_from marks (i + length xs) ys
  unfolding done_from
  done_append i [] ys = ap (λ (n : ℕ). done_from marks n ys) (omega arith)
  done_append i (x ∷ xs) ys =
      go (eqb (at marks i) 1) _ _ _ (done_append (i + 1) xs ys ∙ ap (λ (n : ℕ). done_from marks (i + 1) xs ++ done_from marks n ys) (omega arith))
    where
      go : (b : Bool) (l m n : List Target) → l ≡ m ++ n → cond b (x ∷ l) l ≡ cond b (x ∷ m) m ++ n
      go true l m n e = ap (λ (l : List Target). x ∷ l) e
      go false l m n e = e

  -- none of them, where no mark says so
  pub done_none : (i : ℕ) (list : List Target) → ((k : ℕ) → i ≤ k → k < i + length list → at marks k ≡ 1 → ⊥) → done_from marks i list ≡ []
  unfolding done_from
  done_none i [] h = refl
  done_none i (x ∷ list) h = rw (ne_eqb (at marks i) 1 (h i (omega arith) (omega arith))) (done_none (i + 1) list (λ k l m. h k (omega arith) (omega arith)))

  -- they are among the list
  pub done_among : (i : ℕ) (list : List Target) (t : Target) → t ∈ done_from marks i list → t ∈ list
  unfolding done_from
  done_among i [] t h = absurd h
  done_among i (x ∷ list) t h = go (eqb (at marks i) 1) (done_from marks (i + 1) list) h (done_among (i + 1) list t)
    where
      go : (b : Bool) (l : List Target) → t ∈ cond b (x ∷ l) l → (t ∈ l → t ∈ list) → t ∈ (x ∷ list)
      go true l h later = ⊎_elim (λ e. inl e) (λ i. inr (later i)) h
      go false l h later = inr (later h)

  -- and no more, whatever is counted of each
  module _ (f : Target → List ℕ) where
    pub done_fewer : (i : ℕ) (list : List Target) → length (gather f (done_from marks i list)) ≤ length (gather f list)
    unfolding done_from gather
    done_fewer i [] = omega arith
    done_fewer i (x ∷ list) = go (eqb (at marks i) 1) (done_from marks (i + 1) list) (done_fewer (i + 1) list)
      where
        go : (b : Bool) (l : List Target) → length (gather f l) ≤ length (gather f list) → length (gather f (cond b (x ∷ l) l)) ≤ length (f x ++ gather f list)
        go true l h = omega (arith, length-append (f x) (gather f l), length-append (f x) (gather f list))
        go false l h = omega (arith, length-append (f x) (gather f list))

  pub done_few : (i : ℕ) (list : List Target) → length (done_from marks i list) ≤ length list
  unfolding done_from
  done_few i [] = omega arith
  done_few i (x ∷ list) = go (eqb (at marks i) 1) (done_from marks (i + 1) list) (done_few (i + 1) list)
    where
      go : (b : Bool) (l : List Target) → length l ≤ length list → length (cond b (x ∷ l) l) ≤ suc (length list)
      go true l h = omega arith
      go false l h = omega arith

-- other marks that say of each the same
pub done_same : (marks also : List ℕ) (i : ℕ) (list : List Target) → ((k : ℕ) → i ≤ k → k < i + length list → eqb (at marks k) 1 ≡ eqb (at also k) 1)
    → done_from marks i list ≡ done_from also i list
unfolding done_from
done_same marks also i [] h = refl
done_same marks also i (x ∷ list) h =
    ap₂ (λ (b : Bool) (l : List Target). cond b (x ∷ l) l) (h i (omega arith) (omega arith)) (done_same marks also (i + 1) list (λ k l m. h k (omega arith) (omega arith)))

-- ---- the first pending one

pub record FirstAt (marks : List ℕ) (i : ℕ) (list : List Target) (j : ℕ) (t : Target) : Type 0 where
  pub front : List Target
  pub behind : List Target
  pub split : list ≡ front ++ (t ∷ behind)
  pub place : j ≡ i + length front
  pub waits : at marks j ≡ 0
  pub passed : (k : ℕ) → i ≤ k → k < j → at marks k ≡ 0 → ⊥

pub first_at : (marks : List ℕ) (i : ℕ) (list : List Target) {j : ℕ} {t : Target} → first_pending marks i list ≡ some (j, t) → FirstAt marks i list j t
unfolding first_pending is_pending
first_at marks i [] {j} {t} e = let z : ◌≡◌ {A = ℕ} 0 1 = cc in absurd (omega arith)
first_at marks i (x ∷ list) {j} {t} e = go (eqb (at marks i) 0) refl e (λ r. first_at marks (i + 1) list r)
  where
    here : (m : ℕ) (u : Target) → at marks i ≡ 0 → i ≡ m → x ≡ u → FirstAt marks i (x ∷ list) m u
    here m u w p q =
        record {
          front = [];
          behind = list;
          split = ap (λ (v : Target). v ∷ list) q;
          place = omega arith;
          waits = ap (at marks) (sym p) ∙ w;
          passed = λ k l h z. omega arith;
        }

    later : (at marks i ≡ 0 → ⊥) → FirstAt marks (i + 1) list j t → FirstAt marks i (x ∷ list) j t
    later w r =
        record {
          front = x ∷ r.front;
          behind = r.behind;
          split = ap (λ (l : List Target). x ∷ l) r.split;
          place = omega (arith, r.place);
          waits = r.waits;
          passed = λ k l h z. beyond k l h z (ℕ_discrete i k);
        }
      where
        beyond : (k : ℕ) → i ≤ k → k < j → at marks k ≡ 0 → Dec (i ≡ k) → ⊥
        beyond k l h z (yes p) = w (ap (at marks) p ∙ z)
        beyond k l h z (no p) = r.passed k (omega arith) h z

    go : (b : Bool) → eqb (at marks i) 0 ≡ b → cond b (some (i, x)) (first_pending marks (i + 1) list) ≡ some (j, t) → (first_pending marks (i + 1) list ≡ some (j, t) → FirstAt marks (i + 1) list j t) → FirstAt marks i (x ∷ list) j t
    go true h r next =
        here j t (eqb-true (at marks i) 0 h) (ap (λ (o : Option (ℕ × Target)). maybe i (λ p. p.0) o) r) (ap (λ (o : Option (ℕ × Target)). maybe x (λ p. p.1) o) r)
    go false h r next = later (eqb-false (at marks i) 0 h) (next r)

-- ---- what is known of the marks of a list of so many targets: a mark for each of 256 positions, none beyond the list, and no target done behind a pending one

pub record Marks (marks : List ℕ) (many : ℕ) : Type 0 where
  pub long : length marks ≡ 256
  pub few : many ≤ 255
  pub beyond : (i : ℕ) → many ≤ i → at marks i ≡ 0
  pub order : (i j : ℕ) → i < j → at marks i ≡ 0 → at marks j ≡ 1 → ⊥

module _ (marks : List ℕ) (list : List Target) (m : Marks marks (length list)) where
  -- a target more is pending
  pub done_more : (t : Target) → done_in marks (list ++ (t ∷ [])) ≡ done_in marks list
  done_more t =
      done_append marks 0 list (t ∷ [])
      ∙ ap (λ (l : List Target). done_in marks list ++ l) (done_none marks (0 + length list) (t ∷ []) (λ k l h e. let z = m.beyond k (omega arith) in omega arith))
      ∙ append-nil (done_in marks list)

  pub marks_more : (t : Target) → length list < 255 → Marks marks (length (list ++ (t ∷ [])))
  marks_more t h =
      let n : length (list ++ (t ∷ [])) ≡ length list + 1 = length-append list (t ∷ []) in
      record { long = m.long; few = omega arith; beyond = λ i l. m.beyond i (omega arith); order = m.order }

  -- another mark at a position of the list that is pending
  module _ (p mark : ℕ) (inside : p < length list) where
    abbrev next : List ℕ
    next = set marks p mark

    here : at next p ≡ mark
    here = get_or-set_same marks p mark 0 (omega (arith, m.long, m.few))

    there : (k : ℕ) → (k ≡ p → ⊥) → at next k ≡ at marks k
    there k h = get_or-set_other marks p k mark 0 h

    marks_set : ((i j : ℕ) → i < j → at next i ≡ 0 → at next j ≡ 1 → ⊥) → Marks next (length list)
    marks_set order =
        record { long = length-set marks p mark ∙ m.long; few = m.few; beyond = λ i l. there i (λ e. omega arith) ∙ m.beyond i l; order = order }

  -- what is not pending stays
  pub set_stays : (p mark : ℕ) → at marks p ≡ 0 → (i : ℕ) → (at marks i ≡ 0 → ⊥) → at (set marks p mark) i ≡ at marks i
  set_stays p mark w i h = get_or-set_other marks p i mark 0 (λ e. h (ap (at marks) e ∙ w))

  -- the first pending one is done
  module _ {j : ℕ} {t : Target} (f : FirstAt marks 0 list j t) where
    first_inside : j < length list
    first_inside = omega (arith, f.place, ap length f.split, length-append f.front (t ∷ f.behind))

    none_behind : (k : ℕ) → j < k → at marks k ≡ 1 → ⊥
    none_behind k h = m.order j k h f.waits

    pub step_marks : Marks (set marks j 1) (length list)
    step_marks = marks_set j 1 first_inside (λ i k l z o. go i k l z o (ℕ_discrete i j) (ℕ_discrete k j))
      where
        go : (i k : ℕ) → i < k → at (set marks j 1) i ≡ 0 → at (set marks j 1) k ≡ 1 → Dec (i ≡ j) → Dec (k ≡ j) → ⊥
        go i k l z o (yes p) r = let e = here j 1 first_inside in let q = ap (at (set marks j 1)) p in omega arith
        go i k l z o (no p) (yes q) = f.passed i (omega arith) (omega arith) (sym (there j 1 first_inside i p) ∙ z)
        go i k l z o (no p) (no q) = m.order i k l (sym (there j 1 first_inside i p) ∙ z) (sym (there j 1 first_inside k q) ∙ o)

    parts : (ms : List ℕ) → done_in ms list ≡ done_from ms 0 f.front ++ done_from ms j (t ∷ f.behind)
    parts ms = ap (done_from ms 0) f.split ∙ done_append ms 0 f.front (t ∷ f.behind) ∙ ap (λ (n : ℕ). done_from ms 0 f.front ++ done_from ms n (t ∷ f.behind)) (sym f.place)

    -- from it on, where none behind it is done
    last : (ms : List ℕ) → ((k : ℕ) → j < k → at ms k ≡ 1 → ⊥) → done_from ms j (t ∷ f.behind) ≡ cond (eqb (at ms j) 1) (t ∷ []) []
    unfolding done_from
    last ms h = ap (λ (l : List Target). cond (eqb (at ms j) 1) (t ∷ l) l) (done_none ms (j + 1) f.behind (λ k l i. h k (omega arith)))

    pub step_done : done_in (set marks j 1) list ≡ done_in marks list ++ (t ∷ [])
    step_done =
        let front : done_from (set marks j 1) 0 f.front ≡ done_from marks 0 f.front =
        done_same (set marks j 1) marks 0 f.front (λ k l h. ap (λ (n : ℕ). eqb n 1) (there j 1 first_inside k (λ e. omega (arith, f.place)))) in
        let own : done_from (set marks j 1) j (t ∷ f.behind) ≡ t ∷ [] =
        last (set marks j 1) (λ k h o. none_behind k h (sym (there j 1 first_inside k (λ e. omega arith)) ∙ o)) ∙ ap (λ (n : ℕ). cond (eqb n 1) (t ∷ []) []) (here j 1 first_inside) in
        let before : done_in marks list ≡ done_from marks 0 f.front =
        parts marks ∙ ap (λ (l : List Target). done_from marks 0 f.front ++ l) (last marks none_behind ∙ ap (λ (n : ℕ). cond (eqb n 1) (t ∷ []) []) f.waits) ∙ append-nil (done_from marks 0 f.front) in
        parts (set marks j 1) ∙ ap₂ (λ (a b : List Target). a ++ b) (front ∙ sym before) own

  -- a pending one is withdrawn
  module _ (p : ℕ) (inside : p < length list) (w : at marks p ≡ 0) where
    pub withdraw_marks : Marks (set marks p 2) (length list)
    withdraw_marks = marks_set p 2 inside (λ i k l z o. go i k l z o (ℕ_discrete i p) (ℕ_discrete k p))
      where
        go : (i k : ℕ) → i < k → at (set marks p 2) i ≡ 0 → at (set marks p 2) k ≡ 1 → Dec (i ≡ p) → Dec (k ≡ p) → ⊥
        go i k l z o (yes e) r = let h = here p 2 inside in let q = ap (at (set marks p 2)) e in omega arith
        go i k l z o (no d) (yes e) = let h = here p 2 inside in let q = ap (at (set marks p 2)) e in omega arith
        go i k l z o (no d) (no e) = m.order i k l (sym (there p 2 inside i d) ∙ z) (sym (there p 2 inside k e) ∙ o)

    pub withdraw_done : done_in (set marks p 2) list ≡ done_in marks list
    withdraw_done = done_same (set marks p 2) marks 0 list (λ k l h. go k (ℕ_discrete k p))
      where
        go : (k : ℕ) → Dec (k ≡ p) → eqb (at (set marks p 2) k) 1 ≡ eqb (at marks k) 1
        go k (yes e) = rw (e, here p 2 inside, w)
        go k (no d) = ap (λ (n : ℕ). eqb n 1) (there p 2 inside k d)
