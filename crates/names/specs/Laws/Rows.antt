-- Rows of things that are read alike: the exits and turns of their readers, and a walk over an accepted row. Assumes nothing.
use Rattle.std.specs.Prelude.{◌≡◌, Bool, true, get_or, Ok, Err}
use Rattle.std.proofs.Math.Path.{refl, sym, ap}
use Rattle.std.proofs.Common.{◌∙◌, zero-add, suc-add, arith}
use mathlib.Core.List.{List, [], ◌∷◌, ◌++◌}
use Rattle.std.proofs.Math.Option.{Option, some}
use Prim.Native.Nat.{ℕ, zero, suc, ◌+◌, ◌-◌, ◌≤◌, ◌<◌}
use Rattle.std.proofs.Math.Numerals.{sub-one}
use Rattle.std.proofs.Math.ListN.{length, take}
use Rattle.names.specs.Fields.{got, Reader, u8, bytes, string_of, many, each, counted}
use Rattle.names.specs.Read.{ending, accepted, value_or, word_at, row, is_row, row_in, Listed, Read}
use Rattle.names.specs.Laws.Readers.{u8-end, u8_got, u8_view, string_view, split, held, stops, goes, last, accept, is_accepted, has_value, got_value, got_place, arrives}
use Rattle.names.specs.declared.refusal.Refusal.{Refusal}
use Rattle.names.specs.declared.refusal.Refusal.TheVariants.{Cut, OutsideClass}

module _ {A : Type 0} (f : Reader A) (s : List ℕ) where
  -- what stands before says nothing
  pub row_any : (n : ℕ) (before : Option A) (at : ℕ) → many (λ a. a) (each f) n before s at ≡ row f n s at
  unfolding many
  row_any zero before at = refl
  row_any (suc n) before at = refl

  pub counted-end : (at : ℕ) → length s ≤ at → Err Cut ≡ ending (counted (each f) s at)
  unfolding counted ending
  counted-end at h = rw (u8-end s at h)

  pub counted_start : (at n : ℕ) → at < length s → n ≡ get_or s at 0 → ending (counted (each f) s at) ≡ ending (row f n s (at + 1))
  unfolding counted
  counted_start at n h e = rw (u8_got s at h, ← e)

  -- The code reads the i-th of `end` things next: `whole` is the answer to all, as the answer to those that are left.
  module _ (whole : Read) (end i at : ℕ) (inv : whole ≡ ending (row f (end - i) s at)) where
    pub each_done : end ≤ i → Ok at ≡ whole
    unfolding many ending
    each_done h = go (end - i) (omega arith) inv
      where
        go : (n : ℕ) → n ≤ 0 → whole ≡ ending (row f n s at) → Ok at ≡ whole
        go zero h i = sym i
        go (suc n) h i = absurd (omega arith)

    module _ (h : i < end) (x : Read) (is : x ≡ ending (f s at)) where
      pub each_stops : (r : Refusal) → x ≡ Err r → Err r ≡ whole
      unfolding many
      each_stops r e = go (end - i) (omega arith) inv
        where
          go : (n : ℕ) → 0 < n → whole ≡ ending (row f n s at) → Err r ≡ whole
          go zero h i = absurd (omega arith)
          go (suc n) h i = stops _ _ e is ∙ sym i

      pub each_turn : (m : ℕ) → x ≡ Ok m → whole ≡ ending (row f (end - (i + 1)) s m)
      unfolding many
      each_turn m e = let left : end - (i + 1) ≡ (end - i) - 1 = omega arith in rw left (go (end - i) (omega arith) inv)
        where
          go : (n : ℕ) → 0 < n → whole ≡ ending (row f n s at) → whole ≡ ending (row f (n - 1) s m)
          go zero h i = absurd (omega arith)
          go (suc n) h i = i ∙ sym (goes _ _ e is λ a d. rw (sub-one, ← row_any n (some a) m) (last _ _))

  -- A row, accepted: its first thing and the others; so many as asked.
  pub record Opens (n at : ℕ) (list : List A) (end : ℕ) : Type 0 where
    pub own : A
    pub p : ℕ
    pub here : f s at ≡ got own p
    pub others : List A
    pub rest : row f (n - 1) s p ≡ got others end
    pub all : list ≡ own ∷ others

  pub opens : (n at : ℕ) {list : List A} {end : ℕ} → 0 < n → row f n s at ≡ got list end → Opens n at list end
  unfolding many
  opens zero at h e = absurd (omega arith)
  opens (suc n) at {list} {end} h e =
      let a = split (f s at) _ e in
      let b = split (many (λ a. a) (each f) n (some a.value) s a.place) _ a.rest in
      record {
        own = a.value;
        p = a.place;
        here = a.first;
        others = b.value;
        rest = rw (sub-one, ← row_any n (some a.value) a.place) (b.first ∙ ap (got b.value) (got_place b.rest));
        all = sym (got_value b.rest);
      }

  pub row_empty : (n at : ℕ) {list : List A} {end : ℕ} → n ≤ 0 → row f n s at ≡ got list end → list ≡ []
  unfolding many
  row_empty zero at h e = sym (got_value e)
  row_empty (suc n) at h e = absurd (omega arith)

  -- a row with one more in front, and two rows one after the other
  pub row_cons : (n at : ℕ) {a : A} {p : ℕ} {l : List A} {e : ℕ} → f s at ≡ got a p → row f n s p ≡ got l e → row f (suc n) s at ≡ got (a ∷ l) e
  unfolding many
  row_cons n at {a} {p} h i = rw (h, row_any n (some a) p, i)

  pub row_append : (n m at : ℕ) {xs ys : List A} {p e : ℕ} → row f n s at ≡ got xs p → row f m s p ≡ got ys e → row f (n + m) s at ≡ got (xs ++ ys) e
  unfolding many
  row_append zero m at {xs} {ys} {p} {e} h i = let q : p ≡ at = sym (got_place h) in rw (zero-add, ← got_value h) (rw q at i)
  row_append (suc n) m at {xs} {ys} {p} {e} h i =
      let o = opens (suc n) at (omega arith) h in
      let r = row_append n m o.p (rw sub-one at o.rest) i in
      rw (suc-add, o.all) (row_cons (n + m) at o.here r)

  pub row_length : (n at : ℕ) {list : List A} {end : ℕ} → row f n s at ≡ got list end → length list ≡ n
  unfolding many
  row_length zero at e = rw (row_empty 0 at (omega arith) e)
  row_length (suc n) at {list} {end} e =
      let o = opens (suc n) at (omega arith) e in
      let i : length o.others ≡ n = row_length n o.p (rw sub-one at o.rest) in
      rw (o.all, i)

  -- a count and the row, accepted
  pub record CountedView (at : ℕ) (list : List A) (end : ℕ) : Type 0 where
    pub inside : at < length s
    pub read : row f (get_or s at 0) s (at + 1) ≡ got list end

  pub counted_view : (at : ℕ) {list : List A} {end : ℕ} → counted (each f) s at ≡ got list end → CountedView at list end
  unfolding counted
  counted_view at {list} {end} e =
      let a = split (u8 s at) _ e in
      let u = u8_view s at a.first in
      record { inside = u.0; read = rw (← u.1, ← u.2) a.rest }

  -- A walk over a list that stands in the bytes: it is over, or its first thing stands here and the others from the next place on.
  pub listed : (n at : ℕ) {list : List A} {end : ℕ} → row f n s at ≡ got list end → Listed f s list n at
  listed n at e = record { stands = is_accepted e; value = has_value [] e }

  pub listed_length : (list : List A) (n at : ℕ) → Listed f s list n at → length list ≡ n
  listed_length list n at l =
      let a = accept _ l.stands in
      ap length (sym l.value ∙ has_value [] a.read) ∙ row_length n at a.read

  -- the first of a row, as many as asked
  pub record Front (m at : ℕ) (list : List A) : Type 0 where
    pub end : ℕ
    pub read : row f m s at ≡ got (take m list) end

  pub row_front : (m n at : ℕ) {list : List A} {end : ℕ} → m ≤ n → row f n s at ≡ got list end → Front m at list
  unfolding many
  row_front zero n at h e = record { end = at; read = refl }
  row_front (suc m) n at {list} {end} h e =
      let o = opens n at (omega arith) e in
      let r = row_front m (n - 1) o.p (omega arith) o.rest in
      let i : many (λ a. a) (each f) m (some o.own) s o.p ≡ got (take m o.others) r.end = row_any m (some o.own) o.p ∙ r.read in
      let j : row f (suc m) s at ≡ got (o.own ∷ take m o.others) r.end = rw (o.here, i) in
      record { end = r.end; read = j ∙ ap (λ (w : List A). got (take (suc m) w) r.end) (sym o.all) }

  pub listed_front : (list : List A) (n at m : ℕ) → m ≤ n → Listed f s list n at → Listed f s (take m list) m at
  listed_front list n at m h l =
      let a = accept _ l.stands in
      let r = row_front m n at h a.read in
      let e : a.value ≡ list = sym (has_value [] a.read) ∙ l.value in
      listed m at (r.read ∙ ap (λ (w : List A). got (take m w) r.end) e)

  -- what a walk by a count is given
  module _ (list : List A) (n at : ℕ) (l : Listed f s list (length list) at) (e : n ≡ length list) where
    pub row_stands : is_row f s n at ≡ true
    row_stands = rw e l.stands

    pub row_value : row_in f s n at ≡ list
    row_value = rw e l.value

  pub listed_over : (list : List A) (n at : ℕ) → n ≤ 0 → Listed f s list n at → list ≡ []
  listed_over list n at h l =
      let a = accept _ l.stands in
      sym l.value ∙ has_value [] a.read ∙ row_empty n at h a.read

  pub record ListedFirst (other : A) (list : List A) (n at : ℕ) : Type 0 where
    pub others : List A
    pub stands : accepted (f s at) ≡ true
    pub value : list ≡ value_or other (f s at) ∷ others
    pub on : (m : ℕ) → Ok m ≡ ending (f s at) → Listed f s others (n - 1) m

  pub listed_first : (other : A) (list : List A) (n at : ℕ) → 0 < n → Listed f s list n at → ListedFirst other list n at
  listed_first other list n at h l =
      let a = accept _ l.stands in
      let o = opens n at h a.read in
      record {
        others = o.others;
        stands = is_accepted o.here;
        value = sym l.value ∙ has_value [] a.read ∙ o.all ∙ ap (λ (b : A). b ∷ o.others) (sym (has_value other o.here));
        on = λ m e. listed (n - 1) m {end = a.place} (rw (arrives o.here e refl) o.rest);
      }

-- A loop over such a list: what is left of it answers as the whole does.
module _ {A B : Type 0} (f : Reader A) (s : List ℕ) (answer : List A → B) (o : B) where
  pub record Remaining (n at : ℕ) : Type 0 where
    pub left : List A
    pub there : Listed f s left n at
    pub same : answer left ≡ o

  pub remaining_over : (n at : ℕ) → n ≤ 0 → Remaining n at → answer [] ≡ o
  remaining_over n at h r = ap answer (sym (listed_over f s r.left n at h r.there)) ∙ r.same

  pub remaining_stands : (n at : ℕ) → 0 < n → Remaining n at → accepted (f s at) ≡ true
  remaining_stands n at h r = is_accepted (opens f s n at h (accept _ r.there.stands).read).here

  pub record RemainingFirst (other : A) (n at : ℕ) : Type 0 where
    pub others : List A
    pub same : answer (value_or other (f s at) ∷ others) ≡ o
    pub on : (m : ℕ) → Ok m ≡ ending (f s at) → Listed f s others (n - 1) m

  pub remaining_first : (other : A) (n at : ℕ) → 0 < n → Remaining n at → RemainingFirst other n at
  remaining_first other n at h r =
      let l = listed_first f s other r.left n at h r.there in
      record { others = l.others; same = ap answer (sym l.value) ∙ r.same; on = l.on }

-- all of a list, at the start of such a loop
pub remaining_all : {A B : Type 0} (f : Reader A) (s : List ℕ) (answer : List A → B) (n at : ℕ) → is_row f s n at ≡ true → Remaining f s answer (answer (row_in f s n at)) n at
remaining_all f s answer n at is = record { left = row_in f s n at; there = record { stands = is; value = refl }; same = refl }

-- a string, accepted, is of its class
pub string_class : (class : List ℕ → Bool) (s : List ℕ) (at : ℕ) {w : List ℕ} {n : ℕ} → string_of class s at ≡ got w n → class w ≡ true
unfolding string_of
string_class class s at e =
    let a = split (u8 s at) _ e in
    let b = split (bytes a.value s a.place) _ a.rest in
    let h = held OutsideClass (class b.value) s b.rest in
    ap class (sym h.value) ∙ h.passed

-- The same loop over strings, which goes on to the byte after each.
module _ {B : Type 0} (class : List ℕ → Bool) (s : List ℕ) (answer : List (List ℕ) → B) (o : B) where
  pub record StringsLeft (n at : ℕ) : Type 0 where
    pub others : List (List ℕ)
    pub inside : at + 1 + get_or s at 0 ≤ length s
    pub passed : class (word_at s at) ≡ true
    pub same : answer (word_at s at ∷ others) ≡ o
    pub there : Listed (string_of class) s others (n - 1) (at + 1 + get_or s at 0)

  pub strings_left : (n at : ℕ) → 0 < n → Remaining (string_of class) s answer o n at → StringsLeft n at
  strings_left n at h r =
      let a = accept _ r.there.stands in
      let v = opens (string_of class) s n at h a.read in
      let w = string_view class s at v.here in
      record {
        others = v.others;
        inside = rw (← w.place) w.inside;
        passed = rw (← w.word) (string_class class s at v.here);
        same = ap answer (ap (λ (x : List ℕ). x ∷ v.others) (sym w.word) ∙ sym v.all ∙ sym (has_value [] a.read) ∙ r.there.value) ∙ r.same;
        there = listed (string_of class) s (n - 1) (at + 1 + get_or s at 0) {end = a.place} (rw (← w.place) v.rest);
      }
