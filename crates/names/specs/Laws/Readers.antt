-- The laws of readers: what a field's bytes give, and how an answer passes through a sequence. Assumes nothing.
use Rattle.std.proofs.Math.Path.{◌≡◌, refl, sym, ap}
use Rattle.std.proofs.Common.{◌∙◌}
use Rattle.std.specs.Prelude.{Bool, ◌&&◌, ltb, eqb, get_or, take, drop, Ok, Err, IsErrAnd, MatchResult}
use Rattle.std.proofs.Math.Bool.{true, false, cond}
use Rattle.std.proofs.lemmas.Bool.{false≢true}
use mathlib.Core.List.{List, [], ◌∷◌}
use Prim.Native.Nat.{ℕ, zero, suc, ◌+◌, ◌-◌, ◌≤◌, ◌<◌}
use native.Mathlib.Omega.{arith}
use borrow.Author.Tests.{le-ltb, lt-ltb, le-leb, lt-leb, ltb-true, leb-true, eqb-true, eqb-false, eq-eqb, ne_eqb}
use Rattle.std.proofs.Math.Numerals.{sub-one}
use Rattle.std.proofs.Math.Nat.{zero-add}
use Rattle.std.proofs.Math.Dec.{leb}
use Rattle.std.proofs.Math.ListN.{length}
use Rattle.names.specs.Fields.{Got, got, bad, number_of, Reader, next, holds, choose, u8, u16, number, bytes, string_of, many, heading, finished, whole}
use Rattle.names.specs.Lists.{first}
use Rattle.names.specs.Names.{same}
use Rattle.std.proofs.Math.Option.{Option, none, some}
use Rattle.names.specs.Read.{ending, read_number, refusal_number, accepted, value_or, word_at, Read}
use Rattle.names.specs.declared.refusal.Refusal.{Refusal}
use Rattle.names.specs.declared.refusal.Refusal.TheVariants.{TooLong, Cut, OtherMark, OtherVersion, UndefinedChoice, OutsideClass, BytesAfter}

infixl 10 ◌&◌
-- Fields.
module _ (s : List ℕ) (at : ℕ) where
  pub u8-end : length s ≤ at → u8 s at ≡ bad Cut
  unfolding u8
  u8-end h = rw (le-ltb _ _ h)

  pub u8_got : at < length s → u8 s at ≡ got (get_or s at 0) (at + 1)
  unfolding u8
  u8_got h = rw (lt-ltb _ _ h)

  pub bytes-end : (n : ℕ) → length s < at + n → bytes n s at ≡ bad Cut
  unfolding bytes
  bytes-end n h = rw (lt-leb _ _ h)

  pub bytes_got : (n : ℕ) → at + n ≤ length s → bytes n s at ≡ got (take n (drop at s)) (at + n)
  unfolding bytes
  bytes_got n h = rw (le-leb _ _ h)

module _ (class : List ℕ → Bool) (s : List ℕ) (at : ℕ) where
  pub string-end : length s ≤ at → string_of class s at ≡ bad Cut
  unfolding string_of
  string-end h = rw (u8-end s at h)

  module _ (h : at < length s) where
    pub string_short : length s < at + 1 + get_or s at 0 → string_of class s at ≡ bad Cut
    unfolding string_of
    string_short k = rw (u8_got s at h, bytes-end s (at + 1) _ k)

    module _ (k : at + 1 + get_or s at 0 ≤ length s) where
      pub string_outside : class (word_at s at) ≡ false → string_of class s at ≡ bad OutsideClass
      unfolding string_of
      string_outside e = rw (u8_got s at h, bytes_got s (at + 1) _ k, e)

      pub string_got : class (word_at s at) ≡ true → string_of class s at ≡ got (word_at s at) (at + 1 + get_or s at 0)
      unfolding string_of
      string_got e = rw (u8_got s at h, bytes_got s (at + 1) _ k, e)

-- Sequences.
module _ {A B : Type 0} (g : Got A) (f : A → ℕ → Got B) where
  -- the first reader's code refused: what it is refused for is handed on
  pub stops : {x : Read} {e : Refusal} → x ≡ Err e → x ≡ ending g → Err e ≡ ending (next g f)
  unfolding ending
  stops {x} {e} p q = go g q
    where
      go : (g : Got A) → x ≡ ending g → Err e ≡ ending (next g f)
      go (got a n) h = let z : ◌≡◌ {A = ℕ} 0 1 = cc in absurd (omega arith)
      go (bad e') h = sym p ∙ h

  -- the first reader's code went on to `n`, and `y` is what the second answers there, whatever the value
  pub goes : {x y : Read} {n : ℕ} → x ≡ Ok n → x ≡ ending g → ((a : A) → g ≡ got a n → y ≡ ending (f a n)) → y ≡ ending (next g f)
  unfolding ending
  goes {x} {y} {n} p q k = go g refl
    where
      go : (h : Got A) → g ≡ h → y ≡ ending (next h f)
      go (got a m) h = let e : m ≡ n = cc in rw e (k a (rw (← e) h))
      go (bad e) h = let z : ◌≡◌ {A = ℕ} 0 1 = cc in absurd (omega arith)

-- the last reader of a sequence: its answer is the sequence's
module _ {A B : Type 0} (h : A → B) where
  pub last : (g : Got A) → ending g ≡ ending (next g (λ a n. got (h a) n))
  unfolding ending
  last (got a n) = refl
  last (bad e) = refl

-- `?` hands on what the code of a part was refused for
pub handed_on : {x y : Read} {r : Refusal} → IsErrAnd x (λ e. e ≡ r) → Err r ≡ y → x ≡ y
handed_on {x} {y} {r} e f = go x e
  where
    go : (x : Read) → IsErrAnd x (λ e. e ≡ r) → x ≡ y
    go (Ok n) e = absurd e
    go (Err k) e = rw e f

-- an answer at a reader, by what the reader is there
pub via : {A : Type 0} {g h : Got A} {x : Read} → g ≡ h → x ≡ ending h → x ≡ ending g
via e p = rw e p

-- A row in which the code keeps the key of the one before: it reads the i-th of `end` things next, and `whole` is the answer to all, as the answer to those that are left.
module _ {A K : Type 0} (key : A → K) (f : Option K → Reader A) (s : List ℕ) (whole : Read) (end i at : ℕ) (before : Option K) (inv : whole ≡ ending (many key f (end - i) before s at)) where
  pub row_done : end ≤ i → Ok at ≡ whole
  unfolding many ending
  row_done h = go (end - i) (omega arith) inv
    where
      go : (n : ℕ) → n ≤ 0 → whole ≡ ending (many key f n before s at) → Ok at ≡ whole
      go zero h i = sym i
      go (suc n) h i = absurd (omega arith)

  module _ (h : i < end) (x : Read) (is : x ≡ ending (f before s at)) where
    pub row_stops : (r : Refusal) → x ≡ Err r → Err r ≡ whole
    unfolding many
    row_stops r e = go (end - i) (omega arith) inv
      where
        go : (n : ℕ) → 0 < n → whole ≡ ending (many key f n before s at) → Err r ≡ whole
        go zero h i = absurd (omega arith)
        go (suc n) h i = stops _ _ e is ∙ sym i

    pub row_turn : (m : ℕ) → x ≡ Ok m → (k : K) → ((a : A) → f before s at ≡ got a m → key a ≡ k) → whole ≡ ending (many key f (end - (i + 1)) (some k) s m)
    unfolding many
    row_turn m e k is_key = let left : end - (i + 1) ≡ (end - i) - 1 = omega arith in rw left (go (end - i) (omega arith) inv)
      where
        go : (n : ℕ) → 0 < n → whole ≡ ending (many key f n before s at) → whole ≡ ending (many key f (n - 1) (some k) s m)
        go zero h i = absurd (omega arith)
        go (suc n) h i = i ∙ sym (goes _ _ e is λ a d. rw (sub-one, ← is_key a d) (last _ _))

-- What was accepted, and what a value read says of it.
pub record Accepted {A : Type 0} (g : Got A) : Type 0 where
  pub value : A
  pub place : ℕ
  pub read : g ≡ got value place

module _ {A : Type 0} where
  pub accept : (g : Got A) → accepted g ≡ true → Accepted g
  unfolding accepted
  accept (got a n) e = record { value = a; place = n; read = refl }
  accept (bad r) e = absurd (false≢true e)

  pub is_accepted : {g : Got A} {a : A} {n : ℕ} → g ≡ got a n → accepted g ≡ true
  unfolding accepted
  is_accepted e = rw e

  pub has_value : {g : Got A} {a : A} {n : ℕ} (other : A) → g ≡ got a n → value_or other g ≡ a
  unfolding value_or
  has_value other e = rw e

  -- the code's answer at what is accepted
  pub arrives : {g : Got A} {a : A} {n m : ℕ} {x : Read} → g ≡ got a n → x ≡ ending g → x ≡ Ok m → m ≡ n
  unfolding ending
  arrives {g} {a} {n} {m} {x} e f h = let i : x ≡ Ok n = rw e at f in cc

  pub not_refused : {g : Got A} {a : A} {n : ℕ} {r : Refusal} {x : Read} → g ≡ got a n → x ≡ ending g → x ≡ Err r → ⊥
  unfolding ending
  not_refused {g} {a} {n} {r} {x} e f h = let i : x ≡ Ok n = rw e at f in let z : ◌≡◌ {A = ℕ} 0 1 = cc in omega arith

-- what the code went past is accepted: from a reader's answer to what a lookup requires
pub passes : {A : Type 0} (g : Got A) {x : Read} {n : ℕ} → x ≡ ending g → x ≡ Ok n → accepted g ≡ true
unfolding ending accepted
passes (got a m) e f = refl
passes (bad r) {x} {n} e f = let z : ◌≡◌ {A = ℕ} 0 1 = cc in absurd (omega arith)

-- what the code was refused by is what the reader gives, and its number
pub refused_by : {A : Type 0} (g : Got A) (x : Read) (r : Refusal) → x ≡ ending g → x ≡ Err r → g ≡ bad r
unfolding ending
refused_by (got a n) x r e f = let z : ◌≡◌ {A = ℕ} 0 1 = cc in absurd (omega arith)
refused_by (bad k) x r e f = let h : k ≡ r = cc in rw h

pub refuses : {r : Refusal} {k : ℕ} {x : Read} → x ≡ Err r → k ≡ read_number x → k ≡ number_of r
refuses e f = f ∙ rw e

-- the number of a reader's answer
pub number_of_lem : {A : Type 0} (g : Got A) (x : Read) (n : ℕ) → x ≡ ending g → n ≡ read_number x → n ≡ refusal_number g
unfolding ending refusal_number
number_of_lem (got a m) x n e f = rw e at f
number_of_lem (bad r) x n e f = rw e at f

-- what the code of `refusal_number` promises at a refusal is the number of the answer
pub number_of_read : (x : Read) (n : ℕ) → MatchResult x (λ _. n ≡ 0) (λ r. n ≡ number_of r) → n ≡ read_number x
number_of_read (Ok m) n e = e
number_of_read (Err r) n e = e

-- from that promise to the number of the reader's answer
pub ruleset refusal_numbers = (number_of_lem, number_of_read)

-- Accepted bytes, taken apart: what a sequence gave, its first part gave, and then its second.
pub record Split {A B : Type 0} (g : Got A) (f : A → ℕ → Got B) (b : B) (m : ℕ) : Type 0 where
  pub value : A
  pub place : ℕ
  pub first : g ≡ got value place
  pub rest : f value place ≡ got b m

module _ {A B : Type 0} where
  pub split : (g : Got A) (f : A → ℕ → Got B) {b : B} {m : ℕ} → next g f ≡ got b m → Split g f b m
  split (got a n) f e = record { value = a; place = n; first = refl; rest = e }
  split (bad r) f {b} {m} e = let z : ◌≡◌ {A = ℕ} 0 1 = cc in absurd (omega arith)

pub record Held {A : Type 0} (test : Bool) (a b : A) (n m : ℕ) : Type 0 where
  pub passed : test ≡ true
  pub value : a ≡ b
  pub place : n ≡ m

pub held : {A : Type 0} (r : Refusal) (test : Bool) (s : List ℕ) {a b : A} {n m : ℕ} → holds r test a s n ≡ got b m → Held test a b n m
held r true s e = record { passed = refl; value = cc; place = cc }
held r false s {a} {b} {n} {m} e = let z : ◌≡◌ {A = ℕ} 0 1 = cc in absurd (omega arith)

-- a string, accepted
pub record StringView (class : List ℕ → Bool) (s : List ℕ) (at : ℕ) (w : List ℕ) (n : ℕ) : Type 0 where
  pub word : w ≡ word_at s at
  pub place : n ≡ at + 1 + get_or s at 0
  pub inside : n ≤ length s

module _ (s : List ℕ) (at : ℕ) where
  pub u8_view : {k n : ℕ} → u8 s at ≡ got k n → (at < length s) × (k ≡ get_or s at 0) × (n ≡ at + 1)
  unfolding u8
  u8_view e = let h = held Cut (ltb at (length s)) s e in (ltb-true _ _ h.passed, sym h.value, sym h.place)

  pub bytes_view : (k : ℕ) {w : List ℕ} {n : ℕ} → bytes k s at ≡ got w n → (at + k ≤ length s) × (w ≡ take k (drop at s)) × (n ≡ at + k)
  unfolding bytes
  bytes_view k e = let h = held Cut (leb (at + k) (length s)) s e in (leb-true _ _ h.passed, sym h.value, sym h.place)

pub string_view : (class : List ℕ → Bool) (s : List ℕ) (at : ℕ) {w : List ℕ} {n : ℕ} → string_of class s at ≡ got w n → StringView class s at w n
unfolding string_of
string_view class s at {w} {n} e =
    let a = split (u8 s at) _ e in
    let u = u8_view s at a.first in
    let b = split (bytes a.value s a.place) _ a.rest in
    let v = bytes_view s a.place a.value b.first in
    let h = held OutsideClass (class b.value) s b.rest in
    record { word = sym h.value ∙ v.1 ∙ rw (u.1, u.2); place = sym h.place ∙ v.2 ∙ rw (u.1, u.2); inside = rw (← h.place, v.2) v.0 }

-- A rule of each number below n, by the rule at each: for the bytes of a table.
unfoldable pub Each : (ℕ → Type 0) → ℕ → Type 0
Each P zero = Unit {0}
Each P (suc n) = Each P n × P n

-- what holds of each, one on a line: `tt & law & law`
abbrev pub ◌&◌ : {A B : Type 0} → A → B → A × B
a & b = (a, b)

pub each_below : (P : ℕ → Type 0) (n : ℕ) → Each P n → (k : ℕ) → k < n → P k
unfolding Each
each_below P zero all k h = absurd (omega arith)
each_below P (suc n) all k h = go (λ l. each_below P n all.0 k l) (eqb k n) refl
  where
    go : (k < n → P k) → (b : Bool) → eqb k n ≡ b → P k
    go below true e = rw (eqb-true k n e) all.1
    go below false e = let ne = eqb-false k n e in below (omega arith)

pub got_value : {A : Type 0} {a b : A} {n m : ℕ} → got a n ≡ got b m → a ≡ b
got_value e = cc

pub got_place : {A : Type 0} {a b : A} {n m : ℕ} → got a n ≡ got b m → n ≡ m
got_place e = cc

-- a 16-bit number, accepted
pub u16_value : (s : List ℕ) (at : ℕ) {v n : ℕ} → u16 s at ≡ got v n → v ≡ number 0 (take 2 (drop at s))
unfolding u16
u16_value s at e =
    let a = split (bytes 2 s at) _ e in
    sym (got_value a.rest) ∙ ap (number 0) (bytes_view s at 2 a.first).1

module _ {A : Type 0} (a : A) (s : List ℕ) (at : ℕ) where
  pub finished_here : at ≡ length s → Ok at ≡ ending (finished a s at)
  unfolding finished ending
  finished_here e = rw (eq-eqb _ _ e)

  pub finished_not : (at ≡ length s → ⊥) → Err BytesAfter ≡ ending (finished a s at)
  unfolding finished ending
  finished_not e = rw (ne_eqb _ _ e)

-- A reader that accepts what another does, with the same value and place.
abbrev pub Keeps : {A : Type 0} → Got A → Got A → Type 0
Keeps {A} g h = (a : A) (n : ℕ) → g ≡ got a n → h ≡ got a n

abbrev pub Wider : {A : Type 0} → Reader A → Reader A → Type 0
Wider f g = (s : List ℕ) (at : ℕ) → Keeps (f s at) (g s at)

module _ {A B : Type 0} where
  pub next_wider : (g h : Got A) (f k : A → ℕ → Got B) → Keeps g h → ((a : A) (n : ℕ) → Keeps (f a n) (k a n)) → Keeps (next g f) (next h k)
  next_wider g h f k first rest b m e =
      let x = split g f e in
      rw (first x.value x.place x.first) (rest x.value x.place b m x.rest)

pub u16_place : (s : List ℕ) (at : ℕ) {v n : ℕ} → u16 s at ≡ got v n → n ≡ at + 2
unfolding u16
u16_place s at e =
    let a = split (bytes 2 s at) _ e in
    sym (got_place a.rest) ∙ (bytes_view s at 2 a.first).2

-- a heading, accepted: the place behind it, and the version, which stands behind the mark
module _ (mark : List ℕ) (newest : ℕ) (s : List ℕ) {v n : ℕ} (e : heading mark newest s 0 ≡ got v n) where
  heading_view : (n ≡ length mark + 2) × (v ≡ number 0 (take 2 (drop (length mark) s)))
  unfolding heading
  heading_view =
      let a = split (bytes (length mark) s 0) _ e in
      let b = split (holds OtherMark (same a.value mark) a.value s a.place) _ a.rest in
      let d = split (u16 s b.place) _ b.rest in
      let i = (bytes_view s 0 (length mark) a.first).2 in
      let j = (held OtherMark (same a.value mark) s b.first).place in
      let l = held OtherVersion (leb 1 d.value && leb d.value newest) s d.rest in
      let p : b.place ≡ length mark = sym j ∙ i ∙ zero-add (length mark) in (
        sym l.place ∙ u16_place s b.place d.first ∙ ap (λ (m : ℕ). m + 2) p,
        sym l.value ∙ u16_value s b.place d.first ∙ ap (λ (m : ℕ). number 0 (take 2 (drop m s))) p,
      )

  pub heading_place : n ≡ length mark + 2
  heading_place = heading_view.0

  pub heading_version : v ≡ number 0 (take 2 (drop (length mark) s))
  heading_version = heading_view.1

pub finished_value : {A : Type 0} (a : A) (s : List ℕ) (at : ℕ) {b : A} {n : ℕ} → finished a s at ≡ got b n → a ≡ b
unfolding finished
finished_value a s at e = (held BytesAfter (eqb at (length s)) s e).value

pub whole_read : {A : Type 0} (f : Reader A) (s : List ℕ) {a : A} {n : ℕ} → whole f s ≡ got a n → f s 0 ≡ got a n
unfolding whole
whole_read f s {a} {n} e = go (leb (length s) 32768) e
  where
    go : (b : Bool) → cond b (f s 0) (bad TooLong) ≡ got a n → f s 0 ≡ got a n
    go true i = i
    go false i = let z : ◌≡◌ {A = ℕ} 0 1 = cc in absurd (omega arith)

-- A search along a row: what is left of it answers as the whole does.
module _ {A K : Type 0} (key : A → K) (f : Option K → Reader A) (test : A → Bool) (s : List ℕ) (o : Option A) where
  pub record RowLeft (n at : ℕ) : Type 0 where
    pub before : Option K
    pub things : List A
    pub place : ℕ
    pub read : many key f n before s at ≡ got things place
    pub answer : first test things ≡ o

  pub record RowFirst (n at : ℕ) : Type 0 where
    pub before : Option K
    pub own : A
    pub p : ℕ
    pub here : f before s at ≡ got own p
    pub others : List A
    pub place : ℕ
    pub rest : many key f (n - 1) (some (key own)) s p ≡ got others place
    pub answer : cond (test own) (some own) (first test others) ≡ o

  pub row_first : (n at : ℕ) → 0 < n → RowLeft n at → RowFirst n at
  unfolding many first
  row_first zero at h l = absurd (omega arith)
  row_first (suc n) at h l =
      let a = split (f l.before s at) _ l.read in
      let b = split (many key f n (some (key a.value)) s a.place) _ a.rest in
      record {
        before = l.before;
        own = a.value;
        p = a.place;
        here = a.first;
        others = b.value;
        place = b.place;
        rest = rw sub-one b.first;
        answer = ap (first test) (got_value b.rest) ∙ l.answer;
      }

  pub row_over : (n at : ℕ) → n ≤ 0 → RowLeft n at → none ≡ o
  unfolding many first
  row_over zero at h l = ap (first test) (got_value l.read) ∙ l.answer
  row_over (suc n) at h l = absurd (omega arith)

-- the same for the numbers from a, n of them
pub each_in : (P : ℕ → Type 0) (a n : ℕ) → Each (λ j. P (a + j)) n → (k : ℕ) → a ≤ k → k < a + n → P k
each_in P a n all k l h =
    let e : a + (k - a) ≡ k = omega arith in
    let q = each_below (λ j. P (a + j)) n all (k - a) (omega arith) in
    rw e at q

-- Choice bytes. A byte above all keys of a table is undefined.
unfoldable pub keys_up_to : {A : Type 0} → ℕ → List (ℕ × Reader A) → Bool
keys_up_to bound [] = true
keys_up_to bound ((n, f) ∷ rest) = cond (leb n bound) (keys_up_to bound rest) false

module _ {A : Type 0} (s : List ℕ) (at : ℕ) where
  pub choose_beyond : (bound k : ℕ) → bound < k → (table : List (ℕ × Reader A)) → keys_up_to bound table ≡ true → choose k table s at ≡ bad UndefinedChoice
  unfolding choose keys_up_to
  choose_beyond bound k h [] e = refl
  choose_beyond bound k h ((n, f) ∷ rest) e = go (λ i. choose_beyond bound k h rest i) (leb n bound) refl e
    where
      go : (keys_up_to bound rest ≡ true → choose k rest s at ≡ bad UndefinedChoice) → (b : Bool) → leb n bound ≡ b → cond b (keys_up_to bound rest) false ≡ true → cond (eqb k n) f (choose k rest) s at ≡ bad UndefinedChoice
      go beyond true l i = let m = leb-true n bound l in rw (ne_eqb k n (λ e. omega arith)) (beyond i)
      go beyond false l i = absurd (false≢true i)

  -- what follows a choice byte, by the byte
  pub choice : (table : List (ℕ × Reader A)) → at < length s → (k : ℕ) → get_or s at 0 ≡ k → next (u8 s at) (λ j n. choose j table s n) ≡ choose k table s (at + 1)
  choice table h k e = rw (← e, u8_got s at h)

-- two sequences that go on alike
pub alike : {A B C : Type 0} (g : Got A) (f : A → ℕ → Got B) (h : A → ℕ → Got C) → ((a : A) (n : ℕ) → ending (f a n) ≡ ending (h a n)) → ending (next g f) ≡ ending (next g h)
unfolding ending
alike (got a n) f h same = same a n
alike (bad r) f h same = refl
