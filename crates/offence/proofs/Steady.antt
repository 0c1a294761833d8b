-- A reader goes left to right: what it gives for some bytes it gives for more of them too, unless the bytes ended before a field did, and it does not look behind where
-- it ends. Here for the fields and for how readers are put together. Assumes nothing.
use mathlib.Core.Path.{◌≡◌, refl, ap, sym, ◌∙◌}
use mathlib.Core.Bool.{Bool, true, false, cond, ◌&&◌}
use mathlib.Core.List.{List, ◌++◌}
use mathlib.Core.Logic.{◌⊎◌, inl, inr}
use mathlib.Core.Option.{Option, none, some}
use Prim.Native.Nat.{ℕ, zero, suc, ◌+◌, ◌≤◌, ◌<◌}
use native.Mathlib.Omega.{arith}
use borrow.Author.Tests.{le-leb, lt-leb, leb-true, leb-false, eqb-false, eq-eqb}
use lib.Dec.{leb, eqb}
use lib.ListN.{length, get_or, take, drop, take-append-drop, length-append, length-drop, get_or-append}
use lib.Seq.{take-append-le, drop-append-le, take-take, length-take-le}
use Rattle.names.specs.Fields.{Got, got, bad, Reader, next, ◌>>=◌, ◌<∘>◌, pure, refuse, holds, bytes, u8, u16, u32, u64, string_of, each, many, counted, heading, finished, whole, number_of}
use Rattle.names.specs.Names.{same, plain}
use Rattle.names.specs.Paths.{path_of}
use Rattle.names.specs.Read.{refusal_number}
use Rattle.names.specs.Laws.Readers.{split, u8_got, u8-end, bytes_got, bytes-end}
use Rattle.names.specs.declared.refusal.Refusal.TheVariants.{Cut, BytesAfter, OtherMark, OtherVersion, OutsideClass}
use Rattle.names.specs.declared.refusal.Refusal.{Refusal}

-- a front of a front, and what is left of the longer one
pub longer_front : (s : List ℕ) (m n : ℕ) → m ≤ n → take m s ++ drop m (take n s) ≡ take n s
longer_front s m n h = ap (λ (w : List ℕ). w ++ drop m (take n s)) (sym (take-take m n s h)) ∙ take-append-drop m (take n s)

-- where reading from a place to a place leads: on, and not behind the bytes
pub record Onward (s : List ℕ) (at n : ℕ) : Type 0 where
  pub forward : at ≤ n
  pub inside : at ≤ length s → n ≤ length s

-- what a reader that goes left to right gives: on more bytes the same, unless the bytes ended too early; what it accepts it accepts in the bytes up to where it ends
-- alone; and it never speaks of bytes behind the end (10)
pub record Steady {A : Type 0} (f : Reader A) : Type 0 where
  pub keeps : (s t : List ℕ) (at : ℕ) → (f s at ≡ bad Cut) ⊎ (f (s ++ t) at ≡ f s at)
  pub onward : (s : List ℕ) (at : ℕ) (a : A) (n : ℕ) → f s at ≡ got a n → Onward s at n
  pub tight : (s : List ℕ) (at : ℕ) (a : A) (n : ℕ) → f s at ≡ got a n → f (take n s) at ≡ got a n
  pub other : (s : List ℕ) (at : ℕ) (r : Refusal) → f s at ≡ bad r → number_of r ≡ 10 → ⊥

module _ {A : Type 0} where
  -- what is accepted is accepted in every front that reaches so far
  pub kept : {f : Reader A} → Steady f → (s : List ℕ) (at : ℕ) (a : A) (p n : ℕ) → f s at ≡ got a p → p ≤ n → f (take n s) at ≡ got a p
  kept {f} steady s at a p n e h = go (rw (longer_front s p n h) at (steady.keeps (take p s) (drop p (take n s)) at))
    where
      shorter : f (take p s) at ≡ got a p
      shorter = steady.tight s at a p e

      go : (f (take p s) at ≡ bad Cut) ⊎ (f (take n s) at ≡ f (take p s) at) → f (take n s) at ≡ got a p
      go (inl i) = let j = shorter in let z : ◌≡◌ {A = ℕ} 0 1 = cc in absurd (omega arith)
      go (inr i) = i ∙ shorter

-- Readers put together.
module _ {A : Type 0} where
  pub pure_steady : {a : A} → Steady (pure a)
  pure_steady =
      record {
        keeps = λ s t at. inr refl;
        onward = λ s at b n e. let i : at ≡ n = cc in record { forward = omega arith; inside = λ h. omega arith };
        tight = λ s at b n e. e;
        other = λ s at r e _. let z : ◌≡◌ {A = ℕ} 0 1 = cc in omega arith;
      }

  pub refuse_steady : (r : Refusal) → eqb (number_of r) 10 ≡ false → Steady (refuse {A = A} r)
  refuse_steady r h =
      record {
        keeps = λ s t at. inr refl;
        onward = λ s at b n e. let z : ◌≡◌ {A = ℕ} 0 1 = cc in absurd (omega arith);
        tight = λ s at b n e. e;
        other = λ s at q e i. let j : r ≡ q = cc in eqb-false _ _ h (ap number_of j ∙ i);
      }

  pub holds_steady : (r : Refusal) → eqb (number_of r) 10 ≡ false → (b : Bool) (a : A) → Steady (holds r b a)
  holds_steady r h true a = pure_steady
  holds_steady r h false a = refuse_steady r h

  pub cond_steady : (b : Bool) {f g : Reader A} → Steady f → Steady g → Steady (cond b f g)
  cond_steady true x y = x
  cond_steady false x y = y

module _ {A B : Type 0} where
  next_steady : (g : Got A) (f k : A → ℕ → Got B) → ((a : A) (n : ℕ) → (f a n ≡ bad Cut) ⊎ (k a n ≡ f a n)) → (next g f ≡ bad Cut) ⊎ (next g k ≡ next g f)
  next_steady (got a n) f k rest = rest a n
  next_steady (bad r) f k rest = inr refl

  next_other : (g : Got A) (f : A → ℕ → Got B) → ((r : Refusal) → g ≡ bad r → number_of r ≡ 10 → ⊥) → ((a : A) (n : ℕ) (r : Refusal) → f a n ≡ bad r → number_of r ≡ 10 → ⊥) → (r : Refusal) → next g f ≡ bad r → number_of r ≡ 10 → ⊥
  next_other (got a n) f first rest r e i = rest a n r e i
  next_other (bad q) f first rest r e i = let j : q ≡ r = cc in first q refl (ap number_of j ∙ i)

  module _ {m : Reader A} {f : A → Reader B} (first : Steady m) (rest : (a : A) → Steady (f a)) where
    then_keeps : (s t : List ℕ) (at : ℕ) → (m s at ≡ bad Cut) ⊎ (m (s ++ t) at ≡ m s at) → ((m >>= f) s at ≡ bad Cut) ⊎ ((m >>= f) (s ++ t) at ≡ (m >>= f) s at)
    then_keeps s t at (inl e) = inl (rw e)
    then_keeps s t at (inr e) = rw e (next_steady (m s at) (λ a n. f a s n) (λ a n. f a (s ++ t) n) (λ a n. (rest a).keeps s t n))

    then_onward : (s : List ℕ) (at : ℕ) (b : B) (n : ℕ) → (m >>= f) s at ≡ got b n → Onward s at n
    then_onward s at b n e =
        let x = split (m s at) (λ a p. f a s p) e in
        let i = first.onward s at x.value x.place x.first in
        let j = (rest x.value).onward s x.place b n x.rest in
        record { forward = omega (arith, i.forward, j.forward); inside = λ h. j.inside (i.inside h) }

    then_tight : (s : List ℕ) (at : ℕ) (b : B) (n : ℕ) → (m >>= f) s at ≡ got b n → (m >>= f) (take n s) at ≡ got b n
    then_tight s at b n e =
        let x = split (m s at) (λ a p. f a s p) e in
        let h = ((rest x.value).onward s x.place b n x.rest).forward in
        let i = kept first s at x.value x.place n x.first h in
        rw i ((rest x.value).tight s x.place b n x.rest)

    pub then_steady : Steady (m >>= f)
    then_steady =
        record {
          keeps = λ s t at. then_keeps s t at (first.keeps s t at);
          onward = then_onward;
          tight = then_tight;
          other = λ s at. next_other (m s at) (λ a n. f a s n) (first.other s at) (λ a n. (rest a).other s n);
        }

  pub map_steady : (h : A → B) {m : Reader A} → Steady m → Steady (h <∘> m)
  map_steady h first = then_steady first (λ a. pure_steady)

-- Fields: so many bytes, or 2; and what they give is told by these bytes alone.
module _ {A : Type 0} (f : Reader A) (w : ℕ) (v : List ℕ → ℕ → A)
    (fits : (s : List ℕ) (at : ℕ) → at + w ≤ length s → f s at ≡ got (v s at) (at + w))
    (short : (s : List ℕ) (at : ℕ) → length s < at + w → f s at ≡ bad Cut)
    (told : (s t : List ℕ) (at : ℕ) → at + w ≤ length s → v (s ++ t) at ≡ v s at) where
  field_keeps : (s t : List ℕ) (at : ℕ) (b : Bool) → leb (at + w) (length s) ≡ b → (f s at ≡ bad Cut) ⊎ (f (s ++ t) at ≡ f s at)
  field_keeps s t at false h = inl (short s at (leb-false _ _ h))
  field_keeps s t at true h =
      let i : at + w ≤ length s = leb-true _ _ h in
      let j : at + w ≤ length (s ++ t) = simp length-append (omega arith) in
      inr (fits (s ++ t) at j ∙ ap (λ (a : A). got a (at + w)) (told s t at i) ∙ sym (fits s at i))

  field_place : (s : List ℕ) (at : ℕ) (a : A) (n : ℕ) (b : Bool) → leb (at + w) (length s) ≡ b → f s at ≡ got a n → (at + w ≤ length s) × (n ≡ at + w)
  field_place s at a n false h e = let i = short s at (leb-false _ _ h) in let z : ◌≡◌ {A = ℕ} 0 1 = cc in absurd (omega arith)
  field_place s at a n true h e = let i = fits s at (leb-true _ _ h) in (leb-true _ _ h, cc)

  field_tight : (s : List ℕ) (at : ℕ) (a : A) → at + w ≤ length s → f s at ≡ got a (at + w) → f (take (at + w) s) at ≡ got a (at + w)
  field_tight s at a h e =
      let l : at + w ≤ length (take (at + w) s) = omega (arith, length-take-le (at + w) s h) in
      let i : v s at ≡ v (take (at + w) s) at = rw (take-append-drop (at + w) s) at (told (take (at + w) s) (drop (at + w) s) at l) in
      fits (take (at + w) s) at l ∙ ap (λ (b : A). got b (at + w)) (sym i) ∙ sym (fits s at h) ∙ e

  field_other : (s : List ℕ) (at : ℕ) (r : Refusal) (b : Bool) → leb (at + w) (length s) ≡ b → f s at ≡ bad r → number_of r ≡ 10 → ⊥
  field_other s at r false h e k = let i = short s at (leb-false _ _ h) in let j : r ≡ Cut = cc in let z : number_of Cut ≡ 10 = ap number_of (sym j) ∙ k in omega arith
  field_other s at r true h e k = let i = fits s at (leb-true _ _ h) in let z : ◌≡◌ {A = ℕ} 0 1 = cc in omega arith

  field_steady : Steady f
  field_steady =
      record {
        keeps = λ s t at. field_keeps s t at (leb (at + w) (length s)) refl;
        onward = λ s at a n e. let x = field_place s at a n (leb (at + w) (length s)) refl e in record { forward = omega (arith, x.1); inside = λ h. omega (arith, x.0, x.1) };
        tight = λ s at a n e.
            let x = field_place s at a n (leb (at + w) (length s)) refl e in
            rw x.1 (field_tight s at a x.0 (rw x.1 at e));
        other = λ s at r. field_other s at r (leb (at + w) (length s)) refl;
      }

pub bytes_steady : (n : ℕ) → Steady (bytes n)
bytes_steady n = field_steady (bytes n) n (λ s at. take n (drop at s)) (λ s at h. bytes_got s at n h) (λ s at h. bytes-end s at n h) told
  where
    told : (s t : List ℕ) (at : ℕ) → at + n ≤ length s → take n (drop at (s ++ t)) ≡ take n (drop at s)
    told s t at h =
        let inner : n ≤ length (drop at s) = simp length-drop (omega arith) in
        ap (take n) (drop-append-le at s t (omega arith)) ∙ take-append-le n (drop at s) t inner

pub u8_steady : Steady u8
u8_steady =
    field_steady u8 1 (λ s at. get_or s at 0) (λ s at h. u8_got s at (omega arith)) (λ s at h. u8-end s at (omega arith))
    (λ s t at h. get_or-append s t 0 at (omega arith))

pub u16_steady : Steady u16
unfolding u16
u16_steady = then_steady (bytes_steady 2) (λ w. pure_steady)

pub u32_steady : Steady u32
unfolding u32
u32_steady = then_steady (bytes_steady 4) (λ w. pure_steady)

pub u64_steady : Steady u64
unfolding u64
u64_steady = then_steady (bytes_steady 8) (λ w. pure_steady)

pub string_steady : (class : List ℕ → Bool) → Steady (string_of class)
unfolding string_of
string_steady class = then_steady u8_steady (λ n. then_steady (bytes_steady n) (λ w. holds_steady OutsideClass refl (class w) w))

pub many_steady : {A K : Type 0} (key : A → K) {f : Option K → Reader A} → ((before : Option K) → Steady (f before)) → (n : ℕ) (before : Option K) → Steady (many key f n before)
unfolding many
many_steady key each zero before = pure_steady
many_steady key each (suc n) before = then_steady (each before) (λ a. then_steady (many_steady key each n (some (key a))) (λ rest. pure_steady))

pub counted_steady : {A : Type 0} {f : Option A → Reader A} → ((before : Option A) → Steady (f before)) → Steady (counted f)
unfolding counted
counted_steady each = then_steady u8_steady (λ n. many_steady (λ a. a) each n none)

pub path_steady : Steady path_of
unfolding path_of
path_steady = counted_steady (λ before. string_steady plain)

pub heading_steady : (mark : List ℕ) (newest : ℕ) → Steady (heading mark newest)
unfolding heading
heading_steady mark newest = then_steady (bytes_steady (length mark)) (λ m. then_steady (holds_steady OtherMark refl (same m mark) m) (λ _. then_steady u16_steady (λ v. holds_steady OtherVersion refl (leb 1 v && leb v newest) v)))

-- The number that refuses some bytes, and that of more of them: the bytes ended too early (2); or it is the same; or both times the record was read to its end,
-- and only what stands behind it differs (0 or 10).
abbrev pub Over : ℕ → Type 0
Over n = (n ≡ 0) ⊎ (n ≡ 10)

pub data Sure (m n : ℕ) : Type 0 where
  early : m ≡ 2 → Sure m n
  alike : n ≡ m → Sure m n
  over : Over m → Over n → Sure m n

-- bytes that stand behind a record: the front that is the record
pub record Closed {A : Type 0} (f : Reader A) (s : List ℕ) (at : ℕ) : Type 0 where
  pub end : ℕ
  pub forward : at ≤ end
  pub inside : end ≤ length s
  pub accepts : refusal_number (f (take end s) at) ≡ 0

-- a reader of a record up to its end
pub record Ends {A : Type 0} (f : Reader A) : Type 0 where
  pub ends : (s t : List ℕ) (at : ℕ) → Sure (refusal_number (f s at)) (refusal_number (f (s ++ t) at))
  pub closes : (s : List ℕ) (at : ℕ) → at ≤ length s → refusal_number (f s at) ≡ 10 → Closed f s at

module _ {A B : Type 0} where
  next_ends : (g : Got A) (f k : A → ℕ → Got B) → ((a : A) (n : ℕ) → Sure (refusal_number (f a n)) (refusal_number (k a n))) → Sure (refusal_number (next g f)) (refusal_number (next g k))
  next_ends (got a n) f k rest = rest a n
  next_ends (bad r) f k rest = alike refl

  module _ {m : Reader A} {f : A → Reader B} (first : Steady m) (rest : (a : A) → Ends (f a)) where
    then_sure : (s t : List ℕ) (at : ℕ) → (m s at ≡ bad Cut) ⊎ (m (s ++ t) at ≡ m s at) → Sure (refusal_number ((m >>= f) s at)) (refusal_number ((m >>= f) (s ++ t) at))
    unfolding refusal_number
    then_sure s t at (inl e) = early (rw e)
    then_sure s t at (inr e) = rw e (next_ends (m s at) (λ a n. f a s n) (λ a n. f a (s ++ t) n) (λ a n. (rest a).ends s t n))

    then_closes : (s : List ℕ) (at : ℕ) → at ≤ length s → (g : Got A) → m s at ≡ g → refusal_number (next g (λ a n. f a s n)) ≡ 10 → Closed (m >>= f) s at
    unfolding refusal_number
    then_closes s at h (bad r) e i = absurd (first.other s at r e i)
    then_closes s at h (got a p) e i =
        let on = first.onward s at a p e in
        let x = (rest a).closes s p (on.inside h) i in
        let whole_part = kept first s at a p x.end e x.forward in
        record { end = x.end; forward = omega (arith, on.forward, x.forward); inside = x.inside; accepts = rw whole_part x.accepts }

    pub then_ends : Ends (m >>= f)
    then_ends = record { ends = λ s t at. then_sure s t at (first.keeps s t at); closes = λ s at h. then_closes s at h (m s at) refl }

module _ {A : Type 0} (a : A) where
  at-end : (s : List ℕ) (at : ℕ) → Over (refusal_number (finished a s at))
  unfolding finished refusal_number
  at-end s at = go (eqb at (length s))
    where
      go : (b : Bool) → Over (refusal_number (holds BytesAfter b a s at))
      go true = inl refl
      go false = inr refl

  just-at-end : (s : List ℕ) (at : ℕ) → at ≤ length s → refusal_number (finished a (take at s) at) ≡ 0
  unfolding finished refusal_number
  just-at-end s at h = rw (length-take-le at s h, eq-eqb at at refl)

  pub finished_ends : Ends (finished a)
  finished_ends =
      record {
        ends = λ s t at. over (at-end s at) (at-end (s ++ t) at);
        closes = λ s at h i. record { end = at; forward = omega arith; inside = h; accepts = just-at-end s at h };
      }

-- a whole record, where the more bytes are still within its size
pub whole_sure : {A : Type 0} {f : Reader A} → Ends f → (s t : List ℕ) → length (s ++ t) ≤ 32768 → Sure (refusal_number (whole f s)) (refusal_number (whole f (s ++ t)))
unfolding whole
whole_sure {f = f} e s t h =
    let shorter : length s ≤ 32768 = omega (arith, length-append s t) in
    rw (le-leb _ _ h, le-leb _ _ shorter) (e.ends s t 0)

-- a record that is too long is refused by 1
pub too_long : {A : Type 0} (f : Reader A) (s : List ℕ) → 32768 < length s → refusal_number (whole f s) ≡ 1
unfolding whole refusal_number
too_long f s h = rw (lt-leb _ _ h)

-- a record with bytes behind it: the front that is the record
pub whole_closes : {A : Type 0} {f : Reader A} → Ends f → (s : List ℕ) → refusal_number (whole f s) ≡ 10 → Closed (λ t at. whole f t) s 0
unfolding whole refusal_number
whole_closes {f = f} e s i = go (leb (length s) 32768) refl
  where
    go : (b : Bool) → leb (length s) 32768 ≡ b → Closed (λ t at. whole f t) s 0
    go true h =
        let x = e.closes s 0 (omega arith) (rw h at i) in
        let fits : length (take x.end s) ≤ 32768 = omega (arith, leb-true (length s) 32768 h, length-take-le x.end s x.inside, x.inside) in
        record { end = x.end; forward = x.forward; inside = x.inside; accepts = rw (le-leb _ _ fits) x.accepts }
    go false h = let j : ◌≡◌ {A = ℕ} 1 10 = rw h at i in absurd (omega arith)
