-- A target record is accepted only where it is the one that is written, and the record of a part of its list is then accepted too. Assumes nothing.
use mathlib.Core.Path.{◌≡◌, refl, sym, ap, ap₂, subst, ◌∙◌}
use mathlib.Core.Bool.{Bool, true, false, cond, ◌&&◌}
use mathlib.Core.Logic.{◌⊎◌, inl, inr, ⊎_elim}
use mathlib.Core.List.{List, [], ◌∷◌, ◌++◌, append_assoc, append-nil}
use mathlib.Core.Option.{Option, none, some}
use Prim.Native.Nat.{ℕ, zero, suc, ◌+◌, ◌≤◌}
use native.Mathlib.Numerals.{add-one}
use native.Mathlib.Omega.{arith}
use lib.Dec.{leb, eqb}
use lib.ListN.{length, get_or, take, drop, length-append, length-drop, take-append-drop}
use lib.Seq.{drop-cons, drop-drop, drop-append_seam, take-append_seam, length-take-le, drop-length}
use borrow.Author.Tests.{eqb-true, eq-eqb, leb-true, le-leb}
use Rattle.names.specs.Lists.{gather}
use Rattle.names.specs.Laws.Lists.{gather_append}
use Rattle.names.specs.Fields.{Reader, Got, got, bad, next, ◌<∘>◌, pure, holds, u8, u16, number, bytes, string_of, many, each, counted, heading, finished, whole, choose}
use Rattle.names.specs.Names.{path_name, path_or_none, plain, same}
use Rattle.names.specs.Laws.Names.{same_eq, same_refl, and_left, and_right}
use Rattle.names.specs.Laws.Readers.{split, held, u8_view, u8_got, bytes_view, bytes_got, got_value, got_place, whole_read}
use Rattle.targets.specs.Targets.{Narrowing, any, is_type, uid, Target, Targets, Scope, narrowings, narrowing, target, target_record}
use Rattle.reports.specs.Pairs.{◌∈◌}
use Rattle.reports.specs.Laws.Sets.{in_left, in_right}
use Rattle.claims.specs.Written as written
use Rattle.claims.specs.Written.{of_string, of_narrowing, of_target, written}
use Rattle.names.specs.declared.refusal.Refusal.TheVariants.{TooLong, OtherMark, OtherVersion, OutsideClass, BytesAfter}

-- ---- bytes at a place

-- the bytes w stand at a place, and end at n
pub record Stands (w s : List ℕ) (at n : ℕ) : Type 0 where
  pub here : drop at s ≡ w ++ drop n s
  pub ends : n ≡ at + length w
  pub inside : n ≤ length s

module _ {s : List ℕ} {at : ℕ} (u v : List ℕ) where
  joins : {m n : ℕ} → Stands u s at m → Stands v s m n → Stands (u ++ v) s at n
  joins {m} {n} a b =
      record { here = a.here ∙ ap (λ (l : List ℕ). u ++ l) b.here ∙ sym (append_assoc u v (drop n s)); ends = rw length-append (omega arith); inside = b.inside }

  module _ {n : ℕ} (h : Stands (u ++ v) s at n) where
    pub second : Stands v s (at + length u) n
    second =
        record {
          here = sym (drop-drop (length u) at s) ∙ ap (drop (length u)) (h.here ∙ append_assoc u v (drop n s)) ∙ drop-append_seam u (v ++ drop n s);
          ends = h.ends ∙ rw length-append (omega arith);
          inside = h.inside;
        }

    pub first : Stands u s at (at + length u)
    first = let e = second in let l = second.ends in record { here = h.here ∙ append_assoc u v (drop n s) ∙ ap (λ (l : List ℕ). u ++ l) (sym second.here); ends = refl; inside = omega (arith, h.inside) }

-- a reader reads a off the bytes w, wherever they stand
abbrev pub Reads : {A : Type 0} → Reader A → List ℕ → A → Type 0
Reads f w a = (s : List ℕ) (at n : ℕ) → Stands w s at n → f s at ≡ got a n

-- what a reader gave is written where it was read, and is read off these bytes anywhere
pub record Gave {A : Type 0} (f : Reader A) (w : List ℕ) (a : A) (s : List ℕ) (at n : ℕ) : Type 0 where
  pub stands : Stands w s at n
  pub reads : Reads f w a

-- ---- a byte, some bytes, a string

byte_stands : (s : List ℕ) (at : ℕ) {k n : ℕ} → u8 s at ≡ got k n → Stands (k ∷ []) s at n
byte_stands s at {k} {n} e =
    let v = u8_view s at e in
    let i = v.0 in
    let p = v.2 in
    record { here = drop-cons s at 0 v.0 ∙ rw (← add-one at, v.1, v.2); ends = v.2; inside = omega arith }

byte_reads : (k : ℕ) → Reads u8 (k ∷ []) k
byte_reads k s at n h =
    let l = h.inside in
    let e = h.ends in
    let d = drop-cons s at 0 (omega arith) in
    let b : get_or s at 0 ≡ k = cc (h.here, d) in
    u8_got s at (omega arith) ∙ ap₂ got b (sym e)

-- some bytes, and how many
record Taken (w s : List ℕ) (at n k : ℕ) : Type 0 where
  pub stands : Stands w s at n
  pub many : length w ≡ k

bytes_stand : (s : List ℕ) (at k : ℕ) {w : List ℕ} {n : ℕ} → bytes k s at ≡ got w n → Taken w s at n k
bytes_stand s at k {w} {n} e =
    let v = bytes_view s at k e in
    let i = v.0 in
    let p = v.2 in
    let l : length w ≡ k = ap length v.1 ∙ length-take-le k (drop at s) (rw length-drop (omega arith)) in
    record {
      stands =
          record {
            here = sym (take-append-drop k (drop at s)) ∙ ap₂ ◌++◌ (sym v.1) (drop-drop k at s ∙ ap (λ (m : ℕ). drop m s) (sym v.2));
            ends = omega arith;
            inside = omega arith;
          };
      many = l;
    }

bytes_read : (w : List ℕ) → Reads (bytes (length w)) w w
bytes_read w s at n h =
    let i = h.inside in
    let e = h.ends in
    bytes_got s at (length w) (omega arith) ∙ ap₂ got (ap (take (length w)) h.here ∙ take-append_seam w (drop n s)) (sym e)

module _ (class : List ℕ → Bool) where
  string_reads : (w : List ℕ) → class w ≡ true → Reads (string_of class) (of_string w) w
  unfolding string_of
  string_reads w is s at n h =
      rw (byte_reads (length w) s at (at + 1) (first (length w ∷ []) w h), bytes_read w s (at + 1) n (second (length w ∷ []) w h), is)

  module _ (s : List ℕ) (at k m : ℕ) (w : List ℕ) (n : ℕ) where
    string_parts : u8 s at ≡ got k m → bytes k s m ≡ got w n → class w ≡ true → Gave (string_of class) (of_string w) w s at n
    string_parts e f is =
        let t = bytes_stand s m k f in
        let front : Stands (length w ∷ []) s at m = rw t.many (byte_stands s at e) in
        record { stands = joins (length w ∷ []) w front t.stands; reads = string_reads w is }

  string_gave : (s : List ℕ) (at : ℕ) {w : List ℕ} {n : ℕ} → string_of class s at ≡ got w n → Gave (string_of class) (of_string w) w s at n
  unfolding string_of
  string_gave s at {w} {n} e =
      let a = split (u8 s at) _ e in
      let b = split (bytes a.value s a.place) _ a.rest in
      let h = held OutsideClass (class b.value) s b.rest in
      string_parts s at a.value a.place w n a.first (b.first ∙ ap₂ got h.value h.place) (ap class (sym h.value) ∙ h.passed)

-- ---- a narrowing

-- what a table gives is what one of its rows gives, at its number
abbrev Picked : {A : Type 0} → ℕ → List (ℕ × Reader A) → List ℕ → ℕ → A → ℕ → Type 0
Picked k [] s at a n = ⊥
Picked k ((j, f) ∷ rest) s at a n = ((k ≡ j) × (f s at ≡ got a n)) ⊎ Picked k rest s at a n

picked : {A : Type 0} (k : ℕ) (table : List (ℕ × Reader A)) (s : List ℕ) (at : ℕ) {a : A} {n : ℕ} → choose k table s at ≡ got a n → Picked k table s at a n
unfolding choose
picked k [] s at {a} {n} e = let z : ◌≡◌ {A = ℕ} 0 1 = cc in absurd (omega arith)
picked k ((j, f) ∷ rest) s at {a} {n} e = go (eqb k j) refl e (λ i. picked k rest s at i)
  where
    go : (b : Bool) → eqb k j ≡ b → cond b f (choose k rest) s at ≡ got a n → (choose k rest s at ≡ got a n → Picked k rest s at a n) → Picked k ((j, f) ∷ rest) s at a n
    go true h i later = inl (eqb-true k j h, i)
    go false h i later = inr (later i)

module _ (k : ℕ) (g : Reader (Option Narrowing)) (row : (s : List ℕ) (m : ℕ) → choose k narrowings s m ≡ g s m) where
  kind_reads : (w : List ℕ) (o : Option Narrowing) → Reads g w o → Reads narrowing (k ∷ w) o
  unfolding narrowing
  kind_reads w o r s at n h = rw (byte_reads k s at (at + 1) (first (k ∷ []) w h)) (row s (at + 1) ∙ r s (at + 1) n (second (k ∷ []) w h))

  kind_gave : (s : List ℕ) (at m n : ℕ) (w : List ℕ) (o : Option Narrowing) → Stands (k ∷ []) s at m → Gave g w o s m n → Gave narrowing (k ∷ w) o s at n
  kind_gave s at m n w o h r = record { stands = joins (k ∷ []) w h r.stands; reads = kind_reads w o r.reads }

-- nothing more is read
nothing_gave : {A : Type 0} (a : A) (s : List ℕ) (m n : ℕ) → m ≡ n → n ≤ length s → Gave (pure a) [] a s m n
nothing_gave a s m n e l =
    record { stands = record { here = ap (λ (i : ℕ). drop i s) e; ends = omega arith; inside = l }; reads = λ s at n h. ap (got a) (let e = h.ends in omega arith) }

-- a type name more
named_gave : {A : Type 0} (f : List ℕ → A) (s : List ℕ) (m : ℕ) (w : List ℕ) (n : ℕ) → string_of path_name s m ≡ got w n → Gave (f <∘> string_of path_name) (of_string w) (f w) s m n
named_gave f s m w n e =
    let g = string_gave path_name s m e in
    record { stands = g.stands; reads = λ s at n h. ap (λ (g : Got (List ℕ)). next g (λ a n. got (f a) n)) (g.reads s at n h) }

narrowing_gave : (s : List ℕ) (at : ℕ) {o : Option Narrowing} {n : ℕ} → narrowing s at ≡ got o n → Gave narrowing (of_narrowing o) o s at n
unfolding narrowing narrowings choose
narrowing_gave s at {o} {n} e = let a = split (u8 s at) _ e in go a.value a.place (byte_stands s at a.first) (picked a.value narrowings s a.place a.rest)
  where
    typed : (k : ℕ) (f : List ℕ → Narrowing) → ((s : List ℕ) (m : ℕ) → choose k narrowings s m ≡ ((λ t. some (f t)) <∘> string_of path_name) s m) → ((t : List ℕ) → of_narrowing (some (f t)) ≡ k ∷ of_string t)
        → (m : ℕ) → Stands (k ∷ []) s at m → ((λ t. some (f t)) <∘> string_of path_name) s m ≡ got o n → Gave narrowing (of_narrowing o) o s at n
    typed k f row is m h r =
        let a = split (string_of path_name s m) _ r in
        let g = named_gave (λ t. some (f t)) s m a.value a.place a.first in
        let v : some (f a.value) ≡ o = got_value a.rest in
        let p : a.place ≡ n = got_place a.rest in
        subst (λ (o : Option Narrowing). Gave narrowing (of_narrowing o) o s at n) v
        (subst (λ (n : ℕ). Gave narrowing (of_narrowing (some (f a.value))) (some (f a.value)) s at n) p
        (rw is (kind_gave k _ row s at m a.place (of_string a.value) _ h g)))

    bare : (k : ℕ) (p : Option Narrowing) → ((s : List ℕ) (m : ℕ) → choose k narrowings s m ≡ pure p s m) → of_narrowing p ≡ k ∷ []
        → (m : ℕ) → Stands (k ∷ []) s at m → pure p s m ≡ got o n → Gave narrowing (of_narrowing o) o s at n
    bare k p row is m h r =
        let v : p ≡ o = got_value r in
        let q : m ≡ n = got_place r in
        subst (λ (o : Option Narrowing). Gave narrowing (of_narrowing o) o s at n) v
        (rw is (kind_gave k (pure p) row s at m n [] p h (nothing_gave p s m n q (rw (← q) h.inside))))

    go : (k m : ℕ) → Stands (k ∷ []) s at m → Picked k narrowings s m o n → Gave narrowing (of_narrowing o) o s at n
    go k m h (inl (e, r)) = bare 0 none (λ s m. refl) refl m (rw (← e) h) r
    go k m h (inr (inl (e, r))) = bare 1 (some any) (λ s m. refl) refl m (rw (← e) h) r
    go k m h (inr (inr (inl (e, r)))) = typed 2 is_type (λ s m. refl) (λ t. refl) m (rw (← e) h) r
    go k m h (inr (inr (inr (inl (e, r))))) = typed 3 (λ t. uid t false) (λ s m. refl) (λ t. refl) m (rw (← e) h) r
    go k m h (inr (inr (inr (inr (inl (e, r)))))) = typed 4 (λ t. uid t true) (λ s m. refl) (λ t. refl) m (rw (← e) h) r
    go k m h (inr (inr (inr (inr (inr left_over))))) = elim left_over [ ]

-- ---- the targets

module _ (ns id : List ℕ) where
  abbrev both : Target
  both = record { namespace = ns; id = id }

  target_reads : Reads (string_of path_or_none) (of_string ns) ns → Reads (string_of plain) (of_string id) id → Reads target (of_target both) both
  unfolding target
  target_reads f g s at n h = rw (f s at _ (first (of_string ns) (of_string id) h), g s _ n (second (of_string ns) (of_string id) h))

pub target_gave : (s : List ℕ) (at : ℕ) {t : Target} {n : ℕ} → target s at ≡ got t n → Gave target (of_target t) t s at n
unfolding target
target_gave s at {t} {n} e =
    let a = split (string_of path_or_none s at) _ e in
    let b = split (string_of plain s a.place) _ a.rest in
    let f = string_gave path_or_none s at a.first in
    let g = string_gave plain s a.place b.first in
    let v : both a.value b.value ≡ t = got_value b.rest in
    let p : b.place ≡ n = got_place b.rest in
    subst (λ (t : Target). Gave target (of_target t) t s at n) v
    (subst (λ (n : ℕ). Gave target (of_target (both a.value b.value)) (both a.value b.value) s at n) p
    (record { stands = joins (of_string a.value) (of_string b.value) f.stands g.stands; reads = target_reads a.value b.value f.reads g.reads }))

-- each target of a list is read off its bytes
abbrev pub AllRead : List Target → Type 0
AllRead list = (t : Target) → t ∈ list → Reads target (of_target t) t

record Row (list : List Target) (s : List ℕ) (at n k : ℕ) : Type 0 where
  pub stands : Stands (gather of_target list) s at n
  pub many : length list ≡ k
  pub reads : AllRead list

row_gave : (s : List ℕ) (k : ℕ) (before : Option Target) (at : ℕ) {list : List Target} {n : ℕ} → at ≤ length s → many (λ a. a) (each target) k before s at ≡ got list n → Row list s at n k
unfolding many gather
row_gave s zero before at {list} {n} l e =
    let v : [] ≡ list = got_value e in
    let p : at ≡ n = got_place e in
    subst (λ (list : List Target). Row list s at n 0) v (record { stands = (nothing_gave {A = ℕ} 0 s at n p (omega arith)).stands; many = refl; reads = λ t h. absurd h })
row_gave s (suc k) before at {list} {n} l e =
    let a = split (target s at) _ e in
    let b = split (many (λ a. a) (each target) k (some a.value) s a.place) _ a.rest in
    let v : (a.value ∷ b.value) ≡ list = got_value b.rest in
    let p : b.place ≡ n = got_place b.rest in
    let g = target_gave s at a.first in
    let r = row_gave s k (some a.value) a.place g.stands.inside b.first in
    subst (λ (list : List Target). Row list s at n (suc k)) v
    (subst (λ (n : ℕ). Row (a.value ∷ b.value) s at n (suc k)) p
    (record {
      stands = joins (of_target a.value) (gather of_target b.value) g.stands r.stands;
      many = ap suc r.many;
      reads = λ t h. ⊎_elim (λ i. rw i g.reads) (λ i. r.reads t i) h;
    }))

row_reads : (list : List Target) → AllRead list → (before : Option Target) → Reads (many (λ a. a) (each target) (length list) before) (gather of_target list) list
unfolding many gather
row_reads [] all before s at n h = ap (got []) (let e = h.ends in omega arith)
row_reads (t ∷ list) all before s at n h =
    rw (all t (inl refl) s at _ (first (of_target t) (gather of_target list) h), row_reads list (λ u i. all u (inr i)) (some t) s _ n (second (of_target t) (gather of_target list) h))

-- ---- mark and version

one_in_two : (w : List ℕ) → length w ≡ 2 → number 0 w ≡ 1 → w ≡ 0 ∷ 1 ∷ []
unfolding number
one_in_two [] l e = absurd (omega arith)
one_in_two (a ∷ []) l e = absurd (omega arith)
one_in_two (a ∷ (b ∷ [])) l e =
    let p : a ≡ 0 = omega arith in
    let q : b ≡ 1 = omega arith in
    ap₂ (λ (x y : ℕ). x ∷ y ∷ []) p q
one_in_two (a ∷ (b ∷ (c ∷ w))) l e = absurd (omega arith)

-- the only version
one_only : (v : ℕ) → (leb 1 v && leb v 1) ≡ true → v ≡ 1
one_only v h =
    let low : 1 ≤ v = leb-true 1 v (and_left (leb 1 v) (leb v 1) h) in
    let high : v ≤ 1 = leb-true v 1 (and_right (leb 1 v) (leb v 1) h) in
    omega arith

module _ (mark : List ℕ) where
  pub heading_reads : Reads (heading mark 1) (mark ++ (0 ∷ 1 ∷ [])) 1
  unfolding heading u16 number
  heading_reads s at n h =
      rw (bytes_read mark s at _ (first mark (0 ∷ 1 ∷ []) h), same_refl mark, bytes_read (0 ∷ 1 ∷ []) s _ n (second mark (0 ∷ 1 ∷ []) h))

  heading_stands : (s : List ℕ) (at : ℕ) {v n : ℕ} → heading mark 1 s at ≡ got v n → Stands (mark ++ (0 ∷ 1 ∷ [])) s at n
  unfolding heading u16
  heading_stands s at {v} {n} e =
      let a = split (bytes (length mark) s at) _ e in
      let b = split (holds OtherMark (same a.value mark) a.value s a.place) _ a.rest in
      let i = held OtherMark (same a.value mark) s b.first in
      let c = split (u16 s b.place) _ b.rest in
      let d = split (bytes 2 s b.place) _ c.first in
      let j = held OtherVersion (leb 1 c.value && leb c.value 1) s c.rest in
      let m = bytes_stand s at (length mark) a.first in
      let w = bytes_stand s b.place 2 d.first in
      go a.value a.place b.place d.value d.place c.value c.place (same_eq a.value mark i.passed) i.place m.stands w.stands w.many (got_value d.rest) (got_place d.rest)
      (one_only c.value j.passed) j.place
    where
      go : (x : List ℕ) (p q : ℕ) (y : List ℕ) (r z o : ℕ) → x ≡ mark → p ≡ q → Stands x s at p → Stands y s q r → length y ≡ 2 → number 0 y ≡ z → r ≡ o → z ≡ 1 → o ≡ n → Stands (mark ++ (0 ∷ 1 ∷ [])) s at n
      go x p q y r z o ex ep hx hy l ez er one eo =
          joins mark (0 ∷ 1 ∷ []) (rw (ex, ep) at hx) (rw (one_in_two y l (ez ∙ one), er, eo) at hy)

-- ---- the record

-- what makes a record: its narrowings and its targets are read off their bytes
pub record Readable (ts : Targets) : Type 0 where
  pub principal : Reads narrowing (of_narrowing ts.scope.principal) ts.scope.principal
  pub resource : Reads narrowing (of_narrowing ts.scope.resource) ts.scope.resource
  pub targets : AllRead ts.list

pub record Gone (s : List ℕ) (ts : Targets) : Type 0 where
  pub is : s ≡ written ts
  pub readable : Readable ts

abbrev pub mark : List ℕ
mark = 68 ∷ 87 ∷ 84 ∷ []

module _ (s : List ℕ) (p r : Option Narrowing) (list : List Target) where
  abbrev all : Targets
  all = record { scope = record { principal = p; resource = r }; list = list }

  parts_gave : (a b d k e n : ℕ) → Stands written.heading s 0 a → Gave narrowing (of_narrowing p) p s a b → Gave narrowing (of_narrowing r) r s b d → Stands (k ∷ []) s d e → Row list s e n k → n ≡ length s → Gone s all
  parts_gave a b d k e n h f g i j l =
      let rest : Stands (length list ∷ gather of_target list) s d n = rw j.many (joins (k ∷ []) (gather of_target list) i j.stands) in
      let every = joins written.heading (of_narrowing p ++ (of_narrowing r ++ (length list ∷ gather of_target list))) h (joins (of_narrowing p) (of_narrowing r ++ (length list ∷ gather of_target list)) f.stands (joins (of_narrowing r) (length list ∷ gather of_target list) g.stands rest)) in
      record {
        is = every.here ∙ ap (λ (l : List ℕ). written all ++ l) (ap (λ (m : ℕ). drop m s) l ∙ drop-length s) ∙ append-nil (written all);
        readable = record { principal = f.reads; resource = g.reads; targets = j.reads };
      }

pub record_gave : (s : List ℕ) {ts : Targets} {n : ℕ} → target_record s 0 ≡ got ts n → Gone s ts
unfolding target_record counted finished
record_gave s {ts} {n} e =
    let a = split (heading mark 1 s 0) _ e in
    let b = split (narrowing s a.place) _ a.rest in
    let d = split (narrowing s b.place) _ b.rest in
    let i = split (counted (each target) s d.place) _ d.rest in
    let k = split (u8 s d.place) _ i.first in
    let h = held BytesAfter (eqb i.place (length s)) s i.rest in
    let c = byte_stands s d.place k.first in
    subst (λ (ts : Targets). Gone s ts) h.value
    (parts_gave s b.value d.value i.value a.place b.place d.place k.value k.place i.place (heading_stands mark s 0 a.first) (narrowing_gave s a.place b.first) (narrowing_gave s b.place d.first) c
    (row_gave s k.value none k.place c.inside k.rest) (eqb-true _ _ h.passed))

-- such a record is accepted, where it is not too long
module _ (ts : Targets) (r : Readable ts) where
  abbrev p : List ℕ
  p = of_narrowing ts.scope.principal

  abbrev q : List ℕ
  q = of_narrowing ts.scope.resource

  abbrev rows : List ℕ
  rows = gather of_target ts.list

  record_reads : (s : List ℕ) (n : ℕ) → Stands (written ts) s 0 n → n ≡ length s → target_record s 0 ≡ got ts n
  unfolding target_record counted finished
  record_reads s n h l =
      let a = first written.heading (p ++ (q ++ (length ts.list ∷ rows))) h in
      let b = second written.heading (p ++ (q ++ (length ts.list ∷ rows))) h in
      let d = second p (q ++ (length ts.list ∷ rows)) b in
      let e = second q (length ts.list ∷ rows) d in
      rw (
        heading_reads mark s 0 5 a,
        r.principal s 5 _ (first p (q ++ (length ts.list ∷ rows)) b),
        r.resource s _ _ (first q (length ts.list ∷ rows) d),
        byte_reads (length ts.list) s _ _ (first (length ts.list ∷ []) rows e),
        row_reads ts.list r.targets none s _ n (second (length ts.list ∷ []) rows e),
        eq-eqb n (length s) l,
      )

  pub accepted : length (written ts) ≤ 32768 → whole target_record (written ts) ≡ got ts (length (written ts))
  unfolding whole
  accepted l =
      let h : Stands (written ts) (written ts) 0 (length (written ts)) =
      record { here = sym (append-nil (written ts)) ∙ ap (λ (l : List ℕ). written ts ++ l) (sym (drop-length (written ts))); ends = omega arith; inside = omega arith } in
      rw (le-leb _ _ l) (record_reads (written ts) (length (written ts)) h refl)

-- a record that is accepted is the one that is written
pub no_other_lem : (s : List ℕ) {ts : Targets} {n : ℕ} → whole target_record s ≡ got ts n → s ≡ written ts
no_other_lem s e = (record_gave s (whole_read target_record s e)).is

pub not_long : {A : Type 0} (f : Reader A) (s : List ℕ) {a : A} {n : ℕ} → whole f s ≡ got a n → length s ≤ 32768
unfolding whole
not_long f s {a} {n} e = go (leb (length s) 32768) refl e
  where
    go : (b : Bool) → leb (length s) 32768 ≡ b → cond b (f s 0) (bad TooLong) ≡ got a n → length s ≤ 32768
    go true h i = leb-true _ _ h
    go false h i = let z : ◌≡◌ {A = ℕ} 0 1 = cc in absurd (omega arith)

-- and so is that of some of its targets, where their bytes are not more
module _ (scope : Scope) (list some : List Target) where
  abbrev under : List Target → Targets
  under l = record { scope = scope; list = l }

  shorter : length (gather of_target some) ≤ length (gather of_target list) → length (written (under some)) ≤ length (written (under list))
  shorter h = simp length-append (omega arith)

  pub some_of : (s : List ℕ) {n : ℕ} → whole target_record s ≡ got (under list) n → ((t : Target) → t ∈ some → t ∈ list) → length (gather of_target some) ≤ length (gather of_target list)
      → whole target_record (written (under some)) ≡ got (under some) (length (written (under some)))
  some_of s e within fewer =
      let g = record_gave s (whole_read target_record s e) in
      let r = g.readable in
      let long = subst (λ (l : List ℕ). length l ≤ 32768) g.is (not_long target_record s e) in
      let less = shorter fewer in
      accepted (under some) (record { principal = r.principal; resource = r.resource; targets = λ t h. r.targets t (within t h) }) (omega arith)

module _ (scope : Scope) (front behind : List Target) (s : List ℕ) {n : ℕ} (e : whole target_record s ≡ got (record { scope = scope; list = front ++ behind }) n) where
  pub front_accepted : whole target_record (written (record { scope = scope; list = front })) ≡ got (record { scope = scope; list = front }) (length (written (record { scope = scope; list = front })))
  front_accepted = some_of scope (front ++ behind) front s e (λ t h. in_left t front behind h) (rw gather_append (rw length-append (omega arith)))

  pub behind_accepted : whole target_record (written (record { scope = scope; list = behind })) ≡ got (record { scope = scope; list = behind }) (length (written (record { scope = scope; list = behind })))
  behind_accepted = some_of scope (front ++ behind) behind s e (λ t h. in_right t front behind h) (rw gather_append (rw length-append (omega arith)))
