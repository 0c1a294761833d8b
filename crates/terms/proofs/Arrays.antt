-- The laws of array literals: what the elements make of the array's type, and the parts of an accepted array. Assumes nothing.
use mathlib.Core.Path.{◌≡◌, refl, sym, ap, ◌∙◌}
use mathlib.Core.Bool.{Bool, true, false, cond}
use mathlib.Core.List.{List, [], ◌∷◌}
use mathlib.Core.Option.{Option, none, some}
use Prim.Native.Nat.{ℕ, zero, suc, ◌+◌, ◌*◌, ◌-◌, ◌≤◌, ◌<◌}
use native.Mathlib.Numerals.{add-one, sub-one}
use native.Mathlib.Omega.{arith}
use borrow.Author.Rules.{rules}
use lib.ListN.{length, get_or}
use Rattle.names.specs.Fields.{got, Reader, next, u8, choose}
use Rattle.names.specs.Read.{ending, accepted}
use Rattle.names.specs.Laws.Readers.{split, u8_view, accept, is_accepted, has_value, got_value, got_place}
use Rattle.types.specs.Types.{Ty, same_type}
use Rattle.types.specs.Meaning.{rich_of, layered}
use Rattle.types.specs.declared.Rich.{Rich}
use Rattle.condition.specs.Condition.{Condition, Term, Terms, nil, cons, elements, element_list, term_kinds, condition_at, term_at}
use Rattle.condition.specs.Condition as tree
use Rattle.nodes.specs.Kinds.{term_kind_of, term_kind_number}
use Rattle.nodes.specs.Laws.Numbers.{not_array}
use Rattle.nodes.specs.declared.TermKind.{TermKind}
use Rattle.condition.specs.Places.{version_in, term_here, is_term, term_in}
use Rattle.nodes.specs.Looked.{TermKindHere, Skipped}
use Rattle.condition.specs.Laws.Levels.{none_left, term_wider, term_anywhere}
use Rattle.nodes.specs.Offsets.{term_part}
use Rattle.nodes.specs.Laws.Inside.{term_place}
use Rattle.nodes.specs.Laws.Opens.{raw_term, ends_at}
use Rattle.resolution.specs.Places.{typed_of}
use Rattle.terms.specs.Terms.{term_type, element_types, all_like, array_of}
use Rattle.terms.specs.Bounds.{layers_of, Within}
use Rattle.terms.specs.Literals.{seen_with, array_after, seen_type, array_rich, TypedAt, LeafTyped, list_at, list_in}
use Rattle.terms.specs.declared.Element.{Element}
use Rattle.terms.specs.declared.Seen.{Seen}
use Rattle.std.specs.Prelude.{Ok, Some, None}
use Rattle.resolution.specs.Coded.{Typed}

-- One element more.
module _ (s c : List ℕ) where
  pub like_same : (t u : Rich) (b : Bool) → b ≡ same_type (rich_of s c t) (rich_of s c u) → b ≡ true → Seen.Like u ≡ seen_with s c (Seen.Like u) (Some t)
  like_same t u b e f = rw (← e, f)

  pub like_other : (t u : Rich) (b : Bool) → b ≡ same_type (rich_of s c t) (rich_of s c u) → b ≡ false → Seen.Mixed ≡ seen_with s c (Seen.Like u) (Some t)
  like_other t u b e f = rw (← e, f)

  with_none : (seen : Seen) → Seen.Mixed ≡ seen_with s c seen None
  with_none Seen.Empty = refl
  with_none (Seen.Like u) = refl
  with_none Seen.Mixed = refl

  pub with_nothing : (seen : Seen) (r : Typed) → r ≡ None → Seen.Mixed ≡ seen_with s c seen r
  with_nothing seen r e = rw e (with_none seen)

  module _ (seen : Seen) (r : Typed) (t : Rich) (e : r ≡ Some t) where
    pub with_first : seen ≡ Seen.Empty → Seen.Like t ≡ seen_with s c seen r
    with_first f = rw (f, e)

    pub with_next : (u : Rich) (a : Seen) → seen ≡ Seen.Like u → a ≡ seen_with s c (Seen.Like u) (Some t) → a ≡ seen_with s c seen r
    with_next u a f g = rw (f, e) g

    pub with_mixed : seen ≡ Seen.Mixed → Seen.Mixed ≡ seen_with s c seen r
    with_mixed f = rw (f, e)

  -- the elements seen and one more decide as the longer list does
  seen_more : (seen : Seen) (r : Typed) (rest : List (Option Ty)) → array_after s c (seen_with s c seen r) rest ≡ array_after s c seen (typed_of s c r ∷ rest)
  unfolding array_of all_like
  seen_more Seen.Empty None rest = refl
  seen_more Seen.Empty (Some t) rest = refl
  seen_more (Seen.Like u) None rest = refl
  seen_more (Seen.Like u) (Some t) rest = go (same_type (rich_of s c t) (rich_of s c u)) refl
    where
      go : (b : Bool) → same_type (rich_of s c t) (rich_of s c u) ≡ b → array_after s c (seen_with s c (Seen.Like u) (Some t)) rest ≡ array_after s c (Seen.Like u) (some (rich_of s c t) ∷ rest)
      go true e = rw e
      go false e = rw e
  seen_more Seen.Mixed None rest = refl
  seen_more Seen.Mixed (Some t) rest = refl

  seen_within : (n : ℕ) (seen : Seen) (r : Typed) → Within n (seen_type seen) → Within n r → Within n (seen_type (seen_with s c seen r))
  seen_within n Seen.Empty None h i = i
  seen_within n Seen.Empty (Some t) h i = i
  seen_within n (Seen.Like u) None h i = i
  seen_within n (Seen.Like u) (Some t) h i = go (same_type (rich_of s c t) (rich_of s c u))
    where
      go : (b : Bool) → Within n (seen_type (cond b (Seen.Like u) Seen.Mixed))
      go true = h
      go false = record { layers = omega arith; tag = omega arith }
  seen_within n Seen.Mixed None h i = i
  seen_within n Seen.Mixed (Some t) h i = h

  -- no element more
  array_value : (seen : Seen) → rich_of s c (array_rich seen) ≡ array_after s c seen []
  unfolding array_of all_like layered
  array_value Seen.Empty = refl
  array_value (Seen.Like t) = rw add-one
  array_value Seen.Mixed = refl

  array_within : (n : ℕ) (seen : Seen) → Within n (seen_type seen) → Within (n + 1) (Some (array_rich seen))
  array_within n Seen.Empty h = record { layers = omega arith; tag = omega arith }
  array_within n (Seen.Like t) h = record { layers = omega arith; tag = h.tag }
  array_within n Seen.Mixed h = record { layers = omega arith; tag = omega arith }

pub ruleset joining = (rules, like_same, like_other, with_nothing, with_first, with_next, with_mixed)

-- The elements of a list, taken apart.
module _ (v : ℕ) (f : Reader Condition) (t : Bool → Reader Term) (c : List ℕ) where
  record ElementsView (n at : ℕ) (list : Terms) (end : ℕ) : Type 0 where
    first : Term
    p : ℕ
    reads : t true c at ≡ got first p
    others : Terms
    further : elements v f t (n - 1) c p ≡ got others end
    whole : list ≡ cons first others

  elements_view : (n at : ℕ) {list : Terms} {end : ℕ} → 0 < n → elements v f t n c at ≡ got list end → ElementsView n at list end
  unfolding elements
  elements_view zero at h e = absurd (omega arith)
  elements_view (suc n) at {list} {end} h e =
      let a = split (t true c at) _ e in
      let b = split (elements v f t n c a.place) _ a.rest in
      record {
        first = a.value;
        p = a.place;
        reads = a.first;
        others = b.value;
        further = rw sub-one (b.first ∙ ap (got b.value) (got_place b.rest));
        whole = sym (got_value b.rest);
      }

  elements_over : (n at : ℕ) {list : Terms} {end : ℕ} → n ≤ 0 → elements v f t n c at ≡ got list end → (list ≡ nil) × (end ≡ at)
  unfolding elements
  elements_over zero at h e = (sym (got_value e), sym (got_place e))
  elements_over (suc n) at h e = absurd (omega arith)

  by_byte : (at k : ℕ) {x : Term} {n : ℕ} → get_or c at 0 ≡ k → next (u8 c at) (λ j p. choose j (term_kinds v f t false) c p) ≡ got x n → choose k (term_kinds v f t false) c (at + 1) ≡ got x n
  by_byte at k i e =
      let b = split (u8 c at) _ e in
      let u = u8_view c at b.first in
      let r = b.rest in
      rw (← i, ← u.1, ← u.2) r

  record ListOf (at : ℕ) (x : Term) (n : ℕ) : Type 0 where
    list : Terms
    reads : element_list v f t c at ≡ got list n
    whole : x ≡ tree.array list

  list_of : (at : ℕ) {x : Term} {n : ℕ} → choose 10 (term_kinds v f t false) c at ≡ got x n → ListOf at x n
  unfolding choose term_kinds
  list_of at e = let a = split (element_list v f t c at) _ e in record { list = a.value; reads = a.first ∙ ap (got a.value) (got_place a.rest); whole = sym (got_value a.rest) }

record ArrayParts (c : List ℕ) (at left : ℕ) (x : Term) (n : ℕ) : Type 0 where
  deeper : 1 ≤ left
  list : Terms
  reads : list_at (left - 1) c (at + 1) ≡ got list n
  whole : x ≡ tree.array list

array_parts : (c : List ℕ) (at left : ℕ) {x : Term} {n : ℕ} → term_at (version_in c) left false c at ≡ got x n → get_or c at 0 ≡ 10 → ArrayParts c at left x n
unfolding term_at
array_parts c at zero e i = absurd (none_left 14 c at e)
array_parts c at (suc l) e i =
    let a = list_of (version_in c) (condition_at (version_in c) l) (λ b. term_at (version_in c) l b) c (at + 1) (by_byte (version_in c) (condition_at (version_in c) l) (λ b. term_at (version_in c) l b) c at 10 i e) in
    record { deeper = omega arith; list = a.list; reads = rw sub-one a.reads; whole = a.whole }

-- A term that is read with some levels left stands there.
module _ (c : List ℕ) (at left : ℕ) (h : left ≤ 32) (acc : accepted (term_at (version_in c) left false c at) ≡ true) where
  widened : {t : Term} {n : ℕ} → term_at (version_in c) left false c at ≡ got t n → term_here c at ≡ got t n
  widened {t} {n} e = term_wider (version_in c) false left 32 h c at t n e

  pub any_level : is_term c at ≡ true
  any_level = is_accepted (widened (accept _ acc).read)

  -- An array: its list stands behind the kind byte, with one level less.
  module _ (kind : TermKind) (o : TermKindHere c at (term_kind_number kind)) (e : kind ≡ TermKind.Array) where
    parts : ArrayParts c at left (accept _ acc).value (accept _ acc).place
    parts = array_parts c at left (accept _ acc).read (raw_term c at any_level 10 (λ i. omega arith) (sym o.kind ∙ ap term_kind_number e))

    pub array_level : 1 ≤ left
    array_level = parts.deeper

    pub array_falls : (t : ℕ) → 2 * left ≡ t → 2 * (left - 1) + 1 < t
    array_falls t i = omega (arith, array_level)

    module _ (p : ℕ) (place : p ≡ term_part c at) where
      listing : list_at (left - 1) c p ≡ got parts.list (accept _ acc).place
      listing = ap (list_at (left - 1) c) (term_place c at p place) ∙ parts.reads

      pub array_inside : p < length c
      unfolding element_list
      array_inside = (u8_view c p (split (u8 c p) _ listing).first).0

      pub array_list : accepted (list_at (left - 1) c p) ≡ true
      array_list = is_accepted listing

      pub array_typed : (s : List ℕ) (r : Element) → TypedAt s c (list_at (left - 1) c p) (some (array_of (element_types (list_in (left - 1) c p)))) (left - 1 + 1) r → TypedAt s c (term_here c at) (term_type none (term_in c at)) left r
      unfolding term_type term_in list_in ending
      array_typed s r h =
          let i : left - 1 + 1 ≡ left = omega (arith, array_level) in
          let w = widened (accept _ acc).read in
          record {
            value = h.value ∙ rw (has_value _ w, parts.whole, has_value _ listing);
            ends = rw w (rw listing at h.ends);
            within = rw i at h.within;
          }

  -- any other term
  pub leaf_typed : (s : List ℕ) (r : Typed) (n : ℕ) → LeafTyped c at r → Skipped (term_here c at) at n → TypedAt s c (term_here c at) (term_type none (term_in c at)) left (record { typed = r; next = n })
  leaf_typed s r n h z = record { value = h.value s; ends = z.ends; within = record { layers = omega (arith, h.within.layers); tag = h.within.tag } }

  pub no_array : (kind : TermKind) → TermKindHere c at (term_kind_number kind) → (kind ≡ TermKind.Array → ⊥) → (term_kind_of (term_in c at) ≡ 10 → ⊥)
  no_array kind o h e = not_array kind h (o.kind ∙ e)

pub ruleset of_elements = (rules, any_level, array_level, array_falls, array_inside, array_list, array_typed, leaf_typed, no_array)

-- A loop over the elements of a list: what was seen and what is left make the array's type.
module _ (s c : List ℕ) (left start : ℕ) where
  pub record Left (rest at : ℕ) (seen : Seen) : Type 0 where
    pub things : Terms
    pub end : ℕ
    pub read : elements (version_in c) (condition_at (version_in c) left) (term_at (version_in c) left) rest c at ≡ got things end
    pub ends : ending (list_at left c start) ≡ Ok end
    pub same : array_after s c seen (element_types things) ≡ array_of (element_types (list_in left c start))
    pub within : Within left (seen_type seen)

  module _ (acc : accepted (list_at left c start) ≡ true) where
    pub left_all : (n : ℕ) → n ≡ get_or c start 0 → Left (n - 0) (start + 1) Seen.Empty
    unfolding element_list list_in ending
    left_all n e =
        let a = accept _ acc in
        let b = split (u8 c start) _ a.read in
        let v = u8_view c start b.first in
        let r = b.rest in
        let all : n - 0 ≡ n = omega arith in
        record {
          things = a.value;
          end = a.place;
          read = rw (all, e, ← v.1, ← v.2) r;
          ends = ap ending a.read;
          same = ap (λ (x : Terms). array_of (element_types x)) (sym (has_value nil a.read));
          within = record { layers = omega arith; tag = omega arith };
        }

  module _ (stop i at : ℕ) (seen : Seen) (l : Left (stop - i) at seen) where
    pub seen-fits : left < 32 → layers_of (seen_type seen) < 32
    seen-fits h = omega (arith, l.within.layers)

    module _ (h : i < stop) where
      own : ElementsView (version_in c) (condition_at (version_in c) left) (term_at (version_in c) left) c (stop - i) at l.things l.end
      own = elements_view (version_in c) (condition_at (version_in c) left) (term_at (version_in c) left) c (stop - i) at (omega (arith, h)) l.read

      less : stop - (i + 1) ≡ (stop - i) - 1
      less = omega arith

      here : term_at (version_in c) left false c at ≡ got own.first own.p
      here = term_anywhere (version_in c) left c at own.first own.p own.reads

      pub next_stands : accepted (term_at (version_in c) left false c at) ≡ true
      next_stands = is_accepted here

      pub left_turn : left < 32 → (e : Element) → TypedAt s c (term_here c at) (term_type none (term_in c at)) left e → (also : Seen) → also ≡ seen_with s c seen e.typed → Left (stop - (i + 1)) e.next also
      unfolding term_in element_types
      left_turn k e t also is =
          let w = term_wider (version_in c) false left 32 (omega arith) c at own.first own.p here in
          let place : e.next ≡ own.p = ends_at w t.ends in
          let v : typed_of s c e.typed ≡ term_type none own.first = t.value ∙ ap (term_type none) (has_value _ w) in
          record {
            things = own.others;
            end = l.end;
            read = rw (less, place) own.further;
            ends = l.ends;
            same = ap (λ (x : Seen). array_after s c x (element_types own.others)) is ∙ seen_more s c seen e.typed (element_types own.others) ∙ ap (λ (o : Option Ty). array_after s c seen (o ∷ element_types own.others)) v ∙ ap (λ (x : Terms). array_after s c seen (element_types x)) (sym own.whole) ∙ l.same;
            within = rw is (seen_within s c left seen e.typed l.within t.within);
          }

    pub left_over : stop ≤ i → (r : Rich) → r ≡ array_rich seen → TypedAt s c (list_at left c start) (some (array_of (element_types (list_in left c start)))) (left + 1) (record { typed = Some r; next = at })
    unfolding element_types
    left_over h r e =
        let v = elements_over (version_in c) (condition_at (version_in c) left) (term_at (version_in c) left) c (stop - i) at (omega (arith, h)) l.read in
        record {
          value = ap some (ap (rich_of s c) e ∙ array_value s c seen ∙ ap (λ (x : Terms). array_after s c seen (element_types x)) (sym v.0) ∙ l.same);
          ends = l.ends ∙ ap Ok v.1;
          within = rw e (array_within s c left seen l.within);
        }

pub ruleset along_elements = (rules, left_all, seen-fits, next_stands, left_turn, left_over)
