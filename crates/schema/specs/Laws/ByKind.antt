-- What a type is at a position, by the level left and the byte there. Assumes nothing.
use Rattle.std.specs.Prelude.{◌≡◌, ◌⊎◌, refl, Bool, false, cond, List, eqb, length, get_or, Result, Ok, Err, Some}
use Rattle.std.proofs.Math.Path.{sym, ap₂}
use Rattle.std.proofs.Common.{◌∙◌, ap, inl, inr, sub-one, arith, rules}
use Rattle.std.proofs.Math.Option.{Option, none}
use Prim.Native.Nat.{ℕ, zero, suc, ◌+◌, ◌-◌, ◌≤◌, ◌<◌}
use borrow.Author.Tests.{le-leb, lt-leb, ne_eqb}
use Rattle.names.specs.Fields.{got, bad, Reader, choose, string_of}
use Rattle.names.specs.Names.{path_name}
use Rattle.names.specs.Class.{class_of}
use Rattle.names.specs.declared.Class.TheVariants.{Plain}
use Rattle.names.specs.Read.{ending, earlier, word_at, Read, Found}
use Rattle.names.specs.Laws.Readers.{u8-end, u8_got, via, last, stops, goes, split, held, string_view, Each, each_below, ◌&◌}
use Rattle.schema.specs.Schema.{Declared, kinds, type_at, attributes, attributes_of, ascending, after}
use Rattle.schema.specs.Places.{kind_number, Decodes}
use Rattle.schema.specs.declared.kind.TypeKind.{TypeKind}
use Rattle.names.specs.declared.refusal.Refusal.{Refusal}
use Rattle.names.specs.declared.refusal.Refusal.TheVariants.{Cut, UndefinedChoice, TooDeep, NotAscending}

-- a name of a row, accepted: the string there
module _ (class : List ℕ → Bool) (before : Option (List ℕ)) (s : List ℕ) (at : ℕ) where
  pub ascending_string : {w : List ℕ} {n : ℕ} → ascending class before s at ≡ got w n → string_of class s at ≡ got w n
  unfolding ascending
  ascending_string e =
      let a = split (string_of class s at) _ e in
      let h = held NotAscending (after before a.value) s a.rest in
      a.first ∙ ap₂ got h.value h.place

  pub ascending_word : {w : List ℕ} {n : ℕ} → ascending class before s at ≡ got w n → w ≡ word_at s at
  ascending_word e = (string_view class s at (ascending_string e)).word

-- beyond the table
pub choose_above : (k : ℕ) (inner : Reader Declared) (s : List ℕ) (at : ℕ) → 10 < k → choose k (kinds inner) s at ≡ bad UndefinedChoice
unfolding choose kinds
choose_above k inner s at h =
    let ne : (n : ℕ) → n ≤ 10 → eqb k n ≡ false = λ n l. ne_eqb k n (λ e. omega arith) in
    rw (ne 0 (omega arith), ne 1 (omega arith), ne 2 (omega arith), ne 3 (omega arith), ne 4 (omega arith), ne 5 (omega arith), ne 6 (omega arith), ne 7 (omega arith), ne 8 (omega arith), ne 9 (omega arith), ne 10 (omega arith))

-- a byte of the table that nothing follows
choose_leaf : (inner : Reader Declared) (s : List ℕ) (at k : ℕ) → k < 11 → (k ≡ 3 → ⊥) → (k ≡ 4 → ⊥) → (k ≡ 6 → ⊥) → (k ≡ 7 → ⊥) → Ok at ≡ ending (choose k (kinds inner) s at)
unfolding choose kinds ending Each
choose_leaf inner s at =
    each_below (λ k. (k ≡ 3 → ⊥) → (k ≡ 4 → ⊥) → (k ≡ 6 → ⊥) → (k ≡ 7 → ⊥) → Ok at ≡ ending (choose k (kinds inner) s at)) 11 (
    tt
    & (λ a b d e. refl)
    & (λ a b d e. refl)
    & (λ a b d e. refl)
    & (λ a b d e. absurd (a refl))
    & (λ a b d e. absurd (b refl))
    & (λ a b d e. refl)
    & (λ a b d e. absurd (d refl))
    & (λ a b d e. absurd (e refl))
    & (λ a b d e. refl)
    & (λ a b d e. refl)
    & (λ a b d e. refl))

-- a type of the kind k
pub type_kind : (s : List ℕ) (at l : ℕ) → at < length s → (l ≡ 0 → ⊥) → (k : ℕ) → get_or s at 0 ≡ k → type_at l s at ≡ choose k (kinds (type_at (l - 1))) s (at + 1)
unfolding type_at
type_kind s at zero h z k e = absurd (z refl)
type_kind s at (suc l) h z k e = rw (sub-one, ← e, u8_got s at h)

-- Each exit of `read_type`.
module _ (s : List ℕ) (at l : ℕ) where
  pub type-end : length s ≤ at → Err Cut ≡ ending (type_at l s at)
  unfolding type_at ending
  type-end h = go l
    where
      go : (l : ℕ) → Err Cut ≡ ending (type_at l s at)
      go zero = rw (u8-end s at h)
      go (suc l) = rw (u8-end s at h)

  module _ (h : at < length s) where
    pub type_undefined : 10 < get_or s at 0 → Err UndefinedChoice ≡ ending (type_at l s at)
    unfolding type_at ending
    type_undefined k = go l
      where
        go : (l : ℕ) → Err UndefinedChoice ≡ ending (type_at l s at)
        go zero = rw (u8_got s at h, lt-leb _ _ k)
        go (suc l) = rw (u8_got s at h, choose_above (get_or s at 0) (type_at l) s (at + 1) k)

    pub type_deep : get_or s at 0 ≤ 10 → l ≡ 0 → Err TooDeep ≡ ending (type_at l s at)
    unfolding type_at ending
    type_deep k z = rw (z, u8_got s at h, le-leb _ _ k)

    module _ (z : l ≡ 0 → ⊥) where
      pub type_set : get_or s at 0 ≡ 4 → (x : Read) → x ≡ ending (type_at (l - 1) s (at + 1)) → x ≡ ending (type_at l s at)
      unfolding choose kinds
      type_set k x e = via (type_kind s at l h z 4 k) (e ∙ last _ _)

      pub type_object : get_or s at 0 ≡ 6 → (x : Read) → x ≡ ending (attributes (type_at (l - 1)) s (at + 1)) → x ≡ ending (type_at l s at)
      unfolding choose kinds
      type_object k x e = via (type_kind s at l h z 6 k) (e ∙ last _ _)

      pub type_extension : get_or s at 0 ≡ 3 → (x : Read) → x ≡ ending (string_of path_name s (at + 1)) → x ≡ ending (type_at l s at)
      unfolding choose kinds
      type_extension k x e = via (type_kind s at l h z 3 k) (e ∙ last _ _)

      pub type_entity : get_or s at 0 ≡ 7 → (x : Read) → x ≡ ending (string_of path_name s (at + 1)) → x ≡ ending (type_at l s at)
      unfolding choose kinds
      type_entity k x e = via (type_kind s at l h z 7 k) (e ∙ last _ _)

      pub type_leaf : get_or s at 0 ≤ 10 → (get_or s at 0 ≡ 3 → ⊥) → (get_or s at 0 ≡ 4 → ⊥) → (get_or s at 0 ≡ 6 → ⊥) → (get_or s at 0 ≡ 7 → ⊥) → Ok (at + 1) ≡ ending (type_at l s at)
      type_leaf k a b d e = via (type_kind s at l h z (get_or s at 0) refl) (choose_leaf (type_at (l - 1)) s (at + 1) (get_or s at 0) (omega arith) a b d e)

-- two kinds of one number are one kind
told : ℕ → TypeKind
told n =
    cond (eqb n 0) TypeKind.Long
    (cond (eqb n 1) TypeKind.String
    (cond (eqb n 2) TypeKind.Bool
    (cond (eqb n 3) TypeKind.Extension
    (cond (eqb n 4) TypeKind.Set
    (cond (eqb n 5) TypeKind.AnySet
    (cond (eqb n 6) TypeKind.Record
    (cond (eqb n 7) TypeKind.Entity
    (cond (eqb n 8) TypeKind.SeveralEntities
    (cond (eqb n 9) TypeKind.AnyEntity TypeKind.Never)))))))))

told_kind : (k : TypeKind) → told (kind_number k) ≡ k
unfolding told
told_kind TypeKind.Long = refl
told_kind TypeKind.String = refl
told_kind TypeKind.Bool = refl
told_kind TypeKind.Extension = refl
told_kind TypeKind.Set = refl
told_kind TypeKind.AnySet = refl
told_kind TypeKind.Record = refl
told_kind TypeKind.Entity = refl
told_kind TypeKind.SeveralEntities = refl
told_kind TypeKind.AnyEntity = refl
told_kind TypeKind.Never = refl

pub one_kind : (j k : TypeKind) → kind_number k ≡ kind_number j → k ≡ j
one_kind j k e = sym (told_kind k) ∙ ap told e ∙ told_kind j

kind_small : (k : TypeKind) → kind_number k ≤ 10
kind_small TypeKind.Long = omega arith
kind_small TypeKind.String = omega arith
kind_small TypeKind.Bool = omega arith
kind_small TypeKind.Extension = omega arith
kind_small TypeKind.Set = omega arith
kind_small TypeKind.AnySet = omega arith
kind_small TypeKind.Record = omega arith
kind_small TypeKind.Entity = omega arith
kind_small TypeKind.SeveralEntities = omega arith
kind_small TypeKind.AnyEntity = omega arith
kind_small TypeKind.Never = omega arith

-- Each exit of `read_type` behind its first byte, by what this is decoded to.
module _ (s : List ℕ) (at l : ℕ) (h : at < length s) (b : ℕ) (is_b : b ≡ get_or s at 0) (r : Result TypeKind Refusal) (d : Decodes b r) where
  pub byte_undefined : (e : Refusal) → r ≡ Err e → Err e ≡ ending (type_at l s at)
  byte_undefined e is =
      let i : Decodes b (Err e) = rw is at d in
      ap Err i.0 ∙ type_undefined s at l h (rw is_b at i.1)

  module _ (k : TypeKind) (is : r ≡ Ok k) where
    number : kind_number k ≡ get_or s at 0
    number = let i : Decodes b (Ok k) = rw is at d in i ∙ is_b

    known : get_or s at 0 ≤ 10
    known = rw number at (kind_small k)

    pub kind_deep : l ≡ 0 → Err TooDeep ≡ ending (type_at l s at)
    kind_deep = type_deep s at l h known

    module _ (z : l ≡ 0 → ⊥) where
      pub kind_set : k ≡ TypeKind.Set → (x : Read) → x ≡ ending (type_at (l - 1) s (at + 1)) → x ≡ ending (type_at l s at)
      kind_set e = type_set s at l h z (sym number ∙ ap kind_number e)

      pub kind_record : k ≡ TypeKind.Record → (x : Read) → x ≡ ending (attributes (type_at (l - 1)) s (at + 1)) → x ≡ ending (type_at l s at)
      kind_record e = type_object s at l h z (sym number ∙ ap kind_number e)

      pub kind_named : (k ≡ TypeKind.Extension) ⊎ (k ≡ TypeKind.Entity) → (x : Read) → x ≡ ending (string_of path_name s (at + 1)) → x ≡ ending (type_at l s at)
      kind_named (inl e) = type_extension s at l h z (sym number ∙ ap kind_number e)
      kind_named (inr e) = type_entity s at l h z (sym number ∙ ap kind_number e)

      pub kind_leaf : (k ≡ TypeKind.Set → ⊥) → (k ≡ TypeKind.Record → ⊥) → (k ≡ TypeKind.Extension → ⊥) → (k ≡ TypeKind.Entity → ⊥) → Ok (at + 1) ≡ ending (type_at l s at)
      kind_leaf four six three seven =
          type_leaf s at l h z known
          (λ e. three (one_kind TypeKind.Extension k (number ∙ e)))
          (λ e. four (one_kind TypeKind.Set k (number ∙ e)))
          (λ e. six (one_kind TypeKind.Record k (number ∙ e)))
          (λ e. seven (one_kind TypeKind.Entity k (number ∙ e)))

-- Each exit and the turn of `read_attributes`: `whole` is the answer to all, as the answer to what is left.
module _ (type : Reader Declared) (s : List ℕ) where
  pub attributes-end : (at : ℕ) → length s ≤ at → Err Cut ≡ ending (attributes type s at)
  unfolding attributes ending
  attributes-end at h = rw (u8-end s at h)

  pub attributes_start : (at n : ℕ) → at < length s → n ≡ get_or s at 0 → ending (attributes type s at) ≡ ending (attributes_of type n none s (at + 1))
  unfolding attributes
  attributes_start at n h e = rw (u8_got s at h, ← e)

  module _ (whole : Read) (end i at : ℕ) (b : Found) (inv : whole ≡ ending (attributes_of type (end - i) (earlier s b) s at)) where
    pub attributes_done : end ≤ i → Ok at ≡ whole
    unfolding attributes_of ending
    attributes_done h = go (end - i) (omega arith) inv
      where
        go : (n : ℕ) → n ≤ 0 → whole ≡ ending (attributes_of type n (earlier s b) s at) → Ok at ≡ whole
        go zero h e = sym e
        go (suc n) h e = absurd (omega arith)

    module _ (h : i < end) (x : Read) (is : x ≡ ending (ascending (class_of Plain) (earlier s b) s at)) where
      pub name_stops : (r : Refusal) → x ≡ Err r → Err r ≡ whole
      unfolding attributes_of
      name_stops r e = go (end - i) (omega arith) inv
        where
          go : (n : ℕ) → 0 < n → whole ≡ ending (attributes_of type n (earlier s b) s at) → Err r ≡ whole
          go zero h i = absurd (omega arith)
          go (suc n) h i = stops _ _ e is ∙ sym i

      module _ (p : ℕ) (e : x ≡ Ok p) (y : Read) (is' : y ≡ ending (type s p)) where
        pub type_stops : (r : Refusal) → y ≡ Err r → Err r ≡ whole
        unfolding attributes_of
        type_stops r f = go (end - i) (omega arith) inv
          where
            go : (n : ℕ) → 0 < n → whole ≡ ending (attributes_of type n (earlier s b) s at) → Err r ≡ whole
            go zero h i = absurd (omega arith)
            go (suc n) h i = goes _ _ e is (λ w d. stops _ _ f is') ∙ sym i

        pub attributes_turn : (m : ℕ) → y ≡ Ok m → whole ≡ ending (attributes_of type (end - (i + 1)) (earlier s (Some at)) s m)
        unfolding attributes_of
        attributes_turn m f = let left : end - (i + 1) ≡ (end - i) - 1 = omega arith in rw left (go (end - i) (omega arith) inv)
          where
            go : (n : ℕ) → 0 < n → whole ≡ ending (attributes_of type n (earlier s b) s at) → whole ≡ ending (attributes_of type (n - 1) (earlier s (Some at)) s m)
            go zero h i = absurd (omega arith)
            go (suc n) h i = i ∙ sym (goes _ _ e is λ w d. goes _ _ f is' λ t g. rw (sub-one, ascending_word _ _ s at d) (last _ _))

pub ruleset types = (rules, type-end, byte_undefined, kind_deep, kind_set, kind_record, kind_named, kind_leaf, attributes-end, attributes_start, attributes_done, name_stops, type_stops, attributes_turn)
