-- The types of a schema are small: at most so many layers as levels, and tags of at most 255 bytes. Assumes nothing.
use Rattle.std.proofs.Math.Path.{◌≡◌, refl}
use Rattle.std.proofs.Common.{ap, arith, length-append, Fits}
use Rattle.std.specs.Prelude.{Bool, List, [], length, get_or, drop}
use Rattle.std.proofs.Math.Bool.{true, false, cond}
use Prim.Native.Nat.{ℕ, zero, suc, ◌+◌, ◌≤◌, ◌<◌}
use borrow.Author.Tests.{leb-true, leb-false}
use Rattle.std.proofs.Math.Dec.{leb}
use Rattle.std.specs.Int.{w8}
use Rattle.names.specs.Fields.{got, u8, choose, refuse, string_of, levels}
use Rattle.names.specs.Names.{path_name, simple_name}
use Rattle.names.specs.Laws.Joined.{simple-end}
use Rattle.names.specs.Read.{word_at}
use Rattle.names.specs.Laws.Readers.{split, string_view, accept, has_value, got_value, Each, each_below, ◌&◌}
use Rattle.names.specs.Laws.Walks.{take_at_most}
use Rattle.types.specs.Laws.Texts.{layers_in, tag_in, Small}
use Rattle.schema.specs.Schema.{Declared, long, string, bool, extension, set, any_set, object, entity, several_entities, any_entity, never, kinds, type_at, attributes}
use Rattle.schema.specs.Find.{rich_type_by, rich_type}
use Rattle.schema.specs.Places.{type_in, is_type}
use Rattle.schema.specs.Laws.ByKind.{choose_above}
use Rattle.names.specs.declared.refusal.Refusal.TheVariants.{UndefinedChoice, TooDeep}

-- the elements of a list are bytes
abbrev pub Bytes : List ℕ → Type 0
Bytes s = (i : ℕ) → Fits w8 (get_or s i 0)

pub simple_short : (w : List ℕ) → length w ≤ 255 → length (simple_name w) ≤ 255
simple_short w h = let e = simple-end w in omega (arith, simp length-append at (ap length e.joins))

-- a type of at most so many layers
record Within (l : ℕ) (t : Declared) : Type 0 where
  layers : layers_in (rich_type t) ≤ l
  tag : length (tag_in (rich_type t)) ≤ 255

plain_within : (l : ℕ) (t : Declared) → layers_in (rich_type t) ≡ 0 → tag_in (rich_type t) ≡ [] → Within l t
plain_within l t a b = record { layers = rw a (omega arith); tag = rw b (omega arith) }

set_within : (l : ℕ) (t : Declared) → Within l t → Within (suc l) (set t)
unfolding rich_type_by layers_in tag_in
set_within l t w = record { layers = omega (arith, w.layers); tag = w.tag }

entity_within : (l : ℕ) (name : List ℕ) → length name ≤ 255 → Within l (entity name)
unfolding rich_type_by layers_in tag_in
entity_within l name h = record { layers = omega arith; tag = simple_short name h }

module _ (s : List ℕ) (bytes : Bytes s) where
  pub word_short : (at : ℕ) → length (word_at s at) ≤ 255
  word_short at = let h = take_at_most (get_or s at 0) (drop (at + 1) s) in omega (arith, bytes at)

  module _ (l : ℕ) (inner : (at : ℕ) (t : Declared) (n : ℕ) → type_at l s at ≡ got t n → Within l t) (at : ℕ) (t : Declared) (n : ℕ) where
    by_kind : (k : ℕ) → k < 11 → choose k (kinds (type_at l)) s at ≡ got t n → Within (suc l) t
    unfolding choose kinds Each rich_type_by layers_in tag_in
    by_kind =
        each_below (λ k. choose k (kinds (type_at l)) s at ≡ got t n → Within (suc l) t) 11 (
        tt
        & (λ e. rw (← got_value e) (plain_within (suc l) long refl refl))
        & (λ e. rw (← got_value e) (plain_within (suc l) string refl refl))
        & (λ e. rw (← got_value e) (plain_within (suc l) bool refl refl))
        & (λ e. let a = split (string_of path_name s at) _ e in rw (← got_value a.rest) (plain_within (suc l) (extension a.value) refl refl))
        & (λ e. let a = split (type_at l s at) _ e in rw (← got_value a.rest) (set_within l a.value (inner at a.value a.place a.first)))
        & (λ e. rw (← got_value e) (plain_within (suc l) any_set refl refl))
        & (λ e. let a = split (attributes (type_at l) s at) _ e in rw (← got_value a.rest) (plain_within (suc l) (object a.value) refl refl))
        & (λ e. let a = split (string_of path_name s at) _ e in rw (← got_value a.rest) (entity_within (suc l) a.value (rw (string_view path_name s at a.first).word (word_short at))))
        & (λ e. rw (← got_value e) (plain_within (suc l) several_entities refl refl))
        & (λ e. rw (← got_value e) (plain_within (suc l) any_entity refl refl))
        & (λ e. rw (← got_value e) (plain_within (suc l) never refl refl)))

  within : (l at : ℕ) (t : Declared) (n : ℕ) → type_at l s at ≡ got t n → Within l t
  unfolding type_at
  within zero at t n e = let a = split (u8 s at) _ e in go (leb a.value 10) a.place a.rest
    where
      go : (b : Bool) (p : ℕ) → cond b (refuse TooDeep) (refuse UndefinedChoice) s p ≡ got t n → Within zero t
      go true p i = let z : ◌≡◌ {A = ℕ} 0 1 = cc in absurd (omega arith)
      go false p i = let z : ◌≡◌ {A = ℕ} 0 1 = cc in absurd (omega arith)
  within (suc l) at t n e = let a = split (u8 s at) _ e in go (λ p. within l p) a.value a.place a.rest (leb a.value 10) refl
    where
      go : ((p : ℕ) (u : Declared) (m : ℕ) → type_at l s p ≡ got u m → Within l u) → (k p : ℕ) → choose k (kinds (type_at l)) s p ≡ got t n → (b : Bool) → leb k 10 ≡ b → Within (suc l) t
      go inner k p i true h = let j = leb-true k 10 h in by_kind l inner p t n k (omega arith) i
      go inner k p i false h = let j = choose_above k (type_at l) s p (leb-false k 10 h) in let z : ◌≡◌ {A = ℕ} 0 1 = cc in absurd (omega arith)

  pub type_small : (at : ℕ) → is_type s at ≡ true → Small (rich_type (type_in s at))
  type_small at is =
      let a = accept _ is in
      let w = within levels at a.value a.place a.read in
      rw (has_value never a.read) (record { layers = w.layers; tag = w.tag })
