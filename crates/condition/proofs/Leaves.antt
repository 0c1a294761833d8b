-- Spans, slots, annotations, binders, operators, timepoints: each exit of their readers. Assumes nothing.
use mathlib.Core.Path.{◌≡◌, refl, sym, ◌∙◌}
use mathlib.Core.Bool.{Bool, true, false, cond}
use mathlib.Core.List.{List}
use mathlib.Core.Option.{none}
use Prim.Native.Nat.{ℕ, zero, suc, ◌+◌, ◌≤◌, ◌<◌}
use native.Mathlib.Omega.{arith}
use borrow.Author.Rules.{rules}
use borrow.Author.Tests.{leb-true, leb-false, ne_eqb}
use lib.Dec.{leb, eqb}
use lib.ListN.{length, get_or, take, drop}
use Rattle.names.specs.Fields.{got, bad, next, pure, u8, u32, u64, i64, number, string_of, each, many, counted, choose}
use Rattle.names.specs.Names.{identifier}
use Rattle.names.specs.Class.{class_of}
use Rattle.names.specs.declared.Class.TheVariants.{Plain, Identifier}
use Rattle.names.specs.Read.{ending, Read}
use Rattle.names.specs.Laws.Readers.{u8-end, bytes-end, bytes_got, via, last, stops, goes, alike, choice, choose_beyond, keys_up_to, Each, each_in}
use Rattle.names.specs.Laws.Rows.{counted-end, counted_start, each_done, each_stops, each_turn}
use Rattle.condition.specs.Condition.{timepoint, path, span, slot_kinds, slot, annotation, binder, timepoint_of}
use Rattle.std.specs.Prelude.{Ok, Err}
use Rattle.names.specs.declared.refusal.Refusal.{Refusal}
use Rattle.names.specs.declared.refusal.Refusal.TheVariants.{Cut, UndefinedChoice}

module _ (s : List ℕ) (at : ℕ) where
  u32-end : length s < at + 4 → u32 s at ≡ bad Cut
  unfolding u32
  u32-end h = rw (bytes-end s at 4 h)

  u32_got : at + 4 ≤ length s → u32 s at ≡ got (number 0 (take 4 (drop at s))) (at + 4)
  unfolding u32
  u32_got h = rw (bytes_got s at 4 h)

module _ (s : List ℕ) (at : ℕ) where
  short : length s < at + 8 → Err Cut ≡ ending (span s at)
  unfolding span ending
  short h = go (leb (at + 4) (length s)) refl
    where
      go : (b : Bool) → leb (at + 4) (length s) ≡ b → Err Cut ≡ ending (span s at)
      go true l = let m = leb-true _ _ l in rw (u32_got s at m, u32-end s (at + 4) (omega arith))
      go false l = rw (u32-end s at (leb-false _ _ l))

  long : at + 8 ≤ length s → Ok (at + 8) ≡ ending (span s at)
  unfolding span ending
  long h = let e : at + 4 + 4 ≡ at + 8 = omega arith in rw (u32_got s at (omega arith), u32_got s (at + 4) (omega arith), e)

  -- eight bytes are there, or they are not
  eight : (b : Bool) → leb (at + 8) (length s) ≡ b → ending (i64 s at) ≡ cond b (Ok (at + 8)) (Err Cut)
  unfolding i64 u64 ending
  eight true l = rw (bytes_got s at 8 (leb-true _ _ l))
  eight false l = rw (bytes-end s at 8 (leb-false _ _ l))

  pub word_room : (n : ℕ) → ending (i64 s at) ≡ Ok n → (at + 8 ≤ length s) × (at + 8 ≡ n)
  word_room n h = go (leb (at + 8) (length s)) refl
    where
      go : (b : Bool) → leb (at + 8) (length s) ≡ b → (at + 8 ≤ length s) × (at + 8 ≡ n)
      go true l = let e = sym (eight true l) ∙ h in (leb-true _ _ l, cc)
      go false l = let e = sym (eight false l) ∙ h in absurd cc

  pub word_cut : (r : Refusal) → ending (i64 s at) ≡ Err r → (length s < at + 8) × (Cut ≡ r)
  word_cut r h = go (leb (at + 8) (length s)) refl
    where
      go : (b : Bool) → leb (at + 8) (length s) ≡ b → (length s < at + 8) × (Cut ≡ r)
      go true l = let e = sym (eight true l) ∙ h in absurd cc
      go false l = let e = sym (eight false l) ∙ h in (leb-false _ _ l, cc)

  pub span_read : (x : Read) → x ≡ ending (i64 s at) → x ≡ ending (span s at)
  span_read x is = go (leb (at + 8) (length s)) refl
    where
      go : (b : Bool) → leb (at + 8) (length s) ≡ b → x ≡ ending (span s at)
      go true l = is ∙ eight true l ∙ long (leb-true _ _ l)
      go false l = is ∙ eight false l ∙ short (leb-false _ _ l)

  pub slot-end : length s ≤ at → Err Cut ≡ ending (slot s at)
  unfolding slot ending
  slot-end h = rw (u8-end s at h)

  module _ (h : at < length s) where
    slot_kind : (k : ℕ) → get_or s at 0 ≡ k → slot s at ≡ choose k slot_kinds s (at + 1)
    unfolding slot
    slot_kind = choice s at slot_kinds h

    pub slot_named : get_or s at 0 ≡ 0 → (x : Read) → x ≡ ending (string_of (class_of Plain) s (at + 1)) → x ≡ ending (slot s at)
    unfolding choose slot_kinds
    slot_named k x e = via (slot_kind 0 k) (e ∙ last _ _)

    pub slot_undefined : 2 < get_or s at 0 → Err UndefinedChoice ≡ ending (slot s at)
    unfolding ending keys_up_to slot_kinds
    slot_undefined k = via (slot_kind _ refl) (rw (choose_beyond s (at + 1) 2 (get_or s at 0) k slot_kinds refl))

    pub slot_sigil : (get_or s at 0 ≡ 0 → ⊥) → get_or s at 0 ≤ 2 → Ok (at + 1) ≡ ending (slot s at)
    unfolding choose slot_kinds ending Each
    slot_sigil z k = via (slot_kind _ refl) (each_in (λ j. Ok (at + 1) ≡ ending (choose j slot_kinds s (at + 1))) 1 2 ((tt, refl), refl) (get_or s at 0) (omega arith) (omega arith))

  none_counted : (m : ℕ) → ending (many (λ w. w) (each (string_of identifier)) 0 none s m) ≡ ending (pure timepoint s m)
  unfolding many ending
  none_counted m = refl

  pub annotation_read : (x : Read) → x ≡ ending (counted (each (string_of (class_of Identifier))) s at) → x ≡ ending (annotation s at)
  unfolding annotation counted
  annotation_read x e = e ∙ alike (u8 s at) _ _ go
    where
      go : (n m : ℕ) → ending (many (λ a. a) (each (string_of identifier)) n none s m) ≡ ending (cond (eqb n 0) (pure timepoint) (λ s m. next (many (λ w. w) (each (string_of identifier)) n none s m) (λ ws p. got (path ws) p)) s m)
      go zero m = none_counted m
      go (suc n) m = rw (ne_eqb (suc n) 0 (λ e. omega arith)) (last _ _)

  module _ (x : Read) (is : x ≡ ending (slot s at)) where
    pub binder_stops : (r : Refusal) → x ≡ Err r → Err r ≡ ending (binder s at)
    unfolding binder
    binder_stops r e = stops _ _ e is

    pub binder_read : (n : ℕ) → x ≡ Ok n → (y : Read) → y ≡ ending (annotation s n) → y ≡ ending (binder s at)
    unfolding binder
    binder_read n e y is' = goes _ _ e is λ a d. is' ∙ last _ _

  module _ (x : Read) (is : x ≡ ending (span s at)) where
    pub timepoint_stops : (r : Refusal) → x ≡ Err r → Err r ≡ ending (timepoint_of s at)
    unfolding timepoint_of
    timepoint_stops r e = stops _ _ e is

    pub timepoint_read : (n : ℕ) → x ≡ Ok n → (y : Read) → y ≡ ending (slot s n) → y ≡ ending (timepoint_of s at)
    unfolding timepoint_of
    timepoint_read n e y is' = goes _ _ e is λ a d. is' ∙ last _ _

pub ruleset leaves = (rules, span_read, slot-end, slot_named, slot_undefined, slot_sigil, annotation_read, binder_stops, binder_read, timepoint_stops, timepoint_read)

pub ruleset rows = (rules, counted-end, counted_start, each_done, each_stops, each_turn)
