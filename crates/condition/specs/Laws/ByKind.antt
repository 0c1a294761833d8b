-- What a condition, a term, an aggregate is at a position, by the level left and the byte there, in whatever version. Assumes nothing.
use Rattle.std.specs.Prelude.{◌≡◌, Bool, true, false, List, length, get_or, Ok, Err}
use Rattle.std.proofs.Math.Path.{refl}
use Rattle.std.proofs.Common.{◌∙◌, arith, ◌⊎◌, inl, inr}
use Prim.Native.Nat.{ℕ, zero, suc, ◌+◌, ◌-◌, ◌≤◌, ◌<◌}
use Rattle.std.proofs.Math.Numerals.{sub-one}
use borrow.Author.Tests.{le-leb, lt-leb, ne_eqb}
use Rattle.names.specs.Fields.{bad, Reader, ◌<∘>◌, choose, string_of}
use Rattle.names.specs.Class.{class_of}
use Rattle.names.specs.declared.Class.TheVariants.{Plain}
use Rattle.names.specs.Paths.{path_of}
use Rattle.names.specs.Read.{ending, Read}
use Rattle.names.specs.Laws.Readers.{u8-end, u8_got, via, last, choice, choose_beyond, keys_up_to, Each, each_in}
use Rattle.condition.specs.Condition.{Condition, Term, negation, formerly, previous, refine, and, or, since, window, span, timepoint_of, element_list, unary, binary, predicate_of, comparison_of, exists_of, condition_kinds, sum_of, count_of, aggregate_kinds, aggregate_of, arith_of, term_kinds, too_deep, condition_at, term_at}
use Rattle.names.specs.declared.refusal.Refusal.TheVariants.{Cut, UndefinedChoice, TooDeep, AggregateBelowArray}

-- with no level left
module _ {A : Type 0} (s : List ℕ) (at bound : ℕ) where
  deep-end : length s ≤ at → too_deep {A = A} bound s at ≡ bad Cut
  unfolding too_deep
  deep-end h = rw (u8-end s at h)

  module _ (h : at < length s) where
    deep_zero : get_or s at 0 ≡ 0 → too_deep {A = A} bound s at ≡ bad UndefinedChoice
    unfolding too_deep
    deep_zero k = rw (u8_got s at h, k)

    module _ (z : get_or s at 0 ≡ 0 → ⊥) where
      deep_above : bound < get_or s at 0 → too_deep {A = A} bound s at ≡ bad UndefinedChoice
      unfolding too_deep
      deep_above k = rw (u8_got s at h, le-leb 1 (get_or s at 0) (omega arith), lt-leb _ _ k)

      deep_defined : get_or s at 0 ≤ bound → too_deep {A = A} bound s at ≡ bad TooDeep
      unfolding too_deep
      deep_defined k = rw (u8_got s at h, le-leb 1 (get_or s at 0) (omega arith), le-leb _ _ k)

-- Each exit of `read_subcondition`.
module _ (v : ℕ) (s : List ℕ) (at l : ℕ) where
  pub condition-end : length s ≤ at → Err Cut ≡ ending (condition_at v l s at)
  unfolding condition_at ending
  condition-end h = go l
    where
      go : (l : ℕ) → Err Cut ≡ ending (condition_at v l s at)
      go zero = rw (deep-end {A = Condition} s at 13 h)
      go (suc l) = rw (u8-end s at h)

  module _ (h : at < length s) where
    condition_kind : (l ≡ 0 → ⊥) → (k : ℕ) → get_or s at 0 ≡ k → condition_at v l s at ≡ choose k (condition_kinds v (condition_at v (l - 1)) (term_at v (l - 1))) s (at + 1)
    unfolding condition_at
    condition_kind z k e = go l z
      where
        go : (l : ℕ) → (l ≡ 0 → ⊥) → condition_at v l s at ≡ choose k (condition_kinds v (condition_at v (l - 1)) (term_at v (l - 1))) s (at + 1)
        go zero z = absurd (z refl)
        go (suc l) z = rw sub-one (choice s at _ h k e)

    pub condition_zero : get_or s at 0 ≡ 0 → Err UndefinedChoice ≡ ending (condition_at v l s at)
    unfolding condition_at ending choose condition_kinds
    condition_zero k = go l
      where
        go : (l : ℕ) → Err UndefinedChoice ≡ ending (condition_at v l s at)
        go zero = rw (deep_zero {A = Condition} s at 13 h k)
        go (suc l) = via (choice s at (condition_kinds v (condition_at v l) (term_at v l)) h 0 k) refl

    module _ (y : get_or s at 0 ≡ 0 → ⊥) where
      pub condition_above : 13 < get_or s at 0 → Err UndefinedChoice ≡ ending (condition_at v l s at)
      unfolding condition_at ending keys_up_to condition_kinds
      condition_above k = go l
        where
          go : (l : ℕ) → Err UndefinedChoice ≡ ending (condition_at v l s at)
          go zero = rw (deep_above {A = Condition} s at 13 h y k)
          go (suc l) = via (choice s at _ h _ refl) (rw (choose_beyond s (at + 1) 13 (get_or s at 0) k (condition_kinds v (condition_at v l) (term_at v l)) refl))

      pub condition_deep : get_or s at 0 ≤ 13 → l ≡ 0 → Err TooDeep ≡ ending (condition_at v l s at)
      unfolding condition_at ending
      condition_deep k z = rw (z, deep_defined {A = Condition} s at 13 h y k)

      pub binary_low : (l ≡ 0 → ⊥) → get_or s at 0 ≤ 2 → (x : Read)
          → x ≡ ending (binary v (condition_at v (l - 1)) (term_at v (l - 1)) ((λ _. and) <∘> window 1) s (at + 1))
          → x ≡ ending (binary v (condition_at v (l - 1)) (term_at v (l - 1)) ((λ _. or) <∘> window 1) s (at + 1))
          → x ≡ ending (condition_at v l s at)
      unfolding choose condition_kinds Each window
      binary_low z k x e f = via (condition_kind z _ refl) (each_in (λ j. x ≡ ending (choose j (condition_kinds v (condition_at v (l - 1)) (term_at v (l - 1))) s (at + 1))) 1 2 ((tt, e), f) (get_or s at 0) (omega arith) (omega arith))

    module _ (z : l ≡ 0 → ⊥) (x : Read) where
      pub not_kind : get_or s at 0 ≡ 3 → x ≡ ending (unary v (condition_at v (l - 1)) (term_at v (l - 1)) ((λ _. negation) <∘> window 1) s (at + 1)) → x ≡ ending (condition_at v l s at)
      unfolding choose condition_kinds window
      not_kind k e = via (condition_kind z 3 k) e

      pub unary_low : 2 < get_or s at 0 → (get_or s at 0 ≡ 3 → ⊥) → get_or s at 0 ≤ 5
          → x ≡ ending (unary v (condition_at v (l - 1)) (term_at v (l - 1)) (formerly <∘> window v) s (at + 1))
          → x ≡ ending (unary v (condition_at v (l - 1)) (term_at v (l - 1)) (previous <∘> window v) s (at + 1))
          → x ≡ ending (condition_at v l s at)
      unfolding choose condition_kinds Each
      unary_low a i b e f = via (condition_kind z _ refl) (each_in (λ j. x ≡ ending (choose j (condition_kinds v (condition_at v (l - 1)) (term_at v (l - 1))) s (at + 1))) 4 2 ((tt, e), f) (get_or s at 0) (omega arith) (omega arith))

      pub unary_high : 12 < get_or s at 0 → get_or s at 0 ≤ 13 → x ≡ ending (unary v (condition_at v (l - 1)) (term_at v (l - 1)) ((λ _. refine) <∘> window 1) s (at + 1)) → x ≡ ending (condition_at v l s at)
      unfolding choose condition_kinds window
      unary_high a b e = via (condition_kind z 13 (omega arith)) e

      -- a Not or a Refine, as one of them
      pub bare_unary : (get_or s at 0 ≡ 3) ⊎ (get_or s at 0 ≡ 13)
          → x ≡ ending (unary v (condition_at v (l - 1)) (term_at v (l - 1)) ((λ _. negation) <∘> window 1) s (at + 1))
          → x ≡ ending (unary v (condition_at v (l - 1)) (term_at v (l - 1)) ((λ _. refine) <∘> window 1) s (at + 1))
          → x ≡ ending (condition_at v l s at)
      bare_unary (inl k) e f = not_kind k e
      bare_unary (inr k) e f = unary_high (omega arith) (omega arith) f

      pub opaque_read : 10 < get_or s at 0 → get_or s at 0 ≤ 12 → x ≡ ending (span s (at + 1)) → x ≡ ending (condition_at v l s at)
      unfolding choose condition_kinds Each
      opaque_read a b e = via (condition_kind z _ refl) (each_in (λ j. x ≡ ending (choose j (condition_kinds v (condition_at v (l - 1)) (term_at v (l - 1))) s (at + 1))) 11 2 ((tt, e ∙ last _ _), e ∙ last _ _) (get_or s at 0) a (omega arith))

      pub binary_since : get_or s at 0 ≡ 6 → x ≡ ending (binary v (condition_at v (l - 1)) (term_at v (l - 1)) (since <∘> window v) s (at + 1)) → x ≡ ending (condition_at v l s at)
      unfolding choose condition_kinds
      binary_since k e = via (condition_kind z 6 k) e

      pub predicate_kind : get_or s at 0 ≡ 7 → x ≡ ending (predicate_of v (condition_at v (l - 1)) (term_at v (l - 1)) s (at + 1)) → x ≡ ending (condition_at v l s at)
      unfolding choose condition_kinds
      predicate_kind k e = via (condition_kind z 7 k) e

      pub comparison_kind : get_or s at 0 ≡ 8 → x ≡ ending (comparison_of v (condition_at v (l - 1)) (term_at v (l - 1)) s (at + 1)) → x ≡ ending (condition_at v l s at)
      unfolding choose condition_kinds
      comparison_kind k e = via (condition_kind z 8 k) e

      pub exists_kind : get_or s at 0 ≡ 9 → x ≡ ending (exists_of v (condition_at v (l - 1)) (term_at v (l - 1)) s (at + 1)) → x ≡ ending (condition_at v l s at)
      unfolding choose condition_kinds
      exists_kind k e = via (condition_kind z 9 k) e

      pub timepoint_kind : 5 < get_or s at 0 → get_or s at 0 ≤ 10 → (get_or s at 0 ≡ 6 → ⊥) → (get_or s at 0 ≡ 7 → ⊥) → (get_or s at 0 ≡ 8 → ⊥) → (get_or s at 0 ≡ 9 → ⊥) → x ≡ ending (timepoint_of s (at + 1)) → x ≡ ending (condition_at v l s at)
      unfolding choose condition_kinds
      timepoint_kind a b i j k m e = via (condition_kind z 10 (omega arith)) e

-- Each exit of `read_term`.
module _ (v : ℕ) (s : List ℕ) (at l : ℕ) (b : Bool) where
  pub term-end : length s ≤ at → Err Cut ≡ ending (term_at v l b s at)
  unfolding term_at ending
  term-end h = go l
    where
      go : (l : ℕ) → Err Cut ≡ ending (term_at v l b s at)
      go zero = rw (deep-end {A = Term} s at 14 h)
      go (suc l) = rw (u8-end s at h)

  module _ (h : at < length s) where
    term_kind : (l ≡ 0 → ⊥) → (k : ℕ) → get_or s at 0 ≡ k → term_at v l b s at ≡ choose k (term_kinds v (condition_at v (l - 1)) (term_at v (l - 1)) b) s (at + 1)
    unfolding term_at
    term_kind z k e = go l z
      where
        go : (l : ℕ) → (l ≡ 0 → ⊥) → term_at v l b s at ≡ choose k (term_kinds v (condition_at v (l - 1)) (term_at v (l - 1)) b) s (at + 1)
        go zero z = absurd (z refl)
        go (suc l) z = rw sub-one (choice s at _ h k e)

    pub term_zero : get_or s at 0 ≡ 0 → Err UndefinedChoice ≡ ending (term_at v l b s at)
    unfolding term_at ending choose term_kinds
    term_zero k = go l
      where
        go : (l : ℕ) → Err UndefinedChoice ≡ ending (term_at v l b s at)
        go zero = rw (deep_zero {A = Term} s at 14 h k)
        go (suc l) = via (choice s at (term_kinds v (condition_at v l) (term_at v l) b) h 0 k) refl

    module _ (y : get_or s at 0 ≡ 0 → ⊥) where
      pub term_above : 14 < get_or s at 0 → Err UndefinedChoice ≡ ending (term_at v l b s at)
      unfolding term_at ending keys_up_to term_kinds
      term_above k = go l
        where
          go : (l : ℕ) → Err UndefinedChoice ≡ ending (term_at v l b s at)
          go zero = rw (deep_above {A = Term} s at 14 h y k)
          go (suc l) = via (choice s at _ h _ refl) (rw (choose_beyond s (at + 1) 14 (get_or s at 0) k (term_kinds v (condition_at v l) (term_at v l) b) refl))

      pub term_deep : get_or s at 0 ≤ 14 → l ≡ 0 → Err TooDeep ≡ ending (term_at v l b s at)
      unfolding term_at ending
      term_deep k z = rw (z, deep_defined {A = Term} s at 14 h y k)

    module _ (z : l ≡ 0 → ⊥) where
      pub sigil_read : 12 < get_or s at 0 → get_or s at 0 ≤ 14 → Ok (at + 1) ≡ ending (term_at v l b s at)
      unfolding choose term_kinds ending Each
      sigil_read i k = via (term_kind z _ refl) (each_in (λ j. Ok (at + 1) ≡ ending (choose j (term_kinds v (condition_at v (l - 1)) (term_at v (l - 1)) b) s (at + 1))) 13 2 ((tt, refl), refl) (get_or s at 0) i (omega arith))

      pub wildcard_read : get_or s at 0 ≡ 9 → Ok (at + 1) ≡ ending (term_at v l b s at)
      unfolding choose term_kinds ending
      wildcard_read k = via (term_kind z 9 k) refl

      pub aggregate_refused : get_or s at 0 ≡ 11 → b ≡ true → Err AggregateBelowArray ≡ ending (term_at v l b s at)
      unfolding choose term_kinds ending
      aggregate_refused k e = via (term_kind z 11 k) (rw e)

      module _ (x : Read) where
        -- an entity or a literal
        pub value_read : (k : ℕ) → get_or s at 0 ≡ k → x ≡ ending (choose k (term_kinds v (condition_at v (l - 1)) (term_at v (l - 1)) b) s (at + 1)) → x ≡ ending (term_at v l b s at)
        value_read k i e = via (term_kind z k i) e

        pub path_read : 5 < get_or s at 0 → get_or s at 0 ≤ 7 → x ≡ ending (path_of s (at + 1)) → x ≡ ending (term_at v l b s at)
        unfolding choose term_kinds Each
        path_read i k e = via (term_kind z _ refl) (each_in (λ j. x ≡ ending (choose j (term_kinds v (condition_at v (l - 1)) (term_at v (l - 1)) b) s (at + 1))) 6 2 ((tt, e ∙ last _ _), e ∙ last _ _) (get_or s at 0) i (omega arith))

        pub var_read : get_or s at 0 ≡ 8 → x ≡ ending (string_of (class_of Plain) s (at + 1)) → x ≡ ending (term_at v l b s at)
        unfolding choose term_kinds
        var_read k e = via (term_kind z 8 k) (e ∙ last _ _)

        pub array_read : get_or s at 0 ≡ 10 → x ≡ ending (element_list v (condition_at v (l - 1)) (term_at v (l - 1)) s (at + 1)) → x ≡ ending (term_at v l b s at)
        unfolding choose term_kinds
        array_read k e = via (term_kind z 10 k) (e ∙ last _ _)

        pub aggregate_read : get_or s at 0 ≡ 11 → b ≡ false → x ≡ ending (aggregate_of v (condition_at v (l - 1)) (term_at v (l - 1)) s (at + 1)) → x ≡ ending (term_at v l b s at)
        unfolding choose term_kinds
        aggregate_read k i e = via (term_kind z 11 k) (rw i (e ∙ last _ _))

        pub arith_kind : 7 < get_or s at 0 → get_or s at 0 ≤ 12 → (get_or s at 0 ≡ 8 → ⊥) → (get_or s at 0 ≡ 9 → ⊥) → (get_or s at 0 ≡ 10 → ⊥) → (get_or s at 0 ≡ 11 → ⊥) → x ≡ ending (arith_of v (condition_at v (l - 1)) (term_at v (l - 1)) b s (at + 1)) → x ≡ ending (term_at v l b s at)
        unfolding choose term_kinds
        arith_kind i j k m n o e = via (term_kind z 12 (omega arith)) e

-- Each exit of `read_aggregate`.
module _ (v : ℕ) (c : Reader Condition) (t : Bool → Reader Term) (s : List ℕ) (at : ℕ) where
  pub aggregate-end : length s ≤ at → Err Cut ≡ ending (aggregate_of v c t s at)
  unfolding aggregate_of ending
  aggregate-end h = rw (u8-end s at h)

  module _ (h : at < length s) where
    aggregate_kind : (k : ℕ) → get_or s at 0 ≡ k → aggregate_of v c t s at ≡ choose k (aggregate_kinds v c t) s (at + 1)
    unfolding aggregate_of
    aggregate_kind = choice s at (aggregate_kinds v c t) h

    module _ (x : Read) where
      pub sum_kind : get_or s at 0 ≡ 1 → x ≡ ending (sum_of v c t s (at + 1)) → x ≡ ending (aggregate_of v c t s at)
      unfolding choose aggregate_kinds
      sum_kind k e = via (aggregate_kind 1 k) e

      pub count_kind : get_or s at 0 ≡ 2 → x ≡ ending (count_of v c t s (at + 1)) → x ≡ ending (aggregate_of v c t s at)
      unfolding choose aggregate_kinds
      count_kind k e = via (aggregate_kind 2 k) e

      pub call_kind : get_or s at 0 ≡ 3 → x ≡ ending (span s (at + 1)) → x ≡ ending (aggregate_of v c t s at)
      unfolding choose aggregate_kinds
      call_kind k e = via (aggregate_kind 3 k) (e ∙ last _ _)

    pub aggregate_undefined : (get_or s at 0 ≡ 1 → ⊥) → (get_or s at 0 ≡ 2 → ⊥) → (get_or s at 0 ≡ 3 → ⊥) → Err UndefinedChoice ≡ ending (aggregate_of v c t s at)
    unfolding choose aggregate_kinds ending
    aggregate_undefined i j k = via (aggregate_kind _ refl) (rw (ne_eqb (get_or s at 0) 1 i, ne_eqb (get_or s at 0) 2 j, ne_eqb (get_or s at 0) 3 k))
