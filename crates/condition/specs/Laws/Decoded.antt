-- What a condition, a term, an aggregate is at a position, by the kind that the byte there is decoded to, in whatever version. Assumes nothing.
use Rattle.std.specs.Prelude.{ℕ, ◌+◌, ◌-◌, ◌≤◌, ◌<◌, ◌≡◌, ◌⊎◌, refl, Bool, true, false, List, eqb, length, get_or, Result, Ok, Err}
use Rattle.std.proofs.Math.Path.{sym}
use Rattle.std.proofs.Common.{◌∙◌, ap, inl, inr, arith, rules, eqb-true}
use Rattle.std.proofs.lemmas.Bool.{eqb-false}
use Rattle.names.specs.Fields.{Reader, ◌<∘>◌, choose, string_of}
use Rattle.names.specs.Class.{class_of}
use Rattle.names.specs.declared.Class.TheVariants.{Plain}
use Rattle.names.specs.Paths.{path_of}
use Rattle.names.specs.Read.{ending, Read}
use Rattle.condition.specs.Condition.{Condition, Term, negation, formerly, previous, refine, and, or, since, window, span, timepoint_of, element_list, unary, binary, predicate_of, comparison_of, exists_of, sum_of, count_of, aggregate_of, arith_of, term_kinds, condition_at, term_at}
use Rattle.condition.specs.Kinds.{kind_number, term_kind_number, aggregate_kind_number, Decodes}
use Rattle.condition.specs.Laws.ByKind as byte
use Rattle.condition.specs.declared.kind.Kind.{Kind}
use Rattle.condition.specs.declared.kind.TermKind.{TermKind}
use Rattle.condition.specs.declared.kind.AggregateKind.{AggregateKind}
use Rattle.names.specs.declared.refusal.Refusal.{Refusal}
use Rattle.names.specs.declared.refusal.Refusal.TheVariants.{UndefinedChoice, TooDeep, AggregateBelowArray}

-- A byte that was decoded, whatever kinds it stands for.
module _ {K : Type 0} (number : K → ℕ) (last b : ℕ) (r : Result K Refusal) (d : Decodes number last b r) where
  pub numbered : (k : K) → r ≡ Ok k → b ≡ number k
  numbered k is = let i : Decodes number last b (Ok k) = rw is at d in sym i

  -- it stands for no kind: what follows from a byte of 0, and from one above the last
  pub undefined : (e : Refusal) → r ≡ Err e → {x : Read} → ((b ≡ 0) → Err UndefinedChoice ≡ x) → ((b ≡ 0 → ⊥) → last < b → Err UndefinedChoice ≡ x) → Err e ≡ x
  undefined e is {x} none above =
      let i : Decodes number last b (Err e) = rw is at d in
      ap Err i.0 ∙ go i.1 (eqb b 0) refl
    where
      go : (0 < b → last < b) → (t : Bool) → eqb b 0 ≡ t → Err UndefinedChoice ≡ x
      go a true h = none (eqb-true b 0 h)
      go a false h = let ne = eqb-false b 0 h in above ne (a (omega arith))

-- the numbers of the kinds that nest
pub kind_bounds : (k : Kind) → (1 ≤ kind_number k) × (kind_number k ≤ 13)
kind_bounds Kind.And = (omega arith, omega arith)
kind_bounds Kind.Or = (omega arith, omega arith)
kind_bounds Kind.Not = (omega arith, omega arith)
kind_bounds Kind.Formerly = (omega arith, omega arith)
kind_bounds Kind.Previous = (omega arith, omega arith)
kind_bounds Kind.Since = (omega arith, omega arith)
kind_bounds Kind.Predicate = (omega arith, omega arith)
kind_bounds Kind.Comparison = (omega arith, omega arith)
kind_bounds Kind.Exists = (omega arith, omega arith)
kind_bounds Kind.Timepoint = (omega arith, omega arith)
kind_bounds Kind.Call = (omega arith, omega arith)
kind_bounds Kind.SigilRef = (omega arith, omega arith)
kind_bounds Kind.Refine = (omega arith, omega arith)

pub term_kind_bounds : (k : TermKind) → (1 ≤ term_kind_number k) × (term_kind_number k ≤ 14)
term_kind_bounds TermKind.Entity = (omega arith, omega arith)
term_kind_bounds TermKind.Integer = (omega arith, omega arith)
term_kind_bounds TermKind.Decimal = (omega arith, omega arith)
term_kind_bounds TermKind.String = (omega arith, omega arith)
term_kind_bounds TermKind.Bool = (omega arith, omega arith)
term_kind_bounds TermKind.ContextField = (omega arith, omega arith)
term_kind_bounds TermKind.ScopeField = (omega arith, omega arith)
term_kind_bounds TermKind.Var = (omega arith, omega arith)
term_kind_bounds TermKind.Wildcard = (omega arith, omega arith)
term_kind_bounds TermKind.Array = (omega arith, omega arith)
term_kind_bounds TermKind.Aggregate = (omega arith, omega arith)
term_kind_bounds TermKind.Arith = (omega arith, omega arith)
term_kind_bounds TermKind.ParamRef = (omega arith, omega arith)
term_kind_bounds TermKind.BinderRef = (omega arith, omega arith)

-- Each exit of `read_subcondition` behind its first byte.
module _ (v : ℕ) (s : List ℕ) (at l : ℕ) (h : at < length s) (b : ℕ) (is_b : b ≡ get_or s at 0) (r : Result Kind Refusal) (d : Decodes kind_number 13 b r) where
  pub condition_undefined : (e : Refusal) → r ≡ Err e → Err e ≡ ending (condition_at v l s at)
  condition_undefined e is =
      undefined kind_number 13 b r d e is
      (λ i. byte.condition_zero v s at l h (sym is_b ∙ i))
      (λ n i. byte.condition_above v s at l h (λ j. n (is_b ∙ j)) (omega arith))

  module _ (k : Kind) (is : r ≡ Ok k) where
    byte_of : (j : Kind) → k ≡ j → get_or s at 0 ≡ kind_number j
    byte_of j e = sym is_b ∙ numbered kind_number 13 b r d k is ∙ ap kind_number e

    pub condition_too_deep : l ≡ 0 → Err TooDeep ≡ ending (condition_at v l s at)
    condition_too_deep z =
        let i = byte_of k refl in
        let w = kind_bounds k in
        byte.condition_deep v s at l h (λ j. omega (arith, w.0)) (omega (arith, w.1)) z

    module _ (z : l ≡ 0 → ⊥) (x : Read) where
      pub and_or : (k ≡ Kind.And) ⊎ (k ≡ Kind.Or)
          → x ≡ ending (binary v (condition_at v (l - 1)) (term_at v (l - 1)) ((λ _. and) <∘> window 1) s (at + 1))
          → x ≡ ending (binary v (condition_at v (l - 1)) (term_at v (l - 1)) ((λ _. or) <∘> window 1) s (at + 1))
          → x ≡ ending (condition_at v l s at)
      and_or (inl e) = let i = byte_of Kind.And e in byte.binary_low v s at l h (λ j. omega arith) z (omega arith) x
      and_or (inr e) = let i = byte_of Kind.Or e in byte.binary_low v s at l h (λ j. omega arith) z (omega arith) x

      pub not_refine : (k ≡ Kind.Not) ⊎ (k ≡ Kind.Refine)
          → x ≡ ending (unary v (condition_at v (l - 1)) (term_at v (l - 1)) ((λ _. negation) <∘> window 1) s (at + 1))
          → x ≡ ending (unary v (condition_at v (l - 1)) (term_at v (l - 1)) ((λ _. refine) <∘> window 1) s (at + 1))
          → x ≡ ending (condition_at v l s at)
      not_refine (inl e) = byte.bare_unary v s at l h z x (inl (byte_of Kind.Not e))
      not_refine (inr e) = byte.bare_unary v s at l h z x (inr (byte_of Kind.Refine e))

      pub formerly_previous : (k ≡ Kind.Formerly) ⊎ (k ≡ Kind.Previous)
          → x ≡ ending (unary v (condition_at v (l - 1)) (term_at v (l - 1)) (formerly <∘> window v) s (at + 1))
          → x ≡ ending (unary v (condition_at v (l - 1)) (term_at v (l - 1)) (previous <∘> window v) s (at + 1))
          → x ≡ ending (condition_at v l s at)
      formerly_previous (inl e) = let i = byte_of Kind.Formerly e in byte.unary_low v s at l h z x (omega arith) (λ j. omega arith) (omega arith)
      formerly_previous (inr e) = let i = byte_of Kind.Previous e in byte.unary_low v s at l h z x (omega arith) (λ j. omega arith) (omega arith)

      pub since_here : k ≡ Kind.Since → x ≡ ending (binary v (condition_at v (l - 1)) (term_at v (l - 1)) (since <∘> window v) s (at + 1)) → x ≡ ending (condition_at v l s at)
      since_here e = byte.binary_since v s at l h z x (byte_of Kind.Since e)

      pub predicate_here : k ≡ Kind.Predicate → x ≡ ending (predicate_of v (condition_at v (l - 1)) (term_at v (l - 1)) s (at + 1)) → x ≡ ending (condition_at v l s at)
      predicate_here e = byte.predicate_kind v s at l h z x (byte_of Kind.Predicate e)

      pub comparison_here : k ≡ Kind.Comparison → x ≡ ending (comparison_of v (condition_at v (l - 1)) (term_at v (l - 1)) s (at + 1)) → x ≡ ending (condition_at v l s at)
      comparison_here e = byte.comparison_kind v s at l h z x (byte_of Kind.Comparison e)

      pub exists_here : k ≡ Kind.Exists → x ≡ ending (exists_of v (condition_at v (l - 1)) (term_at v (l - 1)) s (at + 1)) → x ≡ ending (condition_at v l s at)
      exists_here e = byte.exists_kind v s at l h z x (byte_of Kind.Exists e)

      pub timepoint_here : k ≡ Kind.Timepoint → x ≡ ending (timepoint_of s (at + 1)) → x ≡ ending (condition_at v l s at)
      timepoint_here e = let i = byte_of Kind.Timepoint e in byte.timepoint_kind v s at l h z x (omega arith) (omega arith) (λ j. omega arith) (λ j. omega arith) (λ j. omega arith) (λ j. omega arith)

      pub call_sigil : (k ≡ Kind.Call) ⊎ (k ≡ Kind.SigilRef) → x ≡ ending (span s (at + 1)) → x ≡ ending (condition_at v l s at)
      call_sigil (inl e) = let i = byte_of Kind.Call e in byte.opaque_read v s at l h z x (omega arith) (omega arith)
      call_sigil (inr e) = let i = byte_of Kind.SigilRef e in byte.opaque_read v s at l h z x (omega arith) (omega arith)

-- the kinds of the terms that have a value, and no others up to 5
abbrev pub Valued : TermKind → Type 0
Valued k = (k ≡ TermKind.Entity) ⊎ ((k ≡ TermKind.Integer) ⊎ ((k ≡ TermKind.Decimal) ⊎ ((k ≡ TermKind.String) ⊎ (k ≡ TermKind.Bool))))

pub valued : (k : TermKind) → Valued k → term_kind_number k ≤ 5
valued k (inl e) = rw e (omega arith)
valued k (inr (inl e)) = rw e (omega arith)
valued k (inr (inr (inl e))) = rw e (omega arith)
valued k (inr (inr (inr (inl e)))) = rw e (omega arith)
valued k (inr (inr (inr (inr e)))) = rw e (omega arith)

-- Each exit of `read_term` behind its first byte.
module _ (v : ℕ) (s : List ℕ) (at l : ℕ) (a : Bool) (h : at < length s) (b : ℕ) (is_b : b ≡ get_or s at 0) (r : Result TermKind Refusal) (d : Decodes term_kind_number 14 b r) where
  pub term_undefined : (e : Refusal) → r ≡ Err e → Err e ≡ ending (term_at v l a s at)
  term_undefined e is =
      undefined term_kind_number 14 b r d e is
      (λ i. byte.term_zero v s at l a h (sym is_b ∙ i))
      (λ n i. byte.term_above v s at l a h (λ j. n (is_b ∙ j)) (omega arith))

  module _ (k : TermKind) (is : r ≡ Ok k) where
    term_byte_of : (j : TermKind) → k ≡ j → get_or s at 0 ≡ term_kind_number j
    term_byte_of j e = sym is_b ∙ numbered term_kind_number 14 b r d k is ∙ ap term_kind_number e

    pub term_too_deep : l ≡ 0 → Err TooDeep ≡ ending (term_at v l a s at)
    term_too_deep z =
        let i = term_byte_of k refl in
        let w = term_kind_bounds k in
        byte.term_deep v s at l a h (λ j. omega (arith, w.0)) (omega (arith, w.1)) z

    module _ (z : l ≡ 0 → ⊥) where
      pub leaf_here : (k ≡ TermKind.Wildcard) ⊎ ((k ≡ TermKind.ParamRef) ⊎ (k ≡ TermKind.BinderRef)) → Ok (at + 1) ≡ ending (term_at v l a s at)
      leaf_here (inl e) = byte.wildcard_read v s at l a h z (term_byte_of TermKind.Wildcard e)
      leaf_here (inr (inl e)) = let i = term_byte_of TermKind.ParamRef e in byte.sigil_read v s at l a h z (omega arith) (omega arith)
      leaf_here (inr (inr e)) = let i = term_byte_of TermKind.BinderRef e in byte.sigil_read v s at l a h z (omega arith) (omega arith)

      pub aggregate_below : k ≡ TermKind.Aggregate → a ≡ true → Err AggregateBelowArray ≡ ending (term_at v l a s at)
      aggregate_below e = byte.aggregate_refused v s at l a h z (term_byte_of TermKind.Aggregate e)

      module _ (x : Read) where
        pub value_here : Valued k → x ≡ ending (choose (term_kind_number k) (term_kinds v (condition_at v (l - 1)) (term_at v (l - 1)) a) s (at + 1)) → x ≡ ending (term_at v l a s at)
        value_here e = byte.value_read v s at l a h z x (term_kind_number k) (term_byte_of k refl)

        pub path_here : (k ≡ TermKind.ContextField) ⊎ (k ≡ TermKind.ScopeField) → x ≡ ending (path_of s (at + 1)) → x ≡ ending (term_at v l a s at)
        path_here (inl e) = let i = term_byte_of TermKind.ContextField e in byte.path_read v s at l a h z x (omega arith) (omega arith)
        path_here (inr e) = let i = term_byte_of TermKind.ScopeField e in byte.path_read v s at l a h z x (omega arith) (omega arith)

        pub var_here : k ≡ TermKind.Var → x ≡ ending (string_of (class_of Plain) s (at + 1)) → x ≡ ending (term_at v l a s at)
        var_here e = byte.var_read v s at l a h z x (term_byte_of TermKind.Var e)

        pub array_here : k ≡ TermKind.Array → x ≡ ending (element_list v (condition_at v (l - 1)) (term_at v (l - 1)) s (at + 1)) → x ≡ ending (term_at v l a s at)
        array_here e = byte.array_read v s at l a h z x (term_byte_of TermKind.Array e)

        pub aggregate_here : k ≡ TermKind.Aggregate → a ≡ false → x ≡ ending (aggregate_of v (condition_at v (l - 1)) (term_at v (l - 1)) s (at + 1)) → x ≡ ending (term_at v l a s at)
        aggregate_here e = byte.aggregate_read v s at l a h z x (term_byte_of TermKind.Aggregate e)

        pub arith_here : k ≡ TermKind.Arith → x ≡ ending (arith_of v (condition_at v (l - 1)) (term_at v (l - 1)) a s (at + 1)) → x ≡ ending (term_at v l a s at)
        arith_here e = let i = term_byte_of TermKind.Arith e in byte.arith_kind v s at l a h z x (omega arith) (omega arith) (λ j. omega arith) (λ j. omega arith) (λ j. omega arith) (λ j. omega arith)

-- Each exit of `read_aggregate` behind its first byte.
module _ (v : ℕ) (c : Reader Condition) (t : Bool → Reader Term) (s : List ℕ) (at : ℕ) (h : at < length s) (b : ℕ) (is_b : b ≡ get_or s at 0) (r : Result AggregateKind Refusal) (d : Decodes aggregate_kind_number 3 b r) where
  pub aggregate_unknown : (e : Refusal) → r ≡ Err e → Err e ≡ ending (aggregate_of v c t s at)
  aggregate_unknown e is =
      undefined aggregate_kind_number 3 b r d e is
      (λ i. byte.aggregate_undefined v c t s at h (λ j. omega arith) (λ j. omega arith) (λ j. omega arith))
      (λ n i. byte.aggregate_undefined v c t s at h (λ j. omega arith) (λ j. omega arith) (λ j. omega arith))

  module _ (k : AggregateKind) (is : r ≡ Ok k) (x : Read) where
    aggregate_byte_of : (j : AggregateKind) → k ≡ j → get_or s at 0 ≡ aggregate_kind_number j
    aggregate_byte_of j e = sym is_b ∙ numbered aggregate_kind_number 3 b r d k is ∙ ap aggregate_kind_number e

    pub sum_here : k ≡ AggregateKind.Sum → x ≡ ending (sum_of v c t s (at + 1)) → x ≡ ending (aggregate_of v c t s at)
    sum_here e = byte.sum_kind v c t s at h x (aggregate_byte_of AggregateKind.Sum e)

    pub count_here : k ≡ AggregateKind.Count → x ≡ ending (count_of v c t s (at + 1)) → x ≡ ending (aggregate_of v c t s at)
    count_here e = byte.count_kind v c t s at h x (aggregate_byte_of AggregateKind.Count e)

    pub call_here : k ≡ AggregateKind.Call → x ≡ ending (span s (at + 1)) → x ≡ ending (aggregate_of v c t s at)
    call_here e = byte.call_kind v c t s at h x (aggregate_byte_of AggregateKind.Call e)

pub ruleset conditions = (rules, byte.condition-end, condition_undefined, condition_too_deep, and_or, not_refine, formerly_previous, since_here, predicate_here, comparison_here, exists_here, timepoint_here, call_sigil)

pub ruleset terms = (rules, byte.term-end, term_undefined, term_too_deep, leaf_here, aggregate_below, valued, value_here, path_here, var_here, array_here, aggregate_here, arith_here)

pub ruleset aggregates = (rules, byte.aggregate-end, aggregate_unknown, sum_here, count_here, call_here)
