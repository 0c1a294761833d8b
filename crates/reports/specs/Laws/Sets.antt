-- Laws of lists as sets: append, select, and counting. Assumes nothing.
use Rattle.std.specs.Prelude.{◌≡◌, Bool, ◌⊎◌}
use Rattle.std.proofs.Math.Path.{refl, sym, ap}
use Rattle.std.proofs.Common.{subst, ◌∙◌, arith}
use Rattle.std.proofs.Math.Bool.{true, false, cond, not}
use Rattle.std.proofs.Math.Logic.{inl, inr}
use mathlib.Core.List.{List, [], ◌∷◌, ◌++◌}
use Prim.Native.Nat.{ℕ, suc, ◌+◌, ◌≤◌}
use Rattle.std.proofs.Math.ListN.{length}
use Rattle.names.specs.Lists.{select}
use Rattle.reports.specs.Pairs.{◌∈◌, NoDup, Same, sum_of}

module _ {K : Type 0} where
  -- ---- append

  pub in_left : (k : K) (l m : List K) → k ∈ l → k ∈ (l ++ m)
  in_left k [] m h = absurd h
  in_left k (j ∷ l) m (inl e) = inl e
  in_left k (j ∷ l) m (inr h) = inr (in_left k l m h)

  pub in_right : (k : K) (l m : List K) → k ∈ m → k ∈ (l ++ m)
  in_right k [] m h = h
  in_right k (j ∷ l) m h = inr (in_right k l m h)

  pub in_append : (k : K) (l m : List K) → k ∈ (l ++ m) → (k ∈ l) ⊎ (k ∈ m)
  in_append k [] m h = inr h
  in_append k (j ∷ l) m (inl e) = inl (inl e)
  in_append k (j ∷ l) m (inr h) = go (in_append k l m h)
    where
      go : (k ∈ l) ⊎ (k ∈ m) → (k ∈ (j ∷ l)) ⊎ (k ∈ m)
      go (inl i) = inl (inr i)
      go (inr i) = inr i

  pub nodup_append : (l m : List K) → NoDup l → NoDup m → ((k : K) → k ∈ l → k ∈ m → ⊥) → NoDup (l ++ m)
  nodup_append [] m p q apart = q
  nodup_append (j ∷ l) m p q apart = ((λ h. go (in_append j l m h)), nodup_append l m p.1 q (λ k i. apart k (inr i)))
    where
      go : (j ∈ l) ⊎ (j ∈ m) → ⊥
      go (inl i) = p.0 i
      go (inr i) = apart j (inl refl) i

  -- ---- select

  kept_in : (p : K → Bool) (k j : K) (l : List K) (t : Bool) → p j ≡ t → (k ∈ select p l → (k ∈ l) × (p k ≡ true)) → k ∈ select p (j ∷ l) → (k ∈ (j ∷ l)) × (p k ≡ true)
  unfolding select
  kept_in p k j l true e ih h = go (rw e at h)
    where
      go : (k ≡ j) ⊎ (k ∈ select p l) → (k ∈ (j ∷ l)) × (p k ≡ true)
      go (inl i) = (inl i, ap p i ∙ e)
      go (inr i) = (inr (ih i).0, (ih i).1)
  kept_in p k j l false e ih h = let i = ih (rw e at h) in (inr i.0, i.1)

  pub select_in : (p : K → Bool) (k : K) (l : List K) → k ∈ select p l → (k ∈ l) × (p k ≡ true)
  unfolding select
  select_in p k [] h = absurd h
  select_in p k (j ∷ l) h = kept_in p k j l (p j) refl (select_in p k l) h

  pub to_select : (p : K → Bool) (k : K) (l : List K) → k ∈ l → p k ≡ true → k ∈ select p l
  unfolding select
  to_select p k [] h t = absurd h
  to_select p k (j ∷ l) (inl e) t = let u : p j ≡ true = sym (ap p e) ∙ t in rw u (inl e)
  to_select p k (j ∷ l) (inr h) t =
      elim (p j) as (λ u. k ∈ cond u (j ∷ select p l) (select p l)) [ true ↦ inr (to_select p k l h t) | false ↦ to_select p k l h t ]

  pub nodup_select : (p : K → Bool) (l : List K) → NoDup l → NoDup (select p l)
  unfolding select
  nodup_select p [] h = tt
  nodup_select p (j ∷ l) h =
      elim (p j) as (λ u. NoDup (cond u (j ∷ select p l) (select p l)))
      [ true ↦ ((λ i. h.0 (select_in p j l i).0), nodup_select p l h.1) | false ↦ nodup_select p l h.1 ]

  pub length_select : (p : K → Bool) (l : List K) → length (select p l) + length (select (λ k. not (p k)) l) ≡ length l
  unfolding select
  length_select p [] = refl
  length_select p (j ∷ l) =
      let rest : List K = select (λ k. not (p k)) l in
      elim (p j) as (λ u. length (cond u (j ∷ select p l) (select p l)) + length (cond (not u) (j ∷ rest) rest) ≡ suc (length l))
      [ true ↦ omega (arith, length_select p l) | false ↦ omega (arith, length_select p l) ]

  -- ---- counting

  -- m without the j that stands in it
  without : (j : K) (m : List K) → j ∈ m → List K
  without j [] h = absurd h
  without j (x ∷ m) (inl e) = m
  without j (x ∷ m) (inr h) = x ∷ without j m h

  module _ (f : K → ℕ) where
    sum_without : (j : K) (m : List K) (h : j ∈ m) → f j + sum_of f (without j m h) ≡ sum_of f m
    unfolding without
    sum_without j [] h = absurd h
    sum_without j (x ∷ m) (inl e) = rw e
    sum_without j (x ∷ m) (inr h) = omega (arith, sum_without j m h)

  in_without : (j : K) (m : List K) (h : j ∈ m) (k : K) → k ∈ m → (k ≡ j → ⊥) → k ∈ without j m h
  unfolding without
  in_without j [] h k i d = absurd h
  in_without j (x ∷ m) (inl e) k (inl f) d = absurd (d (f ∙ sym e))
  in_without j (x ∷ m) (inl e) k (inr i) d = i
  in_without j (x ∷ m) (inr h) k (inl f) d = inl f
  in_without j (x ∷ m) (inr h) k (inr i) d = inr (in_without j m h k i d)

  module _ (f : K → ℕ) where
    sum_le : (l m : List K) → NoDup l → ((k : K) → k ∈ l → k ∈ m) → sum_of f l ≤ sum_of f m
    sum_le [] m n g = omega arith
    sum_le (j ∷ l) m n g =
        let h : j ∈ m = g j (inl refl) in
        let rest : (k : K) → k ∈ l → k ∈ without j m h = λ k i. in_without j m h k (g k (inr i)) (λ e. n.0 (subst (λ (x : K). x ∈ l) e i)) in
        omega (arith, sum_le l (without j m h) n.1 rest, sum_without f j m h)

    -- without repeats, the same elements give the same sum
    pub sum_same : (l m : List K) → NoDup l → NoDup m → Same l m → sum_of f l ≡ sum_of f m
    sum_same l m p q s = omega (arith, sum_le l m p (λ k. (s k).0), sum_le m l q (λ k. (s k).1))

  length_sum : (l : List K) → length l ≡ sum_of (λ k. 1) l
  length_sum [] = refl
  length_sum (k ∷ l) = omega (arith, length_sum l)

  -- and are as many
  pub length_same : (l m : List K) → NoDup l → NoDup m → Same l m → length l ≡ length m
  length_same l m p q s = length_sum l ∙ sum_same (λ k. 1) l m p q s ∙ sym (length_sum m)
