-- What is read by a table, by its choice byte. Assumes nothing.
use Rattle.std.specs.Prelude.{◌≡◌, refl, Bool, true, false, List, ℕ, ◌+◌, leb}
use Rattle.std.proofs.Common.{arith, leb-true, leb-false}
use Rattle.names.specs.Fields.{got, bad, Reader, choose}
use Rattle.names.specs.Laws.Readers.{Each, each_below, choose_beyond, keys_up_to}
use Rattle.names.specs.declared.refusal.Refusal.{Refusal}

-- what is known of a table's choice, by what each of its keys says
pub by_kind : {A : Type 0} (s : List ℕ) (at bound : ℕ) (table : List (ℕ × Reader A)) {a : A} {n : ℕ} → keys_up_to bound table ≡ true → (P : ℕ → Type 0) → Each (λ k. choose k table s at ≡ got a n → P k) (bound + 1) → (k : ℕ) → choose k table s at ≡ got a n → P k
by_kind s at bound table {a} {n} keys P all k e = go (leb k bound) refl
  where
    go : (b : Bool) → leb k bound ≡ b → P k
    go true h = let l = leb-true k bound h in each_below (λ k. choose k table s at ≡ got a n → P k) (bound + 1) all k (omega arith) e
    go false h = let i = choose_beyond s at bound k (leb-false k bound h) table keys in let z : ◌≡◌ {A = ℕ} 0 1 = cc in absurd (omega arith)

-- a refusal gives no value
pub no_value : {A : Type 0} {P : Type 0} {a : A} {n : ℕ} {r : Refusal} → bad r ≡ got a n → P
no_value e = let z : ◌≡◌ {A = ℕ} 0 1 = cc in absurd (omega arith)
