-- The number of eight bytes at a place is that of std, the first of them highest, and so is that
-- of four.
use Rattle.std.proofs.Common.{◌≡◌, ℕ, ◌+◌, ◌<◌, ◌≤◌, List, [], ◌∷◌, length, take, drop, arith, le-leb, length-take, length-drop}
use Rattle.std.specs.Int.{w32, w64, from_be_bytes}
use borrow.Author.Tests.{lt-leb}
use Rattle.names.specs.Fields.{number}
use Rattle.program.specs.Program.{number_at, short_at}

big_endian : (xs : List ℕ) → length xs ≡ 8 → from_be_bytes w64 xs ≡ number 0 xs
unfolding number
big_endian [] l = absurd (omega arith)
big_endian (a ∷ []) l = absurd (omega arith)
big_endian (a ∷ b ∷ []) l = absurd (omega arith)
big_endian (a ∷ b ∷ c ∷ []) l = absurd (omega arith)
big_endian (a ∷ b ∷ c ∷ d ∷ []) l = absurd (omega arith)
big_endian (a ∷ b ∷ c ∷ d ∷ e ∷ []) l = absurd (omega arith)
big_endian (a ∷ b ∷ c ∷ d ∷ e ∷ f ∷ []) l = absurd (omega arith)
big_endian (a ∷ b ∷ c ∷ d ∷ e ∷ f ∷ g ∷ []) l = absurd (omega arith)
big_endian (a ∷ b ∷ c ∷ d ∷ e ∷ f ∷ g ∷ h ∷ []) l = omega arith
big_endian (a ∷ b ∷ c ∷ d ∷ e ∷ f ∷ g ∷ h ∷ i ∷ xs) l = absurd (omega arith)

pub there : (s xs : List ℕ) (at : ℕ) → at + 8 ≤ length s → xs ≡ take 8 (drop at s) → from_be_bytes w64 xs ≡ number_at s at
unfolding number_at
there s xs at h e = rw (le-leb (at + 8) (length s) h, e) (big_endian (take 8 (drop at s)) (omega (arith, length-take {A = ℕ}, length-drop {A = ℕ})))

pub fewer : (s : List ℕ) (at : ℕ) → length s < at + 8 → number_at s at ≡ 0
unfolding number_at
fewer s at h = rw (lt-leb (at + 8) (length s) h)

big_endian_4 : (xs : List ℕ) → length xs ≡ 4 → from_be_bytes w32 xs ≡ number 0 xs
unfolding number
big_endian_4 [] l = absurd (omega arith)
big_endian_4 (a ∷ []) l = absurd (omega arith)
big_endian_4 (a ∷ b ∷ []) l = absurd (omega arith)
big_endian_4 (a ∷ b ∷ c ∷ []) l = absurd (omega arith)
big_endian_4 (a ∷ b ∷ c ∷ d ∷ []) l = omega arith
big_endian_4 (a ∷ b ∷ c ∷ d ∷ e ∷ xs) l = absurd (omega arith)

pub there_4 : (s xs : List ℕ) (at : ℕ) → at + 4 ≤ length s → xs ≡ take 4 (drop at s)
    → from_be_bytes w32 xs ≡ short_at s at
unfolding short_at
there_4 s xs at h e =
    let n : length (take 4 (drop at s)) ≡ 4 = omega (arith, length-take {A = ℕ}, length-drop {A = ℕ}) in
    rw (le-leb (at + 4) (length s) h, e) (big_endian_4 (take 4 (drop at s)) n)

pub fewer_4 : (s : List ℕ) (at : ℕ) → length s < at + 4 → short_at s at ≡ 0
unfolding short_at
fewer_4 s at h = rw (lt-leb (at + 4) (length s) h)
