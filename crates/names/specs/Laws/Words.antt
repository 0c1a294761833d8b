-- Eight bytes as one word. Assumes nothing.
--     word_of          the shifts and `|` of eight bytes are their big-endian number
--     word_of_library  and so is what the library's `from_be_bytes` makes of them
--     word-order       two words are equal, or one below the other, exactly as their bytes are in order
--     words-less, words_more, words_cmp, words-equal   what a turn of a comparison learns from two words
--     words_same, words-differ              and what one of a test of equality
use Rattle.std.specs.Prelude.{◌≡◌, refl, false, cond, List, [], ◌∷◌, ◌++◌, ℕ, ◌+◌, ◌*◌, ◌%◌, ◌^◌, ◌<◌, ◌≤◌, length, get_or, take, drop, ltb, eqb}
use Rattle.std.proofs.Common.{sym, ap, ap₂, ◌∙◌, add-zero, add-mul, mul_assoc, lit≤, shl_lt, pow-add, le_of_lt, le_of_eq, arith, length-drop, take-append-drop, get_or-drop, drop-drop, length-take-le}
use Rattle.std.specs.Int.{w64, from_be_bytes}
use Rattle.std.specs.Int.Bits.{bit_or, or_shifted}
use Rattle.std.proofs.Math.Pow.{shl_exact}
use Rattle.std.specs.Ordering.{nat_cmp}
use borrow.Author.Tests.{lt-ltb, le-ltb}
use Rattle.names.specs.Fields.{number}
use Rattle.names.specs.Names.{same, order}
use Rattle.names.specs.Laws.Names.{order_less, order_more, order_equal, same_order, cmp_less, cmp_more, Three, three, less, equal, more}
use Rattle.names.specs.Order.{order_number}

-- each is a byte
unfoldable pub Bytes : List ℕ → Type 0
Bytes [] = Unit {0}
Bytes (b ∷ bs) = (b < 256) × Bytes bs

-- the number of the eight bytes from a place on
pub record WordAt (s : List ℕ) (at r : ℕ) : Type 0 where
  pub is : r ≡ number 0 (take 8 (drop at s))
  pub bytes : Bytes (take 8 (drop at s))

-- the order of two strings by the words in front of them, and where these are equal by what follows
unfoldable pub by_word : ℕ → ℕ → ℕ → ℕ
by_word x y rest = cond (ltb x y) 0 (cond (ltb y x) 2 rest)

module _ (x y rest : ℕ) where
  by_less : x < y → by_word x y rest ≡ 0
  unfolding by_word
  by_less h = rw (lt-ltb x y h)

  by_more : y < x → by_word x y rest ≡ 2
  unfolding by_word
  by_more h = rw (le-ltb x y (le_of_lt h), lt-ltb y x h)

  by_equal : x ≡ y → by_word x y rest ≡ rest
  unfolding by_word
  by_equal e = rw (le-ltb x y (le_of_eq (sym e)), le-ltb y x (le_of_eq e))

-- what stands higher decides
higher : (p q : ℕ) (xs ys : List ℕ) → length xs ≡ length ys → Bytes xs → Bytes ys → p < q → number p xs < number q ys
unfolding number Bytes
higher p q [] [] l b c h = h
higher p q [] (y ∷ ys) l b c h = absurd (omega arith)
higher p q (x ∷ xs) [] l b c h = absurd (omega arith)
higher p q (x ∷ xs) (y ∷ ys) l b c h = higher (p * 256 + x) (q * 256 + y) xs ys (omega arith) b.1 c.1 (omega (arith, b.0))

-- two lists of as many bytes behind the same number, and what follows them
word_behind : (p : ℕ) (xs ys : List ℕ) → length xs ≡ length ys → Bytes xs → Bytes ys → (a b : List ℕ) → order (xs ++ a) (ys ++ b) ≡ by_word (number p xs) (number p ys) (order a b)
unfolding number Bytes
word_behind p [] [] l b c s t = sym (by_equal p p (order s t) refl)
word_behind p [] (y ∷ ys) l b c s t = absurd (omega arith)
word_behind p (x ∷ xs) [] l b c s t = absurd (omega arith)
word_behind p (x ∷ xs) (y ∷ ys) l b c s t = go (three x y) (word_behind (p * 256 + x) xs ys (omega arith) b.1 c.1 s t)
  where
    go : Three x y → order (xs ++ s) (ys ++ t) ≡ by_word (number (p * 256 + x) xs) (number (p * 256 + x) ys) (order s t)
        → order (x ∷ (xs ++ s)) (y ∷ (ys ++ t)) ≡ by_word (number (p * 256 + x) xs) (number (p * 256 + y) ys) (order s t)
    go (less k) rest = order_less x y (xs ++ s) (ys ++ t) k ∙ sym (by_less (number (p * 256 + x) xs) (number (p * 256 + y) ys) (order s t) (higher (p * 256 + x) (p * 256 + y) xs ys (omega arith) b.1 c.1 (omega arith)))
    go (equal e) rest = order_equal x y (xs ++ s) (ys ++ t) e ∙ rest ∙ ap (λ (n : ℕ). by_word (number (p * 256 + x) xs) (number (p * 256 + n) ys) (order s t)) e
    go (more k) rest = order_more x y (xs ++ s) (ys ++ t) k ∙ sym (by_more (number (p * 256 + x) xs) (number (p * 256 + y) ys) (order s t) (higher (p * 256 + y) (p * 256 + x) ys xs (omega arith) c.1 b.1 (omega arith)))

-- The law: two words are equal, or one below the other, exactly as their bytes are in order.
pub word_order : (xs ys a b : List ℕ) → length xs ≡ length ys → Bytes xs → Bytes ys → order (xs ++ a) (ys ++ b) ≡ by_word (number 0 xs) (number 0 ys) (order a b)
word_order xs ys a b l p q = word_behind 0 xs ys l p q a b

-- a byte that a shift puts behind a number which ends at its left
pub or_byte : (n b k : ℕ) → b < 256 → bit_or (n * 2 ^ (8 + k)) (b * 2 ^ k) ≡ (n * 256 + b) * 2 ^ k
or_byte n b k h = or_shifted n (8 + k) (b * 2 ^ k) (shl_lt 8 k h) ∙ simp (pow-add, add-mul, mul_assoc)

-- the first eight of a list
first_eight : (t : List ℕ) → 8 ≤ length t
    → take 8 t ≡ get_or t 0 0 ∷ get_or t 1 0 ∷ get_or t 2 0 ∷ get_or t 3 0 ∷ get_or t 4 0 ∷ get_or t 5 0 ∷ get_or t 6 0 ∷ get_or t 7 0 ∷ []
first_eight [] l = absurd (omega arith)
first_eight (a ∷ []) l = absurd (omega arith)
first_eight (a ∷ b ∷ []) l = absurd (omega arith)
first_eight (a ∷ b ∷ c ∷ []) l = absurd (omega arith)
first_eight (a ∷ b ∷ c ∷ d ∷ []) l = absurd (omega arith)
first_eight (a ∷ b ∷ c ∷ d ∷ e ∷ []) l = absurd (omega arith)
first_eight (a ∷ b ∷ c ∷ d ∷ e ∷ f ∷ []) l = absurd (omega arith)
first_eight (a ∷ b ∷ c ∷ d ∷ e ∷ f ∷ g ∷ []) l = absurd (omega arith)
first_eight (a ∷ b ∷ c ∷ d ∷ e ∷ f ∷ g ∷ h ∷ t) l = refl

-- the shifts and `|` of eight bytes
module _ (a b c d e f g h : ℕ) (p : a < 256) (q : b < 256) (r : c < 256) (s : d < 256) (t : e < 256) (u : f < 256) (v : g < 256) (w : h < 256) where
  of_bytes : bit_or (bit_or (bit_or (bit_or (bit_or (bit_or (bit_or ((a * 2 ^ 56) % 2 ^ 64) ((b * 2 ^ 48) % 2 ^ 64)) ((c * 2 ^ 40) % 2 ^ 64)) ((d * 2 ^ 32) % 2 ^ 64)) ((e * 2 ^ 24) % 2 ^ 64)) ((f * 2 ^ 16) % 2 ^ 64)) ((g * 2 ^ 8) % 2 ^ 64)) h ≡ number 0 (a ∷ b ∷ c ∷ d ∷ e ∷ f ∷ g ∷ h ∷ [])
  unfolding number
  of_bytes =
      rw (
        shl_exact {a = a} 8 56 64 p (lit≤ tt),
        shl_exact {a = b} 8 48 64 q (lit≤ tt),
        shl_exact {a = c} 8 40 64 r (lit≤ tt),
        shl_exact {a = d} 8 32 64 s (lit≤ tt),
        shl_exact {a = e} 8 24 64 t (lit≤ tt),
        shl_exact {a = f} 8 16 64 u (lit≤ tt),
        shl_exact {a = g} 8 8 64 v (lit≤ tt),
        or_byte a b 48 q,
        or_byte (a * 256 + b) c 40 r,
        or_byte ((a * 256 + b) * 256 + c) d 32 s,
        or_byte (((a * 256 + b) * 256 + c) * 256 + d) e 24 t,
        or_byte ((((a * 256 + b) * 256 + c) * 256 + d) * 256 + e) f 16 u,
        or_byte (((((a * 256 + b) * 256 + c) * 256 + d) * 256 + e) * 256 + f) g 8 v,
        or_shifted ((((((a * 256 + b) * 256 + c) * 256 + d) * 256 + e) * 256 + f) * 256 + g) 8 h w,
      ) (omega arith)

pub word_of : (s : List ℕ) (at a b c d e f g h : ℕ) → at + 8 ≤ length s
    → (a ≡ get_or s at 0) × (a < 256) → (b ≡ get_or s (at + 1) 0) × (b < 256) → (c ≡ get_or s (at + 2) 0) × (c < 256) → (d ≡ get_or s (at + 3) 0) × (d < 256) → (e ≡ get_or s (at + 4) 0) × (e < 256) → (f ≡ get_or s (at + 5) 0) × (f < 256) → (g ≡ get_or s (at + 6) 0) × (g < 256) → (h ≡ get_or s (at + 7) 0) × (h < 256)
    → WordAt s at (bit_or (bit_or (bit_or (bit_or (bit_or (bit_or (bit_or ((a * 2 ^ 56) % 2 ^ 64) ((b * 2 ^ 48) % 2 ^ 64)) ((c * 2 ^ 40) % 2 ^ 64)) ((d * 2 ^ 32) % 2 ^ 64)) ((e * 2 ^ 24) % 2 ^ 64)) ((f * 2 ^ 16) % 2 ^ 64)) ((g * 2 ^ 8) % 2 ^ 64)) h)
unfolding Bytes
word_of s at a b c d e f g h l p q r t u v w x =
    let eight : take 8 (drop at s) ≡ a ∷ b ∷ c ∷ d ∷ e ∷ f ∷ g ∷ h ∷ [] = first_eight (drop at s) (simp length-drop (omega arith)) ∙ simp (get_or-drop, add-zero) (cc) in
    record {
      is = of_bytes a b c d e f g h p.1 q.1 r.1 t.1 u.1 v.1 w.1 x.1 ∙ ap (number 0) (sym eight);
      bytes = rw eight (p.1, (q.1, (r.1, (t.1, (u.1, (v.1, (w.1, (x.1, tt))))))));
    }

-- what the library makes of the eight bytes from a place on
pub word_of_library : (s : List ℕ) (at r : ℕ) → at + 8 ≤ length s → ((i : ℕ) → get_or s i 0 < 256)
    → r ≡ from_be_bytes w64 (get_or s at 0 ∷ get_or s (at + 1) 0 ∷ get_or s (at + 2) 0 ∷ get_or s (at + 3) 0 ∷ get_or s (at + 4) 0 ∷ get_or s (at + 5) 0 ∷ get_or s (at + 6) 0 ∷ get_or s (at + 7) 0 ∷ [])
    → WordAt s at r
unfolding Bytes number
word_of_library s at r l small is =
    let eight : take 8 (drop at s) ≡ get_or s at 0 ∷ get_or s (at + 1) 0 ∷ get_or s (at + 2) 0 ∷ get_or s (at + 3) 0 ∷ get_or s (at + 4) 0 ∷ get_or s (at + 5) 0 ∷ get_or s (at + 6) 0 ∷ get_or s (at + 7) 0 ∷ [] =
    first_eight (drop at s) (simp length-drop (omega arith)) ∙ simp (get_or-drop, add-zero) (refl) in
    record {
      is = rw eight (omega arith);
      bytes = rw eight (small at, (small (at + 1), (small (at + 2), (small (at + 3), (small (at + 4), (small (at + 5), (small (at + 6), (small (at + 7), tt))))))));
    }

-- the eight bytes of two strings from a place on, and what follows them
module _ (a b : List ℕ) (i x y : ℕ) (h : i + 8 ≤ length a) (k : i + 8 ≤ length b) (p : WordAt a i x) (q : WordAt b i y) where
  parted : (s : List ℕ) → drop i s ≡ take 8 (drop i s) ++ drop (i + 8) s
  parted s = sym (take-append-drop 8 (drop i s)) ∙ ap (λ l. take 8 (drop i s) ++ l) (drop-drop 8 i s)

  as_long : length (take 8 (drop i a)) ≡ length (take 8 (drop i b))
  as_long = length-take-le 8 (drop i a) (simp length-drop (omega arith)) ∙ sym (length-take-le 8 (drop i b) (simp length-drop (omega arith)))

  by_words : order (drop i a) (drop i b) ≡ by_word x y (order (drop (i + 8) a) (drop (i + 8) b))
  by_words =
      rw (p.is, q.is)
      (ap₂ order (parted a) (parted b)
      ∙ word_order (take 8 (drop i a)) (take 8 (drop i b)) (drop (i + 8) a) (drop (i + 8) b) as_long p.bytes q.bytes)

  pub words_less : x < y → 0 ≡ order (drop i a) (drop i b)
  words_less l = sym (by_words ∙ by_less x y (order (drop (i + 8) a) (drop (i + 8) b)) l)

  pub words_more : y < x → 2 ≡ order (drop i a) (drop i b)
  words_more l = sym (by_words ∙ by_more x y (order (drop (i + 8) a) (drop (i + 8) b)) l)

  pub words_cmp : (x ≡ y → ⊥) → order_number (nat_cmp x y) ≡ order (drop i a) (drop i b)
  words_cmp n = go (three x y)
    where
      go : Three x y → order_number (nat_cmp x y) ≡ order (drop i a) (drop i b)
      go (less l) = cmp_less x y l ∙ words_less l
      go (equal e) = absurd (n e)
      go (more l) = cmp_more x y l ∙ words_more l

  pub words_equal : x ≡ y → order (drop (i + 8) a) (drop (i + 8) b) ≡ order (drop i a) (drop i b)
  words_equal e = sym (by_words ∙ by_equal x y (order (drop (i + 8) a) (drop (i + 8) b)) e)

  pub words_same : x ≡ y → same (drop (i + 8) a) (drop (i + 8) b) ≡ same (drop i a) (drop i b)
  words_same e = same_order (drop (i + 8) a) (drop (i + 8) b) ∙ ap (λ (n : ℕ). eqb n 1) (words_equal e) ∙ sym (same_order (drop i a) (drop i b))

  pub words_differ : (x ≡ y → ⊥) → false ≡ same (drop i a) (drop i b)
  words_differ n = go (three x y) ∙ sym (same_order (drop i a) (drop i b))
    where
      go : Three x y → false ≡ eqb (order (drop i a) (drop i b)) 1
      go (less l) = ap (λ (o : ℕ). eqb o 1) (words_less l)
      go (equal e) = absurd (n e)
      go (more l) = ap (λ (o : ℕ). eqb o 1) (words_more l)
