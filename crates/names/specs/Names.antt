-- Names: the classes of strings, the simple name, and the bytewise order.
use Rattle.std.specs.Prelude.{ℕ, Bool, true, false, cond, ◌&&◌, ◌||◌, not, List, [], ◌∷◌, ◌++◌, ltb, leb, eqb}
use Rattle.names.specs.Lists.{every}

abbrev pub between : ℕ → ℕ → ℕ → Bool
between lo hi b = leb lo b && leb b hi

-- a letter or `_`, as an identifier begins
unfoldable pub letter : ℕ → Bool
letter b = between 65 90 b || between 97 122 b || eqb b 95

unfoldable pub letter_or_digit : ℕ → Bool
letter_or_digit b = letter b || between 48 57 b

unfoldable pub identifier : List ℕ → Bool
identifier [] = false
identifier (b ∷ w) = letter b && every letter_or_digit w

-- identifiers joined by `::`
unfoldable mutual
  pub path_name : List ℕ → Bool
  path_name [] = false
  path_name (b ∷ w) = letter b && path_tail w

  -- inside an identifier
  pub path_tail : List ℕ → Bool
  path_tail [] = true
  path_tail (b ∷ w) = (letter_or_digit b && path_tail w) || (eqb b 58 && second_colon w)

  pub second_colon : List ℕ → Bool
  second_colon [] = false
  second_colon (b ∷ w) = eqb b 58 && path_name w

-- a path name, or empty
unfoldable pub path_or_none : List ℕ → Bool
path_or_none [] = true
path_or_none (b ∷ w) = path_name (b ∷ w)

-- 0x20 to 0x7E except `"`, `'` and `\`
unfoldable pub plain_byte : ℕ → Bool
plain_byte b = between 32 126 b && not (eqb b 34) && not (eqb b 39) && not (eqb b 92)

unfoldable pub plain : List ℕ → Bool
plain = every plain_byte

unfoldable pub same : List ℕ → List ℕ → Bool
same [] [] = true
same [] (y ∷ ys) = false
same (x ∷ xs) [] = false
same (x ∷ xs) (y ∷ ys) = eqb x y && same xs ys

-- bytewise, a prefix first
unfoldable pub below : List ℕ → List ℕ → Bool
below xs [] = false
below [] (y ∷ ys) = true
below (x ∷ xs) (y ∷ ys) = ltb x y || (eqb x y && below xs ys)

-- the order of two strings in numbers: 0 the first is below, 1 they are the same, 2 the first is above
unfoldable pub order : List ℕ → List ℕ → ℕ
order xs ys = cond (below xs ys) 0 (cond (same xs ys) 1 2)

-- the part after the last `::`: `whole` is what follows the last one so far
unfoldable pub simple_from : List ℕ → List ℕ → List ℕ
simple_from whole [] = whole
simple_from whole (b ∷ []) = whole
simple_from whole (b ∷ (c ∷ w)) = simple_from (cond (eqb b 58 && eqb c 58) w whole) (c ∷ w)

unfoldable pub simple_name : List ℕ → List ℕ
simple_name w = simple_from w w

-- joined by `::`
unfoldable pub joined : List (List ℕ) → List ℕ
joined [] = []
joined (w ∷ []) = w
joined (w ∷ (v ∷ rest)) = w ++ (58 ∷ 58 ∷ joined (v ∷ rest))

unfoldable pub last_of : List (List ℕ) → List ℕ
last_of [] = []
last_of (w ∷ []) = w
last_of (w ∷ (v ∷ rest)) = last_of (v ∷ rest)
