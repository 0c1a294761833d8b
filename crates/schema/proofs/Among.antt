-- A name looked for among the names of a row. Assumes nothing.
use mathlib.Core.Path.{◌≡◌, ap, ◌∙◌}
use mathlib.Core.Bool.{Bool, true, false, ◌||◌}
use mathlib.Core.List.{List, ◌∷◌}
use Prim.Native.Nat.{ℕ, ◌+◌, ◌-◌, ◌≤◌, ◌<◌}
use native.Mathlib.Omega.{arith}
use lib.ListN.{length, get_or}
use borrow.Author.Rules.{rules}
use Rattle.names.specs.Fields.{string_of}
use Rattle.names.specs.Lists.{any_of}
use Rattle.names.specs.Names.{same, path_name}
use Rattle.names.specs.Read.{word_at, is_row, row_in, Listed}
use Rattle.names.specs.Laws.Rows.{Remaining, remaining_all, remaining_over, StringsLeft, strings_left}

abbrev is_among : List ℕ → List (List ℕ) → Bool
is_among name list = any_of (λ a. same a name) list

-- what is left of the row
abbrev pub Among : List ℕ → List ℕ → Bool → ℕ → ℕ → Type 0
Among s name o n at = Remaining (string_of path_name) s (is_among name) o n at

pub among_start : (s name : List ℕ) (n at : ℕ) → is_row (string_of path_name) s n at ≡ true → Among s name (any_of (λ a. same a name) (row_in (string_of path_name) s n at)) (n - 0) at
among_start s name n at is = let all : n - 0 ≡ n = omega arith in rw all (remaining_all (string_of path_name) s (is_among name) n at is)

module _ (s name : List ℕ) (o : Bool) (end i at : ℕ) where
  pub among_over : end ≤ i → Among s name o (end - i) at → false ≡ o
  unfolding any_of
  among_over h l = remaining_over (string_of path_name) s (is_among name) o (end - i) at (omega arith) l

  module _ (h : i < end) (l : Among s name o (end - i) at) where
    opened : StringsLeft path_name s (is_among name) o (end - i) at
    opened = strings_left path_name s (is_among name) o (end - i) at (omega arith) l

    pub among_inside : at + 1 + get_or s at 0 ≤ length s
    among_inside = opened.inside

    module _ (w : List ℕ) (is_w : w ≡ word_at s at) (b : Bool) (is_b : b ≡ same w name) where
      split : (rest : List (List ℕ)) → is_among name (word_at s at ∷ rest) ≡ (b || is_among name rest)
      unfolding any_of
      split rest = rw (is_b, is_w)

      pub among_found : b ≡ true → true ≡ o
      among_found e = rw (split opened.others, e) at opened.same

      pub among_on : b ≡ false → (m : ℕ) → m ≡ at + 1 + get_or s at 0 → Among s name o (end - (i + 1)) m
      among_on e m q =
          let left : end - (i + 1) ≡ (end - i) - 1 = omega arith in
          rw left (record { left = opened.others; there = rw q opened.there; same = rw (split opened.others, e) at opened.same })

-- the names of a row, as the list that they are
pub among_list : (s : List ℕ) (test : List ℕ → Bool) (list : List (List ℕ)) (n at : ℕ) → Listed (string_of path_name) s list n at → (r : Bool) → r ≡ any_of test (row_in (string_of path_name) s n at) → r ≡ any_of test list
among_list s test list n at l r e = e ∙ ap (any_of test) l.value

pub among_stands : (s : List ℕ) (list : List (List ℕ)) (n at : ℕ) → Listed (string_of path_name) s list n at → is_row (string_of path_name) s n at ≡ true
among_stands s list n at l = l.stands

pub ruleset among = (rules, among_start, among_over, among_inside, among_found, among_on)

pub ruleset of_list = (rules, among_list, among_stands)
