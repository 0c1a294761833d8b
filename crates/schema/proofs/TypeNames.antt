-- The type name of a namespace's actions, compared part by part. Assumes nothing.
use mathlib.Core.Path.{◌≡◌, refl, sym, ap, ◌∙◌}
use mathlib.Core.Bool.{Bool, true, false, ◌&&◌, and-false, false≢true}
use mathlib.Core.List.{List, [], ◌∷◌, ◌++◌, append_assoc}
use Prim.Native.Nat.{ℕ, zero, suc, ◌+◌, ◌-◌, ◌≤◌, ◌<◌}
use native.Mathlib.Omega.{arith}
use lib.ListN.{length, get_or, take, drop, length-drop}
use lib.Dec.{eqb}
use lib.Seq.{take_all, drop-drop, length-take-le}
use borrow.Author.Rules.{rules}
use Rattle.names.specs.Fields.{got, string_of}
use Rattle.names.specs.Names.{same, path_name, joined}
use Rattle.names.specs.Text.{text}
use Rattle.names.specs.Read.{word_at, row, is_row, row_in, Found}
use Rattle.names.specs.Laws.Readers.{accept, has_value}
use Rattle.names.specs.Laws.Rows.{Remaining, remaining_over, StringsLeft, strings_left, opens, row_empty, string_class}
use Rattle.schema.specs.Find.{action_type}
use Rattle.schema.specs.Places.{goes_on, place_of}
use Rattle.std.specs.Prelude.{Some, None}

-- a string against two parts one after another
same_append : (t a b : List ℕ) → length a ≤ length t → same t (a ++ b) ≡ (same (take (length a) t) a && same (drop (length a) t) b)
unfolding same
same_append t [] b h = refl
same_append [] (x ∷ a) b h = absurd (omega arith)
same_append (y ∷ t) (x ∷ a) b h = go (eqb y x) (same_append t a b (omega arith))
  where
    go : (e : Bool) → same t (a ++ b) ≡ (same (take (length a) t) a && same (drop (length a) t) b) → (e && same t (a ++ b)) ≡ ((e && same (take (length a) t) a) && same (drop (length a) t) b)
    go true i = i
    go false i = refl

same_short : (t a b : List ℕ) → length t < length a → same t (a ++ b) ≡ false
unfolding same
same_short t [] b h = absurd (omega arith)
same_short [] (x ∷ a) b h = refl
same_short (y ∷ t) (x ∷ a) b h = go (eqb y x) (same_short t a b (omega arith))
  where
    go : (e : Bool) → same t (a ++ b) ≡ false → (e && same t (a ++ b)) ≡ false
    go true i = i
    go false i = refl

colons : List ℕ
colons = 58 ∷ 58 ∷ []

-- Each exit of `past_part`.
module _ (t w : List ℕ) (from : ℕ) (inside : from ≤ length t) where
  left_length : length (drop from t) ≡ length t - from
  left_length = simp length-drop

  pub part_short : length t - from < length w → (rest : List ℕ) → false ≡ same (drop from t) (w ++ (58 ∷ 58 ∷ rest))
  part_short h rest = let e = left_length in sym (same_short (drop from t) w (58 ∷ 58 ∷ rest) (omega arith))

  module _ (h : length w ≤ length t - from) where
    parted : (rest : List ℕ) → same (drop from t) (w ++ (58 ∷ 58 ∷ rest)) ≡ (same (take (length w) (drop from t)) w && same (drop (from + length w) t) (58 ∷ 58 ∷ rest))
    parted rest =
        let e = left_length in
        same_append (drop from t) w (58 ∷ 58 ∷ rest) (omega arith) ∙ rw drop-drop

    middle_length : length (drop (from + length w) t) ≡ length t - (from + length w)
    middle_length = simp length-drop

    pub part_ends : length t - (from + length w) < 2 → (rest : List ℕ) → false ≡ same (drop from t) (w ++ (58 ∷ 58 ∷ rest))
    unfolding colons
    part_ends k rest = let e = middle_length in sym (parted rest ∙ rw (same_short (drop (from + length w) t) colons rest (omega arith), and-false))

    module _ (k : 2 ≤ length t - (from + length w)) where
      middle : (rest : List ℕ) → same (drop (from + length w) t) (58 ∷ 58 ∷ rest) ≡ (same (take 2 (drop (from + length w) t)) (58 ∷ 58 ∷ []) && same (drop (from + length w + 2) t) rest)
      unfolding colons
      middle rest = let e = middle_length in same_append (drop (from + length w) t) colons rest (omega arith) ∙ rw drop-drop

      part_size : from + length w + 2 - (from + length w) ≡ 2
      part_size = omega arith

      front_size : from + length w - from ≡ length w
      front_size = omega arith

      module _ (b : Bool) (is_b : b ≡ same (take (from + length w + 2 - (from + length w)) (drop (from + length w) t)) (58 ∷ 58 ∷ [])) where
        at_colons : same (take 2 (drop (from + length w) t)) (58 ∷ 58 ∷ []) ≡ b
        at_colons = sym (rw part_size at is_b)

        pub part_open : b ≡ false → (rest : List ℕ) → false ≡ same (drop from t) (w ++ (58 ∷ 58 ∷ rest))
        part_open e rest = sym (parted rest ∙ rw (middle rest, at_colons, e, and-false))

        module _ (e : b ≡ true) (d : Bool) (is_d : d ≡ same (take (from + length w - from) (drop from t)) w) where
          at_front : same (take (length w) (drop from t)) w ≡ d
          at_front = sym (rw front_size at is_d)

          pub part_other : d ≡ false → (rest : List ℕ) → false ≡ same (drop from t) (w ++ (58 ∷ 58 ∷ rest))
          part_other f rest = sym (parted rest ∙ rw (at_front, f))

          pub part_there : d ≡ true → (rest : List ℕ) → same (drop (from + length w + 2) t) rest ≡ same (drop from t) (w ++ (58 ∷ 58 ∷ rest))
          part_there f rest = sym (parted rest ∙ rw (at_front, f, middle rest, at_colons, e))

pub ruleset parts = (rules, part_short, part_ends, part_open, part_other, part_there, length-take-le)

-- what is left, against `Action`
pub action_left : (t : List ℕ) (from : ℕ) (r : Bool) → r ≡ same (take (length t - from) (drop from t)) (65 ∷ 99 ∷ 116 ∷ 105 ∷ 111 ∷ 110 ∷ []) → r ≡ same (drop from t) (text "Action")
unfolding text
action_left t from r e = let l : length (drop from t) ≡ length t - from = simp length-drop in e ∙ ap (λ (w : List ℕ). same w (65 ∷ 99 ∷ 116 ∷ 105 ∷ 111 ∷ 110 ∷ [])) (take_all (length t - from) (drop from t) (omega arith))

pub ruleset lefts = (rules, action_left, length-take-le)

-- A namespace that is given whole.
namespaced : (ns : List ℕ) → (length ns ≡ 0 → ⊥) → action_type ns ≡ ns ++ (58 ∷ 58 ∷ text "Action")
unfolding action_type text
namespaced [] h = absurd (h refl)
namespaced (b ∷ w) h = refl

module _ (t ns : List ℕ) where
  pub global_type : length ns ≡ 0 → (r : Bool) → r ≡ same (drop 0 t) (text "Action") → r ≡ same t (action_type ns)
  unfolding action_type
  global_type e r is = go ns e
    where
      go : (ns : List ℕ) → length ns ≡ 0 → r ≡ same t (action_type ns)
      go [] e = is
      go (x ∷ w) e = absurd (omega arith)

  module _ (n : length ns ≡ 0 → ⊥) (x : Found) (goes : (rest : List ℕ) → goes_on t rest x ≡ same (drop 0 t) (ns ++ (58 ∷ 58 ∷ rest))) where
    by_part : goes_on t (text "Action") x ≡ same t (action_type ns)
    by_part = goes (text "Action") ∙ ap (same t) (sym (namespaced ns n))

    pub other_namespace : x ≡ None → false ≡ same t (action_type ns)
    other_namespace e = rw e at by_part

    pub in_namespace : (p : ℕ) → x ≡ Some p → (r : Bool) → r ≡ same (drop p t) (text "Action") → r ≡ same t (action_type ns)
    in_namespace p e r is = is ∙ rw e at by_part

pub past_inside : (t : List ℕ) (x : Found) (p : ℕ) → place_of x ≤ length t → x ≡ Some p → p ≤ length t
past_inside t x p h e = rw e at h

pub ruleset type_names = (rules, global_type, other_namespace, in_namespace, past_inside)

-- The type name of a namespace's actions by the namespace's parts.
unfoldable pub typed_by : List (List ℕ) → List ℕ
typed_by [] = text "Action"
typed_by (w ∷ rest) = w ++ (58 ∷ 58 ∷ typed_by rest)

joined_typed : (w : List ℕ) (rest : List (List ℕ)) → joined (w ∷ rest) ++ text "::Action" ≡ typed_by (w ∷ rest)
unfolding joined typed_by text
joined_typed w [] = refl
joined_typed w (v ∷ rest) = append_assoc w (58 ∷ 58 ∷ joined (v ∷ rest)) (text "::Action") ∙ ap (λ (l : List ℕ). w ++ (58 ∷ 58 ∷ l)) (joined_typed v rest)

-- no part is empty, so the parts joined are not
typed_first : (w : List ℕ) (rest : List (List ℕ)) → path_name w ≡ true → action_type (joined (w ∷ rest)) ≡ typed_by (w ∷ rest)
unfolding joined action_type path_name
typed_first [] rest h = absurd (false≢true h)
typed_first (b ∷ w) [] h = joined_typed (b ∷ w) []
typed_first (b ∷ w) (v ∷ rest) h = joined_typed (b ∷ w) (v ∷ rest)

typed_row : (c : List ℕ) (n at : ℕ) {list : List (List ℕ)} {end : ℕ} → row (string_of path_name) n c at ≡ got list end → action_type (joined list) ≡ typed_by list
unfolding joined action_type typed_by
typed_row c zero at e = rw (row_empty (string_of path_name) c 0 at (omega arith) e)
typed_row c (suc n) at e =
    let o = opens (string_of path_name) c (suc n) at (omega arith) e in
    rw o.all (typed_first o.own o.others (string_class path_name c at o.here))

-- what is left of the parts, against what is left of the type name
abbrev pub PartsLeft : List ℕ → List ℕ → Bool → ℕ → ℕ → ℕ → Type 0
PartsLeft t c o n at from = Remaining (string_of path_name) c (λ list. same (drop from t) (typed_by list)) o n at

pub parts_start : (t c : List ℕ) (n at : ℕ) → is_row (string_of path_name) c n at ≡ true → PartsLeft t c (same t (action_type (joined (row_in (string_of path_name) c n at)))) (n - 0) at 0
parts_start t c n at is =
    let a = accept _ is in
    let e : action_type (joined (row_in (string_of path_name) c n at)) ≡ typed_by (row_in (string_of path_name) c n at) = rw (has_value [] a.read) (typed_row c n at a.read) in
    let all : n - 0 ≡ n = omega arith in
    rw all (record { left = row_in (string_of path_name) c n at; there = record { stands = is; value = refl }; same = ap (same t) (sym e) })

module _ (t c : List ℕ) (o : Bool) (end i at from : ℕ) where
  pub parts_over : end ≤ i → PartsLeft t c o (end - i) at from → (r : Bool) → r ≡ same (drop from t) (text "Action") → r ≡ o
  unfolding typed_by
  parts_over h l r e = e ∙ remaining_over (string_of path_name) c (λ list. same (drop from t) (typed_by list)) o (end - i) at (omega arith) l

  module _ (h : i < end) (l : PartsLeft t c o (end - i) at from) where
    opened : StringsLeft path_name c (λ list. same (drop from t) (typed_by list)) o (end - i) at
    opened = strings_left path_name c (λ list. same (drop from t) (typed_by list)) o (end - i) at (omega arith) l

    pub parts_inside : at + 1 + get_or c at 0 ≤ length c
    parts_inside = opened.inside

    module _ (w : List ℕ) (is_w : w ≡ word_at c at) (x : Found) (goes : (rest : List ℕ) → goes_on t rest x ≡ same (drop from t) (w ++ (58 ∷ 58 ∷ rest))) where
      by_first : (others : List (List ℕ)) → same (drop from t) (typed_by (word_at c at ∷ others)) ≡ o → goes_on t (typed_by others) x ≡ o
      unfolding typed_by
      by_first others e = goes (typed_by others) ∙ rw is_w e

      pub parts_absent : x ≡ None → false ≡ o
      parts_absent e = rw e at (by_first opened.others opened.same)

      pub parts_on : (p : ℕ) → x ≡ Some p → (m : ℕ) → m ≡ at + 1 + get_or c at 0 → PartsLeft t c o (end - (i + 1)) m p
      parts_on p e m q =
          let left : end - (i + 1) ≡ (end - i) - 1 = omega arith in
          rw left (record { left = opened.others; there = rw q opened.there; same = rw e at (by_first opened.others opened.same) })

pub ruleset parts_left = (rules, parts_start, parts_over, parts_inside, parts_absent, parts_on, past_inside)
