-- The namespace of a predicate: the names of its path without a last `Action`. Assumes nothing.
use mathlib.Core.Path.{◌≡◌, refl, sym, ap, ◌∙◌}
use mathlib.Core.Bool.{Bool, true, false}
use mathlib.Core.List.{List, [], ◌∷◌}
use Prim.Native.Nat.{ℕ, ◌+◌, ◌-◌, ◌≤◌, ◌<◌}
use native.Mathlib.Numerals.{sub-one}
use native.Mathlib.Omega.{arith}
use borrow.Author.Rules.{rules}
use lib.ListN.{length, get_or, take}
use Rattle.names.specs.Fields.{string_of}
use Rattle.names.specs.Names.{same, path_name, simple_name, last_of, joined}
use Rattle.names.specs.Read.{word_at, is_row, row_in, Listed, Found}
use Rattle.names.specs.Text.{text}
use Rattle.names.specs.Laws.Rows.{Remaining, remaining_all, strings_left, listed_length, listed_over, listed_front}
use Rattle.schema.specs.Find.{find_action}
use Rattle.schema.specs.Places.{schema_in, is_action, action_in, Answers}
use Rattle.names.specs.declared.Row.{Row}
use Rattle.resolution.specs.Resolution.{without_action, predicate_action}

-- ---- the last name: what is left of the names has the same last one

abbrev pub NamesLeft : List ℕ → List ℕ → ℕ → ℕ → Type 0
NamesLeft s o n at = Remaining (string_of path_name) s last_of o n at

pub names_start : (s : List ℕ) (n at : ℕ) → is_row (string_of path_name) s n at ≡ true → NamesLeft s (last_of (row_in (string_of path_name) s n at)) (n + 1 - 1) at
names_start s n at is = let all : n + 1 - 1 ≡ n = omega arith in rw all (remaining_all (string_of path_name) s last_of n at is)

last_behind : (w : List ℕ) (l : List (List ℕ)) → 0 < length l → last_of (w ∷ l) ≡ last_of l
unfolding last_of
last_behind w [] h = absurd (omega arith)
last_behind w (v ∷ rest) h = refl

last_alone : (w : List ℕ) (l : List (List ℕ)) → l ≡ [] → last_of (w ∷ l) ≡ w
unfolding last_of
last_alone w l e = ap (λ (k : List (List ℕ)). last_of (w ∷ k)) e

module _ (s o : List ℕ) (end i at : ℕ) (l : NamesLeft s o (end + 1 - i) at) where
  abbrev n : ℕ
  n = end + 1 - i

  pub name_inside : i < end → at + 1 + get_or s at 0 ≤ length s
  name_inside h = (strings_left path_name s last_of o n at (omega arith) l).inside

  pub names_turn : i < end → (m : ℕ) → m ≡ at + 1 + get_or s at 0 → NamesLeft s o (end + 1 - (i + 1)) m
  names_turn h m e =
      let v = strings_left path_name s last_of o n at (omega arith) l in
      let k : length v.others ≡ n - 1 = listed_length (string_of path_name) s v.others (n - 1) (at + 1 + get_or s at 0) v.there in
      let less : end + 1 - (i + 1) ≡ n - 1 = omega arith in
      rw less record { left = v.others; there = rw e v.there; same = sym (last_behind (word_at s at) v.others (omega arith)) ∙ v.same }

  pub name_last : i ≤ end → end ≤ i → (w : List ℕ) → w ≡ word_at s at → w ≡ o
  name_last h j w e =
      let v = strings_left path_name s last_of o n at (omega arith) l in
      let k : v.others ≡ [] = listed_over (string_of path_name) s v.others (n - 1) (at + 1 + get_or s at 0) (omega arith) v.there in
      e ∙ sym (last_alone (word_at s at) v.others k) ∙ v.same

-- ---- a last `Action` is dropped

drops : (l : List (List ℕ)) → 0 < length l → same (simple_name (last_of l)) (text "Action") ≡ true → without_action l ≡ take (length l - 1) l
unfolding without_action last_of
drops [] h e = absurd (omega arith)
drops (w ∷ []) h e = rw e
drops (w ∷ (v ∷ rest)) h e = rw sub-one (ap (λ (k : List (List ℕ)). w ∷ k) (rw sub-one at (drops (v ∷ rest) (omega arith) e)))

keeps : (l : List (List ℕ)) → same (simple_name (last_of l)) (text "Action") ≡ false → without_action l ≡ l
unfolding without_action last_of
keeps [] e = refl
keeps (w ∷ []) e = rw e
keeps (w ∷ (v ∷ rest)) e = ap (λ (k : List (List ℕ)). w ∷ k) (keeps (v ∷ rest) e)

module _ (s : List ℕ) (n at : ℕ) (is : is_row (string_of path_name) s n at ≡ true) where
  abbrev names : List (List ℕ)
  names = row_in (string_of path_name) s n at

  all : Listed (string_of path_name) s names n at
  all = record { stands = is; value = refl }

  pub no_names : n < 1 → Listed (string_of path_name) s (without_action (row_in (string_of path_name) s n at)) n at
  unfolding without_action
  no_names h =
      let e : names ≡ [] = listed_over (string_of path_name) s names n at (omega arith) all in
      record { stands = is; value = e ∙ sym (ap without_action e) }

  module _ (h : 1 ≤ n) (w : List ℕ) (is_w : w ≡ last_of (row_in (string_of path_name) s n at)) (v : List ℕ) (is_v : v ≡ simple_name w) (b : Bool) (is_b : b ≡ same v (65 ∷ 99 ∷ 116 ∷ 105 ∷ 111 ∷ 110 ∷ [])) where
    test : same (simple_name (last_of names)) (text "Action") ≡ b
    unfolding text
    test = rw (is_b, is_v, is_w)

    pub action_dropped : b ≡ true → Listed (string_of path_name) s (without_action (row_in (string_of path_name) s n at)) (n - 1) at
    action_dropped e =
        let k : length names ≡ n = listed_length (string_of path_name) s names n at all in
        let d : without_action names ≡ take (n - 1) names = drops names (omega arith) (test ∙ e) ∙ ap (λ (m : ℕ). take (m - 1) names) k in
        rw d (listed_front (string_of path_name) s names n at (n - 1) (omega arith) all)

    pub names_kept : b ≡ false → Listed (string_of path_name) s (without_action (row_in (string_of path_name) s n at)) n at
    names_kept e = record { stands = is; value = sym (keeps names (test ∙ e)) }

-- ---- the action of that namespace

pub action_found : (s c : List ℕ) (ns : List (List ℕ)) (row : Row) → Listed (string_of path_name) c (without_action ns) row.count row.at → (at : ℕ) (w : List ℕ) → w ≡ word_at c at
    → (r : Found) → Answers (is_action s) (action_in s) (find_action (schema_in s) (joined (row_in (string_of path_name) c row.count row.at)) w) r → Answers (is_action s) (action_in s) (predicate_action (schema_in s) ns (word_at c at)) r
unfolding predicate_action
action_found s c ns row l at w e r a = record {
  value = a.value ∙ ap (λ (k : List (List ℕ)). find_action (schema_in s) (joined k) w) l.value ∙ ap (find_action (schema_in s) (joined (without_action ns))) e;
  stands = a.stands;
}

pub ruleset last_of_names = (rules, names_start, name_inside, names_turn, name_last)

pub ruleset namespaces = (rules, no_names, action_dropped, names_kept)

pub ruleset named_action = (rules, action_found)
