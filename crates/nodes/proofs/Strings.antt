-- Strings and terms that are passed by their lengths: what is accepted with a class is accepted with none, and ends alike. Assumes nothing.
use mathlib.Core.Path.{◌≡◌, refl, sym, ap, ap₂, ◌∙◌}
use mathlib.Core.Bool.{Bool, true, false}
use mathlib.Core.List.{List}
use Prim.Native.Nat.{ℕ, zero, suc, ◌+◌, ◌-◌, ◌≤◌, ◌<◌}
use native.Mathlib.Numerals.{sub-one}
use native.Mathlib.Omega.{arith}
use borrow.Author.Rules.{rules}
use borrow.Author.Tests.{le-leb, lt-leb}
use lib.ListN.{length, get_or}
use Rattle.names.specs.Fields.{Got, got, Reader, many, each, counted, string_of, levels}
use Rattle.names.specs.Names.{plain, path_name, identifier, last_of}
use Rattle.names.specs.Paths.{path_of}
use Rattle.names.specs.Read.{ending, accepted, row, is_row, word_at, Read}
use Rattle.names.specs.Laws.Readers.{Keeps, u8_got, string_got, string_view, StringView, accept, Accepted, is_accepted, passes}
use Rattle.names.specs.Laws.Rows.{Opens, opens, row_cons, counted_view, counted_start, each_done, each_turn}
use Rattle.condition.specs.Places.{version_in, term_here, is_term, term_in, is_path}
use Rattle.nodes.specs.Offsets.{term_part}
use Rattle.nodes.specs.Laws.Inside.{term_place, same_end}
use Rattle.nodes.specs.Looked.{Skipped, TermKindHere}
use Rattle.nodes.specs.Parts.{any_string, strings_at, segments_in, SegmentsHere}
use Rattle.condition.specs.Condition.{entity, entity_fields}
use Rattle.condition.specs.Laws.ByKind.{var_read, path_read}
use Rattle.nodes.specs.Laws.Views.{PartView, entity_view}
use Rattle.nodes.specs.Laws.Given.{not_given, Said, is_given, EntityView, entity_parts}
use Rattle.nodes.specs.Laws.Opens.{Stands, term_stands, raw_term, skipped_term}
use Rattle.nodes.specs.Laws.Pieces.{SegmentsLeft, segments_index, segments_start, segments_some, segments_turn, segments-end, skipped_names, skipped_path, context_path, scope_path}
use Rattle.std.specs.Prelude.{Ok}

ok_value : {n m : ℕ} → ◌≡◌ {A = Read} (Ok n) (Ok m) → n ≡ m
ok_value e = cc

ended : {A : Type 0} {g : Got A} {a : A} {n : ℕ} → g ≡ got a n → ending g ≡ Ok n
unfolding ending
ended e = rw e

any_class : (class : List ℕ → Bool) (s : List ℕ) (at : ℕ) → Keeps (string_of class s at) (any_string s at)
any_class class s at w n e =
    let v = string_view class s at e in
    let k : at + 1 + get_or s at 0 ≤ length s = rw (← v.place) v.inside in
    string_got (λ w. true) s at (omega arith) k refl ∙ ap₂ got (sym v.word) (sym v.place)

row_keeps : {A : Type 0} (f g : Reader A) (s : List ℕ) → ((at : ℕ) → Keeps (f s at) (g s at)) → (n at : ℕ) → Keeps (row f n s at) (row g n s at)
unfolding many
row_keeps f g s own zero at l m e = e
row_keeps f g s own (suc n) at l m e =
    let o = opens f s (suc n) at (omega arith) e in
    let r = row_keeps f g s own n o.p o.others m (rw sub-one at o.rest) in
    rw o.all (row_cons g s n at (own at o.own o.p o.here) r)

strings_of : (class : List ℕ → Bool) (s : List ℕ) (at : ℕ) → Keeps (counted (each (string_of class)) s at) (strings_at s at)
unfolding strings_at counted
strings_of class s at l m e =
    let v = counted_view (string_of class) s at e in
    rw (u8_got s at v.inside) (row_keeps (string_of class) any_string s (any_class class s) (get_or s at 0) (at + 1) l m v.read)

-- ---- the strings, one after another

pub record StringsPast (s : List ℕ) (whole : Read) (n at : ℕ) : Type 0 where
  pub stands : is_row any_string s n at ≡ true
  pub same : whole ≡ ending (row any_string n s at)

pub strings_begin : (s : List ℕ) (n at : ℕ) → is_row any_string s n at ≡ true → StringsPast s (ending (row any_string n s at)) (n - 0) at
strings_begin s n at is = let all : n - 0 ≡ n = omega arith in rw all (record { stands = is; same = refl })

module _ (s : List ℕ) (whole : Read) (end i at : ℕ) (p : StringsPast s whole (end - i) at) where
  pub strings_done : end ≤ i → Ok at ≡ whole
  strings_done h = each_done any_string s whole end i at p.same h

  module _ (h : i < end) where
    head : Opens any_string s (end - i) at (accept _ p.stands).value (accept _ p.stands).place
    head = opens any_string s (end - i) at (omega arith) (accept _ p.stands).read

    word : StringView (λ w. true) s at head.own head.p
    word = string_view (λ w. true) s at head.here

    pub string_inside : at + 1 + get_or s at 0 ≤ length s
    string_inside = rw (← word.place) word.inside

    pub strings_turn : (m : ℕ) → m ≡ at + 1 + get_or s at 0 → StringsPast s whole (end - (i + 1)) m
    strings_turn m e =
        let left : end - (i + 1) ≡ (end - i) - 1 = omega arith in
        let q : m ≡ head.p = e ∙ sym word.place in
        let read : Ok m ≡ ending (any_string s at) = ap Ok q ∙ sym (ended head.here) in
        record { stands = rw (left, q) (is_accepted head.rest); same = each_turn any_string s whole end i at p.same h (Ok m) read m refl }

pub ruleset along_strings = (rules, strings_begin, strings_done, string_inside, strings_turn)

-- such strings behind their count
module _ (s : List ℕ) (start : ℕ) (is : accepted (strings_at s start) ≡ true) where
  pub strings_index : start < length s
  unfolding strings_at
  strings_index = (counted_view any_string s start (accept _ is).read).inside

  pub strings_row : (n : ℕ) → n ≡ get_or s start 0 → is_row any_string s n (start + 1) ≡ true
  unfolding strings_at
  strings_row n e = rw e (is_accepted (counted_view any_string s start (accept _ is).read).read)

  pub strings_end : (n : ℕ) → n ≡ get_or s start 0 → (m : ℕ) → Ok m ≡ ending (row any_string n s (start + 1)) → Ok m ≡ ending (strings_at s start)
  unfolding strings_at
  strings_end n e m i = i ∙ sym (counted_start any_string s start n strings_index e)

pub ruleset counted_strings = (rules, strings_index, strings_row, strings_end)

-- ---- path names, a path

module _ (s : List ℕ) (at : ℕ) where
  module _ (class : List ℕ → Bool) (is : accepted (counted (each (string_of class)) s at) ≡ true) where
    these : strings_at s at ≡ got (accept _ is).value (accept _ is).place
    these = strings_of class s at (accept _ is).value (accept _ is).place (accept _ is).read

    ends_alike : ending (strings_at s at) ≡ ending (counted (each (string_of class)) s at)
    ends_alike = ended these ∙ sym (ended (accept _ is).read)

  pub names_strings : accepted (counted (each (string_of path_name)) s at) ≡ true → accepted (strings_at s at) ≡ true
  names_strings is = is_accepted (these path_name is)

  pub names_past : accepted (counted (each (string_of path_name)) s at) ≡ true → (n : ℕ) → Ok n ≡ ending (strings_at s at) → Skipped (counted (each (string_of path_name)) s at) at n
  names_past is n e = skipped_names s at (Ok n) n is (e ∙ ends_alike path_name is) refl

  pub path_strings : is_path s at ≡ true → accepted (strings_at s at) ≡ true
  unfolding path_of
  path_strings is = is_accepted (these plain is)

  pub path_past : is_path s at ≡ true → (n : ℕ) → Ok n ≡ ending (strings_at s at) → Skipped (path_of s at) at n
  unfolding path_of
  path_past is n e = skipped_path s at (Ok n) n is (e ∙ ends_alike plain is) refl

pub ruleset by_strings = (rules, names_strings, names_past, path_strings, path_past)

-- ---- entities

module _ (s : List ℕ) (at : ℕ) (acc : accepted (entity_fields (version_in s) s at) ≡ true) where
  stood : Accepted (entity_fields (version_in s) s at)
  stood = accept _ acc

  parts : EntityView (version_in s) s at stood.value stood.place
  parts = entity_parts (version_in s) s at stood.read

  pub name_inside : at + 1 + get_or s at 0 ≤ length s
  name_inside = let v = string_view path_name s at parts.reads in rw (← v.place) v.inside

  module _ (m : ℕ) (e : m ≡ at + 1 + get_or s at 0) (v : ℕ) (is : v ≡ version_in s) where
    middle-is : parts.middle ≡ m
    middle-is = (string_view path_name s at parts.reads).place ∙ sym e

    pub name_past : v ≤ 2 → Skipped (entity_fields (version_in s) s at) at m
    name_past h =
        let i = not_given (version_in s) (string_of plain) s parts.middle (rw (← is) (le-leb v 2 h)) parts.further in
        record { ends = ended stood.read ∙ ap Ok (i ∙ middle-is); ahead = omega arith }

    module _ (h : 2 < v) where
      said : Said (string_of plain) s parts.middle parts.id stood.place
      said = is_given (version_in s) (string_of plain) s parts.middle (rw (← is) (lt-leb v 2 h)) parts.further

      id_view : StringView plain s m said.value stood.place
      id_view = string_view plain s m (ap (string_of plain s) (sym middle-is) ∙ said.reads)

      pub id_inside : m + 1 + get_or s m 0 ≤ length s
      id_inside = rw (← id_view.place) id_view.inside

      pub id_past : (n : ℕ) → n ≡ m + 1 + get_or s m 0 → Skipped (entity_fields (version_in s) s at) at n
      id_past n i = record { ends = ended stood.read ∙ ap Ok (id_view.place ∙ sym i); ahead = omega arith }

pub ruleset past_entities = (rules, name_inside, name_past, id_inside, id_past)

-- ---- terms that are a word or a path

module _ (s : List ℕ) (at : ℕ) (acc : is_term s at ≡ true) (k : ℕ) (o : TermKindHere s at k) (p : ℕ) (place : p ≡ term_part s at) where
  module _ (class : List ℕ → Bool) (i : ending (string_of class s p) ≡ ending (term_here s at)) where
    own : Accepted (string_of class s p)
    own = accept _ (passes (string_of class s p) refl (i ∙ ended (term_stands s at acc).read))

    view : StringView class s p own.value own.place
    view = string_view class s p own.read

    word_inside : p + 1 + get_or s p 0 ≤ length s
    word_inside = rw (← view.place) view.inside

    word_past : (n : ℕ) → n ≡ p + 1 + get_or s p 0 → Skipped (term_here s at) at n
    word_past n e = record { ends = sym i ∙ ended own.read ∙ ap Ok (view.place ∙ sym e); ahead = omega (arith, term_place s at p place) }

  module _ (is : k ≡ 1) where
    named : PartView (entity_fields (version_in s)) entity s at (term_in s at) (term_stands s at acc).end
    named = entity_view (version_in s) s at (term_stands s at acc).read (raw_term s at acc 1 (λ z. omega arith) (sym o.kind ∙ is))

    entity_read : entity_fields (version_in s) s p ≡ got named.part (term_stands s at acc).end
    entity_read = ap (entity_fields (version_in s) s) (term_place s at p place) ∙ named.reads

    pub entity_stands : accepted (entity_fields (version_in s) s p) ≡ true
    entity_stands = is_accepted entity_read

    pub entity_past : (n : ℕ) → Skipped (entity_fields (version_in s) s p) p n → Skipped (term_here s at) at n
    entity_past n z = record { ends = same_end (term_stands s at acc).read entity_read ∙ z.ends; ahead = omega (arith, z.ahead, term_place s at p place) }

  module _ (is : k ≡ 8) where
    var_ends : ending (string_of plain s p) ≡ ending (term_here s at)
    var_ends = ap (λ j. ending (string_of plain s j)) (term_place s at p place) ∙ var_read (version_in s) s at levels false o.inside (λ z. omega arith) _ (raw_term s at acc 8 (λ z. omega arith) (sym o.kind ∙ is)) refl

    pub var_inside : p + 1 + get_or s p 0 ≤ length s
    var_inside = word_inside plain var_ends

    pub var_past : (n : ℕ) → n ≡ p + 1 + get_or s p 0 → Skipped (term_here s at) at n
    var_past = word_past plain var_ends

  module _ (l : 5 < get_or s at 0) (h : get_or s at 0 ≤ 7) where
    path_ends : ending (path_of s p) ≡ ending (term_here s at)
    path_ends = ap (λ j. ending (path_of s j)) (term_place s at p place) ∙ path_read (version_in s) s at levels false o.inside (λ z. omega arith) _ l h refl

    path_over : (n : ℕ) → Skipped (path_of s p) p n → Skipped (term_here s at) at n
    path_over n z = record { ends = sym path_ends ∙ z.ends; ahead = omega (arith, z.ahead, term_place s at p place) }

  module _ (is : k ≡ 6) where
    six : get_or s at 0 ≡ 6
    six = raw_term s at acc 6 (λ z. omega arith) (sym o.kind ∙ is)

    pub context_past : (n : ℕ) → Skipped (path_of s p) p n → Skipped (term_here s at) at n
    context_past = path_over (omega (arith, six)) (omega (arith, six))

  module _ (is : k ≡ 7) where
    seven : get_or s at 0 ≡ 7
    seven = raw_term s at acc 7 (λ z. omega arith) (sym o.kind ∙ is)

    pub scope_past : (n : ℕ) → Skipped (path_of s p) p n → Skipped (term_here s at) at n
    scope_past = path_over (omega (arith, seven)) (omega (arith, seven))

pub ruleset past_terms = (rules, entity_stands, entity_past, var_inside, var_past, context_path, context_past, scope_path, scope_past, skipped_term)

-- ---- the last segment of an annotation

row_init : {A : Type 0} (f : Reader A) (s : List ℕ) (n at : ℕ) {l : List A} {e : ℕ} → row f (suc n) s at ≡ got l e → is_row f s n at ≡ true
unfolding many accepted
row_init f s zero at h = refl
row_init f s (suc n) at h =
    let o = opens f s (suc (suc n)) at (omega arith) h in
    let r = accept _ (row_init f s n o.p (rw sub-one at o.rest)) in
    is_accepted (row_cons f s n at o.here r.read)

-- behind so many of the segments that are left, as many fewer are left
left_behind : (s : List ℕ) (start k n at : ℕ) → SegmentsLeft s start n at → k < n → (m : ℕ) → Ok m ≡ ending (row any_string k s at) → SegmentsLeft s start (n - k) m
unfolding many ending
left_behind s start zero n at left h m e =
    let i : m ≡ at = ok_value e in
    let j : n - 0 ≡ n = omega arith in
    rw (j, i) left
left_behind s start (suc k) n at left h m e =
    let r = accept (row any_string (suc k) s at) (passes _ refl (sym e)) in
    let o = opens any_string s (suc k) at (omega arith) r.read in
    let place : o.p ≡ at + 1 + get_or s at 0 = (string_view (λ w. true) s at o.here).place in
    let fewer = segments_turn s start n at left (omega arith) o.p place in
    let ends : Ok m ≡ ending (row any_string k s o.p) = e ∙ ended r.read ∙ sym (ended (rw sub-one at o.rest)) in
    let j : n - suc k ≡ n - 1 - k = omega arith in
    rw j (left_behind s start k (n - 1) o.p fewer (omega arith) m ends)

module _ (s : List ℕ) (start : ℕ) (here : SegmentsHere s start) (n : ℕ) (e : n ≡ get_or s start 0) where
  pub segments_init : is_row any_string s (n - 1) (start + 1) ≡ true
  unfolding strings_at
  segments_init =
      let a = accept _ here.stands in
      let v = counted_view any_string s start (strings_of identifier s start a.value a.place a.read) in
      let j : get_or s start 0 ≡ suc (n - 1) = omega (arith, here.some) in
      row_init any_string s (n - 1) (start + 1) (rw j at v.read)

  pub last_here : (m : ℕ) → Ok m ≡ ending (row any_string (n - 1) s (start + 1)) → word_at s m ≡ last_of (segments_in s start)
  last_here m i =
      let left = left_behind s start (n - 1) n (start + 1) (segments_start s start here n e) (omega (arith, here.some)) m i in
      segments-end s start (n - (n - 1)) m left (omega (arith, here.some)) (omega arith)

pub ruleset last_of_strings = (rules, segments_index, segments_some, segments_init, last_here)
