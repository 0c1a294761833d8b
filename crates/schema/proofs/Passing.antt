-- The place behind what is accepted, by lengths and counts alone. Assumes nothing.
use mathlib.Core.Path.{◌≡◌, refl, sym, ap, ◌∙◌}
use mathlib.Core.Bool.{true}
use mathlib.Core.Logic.{◌⊎◌, ⊎_elim}
use mathlib.Core.List.{List, [], ◌∷◌}
use mathlib.Core.Option.{Option, none, some}
use Prim.Native.Nat.{ℕ, zero, suc, ◌+◌, ◌-◌, ◌≤◌, ◌<◌}
use native.Mathlib.Numerals.{sub-one}
use native.Mathlib.Omega.{arith}
use borrow.Author.Rules.{rules}
use lib.ListN.{length, get_or}
use Rattle.names.specs.Fields.{Got, got, Reader, u8, string_of, many, counted, levels}
use Rattle.names.specs.Names.{path_name, plain}
use Rattle.names.specs.Read.{ending, accepted, row, is_row, Read}
use Rattle.names.specs.Laws.Readers.{u8_view, string_view, StringView, split, accept, Accepted, is_accepted, arrives, passes, got_place}
use Rattle.names.specs.Laws.Rows.{Opens, opens, each_done, row_cons, row_append}
use Rattle.names.specs.declared.Row.{Row}
use Rattle.schema.specs.Schema.{Declared, Attributes, ascending, type_at, attributes, attributes_of, entity_type, action}
use Rattle.schema.specs.Places.{past_word, is_type, are_fields, are_names, is_entity, entity_in, are_entities, entities_at, is_action, action_in, attribute_at, KindHere, kind_number, Below, Inside}
use Rattle.schema.specs.Laws.ByKind.{one_kind, ascending_string, type_set, type_object, type_extension, type_entity, type_leaf}
use Rattle.schema.proofs.Levels.{type_wider, attributes_wider}
use Rattle.schema.proofs.Ahead.{type_ahead}
use Rattle.schema.specs.declared.kind.TypeKind.{TypeKind}
use Rattle.schema.proofs.TypeViews.{open_type}
use Rattle.schema.proofs.Views.{free_entity, unkeyed, names_view, names_inside, name_of, entity_there, entity_inside, ancestors_stand, action_there, type_inside, id_inside}
use Rattle.std.specs.Prelude.{Ok}

ended : {A : Type 0} {g : Got A} {a : A} {n : ℕ} → g ≡ got a n → ending g ≡ Ok n
unfolding ending
ended e = rw e

-- A row that is passed: what is left of it ends where the whole does.
pub record Passing {A : Type 0} (f : Reader A) (s : List ℕ) (whole : Read) (n at : ℕ) : Type 0 where
  pub list : List A
  pub end : ℕ
  pub read : row f n s at ≡ got list end
  pub ends : whole ≡ Ok end

module _ {A : Type 0} (f : Reader A) (s : List ℕ) (whole : Read) (n at : ℕ) (p : Passing f s whole n at) where
  passed : n ≤ 0 → Ok at ≡ whole
  passed h = let all : n - 0 ≡ n = omega arith in each_done f s whole n 0 at (rw all (p.ends ∙ sym (ended p.read))) h

  module _ (h : 0 < n) where
    head : Opens f s n at p.list p.end
    head = opens f s n at h p.read

    pass : (m : ℕ) → m ≡ head.p → Passing f s whole (n - 1) m
    pass m e = record { list = head.others; end = p.end; read = rw e head.rest; ends = p.ends }

-- ---- names

module _ (s : List ℕ) where
  pub names_begin : (start : ℕ) → are_names s start ≡ true → (n : ℕ) → n ≡ get_or s start 0 → Passing (string_of path_name) s (ending (counted (ascending path_name) s start)) (n - 0) (start + 1)
  names_begin start is n e =
      let a = accept _ is in
      let all : n - 0 ≡ n = omega arith in
      record { list = a.value; end = a.place; read = rw (all, e) (names_view s start a.read).read; ends = ended a.read }

  module _ (whole : Read) (end i at : ℕ) (p : Passing (string_of path_name) s whole (end - i) at) where
    pub names_passed : end ≤ i → Ok at ≡ whole
    names_passed h = passed (string_of path_name) s whole (end - i) at p (omega arith)

    module _ (h : i < end) where
      some_left : 0 < end - i
      some_left = omega arith

      word : StringView path_name s at (head (string_of path_name) s whole (end - i) at p some_left).own (head (string_of path_name) s whole (end - i) at p some_left).p
      word = string_view path_name s at (head (string_of path_name) s whole (end - i) at p some_left).here

      pub name_within : past_word s at ≤ length s
      name_within = rw (← word.place) word.inside

      pub names_on : (m : ℕ) → m ≡ past_word s at → Passing (string_of path_name) s whole (end - (i + 1)) m
      names_on m e =
          let left : end - (i + 1) ≡ (end - i) - 1 = omega arith in
          rw left (pass (string_of path_name) s whole (end - i) at p some_left m (e ∙ sym word.place))

pub ruleset along_names = (rules, names_inside, names_begin, names_passed, name_within, names_on)

-- ---- what stands in a type

-- attributes in order are so many attributes by themselves
record Rowed (s : List ℕ) (n at end : ℕ) : Type 0 where
  list : List Declared
  read : row attribute_at n s at ≡ got list end

attributes_row : (s : List ℕ) (n : ℕ) (before : Option (List ℕ)) (at : ℕ) {a : Attributes} {m : ℕ} → attributes_of (type_at levels) n before s at ≡ got a m → Rowed s n at m
unfolding attributes_of attribute_at many
attributes_row s zero before at e = record { list = []; read = ap (got []) (got_place e) }
attributes_row s (suc n) before at {a} {m} e =
    let x = split (ascending plain before s at) _ e in
    let y = split (type_at levels s x.place) _ x.rest in
    let z = split (attributes_of (type_at levels) n (some x.value) s y.place) _ y.rest in
    let r = attributes_row s n (some x.value) y.place z.first in
    let own : attribute_at s at ≡ got y.value y.place = rw (ascending_string plain before s at x.first) y.first in
    record { list = y.value ∷ r.list; read = row_cons attribute_at s n at own r.read ∙ ap (got (y.value ∷ r.list)) (got_place z.rest) }

-- a count of attributes and the attributes, accepted
record FieldsView (s : List ℕ) (at end : ℕ) : Type 0 where
  inside : at < length s
  rowed : Rowed s (get_or s at 0) (at + 1) end

fields_view : (s : List ℕ) (at : ℕ) {a : Attributes} {m : ℕ} → attributes (type_at levels) s at ≡ got a m → FieldsView s at m
unfolding attributes
fields_view s at {a} {m} e =
    let x = split (u8 s at) _ e in
    let u = u8_view s at x.first in
    record { inside = u.0; rowed = rw (← u.1, ← u.2) (attributes_row s x.value none x.place x.rest) }

-- what an ending says is accepted
reads : {A : Type 0} (g : Got A) {n : ℕ} → ending g ≡ Ok n → Accepted g
reads g e = accept g (passes g refl e)

at-end : {A : Type 0} (g : Got A) {a : A} {m n : ℕ} → g ≡ got a m → ending g ≡ Ok n → n ≡ m
at-end g e f = arrives e refl f

module _ (s : List ℕ) (start at : ℕ) (b : Below s start at) where
  -- the type at the place, and where it ends
  here : Accepted (type_at levels s at)
  here = accept _ b.stands

  ends_here : ending (type_at levels s start) ≡ Ok here.place
  ends_here = b.ends ∙ ended here.read

  module _ (k : TypeKind) (o : KindHere s at (kind_number k)) where
    pub set_below : k ≡ TypeKind.Set → Below s start (at + 1)
    set_below e =
        let i = type_set s at levels o.inside (λ z. omega arith) (sym o.kind ∙ ap kind_number e) _ refl in
        let a = reads (type_at 31 s (at + 1)) (i ∙ ended here.read) in
        let w = type_wider 31 levels (omega arith) s (at + 1) a.value a.place a.read in
        record { stands = is_accepted w; ends = b.ends ∙ sym i ∙ ended a.read ∙ sym (ended w); behind = omega (arith, b.behind) }

    pub below_other : (k ≡ TypeKind.Set → ⊥) → (get_or s at 0 ≡ 4 → ⊥)
    below_other h e = h (one_kind TypeKind.Set k (o.kind ∙ e))

    -- a record: its attributes
    module _ (e : k ≡ TypeKind.Record) where
      record_fields_lem : FieldsView s (at + 1) here.place
      record_fields_lem =
          let i = type_object s at levels o.inside (λ z. omega arith) (sym o.kind ∙ ap kind_number e) _ refl in
          let a = reads (attributes (type_at 31) s (at + 1)) (i ∙ ended here.read) in
          let w = attributes_wider (type_at 31) (type_at levels) (type_wider 31 levels (omega arith)) s (at + 1) a.value a.place a.read in
          let p : a.place ≡ here.place = sym (at-end _ a.read (i ∙ ended here.read)) in
          rw p at (fields_view s (at + 1) w)

      pub record_count : at + 1 < length s
      record_count = record_fields_lem.inside

      pub in_record : (n : ℕ) → n ≡ get_or s (at + 1) 0 → n < 256 → Inside s start (record { count = n; at = at + 1 + 1 })
      in_record n i few =
          let f = record_fields_lem in
          let r : row attribute_at n s (at + 1 + 1) ≡ got f.rowed.list here.place = rw i f.rowed.read in
          record { stands = is_accepted r; ends = ends_here ∙ sym (ended r); few = few; ahead = omega (arith, b.behind); within = omega (arith, f.inside) }

    -- no attributes: from the place behind
    none_in : (m : ℕ) → ending (type_at levels s at) ≡ Ok m → at < m → m ≤ length s → Inside s start (record { count = 0; at = m })
    unfolding many accepted ending
    none_in m e l w = record { stands = refl; ends = b.ends ∙ e; few = omega arith; ahead = omega (arith, b.behind); within = w }

    module _ (i : ending (string_of path_name s (at + 1)) ≡ ending (type_at levels s at)) where
      name_here : StringView path_name s (at + 1) (reads (string_of path_name s (at + 1)) (i ∙ ended here.read)).value (reads (string_of path_name s (at + 1)) (i ∙ ended here.read)).place
      name_here = string_view path_name s (at + 1) (reads (string_of path_name s (at + 1)) (i ∙ ended here.read)).read

      name_inside : past_word s (at + 1) ≤ length s
      name_inside = rw (← name_here.place) name_here.inside

      in_name : (m : ℕ) → m ≡ past_word s (at + 1) → Inside s start (record { count = 0; at = m })
      in_name m e =
          let a = reads (string_of path_name s (at + 1)) (i ∙ ended here.read) in
          let p : m ≡ a.place = e ∙ sym name_here.place in
          none_in m (sym i ∙ ended a.read ∙ ap Ok (sym p)) (omega arith) (rw p name_here.inside)

    module _ (e : k ≡ TypeKind.Extension) where
      extension-is : ending (string_of path_name s (at + 1)) ≡ ending (type_at levels s at)
      extension-is = type_extension s at levels o.inside (λ z. omega arith) (sym o.kind ∙ ap kind_number e) _ refl

      pub extension_inside : past_word s (at + 1) ≤ length s
      extension_inside = name_inside extension-is

      pub in_extension : (m : ℕ) → m ≡ past_word s (at + 1) → Inside s start (record { count = 0; at = m })
      in_extension = in_name extension-is

    module _ (e : k ≡ TypeKind.Entity) where
      entity-is : ending (string_of path_name s (at + 1)) ≡ ending (type_at levels s at)
      entity-is = type_entity s at levels o.inside (λ z. omega arith) (sym o.kind ∙ ap kind_number e) _ refl

      pub entity_name_inside : past_word s (at + 1) ≤ length s
      entity_name_inside = name_inside entity-is

      pub in_entity : (m : ℕ) → m ≡ past_word s (at + 1) → Inside s start (record { count = 0; at = m })
      in_entity = in_name entity-is

    pub in_leaf : (get_or s at 0 ≡ 4 → ⊥) → (k ≡ TypeKind.Record → ⊥) → (k ≡ TypeKind.Extension → ⊥) → (k ≡ TypeKind.Entity → ⊥) → Inside s start (record { count = 0; at = at + 1 })
    in_leaf four six three seven =
        let v = open_type s at here.read in
        let known : get_or s at 0 ≤ 10 = omega (arith, v.known) in
        let i = type_leaf s at levels o.inside (λ z. omega arith) known (λ q. three (one_kind TypeKind.Extension k (o.kind ∙ q))) four (λ q. six (one_kind TypeKind.Record k (o.kind ∙ q))) (λ q. seven (one_kind TypeKind.Entity k (o.kind ∙ q))) in
        none_in (at + 1) (sym i) (omega arith) (omega (arith, o.inside))

    -- an extension and an entity have a name, of which nothing is left
    pub in_named : (k ≡ TypeKind.Extension) ⊎ (k ≡ TypeKind.Entity) → (m : ℕ) → m ≡ past_word s (at + 1) → Inside s start (record { count = 0; at = m })
    in_named e m i = ⊎_elim (λ x. in_extension x m i) (λ y. in_entity y m i) e

pub below_start : (s : List ℕ) (at : ℕ) → is_type s at ≡ true → Below s at at
below_start s at is = record { stands = is; ends = refl; behind = omega arith }

pub below_stands : (s : List ℕ) (start at : ℕ) → Below s start at → is_type s at ≡ true
below_stands s start at b = b.stands

pub ruleset below_sets = (rules, below_start, below_stands, set_below, below_other)

pub ruleset insides = (rules, record_count, in_record, extension_inside, in_extension, entity_name_inside, in_entity, in_named, in_leaf)

-- ---- attributes by themselves

record AttributeView (s : List ℕ) (at : ℕ) (t : Declared) (end : ℕ) : Type 0 where
  inside : past_word s at ≤ length s
  typed : type_at levels s (past_word s at) ≡ got t end

attribute_view : (s : List ℕ) (at : ℕ) {t : Declared} {n : ℕ} → attribute_at s at ≡ got t n → AttributeView s at t n
unfolding attribute_at
attribute_view s at e =
    let x = split (string_of plain s at) _ e in
    let w = string_view plain s at x.first in
    record { inside = rw (← w.place) w.inside; typed = rw (← w.place) x.rest }

-- they have a byte each
row_few : (s : List ℕ) (n at : ℕ) {l : List Declared} {e : ℕ} → row attribute_at (suc n) s at ≡ got l e → at + suc n ≤ length s
row_few s zero at h = let v = attribute_view s at (opens attribute_at s 1 at (omega arith) h).here in omega (arith, v.inside)
row_few s (suc n) at h =
    let o = opens attribute_at s (suc (suc n)) at (omega arith) h in
    let v = attribute_view s at o.here in
    let j = type_ahead levels s (past_word s at) o.own o.p v.typed in
    let i = row_few s n o.p (rw sub-one at o.rest) in
    omega arith

few_left : (s : List ℕ) (n at : ℕ) {l : List Declared} {e : ℕ} → row attribute_at n s at ≡ got l e → n ≤ length s
few_left s zero at h = omega arith
few_left s (suc n) at h = let i = row_few s n at h in omega arith

pub record FieldsLeft (s : List ℕ) (whole : Read) (n at : ℕ) : Type 0 where
  pub few : n ≤ length s
  pub passing : Passing attribute_at s whole n at

module _ (s : List ℕ) where
  pub fields_begin : (n at : ℕ) → is_row attribute_at s n at ≡ true → FieldsLeft s (ending (row attribute_at n s at)) n at
  fields_begin n at is =
      let a = accept _ is in
      record { few = few_left s n at a.read; passing = record { list = a.value; end = a.place; read = a.read; ends = ended a.read } }

  module _ (whole : Read) (n at : ℕ) (l : FieldsLeft s whole n at) where
    pub fields_passed : n ≤ 0 → Ok at ≡ whole
    fields_passed h = passed attribute_at s whole n at l.passing h

    module _ (h : 0 < n) where
      first : AttributeView s at (head attribute_at s whole n at l.passing h).own (head attribute_at s whole n at l.passing h).p
      first = attribute_view s at (head attribute_at s whole n at l.passing h).here

      pub attribute_within : past_word s at ≤ length s
      attribute_within = first.inside

      module _ (m : ℕ) (e : m ≡ past_word s at) where
        typed_there : type_at levels s m ≡ got (head attribute_at s whole n at l.passing h).own (head attribute_at s whole n at l.passing h).p
        typed_there = ap (type_at levels s) e ∙ first.typed

        pub attribute_typed : is_type s m ≡ true
        attribute_typed = is_accepted typed_there

        pub fields_on : (r : Row) → Inside s m r → FieldsLeft s whole (n - 1 + r.count) r.at
        fields_on r i =
            let o = head attribute_at s whole n at l.passing h in
            let a = accept _ i.stands in
            let p : o.p ≡ a.place = at-end _ a.read (sym i.ends ∙ ended typed_there) in
            let j = row_append attribute_at s r.count (n - 1) r.at a.read (ap (row attribute_at (n - 1) s) (sym p) ∙ o.rest) in
            let k : r.count + (n - 1) ≡ n - 1 + r.count = omega arith in
            let w = rw k at j in
            record { few = few_left s (n - 1 + r.count) r.at w; passing = record { list = _; end = l.passing.end; read = w; ends = l.passing.ends } }

pub ruleset along_fields = (rules, fields_begin, fields_passed, attribute_within, attribute_typed, fields_on)

-- ---- a type, attributes with their count, an entity type, an action

module _ (s : List ℕ) (at : ℕ) where
  pub inside_stands : (r : Row) → Inside s at r → is_row attribute_at s r.count r.at ≡ true
  inside_stands r i = i.stands

  pub inside_passed : (r : Row) → Inside s at r → (x : ℕ) → Ok x ≡ ending (row attribute_at r.count s r.at) → Ok x ≡ ending (type_at levels s at)
  inside_passed r i x e = e ∙ sym i.ends

  module _ (is : are_fields s at ≡ true) where
    counted_fields : FieldsView s at (accept _ is).place
    counted_fields = fields_view s at (accept _ is).read

    pub fields_count : at < length s
    fields_count = counted_fields.inside

    module _ (n : ℕ) (e : n ≡ get_or s at 0) where
      these : row attribute_at n s (at + 1) ≡ got counted_fields.rowed.list (accept _ is).place
      these = rw e counted_fields.rowed.read

      pub fields_stand : is_row attribute_at s n (at + 1) ≡ true
      fields_stand = is_accepted these

      pub fields-end : (x : ℕ) → Ok x ≡ ending (row attribute_at n s (at + 1)) → Ok x ≡ ending (attributes (type_at levels) s at)
      fields-end x f = f ∙ ended these ∙ sym (ended (accept _ is).read)

pub ruleset whole_type = (rules, inside_stands, inside_passed)

pub ruleset Whole-Fields = (rules, fields_count, fields_stand, fields-end)

module _ (s : List ℕ) (at : ℕ) (is : is_entity s at ≡ true) (p : ℕ) (e : p ≡ past_word s at) (q : ℕ) (f : Ok q ≡ ending (counted (ascending path_name) s p)) where
  fields_at : q ≡ (entity_there s at is).q
  fields_at = arrives (entity_there s at is).below (f ∙ ap (λ m. ending (counted (ascending path_name) s m)) e) refl

  fields_read : attributes (type_at levels) s q ≡ got (entity_in s at).attributes (accept _ is).place
  fields_read = ap (attributes (type_at levels) s) fields_at ∙ (entity_there s at is).fields

  pub fields_there : are_fields s q ≡ true
  fields_there = is_accepted fields_read

  pub entity_passed : (x : ℕ) → Ok x ≡ ending (attributes (type_at levels) s q) → Ok x ≡ ending (entity_type none s at)
  entity_passed x g = g ∙ ended fields_read ∙ sym (ended (accept _ is).read)

pub ruleset whole_entity = (rules, entity_inside, ancestors_stand, fields_there, entity_passed)

module _ (s : List ℕ) (at : ℕ) (is : is_action s at ≡ true) (p : ℕ) (e : p ≡ past_word s at) (i : ℕ) (g : i ≡ past_word s p) (q : ℕ) (f : Ok q ≡ ending (counted (ascending path_name) s i)) where
  from : i ≡ past_word s (past_word s at)
  from = g ∙ ap (past_word s) e

  second_at : q ≡ (action_there s at is).q
  second_at = arrives (action_there s at is).principals (f ∙ ap (λ m. ending (counted (ascending path_name) s m)) from) refl

  pub second_stands : are_names s q ≡ true
  second_stands = is_accepted (ap (counted (ascending path_name) s) second_at ∙ (action_there s at is).resources)

  module _ (r : ℕ) (h : Ok r ≡ ending (counted (ascending path_name) s q)) where
    context_at : r ≡ (action_there s at is).m
    context_at = arrives (action_there s at is).resources (h ∙ ap (λ m. ending (counted (ascending path_name) s m)) second_at) refl

    context_read : type_at levels s r ≡ got (action_in s at).context (accept _ is).place
    context_read = ap (type_at levels s) context_at ∙ (action_there s at is).context

    pub context_stands : is_type s r ≡ true
    context_stands = is_accepted context_read

    pub action_passed : (x : ℕ) → Ok x ≡ ending (type_at levels s r) → Ok x ≡ ending (action none s at)
    action_passed x j = j ∙ ended context_read ∙ sym (ended (accept _ is).read)

pub first_stands : (s : List ℕ) (at : ℕ) → is_action s at ≡ true → (p : ℕ) → p ≡ past_word s at → (i : ℕ) → i ≡ past_word s p → are_names s i ≡ true
first_stands s at is p e i g = is_accepted (ap (counted (ascending path_name) s) (g ∙ ap (past_word s) e) ∙ (action_there s at is).principals)

pub ruleset whole_action = (rules, type_inside, id_inside, first_stands, second_stands, context_stands, action_passed)

-- ---- entity types in a row

module _ (s : List ℕ) where
  pub entities_begin : (n at : ℕ) → are_entities s n at ≡ true → Passing (entity_type none) s (ending (entities_at n s at)) (n - 0) at
  entities_begin n at is =
      let a = accept _ is in
      let all : n - 0 ≡ n = omega arith in
      record { list = a.value; end = a.place; read = rw all (unkeyed name_of entity_type (entity_type none) s (free_entity s) n none at a.value a.place a.read); ends = ended a.read }

  module _ (whole : Read) (end i at : ℕ) (p : Passing (entity_type none) s whole (end - i) at) where
    pub entities_passed : end ≤ i → Ok at ≡ whole
    entities_passed h = passed (entity_type none) s whole (end - i) at p (omega arith)

    module _ (h : i < end) where
      there_is : 0 < end - i
      there_is = omega arith

      pub entity_here : is_entity s at ≡ true
      entity_here = is_accepted (head (entity_type none) s whole (end - i) at p there_is).here

      pub entities_on : (m : ℕ) → Ok m ≡ ending (entity_type none s at) → Passing (entity_type none) s whole (end - (i + 1)) m
      entities_on m e =
          let left : end - (i + 1) ≡ (end - i) - 1 = omega arith in
          rw left (pass (entity_type none) s whole (end - i) at p there_is m (arrives (head (entity_type none) s whole (end - i) at p there_is).here e refl))

pub ruleset along_entities = (rules, entities_begin, entities_passed, entity_here, entities_on)
