-- Accepted schemas, entity types, actions and lists of names, taken apart. Assumes nothing.
use mathlib.Core.Path.{◌≡◌, refl, sym, ap, ap₂, subst, ◌∙◌}
use mathlib.Core.Bool.{Bool, true}
use mathlib.Core.List.{List, [], ◌∷◌}
use mathlib.Core.Option.{Option, none, some}
use Prim.Native.Nat.{ℕ, zero, suc, ◌+◌, ◌≤◌, ◌<◌}
use lib.ListN.{length, get_or, take, drop}
use borrow.Author.Rules.{rules}
use Rattle.names.specs.Fields.{got, Reader, heading, u8, u16, number, each, many, holds, string_of, counted, levels}
use Rattle.names.specs.Names.{path_name, plain}
use Rattle.names.specs.Read.{ending, row, Listed, Read}
use Rattle.names.specs.Laws.Readers.{Keeps, split, held, string_view, u8_view, accept, is_accepted, has_value, got_value, got_place, arrives, not_refused, next_wider, u16_value, u16_place, heading_place, finished_value, whole_read}
use Rattle.names.specs.Laws.Rows.{row_any, listed}
use Rattle.schema.specs.Schema.{EntityType, Action, Key, Schema, never, nothing, after, ascending, type_at, attributes, entity_type, key_after, action, key_of, schema_record}
use Rattle.names.specs.declared.Row.{Row}
use Rattle.schema.specs.Places.{past_word, are_fields, fields_in, are_names, names_in, is_type, type_in, schema_in, is_schema, entity_in, is_entity, entities_at, are_entities, action_in, is_action, Standing, ActionsOf}
use Rattle.schema.specs.Laws.ByKind.{ascending_string}
use Rattle.std.specs.Prelude.{Ok, Err}
use Rattle.names.specs.declared.refusal.Refusal.{Refusal}
use Rattle.names.specs.declared.refusal.Refusal.TheVariants.{NotAscending}

abbrev pub name_of : EntityType → List ℕ
name_of e = e.name

-- A name, an entity type and an action, accepted after another, are accepted as the first too.
free_name : (s : List ℕ) (at : ℕ) (w : List ℕ) (m : ℕ) → string_of path_name s at ≡ got w m → ascending path_name none s at ≡ got w m
unfolding ascending after
free_name s at w m j = rw j

pub free_entity : (s : List ℕ) (before : Option (List ℕ)) (at : ℕ) → Keeps (entity_type before s at) (entity_type none s at)
unfolding entity_type
free_entity s before at e n i =
    next_wider (ascending path_name before s at) (ascending path_name none s at) _ _ (λ w m j. free_name s at w m (ascending_string path_name before s at j)) (λ w m _ _ j. j) e n i

pub free_action : (s : List ℕ) (before : Option Key) (at : ℕ) → Keeps (action before s at) (action none s at)
unfolding action key_after
free_action s before at e n i =
    next_wider (string_of path_name s at) _ _ _ (λ _ _ j. j)
    (λ t m. next_wider (string_of plain s m) _ _ _ (λ _ _ j. j)
    (λ w p. next_wider (holds NotAscending (key_after before (record { type = t; id = w })) w s p) (got w p) _ _ (λ _ _ j. free (key_after before (record { type = t; id = w })) w p j) (λ _ _ _ _ j. j)))
    e n i
  where
    free : (b : Bool) (w : List ℕ) (p : ℕ) {v : List ℕ} {q : ℕ} → holds NotAscending b w s p ≡ got v q → got w p ≡ got v q
    free b w p j = let h = held NotAscending b s j in ap₂ got h.value h.place

-- A schema, accepted: the entity types stand from 7 on, and their count at 5; then the actions' count, and the actions.
pub record SchemaView (s : List ℕ) : Type 0 where
  pub es : List EntityType
  pub p : ℕ
  pub entities : many name_of entity_type (number 0 (take 2 (drop 5 s))) none s 7 ≡ got es p
  pub count : ℕ
  pub q : ℕ
  pub counted : u16 s p ≡ got count q
  pub acts : List Action
  pub end : ℕ
  pub actions : many key_of action count none s q ≡ got acts end
  pub tree : ◌≡◌ {A = Schema} (record { entities = es; actions = acts }) (schema_in s)

pub schema_view : (s : List ℕ) → is_schema s ≡ true → SchemaView s
unfolding schema_record
schema_view s is =
    let w = accept _ is in
    let a = split (heading (68 ∷ 87 ∷ 83 ∷ []) 1 s 0) _ (whole_read schema_record s w.read) in
    let five : a.place ≡ 5 = heading_place (68 ∷ 87 ∷ 83 ∷ []) 1 s a.first in
    let b = split (u16 s a.place) _ a.rest in
    let seven : b.place ≡ 7 = u16_place s a.place b.first ∙ ap (λ (m : ℕ). m + 2) five in
    let n : b.value ≡ number 0 (take 2 (drop 5 s)) = u16_value s a.place b.first ∙ ap (λ (m : ℕ). number 0 (take 2 (drop m s))) five in
    let d = split (many name_of entity_type b.value none s b.place) _ b.rest in
    let f = split (u16 s d.place) _ d.rest in
    let g = split (many key_of action f.value none s f.place) _ f.rest in
    record {
      es = d.value;
      p = d.place;
      entities = rw (← n, ← seven) d.first;
      count = f.value;
      q = f.place;
      counted = f.first;
      acts = g.value;
      end = g.place;
      actions = g.first;
      tree = finished_value _ s g.place g.rest ∙ sym (has_value _ w.read);
    }

-- Where the actions of a schema stand.
module _ (s : List ℕ) (is : is_schema s ≡ true) (v : ℕ) (is_v : v ≡ number 0 (take 2 (drop 5 s))) where
  entities_read : many name_of entity_type v none s 7 ≡ got (schema_view s is).es (schema_view s is).p
  entities_read = ap (λ (k : ℕ). many name_of entity_type k none s 7) is_v ∙ (schema_view s is).entities

  pub entities_stand : are_entities s v 7 ≡ true
  entities_stand = is_accepted entities_read

  module _ (p : ℕ) (e : Ok p ≡ ending (entities_at v s 7)) (y : Read) (is_y : y ≡ ending (u16 s p)) where
    count_read : u16 s p ≡ got (schema_view s is).count (schema_view s is).q
    count_read = ap (u16 s) (arrives entities_read e refl) ∙ (schema_view s is).counted

    pub actions_uncounted : (r : Refusal) → y ≡ Err r → (a : Row) → ActionsOf s a
    actions_uncounted r f a = absurd (not_refused count_read is_y f)

    pub actions_there : (q : ℕ) → y ≡ Ok q → (n : ℕ) → n ≡ number 0 (take 2 (drop p s)) → ActionsOf s (record { count = n; at = q })
    actions_there q f n g =
        let c : n ≡ (schema_view s is).count = g ∙ sym (u16_value s p count_read) in
        let i : many key_of action n none s q ≡ got (schema_view s is).acts (schema_view s is).end = ap₂ (λ (k m : ℕ). many key_of action k none s m) c (arrives count_read is_y f) ∙ (schema_view s is).actions in
        record { stands = is_accepted i; value = has_value [] i ∙ ap (λ (t : Schema). t.actions) (schema_view s is).tree }

pub ruleset action_row = (rules, entities_stand, actions_uncounted, actions_there)

-- A row in which each knows the one before is, accepted, a row of what stands there by itself.
pub unkeyed : {A K : Type 0} (key : A → K) (f : Option K → Reader A) (g : Reader A) (s : List ℕ) → ((before : Option K) (at : ℕ) → Keeps (f before s at) (g s at)) → (n : ℕ) (before : Option K) (at : ℕ) → Keeps (many key f n before s at) (row g n s at)
unfolding many
unkeyed key f g s own zero before at a m e = e
unkeyed key f g s own (suc n) before at a m e =
    next_wider (f before s at) (g s at) _ _ (own before at)
    (λ w p. next_wider (many key f n (some (key w)) s p) (many (λ v. v) (each g) n (some w) s p) _ _ (λ b q i. row_any g s n (some w) p ∙ unkeyed key f g s own n (some (key w)) p b q i) (λ _ _ _ _ i. i))
    a m e

-- A list of names in order, accepted: so many names stand after the count.
module _ (s : List ℕ) where
  pub record NamesView (at : ℕ) (list : List (List ℕ)) (end : ℕ) : Type 0 where
    pub inside : at < length s
    pub read : row (string_of path_name) (get_or s at 0) s (at + 1) ≡ got list end

  pub names_view : (at : ℕ) {list : List (List ℕ)} {end : ℕ} → counted (ascending path_name) s at ≡ got list end → NamesView at list end
  unfolding counted
  names_view at {list} {end} e =
      let a = split (u8 s at) _ e in
      let u = u8_view s at a.first in
      record { inside = u.0; read = rw (← u.1, ← u.2) (unkeyed (λ w. w) (ascending path_name) (string_of path_name) s (λ before p w m i. ascending_string path_name before s p i) a.value none a.place list end a.rest) }

  module _ (at : ℕ) (is : are_names s at ≡ true) where
    pub names_inside : at < length s
    names_inside = (names_view at (accept _ is).read).inside

    pub names_row : (n : ℕ) → n ≡ get_or s at 0 → Listed (string_of path_name) s (names_in s at) n (at + 1)
    names_row n e =
        let a = accept _ is in
        let i : row (string_of path_name) n s (at + 1) ≡ got (names_in s at) a.place = rw (e, has_value [] a.read) (names_view at a.read).read in
        listed (string_of path_name) s n (at + 1) i

pub ruleset name_rows = (rules, names_inside, names_row)

-- an entity type, accepted: its name, its ancestors and its attributes
pub record EntityView (s : List ℕ) (at : ℕ) (e : EntityType) (m : ℕ) : Type 0 where
  pub inside : past_word s at ≤ length s
  pub q : ℕ
  pub below : counted (ascending path_name) s (past_word s at) ≡ got e.ancestors q
  pub fields : attributes (type_at levels) s q ≡ got e.attributes m

entity_view : (s : List ℕ) (at : ℕ) {e : EntityType} {n : ℕ} → entity_type none s at ≡ got e n → EntityView s at e n
unfolding entity_type
entity_view s at i =
    let a = split (ascending path_name none s at) _ i in
    let w = string_view path_name s at (ascending_string path_name none s at a.first) in
    let b = split (counted (ascending path_name) s a.place) _ a.rest in
    let d = split (attributes (type_at levels) s b.place) _ b.rest in
    let v : EntityView s at (record { name = a.value; ancestors = b.value; attributes = d.value }) d.place =
    record { inside = rw (← w.place) w.inside; q = b.place; below = rw (← w.place) b.first; fields = d.first } in
    let u = subst (λ (e : EntityType). EntityView s at e d.place) (got_value d.rest) v in
    rw (got_place d.rest) at u

-- the same names, as a list in order and as the list of what holds them
module _ (s : List ℕ) {q m : ℕ} (p : ℕ) {list : List (List ℕ)} (own : List (List ℕ)) (e : list ≡ own) (i : counted (ascending path_name) s q ≡ got list m) (j : p ≡ q) where
  there : counted (ascending path_name) s p ≡ got list m
  there = rw j i

  pub names_stand : are_names s p ≡ true
  names_stand = is_accepted there

  pub names_are : (n at : ℕ) → Listed (string_of path_name) s (names_in s p) n at → Listed (string_of path_name) s own n at
  names_are n at l = record { stands = l.stands; value = l.value ∙ has_value [] there ∙ e }

  pub names-end : (r : ℕ) → Ok r ≡ ending (counted (ascending path_name) s p) → r ≡ m
  names-end r f = arrives there f refl

module _ (s : List ℕ) (at : ℕ) (is : is_entity s at ≡ true) where
  pub entity_there : EntityView s at (entity_in s at) (accept _ is).place
  entity_there = let a = accept _ is in rw (has_value _ a.read) (entity_view s at a.read)

  pub entity_inside : past_word s at ≤ length s
  entity_inside = entity_there.inside

  module _ (p : ℕ) (e : p ≡ past_word s at) where
    pub ancestors_stand : are_names s p ≡ true
    ancestors_stand = names_stand s p _ refl entity_there.below e

    pub ancestors_are : (n q : ℕ) → Listed (string_of path_name) s (names_in s p) n q → Listed (string_of path_name) s (entity_in s at).ancestors n q
    ancestors_are = names_are s p _ refl entity_there.below e

    pub fields_there : (r : ℕ) → Ok r ≡ ending (counted (ascending path_name) s p) → Standing (are_fields s) (fields_in s) (entity_in s at).attributes r
    fields_there r f =
        let i : attributes (type_at levels) s r ≡ got (entity_in s at).attributes (accept _ is).place = rw (names-end s p _ refl entity_there.below e r f) entity_there.fields in
        record { stands = is_accepted i; value = has_value nothing i }

pub ruleset entity_parts = (rules, entity_inside, ancestors_stand, ancestors_are, fields_there)

-- an action, accepted: its type name and id, its principals, its resources and its context
pub record ActionView (s : List ℕ) (at : ℕ) (a : Action) (n : ℕ) : Type 0 where
  pub inside : past_word s at ≤ length s
  pub known : past_word s (past_word s at) ≤ length s
  pub q : ℕ
  pub principals : counted (ascending path_name) s (past_word s (past_word s at)) ≡ got a.principals q
  pub m : ℕ
  pub resources : counted (ascending path_name) s q ≡ got a.resources m
  pub context : type_at levels s m ≡ got a.context n

action_view : (s : List ℕ) (at : ℕ) {a : Action} {n : ℕ} → action none s at ≡ got a n → ActionView s at a n
unfolding action
action_view s at i =
    let a = split (string_of path_name s at) _ i in
    let t = string_view path_name s at a.first in
    let b = split (string_of plain s a.place) _ a.rest in
    let w = string_view plain s a.place b.first in
    let o = split (holds NotAscending (key_after none (record { type = a.value; id = b.value })) b.value s b.place) _ b.rest in
    let here : o.place ≡ past_word s (past_word s at) = sym (held NotAscending (key_after none (record { type = a.value; id = b.value })) s o.first).place ∙ w.place ∙ ap (past_word s) t.place in
    let d = split (counted (ascending path_name) s o.place) _ o.rest in
    let f = split (counted (ascending path_name) s d.place) _ d.rest in
    let g = split (type_at levels s f.place) _ f.rest in
    let v : ActionView s at (record { type = a.value; id = b.value; principals = d.value; resources = f.value; context = g.value }) g.place =
    record {
      inside = rw (← t.place) t.inside;
      known = rw (← ap (past_word s) t.place, ← w.place) w.inside;
      q = d.place;
      principals = rw (← here) d.first;
      m = f.place;
      resources = f.first;
      context = g.first;
    } in
    let u = subst (λ (e : Action). ActionView s at e g.place) (got_value g.rest) v in
    rw (got_place g.rest) at u

module _ (s : List ℕ) (at : ℕ) (is : is_action s at ≡ true) where
  pub action_there : ActionView s at (action_in s at) (accept _ is).place
  action_there = let a = accept _ is in rw (has_value _ a.read) (action_view s at a.read)

  pub type_inside : past_word s at ≤ length s
  type_inside = action_there.inside

  pub id_inside : (p : ℕ) → p ≡ past_word s at → past_word s p ≤ length s
  id_inside p e = rw e action_there.known

  module _ (p : ℕ) (e : p ≡ past_word s (past_word s at)) where
    pub principals_stand : are_names s p ≡ true
    principals_stand = names_stand s p _ refl action_there.principals e

    pub principals_are : (n q : ℕ) → Listed (string_of path_name) s (names_in s p) n q → Listed (string_of path_name) s (action_in s at).principals n q
    principals_are = names_are s p _ refl action_there.principals e

  module _ (p : ℕ) (e : Ok p ≡ ending (counted (ascending path_name) s (past_word s (past_word s at)))) where
    resources_at : p ≡ action_there.q
    resources_at = arrives action_there.principals e refl

    pub resources_stand : are_names s p ≡ true
    resources_stand = names_stand s p _ refl action_there.resources resources_at

    pub resources_are : (n q : ℕ) → Listed (string_of path_name) s (names_in s p) n q → Listed (string_of path_name) s (action_in s at).resources n q
    resources_are = names_are s p _ refl action_there.resources resources_at

    pub context_there : (r : ℕ) → Ok r ≡ ending (counted (ascending path_name) s p) → Standing (is_type s) (type_in s) (action_in s at).context r
    context_there r f =
        let i : type_at levels s r ≡ got (action_in s at).context (accept _ is).place = rw (names-end s p _ refl action_there.resources resources_at r f) action_there.context in
        record { stands = is_accepted i; value = has_value never i }

pub two_on : (s : List ℕ) (at p r : ℕ) → p ≡ past_word s at → r ≡ past_word s p → r ≡ past_word s (past_word s at)
two_on s at p r e f = f ∙ ap (past_word s) e

-- the second list of an action, by the first
pub list_on : (s : List ℕ) (q p r : ℕ) → p ≡ q → Ok r ≡ ending (counted (ascending path_name) s p) → Ok r ≡ ending (counted (ascending path_name) s q)
list_on s q p r e f = f ∙ ap (λ (m : ℕ). ending (counted (ascending path_name) s m)) e

pub ruleset action_parts = (rules, two_on, list_on, type_inside, id_inside, principals_stand, principals_are, resources_stand, resources_are, context_there)
