-- Names, entity types and actions in their rows: each exit and each turn of their readers. Assumes nothing.
use mathlib.Core.Path.{◌≡◌, sym, ap, ◌∙◌}
use mathlib.Core.Bool.{Bool, true, false}
use mathlib.Core.List.{List}
use mathlib.Core.Option.{Option, none}
use Prim.Native.Nat.{ℕ, ◌+◌, ◌-◌, ◌≤◌, ◌<◌}
use lib.ListN.{length, get_or}
use borrow.Author.Rules.{rules}
use Rattle.names.specs.Fields.{got, holds, many, counted, string_of, levels}
use Rattle.names.specs.Names.{path_name, plain, below, same}
use Rattle.names.specs.Read.{ending, earlier, word_at, Read, Found}
use Rattle.names.specs.Laws.Readers.{u8-end, u8_got, last, stops, goes, split, string_view, row_done, row_stops, row_turn, got_value}
use Rattle.schema.specs.Schema.{EntityType, Action, Key, ascending, type_at, attributes, entity_type, key_after, key_of, action}
use Rattle.schema.specs.Places.{key_at, earlier_key}
use Rattle.schema.specs.Laws.ByKind.{ascending_word}
use Rattle.std.specs.Prelude.{Ok, Err, Some, None}
use Rattle.names.specs.declared.refusal.Refusal.{Refusal}
use Rattle.names.specs.declared.refusal.Refusal.TheVariants.{Cut, NotAscending}

-- A count of path names.
module _ (s : List ℕ) where
  pub names-end : (at : ℕ) → length s ≤ at → Err Cut ≡ ending (counted (ascending path_name) s at)
  unfolding counted ending
  names-end at h = rw (u8-end s at h)

  pub names_start : (at n : ℕ) → at < length s → n ≡ get_or s at 0 → ending (counted (ascending path_name) s at) ≡ ending (many (λ w. w) (ascending path_name) n none s (at + 1))
  unfolding counted
  names_start at n h e = rw (u8_got s at h, ← e)

  module _ (whole : Read) (end i at : ℕ) (b : Found) (inv : whole ≡ ending (many (λ w. w) (ascending path_name) (end - i) (earlier s b) s at)) where
    pub names_done : end ≤ i → Ok at ≡ whole
    names_done h = row_done _ _ s whole end i at _ inv h

    module _ (h : i < end) (x : Read) (is : x ≡ ending (ascending path_name (earlier s b) s at)) where
      pub names_stop : (r : Refusal) → x ≡ Err r → Err r ≡ whole
      names_stop r e = row_stops _ _ s whole end i at _ inv h x is r e

      pub names_turn : (m : ℕ) → x ≡ Ok m → whole ≡ ending (many (λ w. w) (ascending path_name) (end - (i + 1)) (earlier s (Some at)) s m)
      names_turn m e = row_turn _ _ s whole end i at _ inv h x is m e _ λ w d. ascending_word _ _ s at d

-- An entity type.
module _ (s : List ℕ) (at : ℕ) (b : Found) (x : Read) (is : x ≡ ending (ascending path_name (earlier s b) s at)) where
  pub entity_unnamed : (r : Refusal) → x ≡ Err r → Err r ≡ ending (entity_type (earlier s b) s at)
  unfolding entity_type
  entity_unnamed r e = stops _ _ e is

  module _ (n : ℕ) (e : x ≡ Ok n) (y : Read) (is' : y ≡ ending (counted (ascending path_name) s n)) where
    pub entity_ancestors : (r : Refusal) → y ≡ Err r → Err r ≡ ending (entity_type (earlier s b) s at)
    unfolding entity_type
    entity_ancestors r f = goes _ _ e is λ w d. stops _ _ f is'

    pub entity_read : (m : ℕ) → y ≡ Ok m → (z : Read) → z ≡ ending (attributes (type_at levels) s m) → z ≡ ending (entity_type (earlier s b) s at)
    unfolding entity_type
    entity_read m f z is'' = goes _ _ e is λ w d. goes _ _ f is' λ ws d'. is'' ∙ last _ _

-- an entity type, accepted: its name is the string there
pub entity_word : (before : Option (List ℕ)) (s : List ℕ) (at : ℕ) {e : EntityType} {n : ℕ} → entity_type before s at ≡ got e n → e.name ≡ word_at s at
unfolding entity_type
entity_word before s at {e} {n} h =
    let a = split (ascending path_name before s at) _ h in
    let b = split (counted (ascending path_name) s a.place) _ a.rest in
    let d = split (attributes (type_at levels) s b.place) _ b.rest in
    let w = ascending_word _ _ s at a.first in
    sym (ap (λ (e : EntityType). e.name) (got_value d.rest)) ∙ w

module _ (s : List ℕ) (whole : Read) (end i at : ℕ) (b : Found) (inv : whole ≡ ending (many (λ e. e.name) entity_type (end - i) (earlier s b) s at)) where
  pub entities_done : end ≤ i → Ok at ≡ whole
  entities_done h = row_done _ _ s whole end i at _ inv h

  module _ (h : i < end) (x : Read) (is : x ≡ ending (entity_type (earlier s b) s at)) where
    pub entities_stop : (r : Refusal) → x ≡ Err r → Err r ≡ whole
    entities_stop r e = row_stops _ _ s whole end i at _ inv h x is r e

    pub entities_turn : (m : ℕ) → x ≡ Ok m → whole ≡ ending (many (λ e. e.name) entity_type (end - (i + 1)) (earlier s (Some at)) s m)
    entities_turn m e = row_turn _ _ s whole end i at _ inv h x is m e _ λ w d. entity_word _ s at d

-- An action.
module _ (s : List ℕ) (b : Found) where
  pub key_first : (at : ℕ) → b ≡ None → true ≡ key_after (earlier_key s b) (key_at s at)
  unfolding key_after
  key_first at e = rw e

  pub key_later : (at p : ℕ) → b ≡ Some p → (r : Bool) → r ≡ key_after (earlier_key s (Some p)) (key_at s at) → r ≡ key_after (earlier_key s b) (key_at s at)
  key_later at p e r h = rw e h

module _ (s : List ℕ) (p at : ℕ) (v w : List ℕ) (is_v : v ≡ word_at s p) (is_w : w ≡ word_at s at) (x : Bool) (is_x : x ≡ below v w) where
  pub type_below : x ≡ true → true ≡ key_after (earlier_key s (Some p)) (key_at s at)
  unfolding key_after
  type_below e = rw (← is_v, ← is_w, ← is_x, e)

  module _ (e : x ≡ false) (y : Bool) (is_y : y ≡ same v w) where
    pub type_above : y ≡ false → false ≡ key_after (earlier_key s (Some p)) (key_at s at)
    unfolding key_after
    type_above f = rw (← is_v, ← is_w, ← is_x, e, ← is_y, f)

    pub id_below : y ≡ true → (i j : List ℕ) → i ≡ word_at s (p + 1 + get_or s p 0) → j ≡ word_at s (at + 1 + get_or s at 0) → (r : Bool) → r ≡ below i j → r ≡ key_after (earlier_key s (Some p)) (key_at s at)
    unfolding key_after
    id_below f i j is_i is_j r is_r = rw (← is_v, ← is_w, ← is_x, e, ← is_y, f, ← is_i, ← is_j) is_r

-- the key that the two strings of an action make
action_key : (s : List ℕ) (at : ℕ) {t i : List ℕ} {n m : ℕ} → string_of path_name s at ≡ got t n → string_of plain s n ≡ got i m → ◌≡◌ {A = Key} (record { type = t; id = i }) (key_at s at)
action_key s at d d' =
    let u = string_view _ s at d in
    let v = string_view _ s _ d' in
    rw (u.word, v.word, u.place)

module _ (s : List ℕ) (at : ℕ) (b : Found) (x : Read) (is : x ≡ ending (string_of path_name s at)) where
  pub action_untyped : (r : Refusal) → x ≡ Err r → Err r ≡ ending (action (earlier_key s b) s at)
  unfolding action
  action_untyped r e = stops _ _ e is

  module _ (n : ℕ) (e : x ≡ Ok n) (y : Read) (is' : y ≡ ending (string_of plain s n)) where
    pub action_unnamed : (r : Refusal) → y ≡ Err r → Err r ≡ ending (action (earlier_key s b) s at)
    unfolding action
    action_unnamed r f = goes _ _ e is λ t d. stops _ _ f is'

    module _ (m : ℕ) (f : y ≡ Ok m) (o : Bool) (is_o : o ≡ key_after (earlier_key s b) (key_at s at)) where
      order : {t i : List ℕ} → string_of path_name s at ≡ got t n → string_of plain s n ≡ got i m → key_after (earlier_key s b) (record { type = t; id = i }) ≡ o
      order d d' = ap (key_after (earlier_key s b)) (action_key s at d d') ∙ sym is_o

      pub action_order : o ≡ false → Err NotAscending ≡ ending (action (earlier_key s b) s at)
      unfolding action ending
      action_order g = goes _ _ e is λ t d. goes _ _ f is' λ i d'. rw (order d d', g)

      module _ (g : o ≡ true) (z : Read) (is_z : z ≡ ending (counted (ascending path_name) s m)) where
        pub action_principals : (r : Refusal) → z ≡ Err r → Err r ≡ ending (action (earlier_key s b) s at)
        unfolding action
        action_principals r h = goes _ _ e is λ t d. goes _ _ f is' λ i d'. rw (order d d', g) (stops _ _ h is_z)

        module _ (p : ℕ) (h : z ≡ Ok p) (u : Read) (is_u : u ≡ ending (counted (ascending path_name) s p)) where
          pub action_resources : (r : Refusal) → u ≡ Err r → Err r ≡ ending (action (earlier_key s b) s at)
          unfolding action
          action_resources r k = goes _ _ e is λ t d. goes _ _ f is' λ i d'. rw (order d d', g) (goes _ _ h is_z λ ps _. stops _ _ k is_u)

          pub action_read : (q : ℕ) → u ≡ Ok q → (v : Read) → v ≡ ending (type_at levels s q) → v ≡ ending (action (earlier_key s b) s at)
          unfolding action
          action_read q k v is_v = goes _ _ e is λ t d. goes _ _ f is' λ i d'. rw (order d d', g) (goes _ _ h is_z λ ps _. goes _ _ k is_u λ rs _. is_v ∙ last _ _)

-- an action, accepted: its key is the one there
pub action_word : (before : Option Key) (s : List ℕ) (at : ℕ) {e : Action} {n : ℕ} → action before s at ≡ got e n → key_of e ≡ key_at s at
unfolding action
action_word before s at {e} {n} h =
    let a = split (string_of path_name s at) _ h in
    let b = split (string_of plain s a.place) _ a.rest in
    let o = split (holds NotAscending (key_after before (record { type = a.value; id = b.value })) b.value s b.place) _ b.rest in
    let d = split (counted (ascending path_name) s o.place) _ o.rest in
    let f = split (counted (ascending path_name) s d.place) _ d.rest in
    let g = split (type_at levels s f.place) _ f.rest in
    sym (ap key_of (got_value g.rest)) ∙ action_key s at a.first b.first

module _ (s : List ℕ) (whole : Read) (end i at : ℕ) (b : Found) (inv : whole ≡ ending (many key_of action (end - i) (earlier_key s b) s at)) where
  pub actions_done : end ≤ i → Ok at ≡ whole
  actions_done h = row_done _ _ s whole end i at _ inv h

  module _ (h : i < end) (x : Read) (is : x ≡ ending (action (earlier_key s b) s at)) where
    pub actions_stop : (r : Refusal) → x ≡ Err r → Err r ≡ whole
    actions_stop r e = row_stops _ _ s whole end i at _ inv h x is r e

    pub actions_turn : (m : ℕ) → x ≡ Ok m → whole ≡ ending (many key_of action (end - (i + 1)) (earlier_key s (Some at)) s m)
    actions_turn m e = row_turn _ _ s whole end i at _ inv h x is m e _ λ w d. action_word _ s at d

pub ruleset rows = (rules, names-end, names_start, names_done, names_stop, names_turn, entity_unnamed, entity_ancestors, entity_read, entities_done, entities_stop, entities_turn)

pub ruleset keys = (rules, type_below, type_above, id_below)

pub ruleset actions = (rules, key_first, key_later, action_untyped, action_unnamed, action_order, action_principals, action_resources, action_read, actions_done, actions_stop, actions_turn)
