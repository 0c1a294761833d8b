-- Entity types ascend by name, so that a search by names that ascend goes on from where it ended. Assumes nothing.
use mathlib.Core.Path.{◌≡◌, refl, sym, ap, ◌∙◌}
use mathlib.Core.Bool.{Bool, true, false, cond, false≢true}
use mathlib.Core.List.{List, [], ◌∷◌}
use mathlib.Core.Option.{Option, none, some}
use Prim.Native.Nat.{ℕ, zero, suc, ◌-◌, ◌≤◌, ◌<◌}
use native.Mathlib.Numerals.{sub-one}
use native.Mathlib.Omega.{arith}
use lib.ListN.{take, drop}
use borrow.Author.Rules.{rules}
use borrow.Author.Tests.{ne_eqb}
use Rattle.names.specs.Lists.{first}
use Rattle.names.specs.Fields.{got, number, many, string_of}
use Rattle.names.specs.Names.{same, below, path_name}
use Rattle.names.specs.Read.{ending, value_or, word_at}
use Rattle.names.specs.Laws.Names.{same_eq, order_refl, below_order, below_trans}
use Rattle.names.specs.Laws.Readers.{Keeps, accept, is_accepted, has_value, got_value, arrives, split, held, next_wider}
use Rattle.names.specs.declared.Row.{Row}
use Rattle.schema.specs.Schema.{EntityType, Schema, after, ascending, entity_type}
use Rattle.schema.specs.Find.{find_entity}
use Rattle.schema.specs.Places.{no_entity, schema_in, is_schema, is_entity, entities_at, are_entities, entities_in, EntitiesOf, serves, Nearby, Serving, Near, FindsEntity}
use Rattle.schema.specs.Laws.ByKind.{ascending_word}
use Rattle.schema.specs.Laws.Nearby.{is_named, all_serve, nearby_all}
use Rattle.schema.proofs.Rows.{entity_word}
use Rattle.schema.proofs.Views.{name_of, schema_view, free_entity}
use Rattle.std.specs.Prelude.{Ok, Some, None}
use Rattle.names.specs.declared.refusal.Refusal.TheVariants.{NotAscending}

-- a name is not before itself, and one before another is not the same
not_itself : (v w : List ℕ) → below w v ≡ true → same v w ≡ false
not_itself v w h = go (same v w) refl
  where
    itself : below w w ≡ false
    itself = below_order w w ∙ rw order_refl

    go : (b : Bool) → same v w ≡ b → b ≡ false
    go true e = absurd (false≢true (sym itself ∙ ap (below w) (sym (same_eq v w e)) ∙ h))
    go false e = refl

-- a name that is not before one, is not before those before that one, nor the same
not_before : (v u w : List ℕ) → below u w ≡ true → below v w ≡ false → below v u ≡ false
not_before v u w h k = go (below v u) refl
  where
    go : (b : Bool) → below v u ≡ b → b ≡ false
    go true e = absurd (false≢true (sym k ∙ below_trans v u w e h))
    go false e = refl

not_same : (v u w : List ℕ) → below u w ≡ true → below v w ≡ false → same u v ≡ false
not_same v u w h k = go (same u v) refl
  where
    go : (b : Bool) → same u v ≡ b → b ≡ false
    go true e = absurd (false≢true (sym k ∙ ap (λ (x : List ℕ). below x w) (sym (same_eq u v e)) ∙ h))
    go false e = refl

-- an entity type stands after the one before it
entity_after : (v : List ℕ) (s : List ℕ) (at : ℕ) {e : EntityType} {n : ℕ} → entity_type (some v) s at ≡ got e n → below v e.name ≡ true
unfolding entity_type ascending after
entity_after v s at {e} {n} h =
    let a = split (ascending path_name (some v) s at) _ h in
    let w = split (string_of path_name s at) _ a.first in
    let o = held NotAscending (below v w.value) s w.rest in
    let i : w.value ≡ e.name = o.value ∙ ascending_word path_name (some v) s at a.first ∙ sym (entity_word (some v) s at h) in
    rw i at o.passed

module _ (s : List ℕ) where
  -- a row read after another is read as a first one too
  free_row : (n : ℕ) (before : Option (List ℕ)) (at : ℕ) → Keeps (many name_of entity_type n before s at) (entities_at n s at)
  unfolding many
  free_row zero before at es p e = e
  free_row (suc n) before at es p e = next_wider (entity_type before s at) (entity_type none s at) _ _ (free_entity s before at) (λ _ _ _ _ i. i) es p e

  -- behind a name no entity type has one before it
  none_behind : (n : ℕ) (v w : List ℕ) (at : ℕ) {es : List EntityType} {p : ℕ} → below w v ≡ true → many name_of entity_type n (some v) s at ≡ got es p → first (is_named w) es ≡ none
  unfolding many first
  none_behind zero v w at h e = rw (← got_value e)
  none_behind (suc n) v w at {es} {p} h e =
      let a = split (entity_type (some v) s at) _ e in
      let b = split (many name_of entity_type n (some a.value.name) s a.place) _ a.rest in
      let k : below w a.value.name ≡ true = below_trans w v a.value.name h (entity_after v s at a.first) in
      let i = none_behind n a.value.name w a.place k b.first in
      rw (← got_value b.rest, not_itself a.value.name w k, i)

  -- nor has one from the first on, where that is behind the name
  none_from : (n : ℕ) (before : Option (List ℕ)) (w : List ℕ) (at : ℕ) {es : List EntityType} {p : ℕ} → below w (word_at s at) ≡ true → many name_of entity_type n before s at ≡ got es p → first (is_named w) es ≡ none
  unfolding many first
  none_from zero before w at h e = rw (← got_value e)
  none_from (suc n) before w at {es} {p} h e =
      let a = split (entity_type before s at) _ e in
      let b = split (many name_of entity_type n (some a.value.name) s a.place) _ a.rest in
      let k : below w a.value.name ≡ true = ap (below w) (entity_word before s at a.first) ∙ h in
      let i = none_behind n a.value.name w a.place k b.first in
      rw (← got_value b.rest, not_itself a.value.name w k, i)

  none_left : (n : ℕ) (before : Option (List ℕ)) (test : EntityType → Bool) (at : ℕ) {es : List EntityType} {p : ℕ} → n ≤ 0 → many name_of entity_type n before s at ≡ got es p → first test es ≡ none
  unfolding many first
  none_left zero before test at h e = rw (← got_value e)
  none_left (suc n) before test at h e = absurd (omega arith)

  -- the first of a row stands after the name before it
  next_after : (n : ℕ) (v : List ℕ) (at : ℕ) {es : List EntityType} {p : ℕ} → 0 < n → many name_of entity_type n (some v) s at ≡ got es p → below v (word_at s at) ≡ true
  unfolding many
  next_after zero v at h e = absurd (omega arith)
  next_after (suc n) v at h e =
      let a = split (entity_type (some v) s at) _ e in
      ap (below v) (sym (entity_word (some v) s at a.first)) ∙ entity_after v s at a.first

  -- A row, accepted: its first entity type and the others.
  record Front (n at : ℕ) : Type 0 where
    own : EntityType
    p : ℕ
    here : entity_type none s at ≡ got own p
    others : List EntityType
    end : ℕ
    rest : many name_of entity_type (n - 1) (some own.name) s p ≡ got others end
    all : entities_in s (record { count = n; at = at }) ≡ own ∷ others

  front : (n at : ℕ) → 0 < n → are_entities s n at ≡ true → Front n at
  unfolding many
  front zero at h is = absurd (omega arith)
  front (suc n) at h is =
      let w = accept _ is in
      let a = split (entity_type none s at) _ w.read in
      let b = split (many name_of entity_type n (some a.value.name) s a.place) _ a.rest in
      record {
        own = a.value;
        p = a.place;
        here = a.first;
        others = b.value;
        end = b.place;
        rest = rw sub-one b.first;
        all = has_value [] w.read ∙ sym (got_value b.rest);
      }

  -- Each exit and each turn of the search.
  pub row_read : is_schema s ≡ true → (n : ℕ) → n ≡ number 0 (take 2 (drop 5 s)) → EntitiesOf s (record { count = n; at = 7 })
  row_read is n e =
      let v = schema_view s is in
      let i : entities_at n s 7 ≡ got v.es v.p = ap (λ (k : ℕ). many name_of entity_type k none s 7) e ∙ v.entities in
      record { stands = is_accepted i; value = has_value [] i ∙ ap (λ (t : Schema). t.entities) v.tree }

  module _ (name : List ℕ) where
    pub begin_front : (r : Row) → EntitiesOf s r → Serving s name r
    begin_front r l = record { row = nearby_all s r l; same = all_serve s r l name }

    pub begin_there : (r : Row) → Nearby s r → (w : List ℕ) → w ≡ word_at s r.at → (b : Bool) → b ≡ below name w → b ≡ false → Serving s name r
    begin_there r l w is_w b is_b e = record { row = l; same = l.behind name (ap (below name) (sym is_w) ∙ sym is_b ∙ e) }

    pub near_stands : (n at : ℕ) → 1 < n → Serving s name (record { count = n; at = at }) → is_entity s at ≡ true
    near_stands n at h l = is_accepted (front n at (omega arith) l.row.stands).here

    -- the first entity type of what is left is the one, where none behind it is
    ends : (n at : ℕ) (l : Serving s name (record { count = n; at = at })) → ((f : Front n at) → 0 < n → first (is_named name) f.others ≡ none) → Near s name (record { count = n; at = at })
    unfolding many first value_or
    ends zero at l over = record { row = l.row; finds = record { value = l.same; stands = refl } }
    ends (suc n) at l over = let f = front (suc n) at (omega arith) l.row.stands in record { row = l.row; finds = rw (ne_eqb (suc n) 0 (λ e. omega arith)) (go f (same (word_at s at) name) refl) }
      where
        go : (f : Front (suc n) at) (b : Bool) → same (word_at s at) name ≡ b → FindsEntity s (find_entity (schema_in s) name) (cond b (Some at) None)
        go f b e = by b (rw (f.all, ap (λ (v : List ℕ). same v name) (entity_word none s at f.here) ∙ e, over f (omega arith)) at l.same)
          where
            by : (b : Bool) → cond b (some f.own) none ≡ find_entity (schema_in s) name → FindsEntity s (find_entity (schema_in s) name) (cond b (Some at) None)
            by true i = record { value = ap some (has_value no_entity f.here) ∙ i; stands = is_accepted f.here }
            by false i = record { value = i; stands = refl }

    pub near_last : (n at : ℕ) → n ≤ 1 → Serving s name (record { count = n; at = at }) → Near s name (record { count = n; at = at })
    near_last n at h l = ends n at l (λ f k. none_left (n - 1) (some f.own.name) (is_named name) f.p (omega arith) f.rest)

    module _ (n at : ℕ) (h : 1 < n) (l : Serving s name (record { count = n; at = at })) (m : ℕ) (i : Ok m ≡ ending (entity_type none s at)) (w : List ℕ) (is_w : w ≡ word_at s m) (b : Bool) (is_b : b ≡ below name w) where
      tested : (d : Bool) → b ≡ d → below name (word_at s m) ≡ d
      tested d e = ap (below name) (sym is_w) ∙ sym is_b ∙ e

      behind_first : (f : Front n at) → many name_of entity_type (n - 1) (some f.own.name) s m ≡ got f.others f.end
      behind_first f = rw (arrives f.here i refl) f.rest

      pub near_here : b ≡ true → Near s name (record { count = n; at = at })
      near_here e = ends n at l (λ f k. none_from (n - 1) (some f.own.name) name m (tested true e) (behind_first f))

      pub near_on : b ≡ false → Serving s name (record { count = n - 1; at = m })
      unfolding first
      near_on e =
          let f = front n at (omega arith) l.row.stands in
          let r : entities_at (n - 1) s m ≡ got f.others f.end = free_row (n - 1) (some f.own.name) m f.others f.end (behind_first f) in
          let k : below f.own.name (word_at s m) ≡ true = next_after (n - 1) f.own.name m (omega arith) (behind_first f) in
          let serve : (v : List ℕ) → below v (word_at s m) ≡ false → serves s (record { count = n - 1; at = m }) v = λ v g. on f v k g (has_value [] r) in
          record { row = record { stands = is_accepted r; behind = serve }; same = serve name (tested false e) }
        where
          on : (f : Front n at) (v : List ℕ) → below f.own.name (word_at s m) ≡ true → below v (word_at s m) ≡ false → entities_in s (record { count = n - 1; at = m }) ≡ f.others → serves s (record { count = n - 1; at = m }) v
          on f v k g o =
              let d : below v (word_at s at) ≡ false = ap (below v) (sym (entity_word none s at f.here)) ∙ not_before v f.own.name (word_at s m) k g in
              let a : first (is_named v) (f.own ∷ f.others) ≡ find_entity (schema_in s) v = ap (first (is_named v)) (sym f.all) ∙ l.row.behind v d in
              ap (first (is_named v)) o ∙ rw (not_same v f.own.name (word_at s m) k g) at a

-- The entity type where the search ended.
module _ (s name : List ℕ) (r : Row) (l : Near s name r) where
  pub here_over : r.count ≡ 0 → FindsEntity s (find_entity (schema_in s) name) None
  here_over e = rw e at l.finds

  module _ (h : r.count ≡ 0 → ⊥) (w : List ℕ) (is_w : w ≡ word_at s r.at) (b : Bool) (is_b : b ≡ same w name) where
    pub here_found : b ≡ true → FindsEntity s (find_entity (schema_in s) name) (Some r.at)
    here_found e = rw (ne_eqb r.count 0 h, ← is_w, ← is_b, e) at l.finds

    pub here_other : b ≡ false → FindsEntity s (find_entity (schema_in s) name) None
    here_other e = rw (ne_eqb r.count 0 h, ← is_w, ← is_b, e) at l.finds

pub ruleset here = (rules, here_over, here_found, here_other)

pub ruleset following = (rules, row_read, begin_front, begin_there, near_stands, near_last, near_here, near_on)
