-- The records of a lookup, its target and its question. Assumes nothing.
use mathlib.Core.Path.{◌≡◌, ap, ◌∙◌}
use mathlib.Core.Bool.{true}
use mathlib.Core.List.{List}
use mathlib.Core.Option.{none, some}
use Prim.Native.Nat.{ℕ}
use borrow.Author.Rules.{rules}
use lib.ListN.{length}
use Rattle.names.specs.Fields.{whole, string_of, number_of}
use Rattle.names.specs.Names.{path_name, plain}
use Rattle.names.specs.Read.{ending, value_or, Listed, Read, Found}
use Rattle.names.specs.Laws.Readers.{accept, passes, refused_by}
use Rattle.names.specs.Laws.Rows.{row_stands, row_value}
use Rattle.reports.specs.Answers.{outcome_of, Refuses}
use Rattle.reports.specs.declared.Answer.{Answer}
use Rattle.schema.specs.Schema.{Schema, Action, schema_record}
use Rattle.schema.specs.Find.{find_action}
use Rattle.schema.specs.Places.{is_schema, schema_in, is_action, action_in, FindsAction}
use Rattle.names.specs.declared.Row.{Row}
use Rattle.targets.specs.Targets.{Targets, target_record}
use Rattle.targets.specs.PathRecord.{Query, path_record, target_at}
use Rattle.targets.specs.Places.{narrowed, are_targets, targets_in, is_target, target_in, is_query, query_in, side_of, Asks, FindsTarget}
use Rattle.targets.specs.declared.Narrowed.{Narrowed}
use Rattle.targets.specs.declared.Side.{Side}
use Rattle.resolution.specs.Resolution.{ScopePath, scope_path, unknown}
use Rattle.resolution.specs.Places.{are_segments, segments_in, are_types, types_in}
use Rattle.resolution.specs.declared.candidates.Candidates.{Candidates}
use Rattle.reports.specs.Placed.{placed}
use Rattle.lookup.specs.Lookup.{on_side_by, on_side, found_by, found, output, answered_by, answered, lookup_by, lookup}
use Rattle.lookup.specs.Places.{answer_on}
use Rattle.std.specs.Prelude.{Ok, Err, Some, None}
use Rattle.names.specs.declared.refusal.Refusal.{Refusal}

-- ---- the question

module _ (c : List ℕ) (count at : ℕ) (is : count ≡ length (query_in c).path) (there : Listed (string_of plain) c (query_in c).path (length (query_in c).path) at) where
  pub path_stands : are_segments c (record { count = count; at = at }) ≡ true
  path_stands = row_stands (string_of plain) c (query_in c).path count at there is

  pub path_value : segments_in c (record { count = count; at = at }) ≡ (query_in c).path
  path_value = row_value (string_of plain) c (query_in c).path count at there is

-- the side that is asked
module _ (s n : List ℕ) (action : ℕ) (x : Side) (o : Narrowed) (row : Row) where
  pub principal_asked : x ≡ Side.Principal → (p : Narrowed × Row) → p ≡ (o, row) → narrowed n o ≡ (targets_in n).scope.principal → Listed (string_of path_name) s (action_in s action).principals row.count row.at → (q : Query) → scope_path (schema_in s) (narrowed n p.0) (types_in s p.1) q.path ≡ on_side (schema_in s) (targets_in n) q (action_in s action) (side_of x)
  unfolding on_side_by
  principal_asked e p is_p is there q = rw (e, is_p, is, ← there.value)

  pub resource_asked : x ≡ Side.Resource → (p : Narrowed × Row) → p ≡ (o, row) → narrowed n o ≡ (targets_in n).scope.resource → Listed (string_of path_name) s (action_in s action).resources row.count row.at → (q : Query) → scope_path (schema_in s) (narrowed n p.0) (types_in s p.1) q.path ≡ on_side (schema_in s) (targets_in n) q (action_in s action) (side_of x)
  unfolding on_side_by
  resource_asked e p is_p is there q = rw (e, is_p, is, ← there.value)

pub side_stands : (s : List ℕ) (names : List (List ℕ)) (row : Row) → Listed (string_of path_name) s names row.count row.at → are_types s row ≡ true
side_stands s names row there = there.stands

-- the path that is asked about
pub asked : (candidates : Candidates) (S : Schema) (T : Targets) (q : Query) (a : Action) (x : Side) → ((q : Query) → answer_on candidates q.path ≡ on_side S T q a (side_of x)) → Asks q.side x → (path : List (List ℕ)) → path ≡ q.path → answer_on candidates path ≡ on_side S T q a q.side
asked candidates S T q a x on side path is = rw is (on q) ∙ ap (on_side S T q a) side.value

pub ruleset asking = (rules, path_stands, path_value, principal_asked, resource_asked, side_stands, asked)

-- ---- the target's action

module _ (s n c : List ℕ) (at : ℕ) (w : List ℕ) (is_w : w ≡ (target_in n at).namespace) (v : List ℕ) (is_v : v ≡ (target_in n at).id) (x : Found) (finds : FindsAction s (find_action (schema_in s) w v) x) where
  pub action_stands : (action : ℕ) → x ≡ Some action → is_action s action ≡ true
  action_stands action e = rw e at finds.stands

  module _ (b t : List ℕ) (a : Answer) where
    pub target_unknown : x ≡ None → outcome_of a t ≡ placed (output unknown) b → outcome_of a t ≡ placed (output (found (schema_in s) (targets_in n) (query_in c) (target_in n at))) b
    unfolding found_by
    target_unknown e i =
        let h : none ≡ find_action (schema_in s) (target_in n at).namespace (target_in n at).id = rw (← is_w, ← is_v) (rw e at finds.value) in
        rw (← h) i

    pub target_found : (action : ℕ) → x ≡ Some action → (o : ScopePath) → o ≡ on_side (schema_in s) (targets_in n) (query_in c) (action_in s action) (query_in c).side → outcome_of a t ≡ placed (output o) b → outcome_of a t ≡ placed (output (found (schema_in s) (targets_in n) (query_in c) (target_in n at))) b
    unfolding found_by
    target_found action e o d i =
        let h : some (action_in s action) ≡ find_action (schema_in s) (target_in n at).namespace (target_in n at).id = rw (← is_w, ← is_v) (rw e at finds.value) in
        rw (← h, ← d) i

pub ruleset targeting = (rules, action_stands, target_unknown, target_found)

-- ---- the position

module _ (s n c : List ℕ) (position : ℕ) (is : position ≡ (query_in c).position) (x : Found) (finds : FindsTarget n (target_at position (targets_in n).list) x) where
  pub position_stands : (at : ℕ) → x ≡ Some at → is_target n at ≡ true
  position_stands at e = rw e at finds.stands

  module _ (b : List ℕ) (a : Answer) where
    pub position_absent : x ≡ None → Refuses 12 3 a → outcome_of a b ≡ answered (schema_in s) (targets_in n) (query_in c) b
    unfolding answered_by
    position_absent e r =
        let h : none ≡ target_at (query_in c).position (targets_in n).list = rw (← is) (rw e at finds.value) in
        rw (← h) (r.is b)

    pub position_found : (at : ℕ) → x ≡ Some at → (t : List ℕ) → outcome_of a t ≡ placed (output (found (schema_in s) (targets_in n) (query_in c) (target_in n at))) b → outcome_of a t ≡ answered (schema_in s) (targets_in n) (query_in c) b
    unfolding answered_by
    position_found at e t i =
        let h : some (target_in n at) ≡ target_at (query_in c).position (targets_in n).list = rw (← is) (rw e at finds.value) in
        rw (← h) i

pub ruleset positions = (rules, position_stands, position_absent, position_found)

-- ---- the records

module _ (s n c b : List ℕ) (x : Read) (is_x : x ≡ ending (whole schema_record s)) where
  pub schema_refused : (r : Refusal) → x ≡ Err r → (a : Answer) → Refuses (number_of r) 1 a → outcome_of a b ≡ lookup s n c b
  unfolding lookup_by
  schema_refused r e a i = rw (refused_by (whole schema_record s) x r is_x e) (i.is b)

  module _ (p : ℕ) (e : x ≡ Ok p) (y : Read) (is_y : y ≡ ending (whole target_record n)) where
    pub targets_refused : (r : Refusal) → y ≡ Err r → (a : Answer) → Refuses (number_of r) 3 a → outcome_of a b ≡ lookup s n c b
    unfolding lookup_by
    targets_refused r d a i =
        let g = accept (whole schema_record s) (passes (whole schema_record s) is_x e) in
        rw (g.read, refused_by (whole target_record n) y r is_y d) (i.is b)

    module _ (p' : ℕ) (e' : y ≡ Ok p') (z : Read) (is_z : z ≡ ending (whole path_record c)) where
      pub path_refused : (r : Refusal) → z ≡ Err r → (a : Answer) → Refuses (number_of r) 4 a → outcome_of a b ≡ lookup s n c b
      unfolding lookup_by
      path_refused r d a i =
          let g = accept (whole schema_record s) (passes (whole schema_record s) is_x e) in
          let h = accept (whole target_record n) (passes (whole target_record n) is_y e') in
          rw (g.read, h.read, refused_by (whole path_record c) z r is_z d) (i.is b)

-- what is read in full is a record
pub schema_read : (s : List ℕ) (x : Read) → x ≡ ending (whole schema_record s) → (p : ℕ) → x ≡ Ok p → is_schema s ≡ true
schema_read s x is p e = passes (whole schema_record s) is e

pub targets_read : (n : List ℕ) (x : Read) → x ≡ ending (whole target_record n) → (p : ℕ) → x ≡ Ok p → are_targets n ≡ true
targets_read n x is p e = passes (whole target_record n) is e

pub query_read : (c : List ℕ) (x : Read) → x ≡ ending (whole path_record c) → (p : ℕ) → x ≡ Ok p → is_query c ≡ true
query_read c x is p e = passes (whole path_record c) is e

pub all_answered : (s n c b : List ℕ) → is_schema s ≡ true → are_targets n ≡ true → is_query c ≡ true → (a : Answer) (t : List ℕ) → outcome_of a t ≡ answered (schema_in s) (targets_in n) (query_in c) b → outcome_of a t ≡ lookup s n c b
unfolding lookup_by value_or
all_answered s n c b is are is' a t i =
    let x = accept (whole schema_record s) is in
    let y = accept (whole target_record n) are in
    let z = accept (whole path_record c) is' in
    i ∙ rw (x.read, y.read, z.read)

pub ruleset reading = (rules, schema_refused, targets_refused, path_refused, schema_read, targets_read, query_read, all_answered)
