-- The actions of an accepted schema, looked up by namespace and id. Assumes nothing.
use mathlib.Core.Path.{◌≡◌, sym, ap, ◌∙◌}
use mathlib.Core.Bool.{Bool, true, false, ◌&&◌, and-false, and-true}
use mathlib.Core.List.{List, []}
use mathlib.Core.Option.{Option, none}
use Prim.Native.Nat.{ℕ, ◌+◌, ◌-◌, ◌≤◌, ◌<◌}
use native.Mathlib.Omega.{arith}
use borrow.Author.Rules.{rules}
use Rattle.names.specs.Lists.{first}
use Rattle.names.specs.Fields.{got}
use Rattle.names.specs.Names.{same}
use Rattle.names.specs.Read.{ending, word_at}
use Rattle.names.specs.Laws.Readers.{accept, has_value, RowLeft}
use Rattle.names.specs.declared.Row.{Row}
use Rattle.schema.specs.Schema.{Action, Key, action, key_of}
use Rattle.schema.specs.Find.{action_type, find_action}
use Rattle.schema.specs.Places.{past_word, no_action, is_action, schema_in, FindsAction, ActionsOf, is_of}
use Rattle.schema.proofs.Rows.{action_word}
use Rattle.schema.proofs.Search.{search_over, search_stands, search_found, search_on}
use Rattle.schema.proofs.Views.{free_action}
use Rattle.std.specs.Prelude.{Ok, Some, None}

-- One action: its id, then its type name.
module _ (s type id : List ℕ) (at : ℕ) (v : List ℕ) (is_v : v ≡ word_at s (past_word s at)) (b : Bool) (is_b : b ≡ same v id) where
  pub other_id : b ≡ false → false ≡ (same (word_at s at) type && same (word_at s (past_word s at)) id)
  other_id e = rw (← is_v, ← is_b, e, and-false)

  pub by_type : b ≡ true → (w : List ℕ) → w ≡ word_at s at → (r : Bool) → r ≡ same w type → r ≡ (same (word_at s at) type && same (word_at s (past_word s at)) id)
  by_type e w is_w r is_r = rw (← is_v, ← is_b, e, ← is_w, and-true) is_r

pub ruleset one_action = (rules, other_id, by_type)

-- what is left of the row of actions
abbrev pub Actions : List ℕ → List ℕ → List ℕ → Option Action → ℕ → ℕ → Type 0
Actions s ns id o n at = RowLeft key_of action (is_of ns id) s o n at

pub actions_start : (s ns id : List ℕ) (r : Row) → ActionsOf s r → Actions s ns id (find_action (schema_in s) ns id) (r.count - 0) r.at
unfolding find_action
actions_start s ns id r l =
    let a = accept _ l.stands in
    let all : r.count - 0 ≡ r.count = omega arith in
    record { before = none; things = a.value; place = a.place; read = rw all a.read; answer = ap (first (is_of ns id)) (sym (has_value [] a.read) ∙ l.value) }

module _ (s ns id : List ℕ) (o : Option Action) where
  pub action_none : (end i at : ℕ) → end ≤ i → Actions s ns id o (end - i) at → FindsAction s o None
  action_none end i at h l = search_over key_of action (is_of ns id) no_action s o (end - i) at (omega arith) l

  pub action_stands : (end i at : ℕ) → i < end → Actions s ns id o (end - i) at → is_action s at ≡ true
  action_stands end i at h l = search_stands key_of action (is_of ns id) no_action s o (free_action s) (end - i) at (omega arith) l

  module _ (end i at : ℕ) (h : i < end) (l : Actions s ns id o (end - i) at) (b : Bool) (is_b : b ≡ (same (word_at s at) (action_type ns) && same (word_at s (past_word s at)) id)) where
    tested : (a : Action) (m : ℕ) → action none s at ≡ got a m → is_of ns id a ≡ b
    tested a m q = ap (λ (k : Key). same k.type (action_type ns) && same k.id id) (action_word none s at q) ∙ sym is_b

    pub action_found : b ≡ true → FindsAction s o (Some at)
    action_found e = search_found key_of action (is_of ns id) no_action s o (free_action s) (end - i) at (omega arith) l b tested e

    pub action_on : b ≡ false → (m : ℕ) → Ok m ≡ ending (action none s at) → Actions s ns id o (end - (i + 1)) m
    action_on e m f =
        let left : end - (i + 1) ≡ (end - i) - 1 = omega arith in
        rw left (search_on key_of action (is_of ns id) no_action s o (free_action s) (end - i) at (omega arith) l b tested e m f)

pub ruleset action_search = (rules, actions_start, action_none, action_stands, action_found, action_on)
