-- `schema::read::read_schema` meets its contract. Assumes nothing.
use mathlib.Core.Path.{◌≡◌, sym, ap, ◌∙◌}
use mathlib.Core.List.{List, [], ◌∷◌}
use mathlib.Core.Option.{none}
use Prim.Native.Nat.{ℕ}
use lib.ListN.{take, drop}
use borrow.Author.Rules.{rules}
use Rattle.names.specs.Fields.{got, heading, u16, number, many, finished, whole}
use Rattle.names.specs.Read.{ending, Read}
use Rattle.names.specs.Laws.Readers.{stops, goes, u16_value}
use Rattle.names.specs.Laws.Records.{start_stops, start_goes, at-end}
use Rattle.schema.specs.Schema.{entity_type, action, key_of, schema_record}
use Rattle.schema.proofs.Views.{name_of}
use Rattle.std.specs.Prelude.{Ok, Err}
use Rattle.names.specs.declared.refusal.Refusal.{Refusal}
use Rattle.names.specs.Laws.Readers.{handed_on}
use Rattle.schema.proofs.read.read_schema.Goals as goal

module _ (s : List ℕ) (x : Read) (is_x : x ≡ ending (whole (heading (68 ∷ 87 ∷ 83 ∷ []) 1) s)) where
  no_heading : (r : Refusal) → x ≡ Err r → Err r ≡ ending (whole schema_record s)
  unfolding schema_record
  no_heading r e = start_stops _ _ s _ x is_x r e

  module _ (at : ℕ) (e : x ≡ Ok at) (y : Read) (is_y : y ≡ ending (u16 s at)) where
    no_entity_count : (r : Refusal) → y ≡ Err r → Err r ≡ ending (whole schema_record s)
    unfolding schema_record
    no_entity_count r f = start_goes _ _ s _ x is_x at e λ _ _. stops _ _ f is_y

    module _ (n : ℕ) (f : y ≡ Ok n) (v : ℕ) (is_v : v ≡ number 0 (take 2 (drop at s))) (z : Read) (is_z : z ≡ ending (many name_of entity_type v none s n)) where
      entities_are : {k : ℕ} → u16 s at ≡ got k n → z ≡ ending (many name_of entity_type k none s n)
      entities_are d = is_z ∙ ap (λ (k : ℕ). ending (many name_of entity_type k none s n)) (is_v ∙ sym (u16_value s at d))

      no_entities : (r : Refusal) → z ≡ Err r → Err r ≡ ending (whole schema_record s)
      unfolding schema_record
      no_entities r g = start_goes _ _ s _ x is_x at e λ _ _. goes _ _ f is_y λ k d. stops _ _ g (entities_are d)

      module _ (m : ℕ) (g : z ≡ Ok m) (u : Read) (is_u : u ≡ ending (u16 s m)) where
        no_action_count : (r : Refusal) → u ≡ Err r → Err r ≡ ending (whole schema_record s)
        unfolding schema_record
        no_action_count r i = start_goes _ _ s _ x is_x at e λ _ _. goes _ _ f is_y λ k d. goes _ _ g (entities_are d) λ es _. stops _ _ i is_u

        module _ (p : ℕ) (i : u ≡ Ok p) (w : ℕ) (is_w : w ≡ number 0 (take 2 (drop m s))) (q : Read) (is_q : q ≡ ending (many key_of action w none s p)) where
          actions_are : {k : ℕ} → u16 s m ≡ got k p → q ≡ ending (many key_of action k none s p)
          actions_are d = is_q ∙ ap (λ (k : ℕ). ending (many key_of action k none s p)) (is_w ∙ sym (u16_value s m d))

          no_actions : (r : Refusal) → q ≡ Err r → Err r ≡ ending (whole schema_record s)
          unfolding schema_record
          no_actions r j = start_goes _ _ s _ x is_x at e λ _ _. goes _ _ f is_y λ k d. goes _ _ g (entities_are d) λ es _. goes _ _ i is_u λ l d'. stops _ _ j (actions_are d')

          to_the_end : (end : ℕ) → q ≡ Ok end → (o : Read) → o ≡ ending (finished end s end) → o ≡ ending (whole schema_record s)
          unfolding schema_record
          to_the_end end j o is_o = start_goes _ _ s _ x is_x at e λ _ _. goes _ _ f is_y λ k d. goes _ _ g (entities_are d) λ es _. goes _ _ i is_u λ l d'. goes _ _ j (actions_are d') λ acts _. at-end _ s end o is_o

ruleset steps = (rules, no_heading, no_entity_count, no_entities, no_action_count, no_actions, to_the_end)

pub returns-in_err-at : goal.returns-in_err-at
returns-in_err-at c = handed_on c.from_residual.ensures.1 (search (steps, c.in_err-at.was))

pub returns-in_err-n : goal.returns-in_err-n
returns-in_err-n c = handed_on c.from_residual-in_err-n.ensures.1 (search (steps, c.in_ok-at.was, c.in_err-n.was))

pub returns-in_err-m : goal.returns-in_err-m
returns-in_err-m c = handed_on c.from_residual-in_err-m.ensures.1 (search (steps, c.in_ok-at.was, c.in_ok-n.was, c.in_err-m.was))

pub returns-in_err-p : goal.returns-in_err-p
returns-in_err-p c = handed_on c.from_residual-in_err-p.ensures.1 (search (steps, c.in_ok-at.was, c.in_ok-n.was, c.in_ok-m.was, c.in_err-p.was))

pub returns-in_err-end : goal.returns-in_err-end
returns-in_err-end c = handed_on c.from_residual-in_err-end.ensures.1 (search (steps, c.in_ok-at.was, c.in_ok-n.was, c.in_ok-m.was, c.in_ok-p.was, c.in_err-end.was))

pub returns : goal.returns
returns c = search (steps, c.in_ok-at.was, c.in_ok-n.was, c.in_ok-m.was, c.in_ok-p.was, c.in_ok-end.was)
