-- The environment with all binders of a row, of an aggregate, of a comparison's operands, of a reached condition, of a record. Assumes nothing.
use mathlib.Core.Path.{◌≡◌, refl, sym, ap, ◌∙◌}
use mathlib.Core.Bool.{true}
use mathlib.Core.List.{List, [], ◌∷◌, ◌++◌, append_assoc, append-nil}
use Prim.Native.Nat.{ℕ, ◌+◌, ◌-◌, ◌≤◌, ◌<◌}
use native.Mathlib.Omega.{arith}
use borrow.Author.Rules.{rules}
use lib.ListN.{length, get_or, drop, drop_of_length-le}
use Rattle.names.specs.Lists.{gather}
use Rattle.names.specs.Laws.Lists.{gather_append}
use Rattle.names.specs.Read.{Listed}
use Rattle.names.specs.Laws.Rows.{ListedFirst, listed_over, listed_first}
use Rattle.nodes.specs.declared.Several.{Several}
use Rattle.condition.specs.Condition.{param_ref, timepoint, Binder, binder}
use Rattle.condition.specs.Walk.{declared_by, operand_aggregates, operand_binders, declares, binders, named_ones}
use Rattle.condition.specs.Places.{record_in, is_condition, condition_in, is_aggregate, aggregate_in, is_binder, binder_in}
use Rattle.nodes.specs.Offsets.{first_part}
use Rattle.nodes.specs.Looked.{Skipped, KindHere, AggregateKindHere, QuantifiedHere}
use Rattle.nodes.specs.Laws.Inside.{quantified_inside}
use Rattle.nodes.specs.Parts.{is_binders, binders_in, BindersHere, is_terms, aggregates_in, AggregateNext, NextIs, OperandsHere, NextPart}
use Rattle.walk.specs.Index.{nodes_of, Index, Reached}
use Rattle.walk.specs.Environment.{MayDeclare, Declared}
use Rattle.condition.specs.Laws.Sizes.{named_append}
use Rattle.nodes.specs.Laws.Pieces.{counted_here}
use Rattle.walk.proofs.Bindings.{binders_index, call_declares, declares_none}
use Rattle.walk.proofs.Environments.{same_table, declared_more}
use Rattle.std.specs.Prelude.{Some, None}

-- What is done and what is left make all, for which there is room.
pub record Progress (s : List ℕ) (all : List Binder) (old : List ℕ) (before : ℕ) (left : List Binder) (table : List ℕ) (n : ℕ) : Type 0 where
  pub done : List Binder
  pub whole : done ++ left ≡ all
  pub may : MayDeclare s all old before
  pub so : Declared s done old before table n

module _ (s : List ℕ) (all : List Binder) (t : List ℕ) (a : ℕ) where
  nothing_done : MayDeclare s all t a → Progress s all t a all t a
  nothing_done h = record { done = []; whole = refl; may = h; so = same_table s t a h }

  module _ (xs ys : List Binder) {u : List ℕ} {b : ℕ} (p : Progress s all t a (xs ++ ys) u b) where
    next_may : MayDeclare s xs u b
    next_may = record {
      small = p.may.small;
      sorted = p.so.sorted;
      room = omega (arith, p.may.room, p.so.count, p.so.size, ap (λ l. length (named_ones l)) p.whole, named_append p.done (xs ++ ys), named_append xs ys);
    }

    more_done : {v : List ℕ} {c : ℕ} → Declared s xs u b v c → Progress s all t a ys v c
    more_done q = record { done = p.done ++ xs; whole = append_assoc p.done xs ys ∙ p.whole; may = p.may; so = declared_more s p.so q }

  all_done : (left : List Binder) {u : List ℕ} {b : ℕ} → left ≡ [] → Progress s all t a left u b → Declared s all t a u b
  all_done left e p = let f : p.done ≡ all = sym (append-nil p.done) ∙ ap (λ l. p.done ++ l) (sym e) ∙ p.whole in rw (← f) p.so

-- binders one after another
pub record BindersOn (s : List ℕ) (start : ℕ) (old : List ℕ) (before n at : ℕ) (table : List ℕ) (m : ℕ) : Type 0 where
  pub left : List Binder
  pub there : Listed binder s left n at
  pub so : Progress s (binders_in s start) old before left table m

module _ (s : List ℕ) (start : ℕ) (t : List ℕ) (a : ℕ) where
  pub binders_begin : is_binders s start ≡ true → MayDeclare s (binders_in s start) t a → (n : ℕ) → n ≡ get_or s start 0 → BindersOn s start t a (n - 0) (start + 1) t a
  unfolding binders_in
  binders_begin acc h n e =
      let all : n - 0 ≡ n = omega arith in
      record { left = binders_in s start; there = rw (all, e) (counted_here binder s start acc); so = nothing_done s (binders_in s start) t a h }

  module _ (end i at : ℕ) (u : List ℕ) (b : ℕ) (inv : BindersOn s start t a (end - i) at u b) where
    pub binders_done : end ≤ i → Declared s (binders_in s start) t a u b
    binders_done h = all_done s (binders_in s start) t a inv.left (listed_over binder s inv.left (end - i) at (omega arith) inv.there) inv.so

    module _ (h : i < end) where
      first : ListedFirst binder s (record { slot = param_ref; annotation = timepoint }) inv.left (end - i) at
      first = listed_first binder s (record { slot = param_ref; annotation = timepoint }) inv.left (end - i) at (omega arith) inv.there

      ahead : Progress s (binders_in s start) t a ((binder_in s at ∷ []) ++ first.others) u b
      unfolding binder_in
      ahead = let p = inv.so in rw first.value at p

      pub binder_stands : is_binder s at ≡ true
      binder_stands = first.stands

      pub binder_may : MayDeclare s (binder_in s at ∷ []) u b
      binder_may = next_may s _ t a (binder_in s at ∷ []) first.others ahead

      pub binders_next : (v : List ℕ) (c : ℕ) → Declared s (binder_in s at ∷ []) u b v c → (m : ℕ) → Skipped (binder s at) at m → BindersOn s start t a (end - (i + 1)) m v c
      binders_next v c q m z =
          let less : end - (i + 1) ≡ (end - i) - 1 = omega arith in
          record { left = first.others; there = rw less (first.on m (sym z.ends)); so = more_done s _ t a (binder_in s at ∷ []) first.others ahead q }

pub ruleset declaring_row = (rules, binders_index, binders_begin, binders_done, binder_stands, binder_may, binders_next)

-- an aggregate
module _ (s : List ℕ) (at : ℕ) (t : List ℕ) (a : ℕ) (may : MayDeclare s (declared_by (aggregate_in s at)) t a) where
  pub call_table : (k : ℕ) → AggregateKindHere s at k → k ≡ 3 → Declared s (declared_by (aggregate_in s at)) t a t a
  call_table k o e = rw (call_declares (aggregate_in s at) (sym o.kind ∙ e)) (same_table s t a may)

  module _ (p : ℕ) (h : BindersHere s at p) where
    pub row_may : MayDeclare s (binders_in s p) t a
    row_may = rw h.value at may

    pub aggregate_table : (u : List ℕ) (b : ℕ) → Declared s (binders_in s p) t a u b → Declared s (declared_by (aggregate_in s at)) t a u b
    aggregate_table u b q = rw h.value q

pub ruleset declaring_aggregate = (rules, call_table, row_may, aggregate_table)

-- the aggregates of a comparison's operands
comparison_declares : (s : List ℕ) (at : ℕ) (r : Several) → OperandsHere s at r → declares (condition_in s at) ≡ gather declared_by (aggregates_in s r.count r.first)
unfolding declares operand_binders
comparison_declares s at r h =
    ap declares h.whole
    ∙ sym (gather_append declared_by (operand_aggregates h.left) (operand_aggregates h.right))
    ∙ ap (gather declared_by) (sym h.value)

pub record AggregatesOn (s : List ℕ) (all : List Binder) (old : List ℕ) (before : ℕ) (rest : Several) (table : List ℕ) (n : ℕ) : Type 0 where
  pub stands : is_terms s rest.count rest.first ≡ true
  pub so : Progress s all old before (gather declared_by (aggregates_in s rest.count rest.first)) table n

module _ (s : List ℕ) where
  pub operands_begin : (at : ℕ) (r : Several) → OperandsHere s at r → (t : List ℕ) (a : ℕ) → MayDeclare s (declares (condition_in s at)) t a → AggregatesOn s (declares (condition_in s at)) t a r t a
  operands_begin at r h t a k = record { stands = h.stands; so = rw (← comparison_declares s at r h) (nothing_done s (declares (condition_in s at)) t a k) }

  module _ (all : List Binder) (t : List ℕ) (a : ℕ) (r : Several) (u : List ℕ) (b : ℕ) (inv : AggregatesOn s all t a r u b) (x : NextPart) (y : NextIs s (aggregates_in s r.count r.first) x) where
    pub operands_done : x ≡ None → Declared s all t a u b
    unfolding gather
    operands_done e = all_done s all t a _ (ap (gather declared_by) (rw e at y)) inv.so

    module _ (p : ℕ) (rest : Several) (e : x ≡ Some (p, rest)) where
      opened : AggregateNext s (aggregates_in s r.count r.first) p rest
      opened = rw e at y

      coming : Progress s all t a (declared_by (aggregate_in s p) ++ gather declared_by (aggregates_in s rest.count rest.first)) u b
      unfolding gather
      coming = let i = inv.so in rw opened.value at i

      pub aggregate_there : is_aggregate s p ≡ true
      aggregate_there = opened.stands

      pub aggregate_may : MayDeclare s (declared_by (aggregate_in s p)) u b
      aggregate_may = next_may s all t a (declared_by (aggregate_in s p)) _ coming

      pub fewer_left : length (aggregates_in s rest.count rest.first) < length (aggregates_in s r.count r.first)
      fewer_left = rw opened.value (omega arith)

      pub operands_next : (v : List ℕ) (c : ℕ) → Declared s (declared_by (aggregate_in s p)) u b v c → AggregatesOn s all t a rest v c
      operands_next v c q = record { stands = opened.others; so = more_done s all t a (declared_by (aggregate_in s p)) _ coming q }

pub ruleset declaring_operands = (rules, operands_begin, operands_done, aggregate_there, aggregate_may, fewer_left, operands_next)

-- a reached condition
module _ (s : List ℕ) (at : ℕ) (k : ℕ) (o : KindHere s at k) (t : List ℕ) (a : ℕ) (may : MayDeclare s (declares (condition_in s at)) t a) where
  module _ (acc : is_condition s at ≡ true) (is : k ≡ 9) (p : ℕ) (place : p ≡ first_part s at) where
    own : QuantifiedHere s at p
    own = quantified_inside s at acc p place k o.kind is

    pub own_stands : is_binder s p ≡ true
    own_stands = own.stands

    pub own_may : MayDeclare s (binder_in s p ∷ []) t a
    own_may = rw own.value at may

    pub exists_table : (u : List ℕ) (b : ℕ) → Declared s (binder_in s p ∷ []) t a u b → Declared s (declares (condition_in s at)) t a u b
    exists_table u b q = rw own.value q

  pub other_table : (k ≡ 9 → ⊥) → (k ≡ 8 → ⊥) → Declared s (declares (condition_in s at)) t a t a
  other_table h i = rw (declares_none (condition_in s at) (λ e. h (o.kind ∙ e)) (λ e. i (o.kind ∙ e))) (same_table s t a may)

pub ruleset declaring_node = (rules, own_stands, own_may, exists_table, other_table)

-- all of them
pub record NodesOn (s : List ℕ) (old : List ℕ) (before : ℕ) (i : ℕ) (table : List ℕ) (n : ℕ) : Type 0 where
  pub so : Progress s (binders (record_in s)) old before (gather declares (drop i (nodes_of s))) table n

module _ (s t : List ℕ) (a : ℕ) where
  pub nodes_begin : MayDeclare s (binders (record_in s)) t a → NodesOn s t a 0 t a
  unfolding binders
  nodes_begin h = record { so = nothing_done s _ t a h }

  module _ (i : ℕ) (u : List ℕ) (b : ℕ) (inv : NodesOn s t a i u b) where
    pub nodes_done : (places : List ℕ) → Index s places → length places ≤ i → Declared s (binders (record_in s)) t a u b
    unfolding gather
    nodes_done places h k =
        let over : length (nodes_of s) ≤ i = omega (arith, h.size) in
        all_done s _ t a _ (ap (gather declares) (drop_of_length-le (nodes_of s) over)) inv.so

    module _ (at : ℕ) (h : Reached s i at) where
      upcoming : Progress s (binders (record_in s)) t a (declares (condition_in s at) ++ gather declares (drop (i + 1) (nodes_of s))) u b
      unfolding gather
      upcoming = let p = inv.so in rw h.rest at p

      pub node_may : MayDeclare s (declares (condition_in s at)) u b
      node_may = next_may s _ t a (declares (condition_in s at)) _ upcoming

      pub nodes_next : (v : List ℕ) (c : ℕ) → Declared s (declares (condition_in s at)) u b v c → NodesOn s t a (i + 1) v c
      nodes_next v c q = record { so = more_done s _ t a (declares (condition_in s at)) _ upcoming q }

pub ruleset declaring_nodes = (rules, nodes_begin, nodes_done, node_may, nodes_next)
