-- A name among the binders of a list, of a holder, of all holders around a reached condition. Assumes nothing.
use mathlib.Core.Path.{◌≡◌, refl, sym, ap, ap₂, ◌∙◌}
use mathlib.Core.Bool.{Bool, true, false, cond, false≢true}
use mathlib.Core.List.{List, [], ◌∷◌, ◌++◌, append_assoc, append-nil}
use mathlib.Core.Option.{Option, none, some}
use Prim.Native.Nat.{ℕ, ◌+◌, ◌*◌, ◌-◌, ◌≤◌, ◌<◌, min}
use native.Mathlib.Omega.{arith}
use borrow.Author.Rules.{rules}
use lib.ListN.{length, get_or, take, length-take}
use lib.Seq.{get_or-take}
use Rattle.names.specs.Lists.{maybe}
use Rattle.names.specs.Names.{same}
use Rattle.names.specs.Read.{word_at, Listed, Found}
use Rattle.names.specs.Laws.Rows.{ListedFirst, listed_over, listed_first}
use Rattle.nodes.specs.declared.SlotAt.{SlotAt}
use Rattle.nodes.specs.declared.SlotAt.TheVariants.{Named, ParamRef, BinderRef}
use Rattle.nodes.specs.declared.Bound.{Bound}
use Rattle.nodes.specs.declared.Bound.TheVariants.{Segments, Timepoint, Nothing}
use Rattle.condition.specs.Condition.{Slot, named, param_ref, binder_ref, Annotation, timepoint, Binder, slot, binder}
use Rattle.condition.specs.Walk.{named_here, last_named}
use Rattle.condition.specs.Places.{is_slot, is_annotation, annotation_in, is_binder, binder_in}
use Rattle.nodes.specs.Offsets.{first_part}
use Rattle.nodes.specs.Looked.{Skipped, QuantifiedHere}
use Rattle.nodes.specs.Parts.{is_binders, binders_in, BindersHere, slot_of, SlotHere, bound_in, BoundBy}
use Rattle.nodes.specs.Laws.Inside.{quantified_inside}
use Rattle.nodes.specs.Laws.Pieces.{counted_here}
use Rattle.nodes.specs.Laws.Binders.{says_nothing, binder_slot, binder_annotation, slot_is, annotation-is}
use Rattle.walk.specs.Scopes.{own}
use Rattle.walk.specs.Index.{nodes_of}
use Rattle.walk.specs.Enclosing.{IsHolder, held_in, Chain, joined, RowEncloses, around_at, list_count, Bodies, is_bound, later_of}
use Rattle.walk.specs.Rows.{row_at}
use Rattle.walk.specs.Lists.{IsEntry, EntryOf}
use Rattle.walk.specs.Laws.Named.{last_append}
use Rattle.walk.proofs.Bindings.{binders_index}
use Rattle.walk.proofs.Chains.{row_on}
use Rattle.walk.proofs.Holders.{held_exists, held_aggregate, holder_index, exists_stands, exists_nine, aggregate_stands, no_call}
use Rattle.std.specs.Prelude.{Some}

-- ---- one binder

module _ (s : List ℕ) (at : ℕ) (acc : is_binder s at ≡ true) where
  pub called_slot : is_slot s at ≡ true
  called_slot = binder_slot s at acc

  pub called_annotation : (m : ℕ) → Skipped (slot s at) at m → is_annotation s m ≡ true
  called_annotation = binder_annotation s at acc

  module _ (name : List ℕ) where
    says : (x : Slot) → (binder_in s at).slot ≡ x → last_named name (binder_in s at ∷ []) ≡ named_here name (binder_in s at).annotation x
    unfolding last_named
    says x e = ap (named_here name (binder_in s at).annotation) e

    module _ (r : SlotAt) (h : SlotHere s at r) where
      pub param_silent : r ≡ ParamRef → BoundBy s (last_named name (binder_in s at ∷ [])) Nothing
      unfolding named_here
      param_silent e = rw (says param_ref (slot_is s at acc ∙ h.value ∙ ap (slot_of s) e)) (says_nothing s)

      pub binder_silent : r ≡ BinderRef → BoundBy s (last_named name (binder_in s at ∷ [])) Nothing
      unfolding named_here
      binder_silent e = rw (says binder_ref (slot_is s at acc ∙ h.value ∙ ap (slot_of s) e)) (says_nothing s)

      module _ (p : ℕ) (e : r ≡ Named p) (w : List ℕ) (f : w ≡ word_at s p) (b : Bool) (g : b ≡ same w name) where
        by_name : last_named name (binder_in s at ∷ []) ≡ cond b (some (binder_in s at).annotation) none
        unfolding named_here
        by_name = says (named w) (slot_is s at acc ∙ h.value ∙ ap (slot_of s) e ∙ ap named (sym f)) ∙ ap (λ t. cond t (some (binder_in s at).annotation) none) (sym g)

        pub other_silent : b ≡ false → BoundBy s (last_named name (binder_in s at ∷ [])) Nothing
        other_silent i = rw (by_name, i) (says_nothing s)

        pub called_says : b ≡ true → (m : ℕ) → Skipped (slot s at) at m → (x : Bound) → BoundBy s (some (annotation_in s m)) x → BoundBy s (last_named name (binder_in s at ∷ [])) x
        called_says i m z x y = rw (by_name, i, annotation-is s at acc m z) y

pub ruleset calling = (rules, called_slot, called_annotation, param_silent, binder_silent, other_silent, called_says)

-- ---- of two answers

bound_some : (s : List ℕ) (r : Bound) (o other : Option Annotation) → is_bound r ≡ true → bound_in s r ≡ o → maybe other some o ≡ o
unfolding is_bound
bound_some s (Segments p) o other e f = rw (← f)
bound_some s Timepoint o other e f = rw (← f)
bound_some s Nothing o other e f = absurd (false≢true e)

bound_none : (s : List ℕ) (r : Bound) → is_bound r ≡ false → bound_in s r ≡ none
unfolding is_bound
bound_none s (Segments p) e = absurd (false≢true (sym e))
bound_none s Timepoint e = absurd (false≢true (sym e))
bound_none s Nothing e = refl

later_says : (s : List ℕ) (a b : Option Annotation) (before here : Bound) → BoundBy s a before → BoundBy s b here → BoundBy s (maybe a some b) (later_of before here)
unfolding later_of
later_says s a b before here x y = go (is_bound here) refl
  where
    go : (t : Bool) → is_bound here ≡ t → BoundBy s (maybe a some b) (cond t here before)
    go true e = rw (bound_some s here b a e y.value) y
    go false e = record { stands = x.stands; value = x.value ∙ ap (maybe a some) (sym (bound_none s here e) ∙ y.value) }

-- ---- the binders of a list

pub record Among (s : List ℕ) (start : ℕ) (name : List ℕ) (n at : ℕ) (found : Bound) : Type 0 where
  pub done : List Binder
  pub left : List Binder
  pub whole : done ++ left ≡ binders_in s start
  pub there : Listed binder s left n at
  pub so : BoundBy s (last_named name done) found

module _ (s : List ℕ) (start : ℕ) (name : List ℕ) where
  pub among_begin : is_binders s start ≡ true → (n : ℕ) → n ≡ get_or s start 0 → Among s start name (n - 0) (start + 1) Nothing
  unfolding binders_in last_named
  among_begin acc n e =
      let all : n - 0 ≡ n = omega arith in
      record { done = []; left = binders_in s start; whole = refl; there = rw (all, e) (counted_here binder s start acc); so = says_nothing s }

  module _ (end i at : ℕ) (found : Bound) (inv : Among s start name (end - i) at found) where
    pub among_done : end ≤ i → BoundBy s (last_named name (binders_in s start)) found
    among_done h =
        let e : inv.left ≡ [] = listed_over binder s inv.left (end - i) at (omega arith) inv.there in
        let f : inv.done ≡ binders_in s start = sym (append-nil inv.done) ∙ ap (λ l. inv.done ++ l) (sym e) ∙ inv.whole in
        rw (← f) inv.so

    module _ (h : i < end) where
      first : ListedFirst binder s (record { slot = param_ref; annotation = timepoint }) inv.left (end - i) at
      first = listed_first binder s (record { slot = param_ref; annotation = timepoint }) inv.left (end - i) at (omega arith) inv.there

      less : end - (i + 1) ≡ (end - i) - 1
      less = omega arith

      pub among_stands : is_binder s at ≡ true
      among_stands = first.stands

      pub among_next : (here : Bound) → BoundBy s (last_named name (binder_in s at ∷ [])) here → (r : Bound) → r ≡ later_of found here → (m : ℕ) → Skipped (binder s at) at m → Among s start name (end - (i + 1)) m r
      unfolding binder_in
      among_next here y r e m z = record {
        done = inv.done ++ (binder_in s at ∷ []);
        left = first.others;
        whole = append_assoc inv.done (binder_in s at ∷ []) first.others ∙ ap (λ l. inv.done ++ l) (sym first.value) ∙ inv.whole;
        there = rw less (first.on m (sym z.ends));
        so = rw (last_append name inv.done (binder_in s at ∷ []), e) (later_says s _ _ found here inv.so y);
      }

pub ruleset among = (rules, binders_index, among_begin, among_done, among_stands, among_next)

-- ---- the binders of a holder

module _ (s : List ℕ) (at : ℕ) (h : IsHolder s at) (name : List ℕ) where
  module _ (nine : get_or s at 0 ≡ 9) (p : ℕ) (place : p ≡ first_part s at) where
    quantified : QuantifiedHere s at p
    quantified = quantified_inside s at (exists_stands s at h nine) p place 9 (sym (exists_nine s at h nine)) refl

    pub held_binder : is_binder s p ≡ true
    held_binder = quantified.stands

    pub held_one : (r : Bound) → BoundBy s (last_named name (binder_in s p ∷ [])) r → BoundBy s (last_named name (held_in s at)) r
    held_one r y = rw (held_exists s at (exists_stands s at h nine) (exists_nine s at h nine), quantified.value) y

  pub held_all : (get_or s at 0 ≡ 9 → ⊥) → (p : ℕ) → BindersHere s at p → (r : Bound) → BoundBy s (last_named name (binders_in s p)) r → BoundBy s (last_named name (held_in s at)) r
  held_all other p b r y = rw (held_aggregate s at (aggregate_stands s at h other), b.value) y

  -- in its list
  pub held_listed : (table : List ℕ) (r : Found) → EntryOf table at r → (e : ℕ) → r ≡ Some e → (x : Bound) → BoundBy s (last_named name (held_in s (get_or table e 0))) x → BoundBy s (last_named name (held_in s at)) x
  unfolding EntryOf
  held_listed table r y e q x z = let f = rw q at y in rw f.1 at z

pub entry_there : (table : List ℕ) (at : ℕ) (r : Found) → EntryOf table at r → (e : ℕ) → r ≡ Some e → IsEntry table e
unfolding EntryOf
entry_there table at r y e q = let f = rw q at y in f.0

pub lists_room : (s table : List ℕ) → Bodies s table → 3 * list_count table < length table
lists_room s table b = omega (arith, b.lists.room)

pub binders_stand : (s : List ℕ) (at p : ℕ) → BindersHere s at p → is_binders s p ≡ true
binders_stand s at p b = b.stands

pub ruleset holding = (rules, holder_index, exists_stands, held_binder, held_one, aggregate_stands, no_call, binders_stand, held_all, lists_room, entry_there, held_listed)

-- ---- the holders around

-- what is around a row whose holder is not 0
record Further (s table : List ℕ) (row : ℕ) (bs : List Binder) : Type 0 where
  outer : List Binder
  holds : IsHolder s (get_or table (2 * row) 0)
  before : get_or table (2 * row + 1) 0 < row
  scope : RowEncloses s table (get_or table (2 * row + 1) 0) outer
  value : bs ≡ outer ++ held_in s (get_or table (2 * row) 0)

module _ (s table : List ℕ) (row : ℕ) (bs : List Binder) where
  further : RowEncloses s table row bs → (get_or table (2 * row) 0 ≡ 0 → ⊥) → Further s table row bs
  unfolding Chain joined
  further e other = go e.holders e.chain e.value
    where
      go : (ps : List ℕ) → Chain s table row (get_or table (2 * row) 0) (get_or table (2 * row + 1) 0) ps → joined s ps ≡ bs → Further s table row bs
      go [] c v = absurd (other c)
      go (p ∷ ps) c v = record {
        outer = joined s ps;
        holds = rw c.0.place c.0.holds;
        before = c.0.before;
        scope = record { holders = ps; chain = c.1; value = refl };
        value = sym v ∙ ap (λ q. joined s ps ++ held_in s q) (sym c.0.place);
      }

  outermost : RowEncloses s table row bs → get_or table (2 * row) 0 ≡ 0 → bs ≡ []
  unfolding Chain joined
  outermost e zero = go e.holders e.chain e.value
    where
      go : (ps : List ℕ) → Chain s table row (get_or table (2 * row) 0) (get_or table (2 * row + 1) 0) ps → joined s ps ≡ bs → bs ≡ []
      go [] c v = sym v
      go (p ∷ ps) c v = absurd (omega (arith, c.0.place, c.0.some))

pub holder_of : (s table : List ℕ) (row : ℕ) (bs : List Binder) → RowEncloses s table row bs → (get_or table (2 * row) 0 ≡ 0 → ⊥) → IsHolder s (get_or table (2 * row) 0)
holder_of s table row bs e other = (further s table row bs e other).holds

-- the rows of a table that has lists behind them
module _ (s table : List ℕ) (h : Bodies s table) where
  rows_size : min h.rows (length table) ≡ 2 * length (nodes_of s)
  rows_size = sym (length-take h.rows table) ∙ h.enclosing.size

  rows_fit : 2 * length (nodes_of s) ≤ length table
  rows_fit = omega (arith, rows_size)

  rows_there : (i : ℕ) → i < length (nodes_of s) → RowEncloses s table i (around_at own s i)
  unfolding row_at
  rows_there i l =
      let e : (k : ℕ) → k < h.rows → get_or table k 0 ≡ get_or (take h.rows table) k 0 = λ k j. sym (get_or-take h.rows table k 0 j) in
      row_on s (take h.rows table) table i (λ k j. ap₂ (λ (a b : ℕ). (a, b)) (e (2 * k) (omega (arith, rows_size))) (e (2 * k + 1) (omega (arith, rows_size)))) (h.enclosing.rows i l)

-- the binders around a row are those that are left to be asked
pub record Outward (s table name : List ℕ) (node row : ℕ) : Type 0 where
  pub within : row < length (nodes_of s)
  pub inside : 2 * row + 1 < length table
  pub left : List Binder
  pub scope : RowEncloses s table row left
  pub same : last_named name (around_at own s node) ≡ last_named name left

module _ (s table name : List ℕ) (node : ℕ) where
  pub outward_begin : Bodies s table → node < length (nodes_of s) → Outward s table name node node
  outward_begin h l = record { within = l; inside = omega (arith, rows_fit s table h); left = around_at own s node; scope = rows_there s table h node l; same = refl }

  module _ (row : ℕ) (inv : Outward s table name node row) where
    module _ (holder : ℕ) (e : holder ≡ get_or table (2 * row) 0) where
      pub none_around : holder ≡ 0 → BoundBy s (last_named name (around_at own s node)) Nothing
      unfolding last_named
      none_around z = rw (inv.same, outermost s table row inv.left inv.scope (sym e ∙ z)) (says_nothing s)

      module _ (other : holder ≡ 0 → ⊥) where
        beyond : Further s table row inv.left
        beyond = further s table row inv.left inv.scope (λ z. other (e ∙ z))

        pub holder_there : IsHolder s holder
        holder_there = rw e beyond.holds

        module _ (r : Bound) (y : BoundBy s (last_named name (held_in s holder)) r) (b : Bool) (f : b ≡ is_bound r) where
          split : last_named name (around_at own s node) ≡ maybe (last_named name beyond.outer) some (last_named name (held_in s holder))
          split = inv.same ∙ ap (last_named name) (beyond.value ∙ ap (λ q. beyond.outer ++ held_in s q) (sym e)) ∙ last_append name beyond.outer (held_in s holder)

          pub found_around : b ≡ true → BoundBy s (last_named name (around_at own s node)) r
          found_around i = rw (split, bound_some s r (last_named name (held_in s holder)) (last_named name beyond.outer) (sym f ∙ i) y.value) y

          module _ (i : b ≡ false) (m : ℕ) (g : m ≡ get_or table (2 * row + 1) 0) where
            pub outward_less : m < row
            outward_less = omega (arith, beyond.before)

            pub outward_next : Outward s table name node m
            outward_next = record {
              within = omega (arith, inv.within, outward_less);
              inside = omega (arith, inv.inside, outward_less);
              left = beyond.outer;
              scope = rw g beyond.scope;
              same = split ∙ ap (maybe (last_named name beyond.outer) some) (sym y.value ∙ bound_none s r (sym f ∙ i));
            }

pub ruleset outward = (rules, outward_begin, none_around, holder_there, found_around, outward_less, outward_next)
