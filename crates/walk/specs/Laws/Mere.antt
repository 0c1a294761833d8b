-- A truncated fact about the table of names is the fact itself: whatever such a fact holds besides is determined by the table. Assumes nothing.
use Rattle.std.specs.Prelude.{◌≡◌, refl, Bool, true, false, List, [], ◌∷◌, ℕ, zero, suc, ◌+◌, ◌*◌, ◌-◌, ◌≤◌, ◌<◌, eqb, leb, min, length, get_or, take}
use Rattle.std.proofs.Common.{sym, ap, ◌∙◌, arith, length-take}
use Rattle.std.proofs.lemmas.Bool.{eqb-true, eqb-false, leb-true, leb-false}
use Rattle.std.proofs.Props.{props}
use Rattle.std.specs.Coded.{le_prop}
use Rattle.std.proofs.Math.Logic.{∥∥₁_elim, ∥∥₁_map}
use Rattle.std.proofs.lemmas.List.{take_all}
use Rattle.std.proofs.Math.Seq.{take-length}
use mathlib.Core.Sum.{⊎_set}
use Rattle.condition.specs.Condition.{Binder}
use Rattle.condition.specs.Places.{is_condition, condition_in, is_aggregate, aggregate_in}
use Rattle.nodes.specs.Kinds.{kind_of, aggregate_kind_of}
use Rattle.walk.specs.Scopes.{Binding, flat, own}
use Rattle.walk.specs.Index.{nodes_of}
use Rattle.walk.specs.Environment.{Environment}
use Rattle.walk.specs.Enclosing.{IsHolder, quantifies, aggregates, Chain, joined, Encloses, Enclosing, HasLists, list_count, Bodies, Names}

pub Binder-set : IsSet Binder
Binder-set = hlevel (props, ⊎_set)

-- ---- the environment has one proof at most

pub environment_prop : (s : List ℕ) (bs : List Binder) (table : List ℕ) → IsProp (Environment s bs table)
environment_prop s bs table = hlevel (props, ⊎_set, le_prop)

-- ---- a holder, and those around it

module _ (s : List ℕ) where
  mere_holder : (at : ℕ) → ∥ IsHolder s at ∥₁ → IsHolder s at
  mere_holder at t = go (is_condition s at) refl (eqb (kind_of (condition_in s at)) 9) refl
    where
      other : (is_condition s at ≡ true → kind_of (condition_in s at) ≡ 9 → ⊥) → IsHolder s at
      other differs = aggregates (∥∥₁_elim t (hlevel props) stands) (∥∥₁_elim t (hlevel props) called)
        where
          stands : IsHolder s at → is_aggregate s at ≡ true
          stands (quantifies acc e) = absurd (differs acc e)
          stands (aggregates acc e) = acc

          called : IsHolder s at → aggregate_kind_of (aggregate_in s at) ≡ 3 → ⊥
          called (quantifies acc e) = absurd (differs acc e)
          called (aggregates acc e) = e

      go : (b : Bool) → is_condition s at ≡ b → (k : Bool) → eqb (kind_of (condition_in s at)) 9 ≡ k → IsHolder s at
      go true e true f = quantifies e (eqb-true (kind_of (condition_in s at)) 9 f)
      go true e false f = other (λ _. eqb-false (kind_of (condition_in s at)) 9 f)
      go false e k f = other (λ acc _. absurd (cc))

  module _ (table : List ℕ) where
    -- the holders from a row on
    record Chained (n holder node : ℕ) : Type 0 where
      holders : List ℕ
      chain : Chain s table n holder node holders

    -- the first of them, and those behind it
    record Parted (n holder node : ℕ) : Type 0 where
      holds : IsHolder s holder
      before : node < n
      rest : Chained node (get_or table (2 * node) 0) (get_or table (2 * node + 1) 0)

    parted : (n h node : ℕ) → Chained n (suc h) node → Parted n (suc h) node
    unfolding Chain
    parted n h node c = go c.holders c.chain
      where
        go : (ps : List ℕ) → Chain s table n (suc h) node ps → Parted n (suc h) node
        go [] e = absurd (omega (arith, e))
        go (p ∷ ps) e = record { holds = rw e.0.place e.0.holds; before = e.0.before; rest = record { holders = ps; chain = e.1 } }

    chain_one : (n h node : ℕ) (ps qs : List ℕ) → Chain s table n h node ps → Chain s table n h node qs → ps ≡ qs
    unfolding Chain
    chain_one n h node [] [] c d = refl
    chain_one n h node [] (q ∷ qs) c d = absurd (omega (arith, c, d.0.place, d.0.some))
    chain_one n h node (p ∷ ps) [] c d = absurd (omega (arith, d, c.0.place, c.0.some))
    chain_one n h node (p ∷ ps) (q ∷ qs) c d =
        let e : p ≡ q = sym c.0.place ∙ d.0.place in
        rw (e, chain_one node (get_or table (2 * node) 0) (get_or table (2 * node + 1) 0) ps qs c.1 d.1) refl

    mere_chain : (k n h node : ℕ) → n ≤ k → ∥ Chained n h node ∥₁ → Chained n h node
    unfolding Chain
    mere_chain k n zero node l t = record { holders = []; chain = refl }
    mere_chain zero n (suc h) node l t = absurd (omega (arith, l, ∥∥₁_elim t le_prop (λ c. (parted n h node c).before)))
    mere_chain (suc k) n (suc h) node l t =
        let p : ∥ Parted n (suc h) node ∥₁ = ∥∥₁_map t (parted n h node) in
        let b : node < n = ∥∥₁_elim p le_prop (λ q. q.before) in
        let r = mere_chain k node (get_or table (2 * node) 0) (get_or table (2 * node + 1) 0) (omega (arith, l, b)) (∥∥₁_map p (λ q. q.rest)) in
        record { holders = suc h ∷ r.holders; chain = (record { place = refl; some = omega arith; holds = mere_holder (suc h) (∥∥₁_map p (λ q. q.holds)); before = b }, r.chain) }

    mere_encloses : (n h node : ℕ) (bs : List Binder) → ∥ Encloses s table n h node bs ∥₁ → Encloses s table n h node bs
    mere_encloses n h node bs t =
        let c = mere_chain n n h node (omega arith) (∥∥₁_map t (λ e. record { holders = e.holders; chain = e.chain })) in
        record { holders = c.holders; chain = c.chain; value = ∥∥₁_elim t (hlevel (props, Binder-set)) (λ e. ap (joined s) (chain_one n h node c.holders e.holders c.chain e.chain) ∙ e.value) }

  mere_enclosing : (table : List ℕ) → ∥ Enclosing s table ∥₁ → Enclosing s table
  mere_enclosing table t = record {
    size = ∥∥₁_elim t (hlevel props) (λ e. e.size);
    rows = λ i l. mere_encloses table i (get_or table (2 * i) 0) (get_or table (2 * i + 1) 0) _ (∥∥₁_map t (λ e. e.rows i l));
  }

-- ---- the rows and the lists behind them

-- a front of so many entries, by its length
front : (rows n : ℕ) (table : List ℕ) → length (take rows table) ≡ n → take rows table ≡ take n table
front rows n table e = go (leb rows (length table)) refl
  where
    size : min rows (length table) ≡ n
    size = sym (length-take rows table) ∙ e

    go : (b : Bool) → leb rows (length table) ≡ b → take rows table ≡ take n table
    go true f = let g : rows ≡ n = omega (arith, size, leb-true rows (length table) f) in rw g refl
    go false f = let g : n ≡ length table = omega (arith, size, leb-false rows (length table) f) in take_all rows table (omega (arith, leb-false rows (length table) f)) ∙ sym (take-length table) ∙ ap (λ m. take m table) (sym g)

module _ (s table : List ℕ) where
  -- the room behind the lists that leaves the directory its own
  abbrev behind : ℕ
  behind = length table - 3 * list_count table - 1

  mere_lists : (b : Bodies s table) → HasLists s table behind (list_count table)
  mere_lists b = record {
    room = omega (arith, b.lists.room);
    each = λ k l. let e = b.lists.each k l in record { within = omega (arith, e.within, b.lists.room); list = e.list };
  }

  lists_prop : IsProp (HasLists s table behind (list_count table))
  lists_prop = hlevel (le_prop, environment_prop)

  mere_bodies : ∥ Bodies s table ∥₁ → Bodies s table
  mere_bodies t = record {
    rows = 2 * length (nodes_of s);
    enclosing = mere_enclosing s (take (2 * length (nodes_of s)) table) (∥∥₁_map t (λ b. rw (← front b.rows (2 * length (nodes_of s)) table b.enclosing.size) b.enclosing));
    free = behind;
    lists = ∥∥₁_elim t lists_prop mere_lists;
  }

pub mere_names : (s : List ℕ) (b : Binding) (table : List ℕ) → ∥ Names s b table ∥₁ → Names s b table
unfolding Names
mere_names s flat table t = ∥∥₁_elim t (environment_prop s _ table) (λ e. e)
mere_names s own table t = mere_bodies s table t
