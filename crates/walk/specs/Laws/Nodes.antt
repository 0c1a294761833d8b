-- The reached conditions with the binders around them: without these they are the reached conditions, one for one. Assumes nothing.
use Rattle.std.specs.Prelude.{◌≡◌, refl, ℕ, zero, suc, ◌+◌, ◌<◌, length, get_or, drop}
use Rattle.std.proofs.Common.{sym, ap, ap₂, ◌∙◌, suc-add, arith, length-drop}
use mathlib.Core.List.{List, [], ◌∷◌, ◌++◌, map, map-append}
use Rattle.std.proofs.lemmas.List.{length-map}
use Rattle.condition.specs.Condition.{Condition, Term, Aggregate, Binder, one, two, predicate, comparison, exists, tp, opaque, entity, literal, context_field, scope_field, var, wildcard, array, aggregate, sigil, sum, count, call}
use Rattle.condition.specs.Condition as tree
use Rattle.condition.specs.Walk.{reached, reached_in, reached_body, binders}
use Rattle.condition.specs.Places.{record_in, condition_in}
use Rattle.walk.specs.Scopes.{Scoped, under, scoped, scoped_in, scoped_body, Binding, flat, own, nodes_by}
use Rattle.walk.specs.Index.{nodes_of, Reached}
use Rattle.walk.specs.Enclosing.{around_at}

abbrev node_of : Scoped → Condition
node_of x = x.node

abbrev pub nodes : List Scoped → List Condition
nodes xs = map node_of xs

mutual
  unfolding scoped reached

  pub scoped_nodes : (bs : List Binder) (c : Condition) → nodes (scoped bs c) ≡ reached c
  scoped_nodes bs (one k span c) = ap (λ l. one k span c ∷ l) (scoped_nodes bs c)
  scoped_nodes bs (two k span l r) = ap (λ m. two k span l r ∷ m) (map-append node_of (scoped bs l) (scoped bs r) ∙ ap₂ ◌++◌ (scoped_nodes bs l) (scoped_nodes bs r))
  scoped_nodes bs (predicate span self ns act args) = refl
  scoped_nodes bs (comparison span op l r) = ap (λ m. comparison span op l r ∷ m) (map-append node_of (scoped_in bs l) (scoped_in bs r) ∙ ap₂ ◌++◌ (scoped_within bs l) (scoped_within bs r))
  scoped_nodes bs (exists span b c) = ap (λ l. exists span b c ∷ l) (scoped_nodes (bs ++ (b ∷ [])) c)
  scoped_nodes bs (tp span s) = refl
  scoped_nodes bs (opaque span) = refl

  pub scoped_within : (bs : List Binder) (t : Term) → nodes (scoped_in bs t) ≡ reached_in t
  scoped_within bs (entity n) = refl
  scoped_within bs (literal l) = refl
  scoped_within bs (context_field p) = refl
  scoped_within bs (scope_field p) = refl
  scoped_within bs (var v) = refl
  scoped_within bs wildcard = refl
  scoped_within bs (array ts) = refl
  scoped_within bs (aggregate a) = scoped_body_lem bs a
  scoped_within bs (tree.arith op l r) = map-append node_of (scoped_in bs l) (scoped_in bs r) ∙ ap₂ ◌++◌ (scoped_within bs l) (scoped_within bs r)
  scoped_within bs sigil = refl

  pub scoped_body_lem : (bs : List Binder) (a : Aggregate) → nodes (scoped_body bs a) ≡ reached_body a
  scoped_body_lem bs (sum span slot list body) = scoped_nodes (bs ++ list) body
  scoped_body_lem bs (count span list body) = scoped_nodes (bs ++ list) body
  scoped_body_lem bs (call span) = refl

-- of either way
module _ (c : Condition) where
  flat_nodes : (bs : List Binder) (xs : List Condition) → nodes (map (under bs) xs) ≡ xs
  flat_nodes bs [] = refl
  flat_nodes bs (x ∷ xs) = ap (λ l. x ∷ l) (flat_nodes bs xs)

  pub nodes_by_lem : (b : Binding) → nodes (nodes_by b c) ≡ reached c
  unfolding nodes_by
  nodes_by_lem flat = flat_nodes (binders c) (reached c)
  nodes_by_lem own = scoped_nodes [] c

  pub length_by : (b : Binding) → length (nodes_by b c) ≡ length (reached c)
  length_by b = sym (length-map (nodes_by b c) node_of) ∙ ap length (nodes_by_lem b)

-- there is one at least
pub some_reached : (c : Condition) → 0 < length (reached c)
unfolding reached
some_reached (one k span c) = omega arith
some_reached (two k span l r) = omega arith
some_reached (predicate span self ns act args) = omega arith
some_reached (comparison span op l r) = omega arith
some_reached (exists span b c) = omega arith
some_reached (tp span s) = omega arith
some_reached (opaque span) = omega arith

-- the i-th of a list whose i-th condition is known
scoped_drop : (xs : List Scoped) (i : ℕ) {x : Condition} {rest : List Condition} → drop i (nodes xs) ≡ x ∷ rest → drop i xs ≡ under (get_or (map (λ (y : Scoped). y.around) xs) i []) x ∷ drop (i + 1) xs
scoped_drop [] zero e = absurd (let z : ◌≡◌ {A = ℕ} 0 1 = cc in omega arith)
scoped_drop [] (suc i) e = absurd (let z : ◌≡◌ {A = ℕ} 0 1 = cc in omega arith)
scoped_drop (y ∷ ys) zero e = ap (λ c. under y.around c ∷ ys) (cc)
scoped_drop (y ∷ ys) (suc i) e = rw suc-add (scoped_drop ys i e)

flat_drop : (bs : List Binder) (xs : List Condition) (i : ℕ) {x : Condition} → drop i xs ≡ x ∷ drop (i + 1) xs → drop i (map (under bs) xs) ≡ under bs x ∷ drop (i + 1) (map (under bs) xs)
flat_drop bs [] zero e = absurd (let z : ◌≡◌ {A = ℕ} 0 1 = cc in omega arith)
flat_drop bs [] (suc i) e = absurd (let z : ◌≡◌ {A = ℕ} 0 1 = cc in omega arith)
flat_drop bs (y ∷ ys) zero e = ap (λ c. under bs c ∷ map (under bs) ys) (cc)
flat_drop bs (y ∷ ys) (suc i) {x} e = rw suc-add (flat_drop bs ys i (rw suc-add at e))

-- The i-th reached condition, which stands at `at`.
module _ (s : List ℕ) (i at : ℕ) (h : Reached s i at) where
  pub reached_index : i < length (nodes_of s)
  reached_index = omega (arith, ap length h.rest, length-drop i (nodes_of s))

  pub reached_by : (b : Binding) → drop i (nodes_by b (record_in s)) ≡ under (around_at b s i) (condition_in s at) ∷ drop (i + 1) (nodes_by b (record_in s))
  unfolding nodes_by around_at
  reached_by flat = flat_drop (binders (record_in s)) (nodes_of s) i h.rest
  reached_by own = scoped_drop (scoped [] (record_in s)) i (ap (drop i) (scoped_nodes [] (record_in s)) ∙ h.rest)

pub around_flat : (s : List ℕ) (i : ℕ) → around_at flat s i ≡ binders (record_in s)
unfolding around_at
around_flat s i = refl
