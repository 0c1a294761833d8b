-- The conditions reached below a node, with the binders around them, by those reached at its parts. Assumes nothing.
use mathlib.Core.Path.{◌≡◌, refl, sym, ap, ◌∙◌}
use mathlib.Core.Bool.{true, false, false≢true}
use mathlib.Core.List.{List, [], ◌∷◌, ◌++◌, append_cancel_left}
use native.Mathlib.Omega.{arith}
use Rattle.condition.specs.Condition.{Condition, Term, Aggregate, Binder, One, negation, formerly, previous, refine, Two, and, or, since, one, two, predicate, comparison, exists, tp, opaque, entity, literal, context_field, scope_field, var, wildcard, array, aggregate, sigil, sum, count, call}
use Rattle.condition.specs.Condition as tree
use Rattle.condition.specs.Walk.{reached, reached_body, declares, declared_by}
use Rattle.nodes.specs.Kinds.{kind_of, one_number, two_number, one_kind, two_kind, term_kind_of, aggregate_kind_of}
use Rattle.walk.specs.Scopes.{under, scoped, scoped_in, scoped_body}

-- the first condition that is reached is the whole, so that it is known by those that are reached
first : (x y : Condition) (xs ys : List Condition) → reached x ++ xs ≡ reached y ++ ys → x ≡ y
unfolding reached
first x y xs ys e = sym (leads x xs) ∙ ap head e ∙ leads y ys
  where
    head : List Condition → Condition
    head [] = x
    head (z ∷ zs) = z

    leads : (z : Condition) (zs : List Condition) → head (reached z ++ zs) ≡ z
    leads (one k span c) zs = refl
    leads (two k span l r) zs = refl
    leads (predicate span own ns act args) zs = refl
    leads (comparison span op l r) zs = refl
    leads (exists span b c) zs = refl
    leads (tp span sl) zs = refl
    leads (opaque span) zs = refl

pub whole : (x y : Condition) → reached x ≡ reached y → x ≡ y
whole x y e = first x y [] [] (ap (λ l. l ++ []) e)

rest : {x : Condition} {xs ys : List Condition} → x ∷ xs ≡ x ∷ ys → xs ≡ ys
rest e = cc

-- by the kind of a condition
pub one_scoped : (x y : Condition) → one_kind (kind_of x) ≡ true → reached x ≡ x ∷ reached y → (bs : List Binder) → scoped bs x ≡ under bs x ∷ scoped bs y
unfolding scoped reached
one_scoped (one k span c) y h e bs = ap (λ z. under bs (one k span c) ∷ scoped bs z) (whole c y (rest e))
one_scoped (two k span l r) y h e bs = absurd (go k h)
  where
    go : (k : Two) → one_kind (two_number k) ≡ true → ⊥
    go and i = false≢true i
    go or i = false≢true i
    go (since w) i = false≢true i
one_scoped (predicate span own ns act args) y h e bs = absurd (false≢true h)
one_scoped (comparison span op l r) y h e bs = absurd (false≢true h)
one_scoped (exists span b c) y h e bs = absurd (false≢true h)
one_scoped (tp span sl) y h e bs = absurd (false≢true h)
one_scoped (opaque span) y h e bs = absurd (false≢true h)

pub two_scoped : (x y z : Condition) → two_kind (kind_of x) ≡ true → reached x ≡ x ∷ (reached y ++ reached z) → (bs : List Binder) → scoped bs x ≡ under bs x ∷ (scoped bs y ++ scoped bs z)
unfolding scoped reached
two_scoped (one k span c) y z h e bs = absurd (go k h)
  where
    go : (k : One) → two_kind (one_number k) ≡ true → ⊥
    go negation i = false≢true i
    go (formerly w) i = false≢true i
    go (previous w) i = false≢true i
    go refine i = false≢true i
two_scoped (two k span l r) y z h e bs =
    let f : l ≡ y = first l y (reached r) (reached z) (rest e) in
    let g : r ≡ z = whole r z (append_cancel_left (reached l) (reached r) (reached z) (rest e ∙ ap (λ c. reached c ++ reached z) (sym f))) in
    rw (← f, ← g)
two_scoped (predicate span own ns act args) y z h e bs = absurd (false≢true h)
two_scoped (comparison span op l r) y z h e bs = absurd (false≢true h)
two_scoped (exists span b c) y z h e bs = absurd (false≢true h)
two_scoped (tp span sl) y z h e bs = absurd (false≢true h)
two_scoped (opaque span) y z h e bs = absurd (false≢true h)

pub exists_scoped : (x y : Condition) → kind_of x ≡ 9 → reached x ≡ x ∷ reached y → (bs : List Binder) → scoped bs x ≡ under bs x ∷ scoped (bs ++ declares x) y
unfolding scoped reached declares
exists_scoped (one k span c) y h e bs = absurd (go k h)
  where
    go : (k : One) → one_number k ≡ 9 → ⊥
    go negation i = omega arith
    go (formerly w) i = omega arith
    go (previous w) i = omega arith
    go refine i = omega arith
exists_scoped (two k span l r) y h e bs = absurd (go k h)
  where
    go : (k : Two) → two_number k ≡ 9 → ⊥
    go and i = omega arith
    go or i = omega arith
    go (since w) i = omega arith
exists_scoped (predicate span own ns act args) y h e bs = absurd (omega arith)
exists_scoped (comparison span op l r) y h e bs = absurd (omega arith)
exists_scoped (exists span b c) y h e bs = ap (λ z. under bs (exists span b c) ∷ scoped (bs ++ (b ∷ [])) z) (whole c y (rest e))
exists_scoped (tp span sl) y h e bs = absurd (omega arith)
exists_scoped (opaque span) y h e bs = absurd (omega arith)

-- a condition with none reached below it
pub alone_scoped : (x : Condition) → (two_kind (kind_of x) ≡ false) → (one_kind (kind_of x) ≡ false) → (kind_of x ≡ 8 → ⊥) → (kind_of x ≡ 9 → ⊥) → (bs : List Binder) → scoped bs x ≡ under bs x ∷ []
unfolding scoped
alone_scoped (one k span c) h i a b bs = absurd (go k i)
  where
    go : (k : One) → one_kind (one_number k) ≡ false → ⊥
    go negation i = false≢true (sym i)
    go (formerly w) i = false≢true (sym i)
    go (previous w) i = false≢true (sym i)
    go refine i = false≢true (sym i)
alone_scoped (two k span l r) h i a b bs = absurd (go k h)
  where
    go : (k : Two) → two_kind (two_number k) ≡ false → ⊥
    go and i = false≢true (sym i)
    go or i = false≢true (sym i)
    go (since w) i = false≢true (sym i)
alone_scoped (predicate span own ns act args) h i a b bs = refl
alone_scoped (comparison span op l r) h i a b bs = absurd (a refl)
alone_scoped (exists span bi c) h i a b bs = absurd (b refl)
alone_scoped (tp span sl) h i a b bs = refl
alone_scoped (opaque span) h i a b bs = refl

-- the body of an aggregate, and a call, which has none
pub body_scoped : (x : Aggregate) (y : Condition) → (aggregate_kind_of x ≡ 3 → ⊥) → reached_body x ≡ reached y → (bs : List Binder) → scoped_body bs x ≡ scoped (bs ++ declared_by x) y
unfolding scoped_body reached_body declared_by
body_scoped (sum span sl own body) y h e bs = ap (scoped (bs ++ own)) (whole body y e)
body_scoped (count span own body) y h e bs = ap (scoped (bs ++ own)) (whole body y e)
body_scoped (call span) y h e bs = absurd (h refl)

pub call_scoped : (x : Aggregate) → aggregate_kind_of x ≡ 3 → (bs : List Binder) → scoped_body bs x ≡ []
unfolding scoped_body
call_scoped (sum span sl own body) e bs = absurd (omega arith)
call_scoped (count span own body) e bs = absurd (omega arith)
call_scoped (call span) e bs = refl

-- a term that is no aggregate and no arithmetic
pub bare_scoped : (x : Term) → (term_kind_of x ≡ 11 → ⊥) → (term_kind_of x ≡ 12 → ⊥) → (bs : List Binder) → scoped_in bs x ≡ []
unfolding scoped_in
bare_scoped (entity n) a b bs = refl
bare_scoped (literal l) a b bs = refl
bare_scoped (context_field p) a b bs = refl
bare_scoped (scope_field p) a b bs = refl
bare_scoped (var v) a b bs = refl
bare_scoped wildcard a b bs = refl
bare_scoped (array ts) a b bs = refl
bare_scoped (aggregate x) a b bs = absurd (a refl)
bare_scoped (tree.arith op l r) a b bs = absurd (b refl)
bare_scoped sigil a b bs = refl
