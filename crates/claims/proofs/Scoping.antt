-- The conditions that a walk reaches with the binders around them, and the last binder of a name. Assumes nothing.
use mathlib.Core.Path.{◌≡◌, refl, sym, ap, ap₂, ◌∙◌}
use mathlib.Core.Bool.{Bool, true, false, cond, ◌&&◌, ◌||◌, not, false≢true}
use mathlib.Core.Logic.{inl, inr, ⊎_elim}
use mathlib.Core.List.{List, [], ◌∷◌, ◌++◌, map, map-map}
use mathlib.Core.Option.{Option, none, some}
use Prim.Native.Nat.{ℕ, ◌+◌, ◌≤◌, ◌<◌}
use native.Mathlib.Omega.{arith}
use lib.Dec.{ltb}
use borrow.Author.Tests.{lt-ltb, le-ltb, ltb-true, ltb-false}
use Rattle.names.specs.Lists.{maybe, gather, any_of, every}
use Rattle.names.specs.Names.{same}
use Rattle.names.specs.Laws.Lists.{gather_append}
use Rattle.names.specs.Laws.Names.{and_left, and_right, same_eq, same_refl}
use Rattle.condition.specs.Condition as tree
use Rattle.condition.specs.Condition.{Condition, Term, Aggregate, Binder, Slot, named, param_ref, binder_ref, Annotation, one, two, predicate, comparison, exists, tp, opaque, entity, literal, context_field, scope_field, var, wildcard, array, aggregate, sigil, sum, count, call}
use Rattle.condition.specs.Walk.{declared_by, operand_aggregates, operand_binders, reached, reached_in, reached_body, declares, binders, named_here, last_named}
use Rattle.walk.specs.Scopes.{Scoped, under, scoped, scoped_in, scoped_body, Binding, flat, own, nodes_by}
use Rattle.walk.specs.Laws.Nodes.{scoped_nodes}
use Rattle.reports.specs.Pairs.{◌∈◌}
use Rattle.reports.specs.Laws.Sets.{in_left, in_right, in_append}
use Rattle.claims.specs.OwnBodies.{is_named, declared, declared_again, each_once, covered, all_binders, term_binders, aggregate_binders}

-- ---- lists

pub both_true : (a b : Bool) → a ≡ true → b ≡ true → (a && b) ≡ true
both_true true b e h = h
both_true false b e h = absurd (false≢true e)

module _ {A : Type 0} where
  -- what holds of every one holds of each
  pub every_in : (p : A → Bool) (xs : List A) → every p xs ≡ true → (x : A) → x ∈ xs → p x ≡ true
  unfolding every
  every_in p [] h x i = absurd i
  every_in p (y ∷ ys) h x (inl e) = ap p e ∙ and_left (p y) (every p ys) h
  every_in p (y ∷ ys) h x (inr i) = every_in p ys (and_right (p y) (every p ys) h) x i

  pub every_of : (p : A → Bool) (xs : List A) → ((x : A) → x ∈ xs → p x ≡ true) → every p xs ≡ true
  unfolding every
  every_of p [] h = refl
  every_of p (x ∷ xs) h = both_true (p x) (every p xs) (h x (inl refl)) (every_of p xs (λ y i. h y (inr i)))

  pub every_weaker : (p q : A → Bool) → ((x : A) → p x ≡ true → q x ≡ true) → (xs : List A) → every p xs ≡ true → every q xs ≡ true
  unfolding every
  every_weaker p q w [] h = refl
  every_weaker p q w (x ∷ xs) h = both_true (q x) (every q xs) (w x (and_left (p x) (every p xs) h)) (every_weaker p q w xs (and_right (p x) (every p xs) h))

  infix 40 ◌⊆◌
  abbrev pub ◌⊆◌ : List A → List A → Type 0
  l ⊆ m = (k : A) → k ∈ l → k ∈ m

  pub joined_in : (l m all : List A) → l ⊆ all → m ⊆ all → (l ++ m) ⊆ all
  joined_in l m all p q k i = ⊎_elim (p k) (q k) (in_append k l m i)

  pub left_in : (l m all : List A) → (l ++ m) ⊆ all → l ⊆ all
  left_in l m all p k i = p k (in_left k l m i)

  pub right_in : (l m all : List A) → (l ++ m) ⊆ all → m ⊆ all
  right_in l m all p k i = p k (in_right k l m i)

module _ {A B : Type 0} where
  pub map_in : (f g : A → B) (xs : List A) → ((x : A) → x ∈ xs → f x ≡ g x) → map f xs ≡ map g xs
  map_in f g [] e = refl
  map_in f g (x ∷ xs) e = ap₂ ◌∷◌ (e x (inl refl)) (map_in f g xs (λ y i. e y (inr i)))

  -- what is gathered, by the list of what each gives
  pub gather_map : (f : A → List B) (xs : List A) → gather f xs ≡ gather (λ ys. ys) (map f xs)
  unfolding gather
  gather_map f [] = refl
  gather_map f (x ∷ xs) = ap (λ zs. f x ++ zs) (gather_map f xs)

  pub gather_in : (f g : A → List B) (xs : List A) → ((x : A) → x ∈ xs → f x ≡ g x) → gather f xs ≡ gather g xs
  unfolding gather
  gather_in f g [] e = refl
  gather_in f g (x ∷ xs) e = ap₂ ◌++◌ (e x (inl refl)) (gather_in f g xs (λ y i. e y (inr i)))

  pub map_within : (f : A → B) (xs : List A) (x : A) → x ∈ xs → f x ∈ map f xs
  map_within f [] x i = absurd i
  map_within f (y ∷ ys) x (inl e) = inl (ap f e)
  map_within f (y ∷ ys) x (inr i) = inr (map_within f ys x i)

  pub gather_within : (f : A → List B) (xs : List A) (x : A) → x ∈ xs → f x ⊆ gather f xs
  unfolding gather
  gather_within f [] x i = absurd i
  gather_within f (y ∷ ys) x (inl e) = rw e (λ k j. in_left k (f y) (gather f ys) j)
  gather_within f (y ∷ ys) x (inr i) = λ k j. in_right k (f y) (gather f ys) (gather_within f ys x i k j)

  pub gather_left : (f : A → List B) (xs ys : List A) (all : List B) → gather f (xs ++ ys) ⊆ all → gather f xs ⊆ all
  gather_left f xs ys all p = left_in (gather f xs) (gather f ys) all (rw gather_append at p)

  pub gather_right : (f : A → List B) (xs ys : List A) (all : List B) → gather f (xs ++ ys) ⊆ all → gather f ys ⊆ all
  gather_right f xs ys all p = right_in (gather f xs) (gather f ys) all (rw gather_append at p)

abbrev node_of : Scoped → Condition
node_of n = n.node

-- ---- the binders around a reached condition are among those of the walk

module _ (all : List Binder) where
  abbrev Within : Scoped → Type 0
  Within n = n.around ⊆ all

  -- the first of some nodes, or one behind it
  first_or : (bs : List Binder) (c : Condition) (rest : List Scoped) → bs ⊆ all → ((n : Scoped) → n ∈ rest → Within n) → (n : Scoped) → n ∈ (under bs c ∷ rest) → Within n
  first_or bs c rest p q n (inl e) = rw e p
  first_or bs c rest p q n (inr i) = q n i

  either_of : (xs ys : List Scoped) → ((n : Scoped) → n ∈ xs → Within n) → ((n : Scoped) → n ∈ ys → Within n) → (n : Scoped) → n ∈ (xs ++ ys) → Within n
  either_of xs ys p q n i = ⊎_elim (p n) (q n) (in_append n xs ys i)

  mutual
    unfolding scoped scoped_in scoped_body reached reached_in reached_body declares gather operand_binders operand_aggregates declared_by

    pub around_within : (bs : List Binder) (c : Condition) → bs ⊆ all → gather declares (reached c) ⊆ all → (n : Scoped) → n ∈ scoped bs c → Within n
    around_within bs (one k at c) p q = first_or bs (one k at c) (scoped bs c) p (around_within bs c p q)
    around_within bs (two k at l r) p q =
        first_or bs (two k at l r) (scoped bs l ++ scoped bs r) p
        (either_of (scoped bs l) (scoped bs r)
        (around_within bs l p (gather_left declares (reached l) (reached r) all q))
        (around_within bs r p (gather_right declares (reached l) (reached r) all q)))
    around_within bs (predicate at span ns act args) p q = first_or bs (predicate at span ns act args) [] p (λ n i. absurd i)
    around_within bs (comparison at op l r) p q =
        let list = operand_binders l ++ operand_binders r in
        let own : list ⊆ all = left_in list (gather declares (reached_in l ++ reached_in r)) all q in
        let rest : gather declares (reached_in l ++ reached_in r) ⊆ all = right_in list (gather declares (reached_in l ++ reached_in r)) all q in
        first_or bs (comparison at op l r) (scoped_in bs l ++ scoped_in bs r) p
        (either_of (scoped_in bs l) (scoped_in bs r)
        (around_in bs l p (left_in (operand_binders l) (operand_binders r) all own) (gather_left declares (reached_in l) (reached_in r) all rest))
        (around_in bs r p (right_in (operand_binders l) (operand_binders r) all own) (gather_right declares (reached_in l) (reached_in r) all rest)))
    around_within bs (exists at b c) p q =
        first_or bs (exists at b c) (scoped (bs ++ (b ∷ [])) c) p
        (around_within (bs ++ (b ∷ [])) c (joined_in bs (b ∷ []) all p (left_in (b ∷ []) (gather declares (reached c)) all q)) (right_in (b ∷ []) (gather declares (reached c)) all q))
    around_within bs (tp at s) p q = first_or bs (tp at s) [] p (λ n i. absurd i)
    around_within bs (opaque at) p q = first_or bs (opaque at) [] p (λ n i. absurd i)

    pub around_in : (bs : List Binder) (t : Term) → bs ⊆ all → operand_binders t ⊆ all → gather declares (reached_in t) ⊆ all → (n : Scoped) → n ∈ scoped_in bs t → Within n
    around_in bs (entity x) p o q = λ n i. absurd i
    around_in bs (literal l) p o q = λ n i. absurd i
    around_in bs (context_field f) p o q = λ n i. absurd i
    around_in bs (scope_field f) p o q = λ n i. absurd i
    around_in bs (var v) p o q = λ n i. absurd i
    around_in bs wildcard p o q = λ n i. absurd i
    around_in bs (array ts) p o q = λ n i. absurd i
    around_in bs (aggregate a) p o q = around_body bs a p (left_in (declared_by a) [] all o) q
    around_in bs (tree.arith op l r) p o q =
        either_of (scoped_in bs l) (scoped_in bs r)
        (around_in bs l p (gather_left declared_by (operand_aggregates l) (operand_aggregates r) all o) (gather_left declares (reached_in l) (reached_in r) all q))
        (around_in bs r p (gather_right declared_by (operand_aggregates l) (operand_aggregates r) all o) (gather_right declares (reached_in l) (reached_in r) all q))
    around_in bs sigil p o q = λ n i. absurd i

    pub around_body : (bs : List Binder) (a : Aggregate) → bs ⊆ all → declared_by a ⊆ all → gather declares (reached_body a) ⊆ all → (n : Scoped) → n ∈ scoped_body bs a → Within n
    around_body bs (sum at s list body) p o q = around_within (bs ++ list) body (joined_in bs list all p o) q
    around_body bs (count at list body) p o q = around_within (bs ++ list) body (joined_in bs list all p o) q
    around_body bs (call at) p o q = λ n i. absurd i

-- every binder around a reached condition is one that the walk passes
pub around_passed : (c : Condition) (n : Scoped) → n ∈ scoped [] c → n.around ⊆ binders c
unfolding binders
around_passed c = around_within (binders c) [] c (λ k i. absurd i) (λ k i. i)

-- and so are those that its names are looked up among, by either binding
pub among_passed : (b : Binding) (c : Condition) (n : Scoped) → n ∈ nodes_by b c → n.around ⊆ binders c
unfolding nodes_by
among_passed own c n i = around_passed c n i
among_passed flat c n i = go (reached c) i
  where
    go : (xs : List Condition) → n ∈ map (under (binders c)) xs → n.around ⊆ binders c
    go [] j = absurd j
    go (x ∷ xs) (inl e) = rw e (λ k l. l)
    go (x ∷ xs) (inr j) = go xs j

-- ---- what is seen of the nodes: by f in their own bodies, by g in the flat environment

module _ {B : Type 0} (f g : Scoped → B) (c : Condition) (alike : (n : Scoped) → n ∈ scoped [] c → f n ≡ g (under (binders c) n.node)) where
  pub seen_alike : map f (nodes_by own c) ≡ map g (nodes_by flat c)
  unfolding nodes_by
  seen_alike =
      let all : List Binder = binders c in
      map_in f (λ n. g (under all n.node)) (scoped [] c) alike
      ∙ sym (map-map (λ x. g (under all x)) node_of (scoped [] c))
      ∙ ap (map (λ x. g (under all x))) (scoped_nodes [] c)
      ∙ sym (map-map g (under all) (reached c))

module _ {B : Type 0} (f g : Scoped → List B) (c : Condition) (alike : (n : Scoped) → n ∈ scoped [] c → f n ≡ g (under (binders c) n.node)) where
  pub gathered_alike : gather f (nodes_by own c) ≡ gather g (nodes_by flat c)
  gathered_alike = gather_map f (nodes_by own c) ∙ ap (gather (λ ys. ys)) (seen_alike f g c alike) ∙ sym (gather_map g (nodes_by flat c))

-- ---- the last binder of a name

-- whether there is one
abbrev is_some : {A : Type 0} → Option A → Bool
is_some none = false
is_some (some a) = true

some_later : {A : Type 0} (o q : Option A) → is_some (maybe o some q) ≡ (is_some o || is_some q)
some_later none none = refl
some_later none (some a) = refl
some_later (some a) none = refl
some_later (some a) (some b) = refl

some_here : (v : List ℕ) (a : Annotation) (s : Slot) → is_some (named_here v a s) ≡ is_named v s
unfolding named_here
some_here v a (named n) = go (same n v)
  where
    go : (b : Bool) → is_some (cond b (some a) none) ≡ b
    go true = refl
    go false = refl
some_here v a param_ref = refl
some_here v a binder_ref = refl

-- a name is declared where it has a last binder
pub declared_last : (v : List ℕ) (bs : List Binder) → is_some (last_named v bs) ≡ declared v bs
unfolding last_named declared any_of
declared_last v [] = refl
declared_last v (b ∷ bs) = some_later (named_here v b.annotation b.slot) (last_named v bs) ∙ ap₂ ◌||◌ (some_here v b.annotation b.slot) (declared_last v bs)

none_last : (v : List ℕ) (bs : List Binder) → declared v bs ≡ false → last_named v bs ≡ none
none_last v bs h = go (last_named v bs) (declared_last v bs ∙ h)
  where
    go : (o : Option Annotation) → is_some o ≡ false → o ≡ none
    go none e = refl
    go (some a) e = absurd (false≢true (sym e))

-- the last binder itself
record Last (v : List ℕ) (bs : List Binder) (a : Annotation) : Type 0 where
  binder : Binder
  among : binder ∈ bs
  is_of : is_named v binder.slot ≡ true
  says : binder.annotation ≡ a

here_named : (v : List ℕ) (a b : Annotation) (s : Slot) → named_here v a s ≡ some b → (is_named v s ≡ true) × (a ≡ b)
unfolding named_here
here_named v a b s e = (sym (some_here v a s) ∙ ap is_some e, go s e)
  where
    given : (t : Bool) → cond t (some a) none ≡ some b → a ≡ b
    given true i = cc
    given false i = absurd (false≢true (ap is_some i))

    go : (x : Slot) → named_here v a x ≡ some b → a ≡ b
    go (named n) i = given (same n v) i
    go param_ref i = absurd (false≢true (ap is_some i))
    go binder_ref i = absurd (false≢true (ap is_some i))

the_last : (v : List ℕ) (bs : List Binder) (a : Annotation) → last_named v bs ≡ some a → Last v bs a
unfolding last_named
the_last v [] a e = absurd (false≢true (ap is_some e))
the_last v (b ∷ bs) a e = go (last_named v bs) refl e (the_last v bs a)
  where
    go : (o : Option Annotation) → last_named v bs ≡ o → maybe (named_here v b.annotation b.slot) some o ≡ some a → (last_named v bs ≡ some a → Last v bs a) → Last v (b ∷ bs) a
    go none i h later = let x = here_named v b.annotation a b.slot h in record { binder = b; among = inl refl; is_of = x.0; says = x.1 }
    go (some x) i h later = let z = later (i ∙ h) in record { binder = z.binder; among = inr z.among; is_of = z.is_of; says = z.says }

-- ---- where each name is declared once

not-true : (b : Bool) → not b ≡ true → b ≡ false
not-true true e = absurd (false≢true e)
not-true false e = refl

here_once : (v : List ℕ) (a : Annotation) (s : Slot) (bs : List Binder) → is_named v s ≡ true → not (declared_again s bs) ≡ true → (declared v bs ≡ false) × (named_here v a s ≡ some a)
unfolding named_here
here_once v a (named n) bs e h = (ap (λ w. declared w bs) (sym (same_eq n v e)) ∙ not-true (declared n bs) h, rw e)
here_once v a param_ref bs e h = absurd (false≢true e)
here_once v a binder_ref bs e h = absurd (false≢true e)

-- the binder of a name is its last one
pub once_last : (v : List ℕ) (bs : List Binder) → each_once bs ≡ true → (b : Binder) → b ∈ bs → is_named v b.slot ≡ true → last_named v bs ≡ some b.annotation
unfolding last_named each_once
once_last v [] h b i e = absurd i
once_last v (x ∷ xs) h b (inl i) e =
    let y = here_once v x.annotation x.slot xs (rw i at e) (and_left (not (declared_again x.slot xs)) (each_once xs) h) in
    rw (none_last v xs y.0, i) y.1
once_last v (x ∷ xs) h b (inr i) e = rw (once_last v xs (and_right (not (declared_again x.slot xs)) (each_once xs) h) b i e)

-- among some of these binders that cover the use of a name, its last one is that among all
pub same_last : (all around : List Binder) → each_once all ≡ true → around ⊆ all → (v : List ℕ) → covered all around v ≡ true → last_named v around ≡ last_named v all
unfolding covered
same_last all around h p v k = go (last_named v around) refl
  where
    free : (b : Bool) → (not b || false) ≡ true → b ≡ false
    free true e = absurd (false≢true e)
    free false e = refl

    go : (o : Option Annotation) → last_named v around ≡ o → last_named v around ≡ last_named v all
    go none e =
        let u : declared v around ≡ false = sym (declared_last v around) ∙ ap is_some e in
        e ∙ sym (none_last v all (free (declared v all) (rw u at k)))
    go (some a) e =
        let z = the_last v around a e in
        e ∙ ap some (sym z.says) ∙ sym (once_last v all h z.binder (p z.binder z.among) z.is_of)

-- ---- the binders of the walk are no more than all: of each name

unfoldable pub times : List ℕ → List Binder → ℕ
times v [] = 0
times v (b ∷ bs) = cond (is_named v b.slot) 1 0 + times v bs

times_append : (v : List ℕ) (xs ys : List Binder) → times v (xs ++ ys) ≡ times v xs + times v ys
unfolding times
times_append v [] ys = omega arith
times_append v (x ∷ xs) ys = omega (arith, times_append v xs ys)

-- a name is declared where there is one of it
times_declared : (v : List ℕ) (bs : List Binder) → declared v bs ≡ ltb 0 (times v bs)
unfolding declared any_of times
times_declared v [] = refl
times_declared v (b ∷ bs) = go (is_named v b.slot) (times_declared v bs)
  where
    go : (t : Bool) → declared v bs ≡ ltb 0 (times v bs) → (t || declared v bs) ≡ ltb 0 (cond t 1 0 + times v bs)
    go true e = sym (lt-ltb 0 (1 + times v bs) (omega arith))
    go false e = let z : times v bs ≡ 0 + times v bs = omega arith in e ∙ ap (ltb 0) z

-- each name is declared once where there is at most one of each
once_times : (bs : List Binder) → each_once bs ≡ true → (v : List ℕ) → times v bs ≤ 1
unfolding each_once times
once_times [] h v = omega arith
once_times (b ∷ bs) h v = go (is_named v b.slot) refl (once_times bs (and_right (not (declared_again b.slot bs)) (each_once bs) h) v)
  where
    go : (t : Bool) → is_named v b.slot ≡ t → times v bs ≤ 1 → cond t 1 0 + times v bs ≤ 1
    go true e l =
        let f : ltb 0 (times v bs) ≡ false = sym (times_declared v bs) ∙ (here_once v b.annotation b.slot bs e (and_left (not (declared_again b.slot bs)) (each_once bs) h)).0 in
        omega (arith, ltb-false 0 (times v bs) f)
    go false e l = omega arith

times_once : (bs : List Binder) → ((v : List ℕ) → times v bs ≤ 1) → each_once bs ≡ true
unfolding each_once times
times_once [] h = refl
times_once (b ∷ bs) h = both_true (not (declared_again b.slot bs)) (each_once bs) (go b.slot h) (times_once bs (λ v. omega (arith, h v)))
  where
    go : (s : Slot) → ((v : List ℕ) → cond (is_named v s) 1 0 + times v bs ≤ 1) → not (declared_again s bs) ≡ true
    go (named n) l =
        let m : 1 + times n bs ≤ 1 = rw (same_refl n) at (l n) in
        let d : declared n bs ≡ false = times_declared n bs ∙ le-ltb 0 (times n bs) (omega arith) in
        rw d
    go param_ref l = refl
    go binder_ref l = refl

module _ (v : List ℕ) where
  times_gather : {A : Type 0} (f : A → List Binder) (xs ys : List A) → times v (gather f (xs ++ ys)) ≡ times v (gather f xs) + times v (gather f ys)
  times_gather f xs ys = ap (times v) (gather_append f xs ys) ∙ times_append v (gather f xs) (gather f ys)

  mutual
    unfolding reached reached_in reached_body declares gather operand_binders operand_aggregates declared_by all_binders term_binders aggregate_binders times

    fewer : (c : Condition) → times v (gather declares (reached c)) ≤ times v (all_binders c)
    fewer (one k at c) = fewer c
    fewer (two k at l r) = omega (arith, times_gather declares (reached l) (reached r), times_append v (all_binders l) (all_binders r), fewer l, fewer r)
    fewer (predicate at span ns act args) = omega arith
    fewer (comparison at op l r) =
        omega (
          arith,
          times_append v (operand_binders l ++ operand_binders r) (gather declares (reached_in l ++ reached_in r)),
          times_append v (operand_binders l) (operand_binders r),
          times_gather declares (reached_in l) (reached_in r),
          times_append v (term_binders l) (term_binders r),
          fewer_in l,
          fewer_in r,
        )
    fewer (exists at b c) = omega (arith, fewer c)
    fewer (tp at s) = omega arith
    fewer (opaque at) = omega arith

    fewer_in : (t : Term) → times v (operand_binders t) + times v (gather declares (reached_in t)) ≤ times v (term_binders t)
    fewer_in (entity n) = omega arith
    fewer_in (literal l) = omega arith
    fewer_in (context_field p) = omega arith
    fewer_in (scope_field p) = omega arith
    fewer_in (var w) = omega arith
    fewer_in wildcard = omega arith
    fewer_in (array ts) = omega arith
    fewer_in (aggregate a) = omega (arith, times_append v (declared_by a) [], fewer_body a)
    fewer_in (tree.arith op l r) =
        omega (arith, times_gather declared_by (operand_aggregates l) (operand_aggregates r), times_gather declares (reached_in l) (reached_in r), times_append v (term_binders l) (term_binders r), fewer_in l, fewer_in r)
    fewer_in sigil = omega arith

    fewer_body : (a : Aggregate) → times v (declared_by a) + times v (gather declares (reached_body a)) ≤ times v (aggregate_binders a)
    fewer_body (sum at s list body) = omega (arith, times_append v list (all_binders body), fewer body)
    fewer_body (count at list body) = omega (arith, times_append v list (all_binders body), fewer body)
    fewer_body (call at) = omega arith

-- what holds of all binders holds of those of the walk
module _ (c : Condition) where
  pub once_passed : each_once (all_binders c) ≡ true → each_once (binders c) ≡ true
  unfolding binders
  once_passed h = times_once (binders c) (λ v. omega (arith, fewer v c, once_times (all_binders c) h v))

  pub covered_passed : (around : List Binder) (v : List ℕ) → covered (all_binders c) around v ≡ true → covered (binders c) around v ≡ true
  unfolding covered binders
  covered_passed around v h = go (declared v (binders c)) refl
    where
      go : (b : Bool) → declared v (binders c) ≡ b → (not b || declared v around) ≡ true
      go true e =
          let i : 0 < times v (binders c) = ltb-true 0 (times v (binders c)) (sym (times_declared v (binders c)) ∙ e) in
          let j : declared v (all_binders c) ≡ true = times_declared v (all_binders c) ∙ lt-ltb 0 (times v (all_binders c)) (omega (arith, fewer v c)) in
          rw j at h
      go false e = refl
