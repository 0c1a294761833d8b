-- A strict run beside a plain one: the types of terms do not depend on the profile, and so only what is said of two operands does. Assumes nothing.
use mathlib.Core.Path.{◌≡◌, refl, sym, ap, ap₂, subst, ◌∙◌}
use mathlib.Core.Bool.{Bool, true, false, not, false≢true}
use mathlib.Core.Logic.{◌⊎◌, inl, inr, ⊎_elim}
use mathlib.Core.List.{List, [], ◌∷◌, ◌++◌}
use mathlib.Core.Option.{Option, none, some}
use Prim.Native.Nat.{ℕ, ◌+◌, ◌*◌, ◌/◌, ◌%◌, ◌<◌}
use native.Mathlib.Omega.{arith}
use Rattle.names.specs.Lists.{maybe}
use Rattle.types.specs.Types.{Ty, dated, Profile, plain, strict, compatible}
use Rattle.types.specs.Profiles.{Unlike}
use Rattle.types.specs.Laws.Profiles.{profiles, compatible_plain}
use Rattle.schema.specs.Schema.{Schema, Action}
use Rattle.schema.specs.Find.{find_action}
use Rattle.targets.specs.Targets.{Target, Targets, Scope}
use Rattle.resolution.specs.Resolution.{context_type, predicate_action}
use Rattle.condition.specs.Condition as condition
use Rattle.condition.specs.Condition.{Condition, Binder, Term, Arguments, Span, Slot, Operator, named, param_ref, binder_ref, one, two, predicate, comparison, exists, tp, opaque, no_argument, argument, entity, literal, context_field, scope_field, var, wildcard, array, aggregate, sigil}
use Rattle.walk.specs.Scopes.{Scoped, under, Binding, binding_of, nodes_by}
use Rattle.terms.specs.Terms.{Facts, facts_among, term_type, var_type, scope_field_type, root_type}
use Rattle.rules.specs.Messages.{unlike_types}
use Rattle.rules.specs.Rules.{breach_if, both, not_long_here, ordering, operands_by, like_breaches, argument_breach, argument_breaches, leaf_breaches, arithmetic_breaches, timepoint_breaches, node_breaches}
use Rattle.reports.specs.Reports.{Breach}
use Rattle.reports.specs.Pairs.{◌∈◌, Pair, pair_of}
use Rattle.reports.specs.Laws.Sets.{in_left, in_right, in_append}
use Rattle.typecheck.specs.Check.{profile_of, breaches_at, check}
use Rattle.claims.specs.Breaches.{PairOf}
use Rattle.claims.specs.Strict.{Added, Inclusion, NoRules, Bits}
use Rattle.claims.proofs.Demand3.{alone}

-- ---- a node: what does not depend on the profile

module _ (s : Schema) (bs : List Binder) (scope : Scope) (a : Option Action) where
  abbrev facts : Profile → Facts
  facts p = facts_among dated p s scope a bs

  module _ (p : Profile) where
    root_same : (own : Action) (path : List (List ℕ)) → root_type (facts p) own path ≡ root_type (facts plain) own path
    unfolding root_type
    root_same own [] = refl
    root_same own (root ∷ tail) = refl

    scope_same : (path : List (List ℕ)) → scope_field_type (facts p) path ≡ scope_field_type (facts plain) path
    unfolding scope_field_type
    scope_same path = go a
      where
        go : (o : Option Action) → maybe none (λ (own : Action). root_type (facts p) own path) o ≡ maybe none (λ (own : Action). root_type (facts plain) own path) o
        go none = refl
        go (some own) = root_same own path

    type_same : (t : Term) → term_type (some (facts p)) t ≡ term_type (some (facts plain)) t
    unfolding term_type var_type
    type_same (entity n) = refl
    type_same (literal l) = refl
    type_same (context_field q) = refl
    type_same (scope_field q) = scope_same q
    type_same (var v) = refl
    type_same wildcard = refl
    type_same (array ts) = refl
    type_same (aggregate g) = refl
    type_same (condition.arith op l r) = refl
    type_same sigil = refl

    arguments_same : (name : List ℕ) (action : Option Action) (args : Arguments) (own : Span) → argument_breaches (facts p) name action args own ≡ argument_breaches (facts plain) name action args own
    unfolding argument_breaches
    arguments_same name action no_argument own = refl
    arguments_same name action (argument param field value rest) own =
        ap₂ (λ (o : Option Ty) (l : List Breach). both (context_type action field) o (argument_breach param name) own ++ l) (type_same value) (arguments_same name action rest own)

    leaves_same : (t : Term) (at : Span) → leaf_breaches (facts p) t at ≡ leaf_breaches (facts plain) t at
    unfolding leaf_breaches
    leaves_same (condition.arith op l r) at = ap₂ (λ (x y : List Breach). x ++ y) (leaves_same l at) (leaves_same r at)
    leaves_same wildcard at = refl
    leaves_same sigil at = refl
    leaves_same (entity n) at = ap (λ (o : Option Ty). not_long_here o at) (type_same (entity n))
    leaves_same (literal l) at = ap (λ (o : Option Ty). not_long_here o at) (type_same (literal l))
    leaves_same (context_field q) at = ap (λ (o : Option Ty). not_long_here o at) (type_same (context_field q))
    leaves_same (scope_field q) at = ap (λ (o : Option Ty). not_long_here o at) (type_same (scope_field q))
    leaves_same (var v) at = ap (λ (o : Option Ty). not_long_here o at) (type_same (var v))
    leaves_same (array ts) at = ap (λ (o : Option Ty). not_long_here o at) (type_same (array ts))
    leaves_same (aggregate g) at = refl

    arithmetic_same : (t : Term) (at : Span) → arithmetic_breaches (facts p) t at ≡ arithmetic_breaches (facts plain) t at
    unfolding arithmetic_breaches
    arithmetic_same (condition.arith op l r) at = leaves_same (condition.arith op l r) at
    arithmetic_same wildcard at = refl
    arithmetic_same sigil at = refl
    arithmetic_same (entity n) at = refl
    arithmetic_same (literal l) at = refl
    arithmetic_same (context_field q) at = refl
    arithmetic_same (scope_field q) at = refl
    arithmetic_same (var v) at = refl
    arithmetic_same (array ts) at = refl
    arithmetic_same (aggregate g) at = refl

    timepoint_same : (slot : Slot) (at : Span) → timepoint_breaches (facts p) slot at ≡ timepoint_breaches (facts plain) slot at
    unfolding timepoint_breaches var_type
    timepoint_same (named name) at = refl
    timepoint_same param_ref at = refl
    timepoint_same binder_ref at = refl

    abbrev of_types : Operator → Term → Term → Span → List Breach
    of_types op l r at = both (term_type (some (facts plain)) l) (term_type (some (facts plain)) r) (operands_by p (ordering op)) at

    comparison-is : (at : Span) (op : Operator) (l r : Term) → node_breaches (facts p) (comparison at op l r) ≡ arithmetic_breaches (facts plain) l at ++ arithmetic_breaches (facts plain) r at ++ of_types op l r at
    unfolding node_breaches
    comparison-is at op l r =
        ap₂ (λ (x y : List Breach). x ++ y)
        (ap₂ (λ (x y : List Breach). x ++ y) (arithmetic_same l at) (arithmetic_same r at))
        (ap₂ (λ (x y : Option Ty). both x y (operands_by p (ordering op)) at) (type_same l) (type_same r))

  -- ---- what does

  module _ (b : Breach) where
    more : (x y : Bool) (m : List ℕ) (at : Span) → (y ≡ true → x ≡ true) → b ∈ breach_if (not x) m at → b ∈ breach_if (not y) m at
    more true y m at f h = absurd h
    more false false m at f h = h
    more false true m at f h = absurd (false≢true (f refl))

    types_more : (ordered : Bool) (o q : Option Ty) (at : Span) → b ∈ both o q (operands_by plain ordered) at → b ∈ both o q (operands_by strict ordered) at
    unfolding like_breaches
    types_more ordered none q at h = absurd h
    types_more ordered (some t) none at h = absurd h
    types_more true (some t) (some u) at h = h
    types_more false (some t) (some u) at h = more (compatible plain t u) (compatible strict t u) (unlike_types t u) at (compatible_plain strict t u) h

    -- a node's plain breaches are strict ones
    node_more : (x : Condition) → b ∈ node_breaches (facts plain) x → b ∈ node_breaches (facts strict) x
    unfolding node_breaches
    node_more (one k at d) h = h
    node_more (two k at l r) h = h
    node_more (predicate at own ns name args) h = subst (λ (l : List Breach). b ∈ l) (sym (arguments_same strict name (predicate_action s ns name) args own)) h
    node_more (comparison at op l r) h =
        let before : List Breach = arithmetic_breaches (facts plain) l at ++ arithmetic_breaches (facts plain) r at in
        let also : List Breach = of_types strict op l r at in
        subst (λ (l : List Breach). b ∈ l) (sym (comparison-is strict at op l r))
        (⊎_elim (λ i. in_left b before also i)
        (λ i. in_right b before also (types_more (ordering op) (term_type (some (facts plain)) l) (term_type (some (facts plain)) r) at i))
        (in_append b before (of_types plain op l r at) h))
    node_more (exists at d x) h = h
    node_more (tp at slot) h = subst (λ (l : List Breach). b ∈ l) (sym (timepoint_same strict slot at)) h
    node_more (opaque at) h = h

    -- what a strict node breaks beside: an equality of unlike tags
    record Equality (x : Condition) : Type 0 where
      at : Span
      op : Operator
      left : Term
      right : Term
      is : x ≡ comparison at op left right
      is_equality : ordering op ≡ false
      type_left : Ty
      type_right : Ty
      is_left : term_type (some (facts plain)) left ≡ some type_left
      is_right : term_type (some (facts plain)) right ≡ some type_right
      unlike : Unlike type_left type_right
      breach : b ≡ record { start = at.start; end = at.end; message = unlike_types type_left type_right }

    -- what is said of two types beside
    record Says (t u : Ty) (at : Span) : Type 0 where
      unlike : Unlike t u
      breach : b ≡ record { start = at.start; end = at.end; message = unlike_types t u }

    fewer : (t u : Ty) (at : Span) (x y : Bool) → compatible plain t u ≡ x → compatible strict t u ≡ y → b ∈ breach_if (not y) (unlike_types t u) at → (b ∈ breach_if (not x) (unlike_types t u) at) ⊎ Says t u at
    fewer t u at x true e g h = absurd h
    fewer t u at false false e g h = inl h
    fewer t u at true false e g (inl is) = inr (record { unlike = (profiles.differs t u).0 (e, g); breach = is })
    fewer t u at true false e g (inr h) = absurd h

    likes_fewer : (t u : Ty) (at : Span) → b ∈ like_breaches strict t u at → (b ∈ like_breaches plain t u at) ⊎ Says t u at
    unfolding like_breaches
    likes_fewer t u at h = fewer t u at (compatible plain t u) (compatible strict t u) refl refl h

    module _ (at : Span) (op : Operator) (l r : Term) where
      by_types : (ordered : Bool) (o q : Option Ty) → ordering op ≡ ordered → term_type (some (facts plain)) l ≡ o → term_type (some (facts plain)) r ≡ q
          → b ∈ both o q (operands_by strict ordered) at → (b ∈ both o q (operands_by plain ordered) at) ⊎ Equality (comparison at op l r)
      by_types ordered none q i e g h = absurd h
      by_types ordered (some t) none i e g h = absurd h
      by_types true (some t) (some u) i e g h = inl h
      by_types false (some t) (some u) i e g h =
          ⊎_elim inl
          (λ (d : Says t u at). inr (record { at = at; op = op; left = l; right = r; is = refl; is_equality = i; type_left = t; type_right = u; is_left = e; is_right = g; unlike = d.unlike; breach = d.breach }))
          (likes_fewer t u at h)

      types_fewer : b ∈ of_types strict op l r at → (b ∈ of_types plain op l r at) ⊎ Equality (comparison at op l r)
      types_fewer h = by_types (ordering op) (term_type (some (facts plain)) l) (term_type (some (facts plain)) r) refl refl refl h

      comparison_fewer : b ∈ node_breaches (facts strict) (comparison at op l r) → (b ∈ node_breaches (facts plain) (comparison at op l r)) ⊎ Equality (comparison at op l r)
      comparison_fewer h =
          let before : List Breach = arithmetic_breaches (facts plain) l at ++ arithmetic_breaches (facts plain) r at in
          let own : List Breach = of_types plain op l r at in
          let back : b ∈ (before ++ own) → b ∈ node_breaches (facts plain) (comparison at op l r) = λ i. subst (λ (l : List Breach). b ∈ l) (sym (comparison-is plain at op l r)) i in
          ⊎_elim (λ i. inl (back (in_left b before own i)))
          (λ i. ⊎_elim (λ j. inl (back (in_right b before own j))) inr (types_fewer i))
          (in_append b before (of_types strict op l r at) (subst (λ (l : List Breach). b ∈ l) (comparison-is strict at op l r) h))

    node_fewer : (x : Condition) → b ∈ node_breaches (facts strict) x → (b ∈ node_breaches (facts plain) x) ⊎ Equality x
    unfolding node_breaches
    node_fewer (one k at d) h = inl h
    node_fewer (two k at l r) h = inl h
    node_fewer (predicate at own ns name args) h = inl (subst (λ (l : List Breach). b ∈ l) (arguments_same strict name (predicate_action s ns name) args own) h)
    node_fewer (comparison at op l r) h = comparison_fewer at op l r h
    node_fewer (exists at d x) h = inl h
    node_fewer (tp at slot) h = inl (subst (λ (l : List Breach). b ∈ l) (timepoint_same strict slot at) h)
    node_fewer (opaque at) h = inl h

-- ---- whole runs

module _ (s : Schema) (c : Condition) (ts : Targets) (own also : ℕ) (is_plain : profile_of own ≡ plain) (is_strict : profile_of also ≡ strict) (alike : binding_of own ≡ binding_of also) where
  module _ (t : Target) (x : Scoped) (b : Breach) where
    abbrev action : Option Action
    action = find_action s t.namespace t.id

    abbrev breaks : Profile → Type 0
    breaks p = b ∈ breaches_at dated p s ts.scope action x

    to_strict : breaks (profile_of own) → breaks (profile_of also)
    to_strict h = subst breaks (sym is_strict) (node_more s x.around ts.scope action b x.node (subst breaks is_plain h))

    from_strict : breaks (profile_of also) → breaks (profile_of own) ⊎ Equality s x.around ts.scope action b x.node
    from_strict h = ⊎_elim (λ i. inl (subst breaks (sym is_plain) i)) inr (node_fewer s x.around ts.scope action b x.node (subst breaks is_strict h))

  -- the nodes are the same
  to_also : (x : Scoped) → x ∈ nodes_by (binding_of own) c → x ∈ nodes_by (binding_of also) c
  to_also x h = subst (λ (d : Binding). x ∈ nodes_by d c) alike h

  to_own : (x : Scoped) → x ∈ nodes_by (binding_of also) c → x ∈ nodes_by (binding_of own) c
  to_own x h = subst (λ (d : Binding). x ∈ nodes_by d c) (sym alike) h

  pairs_more : (k : Pair) → PairOf own s c ts k → PairOf also s c ts k
  pairs_more k r =
      let i = r.is_breach in
      let n = i.breach in
      record {
        breach = r.breach;
        pair = r.pair;
        is_breach = record { target = i.target; listed = i.listed; checked = i.checked; breach = record { node = n.node; is_reached = to_also n.node n.is_reached; breaks = to_strict i.target n.node r.breach n.breaks } };
      }

  pairs_fewer : (k : Pair) → PairOf also s c ts k → PairOf own s c ts k ⊎ Added (binding_of own) s c ts k
  pairs_fewer k r =
      let i = r.is_breach in
      let n = i.breach in
      ⊎_elim
      (λ h. inl (record { breach = r.breach; pair = r.pair; is_breach = record { target = i.target; listed = i.listed; checked = i.checked; breach = record { node = n.node; is_reached = to_own n.node n.is_reached; breaks = h } } }))
      (λ (e : Equality s n.node.around ts.scope (action i.target n.node r.breach) r.breach n.node.node). inr (record {
        target = i.target;
        listed = i.listed;
        checked = i.checked;
        at = e.at;
        op = e.op;
        left = e.left;
        right = e.right;
        around = n.node.around;
        is_reached = subst (λ (x : Condition). under n.node.around x ∈ nodes_by (binding_of own) c) e.is (to_own n.node n.is_reached);
        is_equality = e.is_equality;
        type_left = e.type_left;
        type_right = e.type_right;
        is_left = e.is_left;
        is_right = e.is_right;
        unlike = e.unlike;
        pair = r.pair ∙ ap pair_of e.breach;
      }))
      (from_strict i.target n.node r.breach n.breaks)

module _ (schema_bytes condition_bytes target_bytes : List ℕ) (s : Schema) (c : Condition) (ts : Targets) where
  pub inclusion : Inclusion schema_bytes condition_bytes target_bytes s c ts
  inclusion is own also is_plain is_strict alike a b room_a room_b =
      let e_a = alone own schema_bytes condition_bytes s c target_bytes ts is a room_a in
      let e_b = alone also schema_bytes condition_bytes s c target_bytes ts is b room_b in
      record {
        included = λ k h. (e_b.pairs.all k).1 (pairs_more s c ts own also is_plain is_strict alike k ((e_a.pairs.all k).0 h));
        nothing_else = λ k h. ⊎_elim (λ i. inl ((e_a.pairs.all k).1 i)) inr (pairs_fewer s c ts own also is_plain is_strict alike k ((e_b.pairs.all k).0 h));
      }

pub no_rules : NoRules
unfolding check
no_rules schema_bytes condition_bytes target_bytes buffer = refl

even_rest : (n : ℕ) → (2 * n) % 2 ≡ 0
even_rest n = omega arith

odd_rest : (n : ℕ) → (2 * n + 1) % 2 ≡ 1
odd_rest n = omega arith

-- bit 1
low_rest : (n bit : ℕ) → bit < 2 → (4 * n + bit) / 2 % 2 ≡ 0
low_rest n bit h = omega arith

high_rest : (n bit : ℕ) → bit < 2 → (4 * n + 2 + bit) / 2 % 2 ≡ 1
high_rest n bit h = omega arith

pub bits : Bits
unfolding profile_of binding_of
bits = record {
  zero = refl;
  one = refl;
  even = λ n. rw (even_rest n);
  odd = λ n. rw (odd_rest n);
  below = λ n bit h. rw (low_rest n bit h);
  above = λ n bit h. rw (high_rest n bit h);
}
