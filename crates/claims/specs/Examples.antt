-- Document 01's 'Examples at the edges' marked T, of the rules together, as rows under one statement, `Hold edges`: a condition under a target that is
-- checked (`reports` counts its breaches there), and a term under the facts of a condition (`type_in`).
use Rattle.std.specs.Prelude.{ℕ, zero, suc, ◌≡◌, true, List, [], ◌∷◌, ◌++◌, length}
use Rattle.std.proofs.Math.Option.{Option, none, some}
use Rattle.names.specs.Lists.{gather}
use Rattle.names.specs.Text.{text}
use Rattle.types.specs.Types as types
use Rattle.types.specs.Types.{Ty, plain, scalar, any_array, mixed_array}
use Rattle.types.specs.Laws.Types.{is_array}
use Rattle.types.specs.Meaning.{layered}
use Rattle.schema.specs.Schema.{Schema, EntityType, Action}
use Rattle.schema.specs.Find.{find_action, find_entity, find_attribute}
use Rattle.targets.specs.Targets.{Target, Scope, Narrowing, any}
use Rattle.resolution.specs.Resolution.{context_type, admitted, side_admits, predicate_action}
use Rattle.condition.specs.Condition as condition
use Rattle.condition.specs.Condition.{Span, Condition, Term, Binder, Operator, named, path, lt, eq, two, predicate, comparison, exists, argument, no_argument, literal, scope_field, var, wildcard, array, nil, cons}
use Rattle.condition.specs.Walk.{reached, binders, last_named}
use Rattle.terms.specs.Terms.{Facts, facts_of, term_type}
use Rattle.rules.specs.Rules.{node_breaches}
use Rattle.typecheck.specs.Check.{no_choice, breaches_under, is_checked}
use Rattle.claims.specs.Rows.{Row, of_all, of_each}

-- a target that is checked, and any place of a condition
pub record Checked : Type 0 where
  pub schema : Schema
  pub scope : Scope
  pub target : Target
  pub at : Span
  pub is : is_checked schema scope target ≡ true

abbrev pub action_of : Checked → Option Action
action_of x = find_action x.schema x.target.namespace x.target.id

-- the facts of a condition under it in the plain profile, and a term's type in them
abbrev pub facts_in : Checked → Condition → Facts
facts_in x c = facts_of plain x.schema c x.scope (action_of x)

abbrev pub type_in : Checked → Condition → Term → Option Ty
type_in x c t = term_type (some (facts_in x c)) t

-- how many breaches a condition has under it
abbrev pub reports : Checked → Condition → ℕ
reports x c = length (breaches_under no_choice x.schema c x.scope x.target)

-- `1`, `1.0`, `"s"`, `[t]`
abbrev pub integer : Term
integer = literal (condition.integer none)

abbrev pub decimal : Term
decimal = literal (condition.decimal none)

abbrev pub string : Term
string = literal (condition.string none)

abbrev pub only : Term → Term
only t = array (cons t nil)

-- a comparison whose operands have these types
pub record Operands (op : Operator) (left right : Ty) : Type 0 where
  pub under : Checked
  pub l : Term
  pub r : Term
  pub is_left : type_in under (comparison under.at op l r) l ≡ some left
  pub is_right : type_in under (comparison under.at op l r) r ≡ some right

abbrev pub compared : {op : Operator} {left right : Ty} → Operands op left right → ℕ
compared {op} x = reports x.under (comparison x.under.at op x.l x.r)

-- two entities, tagged or not, alike or not
pub record Entities : Type 0 where
  pub left : Option (List ℕ)
  pub right : Option (List ℕ)
  pub operands : Operands eq (types.entity left) (types.entity right)

-- `[]` in so many brackets more
abbrev pub empty : ℕ → Term
empty zero = array nil
empty (suc n) = only (empty n)

-- such an array in a condition with a term whose type is an array in as many layers more
pub record BesideEmpty (whole : Span → Term → Term → Condition) : Type 0 where
  pub under : Checked
  pub layers : ℕ
  pub term : Term
  pub type : Ty
  pub is : type_in under (whole under.at (empty layers) term) term ≡ some (layered layers type)
  pub is_array : is_array type ≡ true

abbrev pub beside_empty : {whole : Span → Term → Term → Condition} → BesideEmpty whole → ℕ
beside_empty {whole} x = reports x.under (whole x.under.at (empty x.layers) x.term)

-- a predicate with one argument, of a field that is an array in so many layers more
pub record ArrayField : Type 0 where
  pub under : Checked
  pub own : Span
  pub namespace : List (List ℕ)
  pub name : List ℕ
  pub param : List ℕ
  pub field : List (List ℕ)
  pub layers : ℕ
  pub type : Ty
  pub is : context_type (predicate_action under.schema namespace name) field ≡ some (layered layers type)
  pub is_array : is_array type ≡ true

abbrev pub argued : ArrayField → ℕ
argued x = reports x.under (predicate x.under.at x.own x.namespace x.name (argument x.param x.field (empty x.layers) no_argument))

abbrev pub binder_of : List ℕ → List ℕ → Binder
binder_of name type = record { slot = named name; annotation = path (type ∷ []) }

-- a condition whose last binder of a name is `name: Long`
pub record Bound : Type 0 where
  pub under : Checked
  pub whole : Condition
  pub name : List ℕ
  pub before : List Binder
  pub after : List Binder
  pub passes : binders whole ≡ before ++ (binder_of name (text "Long") ∷ after)
  pub last : last_named name after ≡ none

-- one that passes `name: Long` and later `name: String`, and no binder of that name behind it
pub record Rebound : Type 0 where
  pub under : Checked
  pub whole : Condition
  pub name : List ℕ
  pub before : List Binder
  pub between : List Binder
  pub after : List Binder
  pub passes : binders whole ≡ before ++ (binder_of name (text "Long") ∷ (between ++ (binder_of name (text "String") ∷ after)))
  pub last : last_named name after ≡ none

-- any name
pub record AnyName : Type 0 where
  pub under : Checked
  pub name : List ℕ

-- a condition in which a name is declared Long
abbrev pub declaring : AnyName → (Span → Term → Condition) → Condition
declaring x body = exists x.under.at (binder_of x.name (text "Long")) (body x.under.at (var x.name))

-- `v == 1 and exists v: Long. (v == "s" and exists v: String. v == "s")`
abbrev pub twice : AnyName → Condition
twice x =
    let at : Span = x.under.at in
    let v : Term = var x.name in
    two condition.and at (comparison at eq v integer)
    (exists at (binder_of x.name (text "Long")) (two condition.and at (comparison at eq v string) (exists at (binder_of x.name (text "String")) (comparison at eq v string))))

-- an action of which the scope leaves one principal type, declared and without an attribute `id`
pub record WithoutId : Type 0 where
  pub under : Checked
  pub whole : Condition
  pub action : Action
  pub name : List ℕ
  pub type : EntityType
  pub found : action_of under ≡ some action
  pub left : admitted under.schema under.scope.principal action.principals ≡ name ∷ []
  pub declared : find_entity under.schema name ≡ some type
  pub without : find_attribute type.attributes (text "id") ≡ none

-- `principal.id`, `principal.id.z`
abbrev pub id : Term
id = scope_field (text "principal" ∷ text "id" ∷ [])

abbrev pub part_of_id : Term
part_of_id = scope_field (text "principal" ∷ text "id" ∷ text "z" ∷ [])

abbrev pub comparing : WithoutId → Operator → Term → Term → ℕ
comparing x op l r = reports x.under (comparison x.under.at op l r)

-- a target whose action names no principal; what is said of the resource admits it
pub record NoPrincipals : Type 0 where
  pub schema : Schema
  pub target : Target
  pub action : Action
  pub whole : Condition
  pub at : Span
  pub resource : Option Narrowing
  pub found : find_action schema target.namespace target.id ≡ some action
  pub empty : action.principals ≡ []
  pub admits : side_admits schema resource action.resources ≡ true

abbrev pub narrowed_to : Option Narrowing → NoPrincipals → Scope
narrowed_to n x = record { principal = n; resource = x.resource }

abbrev pub edges : List Row
edges =
    -- Decimal `<` Decimal, one report; Decimal `==` Decimal, none
    of_all (Operands lt (scalar types.decimal) (scalar types.decimal)) compared 1
    ∷ of_all (Operands eq (scalar types.decimal) (scalar types.decimal)) compared 0
    -- `[]` against any array passes: left and right of an equality, and as an argument, in every number of layers
    ∷ of_all (BesideEmpty (λ at e t. comparison at eq e t)) beside_empty 0
    ∷ of_all (BesideEmpty (λ at e t. comparison at eq t e)) beside_empty 0
    ∷ of_all ArrayField argued 0
    -- `[1, *]` is mixed; `[v]` is mixed though `v` is Long; `[[], [1]]` is mixed; and so `== [1]`, `== [[1]]` is a report
    ∷ of_all (Option Facts) (λ f. term_type f (array (cons integer (cons wildcard nil)))) (some mixed_array)
    ∷ of_all Bound (λ x. type_in x.under x.whole (var x.name)) (some (scalar types.long))
    ∷ of_all Bound (λ x. type_in x.under x.whole (only (var x.name))) (some mixed_array)
    ∷ of_all (Option Facts) (λ f. term_type f (array (cons (array nil) (cons (only integer) nil)))) (some mixed_array)
    ∷ of_all Checked (λ x. reports x (comparison x.at eq (array (cons integer (cons wildcard nil))) (only integer))) 1
    ∷ of_all AnyName (λ x. reports x.under (declaring x (λ at v. comparison at eq v integer))) 0
    ∷ of_all AnyName (λ x. reports x.under (declaring x (λ at v. comparison at eq (only v) (only integer)))) 1
    ∷ of_all Checked (λ x. reports x (comparison x.at eq (array (cons (array nil) (cons (only integer) nil))) (only (only integer)))) 1
    -- on a declared type without attribute `id`, `principal.id` is String, and `principal.id.z` does not resolve, so that nothing is judged
    ∷ of_all WithoutId (λ x. type_in x.under x.whole id) (some (scalar types.string))
    ∷ of_all WithoutId (λ x. type_in x.under x.whole part_of_id) none
    ∷ of_all WithoutId (λ x. comparing x eq id string) 0
    ∷ of_all WithoutId (λ x. comparing x lt id integer) 1
    ∷ of_all WithoutId (λ x. comparing x lt part_of_id integer) 0
    -- no principals: narrowing Any skips the target, whatever the condition breaks; none does not
    ∷ of_all NoPrincipals (λ x. breaches_under no_choice x.schema x.whole (narrowed_to (some any) x) x.target) []
    ∷ of_each NoPrincipals (λ x. breaches_under no_choice x.schema x.whole (narrowed_to none x) x.target) (λ x. gather (node_breaches (facts_of plain x.schema x.whole (narrowed_to none x) (some x.action))) (reached x.whole))
    ∷ of_all NoPrincipals (λ x. length (breaches_under no_choice x.schema (comparison x.at lt decimal decimal) (narrowed_to none x) x.target)) 1
    -- `* == 1` none; `* + 1 == 2` one
    ∷ of_all Checked (λ x. reports x (comparison x.at eq wildcard integer)) 0
    ∷ of_all Checked (λ x. reports x (comparison x.at eq (condition.arith none wildcard integer) integer)) 1
    -- binders `v: Long`, then `v: String`: String everywhere
    ∷ of_all Rebound (λ x. type_in x.under x.whole (var x.name)) (some (scalar types.string))
    ∷ of_all AnyName (λ x. reports x.under (twice x)) 1
    -- and of the wrong readings: unequal tags do not fail `==`
    ∷ of_all Entities (λ x. compared x.operands) 0
    ∷ []
