-- What the answers of a scope path list, in terms of what the passes find. Assumes nothing.
--     with-its-list                  an answer is what the code's answer stands for, with its list
--     missing-listed                 `missing` lists the entity types that the passes of `next_failing` find
--     ambiguous-listed               `ambiguous` lists the texts that the passes of `next_rendering` find
--     all-behind                     where none is written yet, all texts are still to come
use Rattle.std.proofs.Math.Path.{◌≡◌, refl}
use Rattle.std.proofs.Common.{sym, ap, ◌∙◌, arith}
use Rattle.std.specs.Prelude.{Bool, ℕ}
use Rattle.std.proofs.Math.Bool.{true, false, cond}
use mathlib.Core.List.{List, [], ◌∷◌}
use Rattle.std.proofs.Math.Option.{Option, none, some}
use Rattle.names.specs.Lists.{maybe, first, every, select}
use Rattle.names.specs.Names.{same}
use Rattle.names.specs.Laws.Names.{same_eq}
use Rattle.types.specs.Types.{Ty, same_type}
use Rattle.schema.specs.Schema.{Schema, EntityType}
use Rattle.schema.specs.Find.{find_entity}
use Rattle.targets.specs.Targets.{Narrowing}
use Rattle.resolution.specs.Resolution as Resolution
use Rattle.resolution.specs.Resolution.{OnType, ambiguous, unknown, failed, missing_at, names_of, types_of, agreed, failure, verdict, on_entity, on_types_by, on_types, declared_all, admitted_by, admitted, scope_path_by, scope_path, renderings}
use Rattle.resolution.specs.Passes.{briefly, listed, with_list, fails_at, failing, above, type_on, types_on, renderings_on}
use Rattle.resolution.specs.Laws.Failing.{both}

pub with_its_list : (o : Resolution.ScopePath) → with_list (briefly o) (listed o) ≡ o
unfolding with_list briefly listed
with_its_list (Resolution.ScopePath.resolved t) = refl
with_its_list (Resolution.ScopePath.missing w ws) = refl
with_its_list (Resolution.ScopePath.non_record w) = refl
with_its_list (ambiguous ws) = refl
with_its_list unknown = refl

found_name : (S : Schema) (name : List ℕ) (e : EntityType) → find_entity S name ≡ some e → e.name ≡ name
unfolding find_entity first
found_name S name e i = go S.entities i
  where
    by : (d : EntityType) (o : Option EntityType) (b : Bool) → same d.name name ≡ b → (o ≡ some e → e.name ≡ name) → cond b (some d) o ≡ some e → e.name ≡ name
    by d o true h rest i = let j : d ≡ e = cc in rw (← j) (same_eq d.name name h)
    by d o false h rest i = rest i

    go : (es : List EntityType) → first (λ d. same d.name name) es ≡ some e → e.name ≡ name
    go [] i = let z : ◌≡◌ {A = ℕ} 0 1 = cc in absurd (omega arith)
    go (d ∷ es) i = by d (first (λ d. same d.name name) es) (same d.name name) refl (go es) i

-- What holds of no names, and of one more where it is declared, holds of names that are all declared, with their entity types.
module _ (S : Schema) (P : List (List ℕ) → List EntityType → Type 0) (empty : P [] []) (more : (name : List ℕ) (names : List (List ℕ)) (e : EntityType) (es : List EntityType) → find_entity S name ≡ some e → P names es → P (name ∷ names) (e ∷ es)) where
  all_declared : (names : List (List ℕ)) (es : List EntityType) → declared_all S names ≡ some es → P names es
  unfolding declared_all
  all_declared [] es i = let j : [] ≡ es = cc in rw (← j) empty
  all_declared (name ∷ names) es i = go (find_entity S name) refl (declared_all S names) (all_declared names) i
    where
      go : (f : Option EntityType) → find_entity S name ≡ f → (d : Option (List EntityType)) → ((ds : List EntityType) → d ≡ some ds → P names ds) → maybe none (λ e. maybe none (λ ds. some (e ∷ ds)) d) f ≡ some es → P (name ∷ names) es
      go none h d rec i = let z : ◌≡◌ {A = ℕ} 0 1 = cc in absurd (omega arith)
      go (some e) h none rec i = let z : ◌≡◌ {A = ℕ} 0 1 = cc in absurd (omega arith)
      go (some e) h (some ds) rec i = let j : e ∷ ds ≡ es = cc in rw (← j) (more name names e ds h (rec ds refl))

module _ (S : Schema) (head : List ℕ) (rest : List (List ℕ)) where
  -- the test on the entity types chooses what the test on the names does
  abbrev Chosen : List ℕ → List (List ℕ) → List EntityType → Type 0
  Chosen w names es = names_of (select (λ e. missing_at w e.path) (on_types head rest es)) ≡ select (fails_at S (head ∷ rest) w) names

  chosen_more : (w name : List ℕ) (names : List (List ℕ)) (e : EntityType) (es : List EntityType) → find_entity S name ≡ some e → Chosen w names es → Chosen w (name ∷ names) (e ∷ es)
  unfolding on_types_by select names_of fails_at
  chosen_more w name names e es h others = rw h (go (missing_at w (on_entity head rest e)))
    where
      go : (b : Bool) → names_of (cond b (record { name = e.name; path = on_entity head rest e } ∷ select (λ d. missing_at w d.path) (on_types head rest es)) (select (λ d. missing_at w d.path) (on_types head rest es))) ≡ cond b (name ∷ select (fails_at S (head ∷ rest) w) names) (select (fails_at S (head ∷ rest) w) names)
      go true = rw (found_name S name e h, others)
      go false = others

  chosen : (w : List ℕ) (names : List (List ℕ)) (es : List EntityType) → declared_all S names ≡ some es → Chosen w names es
  unfolding on_types_by select names_of
  chosen w = all_declared S (Chosen w) refl (chosen_more w)

  -- and the types are those of the names
  abbrev SameTypes : List (List ℕ) → List EntityType → Type 0
  SameTypes names es = types_of (on_types head rest es) ≡ types_on S (head ∷ rest) names

  types_more : (name : List ℕ) (names : List (List ℕ)) (e : EntityType) (es : List EntityType) → find_entity S name ≡ some e → SameTypes names es → SameTypes (name ∷ names) (e ∷ es)
  unfolding on_types_by types_of types_on type_on
  types_more name names e es h others = rw (h, others)

  same_types : (names : List (List ℕ)) (es : List EntityType) → declared_all S names ≡ some es → SameTypes names es
  unfolding on_types_by types_of types_on
  same_types = all_declared S SameTypes refl types_more

agreed_brief : (ts : List Ty) (w : List ℕ) (ws : List (List ℕ)) → briefly (agreed ts) ≡ Resolution.ScopePath.missing w ws → ⊥
unfolding agreed briefly
agreed_brief [] w ws i = let z : ◌≡◌ {A = ℕ} 0 1 = cc in omega arith
agreed_brief (t ∷ ts) w ws i = go (every (λ u. same_type u t) ts) i
  where
    go : (b : Bool) → briefly (cond b (Resolution.ScopePath.resolved t) (ambiguous (renderings (t ∷ ts)))) ≡ Resolution.ScopePath.missing w ws → ⊥
    go true i = let z : ◌≡◌ {A = ℕ} 0 1 = cc in omega arith
    go false i = let z : ◌≡◌ {A = ℕ} 0 1 = cc in omega arith

verdict_missing : (es : List OnType) (w : List ℕ) (ws : List (List ℕ)) → briefly (verdict es) ≡ Resolution.ScopePath.missing w ws → listed (verdict es) ≡ names_of (select (λ e. missing_at w e.path) es)
unfolding verdict failure briefly listed
verdict_missing es w ws i = go (first (λ e. failed e.path) es) i
  where
    of : (p : Resolution.PathEnd) → briefly (failure es p) ≡ Resolution.ScopePath.missing w ws → listed (failure es p) ≡ names_of (select (λ e. missing_at w e.path) es)
    of (Resolution.PathEnd.resolved t) i = let z : ◌≡◌ {A = ℕ} 0 1 = cc in absurd (omega arith)
    of (Resolution.PathEnd.missing v) i = let j : v ≡ w = cc in rw j
    of (Resolution.PathEnd.non_record v) i = let z : ◌≡◌ {A = ℕ} 0 1 = cc in absurd (omega arith)

    go : (o : Option OnType) → briefly (maybe (agreed (types_of es)) (λ e. failure es e.path) o) ≡ Resolution.ScopePath.missing w ws → listed (maybe (agreed (types_of es)) (λ e. failure es e.path) o) ≡ names_of (select (λ e. missing_at w e.path) es)
    go none i = absurd (agreed_brief (types_of es) w ws i)
    go (some e) i = of e.path i

pub missing_listed : (S : Schema) (N : Option Narrowing) (names path : List (List ℕ)) (w : List ℕ) (ws : List (List ℕ)) → briefly (scope_path S N names path) ≡ Resolution.ScopePath.missing w ws → listed (scope_path S N names path) ≡ select (failing S N path w) names
unfolding scope_path_by admitted briefly
missing_listed S N names [] w ws i = let z : ◌≡◌ {A = ℕ} 0 1 = cc in absurd (omega arith)
missing_listed S N names (head ∷ rest) w ws i = go (declared_all S (select (admitted_by S N) names)) (chosen S head rest w (select (admitted_by S N) names)) i
  where
    go : (d : Option (List EntityType)) → ((es : List EntityType) → d ≡ some es → Chosen S head rest w (select (admitted_by S N) names) es) → briefly (maybe unknown (λ es. verdict (on_types head rest es)) d) ≡ Resolution.ScopePath.missing w ws → listed (maybe unknown (λ es. verdict (on_types head rest es)) d) ≡ select (failing S N (head ∷ rest) w) names
    go none rec i = let z : ◌≡◌ {A = ℕ} 0 1 = cc in absurd (omega arith)
    go (some es) rec i = verdict_missing (on_types head rest es) w ws i ∙ rec es refl ∙ sym (both S N (head ∷ rest) w names)

verdict_ambiguous : (es : List OnType) (ws : List (List ℕ)) → briefly (verdict es) ≡ ambiguous ws → listed (verdict es) ≡ renderings (types_of es)
unfolding verdict failure agreed briefly listed
verdict_ambiguous es ws i = go (first (λ e. failed e.path) es) i
  where
    of : (p : Resolution.PathEnd) → briefly (failure es p) ≡ ambiguous ws → listed (failure es p) ≡ renderings (types_of es)
    of (Resolution.PathEnd.resolved t) i = let z : ◌≡◌ {A = ℕ} 0 1 = cc in absurd (omega arith)
    of (Resolution.PathEnd.missing v) i = let z : ◌≡◌ {A = ℕ} 0 1 = cc in absurd (omega arith)
    of (Resolution.PathEnd.non_record v) i = let z : ◌≡◌ {A = ℕ} 0 1 = cc in absurd (omega arith)

    chosen_by : (t : Ty) (ts : List Ty) (b : Bool) → briefly (cond b (Resolution.ScopePath.resolved t) (ambiguous (renderings (t ∷ ts)))) ≡ ambiguous ws → listed (cond b (Resolution.ScopePath.resolved t) (ambiguous (renderings (t ∷ ts)))) ≡ renderings (t ∷ ts)
    chosen_by t ts true i = let z : ◌≡◌ {A = ℕ} 0 1 = cc in absurd (omega arith)
    chosen_by t ts false i = refl

    by : (ts : List Ty) → briefly (agreed ts) ≡ ambiguous ws → listed (agreed ts) ≡ renderings ts
    by [] i = let z : ◌≡◌ {A = ℕ} 0 1 = cc in absurd (omega arith)
    by (t ∷ ts) i = chosen_by t ts (every (λ u. same_type u t) ts) i

    go : (o : Option OnType) → briefly (maybe (agreed (types_of es)) (λ e. failure es e.path) o) ≡ ambiguous ws → listed (maybe (agreed (types_of es)) (λ e. failure es e.path) o) ≡ renderings (types_of es)
    go none i = by (types_of es) i
    go (some e) i = of e.path i

pub ambiguous_listed : (S : Schema) (N : Option Narrowing) (names path : List (List ℕ)) (ws : List (List ℕ)) → briefly (scope_path S N names path) ≡ ambiguous ws → listed (scope_path S N names path) ≡ renderings_on S N names path
unfolding scope_path_by admitted briefly
ambiguous_listed S N names [] ws i = let z : ◌≡◌ {A = ℕ} 0 1 = cc in absurd (omega arith)
ambiguous_listed S N names (head ∷ rest) ws i = go (declared_all S (select (admitted_by S N) names)) (same_types S head rest (select (admitted_by S N) names)) i
  where
    go : (d : Option (List EntityType)) → ((es : List EntityType) → d ≡ some es → SameTypes S head rest (select (admitted_by S N) names) es) → briefly (maybe unknown (λ es. verdict (on_types head rest es)) d) ≡ ambiguous ws → listed (maybe unknown (λ es. verdict (on_types head rest es)) d) ≡ renderings_on S N names (head ∷ rest)
    go none rec i = let z : ◌≡◌ {A = ℕ} 0 1 = cc in absurd (omega arith)
    go (some es) rec i = verdict_ambiguous (on_types head rest es) ws i ∙ ap renderings (rec es refl)

-- before the first pass all texts are behind the last
pub all_behind : (ws : List (List ℕ)) → select (above none) ws ≡ ws
unfolding select
all_behind [] = refl
all_behind (w ∷ ws) = rw (all_behind ws)
