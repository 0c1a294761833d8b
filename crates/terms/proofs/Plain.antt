-- The types that terms have without facts, an array's apart. Assumes nothing.
use mathlib.Core.Path.{◌≡◌, refl, sym, ap, ◌∙◌}
use mathlib.Core.Bool.{true}
use mathlib.Core.List.{List}
use mathlib.Core.Option.{none}
use Prim.Native.Nat.{ℕ, ◌+◌, ◌≤◌}
use native.Mathlib.Omega.{arith}
use borrow.Author.Rules.{rules}
use lib.ListN.{length, get_or, take, drop}
use Rattle.names.specs.Fields.{got, string_of}
use Rattle.names.specs.Names.{path_name, simple_name}
use Rattle.names.specs.Read.{word_at}
use Rattle.names.specs.Laws.Readers.{string_view}
use Rattle.types.specs.Meaning.{bytes_of, tag_of, layered}
use Rattle.types.specs.declared.Source.{Source}
use Rattle.types.specs.declared.Tag.{Tag}
use Rattle.types.specs.declared.Base.TheVariants as Base
use Rattle.types.specs.declared.Rich.{Rich}
use Rattle.condition.specs.Condition.{Term, entity, literal, integer, decimal, string, bool, context_field, scope_field, var, wildcard, array, aggregate, sigil, entity_fields}
use Rattle.condition.specs.Condition as tree
use Rattle.nodes.specs.Kinds.{term_kind_of, term_kind_number}
use Rattle.nodes.specs.Laws.Numbers.{not_entity}
use Rattle.nodes.specs.declared.TermKind.{TermKind}
use Rattle.condition.specs.Places.{version_in, is_term, term_in}
use Rattle.nodes.specs.Looked.{TermKindHere}
use Rattle.nodes.specs.Offsets.{term_part}
use Rattle.nodes.specs.Laws.Inside.{term_place}
use Rattle.nodes.specs.Laws.Views.{PartView, entity_view}
use Rattle.nodes.specs.Laws.Given.{EntityView, entity_parts}
use Rattle.nodes.specs.Laws.Opens.{term_stands, raw_term}
use Rattle.resolution.specs.Places.{typed_of}
use Rattle.terms.specs.Terms.{term_type}
use Rattle.terms.specs.Bounds.{Within}
use Rattle.terms.specs.Literals.{kind_type, EntityTag, LeafTyped}
use Rattle.resolution.specs.Coded.{Typed}
use Rattle.std.specs.Prelude.{Some}

-- A tag that was found in the condition's bytes is one of the condition.
one_record : (c : List ℕ) (x : Source) → bytes_of c c x ≡ c
one_record c Source.Schema = refl
one_record c Source.Condition = refl

pub own_tag : (c : List ℕ) (at : ℕ) (own : Tag) → ((d : List ℕ) → tag_of c d own ≡ simple_name (word_at c at)) → own.len ≤ 255 → EntityTag c at (record { source = Source.Condition; at = own.at; len = own.len })
own_tag c at own is h = record {
  value = λ s. ap (λ (l : List ℕ). take own.len (drop own.at l)) (sym (one_record c own.source)) ∙ is c;
  short = h;
}

-- what the kind says of a term that is neither an entity nor an array
kind_value : (s c : List ℕ) (t : Term) → (term_kind_of t ≡ 1 → ⊥) → (term_kind_of t ≡ 10 → ⊥) → typed_of s c (kind_type (term_kind_of t)) ≡ term_type none t
unfolding term_type layered
kind_value s c (entity n) h i = absurd (h refl)
kind_value s c (literal (integer v)) h i = refl
kind_value s c (literal (decimal v)) h i = refl
kind_value s c (literal (string v)) h i = refl
kind_value s c (literal (bool v)) h i = refl
kind_value s c (context_field p) h i = refl
kind_value s c (scope_field p) h i = refl
kind_value s c (var v) h i = refl
kind_value s c wildcard h i = refl
kind_value s c (array ts) h i = absurd (i refl)
kind_value s c (aggregate a) h i = refl
kind_value s c (tree.arith op l r) h i = refl
kind_value s c sigil h i = refl

kind_within : (t : Term) → Within 0 (kind_type (term_kind_of t))
kind_within (entity n) = record { layers = omega arith; tag = omega arith }
kind_within (literal (integer v)) = record { layers = omega arith; tag = omega arith }
kind_within (literal (decimal v)) = record { layers = omega arith; tag = omega arith }
kind_within (literal (string v)) = record { layers = omega arith; tag = omega arith }
kind_within (literal (bool v)) = record { layers = omega arith; tag = omega arith }
kind_within (context_field p) = record { layers = omega arith; tag = omega arith }
kind_within (scope_field p) = record { layers = omega arith; tag = omega arith }
kind_within (var v) = record { layers = omega arith; tag = omega arith }
kind_within wildcard = record { layers = omega arith; tag = omega arith }
kind_within (array ts) = record { layers = omega arith; tag = omega arith }
kind_within (aggregate a) = record { layers = omega arith; tag = omega arith }
kind_within (tree.arith op l r) = record { layers = omega arith; tag = omega arith }
kind_within sigil = record { layers = omega arith; tag = omega arith }

-- A term that stands at a place.
module _ (c : List ℕ) (at : ℕ) (acc : is_term c at ≡ true) (kind : TermKind) (o : TermKindHere c at (term_kind_number kind)) where
  module _ (e : kind ≡ TermKind.Entity) where
    named : PartView (entity_fields (version_in c)) entity c at (term_in c at) (term_stands c at acc).end
    named = entity_view (version_in c) c at (term_stands c at acc).read (raw_term c at acc 1 (λ i. omega arith) (sym o.kind ∙ ap term_kind_number e))

    module _ (p : ℕ) (place : p ≡ term_part c at) where
      parts : EntityView (version_in c) c p named.part (term_stands c at acc).end
      parts = entity_parts (version_in c) c p (ap (entity_fields (version_in c) c) (term_place c at p place) ∙ named.reads)

      spelt : string_of path_name c p ≡ got parts.name parts.middle
      spelt = parts.reads

      pub name_inside : p + 1 + get_or c p 0 ≤ length c
      name_inside = let v = string_view path_name c p spelt in omega (arith, v.place, v.inside)

      pub name_byte : p + 1 ≤ length c
      name_byte = let h = name_inside in omega arith

      pub leaf_entity : (tag : Tag) → EntityTag c p tag
          → (r : Rich) → r ≡ record { layers = 0; base = Base.Tagged tag } → LeafTyped c at (Some r)
      unfolding term_type layered
      leaf_entity tag is r it = rw it (record {
        value = λ s. let v = string_view path_name c p spelt in rw (is.value s, named.whole, parts.whole, v.word);
        within = record { layers = omega arith; tag = is.short };
      })

  pub leaf_kind : (term_kind_of (term_in c at) ≡ 10 → ⊥) → (kind ≡ TermKind.Entity → ⊥) → (r : Typed) → r ≡ kind_type (term_kind_number kind) → LeafTyped c at r
  leaf_kind h i r e =
      let q : r ≡ kind_type (term_kind_of (term_in c at)) = e ∙ ap kind_type o.kind in
      rw q (record { value = λ s. kind_value s c (term_in c at) (λ j. not_entity kind i (o.kind ∙ j)) h; within = kind_within (term_in c at) })

pub ruleset leaves = (rules, own_tag, name_inside, name_byte, leaf_entity, leaf_kind)
