-- The type that the checks compare, by the first byte of a declared one. Assumes nothing.
use mathlib.Core.Path.{◌≡◌, refl, sym, ap, ◌∙◌}
use mathlib.Core.Bool.{true}
use mathlib.Core.Logic.{◌⊎◌, inl, inr}
use mathlib.Core.List.{List}
use Prim.Native.Nat.{ℕ, zero, suc, ◌+◌, ◌-◌, ◌≤◌}
use native.Mathlib.Numerals.{add-one}
use native.Mathlib.Omega.{arith}
use lib.ListN.{length, get_or, drop}
use borrow.Author.Rules.{rules}
use Rattle.names.specs.Fields.{got, choose, string_of, levels}
use Rattle.names.specs.Names.{path_name, simple_name}
use Rattle.names.specs.Read.{word_at}
use Rattle.names.specs.Laws.Readers.{Split, split, string_view, accept, is_accepted, has_value, got_value}
use Rattle.names.specs.Laws.Walks.{part_of_part, take_at_most}
use Rattle.types.specs.Types.{Ty, dated, array}
use Rattle.types.specs.Meaning.{scalar_of, tag_of, base_of, layered}
use Rattle.types.specs.declared.Source.TheVariants as Source
use Rattle.types.specs.declared.Scalar.{Scalar}
use Rattle.types.specs.declared.Base.{Base}
use Rattle.types.specs.declared.Tag.{Tag}
use Rattle.schema.specs.Schema.{Declared, never, set, extension, kinds, type_at, attributes}
use Rattle.schema.specs.Schema as schema
use Rattle.schema.specs.Find.{extension_type, rich_type_by, rich_type}
use Rattle.schema.specs.Places.{type_in, is_type, KindHere, kind_number}
use Rattle.schema.specs.declared.kind.TypeKind.{TypeKind}
use Rattle.schema.specs.Laws.ByKind.{one_kind}
use Rattle.schema.proofs.TypeViews.{open_type}
use Rattle.schema.proofs.Levels.{type_wider}

-- The tag of an entity type.
module _ (s : List ℕ) (at n : ℕ) (is_n : n ≡ get_or s at 0) (w : List ℕ) (is_w : w ≡ word_at s at) (r : ℕ) (simple : (r ≤ length w) × (drop r w ≡ simple_name w)) where
  pub tag_fits : r ≤ n
  tag_fits = let h = take_at_most (get_or s at 0) (drop (at + 1) s) in let e = ap length is_w in omega (arith, simple.0)

  pub tag_is : (c : List ℕ) → tag_of s c (record { source = Source.Schema; at = at + 1 + r; len = n - r }) ≡ simple_name (word_at s at)
  tag_is c = rw (part_of_part, is_n, ← is_w) simple.1

pub ruleset tags = (rules, tag_fits, tag_is)

layered_more : (n : ℕ) (t : Ty) → layered (n + 1) t ≡ layered n (array t)
unfolding layered
layered_more n t = rw add-one (go n)
  where
    go : (n : ℕ) → layered (suc n) t ≡ layered n (array t)
    go zero = refl
    go (suc n) = ap array (go n)

-- The type that stands at a position, by its first byte.
module _ (s : List ℕ) (at : ℕ) (is : is_type s at ≡ true) (k : TypeKind) (op : KindHere s at (kind_number k)) where
  at_kind : (j : TypeKind) → k ≡ j → choose (kind_number j) (kinds (type_at 31)) s (at + 1) ≡ got (type_in s at) (accept _ is).place
  at_kind j e =
      let a = accept _ is in
      let i : get_or s at 0 ≡ kind_number j = sym op.kind ∙ ap kind_number e in
      rw (has_value never a.read, ← i) (open_type s at a.read).body

  pub rich_long : k ≡ TypeKind.Long → (c : List ℕ) → base_of s c (Base.Plain Scalar.Long) ≡ rich_type (type_in s at)
  unfolding choose kinds rich_type_by
  rich_long e c = ap rich_type (got_value (at_kind TypeKind.Long e))

  pub rich_string : k ≡ TypeKind.String → (c : List ℕ) → base_of s c (Base.Plain Scalar.String) ≡ rich_type (type_in s at)
  unfolding choose kinds rich_type_by
  rich_string e c = ap rich_type (got_value (at_kind TypeKind.String e))

  pub rich_bool : k ≡ TypeKind.Bool → (c : List ℕ) → base_of s c (Base.Plain Scalar.Bool) ≡ rich_type (type_in s at)
  unfolding choose kinds rich_type_by
  rich_bool e c = ap rich_type (got_value (at_kind TypeKind.Bool e))

  pub rich_any_set : k ≡ TypeKind.AnySet → (c : List ℕ) → base_of s c Base.AnyArray ≡ rich_type (type_in s at)
  unfolding choose kinds rich_type_by
  rich_any_set e c = ap rich_type (got_value (at_kind TypeKind.AnySet e))

  pub rich_never : k ≡ TypeKind.Never → (c : List ℕ) → base_of s c (Base.Plain Scalar.Never) ≡ rich_type (type_in s at)
  unfolding choose kinds rich_type_by
  rich_never e c = ap rich_type (got_value (at_kind TypeKind.Never e))

  pub rich_object : k ≡ TypeKind.Record → (c : List ℕ) → base_of s c (Base.Plain Scalar.Object) ≡ rich_type (type_in s at)
  unfolding choose kinds rich_type_by
  rich_object e c = ap rich_type (got_value (split (attributes (type_at 31) s (at + 1)) _ (at_kind TypeKind.Record e)).rest)

  -- an extension and an entity have a name
  module _ (e : k ≡ TypeKind.Extension) where
    is_extension : extension (word_at s (at + 1)) ≡ type_in s at
    unfolding choose kinds
    is_extension = let a = split (string_of path_name s (at + 1)) _ (at_kind TypeKind.Extension e) in ap extension (sym (string_view path_name s (at + 1) a.first).word) ∙ got_value a.rest

    pub rich_extension : (v : List ℕ) → v ≡ word_at s (at + 1) → (w : List ℕ) → w ≡ simple_name v → (a : Scalar) → scalar_of a ≡ extension_type dated w → (c : List ℕ) → base_of s c (Base.Plain a) ≡ rich_type (type_in s at)
    unfolding rich_type_by
    rich_extension v is_v w is_w a is_a c = rw (is_a, ← is_extension, ← is_v, ← is_w)

  module _ (e : k ≡ TypeKind.Entity) where
    named : Split (string_of path_name s (at + 1)) (λ w n. got (schema.entity w) n) (type_in s at) (accept _ is).place
    unfolding choose kinds
    named = split (string_of path_name s (at + 1)) _ (at_kind TypeKind.Entity e)

    pub name_inside : at + 1 + 1 + get_or s (at + 1) 0 ≤ length s
    name_inside = let v = string_view path_name s (at + 1) named.first in omega (arith, v.place, v.inside)

    pub rich_entity : (tag : Tag) → ((c : List ℕ) → tag_of s c tag ≡ simple_name (word_at s (at + 1))) → (c : List ℕ) → base_of s c (Base.Tagged tag) ≡ rich_type (type_in s at)
    unfolding rich_type_by
    rich_entity tag is_tag c =
        let w = (string_view path_name s (at + 1) named.first).word in
        rw (is_tag c, ← w, ← got_value named.rest)

  -- below the layers no set is left, and no other kind is untagged
  pub rich_untagged : (get_or s at 0 ≡ 4 → ⊥) → (k ≡ TypeKind.Set) ⊎ ((k ≡ TypeKind.SeveralEntities) ⊎ (k ≡ TypeKind.AnyEntity)) → (c : List ℕ) → base_of s c Base.Untagged ≡ rich_type (type_in s at)
  unfolding choose kinds rich_type_by
  rich_untagged h (inl e) c = absurd (h (sym op.kind ∙ ap kind_number e))
  rich_untagged h (inr (inl e)) c = ap rich_type (got_value (at_kind TypeKind.SeveralEntities e))
  rich_untagged h (inr (inr e)) c = ap rich_type (got_value (at_kind TypeKind.AnyEntity e))

  -- a set, and its element one byte on
  module _ (e : k ≡ TypeKind.Set) where
    element : Split (type_at 31 s (at + 1)) (λ t n. got (set t) n) (type_in s at) (accept _ is).place
    unfolding choose kinds
    element = split (type_at 31 s (at + 1)) _ (at_kind TypeKind.Set e)

    element_wide : type_at levels s (at + 1) ≡ got element.value element.place
    element_wide = type_wider 31 levels (omega arith) s (at + 1) element.value element.place element.first

    pub set_element : is_type s (at + 1) ≡ true
    set_element = is_accepted element_wide

    pub set_layer : (n : ℕ) (o : Ty) → layered n (rich_type (type_in s at)) ≡ o → layered (n + 1) (rich_type (type_in s (at + 1))) ≡ o
    unfolding rich_type_by
    set_layer n o inv =
        let i : type_in s at ≡ set (type_in s (at + 1)) = sym (got_value element.rest) ∙ ap set (sym (has_value never element_wide)) in
        layered_more n (rich_type (type_in s (at + 1))) ∙ sym (ap (λ (t : Declared). layered n (rich_type t)) i) ∙ inv

  pub not_set : (k ≡ TypeKind.Set → ⊥) → (get_or s at 0 ≡ 4 → ⊥)
  not_set h e = h (one_kind TypeKind.Set k (op.kind ∙ e))

-- no layer yet, and the base below all of them
pub no_layer : (t : Ty) → layered 0 t ≡ t
unfolding layered
no_layer t = refl

pub all_layers : (s : List ℕ) (n : ℕ) (t o : Ty) (b : Base) → layered n t ≡ o → ((c : List ℕ) → base_of s c b ≡ t) → (c : List ℕ) → layered n (base_of s c b) ≡ o
all_layers s n t o b inv is c = ap (layered n) (is c) ∙ inv

pub ruleset bases = (rules, rich_long, rich_string, rich_bool, rich_any_set, rich_never, rich_object, rich_extension, name_inside, rich_entity, rich_untagged)

pub ruleset riches = (rules, set_element, set_layer, not_set, no_layer, all_layers)
