-- How long the text of a type can be. Assumes nothing.
--     length-array, length-layers    a layer adds seven bytes
--     text-bound                     at most 32 layers over a tag of at most 255 bytes: 479 bytes displayed, 486 rendered
--     text-counted                   so a number of 64 bits holds its length
--     message-room                   two displayed types and two names in a message leave 580 bytes of 2,048 for its fixed text
--     rich-small, numbers-small      the bounds by the layers and the tag of a value of the code, and by its numbers alone
use Rattle.std.specs.Prelude.{◌≡◌, List, [], ◌++◌, ℕ, zero, suc, ◌+◌, ◌*◌, ◌≤◌, ◌<◌, length}
use Rattle.std.proofs.Math.Path.{refl}
use Rattle.std.proofs.Math.Option.{none, some}
use Rattle.std.proofs.Common.{le_trans, arith, length-append, length-take, lit≤}
use Rattle.std.proofs.Math.Nat.{min-le_left}
use Rattle.names.specs.Text.{text}
use Rattle.types.specs.Types.{Ty, scalar, entity, any_array, mixed_array, array, Scalar, long, string, decimal, bool, timepoint, object, never, datetime, duration, word, display, render}
use Rattle.types.specs.Meaning.{tag_part, base_of, layered, rich_of}
use Rattle.types.specs.Words.{text_by}
use Rattle.types.specs.declared.Base.{Base}
use Rattle.types.specs.declared.Rich.{Rich}
use Rattle.types.specs.declared.Form.{Form}

-- the layers of a type, and the tag under them, nothing where it has none
unfoldable pub layers_in : Ty → ℕ
layers_in (scalar a) = 0
layers_in (entity e) = 0
layers_in any_array = 0
layers_in mixed_array = 0
layers_in (array t) = suc (layers_in t)

unfoldable pub tag_in : Ty → List ℕ
tag_in (scalar a) = []
tag_in (entity none) = []
tag_in (entity (some tag)) = tag
tag_in any_array = []
tag_in mixed_array = []
tag_in (array t) = tag_in t

-- the types that records hold: their levels and their strings are bounded
pub record Small (t : Ty) : Type 0 where
  pub layers : layers_in t ≤ 32
  pub tag : length (tag_in t) ≤ 255

pub array_text : (f : Form) (t : Ty) → text_by f (array t) ≡ text "array<" ++ text_by f t ++ text ">"
unfolding display render
array_text Form.Display t = refl
array_text Form.Render t = refl

pub length_array : (f : Form) (t : Ty) → length (text_by f (array t)) ≡ 7 + length (text_by f t)
unfolding text
length_array f t = rw (array_text f t) (simp length-append (omega arith))

pub length_layers : (f : Form) (n : ℕ) (t : Ty) → length (text_by f (layered n t)) ≡ n * 7 + length (text_by f t)
unfolding layered
length_layers f zero t = omega arith
length_layers f (suc n) t = rw (length_array f (layered n t), length_layers f n t) (omega arith)

-- the longest text under the layers: a tag of 255 bytes, which `entity:` stands before in a rendered type
abbrev pub longest : Form → ℕ
longest Form.Display = 255
longest Form.Render = 262

word_bound : (a : Scalar) → length (word a) ≤ 9
unfolding text
word_bound long = lit≤ tt
word_bound string = lit≤ tt
word_bound decimal = lit≤ tt
word_bound bool = lit≤ tt
word_bound timepoint = lit≤ tt
word_bound object = lit≤ tt
word_bound never = lit≤ tt
word_bound datetime = lit≤ tt
word_bound duration = lit≤ tt

layers_bound : (f : Form) (t : Ty) → length (tag_in t) ≤ 255 → length (text_by f t) ≤ layers_in t * 7 + longest f
unfolding display render layers_in tag_in text
layers_bound Form.Display (scalar a) h = omega (arith, word_bound a)
layers_bound Form.Render (scalar a) h = omega (arith, word_bound a)
layers_bound Form.Display (entity none) h = lit≤ tt
layers_bound Form.Render (entity none) h = lit≤ tt
layers_bound Form.Display (entity (some tag)) h = omega arith
layers_bound Form.Render (entity (some tag)) h = simp length-append (omega arith)
layers_bound Form.Display any_array h = lit≤ tt
layers_bound Form.Render any_array h = lit≤ tt
layers_bound Form.Display mixed_array h = lit≤ tt
layers_bound Form.Render mixed_array h = lit≤ tt
layers_bound f (array t) h = rw (length_array f t) (omega (arith, layers_bound f t h))

pub text_bound : (f : Form) (t : Ty) → Small t → length (text_by f t) ≤ 224 + longest f
text_bound f t h = omega (arith, layers_bound f t h.tag, h.layers)

pub text_counted : (f : Form) (t : Ty) → Small t → length (text_by f t) < 18446744073709551616
text_counted Form.Display t h = omega (arith, text_bound Form.Display t h)
text_counted Form.Render t h = omega (arith, text_bound Form.Render t h)

module _ (t u : Ty) (small_t : Small t) (small_u : Small u) (name other : List ℕ) (h : length name ≤ 255) (k : length other ≤ 255) where
  pub message_room : (fixed : ℕ) → fixed ≤ 580 → fixed + length name + length other + length (display t) + length (display u) ≤ 2048
  message_room fixed l = omega (arith, text_bound Form.Display t small_t, text_bound Form.Display u small_u)

layers_layered : (n : ℕ) (t : Ty) → layers_in (layered n t) ≡ n + layers_in t
unfolding layers_in layered
layers_layered zero t = omega arith
layers_layered (suc n) t = rw (layers_layered n t) (omega arith)

tag_layered : (n : ℕ) (t : Ty) → tag_in (layered n t) ≡ tag_in t
unfolding tag_in layered
tag_layered zero t = refl
tag_layered (suc n) t = tag_layered n t

module _ (s c : List ℕ) where
  base_layers : (x : Base) → layers_in (base_of s c x) ≡ 0
  unfolding layers_in
  base_layers (Base.Plain a) = refl
  base_layers (Base.Tagged t) = refl
  base_layers Base.Untagged = refl
  base_layers Base.AnyArray = refl
  base_layers Base.MixedArray = refl

  base_tag : (x : Base) → tag_in (base_of s c x) ≡ tag_part s c x
  unfolding tag_in
  base_tag (Base.Plain a) = refl
  base_tag (Base.Tagged t) = refl
  base_tag Base.Untagged = refl
  base_tag Base.AnyArray = refl
  base_tag Base.MixedArray = refl

  pub rich_small : (t : Rich) → t.layers ≤ 32 → length (tag_part s c t.base) ≤ 255 → Small (rich_of s c t)
  rich_small t h k =
      record {
        layers = rw (layers_layered t.layers (base_of s c t.base), base_layers t.base) (omega arith);
        tag = rw (tag_layered t.layers (base_of s c t.base), base_tag t.base) k;
      }

-- the length of a base's tag by the code's number
abbrev pub tag_length : Base → ℕ
tag_length (Base.Plain a) = 0
tag_length (Base.Tagged t) = t.len
tag_length Base.Untagged = 0
tag_length Base.AnyArray = 0
tag_length Base.MixedArray = 0

-- the same bounds by the code's numbers alone
module _ (s c : List ℕ) where
  tag_part_length : (x : Base) → tag_length x ≤ 255 → length (tag_part s c x) ≤ 255
  tag_part_length (Base.Plain a) h = lit≤ tt
  tag_part_length (Base.Tagged t) h = rw length-take (le_trans (min-le_left _ _) h)
  tag_part_length Base.Untagged h = lit≤ tt
  tag_part_length Base.AnyArray h = lit≤ tt
  tag_part_length Base.MixedArray h = lit≤ tt

  pub numbers_small : (t : Rich) → t.layers ≤ 32 → tag_length t.base ≤ 255 → Small (rich_of s c t)
  numbers_small t h k = rich_small s c t h (tag_part_length t.base k)
