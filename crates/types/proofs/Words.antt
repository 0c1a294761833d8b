-- The texts that are made of the table's words. Assumes nothing.
--     base_text, layers_text      a type's text by the table's words, and its length
--     repeated_room               room for a word once more
use Rattle.std.proofs.Common.{◌≡◌, refl, sym, ap, ◌∙◌, ℕ, zero, suc, ◌+◌, ◌*◌, ◌≤◌, ◌<◌}
use Rattle.std.proofs.Common.{List, ◌++◌, length, append_assoc, append-nil, length-append}
use Rattle.std.proofs.Math.Nat.{suc-mul, mul-le-mul_right, zero-mul}
use Rattle.names.specs.Text.{text}
use Rattle.types.specs.Types.{Ty, rank, word, array, display, render}
use Rattle.types.specs.Types as types
use Rattle.types.specs.Laws.Texts.{array_text}
use Rattle.types.specs.Meaning.{scalar_of, base_of, tag_part, layered}
use Rattle.types.specs.Words.{text_by, words, type_word, word_of, repeated}
use Rattle.types.specs.declared.Base.{Base}
use Rattle.types.specs.declared.Form.{Form}

scalar_word : (a : types.Scalar) → word a ≡ type_word (rank a)
unfolding words
scalar_word types.long = refl
scalar_word types.string = refl
scalar_word types.decimal = refl
scalar_word types.bool = refl
scalar_word types.timepoint = refl
scalar_word types.object = refl
scalar_word types.never = refl
scalar_word types.datetime = refl
scalar_word types.duration = refl

module _ (s c : List ℕ) where
  pub base_text : (f : Form) (x : Base) → text_by f (base_of s c x) ≡ type_word (word_of f x) ++ tag_part s c x
  unfolding words display render text
  base_text Form.Display (Base.Plain a) = scalar_word (scalar_of a) ∙ sym (append-nil (type_word (rank (scalar_of a))))
  base_text Form.Render (Base.Plain a) = scalar_word (scalar_of a) ∙ sym (append-nil (type_word (rank (scalar_of a))))
  base_text Form.Display (Base.Tagged t) = refl
  base_text Form.Render (Base.Tagged t) = refl
  base_text Form.Display Base.Untagged = refl
  base_text Form.Render Base.Untagged = refl
  base_text Form.Display Base.AnyArray = refl
  base_text Form.Render Base.AnyArray = refl
  base_text Form.Display Base.MixedArray = refl
  base_text Form.Render Base.MixedArray = refl

  pub base_length : (f : Form) (x : Base) → length (text_by f (base_of s c x)) ≡ length (type_word (word_of f x)) + length (tag_part s c x)
  base_length f x = rw (base_text f x, length-append)

repeated_front : (n : ℕ) (s : List ℕ) → s ++ repeated n s ≡ repeated n s ++ s
unfolding repeated
repeated_front zero s = append-nil s
repeated_front (suc n) s = sym (append_assoc s (repeated n s) s) ∙ ap (λ (l : List ℕ). l ++ s) (repeated_front n s)

length_repeated : (n : ℕ) (s : List ℕ) → length (repeated n s) ≡ n * length s
unfolding repeated
length_repeated zero s = sym (zero-mul (length s))
length_repeated (suc n) s = length-append (repeated n s) s ∙ rw (length_repeated n s, suc-mul)

pub repeated_room : (i n : ℕ) (s : List ℕ) → i < n → length (repeated i s) + length s ≤ length (repeated n s)
repeated_room i n s h = rw (length_repeated i s, length_repeated n s, ← suc-mul i (length s)) (mul-le-mul_right (length s) h)

-- the opening of each layer, the text under them, and the closing of each layer
pub layers_text : (f : Form) (n : ℕ) (t : Ty)
    → text_by f (layered n t) ≡ repeated n (text "array<") ++ text_by f t ++ repeated n (text ">")
unfolding layered repeated
layers_text f zero t = sym (append-nil (text_by f t))
layers_text f (suc n) t =
    let o : List ℕ = text "array<" in
    let z : List ℕ = text ">" in
    let w : List ℕ = text_by f t in
    let os : List ℕ = repeated n o in
    let zs : List ℕ = repeated n z in
    rw (
      array_text f (layered n t),
      layers_text f n t,
      append_assoc o (os ++ w ++ zs) z,
      append_assoc (os ++ w) zs z,
      append_assoc os w (zs ++ z),
      ← append_assoc o os (w ++ (zs ++ z)),
      repeated_front n o,
      append_assoc (os ++ o) w (zs ++ z),
    )

pub layers_length : (f : Form) (n : ℕ) (t : Ty)
    → length (text_by f (layered n t))
    ≡ length (repeated n (text "array<")) + length (text_by f t) + length (repeated n (text ">"))
layers_length f n t = rw (layers_text f n t, length-append, length-append)
