-- The laws that rule writers rely on, and what does not hold. A scalar of its own adds a line to `unrank` and one to `unranked`. Assumes nothing.
--     fits-itself, fits-swapped, fits_more     of `fits`, over any test of tags
--     same-swapped                             of the test of two strings
--     tag-itself, tag-swapped                  of the test of two tags
--     relied, relied-in-code, refuted          the statements of Relations.antt
use Rattle.std.specs.Prelude.{◌≡◌, Bool, true, false, cond, List, ℕ, eqb}
use Rattle.std.proofs.Math.Path.{refl}
use Rattle.std.proofs.Common.{sym, ap, ◌∙◌}
use Rattle.std.proofs.lemmas.Bool.{false≢true}
use Rattle.std.proofs.Math.Option.{Option, none, some}
use borrow.Author.Tests.{eqb-true, eq-eqb}
use Rattle.names.specs.Names.{same}
use Rattle.names.specs.Text.{text}
use Rattle.names.specs.Laws.Names.{same_refl, same_eq}
use Rattle.types.specs.Types.{Scalar, long, string, decimal, bool, timepoint, object, never, datetime, duration, Ty, scalar, entity, any_array, mixed_array, array, rank, same_tag, tag_fits, fits, plain, same_type, accepts, compatible}
use Rattle.types.specs.Meaning.{rich_of}
use Rattle.types.specs.Relations.{is_known, is_tagged, Relied, ReliedInCode, Refuted}

-- a test is the same both ways round, where it says that two things are equal
both_ways : {A : Type 0} (p : A → A → Bool) → ((x : A) → p x x ≡ true) → ((x y : A) → p x y ≡ true → x ≡ y) → (x y : A) → p x y ≡ p y x
both_ways p itself equal x y = go (p x y) (p y x) refl refl
  where
    go : (t u : Bool) → p x y ≡ t → p y x ≡ u → p x y ≡ p y x
    go true u e g = rw (equal x y e)
    go false true e g = rw (equal y x g)
    go false false e g = e ∙ sym g

scalar_swapped : (a b : ℕ) → eqb a b ≡ eqb b a
scalar_swapped = both_ways eqb (λ a. eq-eqb a a refl) eqb-true

pub same_swapped : (x y : List ℕ) → same x y ≡ same y x
same_swapped = both_ways same same_refl same_eq

module _ (tags : Option (List ℕ) → Option (List ℕ) → Bool) (unknown : Bool) where
  pub fits_itself : ((e : Option (List ℕ)) → tags e e ≡ true) → (t : Ty) → fits tags unknown t t ≡ true
  unfolding fits
  fits_itself own (scalar a) = eq-eqb (rank a) (rank a) refl
  fits_itself own (entity e) = own e
  fits_itself own any_array = refl
  fits_itself own mixed_array = refl
  fits_itself own (array t) = fits_itself own t

  pub fits_swapped : ((e f : Option (List ℕ)) → tags e f ≡ tags f e) → (t u : Ty) → fits tags unknown t u ≡ fits tags unknown u t
  unfolding fits
  fits_swapped own (scalar a) (scalar b) = scalar_swapped (rank a) (rank b)
  fits_swapped own (scalar a) (entity f) = refl
  fits_swapped own (scalar a) any_array = refl
  fits_swapped own (scalar a) mixed_array = refl
  fits_swapped own (scalar a) (array u) = refl
  fits_swapped own (entity e) (scalar b) = refl
  fits_swapped own (entity e) (entity f) = own e f
  fits_swapped own (entity e) any_array = refl
  fits_swapped own (entity e) mixed_array = refl
  fits_swapped own (entity e) (array u) = refl
  fits_swapped own any_array (scalar b) = refl
  fits_swapped own any_array (entity f) = refl
  fits_swapped own any_array any_array = refl
  fits_swapped own any_array mixed_array = refl
  fits_swapped own any_array (array u) = refl
  fits_swapped own mixed_array (scalar b) = refl
  fits_swapped own mixed_array (entity f) = refl
  fits_swapped own mixed_array any_array = refl
  fits_swapped own mixed_array mixed_array = refl
  fits_swapped own mixed_array (array u) = refl
  fits_swapped own (array t) (scalar b) = refl
  fits_swapped own (array t) (entity f) = refl
  fits_swapped own (array t) any_array = refl
  fits_swapped own (array t) mixed_array = refl
  fits_swapped own (array t) (array u) = fits_swapped own t u

-- a test of tags that is passed more often
module _ (p q : Option (List ℕ) → Option (List ℕ) → Bool) (more : (e f : Option (List ℕ)) → p e f ≡ true → q e f ≡ true) where
  pub fits_more : (t u : Ty) → fits p true t u ≡ true → fits q true t u ≡ true
  unfolding fits
  fits_more (scalar a) (scalar b) h = h
  fits_more (scalar a) (entity f) h = h
  fits_more (scalar a) any_array h = h
  fits_more (scalar a) mixed_array h = h
  fits_more (scalar a) (array u) h = h
  fits_more (entity e) (scalar b) h = h
  fits_more (entity e) (entity f) h = more e f h
  fits_more (entity e) any_array h = h
  fits_more (entity e) mixed_array h = h
  fits_more (entity e) (array u) h = h
  fits_more any_array (scalar b) h = h
  fits_more any_array (entity f) h = h
  fits_more any_array any_array h = h
  fits_more any_array mixed_array h = h
  fits_more any_array (array u) h = h
  fits_more mixed_array (scalar b) h = h
  fits_more mixed_array (entity f) h = h
  fits_more mixed_array any_array h = h
  fits_more mixed_array mixed_array h = h
  fits_more mixed_array (array u) h = h
  fits_more (array t) (scalar b) h = h
  fits_more (array t) (entity f) h = h
  fits_more (array t) any_array h = h
  fits_more (array t) mixed_array h = h
  fits_more (array t) (array u) h = fits_more t u h

-- with no unknown array and no untagged entity
tags_equal : (e f : Option (List ℕ)) → is_tagged (entity e) ≡ true → is_tagged (entity f) ≡ true → tag_fits e f ≡ same_tag e f
unfolding is_tagged
tags_equal none f h i = absurd (false≢true h)
tags_equal (some x) none h i = absurd (false≢true i)
tags_equal (some x) (some y) h i = refl

accepts_is_equal : (t u : Ty) → is_known t ≡ true → is_tagged t ≡ true → is_known u ≡ true → is_tagged u ≡ true → accepts t u ≡ same_type t u
unfolding fits is_known is_tagged
accepts_is_equal (scalar a) (scalar b) k h l j = refl
accepts_is_equal (scalar a) (entity f) k h l j = refl
accepts_is_equal (scalar a) any_array k h l j = refl
accepts_is_equal (scalar a) mixed_array k h l j = refl
accepts_is_equal (scalar a) (array u) k h l j = refl
accepts_is_equal (entity e) (scalar b) k h l j = refl
accepts_is_equal (entity e) (entity f) k h l j = tags_equal e f h j
accepts_is_equal (entity e) any_array k h l j = refl
accepts_is_equal (entity e) mixed_array k h l j = refl
accepts_is_equal (entity e) (array u) k h l j = refl
accepts_is_equal any_array (scalar b) k h l j = refl
accepts_is_equal any_array (entity f) k h l j = refl
accepts_is_equal any_array any_array k h l j = refl
accepts_is_equal any_array mixed_array k h l j = absurd (false≢true k)
accepts_is_equal any_array (array u) k h l j = absurd (false≢true k)
accepts_is_equal mixed_array (scalar b) k h l j = refl
accepts_is_equal mixed_array (entity f) k h l j = refl
accepts_is_equal mixed_array any_array k h l j = absurd (false≢true l)
accepts_is_equal mixed_array mixed_array k h l j = refl
accepts_is_equal mixed_array (array u) k h l j = refl
accepts_is_equal (array t) (scalar b) k h l j = refl
accepts_is_equal (array t) (entity f) k h l j = refl
accepts_is_equal (array t) any_array k h l j = absurd (false≢true l)
accepts_is_equal (array t) mixed_array k h l j = refl
accepts_is_equal (array t) (array u) k h l j = accepts_is_equal t u k h l j

compatible_is_transitive : (t u v : Ty) → is_known u ≡ true → compatible plain t u ≡ true → compatible plain u v ≡ true → compatible plain t v ≡ true
unfolding fits is_known
compatible_is_transitive (scalar a) (scalar b) (scalar c) k h i = eq-eqb (rank a) (rank c) (eqb-true (rank a) (rank b) h ∙ eqb-true (rank b) (rank c) i)
compatible_is_transitive (scalar a) (scalar b) (entity g) k h i = absurd (false≢true i)
compatible_is_transitive (scalar a) (scalar b) any_array k h i = absurd (false≢true i)
compatible_is_transitive (scalar a) (scalar b) mixed_array k h i = absurd (false≢true i)
compatible_is_transitive (scalar a) (scalar b) (array v) k h i = absurd (false≢true i)
compatible_is_transitive (scalar a) (entity f) w k h i = absurd (false≢true h)
compatible_is_transitive (scalar a) any_array w k h i = absurd (false≢true h)
compatible_is_transitive (scalar a) mixed_array w k h i = absurd (false≢true h)
compatible_is_transitive (scalar a) (array u) w k h i = absurd (false≢true h)
compatible_is_transitive (entity e) (scalar b) w k h i = absurd (false≢true h)
compatible_is_transitive (entity e) (entity f) (scalar c) k h i = absurd (false≢true i)
compatible_is_transitive (entity e) (entity f) (entity g) k h i = refl
compatible_is_transitive (entity e) (entity f) any_array k h i = absurd (false≢true i)
compatible_is_transitive (entity e) (entity f) mixed_array k h i = absurd (false≢true i)
compatible_is_transitive (entity e) (entity f) (array v) k h i = absurd (false≢true i)
compatible_is_transitive (entity e) any_array w k h i = absurd (false≢true h)
compatible_is_transitive (entity e) mixed_array w k h i = absurd (false≢true h)
compatible_is_transitive (entity e) (array u) w k h i = absurd (false≢true h)
compatible_is_transitive any_array (scalar b) w k h i = absurd (false≢true h)
compatible_is_transitive any_array (entity f) w k h i = absurd (false≢true h)
compatible_is_transitive any_array any_array w k h i = absurd (false≢true k)
compatible_is_transitive any_array mixed_array (scalar c) k h i = absurd (false≢true i)
compatible_is_transitive any_array mixed_array (entity g) k h i = absurd (false≢true i)
compatible_is_transitive any_array mixed_array any_array k h i = refl
compatible_is_transitive any_array mixed_array mixed_array k h i = refl
compatible_is_transitive any_array mixed_array (array v) k h i = absurd (false≢true i)
compatible_is_transitive any_array (array u) (scalar c) k h i = absurd (false≢true i)
compatible_is_transitive any_array (array u) (entity g) k h i = absurd (false≢true i)
compatible_is_transitive any_array (array u) any_array k h i = refl
compatible_is_transitive any_array (array u) mixed_array k h i = absurd (false≢true i)
compatible_is_transitive any_array (array u) (array v) k h i = refl
compatible_is_transitive mixed_array (scalar b) w k h i = absurd (false≢true h)
compatible_is_transitive mixed_array (entity f) w k h i = absurd (false≢true h)
compatible_is_transitive mixed_array any_array w k h i = absurd (false≢true k)
compatible_is_transitive mixed_array mixed_array (scalar c) k h i = absurd (false≢true i)
compatible_is_transitive mixed_array mixed_array (entity g) k h i = absurd (false≢true i)
compatible_is_transitive mixed_array mixed_array any_array k h i = refl
compatible_is_transitive mixed_array mixed_array mixed_array k h i = refl
compatible_is_transitive mixed_array mixed_array (array v) k h i = absurd (false≢true i)
compatible_is_transitive mixed_array (array u) w k h i = absurd (false≢true h)
compatible_is_transitive (array t) (scalar b) w k h i = absurd (false≢true h)
compatible_is_transitive (array t) (entity f) w k h i = absurd (false≢true h)
compatible_is_transitive (array t) any_array w k h i = absurd (false≢true k)
compatible_is_transitive (array t) mixed_array w k h i = absurd (false≢true h)
compatible_is_transitive (array t) (array u) (scalar c) k h i = absurd (false≢true i)
compatible_is_transitive (array t) (array u) (entity g) k h i = absurd (false≢true i)
compatible_is_transitive (array t) (array u) any_array k h i = refl
compatible_is_transitive (array t) (array u) mixed_array k h i = absurd (false≢true i)
compatible_is_transitive (array t) (array u) (array v) k h i = compatible_is_transitive t u v k h i

pub tag_itself : (e : Option (List ℕ)) → tag_fits e e ≡ true
tag_itself none = refl
tag_itself (some x) = same_refl x

pub tag_swapped : (e f : Option (List ℕ)) → tag_fits e f ≡ tag_fits f e
tag_swapped none none = refl
tag_swapped none (some y) = refl
tag_swapped (some x) none = refl
tag_swapped (some x) (some y) = same_swapped x y

-- ---- equality by structure is equality

unrank : ℕ → Scalar
unrank n = cond (eqb n 0) long (cond (eqb n 1) string (cond (eqb n 2) decimal (cond (eqb n 3) bool (cond (eqb n 4) timepoint (cond (eqb n 5) object (cond (eqb n 6) never (cond (eqb n 7) datetime duration)))))))

unranked : (a : Scalar) → unrank (rank a) ≡ a
unfolding unrank
unranked long = refl
unranked string = refl
unranked decimal = refl
unranked bool = refl
unranked timepoint = refl
unranked object = refl
unranked never = refl
unranked datetime = refl
unranked duration = refl

scalar_equal : (a b : Scalar) → eqb (rank a) (rank b) ≡ true → a ≡ b
scalar_equal a b h = sym (unranked a) ∙ ap unrank (eqb-true (rank a) (rank b) h) ∙ unranked b

tag_equal : (e f : Option (List ℕ)) → same_tag e f ≡ true → e ≡ f
tag_equal none none h = refl
tag_equal none (some y) h = absurd (false≢true h)
tag_equal (some x) none h = absurd (false≢true h)
tag_equal (some x) (some y) h = ap some (same_eq x y h)

same_is_equal : (t u : Ty) → same_type t u ≡ true → t ≡ u
unfolding fits
same_is_equal (scalar a) (scalar b) h = ap scalar (scalar_equal a b h)
same_is_equal (scalar a) (entity f) h = absurd (false≢true h)
same_is_equal (scalar a) any_array h = absurd (false≢true h)
same_is_equal (scalar a) mixed_array h = absurd (false≢true h)
same_is_equal (scalar a) (array u) h = absurd (false≢true h)
same_is_equal (entity e) (scalar b) h = absurd (false≢true h)
same_is_equal (entity e) (entity f) h = ap entity (tag_equal e f h)
same_is_equal (entity e) any_array h = absurd (false≢true h)
same_is_equal (entity e) mixed_array h = absurd (false≢true h)
same_is_equal (entity e) (array u) h = absurd (false≢true h)
same_is_equal any_array (scalar b) h = absurd (false≢true h)
same_is_equal any_array (entity f) h = absurd (false≢true h)
same_is_equal any_array any_array h = refl
same_is_equal any_array mixed_array h = absurd (false≢true h)
same_is_equal any_array (array u) h = absurd (false≢true h)
same_is_equal mixed_array (scalar b) h = absurd (false≢true h)
same_is_equal mixed_array (entity f) h = absurd (false≢true h)
same_is_equal mixed_array any_array h = absurd (false≢true h)
same_is_equal mixed_array mixed_array h = refl
same_is_equal mixed_array (array u) h = absurd (false≢true h)
same_is_equal (array t) (scalar b) h = absurd (false≢true h)
same_is_equal (array t) (entity f) h = absurd (false≢true h)
same_is_equal (array t) any_array h = absurd (false≢true h)
same_is_equal (array t) mixed_array h = absurd (false≢true h)
same_is_equal (array t) (array u) h = ap array (same_is_equal t u h)

-- ---- the statements

pub relied : Relied
relied = record {
  accepts_itself = fits_itself tag_fits true tag_itself;
  compatible_itself = fits_itself (λ e f. true) true (λ e. refl);
  accepts_swapped = fits_swapped tag_fits true tag_swapped;
  compatible_swapped = fits_swapped (λ e f. true) true (λ e f. refl);
  accepts_compatible = fits_more tag_fits (λ e f. true) (λ e f h. refl);
  accepts_equal = accepts_is_equal;
  same_equal = same_is_equal;
  compatible_through = compatible_is_transitive;
}

pub relied_in_code : (s c : List ℕ) → ReliedInCode s c
relied_in_code s c = record {
  accepts_itself = λ a r e. e ∙ relied.accepts_itself (rich_of s c a);
  compatible_itself = λ a r e. e ∙ relied.compatible_itself (rich_of s c a);
  accepts_swapped = λ a b r q e f. e ∙ relied.accepts_swapped (rich_of s c a) (rich_of s c b) ∙ sym f;
  compatible_swapped = λ a b r q e f. e ∙ relied.compatible_swapped (rich_of s c a) (rich_of s c b) ∙ sym f;
  accepts_compatible = λ a b r q e f h. f ∙ relied.accepts_compatible (rich_of s c a) (rich_of s c b) (sym e ∙ h);
  accepts_equal = λ a b r q k h l j e f. e ∙ relied.accepts_equal (rich_of s c a) (rich_of s c b) k h l j ∙ sym f;
  compatible_through = λ a b d p q r k e f g h i. g ∙ relied.compatible_through (rich_of s c a) (rich_of s c b) (rich_of s c d) k (sym e ∙ h) (sym f ∙ i);
}

pub refuted : Refuted
unfolding fits same text
refuted = record {
  unknown_between = (refl, refl, refl);
  unknown_inside = (refl, refl, refl);
  untagged_between = (refl, refl, refl);
  other_tags = (refl, refl);
  unknown_accepted = (refl, refl);
  untagged_accepted = (refl, refl);
}
