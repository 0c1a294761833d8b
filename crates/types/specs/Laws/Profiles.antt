-- What a profile changes in the test of two types, and what it does not. Assumes nothing.
--     profiles, profiles-in-code     the statements of Profiles.antt
--     compatible-swapped             under either profile the test is symmetric
--     compatible-plain               whatever passes under a profile passes under the plain one
use Rattle.std.specs.Prelude.{◌≡◌, refl, Bool, true, false, List, ℕ, suc}
use Rattle.std.proofs.Common.{sym, ap, ◌∙◌}
use Rattle.std.proofs.lemmas.Bool.{false≢true}
use Rattle.std.proofs.Math.Option.{Option, none, some}
use Rattle.names.specs.Names.{same}
use Rattle.names.specs.Text.{text}
use Rattle.types.specs.Types.{Ty, scalar, entity, any_array, mixed_array, array, tag_fits, fits, Profile, plain, strict, tags_under, compatible}
use Rattle.types.specs.Meaning.{layered, rich_of}
use Rattle.types.specs.Profiles.{Unlike, Profiles, ProfilesInCode}
use Rattle.types.specs.Laws.Types.{layers_same}
use Rattle.types.specs.Laws.Relations.{fits_itself, fits_swapped, fits_more, tag_itself, tag_swapped}

-- where they differ
layers_differ : (n : ℕ) (x y : List ℕ) → same x y ≡ false → (compatible plain (layered n (entity (some x))) (layered n (entity (some y))) ≡ true) × (compatible strict (layered n (entity (some x))) (layered n (entity (some y))) ≡ false)
unfolding fits
layers_differ n x y h = (layers_same (λ e f. true) true n (entity (some x)) (entity (some y)), layers_same tag_fits true n (entity (some x)) (entity (some y)) ∙ h)

strict_differs : (t u : Ty) → Unlike t u → (compatible plain t u ≡ true) × (compatible strict t u ≡ false)
strict_differs t u r = rw (r.is_left, r.is_right) (layers_differ r.layers r.left r.right r.unlike)

-- and nowhere else
tags_unlike : (e f : Option (List ℕ)) → tag_fits e f ≡ false → Unlike (entity e) (entity f)
unfolding layered
tags_unlike none f g = absurd (false≢true (sym g))
tags_unlike (some x) none g = absurd (false≢true (sym g))
tags_unlike (some x) (some y) g = record { layers = 0; left = x; right = y; is_left = refl; is_right = refl; unlike = g }

unlike_there : (t u : Ty) → compatible plain t u ≡ true → compatible strict t u ≡ false → Unlike t u
unfolding fits layered
unlike_there (scalar a) (scalar b) h g = absurd (false≢true (sym g ∙ h))
unlike_there (scalar a) (entity f) h g = absurd (false≢true (sym g ∙ h))
unlike_there (scalar a) any_array h g = absurd (false≢true (sym g ∙ h))
unlike_there (scalar a) mixed_array h g = absurd (false≢true (sym g ∙ h))
unlike_there (scalar a) (array u) h g = absurd (false≢true (sym g ∙ h))
unlike_there (entity e) (scalar b) h g = absurd (false≢true (sym g ∙ h))
unlike_there (entity e) (entity f) h g = tags_unlike e f g
unlike_there (entity e) any_array h g = absurd (false≢true (sym g ∙ h))
unlike_there (entity e) mixed_array h g = absurd (false≢true (sym g ∙ h))
unlike_there (entity e) (array u) h g = absurd (false≢true (sym g ∙ h))
unlike_there any_array (scalar b) h g = absurd (false≢true (sym g ∙ h))
unlike_there any_array (entity f) h g = absurd (false≢true (sym g ∙ h))
unlike_there any_array any_array h g = absurd (false≢true (sym g ∙ h))
unlike_there any_array mixed_array h g = absurd (false≢true (sym g ∙ h))
unlike_there any_array (array u) h g = absurd (false≢true (sym g ∙ h))
unlike_there mixed_array (scalar b) h g = absurd (false≢true (sym g ∙ h))
unlike_there mixed_array (entity f) h g = absurd (false≢true (sym g ∙ h))
unlike_there mixed_array any_array h g = absurd (false≢true (sym g ∙ h))
unlike_there mixed_array mixed_array h g = absurd (false≢true (sym g ∙ h))
unlike_there mixed_array (array u) h g = absurd (false≢true (sym g ∙ h))
unlike_there (array t) (scalar b) h g = absurd (false≢true (sym g ∙ h))
unlike_there (array t) (entity f) h g = absurd (false≢true (sym g ∙ h))
unlike_there (array t) any_array h g = absurd (false≢true (sym g ∙ h))
unlike_there (array t) mixed_array h g = absurd (false≢true (sym g ∙ h))
unlike_there (array t) (array u) h g = let r = unlike_there t u h g in record { layers = suc r.layers; left = r.left; right = r.right; is_left = ap array r.is_left; is_right = ap array r.is_right; unlike = r.unlike }

-- of either profile
pub compatible_swapped : (p : Profile) (t u : Ty) → compatible p t u ≡ compatible p u t
compatible_swapped plain = fits_swapped (λ e f. true) true (λ e f. refl)
compatible_swapped strict = fits_swapped tag_fits true tag_swapped

pub compatible_plain : (p : Profile) (t u : Ty) → compatible p t u ≡ true → compatible plain t u ≡ true
compatible_plain p = fits_more (tags_under p) (λ e f. true) (λ e f h. refl)

-- so elsewhere they agree
strict_agrees : (t u : Ty) → (Unlike t u → ⊥) → compatible strict t u ≡ compatible plain t u
strict_agrees t u h = go (compatible plain t u) (compatible strict t u) refl refl
  where
    go : (b d : Bool) → compatible plain t u ≡ b → compatible strict t u ≡ d → compatible strict t u ≡ compatible plain t u
    go true true e g = g ∙ sym e
    go false false e g = g ∙ sym e
    go true false e g = absurd (h (unlike_there t u e g))
    go false true e g = absurd (false≢true (sym e ∙ compatible_plain strict t u g))

pub profiles : Profiles
unfolding fits same text
profiles = record {
  as_before = λ t u. refl;
  differs = λ t u. ((λ h. unlike_there t u h.0 h.1), strict_differs t u);
  agrees = strict_agrees;
  is_acceptance = λ t u. refl;
  strict_itself = fits_itself tag_fits true tag_itself;
  strict_swapped = compatible_swapped strict;
  strict_plain = compatible_plain strict;
  untagged_between = (refl, refl, refl);
}

pub profiles_in_code : (s c : List ℕ) → ProfilesInCode s c
profiles_in_code s c = record {
  differs = λ a b r q e f h. let d = (profiles.differs (rich_of s c a) (rich_of s c b)).1 h in (e ∙ d.0, f ∙ d.1);
  agrees = λ a b r q e f h. f ∙ profiles.agrees (rich_of s c a) (rich_of s c b) h ∙ sym e;
  strict_plain = λ a b r q e f h. e ∙ profiles.strict_plain (rich_of s c a) (rich_of s c b) (sym f ∙ h);
}
