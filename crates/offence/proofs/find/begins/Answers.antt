-- std's test of a front is that of the definition: both say that the front is the mark.
use Rattle.std.proofs.Common.{◌≡◌, refl, sym, ap, ◌∙◌, Bool, true, false, List, ℕ, length, take}
use Rattle.std.proofs.lemmas.Bool.Decides.{Decides-eqb}
use Rattle.std.proofs.lemmas.Slice.Eq.{slice_eq-Decides}
use Rattle.std.specs.List.{starts_with}
use Rattle.names.specs.Names.{same}
use Rattle.names.specs.Laws.Names.{same_refl, same_eq}
use Rattle.offence.specs.Offence.{begins}
use Rattle.offence.proofs.find.begins.Goals as goal
use lib.Dec.{eqb}

first_bytes : (s mark : List ℕ) (r : Bool) → r ≡ starts_with eqb s mark → r ≡ begins mark s
first_bytes s mark true h =
    let e : mark ≡ take (length mark) s = (slice_eq-Decides Decides-eqb mark (take (length mark) s) true h).0 refl in
    sym (ap (λ (front : List ℕ). same front mark) (sym e) ∙ same_refl mark)
first_bytes s mark false h = go (same (take (length mark) s) mark) refl
  where
    go : (b : Bool) → same (take (length mark) s) mark ≡ b → false ≡ same (take (length mark) s) mark
    go true e = absurd (cc ((slice_eq-Decides Decides-eqb mark (take (length mark) s) false h).1 (sym (same_eq (take (length mark) s) mark e))))
    go false e = sym e

pub returns : goal.returns
returns c = first_bytes _ _ _ c.starts_with.ensures.value
