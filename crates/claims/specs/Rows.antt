-- Rows of examples under one statement: a row asks one thing of everything in its range, and says the answer; `Hold rows` says that all are right.
use Rattle.std.specs.Prelude.{◌≡◌, List, [], ◌∷◌}

infixr 5 ◌and◌
pub record Row : Type 1 where
  pub Range : Type 0
  pub Answer : Type 0
  pub asked : Range → Answer
  pub answer : Range → Answer

abbrev pub Holds : Row → Type 0
Holds r = (x : r.Range) → r.asked x ≡ r.answer x

-- all rows of a list hold
pub data Hold : List Row → Type 1 where
  end : Hold []
  ◌and◌ : {r : Row} {rest : List Row} → Holds r → Hold rest → Hold (r ∷ rest)

-- one answer for all, and an answer for each
abbrev pub of_all : (A : Type 0) {B : Type 0} → (A → B) → B → Row
of_all A {B} asked answer = record { Range = A; Answer = B; asked = asked; answer = λ x. answer }

abbrev pub of_each : (A : Type 0) {B : Type 0} → (A → B) → (A → B) → Row
of_each A {B} asked answer = record { Range = A; Answer = B; asked = asked; answer = answer }
