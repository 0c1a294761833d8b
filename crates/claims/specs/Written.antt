-- The bytes of a target record: document 01's numbers, in its order. A record is accepted only where it is written so (`no_other` in `Claim`).
use Rattle.std.specs.Prelude.{ℕ, true, false, List, [], ◌∷◌, ◌++◌, length}
use Rattle.std.proofs.Math.Option.{Option, none, some}
use Rattle.names.specs.Lists.{gather}
use Rattle.targets.specs.Targets.{Narrowing, any, is_type, uid, Target, Targets}

-- a string: its length, then its bytes
abbrev pub of_string : List ℕ → List ℕ
of_string w = length w ∷ w

abbrev pub of_narrowing : Option Narrowing → List ℕ
of_narrowing none = 0 ∷ []
of_narrowing (some any) = 1 ∷ []
of_narrowing (some (is_type t)) = 2 ∷ of_string t
of_narrowing (some (uid t false)) = 3 ∷ of_string t
of_narrowing (some (uid t true)) = 4 ∷ of_string t

abbrev pub of_target : Target → List ℕ
of_target t = of_string t.namespace ++ of_string t.id

-- mark and version
abbrev pub heading : List ℕ
heading = 68 ∷ 87 ∷ 84 ∷ 0 ∷ 1 ∷ []

abbrev pub written : Targets → List ℕ
written ts =
    heading ++ (of_narrowing ts.scope.principal ++ (of_narrowing ts.scope.resource ++ (length ts.list ∷ gather of_target ts.list)))
