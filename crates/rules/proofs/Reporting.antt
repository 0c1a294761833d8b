-- A finding is reported: what is said of it is short enough for the scratch. Assumes nothing.
use mathlib.Core.Path.{◌≡◌}
use mathlib.Core.List.{List, [], ◌∷◌}
use Prim.Native.Nat.{ℕ, ◌+◌, ◌≤◌}
use native.Mathlib.Omega.{arith}
use borrow.Author.Rules.{rules}
use lib.ListN.{length, take}
use lib.Dec.{lit≤}
use Rattle.std.specs.Prelude as code
use Rattle.std.specs.Prelude.{None, Some}
use Rattle.names.specs.Writer.{Stored}
use Rattle.types.specs.declared.Rich.{Rich}
use Rattle.reports.specs.declared.State.{State}
use Rattle.reports.specs.Sink.{sink}
use Rattle.reports.specs.Slots.{Lent, Pushed}
use Rattle.reports.specs.Laws.Sinks.{recorded_none}
use Rattle.reports.specs.Laws.Slots.{pushed_composed}
use Rattle.nodes.specs.declared.Ends.{Ends}
use Rattle.messages.specs.Words.{Said, text_of, Stands, most, said_breaches, SaidStands, span_in}
use Rattle.messages.specs.Laws.Lengths.{Bytes, text_within}
use Rattle.messages.specs.declared.Sentence.{Sentence}
use Rattle.rules.specs.Findings.{said_of}
use Rattle.rules.specs.declared.Finding.{Finding}
use Rattle.rules.specs.declared.Finding.TheVariants.{Wildcard, NotLong, NotNumeric, Unlike, WrongTimepoint, WrongArgument}

-- the message of each finding
pub said_clean : (f : code.Option Finding) → f ≡ None → None ≡ said_of f
said_clean f e = rw e

module _ (f : code.Option Finding) {r : Said} where
  pub said_wildcard : f ≡ Some Wildcard → r ≡ said_of (Some Wildcard) → r ≡ said_of f
  said_wildcard e h = rw e h

  pub said_not_long : (t : Rich) → f ≡ Some (NotLong t) → r ≡ said_of (Some (NotLong t)) → r ≡ said_of f
  said_not_long t e h = rw e h

  pub said_numeric : (x y : Rich) → f ≡ Some (NotNumeric x y) → r ≡ said_of (Some (NotNumeric x y)) → r ≡ said_of f
  said_numeric x y e h = rw e h

  pub said_unlike : (x y : Rich) → f ≡ Some (Unlike x y) → r ≡ said_of (Some (Unlike x y)) → r ≡ said_of f
  said_unlike x y e h = rw e h

  pub said_timepoint : (p : ℕ) (t : Rich) → f ≡ Some (WrongTimepoint p t) → r ≡ said_of (Some (WrongTimepoint p t)) → r ≡ said_of f
  said_timepoint p t e h = rw e h

  pub said_argument : (p q : ℕ) (x y : Rich) → f ≡ Some (WrongArgument p q x y) → r ≡ said_of (Some (WrongArgument p q x y)) → r ≡ said_of f
  said_argument p q x y e h = rw e h

pub ruleset saying = (rules, said_clean, said_wildcard, said_not_long, said_numeric, said_unlike, said_timepoint, said_argument)

-- a name has 255 bytes at most, a type's text 479: what is said fits the scratch
most_said : Said → ℕ
most_said None = 0
most_said (Some m) = most m

said_short : (f : code.Option Finding) → most_said (said_of f) ≤ 2048
unfolding most_said
said_short None = lit≤ tt
said_short (Some Wildcard) = lit≤ tt
said_short (Some (NotLong t)) = lit≤ tt
said_short (Some (NotNumeric l r)) = lit≤ tt
said_short (Some (Unlike l r)) = lit≤ tt
said_short (Some (WrongTimepoint p t)) = lit≤ tt
said_short (Some (WrongArgument p q x a)) = lit≤ tt

module _ (s c : List ℕ) (f : code.Option Finding) (r : Said) (is : r ≡ said_of f) where
  pub nothing_said : r ≡ None → (span : Ends) (old : List ℕ) (st : State) (table : List ℕ) → Lent (sink old st) table → Pushed old st (said_breaches s c (said_of f) (span_in span)) old st table
  nothing_said e span old st table p = rw (← is, e) (recorded_none old st p)

  module _ (m : Sentence) (e : r ≡ Some m) where
    pub message_stands : SaidStands s c (said_of f) → Stands s c m
    message_stands h = rw (← is, e) at h

    pub message_short : Bytes c → SaidStands s c (said_of f) → (n : ℕ) → 2048 ≤ n → 0 + length (text_of s c m) ≤ n
    unfolding most_said
    message_short bytes h n long =
        let most-is : most m ≤ 2048 = rw (← is, e) at (said_short f) in
        omega (arith, text_within s c bytes m (message_stands h))

    pub message_pushed : (span : Ends) {old scratch new : List ℕ} {n : ℕ} {after table : List ℕ} {st st' : State} → Stored scratch 0 (text_of s c m) new n
        → Pushed old st (record { start = span.start; end = span.end; message = take n new } ∷ []) after st' table → Pushed old st (said_breaches s c (said_of f) (span_in span)) after st' table
    message_pushed span w k = rw (← is, e) (pushed_composed span.start span.end w k)

pub ruleset reporting = (rules, nothing_said, message_stands, message_short, message_pushed)
