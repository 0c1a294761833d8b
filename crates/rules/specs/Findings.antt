-- What a judgement finds: its message, by the table of `reports`, with its words by where they stand.
use Rattle.std.specs.Prelude as code
use Rattle.std.specs.Prelude.{None, Some, List}
use Rattle.std.proofs.Math.Option.{Option}
use Rattle.types.specs.Types.{Ty}
use Rattle.types.specs.Meaning.{rich_of}
use Rattle.types.specs.declared.Rich.{Rich}
use Rattle.types.specs.Laws.Texts.{Small}
use Rattle.resolution.specs.Places.{typed_of, small_type}
use Rattle.reports.specs.declared.Message.TheVariants as Message
use Rattle.messages.specs.declared.Word.TheVariants.{Nothing, Name, Shown}
use Rattle.messages.specs.Words.{Rule, Said, Tells, say, SaidStands, said_breaches}
use Rattle.condition.specs.Condition.{Span}
use Rattle.reports.specs.Reports.{Breach}
use Rattle.terms.specs.declared.setting.Setting.{Setting}
use Rattle.rules.specs.Rules.{both}
use Rattle.rules.specs.declared.Finding.{Finding}
use Rattle.rules.specs.declared.Finding.TheVariants.{Wildcard, NotLong, NotNumeric, Unlike, WrongTimepoint, WrongArgument}
use Rattle.resolution.specs.Coded.{Typed}

abbrev pub said_of : code.Option Finding → Said
said_of None = None
said_of (Some Wildcard) = say Message.WildcardInside Nothing Nothing Nothing Nothing
said_of (Some (NotLong t)) = say Message.NotLong (Shown t) Nothing Nothing Nothing
said_of (Some (NotNumeric l r)) = say Message.NotNumeric (Shown l) (Shown r) Nothing Nothing
said_of (Some (Unlike l r)) = say Message.UnlikeTypes (Shown l) (Shown r) Nothing Nothing
said_of (Some (WrongTimepoint p t)) = say Message.WrongTimepoint (Name p) (Name p) (Name p) (Shown t)
said_of (Some (WrongArgument p q x a)) = say Message.WrongArgument (Name p) (Name q) (Shown x) (Shown a)

-- in a setting, it is what the rule says
module _ (t : Setting) where
  abbrev pub Finds : Rule → code.Option Finding → Type 0
  Finds rule f = Tells t.schema.bytes.now t.condition.bytes.now rule (said_of f)

  -- what the code's types are there
  abbrev pub type_of : Typed → Option Ty
  type_of = typed_of t.schema.bytes.now t.condition.bytes.now

  abbrev pub known_type : Rich → Ty
  known_type = rich_of t.schema.bytes.now t.condition.bytes.now

  abbrev pub SmallIn : Typed → Type 0
  SmallIn x = small_type (type_of x)

  abbrev pub SmallRich : Rich → Type 0
  SmallRich x = Small (known_type x)

  -- the same of a rule for a type, where it is known; for two types, where both are; for two types that are known
  abbrev pub FindsOf : (Option Ty → Rule) → Typed → code.Option Finding → Type 0
  FindsOf rule x f = Finds (rule (type_of x)) f

  abbrev pub FindsBoth : (Ty → Ty → Rule) → Typed → Typed → code.Option Finding → Type 0
  FindsBoth rule l r f = Finds (both (type_of l) (type_of r) rule) f

  abbrev pub FindsTwo : (Ty → Ty → Rule) → Rich → Rich → code.Option Finding → Type 0
  FindsTwo rule l r f = Finds (rule (known_type l) (known_type r)) f

  -- what is said of a finding: its words stand, and the breaches at a span
  abbrev pub FindingStands : code.Option Finding → Type 0
  FindingStands f = SaidStands t.schema.bytes.now t.condition.bytes.now (said_of f)

  abbrev pub found_breaches : code.Option Finding → Span → List Breach
  found_breaches f = said_breaches t.schema.bytes.now t.condition.bytes.now (said_of f)
