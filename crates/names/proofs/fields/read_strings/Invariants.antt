use Rattle.std.proofs.Common.{◌≡◌, ◌-◌}
use Rattle.names.specs.Class.{class_of}
use Rattle.names.specs.Fields.{each, counted, string_of}
use Rattle.names.specs.Read.{ending, row}
use Rattle.names.proofs.fields.read_strings.Given as goal

-- the strings that are left answer as all of them do
abbrev pub invariant-loop : goal.invariant-loop
invariant-loop l =
    let string = string_of (class_of l.class) in
    ending (counted (each string) l.s l.start) ≡ ending (row string (l.end - l.counter) l.s l.at)
