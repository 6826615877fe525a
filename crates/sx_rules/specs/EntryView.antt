-- Entries of derivation lists as plain data.
use Rattle.std.specs.Prelude.{List, map}
use Rattle.sx_rules.specs.declared.entry.Entry.{Entry as EntryOf}
use Rattle.sx_rules.specs.declared.entry.Entry.TheVariants.{Rule, Given}
use Rattle.sx_rules.specs.Orders.{Entry, of_given, of_rule}

-- an entry as plain data
abbrev pub entry : EntryOf → Entry
entry (Rule number) = of_rule number
entry (Given number) = of_given number

-- a derivation list as plain data
abbrev pub entries : List EntryOf → List Entry
entries list = map entry list
