use Rattle.std.proofs.Common.{map}
use Rattle.sx_grammar.specs.Parts.{line}
use Rattle.sx_extension.specs.Grounds.{ground}
use Rattle.sx_extension.proofs.Prepares.{stems_known}
use Rattle.sx_extension.proofs.own_tables.make_tables.Goals as goal

pub metas_of-requires : goal.metas_of-requires
metas_of-requires c =
    stems_known (ground c.args.before.now) c.requires.before (map line c.args.own.items)
    c.in-Ok.grammars.grammar.parts c.args.vars.now c.in-Ok.ensures.made.parts c.requires.sorts
