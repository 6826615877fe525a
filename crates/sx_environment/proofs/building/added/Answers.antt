use Rattle.sx_term.specs.Term.{tree}
use Rattle.sx_interface.specs.InterfaceView.{interface_view}
use Rattle.sx_environment.specs.SeenFrom.{seen_from}
use Rattle.sx_environment.proofs.EnvironmentTerms.{seen_is_term}
use Rattle.sx_environment.proofs.SeenTerms.{added_import, too_deep_if}
use Rattle.sx_environment.proofs.building.added.Goals as goal

pub with_import-requires-clause-seen : goal.with_import-requires-clause-seen
with_import-requires-clause-seen c =
    (seen_is_term (seen_from c.args.given.now) c.requires.dialect.is
    (interface_view c.args.import.now.interface.now) (tree c.in-Ok.seen)
    c.in-Ok.ensures.good).depth

pub returns-in-Ok-clause-made : goal.returns-in-Ok-clause-made
returns-in-Ok-clause-made c =
    added_import (seen_from c.args.given.now) (tree c.args.before.term)
    (interface_view c.args.import.now.interface.now) (tree c.in-Ok.seen) c.with_import.result
    c.in-Ok.ensures.good c.with_import.ensures.made

pub returns-in-Ok-clause-refused : goal.returns-in-Ok-clause-refused
returns-in-Ok-clause-refused c =
    too_deep_if (seen_from c.args.given.now) c.args.import.now.number (tree c.args.before.term)
    (interface_view c.args.import.now.interface.now) (tree c.in-Ok.seen) c.with_import.result
    c.in-Ok.ensures.good c.with_import.ensures.refused

pub returns-in-Err-clause-refused : goal.returns-in-Err-clause-refused
returns-in-Err-clause-refused c = c.in-Err.ensures.refused (tree c.args.before.term)
