use Rattle.sx_grammar.specs.Parts.{texts}
use Rattle.sx_directives.proofs.BodyLaws.{no_to}
use Rattle.sx_directives.proofs.reading.row_of.Goals as goal

pub returns-in-Err-body_of : goal.returns-in-Err-body_of
returns-in-Err-body_of c = no_to c.args.keyword c.args.line.now (texts c.args.parts.now) c.in-Err-body_of.e c.in-To.is c.in-Err-body_of.ensures
