use Rattle.sx_grammar.specs.Parts.{texts}
use Rattle.sx_directives.proofs.KeywordLaws.{no_prod, no_var}
use Rattle.sx_directives.proofs.reading.directive_of.Goals as goal

pub returns-in-Err : goal.returns-in-Err
returns-in-Err c = no_prod c.args.keyword (texts c.args.parts.now) c.in-Err.e c.in-Prod.is c.in-Err.ensures

pub returns-in-Err-read_var : goal.returns-in-Err-read_var
returns-in-Err-read_var c = no_var c.args.keyword (texts c.args.parts.now) c.in-Err-read_var.e c.in-Var.is c.in-Err-read_var.ensures
