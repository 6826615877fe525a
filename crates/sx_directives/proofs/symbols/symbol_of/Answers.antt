use Rattle.std.proofs.Common.{subst}
use Rattle.sx_directives.specs.Spelling.{NoneIs, IsQuoted}
use Rattle.sx_directives.proofs.SpellingLaws.{symbol_none}
use Rattle.sx_directives.proofs.symbols.symbol_of.Goals as goal

pub returns-in-Err : goal.returns-in-Err
returns-in-Err c = symbol_none c.args.part.now c.in-Err.e (subst (NoneIs (IsQuoted c.args.part.now)) c.in-Err-Shape.field-0-is c.in-Err-Shape.ensures) c.in-Err.ensures
