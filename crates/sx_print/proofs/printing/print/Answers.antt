use Rattle.std.proofs.Common.{arith, length}
use Rattle.sx_term.specs.Term.{tree}
use Rattle.sx_grammar.specs.Parts.{numbered}
use Rattle.sx_grammar.specs.Print as plain
use Rattle.sx_print.proofs.Cutting.{text_utf8, cut_into}
use Rattle.sx_print.proofs.Good.{tokens_good}
use Rattle.sx_print.proofs.Fitting.{built, printed_read}
use Rattle.sx_print.proofs.printing.print.Goals as goal

pub put_term-requires-clause-built : goal.put_term-requires-clause-built
put_term-requires-clause-built c =
    let can = c.requires.printable in
    built (numbered c.args.grammar.now.parts) can.stems (length c.args.vars.now) can.named can.fits

pub returns-in-Ok-clause-text : goal.returns-in-Ok-clause-text
returns-in-Ok-clause-text c place =
    c.drop_last_blank.ensures (plain.print (numbered c.args.grammar.now.parts) c.args.vars.now (tree c.args.term.now) place c.args.least) c.args.into.now.items (omega arith) (c.in-Ok.ensures.ok place).text

pub returns-in-Ok-clause-utf8 : goal.returns-in-Ok-clause-utf8
returns-in-Ok-clause-utf8 c place = text_utf8 _ (c.in-Ok.ensures.ok place).utf8

pub returns-in-Ok-clause-cut : goal.returns-in-Ok-clause-cut
returns-in-Ok-clause-cut c place fits has =
    cut_into c.args.grammar.now.parts _ (tokens_good c.args.grammar.now.parts c.args.vars.now c.facts.ensures.grammar fits has place c.args.least) (c.in-Ok.ensures.ok place).utf8

pub returns-in-Ok-clause-read : goal.returns-in-Ok-clause-read
returns-in-Ok-clause-read c sort fits =
    printed_read (numbered c.args.grammar.now.parts) c.args.vars.now (length c.args.vars.now) sort c.args.least _ c.facts.ensures.brackets c.requires.printable fits

pub returns-in-Err-clause-read : goal.returns-in-Err-clause-read
returns-in-Err-clause-read c sort fits =
    printed_read (numbered c.args.grammar.now.parts) c.args.vars.now (length c.args.vars.now) sort c.args.least _ c.facts.ensures.brackets c.requires.printable fits
