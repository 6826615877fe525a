use Rattle.sx_term.specs.Term.{tree}
use Rattle.sx_notation.proofs.ReadLexemes.{reads_are_shallow}
use Rattle.tests_languages.proofs.lines_read.is_read_as.Goals as goal

pub is_term-requires : goal.is_term-requires
is_term-requires c =
    reads_are_shallow c.args.language.now.rule_grammar.parts c.args.language.now.metas.stems.items c.args.sort c.args.line.now c.args.vars.now c.read_text.new.vars (tree c.in-Ok.term) c.in-Ok.ensures.read
