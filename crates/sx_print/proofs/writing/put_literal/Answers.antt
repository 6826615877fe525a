use Rattle.std.proofs.lemmas.Result.{on_ok_weaker}
use Rattle.sx_grammar.specs.Tables.{literals_of}
use Rattle.sx_print.proofs.Adding.{literal_adds}
use Rattle.sx_print.proofs.writing.put_literal.Goals as goal

pub returns-clause-ok : goal.returns-clause-ok
returns-clause-ok c =
    on_ok_weaker c.put_token.result
    (λ adds. literal_adds (literals_of c.args.grammar.now.parts) c.literals-literals.result.now c.args.number c.index-literals-number.result _ _ c.literals-literals.ensures c.requires c.index-literals-number.is adds)
    c.put_token.ensures.ok
