use Rattle.std.proofs.Common.{sym, subst}
use Rattle.std.specs.Prelude.{IfOk, IfErr}
use Rattle.sx_term.specs.declared.sort.Sort.{Sort}
use Rattle.sx_term.specs.Term.{tree}
use Rattle.sx_earley.specs.Completed.{IsSort}
use Rattle.sx_notation.specs.ReadText.{IsReadLine, IsTextRefused}
use Rattle.sx_language.specs.Readers.{reader}
use Rattle.sx_language.proofs.rule_line.judgement_term.Goals as goal

pub line_term-requires-clause-sort : goal.line_term-requires-clause-sort
line_term-requires-clause-sort c = subst (λ (s : Sort). IsSort (reader c.args.by.now).parts s) (sym c.judgements-sort.ensures) c.requires.can.sort

pub returns-clause-read : goal.returns-clause-read
returns-clause-read c =
    let r = reader c.args.by.now in
    subst (λ (s : Sort). IfOk c.line_term.result (λ t. IsReadLine r.parts r.stems s c.args.line.now.text c.args.vars.now c.line_term.new.vars (tree t))) c.judgements-sort.ensures c.line_term.ensures.read

pub returns-clause-refused : goal.returns-clause-refused
returns-clause-refused c =
    let r = reader c.args.by.now in
    subst (λ (s : Sort). IfErr c.line_term.result (IsTextRefused r.parts r.stems s c.args.line.now.text c.args.line.now.number)) c.judgements-sort.ensures c.line_term.ensures.refused
