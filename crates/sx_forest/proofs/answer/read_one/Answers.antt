use Rattle.std.proofs.Common.{sym, subst}
use Rattle.std.specs.Prelude.{IfOk, IfErr}
use Rattle.sx_grammar.specs.Parts.{labels}
use Rattle.sx_grammar.specs.Tables.{GrammarData}
use Rattle.sx_grammar.specs.ReadOne.{IsAnswer, only}
use Rattle.sx_earley.specs.Shown.{plain}
use Rattle.sx_earley.specs.Tokens.{Stems, plain_tokens}
use Rattle.sx_earley.specs.Unknown.{HaveStems}
use Rattle.sx_earley.specs.Completed.{IsSort, sort_number}
use Rattle.sx_forest.specs.Readings.{plain_reading}
use Rattle.sx_forest.specs.Text.{token_texts}
use Rattle.sx_forest.specs.Verdict.{IsReadRefusal}
use Rattle.sx_forest.proofs.answer.read_one.Goals as goal

pub read_one_by-requires-clause-start : goal.read_one_by-requires-clause-start
read_one_by-requires-clause-start c = subst (λ (d : GrammarData). IsSort d.parts c.args.start) (sym c.in_ok-by.ensures) c.requires.start

pub read_one_by-requires-clause-stems : goal.read_one_by-requires-clause-stems
read_one_by-requires-clause-stems c = subst (λ (s : Stems). HaveStems s c.args.tokens.now) (sym c.in_ok-stems.ensures) c.requires.stems

pub returns-clause-only : goal.returns-clause-only
returns-clause-only c =
    subst (λ (d : GrammarData). IfOk c.read_one_by.result (λ r. IsAnswer (plain d) (plain_tokens c.args.metas.now.stems.items c.args.tokens.now) (sort_number c.args.start) (only (plain_reading r)))) c.in_ok-by.ensures
    (subst (λ (s : Stems). IfOk c.read_one_by.result (λ r. IsAnswer (plain c.in_ok-by.by) (plain_tokens s c.args.tokens.now) (sort_number c.args.start) (only (plain_reading r)))) c.in_ok-stems.ensures
    c.read_one_by.ensures.only)

pub returns-clause-refused : goal.returns-clause-refused
returns-clause-refused c =
    subst (λ (d : GrammarData). IfErr c.read_one_by.result (IsReadRefusal (labels d.parts) (token_texts c.args.tokens.now) (plain d) (plain_tokens c.args.metas.now.stems.items c.args.tokens.now) (sort_number c.args.start))) c.in_ok-by.ensures
    (subst (λ (s : Stems). IfErr c.read_one_by.result (IsReadRefusal (labels c.in_ok-by.by.parts) (token_texts c.args.tokens.now) (plain c.in_ok-by.by) (plain_tokens s c.args.tokens.now) (sort_number c.args.start))) c.in_ok-stems.ensures
    c.read_one_by.ensures.refused)
