use Rattle.std.proofs.Common.{◌≡◌, length, sym, subst}
use Rattle.std.specs.Prelude.{IfOk, Err}
use Rattle.sx_grammar.specs.Tables.{GrammarData}
use Rattle.sx_grammar.specs.ReadOne.{MoreHold, IsGreatestEnd}
use Rattle.sx_earley.specs.declared.chart_error.ChartError.TheVariants.{TooHard}
use Rattle.sx_earley.specs.Shown.{plain, literal_texts, tokens_of, ShownBelow}
use Rattle.sx_earley.specs.Completed.{IsChart}
use Rattle.sx_earley.proofs.charting.chart_of.Goals as goal

pub chart_by-requires-clause-below : goal.chart_by-requires-clause-below
chart_by-requires-clause-below c = subst (λ (d : GrammarData). ShownBelow (length (literal_texts d)) c.args.shown.now) (sym c.by.view_is) c.requires.below

pub returns-clause-spans : goal.returns-clause-spans
returns-clause-spans c =
    subst (λ (d : GrammarData). IfOk c.chart_by.result (λ x. IsChart (plain d) (tokens_of d c.args.shown.now) c.args.start x.spans)) c.by.view_is c.chart_by.ensures.spans

pub returns-clause-reach : goal.returns-clause-reach
returns-clause-reach c =
    subst (λ (d : GrammarData). IfOk c.chart_by.result (λ x. IsGreatestEnd (plain d) (tokens_of d c.args.shown.now) c.args.start x.reach)) c.by.view_is c.chart_by.ensures.reach

pub returns-clause-few : goal.returns-clause-few
returns-clause-few c =
    subst (λ (d : GrammarData). IfOk c.chart_by.result (λ _. MoreHold (plain d) (tokens_of d c.args.shown.now) c.args.start 2000000 → ⊥)) c.by.view_is c.chart_by.ensures.few

pub returns-clause-hard : goal.returns-clause-hard
returns-clause-hard c =
    subst (λ (d : GrammarData). c.chart_by.result ≡ Err TooHard → MoreHold (plain d) (tokens_of d c.args.shown.now) c.args.start 2000000) c.by.view_is c.chart_by.ensures.hard
