use Rattle.std.proofs.Common.{sym, subst, ap, length, arith}
use Rattle.sx_grammar.specs.ReadOne.{MoreHold, IsGreatestEnd}
use Rattle.sx_earley.specs.Shown.{plain, literal_texts, tokens_of}
use Rattle.sx_earley.specs.Tokens.{plain_tokens}
use Rattle.sx_earley.specs.Showing.{AllShow}
use Rattle.sx_earley.specs.Completed.{sort_number, IsChart}
use Rattle.sx_earley.proofs.Sameness.{AllSame, chart_same, reach_same, more_same, turned, shown_same, shown_below, shown_long, ok_if}
use Rattle.sx_earley.proofs.charting.chart.Goals as goal
use Rattle.sx_earley.proofs.charting.chart.Goals.{After-deref}

-- the tokens are shown as the table of stems has them
all_shown : (c : After-deref) → AllShow (literal_texts c.args.grammar.now) c.args.metas.now.stems.items c.args.tokens.now c.deref.result.now
all_shown c = subst (AllShow (literal_texts c.args.grammar.now) c.args.metas.now.stems.items c.args.tokens.now) (sym c.deref.ensures.value) c.in_ok-shown.ensures

-- the tokens that are shown are the plain ones
all_same : (c : After-deref) → AllSame (plain c.args.grammar.now) (tokens_of c.args.grammar.now c.deref.result.now) (plain_tokens c.args.metas.now.stems.items c.args.tokens.now)
all_same c = shown_same c.args.grammar.now c.facts.ensures.grammar c.args.metas.now.stems.items c.args.tokens.now c.deref.result.now (all_shown c)

pub chart_by-requires-clause-below : goal.chart_by-requires-clause-below
chart_by-requires-clause-below c =
    shown_below (literal_texts c.args.grammar.now) c.args.metas.now.stems.items c.args.tokens.now c.deref.result.now (all_shown (goal.at.chart_by-requires-clause-below c).After-deref)

pub chart_by-requires-clause-short : goal.chart_by-requires-clause-short
chart_by-requires-clause-short c =
    let long = shown_long (literal_texts c.args.grammar.now) c.args.metas.now.stems.items c.args.tokens.now c.in_ok-shown.shown.items c.in_ok-shown.ensures in
    omega (arith, long, c.deref.ensures.len, ap length c.deref.ensures.value, c.requires.short)

pub returns-clause-spans : goal.returns-clause-spans
returns-clause-spans c =
    let d = c.args.grammar.now in
    let stems = c.args.metas.now.stems.items in
    let g = plain d in
    let ts = plain_tokens stems c.args.tokens.now in
    let us = tokens_of d c.deref.result.now in
    let same = all_same (goal.at.returns-clause-spans c).After-deref in
    ok_if c.chart_by.result (λ x. IsChart g us c.number_of.result x.spans) (λ x. IsChart g ts (sort_number c.args.start) x.spans)
    (λ x is. subst (λ n. IsChart g ts n x.spans) c.number_of.ensures (chart_same g us ts same c.number_of.result x.spans is)) c.chart_by.ensures.spans

pub returns-clause-reach : goal.returns-clause-reach
returns-clause-reach c =
    let d = c.args.grammar.now in
    let stems = c.args.metas.now.stems.items in
    let g = plain d in
    let ts = plain_tokens stems c.args.tokens.now in
    let us = tokens_of d c.deref.result.now in
    let same = all_same (goal.at.returns-clause-reach c).After-deref in
    ok_if c.chart_by.result (λ x. IsGreatestEnd g us c.number_of.result x.reach) (λ x. IsGreatestEnd g ts (sort_number c.args.start) x.reach)
    (λ x is. subst (λ n. IsGreatestEnd g ts n x.reach) c.number_of.ensures (reach_same g us ts same c.number_of.result x.reach is)) c.chart_by.ensures.reach

pub returns-clause-few : goal.returns-clause-few
returns-clause-few c =
    let d = c.args.grammar.now in
    let stems = c.args.metas.now.stems.items in
    let g = plain d in
    let ts = plain_tokens stems c.args.tokens.now in
    let us = tokens_of d c.deref.result.now in
    let same = all_same (goal.at.returns-clause-few c).After-deref in
    ok_if c.chart_by.result (λ _. MoreHold g us c.number_of.result 2000000 → ⊥) (λ _. MoreHold g ts (sort_number c.args.start) 2000000 → ⊥)
    (λ x none more. none (subst (λ n. MoreHold g us n 2000000) (sym c.number_of.ensures) (more_same g ts us (turned g us ts same) (sort_number c.args.start) 2000000 more))) c.chart_by.ensures.few

pub returns-clause-hard : goal.returns-clause-hard
returns-clause-hard c = λ e.
    let d = c.args.grammar.now in
    let stems = c.args.metas.now.stems.items in
    let g = plain d in
    let ts = plain_tokens stems c.args.tokens.now in
    let us = tokens_of d c.deref.result.now in
    let same = all_same (goal.at.returns-clause-hard c).After-deref in
    more_same g us ts same (sort_number c.args.start) 2000000 (subst (λ n. MoreHold g us n 2000000) c.number_of.ensures (c.chart_by.ensures.hard e))
