use Rattle.std.proofs.Common.{◌∙◌, ◌++◌, List, ap, map, sym, subst, length, Contains}
use Rattle.std.proofs.lemmas.List.Elements.{Contains-append_right}
use Rattle.sx_grammar.specs.declared.numbered.NumberedProduction.{NumberedProduction}
use Rattle.sx_grammar.specs.Parts.{Parts, line, parts}
use Rattle.sx_grammar.specs.Numbered.{bare}
use Rattle.sx_grammar.specs.Extended.{GrammarGrows}
use Rattle.sx_grammar.specs.Tables.{GrammarData, AreNumbered, HaveLiteralsBelow}
use Rattle.sx_grammar.proofs.MakeLaws.{line_known_here, lines_contain, few_names, few_texts}
use Rattle.sx_grammar.proofs.Behind.{numbered_both, below_both}
use Rattle.sx_grammar.proofs.numbered_behind.ranked_behind.Goals as goal
use Rattle.sx_grammar.proofs.numbered_behind.ranked_behind.Goals.{In_ok-productions}

pub number_productions-requires-clause-known : goal.number_productions-requires-clause-known
number_productions-requires-clause-known c =
    let more = map line c.args.more.now in
    λ r has. line_known_here (parts c.args.from.now) c.args.sorts.now c.args.literals.now c.requires.labels.0 c.requires.sorts c.requires.literals r
    (subst (λ (w : Parts). Contains w.productions (line r)) (sym c.requires.behind.is) (Contains-append_right c.args.base.now.parts.productions more (line r) (lines_contain c.args.more.now r has)))

pub number_productions-requires-clause-few : goal.number_productions-requires-clause-few
number_productions-requires-clause-few c = few_names (parts c.args.from.now) c.args.sorts.now c.requires.sorts c.requires.limits.sorts

pub number_productions-requires-clause-few_literals : goal.number_productions-requires-clause-few_literals
number_productions-requires-clause-few_literals c = few_texts (parts c.args.from.now) c.args.literals.now c.requires.literals c.requires.limits.literals

-- all productions are those of the whole, with numbers
all_numbered : (c : In_ok-productions) → AreNumbered (parts c.args.from.now) c.in_ok-productions.productions.items
all_numbered c =
    let p = parts c.base.inside.parts in
    let whole = parts c.args.from.now in
    let more = map line c.args.more.now in
    let ps = c.base.inside.productions.items in
    let qs = c.in_ok-own.own.items in
    let grows = subst (λ (d : GrammarData). GrammarGrows d.parts more whole) (sym c.base.view_is) c.requires.behind in
    let low = subst (λ l. HaveLiteralsBelow (length l) ps) c.base.invariant.has_texts c.base.invariant.below in
    numbered_both p more whole grows c.base.invariant.is_grammar.0.0.0.0 c.args.literals.now c.args.sorts.now ps qs c.in_ok-productions.productions.items c.base.invariant.has_productions low
    c.requires.literals c.requires.sorts c.in_ok-own.ensures.same (c.in_ok-productions.ensures ∙ ap (λ (l : List NumberedProduction). map bare (l ++ qs)) c.deref.ensures.value)

pub ranks_behind-requires-clause-numbered : goal.ranks_behind-requires-clause-numbered
ranks_behind-requires-clause-numbered c = subst (AreNumbered (parts c.args.from.now)) (sym c.deref-2.ensures.value) (all_numbered (goal.at.ranks_behind-requires-clause-numbered c).In_ok-productions)

pub returns-in-Ok-clause-same : goal.returns-in-Ok-clause-same
returns-in-Ok-clause-same c = all_numbered (goal.at.returns-in-Ok-clause-same c).In_ok-productions

pub returns-in-Ok-clause-below : goal.returns-in-Ok-clause-below
returns-in-Ok-clause-below c =
    let p = parts c.base.inside.parts in
    let whole = parts c.args.from.now in
    let more = map line c.args.more.now in
    let ps = c.base.inside.productions.items in
    let qs = c.in_ok-own.own.items in
    let grows = subst (λ (d : GrammarData). GrammarGrows d.parts more whole) (sym c.base.view_is) c.requires.behind in
    let low = subst (λ l. HaveLiteralsBelow (length l) ps) c.base.invariant.has_texts c.base.invariant.below in
    below_both p more whole grows c.args.literals.now ps qs c.in_ok-productions.productions.items low c.requires.literals c.in_ok-own.ensures.below
    (c.in_ok-productions.ensures ∙ ap (λ (l : List NumberedProduction). map bare (l ++ qs)) c.deref.ensures.value)
