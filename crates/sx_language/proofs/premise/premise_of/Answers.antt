use Rattle.std.proofs.Common.{◌≡◌, ◌-◌, ◌+◌, ◌≤◌, ℕ, map, sym, subst, length, arith}
use Rattle.std.proofs.lemmas.List.{length-map}
use Rattle.sx_term.specs.Term.{tree}
use Rattle.sx_term.proofs.Kids.{tree-at_node}
use Rattle.sx_rules.specs.Views as view
use Rattle.sx_language.specs.RuleLine.{Says}
use Rattle.sx_language.specs.Readers.{reader}
use Rattle.sx_language.specs.declared.rule_reader.RuleReader.{RuleReader}
use Rattle.sx_language.proofs.Saying.{as_many, says_holds, two_apart, says_apart}
use Rattle.sx_language.proofs.premise.premise_of.Goals as goal
use Rattle.sx_language.proofs.premise.premise_of.Goals.{After-productions}

as_many_forms : (by : RuleReader) → length by.forms.now ≡ length (reader by).forms
as_many_forms by = omega (arith, length-map by.forms.now view.form)

-- the label of the first form
abbrev first : After-productions → ℕ
first c = length c.productions.result.now - (length c.args.by.now.forms.now + 3)

first_is : (c : After-productions)
    → first c ≡ length (reader c.args.by.now).parts.productions - (length (reader c.args.by.now).forms + 3)
first_is c =
    let r = reader c.args.by.now in
    omega (arith, as_many_forms c.args.by.now, as_many r.parts c.productions.result.now c.productions.ensures.same)

pub returns-then-number-forms : goal.returns-then-number-forms
returns-then-number-forms c =
    let w = (goal.at.returns-then-number-forms c).After-productions in
    says_holds (reader c.args.by.now) (tree c.args.term) c.in-Node.label (first w) (map tree c.in-Node.kids.items) (first_is w) (tree-at_node c.args.term c.in-Node.label c.in-Node.kids c.in-Node.is)
    c.requires.says.0 c.requires.says.1 (omega (arith, as_many_forms c.args.by.now, c.if-number-forms.true))

pub apart-requires : goal.apart-requires
apart-requires c =
    let w = (goal.at.apart-requires c).After-productions in
    let r = reader c.args.by.now in
    let past : length r.forms ≤ c.in-Node.label - first w = omega (arith, as_many_forms c.args.by.now, c.if-number-forms.false) in
    let two = two_apart r (tree c.args.term) c.in-Node.label (first w) (map tree c.in-Node.kids.items) (first_is w) (tree-at_node c.args.term c.in-Node.label c.in-Node.kids c.in-Node.is)
    c.requires.says.0 c.requires.says.1 past in
    omega (arith, two, length-map c.in-Node.kids.items tree)

pub returns : goal.returns
returns c =
    let w = (goal.at.returns c).After-productions in
    let r = reader c.args.by.now in
    let past : length r.forms ≤ c.in-Node.label - first w = omega (arith, as_many_forms c.args.by.now, c.if-number-forms.false) in
    subst (Says r (tree c.args.term)) (sym c.apart.ensures.3)
    (says_apart r (tree c.args.term) c.in-Node.label (first w) (map tree c.in-Node.kids.items) (first_is w) (tree-at_node c.args.term c.in-Node.label c.in-Node.kids c.in-Node.is)
    c.requires.says.0 c.requires.says.1 past c.apart.ensures.0 c.apart.ensures.1 c.apart.ensures.2)
