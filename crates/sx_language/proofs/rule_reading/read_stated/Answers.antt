use Rattle.std.proofs.Common.{◌≤◌, List, [], map, inr, length, sym, subst}
use Rattle.std.specs.List.{AllByRecursion}
use Rattle.sx_rules.specs.Views as view
use Rattle.sx_outline.specs.declared.rule_lines.RuleLine.{RuleLine}
use Rattle.sx_outline.specs.Stages.{numbered_rule_line, rule_data}
use Rattle.sx_language.specs.Readers.{reader}
use Rattle.sx_language.specs.RuleLine.{subject_sort}
use Rattle.sx_language.specs.RuleTexts.{ArePremises, IsBadBody, IsBadRule}
use Rattle.sx_language.proofs.Premising.{or_memory_map}
use Rattle.sx_language.proofs.ShortLines.{short_lines}
use Rattle.sx_language.proofs.rule_reading.read_stated.Goals as goal

pub read_premises-requires-clause-short : goal.read_premises-requires-clause-short
read_premises-requires-clause-short c = subst (AllByRecursion (λ l. length l.text ≤ 262144)) (sym c.deref.ensures.value) (short_lines c.args.lines.now.premises.items c.requires.short.1)

pub returns-in-Err-read_body-clause-refused : goal.returns-in-Err-read_body-clause-refused
returns-in-Err-read_body-clause-refused c =
    let r = reader c.args.by.now in
    let lines = rule_data c.args.lines.now in
    let middle = c.read_premises.new.vars in
    let last = c.read_conclusion.new.vars in
    let j = view.judgement c.in-Ok.conclusion in
    let qs = map view.premise c.in_ok-premises.premises.items in
    let read = subst (λ (ls : List RuleLine). ArePremises r (map numbered_rule_line ls) [] middle qs) c.deref.ensures.value c.in_ok-premises.ensures.read in
    or_memory_map (IsBadBody r lines.body (subject_sort r.forms j.form)) (IsBadRule r lines) c.in-Err-read_body.error
    (λ x k. inr (middle, qs, read, inr (last, j, c.in-Ok.ensures.read, k))) c.in-Err-read_body.ensures.refused
