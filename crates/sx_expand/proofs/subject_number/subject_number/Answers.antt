use Rattle.std.proofs.Common.{◌≡◌, List, [], ◌∷◌, ◌∙◌, subst}
use Rattle.sx_term.specs.Term.{tree}
use Rattle.sx_term.specs.Tree.{Tree}
use Rattle.sx_rules.specs.declared.rule_set.RuleSet.{RuleSet}
use Rattle.sx_rules.specs.Discipline.{subjects_of}
use Rattle.sx_rules.specs.Sets.{forms_in}
use Rattle.sx_rules.specs.Views.{judgement, rule as rule_of, subjects_in}
use Rattle.sx_rewrite.proofs.SubjectTerms.{subject-shallow}
use Rattle.sx_expand.specs.Readings.{set_by, signature_by}
use Rattle.sx_expand.proofs.OwnSubject.{own-none, own-body, own-bare}
use Rattle.sx_expand.proofs.subject_number.subject_number.Goals as goal

pub filled-requires-in-None-flat_body-clause-depth : goal.filled-requires-in-None-flat_body-clause-depth
filled-requires-in-None-flat_body-clause-depth c =
    let k = judgement c.args.rule.now.conclusion in
    subject-shallow (subjects_in (forms_in c.base_rules.result.now) k.form) k.places (tree c.in-Some.own.now) c.requires.shallow c.in-Some.ensures

pub returns-in_ok-filled-in-Some-flat_body-clause-subject : goal.returns-in_ok-filled-in-Some-flat_body-clause-subject
returns-in_ok-filled-in-Some-flat_body-clause-subject c = λ x at e.
    let rule = rule_of c.args.rule.now in
    let own = subst (λ (b : RuleSet). (rest : List Tree) × (subjects_of (subjects_in (forms_in b)) rule.conclusion ≡ tree c.in-Some.own.now ∷ rest)) c.base_rules.ensures c.in-Some.ensures in
    let b = tree c.in-Some-flat_body.body.now in
    let is = own-body (set_by c.args.reading.now) (signature_by c.args.reading.now).subjects c.args.number x rule b at e (c.requires.reading.rules.bodies_are c.args.number ∙ c.in-Some-flat_body.ensures.value) (tree c.in-Some.own.now) own.0 own.1 in
    (b, is.0, is.1, c.in_ok-filled-in-Some-flat_body.ensures)

pub returns-in_ok-filled-in-None-flat_body-clause-subject : goal.returns-in_ok-filled-in-None-flat_body-clause-subject
returns-in_ok-filled-in-None-flat_body-clause-subject c = λ x at e.
    let rule = rule_of c.args.rule.now in
    let t = tree c.in-Some.own.now in
    let own = subst (λ (b : RuleSet). (rest : List Tree) × (subjects_of (subjects_in (forms_in b)) rule.conclusion ≡ t ∷ rest)) c.base_rules.ensures c.in-Some.ensures in
    let is = own-bare (set_by c.args.reading.now) (signature_by c.args.reading.now).subjects c.args.number x rule at e (c.requires.reading.rules.bodies_are c.args.number ∙ c.in-None-flat_body.ensures.value) t own.0 own.1 in
    (t, is.0, is.1, c.in_ok-filled-in-None-flat_body.ensures)

pub returns-in-None-clause-subject : goal.returns-in-None-clause-subject
returns-in-None-clause-subject c = λ x at e.
    let rule = rule_of c.args.rule.now in
    own-none (set_by c.args.reading.now) (signature_by c.args.reading.now).subjects c.args.number x rule e
    (subst (λ (b : RuleSet). subjects_of (subjects_in (forms_in b)) rule.conclusion ≡ []) c.base_rules.ensures c.in-None.ensures)
