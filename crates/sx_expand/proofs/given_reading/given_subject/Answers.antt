use Rattle.std.proofs.Common.{◌∷◌, sym, ap, ◌∙◌, subst}
use Rattle.sx_term.specs.Term.{tree}
use Rattle.sx_term.specs.Tree.{Tree}
use Rattle.sx_rules.specs.Sets.{forms_in}
use Rattle.sx_rules.specs.Views.{judgement, subjects_in}
use Rattle.sx_rewrite.specs.Puts.{IsSmallTerm}
use Rattle.sx_expand.proofs.NodeSubject.{subject-small}
use Rattle.sx_expand.proofs.given_reading.given_subject.Goals as goal

pub enter-requires-clause-depth : goal.enter-requires-clause-depth
enter-requires-clause-depth c =
    let f = c.in-Some.ensures in
    (subject-small (subjects_in (forms_in c.args.base.now)) (judgement c.args.it.now)
    (tree c.in-Some.term.now) f.0 c.requires.small f.1).0

pub returns-in_ok-enter-in-Some-clause-subject : goal.returns-in_ok-enter-in-Some-clause-subject
returns-in_ok-enter-in-Some-clause-subject c = λ needs.
    let f = c.in-Some.ensures in
    let small = subject-small (subjects_in (forms_in c.args.base.now)) (judgement c.args.it.now)
    (tree c.in-Some.term.now) f.0 c.requires.small f.1 in
    let h = c.in_ok-enter-in-Some.ensures in
    (h.within, subst IsSmallTerm (sym h.is) small, (f.0, f.1 ∙ ap (λ (t : Tree). t ∷ f.0) (sym h.is)))
