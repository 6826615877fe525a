use Rattle.std.proofs.Common.{Bool, List, length, map, sym, ap, ◌∙◌, subst}
use Rattle.sx_term.specs.declared.term.Term.{Term}
use Rattle.sx_term.specs.Term.{tree}
use Rattle.sx_rules.specs.declared.rule_set.RuleSet.{RuleSet}
use Rattle.sx_rules.specs.Deep.{AreShallow}
use Rattle.sx_rules.specs.Discipline.{subjects_of}
use Rattle.sx_rules.specs.Modes.{outputs, outputs_of}
use Rattle.sx_rules.specs.Rules.{Judgement}
use Rattle.sx_rules.specs.Sets.{forms_in}
use Rattle.sx_rules.specs.Views.{judgement, subjects_in}
use Rattle.sx_arena.specs.Arena.{trees}
use Rattle.sx_rules.specs.SubjectTerms.{output_mask}
use Rattle.sx_arena.specs.Views.{set_modes}
use Rattle.sx_arena.proofs.Arenas.{maps_same, below_more}
use Rattle.sx_arena.proofs.Growing.{extends-length}
use Rattle.sx_expand.specs.KidSubjects.{IsSubjectAt}
use Rattle.sx_expand.specs.Readings.{set_by, signature_by, hyps_by}
use Rattle.sx_expand.proofs.Givens.{given-small, given-shallow, one-given}
use Rattle.sx_expand.proofs.NodeLowering.{goes-on}
use Rattle.sx_expand.proofs.NumbersPut.{arena-grows}
use Rattle.sx_expand.proofs.given_reading.read_given.Goals as goal

pub enter_places-requires-clause-shallow : goal.enter_places-requires-clause-shallow
enter_places-requires-clause-shallow c =
    let l = c.args.reading.now in
    subst (λ (ts : List Term). AreShallow (map tree ts)) (sym c.deref.ensures.value)
    (given-shallow l.listing.set.now (hyps_by l) c.requires.reading.given c.args.number
    (judgement c.given_at-it.result.now) c.given_at-it.ensures)

pub given_subject-requires-clause-small : goal.given_subject-requires-clause-small
given_subject-requires-clause-small c =
    let l = c.args.reading.now in
    given-small l.listing.set.now (hyps_by l) c.requires.reading.given c.args.number
    (judgement c.given_at-it.result.now) c.given_at-it.ensures

pub returns-in-Ok-clause-on : goal.returns-in-Ok-clause-on
returns-in-Ok-clause-on c =
    let table = (set_by c.args.reading.now).table in
    let old = c.args.reader.now in
    let held = c.in_ok-outputs.ensures in
    let arena = c.in-Ok.ensures.arena in
    goes-on table old (record { arena = c.enter_places.new.arena; images = old.images })
    c.given_subject.new.arena
    (arena-grows table old c.enter_places.new.arena c.requires.reader held.arena held.extends)
    arena.0 arena.1

pub returns-in-Ok-clause-below : goal.returns-in-Ok-clause-below
returns-in-Ok-clause-below c =
    let mid = trees c.enter_places.new.arena in
    let new = trees c.given_subject.new.arena in
    below_more (length mid) (length new) (extends-length mid new c.in-Ok.ensures.arena.1)
    c.in_ok-outputs.outputs.items c.in_ok-outputs.ensures.within

pub returns-in-Ok-clause-outputs : goal.returns-in-Ok-clause-outputs
returns-in-Ok-clause-outputs c = λ j at.
    let it = judgement c.given_at-it.result.now in
    let held = c.in_ok-outputs.ensures in
    let modes = (signature_by c.args.reading.now).modes in
    let mask = c.roles.ensures ∙ ap (λ (s : RuleSet). set_modes s it.form) c.base_rules-base.ensures in
    maps_same (trees c.enter_places.new.arena) (trees c.given_subject.new.arena)
    c.in-Ok.ensures.arena.1 c.in_ok-outputs.outputs.items held.within
    ∙ held.are
    ∙ ap (λ (ts : List Term). outputs (output_mask c.roles.result.now) (map tree ts)) c.deref.ensures.value
    ∙ ap (λ (m : List Bool). outputs m it.places) mask
    ∙ ap (outputs_of modes) (one-given (hyps_by c.args.reading.now) c.args.number it j c.given_at-it.ensures at)

pub returns-in-Ok-clause-subject : goal.returns-in-Ok-clause-subject
returns-in-Ok-clause-subject c = λ j at needs.
    let it = judgement c.given_at-it.result.now in
    let new = trees c.given_subject.new.arena in
    let subjects = (signature_by c.args.reading.now).subjects in
    let here = subst (λ (s : RuleSet). IsSubjectAt new (subjects_of (subjects_in (forms_in s)) it) c.in-Ok.subject)
    c.base_rules-base.ensures (c.in-Ok.ensures.subject needs) in
    subst (λ (k : Judgement). IsSubjectAt new (subjects_of subjects k) c.in-Ok.subject)
    (one-given (hyps_by c.args.reading.now) c.args.number it j c.given_at-it.ensures at) here
