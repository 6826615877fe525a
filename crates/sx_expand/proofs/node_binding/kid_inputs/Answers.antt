use Rattle.std.proofs.Common.{ap, ◌∙◌}
use Rattle.std.proofs.lemmas.Result.{IfOk-weaker}
use Rattle.sx_rules.specs.Instances.{bound_by}
use Rattle.sx_rules.specs.Views.{judgement, modes_of as modes_by}
use Rattle.sx_arena.specs.Views.{set_modes}
use Rattle.sx_expand.specs.Followed.{bindings_of}
use Rattle.sx_expand.specs.Readings.{set_by, signature_by}
use Rattle.sx_expand.specs.Readers.{terms_in}
use Rattle.sx_expand.proofs.Bindings.{kid-asks, made-goes}
use Rattle.sx_expand.proofs.node_binding.kid_inputs.Goals as goal

pub returns-clause-on : goal.returns-clause-on
returns-clause-on c = made-goes (set_by c.args.reading.now).table c.args.reader.now c.places_under.new.arena c.places_under.result _ c.requires.reader c.places_under.ensures

pub returns-clause-inputs : goal.returns-clause-inputs
returns-clause-inputs c =
    let l = c.args.reading.now in
    let j = judgement c.args.kid.now.premise.now in
    let env = bindings_of (terms_in c.args.reader.now) c.args.work.now in
    let modes_are = ap modes_by c.requires.reading.rules.forms_are in
    IfOk-weaker c.places_under.result _ _ (λ x h d is.
    h.are ∙ kid-asks (signature_by l).modes (set_modes c.args.reading.now.rules.now) modes_are d.rule (bound_by d.binds) j d.rest env is.followed)
    c.places_under.ensures
