use Rattle.std.proofs.Common.{map, ap}
use Rattle.sx_rules.specs.Instances.{bound_by}
use Rattle.sx_rules.specs.Views.{judgement, modes_of as modes_by}
use Rattle.sx_arena.specs.Arena.{tree_at}
use Rattle.sx_arena.specs.Views.{set_modes}
use Rattle.sx_expand.specs.Followed.{bindings_of}
use Rattle.sx_expand.specs.Readings.{signature_by}
use Rattle.sx_expand.specs.Readers.{terms_in}
use Rattle.sx_expand.proofs.Bindings.{kid-gives, kid-followed, on-weaker}
use Rattle.sx_expand.proofs.node_binding.follow_kid.Goals as goal

pub take_outputs-requires-clause-matches : goal.take_outputs-requires-clause-matches
take_outputs-requires-clause-matches c =
    let l = c.args.reading.now in
    let k = c.requires.kid in
    kid-gives (signature_by l).modes (set_modes c.args.reading.now.rules.now) (ap modes_by c.requires.reading.rules.forms_are) k.0.rule (bound_by k.0.binds) (judgement c.args.kid.now.premise.now) k.0.rest (bindings_of (terms_in c.args.reader.now) c.args.work.now) k.1.followed
    (map (tree_at (terms_in c.args.reader.now)) c.args.outputs.now) k.2

pub returns-clause-followed : goal.returns-clause-followed
returns-clause-followed c =
    let l = c.args.reading.now in
    on-weaker c.take_outputs.result _ _ (λ h d is outs.
    kid-followed (signature_by l).modes (set_modes c.args.reading.now.rules.now) (ap modes_by c.requires.reading.rules.forms_are) d.rule (bound_by d.binds) (judgement c.args.kid.now.premise.now) d.rest (bindings_of (terms_in c.args.reader.now) c.args.work.now) is.followed
    (map (tree_at (terms_in c.args.reader.now)) c.args.outputs.now) outs (bindings_of (terms_in c.args.reader.now) c.take_outputs.new.work) h.1)
    c.take_outputs.ensures
