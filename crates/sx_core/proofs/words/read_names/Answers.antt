use Rattle.std.proofs.Common.{◌≡◌, rules, []}
use Rattle.sx_core.proofs.Wording.{names_more, names_refused}
use Rattle.sx_core.proofs.words.read_names.Goals as goal

pub loop-left-preserved : goal.loop-left-preserved
loop-left-preserved c = names_more c.args.text.now c.loop-left.names.items c.push.new.self.items c.loop-left.left.now c.in-Ok.name c.in-Ok.rest.now c.in_ok-push-in-Ok.ensures.items c.loop-left.invariant c.in-Ok.ensures

pub returns-in-Err : goal.returns-in-Err
returns-in-Err c =
    let left : c.loop-left.left.now ≡ [] → ⊥ = search rules in
    names_refused c.args.text.now c.loop-left.names.items c.loop-left.left.now c.in-Err.e c.loop-left.invariant left c.in-Err.ensures
