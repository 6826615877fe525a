use Rattle.std.proofs.Common.{length, ◌∙◌}
use Rattle.sx_arena.proofs.Arenas.{maps_same, below_more}
use Rattle.sx_arena.proofs.Growing.{extends-length}
use Rattle.sx_expand.specs.Readers.{terms_in}
use Rattle.sx_expand.proofs.Bindings.{work-stays}
use Rattle.sx_expand.proofs.KidSteps.{node-read-stays}
use Rattle.sx_expand.proofs.finishing.finish_node.Goals as goal

pub node_subject-requires-clause-work : goal.node_subject-requires-clause-work
node_subject-requires-clause-work c = work-stays (terms_in c.args.reader.now) (terms_in c.node_outputs.new.reader) c.args.work.now c.in_ok-outputs.ensures.on.extends c.requires.work

pub node_subject-requires-clause-node : goal.node_subject-requires-clause-node
node_subject-requires-clause-node c =
    let n = c.requires.node in
    (n.0, n.1, node-read-stays c.args.reading.now c.args.node.now (terms_in c.args.reader.now) (terms_in c.node_outputs.new.reader) c.args.work.now c.args.subjects.now n.0 c.in_ok-outputs.ensures.on.extends c.requires.work n.2)

pub returns-in-Ok-clause-read : goal.returns-in-Ok-clause-read
returns-in-Ok-clause-read c = λ d is read.
    let old = terms_in c.args.reader.now in
    let mid = terms_in c.node_outputs.new.reader in
    let new = terms_in c.node_subject.new.reader in
    let x = c.in-Ok.ensures.on.extends in
    let below = c.in_ok-outputs.ensures.below in (
      below_more (length mid) (length new) (extends-length mid new x) c.in_ok-outputs.outputs.items below,
      maps_same mid new x c.in_ok-outputs.outputs.items below ∙ c.in_ok-outputs.ensures.outputs d is read.followed,
      c.in-Ok.ensures.read d is (node-read-stays c.args.reading.now c.args.node.now old mid c.args.work.now c.args.subjects.now d c.in_ok-outputs.ensures.on.extends c.requires.work read),
    )

pub returns-in-Err-clause-read : goal.returns-in-Err-clause-read
returns-in-Err-clause-read c = λ d is read.
    c.in-Err.ensures.read d is
    (node-read-stays c.args.reading.now c.args.node.now (terms_in c.args.reader.now) (terms_in c.node_outputs.new.reader) c.args.work.now c.args.subjects.now d c.in_ok-outputs.ensures.on.extends c.requires.work read)
