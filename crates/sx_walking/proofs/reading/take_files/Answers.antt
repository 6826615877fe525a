use Rattle.sx_walking.specs.FileTable.{table_files}
use Rattle.sx_walking.proofs.Orders.{takes_start, takes_more}
use Rattle.sx_walking.proofs.reading.take_files.Goals as goal

pub loop-i-init : goal.loop-i-init
loop-i-init g c =
    takes_start (table_files c.args.files.now) c.args.order.now c.new-taken.result.items
    c.new-taken.ensures.items c.requires.once c.requires.held

pub loop-i-preserved : goal.loop-i-preserved
loop-i-preserved g c =
    takes_more (table_files c.args.files.now) (table_files c.loop-i.files) (table_files c.take.new.self)
    c.args.order.now c.loop-i.i c.index-order-i.result c.loop-i.taken.items
    c.push.new.self.items c.in-Some.file c.loop-i-test.true c.index-order-i.is
    c.loop-i.invariant c.in-Some.ensures.value c.in-Some.ensures.others
    c.in_ok-push-in-Some.ensures.items
