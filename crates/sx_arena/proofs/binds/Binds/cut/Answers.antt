use Rattle.sx_arena.proofs.BindChains.{binds_cut}
use Rattle.sx_arena.proofs.binds.Binds.cut.Goals as goal

pub returns-clause-binds : goal.returns-clause-binds
returns-clause-binds c = binds_cut c.args.self.now (record { cells = c.truncate.new.self }) c.args.length c.truncate.ensures.items
