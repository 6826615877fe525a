use Rattle.std.proofs.Common.{rules}
use Rattle.sx_interface.specs.Interfaces.{other_version}
use Rattle.sx_interface.proofs.interface_reading.other_version.Goals as goal

pub returns-else-number-eq2 : goal.returns-else-number-eq2
unfolding other_version
returns-else-number-eq2 c = search rules
