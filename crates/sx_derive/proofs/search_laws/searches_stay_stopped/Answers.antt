use Rattle.sx_derive.proofs.Stopped.{searches_stay_stopped}
use Rattle.sx_derive.proofs.search_laws.searches_stay_stopped.Goals as goal

pub returns : goal.returns
returns c = searches_stay_stopped
