use Rattle.sx_forest.proofs.Fits.{readings_within, readings_marked, readings_few}
use Rattle.sx_forest.proofs.laws.readings_fit.Goals as goal

pub returns-clause-within : goal.returns-clause-within
returns-clause-within c = readings_within

pub returns-clause-marked : goal.returns-clause-marked
returns-clause-marked c = readings_marked

pub returns-clause-few : goal.returns-clause-few
returns-clause-few c = readings_few
