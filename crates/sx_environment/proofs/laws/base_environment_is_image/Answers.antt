use Rattle.sx_environment.proofs.BaseEnvironments.{base_environment_is_image}
use Rattle.sx_environment.proofs.laws.base_environment_is_image.Goals as goal

pub returns : goal.returns
returns c = base_environment_is_image
