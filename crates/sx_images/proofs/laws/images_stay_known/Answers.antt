use Rattle.sx_images.proofs.Known.{images_stay_known}
use Rattle.sx_images.proofs.laws.images_stay_known.Goals as goal

pub returns : goal.returns
returns c = images_stay_known
