use Rattle.std.proofs.Common.{◌/◌, ◌^◌, ℕ, ap}
use Rattle.sx_slots.specs.Mixed.{folded}
use Rattle.sx_slots.proofs.mixing.folded.Goals as goal

pub returns : goal.returns
unfolding folded
returns c = ap (λ (x : ℕ). x / 2 ^ 32) c.mix.ensures
