use Rattle.std.proofs.Common.{◌≡◌, ℕ, length}
use Rattle.sx_images.specs.Images.{noted_at}
use Rattle.sx_images.proofs.notes.note.Given as goal

abbrev pub invariant-loop : goal.invariant-loop
invariant-loop g l = record {
  len : length l.notes.items ≡ l.counter;
  same : (i : ℕ) → noted_at l.notes.items i ≡ noted_at l.initial.notes.items i;
}
