use Rattle.std.proofs.Common.{◌≡◌, drop}
use Rattle.sx_arena.specs.Hashed.{mixed}
use Rattle.sx_arena.proofs.shape.text_hash.Given as goal

abbrev pub invariant-loop-byte : goal.invariant-loop-byte
invariant-loop-byte l = mixed l.sum (drop l.byte-index l.text) ≡ mixed 0 l.text
