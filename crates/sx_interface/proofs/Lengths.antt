-- How many elements there are.
use Rattle.std.proofs.Common.{Vec, vec_len, ◌≡◌, ℕ, length, arith}
use Rattle.std.specs.declared.alloc.Global.{Global}

pub size_of : {A : Type 0} (v : Vec A Global) (n : ℕ) → n ≡ vec_len v → n ≡ length v.items
size_of v n e = let ok = v.ok in omega arith
