-- Measures of the parts of a node.
use Rattle.std.proofs.Common.{◌≡◌, arith, ℕ, zero, suc, ◌+◌, ◌*◌, ◌<◌, ◌≤◌, get_or, map, List, [], ◌∷◌, length, Option, Some, None, refl, ap, subst}
use Rattle.std.specs.Prelude.{IfSome, slice_index_or}
use Rattle.sx_term.specs.Tree.{Tree, Trees, node, lexeme, hole, none, ◌▹◌}
use Rattle.sx_plain.specs.declared.measure.Measure.{Measure}
use Rattle.sx_plain.specs.Plain.{Body}
use Rattle.sx_plain.specs.Measures.{greatest, total, size_with, total_with, node_size}
use Rattle.sx_plain.specs.PartMeasures.{depths_of, sizes_of}
use Rattle.sx_plain.proofs.Measured.{sat}

-- the depth and the size of the part at a place
pub depth-part : (ms : List Measure) (i : ℕ) (m : Measure) → i < length ms → m ≡ get_or ms i m → m.depth ≡ get_or (depths_of ms) i m.depth
depth-part [] i m l g = absurd (omega arith)
depth-part (x ∷ ms) zero m l g = ap (λ (y : Measure). y.depth) g
depth-part (x ∷ ms) (suc i) m l g = depth-part ms i m (omega arith) g

pub size-part : (ms : List Measure) (i : ℕ) (m : Measure) → i < length ms → m ≡ get_or ms i m → m.size ≡ get_or (sizes_of ms) i m.size
size-part [] i m l g = absurd (omega arith)
size-part (x ∷ ms) zero m l g = ap (λ (y : Measure). y.size) g
size-part (x ∷ ms) (suc i) m l g = size-part ms i m (omega arith) g

pub part-within : (ms : List Measure) (i : ℕ) (m : Measure) → i < length ms → m ≡ get_or ms i m → m.depth ≤ greatest (depths_of ms)
part-within [] i m l g = absurd (omega arith)
part-within (x ∷ ms) zero m l g = let e = ap (λ (y : Measure). y.depth) g in omega arith
part-within (x ∷ ms) (suc i) m l g = let h = part-within ms i m (omega arith) g in omega arith

pub many-depths : (ms : List Measure) → length (depths_of ms) ≡ length ms
many-depths [] = refl
many-depths (m ∷ ms) = let h = many-depths ms in omega arith

pub many-sizes : (ms : List Measure) → length (sizes_of ms) ≡ length ms
many-sizes [] = refl
many-sizes (m ∷ ms) = let h = many-sizes ms in omega arith

-- the size with one more part, whose size is measured
pub part-once : (size times n rest : ℕ) → sat (sat (size + sat (times * n)) + rest) ≡ sat (size + (times * n + rest))
part-once size times n rest = omega arith

-- as many parts as the entry asks for
pub many-parts : (n : ℕ) (o : Option Body) (b : Body) → IfSome o (λ x. n ≡ x.arity) → o ≡ Some b → n ≡ b.arity
many-parts n o b h e = subst (λ (x : Option Body). IfSome x (λ y. n ≡ y.arity)) e h

-- sizes that stay at a greatest number before they are added, and after
sats-at : (ns : List ℕ) (v : ℕ) → sat (slice_index_or (map sat ns) v 1) ≡ sat (slice_index_or ns v 1)
sats-at [] v = refl
sats-at (n ∷ ns) zero = omega arith
sats-at (n ∷ ns) (suc v) = sats-at ns v

mutual
  size-sats : (ns : List ℕ) (t : Tree) → sat (size_with (map sat ns) t) ≡ sat (size_with ns t)
  size-sats ns (node label ts) = let h = total-sats ns ts in omega arith
  size-sats ns (lexeme kind text) = refl
  size-sats ns (hole v) = sats-at ns v

  total-sats : (ns : List ℕ) (ts : Trees) → sat (total_with (map sat ns) ts) ≡ sat (total_with ns ts)
  total-sats ns none = refl
  total-sats ns (t ▹ ts) =
      let a = size-sats ns t in
      let b = total-sats ns ts in omega arith

sum-sats : (ns : List ℕ) → sat (total (map sat ns)) ≡ sat (total ns)
sum-sats [] = refl
sum-sats (n ∷ ns) = let h = sum-sats ns in omega arith

pub node-sats : (o : Option Body) (ns : List ℕ) → sat (node_size o (map sat ns)) ≡ sat (node_size o ns)
node-sats None ns = let h = sum-sats ns in omega arith
node-sats (Some b) ns = size-sats ns b.flat
