-- Cells that are found by the hashes of their shapes.
use Rattle.std.proofs.Common.{◌≡◌, ℕ, ◌<◌, Bool, true, false, List, length, get_or, Option, Some, None, sym, ap, ◌∙◌, arith}
use Rattle.std.specs.Prelude.{nat_eq, string_bytes}
use Rattle.std.specs.Cmp.{first_so, second_so}
use Rattle.std.specs.Cmp.Lexicographic.{pointwise}
use Rattle.std.proofs.lemmas.Bool.Decides.{Decides-eqb}
use Rattle.std.proofs.lemmas.Slice.Eq.{bytes_eq-Decides}
use Rattle.std.proofs.lemmas.List.{get_or_default, get_or-map, length-map}
use Rattle.sx_slots.specs.Mixed.{folded}
use Rattle.sx_slots.specs.Slots.{IsLastWith}
use Rattle.sx_slots.proofs.Seeking.{IsSought, sought_first, sought_next}
use Rattle.sx_term.specs.contracts.lex_kind.LexKindPartialEq.TheImpl.{eq-value as kind_eq}
use Rattle.sx_arena.specs.contracts.shape.ShapePartialEq.TheImpl.{eq-value as shape_eq}
use Rattle.sx_arena.specs.declared.arena.Cell.{Cell}
use Rattle.sx_arena.specs.declared.shape.Shape.{Shape}
use Rattle.sx_arena.specs.declared.shape.Shape.TheVariants.{Node, Lex, Var}
use Rattle.sx_arena.specs.Hashed.{mixed, hash_of, is_node_of}
use Rattle.sx_arena.specs.Found.{hashes_of, shape_at, IsFind}

-- a cell has a shape that is wanted
abbrev pub Wants : List Cell → (Shape → Bool) → ℕ → Type 0
Wants cs wanted i = wanted (shape_at cs i) ≡ true

-- the hash of a cell
hash_at : (cs : List Cell) (i : ℕ) → i < length cs → get_or (hashes_of cs) i 0 ≡ folded (hash_of (shape_at cs i))
hash_at cs i l = get_or-map (λ (c : Cell). folded (hash_of c.shape)) cs i _ 0 l

many_hashes : (cs : List Cell) → length (hashes_of cs) ≡ length cs
many_hashes cs = length-map cs (λ c. folded (hash_of c.shape))

module _ (cs : List Cell) (wanted : Shape → Bool) (hash : ℕ) (alike : (s : Shape) → wanted s ≡ true → folded (hash_of s) ≡ hash) (slots : List ℕ) (same : slots ≡ hashes_of cs) where
  many : length slots ≡ length cs
  many = ap length same ∙ many_hashes cs

  alike_at : (i : ℕ) → i < length slots → Wants cs wanted i → get_or slots i 0 ≡ hash
  alike_at i l w = ap (λ hs. get_or hs i 0) same ∙ hash_at cs i (let m = many in omega arith) ∙ alike (shape_at cs i) w

  -- from the last cell with the hash on
  pub cell_first : (answer : Option ℕ) → IsLastWith slots (length slots) hash answer → IsSought slots (Wants cs wanted) hash answer
  cell_first answer h = sought_first slots (Wants cs wanted) hash alike_at answer h

  -- the cell before with the hash
  pub cell_next : (x : ℕ) (c : Cell) (answer : Option ℕ) → IsSought slots (Wants cs wanted) hash (Some x) → c ≡ get_or cs x c → (wanted c.shape ≡ true → ⊥) →
      IsLastWith slots x (get_or slots x 0) answer → IsSought slots (Wants cs wanted) hash answer
  cell_next x c answer g e d h =
      let f : get_or cs x _ ≡ c = get_or_default cs x _ c (let m = many in let a = g.0 in omega arith) ∙ sym e in
      sought_next slots (Wants cs wanted) hash alike_at x answer g (λ w. d (ap (λ (k : Cell). wanted k.shape) (sym f) ∙ w)) h

  -- a cell that is sought is there
  pub cell_there : (x : ℕ) → IsSought slots (Wants cs wanted) hash (Some x) → x < length cs
  cell_there x g = (let m = many in let a = g.0 in omega arith)

  -- the cell is what is wanted
  pub cell_found : (x : ℕ) (c : Cell) → IsSought slots (Wants cs wanted) hash (Some x) → c ≡ get_or cs x c → wanted c.shape ≡ true → IsFind wanted cs (Some x)
  cell_found x c g e w =
      let f : get_or cs x _ ≡ c = get_or_default cs x _ c (cell_there x g) ∙ sym e in
      (cell_there x g, ap (λ (k : Cell). wanted k.shape) f ∙ w)

  -- no cell is what is wanted
  pub cell_none : IsSought slots (Wants cs wanted) hash None → IsFind wanted cs None
  cell_none g = λ i l w. g i (let m = many in omega arith) w

-- equal shapes have one hash
pub hash_alike : (x y : Shape) → shape_eq.it x y ≡ true → hash_of x ≡ hash_of y
hash_alike (Node label kids) (Node other others) same =
    let e = pointwise nat_eq kids.items others.items in
    let f = (Decides-eqb label other).0 (first_so (nat_eq label other) e same) in
    let g = (bytes_eq-Decides kids.items others.items).0 (second_so (nat_eq label other) e same) in
    λ i. mixed (f i) (g i)
hash_alike (Lex kind text) (Lex other_kind other) same =
    ap (mixed 0) ((bytes_eq-Decides (string_bytes text) (string_bytes other)).0
    (second_so (kind_eq.it kind other_kind)
    (pointwise nat_eq (string_bytes text) (string_bytes other)) same))
hash_alike (Var variable) (Var other) same = (Decides-eqb variable other).0 same
hash_alike (Node label kids) (Lex other_kind other) same = cc
hash_alike (Node label kids) (Var other) same = cc
hash_alike (Lex kind text) (Node other others) same = cc
hash_alike (Lex kind text) (Var other) same = cc
hash_alike (Var variable) (Node other others) same = cc
hash_alike (Var variable) (Lex other_kind other) same = cc

-- a shape that is a node has the node's hash
pub node_alike : (label : ℕ) (kids : List ℕ) (s : Shape) → is_node_of label kids s ≡ true → hash_of s ≡ mixed label kids
node_alike label kids (Node other others) same =
    let e = pointwise nat_eq kids others.items in
    let f = (Decides-eqb label other).0 (first_so (nat_eq label other) e same) in
    let g = (bytes_eq-Decides kids others.items).0 (second_so (nat_eq label other) e same) in
    sym (λ i. mixed (f i) (g i))
node_alike label kids (Lex kind text) same = cc
node_alike label kids (Var variable) same = cc

pub not_both : (b : Bool) → b ≡ false → b ≡ true → ⊥
not_both true e f = cc
not_both false e f = cc
