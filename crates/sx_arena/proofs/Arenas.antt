-- An arena's terms: a new cell, and what is read at a number.
use Rattle.std.proofs.Common.{◌≡◌, ℕ, zero, suc, ◌+◌, ◌-◌, ◌^◌, ◌&&◌, ◌<◌, ◌≤◌, ◌⊎◌, inl, inr, min, max, drop, Bool, true, false, List, [], ◌∷◌, ◌++◌, map, length, get_or, Option, Some, None, refl, sym, ap, ◌∙◌, arith, subst}
use Rattle.std.specs.Prelude.{nat_eq, string_bytes}
use Rattle.std.specs.Cmp.Lexicographic.{pointwise}
use Rattle.std.proofs.lemmas.Bool.Decides.{Decides-eqb}
use Rattle.std.proofs.lemmas.Slice.Eq.{bytes_eq-Decides}
use Rattle.std.proofs.lemmas.List.{get_or_append_left, length_push, get_or_push, get_or_default, at_drop_more, at_drop_all}
use Rattle.std.proofs.lemmas.Bool.{cases_lt}
use Rattle.sx_term.specs.declared.lex_kind.LexKind.{LexKind}
use Rattle.sx_term.specs.declared.lex_kind.LexKind.TheVariants.{Id, Num, Str}
use Rattle.sx_term.specs.contracts.lex_kind.LexKindPartialEq.TheImpl.{eq-value as kind_eq}
use Rattle.sx_term.specs.Tree.{Tree, node, lexeme, hole, none, forest, depth_of, size_of}
use Rattle.sx_term.specs.Tree.{greatest_depth, total_size}
use Rattle.sx_arena.specs.declared.arena.Cell.{Cell}
use Rattle.sx_arena.specs.declared.shape.Shape.{Shape}
use Rattle.sx_arena.specs.declared.shape.Shape.TheVariants.{Node, Lex, Var}
use Rattle.sx_arena.specs.contracts.shape.ShapePartialEq.TheImpl.{eq-value as shape_eq}
use Rattle.sx_arena.specs.Grown.{Extends, grown_from, CellsFit}
use Rattle.sx_arena.specs.Arena.{tree_at, shape_tree, AreBelow, KidsBelow, cell_tree, IsCell}
use Rattle.sx_arena.specs.Arena.{IsNewCell, cell_trees, IsTermPlace, IsCellRead}
use Rattle.sx_arena.specs.Hashed.{is_node_of}
use Rattle.sx_arena.specs.Found.{cell_at, shape_at, IsFind}
use Rattle.sx_arena.proofs.Growing.{extends-length, extends-at, grown_from-one, grown-length, fits-one, grown-at}

and_both : (a b : Bool) → (a && b) ≡ true → (a ≡ true) × (b ≡ true)
and_both true b e = (refl, e)
and_both false b e = cc

both_and : (a b : Bool) → a ≡ true → b ≡ true → (a && b) ≡ true
both_and a b e f = ap (λ x. x && b) e ∙ f

kinds_same : (v w : LexKind) → kind_eq.it v w ≡ true → v ≡ w
kinds_same Id Id e = refl
kinds_same Num Num e = refl
kinds_same Str Str e = refl
kinds_same Id Num e = cc
kinds_same Id Str e = cc
kinds_same Num Id e = cc
kinds_same Num Str e = cc
kinds_same Str Id e = cc
kinds_same Str Num e = cc

kind_eq_same : (v : LexKind) → kind_eq.it v v ≡ true
kind_eq_same Id = refl
kind_eq_same Num = refl
kind_eq_same Str = refl

-- equal shapes stand for equal terms
shapes_eq : (ts : List Tree) (x y : Shape) → shape_eq.it x y ≡ true → shape_tree ts x ≡ shape_tree ts y
shapes_eq ts (Node l ks) (Node m js) e =
    let b = and_both (nat_eq l m) (pointwise nat_eq ks.items js.items) e in
    let f = (Decides-eqb l m).0 b.0 in
    let g = (bytes_eq-Decides ks.items js.items).0 b.1 in
    λ i. node (f i) (forest (map (tree_at ts) (g i)))
shapes_eq ts (Lex v x) (Lex w y) e =
    let b = and_both (kind_eq.it v w) (pointwise nat_eq (string_bytes x) (string_bytes y)) e in
    let f = kinds_same v w b.0 in
    let g = (bytes_eq-Decides (string_bytes x) (string_bytes y)).0 b.1 in
    λ i. lexeme (f i) (g i)
shapes_eq ts (Var v) (Var w) e = ap hole ((Decides-eqb v w).0 e)
shapes_eq ts (Node l ks) (Lex w y) e = cc
shapes_eq ts (Node l ks) (Var w) e = cc
shapes_eq ts (Lex v x) (Node m js) e = cc
shapes_eq ts (Lex v x) (Var w) e = cc
shapes_eq ts (Var v) (Node m js) e = cc
shapes_eq ts (Var v) (Lex w y) e = cc

-- no two of the terms are equal
abbrev pub Distinct : List Tree → Type 0
Distinct ts = (i j : ℕ) → i < length ts → j < length ts → tree_at ts i ≡ tree_at ts j → i ≡ j

kids_same : (ts : List Tree) → Distinct ts → (is js : List ℕ) → AreBelow (length ts) is → AreBelow (length ts) js → forest (map (tree_at ts) is) ≡ forest (map (tree_at ts) js) → is ≡ js
kids_same ts d [] [] a b e = refl
kids_same ts d [] (j ∷ js) a b e = cc
kids_same ts d (i ∷ is) [] a b e = cc
kids_same ts d (i ∷ is) (j ∷ js) a b e =
    let f : tree_at ts i ≡ tree_at ts j = cc in
    let g : forest (map (tree_at ts) is) ≡ forest (map (tree_at ts) js) = cc in
    let p = d i j a.0 b.0 f in
    let q = kids_same ts d is js a.1 b.1 g in
    λ k. p k ∷ q k

-- equal terms have equal shapes
shapes_same : (ts : List Tree) → Distinct ts → (x y : Shape) → KidsBelow (length ts) x → KidsBelow (length ts) y → shape_tree ts x ≡ shape_tree ts y → shape_eq.it x y ≡ true
shapes_same ts d (Node l ks) (Node m js) a b e =
    let f : l ≡ m = cc in
    let g : forest (map (tree_at ts) ks.items) ≡ forest (map (tree_at ts) js.items) = cc in
    both_and (nat_eq l m) (pointwise nat_eq ks.items js.items) ((Decides-eqb l m).1 f) ((bytes_eq-Decides ks.items js.items).1 (kids_same ts d ks.items js.items a b g))
shapes_same ts d (Lex v x) (Lex w y) a b e =
    let f : v ≡ w = cc in
    let g : string_bytes x ≡ string_bytes y = cc in
    both_and (kind_eq.it v w) (pointwise nat_eq (string_bytes x) (string_bytes y)) (ap (kind_eq.it v) (sym f) ∙ kind_eq_same v) ((bytes_eq-Decides (string_bytes x) (string_bytes y)).1 g)
shapes_same ts d (Var v) (Var w) a b e = (Decides-eqb v w).1 (let f : v ≡ w = cc in f)
shapes_same ts d (Node l ks) (Lex w y) a b e = cc
shapes_same ts d (Node l ks) (Var w) a b e = cc
shapes_same ts d (Lex v x) (Node m js) a b e = cc
shapes_same ts d (Lex v x) (Var w) a b e = cc
shapes_same ts d (Var v) (Node m js) a b e = cc
shapes_same ts d (Var v) (Lex w y) a b e = cc

-- the shapes of a node
node_is : (ts : List Tree) (label : ℕ) (is : List ℕ) (s : Shape) → is_node_of label is s ≡ true → shape_tree ts s ≡ node label (forest (map (tree_at ts) is))
node_is ts label is (Node m js) e =
    let b = and_both (nat_eq label m) (pointwise nat_eq is js.items) e in
    let f = (Decides-eqb label m).0 b.0 in
    let g = (bytes_eq-Decides is js.items).0 b.1 in
    sym (λ i. node (f i) (forest (map (tree_at ts) (g i))))
node_is ts label is (Lex v x) e = cc
node_is ts label is (Var v) e = cc

is_node : (ts : List Tree) → Distinct ts → (label : ℕ) (is : List ℕ) → AreBelow (length ts) is → (s : Shape) → KidsBelow (length ts) s → shape_tree ts s ≡ node label (forest (map (tree_at ts) is)) → is_node_of label is s ≡ true
is_node ts d label is a (Node m js) b e =
    let f : label ≡ m = cc in
    let g : forest (map (tree_at ts) is) ≡ forest (map (tree_at ts) js.items) = cc in
    both_and (nat_eq label m) (pointwise nat_eq is js.items) ((Decides-eqb label m).1 f) ((bytes_eq-Decides is js.items).1 (kids_same ts d is js.items a b g))
is_node ts d label is a (Lex v x) b e = cc
is_node ts d label is a (Var v) b e = cc

distinct_one : (ts : List Tree) (c : Cell) → Distinct ts → IsNewCell ts c → Distinct (ts ++ cell_tree ts c ∷ [])
distinct_one ts c d n i j a b e =
    let l = length_push ts (cell_tree ts c) in
    go (lemma i (omega arith)) (lemma j (omega arith))
  where
    lemma : (k : ℕ) → k ≤ length ts → ((k < length ts) × (tree_at (ts ++ cell_tree ts c ∷ []) k ≡ tree_at ts k)) ⊎ ((k ≡ length ts) × (tree_at (ts ++ cell_tree ts c ∷ []) k ≡ cell_tree ts c))
    lemma k h = step (cases k h)
      where
        cases : (k : ℕ) → k ≤ length ts → (k < length ts) ⊎ (k ≡ length ts)
        cases k h = tell (cases_lt k (length ts))
          where
            tell : (k < length ts) ⊎ (length ts ≤ k) → (k < length ts) ⊎ (k ≡ length ts)
            tell (inl x) = inl x
            tell (inr x) = inr (omega arith)

        step : (k < length ts) ⊎ (k ≡ length ts) → ((k < length ts) × (tree_at (ts ++ cell_tree ts c ∷ []) k ≡ tree_at ts k)) ⊎ ((k ≡ length ts) × (tree_at (ts ++ cell_tree ts c ∷ []) k ≡ cell_tree ts c))
        step (inl x) = inl (x, get_or_append_left ts (cell_tree ts c ∷ []) (node 0 none) k x)
        step (inr x) = inr (x, get_or_push ts (cell_tree ts c) (node 0 none) k (sym x))

    go : ((i < length ts) × (tree_at (ts ++ cell_tree ts c ∷ []) i ≡ tree_at ts i)) ⊎ ((i ≡ length ts) × (tree_at (ts ++ cell_tree ts c ∷ []) i ≡ cell_tree ts c)) →
        ((j < length ts) × (tree_at (ts ++ cell_tree ts c ∷ []) j ≡ tree_at ts j)) ⊎ ((j ≡ length ts) × (tree_at (ts ++ cell_tree ts c ∷ []) j ≡ cell_tree ts c)) → i ≡ j
    go (inl x) (inl y) = d i j x.0 y.0 (sym x.1 ∙ e ∙ y.1)
    go (inl x) (inr y) = absurd (n.new i x.0 (sym x.1 ∙ e ∙ y.1))
    go (inr x) (inl y) = absurd (n.new j y.0 (sym y.1 ∙ sym e ∙ x.1))
    go (inr x) (inr y) = x.0 ∙ sym y.0

distinct_from : (ts : List Tree) (cs : List Cell) → Distinct ts → CellsFit cell_tree IsNewCell ts cs → Distinct (grown_from cell_tree ts cs)
distinct_from ts [] d h = d
distinct_from ts (c ∷ cs) d h = distinct_from (ts ++ cell_tree ts c ∷ []) cs (distinct_one ts c d h.0) h.1

pub distinct : (cs : List Cell) → CellsFit cell_tree IsNewCell [] cs → Distinct (cell_trees cs)
distinct cs h = distinct_from [] cs (λ i j a b e. absurd (omega arith)) h

-- terms that come later change nothing
pub maps_same : (ts us : List Tree) → Extends ts us → (is : List ℕ) → AreBelow (length ts) is → map (tree_at us) is ≡ map (tree_at ts) is
maps_same ts us x [] a = refl
maps_same ts us x (i ∷ is) a = let e = extends-at ts us x i (node 0 none) a.0 in let f = maps_same ts us x is a.1 in λ k. e k ∷ f k

pub shape_stays : (ts us : List Tree) → Extends ts us → (s : Shape) → KidsBelow (length ts) s → shape_tree us s ≡ shape_tree ts s
shape_stays ts us x (Node l ks) a = ap (λ l'. node l (forest l')) (maps_same ts us x ks.items a)
shape_stays ts us x (Lex v y) a = refl
shape_stays ts us x (Var v) a = refl

pub below_more : (m n : ℕ) → m ≤ n → (is : List ℕ) → AreBelow m is → AreBelow n is
below_more m n h [] a = tt
below_more m n h (i ∷ is) a = ((let x = a.0 in omega arith), below_more m n h is a.1)

kids_more : (m n : ℕ) → m ≤ n → (s : Shape) → KidsBelow m s → KidsBelow n s
kids_more m n h (Node l ks) a = below_more m n h ks.items a
kids_more m n h (Lex v y) a = tt
kids_more m n h (Var v) a = tt

pub cell_later : (ts us : List Tree) → Extends ts us → (c : Cell) → IsCell ts c → IsCell us c
cell_later ts us x c h =
    let e = shape_stays ts us x c.shape h.kids in
    record {
      kids = kids_more (length ts) (length us) (extends-length ts us x) c.shape h.kids;
      depth = h.depth ∙ ap (λ t. min (depth_of t) (2 ^ 64 - 1)) (sym e);
      size = h.size ∙ ap (λ t. min (size_of t) (2 ^ 64 - 1)) (sym e);
    }

-- what stands at a number
pub cell_read : (cs : List Cell) → CellsFit cell_tree IsNewCell [] cs → (i : ℕ) (c : Cell) → i < length cs → c ≡ get_or cs i c → IsCellRead (cell_trees cs) i c
cell_read cs h i c l e =
    let r = grown-at cell_tree IsNewCell cs h i c (node 0 none) l e in
    let a : IsCell r.0 c = r.1.cell in
    record {
      cell = cell_later r.0 (cell_trees cs) r.3 c a;
      tree = r.4 ∙ sym (shape_stays r.0 (cell_trees cs) r.3 c.shape a.kids);
    }

-- the cells after one is put
pub record Put (old new : List Cell) (c : Cell) (i : ℕ) : Type 0 where
  pub arena : CellsFit cell_tree IsNewCell [] new
  pub extends : Extends (cell_trees old) (cell_trees new)
  pub within : i < length (cell_trees new)
  pub is : tree_at (cell_trees new) i ≡ cell_tree (cell_trees old) c

-- a new cell is put behind the others
pub add_new : (old new : List Cell) (c : Cell) (i : ℕ) → CellsFit cell_tree IsNewCell [] old → IsNewCell (cell_trees old) c → new ≡ old ++ c ∷ [] → i ≡ length old → Put old new c i
add_new old new c i h n e m =
    let f : cell_trees (old ++ c ∷ []) ≡ cell_trees old ++ cell_tree (cell_trees old) c ∷ [] = grown_from-one cell_tree [] old c in
    let g = grown-length cell_tree old in
    let l = length_push (cell_trees old) (cell_tree (cell_trees old) c) in
    let w = ap length f in
    let at : length (cell_trees old) ≡ i = omega arith in
    subst (λ (x : List Cell). Put old x c i) (sym e) (record {
      arena = fits-one cell_tree IsNewCell [] old c h n;
      extends = (cell_tree (cell_trees old) c ∷ [], f);
      within = omega arith;
      is = ap (λ ts. tree_at ts i) f ∙ get_or_push (cell_trees old) (cell_tree (cell_trees old) c) (node 0 none) i at;
    })

-- what is found of the cells is so of the terms
module _ (cs : List Cell) (h : CellsFit cell_tree IsNewCell [] cs) where
  read_at : (i : ℕ) → i < length cs → IsCellRead (cell_trees cs) i (cell_at cs i)
  read_at i l = cell_read cs h i (cell_at cs i) l (get_or_default cs i _ (cell_at cs i) l)

  place_from : (wanted : Shape → Bool) (t : Tree) →
      ((s : Shape) → KidsBelow (length (cell_trees cs)) s → wanted s ≡ true → shape_tree (cell_trees cs) s ≡ t) →
      ((s : Shape) → KidsBelow (length (cell_trees cs)) s → shape_tree (cell_trees cs) s ≡ t → wanted s ≡ true) →
      (r : Option ℕ) → IsFind wanted cs r → IsTermPlace (cell_trees cs) t r
  place_from wanted t f g None n = λ i l e.
      let m : i < length cs = (let q = grown-length cell_tree cs in omega arith) in
      let r = read_at i m in
      n i m (g (shape_at cs i) r.cell.kids (sym r.tree ∙ e))
  place_from wanted t f g (Some i) p =
      let r = read_at i p.0 in
      ((let q = grown-length cell_tree cs in let l = p.0 in omega arith), r.tree ∙ f (shape_at cs i) r.cell.kids p.1)

  pub place_of_cell : (c : Cell) → IsCell (cell_trees cs) c → (r : Option ℕ) → IsFind (shape_eq.it c.shape) cs r → IsTermPlace (cell_trees cs) (cell_tree (cell_trees cs) c) r
  place_of_cell c a = place_from (shape_eq.it c.shape) (cell_tree (cell_trees cs) c)
      (λ s b w. sym (shapes_eq (cell_trees cs) c.shape s w))
      (λ s b e. shapes_same (cell_trees cs) (distinct cs h) c.shape s a.kids b (sym e))

  pub place_of_node : (label : ℕ) (is : List ℕ) → AreBelow (length (cell_trees cs)) is → (r : Option ℕ) → IsFind (is_node_of label is) cs r → IsTermPlace (cell_trees cs) (node label (forest (map (tree_at (cell_trees cs)) is))) r
  place_of_node label is a = place_from (is_node_of label is) (node label (forest (map (tree_at (cell_trees cs)) is)))
      (λ s b w. node_is (cell_trees cs) label is s w)
      (λ s b e. is_node (cell_trees cs) (distinct cs h) label is a s b e)

pub below_at : (n : ℕ) (is : List ℕ) → AreBelow n is → (i k : ℕ) → i < length is → k ≡ get_or is i k → k < n
below_at n [] a i k h e = absurd (omega arith)
below_at n (j ∷ is) a zero k h e = let b = a.0 in omega arith
below_at n (j ∷ is) a (suc i) k h e = below_at n is a.1 i k (omega arith) e

pub depth_read : (ts : List Tree) (i : ℕ) (c : Cell) → IsCellRead ts i c → c.depth ≡ min (depth_of (tree_at ts i)) (2 ^ 64 - 1)
depth_read ts i c r = r.cell.depth ∙ ap (λ t. min (depth_of t) (2 ^ 64 - 1)) (sym r.tree)

pub size_read : (ts : List Tree) (i : ℕ) (c : Cell) → IsCellRead ts i c → c.size ≡ min (size_of (tree_at ts i)) (2 ^ 64 - 1)
size_read ts i c r = r.cell.size ∙ ap (λ t. min (size_of t) (2 ^ 64 - 1)) (sym r.tree)

pub below_zero : (n : ℕ) (is : List ℕ) → AreBelow n is → (i : ℕ) → i < length is → get_or is i 0 < n
below_zero n [] a i h = absurd (omega arith)
below_zero n (j ∷ is) a zero h = a.0
below_zero n (j ∷ is) a (suc i) h = below_zero n is a.1 i (omega arith)

pub depth_step : (ts : List Tree) (is : List ℕ) (i most d z : ℕ) → i < length is → d ≡ min (depth_of (tree_at ts (get_or is i 0))) (2 ^ 64 - 1) → most ≤ 2 ^ 64 - 1 →
    min (max most (greatest_depth (forest (map (tree_at ts) (drop i is))))) (2 ^ 64 - 1) ≡ z →
    min (max (max most d) (greatest_depth (forest (map (tree_at ts) (drop (i + 1) is))))) (2 ^ 64 - 1) ≡ z
depth_step ts is i most d z h e m w =
    let a = at_drop_more (λ xs. greatest_depth (forest (map (tree_at ts) xs))) is i 0 h in
    let b : greatest_depth (forest (map (tree_at ts) (drop i is))) ≡ max (depth_of (tree_at ts (get_or is i 0))) (greatest_depth (forest (map (tree_at ts) (drop (i + 1) is)))) = a in
    omega arith

pub depth_end : (ts : List Tree) (is : List ℕ) (i most z : ℕ) → length is ≤ i → most ≤ 2 ^ 64 - 1 →
    min (max most (greatest_depth (forest (map (tree_at ts) (drop i is))))) (2 ^ 64 - 1) ≡ z → most ≡ z
depth_end ts is i most z h m w =
    let a : greatest_depth (forest (map (tree_at ts) (drop i is))) ≡ 0 = at_drop_all (λ xs. greatest_depth (forest (map (tree_at ts) xs))) is i h in
    omega arith

pub size_step : (ts : List Tree) (is : List ℕ) (i total d z : ℕ) → i < length is → d ≡ min (size_of (tree_at ts (get_or is i 0))) (2 ^ 64 - 1) → total ≤ 2 ^ 64 - 1 →
    min (total + total_size (forest (map (tree_at ts) (drop i is)))) (2 ^ 64 - 1) ≡ z →
    min (min (total + d) (2 ^ 64 - 1) + total_size (forest (map (tree_at ts) (drop (i + 1) is)))) (2 ^ 64 - 1) ≡ z
size_step ts is i total d z h e m w =
    let a : total_size (forest (map (tree_at ts) (drop i is))) ≡ size_of (tree_at ts (get_or is i 0)) + total_size (forest (map (tree_at ts) (drop (i + 1) is))) = at_drop_more (λ xs. total_size (forest (map (tree_at ts) xs))) is i 0 h in
    omega arith

pub size_end : (ts : List Tree) (is : List ℕ) (i total z : ℕ) → length is ≤ i → total ≤ 2 ^ 64 - 1 →
    min (total + total_size (forest (map (tree_at ts) (drop i is)))) (2 ^ 64 - 1) ≡ z → total ≡ z
size_end ts is i total z h m w =
    let a : total_size (forest (map (tree_at ts) (drop i is))) ≡ 0 = at_drop_all (λ xs. total_size (forest (map (tree_at ts) xs))) is i h in
    omega arith
