-- Matching, case by case.
use Rattle.std.proofs.Common.{◌≡◌, ◌↔◌, ℕ, ◌+◌, ◌<◌, ◌≤◌, drop, length, get_or, List, [], ◌∷◌, ◌++◌, cond, eqb, Option, Some, None, IsSome, is_some, unwrap_or, Vec, ◌⊎◌, inl, inr, ⊎_elim, zero, suc, refl, ap, ◌∙◌, sym, subst, append_assoc, arith}
use Rattle.std.proofs.lemmas.Bool.Decides.{nat_tests}
use Rattle.std.specs.declared.alloc.Global.{Global}
use Rattle.sx_term.specs.declared.lex_kind.LexKind.{LexKind}
use Rattle.sx_term.specs.declared.term.Term.{Term, Node, Node', Lex, Var}
use Rattle.sx_term.specs.declared.term.Term.TheBlock.{shown-the_row-Term-0, backs-Term}
use Rattle.sx_term.specs.Tree.{Tree, Trees, node, lexeme, hole, none, ◌▹◌}
use Rattle.sx_term.specs.Term.{tree}
use Rattle.sx_term.specs.Bindings.{lookup, instance, instances, Occurs, OccursIn, ExtendsBindings}
use Rattle.sx_term.specs.Bindings.{MakesEqual, MakesAllEqual}
use Rattle.sx_term.specs.Matching.{AddsOnlyOf, NoneMakesEqual, IsLeast, Appends}
use Rattle.sx_term.proofs.Kids.{trees, tree-at_node, trees-drop, trees-drop_all}
use Rattle.sx_term.proofs.Lookups.{lookup-here, lookup-append, lookup-append_some, lookup-push}

-- a term that is no node, no lexeme
pub node_not : (t : Term) → ((label : ℕ) (kids : Vec Term Global) → t ≡ Node label kids → ⊥) → (l : ℕ) (ts : Trees) → tree t ≡ node l ts → ⊥
node_not (Node' l s k) h m ts e = h l (shown-the_row-Term-0 s k) (sym (backs-Term (Node' l s k)))
node_not (Lex k t) h m ts e = cc
node_not (Var v) h m ts e = cc

pub lexeme_not : (t : Term) → ((kind : LexKind) (text : List ℕ) → t ≡ Lex kind text → ⊥) → (k : LexKind) (x : List ℕ) → tree t ≡ lexeme k x → ⊥
lexeme_not (Node' l s k) h m x e = cc
lexeme_not (Lex k t) h m x e = h k t refl
lexeme_not (Var v) h m x e = cc

-- other shapes clash
pub node_clash : (b : List (ℕ × Tree)) (p u : Tree) (l : ℕ) (ts : Trees) → p ≡ node l ts → ((m : ℕ) (us : Trees) → u ≡ node m us → ⊥) → NoneMakesEqual b p u
node_clash b p u l ts e n c m = n l (instances c ts) (sym m.equal ∙ ap (instance c) e)

pub lexeme_clash : (b : List (ℕ × Tree)) (p u : Tree) (k : LexKind) (x : List ℕ) → p ≡ lexeme k x → ((j : LexKind) (y : List ℕ) → u ≡ lexeme j y → ⊥) → NoneMakesEqual b p u
lexeme_clash b p u k x e n c m = n k x (sym m.equal ∙ ap (instance c) e)

pub labels_clash : (b : List (ℕ × Tree)) (p u : Tree) (l m : ℕ) (ts us : Trees) → p ≡ node l ts → u ≡ node m us → (l ≡ m → ⊥) → NoneMakesEqual b p u
labels_clash b p u l m ts us e f n c h =
    let g : node l (instances c ts) ≡ node m us = sym (ap (instance c) e) ∙ h.equal ∙ f in
    n cc

pub instances-length : (b : List (ℕ × Tree)) (ps us : List Term) → instances b (trees ps) ≡ trees us → length ps ≡ length us
instances-length b [] [] e = refl
instances-length b [] (u ∷ us) e = cc
instances-length b (p ∷ ps) [] e = cc
instances-length b (p ∷ ps) (u ∷ us) e = let g : instances b (trees ps) ≡ trees us = cc in omega (arith, instances-length b ps us g)

pub lengths_clash : (b : List (ℕ × Tree)) (p u : Tree) (l m : ℕ) (ps us : List Term) → p ≡ node l (trees ps) → u ≡ node m (trees us) → (length ps ≡ length us → ⊥) → NoneMakesEqual b p u
lengths_clash b p u l m ps us e f n c h =
    let g : node l (instances c (trees ps)) ≡ node m (trees us) = sym (ap (instance c) e) ∙ h.equal ∙ f in
    n (instances-length c ps us cc)

-- lexemes
pub lexeme_least : (b : List (ℕ × Tree)) (p u : Tree) (k j : LexKind) (x y : List ℕ) → p ≡ lexeme k x → u ≡ lexeme j y → k ≡ j → x ≡ y → IsLeast b b p u
lexeme_least b p u k j x y e f g h c = (
  λ m. m.extends,
  λ m. record {
    extends = m;
    binds = λ v o. let P : Tree → Type 0 = λ q. Occurs v q in absurd (subst P e o);
    equal = ap (instance c) e ∙ cc;
  },
)

pub lexeme_differs : (b : List (ℕ × Tree)) (p u : Tree) (k j : LexKind) (x y : List ℕ) → p ≡ lexeme k x → u ≡ lexeme j y → (k ≡ j → x ≡ y → ⊥) → NoneMakesEqual b p u
lexeme_differs b p u k j x y e f n c m =
    let g : lexeme k x ≡ lexeme j y = sym (ap (instance c) e) ∙ m.equal ∙ f in n (let q : k ≡ j = cc in q) (let q : x ≡ y = cc in q)

-- a bound variable
pub bound_least : (b : List (ℕ × Tree)) (p u s : Tree) (v : ℕ) → p ≡ hole v → lookup b v ≡ Some s → s ≡ u → IsLeast b b p u
bound_least b p u s v e h g c = (
  λ m. m.extends,
  λ m. record {
    extends = m;
    binds = λ w o. let q : w ≡ v = (let P : Tree → Type 0 = λ t. Occurs w t in subst P e o) in rw q (ap is_some (m v s h));
    equal = ap (instance c) e ∙ ap (λ o. unwrap_or o (hole v)) (m v s h) ∙ g;
  },
)

pub bound_clash : (b : List (ℕ × Tree)) (p u s : Tree) (v : ℕ) → p ≡ hole v → lookup b v ≡ Some s → (s ≡ u → ⊥) → NoneMakesEqual b p u
bound_clash b p u s v e h n c m = n (sym (ap (λ o. unwrap_or o (hole v)) (m.extends v s h)) ∙ sym (ap (instance c) e) ∙ m.equal)

-- a variable that is bound now
opened : (o : Option Tree) (d u : Tree) → IsSome o → unwrap_or o d ≡ u → o ≡ Some u
opened None d u h e = cc
opened (Some s) d u h e = ap Some e

chosen : (v w : ℕ) (u s : Tree) (old : Option Tree) → cond (eqb w v) (Some u) old ≡ Some s → ((w ≡ v) × (u ≡ s)) ⊎ (old ≡ Some s)
chosen v w u s old h = grind (arith, nat_tests)

pub fresh_least : (b c : List (ℕ × Tree)) (p u : Tree) (v : ℕ) → p ≡ hole v → lookup b v ≡ None → c ≡ b ++ (v, u) ∷ [] → IsLeast b c p u
fresh_least b c p u v e h g d = (
  λ m. λ w s k.
      let q = opened (lookup d v) (hole v) u (m.binds v (let P : Tree → Type 0 = λ t. Occurs v t in subst P (sym e) refl)) (sym (ap (instance d) e) ∙ m.equal) in
      ⊎_elim (λ z. rw z.0 (q ∙ ap Some z.1)) (λ z. m.extends w s z) (chosen v w u s (lookup b w) (sym (ap (λ es. lookup es w) g ∙ lookup-push b v u h w) ∙ k)),
  λ m.
      let q : lookup d v ≡ Some u = m v u (ap (λ es. lookup es v) g ∙ lookup-append b ((v, u) ∷ []) v h ∙ lookup-here (v, u) [] v refl) in
      record {
        extends = λ w s k. m w s (ap (λ es. lookup es w) g ∙ lookup-append_some b ((v, u) ∷ []) w s k);
        binds = λ w o. let r : w ≡ v = (let P : Tree → Type 0 = λ t. Occurs w t in subst P e o) in rw r (ap is_some q);
        equal = ap (instance d) e ∙ ap (λ o. unwrap_or o (hole v)) q;
      },
)

added : (v w : ℕ) (u : Tree) (old : Option Tree) → IsSome (cond (eqb w v) (Some u) old) → IsSome old ⊎ (w ≡ v)
added v w u old h = grind (arith, nat_tests)

pub fresh_adds : (b c : List (ℕ × Tree)) (p u : Tree) (v : ℕ) → p ≡ hole v → lookup b v ≡ None → c ≡ b ++ (v, u) ∷ [] → AddsOnlyOf b c p
fresh_adds b c p u v e h g w s =
    ⊎_elim (λ z. inl z) (λ z. inr (let P : Tree → Type 0 = λ t. Occurs w t in subst P (sym e) z))
    (added v w u (lookup b w) (let P : Option Tree → Type 0 = IsSome in subst P (ap (λ es. lookup es w) g ∙ lookup-push b v u h w) s))

-- terms one after another
pub all_step : (b c : List (ℕ × Tree)) (p u : Tree) (ps us : Trees) → IsLeast b c p u → (d : List (ℕ × Tree)) → MakesAllEqual b d (p ▹ ps) (u ▹ us) ↔ MakesAllEqual c d ps us
all_step b c p u ps us least d = (
  λ h. record {
    extends = (least d).0 (record { extends = h.extends; binds = λ v o. h.binds v (inl o); equal = let e = h.equal in cc });
    binds = λ v o. h.binds v (inr o);
    equal = let e = h.equal in cc;
  },
  λ h. let m = (least d).1 h.extends in
      record {
        extends = m.extends;
        binds = λ v. ⊎_elim (m.binds v) (h.binds v);
        equal = let e = h.equal in let f = m.equal in cc;
      },
)

pub all_clash : (b : List (ℕ × Tree)) (p u : Tree) (ps us : Trees) → NoneMakesEqual b p u → (d : List (ℕ × Tree)) → MakesAllEqual b d (p ▹ ps) (u ▹ us) → ⊥
all_clash b p u ps us n d h = n d (record { extends = h.extends; binds = λ v o. h.binds v (inl o); equal = let e = h.equal in cc })

pub all_done : (b d : List (ℕ × Tree)) → MakesAllEqual b d none none ↔ ExtendsBindings b d
all_done b d = (λ h. h.extends, λ e. record { extends = e; binds = λ v o. absurd o; equal = refl })

pub node_all : (b : List (ℕ × Tree)) (p u : Tree) (l m : ℕ) (ps us : Trees) → p ≡ node l ps → u ≡ node m us → l ≡ m → (d : List (ℕ × Tree)) → MakesEqual b d p u ↔ MakesAllEqual b d ps us
node_all b p u l m ps us e f g d = (
  λ h. record {
    extends = h.extends;
    binds = λ v o. h.binds v (let P : Tree → Type 0 = λ t. Occurs v t in subst P (sym e) o);
    equal = let q : node l (instances d ps) ≡ node m us = sym (ap (instance d) e) ∙ h.equal ∙ f in cc;
  },
  λ h. record {
    extends = h.extends;
    binds = λ v o. h.binds v (let P : Tree → Type 0 = λ t. Occurs v t in subst P e o);
    equal = ap (instance d) e ∙ (let q = h.equal in cc);
  },
)

pub Appends-trans : (a b c : List (ℕ × Tree)) → Appends a b → Appends b c → Appends a c
Appends-trans a b c h k = (h.0 ++ k.0, k.1 ∙ ap (λ x. x ++ k.0) h.1 ∙ append_assoc a h.0 k.0)

-- the kids of two nodes, up to the i-th
abbrev pub SameFrom : List (ℕ × Tree) → List (ℕ × Tree) → List Term → List Term → ℕ → Type 0
SameFrom start now ps us i = (b : List (ℕ × Tree)) → MakesAllEqual start b (trees ps) (trees us) ↔ MakesAllEqual now b (trees (drop i ps)) (trees (drop i us))

all_step_at : (b c : List (ℕ × Tree)) (p u : Tree) (ps us xs ys : Trees) → xs ≡ p ▹ ps → ys ≡ u ▹ us → IsLeast b c p u → (d : List (ℕ × Tree)) → MakesAllEqual b d xs ys ↔ MakesAllEqual c d ps us
all_step_at b c p u ps us xs ys e f least d =
    let P : Trees → Type 0 = λ x. MakesAllEqual b d x ys ↔ MakesAllEqual c d ps us in
    let Q : Trees → Type 0 = λ y. MakesAllEqual b d (p ▹ ps) y ↔ MakesAllEqual c d ps us in
    subst P (sym e) (subst Q (sym f) (all_step b c p u ps us least d))

pub SameFrom-more : (start now new : List (ℕ × Tree)) (ps us : List Term) (i : ℕ) (p u : Term) → i < length ps → length ps ≡ length us → p ≡ get_or ps i p → u ≡ get_or us i u → SameFrom start now ps us i → IsLeast now new (tree p) (tree u) → SameFrom start new ps us (i + 1)
SameFrom-more start now new ps us i p u h l e f s least b =
    let k : i < length us = omega arith in
    let step = all_step_at now new (tree p) (tree u) _ _ _ _ (trees-drop ps i p h e) (trees-drop us i u k f) least b in
    (λ x. step.0 ((s b).0 x), λ x. (s b).1 (step.1 x))

pub SameFrom-clash : (start now : List (ℕ × Tree)) (pattern term : Term) (label other : ℕ) (kids others : Vec Term Global) (i : ℕ) (p u : Term) → pattern ≡ Node label kids → term ≡ Node other others → label ≡ other → i < length kids.items → length kids.items ≡ length others.items → p ≡ get_or kids.items i p → u ≡ get_or others.items i u → SameFrom start now kids.items others.items i → NoneMakesEqual now (tree p) (tree u) → NoneMakesEqual start (tree pattern) (tree term)
SameFrom-clash start now pattern term label other kids others i p u a c g h l e f s n b m =
    let k : i < length others.items = omega arith in
    let x = (s b).0 ((node_all start (tree pattern) (tree term) label other _ _ (tree-at_node pattern label kids a) (tree-at_node term other others c) g b).0 m) in
    let P : Trees → Type 0 = λ t. MakesAllEqual now b t (trees (drop i others.items)) in
    let Q : Trees → Type 0 = λ t. MakesAllEqual now b (tree p ▹ trees (drop (i + 1) kids.items)) t in
    all_clash now (tree p) (tree u) _ _ n b (subst Q (trees-drop others.items i u k f) (subst P (trees-drop kids.items i p h e) x))

pub SameFrom-done : (start now : List (ℕ × Tree)) (pattern term : Term) (label other : ℕ) (kids others : Vec Term Global) (i : ℕ) → pattern ≡ Node label kids → term ≡ Node other others → label ≡ other → length kids.items ≤ i → length kids.items ≡ length others.items → SameFrom start now kids.items others.items i → IsLeast start now (tree pattern) (tree term)
SameFrom-done start now pattern term label other kids others i a c g h l s b =
    let k : length others.items ≤ i = omega arith in
    let P : Trees → Type 0 = λ t. MakesAllEqual now b t (trees (drop i others.items)) ↔ ExtendsBindings now b in
    let Q : Trees → Type 0 = λ t. MakesAllEqual now b none t ↔ ExtendsBindings now b in
    let done = subst P (sym (trees-drop_all kids.items i h)) (subst Q (sym (trees-drop_all others.items i k)) (all_done now b)) in
    let whole = node_all start (tree pattern) (tree term) label other _ _ (tree-at_node pattern label kids a) (tree-at_node term other others c) g b in
    (λ m. done.0 ((s b).0 (whole.0 m)), λ x. whole.1 ((s b).1 (done.1 x)))

pub OccursIn-at : (ts : List Term) (i v : ℕ) (k : Term) → i < length ts → k ≡ get_or ts i k → Occurs v (tree k) → OccursIn v (trees ts)
OccursIn-at [] i v k h g o = absurd (omega arith)
OccursIn-at (t ∷ ts) zero v k h g o = let P : Term → Type 0 = λ x. Occurs v (tree x) in inl (subst P g o)
OccursIn-at (t ∷ ts) (suc i) v k h g o = inr (OccursIn-at ts i v k (omega arith) g o)

pub AddsOnlyOf-kid : (start now new : List (ℕ × Tree)) (pattern p : Term) (label : ℕ) (kids : Vec Term Global) (i : ℕ) → pattern ≡ Node label kids → i < length kids.items → p ≡ get_or kids.items i p → AddsOnlyOf start now (tree pattern) → AddsOnlyOf now new (tree p) → AddsOnlyOf start new (tree pattern)
AddsOnlyOf-kid start now new pattern p label kids i a h e s n v b =
    ⊎_elim (s v) (λ o. inr (let P : Tree → Type 0 = λ t. Occurs v t in subst P (sym (tree-at_node pattern label kids a)) (OccursIn-at kids.items i v p h e o))) (n v b)

-- the answer
pub IsLeast-makes_equal : (old new : List (ℕ × Tree)) (p u : Tree) → IsLeast old new p u → MakesEqual old new p u
IsLeast-makes_equal old new p u h = (h new).1 (λ v t e. e)
