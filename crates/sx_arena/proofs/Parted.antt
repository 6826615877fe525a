-- Pairs that are given to be apart.
use Rattle.std.proofs.Common.{◌≡◌, ℕ, zero, suc, ◌+◌, ◌<◌, ◌≤◌, ◌&&◌, Bool, true, false, List, [], ◌∷◌, drop, length, get_or, refl, sym, ap, ◌∙◌, arith, subst}
use Rattle.std.specs.Prelude.{nat_eq, ◌||◌}
use Rattle.std.proofs.lemmas.Bool.Decides.{Decides-eqb}
use Rattle.std.proofs.lemmas.List.{drop_more, drop_all}
use Rattle.sx_term.specs.Tree.{Tree, node, lexeme, hole}
use Rattle.sx_arena.specs.Matching.{same}
use Rattle.sx_arena.specs.Limits.{is_pair, different_lexemes, are_apart}
use Rattle.sx_arena.proofs.Sameness.{same_true, same_self}
use Rattle.sx_arena.specs.declared.shape.Shape.{Shape}
use Rattle.sx_arena.specs.declared.shape.Shape.TheVariants.{Node, Lex, Var}
use Rattle.sx_arena.specs.declared.pairs.Pair.{Pair}
use Rattle.sx_arena.specs.Arena.{tree_at, shape_tree}
use Rattle.sx_arena.specs.Pairs.{pairs_of, ArePairs}
use Rattle.sx_rules.specs.Instances.{instance}
use Rattle.sx_arena.specs.Matching.{filled}
use Rattle.sx_term.specs.Tree.{none}
use Rattle.sx_arena.specs.declared.arena.Arena.{Arena}
use Rattle.sx_arena.specs.declared.binds.Binds.{Binds}
use Rattle.sx_arena.specs.Grown.{Extends}
use Rattle.sx_arena.specs.Arena.{trees, IsHeld}
use Rattle.sx_arena.specs.Binds.{envs, env_at, IsBinds}
use Rattle.sx_arena.specs.Pairs.{IsTruthTold}
use Rattle.sx_arena.proofs.Growing.{extends-then, extends-at}
use Rattle.sx_arena.proofs.BindChains.{envs_stay}
use Rattle.sx_arena.proofs.Arenas.{Distinct}

-- numbers tell terms apart
same_number : (ts : List Tree) → Distinct ts → (a b : ℕ) → a < length ts → b < length ts → same (tree_at ts a) (tree_at ts b) ≡ nat_eq a b
same_number ts d a b l m = go (nat_eq a b) refl
  where
    go : (r : Bool) → nat_eq a b ≡ r → same (tree_at ts a) (tree_at ts b) ≡ nat_eq a b
    go true e = let f = (Decides-eqb a b).0 e in ap (λ n. same (tree_at ts a) (tree_at ts n)) (sym f) ∙ same_self (tree_at ts a) ∙ sym e
    go false e = other (same (tree_at ts a) (tree_at ts b)) refl
      where
        other : (r : Bool) → same (tree_at ts a) (tree_at ts b) ≡ r → same (tree_at ts a) (tree_at ts b) ≡ nat_eq a b
        other false f = f ∙ sym e
        other true f =
            let g = d a b l m (same_true (tree_at ts a) (tree_at ts b) f) in
            let h = (Decides-eqb a b).1 g in
            absurd (let q : true ≡ false = sym h ∙ e in let z : ⊥ = cc in z)

pub pair_at : (n : ℕ) (ps : List Pair) → ArePairs n ps → (i : ℕ) (p : Pair) → i < length ps → p ≡ get_or ps i p → (p.first < n) × (p.second < n)
pair_at n [] h i p l e = absurd (omega arith)
pair_at n (q ∷ ps) h zero p l e = subst (λ (x : Pair). (x.first < n) × (x.second < n)) (sym e) h.0
pair_at n (q ∷ ps) h (suc i) p l e = pair_at n ps h.1 i p (omega arith) e

-- the pairs that were looked at so far are others
pub record Parting (ts : List Tree) (ps : List Pair) (i : ℕ) (s t : Tree) : Type 0 where
  pub straight : is_pair (pairs_of ts ps) s t ≡ is_pair (pairs_of ts (drop i ps)) s t
  pub crossed : is_pair (pairs_of ts ps) t s ≡ is_pair (pairs_of ts (drop i ps)) t s

pairs_more : (ts : List Tree) → Distinct ts → (ps : List Pair) → ArePairs (length ts) ps → (i a b : ℕ) (p : Pair) → i < length ps → p ≡ get_or ps i p → a < length ts → b < length ts →
    is_pair (pairs_of ts (drop i ps)) (tree_at ts a) (tree_at ts b) ≡ ((nat_eq p.first a && nat_eq p.second b) || is_pair (pairs_of ts (drop (i + 1) ps)) (tree_at ts a) (tree_at ts b))
pairs_more ts d ps h i a b p l e m n =
    let w = pair_at (length ts) ps h i p l e in
    let r : drop i ps ≡ p ∷ drop (i + 1) ps = drop_more ps i p l ∙ ap (λ x. x ∷ drop (i + 1) ps) (sym e) in
    let f = same_number ts d p.first a w.0 m in
    let g = same_number ts d p.second b w.1 n in
    ap (λ x. is_pair (pairs_of ts x) (tree_at ts a) (tree_at ts b)) r ∙ (λ j. (f j && g j) || is_pair (pairs_of ts (drop (i + 1) ps)) (tree_at ts a) (tree_at ts b))

pub parting_more : (ts : List Tree) → Distinct ts → (ps : List Pair) → ArePairs (length ts) ps → (i a b : ℕ) (p : Pair) (x y : Bool) → i < length ps → p ≡ get_or ps i p → a < length ts → b < length ts →
    x ≡ (nat_eq p.first a && nat_eq p.second b) → x ≡ false → y ≡ (nat_eq p.first b && nat_eq p.second a) → y ≡ false →
    Parting ts ps i (tree_at ts a) (tree_at ts b) → Parting ts ps (i + 1) (tree_at ts a) (tree_at ts b)
parting_more ts d ps h i a b p x y l e m n f g q r k = record {
  straight = k.straight ∙ pairs_more ts d ps h i a b p l e m n ∙ ap (λ z. z || is_pair (pairs_of ts (drop (i + 1) ps)) (tree_at ts a) (tree_at ts b)) (sym f ∙ g);
  crossed = k.crossed ∙ pairs_more ts d ps h i b a p l e n m ∙ ap (λ z. z || is_pair (pairs_of ts (drop (i + 1) ps)) (tree_at ts b) (tree_at ts a)) (sym q ∙ r);
}

or_true : (a b : Bool) → b ≡ true → (a || b) ≡ true
or_true true b e = refl
or_true false b e = e

pub apart_straight : (ts : List Tree) → Distinct ts → (ps : List Pair) → ArePairs (length ts) ps → (i a b : ℕ) (p : Pair) (x : Bool) → i < length ps → p ≡ get_or ps i p → a < length ts → b < length ts →
    x ≡ (nat_eq p.first a && nat_eq p.second b) → x ≡ true → Parting ts ps i (tree_at ts a) (tree_at ts b) →
    are_apart (record { judgements = []; pairs = pairs_of ts ps }) (tree_at ts a) (tree_at ts b) ≡ true
apart_straight ts d ps h i a b p x l e m n f g k =
    ap (λ z. z || (is_pair (pairs_of ts ps) (tree_at ts b) (tree_at ts a) || different_lexemes (tree_at ts a) (tree_at ts b)))
    (k.straight ∙ pairs_more ts d ps h i a b p l e m n ∙ ap (λ z. z || is_pair (pairs_of ts (drop (i + 1) ps)) (tree_at ts a) (tree_at ts b)) (sym f ∙ g))

pub apart_crossed : (ts : List Tree) → Distinct ts → (ps : List Pair) → ArePairs (length ts) ps → (i a b : ℕ) (p : Pair) (x : Bool) → i < length ps → p ≡ get_or ps i p → a < length ts → b < length ts →
    x ≡ (nat_eq p.first b && nat_eq p.second a) → x ≡ true → Parting ts ps i (tree_at ts a) (tree_at ts b) →
    are_apart (record { judgements = []; pairs = pairs_of ts ps }) (tree_at ts a) (tree_at ts b) ≡ true
apart_crossed ts d ps h i a b p x l e m n f g k =
    or_true (is_pair (pairs_of ts ps) (tree_at ts a) (tree_at ts b)) (is_pair (pairs_of ts ps) (tree_at ts b) (tree_at ts a) || different_lexemes (tree_at ts a) (tree_at ts b))
    (ap (λ z. z || different_lexemes (tree_at ts a) (tree_at ts b))
    (k.crossed ∙ pairs_more ts d ps h i b a p l e n m ∙ ap (λ z. z || is_pair (pairs_of ts (drop (i + 1) ps)) (tree_at ts b) (tree_at ts a)) (sym f ∙ g)))

-- no pair is left
pub apart_end : (ts : List Tree) (ps : List Pair) (i a b : ℕ) → length ps ≤ i → Parting ts ps i (tree_at ts a) (tree_at ts b) →
    are_apart (record { judgements = []; pairs = pairs_of ts ps }) (tree_at ts a) (tree_at ts b) ≡ different_lexemes (tree_at ts a) (tree_at ts b)
apart_end ts ps i a b l k =
    let n = drop_all i ps l in
    let s : is_pair (pairs_of ts ps) (tree_at ts a) (tree_at ts b) ≡ false = k.straight ∙ ap (λ x. is_pair (pairs_of ts x) (tree_at ts a) (tree_at ts b)) n in
    let c : is_pair (pairs_of ts ps) (tree_at ts b) (tree_at ts a) ≡ false = k.crossed ∙ ap (λ x. is_pair (pairs_of ts x) (tree_at ts b) (tree_at ts a)) n in
    λ j. s j || (c j || different_lexemes (tree_at ts a) (tree_at ts b))

-- lexemes
abbrev flip : Bool → Bool
flip b = elim b [ true ↦ false | false ↦ true ]

no_lexemes : (s : Tree) → different_lexemes s s ≡ false
no_lexemes (node l ts) = refl
no_lexemes (hole v) = refl
no_lexemes (lexeme k x) = go (same (lexeme k x) (lexeme k x)) (same_self (lexeme k x))
  where
    go : (b : Bool) → b ≡ true → flip b ≡ false
    go true e = refl
    go false e = absurd (let z : ⊥ = cc in z)

pub lexemes_equal : (ts : List Tree) (a b : ℕ) → a ≡ b → different_lexemes (tree_at ts a) (tree_at ts b) ≡ false
lexemes_equal ts a b e = ap (λ n. different_lexemes (tree_at ts a) (tree_at ts n)) (sym e) ∙ no_lexemes (tree_at ts a)

pub lexemes_differ : (ts : List Tree) → Distinct ts → (a b : ℕ) → a < length ts → b < length ts → (a ≡ b → ⊥) → (s t : Tree) → tree_at ts a ≡ s → tree_at ts b ≡ t → (k m : _) (x y : _) → s ≡ lexeme k x → t ≡ lexeme m y → different_lexemes (tree_at ts a) (tree_at ts b) ≡ true
lexemes_differ ts d a b l n h s t e f k m x y p q =
    (λ j. different_lexemes ((e ∙ p) j) ((f ∙ q) j)) ∙ go (same (lexeme k x) (lexeme m y)) refl
  where
    go : (r : Bool) → same (lexeme k x) (lexeme m y) ≡ r → different_lexemes (lexeme k x) (lexeme m y) ≡ true
    go true g = absurd (h (d a b l n (e ∙ p ∙ same_true (lexeme k x) (lexeme m y) g ∙ sym (f ∙ q))))
    go false g = ap flip g

pub no_lexeme_first : (ts : List Tree) (sh : Shape) (s t : Tree) → s ≡ shape_tree ts sh → ((k : _) (x : _) → sh ≡ Lex k x → ⊥) → different_lexemes s t ≡ false
no_lexeme_first ts (Node l ks) s t e h = ap (λ x. different_lexemes x t) e
no_lexeme_first ts (Var v) s t e h = ap (λ x. different_lexemes x t) e
no_lexeme_first ts (Lex k x) s t e h = absurd (h k x refl)

pub no_lexeme_second : (ts : List Tree) (sh : Shape) (s t : Tree) → t ≡ shape_tree ts sh → ((k : _) (x : _) → sh ≡ Lex k x → ⊥) → different_lexemes s t ≡ false
no_lexeme_second ts (Node l ks) s t e h = ap (different_lexemes s) e ∙ second s
  where
    second : (s : Tree) → different_lexemes s (shape_tree ts (Node l ks)) ≡ false
    second (node m us) = refl
    second (lexeme m us) = refl
    second (hole m) = refl
no_lexeme_second ts (Var v) s t e h = ap (different_lexemes s) e ∙ second s
  where
    second : (s : Tree) → different_lexemes s (hole v) ≡ false
    second (node m us) = refl
    second (lexeme m us) = refl
    second (hole m) = refl
no_lexeme_second ts (Lex k x) s t e h = absurd (h k x refl)

pub pairs_more_terms : (m n : ℕ) → m ≤ n → (ps : List Pair) → ArePairs m ps → ArePairs n ps
pairs_more_terms m n h [] a = tt
pairs_more_terms m n h (p ∷ ps) a = (((let z = a.0.0 in omega arith), (let z = a.0.1 in omega arith)), pairs_more_terms m n h ps a.1)

pub pairs_stay : (ts us : List Tree) → Extends ts us → (ps : List Pair) → ArePairs (length ts) ps → pairs_of us ps ≡ pairs_of ts ps
pairs_stay ts us x [] a = refl
pairs_stay ts us x (p ∷ ps) a =
    let e = extends-at ts us x p.first (node 0 none) a.0.0 in
    let f = extends-at ts us x p.second (node 0 none) a.0.1 in
    let g = pairs_stay ts us x ps a.1 in
    λ i. (e i, f i) ∷ g i

-- the second pattern's instance is made after the first's
pub told : (a b c : Arena) (bs : Binds) (env i j : ℕ) (ps : List Pair) (s t : Tree) (r : Bool) → IsBinds (trees a) bs → ArePairs (length (trees a)) ps →
    IsHeld a b i (instance (filled (env_at (envs (trees a) bs) env)) s) → IsHeld b c j (instance (filled (env_at (envs (trees b) bs) env)) t) →
    r ≡ are_apart (record { judgements = []; pairs = pairs_of (trees c) ps }) (tree_at (trees c) i) (tree_at (trees c) j) →
    IsTruthTold a c r (are_apart (record { judgements = []; pairs = pairs_of (trees a) ps }) (instance (filled (env_at (envs (trees a) bs) env)) s) (instance (filled (env_at (envs (trees a) bs) env)) t))
told a b c bs env i j ps s t r h p x y e =
    let z = extends-then (trees a) (trees b) (trees c) x.extends y.extends in
    let v = envs_stay (trees a) (trees b) x.extends bs h in
    let l : tree_at (trees c) i ≡ instance (filled (env_at (envs (trees a) bs) env)) s = extends-at (trees b) (trees c) y.extends i (node 0 none) x.within ∙ x.is in
    let m : tree_at (trees c) j ≡ instance (filled (env_at (envs (trees a) bs) env)) t = y.is ∙ ap (λ es. instance (filled (env_at es env)) t) v.0 in
    let q = pairs_stay (trees a) (trees c) z ps p in
    record {
      arena = y.arena;
      extends = z;
      is = e ∙ (λ k. are_apart (record { judgements = []; pairs = q k }) (l k) (m k));
    }
