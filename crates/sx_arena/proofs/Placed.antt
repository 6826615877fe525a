-- The places of a judgement.
use Rattle.std.proofs.Common.{◌≡◌, ℕ, zero, suc, ◌+◌, ◌-◌, ◌^◌, ◌<◌, ◌≤◌, ◌⊎◌, inl, inr, min, Bool, true, false, List, [], ◌∷◌, ◌++◌, map, drop, length, get_or, Some, None, refl, sym, ap, ◌∙◌, arith, subst, append_assoc}
use Rattle.std.specs.Prelude.{nat_lt, not}
use mathlib.Core.Bool.{beq}
use Rattle.std.proofs.lemmas.Bool.{cases_lt}
use Rattle.std.proofs.lemmas.List.{map_push, drop_more, drop_all, drop-map, length-map, get_or_past, append-nil}
use Rattle.sx_term.specs.Tree.{Tree, depth_of, size_of}
use Rattle.sx_term.specs.declared.term.Term.{Term}
use Rattle.sx_term.specs.Term.{tree}
use Rattle.sx_rules.specs.Instances.{instance}
use Rattle.sx_arena.specs.Matching.{Assignment, match, match_all, match_then, filled}
use Rattle.sx_rules.specs.Derivations.{AreShallow}
use Rattle.sx_arena.specs.Limits.{too_deep, too_big, term_limit, first_cause, limit_passed}
use Rattle.sx_arena.specs.declared.arena.Arena.{Arena}
use Rattle.sx_arena.specs.declared.binds.Binds.{Binds}
use Rattle.sx_arena.specs.Grown.{Extends}
use Rattle.sx_arena.specs.Arena.{trees, tree_at, IsArena, IsHeld, AreBelow}
use Rattle.sx_arena.specs.Binds.{envs, env_at, IsBinds, BindsGrow, IsChainFit}
use Rattle.sx_arena.specs.Places.{selected, AreHeld}
use Rattle.sx_arena.proofs.Growing.{extends-same, extends-then, extends-length}
use Rattle.sx_arena.proofs.Arenas.{maps_same, below_more}
use Rattle.sx_arena.proofs.BindChains.{envs_stay, binds_then}
use Rattle.sx_arena.proofs.Patterns.{below_push}

pub shallow_at : (ps : List Term) → AreShallow (map tree ps) → (i : ℕ) (p : Term) → i < length ps → p ≡ get_or ps i p → depth_of (tree p) ≤ 1000
shallow_at [] h i p l e = absurd (omega arith)
shallow_at (q ∷ ps) h zero p l e = let a = h.0 in let b = ap (λ x. depth_of (tree x)) e in omega arith
shallow_at (q ∷ ps) h (suc i) p l e = shallow_at ps h.1 i p (omega arith) e

selected_head : {X : Type 0} (o b : Bool) (bs : List Bool) (x : X) (xs : List X) → b ≡ o → selected o (b ∷ bs) (x ∷ xs) ≡ x ∷ selected o bs xs
selected_head true true bs x xs e = refl
selected_head false false bs x xs e = refl
selected_head true false bs x xs e = absurd (let z : ⊥ = cc in z)
selected_head false true bs x xs e = absurd (let z : ⊥ = cc in z)

selected_skip : {X : Type 0} (o b : Bool) (bs : List Bool) (x : X) (xs : List X) → (b ≡ o → ⊥) → selected o (b ∷ bs) (x ∷ xs) ≡ selected o bs xs
selected_skip true true bs x xs d = absurd (d refl)
selected_skip false false bs x xs d = absurd (d refl)
selected_skip true false bs x xs d = refl
selected_skip false true bs x xs d = refl

selected_nil_head : {X : Type 0} (o : Bool) (x : X) (xs : List X) → false ≡ o → selected o [] (x ∷ xs) ≡ x ∷ selected o [] xs
selected_nil_head false x xs e = refl
selected_nil_head true x xs e = absurd (let z : ⊥ = cc in z)

selected_nil_skip : {X : Type 0} (o : Bool) (x : X) (xs : List X) → (false ≡ o → ⊥) → selected o [] (x ∷ xs) ≡ selected o [] xs
selected_nil_skip false x xs d = absurd (d refl)
selected_nil_skip true x xs d = refl

pub selected_none : {Y : Type 0} (o : Bool) (bs : List Bool) → selected {X = Y} o bs [] ≡ []
selected_none true [] = refl
selected_none false [] = refl
selected_none true (b ∷ bs) = refl
selected_none false (b ∷ bs) = refl

-- what is selected from a place on
pub selected_more : {X : Type 0} (o : Bool) (bs : List Bool) (xs : List X) (i : ℕ) (x : X) → drop i xs ≡ x ∷ drop (i + 1) xs → get_or bs i false ≡ o →
    selected o (drop i bs) (drop i xs) ≡ x ∷ selected o (drop (i + 1) bs) (drop (i + 1) xs)
selected_more {X} o bs xs i x e h = go (cases_lt i (length bs))
  where
    go : (i < length bs) ⊎ (length bs ≤ i) → selected o (drop i bs) (drop i xs) ≡ x ∷ selected o (drop (i + 1) bs) (drop (i + 1) xs)
    go (inl l) = (λ j. selected o (drop_more bs i false l j) (e j)) ∙ selected_head o (get_or bs i false) (drop (i + 1) bs) x (drop (i + 1) xs) h
    go (inr l) =
        let a = drop_all i bs l in
        let b : drop (i + 1) bs ≡ [] = drop_all (i + 1) bs (omega arith) in
        (λ j. selected o (a j) (e j)) ∙ selected_nil_head o x (drop (i + 1) xs) (sym (get_or_past bs i false l) ∙ h) ∙ ap (λ m. x ∷ selected o m (drop (i + 1) xs)) (sym b)

pub selected_less : {X : Type 0} (o : Bool) (bs : List Bool) (xs : List X) (i : ℕ) (x : X) → drop i xs ≡ x ∷ drop (i + 1) xs → (get_or bs i false ≡ o → ⊥) →
    selected o (drop i bs) (drop i xs) ≡ selected o (drop (i + 1) bs) (drop (i + 1) xs)
selected_less {X} o bs xs i x e h = go (cases_lt i (length bs))
  where
    go : (i < length bs) ⊎ (length bs ≤ i) → selected o (drop i bs) (drop i xs) ≡ selected o (drop (i + 1) bs) (drop (i + 1) xs)
    go (inl l) = (λ j. selected o (drop_more bs i false l j) (e j)) ∙ selected_skip o (get_or bs i false) (drop (i + 1) bs) x (drop (i + 1) xs) h
    go (inr l) =
        let a = drop_all i bs l in
        let b : drop (i + 1) bs ≡ [] = drop_all (i + 1) bs (omega arith) in
        (λ j. selected o (a j) (e j)) ∙ selected_nil_skip o x (drop (i + 1) xs) (λ q. h (get_or_past bs i false l ∙ q)) ∙ ap (λ m. selected o m (drop (i + 1) xs)) (sym b)

pub maps_drop : {X Y : Type 0} (f : X → Y) (xs : List X) (i : ℕ) (x : X) → i < length xs → x ≡ get_or xs i x → drop i (map f xs) ≡ f x ∷ drop (i + 1) (map f xs)
maps_drop f xs i x l e =
    drop-map f i xs ∙ ap (map f) (drop_more xs i x l) ∙ ap (λ y. f y ∷ map f (drop (i + 1) xs)) (sym e) ∙ ap (λ ys. f x ∷ ys) (sym (drop-map f (i + 1) xs))

pub is_same : (a b : Bool) → not (beq a b) ≡ false → a ≡ b
is_same true true e = refl
is_same false false e = refl
is_same true false e = absurd (let z : ⊥ = cc in z)
is_same false true e = absurd (let z : ⊥ = cc in z)

pub is_other : (a b : Bool) → not (beq a b) ≡ true → a ≡ b → ⊥
is_other true true e f = let z : ⊥ = cc in z
is_other false false e f = let z : ⊥ = cc in z
is_other true false e f = let z : ⊥ = cc in z
is_other false true e f = let z : ⊥ = cc in z

-- there is something at a place
pub get_at : {X : Type 0} (xs : List X) (i : ℕ) → i < length xs → (x : X) × (x ≡ get_or xs i x)
get_at [] i h = absurd (omega arith)
get_at (x ∷ xs) zero h = (x, refl)
get_at (y ∷ xs) (suc i) h = get_at xs i (omega arith)

-- places that are matched so far
pub record Placing (ts : List Tree) (old new : Binds) (env last : ℕ) (mask : List Bool) (o : Bool) (places : List Term) (terms : List ℕ) (i k : ℕ) : Type 0 where
  pub grows : BindsGrow ts old new
  pub within : last ≤ length new.cells.items
  pub same : match_all (selected o mask (map tree places)) (map (tree_at ts) terms) (env_at (envs ts old) env)
      ≡ match_all (selected o (drop i mask) (drop i (map tree places))) (map (tree_at ts) (drop k terms)) (env_at (envs ts new) last)

pub placing_skip : (ts : List Tree) (old new : Binds) (env last : ℕ) (mask : List Bool) (o : Bool) (places : List Term) (terms : List ℕ) (i k : ℕ) (p : Term) →
    Placing ts old new env last mask o places terms i k → i < length places → p ≡ get_or places i p → (get_or mask i false ≡ o → ⊥) →
    Placing ts old new env last mask o places terms (i + 1) k
placing_skip ts old new env last mask o places terms i k p f l e d = record {
  grows = f.grows;
  within = f.within;
  same = f.same ∙ ap (λ ps. match_all ps (map (tree_at ts) (drop k terms)) (env_at (envs ts new) last)) (selected_less o mask (map tree places) i (tree p) (maps_drop tree places i p l e) d);
}

pub placing_at : (ts : List Tree) (env : Assignment) (mask : List Bool) (o : Bool) (places : List Term) (terms : List ℕ) (i k t : ℕ) (p : Term) →
    i < length places → p ≡ get_or places i p → get_or mask i false ≡ o → k < length terms → t ≡ get_or terms k t →
    match_all (selected o (drop i mask) (drop i (map tree places))) (map (tree_at ts) (drop k terms)) env
    ≡ match_then (match (tree p) (tree_at ts t) env) (match_all (selected o (drop (i + 1) mask) (drop (i + 1) (map tree places))) (map (tree_at ts) (drop (k + 1) terms)))
placing_at ts env mask o places terms i k t p l e d m g =
    let a = selected_more o mask (map tree places) i (tree p) (maps_drop tree places i p l e) d in
    let b : drop k terms ≡ t ∷ drop (k + 1) terms = drop_more terms k t m ∙ ap (λ x. x ∷ drop (k + 1) terms) (sym g) in
    λ j. match_all (a j) (map (tree_at ts) (b j)) env

pub placing_more : (ts : List Tree) (old mid new : Binds) (env last next : ℕ) (mask : List Bool) (o : Bool) (places : List Term) (terms : List ℕ) (i k t : ℕ) (p : Term) →
    Placing ts old mid env last mask o places terms i k → i < length places → p ≡ get_or places i p → get_or mask i false ≡ o → k < length terms → t ≡ get_or terms k t →
    BindsGrow ts mid new → IsChainFit ts new (match (tree p) (tree_at ts t) (env_at (envs ts mid) last)) (Some next) → Placing ts old new env next mask o places terms (i + 1) (k + 1)
placing_more ts old mid new env last next mask o places terms i k t p f l e d m g b h = record {
  grows = binds_then ts old mid new f.grows b;
  within = h.0;
  same = f.same ∙ placing_at ts (env_at (envs ts mid) last) mask o places terms i k t p l e d m g
      ∙ ap (λ r. match_then r (match_all (selected o (drop (i + 1) mask) (drop (i + 1) (map tree places))) (map (tree_at ts) (drop (k + 1) terms)))) h.1;
}

pub placing_clash : (ts : List Tree) (old mid : Binds) (env last : ℕ) (mask : List Bool) (o : Bool) (places : List Term) (terms : List ℕ) (i k t : ℕ) (p : Term) →
    Placing ts old mid env last mask o places terms i k → i < length places → p ≡ get_or places i p → get_or mask i false ≡ o → k < length terms → t ≡ get_or terms k t →
    match (tree p) (tree_at ts t) (env_at (envs ts mid) last) ≡ None → match_all (selected o mask (map tree places)) (map (tree_at ts) terms) (env_at (envs ts old) env) ≡ None
placing_clash ts old mid env last mask o places terms i k t p f l e d m g h =
    f.same ∙ placing_at ts (env_at (envs ts mid) last) mask o places terms i k t p l e d m g
    ∙ ap (λ r. match_then r (match_all (selected o (drop (i + 1) mask) (drop (i + 1) (map tree places))) (map (tree_at ts) (drop (k + 1) terms)))) h

-- too few terms
pub placing_few : (ts : List Tree) (old mid : Binds) (env last : ℕ) (mask : List Bool) (o : Bool) (places : List Term) (terms : List ℕ) (i k : ℕ) (p : Term) →
    Placing ts old mid env last mask o places terms i k → i < length places → p ≡ get_or places i p → get_or mask i false ≡ o → length terms ≤ k →
    match_all (selected o mask (map tree places)) (map (tree_at ts) terms) (env_at (envs ts old) env) ≡ None
placing_few ts old mid env last mask o places terms i k p f l e d m =
    let a = selected_more o mask (map tree places) i (tree p) (maps_drop tree places i p l e) d in
    let b = drop_all k terms m in
    f.same ∙ (λ j. match_all (a j) (map (tree_at ts) (b j)) (env_at (envs ts mid) last))

placing_last : (ts : List Tree) (old mid : Binds) (env last : ℕ) (mask : List Bool) (o : Bool) (places : List Term) (terms : List ℕ) (i k : ℕ) →
    Placing ts old mid env last mask o places terms i k → length places ≤ i →
    match_all (selected o mask (map tree places)) (map (tree_at ts) terms) (env_at (envs ts old) env) ≡ match_all [] (map (tree_at ts) (drop k terms)) (env_at (envs ts mid) last)
placing_last ts old mid env last mask o places terms i k f l =
    let n = length-map places tree in
    let a = drop_all i (map tree places) (omega arith) in
    f.same ∙ ap (λ ps. match_all ps (map (tree_at ts) (drop k terms)) (env_at (envs ts mid) last)) (ap (selected o (drop i mask)) a ∙ selected_none o (drop i mask))

-- too many terms
pub placing_many : (ts : List Tree) (old mid : Binds) (env last : ℕ) (mask : List Bool) (o : Bool) (places : List Term) (terms : List ℕ) (i k : ℕ) →
    Placing ts old mid env last mask o places terms i k → length places ≤ i → k < length terms →
    match_all (selected o mask (map tree places)) (map (tree_at ts) terms) (env_at (envs ts old) env) ≡ None
placing_many ts old mid env last mask o places terms i k f l m =
    placing_last ts old mid env last mask o places terms i k f l ∙ ap (λ xs. match_all [] (map (tree_at ts) xs) (env_at (envs ts mid) last)) (drop_more terms k 0 m)

pub placing_end : (ts : List Tree) (old mid : Binds) (env last : ℕ) (mask : List Bool) (o : Bool) (places : List Term) (terms : List ℕ) (i k : ℕ) →
    Placing ts old mid env last mask o places terms i k → length places ≤ i → length terms ≤ k →
    match_all (selected o mask (map tree places)) (map (tree_at ts) terms) (env_at (envs ts old) env) ≡ Some (env_at (envs ts mid) last)
placing_end ts old mid env last mask o places terms i k f l m =
    placing_last ts old mid env last mask o places terms i k f l ∙ ap (λ xs. match_all [] (map (tree_at ts) xs) (env_at (envs ts mid) last)) (drop_all k terms m)

-- places that are made so far
pub record Forming (start : List Tree) (a : Arena) (b : Binds) (env : ℕ) (mask : List Bool) (o : Bool) (parts : List ℕ) (places : List Term) (i : ℕ) : Type 0 where
  pub arena : IsArena a
  pub extends : Extends start (trees a)
  pub binds : IsBinds (trees a) b
  pub same : envs (trees a) b ≡ envs start b
  pub below : AreBelow (length (trees a)) parts
  pub are : map (tree_at (trees a)) parts ++ selected o (drop i mask) (drop i (map (instance (filled (env_at (envs start b) env))) (map tree places)))
      ≡ selected o mask (map (instance (filled (env_at (envs start b) env))) (map tree places))

pub forming_none : (a : Arena) (b : Binds) (env : ℕ) (mask : List Bool) (o : Bool) (parts : List ℕ) (places : List Term) → IsArena a → IsBinds (trees a) b → parts ≡ [] → Forming (trees a) a b env mask o parts places 0
forming_none a b env mask o parts places h k e = record {
  arena = h;
  extends = extends-same (trees a);
  binds = k;
  same = refl;
  below = subst (λ (x : List ℕ). AreBelow (length (trees a)) x) (sym e) tt;
  are = ap (λ xs. map (tree_at (trees a)) xs ++ selected o mask (map (instance (filled (env_at (envs (trees a) b) env))) (map tree places))) e;
}

instance_drop : (s : ℕ → Tree) (places : List Term) (i : ℕ) (p : Term) → i < length places → p ≡ get_or places i p → drop i (map (instance s) (map tree places)) ≡ instance s (tree p) ∷ drop (i + 1) (map (instance s) (map tree places))
instance_drop s places i p l e =
    drop-map (instance s) i (map tree places) ∙ ap (map (instance s)) (maps_drop tree places i p l e) ∙ ap (λ ys. instance s (tree p) ∷ ys) (sym (drop-map (instance s) (i + 1) (map tree places)))

pub forming_skip : (start : List Tree) (a : Arena) (b : Binds) (env : ℕ) (mask : List Bool) (o : Bool) (parts : List ℕ) (places : List Term) (i : ℕ) (p : Term) →
    Forming start a b env mask o parts places i → i < length places → p ≡ get_or places i p → (get_or mask i false ≡ o → ⊥) → Forming start a b env mask o parts places (i + 1)
forming_skip start a b env mask o parts places i p f l e d = record {
  arena = f.arena;
  extends = f.extends;
  binds = f.binds;
  same = f.same;
  below = f.below;
  are = ap (λ xs. map (tree_at (trees a)) parts ++ xs) (sym (selected_less o mask (map (instance (filled (env_at (envs start b) env))) (map tree places)) i (instance (filled (env_at (envs start b) env)) (tree p)) (instance_drop (filled (env_at (envs start b) env)) places i p l e) d)) ∙ f.are;
}

pub forming_more : (start : List Tree) (old new : Arena) (b : Binds) (env : ℕ) (mask : List Bool) (o : Bool) (parts more : List ℕ) (places : List Term) (i k : ℕ) (p : Term) →
    Forming start old b env mask o parts places i → i < length places → p ≡ get_or places i p → get_or mask i false ≡ o →
    IsHeld old new k (instance (filled (env_at (envs (trees old) b) env)) (tree p)) → more ≡ parts ++ k ∷ [] → Forming start new b env mask o more places (i + 1)
forming_more start old new b env mask o parts more places i k p f l e d h g =
    let ts = trees old in
    let us = trees new in
    let x = h.extends in
    let s = envs_stay ts us x b f.binds in
    let S = filled (env_at (envs start b) env) in
    let whole = map (instance S) (map tree places) in
    let a : map (tree_at us) parts ≡ map (tree_at ts) parts = maps_same ts us x parts f.below in
    let c : tree_at us k ≡ instance S (tree p) = h.is ∙ ap (λ es. instance (filled (env_at es env)) (tree p)) f.same in
    let rest = selected o (drop (i + 1) mask) (drop (i + 1) whole) in
    let q : selected o (drop i mask) (drop i whole) ≡ instance S (tree p) ∷ rest = selected_more o mask whole i (instance S (tree p)) (instance_drop S places i p l e) d in
    record {
      arena = h.arena;
      extends = extends-then start ts us f.extends x;
      binds = s.1;
      same = s.0 ∙ f.same;
      below = subst (λ (y : List ℕ). AreBelow (length us) y) (sym g) (below_push (length us) parts k (below_more (length ts) (length us) (extends-length ts us x) parts f.below) h.within);
      are = ap (λ ys. map (tree_at us) ys ++ rest) g ∙ ap (λ ys. ys ++ rest) (map_push (tree_at us) parts k ∙ (λ j. a j ++ c j ∷ []))
          ∙ append_assoc (map (tree_at ts) parts) (instance S (tree p) ∷ []) rest ∙ ap (λ ys. map (tree_at ts) parts ++ ys) (sym q) ∙ f.are;
    }

pub forming_end : (start new : Arena) (b : Binds) (env : ℕ) (mask : List Bool) (o : Bool) (parts : List ℕ) (places : List Term) (i : ℕ) →
    Forming (trees start) new b env mask o parts places i → length places ≤ i → AreHeld start new parts (selected o mask (map (instance (filled (env_at (envs (trees start) b) env))) (map tree places)))
forming_end start new b env mask o parts places i f l =
    let S = filled (env_at (envs (trees start) b) env) in
    let n = length-map places tree in
    let m = length-map (map tree places) (instance S) in
    let a = drop_all i (map (instance S) (map tree places)) (omega arith) in
    record {
      arena = f.arena;
      extends = f.extends;
      within = f.below;
      are = sym (append-nil (map (tree_at (trees new)) parts)) ∙ ap (λ ys. map (tree_at (trees new)) parts ++ ys) (sym (ap (selected o (drop i mask)) a ∙ selected_none o (drop i mask))) ∙ f.are;
    }

-- sizes
lt_true : (m n : ℕ) → m < n → nat_lt m n ≡ true
lt_true m n h = grind (arith, h)

lt_false : (m n : ℕ) → n ≤ m → nat_lt m n ≡ false
lt_false m n h = grind (arith, h)

limit_more : (ts : List Tree) (is : List ℕ) (i : ℕ) → i < length is →
    limit_passed (map (tree_at ts) (drop i is)) ≡ first_cause (term_limit (nat_lt 1000 (depth_of (tree_at ts (get_or is i 0)))) (nat_lt 1000000 (size_of (tree_at ts (get_or is i 0)))) (tree_at ts (get_or is i 0))) (limit_passed (map (tree_at ts) (drop (i + 1) is)))
unfolding limit_passed
limit_more ts is i l = ap (λ xs. limit_passed (map (tree_at ts) xs)) (drop_more is i 0 l)

pub limit_deep : (ts : List Tree) (is : List ℕ) (i n : ℕ) → i < length is → n ≡ min (depth_of (tree_at ts (get_or is i 0))) (2 ^ 64 - 1) → 1000 < n →
    limit_passed (map (tree_at ts) (drop i is)) ≡ limit_passed (map (tree_at ts) is) → (d : ℕ) × (limit_passed (map (tree_at ts) is) ≡ Some (too_deep d)) × (n ≡ min d (2 ^ 64 - 1))
limit_deep ts is i n l e h s =
    let t = tree_at ts (get_or is i 0) in
    let a = lt_true 1000 (depth_of t) (omega arith) in
    (depth_of t, sym s ∙ limit_more ts is i l ∙ ap (λ b. first_cause (term_limit b (nat_lt 1000000 (size_of t)) t) (limit_passed (map (tree_at ts) (drop (i + 1) is)))) a, e)

pub limit_big : (ts : List Tree) (is : List ℕ) (i m n : ℕ) → i < length is → m ≡ min (depth_of (tree_at ts (get_or is i 0))) (2 ^ 64 - 1) → m ≤ 1000 → n ≡ min (size_of (tree_at ts (get_or is i 0))) (2 ^ 64 - 1) → 1000000 < n →
    limit_passed (map (tree_at ts) (drop i is)) ≡ limit_passed (map (tree_at ts) is) → (d : ℕ) × (limit_passed (map (tree_at ts) is) ≡ Some (too_big d)) × (n ≡ min d (2 ^ 64 - 1))
limit_big ts is i m n l e h f g s =
    let t = tree_at ts (get_or is i 0) in
    let a = lt_false 1000 (depth_of t) (omega arith) in
    let b = lt_true 1000000 (size_of t) (omega arith) in
    (size_of t, sym s ∙ limit_more ts is i l ∙ (λ j. first_cause (term_limit (a j) (b j) t) (limit_passed (map (tree_at ts) (drop (i + 1) is)))), (omega arith))

pub limit_none : (ts : List Tree) (is : List ℕ) (i m n : ℕ) → i < length is → m ≡ min (depth_of (tree_at ts (get_or is i 0))) (2 ^ 64 - 1) → m ≤ 1000 → n ≡ min (size_of (tree_at ts (get_or is i 0))) (2 ^ 64 - 1) → n ≤ 1000000 →
    limit_passed (map (tree_at ts) (drop i is)) ≡ limit_passed (map (tree_at ts) is) → limit_passed (map (tree_at ts) (drop (i + 1) is)) ≡ limit_passed (map (tree_at ts) is)
limit_none ts is i m n l e h f g s =
    let t = tree_at ts (get_or is i 0) in
    let a = lt_false 1000 (depth_of t) (omega arith) in
    let b = lt_false 1000000 (size_of t) (omega arith) in
    sym (sym s ∙ limit_more ts is i l ∙ (λ j. first_cause (term_limit (a j) (b j) t) (limit_passed (map (tree_at ts) (drop (i + 1) is)))))

pub limit_end : (ts : List Tree) (is : List ℕ) (i : ℕ) → length is ≤ i → limit_passed (map (tree_at ts) (drop i is)) ≡ limit_passed (map (tree_at ts) is) → limit_passed (map (tree_at ts) is) ≡ None
unfolding limit_passed
limit_end ts is i l s = sym s ∙ ap (λ xs. limit_passed (map (tree_at ts) xs)) (drop_all i is l)

pub held_as : (a b : Arena) (is : List ℕ) (ts us : List Tree) → ts ≡ us → AreHeld a b is ts → AreHeld a b is us
held_as a b is ts us e h = record { arena = h.arena; extends = h.extends; within = h.within; are = h.are ∙ e }
