-- Bare nodes give way to their parts, and the image stays.
use Rattle.std.proofs.Common.{◌≡◌, arith, ℕ, zero, suc, Bool, true, false, ◌+◌, ◌<◌, ◌≤◌, max, take, take_all, drop, get_or, Vec, List, [], ◌∷◌, ◌++◌, map, length, Option, Some, None, refl, sym, ap, ◌∙◌}
use Rattle.std.specs.Prelude.{slice_get, is_some, option_map, ◌||◌}
use Rattle.std.specs.declared.alloc.Global.{Global}
use Rattle.std.proofs.lemmas.List.{map_push, map_more}
use Rattle.std.proofs.Math.ListN.{length-map}
use Rattle.sx_term.specs.declared.term.Term.{Term, Node}
use Rattle.sx_term.specs.Tree.{Tree, Trees, node, lexeme, hole, ◌▹◌, listed, forest, depth_of, greatest_depth}
use Rattle.sx_term.specs.Term.{tree}
use Rattle.sx_term.proofs.Kids.{trees, tree-at_node, greatest_depth-at, listed-forest, trees-drop, trees-drop_all}
use Rattle.sx_term.specs.Instances.{instance, bound_by}
use Rattle.sx_plain.specs.Plain.{Body, Table, image_node, image, images}
use Rattle.sx_plain.specs.Bare.{part_alone, bare_kid, bare_under, gives_way, have_bare}
use Rattle.sx_plain.proofs.Measured.{image-at_node}

-- the kid that a flat body is has its image
part-image : (table : Table) (kids : List Tree) (flat k : Tree) → part_alone kids flat ≡ Some k → image table k ≡ instance (bound_by (listed (images table (forest kids)))) flat
part-image table kids (node label parts) k e = cc
part-image table kids (lexeme kind text) k e = cc
part-image table kids (hole v) k e = go kids v e
  where
    go : (ks : List Tree) (w : ℕ) → slice_get ks w ≡ Some k → image table k ≡ bound_by (listed (images table (forest ks))) w
    go [] zero e = cc
    go [] (suc w) e = cc
    go (t ∷ ts) zero e = let s : t ≡ k = cc in ap (image table) (sym s)
    go (t ∷ ts) (suc w) e = go ts w e

bare-image : (table : Table) (label : ℕ) (kids : List Tree) (k : Tree) (o : Option Body) → table label ≡ o → bare_kid o kids ≡ Some k → image table k ≡ image table (node label (forest kids))
bare-image table label kids k None at e = cc
bare-image table label kids k (Some body) at e =
    part-image table kids body.flat k e
    ∙ ap (λ (o : Option Body). image_node o label (images table (forest kids))) (sym at)

-- and is no deeper than the deepest kid
part-depth : (kids : List Tree) (flat k : Tree) → part_alone kids flat ≡ Some k → depth_of k ≤ greatest_depth (forest kids)
part-depth kids (node label parts) k e = cc
part-depth kids (lexeme kind text) k e = cc
part-depth kids (hole v) k e = go kids v e
  where
    go : (ks : List Tree) (w : ℕ) → slice_get ks w ≡ Some k → depth_of k ≤ greatest_depth (forest ks)
    go [] zero e = cc
    go [] (suc w) e = cc
    go (t ∷ ts) zero e = let s : t ≡ k = cc in let d = ap depth_of s in omega arith
    go (t ∷ ts) (suc w) e = let d = go ts w e in omega arith

bare-depth : (o : Option Body) (kids : List Tree) (k : Tree) → bare_kid o kids ≡ Some k → depth_of k ≤ greatest_depth (forest kids)
bare-depth None kids k e = cc
bare-depth (Some body) kids k e = part-depth kids body.flat k e

-- whether a node gives way depends on how many kids it has
none-past : (ks ms : List Tree) (v : ℕ) → length ks ≡ length ms → slice_get ks v ≡ None → slice_get ms v ≡ None
none-past [] [] v l e = e
none-past [] (m ∷ ms) v l e = absurd (omega arith)
none-past (k ∷ ks) [] v l e = absurd (omega arith)
none-past (k ∷ ks) (m ∷ ms) zero l e = cc
none-past (k ∷ ks) (m ∷ ms) (suc v) l e = none-past ks ms v (omega arith) e

none-alone : (ks ms : List Tree) (flat : Tree) → length ks ≡ length ms → part_alone ks flat ≡ None → part_alone ms flat ≡ None
none-alone ks ms (node label parts) l e = refl
none-alone ks ms (lexeme kind text) l e = refl
none-alone ks ms (hole v) l e = none-past ks ms v l e

none-bare : (o : Option Body) (ks ms : List Tree) → length ks ≡ length ms → bare_kid o ks ≡ None → bare_kid o ms ≡ None
none-bare None ks ms l e = refl
none-bare (Some body) ks ms l e = none-alone ks ms body.flat l e

-- the same of the kids of a term
pub kid_image : (table : Table) (t : Term) (label : ℕ) (kids : Vec Term Global) (ts : List Term) (k : Tree) → t ≡ Node label kids → ts ≡ kids.items → Some k ≡ bare_kid (table label) (map tree ts) →
    image table k ≡ image table (tree t)
kid_image table t label kids ts k e s f =
    bare-image table label (map tree ts) k (table label) refl (sym f)
    ∙ ap (λ (us : List Term). image table (node label (trees us))) s ∙ ap (image table) (sym (tree-at_node t label kids e))

pub kid_depth : (o : Option Body) (t : Term) (label : ℕ) (kids : Vec Term Global) (ts : List Term) (k : Tree) → t ≡ Node label kids → ts ≡ kids.items → Some k ≡ bare_kid o (map tree ts) → depth_of k < depth_of (tree t)
kid_depth o t label kids ts k e s f =
    let a = bare-depth o (map tree ts) k (sym f) in
    let b = ap (λ (us : List Term). greatest_depth (trees us)) s in
    let d = ap depth_of (tree-at_node t label kids e) in omega arith

kids-listed : (table : Table) (t : Term) (label : ℕ) (kids : Vec Term Global) (ts : List Term) → t ≡ Node label kids → ts ≡ kids.items → bare_under table (tree t) ≡ bare_kid (table label) (map tree ts)
kids-listed table t label kids ts e s =
    ap (bare_under table) (tree-at_node t label kids e) ∙ ap (bare_kid (table label)) (listed-forest (map tree kids.items))
    ∙ ap (λ (us : List Term). bare_kid (table label) (map tree us)) (sym s)

pub no_kid : (table : Table) (t : Term) (label : ℕ) (kids : Vec Term Global) (ts : List Term) → t ≡ Node label kids → ts ≡ kids.items → None ≡ bare_kid (table label) (map tree ts) → bare_under table (tree t) ≡ None
no_kid table t label kids ts e s f = kids-listed table t label kids ts e s ∙ sym f

-- whether a node has a node that gives way
has-at : (table : Table) (t : Term) (label : ℕ) (kids : Vec Term Global) (ts : List Term) → t ≡ Node label kids → ts ≡ kids.items → gives_way table (tree t) ≡ (is_some (bare_kid (table label) (map tree ts)) || have_bare table (trees ts))
has-at table t label kids ts e s =
    ap (gives_way table) (tree-at_node t label kids e)
    ∙ ap (λ (o : Option Tree). is_some o || have_bare table (trees kids.items)) (ap (bare_kid (table label)) (listed-forest (map tree kids.items)))
    ∙ ap (λ (us : List Term). is_some (bare_kid (table label) (map tree us)) || have_bare table (trees us)) (sym s)

pub bare_here : (table : Table) (t : Term) (label : ℕ) (kids : Vec Term Global) (ts : List Term) (o : Option Tree) → t ≡ Node label kids → ts ≡ kids.items → o ≡ bare_kid (table label) (map tree ts) → is_some o ≡ true →
    true ≡ gives_way table (tree t)
bare_here table t label kids ts o e s f h =
    sym (has-at table t label kids ts e s ∙ ap (λ (b : Bool). b || have_bare table (trees ts)) (ap is_some (sym f) ∙ h))

pub bare_below : (table : Table) (t : Term) (label : ℕ) (kids : Vec Term Global) (ts us : List Term) (o : Option Tree) (b : Bool) → t ≡ Node label kids → ts ≡ kids.items → us ≡ kids.items → o ≡ bare_kid (table label) (map tree ts) → is_some o ≡ false →
    b ≡ have_bare table (trees us) → b ≡ gives_way table (tree t)
bare_below table t label kids ts us o b e s r f h g =
    g ∙ ap (λ (x : List Term). have_bare table (trees x)) (r ∙ sym s)
    ∙ sym (has-at table t label kids ts e s ∙ ap (λ (x : Bool). x || have_bare table (trees ts)) (ap is_some (sym f) ∙ h))

pub is_there : {A : Type 0} (f : A → Tree) (o : Option A) (b : Bool) → is_some o ≡ b → is_some (option_map f o) ≡ b
is_there f None b e = e
is_there f (Some x) b e = e

-- a kid that has such a node, and kids of which none has one
pub bare_in : (table : Table) (ts : List Term) (i : ℕ) (k : Term) → have_bare table (trees (drop i ts)) ≡ have_bare table (trees ts) → i < length ts → k ≡ get_or ts i k → gives_way table (tree k) ≡ true → true ≡ have_bare table (trees ts)
bare_in table ts i k same l g h =
    sym (sym same ∙ ap (have_bare table) (trees-drop ts i k l g) ∙ ap (λ (b : Bool). b || have_bare table (trees (drop (i + 1) ts))) h)

pub bare_after : (table : Table) (ts : List Term) (i : ℕ) (k : Term) → have_bare table (trees (drop i ts)) ≡ have_bare table (trees ts) → i < length ts → k ≡ get_or ts i k → gives_way table (tree k) ≡ false →
    have_bare table (trees (drop (i + 1) ts)) ≡ have_bare table (trees ts)
bare_after table ts i k same l g h =
    sym (ap (have_bare table) (trees-drop ts i k l g) ∙ ap (λ (b : Bool). b || have_bare table (trees (drop (i + 1) ts))) h) ∙ same

pub none_below : (table : Table) (ts : List Term) (i : ℕ) → have_bare table (trees (drop i ts)) ≡ have_bare table (trees ts) → length ts ≤ i → false ≡ have_bare table (trees ts)
none_below table ts i same l = ap (have_bare table) (sym (trees-drop_all ts i l)) ∙ same

images-forest : (table : Table) (ts : List Term) → images table (trees ts) ≡ forest (map (λ k. image table (tree k)) ts)
images-forest table [] = refl
images-forest table (t ∷ ts) = ap (λ (r : Trees). image table (tree t) ▹ r) (images-forest table ts)

-- a node whose kids have the images of other kids has the image of theirs
pub same_node : (table : Table) (label : ℕ) (made : Vec Term Global) (t : Term) (kids : Vec Term Global) (ts : List Term) (i : ℕ) → map (λ k. image table (tree k)) made.items ≡ map (λ k. image table (tree k)) (take i ts) →
    length ts ≤ i → t ≡ Node label kids → ts ≡ kids.items → image table (tree (Node label made)) ≡ image table (tree t)
same_node table label made t kids ts i g l e s =
    image-at_node table (Node label made) label made refl
    ∙ ap (image_node (table label) label) (images-forest table made.items
    ∙ ap (λ (us : List Tree). forest us) (g ∙ ap (map (λ k. image table (tree k))) (take_all i ts l ∙ s))
    ∙ sym (images-forest table kids.items))
    ∙ sym (image-at_node table t label kids e)

none-first : (a b : Bool) → (a || b) ≡ false → a ≡ false
none-first true b e = e
none-first false b e = refl

none-second : (a b : Bool) → (a || b) ≡ false → b ≡ false
none-second true b e = cc
none-second false b e = e

none-either : (a b : Bool) → a ≡ false → b ≡ false → (a || b) ≡ false
none-either a b e f = ap (λ (x : Bool). x || b) e ∙ f

have-push : (table : Table) (ts : List Term) (t : Term) → have_bare table (trees ts) ≡ false → gives_way table (tree t) ≡ false → have_bare table (trees (ts ++ t ∷ [])) ≡ false
have-push table [] t e h = ap (λ (b : Bool). b || false) h
have-push table (x ∷ ts) t e h = none-either _ _ (none-first _ _ e) (have-push table ts t (none-second _ _ e) h)

greatest-push : (ts : List Term) (t : Term) → greatest_depth (trees (ts ++ t ∷ [])) ≡ max (greatest_depth (trees ts)) (depth_of (tree t))
greatest-push [] t = omega arith
greatest-push (x ∷ ts) t = let h = greatest-push ts t in omega arith

-- the kids so far with one more
pub record Without (table : Table) (made ts : List Term) (i : ℕ) : Type 0 where
  pub clear : have_bare table (trees made) ≡ false
  pub same : map (λ k. image table (tree k)) made ≡ map (λ k. image table (tree k)) (take i ts)
  pub depth : greatest_depth (trees made) ≤ greatest_depth (trees ts)

pub without_more : (table : Table) (made more ts : List Term) (i : ℕ) (k t : Term) → Without table made ts i → i < length ts → k ≡ get_or ts i k → gives_way table (tree t) ≡ false → image table (tree t) ≡ image table (tree k) → depth_of (tree t) ≤ depth_of (tree k) →
    more ≡ made ++ t ∷ [] → Without table more ts (i + 1)
without_more table made more ts i k t w l g h e d m =
    let f : Term → Tree = λ (x : Term). image table (tree x) in
    let a = w.same in
    record {
      clear = ap (λ (us : List Term). have_bare table (trees us)) m ∙ have-push table made t w.clear h;
      same = ap (map f) m ∙ map_push f made t ∙ (λ j. a j ++ e j ∷ []) ∙ sym (map_more f ts i k l ∙ ap (λ (x : Term). map f (take i ts) ++ f x ∷ []) (sym g));
      depth = (let p = greatest_depth-at ts i k l g in
          let q = ap (λ (x : List Term). greatest_depth (trees x)) m in
          let r = greatest-push made t in
          let s = w.depth in omega arith);
    }

-- a kid is less deep than its node
pub kid_less : (t : Term) (label : ℕ) (kids : Vec Term Global) (i : ℕ) (k : Term) → t ≡ Node label kids → i < length kids.items → k ≡ get_or kids.items i k → depth_of (tree k) < depth_of (tree t)
kid_less t label kids i k e l g =
    let a = greatest_depth-at kids.items i k l g in
    let b = ap depth_of (tree-at_node t label kids e) in omega arith

pub without_none : (table : Table) (made ts : List Term) → made ≡ [] → Without table made ts 0
without_none table made ts e = record {
  clear = ap (λ (us : List Term). have_bare table (trees us)) e;
  same = ap (map (λ k. image table (tree k))) e;
  depth = (let q = ap (λ (x : List Term). greatest_depth (trees x)) e in omega arith);
}

pub without_depth : (table : Table) (label : ℕ) (made : Vec Term Global) (t : Term) (kids : Vec Term Global) (i : ℕ) → Without table made.items kids.items i → t ≡ Node label kids → depth_of (tree (Node label made)) ≤ depth_of (tree t)
without_depth table label made t kids i w e =
    let a = w.depth in
    let b = ap depth_of (tree-at_node t label kids e) in
    let c = ap depth_of (tree-at_node (Node label made) label made refl) in omega arith

-- a node that is made of such kids has none, as it did not give way to a kid
length-same : (table : Table) (us vs : List Term) → map (λ k. image table (tree k)) us ≡ map (λ k. image table (tree k)) vs → length (map tree us) ≡ length (map tree vs)
length-same table us vs e =
    length-map us tree ∙ sym (length-map us (λ k. image table (tree k))) ∙ ap length e ∙ length-map vs (λ k. image table (tree k)) ∙ sym (length-map vs tree)

pub without_clear : (table : Table) (label : ℕ) (made : Vec Term Global) (t : Term) (kids : Vec Term Global) (ts : List Term) (i : ℕ) → Without table made.items ts i → length ts ≤ i → t ≡ Node label kids → ts ≡ kids.items →
    bare_under table (tree t) ≡ None → gives_way table (tree (Node label made)) ≡ false
without_clear table label made t kids ts i w l e s n =
    let same = length-same table made.items ts (w.same ∙ ap (map (λ (k : Term). image table (tree k))) (take_all i ts l)) in
    let here : bare_kid (table label) (map tree made.items) ≡ None = none-bare (table label) (map tree ts) (map tree made.items) (sym same) (sym (kids-listed table t label kids ts e s) ∙ n) in
    has-at table (Node label made) label made made.items refl refl
    ∙ ap (λ (o : Option Tree). is_some o || have_bare table (trees made.items)) here ∙ w.clear
