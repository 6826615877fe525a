-- Plain tables, and the terms that they are for.
use Rattle.std.proofs.Common.{◌≡◌, arith, ℕ, zero, suc, ◌<◌, List, [], ◌∷◌, ◌++◌, ◌⊎◌, inl, inr, length, Option, Some, None, refl, sym, ap, ◌∙◌, subst}
use Rattle.std.specs.Prelude.{slice_get, IsSome}
use Rattle.std.proofs.lemmas.Option.{slice_get_within}
use Rattle.sx_term.specs.Tree.{Tree, Trees, node, lexeme, hole, none, ◌▹◌, listed}
use Rattle.sx_term.specs.declared.sort.Sort.{Sort}
use Rattle.sx_term.specs.Sorts.{Shape, HasSort, KidsHaveSorts}
use Rattle.sx_term.specs.Instances.{instance, instances, Stands, StandsInKids, StandsAmong}
use Rattle.sx_term.specs.Instances.{bound_by}
use Rattle.sx_term.specs.Untyped.{IsUntypedSort, PlainHaveNoTyped, AreUntypedSorts}
use Rattle.sx_plain.specs.Plain.{Body, Table, image_node, image, images}
use Rattle.sx_plain.specs.Tables.{LabelsBelow, AllLabelsBelow, IsFlat, IsPlainTable, HasParts}
use Rattle.sx_plain.specs.Tables.{FitsTable, FitTable, IsCovered, AreCovered, Begins, IsBodyFor}
use Rattle.sx_plain.specs.Tables.{HasBodies, Desugars}
use Rattle.sx_plain.specs.Laws.{ImagesKeepVariables, BaseTermsStay, ImagesAreBase, ImagesStay}
use Rattle.sx_plain.specs.Laws.{ImagesAreSorted, PlainTermsAreCovered, SortedTermsFitTables}
use Rattle.sx_plain.specs.Laws.{SortedTermsAreBelow}

-- the variables of an instance
mutual
  pub stands-instance : (s : ℕ → Tree) (t : Tree) (v : ℕ) → Stands v (instance s t) → (w : ℕ) × Stands w t × Stands v (s w)
  stands-instance s (node label ts) v h = stands-instances s ts v h
  stands-instance s (lexeme kind text) v h = absurd h
  stands-instance s (hole w) v h = (w, refl, h)

  pub stands-instances : (s : ℕ → Tree) (ts : Trees) (v : ℕ) → StandsInKids v (instances s ts) → (w : ℕ) × StandsInKids w ts × Stands v (s w)
  stands-instances s none v h = absurd h
  stands-instances s (t ▹ ts) v (inl h) = let k = stands-instance s t v h in (k.0, inl k.1, k.2)
  stands-instances s (t ▹ ts) v (inr h) = let k = stands-instances s ts v h in (k.0, inr k.1, k.2)

mutual
  pub instance-stands : (s : ℕ → Tree) (t : Tree) (v w : ℕ) → Stands w t → Stands v (s w) → Stands v (instance s t)
  instance-stands s (node label ts) v w h k = instances-stand s ts v w h k
  instance-stands s (lexeme kind text) v w h k = absurd h
  instance-stands s (hole u) v w h k = subst (λ (x : ℕ). Stands v (s x)) h k

  pub instances-stand : (s : ℕ → Tree) (ts : Trees) (v w : ℕ) → StandsInKids w ts → Stands v (s w) → StandsInKids v (instances s ts)
  instances-stand s none v w h k = absurd h
  instances-stand s (t ▹ ts) v w (inl h) k = inl (instance-stands s t v w h k)
  instances-stand s (t ▹ ts) v w (inr h) k = inr (instances-stand s ts v w h k)

pub stands-bound : (us : List Tree) (w v : ℕ) → Stands v (bound_by us w) → StandsAmong v us
stands-bound [] w v h = h
stands-bound (u ∷ us) zero v h = inl h
stands-bound (u ∷ us) (suc w) v h = inr (stands-bound us w v h)

-- a variable of the terms stands in one that is bound
pub among-bound : (us : List Tree) (v : ℕ) → StandsAmong v us → (w : ℕ) × (w < length us) × Stands v (bound_by us w)
among-bound [] v h = absurd h
among-bound (u ∷ us) v (inl h) = (zero, omega arith, h)
among-bound (u ∷ us) v (inr h) = let k = among-bound us v h in (suc k.0, (let l = k.1 in omega arith), k.2)

pub stands-listed : (ts : Trees) (v : ℕ) → StandsAmong v (listed ts) → StandsInKids v ts
stands-listed none v h = h
stands-listed (t ▹ ts) v (inl h) = inl h
stands-listed (t ▹ ts) v (inr h) = inr (stands-listed ts v h)

pub listed-stands : (ts : Trees) (v : ℕ) → StandsInKids v ts → StandsAmong v (listed ts)
listed-stands none v h = h
listed-stands (t ▹ ts) v (inl h) = inl h
listed-stands (t ▹ ts) v (inr h) = inr (listed-stands ts v h)

length-images : (table : Table) (ts : Trees) → length (listed (images table ts)) ≡ length (listed ts)
length-images table none = refl
length-images table (t ▹ ts) = let e = length-images table ts in omega arith

stands-image_node : (body : Option Body) (label : ℕ) (ts : Trees) (v : ℕ) → Stands v (image_node body label ts) → StandsInKids v ts
stands-image_node None label ts v h = h
stands-image_node (Some body) label ts v h =
    let k = stands-instance (bound_by (listed ts)) body.flat v h in stands-listed ts v (stands-bound (listed ts) k.0 v k.2)

image_node-stands : (base : ℕ) (o : Option Body) (label : ℕ) (ts : Trees) (v : ℕ) → ((body : Body) → o ≡ Some body → IsFlat base body) → HasParts o ts →
    StandsInKids v ts → Stands v (image_node o label ts)
image_node-stands base None label ts v f p h = h
image_node-stands base (Some body) label ts v f p h =
    let k = among-bound (listed ts) v (listed-stands ts v h) in
    let small : k.0 < body.arity = (let l = k.1 in let e : length (listed ts) ≡ body.arity = p in omega arith) in
    instance-stands (bound_by (listed ts)) body.flat v k.0 (((f body refl).parts k.0).1 small) k.2

parts-images : (table : Table) (o : Option Body) (ts : Trees) → HasParts o ts → HasParts o (images table ts)
parts-images table None ts h = tt
parts-images table (Some body) ts h = length-images table ts ∙ h

module _ (table : Table) where
  mutual
    pub stands-image : (t : Tree) (v : ℕ) → Stands v (image table t) → Stands v t
    stands-image (node label ts) v h = stands_images ts v (stands-image_node (table label) label (images table ts) v h)
    stands-image (lexeme kind text) v h = h
    stands-image (hole w) v h = h

    stands_images : (ts : Trees) (v : ℕ) → StandsInKids v (images table ts) → StandsInKids v ts
    stands_images none v h = h
    stands_images (t ▹ ts) v (inl h) = inl (stands-image t v h)
    stands_images (t ▹ ts) v (inr h) = inr (stands_images ts v h)

module _ (base : ℕ) (table : Table) (is : IsPlainTable base table) where
  mutual
    pub image-stands : (t : Tree) (v : ℕ) → FitsTable table t → Stands v t → Stands v (image table t)
    image-stands (node label ts) v f h =
        image_node-stands base (table label) label (images table ts) v (is.flat label) (parts-images table (table label) ts f.0) (images-stand ts v f.1 h)
    image-stands (lexeme kind text) v f h = h
    image-stands (hole w) v f h = h

    images-stand : (ts : Trees) (v : ℕ) → FitTable table ts → StandsInKids v ts → StandsInKids v (images table ts)
    images-stand none v f h = h
    images-stand (t ▹ ts) v f (inl h) = inl (image-stands t v f.0 h)
    images-stand (t ▹ ts) v f (inr h) = inr (images-stand ts v f.1 h)

  mutual
    pub base-stays : (t : Tree) → LabelsBelow base t → image table t ≡ t
    base-stays (node label ts) h = ap (λ (o : Option Body). image_node o label (images table ts)) (is.keeps_base label h.0) ∙ ap (node label) (all_base-stay ts h.1)
    base-stays (lexeme kind text) h = refl
    base-stays (hole v) h = refl

    all_base-stay : (ts : Trees) → AllLabelsBelow base ts → images table ts ≡ ts
    all_base-stay none h = refl
    all_base-stay (t ▹ ts) h =
        let a = base-stays t h.0 in
        let b = all_base-stay ts h.1 in cc

pub images_keep_variables : ImagesKeepVariables
images_keep_variables base table t is f v = (stands-image table t v, image-stands base table is t v f)

pub base_terms_stay : BaseTermsStay
base_terms_stay base table t is h = base-stays base table is t h

-- tables that agree
module _ (n : ℕ) (table other : Table) (agree : (label : ℕ) → label < n → table label ≡ other label) where
  mutual
    image-same : (t : Tree) → LabelsBelow n t → image table t ≡ image other t
    image-same (node label ts) h =
        let a = agree label h.0 in
        let b = images-same ts h.1 in
        ap (λ (o : Option Body). image_node o label (images table ts)) a ∙ ap (image_node (other label) label) b
    image-same (lexeme kind text) h = refl
    image-same (hole v) h = refl

    images-same : (ts : Trees) → AllLabelsBelow n ts → images table ts ≡ images other ts
    images-same none h = refl
    images-same (t ▹ ts) h =
        let a = image-same t h.0 in
        let b = images-same ts h.1 in cc

pub images_stay : ImagesStay
images_stay n table other t agree h = image-same n table other agree t h

-- labels of instances
module _ (n : ℕ) (s : ℕ → Tree) where
  mutual
    pub instance-below : (t : Tree) → ((v : ℕ) → Stands v t → LabelsBelow n (s v)) → LabelsBelow n t → LabelsBelow n (instance s t)
    instance-below (node label ts) f h = (h.0, instances-below ts f h.1)
    instance-below (lexeme kind text) f h = tt
    instance-below (hole v) f h = f v refl

    pub instances-below : (ts : Trees) → ((v : ℕ) → StandsInKids v ts → LabelsBelow n (s v)) → AllLabelsBelow n ts → AllLabelsBelow n (instances s ts)
    instances-below none f h = tt
    instances-below (t ▹ ts) f h = (instance-below t (λ v k. f v (inl k)) h.0, instances-below ts (λ v k. f v (inr k)) h.1)

bound-below : (n : ℕ) (ts : Trees) (v : ℕ) → v < length (listed ts) → AllLabelsBelow n ts → LabelsBelow n (bound_by (listed ts) v)
bound-below n none v l h = absurd (omega arith)
bound-below n (t ▹ ts) zero l h = h.0
bound-below n (t ▹ ts) (suc v) l h = bound-below n ts v (omega arith) h.1

no_entry : IsSome (let o : Option Body = None in o) → ⊥
no_entry x = cc

node-below : (base : ℕ) (o : Option Body) (label : ℕ) (ts : Trees) → ((body : Body) → o ≡ Some body → IsFlat base body) → HasParts o ts →
    (label < base) ⊎ IsSome o → AllLabelsBelow base ts → LabelsBelow base (image_node o label ts)
node-below base None label ts f p (inl l) h = (l, h)
node-below base None label ts f p (inr x) h = absurd (no_entry x)
node-below base (Some body) label ts f p c h =
    let is = f body refl in
    instance-below base (bound_by (listed ts)) body.flat
    (λ v k. bound-below base ts v (let l = (is.parts v).0 k in let e : length (listed ts) ≡ body.arity = p in omega arith) h) is.labels

module _ (base : ℕ) (table : Table) (is : IsPlainTable base table) where
  mutual
    pub image-base : (t : Tree) → FitsTable table t → IsCovered base table t → LabelsBelow base (image table t)
    image-base (node label ts) f c =
        node-below base (table label) label (images table ts) (is.flat label) (parts-images table (table label) ts f.0) c.0 (images-base ts f.1 c.1)
    image-base (lexeme kind text) f c = tt
    image-base (hole v) f c = tt

    pub images-base : (ts : Trees) → FitTable table ts → AreCovered base table ts → AllLabelsBelow base (images table ts)
    images-base none f c = tt
    images-base (t ▹ ts) f c = (image-base t f.0 c.0, images-base ts f.1 c.1)

pub images_are_base : ImagesAreBase
images_are_base base table t is f c = image-base base table is t f c

-- sorts
pub begins-at : (base shapes : List Shape) (label : ℕ) → Begins base shapes → label < length base → slice_get base label ≡ slice_get shapes label
begins-at base shapes label b l = go base label l ∙ ap (λ (ss : List Shape). slice_get ss label) (sym b.1)
  where
    go : (ss : List Shape) (i : ℕ) → i < length ss → slice_get ss i ≡ slice_get (ss ++ b.0) i
    go [] i k = absurd (omega arith)
    go (x ∷ xs) zero k = refl
    go (x ∷ xs) (suc i) k = go xs i (omega arith)

module _ (base : List Shape) (vars more : List Sort) (s : ℕ → Tree) (h : (v : ℕ) (sort : Sort) → slice_get vars v ≡ Some sort → HasSort base more (s v) sort) where
  mutual
    pub instance-sorted : (t : Tree) (sort : Sort) → HasSort base vars t sort → HasSort base more (instance s t) sort
    instance-sorted (node label ts) sort k = (k.0, k.1, k.2, instances-sorted ts k.0.kids k.3)
    instance-sorted (lexeme kind text) sort k = k
    instance-sorted (hole v) sort k = h v sort k

    pub instances-sorted : (ts : Trees) (sorts : List Sort) → KidsHaveSorts base vars ts sorts → KidsHaveSorts base more (instances s ts) sorts
    instances-sorted none [] k = tt
    instances-sorted none (x ∷ xs) k = absurd k
    instances-sorted (t ▹ ts) [] k = absurd k
    instances-sorted (t ▹ ts) (x ∷ xs) k = (instance-sorted t x k.0, instances-sorted ts xs k.1)

pub kids-bound : (base : List Shape) (vars : List Sort) (ts : Trees) (sorts : List Sort) (v : ℕ) (sort : Sort) → KidsHaveSorts base vars ts sorts →
    slice_get sorts v ≡ Some sort → HasSort base vars (bound_by (listed ts) v) sort
kids-bound base vars none [] v sort h e = cc
kids-bound base vars none (x ∷ xs) v sort h e = absurd h
kids-bound base vars (t ▹ ts) [] v sort h e = absurd h
kids-bound base vars (t ▹ ts) (x ∷ xs) zero sort h e = let q : x ≡ sort = cc in subst (λ (y : Sort). HasSort base vars t y) q h.0
kids-bound base vars (t ▹ ts) (x ∷ xs) (suc v) sort h e = kids-bound base vars ts xs v sort h.1 e

module _ (base shapes : List Shape) (table : Table) (vars : List Sort) (begins : Begins base shapes) (d : HasBodies base shapes table) where
  node-sorted : (label : ℕ) (ts : Trees) (shape : Shape) (o : Option Body) → table label ≡ o → slice_get shapes label ≡ Some shape → (label < length base) ⊎ IsSome o →
      KidsHaveSorts base vars ts shape.kids → HasSort base vars (image_node o label ts) shape.sort
  node-sorted label ts shape None e at (inl l) k = (shape, begins-at base shapes label begins l ∙ at, refl, k)
  node-sorted label ts shape None e at (inr x) k = absurd (no_entry x)
  node-sorted label ts shape (Some body) e at c k =
      let known = d label body e in
      let same : Some known.0 ≡ Some shape = sym known.1 ∙ at in
      let q : known.0 ≡ shape = cc in
      let is = subst (λ (x : Shape). IsBodyFor base x body) q known.3 in
      instance-sorted base shape.kids vars (bound_by (listed ts)) (λ v sort f. kids-bound base vars ts shape.kids v sort k f) body.flat shape.sort is.sorted

  mutual
    pub sorted-image : (t : Tree) (sort : Sort) → HasSort shapes vars t sort → IsCovered (length base) table t → HasSort base vars (image table t) sort
    sorted-image (node label ts) sort h c =
        subst (λ (x : Sort). HasSort base vars (image_node (table label) label (images table ts)) x) h.2
        (node-sorted label (images table ts) h.0 (table label) refl h.1 c.0 (sorted-images ts h.0.kids h.3 c.1))
    sorted-image (lexeme kind text) sort h c = h
    sorted-image (hole v) sort h c = h

    sorted-images : (ts : Trees) (sorts : List Sort) → KidsHaveSorts shapes vars ts sorts → AreCovered (length base) table ts → KidsHaveSorts base vars (images table ts) sorts
    sorted-images none [] h c = tt
    sorted-images none (x ∷ xs) h c = absurd h
    sorted-images (t ▹ ts) [] h c = absurd h
    sorted-images (t ▹ ts) (x ∷ xs) h c = (sorted-image t x h.0 c.0, sorted-images ts xs h.1 c.1)

pub image-sorted : (base shapes : List Shape) (table : Table) (vars : List Sort) → Begins base shapes → Desugars base shapes table →
    (t : Tree) (sort : Sort) → HasSort shapes vars t sort → IsCovered (length base) table t → HasSort base vars (image table t) sort
image-sorted base shapes table vars begins d t sort h c = sorted-image base shapes table vars begins d.bodies t sort h c

pub images_are_sorted : ImagesAreSorted
images_are_sorted base shapes table vars t sort begins d h c = image-sorted base shapes table vars begins d t sort h c

module _ (base shapes : List Shape) (table : Table) (vars : List Sort) (no_typed : PlainHaveNoTyped shapes) (d : Desugars base shapes table) where
  mutual
    pub plain-covered : (t : Tree) (sort : Sort) → HasSort shapes vars t sort → IsUntypedSort sort → IsCovered (length base) table t
    plain-covered (node label ts) sort h u =
        let u' : IsUntypedSort h.0.sort = (λ n e. u n (sym h.2 ∙ e)) in
        (d.every label h.0 h.1 u', plains-covered ts h.0.kids h.3 (no_typed label h.0 h.1 u'))
    plain-covered (lexeme kind text) sort h u = tt
    plain-covered (hole v) sort h u = tt

    plains-covered : (ts : Trees) (sorts : List Sort) → KidsHaveSorts shapes vars ts sorts → AreUntypedSorts sorts → AreCovered (length base) table ts
    plains-covered none sorts h u = tt
    plains-covered (t ▹ ts) [] h u = absurd h
    plains-covered (t ▹ ts) (x ∷ xs) h u = (plain-covered t x h.0 u.0, plains-covered ts xs h.1 u.1)

pub plain_terms_are_covered : PlainTermsAreCovered
plain_terms_are_covered base shapes table vars t sort no_typed d h u = plain-covered base shapes table vars no_typed d t sort h u

length-kids : (shapes : List Shape) (vars : List Sort) (ts : Trees) (sorts : List Sort) → KidsHaveSorts shapes vars ts sorts → length (listed ts) ≡ length sorts
length-kids shapes vars none [] h = refl
length-kids shapes vars none (x ∷ xs) h = absurd h
length-kids shapes vars (t ▹ ts) [] h = absurd h
length-kids shapes vars (t ▹ ts) (x ∷ xs) h = let e = length-kids shapes vars ts xs h.1 in omega arith

module _ (base shapes : List Shape) (table : Table) (vars : List Sort) (d : HasBodies base shapes table) where
  sorted-parts : (label : ℕ) (ts : Trees) (shape : Shape) (o : Option Body) → table label ≡ o → slice_get shapes label ≡ Some shape → length (listed ts) ≡ length shape.kids → HasParts o ts
  sorted-parts label ts shape None e at n = tt
  sorted-parts label ts shape (Some body) e at n =
      let known = d label body e in
      let same : Some known.0 ≡ Some shape = sym known.1 ∙ at in
      let q : known.0 ≡ shape = cc in
      n ∙ sym (known.3.many ∙ ap (λ (x : Shape). length x.kids) q)

  mutual
    pub fits-sorted : (t : Tree) (sort : Sort) → HasSort shapes vars t sort → FitsTable table t
    fits-sorted (node label ts) sort h =
        (sorted-parts label ts h.0 (table label) refl h.1 (length-kids shapes vars ts h.0.kids h.3), fit-sorted ts h.0.kids h.3)
    fits-sorted (lexeme kind text) sort h = tt
    fits-sorted (hole v) sort h = tt

    fit-sorted : (ts : Trees) (sorts : List Sort) → KidsHaveSorts shapes vars ts sorts → FitTable table ts
    fit-sorted none sorts h = tt
    fit-sorted (t ▹ ts) [] h = absurd h
    fit-sorted (t ▹ ts) (x ∷ xs) h = (fits-sorted t x h.0, fit-sorted ts xs h.1)

pub sorted-fits : (base shapes : List Shape) (table : Table) (vars : List Sort) → Desugars base shapes table →
    (t : Tree) (sort : Sort) → HasSort shapes vars t sort → FitsTable table t
sorted-fits base shapes table vars d t sort h = fits-sorted base shapes table vars d.bodies t sort h

pub sorted_terms_fit_tables : SortedTermsFitTables
sorted_terms_fit_tables base shapes table vars t sort d h = fits-sorted base shapes table vars d t sort h

-- the labels of a well sorted term are those of the shapes
mutual
  pub sorted-below : (shapes : List Shape) (vars : List Sort) (t : Tree) (sort : Sort) → HasSort shapes vars t sort → LabelsBelow (length shapes) t
  sorted-below shapes vars (node label ts) sort h = (slice_get_within shapes label h.0 h.1, all_sorted-below shapes vars ts h.0.kids h.3)
  sorted-below shapes vars (lexeme kind text) sort h = tt
  sorted-below shapes vars (hole v) sort h = tt

  all_sorted-below : (shapes : List Shape) (vars : List Sort) (ts : Trees) (sorts : List Sort) → KidsHaveSorts shapes vars ts sorts → AllLabelsBelow (length shapes) ts
  all_sorted-below shapes vars none sorts h = tt
  all_sorted-below shapes vars (t ▹ ts) [] h = absurd h
  all_sorted-below shapes vars (t ▹ ts) (x ∷ xs) h = (sorted-below shapes vars t x h.0, all_sorted-below shapes vars ts xs h.1)

pub sorted_terms_are_below : SortedTermsAreBelow
sorted_terms_are_below shapes vars t sort h = sorted-below shapes vars t sort h
