-- Plain images of instances.
use Rattle.std.proofs.Common.{◌≡◌, ℕ, List, ◌∷◌, map, Option, Some, None, refl, sym, ap, ◌∙◌}
use Rattle.sx_term.specs.Tree.{Tree, Trees, node, lexeme, hole, none, ◌▹◌, listed}
use Rattle.sx_term.specs.Instances.{instance, instances, bound_by}
use Rattle.sx_term.proofs.Instancing.{instance-bound}
use Rattle.sx_plain.specs.Plain.{Body, Table, image_node, image, images}
use Rattle.sx_plain.specs.Laws.{ImagesOfInstances}

listed-instances : (s : ℕ → Tree) (ts : Trees) → listed (instances s ts) ≡ map (instance s) (listed ts)
listed-instances s none = refl
listed-instances s (t ▹ ts) = ap (λ (us : List Tree). instance s t ∷ us) (listed-instances s ts)

image_node-instances : (s : ℕ → Tree) (body : Option Body) (label : ℕ) (ts : Trees) → image_node body label (instances s ts) ≡ instance s (image_node body label ts)
image_node-instances s None label ts = refl
image_node-instances s (Some body) label ts =
    ap (λ (us : List Tree). instance (bound_by us) body.flat) (listed-instances s ts) ∙ sym (instance-bound s (listed ts) body.flat)

module _ (table : Table) where
  abbrev after : (ℕ → Tree) → ℕ → Tree
  after s v = image table (s v)

  mutual
    pub image-instance : (s : ℕ → Tree) (t : Tree) → image table (instance s t) ≡ instance (after s) (image table t)
    image-instance s (node label ts) =
        ap (image_node (table label) label) (images-instances s ts) ∙ image_node-instances (after s) (table label) label (images table ts)
    image-instance s (lexeme kind text) = refl
    image-instance s (hole v) = refl

    pub images-instances : (s : ℕ → Tree) (ts : Trees) → images table (instances s ts) ≡ instances (after s) (images table ts)
    images-instances s none = refl
    images-instances s (t ▹ ts) =
        let a = image-instance s t in
        let b = images-instances s ts in cc

pub images_of_instances : ImagesOfInstances
images_of_instances table s t = image-instance table s t
