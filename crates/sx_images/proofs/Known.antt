-- What is known of plain images stays known.
use Rattle.std.proofs.Common.{arith, ℕ, List, Option, sym, ap, ◌∙◌, subst}
use Rattle.sx_term.specs.Tree.{Tree, node, none}
use Rattle.sx_plain.specs.declared.measure.Measure.{Measure}
use Rattle.sx_plain.specs.Plain.{Table, image}
use Rattle.sx_arena.specs.Grown.{Extends}
use Rattle.sx_arena.proofs.Growing.{extends-at, extends-length}
use Rattle.sx_images.specs.Images.{IsMeasure, AreMeasured, AreImagesNoted}
use Rattle.sx_images.specs.Laws.{ImagesStayKnown}

pub measures_stay : (table : Table) (old new : List Tree) (notes : List (Option Measure)) → Extends old new → AreMeasured table old notes → AreMeasured table new notes
measures_stay table old new notes x known = λ i m e.
    let h = known i m e in
    let n = extends-length old new x in
    record {
      within = (let w = h.within in omega arith);
      measure = subst (λ (t : Tree). IsMeasure table t m) (sym (extends-at old new x i (node 0 none) h.within)) h.measure;
    }

pub made_stay : (table : Table) (old new : List Tree) (notes : List (Option ℕ)) → Extends old new → AreImagesNoted table old notes → AreImagesNoted table new notes
made_stay table old new notes x known = λ i j e.
    let h = known i j e in
    let n = extends-length old new x in
    record {
      within = (let w = h.within in omega arith);
      stands = (let w = h.stands in omega arith);
      is = extends-at old new x j (node 0 none) h.stands ∙ h.is ∙ ap (image table) (sym (extends-at old new x i (node 0 none) h.within));
    }

pub images_stay_known : ImagesStayKnown
images_stay_known table old new images x known = record {
  measures = measures_stay table old new images.measures.items x known.measures;
  numbers = made_stay table old new images.numbers.items x known.numbers;
}
