-- Plain images that are put, one variable after another.
use Rattle.std.proofs.Common.{◌≡◌, arith, ℕ, zero, suc, ◌+◌, ◌<◌, ◌≤◌, take, get_or, length, List, [], ◌∷◌, ◌++◌, map, refl, sym, ap, ◌∙◌, subst}
use Rattle.sx_term.specs.declared.term.Term.{Term}
use Rattle.sx_term.specs.declared.sort.Sort.{Sort}
use Rattle.sx_term.specs.Term.{tree}
use Rattle.sx_term.specs.Tree.{Tree, greatest_depth, forest}
use Rattle.sx_plain.specs.declared.measure.Measure.{Measure}
use Rattle.sx_plain.specs.Plain.{Table}
use Rattle.sx_plain.specs.Tables.{FitsTable, FitTable}
use Rattle.sx_plain.specs.Measures.{greatest}
use Rattle.sx_plain.specs.PartMeasures.{depths_of}
use Rattle.sx_rewrite.specs.declared.put_term.PutTerm.{PutTerm}
use Rattle.sx_rewrite.specs.Puts.{AreMeasuresOf, AreMadeOf}
use Rattle.sx_rewrite.specs.PutImages.{IsTermPut, image_for, images_for}
use Rattle.sx_rewrite.proofs.Instanced.{deep-both, greatest-both, measures-both, tree-both}

made-both : (ts us xs ys : List Tree) → AreMadeOf ts us → AreMadeOf xs ys → AreMadeOf (ts ++ xs) (us ++ ys)
made-both [] [] xs ys h k = k
made-both [] (u ∷ us) xs ys h k = absurd h
made-both (t ∷ ts) [] xs ys h k = absurd h
made-both (t ∷ ts) (u ∷ us) xs ys h k = (h.0, made-both ts us xs ys h.1 k)

images-to : (table : Table) (sorts : List Sort) (ts : List Term) (i : ℕ) (sort : Sort) (t : Term) → length ts ≡ length sorts → i < length ts → sort ≡ get_or sorts i sort → t ≡ get_or ts i t →
    take (i + 1) (images_for table sorts (map tree ts)) ≡ take i (images_for table sorts (map tree ts)) ++ image_for table sort (tree t) ∷ []
images-to table [] [] i sort t n l e f = absurd (omega (arith, l))
images-to table [] (x ∷ ts) i sort t n l e f = absurd (omega (arith, n))
images-to table (s ∷ sorts) [] i sort t n l e f = absurd (omega (arith, l))
images-to table (s ∷ sorts) (x ∷ ts) zero sort t n l e f =
    let a = ap (λ (y : Sort). image_for table y (tree x) ∷ []) e in
    let b = ap (λ (y : Term). image_for table sort (tree y) ∷ []) f in sym (b ∙ a)
images-to table (s ∷ sorts) (x ∷ ts) (suc i) sort t n l e f =
    let m : suc i + 1 ≡ suc (i + 1) = omega arith in
    rw m (ap (λ (us : List Tree). image_for table s (tree x) ∷ us) (images-to table sorts ts i sort t (omega (arith, n)) (omega (arith, l)) e f))

images-all : (table : Table) (sorts : List Sort) (ts : List Term) (i : ℕ) → length ts ≤ i → take i (images_for table sorts (map tree ts)) ≡ images_for table sorts (map tree ts)
images-all table [] ts zero l = refl
images-all table [] ts (suc i) l = refl
images-all table (s ∷ sorts) [] zero l = refl
images-all table (s ∷ sorts) [] (suc i) l = refl
images-all table (s ∷ sorts) (x ∷ ts) zero l = absurd (omega (arith, l))
images-all table (s ∷ sorts) (x ∷ ts) (suc i) l = ap (λ (us : List Tree). image_for table s (tree x) ∷ us) (images-all table sorts ts i (omega (arith, l)))

-- the images up to a place are put
pub record ImagesSoFar (table : Table) (sorts : List Sort) (ts : List Term) (i : ℕ) (made : List Term) (ms : List Measure) : Type 0 where
  pub shallow : greatest_depth (forest (map tree made)) ≤ 1000
  pub low : greatest (depths_of ms) ≤ 1001000
  pub measured : AreMeasuresOf (take i (images_for table sorts (map tree ts))) ms
  pub made_are : AreMadeOf (take i (images_for table sorts (map tree ts))) (map tree made)

pub no-images : (table : Table) (sorts : List Sort) (ts : List Term) → ImagesSoFar table sorts ts 0 [] []
no-images table sorts ts = record { shallow = omega arith; low = omega arith; measured = tt; made_are = tt }

module _ (table : Table) (sorts : List Sort) (ts : List Term) (i : ℕ) (made : List Term) (ms : List Measure) (so : ImagesSoFar table sorts ts i made ms) where
  pub images-step : (sort : Sort) (t : Term) (p : PutTerm) → length ts ≡ length sorts → i < length ts → sort ≡ get_or sorts i sort → t ≡ get_or ts i t → IsTermPut (image_for table sort (tree t)) p →
      ImagesSoFar table sorts ts (i + 1) (made ++ p.term ∷ []) (ms ++ p.measure ∷ [])
  images-step sort t p n l e f is =
      let to = sym (images-to table sorts ts i sort t n l e f) in
      let all = images_for table sorts (map tree ts) in
      let both = sym (tree-both made (p.term ∷ [])) in
      record {
        shallow = subst (λ (us : List Tree). greatest_depth (forest us) ≤ 1000) both (deep-both (map tree made) (tree p.term) 1000 so.shallow is.shallow);
        low = greatest-both ms p.measure 1001000 so.low is.low;
        measured = subst (λ (us : List Tree). AreMeasuresOf us (ms ++ p.measure ∷ [])) to (measures-both (take i all) (image_for table sort (tree t) ∷ []) ms (p.measure ∷ []) so.measured (is.measured, tt));
        made_are = subst (λ (us : List Tree). AreMadeOf us (map tree (made ++ p.term ∷ []))) to
            (subst (λ (us : List Tree). AreMadeOf (take i all ++ image_for table sort (tree t) ∷ []) us) both
            (made-both (take i all) (map tree made) (image_for table sort (tree t) ∷ []) (tree p.term ∷ []) so.made_are (is.made, tt)));
      }

  pub images-end : length ts ≤ i → AreMeasuresOf (images_for table sorts (map tree ts)) ms × AreMadeOf (images_for table sorts (map tree ts)) (map tree made)
  images-end l =
      let e = images-all table sorts ts i l in (
        subst (λ (us : List Tree). AreMeasuresOf us ms) e so.measured,
        subst (λ (us : List Tree). AreMadeOf us (map tree made)) e so.made_are,
      )

pub term-fits : (table : Table) (ts : List Term) (i : ℕ) (t : Term) → FitTable table (forest (map tree ts)) → i < length ts → t ≡ get_or ts i t → FitsTable table (tree t)
term-fits table [] i t h l e = absurd (omega (arith, l))
term-fits table (x ∷ ts) zero t h l e = subst (λ (y : Term). FitsTable table (tree y)) (sym e) h.0
term-fits table (x ∷ ts) (suc i) t h l e = term-fits table ts i t h.1 (omega (arith, l)) e
