-- Flat forms are well sorted.
use Rattle.std.proofs.Common.{◌≡◌, ℕ, Bool, true, false, List, [], ◌∷◌, inl, inr, map, length, Option, Some, None, refl, sym, ◌∙◌, subst}
use Rattle.std.specs.Prelude.{option_map}
use Rattle.sx_term.specs.Tree.{Tree, hole}
use Rattle.sx_term.specs.declared.sort.Sort.{Sort}
use Rattle.sx_term.specs.Sorts.{Shape, HasSort, HaveSorts}
use Rattle.sx_rules.specs.Rules.{Judgement, Premise, holds, apart, Rule, judgements_of}
use Rattle.sx_rules.specs.Modes.{inputs, outputs}
use Rattle.sx_rules.specs.Sorts.{IsUntypedSort, JudgementIsSorted, PremisesAreSorted, JudgementsAreSorted}
use Rattle.sx_rules.specs.Discipline.{IsBareSubject, AreBareSubjects, AreUntypedSorts, PlainHaveNoTyped, FormsFit}
use Rattle.sx_rules.proofs.Sorted.{outputs-sorted}
use Rattle.sx_plain.specs.Plain.{Table, image}
use Rattle.sx_plain.specs.Tables.{Begins, Desugars}
use Rattle.sx_plain.proofs.Tables.{image-sorted, plain-covered}
use Rattle.sx_rewrite.specs.Flat.{flat_places, flat_judgement}
use Rattle.sx_rewrite.specs.Accepted.{Signature}
use Rattle.sx_rewrite.specs.Sound.{HasBaseSyntax}
use Rattle.sx_rewrite.specs.Extensions.{BodyFits}
use Rattle.sx_rewrite.specs.AcceptLaws.{FlatFormsAreSorted}
use Rattle.sx_rewrite.proofs.Lowerings.{outputs-flat}
use Rattle.sx_rewrite.proofs.PlainRules.{image-keeps}

-- flat places by other shapes, where the images of terms of plain and lexical sorts are well sorted by them
module _ (shapes others : List Shape) (table : Table) (vars : List Sort) (each : (t : Tree) (sort : Sort) → HasSort shapes vars t sort → IsUntypedSort sort → HasSort others vars (image table t) sort) where
  images-sorted : (ts : List Tree) (sorts : List Sort) → HaveSorts shapes vars ts sorts → AreUntypedSorts sorts → HaveSorts others vars (map (image table) ts) sorts
  images-sorted [] [] h u = tt
  images-sorted [] (x ∷ xs) h u = absurd h
  images-sorted (t ∷ ts) [] h u = absurd h
  images-sorted (t ∷ ts) (x ∷ xs) h u = (each t x h.0 u.0, images-sorted ts xs h.1 u.1)

  -- where the subjects are, so are all places
  flat-sorted : (subject : Option Tree) (bs : List Bool) (ts : List Tree) (sorts : List Sort) → HaveSorts shapes vars ts sorts → AreUntypedSorts (inputs bs sorts) →
      HaveSorts others vars (outputs bs (flat_places table subject bs ts)) (outputs bs sorts) → HaveSorts others vars (flat_places table subject bs ts) sorts
  flat-sorted subject [] ts sorts h u o = images-sorted ts sorts h u
  flat-sorted subject (b ∷ bs) [] [] h u o = tt
  flat-sorted subject (b ∷ bs) [] (x ∷ xs) h u o = absurd h
  flat-sorted subject (b ∷ bs) (t ∷ ts) [] h u o = absurd h
  flat-sorted subject (true ∷ bs) (t ∷ ts) (x ∷ xs) h u o = (o.0, flat-sorted subject bs ts xs h.1 u o.1)
  flat-sorted subject (false ∷ bs) (t ∷ ts) (x ∷ xs) h u o = (each t x h.0 u.0, flat-sorted subject bs ts xs h.1 u.1 o)

  bare-sorted : (v : ℕ) (sorts : List Sort) → HaveSorts shapes vars (hole v ∷ []) sorts → HaveSorts others vars (hole v ∷ []) sorts
  bare-sorted v [] h = absurd h
  bare-sorted v (x ∷ []) h = h
  bare-sorted v (x ∷ (y ∷ ys)) h = absurd h.1

  none-sorted : (sorts : List Sort) → HaveSorts shapes vars [] sorts → HaveSorts others vars [] sorts
  none-sorted [] h = tt
  none-sorted (x ∷ xs) h = absurd h

  -- a term stands at the one subject place
  subject-placed : (body t : Tree) → ((sort : Sort) → HasSort shapes vars body sort → HasSort others vars t sort) → (bs : List Bool) (ts : List Tree) (sorts : List Sort) →
      HaveSorts shapes vars ts sorts → HaveSorts shapes vars (body ∷ []) (outputs bs sorts) → HaveSorts others vars (outputs bs (flat_places table (Some t) bs ts)) (outputs bs sorts)
  subject-placed body t placed [] ts sorts h b = absurd b
  subject-placed body t placed (x ∷ bs) [] [] h b = absurd b
  subject-placed body t placed (x ∷ bs) [] (y ∷ ys) h b = absurd h
  subject-placed body t placed (x ∷ bs) (u ∷ ts) [] h b = absurd h
  subject-placed body t placed (false ∷ bs) (u ∷ ts) (y ∷ ys) h b = subject-placed body t placed bs ts ys h.1 b
  subject-placed body t placed (true ∷ bs) (u ∷ ts) (y ∷ ys) h b = (placed y b.0, no_more_subjects bs ts ys h.1 b.1)
    where
      no_more_subjects : (bs : List Bool) (ts : List Tree) (ys : List Sort) → HaveSorts shapes vars ts ys → HaveSorts shapes vars [] (outputs bs ys) →
          HaveSorts others vars (outputs bs (flat_places table (Some t) bs ts)) (outputs bs ys)
      no_more_subjects [] ts ys h n = tt
      no_more_subjects (x ∷ bs) [] [] h n = tt
      no_more_subjects (x ∷ bs) [] (y ∷ ys) h n = absurd h
      no_more_subjects (x ∷ bs) (t ∷ ts) [] h n = absurd h
      no_more_subjects (true ∷ bs) (t ∷ ts) (y ∷ ys) h n = absurd n
      no_more_subjects (false ∷ bs) (t ∷ ts) (y ∷ ys) h n = no_more_subjects bs ts ys h.1 n

  module _ (sig : Signature) (fits : FormsFit sig.modes sig.subjects sig.forms) where
    premise-sorted : (conclusion j : Judgement) (before : List Judgement) → JudgementIsSorted shapes sig.forms vars j → IsBareSubject sig.subjects conclusion before j →
        JudgementIsSorted others sig.forms vars (flat_judgement table sig.subjects None j)
    premise-sorted conclusion j before h b =
        let bs = sig.subjects j.form in
        let sorts = sig.forms j.form in
        let outs = outputs-sorted shapes vars bs j.places sorts h in
        flat-sorted None bs j.places sorts h (fits.others j.form)
        (subst (λ (ts : List Tree). HaveSorts others vars ts (outputs bs sorts)) (sym (outputs-flat table bs j.places)) (go b outs))
      where
        go : IsBareSubject sig.subjects conclusion before j → HaveSorts shapes vars (outputs (sig.subjects j.form) j.places) (outputs (sig.subjects j.form) (sig.forms j.form)) →
            HaveSorts others vars (outputs (sig.subjects j.form) j.places) (outputs (sig.subjects j.form) (sig.forms j.form))
        go (inl e) o =
            subst (λ (ts : List Tree). HaveSorts others vars ts (outputs (sig.subjects j.form) (sig.forms j.form))) (sym e)
            (none-sorted (outputs (sig.subjects j.form) (sig.forms j.form)) (subst (λ (ts : List Tree). HaveSorts shapes vars ts (outputs (sig.subjects j.form) (sig.forms j.form))) e o))
        go (inr x) o =
            subst (λ (ts : List Tree). HaveSorts others vars ts (outputs (sig.subjects j.form) (sig.forms j.form))) (sym x.1)
            (bare-sorted x.0 (outputs (sig.subjects j.form) (sig.forms j.form)) (subst (λ (ts : List Tree). HaveSorts shapes vars ts (outputs (sig.subjects j.form) (sig.forms j.form))) x.1 o))

    pub premises-sorted : (conclusion : Judgement) (before : List Judgement) (ps : List Premise) → PremisesAreSorted shapes sig.forms vars ps → AreBareSubjects sig.subjects conclusion before (judgements_of ps) →
        JudgementsAreSorted others sig.forms vars (map (flat_judgement table sig.subjects None) (judgements_of ps))
    premises-sorted conclusion before [] h b = tt
    premises-sorted conclusion before (holds j ∷ ps) h b = (premise-sorted conclusion j before h.0 b.0, premises-sorted conclusion (j ∷ before) ps h.1 b.1)
    premises-sorted conclusion before (apart t u ∷ ps) h b = premises-sorted conclusion before ps h.1 b

    -- the body's image is well sorted by the other shapes
    abbrev pub Placed : Option Tree → Type 0
    Placed None = Unit {0}
    Placed (Some t) = (sort : Sort) → HasSort shapes vars t sort → HasSort others vars (image table t) sort

    pub conclusion-sorted : (n : ℕ) (rule : Rule) (body : Option Tree) → Placed body → rule.sorts ≡ vars → JudgementIsSorted shapes sig.forms vars rule.conclusion → BodyFits sig shapes n table rule body →
        JudgementIsSorted others sig.forms vars (flat_judgement table sig.subjects (option_map (image table) body) rule.conclusion)
    conclusion-sorted n rule None p e h b =
        let j = rule.conclusion in
        let bs = sig.subjects j.form in
        let sorts = sig.forms j.form in
        let outs = outputs-sorted shapes vars bs j.places sorts h in
        let none = none-sorted (outputs bs sorts) (subst (λ (ts : List Tree). HaveSorts shapes vars ts (outputs bs sorts)) b outs) in
        flat-sorted None bs j.places sorts h (fits.others j.form)
        (subst (λ (ts : List Tree). HaveSorts others vars ts (outputs bs sorts)) (sym (outputs-flat table bs j.places ∙ b)) none)
    conclusion-sorted n rule (Some body) p e h b =
        let j = rule.conclusion in
        let bs = sig.subjects j.form in
        let sorts = sig.forms j.form in
        let own = subst (λ (vs : List Sort). HaveSorts shapes vs (body ∷ []) (outputs bs sorts)) e b.0 in
        flat-sorted (Some (image table body)) bs j.places sorts h (fits.others j.form) (subject-placed body (image table body) p bs j.places sorts h own)

module _ (base shapes : List Shape) (table : Table) (begins : Begins base shapes) (no_typed : PlainHaveNoTyped shapes) (d : Desugars base shapes table) (vars : List Sort) where
  pub plain-image : (t : Tree) (sort : Sort) → HasSort shapes vars t sort → IsUntypedSort sort → HasSort base vars (image table t) sort
  plain-image t sort h u = image-sorted base shapes table vars begins d t sort h (plain-covered base shapes table vars no_typed d t sort h u)

  own-image : (t : Tree) (sort : Sort) → HasSort shapes vars t sort → IsUntypedSort sort → HasSort shapes vars (image table t) sort
  own-image t sort h u = image-keeps base shapes table begins no_typed d vars t sort h

  placed_at-own : (sig : Signature) (fits : FormsFit sig.modes sig.subjects sig.forms) (body : Option Tree) → Placed shapes shapes table vars own-image sig fits body
  placed_at-own sig fits None = tt
  placed_at-own sig fits (Some t) = λ sort h. image-keeps base shapes table begins no_typed d vars t sort h

  placed_at-base : (sig : Signature) (fits : FormsFit sig.modes sig.subjects sig.forms) (body : Option Tree) → HasBaseSyntax (length base) table body → Placed shapes base table vars plain-image sig fits body
  placed_at-base sig fits None c = tt
  placed_at-base sig fits (Some t) c = λ sort h. image-sorted base shapes table vars begins d t sort h c

pub flat_forms_are_sorted : FlatFormsAreSorted
flat_forms_are_sorted sig base shapes table begins no_typed fits d n ext h disciplined b =
    let vars = ext.rule.sorts in
    let to_base = plain-image base shapes table begins no_typed d vars in
    let to_own = own-image base shapes table begins no_typed d vars in (
      premises-sorted shapes base table vars to_base sig fits ext.rule.conclusion [] ext.rule.premises h.1 disciplined.bare,
      conclusion-sorted shapes shapes table vars to_own sig fits n ext.rule ext.body (placed_at-own base shapes table begins no_typed d vars sig fits ext.body) refl h.0 b,
      (λ c. conclusion-sorted shapes base table vars to_base sig fits n ext.rule ext.body (placed_at-base base shapes table begins no_typed d vars sig fits ext.body c) refl h.0 b),
    )
