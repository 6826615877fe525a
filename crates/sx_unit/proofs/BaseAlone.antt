-- A derivation by the rules of a set without extensions is lowered to itself.
use Rattle.std.proofs.Common.{◌≡◌, ℕ, zero, suc, ◌<◌, ◌≤◌, ◌-◌, ◌^◌, min, List, [], ◌∷◌, ◌++◌, map}
use Rattle.std.proofs.Common.{length, Option, Some, None, refl, sym, ap, ◌∙◌, subst}
use Rattle.std.specs.Prelude.{slice_get, Ok, Err}
use Rattle.std.proofs.lemmas.List.{append-nil}
use Rattle.sx_term.specs.Tree.{Tree, Trees, node, lexeme, hole, none, ◌▹◌}
use Rattle.sx_rules.specs.Instances.{bound_by}
use Rattle.sx_rules.specs.Rules.{Judgement, Rule, judgement_instance, judgements_of, no_hypotheses}
use Rattle.sx_rules.specs.Modes.{Modes}
use Rattle.sx_rules.specs.Derivations.{Proof, Proofs, by, given, no_more, ◌⊳◌, Derives, DeriveEach}
use Rattle.sx_rules.specs.Derivations.{nodes_of, height_of}
use Rattle.sx_rules.specs.Limits.{most_levels}
use Rattle.sx_rules.proofs.Moded.{outputs-map}
use Rattle.sx_plain.specs.Plain.{Body, image_node, image, images}
use Rattle.sx_rewrite.specs.Accepted.{Known, basic, Checked, checked, rule_in, known_of, Signature}
use Rattle.sx_rewrite.specs.Accepted.{Accepted, extended_rules}
use Rattle.sx_rewrite.specs.Copied.{copied}
use Rattle.sx_rewrite.specs.Lowers.{SubjectsAreLowered, AreLoweredBinds, Lowers, LowersEach}
use Rattle.sx_rewrite.specs.Measured.{node_terms, all_terms, Measures, MeasuresEach}
use Rattle.sx_rewrite.specs.Rewriting.{first_over, spent, IsRewritten}
use Rattle.sx_rewrite.proofs.Counted.{lowered_are_counted}
use Rattle.sx_rewrite.proofs.Puts.{over-none}
use Rattle.sx_expand.specs.Readings.{AllSmall}
use Rattle.sx_unit.specs.BaseAlone.{IsBaseAlone}
use Rattle.sx_unit.specs.SmallTerms.{IsSmallProof, AreSmallProofs}

-- ---- rules without certificates

rules_in : (rules : List Rule) → map rule_in (map basic rules) ≡ rules
rules_in [] = refl
rules_in (x ∷ xs) = ap (λ (ys : List Rule). x ∷ ys) (rules_in xs)

basic_at : (rules : List Rule) (r : ℕ) (rule : Rule) → slice_get rules r ≡ Some rule →
    slice_get (map basic rules) r ≡ Some (basic rule)
basic_at [] r rule e = cc
basic_at (x ∷ xs) zero rule e =
    let same : x ≡ rule = cc in ap (λ (y : Rule). Some (basic y)) same
basic_at (x ∷ xs) (suc r) rule e = basic_at xs r rule e

subjects_stay : (subjects : Modes) (s : ℕ → Tree) (js : List Judgement) →
    SubjectsAreLowered subjects s js (map (judgement_instance s) js)
subjects_stay subjects s [] = tt
subjects_stay subjects s (j ∷ js) =
    (sym (outputs-map s (subjects j.form) j.places), subjects_stay subjects s js)

-- ---- terms that are small

pub small_both : (ts us : List Tree) → AllSmall ts → AllSmall us → AllSmall (ts ++ us)
small_both [] us h k = k
small_both (t ∷ ts) us h k = (h.0, small_both ts us h.1 k)

none_over : (ts : List Tree) → AllSmall ts → first_over ts ≡ None
none_over [] h = refl
none_over (t ∷ ts) h = over-none t ts h.0 ∙ none_over ts h.1

-- the terms of a derivation by the rules, those of the kids before those of the node
abbrev mutual
  terms_of : List Rule → Proof → List Tree
  terms_of rules (by r binds kids) =
      all_terms (terms_of_each rules kids) ++ node_terms (slice_get rules r) binds
  terms_of rules (given i) = []

  terms_of_each : List Rule → Proofs → List (List Tree)
  terms_of_each rules no_more = []
  terms_of_each rules (p ⊳ ps) = terms_of rules p ∷ terms_of_each rules ps

mutual
  small_terms : (rules : List Rule) (p : Proof) → IsSmallProof rules p → AllSmall (terms_of rules p)
  small_terms rules (given i) h = tt
  small_terms rules (by r binds kids) h =
      small_both (all_terms (terms_of_each rules kids)) (node_terms (slice_get rules r) binds)
      (small_terms_each rules kids h.1) h.0

  small_terms_each : (rules : List Rule) (ps : Proofs) → AreSmallProofs rules ps →
      AllSmall (all_terms (terms_of_each rules ps))
  small_terms_each rules no_more h = tt
  small_terms_each rules (p ⊳ ps) h =
      small_both (terms_of rules p) (all_terms (terms_of_each rules ps)) (small_terms rules p h.0)
      (small_terms_each rules ps h.1)

-- ---- what a derivation is lowered to

module _ (a : Accepted) (alone : IsBaseAlone a) where
  known_are : known_of a ≡ map basic a.base
  known_are = ap (λ (cs : List Checked). map basic a.base ++ map checked cs) alone.rules
      ∙ append-nil (map basic a.base)

  pub rules_are_base : extended_rules a ≡ a.base
  rules_are_base = ap (λ (ks : List Known). map rule_in ks) known_are ∙ rules_in a.base

  known_at : (r : ℕ) (rule : Rule) → slice_get (extended_rules a) r ≡ Some rule →
      slice_get (known_of a) r ≡ Some (basic rule)
  known_at r rule at =
      ap (λ (ks : List Known). slice_get ks r) known_are
      ∙ basic_at a.base r rule (ap (λ (rs : List Rule). slice_get rs r) (sym rules_are_base) ∙ at)

  mutual
    image_stays : (t : Tree) → image a.table t ≡ t
    image_stays (node label kids) =
        ap (λ (o : Option Body). image_node o label (images a.table kids)) (alone.table label)
        ∙ ap (node label) (images_stay kids)
    image_stays (lexeme kind text) = refl
    image_stays (hole v) = refl

    images_stay : (ts : Trees) → images a.table ts ≡ ts
    images_stay none = refl
    images_stay (t ▹ ts) = λ i. image_stays t i ▹ images_stay ts i

  module _ (subjects : Modes) where
    binds_stay : (rule : Rule) (binds : List Tree) → length binds ≡ length rule.sorts →
        AreLoweredBinds a.table subjects rule binds binds
        (map (judgement_instance (bound_by binds)) (judgements_of rule.premises))
    binds_stay rule binds many = record {
      many = many;
      images = λ v untyped. sym (image_stays (bound_by binds v));
      subjects_are = subjects_stay subjects (bound_by binds) (judgements_of rule.premises);
    }

    mutual
      lowers_itself : (j : Judgement) (p : Proof) → Derives (extended_rules a) no_hypotheses j p →
          Lowers a subjects no_hypotheses p p j
      lowers_itself j (given i) d = (refl, d)
      lowers_itself j (by r binds kids) (rule, at, many, is, apart, each) =
          let js = map (judgement_instance (bound_by binds)) (judgements_of rule.premises) in (
            basic rule,
            kids,
            js,
            binds,
            known_at r rule at,
            each_lowers_itself js kids each,
            binds_stay rule binds many,
            (refl, sym is),
          )

      each_lowers_itself : (js : List Judgement) (ps : Proofs) →
          DeriveEach (extended_rules a) no_hypotheses js ps →
          LowersEach a subjects no_hypotheses ps ps js
      each_lowers_itself [] no_more d = tt
      each_lowers_itself [] (p ⊳ ps) d = absurd d
      each_lowers_itself (j ∷ js) no_more d = absurd d
      each_lowers_itself (j ∷ js) (p ⊳ ps) d =
          (lowers_itself j p d.0, each_lowers_itself js ps d.1)

    mutual
      measures_itself : (j : Judgement) (p : Proof) → Derives (extended_rules a) no_hypotheses j p →
          Measures a subjects no_hypotheses p (terms_of a.base p)
      measures_itself j (given i) d = refl
      measures_itself j (by r binds kids) (rule, at, many, is, apart, each) =
          let js = map (judgement_instance (bound_by binds)) (judgements_of rule.premises) in (
            basic rule,
            kids,
            js,
            binds,
            terms_of_each a.base kids,
            known_at r rule at,
            each_lowers_itself js kids each,
            binds_stay rule binds many,
            each_measures_itself js kids each,
            refl,
          )

      each_measures_itself : (js : List Judgement) (ps : Proofs) →
          DeriveEach (extended_rules a) no_hypotheses js ps →
          MeasuresEach a subjects no_hypotheses ps (terms_of_each a.base ps)
      each_measures_itself [] no_more d = tt
      each_measures_itself [] (p ⊳ ps) d = absurd d
      each_measures_itself (j ∷ js) no_more d = absurd d
      each_measures_itself (j ∷ js) (p ⊳ ps) d =
          (measures_itself j p d.0, each_measures_itself js ps d.1)

  module _ (sig : Signature) (j : Judgement) (p : Proof)
      (d : Derives (extended_rules a) no_hypotheses j p) (budget : ℕ) where
    -- within the limits it is lowered to itself
    pub rewritten_itself : IsSmallProof a.base p → nodes_of p ≤ budget → height_of p ≤ most_levels →
        IsRewritten a sig.subjects no_hypotheses p budget (Ok (record {
          proof = p;
          judgement = j;
          copied = min (copied a p) (2 ^ 64 - 1);
        }))
    rewritten_itself small few low =
        let lowers = lowers_itself sig.subjects j p d in
        let counted = lowered_are_counted sig a no_hypotheses p p j lowers in (
          lowers,
          refl,
          (
            subst (λ (n : ℕ). n ≤ budget) counted.0 few,
            subst (λ (n : ℕ). n ≤ most_levels) counted.1 low,
            (
              terms_of a.base p,
              measures_itself sig.subjects j p d,
              none_over (terms_of a.base p) (small_terms a.base p small),
            ),
          ),
        )

    -- where it has more nodes than the budget, that is refused
    pub too_many_of_itself : budget < nodes_of p →
        IsRewritten a sig.subjects no_hypotheses p budget (Err spent)
    too_many_of_itself many =
        let lowers = lowers_itself sig.subjects j p d in
        subst (λ (n : ℕ). budget < n) (lowered_are_counted sig a no_hypotheses p p j lowers).0 many
