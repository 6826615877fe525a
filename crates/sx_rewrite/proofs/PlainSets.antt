-- The base rules with the plain rules are an accepted set.
use Rattle.std.proofs.Common.{◌≡◌, ◌↔◌, ℕ, Bool, true, false, List, [], ◌∷◌, ◌++◌, ◌⊎◌, inl, inr, map, length, Option, Some, None, refl, sym, ap, ◌∙◌, subst}
use Rattle.std.specs.Prelude.{slice_get, unwrap_or, option_map}
use Rattle.std.proofs.lemmas.Option.{slice_get-map}
use Rattle.sx_term.specs.Tree.{Tree, hole}
use Rattle.sx_term.specs.declared.sort.Sort.{Sort}
use Rattle.sx_term.specs.declared.sort.Sort.TheVariants.{Lex, Typed}
use Rattle.sx_term.specs.Sorts.{Shape, HaveSorts}
use Rattle.sx_rules.specs.Instances.{instance, StandsAmong, bound_by}
use Rattle.sx_rules.specs.Rules.{Judgement, Premise, holds, apart, Rule, Hypotheses, judgements_of, judgement_instance}
use Rattle.sx_rules.specs.Modes.{Modes, inputs, outputs, inputs_of, outputs_of, AreModed, IsModed, AllModed}
use Rattle.sx_rules.specs.Sorts.{JudgementIsSorted, PremisesAreSorted, RuleIsSorted, RulesAreSorted}
use Rattle.sx_rules.specs.Discipline.{subjects_of, IsSubjectIn, IsBareSubject, AreBareSubjects, IsDisciplined, AreUntypedSorts, PlainHaveNoTyped, FormsFit, times_among}
use Rattle.sx_rules.specs.Derivations.{Proof, Proofs, by, given, no_more, ◌⊳◌, Derives}
use Rattle.sx_rules.proofs.Sorted.{inputs-sorted, outputs-sorted}
use Rattle.sx_plain.specs.Plain.{Table, image}
use Rattle.sx_plain.specs.Tables.{Begins, Desugars}
use Rattle.sx_plain.proofs.Tables.{stands-image, sorted-below, base-stays}
use Rattle.sx_rewrite.proofs.Images.{stands-map_image}
use Rattle.sx_rewrite.specs.Flat.{flat_places, flat_judgement, flat_pairs, flat_hypotheses}
use Rattle.sx_rewrite.specs.Accepted.{Checked, flat_conclusion, Known, basic, checked, rule_in, Accepted, known_of, AllCertified, AllDisciplined, AreTypedSorts, Signature, IsAccepted}
use Rattle.sx_rewrite.specs.Lowers.{SubjectsAreLowered, AreLoweredBinds, LowersTo, Lowers, LowersEach}
use Rattle.sx_rewrite.specs.PlainRules.{image_judgement, image_premise, plain_rule, plain_checked, plain_of}
use Rattle.sx_rewrite.specs.PlainLaws.{PlainRulesAreAccepted, PlainRulesLowerAlike}
use Rattle.sx_rewrite.proofs.Lowerings.{outputs-flat}
use Rattle.sx_rewrite.proofs.LoweredAlways.{one_typed}
use Rattle.sx_rewrite.proofs.Known.{accepted-sorted, accepted-disciplined, certified-at}
use Rattle.sx_rewrite.proofs.PlainRules.{image-keeps, list-keeps, image-twice, among-image, inputs-image, outputs-image, judgements-image, times-list}

-- no subject, or a bare variable
abbrev IsBare : Modes → Judgement → Type 0
IsBare subjects j = (subjects_of subjects j ≡ []) ⊎ (w : ℕ) × (subjects_of subjects j ≡ hole w ∷ [])

abbrev AreBare : Modes → List Judgement → Type 0
AreBare subjects [] = Unit {0}
AreBare subjects (j ∷ js) = IsBare subjects j × AreBare subjects js

bare-of : (subjects : Modes) (conclusion : Judgement) (before : List Judgement) (j : Judgement) → IsBareSubject subjects conclusion before j → IsBare subjects j
bare-of subjects conclusion before j (inl e) = inl e
bare-of subjects conclusion before j (inr x) = inr (x.0, x.1)

-- a bare subject stays
same-subject : (table : Table) (subjects : Modes) (j : Judgement) → IsBare subjects j → subjects_of subjects (image_judgement table j) ≡ subjects_of subjects j
same-subject table subjects j (inl e) = outputs-image table (subjects j.form) j.places ∙ ap (map (image table)) e ∙ sym e
same-subject table subjects j (inr x) = outputs-image table (subjects j.form) j.places ∙ ap (map (image table)) x.1 ∙ sym x.1

subject-in : (table : Table) (subjects : Modes) (v : ℕ) (js : List Judgement) → AreBare subjects js → IsSubjectIn subjects v js → IsSubjectIn subjects v (map (image_judgement table) js)
subject-in table subjects v [] b h = h
subject-in table subjects v (j ∷ js) b (inl e) = inl (same-subject table subjects j b.0 ∙ e)
subject-in table subjects v (j ∷ js) b (inr h) = inr (subject-in table subjects v js b.1 h)

subject-out : (table : Table) (subjects : Modes) (v : ℕ) (js : List Judgement) → AreBare subjects js → IsSubjectIn subjects v (map (image_judgement table) js) → IsSubjectIn subjects v js
subject-out table subjects v [] b h = h
subject-out table subjects v (j ∷ js) b (inl e) = inl (sym (same-subject table subjects j b.0) ∙ e)
subject-out table subjects v (j ∷ js) b (inr h) = inr (subject-out table subjects v js b.1 h)

all_bare : (subjects : Modes) (conclusion : Judgement) (before js : List Judgement) → AreBareSubjects subjects conclusion before js → AreBare subjects js
all_bare subjects conclusion before [] h = tt
all_bare subjects conclusion before (j ∷ js) h = (bare-of subjects conclusion before j h.0, all_bare subjects conclusion (j ∷ before) js h.1)

module _ (sig : Signature) (base shapes : List Shape) (table : Table) (begins : Begins base shapes) (no_typed : PlainHaveNoTyped shapes) (fits : FormsFit sig.modes sig.subjects sig.forms)
    (typed : (form : ℕ) → AreTypedSorts (outputs (sig.subjects form) (sig.forms form))) (d : Desugars base shapes table) where
  -- plain rules are well sorted
  premises-keep : (vars : List Sort) (ps : List Premise) → PremisesAreSorted shapes sig.forms vars ps → PremisesAreSorted shapes sig.forms vars (map (image_premise table) ps)
  premises-keep vars [] h = tt
  premises-keep vars (holds j ∷ ps) h = (list-keeps base shapes table begins no_typed d vars j.places (sig.forms j.form) h.0, premises-keep vars ps h.1)
  premises-keep vars (apart t u ∷ ps) h = (
    (h.0.0, image-keeps base shapes table begins no_typed d vars t (Lex h.0.0) h.0.1, image-keeps base shapes table begins no_typed d vars u (Lex h.0.0) h.0.2),
    premises-keep vars ps h.1,
  )

  plain-sorted : (rule : Rule) → RuleIsSorted shapes sig.forms rule → RuleIsSorted shapes sig.forms (plain_rule table rule)
  plain-sorted rule h = (list-keeps base shapes table begins no_typed d rule.sorts rule.conclusion.places (sig.forms rule.conclusion.form) h.0, premises-keep rule.sorts rule.premises h.1)

  -- plain rules are moded
  module _ (vars : List Sort) where
    inputs-same : (j : Judgement) → JudgementIsSorted shapes sig.forms vars j → (v : ℕ) → StandsAmong v (inputs_of sig.modes j) ↔ StandsAmong v (inputs_of sig.modes (image_judgement table j))
    inputs-same j h v =
        let bs = sig.modes j.form in
        let e = inputs-image table bs j.places in (
          (λ k. subst (λ (ts : List Tree). StandsAmong v ts) (sym e) (among-image base shapes table begins no_typed d vars (inputs bs j.places) (inputs bs (sig.forms j.form)) v (inputs-sorted shapes vars bs j.places (sig.forms j.form) h) k)),
          (λ k. stands-map_image table (inputs bs j.places) v (subst (λ (ts : List Tree). StandsAmong v ts) e k)),
        )

    outputs-same : (j : Judgement) → JudgementIsSorted shapes sig.forms vars j → (v : ℕ) → StandsAmong v (outputs_of sig.modes j) ↔ StandsAmong v (outputs_of sig.modes (image_judgement table j))
    outputs-same j h v =
        let bs = sig.modes j.form in
        let e = outputs-image table bs j.places in (
          (λ k. subst (λ (ts : List Tree). StandsAmong v ts) (sym e) (among-image base shapes table begins no_typed d vars (outputs bs j.places) (outputs bs (sig.forms j.form)) v (outputs-sorted shapes vars bs j.places (sig.forms j.form) h) k)),
          (λ k. stands-map_image table (outputs bs j.places) v (subst (λ (ts : List Tree). StandsAmong v ts) e k)),
        )

    premises-moded : (rule : Rule) (ps : List Premise) (B C : ℕ → Type 0) → ((v : ℕ) → B v ↔ C v) → JudgementIsSorted shapes sig.forms vars rule.conclusion → PremisesAreSorted shapes sig.forms vars ps →
        AreModed sig.modes B ps rule → AreModed sig.modes C (map (image_premise table) ps) (plain_rule table rule)
    premises-moded rule [] B C same c h m = (
      (λ v k. (same v).0 (m.0 v ((outputs-same rule.conclusion c v).1 k))),
      λ v. ((λ k. (m.1 v).0 ((same v).1 k)), (λ k. (same v).0 ((m.1 v).1 k))),
    )
    premises-moded rule (apart s t ∷ ps) B C same c h m = (
      (λ v. elim [
        | inl k ↦ (same v).0 (m.0 v (inl (stands-image table s v k)))
        | inr k ↦ (same v).0 (m.0 v (inr (stands-image table t v k)))
      ]),
      premises-moded rule ps B C same c h.1 m.1,
    )
    premises-moded rule (holds j ∷ ps) B C same c h m = (
      (λ v k. (same v).0 (m.0 v ((inputs-same j h.0 v).1 k))),
      premises-moded rule ps (λ v. B v ⊎ StandsAmong v (outputs_of sig.modes j)) (λ v. C v ⊎ StandsAmong v (outputs_of sig.modes (image_judgement table j)))
          (λ v. (
            (λ k. either v j h.0 (B v) (C v) (same v).0 k),
            (λ k. or_back v j h.0 (B v) (C v) (same v).1 k),
          )) c h.1 m.1,
    )
      where
        either : (v : ℕ) (j : Judgement) → JudgementIsSorted shapes sig.forms vars j → (X Y : Type 0) → (X → Y) → X ⊎ StandsAmong v (outputs_of sig.modes j) → Y ⊎ StandsAmong v (outputs_of sig.modes (image_judgement table j))
        either v j h X Y f (inl x) = inl (f x)
        either v j h X Y f (inr k) = inr ((outputs-same j h v).0 k)

        or_back : (v : ℕ) (j : Judgement) → JudgementIsSorted shapes sig.forms vars j → (X Y : Type 0) → (Y → X) → Y ⊎ StandsAmong v (outputs_of sig.modes (image_judgement table j)) → X ⊎ StandsAmong v (outputs_of sig.modes j)
        or_back v j h X Y f (inl y) = inl (f y)
        or_back v j h X Y f (inr k) = inr ((outputs-same j h v).1 k)

  pub plain-moded : (rule : Rule) → RuleIsSorted shapes sig.forms rule → IsModed sig.modes rule → IsModed sig.modes (plain_rule table rule)
  plain-moded rule h m =
      premises-moded rule.sorts rule rule.premises (λ v. StandsAmong v (inputs_of sig.modes rule.conclusion)) (λ v. StandsAmong v (inputs_of sig.modes (image_judgement table rule.conclusion)))
      (inputs-same rule.sorts rule.conclusion h.0) h.0 h.1 m

  -- plain rules are disciplined
  times-same : (vars : List Sort) (j : Judgement) (v k : ℕ) → slice_get vars v ≡ Some (Typed k) → JudgementIsSorted shapes sig.forms vars j →
      times_among v (subjects_of sig.subjects (image_judgement table j)) ≡ times_among v (subjects_of sig.subjects j)
  times-same vars j v k e h =
      let bs = sig.subjects j.form in
      ap (times_among v) (outputs-image table bs j.places)
      ∙ times-list base shapes table no_typed d vars v k e (outputs bs j.places) (outputs bs (sig.forms j.form)) (outputs-sorted shapes vars bs j.places (sig.forms j.form) h)

  bare-plain : (vars : List Sort) (conclusion : Judgement) (before : List Judgement) (j : Judgement) → JudgementIsSorted shapes sig.forms vars conclusion → JudgementIsSorted shapes sig.forms vars j → AreBare sig.subjects before →
      IsBareSubject sig.subjects conclusion before j → IsBareSubject sig.subjects (image_judgement table conclusion) (map (image_judgement table) before) (image_judgement table j)
  bare-plain vars conclusion before j c h b (inl e) = inl (same-subject table sig.subjects j (inl e) ∙ e)
  bare-plain vars conclusion before j c h b (inr x) =
      let bs = sig.subjects j.form in
      let outs = outputs-sorted shapes vars bs j.places (sig.forms j.form) h in
      let of_v = one_typed shapes vars x.0 (outputs bs (sig.forms j.form)) (subst (λ (ts : List Tree). HaveSorts shapes vars ts (outputs bs (sig.forms j.form))) x.1 outs) (typed j.form) in
      inr (x.0, same-subject table sig.subjects j (inr (x.0, x.1)) ∙ x.1, times-same vars conclusion x.0 of_v.0 of_v.1 c ∙ x.2, λ k. x.3 (subject-out table sig.subjects x.0 before b k))

  bares-plain : (vars : List Sort) (conclusion : Judgement) (before : List Judgement) (ps : List Premise) → JudgementIsSorted shapes sig.forms vars conclusion → PremisesAreSorted shapes sig.forms vars ps → AreBare sig.subjects before →
      AreBareSubjects sig.subjects conclusion before (judgements_of ps) → AreBareSubjects sig.subjects (image_judgement table conclusion) (map (image_judgement table) before) (judgements_of (map (image_premise table) ps))
  bares-plain vars conclusion before [] c h b a = tt
  bares-plain vars conclusion before (apart t u ∷ ps) c h b a = bares-plain vars conclusion before ps c h.1 b a
  bares-plain vars conclusion before (holds j ∷ ps) c h b a =
      (bare-plain vars conclusion before j c h.0 b a.0, bares-plain vars conclusion (j ∷ before) ps c h.1 (bare-of sig.subjects conclusion before j a.0, b) a.1)

  pub plain-disciplined : (rule : Rule) → RuleIsSorted shapes sig.forms rule → IsDisciplined sig.subjects rule → IsDisciplined sig.subjects (plain_rule table rule)
  plain-disciplined rule h a = record {
    bare = bares-plain rule.sorts rule.conclusion [] rule.premises h.0 h.1 tt a.bare;
    every = λ v k e x.
        let y = stands-map_image table (outputs (sig.subjects rule.conclusion.form) rule.conclusion.places) v (subst (λ (ts : List Tree). StandsAmong v ts) (outputs-image table (sig.subjects rule.conclusion.form) rule.conclusion.places) x) in
        subst (λ (js : List Judgement). IsSubjectIn sig.subjects v js) (sym (judgements-image table rule.premises))
        (subject-in table sig.subjects v (judgements_of rule.premises) (all_bare sig.subjects rule.conclusion [] (judgements_of rule.premises) a.bare) (a.every v k e y));
  }

  -- flat forms of plain rules are those of the rules
  flat-twice : (vars : List Sort) (subject : Option Tree) (bs : List Bool) (ts : List Tree) (sorts : List Sort) → HaveSorts shapes vars ts sorts → AreUntypedSorts (inputs bs sorts) →
      map (λ t. unwrap_or subject (image table t)) (outputs bs ts) ≡ map (λ t. unwrap_or subject t) (outputs bs ts) → flat_places table subject bs (map (image table) ts) ≡ flat_places table subject bs ts
  flat-twice vars subject [] [] sorts h u o = refl
  flat-twice vars subject [] (t ∷ ts) [] h u o = absurd h
  flat-twice vars subject [] (t ∷ ts) (x ∷ xs) h u o =
      let a = image-twice base shapes table begins no_typed d vars t x h.0 u.0 in
      let b = flat-twice vars subject [] ts xs h.1 u.1 o in cc
  flat-twice vars subject (b ∷ bs) [] sorts h u o = refl
  flat-twice vars subject (b ∷ bs) (t ∷ ts) [] h u o = absurd h
  flat-twice vars subject (true ∷ bs) (t ∷ ts) (x ∷ xs) h u o =
      let e : unwrap_or subject (image table t) ≡ unwrap_or subject t = cc in
      let f : map (λ t. unwrap_or subject (image table t)) (outputs bs ts) ≡ map (λ t. unwrap_or subject t) (outputs bs ts) = cc in
      let g = flat-twice vars subject bs ts xs h.1 u f in
      λ i. e i ∷ g i
  flat-twice vars subject (false ∷ bs) (t ∷ ts) (x ∷ xs) h u o =
      let a = image-twice base shapes table begins no_typed d vars t x h.0 u.0 in
      let b = flat-twice vars subject bs ts xs h.1 u.1 o in
      λ i. a i ∷ b i

  flat-premise : (vars : List Sort) (j : Judgement) → JudgementIsSorted shapes sig.forms vars j → IsBare sig.subjects j → flat_judgement table sig.subjects None (image_judgement table j) ≡ flat_judgement table sig.subjects None j
  flat-premise vars j h b =
      let e = flat-twice vars None (sig.subjects j.form) j.places (sig.forms j.form) h (fits.others j.form) (stays (outputs (sig.subjects j.form) j.places) b) in
      λ i. record { form = j.form; places = e i }
    where
      stays : (ts : List Tree) → (ts ≡ []) ⊎ (w : ℕ) × (ts ≡ hole w ∷ []) → map (λ t. unwrap_or None (image table t)) ts ≡ map (λ t. unwrap_or None t) ts
      stays ts (inl e) = ap (map (λ t. unwrap_or None (image table t))) e ∙ sym (ap (map (λ t. unwrap_or None t)) e)
      stays ts (inr x) = ap (map (λ t. unwrap_or None (image table t))) x.1 ∙ sym (ap (map (λ t. unwrap_or None t)) x.1)

  flat-premises : (vars : List Sort) (ps : List Premise) → PremisesAreSorted shapes sig.forms vars ps → AreBare sig.subjects (judgements_of ps) →
      map (flat_judgement table sig.subjects None) (judgements_of (map (image_premise table) ps)) ≡ map (flat_judgement table sig.subjects None) (judgements_of ps)
  flat-premises vars [] h b = refl
  flat-premises vars (apart t u ∷ ps) h b = flat-premises vars ps h.1 b
  flat-premises vars (holds j ∷ ps) h b =
      let e = flat-premise vars j h.0 b.0 in
      let f = flat-premises vars ps h.1 b.1 in
      λ i. e i ∷ f i

  lexical : (k : _) (n : ℕ) → Lex k ≡ Typed n → ⊥
  lexical k n e = cc

  flat-pairs : (vars : List Sort) (ps : List Premise) → PremisesAreSorted shapes sig.forms vars ps → flat_pairs table (map (image_premise table) ps) ≡ flat_pairs table ps
  flat-pairs vars [] h = refl
  flat-pairs vars (holds j ∷ ps) h = flat-pairs vars ps h.1
  flat-pairs vars (apart t u ∷ ps) h =
      let a = image-twice base shapes table begins no_typed d vars t (Lex h.0.0) h.0.1 (lexical h.0.0) in
      let b = image-twice base shapes table begins no_typed d vars u (Lex h.0.0) h.0.2 (lexical h.0.0) in
      let c = flat-pairs vars ps h.1 in
      λ i. (a i, b i) ∷ c i

  pub flat-hypotheses : (rule : Rule) → RuleIsSorted shapes sig.forms rule → IsDisciplined sig.subjects rule →
      flat_hypotheses table sig.subjects (plain_rule table rule).premises ≡ flat_hypotheses table sig.subjects rule.premises
  flat-hypotheses rule h a =
      let e = flat-premises rule.sorts rule.premises h.1 (all_bare sig.subjects rule.conclusion [] (judgements_of rule.premises) a.bare) in
      let f = flat-pairs rule.sorts rule.premises h.1 in
      λ i. record { judgements = e i; pairs = f i }

  list-stays : (vars : List Sort) (ts : List Tree) (sorts : List Sort) → HaveSorts base vars ts sorts → map (λ t. unwrap_or None (image table t)) ts ≡ map (λ t. unwrap_or None t) ts
  list-stays vars [] sorts h = refl
  list-stays vars (t ∷ ts) [] h = absurd h
  list-stays vars (t ∷ ts) (x ∷ xs) h =
      let a = base-stays (length base) table d.is_table t (sorted-below base vars t x h.0) in
      let b = list-stays vars ts xs h.1 in
      λ i. a i ∷ b i

  same-body : (body : Tree) (ts : List Tree) → map (λ t. unwrap_or (Some body) (image table t)) ts ≡ map (λ t. unwrap_or (Some body) t) ts
  same-body body [] = refl
  same-body body (t ∷ ts) = ap (λ (us : List Tree). body ∷ us) (same-body body ts)

  flat-places : (vars : List Sort) (subject : Option Tree) (j : Judgement) → JudgementIsSorted shapes sig.forms vars j → JudgementIsSorted base sig.forms vars (flat_judgement table sig.subjects subject j) →
      map (λ t. unwrap_or subject (image table t)) (outputs (sig.subjects j.form) j.places) ≡ map (λ t. unwrap_or subject t) (outputs (sig.subjects j.form) j.places)
  flat-places vars (Some body) j h f = same-body body (outputs (sig.subjects j.form) j.places)
  flat-places vars None j h f =
      let bs = sig.subjects j.form in
      let outs = outputs-sorted base vars bs (flat_places table None bs j.places) (sig.forms j.form) f in
      list-stays vars (outputs bs j.places) (outputs bs (sig.forms j.form)) (subst (λ (ts : List Tree). HaveSorts base vars ts (outputs bs (sig.forms j.form))) (outputs-flat table bs j.places) outs)

  plain-conclusion : (c : Checked) → RuleIsSorted shapes sig.forms c.rule → JudgementIsSorted base sig.forms c.rule.sorts (flat_conclusion table sig.subjects c) →
      flat_conclusion table sig.subjects (plain_checked table c) ≡ flat_conclusion table sig.subjects c
  plain-conclusion c h f =
      let j = c.rule.conclusion in
      let e = flat-twice c.rule.sorts c.body (sig.subjects j.form) j.places (sig.forms j.form) h.0 (fits.others j.form) (flat-places c.rule.sorts c.body j h.0 f) in
      λ i. record { form = j.form; places = e i }

  -- lists of rules
  more-sorted : (more : List Checked) → RulesAreSorted shapes sig.forms (map rule_in (map checked more)) → RulesAreSorted shapes sig.forms (map rule_in (map checked (map (plain_checked table) more)))
  more-sorted [] h = tt
  more-sorted (c ∷ cs) h = (plain-sorted c.rule h.0, more-sorted cs h.1)

  all-sorted : (bs : List Rule) (more : List Checked) → RulesAreSorted shapes sig.forms (map rule_in (map basic bs ++ map checked more)) → RulesAreSorted shapes sig.forms (map rule_in (map basic bs ++ map checked (map (plain_checked table) more)))
  all-sorted [] more h = more-sorted more h
  all-sorted (b ∷ bs) more h = (h.0, all-sorted bs more h.1)

  more-moded : (more : List Checked) → RulesAreSorted shapes sig.forms (map rule_in (map checked more)) → AllModed sig.modes (map rule_in (map checked more)) → AllModed sig.modes (map rule_in (map checked (map (plain_checked table) more)))
  more-moded [] h m = tt
  more-moded (c ∷ cs) h m = (plain-moded c.rule h.0 m.0, more-moded cs h.1 m.1)

  all-moded : (bs : List Rule) (more : List Checked) → RulesAreSorted shapes sig.forms (map rule_in (map basic bs ++ map checked more)) → AllModed sig.modes (map rule_in (map basic bs ++ map checked more)) →
      AllModed sig.modes (map rule_in (map basic bs ++ map checked (map (plain_checked table) more)))
  all-moded [] more h m = more-moded more h m
  all-moded (b ∷ bs) more h m = (m.0, all-moded bs more h.1 m.1)

  more-disciplined : (more : List Checked) → RulesAreSorted shapes sig.forms (map rule_in (map checked more)) → AllDisciplined sig.subjects (map rule_in (map checked more)) → AllDisciplined sig.subjects (map rule_in (map checked (map (plain_checked table) more)))
  more-disciplined [] h m = tt
  more-disciplined (c ∷ cs) h m = (plain-disciplined c.rule h.0 m.0, more-disciplined cs h.1 m.1)

  all-disciplined : (bs : List Rule) (more : List Checked) → RulesAreSorted shapes sig.forms (map rule_in (map basic bs ++ map checked more)) → AllDisciplined sig.subjects (map rule_in (map basic bs ++ map checked more)) →
      AllDisciplined sig.subjects (map rule_in (map basic bs ++ map checked (map (plain_checked table) more)))
  all-disciplined [] more h m = more-disciplined more h m
  all-disciplined (b ∷ bs) more h m = (m.0, all-disciplined bs more h.1 m.1)

  more-of : (bs : List Rule) (more : List Known) → RulesAreSorted shapes sig.forms (map rule_in (map basic bs ++ more)) → RulesAreSorted shapes sig.forms (map rule_in more)
  more-of [] more h = h
  more-of (b ∷ bs) more h = more-of bs more h.1

  disciplined-of : (bs : List Rule) (more : List Known) → AllDisciplined sig.subjects (map rule_in (map basic bs ++ more)) → AllDisciplined sig.subjects (map rule_in more)
  disciplined-of [] more h = h
  disciplined-of (b ∷ bs) more h = disciplined-of bs more h.1

  -- certificates of the rules are those of the plain rules
  all-certified : (rules : List Rule) (more : List Checked) → RulesAreSorted shapes sig.forms (map rule_in (map checked more)) → AllDisciplined sig.subjects (map rule_in (map checked more)) →
      AllCertified table sig.subjects sig.forms base rules more → AllCertified table sig.subjects sig.forms base rules (map (plain_checked table) more)
  all-certified rules [] h m c = tt
  all-certified rules (x ∷ xs) h m c =
      let a = flat-hypotheses x.rule h.0 m.0 in
      let b = plain-conclusion x h.0 c.1 in
      let e = subst (λ (y : Hypotheses). Derives rules y (flat_conclusion table sig.subjects x) x.proof) (sym a) c.0 in
      let f = subst (λ (y : Judgement). Derives rules (flat_hypotheses table sig.subjects (plain_rule table x.rule).premises) y x.proof) (sym b) e in
      let g = subst (λ (y : Judgement). JudgementIsSorted base sig.forms x.rule.sorts y) (sym b) c.1 in
      (f, g, all-certified rules xs h.1 m.1 c.2)

pub plain_rules_are_accepted : PlainRulesAreAccepted
plain_rules_are_accepted sig base shapes a ok =
    let more_sorted = more-of sig base shapes a.table ok.begins ok.no_typed ok.fits ok.typed ok.desugars a.base (map checked a.more) ok.sorted in
    let more_disciplined = disciplined-of sig base shapes a.table ok.begins ok.no_typed ok.fits ok.typed ok.desugars a.base (map checked a.more) ok.disciplined in
    record {
      begins = ok.begins;
      no_typed = ok.no_typed;
      fits = ok.fits;
      typed = ok.typed;
      base_sorted = ok.base_sorted;
      sorted = all-sorted sig base shapes a.table ok.begins ok.no_typed ok.fits ok.typed ok.desugars a.base a.more ok.sorted;
      moded = all-moded sig base shapes a.table ok.begins ok.no_typed ok.fits ok.typed ok.desugars a.base a.more ok.sorted ok.moded;
      disciplined = all-disciplined sig base shapes a.table ok.begins ok.no_typed ok.fits ok.typed ok.desugars a.base a.more ok.sorted ok.disciplined;
      desugars = ok.desugars;
      certified = all-certified sig base shapes a.table ok.begins ok.no_typed ok.fits ok.typed ok.desugars a.base a.more more_sorted more_disciplined ok.certified;
    }

-- lowering by plain rules is lowering by the rules
abbrev plain_known : Table → Known → Known
plain_known table (basic rule) = basic rule
plain_known table (checked c) = checked (plain_checked table c)

known-plain : (table : Table) (bs : List Rule) (more : List Checked) → map basic bs ++ map checked (map (plain_checked table) more) ≡ map (plain_known table) (map basic bs ++ map checked more)
known-plain table [] [] = refl
known-plain table [] (c ∷ cs) = ap (λ (ks : List Known). checked (plain_checked table c) ∷ ks) (known-plain table [] cs)
known-plain table (b ∷ bs) more = ap (λ (ks : List Known). basic b ∷ ks) (known-plain table bs more)

subjects-plain : (table : Table) (subjects : Modes) (s : ℕ → Tree) (js ks : List Judgement) → AreBare subjects js → SubjectsAreLowered subjects s js ks → SubjectsAreLowered subjects s (map (image_judgement table) js) ks
subjects-plain table subjects s [] [] b h = tt
subjects-plain table subjects s [] (k ∷ ks) b h = absurd h
subjects-plain table subjects s (j ∷ js) [] b h = absurd h
subjects-plain table subjects s (j ∷ js) (k ∷ ks) b h = (ap (map (instance s)) (same-subject table subjects j b.0) ∙ h.0, subjects-plain table subjects s js ks b.1 h.1)

module _ (sig : Signature) (base shapes : List Shape) (a : Accepted) (ok : IsAccepted sig base shapes a) (hyps : Hypotheses) where
  binds-plain : (known : Known) (r : ℕ) (binds more : List Tree) (ks : List Judgement) → slice_get (known_of a) r ≡ Some known → AreLoweredBinds a.table sig.subjects (rule_in known) binds more ks →
      AreLoweredBinds a.table sig.subjects (rule_in (plain_known a.table known)) binds more ks
  binds-plain (basic rule) r binds more ks e b = b
  binds-plain (checked c) r binds more ks e b = record {
    many = b.many;
    images = b.images;
    subjects_are = subst (λ (js : List Judgement). SubjectsAreLowered sig.subjects (bound_by more) js ks) (sym (judgements-image a.table c.rule.premises))
        (subjects-plain a.table sig.subjects (bound_by more) (judgements_of c.rule.premises) ks
        (all_bare sig.subjects c.rule.conclusion [] (judgements_of c.rule.premises) (accepted-disciplined sig base shapes a ok r (checked c) e).bare) b.subjects_are);
  }

  result-plain : (known : Known) (r : ℕ) (more : List Tree) (qs : Proofs) (q : Proof) (k : Judgement) → slice_get (known_of a) r ≡ Some known → LowersTo a.table sig.subjects known r more qs q k →
      LowersTo a.table sig.subjects (plain_known a.table known) r more qs q k
  result-plain (basic rule) r more qs q k e l = l
  result-plain (checked c) r more qs q k e l =
      let same = plain-conclusion sig base shapes a.table ok.begins ok.no_typed ok.fits ok.typed ok.desugars c (accepted-sorted sig base shapes a ok r (checked c) e)
      (certified-at a.table sig.subjects sig.forms base a.base a.base a.more r c ok.certified e).1 in
      (l.0, l.1 ∙ ap (judgement_instance (bound_by more)) (sym same))

  mutual
    lowers-plain : (p q : Proof) (k : Judgement) → Lowers a sig.subjects hyps p q k → Lowers (plain_of a) sig.subjects hyps p q k
    lowers-plain (given i) q k l = l
    lowers-plain (by r binds kids) q k (known, qs, ks, more, at_r, each, b, to) =
        let at_plain = ap (λ (x : List Known). slice_get x r) (known-plain a.table a.base a.more) ∙ slice_get-map (plain_known a.table) (known_of a) r ∙ ap (option_map (plain_known a.table)) at_r in
        (plain_known a.table known, qs, ks, more, at_plain, each_lowers-plain kids qs ks each, binds-plain known r binds more ks at_r b, result-plain known r more qs q k at_r to)

    each_lowers-plain : (ps qs : Proofs) (ks : List Judgement) → LowersEach a sig.subjects hyps ps qs ks → LowersEach (plain_of a) sig.subjects hyps ps qs ks
    each_lowers-plain no_more no_more [] l = tt
    each_lowers-plain no_more no_more (k ∷ ks) l = absurd l
    each_lowers-plain no_more (q ⊳ qs) ks l = absurd l
    each_lowers-plain (p ⊳ ps) no_more ks l = absurd l
    each_lowers-plain (p ⊳ ps) (q ⊳ qs) [] l = absurd l
    each_lowers-plain (p ⊳ ps) (q ⊳ qs) (k ∷ ks) l = (lowers-plain p q k l.0, each_lowers-plain ps qs ks l.1)

pub plain_rules_lower_alike : PlainRulesLowerAlike
plain_rules_lower_alike sig base shapes a ok hyps p q k l = lowers-plain sig base shapes a ok hyps p q k l
