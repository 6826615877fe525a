-- What is lowered derives by the base rules.
use Rattle.std.proofs.Common.{◌≡◌, ℕ, zero, suc, Bool, true, false, List, [], ◌∷◌, ◌⊎◌, inl, inr, map, length, Option, Some, None, refl, sym, ap, ◌∙◌, subst}
use Rattle.std.specs.Prelude.{slice_get}
use Rattle.sx_term.specs.Tree.{Tree}
use Rattle.sx_term.specs.declared.sort.Sort.{Sort}
use Rattle.sx_term.specs.Sorts.{Shape, HaveSorts}
use Rattle.sx_rules.specs.Instances.{instance, Stands, StandsAmong, bound_by}
use Rattle.sx_rules.specs.Rules.{Judgement, Premise, holds, apart, Rule, Hypotheses}
use Rattle.sx_rules.specs.Rules.{judgement_instance, judgements_of, IsPair, AreApart, AllApart}
use Rattle.sx_rules.specs.Modes.{Modes, inputs, outputs, inputs_of, outputs_of}
use Rattle.sx_rules.specs.Sorts.{FormSorts, JudgementIsSorted, PremisesAreSorted}
use Rattle.sx_rules.specs.Typed.{IsUntypedVariable, TypedInSubjects}
use Rattle.sx_rules.specs.Derivations.{Proof, Proofs, by, given, no_more, ◌⊳◌, Derives, DeriveEach}
use Rattle.sx_rules.specs.Derivations.{proof_instance, hypotheses_instance, pair_instance}
use Rattle.sx_rules.specs.DerivationLaws.{PairsApart}
use Rattle.sx_rules.proofs.Instancing.{instance-same, map_instance-same}
use Rattle.sx_rules.proofs.Moded.{inputs-map, outputs-map, judgement_known}
use Rattle.sx_rules.proofs.Derived.{substitution_keeps_derivations, grafts_are_derivations}
use Rattle.sx_plain.specs.Plain.{Table, image}
use Rattle.sx_plain.specs.Tables.{IsPlainTable}
use Rattle.sx_plain.proofs.Images.{image-instance}
use Rattle.sx_rewrite.proofs.Images.{map_image-instance, lexemes-image, stands-map_image}
use Rattle.sx_plain.proofs.Tables.{stands-image, base-stays, sorted-below}
use Rattle.sx_rewrite.specs.Flat.{flat_places, flat_judgement, flat_pairs, flat_hypotheses}
use Rattle.sx_rewrite.specs.Accepted.{flat_conclusion, Known, basic, checked, rule_in, Accepted}
use Rattle.sx_rewrite.specs.Accepted.{known_of, extended_rules, Signature, IsAccepted}
use Rattle.sx_rewrite.specs.Lowers.{SubjectsAreLowered, AreLoweredBinds, LowersTo, Lowers}
use Rattle.sx_rewrite.specs.Lowers.{LowersEach, IsImageOf, TreeLabelsBelow, JudgementsBelow}
use Rattle.sx_rewrite.specs.Lowers.{PairsBelow, HypothesesBelow}
use Rattle.sx_rewrite.specs.Laws.{LoweredAreDerivations}
use Rattle.sx_rewrite.proofs.Known.{basic-at, certified-at, sorted-at, rule-at, accepted-typed}

-- flat places
module _ (table : Table) (subject : Option Tree) where
  pub inputs-flat : (bs : List Bool) (ts : List Tree) → inputs bs (flat_places table subject bs ts) ≡ map (image table) (inputs bs ts)
  inputs-flat [] ts = refl
  inputs-flat (b ∷ bs) [] = refl
  inputs-flat (true ∷ bs) (t ∷ ts) = inputs-flat bs ts
  inputs-flat (false ∷ bs) (t ∷ ts) = ap (λ (us : List Tree). image table t ∷ us) (inputs-flat bs ts)

pub outputs-flat : (table : Table) (bs : List Bool) (ts : List Tree) → outputs bs (flat_places table None bs ts) ≡ outputs bs ts
outputs-flat table [] ts = refl
outputs-flat table (b ∷ bs) [] = refl
outputs-flat table (true ∷ bs) (t ∷ ts) = ap (λ (us : List Tree). t ∷ us) (outputs-flat table bs ts)
outputs-flat table (false ∷ bs) (t ∷ ts) = outputs-flat table bs ts

-- terms that are base stay
module _ (base : ℕ) (table : Table) (is : IsPlainTable base table) where
  pub map-stays : (ts : List Tree) → TreeLabelsBelow base ts → map (image table) ts ≡ ts
  map-stays [] h = refl
  map-stays (t ∷ ts) h =
      let a = base-stays base table is t h.0 in
      let b = map-stays ts h.1 in cc

  pub flat-stays : (bs : List Bool) (ts : List Tree) → TreeLabelsBelow base ts → flat_places table None bs ts ≡ ts
  flat-stays [] ts h = map-stays ts h
  flat-stays (b ∷ bs) [] h = refl
  flat-stays (true ∷ bs) (t ∷ ts) h = ap (λ (us : List Tree). t ∷ us) (flat-stays bs ts h.1)
  flat-stays (false ∷ bs) (t ∷ ts) h =
      let a = base-stays base table is t h.0 in
      let b = flat-stays bs ts h.1 in cc

  pair-image : (ps : List (Tree × Tree)) (t u : Tree) → PairsBelow base ps → IsPair ps t u → IsPair ps (image table t) (image table u)
  pair-image [] t u b h = h
  pair-image (p ∷ ps) t u b (inl h) =
      inl (sym (base-stays base table is p.0 b.0.0) ∙ ap (image table) h.0, sym (base-stays base table is p.1 b.0.1) ∙ ap (image table) h.1)
  pair-image (p ∷ ps) t u b (inr h) = inr (pair-image ps t u b.1 h)

  pub apart-image : (hyps : Hypotheses) (t u : Tree) → PairsBelow base hyps.pairs → AreApart hyps t u → AreApart hyps (image table t) (image table u)
  apart-image hyps t u b (inl h) = inl (pair-image hyps.pairs t u b h)
  apart-image hyps t u b (inr (inl h)) = inr (inl (pair-image hyps.pairs u t b h))
  apart-image hyps t u b (inr (inr h)) = inr (inr (lexemes-image table t u h))

pub inputs-below : (n : ℕ) (bs : List Bool) (ts : List Tree) → TreeLabelsBelow n ts → TreeLabelsBelow n (inputs bs ts)
inputs-below n [] ts h = h
inputs-below n (b ∷ bs) [] h = tt
inputs-below n (true ∷ bs) (t ∷ ts) h = inputs-below n bs ts h.1
inputs-below n (false ∷ bs) (t ∷ ts) h = (h.0, inputs-below n bs ts h.1)

pub have_sorts-below : (shapes : List Shape) (vars : List Sort) (ts : List Tree) (sorts : List Sort) → HaveSorts shapes vars ts sorts → TreeLabelsBelow (length shapes) ts
have_sorts-below shapes vars [] sorts h = tt
have_sorts-below shapes vars (t ∷ ts) [] h = absurd h
have_sorts-below shapes vars (t ∷ ts) (x ∷ xs) h = (sorted-below shapes vars t x h.0, have_sorts-below shapes vars ts xs h.1)

pub given-below : (n : ℕ) (js : List Judgement) (i : ℕ) (j : Judgement) → JudgementsBelow n js → slice_get js i ≡ Some j → TreeLabelsBelow n j.places
given-below n [] i j h e = cc
given-below n (x ∷ xs) zero j h e = let q : x ≡ j = cc in subst (λ (y : Judgement). TreeLabelsBelow n y.places) q h.0
given-below n (x ∷ xs) (suc i) j h e = given-below n xs i j h.1 e

module _ (rules : List Rule) (n : ℕ) (table : Table) (is : IsPlainTable n table) (subjects : Modes) (hyps : Hypotheses) (below : HypothesesBelow n hyps) where
  pub own_image : (j : Judgement) → TreeLabelsBelow n j.places → IsImageOf table subjects j j
  own_image j b = record {
    same_form = refl;
    images = sym (map-stays n table is (inputs_of subjects j) (inputs-below n (subjects j.form) j.places b));
  }

  abbrev pub IsLoweredTo : Judgement → Judgement → Proof → Type 0
  IsLoweredTo j k q = Derives rules hyps k q × IsImageOf table subjects k j

  abbrev pub EachLoweredTo : List Judgement → List Judgement → Proofs → Type 0
  EachLoweredTo [] [] no_more = Unit {0}
  EachLoweredTo (j ∷ js) (k ∷ ks) (q ⊳ qs) = IsLoweredTo j k q × EachLoweredTo js ks qs
  EachLoweredTo _ _ _ = ⊥

  -- what holds under the lowered substitution s' in place of s
  module _ (rule : Rule) (s s' : ℕ → Tree) (imaged : (v : ℕ) → IsUntypedVariable rule.sorts v → s' v ≡ image table (s v)) where
    flat_others : (j : Judgement) → ((v : ℕ) → StandsAmong v (inputs_of subjects j) → IsUntypedVariable rule.sorts v) →
        map (image table) (inputs_of subjects (judgement_instance s j)) ≡ map (instance s') (map (image table) (inputs_of subjects j))
    flat_others j u =
        ap (map (image table)) (inputs-map s (subjects j.form) j.places)
        ∙ map_image-instance table s (inputs_of subjects j)
        ∙ map_instance-same (λ v. image table (s v)) s' (map (image table) (inputs_of subjects j))
        (λ v h. sym (imaged v (u v (stands-map_image table (inputs_of subjects j) v h))))

    flat_instance : (t : Tree) → ((v : ℕ) → Stands v t → IsUntypedVariable rule.sorts v) → image table (instance s t) ≡ instance s' (image table t)
    flat_instance t u =
        image-instance table s t
        ∙ instance-same (λ v. image table (s v)) s' (image table t) (λ v h. sym (imaged v (u v (stands-image table t v h))))

    lowered_premise : (j k : Judgement) → ((v : ℕ) → StandsAmong v (inputs_of subjects j) → IsUntypedVariable rule.sorts v) →
        IsImageOf table subjects k (judgement_instance s j) → map (instance s') (outputs_of subjects j) ≡ outputs_of subjects k →
        k ≡ judgement_instance s' (flat_judgement table subjects None j)
    lowered_premise j k u h e =
        let flat = flat_judgement table subjects None j in
        let others : inputs_of subjects (judgement_instance s' flat) ≡ map (instance s') (map (image table) (inputs_of subjects j)) =
        inputs-map s' (subjects j.form) flat.places ∙ ap (map (instance s')) (inputs-flat table None (subjects j.form) j.places) in
        let subject : outputs_of subjects (judgement_instance s' flat) ≡ map (instance s') (outputs_of subjects j) =
        outputs-map s' (subjects j.form) flat.places ∙ ap (map (instance s')) (outputs-flat table (subjects j.form) j.places) in
        let terms = h.images ∙ flat_others j u ∙ sym others in
        judgement_known subjects k (judgement_instance s' flat) (λ i. record { form = h.same_form i; terms = terms i }) (sym e ∙ sym subject)

    pub lowered_premises : (ps : List Premise) (ks : List Judgement) (qs : Proofs) → TypedInSubjects subjects rule.sorts ps →
        EachLoweredTo (map (judgement_instance s) (judgements_of ps)) ks qs → SubjectsAreLowered subjects s' (judgements_of ps) ks →
        DeriveEach rules hyps (map (judgement_instance s') (map (flat_judgement table subjects None) (judgements_of ps))) qs
    lowered_premises [] [] no_more u h e = tt
    lowered_premises [] [] (q ⊳ qs) u h e = absurd h
    lowered_premises [] (k ∷ ks) qs u h e = absurd e
    lowered_premises (apart t v ∷ ps) ks qs u h e = lowered_premises ps ks qs u.1 h e
    lowered_premises (holds j ∷ ps) [] qs u h e = absurd e
    lowered_premises (holds j ∷ ps) (k ∷ ks) no_more u h e = absurd h
    lowered_premises (holds j ∷ ps) (k ∷ ks) (q ⊳ qs) u h e = (
      subst (λ (x : Judgement). Derives rules hyps x q) (lowered_premise j k u.0 h.0.1 e.0) h.0.0,
      lowered_premises ps ks qs u.1 h.1 e.1,
    )

    lowered_pair : (t u : Tree) → ((v : ℕ) → Stands v t ⊎ Stands v u → IsUntypedVariable rule.sorts v) → AreApart hyps (instance s t) (instance s u) →
        AreApart hyps (instance s' (image table t)) (instance s' (image table u))
    lowered_pair t u k h =
        let a = apart-image n table is hyps (instance s t) (instance s u) below.1 h in
        let b = subst (λ (x : Tree). AreApart hyps x (image table (instance s u))) (flat_instance t (λ v i. k v (inl i))) a in
        subst (λ (x : Tree). AreApart hyps (instance s' (image table t)) x) (flat_instance u (λ v i. k v (inr i))) b

    pub lowered_pairs : (ps : List Premise) → TypedInSubjects subjects rule.sorts ps → AllApart hyps s ps →
        PairsApart hyps (map (pair_instance s') (flat_pairs table ps))
    lowered_pairs [] u h = tt
    lowered_pairs (holds j ∷ ps) u h = lowered_pairs ps u.1 h
    lowered_pairs (apart t v ∷ ps) u h = (lowered_pair t v u.0 h.0, lowered_pairs ps u.1 h.1)

    pub lowered_conclusion : (subject : Option Tree) → ((v : ℕ) → StandsAmong v (inputs_of subjects rule.conclusion) → IsUntypedVariable rule.sorts v) →
        IsImageOf table subjects (judgement_instance s' (flat_judgement table subjects subject rule.conclusion)) (judgement_instance s rule.conclusion)
    lowered_conclusion subject u = record {
      same_form = refl;
      images = inputs-map s' (subjects rule.conclusion.form) (flat_places table subject (subjects rule.conclusion.form) rule.conclusion.places)
          ∙ ap (map (instance s')) (inputs-flat table subject (subjects rule.conclusion.form) rule.conclusion.places)
          ∙ sym (flat_others rule.conclusion u);
    }

-- a base rule is its own flat form
module _ (base : List Shape) (forms : FormSorts) (table : Table) (is : IsPlainTable (length base) table) (subjects : Modes) (vars : List Sort) where
  flat-judgement : (j : Judgement) → JudgementIsSorted base forms vars j → flat_judgement table subjects None j ≡ j
  flat-judgement j h =
      let e = flat-stays (length base) table is (subjects j.form) j.places (have_sorts-below base vars j.places (forms j.form) h) in
      λ i. record { form = j.form; places = e i }

  flat-judgements : (ps : List Premise) → PremisesAreSorted base forms vars ps → map (flat_judgement table subjects None) (judgements_of ps) ≡ judgements_of ps
  flat-judgements [] h = refl
  flat-judgements (holds j ∷ ps) h =
      let a = flat-judgement j h.0 in
      let b = flat-judgements ps h.1 in cc
  flat-judgements (apart t u ∷ ps) h = flat-judgements ps h.1

  flat-apart : (hyps : Hypotheses) (s : ℕ → Tree) (ps : List Premise) → PremisesAreSorted base forms vars ps →
      PairsApart hyps (map (pair_instance s) (flat_pairs table ps)) → AllApart hyps s ps
  flat-apart hyps s [] h a = tt
  flat-apart hyps s (holds j ∷ ps) h a = flat-apart hyps s ps h.1 a
  flat-apart hyps s (apart t u ∷ ps) h a =
      let e = base-stays (length base) table is t (sorted-below base vars t _ h.0.1) in
      let f = base-stays (length base) table is u (sorted-below base vars u _ h.0.2) in
      let x = subst (λ (y : Tree). AreApart hyps (instance s y) (instance s (image table u))) e a.0 in
      (subst (λ (y : Tree). AreApart hyps (instance s t) (instance s y)) f x, flat-apart hyps s ps h.1 a.1)

module _ (sig : Signature) (base shapes : List Shape) (a : Accepted) (ok : IsAccepted sig base shapes a) (hyps : Hypotheses) (below : HypothesesBelow (length base) hyps) where
  abbrev Goes : Judgement → Judgement → Proof → Type 0
  Goes j k q = IsLoweredTo a.base (length base) a.table ok.desugars.is_table sig.subjects hyps below j k q

  abbrev EachGoes : List Judgement → List Judgement → Proofs → Type 0
  EachGoes js ks qs = EachLoweredTo a.base (length base) a.table ok.desugars.is_table sig.subjects hyps below js ks qs

  rule_lowered : (r : ℕ) (known : Known) (binds more : List Tree) (qs : Proofs) (ks : List Judgement) (q : Proof) (k : Judgement) →
      slice_get (known_of a) r ≡ Some known → AreLoweredBinds a.table sig.subjects (rule_in known) binds more ks →
      AllApart hyps (bound_by binds) (rule_in known).premises →
      EachGoes (map (judgement_instance (bound_by binds)) (judgements_of (rule_in known).premises)) ks qs →
      LowersTo a.table sig.subjects known r more qs q k →
      Goes (judgement_instance (bound_by binds) (rule_in known).conclusion) k q
  rule_lowered r (basic rule) binds more qs ks q k at_r b apart_ones each l =
      let s' = bound_by more in
      let u = (accepted-typed sig base shapes a ok r (basic rule) at_r).0 in
      let in_base = basic-at a.base a.more r rule at_r in
      let sorted = sorted-at base sig.forms a.base r rule ok.base_sorted in_base in
      let is = ok.desugars.is_table in
      let kids = lowered_premises a.base (length base) a.table is sig.subjects hyps below rule (bound_by binds) s' b.images rule.premises ks qs u.1 each b.subjects_are in
      let kids' = subst (λ (js : List Judgement). DeriveEach a.base hyps (map (judgement_instance s') js) qs) (flat-judgements base sig.forms a.table is sig.subjects rule.sorts rule.premises sorted.1) kids in
      let pairs = lowered_pairs a.base (length base) a.table is sig.subjects hyps below rule (bound_by binds) s' b.images rule.premises u.1 apart_ones in
      let here : Derives a.base hyps (judgement_instance s' rule.conclusion) (by r more qs) =
      (rule, in_base, b.many, refl, flat-apart base sig.forms a.table is sig.subjects rule.sorts hyps s' rule.premises sorted.1 pairs, kids') in
      let flat = lowered_conclusion a.base (length base) a.table is sig.subjects hyps below rule (bound_by binds) s' b.images None u.0 in
      let flat' = subst (λ (x : Judgement). IsImageOf a.table sig.subjects (judgement_instance s' x) (judgement_instance (bound_by binds) rule.conclusion)) (flat-judgement base sig.forms a.table is sig.subjects rule.sorts rule.conclusion sorted.0) flat in (
        subst (λ (x : Judgement). Derives a.base hyps x q) (sym l.1) (subst (λ (x : Proof). Derives a.base hyps (judgement_instance s' rule.conclusion) x) (sym l.0) here),
        subst (λ (x : Judgement). IsImageOf a.table sig.subjects x (judgement_instance (bound_by binds) rule.conclusion)) (sym l.1) flat',
      )
  rule_lowered r (checked c) binds more qs ks q k at_r b apart_ones each l =
      let s' = bound_by more in
      let u = (accepted-typed sig base shapes a ok r (checked c) at_r).0 in
      let is = ok.desugars.is_table in
      let flats = flat_hypotheses a.table sig.subjects c.rule.premises in
      let proven = (certified-at a.table sig.subjects sig.forms base a.base a.base a.more r c ok.certified at_r).0 in
      let kids = lowered_premises a.base (length base) a.table is sig.subjects hyps below c.rule (bound_by binds) s' b.images c.rule.premises ks qs u.1 each b.subjects_are in
      let pairs = lowered_pairs a.base (length base) a.table is sig.subjects hyps below c.rule (bound_by binds) s' b.images c.rule.premises u.1 apart_ones in
      let goal = flat_conclusion a.table sig.subjects c in
      let moved = substitution_keeps_derivations a.base flats goal c.proof s' proven in
      let here = grafts_are_derivations a.base (hypotheses_instance s' flats) hyps qs kids pairs (judgement_instance s' goal) (proof_instance s' c.proof) moved in
      let flat = lowered_conclusion a.base (length base) a.table is sig.subjects hyps below c.rule (bound_by binds) s' b.images c.body u.0 in (
        subst (λ (x : Judgement). Derives a.base hyps x q) (sym l.1) (subst (λ (x : Proof). Derives a.base hyps (judgement_instance s' goal) x) (sym l.0) here),
        subst (λ (x : Judgement). IsImageOf a.table sig.subjects x (judgement_instance (bound_by binds) c.rule.conclusion)) (sym l.1) flat,
      )

  given_lowered : (i : ℕ) (q : Proof) (j k : Judgement) → slice_get hyps.judgements i ≡ Some j → (q ≡ given i) × (slice_get hyps.judgements i ≡ Some k) → Goes j k q
  given_lowered i q j k d l =
      let same : Some k ≡ Some j = sym l.1 ∙ d in
      let e : k ≡ j = cc in
      let here = subst (λ (x : Proof). Derives a.base hyps k x) (sym l.0) l.1 in
      let flat = own_image a.base (length base) a.table ok.desugars.is_table sig.subjects hyps below k (given-below (length base) hyps.judgements i k below.0 l.1) in
      (here, subst (λ (x : Judgement). IsImageOf a.table sig.subjects k x) e flat)

  mutual
    pub lowered : (p : Proof) (q : Proof) (j k : Judgement) → Derives (extended_rules a) hyps j p → Lowers a sig.subjects hyps p q k → Goes j k q
    lowered (given i) q j k d l = given_lowered i q j k d l
    lowered (by r binds kids) q j k (rule, at_r, many, concluded, apart_ones, each) (known, qs, ks, more, at_k, ls, b, l) =
        let same_some : Some rule ≡ Some (rule_in known) = sym at_r ∙ rule-at (known_of a) r known at_k in
        let same_rule : rule ≡ rule_in known = cc in
        let apart' = subst (λ (x : Rule). AllApart hyps (bound_by binds) x.premises) same_rule apart_ones in
        let each' = subst (λ (x : Rule). DeriveEach (extended_rules a) hyps (map (judgement_instance (bound_by binds)) (judgements_of x.premises)) kids) same_rule each in
        let concluded' = subst (λ (x : Rule). judgement_instance (bound_by binds) x.conclusion ≡ j) same_rule concluded in
        subst (λ (x : Judgement). Goes x k q) concluded'
        (rule_lowered r known binds more qs ks q k at_k b apart'
        (each_lowered kids qs (map (judgement_instance (bound_by binds)) (judgements_of (rule_in known).premises)) ks each' ls) l)

    pub each_lowered : (ps : Proofs) (qs : Proofs) (js ks : List Judgement) → DeriveEach (extended_rules a) hyps js ps → LowersEach a sig.subjects hyps ps qs ks → EachGoes js ks qs
    each_lowered no_more no_more [] [] d l = tt
    each_lowered no_more no_more [] (k ∷ ks) d l = absurd l
    each_lowered no_more no_more (j ∷ js) ks d l = absurd d
    each_lowered no_more (q ⊳ qs) js ks d l = absurd l
    each_lowered (p ⊳ ps) qs [] ks d l = absurd d
    each_lowered (p ⊳ ps) no_more (j ∷ js) ks d l = absurd l
    each_lowered (p ⊳ ps) (q ⊳ qs) (j ∷ js) [] d l = absurd l
    each_lowered (p ⊳ ps) (q ⊳ qs) (j ∷ js) (k ∷ ks) d l = (lowered p q j k d.0 l.0, each_lowered ps qs js ks d.1 l.1)

pub lowered_are_derivations : LoweredAreDerivations
lowered_are_derivations sig base shapes a ok hyps below p q j k d l = lowered sig base shapes a ok hyps below p q j k d l
