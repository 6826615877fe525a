-- A kid that a certificate does not use need not be lowered.
use Rattle.std.proofs.Common.{◌≡◌, ℕ, zero, suc, ◌+◌, Bool, true, false, List, [], ◌∷◌, ◌++◌, ◌⊎◌, inl, inr, map, length, Option, Some, None, refl, sym, ap, ◌∙◌, subst, arith}
use Rattle.std.specs.Prelude.{slice_get}
use Rattle.sx_term.specs.Tree.{Tree, hole}
use Rattle.sx_term.specs.declared.sort.Sort.{Sort}
use Rattle.sx_term.specs.declared.sort.Sort.TheVariants.{Lex, Plain, Typed}
use Rattle.sx_term.specs.Sorts.{Shape, HaveSorts}
use Rattle.sx_rules.specs.Instances.{instance, Stands, StandsAmong, bound_by}
use Rattle.sx_rules.specs.Rules.{Judgement, Rule, Hypotheses, judgement_instance, judgements_of}
use Rattle.sx_rules.specs.Modes.{Modes, inputs, outputs}
use Rattle.sx_rules.specs.Sorts.{JudgementIsSorted, ProofIsSorted}
use Rattle.sx_rules.specs.Discipline.{subjects_of, IsBareSubject, AreBareSubjects, AreUntypedSorts, PlainHaveNoTyped}
use Rattle.sx_rules.specs.Typed.{IsUntypedVariable, TypedAreSubjects}
use Rattle.sx_rules.specs.Derivations.{Proof, Proofs, by, given, no_more, ◌⊳◌, proof_at, proof_instance, proof_instances, graft}
use Rattle.sx_rules.proofs.Instancing.{map_instance-same}
use Rattle.sx_rules.proofs.Sorted.{inputs-sorted, derivations_are_sorted}
use Rattle.sx_rules.proofs.Disciplined.{untyped_clash}
use Rattle.sx_plain.specs.Plain.{Table}
use Rattle.sx_plain.proofs.Tables.{begins-at}
use Rattle.std.proofs.lemmas.Option.{slice_get_within}
use Rattle.sx_rewrite.specs.Flat.{flat_judgement, flat_hypotheses}
use Rattle.sx_rewrite.specs.Accepted.{Checked, flat_conclusion, Known, basic, checked, rule_in, Accepted, known_of, Signature, IsAccepted}
use Rattle.sx_rewrite.specs.Lowers.{SubjectsAreLowered, AreLoweredBinds, LowersTo, Lowers, LowersEach}
use Rattle.sx_rewrite.specs.Used.{IsUsed, IsUsedAmong, StandsInProof, StandsInProofs, LowersWhereUsed, SubjectsWhereUsed, AreUsedBinds}
use Rattle.sx_rewrite.specs.UsedLaws.{TypedVariablesAreUsed, UnusedKidsAreFree}
use Rattle.sx_rewrite.proofs.Known.{certified-at, accepted-sorted, accepted-disciplined, accepted-typed}
use Rattle.sx_rewrite.proofs.Lowerings.{outputs-flat}
use Rattle.sx_rewrite.proofs.LoweredOnce.{lowering_is_unique}
use Rattle.sx_rewrite.proofs.LoweredAlways.{lowering_exists}
use Rattle.sx_rewrite.proofs.LoweredSorted.{moded-base}
use Rattle.sx_rewrite.proofs.FlatSorted.{plain-image, premises-sorted}
use Rattle.sx_rewrite.proofs.Used.{untyped_variables, comes, comes_within, graft-same}

known-basic : (base : List Rule) (more : List Checked) (r : ℕ) (rule : Rule) → slice_get base r ≡ Some rule → slice_get (map basic base ++ map checked more) r ≡ Some (basic rule)
known-basic [] more r rule e = cc
known-basic (b ∷ bs) more zero rule e = let q : b ≡ rule = cc in cc
known-basic (b ∷ bs) more (suc r) rule e = known-basic bs more r rule e

among_either : (bs : List Bool) (ts : List Tree) (v : ℕ) → StandsAmong v ts → StandsAmong v (inputs bs ts) ⊎ StandsAmong v (outputs bs ts)
among_either [] ts v h = inl h
among_either (b ∷ bs) [] v h = absurd h
among_either (true ∷ bs) (t ∷ ts) v (inl h) = inr (inl h)
among_either (true ∷ bs) (t ∷ ts) v (inr h) = go (among_either bs ts v h)
  where
    go : StandsAmong v (inputs bs ts) ⊎ StandsAmong v (outputs bs ts) → StandsAmong v (inputs bs ts) ⊎ (Stands v t ⊎ StandsAmong v (outputs bs ts))
    go (inl k) = inl k
    go (inr k) = inr (inr k)
among_either (false ∷ bs) (t ∷ ts) v (inl h) = inl (inl h)
among_either (false ∷ bs) (t ∷ ts) v (inr h) = go (among_either bs ts v h)
  where
    go : StandsAmong v (inputs bs ts) ⊎ StandsAmong v (outputs bs ts) → (Stands v t ⊎ StandsAmong v (inputs bs ts)) ⊎ StandsAmong v (outputs bs ts)
    go (inl k) = inl (inr k)
    go (inr k) = inr k

untyped_among : (shapes : List Shape) (vars : List Sort) → PlainHaveNoTyped shapes → (ts : List Tree) (sorts : List Sort) → HaveSorts shapes vars ts sorts → AreUntypedSorts sorts → (v : ℕ) → StandsAmong v ts → IsUntypedVariable vars v
untyped_among shapes vars no_typed [] sorts h u v k = absurd k
untyped_among shapes vars no_typed (t ∷ ts) [] h u v k = absurd h
untyped_among shapes vars no_typed (t ∷ ts) (x ∷ xs) h u v (inl k) = untyped_variables shapes vars no_typed t x h.0 u.0 v k
untyped_among shapes vars no_typed (t ∷ ts) (x ∷ xs) h u v (inr k) = untyped_among shapes vars no_typed ts xs h.1 u.1 v k

-- the premise whose flat form is a hypothesis
premise-of : (table : Table) (subjects : Modes) (js : List Judgement) (i : ℕ) (h : Judgement) → slice_get (map (flat_judgement table subjects None) js) i ≡ Some h →
    (j : Judgement) × (slice_get js i ≡ Some j) × (flat_judgement table subjects None j ≡ h)
premise-of table subjects [] i h e = cc
premise-of table subjects (j ∷ js) zero h e = (j, refl, (let q : flat_judgement table subjects None j ≡ h = cc in q))
premise-of table subjects (j ∷ js) (suc i) h e = premise-of table subjects js i h e

pub bare-at : (subjects : Modes) (conclusion : Judgement) (before js : List Judgement) (i : ℕ) (j : Judgement) → AreBareSubjects subjects conclusion before js → slice_get js i ≡ Some j →
    (subjects_of subjects j ≡ []) ⊎ (w : ℕ) × (subjects_of subjects j ≡ hole w ∷ [])
bare-at subjects conclusion before [] i j h e = cc
bare-at subjects conclusion before (x ∷ xs) (suc i) j h e = bare-at subjects conclusion (x ∷ before) xs i j h.1 e
bare-at subjects conclusion before (x ∷ xs) zero j h e =
    let q : x ≡ j = cc in
    subst (λ (y : Judgement). (subjects_of subjects y ≡ []) ⊎ (w : ℕ) × (subjects_of subjects y ≡ hole w ∷ [])) q (go h.0)
  where
    go : IsBareSubject subjects conclusion before x → (subjects_of subjects x ≡ []) ⊎ (w : ℕ) × (subjects_of subjects x ≡ hole w ∷ [])
    go (inl k) = inl k
    go (inr k) = inr (k.0, k.1)

bare-is : (v : ℕ) (ts : List Tree) → (ts ≡ []) ⊎ (w : ℕ) × (ts ≡ hole w ∷ []) → StandsAmong v ts → ts ≡ hole v ∷ []
bare-is v ts (inl e) h = absurd (subst (λ (us : List Tree). StandsAmong v us) e h)
bare-is v ts (inr x) h = go (subst (λ (us : List Tree). StandsAmong v us) x.1 h)
  where
    go : StandsAmong v (hole x.0 ∷ []) → ts ≡ hole v ∷ []
    go (inl k) = x.1 ∙ ap (λ (w : ℕ). hole w ∷ []) (sym k)
    go (inr k) = absurd k

module _ (sig : Signature) (base shapes : List Shape) (a : Accepted) (ok : IsAccepted sig base shapes a) where
  base_no_typed : PlainHaveNoTyped base
  base_no_typed label shape e = ok.no_typed label shape (sym (begins-at base shapes label ok.begins (slice_get_within base label shape e)) ∙ e)

  base_typed : (r : ℕ) (rule : Rule) → slice_get a.base r ≡ Some rule → TypedAreSubjects sig.subjects rule
  base_typed r rule e = (accepted-typed sig base shapes a ok r (basic rule) (known-basic a.base a.more r rule e)).1

  module _ (r : ℕ) (c : Checked) (at_r : slice_get (known_of a) r ≡ Some (checked c)) where
    abbrev flats : Hypotheses
    flats = flat_hypotheses a.table sig.subjects c.rule.premises

    abbrev goal : Judgement
    goal = flat_conclusion a.table sig.subjects c

    certificate-sorted : JudgementIsSorted base sig.forms c.rule.sorts goal × ProofIsSorted base a.base c.rule.sorts c.proof
    certificate-sorted =
        let proven = certified-at a.table sig.subjects sig.forms base a.base a.base a.more r c ok.certified at_r in
        let hyps_sorted = premises-sorted shapes base a.table c.rule.sorts (plain-image base shapes a.table ok.begins ok.no_typed ok.desugars c.rule.sorts) sig ok.fits c.rule.conclusion [] c.rule.premises
        (accepted-sorted sig base shapes a ok r (checked c) at_r).1 (accepted-disciplined sig base shapes a ok r (checked c) at_r).bare in
        derivations_are_sorted sig.modes a.base flats base sig.forms c.rule.sorts (moded-base sig.modes a.base a.more ok.moded) ok.base_sorted hyps_sorted goal c.proof proven.0
        (inputs-sorted base c.rule.sorts (sig.modes goal.form) goal.places (sig.forms goal.form) proven.1)

    typed-used : (v k : ℕ) → slice_get c.rule.sorts v ≡ Some (Typed k) → StandsInProof v c.proof ⊎ StandsAmong v goal.places →
        (i : ℕ) × (j : Judgement) × (slice_get (judgements_of c.rule.premises) i ≡ Some j) × (subjects_of sig.subjects j ≡ hole v ∷ []) × IsUsed i c.proof
    typed-used v k at_v x = end (here x)
      where
        at_place : StandsAmong v (inputs (sig.subjects goal.form) goal.places) ⊎ StandsAmong v (outputs (sig.subjects goal.form) goal.places) →
            (i : ℕ) × (h : Judgement) × (slice_get flats.judgements i ≡ Some h) × StandsAmong v (subjects_of sig.subjects h) × IsUsed i c.proof
        at_place (inl z) = absurd (untyped_clash c.rule.sorts v k (untyped_among base c.rule.sorts base_no_typed (inputs (sig.subjects goal.form) goal.places) (inputs (sig.subjects goal.form) (sig.forms goal.form))
            (inputs-sorted base c.rule.sorts (sig.subjects goal.form) goal.places (sig.forms goal.form) certificate-sorted.0) (ok.fits.others goal.form) v z) at_v)
        at_place (inr z) = comes base sig.subjects a.base base_no_typed base_typed flats c.rule.sorts v k at_v c.proof goal
            (certified-at a.table sig.subjects sig.forms base a.base a.base a.more r c ok.certified at_r).0 certificate-sorted.1 z

        here : StandsInProof v c.proof ⊎ StandsAmong v goal.places → (i : ℕ) × (h : Judgement) × (slice_get flats.judgements i ≡ Some h) × StandsAmong v (subjects_of sig.subjects h) × IsUsed i c.proof
        here (inl y) =
            let proven = certified-at a.table sig.subjects sig.forms base a.base a.base a.more r c ok.certified at_r in
            comes_within base sig.subjects a.base base_no_typed base_typed flats c.rule.sorts v k at_v c.proof goal proven.0 certificate-sorted.1 y
        here (inr y) = at_place (among_either (sig.subjects goal.form) goal.places v y)

        end : (i : ℕ) × (h : Judgement) × (slice_get flats.judgements i ≡ Some h) × StandsAmong v (subjects_of sig.subjects h) × IsUsed i c.proof →
            (i : ℕ) × (j : Judgement) × (slice_get (judgements_of c.rule.premises) i ≡ Some j) × (subjects_of sig.subjects j ≡ hole v ∷ []) × IsUsed i c.proof
        end y =
            let p = premise-of a.table sig.subjects (judgements_of c.rule.premises) y.0 y.1 y.2 in
            let at_premise : StandsAmong v (subjects_of sig.subjects p.0) =
            subst (λ (ts : List Tree). StandsAmong v ts) (outputs-flat a.table (sig.subjects p.0.form) p.0.places) (subst (λ (h : Judgement). StandsAmong v (subjects_of sig.subjects h)) (sym p.2) y.3) in
            let bare = bare-at sig.subjects c.rule.conclusion [] (judgements_of c.rule.premises) y.0 p.0 (accepted-disciplined sig base shapes a ok r (checked c) at_r).bare p.1 in
            (y.0, p.0, p.1, bare-is v (subjects_of sig.subjects p.0) bare at_premise, y.4)

pub typed_variables_are_used : TypedVariablesAreUsed
typed_variables_are_used sig base shapes a ok r c at_r v k at_v x = typed-used sig base shapes a ok r c at_r v k at_v x

-- an instance of a proof depends on the variables that stand in it
mutual
  pub proof_instance-same : (s t : ℕ → Tree) (p : Proof) → ((v : ℕ) → StandsInProof v p → s v ≡ t v) → proof_instance s p ≡ proof_instance t p
  proof_instance-same s t (by r binds kids) h =
      let a = map_instance-same s t binds (λ v k. h v (inl k)) in
      let b = proof_instances-same s t kids (λ v k. h v (inr k)) in
      λ i. by r (a i) (b i)
  proof_instance-same s t (given i) h = refl

  proof_instances-same : (s t : ℕ → Tree) (ps : Proofs) → ((v : ℕ) → StandsInProofs v ps → s v ≡ t v) → proof_instances s ps ≡ proof_instances t ps
  proof_instances-same s t no_more h = refl
  proof_instances-same s t (p ⊳ ps) h =
      let a = proof_instance-same s t p (λ v k. h v (inl k)) in
      let b = proof_instances-same s t ps (λ v k. h v (inr k)) in cc

mutual
  pub used-instance : (s : ℕ → Tree) (p : Proof) (i : ℕ) → IsUsed i (proof_instance s p) → IsUsed i p
  used-instance s (by r binds kids) i h = used-instances s kids i h
  used-instance s (given j) i h = h

  used-instances : (s : ℕ → Tree) (ps : Proofs) (i : ℕ) → IsUsedAmong i (proof_instances s ps) → IsUsedAmong i ps
  used-instances s no_more i h = h
  used-instances s (p ⊳ ps) i (inl h) = inl (used-instance s p i h)
  used-instances s (p ⊳ ps) i (inr h) = inr (used-instances s ps i h)

-- past the end of as many bindings as sorts
both-past : (sorts : List Sort) (ts us : List Tree) (v : ℕ) → length ts ≡ length sorts → length us ≡ length sorts → slice_get sorts v ≡ None → bound_by ts v ≡ bound_by us v
both-past [] [] [] v e f n = refl
both-past [] (t ∷ ts) us v e f n = absurd (omega arith)
both-past [] [] (u ∷ us) v e f n = absurd (omega arith)
both-past (x ∷ xs) [] us v e f n = absurd (omega arith)
both-past (x ∷ xs) (t ∷ ts) [] v e f n = absurd (omega arith)
both-past (x ∷ xs) (t ∷ ts) (u ∷ us) zero e f n = cc
both-past (x ∷ xs) (t ∷ ts) (u ∷ us) (suc v) e f n = both-past xs ts us v (omega arith) (omega arith) n

module _ (sig : Signature) (base shapes : List Shape) (a : Accepted) (ok : IsAccepted sig base shapes a) (hyps : Hypotheses) (certificate : Proof) where
  kids_same : (n : ℕ) (ps qs others : Proofs) (ks ls : List Judgement) → LowersWhereUsed a sig.subjects hyps certificate n ps qs ks → LowersEach a sig.subjects hyps ps others ls →
      (i : ℕ) → IsUsed (n + i) certificate → (proof_at qs i ≡ proof_at others i) × (slice_get ks i ≡ slice_get ls i)
  kids_same n no_more no_more no_more [] [] h l i u = (refl, refl)
  kids_same n no_more no_more no_more [] (y ∷ ls) h l i u = absurd l
  kids_same n no_more no_more (o ⊳ os) [] ls h l i u = absurd l
  kids_same n no_more no_more os (k ∷ ks) ls h l i u = absurd h
  kids_same n no_more (q ⊳ qs) os ks ls h l i u = absurd h
  kids_same n (p ⊳ ps) no_more os ks ls h l i u = absurd h
  kids_same n (p ⊳ ps) (q ⊳ qs) os [] ls h l i u = absurd h
  kids_same n (p ⊳ ps) (q ⊳ qs) no_more (k ∷ ks) ls h l i u = absurd l
  kids_same n (p ⊳ ps) (q ⊳ qs) (o ⊳ os) (k ∷ ks) [] h l i u = absurd l
  kids_same n (p ⊳ ps) (q ⊳ qs) (o ⊳ os) (k ∷ ks) (y ∷ ls) h l zero u =
      let used = subst (λ (m : ℕ). IsUsed m certificate) (let e : n + zero ≡ n = omega arith in e) u in
      let x = lowering_is_unique sig base shapes a ok hyps p q o k y (h.0 used) l.0 in
      (ap (λ (z : Proof). let s : Option Proof = Some z in s) x.0, ap (λ (z : Judgement). let s : Option Judgement = Some z in s) x.1)
  kids_same n (p ⊳ ps) (q ⊳ qs) (o ⊳ os) (k ∷ ks) (y ∷ ls) h l (suc i) u =
      kids_same (suc n) ps qs os ks ls h.1 l.1 i (subst (λ (m : ℕ). IsUsed m certificate) (let e : n + suc i ≡ suc n + i = omega arith in e) u)

  subjects_same : (n : ℕ) (s t : ℕ → Tree) (js ks ls : List Judgement) → SubjectsWhereUsed sig.subjects s certificate n js ks → SubjectsAreLowered sig.subjects t js ls →
      (i : ℕ) (j : Judgement) → slice_get js i ≡ Some j → IsUsed (n + i) certificate → slice_get ks i ≡ slice_get ls i → map (instance s) (subjects_of sig.subjects j) ≡ map (instance t) (subjects_of sig.subjects j)
  subjects_same n s t [] ks ls h l i j e u f = cc
  subjects_same n s t (x ∷ js) [] ls h l i j e u f = absurd h
  subjects_same n s t (x ∷ js) (k ∷ ks) [] h l i j e u f = absurd l
  subjects_same n s t (x ∷ js) (k ∷ ks) (y ∷ ls) h l zero j e u f =
      let used = subst (λ (m : ℕ). IsUsed m certificate) (let g : n + zero ≡ n = omega arith in g) u in
      let q : x ≡ j = cc in
      let r : k ≡ y = cc in
      subst (λ (z : Judgement). map (instance s) (subjects_of sig.subjects z) ≡ map (instance t) (subjects_of sig.subjects z)) q
      (h.0 used ∙ ap (subjects_of sig.subjects) r ∙ sym l.0)
  subjects_same n s t (x ∷ js) (k ∷ ks) (y ∷ ls) h l (suc i) j e u f =
      subjects_same (suc n) s t js ks ls h.1 l.1 i j e (subst (λ (m : ℕ). IsUsed m certificate) (let g : n + suc i ≡ suc n + i = omega arith in g) u) f

module _ (sig : Signature) (base shapes : List Shape) (a : Accepted) (ok : IsAccepted sig base shapes a) (hyps : Hypotheses) (r : ℕ) (c : Checked) (at_r : slice_get (known_of a) r ≡ Some (checked c))
    (binds more other : List Tree) (kids qs os : Proofs) (ks ls : List Judgement)
    (l : LowersWhereUsed a sig.subjects hyps c.proof 0 kids qs ks) (b : AreUsedBinds a.table sig.subjects c.rule c.proof binds more ks)
    (m : LowersEach a sig.subjects hyps kids os ls) (d : AreLoweredBinds a.table sig.subjects c.rule binds other ls) where
  used-zero : (i : ℕ) → IsUsed i c.proof → IsUsed (0 + i) c.proof
  used-zero i u = subst (λ (n : ℕ). IsUsed n c.proof) (let e : i ≡ 0 + i = omega arith in e) u

  pub bound-same : (v : ℕ) → StandsInProof v c.proof ⊎ StandsAmong v (flat_conclusion a.table sig.subjects c).places → bound_by more v ≡ bound_by other v
  bound-same v x = go (slice_get c.rule.sorts v) refl
    where
      untyped : (sort : Sort) → slice_get c.rule.sorts v ≡ Some sort → ((k : ℕ) → sort ≡ Typed k → ⊥) → bound_by more v ≡ bound_by other v
      untyped sort e u = b.images v (sort, e, u) ∙ sym (d.images v (sort, e, u))

      go : (o : Option Sort) → slice_get c.rule.sorts v ≡ o → bound_by more v ≡ bound_by other v
      go None e = both-past c.rule.sorts more other v b.many d.many e
      go (Some (Lex kind)) e = untyped (Lex kind) e (λ k f. cc)
      go (Some (Plain n)) e = untyped (Plain n) e (λ k f. cc)
      go (Some (Typed k)) e =
          let y = typed-used sig base shapes a ok r c at_r v k e x in
          let same = kids_same sig base shapes a ok hyps c.proof 0 kids qs os ks ls l m y.0 (used-zero y.0 y.4) in
          let z = subjects_same sig base shapes a ok hyps c.proof 0 (bound_by more) (bound_by other) (judgements_of c.rule.premises) ks ls b.subjects_are d.subjects_are y.0 y.1 y.2 (used-zero y.0 y.4) same.1 in
          let w : bound_by more v ∷ [] ≡ bound_by other v ∷ [] = sym (ap (map (instance (bound_by more))) y.3) ∙ z ∙ ap (map (instance (bound_by other))) y.3 in cc

  proof-same : graft qs (proof_instance (bound_by more) c.proof) ≡ graft os (proof_instance (bound_by other) c.proof)
  proof-same =
      ap (graft qs) (proof_instance-same (bound_by more) (bound_by other) c.proof (λ v x. bound-same v (inl x)))
      ∙ graft-same qs os (proof_instance (bound_by other) c.proof)
      (λ i u. (kids_same sig base shapes a ok hyps c.proof 0 kids qs os ks ls l m i (used-zero i (used-instance (bound_by other) c.proof i u))).0)

  judgement-same : judgement_instance (bound_by more) (flat_conclusion a.table sig.subjects c) ≡ judgement_instance (bound_by other) (flat_conclusion a.table sig.subjects c)
  judgement-same =
      let goal = flat_conclusion a.table sig.subjects c in
      let e = map_instance-same (bound_by more) (bound_by other) goal.places (λ v x. bound-same v (inr x)) in
      λ i. record { form = goal.form; places = e i }

pub unused_kids_are_free : UnusedKidsAreFree
unused_kids_are_free sig base shapes a ok hyps r c at_r binds more kids qs ks j derives l b = go (lowering_exists sig base shapes a ok hyps (by r binds kids) j derives)
  where
    go : (q : Proof) × (k : Judgement) × Lowers a sig.subjects hyps (by r binds kids) q k →
        Lowers a sig.subjects hyps (by r binds kids) (graft qs (proof_instance (bound_by more) c.proof)) (judgement_instance (bound_by more) (flat_conclusion a.table sig.subjects c))
    go (q, k, (known, os, ls, other, at_k, each, d, to)) =
        let same_some : Some known ≡ Some (checked c) = sym at_k ∙ at_r in
        let same : known ≡ checked c = cc in
        let d' = subst (λ (x : Known). AreLoweredBinds a.table sig.subjects (rule_in x) binds other ls) same d in
        let to' = subst (λ (x : Known). LowersTo a.table sig.subjects x r other os q k) same to in
        let e = proof-same sig base shapes a ok hyps r c at_r binds more other kids qs os ks ls l b each d' in
        let f = judgement-same sig base shapes a ok hyps r c at_r binds more other kids qs os ks ls l b each d' in
        (checked c, os, ls, other, at_r, each, d', (e, f))
