-- A node whose kids are lowered, with what is put for the variables of its rule.
use Rattle.std.proofs.Common.{◌≡◌, arith, ℕ, zero, suc, ◌+◌, ◌<◌, ◌⊎◌, inl, inr, Bool, true, false, List, [], ◌∷◌, ◌++◌, map, length, Option, Some, None, if◌then◌else◌, refl, sym, ap, ◌∙◌, subst}
use Rattle.std.specs.Prelude.{slice_get}
use Rattle.std.proofs.lemmas.Option.{slice_get_within}
use Rattle.sx_term.specs.Tree.{Tree, hole}
use Rattle.sx_term.specs.declared.sort.Sort.{Sort}
use Rattle.sx_term.specs.declared.sort.Sort.TheVariants.{Lex, Plain, Typed}
use Rattle.sx_term.specs.Sorts.{Shape}
use Rattle.sx_rules.specs.Instances.{instance, bound_by}
use Rattle.sx_rules.specs.Rules.{Judgement, Rule, Hypotheses, judgements_of}
use Rattle.sx_rules.specs.Modes.{Modes}
use Rattle.sx_rules.specs.Sorts.{IsUntypedSort}
use Rattle.sx_rules.specs.Discipline.{subjects_of, IsSubjectIn}
use Rattle.sx_rules.specs.Typed.{IsUntypedVariable}
use Rattle.sx_rules.specs.Derivations.{Proof, Proofs, by, given, no_more, ◌⊳◌, proof_at, Derives}
use Rattle.sx_rules.specs.Derivations.{ShallowJudgements, proof_instance, graft}
use Rattle.sx_rules.proofs.Instancing.{map_instance-same}
use Rattle.sx_rules.proofs.Disciplined.{untyped_clash}
use Rattle.sx_plain.specs.Plain.{Table, image}
use Rattle.sx_rewrite.specs.declared.rewrite_error.RewriteError.{RewriteError}
use Rattle.sx_rewrite.specs.Accepted.{Checked, Known, basic, checked, rule_in, Accepted, known_of}
use Rattle.sx_rewrite.specs.Accepted.{extended_rules, Signature, IsAccepted}
use Rattle.sx_rewrite.specs.Lowers.{SubjectsAreLowered, AreLoweredBinds, LowersTo, Lowers}
use Rattle.sx_rewrite.specs.Lowers.{LowersEach, HypothesesBelow}
use Rattle.sx_rewrite.specs.Used.{IsUsed, StandsInProof, StandsInProofs, LowersWhereUsed}
use Rattle.sx_rewrite.specs.Used.{SubjectsWhereUsed, AreUsedBinds}
use Rattle.sx_rewrite.specs.LoweredSizes.{proof_count}
use Rattle.sx_rewrite.specs.Measured.{is_used, node_terms, certificate_terms, certificate_terms_of}
use Rattle.sx_rewrite.specs.Measured.{used_terms, all_terms, terms_at, Measures, MeasuresEach}
use Rattle.sx_rewrite.specs.Rewriting.{RewriteRefusal, first_over}
use Rattle.sx_rewrite.specs.Puts.{Tells}
use Rattle.sx_rewrite.specs.PutImages.{image_for, images_for}
use Rattle.sx_rewrite.specs.PutSubjects.{ArePutBelow}
use Rattle.sx_rewrite.specs.Lowering.{CanLower, IsLoweredTo, AreLoweredTo, needed_terms}
use Rattle.sx_rewrite.specs.Lowering.{IsLoweringRefused, AreRefused}
use Rattle.sx_rewrite.proofs.Known.{rule-at, accepted-sorted, accepted-disciplined, accepted-typed}
use Rattle.sx_rewrite.proofs.Lowerings.{lowered_are_derivations}
use Rattle.sx_rewrite.proofs.LoweredOnce.{same_binds}
use Rattle.sx_rewrite.proofs.LoweredAlways.{subject_typed}
use Rattle.sx_rewrite.proofs.UsedKids.{bare-at, bound-same, proof_instance-same, used-instance}
use Rattle.sx_rewrite.proofs.Used.{graft-same}
use Rattle.sx_rewrite.proofs.Measured.{used-test}
use Rattle.sx_rewrite.proofs.Puts.{over-left, over-right}
use Rattle.sx_rewrite.proofs.LoweredKids.{need_of, kid-can, same-kid}

-- the plain image is put for each variable that is not of a typed sort
image-is : (table : Table) (sort : Sort) (t : Tree) → IsUntypedSort sort → image_for table sort t ≡ image table t
image-is table (Lex kind) t u = refl
image-is table (Plain n) t u = refl
image-is table (Typed k) t u = absurd (u k refl)

images-at : (table : Table) (sorts : List Sort) (ts : List Tree) (v : ℕ) (sort : Sort) → length ts ≡ length sorts → slice_get sorts v ≡ Some sort → IsUntypedSort sort →
    bound_by (images_for table sorts ts) v ≡ image table (bound_by ts v)
images-at table [] ts v sort n e u = cc
images-at table (s ∷ sorts) [] v sort n e u = absurd (omega (arith, n))
images-at table (s ∷ sorts) (t ∷ ts) zero sort n e u = let q : s ≡ sort = cc in ap (λ (x : Sort). image_for table x t) q ∙ image-is table sort t u
images-at table (s ∷ sorts) (t ∷ ts) (suc v) sort n e u = images-at table sorts ts v sort (omega (arith, n)) e u

images-many : (table : Table) (sorts : List Sort) (ts : List Tree) → length ts ≡ length sorts → length (images_for table sorts ts) ≡ length sorts
images-many table [] ts n = refl
images-many table (s ∷ sorts) [] n = absurd (omega (arith, n))
images-many table (s ∷ sorts) (t ∷ ts) n = let h = images-many table sorts ts (omega (arith, n)) in omega (arith, h)

-- what is lowered at a place
record BackAt (a : Accepted) (subjects : Modes) (hyps : Hypotheses) (ps os : Proofs) (l : Judgement) (i : ℕ) : Type 0 where
  from : Proof
  to : Proof
  at_from : proof_at ps i ≡ Some from
  at_to : proof_at os i ≡ Some to
  lowers : Lowers a subjects hyps from to l

back-at : (a : Accepted) (subjects : Modes) (hyps : Hypotheses) (ps os : Proofs) (ls : List Judgement) (i : ℕ) (l : Judgement) → LowersEach a subjects hyps ps os ls → slice_get ls i ≡ Some l → BackAt a subjects hyps ps os l i
back-at a subjects hyps no_more no_more [] i l h e = cc
back-at a subjects hyps no_more no_more (k ∷ ls) i l h e = absurd h
back-at a subjects hyps no_more (o ⊳ os) ls i l h e = absurd h
back-at a subjects hyps (p ⊳ ps) no_more ls i l h e = absurd h
back-at a subjects hyps (p ⊳ ps) (o ⊳ os) [] i l h e = absurd h
back-at a subjects hyps (p ⊳ ps) (o ⊳ os) (k ∷ ls) zero l h e =
    let q : k ≡ l = cc in
    record { from = p; to = o; at_from = refl; at_to = refl; lowers = subst (λ (x : Judgement). Lowers a subjects hyps p o x) q h.0 }
back-at a subjects hyps (p ⊳ ps) (o ⊳ os) (k ∷ ls) (suc i) l h e =
    let r = back-at a subjects hyps ps os ls i l h.1 e in
    record { from = r.from; to = r.to; at_from = r.at_from; at_to = r.at_to; lowers = r.lowers }

within-number : (ps : Proofs) (i : ℕ) (p : Proof) → proof_at ps i ≡ Some p → i < proof_count ps
within-number no_more i p e = cc
within-number (x ⊳ ps) zero p e = omega arith
within-number (x ⊳ ps) (suc i) p e = let h = within-number ps i p e in omega (arith, h)

same-proofs : (ps qs : Proofs) → ((i : ℕ) → proof_at ps i ≡ proof_at qs i) → ps ≡ qs
same-proofs no_more no_more f = refl
same-proofs no_more (q ⊳ qs) f = let z : None ≡ Some q = f 0 in cc
same-proofs (p ⊳ ps) no_more f = let z : Some p ≡ None = f 0 in cc
same-proofs (p ⊳ ps) (q ⊳ qs) f =
    let z : Some p ≡ Some q = f 0 in
    let a : p ≡ q = cc in
    let b = same-proofs ps qs (λ i. f (suc i)) in cc

subjects-at : (subjects : Modes) (t : ℕ → Tree) (js ls : List Judgement) (i : ℕ) (j l : Judgement) → SubjectsAreLowered subjects t js ls → slice_get js i ≡ Some j → slice_get ls i ≡ Some l →
    map (instance t) (subjects_of subjects j) ≡ subjects_of subjects l
subjects-at subjects t [] ls i j l h e f = cc
subjects-at subjects t (x ∷ js) [] i j l h e f = absurd h
subjects-at subjects t (x ∷ js) (y ∷ ls) zero j l h e f =
    let p : x ≡ j = cc in
    let q : y ≡ l = cc in
    subst (λ (k : Judgement). map (instance t) (subjects_of subjects k) ≡ subjects_of subjects l) p (subst (λ (k : Judgement). map (instance t) (subjects_of subjects x) ≡ subjects_of subjects k) q h.0)
subjects-at subjects t (x ∷ js) (y ∷ ls) (suc i) j l h e f = subjects-at subjects t js ls i j l h.1 e f

-- as many judgements
to-lowered : (subjects : Modes) (s t : ℕ → Tree) (js ls : List Judgement) → SubjectsAreLowered subjects t js ls →
    ((i : ℕ) (j l : Judgement) → slice_get js i ≡ Some j → slice_get ls i ≡ Some l → map (instance s) (subjects_of subjects j) ≡ subjects_of subjects l) → SubjectsAreLowered subjects s js ls
to-lowered subjects s t [] [] h f = tt
to-lowered subjects s t [] (l ∷ ls) h f = absurd h
to-lowered subjects s t (j ∷ js) [] h f = absurd h
to-lowered subjects s t (j ∷ js) (l ∷ ls) h f = (f 0 j l refl refl, to-lowered subjects s t js ls h.1 (λ i x y e g. f (suc i) x y e g))

to-used : (subjects : Modes) (s t : ℕ → Tree) (certificate : Proof) (n : ℕ) (js ls : List Judgement) → SubjectsAreLowered subjects t js ls →
    ((i : ℕ) (j l : Judgement) → slice_get js i ≡ Some j → slice_get ls i ≡ Some l → IsUsed (n + i) certificate → map (instance s) (subjects_of subjects j) ≡ subjects_of subjects l) →
    SubjectsWhereUsed subjects s certificate n js ls
to-used subjects s t certificate n [] [] h f = tt
to-used subjects s t certificate n [] (l ∷ ls) h f = absurd h
to-used subjects s t certificate n (j ∷ js) [] h f = absurd h
to-used subjects s t certificate n (j ∷ js) (l ∷ ls) h f = (
  (λ u. f 0 j l refl refl (subst (λ (m : ℕ). IsUsed m certificate) (let e : n ≡ n + 0 = omega arith in e) u)),
  to-used subjects s t certificate (suc n) js ls h.1 (λ i x y e g u. f (suc i) x y e g (subst (λ (m : ℕ). IsUsed m certificate) (let z : suc n + i ≡ n + suc i = omega arith in z) u)),
)

where-used : (a : Accepted) (subjects : Modes) (hyps : Hypotheses) (certificate : Proof) (n : ℕ) (ps os : Proofs) (ls : List Judgement) → LowersEach a subjects hyps ps os ls → LowersWhereUsed a subjects hyps certificate n ps os ls
where-used a subjects hyps certificate n no_more no_more [] h = tt
where-used a subjects hyps certificate n no_more no_more (k ∷ ls) h = absurd h
where-used a subjects hyps certificate n no_more (o ⊳ os) ls h = absurd h
where-used a subjects hyps certificate n (p ⊳ ps) no_more ls h = absurd h
where-used a subjects hyps certificate n (p ⊳ ps) (o ⊳ os) [] h = absurd h
where-used a subjects hyps certificate n (p ⊳ ps) (o ⊳ os) (k ∷ ls) h = ((λ u. h.0), where-used a subjects hyps certificate (suc n) ps os ls h.1)

-- the terms of a certificate's instance depend on the variables that stand in it
mutual
  terms-same : (base : List Rule) (s t : ℕ → Tree) (p : Proof) → ((v : ℕ) → StandsInProof v p → s v ≡ t v) → certificate_terms base s p ≡ certificate_terms base t p
  terms-same base s t (by r binds kids) h =
      let a = ap (node_terms (slice_get base r)) (map_instance-same s t binds (λ v k. h v (inl k))) in
      let b = all_terms-same base s t kids (λ v k. h v (inr k)) in
      λ i. a i ++ b i
  terms-same base s t (given i) h = refl

  all_terms-same : (base : List Rule) (s t : ℕ → Tree) (ps : Proofs) → ((v : ℕ) → StandsInProofs v ps → s v ≡ t v) → certificate_terms_of base s ps ≡ certificate_terms_of base t ps
  all_terms-same base s t no_more h = refl
  all_terms-same base s t (p ⊳ ps) h =
      let a = terms-same base s t p (λ v k. h v (inl k)) in
      let b = all_terms-same base s t ps (λ v k. h v (inr k)) in
      λ i. a i ++ b i

-- the terms of the kids
used-needed : (certificate : Proof) (n : ℕ) (tss : List (List Tree)) → used_terms certificate n tss ≡ needed_terms (λ i. is_used i certificate) n tss
used-needed certificate n [] = refl
used-needed certificate n (ts ∷ tss) = ap (λ (us : List Tree). (if is_used n certificate then ts else []) ++ us) (used-needed certificate (n + 1) tss)

all-needed : (n : ℕ) (tss : List (List Tree)) → all_terms tss ≡ needed_terms (λ i. true) n tss
all-needed n [] = refl
all-needed n (ts ∷ tss) = ap (λ (us : List Tree). ts ++ us) (all-needed (n + 1) tss)

abbrev kids_terms : Known → List (List Tree) → List Tree
kids_terms (basic rule) tss = all_terms tss
kids_terms (checked c) tss = used_terms c.proof 0 tss

kids-needed : (known : Known) (tss : List (List Tree)) → kids_terms known tss ≡ needed_terms (need_of known) 0 tss
kids-needed (basic rule) tss = all-needed 0 tss
kids-needed (checked c) tss = used-needed c.proof 0 tss

abbrev pub own_terms : Accepted → Known → ℕ → List Tree → List Tree
own_terms a (basic rule) r more = node_terms (slice_get a.base r) more
own_terms a (checked c) r more = certificate_terms a.base (bound_by more) c.proof

abbrev pub own_proof : Known → ℕ → List Tree → Proofs → Proof
own_proof (basic rule) r more news = by r more news
own_proof (checked c) r more news = graft news (proof_instance (bound_by more) c.proof)

terms-split : (a : Accepted) (known : Known) (r : ℕ) (more : List Tree) (tss : List (List Tree)) → terms_at a known r more tss ≡ needed_terms (need_of known) 0 tss ++ own_terms a known r more
terms-split a (basic rule) r more tss = ap (λ (us : List Tree). us ++ node_terms (slice_get a.base r) more) (all-needed 0 tss)
terms-split a (checked c) r more tss = ap (λ (us : List Tree). us ++ certificate_terms a.base (bound_by more) c.proof) (used-needed c.proof 0 tss)

-- where no kid's term passes a limit, none of all does
needed-none : (a : Accepted) (subjects : Modes) (hyps : Hypotheses) (need : ℕ → Bool) (n : ℕ) (ps qs : Proofs) (tss : List (List Tree)) → proof_count qs ≡ proof_count ps →
    ((i : ℕ) (p q : Proof) → need (n + i) ≡ true → proof_at ps i ≡ Some p → proof_at qs i ≡ Some q → IsLoweredTo a subjects hyps p q) → MeasuresEach a subjects hyps ps tss →
    first_over (needed_terms need n tss) ≡ None
needed-none a subjects hyps need n no_more qs [] m f h = refl
needed-none a subjects hyps need n no_more qs (ts ∷ tss) m f h = absurd h
needed-none a subjects hyps need n (p ⊳ ps) qs [] m f h = absurd h
needed-none a subjects hyps need n (p ⊳ ps) no_more (ts ∷ tss) m f h = absurd (omega (arith, m))
needed-none a subjects hyps need n (p ⊳ ps) (q ⊳ qs) (ts ∷ tss) m f h =
    over-right (if need n then ts else []) (needed_terms need (n + 1) tss) (here (need n) refl)
    ∙ needed-none a subjects hyps need (n + 1) ps qs tss (omega (arith, m)) (λ i x y e g k. f (suc i) x y (let z : n + suc i ≡ n + 1 + i = omega arith in ap need z ∙ e) g k) h.1
  where
    here : (b : Bool) → need n ≡ b → first_over (if b then ts else []) ≡ None
    here true e = (f 0 p q (let z : n + 0 ≡ n = omega arith in ap need z ∙ e) refl refl).small ts h.0
    here false e = refl

module _ (sig : Signature) (base shapes : List Shape) (a : Accepted) (ok : IsAccepted sig base shapes a) (hyps : Hypotheses) (below : HypothesesBelow (length base) hyps) (near : ShallowJudgements hyps.judgements)
    (r : ℕ) (binds : List Tree) (kids : Proofs) (can : CanLower a hyps (by r binds kids)) (known : Known) (at_r : slice_get (known_of a) r ≡ Some known) where
  -- a kid is refused
  pub kids-refuse : (e : RewriteError) → AreRefused a sig.subjects hyps (need_of known) kids e → IsLoweringRefused a sig.subjects hyps (by r binds kids) e
  kids-refuse e f ts (known', qs, ks, more, tss, at_r', each, b, m, same) =
      let same_some : Some known' ≡ Some known = sym at_r' ∙ at_r in
      let same_rule : known' ≡ known = cc in
      let split = same ∙ ap (λ (x : Known). terms_at a x r more tss) same_rule ∙ terms-split a known r more tss in
      subst (λ (us : List Tree). Tells (first_over us) e) (sym split) (over-left (needed_terms (need_of known) 0 tss) (own_terms a known r more) e (f tss m))

  abbrev rule : Rule
  rule = rule_in known

  pub binds-many : length binds ≡ length rule.sorts
  binds-many = go can.derives
    where
      go : Derives (extended_rules a) hyps can.judgement (by r binds kids) → length binds ≡ length (rule_in known).sorts
      go (found, at, many, concluded, apart_ones, each) =
          let q : Some found ≡ Some (rule_in known) = sym at ∙ rule-at (known_of a) r known at_r in
          let same : found ≡ rule_in known = cc in
          many ∙ ap (λ (x : Rule). length x.sorts) same

  module _ (news : Proofs) (is : AreLoweredTo a sig.subjects hyps (need_of known) kids news) (n : ℕ) (many : n ≡ proof_count news) (more : List Tree)
      (put : ArePutBelow sig.subjects a.base hyps (need_of known) (judgements_of rule.premises) news n (images_for a.table rule.sorts binds) more) where
    more-many : length more ≡ length rule.sorts
    more-many = put.many ∙ images-many a.table rule.sorts binds binds-many

    not-subject : (v : ℕ) → IsUntypedVariable rule.sorts v → IsSubjectIn sig.subjects v (judgements_of rule.premises) → ⊥
    not-subject v u x =
        let t = subject_typed sig.subjects shapes sig.forms ok.typed rule.sorts rule.premises v (accepted-sorted sig base shapes a ok r known at_r).1 x in
        untyped_clash rule.sorts v t.0 u t.1

    more-images : (v : ℕ) → IsUntypedVariable rule.sorts v → bound_by more v ≡ image a.table (bound_by binds v)
    more-images v u = put.others v (not-subject v u) ∙ images-at a.table rule.sorts binds v u.0 binds-many u.1 u.2

    module _ (os : Proofs) (ls : List Judgement) (each : LowersEach a sig.subjects hyps kids os ls) (other : List Tree) (d : AreLoweredBinds a.table sig.subjects rule binds other ls) where
      among : (js : List Judgement) (i w : ℕ) (j : Judgement) → slice_get js i ≡ Some j → subjects_of sig.subjects j ≡ hole w ∷ [] → IsSubjectIn sig.subjects w js
      among [] i w j e f = cc
      among (x ∷ js) zero w j e f = let q : x ≡ j = cc in inl (ap (subjects_of sig.subjects) q ∙ f)
      among (x ∷ js) (suc i) w j e f = inr (among js i w j e f)

      more-subject : (i : ℕ) (j l : Judgement) → slice_get (judgements_of rule.premises) i ≡ Some j → slice_get ls i ≡ Some l → need_of known i ≡ true →
          map (instance (bound_by more)) (subjects_of sig.subjects j) ≡ subjects_of sig.subjects l
      more-subject i j l e f need_i = go (bare-at sig.subjects rule.conclusion [] (judgements_of rule.premises) i j (accepted-disciplined sig base shapes a ok r known at_r).bare e)
        where
          go : (subjects_of sig.subjects j ≡ []) ⊎ (w : ℕ) × (subjects_of sig.subjects j ≡ hole w ∷ []) → map (instance (bound_by more)) (subjects_of sig.subjects j) ≡ subjects_of sig.subjects l
          go (inl none) =
              let x = subjects-at sig.subjects (bound_by other) (judgements_of (rule_in known).premises) ls i j l d.subjects_are e f in
              ap (map (instance (bound_by more))) none ∙ sym (ap (map (instance (bound_by other))) none) ∙ x
          go (inr (w, one)) =
              let x = subjects-at sig.subjects (bound_by other) (judgements_of (rule_in known).premises) ls i j l d.subjects_are e f in
              let y : bound_by other w ∷ [] ≡ subjects_of sig.subjects l = sym (ap (map (instance (bound_by other))) one) ∙ x in
              let b = back-at a sig.subjects hyps kids os ls i l each f in
              let here = same-kid sig base shapes a ok hyps below near r binds kids can known at_r news is os ls each i need_i ∙ b.at_to in
              let c = kid-can sig base shapes a ok hyps below near r binds kids can known at_r i b.from need_i b.at_from in
              let derives = (lowered_are_derivations sig base shapes a ok hyps below b.from b.to c.judgement l c.derives b.lowers).0 in
              let t = subject_typed sig.subjects shapes sig.forms ok.typed (rule_in known).sorts (rule_in known).premises w (accepted-sorted sig base shapes a ok r known at_r).1 (among (judgements_of (rule_in known).premises) i w j e one) in
              let within = slice_get_within (rule_in known).sorts w (Typed t.0) t.1 in
              let old_many = images-many a.table (rule_in known).sorts binds binds-many in
              let low = within-number news i b.to here in
              let same = put.here i j w (omega (arith, low, many)) e one (omega (arith, within, old_many)) need_i b.to here l derives (bound_by other w) [] (sym y) in
              ap (map (instance (bound_by more))) one ∙ ap (λ (z : Tree). z ∷ []) same ∙ y

      -- so what is put agrees with the bindings of the lowered node where it counts
      basic-same : (x : Rule) → known ≡ basic x → (more ≡ other) × (news ≡ os)
      basic-same x same = (
        same_binds sig.subjects a.table (rule_in known) binds more other ls (accepted-typed sig base shapes a ok r known at_r).1
            (record { many = more-many; images = more-images; subjects_are = to-lowered sig.subjects (bound_by more) (bound_by other) (judgements_of (rule_in known).premises) ls d.subjects_are (λ i j l e f. more-subject i j l e f (all-needed-by i)) }) d,
        same-proofs news os (λ i. same-kid sig base shapes a ok hyps below near r binds kids can known at_r news is os ls each i (all-needed-by i)),
      )
        where
          all-needed-by : (i : ℕ) → need_of known i ≡ true
          all-needed-by i = ap (λ (y : Known). need_of y i) same

      module _ (c : Checked) (same : known ≡ checked c) where
        used-need : (i : ℕ) → IsUsed i c.proof → need_of known i ≡ true
        used-need i u = ap (λ (y : Known). need_of y i) same ∙ used-test i c.proof u

        at_c : slice_get (known_of a) r ≡ Some (checked c)
        at_c = at_r ∙ ap (λ (y : Known). let o : Option Known = Some y in o) same

        used-binds : AreUsedBinds a.table sig.subjects c.rule c.proof binds more ls
        used-binds = subst (λ (y : Known). AreUsedBinds a.table sig.subjects (rule_in y) c.proof binds more ls) same
            (record {
              many = more-many;
              images = more-images;
              subjects_are = to-used sig.subjects (bound_by more) (bound_by other) c.proof 0 (judgements_of (rule_in known).premises) ls d.subjects_are
                  (λ i j l e f u. more-subject i j l e f (used-need i (subst (λ (m : ℕ). IsUsed m c.proof) (let z : 0 + i ≡ i = omega arith in z) u)));
            })

        stands-same : (v : ℕ) → StandsInProof v c.proof → bound_by more v ≡ bound_by other v
        stands-same v x =
            bound-same sig base shapes a ok hyps r c at_c binds more other kids os os ls ls (where-used a sig.subjects hyps c.proof 0 kids os ls each) used-binds each
            (subst (λ (y : Known). AreLoweredBinds a.table sig.subjects (rule_in y) binds other ls) same d) v (inl x)

        graft-is : graft news (proof_instance (bound_by more) c.proof) ≡ graft os (proof_instance (bound_by other) c.proof)
        graft-is =
            ap (graft news) (proof_instance-same (bound_by more) (bound_by other) c.proof stands-same)
            ∙ graft-same news os (proof_instance (bound_by other) c.proof)
            (λ i u. same-kid sig base shapes a ok hyps below near r binds kids can known at_r news is os ls each i (used-need i (used-instance (bound_by other) c.proof i u)))

        terms-are : certificate_terms a.base (bound_by more) c.proof ≡ certificate_terms a.base (bound_by other) c.proof
        terms-are = terms-same a.base (bound_by more) (bound_by other) c.proof stands-same

      same-own : (own_terms a known r more ≡ own_terms a known r other) × (own_proof known r more news ≡ own_proof known r other os)
      same-own = go known refl
        where
          go : (y : Known) → known ≡ y → (own_terms a known r more ≡ own_terms a known r other) × (own_proof known r more news ≡ own_proof known r other os)
          go (basic x) same =
              let b = basic-same x same in
              (ap (own_terms a known r) b.0, ap (λ (us : List Tree). own_proof known r us news) b.0 ∙ ap (own_proof known r other) b.1)
          go (checked c) same = (
            ap (λ (y : Known). own_terms a y r more) same ∙ terms-are c same ∙ sym (ap (λ (y : Known). own_terms a y r other) same),
            ap (λ (y : Known). own_proof y r more news) same ∙ graft-is c same ∙ sym (ap (λ (y : Known). own_proof y r other os) same),
          )

    lowers-own : (y : Known) (other : List Tree) (os : Proofs) (q : Proof) (k : Judgement) → LowersTo a.table sig.subjects y r other os q k → own_proof y r other os ≡ q
    lowers-own (basic x) other os q k h = sym h.0
    lowers-own (checked c) other os q k h = sym h.0

    -- the node is what is lowered
    pub node-proof : (q : Proof) (k : Judgement) → Lowers a sig.subjects hyps (by r binds kids) q k → own_proof known r more news ≡ q
    node-proof q k (known', os, ls, other, at_r', each, b, to) =
        let same_some : Some known' ≡ Some known = sym at_r' ∙ at_r in
        let same_rule : known' ≡ known = cc in
        let d = subst (λ (x : Known). AreLoweredBinds a.table sig.subjects (rule_in x) binds other ls) same_rule b in
        let t = subst (λ (x : Known). LowersTo a.table sig.subjects x r other os q k) same_rule to in
        (same-own os ls each other d).1 ∙ lowers-own known other os q k t

    -- and the first of its own terms that passes a limit is the first of all
    pub node-terms : (ts : List Tree) → Measures a sig.subjects hyps (by r binds kids) ts → first_over ts ≡ first_over (own_terms a known r more)
    node-terms ts (known', os, ls, other, tss, at_r', each, b, m, e) =
        let same_some : Some known' ≡ Some known = sym at_r' ∙ at_r in
        let same_rule : known' ≡ known = cc in
        let d = subst (λ (x : Known). AreLoweredBinds a.table sig.subjects (rule_in x) binds other ls) same_rule b in
        let split = e ∙ ap (λ (x : Known). terms_at a x r other tss) same_rule ∙ terms-split a known r other tss in
        let none = needed-none a sig.subjects hyps (need_of known) 0 kids news tss is.many (λ i p q z g h. is.each i p q (let y : 0 + i ≡ i = omega arith in sym (ap (need_of known) y) ∙ z) g h) m in
        ap first_over split ∙ over-right (needed_terms (need_of known) 0 tss) (own_terms a known r other) none ∙ ap first_over (sym (same-own os ls each other d).0)

    pub node-lowers : (q : Proof) → q ≡ own_proof known r more news → first_over (own_terms a known r more) ≡ None → IsLoweredTo a sig.subjects hyps (by r binds kids) q
    node-lowers q e none = record { lowered = λ o k l. e ∙ node-proof o k l; small = λ ts m. node-terms ts m ∙ none }

    pub node-refuses : (e : RewriteError) → Tells (first_over (own_terms a known r more)) e → IsLoweringRefused a sig.subjects hyps (by r binds kids) e
    node-refuses e h ts m = subst (λ (o : Option RewriteRefusal). Tells o e) (sym (node-terms ts m)) h
