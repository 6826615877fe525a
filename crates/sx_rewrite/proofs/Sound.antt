-- What is sound, and what is not.
use Rattle.std.proofs.Common.{◌≡◌, ℕ, Bool, true, false, List, [], ◌∷◌, inl, inr, map, length, Option, Some, None, refl, sym, ap, ◌∙◌, subst}
use Rattle.std.specs.Prelude.{option_map}
use Rattle.sx_term.specs.Tree.{Tree}
use Rattle.sx_term.specs.declared.sort.Sort.{Sort}
use Rattle.sx_term.specs.declared.sort.Sort.TheVariants.{Lex}
use Rattle.sx_term.specs.Sorts.{Shape, HaveSorts}
use Rattle.sx_rules.specs.Rules.{Judgement, Premise, holds, apart, Rule, Hypotheses}
use Rattle.sx_rules.specs.Modes.{inputs, outputs, outputs_of}
use Rattle.sx_rules.specs.Sorts.{FormSorts, JudgementIsSorted, PremisesAreSorted, RuleIsSorted, JudgementsAreSorted}
use Rattle.sx_rules.specs.Discipline.{AreUntypedSorts, PlainHaveNoTyped, IsDisciplined}
use Rattle.sx_rules.specs.Derivations.{Proof, Derives}
use Rattle.sx_rules.specs.First.{Answer}
use Rattle.sx_rules.proofs.Sorted.{inputs-sorted, outputs-sorted}
use Rattle.sx_rules.proofs.Moded.{judgement_known}
use Rattle.sx_rules.proofs.Derived.{substitution_keeps_derivations, grafts_are_derivations}
use Rattle.sx_plain.specs.Plain.{Table, image}
use Rattle.sx_plain.specs.Tables.{Begins, Desugars}
use Rattle.sx_plain.proofs.Tables.{sorted-below}
use Rattle.sx_rewrite.specs.Flat.{flat_places, flat_judgement, flat_pairs, flat_hypotheses}
use Rattle.sx_rewrite.specs.Accepted.{ExtRule, Checked, flat_conclusion, Accepted, extended_rules, Signature, IsAccepted}
use Rattle.sx_rewrite.specs.Lowers.{JudgementsBelow, PairsBelow, HypothesesBelow}
use Rattle.sx_rewrite.specs.PlainRules.{plain_of}
use Rattle.sx_rewrite.specs.Sound.{flat_given, flat_goal, IsLoweredBody, IsFlatBody, IsSoundBy, HasBaseSyntax}
use Rattle.sx_rewrite.specs.Extensions.{BodyFits}
use Rattle.sx_rewrite.specs.Accepting.{IsFirstBy, IsStoredLowered, IsStored, ChecksBy}
use Rattle.sx_rewrite.specs.AcceptLaws.{CertificatesHold, StoredIsSound, RejectedIsUnsound, SoundRulesAreSorted}
use Rattle.sx_rewrite.proofs.Lowerings.{inputs-flat, have_sorts-below, lowered_are_derivations}
use Rattle.sx_rewrite.proofs.LoweredSorted.{lowered_are_sorted}
use Rattle.sx_rewrite.proofs.PlainRules.{image-twice}
use Rattle.sx_rewrite.proofs.PlainSets.{plain_rules_are_accepted}
use Rattle.sx_rewrite.proofs.FlatSorted.{plain-image, flat_forms_are_sorted}

pub certificates_hold : CertificatesHold
certificates_hold table subjects base c proven s hyps kids each pairs =
    let flats = flat_hypotheses table subjects c.rule.premises in
    let goal = flat_conclusion table subjects c in
    let moved = substitution_keeps_derivations base flats goal c.proof s proven in
    grafts_are_derivations base _ hyps kids each pairs _ _ moved

-- flat premises have base labels alone
judgements-below : (base : List Shape) (forms : FormSorts) (vars : List Sort) (js : List Judgement) → JudgementsAreSorted base forms vars js → JudgementsBelow (length base) js
judgements-below base forms vars [] h = tt
judgements-below base forms vars (j ∷ js) h = (have_sorts-below base vars j.places (forms j.form) h.0, judgements-below base forms vars js h.1)

module _ (base shapes : List Shape) (table : Table) (begins : Begins base shapes) (no_typed : PlainHaveNoTyped shapes) (d : Desugars base shapes table) (vars : List Sort) where
  pairs-below : (forms : FormSorts) (ps : List Premise) → PremisesAreSorted shapes forms vars ps → PairsBelow (length base) (flat_pairs table ps)
  pairs-below forms [] h = tt
  pairs-below forms (holds j ∷ ps) h = pairs-below forms ps h.1
  pairs-below forms (apart t u ∷ ps) h =
      let sort = Lex h.0.0 in
      let x = plain-image base shapes table begins no_typed d vars t sort h.0.1 (λ n e. cc) in
      let y = plain-image base shapes table begins no_typed d vars u sort h.0.2 (λ n e. cc) in
      ((sorted-below base vars (image table t) sort x, sorted-below base vars (image table u) sort y), pairs-below forms ps h.1)

  list-twice : (ts : List Tree) (sorts : List Sort) → HaveSorts shapes vars ts sorts → AreUntypedSorts sorts → map (image table) (map (image table) ts) ≡ map (image table) ts
  list-twice [] sorts h u = refl
  list-twice (t ∷ ts) [] h u = absurd h
  list-twice (t ∷ ts) (x ∷ xs) h u =
      let a = image-twice base shapes table begins no_typed d vars t x h.0 u.0 in
      let b = list-twice ts xs h.1 u.1 in
      λ i. a i ∷ b i

-- the one subject
one_subject : (shapes : List Shape) (vars : List Sort) (body : Tree) (us : List Tree) (sorts : List Sort) → HaveSorts shapes vars (body ∷ []) sorts → HaveSorts shapes vars us sorts → (u : Tree) × (us ≡ u ∷ [])
one_subject shapes vars body us [] b h = absurd b
one_subject shapes vars body us (x ∷ (y ∷ ys)) b h = absurd b.1
one_subject shapes vars body [] (x ∷ []) b h = absurd h
one_subject shapes vars body (u ∷ []) (x ∷ []) b h = (u, refl)
one_subject shapes vars body (u ∷ (v ∷ vs)) (x ∷ []) b h = absurd h.1

outputs-placed : (table : Table) (t : Tree) (bs : List Bool) (ts : List Tree) → outputs bs (flat_places table (Some t) bs ts) ≡ map (λ u. t) (outputs bs ts)
outputs-placed table t [] ts = refl
outputs-placed table t (b ∷ bs) [] = refl
outputs-placed table t (true ∷ bs) (u ∷ ts) = ap (λ (us : List Tree). t ∷ us) (outputs-placed table t bs ts)
outputs-placed table t (false ∷ bs) (u ∷ ts) = outputs-placed table t bs ts

module _ (sig : Signature) (base shapes : List Shape) (a : Accepted) (ok : IsAccepted sig base shapes a) (n : ℕ) (ext : ExtRule)
    (h : RuleIsSorted shapes sig.forms ext.rule) (disciplined : IsDisciplined sig.subjects ext.rule) (fit : BodyFits sig shapes n a.table ext.rule ext.body) where
  abbrev given : Hypotheses
  given = flat_given a.table sig.subjects ext

  flat_sorted : JudgementsAreSorted base sig.forms ext.rule.sorts given.judgements
      × JudgementIsSorted shapes sig.forms ext.rule.sorts (flat_goal a.table sig.subjects ext)
      × (HasBaseSyntax (length base) a.table ext.body → JudgementIsSorted base sig.forms ext.rule.sorts (flat_goal a.table sig.subjects ext))
  flat_sorted = flat_forms_are_sorted sig base shapes a.table ok.begins ok.no_typed ok.fits ok.desugars n ext h disciplined fit

  pub flat-below : HypothesesBelow (length base) (flat_given a.table sig.subjects ext)
  flat-below = (
    judgements-below base sig.forms ext.rule.sorts given.judgements flat_sorted.0,
    pairs-below base shapes a.table ok.begins ok.no_typed ok.desugars ext.rule.sorts sig.forms ext.rule.premises h.1,
  )

  -- a rule whose body has extended syntax has a subject
  has_subject : (body : Option Tree) → BodyFits sig shapes n a.table ext.rule body → (HasBaseSyntax (length base) a.table body → ⊥) →
      (u : Tree) × (outputs (sig.subjects ext.rule.conclusion.form) ext.rule.conclusion.places ≡ u ∷ [])
  has_subject None b m = absurd (m tt)
  has_subject (Some body) b m =
      let j = ext.rule.conclusion in
      let bs = sig.subjects j.form in
      one_subject shapes ext.rule.sorts body (outputs bs j.places) (outputs bs (sig.forms j.form)) b.0 (outputs-sorted shapes ext.rule.sorts bs j.places (sig.forms j.form) h.0)

  -- the lowered judgement is the flat conclusion
  abbrev Concluded : Tree → Judgement → Proof → Type 0
  Concluded t k q =
      (k ≡ flat_judgement a.table sig.subjects (Some t) ext.rule.conclusion) × Derives a.base given k q × JudgementIsSorted base sig.forms ext.rule.sorts k

  concluded : (t : Tree) (x : IsLoweredBody sig.subjects a ext t) → (HasBaseSyntax (length base) a.table ext.body → ⊥) → Concluded t x.judgement x.lowered
  concluded t x m =
      let j = ext.rule.conclusion in
      let k = x.judgement in
      let bs = sig.subjects j.form in
      let table = a.table in
      let plain = plain_rules_are_accepted sig base shapes a ok in
      let goal = flat_goal table sig.subjects ext in
      let own = lowered_are_derivations sig base shapes (plain_of a) plain given flat-below x.proof x.lowered goal k x.derives x.lowers in
      let goal_sorted = inputs-sorted shapes ext.rule.sorts (sig.modes j.form) goal.places (sig.forms j.form) flat_sorted.1 in
      let sorted = lowered_are_sorted sig base shapes (plain_of a) plain given ext.rule.sorts flat_sorted.0 flat-below x.proof x.lowered goal k x.derives goal_sorted x.lowers in
      let target = flat_judgement table sig.subjects (Some t) j in
      let others = inputs-sorted shapes ext.rule.sorts bs j.places (sig.forms j.form) h.0 in
      let twice = list-twice base shapes table ok.begins ok.no_typed ok.desugars ext.rule.sorts (inputs bs j.places) (inputs bs (sig.forms j.form)) others (ok.fits.others j.form) in
      let terms = own.1.images ∙ ap (map (image table)) (inputs-flat table (option_map (image table) ext.body) bs j.places) ∙ twice ∙ sym (inputs-flat table (Some t) bs j.places) in
      let one = has_subject ext.body fit m in
      let subject : outputs bs target.places ≡ t ∷ [] = outputs-placed table t bs j.places ∙ ap (map (λ u. t)) one.1 in
      let same = judgement_known sig.subjects k target (λ i. record { form = own.1.same_form i; terms = terms i }) (x.subject ∙ sym subject) in
      (same, own.0, sorted.0)

  sound-first : (answer : Answer) → HasBaseSyntax (length base) a.table ext.body → IsFirstBy sig a a.base ext answer →
      IsSoundBy sig.subjects (length base) a ext (record { rule = ext.rule; body = option_map (image a.table) ext.body; proof = answer.0 })
  sound-first answer b first =
      let j = flat_goal a.table sig.subjects ext in
      let d = first.derives in
      let same : d.0 ≡ j = judgement_known sig.modes d.0 j d.1 (d.2 ∙ first.is_wanted) in
      record {
        same_rule = refl;
        flat_body = inl (b, refl);
        certified = subst (λ (x : Judgement). Derives a.base given x answer.0) same d.3;
      }

  sound-lowered : (answer : Answer) (c : Checked) → (HasBaseSyntax (length base) a.table ext.body → ⊥) → IsFirstBy sig a (extended_rules (plain_of a)) ext answer → IsStoredLowered sig a ext answer.0 c →
      IsSoundBy sig.subjects (length base) a ext c
  sound-lowered answer c m first st =
      let j = flat_goal a.table sig.subjects ext in
      let d = first.derives in
      let same : d.0 ≡ j = judgement_known sig.modes d.0 j d.1 (d.2 ∙ first.is_wanted) in
      let body : IsLoweredBody sig.subjects a ext st.subject =
      record {
        proof = answer.0;
        lowered = c.proof;
        judgement = st.judgement;
        derives = subst (λ (x : Judgement). Derives (extended_rules (plain_of a)) given x answer.0) same d.3;
        lowers = st.lowers;
        subject = st.is_subject;
      } in
      let end = concluded st.subject body m in
      let here = subst (λ (x : Judgement). Derives a.base given x c.proof) end.0 end.1 in
      let P : Rule → Option Tree → Type 0 = (λ r b. Derives a.base (flat_hypotheses a.table sig.subjects r.premises) (flat_judgement a.table sig.subjects b r.conclusion) c.proof) in
      let with_body = subst (λ (b : Option Tree). P ext.rule b) (sym st.flat_body) here in
      record {
        same_rule = st.same_rule;
        flat_body = inr (m, st.subject, st.flat_body, body);
        certified = subst (λ (r : Rule). P r c.body) (sym st.same_rule) with_body;
      }

  stored-sound : (c : Checked) → IsStored sig (length base) a ext c → IsSoundBy sig.subjects (length base) a ext c
  stored-sound c (inl (b, answer, first, e)) = subst (λ (x : Checked). IsSoundBy sig.subjects (length base) a ext x) (sym e) (sound-first answer b first)
  stored-sound c (inr (m, answer, first, st)) = sound-lowered answer c m first st

  sound-sorted : (c : Checked) → c.rule ≡ ext.rule → IsFlatBody sig.subjects (length base) a ext c.body → JudgementIsSorted base sig.forms c.rule.sorts (flat_conclusion a.table sig.subjects c)
  sound-sorted c e (inl (b, f)) =
      let P : Rule → Option Tree → Type 0 = (λ r o. JudgementIsSorted base sig.forms r.sorts (flat_judgement a.table sig.subjects o r.conclusion)) in
      let with_body = subst (λ (o : Option Tree). P ext.rule o) (sym f) (flat_sorted.2 b) in
      subst (λ (r : Rule). P r c.body) (sym e) with_body
  sound-sorted c e (inr (m, t, f, x)) =
      let P : Rule → Option Tree → Type 0 = (λ r o. JudgementIsSorted base sig.forms r.sorts (flat_judgement a.table sig.subjects o r.conclusion)) in
      let end = concluded t x m in
      let here = subst (λ (k : Judgement). JudgementIsSorted base sig.forms ext.rule.sorts k) end.0 end.2 in
      let with_body = subst (λ (o : Option Tree). P ext.rule o) (sym f) here in
      subst (λ (r : Rule). P r c.body) (sym e) with_body

pub stored_is_sound : StoredIsSound
stored_is_sound sig base shapes a ok n ext h disciplined fit c s = stored-sound sig base shapes a ok n ext h disciplined fit c s

pub sound_rules_are_sorted : SoundRulesAreSorted
sound_rules_are_sorted sig base shapes a ok n ext h disciplined fit c s = sound-sorted sig base shapes a ok n ext h disciplined fit c s.same_rule s.flat_body

module _ (sig : Signature) (n : ℕ) (a : Accepted) (ext : ExtRule) (c : Checked) (s : IsSoundBy sig.subjects n a ext c) where
  abbrev goal : Judgement
  goal = flat_goal a.table sig.subjects ext

  -- the certificate derives the flat goal, or the proof does that it is the lowering of
  derived : (rules : List Rule) → ChecksBy n a ext rules → IsFlatBody sig.subjects n a ext c.body → (p : Proof) × Derives rules (flat_given a.table sig.subjects ext) goal p
  derived rules (inl (b, e)) (inl (k, f)) =
      let P : Rule → Option Tree → Type 0 = (λ r o. Derives a.base (flat_hypotheses a.table sig.subjects r.premises) (flat_judgement a.table sig.subjects o r.conclusion) c.proof) in
      let x = subst (λ (r : Rule). P r c.body) s.same_rule s.certified in
      let y = subst (λ (o : Option Tree). P ext.rule o) f x in
      (c.proof, subst (λ (rs : List Rule). Derives rs (flat_given a.table sig.subjects ext) goal c.proof) (sym e) y)
  derived rules (inl (b, e)) (inr (m, t, f, x)) = absurd (m b)
  derived rules (inr (m, e)) (inl (k, f)) = absurd (m k)
  derived rules (inr (m, e)) (inr (l, t, f, x)) = (x.proof, subst (λ (rs : List Rule). Derives rs (flat_given a.table sig.subjects ext) goal x.proof) (sym e) x.derives)

pub rejected_is_unsound : RejectedIsUnsound
rejected_is_unsound sig n a ext c (rules, by_rules, none) s =
    let j = flat_goal a.table sig.subjects ext in
    let d = derived sig n a ext c s rules by_rules s.flat_body in
    none (d.0, outputs_of sig.modes j) (j, refl, refl, d.1) refl
