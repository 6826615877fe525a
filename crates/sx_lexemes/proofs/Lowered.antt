-- Lexemes of lowered derivations.
use Rattle.std.proofs.Common.{◌≡◌, ℕ, zero, suc, ◌<◌, Bool, true, false, List, [], ◌∷◌, ◌++◌, ◌⊎◌, inl, inr, map, length, Some, sym, ap, ◌∙◌, subst}
use Rattle.std.specs.Prelude.{slice_get, Option, None, IfSome, unwrap_or}
use Rattle.std.specs.List.{AllByRecursion}
use Rattle.sx_term.specs.declared.lex_kind.LexKind.{LexKind}
use Rattle.sx_term.specs.Instances.{instance, bound_by}
use Rattle.sx_term.specs.Sorts.{Shape}
use Rattle.sx_term.specs.Tree.{Tree}
use Rattle.sx_rules.specs.Derivations.{Proof, Proofs, by, given, no_more, ◌⊳◌}
use Rattle.sx_rules.specs.Discipline.{IsSubjectIn}
use Rattle.sx_rules.specs.Modes.{Modes, outputs}
use Rattle.sx_rules.specs.Rules.{Judgement, Premise, holds, apart, Rule, Hypotheses, judgements_of}
use Rattle.sx_rules.specs.Typed.{IsUntypedVariable}
use Rattle.sx_plain.specs.Plain.{Table}
use Rattle.sx_rewrite.specs.Accepted.{Checked, flat_conclusion, Known, basic, checked, rule_in, Accepted, known_of, extended_rules, Signature, IsAccepted}
use Rattle.sx_rewrite.specs.Flat.{flat_places}
use Rattle.sx_rewrite.specs.Lowers.{SubjectsAreLowered, AreLoweredBinds, LowersTo, Lowers, LowersEach}
use Rattle.sx_rewrite.proofs.Known.{rule-at, accepted-typed}
use Rattle.sx_lexemes.specs.Laws.{LoweredKeepLexemes}
use Rattle.sx_lexemes.specs.Lexemes.{IsToken, LexemesAre, AllLexemesAre, JudgementLexemesAre, TableLexemesAre, BodyLexemesAre, SetLexemesAre}
use Rattle.sx_lexemes.proofs.Derived.{BindsAre, AllBindsAre, rule_at, given_at, kept}
use Rattle.sx_lexemes.proofs.Terms.{bound_lexemes, all_bound, judgement_lexemes, outputs_lexemes, image_lexemes, all_image_lexemes}

module _ (P : LexKind → List ℕ → Type 0) where
  -- ---- what is stored of rules

  checked_in : (more : List Checked) (r : ℕ) (c : Checked) → AllByRecursion (BodyLexemesAre P) more → slice_get (map checked more) r ≡ Some (checked c) → BodyLexemesAre P c
  checked_in [] r c h e = cc
  checked_in (x ∷ xs) zero c h e =
      let q : checked x ≡ checked c = cc in
      let p : x ≡ c = cc in
      subst (λ (y : Checked). BodyLexemesAre P y) p h.0
  checked_in (x ∷ xs) (suc r) c h e = checked_in xs r c h.1 e

  body_at : (base : List Rule) (more : List Checked) (r : ℕ) (c : Checked) → AllByRecursion (BodyLexemesAre P) more → slice_get (map basic base ++ map checked more) r ≡ Some (checked c) → BodyLexemesAre P c
  body_at [] more r c h e = checked_in more r c h e
  body_at (b ∷ bs) more zero c h e = cc
  body_at (b ∷ bs) more (suc r) c h e = body_at bs more r c h e

  -- ---- flat conclusions

  subject_lexemes : (subject : Option Tree) (t : Tree) → IfSome subject (LexemesAre P) → LexemesAre P t → LexemesAre P (unwrap_or subject t)
  subject_lexemes None t h k = k
  subject_lexemes (Some u) t h k = h

  module _ (table : Table) (have : TableLexemesAre P table) (subject : Option Tree) (subject_has : IfSome subject (LexemesAre P)) where
    pub flat_lexemes : (bs : List Bool) (ts : List Tree) → AllLexemesAre P ts → AllLexemesAre P (flat_places table subject bs ts)
    flat_lexemes [] ts h = all_image_lexemes P table have ts h
    flat_lexemes (b ∷ bs) [] h = tt
    flat_lexemes (true ∷ bs) (t ∷ ts) h = (subject_lexemes subject t subject_has h.0, flat_lexemes bs ts h.1)
    flat_lexemes (false ∷ bs) (t ∷ ts) h = (image_lexemes P table have t h.0, flat_lexemes bs ts h.1)

  -- ---- lowered bindings

  module _ (subjects : Modes) (s : ℕ → Tree) where
    -- the subject of the lowered premise
    lowered_subject : (ps : List Premise) (ks : List Judgement) (v : ℕ) → AllByRecursion (JudgementLexemesAre P) ks → SubjectsAreLowered subjects s (judgements_of ps) ks →
        IsSubjectIn subjects v (judgements_of ps) → LexemesAre P (s v)
    lowered_subject [] ks v h l x = absurd x
    lowered_subject (apart t u ∷ ps) ks v h l x = lowered_subject ps ks v h l x
    lowered_subject (holds j ∷ ps) [] v h l x = absurd l
    lowered_subject (holds j ∷ ps) (g ∷ ks) v h l (inr x) = lowered_subject ps ks v h.1 l.1 x
    lowered_subject (holds j ∷ ps) (g ∷ ks) v h l (inl x) =
        let one : s v ∷ [] ≡ outputs (subjects g.form) g.places = sym (ap (map (instance s)) x) ∙ l.0 in
        (subst (λ (ts : List Tree). AllLexemesAre P ts) (sym one) (outputs_lexemes P (subjects g.form) g.places h.0)).0

  module _ (sig : Signature) (base shapes : List Shape) (a : Accepted) (ok : IsAccepted sig base shapes a) (have : SetLexemesAre P a)
      (hyps : Hypotheses) (given_have : AllByRecursion (JudgementLexemesAre P) hyps.judgements) where
    values : (r : ℕ) (known : Known) (binds more : List Tree) (ks : List Judgement) → slice_get (known_of a) r ≡ Some known → AllLexemesAre P binds →
        AreLoweredBinds a.table sig.subjects (rule_in known) binds more ks → AllByRecursion (JudgementLexemesAre P) ks →
        (v : ℕ) → v < length (rule_in known).sorts → LexemesAre P (bound_by more v)
    values r known binds more ks at_r h b k v l = go ((accepted-typed sig base shapes a ok r known at_r).1 v l)
      where
        go : IsUntypedVariable (rule_in known).sorts v ⊎ IsSubjectIn sig.subjects v (judgements_of (rule_in known).premises) → LexemesAre P (bound_by more v)
        go (inl u) = subst (λ (t : Tree). LexemesAre P t) (sym (b.images v u)) (image_lexemes P a.table have.table (bound_by binds v) (bound_lexemes P binds h v))
        go (inr x) = lowered_subject sig.subjects (bound_by more) (rule_in known).premises ks v k b.subjects_are x

    result : (r : ℕ) (known : Known) (more : List Tree) (qs : Proofs) (q : Proof) (k : Judgement) → slice_get (known_of a) r ≡ Some known → AllLexemesAre P more →
        LowersTo a.table sig.subjects known r more qs q k → JudgementLexemesAre P k
    result r (basic rule) more qs q k at_r h l =
        let own = rule_at P (extended_rules a) r rule have.rules (rule-at (known_of a) r (basic rule) at_r) in
        subst (λ (x : Judgement). JudgementLexemesAre P x) (sym l.1) (judgement_lexemes P more h rule.conclusion own.conclusion)
    result r (checked c) more qs q k at_r h l =
        let own = rule_at P (extended_rules a) r c.rule have.rules (rule-at (known_of a) r (checked c) at_r) in
        let flat = flat_lexemes a.table have.table c.body (body_at a.base a.more r c have.bodies at_r) (sig.subjects c.rule.conclusion.form) c.rule.conclusion.places own.conclusion in
        subst (λ (x : Judgement). JudgementLexemesAre P x) (sym l.1) (judgement_lexemes P more h (flat_conclusion a.table sig.subjects c) flat)

    mutual
      pub lowered : (p q : Proof) (k : Judgement) → BindsAre P p → Lowers a sig.subjects hyps p q k → JudgementLexemesAre P k
      lowered (given i) q k h l = given_at P hyps.judgements i k given_have l.1
      lowered (by r binds kids) q k h (known, qs, ks, more, at_k, ls, b, l) =
          let kids_have = each_lowered kids qs ks h.1 ls in
          let all = all_bound P more (length (rule_in known).sorts) b.many (values r known binds more ks at_k h.0 b kids_have) in
          result r known more qs q k at_k all l

      each_lowered : (ps qs : Proofs) (ks : List Judgement) → AllBindsAre P ps → LowersEach a sig.subjects hyps ps qs ks → AllByRecursion (JudgementLexemesAre P) ks
      each_lowered no_more no_more [] h l = tt
      each_lowered no_more no_more (k ∷ ks) h l = absurd l
      each_lowered no_more (q ⊳ qs) ks h l = absurd l
      each_lowered (p ⊳ ps) no_more ks h l = absurd l
      each_lowered (p ⊳ ps) (q ⊳ qs) [] h l = absurd l
      each_lowered (p ⊳ ps) (q ⊳ qs) (k ∷ ks) h l = (lowered p q k h.0 l.0, each_lowered ps qs ks h.1 l.1)

pub lowered_keep_lexemes : LoweredKeepLexemes
lowered_keep_lexemes literals sig base shapes a ok have hyps given_have p q j k d g l =
    let P = IsToken literals in
    lowered P sig base shapes a ok have hyps given_have p q k (kept P sig.modes (extended_rules a) hyps ok.moded have.rules given_have p j d g).1 l
