-- Lexemes of derivations.
use Rattle.std.proofs.Common.{◌≡◌, ℕ, zero, suc, ◌<◌, List, [], ◌∷◌, ◌⊎◌, inl, inr, map, length, Some, sym, subst}
use Rattle.std.specs.Prelude.{slice_get}
use Rattle.std.specs.List.{AllByRecursion}
use Rattle.sx_term.specs.declared.lex_kind.LexKind.{LexKind}
use Rattle.sx_term.specs.Instances.{instance, StandsAmong, bound_by}
use Rattle.sx_term.specs.Tree.{Tree}
use Rattle.sx_rules.specs.Derivations.{Proof, Proofs, by, given, no_more, ◌⊳◌, Derives, DeriveEach}
use Rattle.sx_rules.specs.Modes.{Modes, inputs, outputs, inputs_of, AreModed, IsModed, AllModed}
use Rattle.sx_rules.specs.Rules.{Judgement, Premise, holds, apart, Rule, Hypotheses, judgement_instance, judgements_of}
use Rattle.sx_rules.proofs.Moded.{inputs-map, outputs-map, moded-at}
use Rattle.sx_lexemes.specs.Laws.{DerivedKeepLexemes}
use Rattle.sx_lexemes.specs.Lexemes.{IsToken, LexemesAre, AllLexemesAre, JudgementLexemesAre, PremiseLexemesAre, RuleLexemesAre}
use Rattle.sx_lexemes.proofs.Terms.{all_instance_lexemes, all_variable_lexemes, all_bound, judgement_lexemes, inputs_lexemes, outputs_lexemes}

module _ (P : LexKind → List ℕ → Type 0) where
  -- the lexemes of all bindings have the property
  abbrev mutual
    pub BindsAre : Proof → Type 0
    BindsAre (by r binds kids) = AllLexemesAre P binds × AllBindsAre kids
    BindsAre (given i) = Unit {0}

    pub AllBindsAre : Proofs → Type 0
    AllBindsAre no_more = Unit {0}
    AllBindsAre (p ⊳ ps) = BindsAre p × AllBindsAre ps

  pub rule_at : (rules : List Rule) (r : ℕ) (rule : Rule) → AllByRecursion (RuleLexemesAre P) rules → slice_get rules r ≡ Some rule → RuleLexemesAre P rule
  rule_at [] r rule h e = cc
  rule_at (x ∷ xs) zero rule h e = let q : x ≡ rule = cc in subst (λ (y : Rule). RuleLexemesAre P y) q h.0
  rule_at (x ∷ xs) (suc r) rule h e = rule_at xs r rule h.1 e

  pub given_at : (js : List Judgement) (i : ℕ) (j : Judgement) → AllByRecursion (JudgementLexemesAre P) js → slice_get js i ≡ Some j → JudgementLexemesAre P j
  given_at [] i j h e = cc
  given_at (x ∷ xs) zero j h e = let q : x ≡ j = cc in subst (λ (y : Judgement). JudgementLexemesAre P y) q h.0
  given_at (x ∷ xs) (suc i) j h e = given_at xs i j h.1 e

  module _ (modes : Modes) where
    -- where the lexemes at the inputs of the judgement have the property, so have all
    abbrev IsKept : Judgement → Proof → Type 0
    IsKept j p = AllLexemesAre P (inputs_of modes j) → JudgementLexemesAre P j × BindsAre p

    abbrev EachIsKept : List Judgement → Proofs → Type 0
    EachIsKept [] no_more = Unit {0}
    EachIsKept (j ∷ js) (p ⊳ ps) = IsKept j p × EachIsKept js ps
    EachIsKept _ _ = ⊥

    premises_kept : (rule : Rule) (s : ℕ → Tree) (ps : List Premise) (kids : Proofs) (Bound : ℕ → Type 0) →
        ((v : ℕ) → Bound v → LexemesAre P (s v)) → AreModed modes Bound ps rule → AllByRecursion (PremiseLexemesAre P) ps →
        EachIsKept (map (judgement_instance s) (judgements_of ps)) kids →
        ((v : ℕ) → v < length rule.sorts → LexemesAre P (s v)) × AllBindsAre kids
    premises_kept rule s [] no_more Bound b m h each = (λ v k. b v ((m.1 v).1 k), tt)
    premises_kept rule s [] (p ⊳ ps) Bound b m h each = absurd each
    premises_kept rule s (apart t u ∷ ps) kids Bound b m h each = premises_kept rule s ps kids Bound b m.1 h.1 each
    premises_kept rule s (holds j ∷ ps) no_more Bound b m h each = absurd each
    premises_kept rule s (holds j ∷ ps) (q ⊳ qs) Bound b m h each =
        let bs = modes j.form in
        let ins = all_instance_lexemes P s (inputs bs j.places) (inputs_lexemes P bs j.places h.0) (λ v k. b v (m.0 v k)) in
        let here = each.0 (subst (λ (ts : List Tree). AllLexemesAre P ts) (sym (inputs-map s bs j.places)) ins) in
        let outs = outputs_lexemes P bs (map (instance s) j.places) here.0 in
        let at_outputs = all_variable_lexemes P s (outputs bs j.places) (subst (λ (ts : List Tree). AllLexemesAre P ts) (outputs-map s bs j.places) outs) in
        let after = premises_kept rule s ps qs (λ v. Bound v ⊎ StandsAmong v (outputs bs j.places)) (λ v. elim [ inl k ↦ b v k | inr k ↦ at_outputs v k ]) m.1 h.1 each.1 in
        (after.0, (here.1, after.1))

    rule_kept : (r : ℕ) (binds : List Tree) (kids : Proofs) (rule : Rule) → length binds ≡ length rule.sorts → IsModed modes rule → RuleLexemesAre P rule →
        EachIsKept (map (judgement_instance (bound_by binds)) (judgements_of rule.premises)) kids → IsKept (judgement_instance (bound_by binds) rule.conclusion) (by r binds kids)
    rule_kept r binds kids rule many m h each g =
        let s = bound_by binds in
        let bs = modes rule.conclusion.form in
        let places = rule.conclusion.places in
        let at_inputs = all_variable_lexemes P s (inputs bs places) (subst (λ (ts : List Tree). AllLexemesAre P ts) (inputs-map s bs places) g) in
        let after = premises_kept rule s rule.premises kids (λ v. StandsAmong v (inputs bs places)) at_inputs m h.premises each in
        let all = all_bound P binds (length rule.sorts) many after.0 in
        (judgement_lexemes P binds all rule.conclusion h.conclusion, (all, after.1))

    module _ (rules : List Rule) (hyps : Hypotheses) (moded : AllModed modes rules) (have : AllByRecursion (RuleLexemesAre P) rules) (given_have : AllByRecursion (JudgementLexemesAre P) hyps.judgements) where
      mutual
        pub kept : (p : Proof) (j : Judgement) → Derives rules hyps j p → IsKept j p
        kept (given i) j h = λ g. (given_at hyps.judgements i j given_have h, tt)
        kept (by r binds kids) j (rule, at_r, many, concluded, apart_ones, each) =
            subst (λ (x : Judgement). IsKept x (by r binds kids)) concluded
            (rule_kept r binds kids rule many (moded-at modes rules r rule moded at_r) (rule_at rules r rule have at_r)
            (each_kept kids (map (judgement_instance (bound_by binds)) (judgements_of rule.premises)) each))

        each_kept : (ps : Proofs) (js : List Judgement) → DeriveEach rules hyps js ps → EachIsKept js ps
        each_kept no_more [] h = tt
        each_kept no_more (j ∷ js) h = absurd h
        each_kept (p ⊳ ps) [] h = absurd h
        each_kept (p ⊳ ps) (j ∷ js) h = (kept p j h.0, each_kept ps js h.1)

pub derived_keep_lexemes : DerivedKeepLexemes
derived_keep_lexemes literals modes rules hyps moded have given_have p j d g = (kept (IsToken literals) modes rules hyps moded have given_have p j d g).0
