-- Lexemes of accepted sets that grow.
use Rattle.std.proofs.Common.{ℕ, List, [], ◌∷◌, ◌++◌, inl, inr, map, length, sym, subst}
use Rattle.std.specs.List.{AllByRecursion}
use Rattle.std.specs.Prelude.{IfSome, None, Option, Some, option_map}
use Rattle.sx_term.specs.declared.lex_kind.LexKind.{LexKind}
use Rattle.sx_term.specs.Sorts.{Shape}
use Rattle.sx_term.specs.Tree.{Tree}
use Rattle.sx_rules.specs.Modes.{Modes}
use Rattle.sx_rules.specs.Rules.{Premise, holds, apart, Rule, judgements_of}
use Rattle.sx_plain.specs.Plain.{Table, image}
use Rattle.sx_rewrite.specs.Accepted.{Accepted, Checked, ExtRule, IsAccepted, Signature}
use Rattle.sx_rewrite.specs.Accepted.{basic, checked, rule_in, extended_rules}
use Rattle.sx_rewrite.specs.Extensions.{with_table}
use Rattle.sx_rewrite.specs.Flat.{flat_judgement}
use Rattle.sx_rewrite.specs.PlainRules.{image_premise, plain_checked, plain_of, plain_rule}
use Rattle.sx_rewrite.specs.Sound.{AreSoundBy, IsFlatBody, flat_given, flat_goal}
use Rattle.sx_rewrite.proofs.Growing.{all-rules, longer}
use Rattle.sx_rewrite.proofs.PlainSets.{plain_rules_are_accepted}
use Rattle.sx_lexemes.specs.Laws.{GrownSetsKeepLexemes}
use Rattle.sx_lexemes.specs.Lexemes.{AllLexemesAre, BodyLexemesAre, ExtLexemesAre, IsToken}
use Rattle.sx_lexemes.specs.Lexemes.{JudgementLexemesAre, LexemesAre, PremiseLexemesAre}
use Rattle.sx_lexemes.specs.Lexemes.{RuleLexemesAre, SetLexemesAre, TableLexemesAre}
use Rattle.sx_lexemes.proofs.Derived.{kept}
use Rattle.sx_lexemes.proofs.Lowered.{flat_lexemes, lowered}
use Rattle.sx_lexemes.proofs.Terms.{all_image_lexemes, image_lexemes, inputs_lexemes}
use Rattle.sx_lexemes.proofs.Terms.{outputs_lexemes}

all_both : {X : Type 0} (Q : X → Type 0) (xs ys : List X) → AllByRecursion Q xs →
    AllByRecursion Q ys → AllByRecursion Q (xs ++ ys)
all_both Q [] ys h k = k
all_both Q (x ∷ xs) ys h k = (h.0, all_both Q xs ys h.1 k)

module _ (P : LexKind → List ℕ → Type 0) where
  module _ (table : Table) (have : TableLexemesAre P table) where
    -- ---- plain rules

    image_premises : (ps : List Premise) → AllByRecursion (PremiseLexemesAre P) ps →
        AllByRecursion (PremiseLexemesAre P) (map (image_premise table) ps)
    image_premises [] h = tt
    image_premises (holds j ∷ ps) h =
        (all_image_lexemes P table have j.places h.0, image_premises ps h.1)
    image_premises (apart t u ∷ ps) h = (
      (image_lexemes P table have t h.0.0, image_lexemes P table have u h.0.1),
      image_premises ps h.1,
    )

    plain_lexemes : (rule : Rule) → RuleLexemesAre P rule → RuleLexemesAre P (plain_rule table rule)
    plain_lexemes rule h = record {
      premises = image_premises rule.premises h.premises;
      conclusion = all_image_lexemes P table have rule.conclusion.places h.conclusion;
    }

    plain_stored : (more : List Checked) →
        AllByRecursion (RuleLexemesAre P) (map rule_in (map checked more)) →
        AllByRecursion (RuleLexemesAre P)
        (map rule_in (map checked (map (plain_checked table) more)))
    plain_stored [] h = tt
    plain_stored (c ∷ cs) h = (plain_lexemes c.rule h.0, plain_stored cs h.1)

    plain_rules : (base : List Rule) (more : List Checked) →
        AllByRecursion (RuleLexemesAre P) (map rule_in (map basic base ++ map checked more)) →
        AllByRecursion (RuleLexemesAre P)
        (map rule_in (map basic base ++ map checked (map (plain_checked table) more)))
    plain_rules [] more h = plain_stored more h
    plain_rules (b ∷ bs) more h = (h.0, plain_rules bs more h.1)

    plain_bodies : (more : List Checked) → AllByRecursion (BodyLexemesAre P) more →
        AllByRecursion (BodyLexemesAre P) (map (plain_checked table) more)
    plain_bodies [] h = tt
    plain_bodies (c ∷ cs) h = (h.0, plain_bodies cs h.1)

    -- ---- flat forms

    given_lexemes : (subjects : Modes) (ps : List Premise) →
        AllByRecursion (PremiseLexemesAre P) ps →
        AllByRecursion (JudgementLexemesAre P)
        (map (flat_judgement table subjects None) (judgements_of ps))
    given_lexemes subjects [] h = tt
    given_lexemes subjects (holds j ∷ ps) h = (
      flat_lexemes P table have None tt (subjects j.form) j.places h.0,
      given_lexemes subjects ps h.1,
    )
    given_lexemes subjects (apart t u ∷ ps) h = given_lexemes subjects ps h.1

    body_lexemes : (body : Option Tree) → IfSome body (LexemesAre P) →
        IfSome (option_map (image table) body) (LexemesAre P)
    body_lexemes None h = tt
    body_lexemes (Some t) h = image_lexemes P table have t h

  module _ (sig : Signature) (base shapes : List Shape) (n : ℕ) (a : Accepted)
      (ok : IsAccepted sig base shapes a) (have : SetLexemesAre P a) where
    plain_have : SetLexemesAre P (plain_of a)
    plain_have = record {
      rules = plain_rules a.table have.table a.base a.more have.rules;
      bodies = plain_bodies a.table have.table a.more have.bodies;
      table = have.table;
    }

    -- the lexemes of a flat body
    flat_body : (ext : ExtRule) → ExtLexemesAre P ext → (flat : Option Tree) →
        IsFlatBody sig.subjects n a ext flat → IfSome flat (LexemesAre P)
    flat_body ext h flat (inl (covered, is)) =
        subst (λ (o : Option Tree). IfSome o (LexemesAre P)) (sym is)
        (body_lexemes a.table have.table ext.body h.body)
    flat_body ext h flat (inr (uncovered, t, is, l)) =
        let ok_plain = plain_rules_are_accepted sig base shapes a ok in
        let hyps = flat_given a.table sig.subjects ext in
        let conclusion = flat_goal a.table sig.subjects ext in
        let given =
        given_lexemes a.table have.table sig.subjects ext.rule.premises h.rule.premises in
        let all =
        flat_lexemes P a.table have.table (option_map (image a.table) ext.body)
        (body_lexemes a.table have.table ext.body h.body) (sig.subjects ext.rule.conclusion.form)
        ext.rule.conclusion.places h.rule.conclusion in
        let ins = inputs_lexemes P (sig.modes conclusion.form) conclusion.places all in
        let binds =
        kept P sig.modes (extended_rules (plain_of a)) hyps ok_plain.moded plain_have.rules given l.proof
        conclusion l.derives ins in
        let low =
        lowered P sig base shapes (plain_of a) ok_plain plain_have hyps given l.proof l.lowered
        l.judgement binds.1 l.lowers in
        let subject = outputs_lexemes P (sig.subjects l.judgement.form) l.judgement.places low in
        let one = subst (λ (ts : List Tree). AllLexemesAre P ts) l.subject subject in
        subst (λ (o : Option Tree). IfSome o (LexemesAre P)) (sym is) one.0

    -- those of what is stored
    stored_rules : (es : List ExtRule) (cs : List Checked) → AreSoundBy sig.subjects n a es cs →
        AllByRecursion (ExtLexemesAre P) es →
        AllByRecursion (RuleLexemesAre P) (map rule_in (map checked cs))
    stored_rules [] [] s h = tt
    stored_rules [] (c ∷ cs) s h = absurd s
    stored_rules (e ∷ es) [] s h = absurd s
    stored_rules (e ∷ es) (c ∷ cs) s h = (
      subst (λ (r : Rule). RuleLexemesAre P r) (sym s.0.same_rule) h.0.rule,
      stored_rules es cs s.1 h.1,
    )

    stored_bodies : (es : List ExtRule) (cs : List Checked) → AreSoundBy sig.subjects n a es cs →
        AllByRecursion (ExtLexemesAre P) es → AllByRecursion (BodyLexemesAre P) cs
    stored_bodies [] [] s h = tt
    stored_bodies [] (c ∷ cs) s h = absurd s
    stored_bodies (e ∷ es) [] s h = absurd s
    stored_bodies (e ∷ es) (c ∷ cs) s h =
        (flat_body e h.0 c.body s.0.flat_body, stored_bodies es cs s.1 h.1)

pub grown_sets_keep_lexemes : GrownSetsKeepLexemes
grown_sets_keep_lexemes literals sig base shapes all a e ok x sound have rules_have table_has =
    let P = IsToken literals in
    let so_far = with_table a e.table in
    let first = longer sig base shapes all a e.table ok x.goes_on in
    let so_far_has : SetLexemesAre P so_far =
    record { rules = have.rules; bodies = have.bodies; table = table_has } in
    let n = length base in
    let rules =
    stored_rules P sig base all n so_far first so_far_has e.rules e.stored sound rules_have in
    record {
      rules = subst (λ (rs : List Rule). AllByRecursion (RuleLexemesAre P) rs)
          (sym (all-rules a.base a.more e.stored))
          (all_both (RuleLexemesAre P) (extended_rules a) (map rule_in (map checked e.stored)) have.rules
          rules);
      bodies = all_both (BodyLexemesAre P) a.more e.stored have.bodies
          (stored_bodies P sig base all n so_far first so_far_has e.rules e.stored sound
          rules_have);
      table = table_has;
    }
