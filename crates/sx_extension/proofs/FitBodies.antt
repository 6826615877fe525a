-- The bodies of rules that are read are terms of the syntax before the extension.
use Rattle.std.proofs.Common.{◌≡◌, ℕ, ◌<◌, ◌≤◌, ◌⊎◌, inl, inr, List, [], ◌∷◌, length, map, Option}
use Rattle.std.proofs.Common.{Some, None, refl, sym, subst, arith}
use Rattle.std.specs.Prelude.{option_map, IsSome}
use Rattle.std.specs.List.{AllByRecursion}
use Rattle.std.proofs.lemmas.Bool.{cases_lt}
use Rattle.std.proofs.lemmas.Option.{none-some}
use Rattle.sx_term.specs.declared.sort.Sort.{Sort}
use Rattle.sx_term.specs.Term.{tree}
use Rattle.sx_term.specs.Tree.{Tree, Trees, node, lexeme, hole, none, ◌▹◌}
use Rattle.sx_term.specs.Sorts.{Shape, HasSort, HaveSorts, KidsHaveSorts}
use Rattle.sx_grammar.specs.Grammar.{Text}
use Rattle.sx_grammar.specs.Parts.{Parts}
use Rattle.sx_grammar.specs.Made.{IsGrammar}
use Rattle.sx_grammar.specs.Told.{shapes_of}
use Rattle.sx_plain.specs.Plain.{Table}
use Rattle.sx_plain.specs.Tables.{IsCovered, AreCovered, Desugars}
use Rattle.sx_rules.specs.Views.{NamedRule, named, places_at}
use Rattle.sx_directives.specs.declared.rows.FormLine.{FormLine}
use Rattle.sx_directives.specs.declared.rows.VarLine.{VarLine}
use Rattle.sx_outline.specs.Stages.{Numbered, RuleData}
use Rattle.sx_rewrite.specs.declared.ext_rule.ExtRule.{ExtRule}
use Rattle.sx_rewrite.specs.Extensions.{BodyFits, BodiesFit}
use Rattle.sx_rewrite.specs.ExtensionView.{ext_rule}
use Rattle.sx_rewrite.specs.Stored.{signature_of}
use Rattle.sx_notation.specs.Language.{FormFits}
use Rattle.sx_notation.specs.RuleParts.{rule_parts}
use Rattle.sx_notation.specs.RuleLaws.{form_of, HaveSortsOf}
use Rattle.sx_language.specs.RuleLine.{Reader, CanReadRules}
use Rattle.sx_language.specs.RuleTexts.{IsRule, AreRules}
use Rattle.sx_language.specs.States.{AreStems}
use Rattle.sx_language.proofs.SortedReads.{bodies_are_sorted}
use Rattle.sx_extension.specs.Bodies.{IsBodied, subject_of, AreBodied}
use Rattle.sx_extension.specs.OwnSyntax.{HasOwn, HaveOwn}
use Rattle.sx_extension.proofs.FitSubjects.{none_stand, subject_only, subject_below}
use Rattle.sx_extension.proofs.OwnShapes.{sorted_by_base}

-- ---- terms without own typed syntax

module _ (base all : List Shape) (first : ℕ) (low : length base ≤ first) (table : Table)
    (des : Desugars base all table) (vars : List Sort) where
  mutual
    -- each label is before the number or has an entry
    pub covered : (t : Tree) (sort : Sort) → (HasOwn all first t → ⊥) → HasSort all vars t sort →
        IsCovered first table t
    covered (node label ts) sort free h = (
      at_label (cases_lt label first),
      all_covered ts h.0.kids (λ o. free (inr o)) h.3,
    )
      where
        below : (label < length base) ⊎ IsSome (table label) → (label < first) ⊎
            IsSome (table label)
        below (inl l) = inl (omega (arith, l, low))
        below (inr s) = inr s

        at_label : (label < first) ⊎ (first ≤ label) → (label < first) ⊎ IsSome (table label)
        at_label (inl l) = inl l
        at_label (inr past) = below
            (des.every label h.0 h.1 (λ k e. free (inl (past, (h.0, h.1, (k, e))))))
    covered (lexeme kind text) sort free h = tt
    covered (hole v) sort free h = tt

    all_covered : (ts : Trees) (sorts : List Sort) → (HaveOwn all first ts → ⊥) →
        KidsHaveSorts all vars ts sorts → AreCovered first table ts
    all_covered none sorts free h = tt
    all_covered (t ▹ ts) [] free h = absurd h
    all_covered (t ▹ ts) (s ∷ ss) free h = (
      covered t s (λ o. free (inl o)) h.0,
      all_covered ts ss (λ o. free (inr o)) h.1,
    )

-- ---- bodies

-- a rule without a body has no subject, and no own typed syntax stands in a body
no_subject : (shapes : List Shape) (first : ℕ) (subject : Option Sort) (line : Option Numbered) →
    IsBodied shapes first subject line None → subject ≡ None
no_subject shapes first None line h = refl
no_subject shapes first (Some sort) None h = absurd h
no_subject shapes first (Some sort) (Some line) h = absurd h

no_own : (shapes : List Shape) (first : ℕ) (subject : Option Sort) (line : Option Numbered)
    (t : Tree) → IsBodied shapes first subject line (Some t) → HasOwn shapes first t → ⊥
no_own shapes first None None t h o = none-some t (sym h)
no_own shapes first None (Some line) t h o = h
no_own shapes first (Some sort) None t h o = h
no_own shapes first (Some sort) (Some line) t h o = h o

module _ (p : Parts) (fs : List FormLine) (is : IsGrammar p)
    (rule_is : IsGrammar (rule_parts p fs)) (vars : List VarLine) (r : Reader)
    (by : r.parts ≡ rule_parts p fs) (are : AreStems p vars r.stems) (can : CanReadRules r)
    (forms_are : r.forms ≡ map (form_of p) fs) (known : HaveSortsOf p fs)
    (fit : AllByRecursion FormFits r.forms)
    (base : List Shape) (first : ℕ) (low : length base ≤ first) (table : Table)
    (des : Desugars base (shapes_of p) table) where
  body_fits : (l : RuleData) (n : List Text) (q : NamedRule) (b : Option Tree) → IsRule r l n q b →
      IsBodied (shapes_of p) first (subject_of r.forms q) l.body b →
      BodyFits (signature_of r.forms) (shapes_of p) first table q.rule b
  body_fits l n q None rule h =
      none_stand (places_at r.forms q.rule.conclusion.form) q.rule.conclusion.places
      (no_subject (shapes_of p) first (subject_of r.forms q) l.body h)
  body_fits l n q (Some t) rule h =
      let form = q.rule.conclusion.form in
      let x = bodies_are_sorted p fs vars r l n q t by are can rule in
      let below = subject_below p fs is rule_is r.forms forms_are known form x.0 x.1 in
      let sorted = sorted_by_base p fs is rule_is q.rule.sorts t x.0 below
      (subst (λ (y : Parts). HasSort (shapes_of y) q.rule.sorts t x.0) by x.2) in (
        subst (λ (ss : List Sort). HaveSorts (shapes_of p) q.rule.sorts (t ∷ []) ss)
            (sym (subject_only r.forms form x.0 fit x.1)) (sorted, tt),
        covered base (shapes_of p) first low table des q.rule.sorts t x.0
            (no_own (shapes_of p) first (subject_of r.forms q) l.body t h) sorted,
      )

  -- so it is of each rule
  pub bodies_fit : (es : List ExtRule) (ls : List RuleData) (ns : List (List Text)) →
      AreRules r ls ns (map (λ e. named e.rule) es) (map (λ e. option_map tree e.body) es) →
      AreBodied r.forms (shapes_of p) first ls (map (λ e. named e.rule) es)
      (map (λ e. option_map tree e.body) es) → BodiesFit (signature_of r.forms)
      (shapes_of p) first table (map ext_rule es)
  bodies_fit [] ls ns rules h = tt
  bodies_fit (e ∷ es) [] [] rules h = absurd rules
  bodies_fit (e ∷ es) [] (n ∷ ns) rules h = absurd rules
  bodies_fit (e ∷ es) (l ∷ ls) [] rules h = absurd rules
  bodies_fit (e ∷ es) (l ∷ ls) (n ∷ ns) rules h = (
    body_fits l n (named e.rule) (option_map tree e.body) rules.0 h.0,
    bodies_fit es ls ns rules.1 h.1,
  )
