-- The texts of an extension can be checked.
use Rattle.std.proofs.Common.{◌≡◌, ℕ, ◌<◌, ◌^◌, inl, inr, List, [], ◌∷◌, ◌++◌, length, map, Ok, Err, refl, ap, ◌∙◌, sym, subst, arith}
use Rattle.std.specs.Prelude.{Result, IfOk, IfErr}
use Rattle.std.specs.List.{AllByRecursion}
use Rattle.std.proofs.lemmas.List.{map-append}
use Rattle.sx_term.specs.Sorts.{Shape}
use Rattle.sx_grammar.specs.Grammar.{Text}
use Rattle.sx_grammar.specs.Parts.{Line, Parts, names, numbered_line}
use Rattle.sx_grammar.specs.Told.{shape_of, shapes_of}
use Rattle.sx_grammar.specs.Extended.{extended}
use Rattle.sx_rules.specs.declared.rule.Rule.{Rule}
use Rattle.sx_rules.specs.Deep.{RulesAreShallow}
use Rattle.sx_rules.specs.Good.{IsRuleSet}
use Rattle.sx_rules.specs.Views.{FormData, named, rule}
use Rattle.sx_language.specs.States.{AreStems}
use Rattle.sx_language.proofs.UsableRules.{rules_shallow}
use Rattle.sx_outline.specs.declared.rule_lines.RuleLines.{RuleLines}
use Rattle.sx_outline.specs.Stages.{PlainData, plain_data, rule_data}
use Rattle.sx_notation.specs.declared.notation_error.NotationError.{NotationError}
use Rattle.sx_notation.specs.declared.notation_error.NotationError.TheVariants as notation
use Rattle.sx_outline.specs.ExtensionOutlined.{extension_declares}
use Rattle.sx_extension.specs.declared.extension_error.ExtensionError.{ExtensionError}
use Rattle.sx_extension.specs.declared.prepared.Prepared.{Prepared}
use Rattle.sx_extension.specs.declared.read_texts.ReadTexts.{ReadTexts}
use Rattle.sx_extension.specs.Grounds.{Ground, IsGroundBefore}
use Rattle.sx_extension.specs.declared.plain_body.PlainBody.{PlainBody}
use Rattle.sx_extension.specs.PlainBodies.{body_data, IsBodyOf}
use Rattle.sx_extension.specs.Readings.{with_own, tables, ArePlainsRead}
use Rattle.sx_extension.specs.Stages.{IsPreparedExtension, IsSetRefusal, IsNoTable, reader_of}
use Rattle.sx_extension.specs.Checks.{IsNotationRefusal, HaveRuleSet, HaveNoRuleSet, AreUnchecked}
use Rattle.sx_extension.specs.ReadTexts.{read_texts, AreTextsOf}
use Rattle.sx_extension.specs.TableRefusals.{HaveParts}
use Rattle.sx_extension.proofs.Defining.{many_shapes}
use Rattle.sx_extension.proofs.Grounding.{same_sorts}
use Rattle.sx_extension.proofs.PlainSorts.{plain_bodies, parts_read}

-- the shapes of a grammar go on where productions are added
pub shapes_go_on : (p : Parts) (own : List Line) → shapes_of (extended p own) ≡ shapes_of p ++ map (shape_of p.sorts) (map (numbered_line (names p)) own)
shapes_go_on p own =
    ap (map (shape_of p.sorts)) (map-append (numbered_line (names p)) p.productions own) ∙ map-append (shape_of p.sorts) (map (numbered_line (names p)) p.productions) (map (numbered_line (names p)) own)

module _ (g : Ground) (before : IsGroundBefore g) (bytes : Text) (x : Prepared) (h : IsPreparedExtension g bytes x) (all : List Shape) (is : all ≡ shapes_of x.grammar.parts) where
  parts_are : x.grammar.parts ≡ with_own g h.from.productions
  parts_are = h.readable.grammars.parts

  pub begins : (new : List Shape) × (all ≡ g.shapes ++ new)
  begins =
      let p = g.grammar.parts in
      let more = map (shape_of p.sorts) (map (numbered_line (names p)) h.from.productions) in
      (more, is ∙ ap shapes_of parts_are ∙ shapes_go_on p h.from.productions ∙ ap (λ (ss : List Shape). ss ++ more) (sym before.shapes))

  pub few : length all < 2 ^ 32
  few = omega (arith, many_shapes x.grammar.parts all is, h.can.few)

  module _ (t : ReadTexts) (read : AreTextsOf g x t) where
    pub parts : HaveParts (map plain_data x.plains.items) (read_texts t).plains
    parts = parts_read x.grammar.parts (tables (reader_of g x)) (map plain_data x.plains.items) (read_texts t).plains read.plains

    pub shallow : (rs : List Rule) → rs ≡ t.rules.rules.items → RulesAreShallow (map rule rs)
    shallow rs same =
        subst (λ (ys : List Rule). RulesAreShallow (map rule ys)) (sym same)
        (subst RulesAreShallow (bare t.rules.rules.items)
        (rules_shallow (reader_of g x) (map rule_data x.rules.items) (read_texts t).names (read_texts t).rules (read_texts t).bodies read.rules).0)
      where
        bare : (xs : List Rule) → map (λ q. q.rule) (map named xs) ≡ map rule xs
        bare [] = refl
        bare (y ∷ ys) = ap (λ z. rule y ∷ z) (bare ys)

    pub bodies : AllByRecursion (IsBodyOf all (length g.shapes)) (read_texts t).plains
    bodies =
        let p = with_own g h.from.productions in
        let made = h.readable.grammars in
        let d = extension_declares g.language.sorts h.from in
        let r = tables (reader_of g x) in
        let are : AreStems p h.from.vars r.stems = subst (λ (y : Parts). AreStems y h.from.vars r.stems) parts_are h.readable.stems in
        let fit = h.named in
        let lines = subst (λ (ls : List PlainData). ArePlainsRead x.grammar.parts r ls (read_texts t).plains) h.plains read.plains in
        let here = subst (λ (y : Parts). ArePlainsRead y r h.from.plains (read_texts t).plains) parts_are lines in
        let found = plain_bodies p made.lines made.is_grammar made.is_rule_grammar d g.grammar.parts.productions (same_sorts g before h.from.productions) refl r made.read_by are h.from.plains (read_texts t).plains fit here in
        let shapes : shapes_of p ≡ all = ap shapes_of (sym parts_are) ∙ sym is in
        let many : length g.grammar.parts.productions ≡ length g.shapes = sym (many_shapes g.grammar.parts g.shapes before.shapes) in
        subst (λ (ss : List Shape). AllByRecursion (IsBodyOf ss (length g.shapes)) (read_texts t).plains) shapes
        (subst (λ (n : ℕ). AllByRecursion (IsBodyOf (shapes_of p) n) (read_texts t).plains) many found)

-- ---- what is answered

module _ (g : Ground) (before : IsGroundBefore g) (x : Prepared) (t : ReadTexts) (all : List Shape) (is : all ≡ shapes_of x.grammar.parts) where
  pub has_set : IsRuleSet all g.rule_forms (g.rules ++ (read_texts t).rules) → HaveRuleSet g x t
  has_set h =
      subst (λ (fs : List FormData). IsRuleSet (shapes_of x.grammar.parts) fs (g.rules ++ (read_texts t).rules)) before.rule_forms
      (subst (λ (ss : List Shape). IsRuleSet ss g.rule_forms (g.rules ++ (read_texts t).rules)) is h)

  abbrev Refuses : List Shape → List FormData → List RuleLines → NotationError → Type 0
  Refuses ss fs ls e = IsSetRefusal ss fs (g.rules ++ (read_texts t).rules) (map (λ l. l.name) ls) (read_texts t).names e

  told : (e : NotationError) (y : ExtensionError) → Refuses (shapes_of x.grammar.parts) g.forms x.rules.items e → IsNotationRefusal e y → HaveNoRuleSet g x t y
  told notation.Memory y h same = subst (HaveNoRuleSet g x t) (sym same) tt
  told (notation.NotUtf8 place) y h same = subst (HaveNoRuleSet g x t) (sym same) h
  told (notation.Notation line kind) y h same = subst (HaveNoRuleSet g x t) (sym same) h
  told (notation.Token line e) y h same = subst (HaveNoRuleSet g x t) (sym same) h
  told (notation.Grammar e) y h same = subst (HaveNoRuleSet g x t) (sym same) h
  told (notation.Read line e) y h same = subst (HaveNoRuleSet g x t) (sym same) h
  told (notation.Rules e v) y h same = subst (HaveNoRuleSet g x t) (sym same) h

  pub no_set : (lines : List RuleLines) → lines ≡ x.rules.items → (e : NotationError) (y : ExtensionError) → Refuses all g.rule_forms lines e → IsNotationRefusal e y → AreUnchecked g x t y
  no_set lines same e y h told_so =
      inl (told e y
      (subst (λ (ls : List RuleLines). Refuses (shapes_of x.grammar.parts) g.forms ls e) same
      (subst (λ (fs : List FormData). Refuses (shapes_of x.grammar.parts) fs lines e) before.rule_forms (subst (λ (ss : List Shape). Refuses ss g.rule_forms lines e) is h))) told_so)

  pub no_table : {T : Type 0} (r : Result T ExtensionError) (plains : List PlainBody) → plains ≡ t.plains.items → HaveRuleSet g x t →
      IfErr r (IsNoTable g x.grammar.parts (map plain_data x.plains.items) (map body_data plains)) → IfErr r (AreUnchecked g x t)
  no_table (Ok y) plains same set h = tt
  no_table (Err e) plains same set h = inr (set, subst (λ (ps : List PlainBody). IsNoTable g x.grammar.parts (map plain_data x.plains.items) (map body_data ps) e) same h)

pub ok_all : {T E : Type 0} (P : Type 0) (r : Result T E) → P → IfOk r (λ y. P)
ok_all P (Ok y) h = h
ok_all P (Err e) h = tt
