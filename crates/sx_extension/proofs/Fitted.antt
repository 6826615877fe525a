-- An extension that is read fits what it was read after.
use Rattle.std.proofs.Common.{◌≡◌, ℕ, ◌+◌, ◌<◌, ◌≤◌, List, [], ◌∷◌, ◌++◌, length, length-append}
use Rattle.std.proofs.Common.{map, Option, Contains, ap, ◌∙◌, sym, subst, arith}
use Rattle.std.specs.List.{AllByRecursion}
use Rattle.sx_term.specs.Sorts.{Shape}
use Rattle.sx_term.specs.Tree.{Tree}
use Rattle.sx_grammar.specs.Grammar.{Text}
use Rattle.sx_grammar.specs.Parts.{Line, Parts, names, numbered_line, literals}
use Rattle.sx_grammar.specs.Told.{shape_of, shapes_of}
use Rattle.sx_plain.specs.Plain.{Table}
use Rattle.sx_plain.specs.Tables.{Begins, Desugars}
use Rattle.sx_plain.specs.Views.{table_of}
use Rattle.sx_rules.specs.Good.{IsRuleSet}
use Rattle.sx_rules.specs.Views.{FormData, NamedRule}
use Rattle.sx_outline.specs.declared.rule_lines.RuleLines.{RuleLines}
use Rattle.sx_outline.specs.ExtensionOutlined.{ExtensionOutlineData}
use Rattle.sx_outline.specs.Sized.{HasShortLines}
use Rattle.sx_outline.specs.Stages.{rule_data}
use Rattle.sx_rewrite.specs.declared.ext_rule.ExtRule.{ExtRule}
use Rattle.sx_rewrite.specs.Extensions.{BodiesFit, FitsRules}
use Rattle.sx_rewrite.specs.ExtensionView.{ext_rule, named_rules}
use Rattle.sx_rewrite.specs.Stored.{signature_of}
use Rattle.sx_notation.specs.Language.{FormFits}
use Rattle.sx_notation.specs.RuleLaws.{form_of, HaveSortsOf}
use Rattle.sx_notation.specs.RuleParts.{rule_parts}
use Rattle.sx_language.specs.RuleLine.{Reader, CanReadRules}
use Rattle.sx_language.specs.RuleTexts.{AreRules}
use Rattle.sx_language.specs.States.{AreStems}
use Rattle.sx_extension.specs.declared.prepared.Prepared.{Prepared}
use Rattle.sx_extension.specs.declared.extension.ReadExtension.{ReadExtension}
use Rattle.sx_extension.specs.Bodies.{AreBodied}
use Rattle.sx_extension.specs.Fitting.{FitsAfter}
use Rattle.sx_extension.specs.Grounds.{Ground, IsGroundBefore}
use Rattle.sx_extension.specs.Readings.{with_own}
use Rattle.sx_extension.specs.Stages.{HasFewProductions, IsPreparedExtension}
use Rattle.sx_extension.specs.States.{IsExtensionIn}
use Rattle.sx_extension.proofs.Checking.{shapes_go_on}
use Rattle.sx_extension.proofs.Defining.{many_shapes}
use Rattle.sx_extension.proofs.FitBodies.{bodies_fit}
use Rattle.sx_extension.proofs.FitLexemes.{literal_kept, has_lexemes}
use Rattle.sx_extension.proofs.FitRooms.{few_productions, few_literals}
use Rattle.sx_extension.proofs.FitRules.{rules_of, bodies_of, own_disciplined, usable}
use Rattle.sx_extension.proofs.FitShapes.{have_no_typed}
use Rattle.sx_extension.proofs.Grounding.{forms_kept, sorts_kept, same_sorts, reads}

short_lines : (ls : List RuleLines) → AllByRecursion (λ l. HasShortLines 262144 (rule_data l)) ls →
    AllByRecursion (HasShortLines 262144) (map rule_data ls)
short_lines [] h = tt
short_lines (l ∷ ls) h = (h.0, short_lines ls h.1)

module _ (g : Ground) (before : IsGroundBefore g) (bytes : Text) (x : ReadExtension)
    (s : IsExtensionIn g bytes x) where
  abbrev own : List Line
  own = s.outline.productions

  abbrev p : Parts
  p = with_own g own

  abbrev r : Reader
  r = s.read.reader

  abbrev es : List ExtRule
  es = x.extension.rules.items

  abbrev table : Table
  table = table_of x.extension.plain

  rules_are : AreRules r s.outline.rules s.texts.names (rules_of es) (bodies_of es)
  rules_are =
      subst (λ (bs : List (Option Tree)). AreRules r s.outline.rules s.texts.names
      (rules_of es) bs) (sym s.bodies)
      (subst (λ (qs : List NamedRule). AreRules r s.outline.rules s.texts.names qs s.texts.bodies)
      (sym s.rules) s.read.read.rules)

  bodied : AreBodied r.forms (shapes_of p) (length g.shapes) s.outline.rules (rules_of es)
      (bodies_of es)
  bodied =
      subst (λ (fs : List FormData). AreBodied fs (shapes_of p) (length g.shapes) s.outline.rules
      (rules_of es) (bodies_of es)) (sym s.read.readable.forms)
      (subst (λ (bs : List (Option Tree)). AreBodied g.forms (shapes_of p)
      (length g.shapes) s.outline.rules (rules_of es) bs) (sym s.bodies)
      (subst (λ (qs : List NamedRule). AreBodied g.forms (shapes_of p)
      (length g.shapes) s.outline.rules qs s.texts.bodies) (sym s.rules) s.bodied))

  rule_set : IsRuleSet (shapes_of p) g.forms (g.rules ++ rules_of es)
  rule_set = subst (λ (qs : List NamedRule). IsRuleSet (shapes_of p) g.forms (g.rules ++ qs))
      (sym s.rules) s.rule_set

  stems : AreStems p s.outline.vars r.stems
  stems = subst (λ (y : Parts). AreStems y s.outline.vars r.stems) s.read.readable.grammars.parts
      s.read.readable.stems

  read_by : r.parts ≡ rule_parts p s.read.readable.grammars.lines
  read_by = s.read.readable.read_by ∙ s.read.readable.grammars.read_by

  can : CanReadRules r
  can =
      let made = s.read.readable.grammars in
      reads g before own made.lines made.has_forms made.is_grammar s.outline.vars r stems read_by
      s.read.readable.forms

  forms_are : r.forms ≡ map (form_of p) s.read.readable.grammars.lines
  forms_are =
      let made = s.read.readable.grammars in
      s.read.readable.forms ∙ made.has_forms.forms ∙
      forms_kept g.language p (sym (same_sorts g before own)) made.lines

  known : HaveSortsOf p s.read.readable.grammars.lines
  known =
      let made = s.read.readable.grammars in
      sorts_kept g.language p (sym (same_sorts g before own)) made.lines made.has_forms.known

  begins : Begins g.shapes (shapes_of p)
  begins =
      let q = g.grammar.parts in
      let more = map (shape_of q.sorts) (map (numbered_line (names q)) own) in
      (more, shapes_go_on q own ∙ ap (λ (ss : List Shape). ss ++ more) (sym before.shapes))

  low : length (shapes_of g.language) ≤ length g.shapes
  low =
      let base = many_shapes g.language (shapes_of g.language) (λ i. shapes_of g.language) in
      let all = many_shapes g.grammar.parts g.shapes before.shapes in
      let goes = ap (λ (y : Parts). length y.productions) before.goes_on in
      omega (arith, base, all, goes, length-append g.language.productions before.more)

  kept : (text : Text) → Contains (literals g.language) text → Contains (literals p) text
  kept text has =
      literal_kept g.grammar.parts own text
      (subst (λ (y : Parts). Contains (literals y) text) (sym before.goes_on)
      (literal_kept g.language before.more text has))

  module _ (desugars : Desugars (shapes_of g.language) (shapes_of p) table) where
    bodies : BodiesFit (signature_of g.forms) (shapes_of p) (length g.shapes) table
        (map ext_rule es)
    bodies =
        let made = s.read.readable.grammars in
        let fit = subst (AllByRecursion FormFits) (sym s.read.readable.forms) before.fit in
        subst (λ (fs : List FormData). BodiesFit (signature_of fs) (shapes_of p)
        (length g.shapes) table (map ext_rule es)) s.read.readable.forms
        (bodies_fit p made.lines made.is_grammar made.is_rule_grammar s.outline.vars r read_by
        stems can forms_are known fit (shapes_of g.language) (length g.shapes) low table
        desugars
        es s.outline.rules s.texts.names rules_are bodied)

    fits : ((label : ℕ) → label < length g.shapes → g.table label ≡ table label) →
        FitsRules (signature_of g.forms) (shapes_of g.language) g.shapes (shapes_of p) g.table table
        (map ext_rule es)
    fits keeps =
        let all = own_disciplined (shapes_of p) g.forms g.rules es rule_set in
        record {
          goes_on = record {
            begins = begins;
            no_typed = have_no_typed p s.read.readable.grammars.is_grammar;
            keeps = keeps;
            desugars = desugars;
          };
          sorted = all.0;
          moded = all.1;
          disciplined = all.2;
          bodies = bodies;
        }

  pub fitted : Desugars (shapes_of g.language) (shapes_of x.grammar.parts) table →
      ((label : ℕ) → label < length g.shapes → g.table label ≡ table label) →
      AllByRecursion (HasShortLines 262144) s.outline.rules → HasFewProductions s.outline →
      FitsAfter g x
  fitted desugars keeps short few =
      let made = s.read.readable.grammars in
      let here = subst (λ (y : Parts). Desugars (shapes_of g.language) (shapes_of y) table)
      made.parts desugars in
      let more = few_productions g.grammar.parts made.lines own 262144 (omega (arith, few)) in
      let texts = few_literals g.grammar.parts made.lines own 262144 (omega (arith, few)) in
      record {
        good = subst (λ (y : Parts). IsRuleSet (shapes_of y) g.forms (g.rules ++
            named_rules x.extension)) (sym made.parts) rule_set;
        usable = usable r s.outline.rules s.texts.names x.extension rules_are short;
        labels = s.table.0;
        fits = subst (λ (y : Parts). FitsRules (signature_of g.forms) (shapes_of g.language) g.shapes
            (shapes_of y) g.table table (map ext_rule es)) (sym made.parts) (fits here keeps);
        lexemes = has_lexemes g.language p kept made.lines r read_by x.extension g.table
            s.outline.rules s.texts.names rules_are p s.outline.plains s.texts.plains
            s.read.read.plains g.base s.table.1;
        productions = subst (λ (y : Parts). length y.productions ≤ length g.by_rules.productions
            + 262144) (sym made.read_by)
            (subst (λ (y : Parts). length (rule_parts p made.lines).productions ≤ length
            y.productions + 262144) (sym made.has_forms.read_by) more);
        literals = subst (λ (y : Parts). length (literals y) ≤ length
            (literals g.by_rules) + 262144) (sym made.read_by)
            (subst (λ (y : Parts). length (literals (rule_parts p made.lines)) ≤ length
            (literals y) + 262144) (sym made.has_forms.read_by) texts);
      }

  -- so it does where its outline is that of what was prepared
  pub prepared_fits : (y : Prepared) (h : IsPreparedExtension g bytes y) → s.outline ≡ h.from →
      Desugars (shapes_of g.language) (shapes_of x.grammar.parts) table →
      ((label : ℕ) → label < length g.shapes → g.table label ≡ table label) → FitsAfter g x
  prepared_fits y h same desugars keeps =
      let lines = subst (AllByRecursion (HasShortLines 262144)) h.rules
      (short_lines y.rules.items h.can.short) in
      fitted desugars keeps (subst (λ (o : ExtensionOutlineData). AllByRecursion
      (HasShortLines 262144) o.rules) (sym same) lines)
      (subst HasFewProductions (sym same) h.few)
