-- What a text states, and what is refused of it, is of one outline and of one list of texts.
use Rattle.std.proofs.Common.{◌≡◌, ◌≢◌, ◌++◌, ℕ, length}
use Rattle.std.proofs.Common.{subst}
use Rattle.std.specs.Prelude.{Option}
use Rattle.sx_grammar.specs.declared.grammar_error.GrammarError.{GrammarError}
use Rattle.sx_grammar.specs.Grammar.{Text}
use Rattle.sx_grammar.specs.Tables.{GrammarData}
use Rattle.sx_grammar.specs.Told.{shapes_of}
use Rattle.sx_rules.specs.declared.error.RuleError.{RuleError}
use Rattle.sx_rules.specs.declared.error.RuleError.TheVariants as rules
use Rattle.sx_rules.specs.Good.{IsRuleSetRefused as IsNoRuleSet}
use Rattle.sx_outline.specs.ExtensionOutlined.{ExtensionOutlineData}
use Rattle.sx_notation.specs.declared.notation_error.NotationError.{NotationError}
use Rattle.sx_language.specs.RuleLine.{Reader}
use Rattle.sx_extension.specs.declared.extension_error.ExtensionError.{ExtensionError}
use Rattle.sx_extension.specs.Alike.{TextsHaveThree, ExtensionHasThree}
use Rattle.sx_extension.specs.BodyRefusals.{HaveBadBody}
use Rattle.sx_extension.specs.Grounds.{Ground}
use Rattle.sx_extension.specs.Readings.{HasOutline, with_own, AreNoGrammars}
use Rattle.sx_extension.specs.Readings.{IsExtensionReadable, Texts, AreTextsRead, IsBadText}
use Rattle.sx_extension.specs.Stages.{IsNoTable}
use Rattle.sx_extension.specs.States.{HasBadText, HasNoGrammars}
use Rattle.sx_extension.specs.States.{HasTexts, IsNoExtendedRules, HasNoExtendedRuleSet, HasNoTable, HasBodyDefect}
use Rattle.sx_extension.proofs.OneGround.{outline_one}
use Rattle.sx_extension.proofs.OneTexts.{readable_outline}
use Rattle.sx_extension.proofs.OneTexts.{reader_one, texts_one}

-- the refusal of rules, which is not out of memory
pub no_rules : (g : Ground) (o : ExtensionOutlineData) (x : Texts) (e : RuleError) →
    IsNoExtendedRules g o x e → IsNoRuleSet (shapes_of (with_own g o.productions)) g.forms
    (g.rules ++ x.rules) e × (e ≢ rules.Memory)
no_rules g o x rules.Memory h = absurd h
no_rules g o x rules.TooManyRules h = (h, λ e. cc)
no_rules g o x (rules.TooManyVars name) h = (h, λ e. cc)
no_rules g o x (rules.SameRule name) h = (h, λ e. cc)
no_rules g o x (rules.SortDiffers name) h = (h, λ e. cc)
no_rules g o x (rules.Discipline name part premise) h = (h, λ e. cc)
no_rules g o x (rules.NotModed name variable) h = (h, λ e. cc)

module _ (g : Ground) (bytes : Text) where
  -- ---- what is read is one

  module _ (o q : ExtensionOutlineData) (x y : Texts) (h : HasTexts g bytes o x)
      (k : HasTexts g bytes q y) where
    pub texts_outline : o ≡ q
    texts_outline = readable_outline g bytes o q h.grammar h.by_rules k.grammar k.by_rules
        h.read.reader k.read.reader h.read.readable k.read.readable

    pub texts_same : x ≡ y
    texts_same =
        let p = with_own g q.productions in
        let reader = reader_one g bytes o q h.grammar h.by_rules k.grammar k.by_rules h.read.reader
        k.read.reader h.read.readable k.read.readable in
        let here = subst (λ (o : ExtensionOutlineData). AreTextsRead (with_own g o.productions)
        h.read.reader o x) texts_outline h.read.read in
        texts_one p k.read.readable.grammars.is_grammar k.read.reader q x y
        (subst (λ (r : Reader). AreTextsRead p r q x) reader here) k.read.read

    -- what is said of the outline and of the texts of one is said of those of the other
    pub moved : (P : ExtensionOutlineData → Texts → Type 0) → P o x → P q y
    moved P holds = subst (λ (z : Texts). P q z) texts_same
        (subst (λ (o : ExtensionOutlineData). P o x) texts_outline holds)

  -- ---- what is refused of one is refused of the other

  pub no_grammars_there : (x : GrammarError) (h : HasNoGrammars g bytes x)
      (o : ExtensionOutlineData) →
      HasOutline g bytes o → AreNoGrammars g o.productions x
  no_grammars_there x h o k =
      subst (λ (q : ExtensionOutlineData). AreNoGrammars g q.productions x)
      (outline_one g bytes h.outline o h.outlined k) h.refused

  pub bad_there : (x : NotationError) (h : HasBadText g bytes x) (o : ExtensionOutlineData)
      (a b : GrammarData) (r : Reader) → IsExtensionReadable g bytes o a b r →
      IsBadText (with_own g o.productions) r o x
  bad_there x h o a b r k =
      subst (λ (s : Reader). IsBadText (with_own g o.productions) s o x)
      (reader_one g bytes h.outline o h.grammar h.by_rules a b h.reader r h.readable k)
      (subst (λ (q : ExtensionOutlineData). IsBadText (with_own g q.productions) h.reader q x)
      (readable_outline g bytes h.outline o h.grammar h.by_rules a b h.reader r h.readable k)
      h.refused)

  pub text_has_three : (x : NotationError) (h : HasBadText g bytes x) (number : ℕ) →
      TextsHaveThree (with_own g h.outline.productions) h.reader h.outline number →
      ExtensionHasThree g bytes number
  text_has_three x h number three = record {
    outline = h.outline;
    grammar = h.grammar;
    by_rules = h.by_rules;
    reader = h.reader;
    readable = h.readable;
    three = three;
  }

  pub no_rules_there : (x : RuleError) (unbound : Option Text) (h : HasNoExtendedRuleSet g bytes x unbound)
      (o : ExtensionOutlineData) (y : Texts) → HasTexts g bytes o y →
      IsNoRuleSet (shapes_of (with_own g o.productions)) g.forms (g.rules ++ y.rules) x
  no_rules_there x unbound h o y k =
      moved h.outline o h.texts y h.read k (λ o y. IsNoRuleSet
      (shapes_of (with_own g o.productions)) g.forms (g.rules ++ y.rules) x)
      (no_rules g h.outline h.texts x h.refused).0

  pub no_table_there : (e : ExtensionError) (h : HasNoTable g bytes e) (o : ExtensionOutlineData)
      (y : Texts) → HasTexts g bytes o y → IsNoTable g (with_own g o.productions) o.plains y.plains
      e
  no_table_there e h o y k = moved h.outline o h.texts y h.read k
      (λ o y. IsNoTable g (with_own g o.productions) o.plains y.plains e) h.refused

  pub bad_body_there : (e : ExtensionError) (h : HasBodyDefect g bytes e)
      (o : ExtensionOutlineData)
      (y : Texts) → HasTexts g bytes o y →
      HaveBadBody g.forms (shapes_of (with_own g o.productions)) (length g.shapes) o.rules y.rules
      y.bodies e
  bad_body_there e h o y k =
      moved h.outline o h.texts y h.read k (λ o y. HaveBadBody g.forms
      (shapes_of (with_own g o.productions)) (length g.shapes) o.rules y.rules y.bodies e)
      h.refused
