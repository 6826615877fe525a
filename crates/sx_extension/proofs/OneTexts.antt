-- The lines of an extension state one list of plain bodies and rules, or have one first bad line,
-- but for the two readings that its refusal may show where the line has more.
use Rattle.std.proofs.Common.{◌≡◌, ◌≢◌, inl, inr, ap, ◌∙◌, sym, subst}
use Rattle.sx_grammar.specs.Grammar.{Text}
use Rattle.sx_grammar.specs.Parts.{Parts}
use Rattle.sx_grammar.specs.Tables.{GrammarData}
use Rattle.sx_grammar.specs.Made.{IsGrammar}
use Rattle.sx_outline.specs.ExtensionOutlined.{ExtensionOutlineData}
use Rattle.sx_notation.specs.declared.notation_error.NotationError.{NotationError}
use Rattle.sx_notation.specs.declared.notation_error.NotationError.TheVariants.{Memory}
use Rattle.sx_language.specs.Alike.{RulesHaveThree}
use Rattle.sx_language.specs.RuleLine.{Reader}
use Rattle.sx_language.specs.States.{AreStems}
use Rattle.sx_language.proofs.OneLine.{Alike, alike_so}
use Rattle.sx_language.proofs.OneOutline.{stems_one}
use Rattle.sx_language.proofs.OneRules.{rules_one, first_bad_one, rules_or_bad}
use Rattle.sx_extension.specs.Alike.{PlainsHaveThree, TextsHaveThree}
use Rattle.sx_extension.specs.Grounds.{Ground}
use Rattle.sx_extension.specs.Readings.{AreGrammars, IsExtensionReadable, Texts, tables, AreTextsRead, IsBadText}
use Rattle.sx_extension.proofs.OneGround.{outline_one, grammar_one, rule_grammar_one}
use Rattle.sx_extension.proofs.OnePlain.{plains_one, first_bad_plain_one, plains_or_bad}

-- ---- readers

module _ (g : Ground) (bytes : Text) (o q : ExtensionOutlineData) (a b c d : GrammarData)
    (r s : Reader) (h : IsExtensionReadable g bytes o a b r) (k : IsExtensionReadable g bytes q c d s) where
  pub readable_outline : o ≡ q
  readable_outline = outline_one g bytes o q h.outlined k.outlined

  grammars : AreGrammars g q.productions a b
  grammars = subst (λ (x : ExtensionOutlineData). AreGrammars g x.productions a b) readable_outline
      h.grammars

  pub readable_grammar : a ≡ c
  readable_grammar = grammar_one g q.productions a b c d grammars k.grammars

  pub readable_rules : b ≡ d
  readable_rules = rule_grammar_one g q.productions a b c d grammars k.grammars

  stems : r.stems ≡ s.stems
  stems =
      stems_one c.parts q.vars r.stems s.stems
      (subst (λ (x : GrammarData). AreStems x.parts q.vars r.stems) readable_grammar
      (subst (λ (x : ExtensionOutlineData). AreStems a.parts x.vars r.stems) readable_outline
      h.stems)) k.stems

  pub reader_one : r ≡ s
  reader_one =
      let parts = h.read_by ∙ ap (λ (x : GrammarData). x.parts) readable_rules ∙ sym k.read_by in
      let forms = h.forms ∙ sym k.forms in
      λ i. record { parts = parts i; stems = stems i; forms = forms i }

-- ---- texts

module _ (p : Parts) (is : IsGrammar p) (r : Reader) (o : ExtensionOutlineData) where
  pub texts_one : (x y : Texts) → AreTextsRead p r o x → AreTextsRead p r o y → x ≡ y
  texts_one x y h k =
      let plains = plains_one p is (tables r) o.plains x.plains y.plains h.plains k.plains in
      let rules = rules_one r o.rules x.names y.names x.rules y.rules x.bodies y.bodies h.rules
      k.rules in
      λ i. record { plains = plains i; rules = rules.1 i; names = rules.0 i; bodies = rules.2 i }

  pub bad_text_one : (e d : NotationError) → e ≢ Memory → d ≢ Memory → IsBadText p r o e →
      IsBadText p r o d → Alike (TextsHaveThree p r o) e d
  bad_text_one e d n m (inl h) (inl k) =
      alike_so (PlainsHaveThree p (tables r) o.plains) (TextsHaveThree p r o)
      (λ number three. inl three) e d (first_bad_plain_one p is (tables r) o.plains e d n m h k)
  bad_text_one e d n m (inl h) (inr k) = absurd
      (plains_or_bad p is (tables r) o.plains k.0 e n k.1 h)
  bad_text_one e d n m (inr h) (inl k) = absurd
      (plains_or_bad p is (tables r) o.plains h.0 d m h.1 k)
  bad_text_one e d n m (inr h) (inr k) =
      alike_so (RulesHaveThree r o.rules) (TextsHaveThree p r o) (λ number three. inr three) e d
      (first_bad_one r o.rules e d n m h.2 k.2)

  pub texts_or_bad : (x : Texts) (e : NotationError) → e ≢ Memory → AreTextsRead p r o x →
      IsBadText p r o e → ⊥
  texts_or_bad x e n h (inl k) = plains_or_bad p is (tables r) o.plains x.plains e n h.plains k
  texts_or_bad x e n h (inr k) = rules_or_bad r o.rules x.names x.rules x.bodies e n h.rules k.2
