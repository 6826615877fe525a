-- A text states one language, or has one refusal, but for the two readings that it may show where a line has more.
use Rattle.std.proofs.Common.{◌≡◌, ◌≢◌, List, ◌⊎◌, inl, inr, length, map, refl, ap, ◌∙◌, sym, subst}
use Rattle.std.specs.Prelude.{Option, None, Ok, Err}
use Rattle.sx_term.specs.Tree.{Tree}
use Rattle.sx_term.specs.Sorts.{Shape}
use Rattle.sx_grammar.specs.declared.grammar_error.GrammarError.{GrammarError}
use Rattle.sx_grammar.specs.Grammar.{Text}
use Rattle.sx_grammar.specs.Parts.{Parts, parts}
use Rattle.sx_grammar.specs.Tables.{GrammarData}
use Rattle.sx_grammar.specs.Made.{IsGrammar}
use Rattle.sx_grammar.specs.Told.{shapes_of}
use Rattle.sx_rules.specs.declared.error.RuleError.{RuleError}
use Rattle.sx_rules.specs.declared.error.RuleError.TheVariants as rules
use Rattle.sx_rules.specs.Views.{FormData, NamedRule}
use Rattle.sx_rules.specs.Sets.{forms_in, rules_in}
use Rattle.sx_rules.specs.Good.{IsRuleSetRefused as IsNoRuleSet}
use Rattle.sx_rules.proofs.Refusals.{one_refusal, not_refused}
use Rattle.sx_outline.specs.declared.outline.Outline.{Outline}
use Rattle.sx_outline.specs.declared.outline_error.OutlineError.{OutlineError}
use Rattle.sx_outline.specs.declared.outline_error.OutlineError.TheVariants as outlines
use Rattle.sx_outline.specs.Stages.{RuleData, rule_data}
use Rattle.sx_outline.specs.Outlined.{OutlineData, outline, IsOutlined}
use Rattle.sx_notation.specs.declared.language.Language.{Language}
use Rattle.sx_notation.specs.declared.notation_error.NotationError.{NotationError}
use Rattle.sx_notation.specs.declared.notation_error.NotationError.TheVariants.{Memory, NotUtf8}
use Rattle.sx_notation.specs.declared.notation_error.NotationError.TheVariants.{Notation, Token}
use Rattle.sx_notation.specs.declared.notation_error.NotationError.TheVariants.{Grammar, Read}
use Rattle.sx_notation.specs.declared.notation_error.NotationError.TheVariants.{Rules}
use Rattle.sx_notation.specs.RuleParts.{rule_parts}
use Rattle.sx_language.specs.Alike.{RulesHaveThree, LanguageHasThree}
use Rattle.sx_language.specs.RuleLine.{Reader}
use Rattle.sx_language.specs.RuleTexts.{AreBareRules, IsFirstBadRule}
use Rattle.sx_language.specs.States.{IsReadable, forms_of, IsLanguageIn, IsNoGrammar, HasNoGrammar}
use Rattle.sx_language.specs.States.{HasBadRule, name_unbound, IsNoRules, HasNoRuleSet}
use Rattle.sx_language.specs.States.{IsLanguageTextRefused}
use Rattle.sx_language.specs.Laws.{SameLanguage, OneLanguage}
use Rattle.sx_language.proofs.Stepwise.{AreAlike, Step, step_alike, step_none}
use Rattle.sx_language.proofs.OneGrammar.{no_grammar_one, grammar_or_not}
use Rattle.sx_language.proofs.OneLine.{Alike, alike_so}
use Rattle.sx_language.proofs.OneRules.{rules_one, first_bad_one, rules_or_bad}
use Rattle.sx_language.proofs.OneOutline.{outline_one, defect_one, outline_or_defect, parts_same, rule_parts_same, forms_same, reader_one}

-- ---- rules

abbrev no_bodies : Outline → List (Option Tree)
no_bodies o = map (λ l. None) (map rule_data o.rules.items)

-- the same of rules without bodies
bare_one : (r : Reader) (ls : List RuleData) (ns ms : List (List Text)) (qs ws : List NamedRule) → AreBareRules r ls ns qs → AreBareRules r ls ms ws → (ns ≡ ms) × (qs ≡ ws)
bare_one r ls ns ms qs ws h k = let same = rules_one r ls ns ms qs ws (map (λ l. None) ls) (map (λ l. None) ls) h k in (same.0, same.1)

-- the refusal of rules, which is not out of memory
no_rules : (o : Outline) (qs : List NamedRule) (e : RuleError) → IsNoRules o qs e → IsNoRuleSet (shapes_of (parts o.parts)) (forms_of o) qs e × (e ≢ rules.Memory)
no_rules o qs rules.Memory h = absurd h
no_rules o qs rules.TooManyRules h = (h, λ e. cc)
no_rules o qs (rules.TooManyVars name) h = (h, λ e. cc)
no_rules o qs (rules.SameRule name) h = (h, λ e. cc)
no_rules o qs (rules.SortDiffers name) h = (h, λ e. cc)
no_rules o qs (rules.Discipline name part premise) h = (h, λ e. cc)
no_rules o qs (rules.NotModed name variable) h = (h, λ e. cc)

module _ (o q : Outline) (same : outline o ≡ outline q) where
  shapes_same : shapes_of (parts o.parts) ≡ shapes_of (parts q.parts)
  shapes_same = ap shapes_of (parts_same o q same)

  refuses_there : (qs : List NamedRule) (e : RuleError) → IsNoRuleSet (shapes_of (parts o.parts)) (forms_of o) qs e → IsNoRuleSet (shapes_of (parts q.parts)) (forms_of q) qs e
  refuses_there qs e h =
      subst (λ (forms : List FormData). IsNoRuleSet (shapes_of (parts q.parts)) forms qs e) (forms_same o q same)
      (subst (λ (shapes : List Shape). IsNoRuleSet shapes (forms_of o) qs e) shapes_same h)

module _ (name bytes : Text) where
  -- ---- the refusals in order

  -- the refusal of lines that state no outline
  abbrev told : OutlineError → NotationError
  told outlines.Memory = Memory
  told (outlines.NotUtf8 place) = NotUtf8 place
  told (outlines.Notation line kind) = Notation line kind

  abbrev ByLines : NotationError → Type 0
  ByLines e = (x : OutlineError) × (x ≢ outlines.Memory) × IsOutlined name bytes (Err x) × (e ≡ told x)

  abbrev ByGrammars : NotationError → Type 0
  ByGrammars e = (x : GrammarError) × (e ≡ Grammar x) × HasNoGrammar name bytes x

  abbrev ByRuleLines : NotationError → Type 0
  ByRuleLines e = (e ≢ Memory) × HasBadRule name bytes e

  abbrev ByRules : NotationError → Type 0
  ByRules e = (x : RuleError) × (unbound : Option Text) × (e ≡ Rules x unbound) × HasNoRuleSet name bytes x unbound

  -- what holds where none of the earlier is due
  abbrev HasOutline : Type 0
  HasOutline = (o : Outline) × IsOutlined name bytes (Ok o)

  abbrev HasReader : Type 0
  HasReader = (o : Outline) × (r : Reader) × IsReadable name bytes o r

  abbrev HasRules : Type 0
  HasRules = (o : Outline) × (r : Reader) × (names : List (List Text)) × (qs : List NamedRule) × IsReadable name bytes o r × AreBareRules r (map rule_data o.rules.items) names qs

  abbrev ByReader : NotationError → Type 0
  ByReader = Step ByRuleLines HasRules ByRules

  abbrev ByOutline : NotationError → Type 0
  ByOutline = Step ByGrammars HasReader ByReader

  abbrev IsDue : NotationError → Type 0
  IsDue = Step ByLines HasOutline ByOutline

  -- ---- each refusal is due in one of these ways

  by_lines : (x : OutlineError) → (x ≢ outlines.Memory) → IsOutlined name bytes (Err x) → IsDue (told x)
  by_lines x n h = inl (x, n, h, refl)

  by_rule_lines : (e : NotationError) → e ≢ Memory → HasBadRule name bytes e → IsDue e
  by_rule_lines e n h = inr ((h.0, h.2.outlined), inr ((h.0, h.1, h.2), inl (n, h)))

  due : (e : NotationError) → e ≢ Memory → IsLanguageTextRefused name bytes e → IsDue e
  due Memory n h = absurd (n refl)
  due (NotUtf8 place) n h = by_lines (outlines.NotUtf8 place) (λ e. cc) h
  due (Notation line kind) n (inl h) = by_lines (outlines.Notation line kind) (λ e. cc) h
  due (Notation line kind) n (inr h) = by_rule_lines (Notation line kind) n h
  due (Token line x) n h = by_rule_lines (Token line x) n h
  due (Grammar x) n h = inr ((h.0, h.1), inl (x, refl, h))
  due (Read line x) n h = by_rule_lines (Read line x) n h
  due (Rules x unbound) n h =
      inr ((h.outline, h.readable.outlined), inr ((h.outline, h.reader, h.readable), inr ((h.outline, h.reader, h.names, h.rules, h.readable, h.read), (x, unbound, refl, h))))

  -- ---- and none of them where more is stated

  not_lines : (e : NotationError) → ByLines e → HasOutline → ⊥
  not_lines e h o = outline_or_defect name bytes o.0 h.0 h.1 o.1 h.2

  -- the grammars of an outline
  abbrev NoGrammars : Parts → Parts → GrammarError → Type 0
  NoGrammars whole of_rules x = IsNoGrammar whole x ⊎ (IsGrammar whole × IsNoGrammar of_rules x)

  there : (o q : Outline) → outline o ≡ outline q → (x : GrammarError) → NoGrammars (parts o.parts) (rule_parts (parts o.parts) o.forms.items) x →
      NoGrammars (parts q.parts) (rule_parts (parts q.parts) q.forms.items) x
  there o q same x h =
      subst (λ (p : Parts). NoGrammars p (rule_parts (parts q.parts) q.forms.items) x) (parts_same o q same)
      (subst (λ (p : Parts). NoGrammars (parts o.parts) p x) (rule_parts_same o q same) h)

  grammars_or_not : (whole of_rules : Parts) (x : GrammarError) → IsGrammar whole → IsGrammar of_rules → NoGrammars whole of_rules x → ⊥
  grammars_or_not whole of_rules x is are (inl h) = grammar_or_not whole is x h
  grammars_or_not whole of_rules x is are (inr h) = grammar_or_not of_rules are x h.1

  grammars_one : (whole of_rules : Parts) (x y : GrammarError) → NoGrammars whole of_rules x → NoGrammars whole of_rules y → x ≡ y
  grammars_one whole of_rules x y (inl h) (inl k) = no_grammar_one whole x y h k
  grammars_one whole of_rules x y (inl h) (inr k) = absurd (grammar_or_not whole k.0 x h)
  grammars_one whole of_rules x y (inr h) (inl k) = absurd (grammar_or_not whole h.0 y k)
  grammars_one whole of_rules x y (inr h) (inr k) = no_grammar_one of_rules x y h.1 k.1

  not_grammars : (e : NotationError) → ByGrammars e → HasReader → ⊥
  not_grammars e h k =
      let is = k.2 in
      let no = h.2 in
      grammars_or_not (parts k.0.parts) (rule_parts (parts k.0.parts) k.0.forms.items) h.0 is.grammar is.rule_grammar (there no.0 k.0 (outline_one name bytes no.0 k.0 no.1 is.outlined) h.0 no.2)

  -- the lines of the rules are those of one outline
  rules_there : (o q : Outline) → IsOutlined name bytes (Ok o) → IsOutlined name bytes (Ok q) → map rule_data o.rules.items ≡ map rule_data q.rules.items
  rules_there o q h k = ap (λ (d : OutlineData). d.rules) (outline_one name bytes o q h k)

  bad_there : (o q : Outline) (r s : Reader) (e : NotationError) → IsReadable name bytes o r → IsReadable name bytes q s → IsFirstBadRule r (map rule_data o.rules.items) e →
      IsFirstBadRule s (map rule_data q.rules.items) e
  bad_there o q r s e h k bad =
      subst (λ (t : Reader). IsFirstBadRule t (map rule_data q.rules.items) e) (reader_one name bytes o q r s h k)
      (subst (λ (ls : List RuleData). IsFirstBadRule r ls e) (rules_there o q h.outlined k.outlined) bad)

  are_there : (o q : Outline) (r s : Reader) (names : List (List Text)) (qs : List NamedRule) → IsReadable name bytes o r → IsReadable name bytes q s →
      AreBareRules r (map rule_data o.rules.items) names qs → AreBareRules s (map rule_data q.rules.items) names qs
  are_there o q r s names qs h k are =
      subst (λ (t : Reader). AreBareRules t (map rule_data q.rules.items) names qs) (reader_one name bytes o q r s h k)
      (subst (λ (ls : List RuleData). AreBareRules r ls names qs) (rules_there o q h.outlined k.outlined) are)

  not_rule_lines : (e : NotationError) → ByRuleLines e → HasRules → ⊥
  not_rule_lines e h k =
      let bad = h.1 in
      rules_or_bad k.1 (map rule_data k.0.rules.items) k.2 k.3 (no_bodies k.0) e h.0 k.5 (bad_there bad.0 k.0 bad.1 k.1 e bad.2 k.4 bad.3)

  -- ---- each is one

  abbrev Same : NotationError → NotationError → Type 0
  Same = Alike (LanguageHasThree name bytes)

  lines_one : AreAlike Same ByLines
  lines_one e d h k = inl (h.3 ∙ ap told (defect_one name bytes h.0 k.0 h.1 k.1 h.2 k.2) ∙ sym k.3)

  grammars_alike : AreAlike Same ByGrammars
  grammars_alike e d h k =
      let a = h.2 in
      let b = k.2 in
      let here = there a.0 b.0 (outline_one name bytes a.0 b.0 a.1 b.1) h.0 a.2 in
      inl (h.1 ∙ ap Grammar (grammars_one (parts b.0.parts) (rule_parts (parts b.0.parts) b.0.forms.items) h.0 k.0 here b.2) ∙ sym k.1)

  rule_lines_one : AreAlike Same ByRuleLines
  rule_lines_one e d h k =
      let a = h.1 in
      let b = k.1 in
      let lines = map rule_data b.0.rules.items in
      alike_so (RulesHaveThree b.1 lines) (LanguageHasThree name bytes) (λ number three. record { outline = b.0; reader = b.1; readable = b.2; three = three }) e d
      (first_bad_one b.1 lines e d h.0 k.0 (bad_there a.0 b.0 a.1 b.1 e a.2 b.2 a.3) b.3)

  rules_alike : AreAlike Same ByRules
  rules_alike e d h k = inl (h.2 ∙ (λ i. Rules (why i) (unbound i)) ∙ sym k.2)
    where
      a : HasNoRuleSet name bytes h.0 h.1
      a = h.3

      b : HasNoRuleSet name bytes k.0 k.1
      b = k.3

      stated : (a.names ≡ b.names) × (a.rules ≡ b.rules)
      stated =
          bare_one b.reader (map rule_data b.outline.rules.items) a.names b.names a.rules b.rules
          (are_there a.outline b.outline a.reader b.reader a.names a.rules a.readable b.readable a.read) b.read

      here : IsNoRuleSet (shapes_of (parts b.outline.parts)) (forms_of b.outline) b.rules h.0
      here =
          subst (λ (qs : List NamedRule). IsNoRuleSet (shapes_of (parts b.outline.parts)) (forms_of b.outline) qs h.0) stated.1
          (refuses_there a.outline b.outline (outline_one name bytes a.outline b.outline a.readable.outlined b.readable.outlined) a.rules h.0 (no_rules a.outline a.rules h.0 a.refused).0)

      why : h.0 ≡ k.0
      why =
          let other = no_rules b.outline b.rules k.0 b.refused in
          one_refusal (shapes_of (parts b.outline.parts)) (forms_of b.outline) b.rules h.0 k.0 here other.0 (no_rules a.outline a.rules h.0 a.refused).1 other.1

      unbound : h.1 ≡ k.1
      unbound = a.named ∙ (λ i. name_unbound (map (λ q. q.name) (stated.1 i)) (stated.0 i) (why i)) ∙ sym b.named

  due_one : AreAlike Same IsDue
  due_one =
      step_alike ByLines HasOutline ByOutline not_lines Same lines_one
      (step_alike ByGrammars HasReader ByReader not_grammars Same grammars_alike (step_alike ByRuleLines HasRules ByRules not_rule_lines Same rule_lines_one rules_alike))

  -- ---- languages

  module _ (l : Language) (s : IsLanguageIn name bytes l) where
    no_rules_due : (e : NotationError) → ByRules e → ⊥
    no_rules_due e h = no.1 (not_refused (shapes_of (parts s.outline.parts)) (forms_of s.outline) (rules_in l.rules) h.0 s.rule_set here)
      where
        a : HasNoRuleSet name bytes h.0 h.1
        a = h.3

        no : IsNoRuleSet (shapes_of (parts a.outline.parts)) (forms_of a.outline) a.rules h.0 × (h.0 ≢ rules.Memory)
        no = no_rules a.outline a.rules h.0 a.refused

        stated : (a.names ≡ l.names.items) × (a.rules ≡ rules_in l.rules)
        stated =
            bare_one s.reader (map rule_data s.outline.rules.items) a.names l.names.items a.rules (rules_in l.rules)
            (are_there a.outline s.outline a.reader s.reader a.names a.rules a.readable s.readable a.read) s.rules

        here : IsNoRuleSet (shapes_of (parts s.outline.parts)) (forms_of s.outline) (rules_in l.rules) h.0
        here =
            subst (λ (qs : List NamedRule). IsNoRuleSet (shapes_of (parts s.outline.parts)) (forms_of s.outline) qs h.0) stated.1
            (refuses_there a.outline s.outline (outline_one name bytes a.outline s.outline a.readable.outlined s.readable.outlined) a.rules h.0 no.0)

    none_due : (e : NotationError) → IsDue e → ⊥
    none_due =
        step_none ByLines HasOutline ByOutline not_lines (s.outline, s.readable.outlined)
        (step_none ByGrammars HasReader ByReader not_grammars (s.outline, s.reader, s.readable)
        (step_none ByRuleLines HasRules ByRules not_rule_lines (s.outline, s.reader, l.names.items, rules_in l.rules, s.readable, s.rules) no_rules_due))

  -- the grammar of these parts, all of whose productions are base
  abbrev whole_of : Parts → GrammarData
  whole_of p = record { parts = p; base = length p.productions }

  found : (l k : Language) → IsLanguageIn name bytes l → IsLanguageIn name bytes k → SameLanguage l k
  found l k s t = record {
    content = λ i. record { parts = (grammar i).parts; rule_parts = (rule_grammar i).parts; forms = forms i; rules = stated.1 i; main = main i };
    name = s.named ∙ sym t.named;
    grammar = grammar;
    rule_grammar = rule_grammar;
    stems = s.metas ∙ ap (λ (r : Reader). r.stems) read_by ∙ sym t.metas;
    shapes = s.shapes ∙ shapes_same s.outline t.outline same ∙ sym t.shapes;
    names = stated.0;
  }
    where
      same : outline s.outline ≡ outline t.outline
      same = outline_one name bytes s.outline t.outline s.readable.outlined t.readable.outlined

      read_by : s.reader ≡ t.reader
      read_by = reader_one name bytes s.outline t.outline s.reader t.reader s.readable t.readable

      grammar : l.grammar ≡ k.grammar
      grammar = s.grammar ∙ ap whole_of (parts_same s.outline t.outline same) ∙ sym t.grammar

      rule_grammar : l.rule_grammar ≡ k.rule_grammar
      rule_grammar = s.rule_grammar ∙ ap (λ (r : Reader). whole_of r.parts) read_by ∙ sym t.rule_grammar

      forms : forms_in l.rules ≡ forms_in k.rules
      forms = s.forms ∙ forms_same s.outline t.outline same ∙ sym t.forms

      stated : (l.names.items ≡ k.names.items) × (rules_in l.rules ≡ rules_in k.rules)
      stated =
          bare_one t.reader (map rule_data t.outline.rules.items) l.names.items k.names.items (rules_in l.rules) (rules_in k.rules)
          (are_there s.outline t.outline s.reader t.reader l.names.items (rules_in l.rules) s.readable t.readable s.rules) t.rules

      main : l.main ≡ k.main
      main = s.main ∙ ap (λ (d : OutlineData). d.main) same ∙ sym t.main

  -- memory is lacking, or the refusal is due
  memory_or_due : (e : NotationError) → IsLanguageTextRefused name bytes e → (e ≡ Memory) ⊎ IsDue e
  memory_or_due Memory h = inl refl
  memory_or_due (NotUtf8 place) h = inr (due (NotUtf8 place) (λ e. cc) h)
  memory_or_due (Notation line kind) h = inr (due (Notation line kind) (λ e. cc) h)
  memory_or_due (Token line x) h = inr (due (Token line x) (λ e. cc) h)
  memory_or_due (Grammar x) h = inr (due (Grammar x) (λ e. cc) h)
  memory_or_due (Read line x) h = inr (due (Read line x) (λ e. cc) h)
  memory_or_due (Rules x unbound) h = inr (due (Rules x unbound) (λ e. cc) h)

  memory_alone : (l : Language) (e : NotationError) → IsLanguageIn name bytes l → (e ≡ Memory) ⊎ IsDue e → e ≡ Memory
  memory_alone l e s (inl h) = h
  memory_alone l e s (inr h) = absurd (none_due l s e h)

pub one_language : OneLanguage
one_language = record {
  found = found;
  either = λ name bytes l e s h. memory_alone name bytes l e s (memory_or_due name bytes e h);
  refused = λ name bytes e d h k n m. due_one name bytes e d (due name bytes e n h) (due name bytes d m k);
}
