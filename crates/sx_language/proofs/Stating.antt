-- From an outline to a language, step by step.
use Rattle.std.proofs.Common.{◌≡◌, ℕ, ◌+◌, ◌<◌, ◌≤◌, inl, inr, List, [], ◌∷◌, ◌++◌, length, take, get_or, map, zero, suc, Option, Some, None, slice_get, Ok, Err, refl, ap, ◌∙◌, sym, subst, add-one, arith, Vec}
use Rattle.std.specs.Prelude.{flat_map, IfSome, MatchOption}
use Rattle.std.specs.declared.alloc.Global.{Global}
use Rattle.std.specs.List.{AllByRecursion}
use Rattle.std.proofs.lemmas.List.{length-map}
use Rattle.sx_term.specs.declared.sort.Sort.{Sort}
use Rattle.sx_grammar.specs.declared.grammar_error.GrammarError.{GrammarError}
use Rattle.sx_grammar.specs.declared.grammar_error.GrammarError.TheVariants as grammar
use Rattle.sx_grammar.specs.Grammar.{Text}
use Rattle.sx_grammar.specs.Parts.{Parts, names, literals, parts}
use Rattle.sx_grammar.specs.Made.{IsGrammar, IsGrammarRefused as IsNotMade}
use Rattle.sx_grammar.specs.Tables.{GrammarData, literals_of}
use Rattle.sx_grammar.specs.Told.{sort_with, shapes_of}
use Rattle.sx_grammar.proofs.Finding.{at_contains}
use Rattle.sx_earley.specs.Tokens.{Stems}
use Rattle.sx_rules.specs.declared.rule_set.RuleSet.{RuleSet}
use Rattle.sx_rules.specs.declared.error.RuleError.{RuleError}
use Rattle.sx_rules.specs.declared.error.RuleError.TheVariants as rules
use Rattle.sx_rules.specs.declared.rule.Rule.{Rule}
use Rattle.sx_rules.specs.declared.rule.Form.{Form}
use Rattle.sx_rules.specs.Deep.{RulesAreShallow}
use Rattle.sx_rules.specs.Views.{NamedRule, forms, named, rule}
use Rattle.sx_rules.specs.Sets.{shapes_in, forms_in, rules_in}
use Rattle.sx_rules.specs.Good.{IsRuleSet}
use Rattle.sx_rules.specs.Made.{IsRuleSetMade}
use Rattle.sx_directives.specs.Spelling.{NotLexical}
use Rattle.sx_directives.specs.declared.rows.VarLine.{VarLine}
use Rattle.sx_directives.specs.declared.rows.FormLine.{FormLine}
use Rattle.sx_outline.specs.declared.outline.Outline.{Outline}
use Rattle.sx_outline.specs.declared.rule_lines.RuleLines.{RuleLines}
use Rattle.sx_outline.specs.Declarations.{declared_form}
use Rattle.sx_outline.specs.Stages.{Numbered, RuleData, rule_data}
use Rattle.sx_outline.specs.Outlined.{IsOutlined, outline, declared_by}
use Rattle.sx_outline.specs.Sized.{HasShortLines, IsSized, IsFitOutline}
use Rattle.sx_notation.specs.declared.language.Language.{Language}
use Rattle.sx_notation.specs.declared.notation_error.NotationError.{NotationError}
use Rattle.sx_notation.specs.declared.notation_error.NotationError.TheVariants.{Memory, NotUtf8}
use Rattle.sx_notation.specs.declared.notation_error.NotationError.TheVariants.{Notation, Token}
use Rattle.sx_notation.specs.declared.notation_error.NotationError.TheVariants.{Grammar, Read}
use Rattle.sx_notation.specs.declared.notation_error.NotationError.TheVariants.{Rules}
use Rattle.sx_notation.specs.ReadText.{IsTextRefused as IsUnreadText}
use Rattle.sx_notation.specs.RuleParts.{rule_parts}
use Rattle.sx_notation.specs.RuleLaws.{HaveSortsOf, form_of}
use Rattle.sx_notation.specs.Language.{FormFits, RuleHasLexemes, IsMain, IsLanguage}
use Rattle.sx_notation.proofs.Numbers.{number_is}
use Rattle.sx_language.specs.declared.preparing.Prepared.{Prepared}
use Rattle.sx_language.specs.RuleLine.{Reader, judgements, subject_sort, IsBadRuleLine}
use Rattle.sx_notation.specs.Refusals.{IsGrammarRefusal}
use Rattle.sx_language.specs.RuleTexts.{AreBareRules, IsBadPremise, IsBadConclusion, IsBadBody}
use Rattle.sx_language.specs.RuleTexts.{IsBadEnd, IsBadRule, IsFirstBadRule, OrMemory}
use Rattle.sx_language.specs.States.{IsNameOfSort, IsSortNamed, AreStems, IsLanguageIn, IsNoRules}
use Rattle.sx_language.specs.States.{HasBadRule, HasNoRuleSet, IsLanguageTextRefused, forms_of}
use Rattle.sx_language.specs.States.{name_unbound}
use Rattle.sx_language.specs.Prepared.{whole, reader_in, IsPreparedLanguage, IsUsableOutline}
use Rattle.sx_language.specs.Prepared.{IsReason, IsRuleRefusal, IsNoGrammars}
use Rattle.sx_language.proofs.Judgements.{can_read}
use Rattle.sx_language.proofs.KnownForms.{within_limits, rule_limits, have_sorts}
use Rattle.sx_language.proofs.UsableRules.{rules_shallow, rules_lexical, rule_names}
use Rattle.sx_language.proofs.MainForms.{is_main}
use Rattle.sx_language.proofs.FitForms.{forms_fit, subjects_read}

-- ---- stems

pub sort_is_named : (p : Parts) (name bytes : Text) (n : ℕ) (s : Sort) → IsGrammar p → NotLexical bytes → bytes ≡ name → slice_get (names p) n ≡ Some name → s ≡ sort_with p.sorts n → IsSortNamed p name s
sort_is_named p name bytes n s is other same at e =
    inr (subst NotLexical same other, at_contains (names p) n name at, e ∙ ap (sort_with p.sorts) (sym (number_is p name n is at)))

pub are_append : (p : Parts) (vs : List VarLine) (ss : Stems) (v : VarLine) (s : Text × Sort) → AreStems p vs ss → s.0 ≡ v.stem → IsSortNamed p v.sort s.1 → AreStems p (vs ++ v ∷ []) (ss ++ s ∷ [])
are_append p [] [] v s h same sort = (same, sort, tt)
are_append p [] (t ∷ ss) v s h same sort = absurd h
are_append p (w ∷ vs) [] v s h same sort = absurd h
are_append p (w ∷ vs) (t ∷ ss) v s h same sort = (h.0, h.1, are_append p vs ss v s h.2 same sort)

pub take_next : {X : Type 0} (xs : List X) (i : ℕ) (x : X) → i < length xs → x ≡ get_or xs i x → take (suc i) xs ≡ take i xs ++ x ∷ []
take_next [] i x low is = absurd (omega (arith, low))
take_next (y ∷ ys) zero x low is = ap (λ z. z ∷ []) (sym is)
take_next (y ∷ ys) (suc i) x low is = ap (λ z. y ∷ z) (take_next ys i x (omega (arith, low)) is)

pub stems_more : (p : Parts) (vs : List VarLine) (i : ℕ) (v : VarLine) (ss new : Stems) (s : Text × Sort) → i < length vs → v ≡ get_or vs i v → AreStems p (take i vs) ss → s.0 ≡ v.stem → IsSortNamed p v.sort s.1
    → new ≡ ss ++ s ∷ [] → AreStems p (take (i + 1) vs) new
stems_more p vs i v ss new s low is are same sort grown =
    subst (λ x. AreStems p x new) (sym (ap (λ n. take n vs) (add-one i) ∙ take_next vs i v low is)) (subst (AreStems p (take i vs ++ v ∷ [])) (sym grown) (are_append p (take i vs) ss v s are same sort))

-- ---- grammars

pub base_refused : (p : Parts) (fs : List FormLine) (e : GrammarError) (x : NotationError) → IsNotMade p e → IsGrammarRefusal e x → IsNoGrammars p fs x
base_refused p fs grammar.Memory x h same = subst (IsNoGrammars p fs) (sym same) tt
base_refused p fs (grammar.BadLiteral t) x h same = subst (IsNoGrammars p fs) (sym same) (inl h)
base_refused p fs (grammar.SameSort t) x h same = subst (IsNoGrammars p fs) (sym same) (inl h)
base_refused p fs (grammar.UnknownSort t) x h same = subst (IsNoGrammars p fs) (sym same) (inl h)
base_refused p fs (grammar.SameLabel t) x h same = subst (IsNoGrammars p fs) (sym same) (inl h)
base_refused p fs (grammar.PlainHasTyped t) x h same = subst (IsNoGrammars p fs) (sym same) (inl h)
base_refused p fs (grammar.NoBrackets t) x h same = subst (IsNoGrammars p fs) (sym same) (inl h)
base_refused p fs (grammar.Cyclic t) x h same = subst (IsNoGrammars p fs) (sym same) (inl h)

after_base : (p : Parts) (fs : List FormLine) (e : GrammarError) (x : NotationError) → IsGrammar p → IsNotMade (rule_parts p fs) e → IsGrammarRefusal e x → IsNoGrammars p fs x
after_base p fs grammar.Memory x is h same = subst (IsNoGrammars p fs) (sym same) tt
after_base p fs (grammar.BadLiteral t) x is h same = subst (IsNoGrammars p fs) (sym same) (inr (is, h))
after_base p fs (grammar.SameSort t) x is h same = subst (IsNoGrammars p fs) (sym same) (inr (is, h))
after_base p fs (grammar.UnknownSort t) x is h same = subst (IsNoGrammars p fs) (sym same) (inr (is, h))
after_base p fs (grammar.SameLabel t) x is h same = subst (IsNoGrammars p fs) (sym same) (inr (is, h))
after_base p fs (grammar.PlainHasTyped t) x is h same = subst (IsNoGrammars p fs) (sym same) (inr (is, h))
after_base p fs (grammar.NoBrackets t) x is h same = subst (IsNoGrammars p fs) (sym same) (inr (is, h))
after_base p fs (grammar.Cyclic t) x is h same = subst (IsNoGrammars p fs) (sym same) (inr (is, h))

pub rule_refused : (p : Parts) (b : GrammarData) (fs : List FormLine) (e : GrammarError) (x : NotationError) → b ≡ whole p → IsGrammar p → IsNotMade (rule_parts b.parts fs) e → IsGrammarRefusal e x → IsNoGrammars p fs x
rule_refused p b fs e x base is h same = after_base p fs e x is (subst (λ y. IsNotMade (rule_parts y.parts fs) e) base h) same

pub rule_made : (p : Parts) (b : GrammarData) (fs : List FormLine) (g : GrammarData) → b ≡ whole p → (g ≡ whole (rule_parts b.parts fs)) × IsGrammar (rule_parts b.parts fs)
    → (g ≡ whole (rule_parts p fs)) × IsGrammar (rule_parts p fs)
rule_made p b fs g base h = subst (λ y. (g ≡ whole (rule_parts y.parts fs)) × IsGrammar (rule_parts y.parts fs)) base h

-- the refusal of parts is that of the text
pub grammar_refused : (name bytes : Text) (o : Outline) (x : NotationError) → IsOutlined name bytes (Ok o) → IsNoGrammars (parts o.parts) o.forms.items x → IsLanguageTextRefused name bytes x
grammar_refused name bytes o Memory outlined h = tt
grammar_refused name bytes o (NotUtf8 place) outlined h = absurd h
grammar_refused name bytes o (Notation l k) outlined h = absurd h
grammar_refused name bytes o (Token l e) outlined h = absurd h
grammar_refused name bytes o (Grammar e) outlined h = (o, outlined, h)
grammar_refused name bytes o (Read l e) outlined h = absurd h
grammar_refused name bytes o (Rules e v) outlined h = absurd h

-- ---- outlines

short_line : (size : ℕ) (l : List Numbered) → size ≤ 262144 → AllByRecursion (λ x. length x.text ≤ size) l → AllByRecursion (λ x. length x.text ≤ 262144) l
short_line size [] low h = tt
short_line size (x ∷ xs) low h = (omega (arith, low, h.0), short_line size xs low h.1)

short_body : (size : ℕ) (body : Option Numbered) → size ≤ 262144 → IfSome body (λ l. length l.text ≤ size) → IfSome body (λ l. length l.text ≤ 262144)
short_body size None low h = tt
short_body size (Some l) low h = omega (arith, low, h)

short_rules : (size : ℕ) (ls : List RuleLines) → size ≤ 262144 → AllByRecursion (HasShortLines size) (map rule_data ls) → AllByRecursion (λ l. HasShortLines 262144 (rule_data l)) ls
short_rules size [] low h = tt
short_rules size (l ∷ ls) low h = ((omega (arith, low, h.0.0), short_line size (rule_data l).premises low h.0.1, omega (arith, low, h.0.2), short_body size (rule_data l).body low h.0.3), short_rules size ls low h.1)

pub usable : (name bytes : Text) (o : Outline) → length bytes ≤ 262144 → IsOutlined name bytes (Ok o) → IsSized (length bytes) (outline o) → IsFitOutline (outline o) → IsUsableOutline name bytes o
usable name bytes o low outlined sized fit = record {
  outlined = outlined;
  fit = fit;
  limits = within_limits (parts o.parts) o.forms.items (length bytes) low few sized.levels sized.asked;
  rule_limits = rule_limits (parts o.parts) o.forms.items (length bytes) low few sized.levels sized.asked;
  short = short_rules (length bytes) o.rules.items low sized.lines;
}
  where
    few : length (parts o.parts).sorts + length (parts o.parts).productions + length o.forms.items + (length (literals (parts o.parts)) + length (flat_map (λ f. f.symbols) (map declared_form o.forms.items))) ≤ length bytes
    few = omega (arith, sized.many, length-map o.forms.items declared_form)

-- ---- languages

module _ (name bytes : Text) (x : Prepared) (h : IsPreparedLanguage name bytes x) (names : List (List Text)) (qs : List NamedRule) (read : AreBareRules (reader_in x) (map rule_data x.rules.items) names qs) where
  read_here : AreBareRules (reader_in x) (map rule_data h.from.rules.items) names qs
  read_here = subst (λ l. AreBareRules (reader_in x) (map rule_data l) names qs) h.rules read

  shapes_same : shapes_of x.grammar.parts ≡ shapes_of (parts h.from.parts)
  shapes_same = ap (λ g. shapes_of g.parts) h.grammar

  module _ (set : RuleSet) (made : IsRuleSetMade (shapes_of x.grammar.parts) (forms x.forms.items) qs (Ok set)) where
    read_set : AreBareRules (reader_in x) (map rule_data h.from.rules.items) names (rules_in set)
    read_set = subst (AreBareRules (reader_in x) (map rule_data h.from.rules.items) names) (sym made.2) read_here

    pub states : (l : Language) → l.name ≡ name → l.grammar ≡ x.grammar → l.rule_grammar ≡ x.rule_grammar → l.metas ≡ x.metas → l.rules ≡ set → l.names.items ≡ names → l.main ≡ x.main → IsLanguageIn name bytes l
    states l named base rule metas rules called main = record {
      outline = h.from;
      reader = reader_in x;
      readable = h.readable;
      named = named;
      grammar = base ∙ h.grammar;
      rule_grammar = rule ∙ h.rule_grammar ∙ ap (λ y. whole y.parts) (sym h.rule_grammar);
      metas = ap (λ m. m.stems.items) metas;
      shapes = ap shapes_in rules ∙ made.0 ∙ shapes_same;
      forms = ap forms_in rules ∙ made.1 ∙ h.forms;
      rules = subst (λ n. AreBareRules (reader_in x) (map rule_data h.from.rules.items) n (rules_in l.rules)) (sym called)
          (subst (λ s. AreBareRules (reader_in x) (map rule_data h.from.rules.items) names (rules_in s)) (sym rules) read_set);
      rule_set = subst (λ s. IsRuleSet (shapes_of (parts h.from.parts)) (forms_of h.from) (rules_in s)) (sym rules)
          (subst (IsRuleSet (shapes_of (parts h.from.parts)) (forms_of h.from)) (sym made.2)
          (subst (λ f. IsRuleSet (shapes_of (parts h.from.parts)) f qs) h.forms (subst (λ s. IsRuleSet s (forms x.forms.items) qs) shapes_same made.3)));
      main = main ∙ h.main;
    }

    pub fits : (l : Language) → l.grammar ≡ x.grammar → l.rule_grammar ≡ x.rule_grammar → l.rules ≡ set → l.main ≡ x.main → IsLanguage l
    fits l base rule rules main =
        let p = parts h.from.parts in
        let same : l.grammar.parts ≡ p = ap (λ g. g.parts) (base ∙ h.grammar) in
        let known : HaveSortsOf l.grammar.parts h.from.forms.items = subst (λ y. HaveSortsOf y h.from.forms.items) (sym same) h.known in
        let by : l.rule_grammar.parts ≡ rule_parts l.grammar.parts h.from.forms.items = ap (λ g. g.parts) (rule ∙ h.rule_grammar) ∙ ap (λ y. rule_parts y h.from.forms.items) (sym same) in
        let formed : forms_in l.rules ≡ map (form_of l.grammar.parts) h.from.forms.items = ap forms_in rules ∙ made.1 ∙ h.forms ∙ ap (λ y. map (form_of y) h.from.forms.items) (sym same) in
        let d = declared_by (outline h.from) h.fit.line in
        let mains : IsMain p (map (form_of p) h.from.forms.items) h.from.main = is_main p h.from.forms.items d refl refl refl h.known h.fit.places h.fit.line h.from.main h.fit.main in
        let lines = map rule_data h.from.rules.items in
        let fitted : AllByRecursion FormFits (map (form_of p) h.from.forms.items) = forms_fit p d refl h.from.forms.items h.fit.places h.fit.subjects h.known in
        let lexical : AllByRecursion (RuleHasLexemes (literals_of p)) (rules_in set) = (rules_lexical p h.from.forms.items (reader_in x) lines names (rules_in set) (map (λ l. None) lines) h.readable.read_by read_set).0 in
        record {
          lines = h.from.forms.items;
          base = ap (λ g. g.base) (base ∙ h.grammar) ∙ ap (λ y. length y.productions) (sym same);
          known = known;
          read_by = by;
          shapes = ap shapes_in rules ∙ made.0 ∙ shapes_same ∙ ap shapes_of (sym same);
          forms = formed;
          fit = subst (AllByRecursion FormFits) (sym (ap forms_in rules ∙ made.1 ∙ h.forms)) fitted;
          lexemes = subst (λ s. AllByRecursion (RuleHasLexemes (literals_of l.grammar.parts)) (rules_in s)) (sym rules) (subst (λ y. AllByRecursion (RuleHasLexemes (literals_of y)) (rules_in set)) (sym same) lexical);
          main = subst (λ m. IsMain l.grammar.parts (forms_in l.rules) m) (sym (main ∙ h.main))
              (subst (λ f. IsMain l.grammar.parts f h.from.main) (sym formed) (subst (λ y. IsMain y (map (form_of y) h.from.forms.items) h.from.main) (sym same) mains));
        }

  -- the rules are no rule set
  no_set : (e : RuleError) → IsNoRules h.from qs e → HasNoRuleSet name bytes e (name_unbound (map (λ l. l.name) x.rules.items) names e)
  no_set e refused = record {
    outline = h.from;
    reader = reader_in x;
    readable = h.readable;
    names = names;
    rules = qs;
    read = read_here;
    refused = refused;
    named = ap (λ l. name_unbound l names e) (lines_named x.rules.items ∙ sym (rule_names (reader_in x) (map rule_data x.rules.items) names qs (map (λ l. None) (map rule_data x.rules.items)) read));
  }
    where
      lines_named : (ls : List RuleLines) → map (λ l. l.name) ls ≡ map (λ l. l.name) (map rule_data ls)
      lines_named [] = refl
      lines_named (l ∷ ls) = ap (λ z. l.name ∷ z) (lines_named ls)

  refused_here : (e : RuleError) → IsRuleSetMade (shapes_of x.grammar.parts) (forms x.forms.items) qs (Err e) → IsRuleSetMade (shapes_of (parts h.from.parts)) (forms_of h.from) qs (Err e)
  refused_here e m = subst (λ f. IsRuleSetMade (shapes_of (parts h.from.parts)) f qs (Err e)) h.forms (subst (λ s. IsRuleSetMade s (forms x.forms.items) qs (Err e)) shapes_same m)

  reason : (e : RuleError) → IsReason e → IsRuleSetMade (shapes_of (parts h.from.parts)) (forms_of h.from) qs (Err e) → IsNoRules h.from qs e
  reason rules.Memory r m = absurd r
  reason rules.TooManyRules r m = m
  reason (rules.TooManyVars t) r m = m
  reason (rules.SameRule t) r m = m
  reason (rules.SortDiffers t) r m = m
  reason (rules.Discipline t a b) r m = m
  reason (rules.NotModed t v) r m = m

  pub rules_refused : (e : RuleError) (y : NotationError) → IsRuleSetMade (shapes_of x.grammar.parts) (forms x.forms.items) qs (Err e) → IsRuleRefusal (map (λ l. l.name) x.rules.items) names e y → IsLanguageTextRefused name bytes y
  rules_refused e y m (inl none) = subst (IsLanguageTextRefused name bytes) (sym none) tt
  rules_refused e y m (inr (r, (unbound, is, called))) =
      subst (IsLanguageTextRefused name bytes) (sym is) (subst (HasNoRuleSet name bytes e) (sym called) (no_set e (reason e r (refused_here e m))))

-- ---- lines

-- one of the refusals of a line
abbrev pub IsLineError : NotationError → Type 0
IsLineError (NotUtf8 place) = ⊥
IsLineError (Grammar e) = ⊥
IsLineError (Rules e v) = ⊥
IsLineError _ = Unit {0}

text_kind : (p : Parts) (stems : Stems) (sort : Sort) (text : Text) (number : ℕ) (e : NotationError) → IsUnreadText p stems sort text number e → IsLineError e
text_kind p stems sort text number Memory h = tt
text_kind p stems sort text number (NotUtf8 place) h = absurd h
text_kind p stems sort text number (Notation n k) h = tt
text_kind p stems sort text number (Token n e) h = tt
text_kind p stems sort text number (Grammar e) h = absurd h
text_kind p stems sort text number (Read n e) h = tt
text_kind p stems sort text number (Rules e v) h = absurd h

line_kind : (r : Reader) (l : Numbered) (e : NotationError) → IsBadRuleLine r l e → IsLineError e
line_kind r l e h = text_kind r.parts r.stems (judgements r.parts) l.text l.number e h

premise_kind : (r : Reader) (ls : List Numbered) (old : List Text) (e : NotationError) → IsBadPremise r ls old e → IsLineError e
premise_kind r [] old e h = absurd h
premise_kind r (l ∷ ls) old e (inl h) = line_kind r l e h
premise_kind r (l ∷ ls) old e (inr h) = premise_kind r ls h.0 e h.3

conclusion_kind : (r : Reader) (l : Numbered) (old : List Text) (e : NotationError) → IsBadConclusion r l old e → IsLineError e
conclusion_kind r l old e (inl h) = line_kind r l e h
conclusion_kind r l old e (inr h) = subst IsLineError (sym h.4) tt

body_kind : (r : Reader) (line : Option Numbered) (subject : Option Sort) (e : NotationError) → IsBadBody r line subject e → IsLineError e
body_kind r None subject e h = absurd h
body_kind r (Some l) None e h = absurd h
body_kind r (Some l) (Some sort) e h = text_kind r.parts r.stems sort l.text l.number e h

end_kind : (r : Reader) (l : RuleData) (old : List Text) (e : NotationError) → IsBadEnd r l old e → IsLineError e
end_kind r l old e (inl h) = conclusion_kind r l.conclusion old e h
end_kind r l old e (inr h) = body_kind r l.body (subject_sort r.forms h.1.form) e h.3

rule_kind : (r : Reader) (l : RuleData) (e : NotationError) → IsBadRule r l e → IsLineError e
rule_kind r l e (inl h) = premise_kind r l.premises [] e h
rule_kind r l e (inr h) = end_kind r l h.0 e h.3

pub rules_kind : (r : Reader) (ls : List RuleData) (e : NotationError) → IsFirstBadRule r ls e → IsLineError e
rules_kind r [] e h = absurd h
rules_kind r (l ∷ ls) e (inl h) = rule_kind r l e h
rules_kind r (l ∷ ls) e (inr h) = rules_kind r ls e h.4

-- the first bad line of the rules is the refusal of the text
module _ (name bytes : Text) (x : Prepared) (h : IsPreparedLanguage name bytes x) where
  bad_rule : (e : NotationError) → IsFirstBadRule (reader_in x) (map rule_data x.rules.items) e → HasBadRule name bytes e
  bad_rule e b = (h.from, reader_in x, h.readable, subst (λ l. IsFirstBadRule (reader_in x) (map rule_data l) e) h.rules b)

  first_refused : (e : NotationError) → OrMemory (IsFirstBadRule (reader_in x) (map rule_data x.rules.items)) e → IsLanguageTextRefused name bytes e
  first_refused Memory b = tt
  first_refused (NotUtf8 place) b = absurd (rules_kind (reader_in x) (map rule_data x.rules.items) (NotUtf8 place) b)
  first_refused (Notation n k) b = inr (bad_rule (Notation n k) b)
  first_refused (Token n e) b = bad_rule (Token n e) b
  first_refused (Grammar e) b = absurd (rules_kind (reader_in x) (map rule_data x.rules.items) (Grammar e) b)
  first_refused (Read n e) b = bad_rule (Read n e) b
  first_refused (Rules e v) b = absurd (rules_kind (reader_in x) (map rule_data x.rules.items) (Rules e v) b)

  pub line_refused : (lines : List RuleLines) → lines ≡ x.rules.items → (e : NotationError) → OrMemory (IsFirstBadRule (reader_in x) (map rule_data lines)) e → IsLanguageTextRefused name bytes e
  line_refused lines same e b = first_refused e (subst (λ l. OrMemory (IsFirstBadRule (reader_in x) (map rule_data l)) e) same b)

-- the terms of the rules are not too deep
pub shallow : (r : Reader) (ls : List RuleData) (names : List (List Text)) (rs : List Rule) → AreBareRules r ls names (map named rs) → RulesAreShallow (map rule rs)
shallow r ls names rs read = subst RulesAreShallow (bare rs) (rules_shallow r ls names (map named rs) (map (λ l. None) ls) read).0
  where
    bare : (xs : List Rule) → map (λ q. q.rule) (map named xs) ≡ map rule xs
    bare [] = refl
    bare (y ∷ ys) = ap (λ z. rule y ∷ z) (bare ys)

-- ---- stems of an outline

pub sorts_named : (name bytes : Text) (o : Outline) (b : GrammarData) → b ≡ whole (parts o.parts) → IsUsableOutline name bytes o → AllByRecursion (λ v. IsNameOfSort b.parts v.sort) o.vars.items
sorts_named name bytes o b base h = subst (λ y. AllByRecursion (λ v. IsNameOfSort y.parts v.sort) o.vars.items) (sym base) h.fit.vars

pub stems_are : (p : Parts) (b : GrammarData) (vs : List VarLine) (ss : Stems) → b ≡ whole p → AreStems b.parts vs ss → AreStems p vs ss
stems_are p b vs ss base are = subst (λ y. AreStems y.parts vs ss) base are

pub forms_known : (name bytes : Text) (o : Outline) (b : GrammarData) → b ≡ whole (parts o.parts) → IsGrammar (rule_parts (parts o.parts) o.forms.items) → IsUsableOutline name bytes o → HaveSortsOf b.parts o.forms.items
forms_known name bytes o b base is h = subst (λ y. HaveSortsOf y.parts o.forms.items) (sym base) (have_sorts (parts o.parts) o.forms.items is h.fit.named)

pub prepared : (name bytes : Text) (o : Outline) (x : Prepared) (b : GrammarData) → IsUsableOutline name bytes o → b ≡ whole (parts o.parts) → IsGrammar (parts o.parts)
    → (x.rule_grammar ≡ whole (rule_parts (parts o.parts) o.forms.items)) × IsGrammar (rule_parts (parts o.parts) o.forms.items) → x.grammar ≡ b → AreStems b.parts o.vars.items x.metas.stems.items
    → forms x.forms.items ≡ map (form_of b.parts) o.forms.items → x.main ≡ o.main → x.rules.items ≡ o.rules.items → IsPreparedLanguage name bytes x
prepared name bytes o x b h base is rule same stems known main lines =
    let p = parts o.parts in
    let read_by : x.rule_grammar.parts ≡ rule_parts p o.forms.items = ap (λ g. g.parts) rule.0 in
    let are : AreStems p o.vars.items x.metas.stems.items = stems_are p b o.vars.items x.metas.stems.items base stems in
    let have : HaveSortsOf p o.forms.items = have_sorts p o.forms.items rule.1 h.fit.named in
    let stated : forms x.forms.items ≡ map (form_of p) o.forms.items = known ∙ ap (λ y. map (form_of y.parts) o.forms.items) base in
    let fitted : AllByRecursion FormFits (map (form_of p) o.forms.items) = forms_fit p (declared_by (outline o) h.fit.line) refl o.forms.items h.fit.places h.fit.subjects have in
    let many : length (forms x.forms.items) ≡ length o.forms.items = ap length stated ∙ length-map o.forms.items (form_of p) in
    record {
      from = o;
      readable = record { outlined = h.outlined; grammar = is; rule_grammar = rule.1; read_by = read_by; stems = are; forms = stated };
      fit = h.fit;
      known = have;
      grammar = same ∙ base;
      rule_grammar = rule.0;
      forms = stated;
      main = main;
      rules = lines;
      short = subst (λ l. AllByRecursion (λ y. HasShortLines 262144 (rule_data y)) l) (sym lines) h.short;
      bare = subst (λ l. AllByRecursion (λ y. y.body ≡ None) (map rule_data l)) (sym lines) h.fit.bodies;
      can = can_read p o.forms.items is o.vars.items (reader_in x) are read_by many
          (subjects_read p o.forms.items (forms x.forms.items) stated have (subst (AllByRecursion FormFits) (sym stated) fitted));
    }

-- ---- forms

module _ (p : Parts) (fs : List FormLine) (o : Option (Vec Form Global)) where
  abbrev IsFormsOf : Option (Vec Form Global) → Type 0
  IsFormsOf x = MatchOption x (¬ (HaveSortsOf p fs)) (λ v. HaveSortsOf p fs × (forms v.items ≡ map (form_of p) fs))

  -- the sorts of the forms are known
  pub no_forms : o ≡ None → MatchOption o (¬ (HaveSortsOf p fs)) (λ v. HaveSortsOf p fs × (forms v.items ≡ map (form_of p) fs)) → HaveSortsOf p fs → ⊥
  no_forms is h known = (subst IsFormsOf is h) known

  pub some_forms : (gs : List FormLine) (v : Vec Form Global) → fs ≡ gs → o ≡ Some v → MatchOption o (¬ (HaveSortsOf p fs)) (λ x. HaveSortsOf p fs × (forms x.items ≡ map (form_of p) fs))
      → forms v.items ≡ map (form_of p) gs
  some_forms gs v same is h = (subst IsFormsOf is h).1 ∙ ap (map (form_of p)) same
