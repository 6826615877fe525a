-- A dialect with an extension that is read and accepted after it is a dialect.
use Rattle.std.proofs.Common.{◌≡◌, ℕ, List, [], ◌∷◌, ◌++◌, map, length, refl, sym, ap, ◌∙◌, subst}
use Rattle.std.proofs.lemmas.List.{append_cancel_left}
use Rattle.std.specs.Prelude.{Ok}
use Rattle.sx_term.specs.Sorts.{Shape}
use Rattle.sx_grammar.specs.Extended.{extended}
use Rattle.sx_grammar.specs.Parts.{Line, Parts}
use Rattle.sx_grammar.specs.Tables.{literals_of}
use Rattle.sx_grammar.specs.Told.{shapes_of}
use Rattle.sx_plain.specs.Plain.{Table}
use Rattle.sx_plain.specs.Views.{table_of}
use Rattle.sx_rules.specs.Good.{IsRuleSet}
use Rattle.sx_rules.specs.Rules.{Rule}
use Rattle.sx_rules.specs.Views.{FormData, named, rule, subjects_in}
use Rattle.sx_directives.specs.declared.rows.FormLine.{FormLine}
use Rattle.sx_rewrite.specs.declared.ext_rule.ExtRule.{ExtRule as ExtRuleOf}
use Rattle.sx_rewrite.specs.Accepted.{Checked}
use Rattle.sx_rewrite.specs.Extensions.{FitsRules, with_table}
use Rattle.sx_rewrite.specs.ExtensionView.{ext_rule, named_rules}
use Rattle.sx_rewrite.specs.Sound.{AreSoundBy}
use Rattle.sx_rewrite.specs.Stored.{signature_of}
use Rattle.sx_extcheck.specs.declared.budgets.Budgets.{Budgets}
use Rattle.sx_notation.specs.RuleParts.{form_line, apart_lines, rule_parts}
use Rattle.sx_extension.specs.declared.extension.ReadExtension.{ReadExtension}
use Rattle.sx_extension.specs.Fitting.{FitsAfter}
use Rattle.sx_extension.specs.Readings.{AreGrammars}
use Rattle.sx_extension.specs.States.{IsExtensionIn}
use Rattle.sx_uses.specs.ExtensionFile.{Extension, extension_file}
use Rattle.sx_steps.proofs.Ones.{ok_same}
use Rattle.sx_steps.proofs.StepsOn.{went_on}
use Rattle.sx_accepting.specs.ExtendedLanguages.{BaseLanguage, ExtendedData, ground_of}
use Rattle.sx_accepting.specs.Extending.{ReadData, read_data, IsExtensionStated, with_extension}
use Rattle.sx_accepting.specs.Extending.{Accepts, ExtendsBy, ExtendsLanguage}
use Rattle.sx_accepting.specs.Laws.{IsAcceptedOver}
use Rattle.sx_accepting.proofs.AcceptedExtended.{accepted_by, checks_of, next_of, stored_soundly}
use Rattle.sx_typing.specs.Dialects.{IsDialect}
use Rattle.sx_typing.specs.Growing.{Added, IsAddedToDialect, with_added}
use Rattle.sx_typing.proofs.Grown.{dialects_grow}
use Rattle.sx_typing.proofs.Lexemes.{extension_to_tokens, from_tokens, table_to_tokens}
use Rattle.sx_dialects.specs.Dialects.{dialect_in}

-- what a language became so far: it is accepted and a dialect, and its rules have the constructors
-- of its grammar
pub record IsGrown (l : BaseLanguage) (x : ExtendedData) : Type 0 where
  pub over : IsAcceptedOver l x
  pub shapes : x.set.shapes ≡ shapes_of x.grammar.parts
  pub is : IsDialect (dialect_in l.content x)

-- ---- what an extension states

-- form lines by which the rules of one grammar are read alike are alike for another
lines_alike : (p q : Parts) (ls ms : List FormLine) → rule_parts p ls ≡ rule_parts p ms →
    rule_parts q ls ≡ rule_parts q ms
lines_alike p q ls ms same =
    let before = p.productions in
    let rest = append_cancel_left before (map form_line ls ++ apart_lines)
    (map form_line ms ++ apart_lines) (ap (λ (y : Parts). y.productions) same) in
    λ i. record {
      sorts = (rule_parts q ls).sorts;
      productions = q.productions ++ rest i;
    }

-- the rules of an extension without their names
bare_rules : (es : List ExtRuleOf) →
    map (λ r. r.rule) (map (λ e. named e.rule) es) ≡ map (λ e. e.rule) (map ext_rule es)
bare_rules [] = refl
bare_rules (e ∷ es) = ap (λ (rs : List Rule). rule e.rule ∷ rs) (bare_rules es)

module _ (l : BaseLanguage) (x : ExtendedData) (h : IsGrown l x) (bytes : List ℕ)
    (read : ReadExtension) (states : IsExtensionIn (ground_of l x) bytes read)
    (fits : FitsAfter (ground_of l x) read) (stored : List Checked) where
  abbrev own : List Line
  own = states.outline.productions

  abbrev grown_parts : Parts
  grown_parts = extended x.grammar.parts own

  made : AreGrammars (ground_of l x) own read.grammar read.rule_grammar
  made = states.read.readable.grammars

  abbrev table : Table
  table = table_of read.extension.plain

  abbrev es : List ExtRuleOf
  es = read.extension.rules.items

  abbrev added : Added
  added = record {
    lines = own;
    by_rules = read.rule_grammar.parts;
    rules = named_rules read.extension;
    extension = record { rules = map ext_rule es; stored = stored; table = table };
  }

  fits_so : FitsRules (signature_of l.content.forms) (shapes_of l.content.parts)
      (shapes_of x.grammar.parts) (shapes_of grown_parts) x.set.kept.table table (map ext_rule es)
  fits_so =
      subst (λ (p : Parts). FitsRules (signature_of l.content.forms) (shapes_of l.content.parts)
      (shapes_of x.grammar.parts) (shapes_of p) x.set.kept.table table (map ext_rule es)) made.parts
      (subst (λ (ss : List Shape). FitsRules (signature_of l.content.forms) (shapes_of l.content.parts)
      ss (shapes_of read.grammar.parts) x.set.kept.table table (map ext_rule es)) h.shapes
      fits.fits)

  -- the extension can be added to the dialect, where it is sound by what is stored
  is_added : AreSoundBy (subjects_in l.content.forms) (length (shapes_of l.content.parts))
      (with_table x.set.kept table) (map ext_rule es) stored →
      IsAddedToDialect (dialect_in l.content x) added
  is_added sound =
      let literals = literals_of l.content.parts in
      record {
        read_by = λ lines same. made.read_by ∙ lines_alike x.grammar.parts grown_parts made.lines
            lines (sym made.has_forms.read_by ∙ same);
        rules_are = bare_rules es;
        fits = fits_so;
        sound = sound;
        rule_set = subst (λ (p : Parts). IsRuleSet (shapes_of p) l.content.forms
            (x.set.rules ++ named_rules read.extension)) made.parts fits.good;
        lexemes = extension_to_tokens literals (named_rules read.extension) (map ext_rule es)
            (bare_rules es) fits.lexemes.rules fits.lexemes.bodies;
        table = table_to_tokens literals table (fits.lexemes.flat
            (λ label body e. from_tokens literals body.flat (h.is.lexemes.table label body e)));
      }

  -- and with it the dialect is what the language becomes
  added_is : with_added (dialect_in l.content x) added ≡
      dialect_in l.content (with_extension x (read_data read) stored)
  added_is = λ i. record {
    language = l.content;
    parts = sym made.parts i;
    rule_parts = read.rule_grammar.parts;
    rules = x.set.rules ++ named_rules read.extension;
    set = record {
      base = x.set.kept.base;
      more = x.set.kept.more ++ stored;
      table = table;
    };
  }

  pub grows : AreSoundBy (subjects_in l.content.forms) (length (shapes_of l.content.parts))
      (with_table x.set.kept (table_of read.extension.plain))
      (map ext_rule read.extension.rules.items) stored →
      IsDialect (dialect_in l.content (with_extension x (read_data read) stored))
  grows sound = subst IsDialect added_is
      (dialects_grow (dialect_in l.content x) added h.is (is_added sound))

-- ---- files in order

module _ (l : BaseLanguage) (budgets : Budgets) where
  -- so it is with an extension that is stated and accepted
  grown_next : (x next : ExtendedData) (h : IsGrown l x) (bytes : List ℕ) (d : ReadData)
      (stated : IsExtensionStated (ground_of l x) bytes d) (file : List ℕ) (tries : ℕ) →
      Accepts l budgets file x d (Ok next) tries → IsAcceptedOver l next → IsGrown l next
  grown_next x next h bytes d stated file tries accepts over =
      let stored = accepts.0 in
      let checks = checks_of l budgets x bytes d tries stated stored accepts.1 in
      let same = next_of l x next bytes d stated stored accepts.2 in
      let read = stated.whole in
      let by_set = stored_soundly l x h.over bytes d stated budgets stored tries checks in
      let by_forms = subst (λ (fs : List FormData). AreSoundBy (subjects_in fs)
      (length x.set.base_shapes) (with_table x.set.kept (table_of read.extension.plain))
      (map ext_rule read.extension.rules.items) stored) h.over.forms by_set in
      let sound = subst (λ (ss : List Shape). AreSoundBy (subjects_in l.content.forms)
      (length ss) (with_table x.set.kept (table_of read.extension.plain))
      (map ext_rule read.extension.rules.items) stored) h.over.shapes by_forms in
      record {
        over = over;
        shapes = subst (λ (y : ExtendedData). y.set.shapes ≡ shapes_of y.grammar.parts) (sym same)
            refl;
        is = subst (λ (y : ExtendedData). IsDialect (dialect_in l.content y)) (sym same)
            (grows l x h bytes read stated.states stated.fits stored sound);
      }

  grown_by : (file : Extension) (x next : ExtendedData) (tries : ℕ) → IsGrown l x →
      ExtendsBy l budgets file x (Ok next) tries → IsGrown l next
  grown_by file x next tries h steps =
      let read = went_on _ _ _ tries steps in
      grown_next x next h file.bytes read.given read.begins.0 (extension_file file.header.name)
      read.after read.goes (accepted_by l budgets file x next tries h.over steps)

  pub grown_from : (files : List Extension) (x y : ExtendedData) (tries : ℕ) → IsGrown l x →
      ExtendsLanguage l budgets files x (Ok y) tries → IsGrown l y
  grown_from [] x y tries h steps = subst (IsGrown l) (sym (ok_same y x steps.0)) h
  grown_from (file ∷ files) x y tries h steps =
      let first = went_on _ _ _ tries steps in
      grown_from files first.given y first.after
      (grown_by file x first.given first.before h first.begins) first.goes
