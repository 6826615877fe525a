-- What a language becomes by extensions is accepted.
use Rattle.std.proofs.Common.{◌≡◌, ℕ, List, [], ◌∷◌, ◌++◌, map, length}
use Rattle.std.proofs.Common.{refl, sym, ap, ◌∙◌, subst}
use Rattle.std.specs.Prelude.{Ok, Option}
use Rattle.sx_term.specs.Sorts.{Shape}
use Rattle.sx_term.specs.Tree.{Tree}
use Rattle.sx_term.specs.Untyped.{PlainHaveNoTyped}
use Rattle.sx_grammar.specs.Parts.{Parts, parts}
use Rattle.sx_grammar.specs.Tables.{GrammarData}
use Rattle.sx_grammar.specs.Told.{shapes_of}
use Rattle.sx_plain.specs.Plain.{Table}
use Rattle.sx_plain.specs.Views.{table_of}
use Rattle.sx_rules.specs.Modes.{Modes, AllModed}
use Rattle.sx_rules.specs.Rules.{Rule}
use Rattle.sx_rules.specs.Good.{IsRuleSet}
use Rattle.sx_rules.specs.Sets.{forms_in, rules_in}
use Rattle.sx_rules.specs.Views.{FormData, NamedRule, named}
use Rattle.sx_rewrite.specs.declared.ext_rule.ExtRule.{ExtRule as ExtRuleOf}
use Rattle.sx_rewrite.specs.Accepted.{ExtRule, Checked, basic, checked, rule_in, extended_rules}
use Rattle.sx_rewrite.specs.Accepted.{Signature, IsAccepted}
use Rattle.sx_rewrite.specs.Accepting.{AreStored}
use Rattle.sx_rewrite.specs.Extensions.{StoredExtension as Added, FitsRules, with_table}
use Rattle.sx_rewrite.specs.ExtensionView.{ext_rule}
use Rattle.sx_rewrite.specs.PlainRules.{plain_of}
use Rattle.sx_rewrite.specs.Sound.{AreSoundBy}
use Rattle.sx_rewrite.specs.Stored.{signature_of}
use Rattle.sx_rewrite.proofs.Checks.{stored_extensions_are_sound}
use Rattle.sx_rewrite.proofs.Growing.{longer, accepted_sets_grow, base_rules_are_accepted}
use Rattle.sx_rewrite.proofs.KindLaws.{forms-fit, forms-typed}
use Rattle.sx_rewrite.proofs.PlainSets.{plain_rules_are_accepted}
use Rattle.sx_rewrite.proofs.RuleSets.{good_rules_are_disciplined}
use Rattle.sx_extcheck.specs.declared.budgets.Budgets.{Budgets}
use Rattle.sx_extcheck.specs.Accepts.{AreRulesChecked}
use Rattle.sx_extcheck.specs.Checks.{Check}
use Rattle.sx_extcheck.proofs.StoredRules.{checked-stored}
use Rattle.sx_notation.specs.declared.language.Language.{Language}
use Rattle.sx_notation.specs.Language.{IsLanguage, LanguageData, language_data}
use Rattle.sx_language.specs.States.{IsLanguageIn as StatesLanguage}
use Rattle.sx_extension.proofs.FitShapes.{have_no_typed}
use Rattle.sx_steps.proofs.Ones.{ok_same}
use Rattle.sx_uses.specs.ExtensionFile.{Extension, extension_file}
use Rattle.sx_accepting.specs.ExtendedLanguages.{BaseLanguage, ExtendedData, ground_of, unextended}
use Rattle.sx_accepting.specs.Extending.{ReadData, bodies_in, read_data, IsExtensionStated}
use Rattle.sx_accepting.specs.Extending.{HaveChecks}
use Rattle.sx_accepting.specs.Extending.{check_after, with_extension, Accepts, ExtendsBy}
use Rattle.sx_accepting.specs.Extending.{ExtendsLanguage}
use Rattle.sx_accepting.specs.Laws.{IsAcceptedOver, ExtendedIsAccepted}
use Rattle.sx_accepting.specs.ReadLanguage.{Stated, IsLanguageStated, base_in}
use Rattle.sx_accepting.proofs.Begun.{sorts_for}
use Rattle.sx_steps.proofs.StepsOn.{went_on}

-- ---- the rules of an extension

-- rules with these names and bodies, without their names
abbrev exts_of : List NamedRule → List (Option Tree) → List ExtRule
exts_of [] bodies = []
exts_of (r ∷ rules) [] = []
exts_of (r ∷ rules) (b ∷ bodies) = record { rule = r.rule; body = b } ∷ exts_of rules bodies

exts_are : (es : List ExtRuleOf) → map ext_rule es ≡ exts_of (map (λ e. named e.rule) es)
    (bodies_in es)
exts_are [] = refl
exts_are (e ∷ es) = ap (λ (l : List ExtRule). ext_rule e ∷ l) (exts_are es)

same_exts : (es fs : List ExtRuleOf) → map (λ e. named e.rule) es ≡ map (λ e. named e.rule) fs →
    bodies_in es ≡ bodies_in fs → map ext_rule es ≡ map ext_rule fs
same_exts es fs rules bodies =
    exts_are es ∙ ap (λ (rs : List NamedRule). exts_of rs (bodies_in es)) rules ∙
    ap (λ (bs : List (Option Tree)). exts_of (map (λ e. named e.rule) fs) bs) bodies ∙
    sym (exts_are fs)

-- the base rules are moded with all
base_moded : (modes : Modes) (base : List Rule) (more : List Checked) →
    AllModed modes (map rule_in (map basic base ++ map checked more)) → AllModed modes base
base_moded modes [] more h = tt
base_moded modes (r ∷ base) more h = (h.0, base_moded modes base more h.1)

-- what is stored of rules that are checked
are_stored : (c : Check) → AllModed c.sig.modes c.set.base →
    AllModed c.sig.modes (extended_rules (plain_of c.set)) →
    (es : List ExtRuleOf) (ss : List Checked) (count : ℕ) → AreRulesChecked c es count (Ok ss) →
    AreStored c.sig c.labels c.set (map ext_rule es) ss
are_stored c base plain [] [] count h = tt
are_stored c base plain [] (s ∷ ss) count h = absurd h
are_stored c base plain (e ∷ es) [] count h = absurd h
are_stored c base plain (e ∷ es) (s ∷ ss) count (st, rest, n, more) =
    (checked-stored c (ext_rule e) base plain s st, are_stored c base plain es ss rest more)

-- ---- what is accepted

module _ (l : BaseLanguage) (x : ExtendedData) (over : IsAcceptedOver l x) (bytes : List ℕ)
    (d : ReadData) (stated : IsExtensionStated (ground_of l x) bytes d) where
  abbrev sig : Signature
  sig = signature_of x.set.forms

  abbrev all : List Shape
  all = shapes_of stated.whole.grammar.parts

  abbrev table : Table
  table = table_of stated.whole.extension.plain

  fits : FitsRules sig x.set.base_shapes x.set.shapes all x.set.kept.table table
      (map ext_rule stated.whole.extension.rules.items)
  fits =
      subst (λ (fs : List FormData). FitsRules (signature_of fs) x.set.base_shapes x.set.shapes all
      x.set.kept.table table (map ext_rule stated.whole.extension.rules.items))
      (sym over.forms)
      (subst (λ (ss : List Shape). FitsRules (signature_of l.content.forms) ss x.set.shapes all
      x.set.kept.table table (map ext_rule stated.whole.extension.rules.items))
      (sym over.shapes) stated.fits.fits)

  -- the set with the table of the extension
  pub longer_set : IsAccepted (signature_of x.set.forms) x.set.base_shapes
      (shapes_of stated.whole.grammar.parts)
      (with_table x.set.kept (table_of stated.whole.extension.plain))
  longer_set = longer sig x.set.base_shapes x.set.shapes all x.set.kept table over.accepted
      fits.goes_on

  abbrev added : List Checked → Added
  added stored = record {
    rules = map ext_rule stated.whole.extension.rules.items;
    stored = stored;
    table = table;
  }

  module _ (budgets : Budgets) where
    abbrev checks_with : Check
    checks_with = check_after x.set table budgets

    -- the extension is sound after the set by what is stored of its rules
    pub stored_soundly : (stored : List Checked) (count : ℕ) →
        HaveChecks (check_after x.set (table_of stated.whole.extension.plain) budgets)
        (read_data stated.whole) count (Ok stored) →
        AreSoundBy (signature_of x.set.forms).subjects (length x.set.base_shapes)
        (with_table x.set.kept (table_of stated.whole.extension.plain))
        (map ext_rule stated.whole.extension.rules.items) stored
    stored_soundly stored count h =
        let es = stated.whole.extension.rules.items in
        let by_these = are_stored checks_with (base_moded sig.modes x.set.kept.base x.set.kept.more
        over.accepted.moded) ((plain_rules_are_accepted sig x.set.base_shapes all
        (with_table x.set.kept table) longer_set).moded)
        h.held stored count h.checked in
        let kept = subst (λ (rs : List ExtRule). AreStored sig checks_with.labels checks_with.set
        rs stored) (same_exts h.held es h.rules h.bodies) by_these in
        stored_extensions_are_sound sig x.set.base_shapes x.set.shapes all x.set.kept
        over.accepted (added stored) fits kept

    grown : (stored : List Checked) (count : ℕ) →
        HaveChecks checks_with (read_data stated.whole) count (Ok stored) →
        IsAcceptedOver l (with_extension x (read_data stated.whole) stored)
    grown stored count h = record {
      shapes = over.shapes;
      forms = over.forms;
      accepted = accepted_sets_grow sig x.set.base_shapes x.set.shapes all x.set.kept
          (added stored) over.accepted fits (stored_soundly stored count h);
    }

-- the checks of the extension that the bytes state
pub checks_of : (l : BaseLanguage) (budgets : Budgets) (x : ExtendedData) (bytes : List ℕ)
    (d : ReadData) (tries : ℕ) (stated : IsExtensionStated (ground_of l x) bytes d)
    (stored : List Checked) → HaveChecks (check_after x.set d.table budgets) d tries (Ok stored) →
    HaveChecks (check_after x.set (read_data stated.whole).table budgets) (read_data stated.whole)
    tries (Ok stored)
checks_of l budgets x bytes d tries stated stored h =
    subst (λ (y : ReadData). HaveChecks (check_after x.set y.table budgets) y tries (Ok stored))
    stated.is h

-- what the language becomes by it
pub next_of : (l : BaseLanguage) (x next : ExtendedData) (bytes : List ℕ) (d : ReadData)
    (stated : IsExtensionStated (ground_of l x) bytes d) (stored : List Checked) →
    next ≡ with_extension x d stored → next ≡ with_extension x (read_data stated.whole) stored
next_of l x next bytes d stated stored is =
    is ∙ ap (λ (y : ReadData). with_extension x y stored) stated.is

-- with an extension that is accepted the set is accepted
pub accepted_next : (l : BaseLanguage) (budgets : Budgets) (file : List ℕ) (x next : ExtendedData)
    (bytes : List ℕ) (d : ReadData) (tries : ℕ) → IsAcceptedOver l x →
    IsExtensionStated (ground_of l x) bytes d →
    Accepts l budgets file x d (Ok next) tries → IsAcceptedOver l next
accepted_next l budgets file x next bytes d tries over stated accepts =
    let checks = checks_of l budgets x bytes d tries stated accepts.0 accepts.1 in
    let same = next_of l x next bytes d stated accepts.0 accepts.2 in
    subst (IsAcceptedOver l) (sym same) (grown l x over bytes d stated budgets accepts.0 tries
    checks)

-- the rules of a language that a text states are a rule set, and its plain constructors have no
-- typed parts
module _ (name bytes : List ℕ) (l : Language) (states : StatesLanguage name bytes l) where
  its_parts : parts states.outline.parts ≡ l.grammar.parts
  its_parts = sym (ap (λ (g : GrammarData). g.parts) states.grammar)

  pub language_rules : IsRuleSet (shapes_of l.grammar.parts) (forms_in l.rules) (rules_in l.rules)
  language_rules =
      subst (λ (p : Parts). IsRuleSet (shapes_of p) (forms_in l.rules) (rules_in l.rules)) its_parts
      (subst (λ (gs : List FormData). IsRuleSet (shapes_of (parts states.outline.parts)) gs
      (rules_in l.rules)) (sym states.forms) states.rule_set)

  pub language_plain : PlainHaveNoTyped (shapes_of l.grammar.parts)
  language_plain = subst (λ (p : Parts). PlainHaveNoTyped (shapes_of p)) its_parts
      (have_no_typed (parts states.outline.parts) states.readable.grammar)

-- what a language that a text states begins with is accepted
pub accepted_first : (name bytes : List ℕ) (l : Language) → StatesLanguage name bytes l →
    IsLanguage l → IsAcceptedOver (record {
      content = language_data l;
      stems = l.metas.stems.items;
    }) (unextended (language_data l))
accepted_first name bytes l states is =
    let fs = forms_in l.rules in
    let shapes = shapes_of l.grammar.parts in
    let kinds = sorts_for fs is.fit in
    let of_all = good_rules_are_disciplined shapes fs [] (rules_in l.rules)
    (language_rules name bytes l states).1 in
    record {
      shapes = refl;
      forms = refl;
      accepted = base_rules_are_accepted (signature_of fs) shapes
          (map (λ r. r.rule) (rules_in l.rules)) (language_plain name bytes l states)
          (forms-fit fs kinds) (forms-typed fs kinds) of_all.0 of_all.1 of_all.2;
    }

pub accepted_begin : (name bytes : List ℕ) (l : Stated) → IsLanguageStated name bytes l →
    IsAcceptedOver (base_in l) (unextended l.language)
accepted_begin name bytes l s =
    subst (λ (c : LanguageData). IsAcceptedOver (record { content = c; stems = l.stems })
    (unextended c)) (sym s.language)
    (subst (λ (st : _). IsAcceptedOver (record { content = language_data s.whole; stems = st })
    (unextended (language_data s.whole))) (sym s.stems)
    (accepted_first name bytes s.whole s.states s.fit))

-- so with an extension that is read and accepted
pub accepted_by : (l : BaseLanguage) (budgets : Budgets) (file : Extension) (x next : ExtendedData)
    (tries : ℕ) → IsAcceptedOver l x → ExtendsBy l budgets file x (Ok next) tries →
    IsAcceptedOver l next
accepted_by l budgets file x next tries over steps =
    let read = went_on _ _ _ tries steps in
    accepted_next l budgets (extension_file file.header.name) x next file.bytes read.given
    read.after over read.begins.0 read.goes

-- and with those in order
pub accepted_from : (l : BaseLanguage) (budgets : Budgets) (files : List Extension)
    (x y : ExtendedData) (tries : ℕ) → IsAcceptedOver l x →
    ExtendsLanguage l budgets files x (Ok y) tries → IsAcceptedOver l y
accepted_from l budgets [] x y tries over steps =
    subst (IsAcceptedOver l) (sym (ok_same y x steps.0)) over
accepted_from l budgets (file ∷ files) x y tries over steps =
    let first = went_on _ _ _ tries steps in
    accepted_from l budgets files first.given y first.after
    (accepted_by l budgets file x first.given first.before over first.begins) first.goes

pub extended_is_accepted : ExtendedIsAccepted
extended_is_accepted name bytes l stated budgets files x tries steps =
    accepted_from (base_in l) budgets files (unextended l.language) x tries
    (accepted_begin name bytes l stated) steps
