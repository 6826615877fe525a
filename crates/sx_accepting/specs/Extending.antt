-- Extensions of a language are read and accepted, each after all before it.
use Rattle.std.specs.Prelude.{◌≡◌, ℕ, suc, List, [], ◌∷◌, ◌++◌, Option, Some, Result, Ok, Err}
use Rattle.std.specs.Prelude.{map, option_map, length}
use Rattle.sx_term.specs.Tree.{Tree}
use Rattle.sx_term.specs.Term.{tree}
use Rattle.sx_grammar.specs.Grammar.{Text}
use Rattle.sx_grammar.specs.Tables.{GrammarData}
use Rattle.sx_grammar.specs.Told.{shapes_of}
use Rattle.sx_plain.specs.Plain.{Table}
use Rattle.sx_plain.specs.Views.{table_of}
use Rattle.sx_rules.specs.Sets.{forms_in, rules_in}
use Rattle.sx_rules.specs.Views.{NamedRule, named}
use Rattle.sx_rewrite.specs.declared.accepted.Accepted.{Accepted as AcceptedOf}
use Rattle.sx_rewrite.specs.declared.ext_rule.ExtRule.{ExtRule as ExtRuleOf}
use Rattle.sx_rewrite.specs.Accepted.{Checked}
use Rattle.sx_rewrite.specs.Extensions.{with_table}
use Rattle.sx_rewrite.specs.ExtensionView.{named_rules}
use Rattle.sx_rewrite.specs.Stored.{signature_of}
use Rattle.sx_extcheck.specs.declared.accept_error.AcceptError.{AcceptError}
use Rattle.sx_extcheck.specs.declared.accept_error.AcceptError.TheVariants.{Memory}
use Rattle.sx_extcheck.specs.declared.budgets.Budgets.{Budgets}
use Rattle.sx_extcheck.specs.Accepts.{AreRulesChecked}
use Rattle.sx_extcheck.specs.Checks.{Check}
use Rattle.sx_extension.specs.declared.extension_error.ExtensionError.{ExtensionError}
use Rattle.sx_extension.specs.declared.extension.ReadExtension.{ReadExtension}
use Rattle.sx_extension.specs.Grounds.{Ground}
use Rattle.sx_extension.specs.Fitting.{FitsAfter}
use Rattle.sx_extension.specs.States.{IsExtensionIn, IsExtensionTextRefused}
use Rattle.sx_notation.specs.declared.language.Language.{Language}
use Rattle.sx_steps.specs.declared.step_error.StepError.{StepError}
use Rattle.sx_steps.specs.declared.step_error.StepError.TheVariants as errors
use Rattle.sx_steps.specs.declared.stop.Stop.{Stop}
use Rattle.sx_steps.specs.Lower.{Lower}
use Rattle.sx_steps.specs.Steps.{Untried, AndThen}
use Rattle.sx_uses.specs.ExtensionFile.{Extension, extension_file}
use Rattle.sx_accepting.specs.AcceptanceStops.{Refusing, acceptance_stop}
use Rattle.sx_accepting.specs.declared.extended.Extended.{Extended}
use Rattle.sx_accepting.specs.ExtendedLanguages.{BaseLanguage, SetData, ExtendedData, ground_of}
use Rattle.sx_accepting.specs.ExtendedLanguages.{ground_after, CanExtendBy}
use Rattle.sx_accepting.specs.ExtensionStops.{extension_stop}

-- ---- an extension is read

-- What an extension states: the grammars with its productions, its rules with their names, the
-- body and the names of the variables of each, and the table of plain constructors.
pub record ReadData : Type 0 where
  pub grammar : GrammarData
  pub rule_grammar : GrammarData
  pub rules : List NamedRule
  pub bodies : List (Option Tree)
  pub names : List (List Text)
  pub table : Table

-- the bodies of rules
abbrev pub bodies_in : List ExtRuleOf → List (Option Tree)
bodies_in es = map (λ e. option_map tree e.body) es

-- the view of it
abbrev pub read_data : ReadExtension → ReadData
read_data x = record {
  grammar = x.grammar;
  rule_grammar = x.rule_grammar;
  rules = named_rules x.extension;
  bodies = bodies_in x.extension.rules.items;
  names = x.names.items;
  table = table_of x.extension.plain;
}

-- the bytes state the extension, which fits what it is read after
pub record IsExtensionStated (g : Ground) (bytes : Text) (x : ReadData) : Type 0 where
  pub whole : ReadExtension
  pub states : IsExtensionIn g bytes whole
  pub fits : FitsAfter g whole
  pub is : x ≡ read_data whole

-- the extension that the bytes state, or their refusal
abbrev pub StatesAfter : Ground → Text → Result ReadData ExtensionError → Type 0
StatesAfter g bytes (Ok x) = IsExtensionStated g bytes x
StatesAfter g bytes (Err e) = IsExtensionTextRefused g bytes e

-- the extension in the file, which is read after the language and the extensions so far
abbrev pub ReadsAfter : BaseLanguage → ExtendedData → Extension → Result ReadData Stop → Type 0
ReadsAfter l so_far file =
    Lower (extension_stop (extension_file file.header.name))
    (StatesAfter (ground_of l so_far) file.bytes)

-- ---- an extension is accepted

-- what the rules of the extension are checked against
abbrev pub check_after : SetData → Table → Budgets → Check
check_after set table budgets = record {
  sig = signature_of set.forms;
  labels = length set.base_shapes;
  set = with_table set.kept table;
  tries = budgets.tries;
  nodes = budgets.nodes;
}

-- rules with these names and bodies are checked in order so, with so many tries in all
pub record HaveChecks (c : Check) (x : ReadData) (tries : ℕ)
    (answer : Result (List Checked) AcceptError) : Type 0 where
  pub held : List ExtRuleOf
  pub rules : map (λ e. named e.rule) held ≡ x.rules
  pub bodies : bodies_in held ≡ x.bodies
  pub checked : AreRulesChecked c held tries answer

-- the language with the extension after those so far, where this is stored of its rules
abbrev pub with_extension : ExtendedData → ReadData → List Checked → ExtendedData
with_extension so_far x stored = record {
  grammar = x.grammar;
  by_rules = x.rule_grammar.parts;
  set = record {
    base_rules = so_far.set.base_rules;
    base_shapes = so_far.set.base_shapes;
    forms = so_far.set.forms;
    rules = so_far.set.rules ++ x.rules;
    shapes = shapes_of x.grammar.parts;
    kept = record {
      base = so_far.set.kept.base;
      more = so_far.set.kept.more ++ stored;
      table = x.table;
    };
  };
  last = length x.rules;
}

-- what a refused rule of the extension is told by
abbrev pub refusing_by : BaseLanguage → ExtendedData → ReadData → Refusing
refusing_by l so_far x = record {
  parts = x.rule_grammar.parts;
  forms = l.content.forms;
  rules = so_far.set.rules;
  names = map (λ r. r.name) x.rules;
  vars = x.names;
}

-- The extension that was read from the file is accepted: each of its rules is checked against the
-- set so far, in order, and is stored. Or a rule is refused; or memory lacks, maybe with some of
-- these tries made.
abbrev pub Accepts : BaseLanguage → Budgets → (file : List ℕ) → ExtendedData → ReadData →
    Result ExtendedData StepError → ℕ → Type 0
Accepts l budgets file so_far x (Ok new) tries = (stored : List Checked) ×
    HaveChecks (check_after so_far.set x.table budgets) x tries (Ok stored) ×
    (new ≡ with_extension so_far x stored)
Accepts l budgets file so_far x (Err errors.Memory) tries =
    HaveChecks (check_after so_far.set x.table budgets) x tries (Err Memory)
Accepts l budgets file so_far x (Err (errors.Stopped stop)) tries = (e : AcceptError) ×
    HaveChecks (check_after so_far.set x.table budgets) x tries (Err e) ×
    (acceptance_stop file (refusing_by l so_far x) e ≡ Some stop)

-- ---- extensions in order

-- the extension is read, and then accepted
abbrev pub ExtendsBy : BaseLanguage → Budgets → Extension → ExtendedData →
    Result ExtendedData StepError → ℕ → Type 0
ExtendsBy l budgets file so_far =
    AndThen (Untried (ReadsAfter l so_far file))
    (Accepts l budgets (extension_file file.header.name) so_far)

-- each extension is read after all before it, and then accepted
abbrev pub ExtendsLanguage : BaseLanguage → Budgets → List Extension → ExtendedData →
    Result ExtendedData StepError → ℕ → Type 0
ExtendsLanguage l budgets [] so_far = Untried (λ result. result ≡ Ok so_far)
ExtendsLanguage l budgets (file ∷ files) so_far =
    AndThen (ExtendsBy l budgets file so_far) (ExtendsLanguage l budgets files)

-- ---- steps of the code

-- the extension was read after the language with the extensions so far, and fits it
pub record WasRead (l : Language) (so_far : Extended) (read : ReadExtension) : Type 0 where
  pub files : ℕ
  pub can : CanExtendBy l so_far files
  pub bytes : Text
  pub states : IsExtensionIn (ground_after l so_far) bytes read
  pub fits : FitsAfter (ground_after l so_far) read

-- with this the language can be extended by one file less
abbrev pub GoesOnBy : Language → (so_far new : Extended) → Type 0
GoesOnBy l so_far new =
    (files : ℕ) → CanExtendBy l so_far (suc files) → CanExtendBy l new files

-- what a refused rule is told by, of which this is in memory
abbrev pub refusing_after : Language → GrammarData → AcceptedOf → List Text → List (List Text) →
    Refusing
refusing_after l grammar set names vars = record {
  parts = grammar.parts;
  forms = forms_in l.rules;
  rules = rules_in set.rules;
  names = names;
  vars = vars;
}

-- this stop of the error, or memory lacks
abbrev pub IsStopToldBy : (file : List ℕ) → Refusing → AcceptError → StepError → Type 0
IsStopToldBy file by e errors.Memory = Unit {0}
IsStopToldBy file by e (errors.Stopped stop) = acceptance_stop file by e ≡ Some stop
