-- The stops of extensions that are not accepted.
use Rattle.std.specs.Prelude.{List, [], ◌∷◌, Option, Some, None, if◌then◌else◌}
use Rattle.std.specs.Str.{bytes_eq}
use Rattle.sx_grammar.specs.Grammar.{Text}
use Rattle.sx_grammar.specs.Parts.{Parts}
use Rattle.sx_rules.specs.Sets.{forms_in, rules_in}
use Rattle.sx_rules.specs.Views.{FormData, NamedRule}
use Rattle.sx_derive.specs.Blames.{blame_of}
use Rattle.sx_derive.specs.declared.blame.Blame.{Blame as BlameOf}
use Rattle.sx_words.specs.declared.position.Position.TheVariants as place
use Rattle.sx_words.specs.declared.text_defect.TextDefect.TheVariants as text_defect
use Rattle.sx_words.specs.declared.budget_defect.BudgetDefect.TheVariants as budget_defect
use Rattle.sx_words.specs.declared.refusal.Defect.{Defect}
use Rattle.sx_words.specs.declared.refusal.Defect.TheVariants as defect
use Rattle.sx_steps.specs.declared.stop.Stop.{Stop}
use Rattle.sx_steps.specs.Stops.{defect_at}
use Rattle.sx_extcheck.specs.declared.accept_error.AcceptError.{AcceptError}
use Rattle.sx_extcheck.specs.declared.accept_error.AcceptError.TheVariants.{Memory, Rule}
use Rattle.sx_extcheck.specs.declared.rule_refusal.RuleRefusal.{RuleRefusal}
use Rattle.sx_extcheck.specs.declared.rule_refusal.RuleRefusal.TheVariants as rule_defect
use Rattle.sx_stuck.specs.StuckText.{Telling, stuck_text, CanTell}
use Rattle.sx_accepting.specs.declared.refusing.Refusing.{Refusing as RefusingOf}

-- what a refused rule of an extension is told by: the grammar by which its rules are read, the
-- forms, the rules before the extension, the names of its rules, and those of the metavariables of
-- each
pub record Refusing : Type 0 where
  pub parts : Parts
  pub forms : List FormData
  pub rules : List NamedRule
  pub names : List Text
  pub vars : List (List Text)

-- the view of it
abbrev pub refusing_of : RefusingOf → Refusing
refusing_of r = record {
  parts = r.grammar.now.parts;
  forms = forms_in r.language.now.rules;
  rules = rules_in r.rules.now;
  names = r.names.now;
  vars = r.vars.now;
}

-- the names of the metavariables of the rule with this name, the first of these rules that has it
abbrev pub vars_named : List Text → List (List Text) → Text → List Text
vars_named [] vars name = []
vars_named (n ∷ names) [] name = []
vars_named (n ∷ names) (v ∷ vars) name = if bytes_eq n name then v else vars_named names vars name

-- what a stuck goal is told by, whose variables have these names
abbrev pub telling_with : Refusing → List Text → Telling
telling_with r vars =
    record { parts = r.parts; forms = r.forms; names = vars; rules = r.rules }

-- what a stuck goal of the rule with this name is told by
abbrev pub telling_for : Refusing → Text → Telling
telling_for r name = telling_with r (vars_named r.names r.vars name)

-- the stuck goal of a rule that is not sound can be told
abbrev pub CanTellDefect : Refusing → Text → RuleRefusal → Type 0
CanTellDefect r name (rule_defect.Rejected blame) = CanTell (telling_for r name) (blame_of blame)
CanTellDefect r name _ = Unit {0}

-- so it is of the rule that an error names
abbrev pub CanTellError : Refusing → AcceptError → Type 0
CanTellError r Memory = Unit {0}
CanTellError r (Rule name what) = CanTellDefect r name what

-- the rule is not sound, and this goal is stuck
abbrev pub unsound : Telling → BlameOf → Defect
unsound t blame = defect.Goal (stuck_text t (blame_of blame).goal (blame_of blame).reason)

-- why the rule with this name is refused
abbrev pub defect_of : Refusing → Text → RuleRefusal → Defect
defect_of r name (rule_defect.Rejected blame) = unsound (telling_for r name) blame
defect_of r name (rule_defect.BudgetSpent tries) = defect.Budget (budget_defect.Tries tries)
defect_of r name (rule_defect.DepthSpent depth) = defect.Budget budget_defect.Depth
defect_of r name (rule_defect.TooDeep depth) = defect.Text (text_defect.TooDeep depth)
defect_of r name (rule_defect.TooBig size) = defect.Text (text_defect.TooBig size)
defect_of r name (rule_defect.RewriteSpent nodes) = defect.Budget (budget_defect.Nodes nodes)
defect_of r name rule_defect.RewriteDeep = defect.Budget budget_defect.RewriteDepth

-- the stop of an extension that is not accepted; out of memory has none
abbrev pub acceptance_stop : Text → Refusing → AcceptError → Option Stop
acceptance_stop file r Memory = None
acceptance_stop file r (Rule name what) =
    Some (defect_at (place.Rule name) file (defect_of r name what))
