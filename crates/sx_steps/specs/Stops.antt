-- Stops that more than one command has.
use Rattle.std.specs.Prelude.{ℕ, List, codes, Option, Some, None}
use Rattle.sx_rules.specs.declared.error.RuleError.{RuleError}
use Rattle.sx_rules.specs.declared.error.RuleError.TheVariants as rule_error
use Rattle.sx_lines.specs.declared.kind.Kind.{Kind}
use Rattle.sx_lines.specs.declared.kind.Kind.TheVariants as kind
use Rattle.sx_words.specs.declared.position.Position.{Position}
use Rattle.sx_words.specs.declared.position.Position.TheVariants.{Line, Rule}
use Rattle.sx_words.specs.declared.file_defect.FileDefect.TheVariants as file_defect
use Rattle.sx_words.specs.declared.text_defect.TextDefect.TheVariants as text_defect
use Rattle.sx_words.specs.declared.rule_defect.RuleDefect.{RuleDefect}
use Rattle.sx_words.specs.declared.rule_defect.RuleDefect.TheVariants as rule_defect
use Rattle.sx_words.specs.declared.budget_defect.BudgetDefect.TheVariants as budget_defect
use Rattle.sx_words.specs.declared.refusal.Defect.{Defect}
use Rattle.sx_words.specs.declared.refusal.Defect.TheVariants as defect
use Rattle.sx_steps.specs.declared.stop.Stop.{Stop}
use Rattle.sx_steps.specs.Refusal.{about}

-- a defect of a file, at a place
abbrev pub defect_at : Position → List ℕ → Defect → Stop
defect_at place file what =
    record { file = file; refusal = record { place = place; defect = what } }

-- ---- files

-- more bytes than a file may have
abbrev pub too_long : List ℕ → Stop
too_long file = about file (defect.File file_defect.TooLong)

-- so many bytes stand before the first that are not UTF-8
abbrev pub not_utf8 : List ℕ → ℕ → Stop
not_utf8 file before = about file (defect.File (file_defect.NotUtf8 before))

-- the kind of what is bad about a line, in lower case
abbrev pub bad_kind_text : Kind → List ℕ
bad_kind_text kind.Head = codes "head"
bad_kind_text kind.Directive = codes "directive"
bad_kind_text kind.Shape = codes "shape"
bad_kind_text kind.Order = codes "order"
bad_kind_text kind.Unfinished = codes "unfinished"
bad_kind_text kind.Main = codes "main"
bad_kind_text kind.Variable = codes "variable"

-- the first bad line, and the kind of what is bad, in lower case
abbrev pub bad_line : List ℕ → ℕ → List ℕ → Stop
bad_line file line kind = defect_at (Line line) file (defect.File (file_defect.Notation kind))

-- a text, or a term of a walk or a replay, is deeper than 1,000, or has more than 1,000,000 nodes
abbrev pub too_deep : List ℕ → ℕ → Stop
too_deep file depth = about file (defect.Text (text_defect.TooDeep depth))

abbrev pub too_big : List ℕ → ℕ → Stop
too_big file size = about file (defect.Text (text_defect.TooBig size))

-- ---- rules

-- a defect of the rule with the name
abbrev pub of_rule : List ℕ → List ℕ → RuleDefect → Stop
of_rule file name what = defect_at (Rule name) file (defect.Rule what)

-- the rules are no rule set, with the names of variables as they are told; out of memory is none
-- of these
abbrev pub bad_rules : List ℕ → (ℕ → List ℕ) → RuleError → Option Stop
bad_rules file told rule_error.Memory = None
bad_rules file told rule_error.TooManyRules =
    Some (about file (defect.Rule rule_defect.TooManyRules))
bad_rules file told (rule_error.SameRule name) =
    Some (about file (defect.Rule (rule_defect.SameRule name)))
bad_rules file told (rule_error.TooManyVars name) = Some (of_rule file name rule_defect.TooManyVars)
bad_rules file told (rule_error.SortDiffers name) = Some (of_rule file name rule_defect.SortDiffers)
bad_rules file told (rule_error.Discipline name part premise) =
    Some (of_rule file name (rule_defect.Discipline part premise))
bad_rules file told (rule_error.NotModed name variable) =
    Some (of_rule file name (rule_defect.NotModed (told variable)))

-- ---- walks

-- the walk needs more tries than it may take, or is deeper than 3,000
abbrev pub tries_spent : List ℕ → ℕ → Stop
tries_spent file budget = about file (defect.Budget (budget_defect.Tries budget))

abbrev pub depth_spent : List ℕ → Stop
depth_spent file = about file (defect.Budget budget_defect.Depth)
