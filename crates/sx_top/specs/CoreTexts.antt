-- The texts of a core problem: names of forms and rules, and the three files of a derivation.
use Rattle.std.specs.Prelude.{ℕ, ◌+◌, List, [], ◌∷◌, ◌++◌, map, Option, Some, None, slice_get}
use Rattle.std.specs.Prelude.{codes, decimal}
use Rattle.sx_term.specs.Tree.{Tree}
use Rattle.sx_term.specs.Core.{core}
use Rattle.sx_term.specs.declared.role.Role.{Role}
use Rattle.sx_term.specs.declared.role.Role.TheVariants.{In, Sub, Out}
use Rattle.sx_rules.specs.Views.{FormData, NamedRule, places_at}
use Rattle.sx_rules.specs.Modes.{Goal}
use Rattle.sx_rules.specs.Orders.{Entry, of_given, of_rule}

-- the roles of a form's places
abbrev pub form_roles : List FormData → ℕ → List Role
form_roles forms number = map (λ place. place.role) (places_at forms number)

abbrev pub form_name_or_none : Option FormData → List ℕ
form_name_or_none None = []
form_name_or_none (Some form) = form.name

-- the name of the form with this number
abbrev pub form_name : List FormData → ℕ → List ℕ
form_name forms number = form_name_or_none (slice_get forms number)

-- the subject among the inputs
abbrev pub subjects : List Role → List Tree → List Tree
subjects [] terms = []
subjects (Out ∷ roles) terms = subjects roles terms
subjects (In ∷ roles) [] = []
subjects (In ∷ roles) (term ∷ terms) = subjects roles terms
subjects (Sub ∷ roles) [] = []
subjects (Sub ∷ roles) (term ∷ terms) = term ∷ subjects roles terms

-- each core text on a line
abbrev pub term_lines : List Tree → List ℕ
term_lines [] = []
term_lines (term ∷ terms) = core term ++ 10 ∷ term_lines terms

-- the core text of the goal's subject, on a line
abbrev pub subject_text : List FormData → Goal → List ℕ
subject_text forms goal = term_lines (subjects (form_roles forms goal.form) goal.terms)

abbrev pub rule_name_or_none : Option NamedRule → List ℕ
rule_name_or_none None = []
rule_name_or_none (Some rule) = rule.name

-- the name of the rule with this number
abbrev pub core_rule_name : List NamedRule → ℕ → List ℕ
core_rule_name rules number = rule_name_or_none (slice_get rules number)

-- a rule's name, or `given` and the number of the given, counted from 1
abbrev pub core_entry_text : List NamedRule → Entry → List ℕ
core_entry_text rules (of_rule number) = core_rule_name rules number
core_entry_text rules (of_given number) = codes "given " ++ decimal (number + 1)

-- each entry on a line
abbrev pub entry_lines : List NamedRule → List Entry → List ℕ
entry_lines rules [] = []
entry_lines rules (entry ∷ entries) = core_entry_text rules entry ++ 10 ∷ entry_lines rules entries

-- the text of a list
abbrev pub list_text : List NamedRule → List Entry → List ℕ
list_text rules entries = codes "sxder 1" ++ 10 ∷ entry_lines rules entries
