-- Ways to variables, and which places of forms are subjects.
use Rattle.std.specs.Prelude.{◌≡◌, ℕ, Bool, true, false, List, ◌++◌, Option, Some, None}
use Rattle.sx_rules.specs.declared.rule_set.RuleSet.{RuleSet}
use Rattle.sx_rules.specs.Modes.{Modes}
use Rattle.sx_rules.specs.Views.{forms, subjects_in}

-- for each form of the set, which of its places are subjects
abbrev pub subject_modes : RuleSet → Modes
subject_modes set = subjects_in (forms set.forms.items)

-- the path is longer by the way, where there is one, and is else as before
abbrev pub IsWay : List ℕ → List ℕ → Option (List ℕ) → Bool → Type 0
IsWay old new None found = (found ≡ false) × (new ≡ old)
IsWay old new (Some way) found = (found ≡ true) × (new ≡ old ++ way)
