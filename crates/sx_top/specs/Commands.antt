-- The step that reads the words, and the command that they spell.
use Rattle.std.specs.Prelude.{◌≡◌, ℕ, ◌≤◌, List, Result, Ok, Err}
use Rattle.sx_words.specs.Commands.{Meant, builds, compiles, checks, verifies, samples}
use Rattle.sx_words.specs.Commands.{SpellsCommand, IsWordMisfit}
use Rattle.sx_steps.specs.declared.stop.Stop.{Stop}
use Rattle.sx_steps.specs.Refusal.{bad_word}
use Rattle.sx_term.specs.Limits.{most_budget}

-- the command that the words spell, or the first word after which no command can follow
abbrev pub Commands : List (List ℕ) → Result Meant Stop → Type 0
Commands words (Ok command) = SpellsCommand words command
Commands words (Err stop) = (place : ℕ) × IsWordMisfit words place × (stop ≡ bad_word place)

-- a build has at most 1,000,000 tries to spend, and a sample from 1 to 300 names
abbrev pub IsWithinBudget : Meant → Type 0
IsWithinBudget (builds of_core name tries nodes audits) = tries ≤ most_budget
IsWithinBudget (checks name tries nodes) = Unit {0}
IsWithinBudget (compiles name tries nodes audits) = Unit {0}
IsWithinBudget (verifies of_core name) = Unit {0}
IsWithinBudget (samples number) = (1 ≤ number) × (number ≤ 300)
