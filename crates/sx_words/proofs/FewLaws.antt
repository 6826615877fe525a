-- A command that words spell has at most 1,000,000 tries to spend.
use Rattle.std.proofs.Common.{ℕ, ◌+◌, ◌≤◌, List, [], ◌∷◌, sym, subst, inl, inr, arith}
use Rattle.sx_words.specs.declared.verb.Verb.{Verb}
use Rattle.sx_words.specs.declared.verb.Verb.TheVariants.{Build, Compile, Check, Verify}
use Rattle.sx_words.specs.Commands.{Given, core, tries, nodes, audit, Settings, Meant, builds}
use Rattle.sx_words.specs.Commands.{compiles, checks, verifies, samples, IsGiven, nothing_said}
use Rattle.sx_words.specs.Commands.{with_option, with_options, MayStand, or_most, meant}
use Rattle.sx_words.specs.Commands.{SpellsCommand}

-- no more tries than 1,000,000 are said
IsWithin : Settings → Type 0
IsWithin s = or_most s.tries ≤ 1000000

more_within : (place : ℕ) (s : Settings) (option : Given) → IsGiven option → IsWithin s → IsWithin (with_option place s option)
unfolding IsWithin with_option
more_within place s core given within = within
more_within place s (tries n) given within = given.1
more_within place s (nodes n) given within = within
more_within place s (audit kind setting) given within = within

options_within : (verb : Verb) (place : ℕ) (s : Settings) (options : List Given) → MayStand verb place s options → IsWithin s → IsWithin (with_options place s options)
options_within verb place s [] stand within = within
options_within verb place s (option ∷ options) stand within =
    options_within verb (place + 1) (with_option place s option) options stand.3 (more_within place s option stand.2 within)

none_within : IsWithin nothing_said
unfolding IsWithin
none_within = omega arith

-- the command has at most so many to spend, if it walks
abbrev pub HasFew : Meant → Type 0
HasFew (builds of_core name most_tries most_nodes audits) = most_tries ≤ 1000000
HasFew (compiles name most_tries most_nodes audits) = most_tries ≤ 1000000
HasFew (checks name most_tries most_nodes) = most_tries ≤ 1000000
HasFew (verifies of_core name) = Unit {0}
HasFew (samples number) = Unit {0}

meant_few : (verb : Verb) (s : Settings) (name : List ℕ) → IsWithin s → HasFew (meant verb s name)
unfolding IsWithin meant
meant_few Build s name within = within
meant_few Compile s name within = within
meant_few Check s name within = within
meant_few Verify s name within = tt

-- each command that words spell has few tries to spend
pub spelled_few : (words : List (List ℕ)) (command : Meant) → SpellsCommand words command → HasFew command
spelled_few words command (inl h) =
    subst HasFew (sym h.is) (meant_few h.verb (with_options 2 nothing_said h.options) h.name (options_within h.verb 2 nothing_said h.options h.stand none_within))
spelled_few words command (inr h) = subst HasFew (sym h.is) tt
