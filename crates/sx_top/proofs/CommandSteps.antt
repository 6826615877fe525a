-- The steps of each command that words spell, and what they come to.
use Rattle.std.proofs.Common.{◌≡◌, ℕ, ◌≤◌, Bool, true, false, List, map, sym, subst, inl, inr}
use Rattle.std.proofs.Common.{arith}
use Rattle.std.specs.Global.{Vec}
use Rattle.std.specs.Prelude.{Result, Err}
use Rattle.sx_words.specs.Commands.{AuditWord, Meant, builds, compiles, checks, verifies, samples}
use Rattle.sx_words.specs.Commands.{SpellsNamed, with_options, nothing_said, meant}
use Rattle.sx_words.proofs.FewLaws.{HasFew, spelled_few}
use Rattle.sx_audit.specs.Meaning.{Meaning}
use Rattle.sx_auditing.specs.Naming.{Names}
use Rattle.sx_extcheck.specs.declared.budgets.Budgets.{Budgets}
use Rattle.sx_outside.specs.Files.{Files}
use Rattle.sx_steps.specs.declared.step_error.StepError.{StepError}
use Rattle.sx_steps.specs.declared.stop.Stop.{Stop}
use Rattle.sx_steps.specs.Steps.{Untried}
use Rattle.sx_steps.specs.Stop.{Gives, Does}
use Rattle.sx_steps.specs.Work.{Plan, plan_of}
use Rattle.sx_steps.proofs.StepsOn.{stops_at, untried}
use Rattle.sx_build.specs.BuildModules.{BuildsModule}
use Rattle.sx_verify.specs.VerifyModule.{VerifiesModule}
use Rattle.sx_words.specs.Commands.{SpellsCommand}
use Rattle.sx_top.specs.Commands.{IsWithinBudget}
use Rattle.sx_top.specs.Outcome.{budgets_of, audits_of, NamesFor, Runs, RunsFor}
use Rattle.sx_top.specs.VerifyCore.{VerifiesWhole}

-- words that begin with a command that is given a name spell no sample
no_sample : (words : List (List ℕ)) (number : ℕ) → SpellsNamed words (samples number) → ⊥
unfolding meant
no_sample words number h =
    let is : samples number ≡ meant h.verb (with_options 2 nothing_said h.options) h.name = h.is in
    grind (arith, is)

same_number : (one other : ℕ) → samples one ≡ samples other → one ≡ other
same_number one other is = cc

within_by : (words : List (List ℕ)) (command : Meant) → SpellsCommand words command →
    HasFew command → IsWithinBudget command
within_by words (builds of_core name tries nodes audits) spelled few = few
within_by words (compiles name tries nodes audits) spelled few = tt
within_by words (checks name tries nodes) spelled few = tt
within_by words (verifies of_core name) spelled few = tt
within_by words (samples number) (inl h) few = absurd (no_sample words number h)
within_by words (samples number) (inr h) few =
    let is : samples number ≡ samples h.number = h.is in
    subst (λ (n : ℕ). (1 ≤ n) × (n ≤ 300)) (sym (same_number number h.number is))
    (h.least, h.most)

-- what words spell is within the limits
pub spelled_within : (words : List (List ℕ)) (command : Meant) → SpellsCommand words command →
    IsWithinBudget command
spelled_within words command spelled =
    within_by words command spelled (spelled_few words command spelled)

-- a command to build without a core file builds a module within the budgets
pub runs_module : (of_core : Bool) (name : List ℕ) (tries nodes : ℕ) (audits : List AuditWord)
    (budgets : Budgets) (named : List Meaning) (files : Files) (result : Result Plan StepError)
    (made : ℕ) → of_core ≡ false → budgets ≡ budgets_of tries nodes →
    BuildsModule name budgets named files result made →
    Runs (builds of_core name tries nodes audits) named files result made
runs_module true name tries nodes audits budgets named files result made e same built = absurd cc
runs_module false name tries nodes audits budgets named files result made e same built =
    subst (λ (b : Budgets). BuildsModule name b named files result made) same built

-- a command to verify with a core file verifies what was built for that
pub runs_verify_core : (of_core : Bool) (name : List ℕ) (named : List Meaning) (files : Files)
    (result : Result Plan StepError) (made : ℕ) → of_core ≡ true →
    Untried (VerifiesWhole name files) result made →
    Runs (verifies of_core name) named files result made
runs_verify_core true name named files result made e verified = verified
runs_verify_core false name named files result made e verified = absurd cc

-- and without one a module
pub runs_verify_module : (of_core : Bool) (name : List ℕ) (named : List Meaning) (files : Files)
    (result : Result Plan StepError) (made : ℕ) → of_core ≡ false →
    Untried (VerifiesModule name files) result made →
    Runs (verifies of_core name) named files result made
runs_verify_module true name named files result made e verified = absurd cc
runs_verify_module false name named files result made e verified = verified

-- auditors under words that are those of the command
pub names_for : (handed : List Meaning) (command : Meant) (audits : List AuditWord)
    (result : Result (List Meaning) Stop) → audits ≡ audits_of command →
    Names handed audits result → NamesFor handed command result
names_for handed command audits result same names =
    subst (λ (words : List AuditWord). Names handed words result) same names

-- where the words name none, no step follows
pub unnamed : {B : Type 0} (handed : Vec B) (view : B → Meaning) (files : Files) (command : Meant)
    (audits : List AuditWord) (e : StepError) (steps : ℕ) → audits ≡ audits_of command →
    Gives (λ (v : Vec B). map view v.items) (Names (map view handed.items) audits) (Err e) →
    Does plan_of (RunsFor (map view handed.items) files command) (Err e) steps steps
unnamed {B} handed view files command audits e steps same none =
    let named = λ (v : Vec B). map view v.items in
    let own = map view handed.items in
    stops_at named plan_of (Untried (NamesFor own command)) (λ set. Runs command set files) e steps
    steps (untried named (NamesFor own command) (Err e) steps
    (subst (λ (words : List AuditWord). Gives named (Names own words) (Err e)) same none))
