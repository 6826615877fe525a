-- Commands without auditors come to what their steps come to.
use Rattle.std.proofs.Common.{◌≡◌, ℕ, false, List, [], ◌∷◌, map, refl, sym, ap, subst}
use Rattle.std.proofs.Common.{◌∙◌}
use Rattle.std.specs.Prelude.{Result, Ok, Err}
use Rattle.sx_outside.specs.Files.{Files}
use Rattle.sx_words.specs.Commands.{AuditWord, Meant, builds, compiles, verifies, SpellsCommand}
use Rattle.sx_words.proofs.CommandLaws.{one_command}
use Rattle.sx_words.proofs.OneAnswer.{no_misfit}
use Rattle.sx_audit.specs.Meaning.{Meaning}
use Rattle.sx_auditing.specs.Naming.{unset, set_ones, Names}
use Rattle.sx_steps.specs.declared.step_error.StepError.{StepError}
use Rattle.sx_steps.specs.declared.step_error.StepError.TheVariants as errors
use Rattle.sx_steps.specs.declared.stop.Stop.{Stop}
use Rattle.sx_steps.specs.Agree.{IsSure}
use Rattle.sx_steps.specs.Steps.{Untried, GoesOn}
use Rattle.sx_steps.specs.Work.{Plan}
use Rattle.sx_steps.proofs.Ones.{ok_same}
use Rattle.sx_steps.proofs.StepsOn.{went_on}
use Rattle.sx_rebuilding.proofs.SpelledBuilds.{spelled_build}
use Rattle.sx_build.specs.BuildModules.{BuildsModule}
use Rattle.sx_rebuilding.specs.Again.{CompilingRepeatsBuilding}
use Rattle.sx_rebuilding.specs.VerifyAgain.{VerifyingFollowsBuilding}
use Rattle.sx_top.specs.Calls.{Call}
use Rattle.sx_top.specs.Commands.{Commands}
use Rattle.sx_rebuilding.specs.GivenAgain.{CompileRepeatsBuild, VerifyFollowsBuild}
use Rattle.sx_top.specs.Outcome.{budgets_of, audits_of, NamesFor, Runs, RunsFor, RunOutcome}

-- none of those that are handed in is set
none_set : (handed : List Meaning) → set_ones (map unset handed) ≡ []
none_set [] = refl
none_set (m ∷ handed) = none_set handed

-- without words no auditor is kept
unnamed_kept : (handed kept : List Meaning) → Names handed [] (Ok kept) → kept ≡ []
unnamed_kept handed kept h =
    let same : map unset handed ≡ h.0 = sym (ok_same h.0 (map unset handed) h.1) in
    h.2 ∙ ap set_ones (sym same) ∙ none_set handed

module _ (c : Call) (command : Meant) (spelled : SpellsCommand c.words command)
    (none : audits_of command ≡ []) (files : Files) (result : Result Plan StepError)
    (sure : IsSure result) where
  -- the steps of the command, without auditors, and their tries
  abbrev Ran : Type 0
  Ran = (tries : ℕ) × Runs command [] files result tries

  kept_none : (named : List Meaning) → NamesFor c.auditors command (Ok named) → named ≡ []
  kept_none named h =
      unnamed_kept c.auditors named
      (subst (λ (words : List AuditWord). Names c.auditors words (Ok named)) none h)

  never_misnamed : (stop : Stop) → NamesFor c.auditors command (Err stop) → ⊥
  never_misnamed stop h =
      let at : Names c.auditors [] (Err stop) =
      subst (λ (words : List AuditWord). Names c.auditors words (Err stop)) none h in
      absurd cc

  after_names : (given : Result (List Meaning) StepError) (before after : ℕ) →
      Untried (NamesFor c.auditors command) given before →
      GoesOn (λ named. Runs command named files) given result after → Ran
  after_names (Ok named) before after begins goes = (
    after,
    subst (λ (ms : List Meaning). Runs command ms files result after)
        (kept_none named begins.0) goes,
  )
  after_names (Err errors.Memory) before after begins goes =
      absurd (subst IsSure goes.0 sure)
  after_names (Err (errors.Stopped stop)) before after begins goes =
      absurd (never_misnamed stop begins.0)

  after_command : (given : Result Meant StepError) (before after : ℕ) →
      Untried (Commands c.words) given before →
      GoesOn (RunsFor c.auditors files) given result after → Ran
  after_command (Ok other) before after begins goes =
      let same = one_command c.words other command begins.0 spelled in
      let here : RunsFor c.auditors files command result after =
      subst (λ (k : Meant). RunsFor c.auditors files k result after) same goes in
      after_names here.given here.before here.after here.begins here.goes
  after_command (Err errors.Memory) before after begins goes =
      absurd (subst IsSure goes.0 sure)
  after_command (Err (errors.Stopped stop)) before after begins goes =
      let misfit = begins.0 in
      absurd (no_misfit c.words command misfit.0 spelled misfit.1)

  pub ran : (made : ℕ) → RunOutcome c files result made → Ran
  unfolding RunOutcome
  ran made h = after_command h.given h.before h.after h.begins h.goes

-- the steps of the build that a call spells, with the auditors that it names
pub record Built (c : Call) (name : List ℕ) (tries nodes : ℕ) (old : Files) (plan : Plan) :
    Type 0 where
  named : List Meaning
  made : ℕ
  builds_by : BuildsModule name (budgets_of tries nodes) named old (Ok plan) made

built_by : (c : Call) (name : List ℕ) (tries nodes : ℕ) (audits : List AuditWord)
    (old : Files) (plan : Plan) (made : ℕ) →
    SpellsCommand c.words (builds false name tries nodes audits) → RunOutcome c old (Ok plan) made →
    Built c name tries nodes old plan
unfolding RunOutcome
built_by c name tries nodes audits old plan made spelled comes =
    let command = builds false name tries nodes audits in
    let steps = went_on _ _ _ made comes in
    let same = one_command c.words steps.given command steps.begins.0 spelled in
    let here : RunsFor c.auditors old command (Ok plan) steps.after =
    subst (λ (k : Meant). RunsFor c.auditors old k (Ok plan) steps.after) same steps.goes in
    let runs = went_on _ _ _ steps.after here in
    record { named = runs.given; made = runs.after; builds_by = runs.goes }

pub compile_repeats_build : CompilingRepeatsBuilding → CompileRepeatsBuild
compile_repeats_build repeated b c name tries nodes old new built m reached spelled result made h
    sure =
    let whole = ran b (builds false name tries nodes []) built.spells refl old (Ok built.plan) tt
    built.made built.comes in
    let again = ran c (compiles m.header.name tries nodes []) spelled refl new result sure made h
    in
    repeated name (budgets_of tries nodes) old new built.plan whole.0 whole.1 built.leaves
    reached.0 reached.1 m reached.2 result again.0 again.1 sure

pub verify_follows_build : VerifyingFollowsBuilding → VerifyFollowsBuild
verify_follows_build verified b c name tries nodes audits old new built m reached spelled result
    made h sure =
    let whole = built_by b name tries nodes audits old built.plan built.made built.spells
    built.comes in
    let again = ran c (verifies false m.header.name) spelled refl new result sure made h in
    let says = spelled_build b.words name tries nodes audits built.spells in
    verified name (budgets_of tries nodes) whole.named old new built.plan whole.made says.0 says.1
    whole.builds_by built.leaves reached.0 reached.1 m reached.2 result again.0 again.1 sure
