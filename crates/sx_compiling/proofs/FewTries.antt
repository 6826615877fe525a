-- How many tries a unit takes at most.
use Rattle.std.proofs.Common.{◌≡◌, ℕ, suc, ◌+◌, ◌*◌, ◌≤◌, List, length, inl, inr, refl, sym, ap}
use Rattle.std.proofs.Common.{subst, arith}
use Rattle.std.specs.Prelude.{Result, Ok, Err, None}
use Rattle.sx_grammar.specs.Tables.{literals_of}
use Rattle.sx_rules.specs.Views.{NamedRule}
use Rattle.sx_derive.proofs.FewNodes.{tries_within}
use Rattle.sx_extcheck.specs.declared.budgets.Budgets.{Budgets}
use Rattle.sx_typing.specs.Goals.{source_events}
use Rattle.sx_typing.specs.Refused.{HasWalked}
use Rattle.sx_typing.specs.BodySource.{BodySource}
use Rattle.sx_unit.specs.Written.{UnitData}
use Rattle.sx_environment.specs.SeenFrom.{SeenFrom}
use Rattle.sx_outside.specs.Files.{Files}
use Rattle.sx_steps.specs.declared.step_error.StepError.{StepError}
use Rattle.sx_steps.specs.Steps.{GoesOn}
use Rattle.sx_steps.proofs.Ones.{ok_no_err}
use Rattle.sx_uses.specs.ExtensionFile.{Extension}
use Rattle.sx_uses.specs.ReadUses.{ReadsUses}
use Rattle.sx_accepting.specs.ExtendedLanguages.{ExtendedData, unextended}
use Rattle.sx_accepting.specs.Extending.{ExtendsLanguage}
use Rattle.sx_accepting.specs.ReadLanguage.{base_in}
use Rattle.sx_headers.specs.FreeImports.{HasFreeImports}
use Rattle.sx_importing.specs.MakeEnvironment.{SeesImports}
use Rattle.sx_compiling.specs.CompileModule.{Compiles, CompilingTries}
use Rattle.sx_compiling.specs.Given.{GivenModule, interfaces_in, seen_in, module_seen}
use Rattle.sx_compiling.specs.MakeUnit.{MakesIn, MakesSeeing, MakesExtended, MakesReached}
use Rattle.sx_compiling.specs.MakeUnit.{MakesUnit}
use Rattle.sx_compiling.specs.Reached.{HasNamedLanguage, ReachesExtensions, HasDialect}
use Rattle.sx_compiling.specs.Laws.{UnitsWalksAreWithin}
use Rattle.sx_compiling.proofs.MadeUnits.{dialect_by}
use Rattle.sx_compiling.proofs.RuleTries.{sum_within, one_budget, more_within, Within}
use Rattle.sx_compiling.proofs.RuleTries.{last_none, extends_within, kept_within}
use Rattle.sx_compiling.proofs.StepTries.{Most, trying_most, untried_most, passed}

-- the tries of a walk are at most those that it may spend
within_budget : (s : BodySource) (budget tries : ℕ) → HasWalked s budget tries → tries ≤ budget
within_budget s budget tries (inl walked) =
    let few = tries_within None budget (source_events s walked.0.subject) in
    let is = walked.1 in
    omega arith
within_budget s budget tries (inr none) = let is = none.1 in omega arith

module _ (budgets : Budgets) (files : Files) (g : GivenModule) (l : HasNamedLanguage g) where
  seeing_most : (s : SeenFrom) → Most (MakesSeeing budgets g s) budgets.tries
  seeing_most s =
      untried_most (SeesImports g.file s (interfaces_in g)) (MakesIn budgets g s) budgets.tries
      (λ t sees. trying_most (CompilingTries budgets (module_seen g s t))
      (Compiles g.file budgets (module_seen g s t)) budgets.tries
      (within_budget (module_seen g s t).source budgets.tries))

  abbrev start : ExtendedData
  start = unextended g.language.language

  language_few : length g.language.language.rules ≤ 4096
  language_few =
      subst (λ (rules : List NamedRule). length rules ≤ 4096)
      (sym (ap (λ d. d.rules) l.states.language)) l.states.states.rule_set.0

  within_all : (result : Result ExtendedData StepError) (tries : ℕ) →
      Within budgets.tries start result tries → tries ≤ 4096 * budgets.tries
  within_all (Ok x) tries (count, few, rules, kept, all) =
      more_within tries count 4096 budgets.tries (omega (arith, rules, all)) few
  within_all (Err e) tries (count, few, all) =
      more_within tries count 4096 budgets.tries (omega (arith, all)) few

  as_one : (n : ℕ) → n ≤ budgets.tries → n ≤ 1 * budgets.tries
  as_one n h = subst (λ (most : ℕ). n ≤ most) (sym (one_budget budgets.tries)) h

  module _ (r : ReachesExtensions files g) where
    abbrev extending : Result ExtendedData StepError → ℕ → Type 0
    extending = ExtendsLanguage (base_in g.language) budgets r.extensions start

    -- after them
    abbrev next : ExtendedData → Result UnitData StepError → ℕ → Type 0
    next x = MakesSeeing budgets g (seen_in g r.extensions x)

    within : (result : Result ExtendedData StepError) (tries : ℕ) → extending result tries →
        Within budgets.tries start result tries
    within result tries h =
        extends_within (base_in g.language) budgets r.extensions start result tries language_few h

    all_most : Most (MakesExtended budgets g r.extensions) (4097 * budgets.tries)
    all_most result tries h = from h.given h.before h.after h.begins h.goes h.sum
      where
        from : (given : Result ExtendedData StepError) (before after : ℕ) →
            extending given before → GoesOn next given result after → tries ≡ before + after →
            tries ≤ 4097 * budgets.tries
        from (Ok x) before after begins goes sum =
            subst (λ (n : ℕ). n ≤ 4097 * budgets.tries) (sym sum)
            (sum_within before after 4096 1 budgets.tries
            (within_all (Ok x) before (within (Ok x) before begins))
            (as_one after (seeing_most (seen_in g r.extensions x) result after goes)))
        from (Err e) before after begins goes sum =
            more_within tries 4096 4097 budgets.tries (omega arith)
            (subst (λ (n : ℕ). n ≤ 4096 * budgets.tries)
            (sym (last_none tries before after sum goes.1))
            (within_all (Err e) before (within (Err e) before begins)))

    made_most : (unit : UnitData) (tries : ℕ) →
        MakesExtended budgets g r.extensions (Ok unit) tries → (d : HasDialect budgets files g)
        × (tries ≤ suc (length d.extended.set.kept.more) * budgets.tries)
    made_most unit tries h = from h.given h.before h.after h.begins h.goes h.sum
      where
        from : (given : Result ExtendedData StepError) (before after : ℕ) →
            extending given before → GoesOn next given (Ok unit) after →
            tries ≡ before + after → (d : HasDialect budgets files g)
            × (tries ≤ suc (length d.extended.set.kept.more) * budgets.tries)
        from (Ok x) before after begins goes sum = (
          dialect_by budgets files g l r x before begins,
          kept_within budgets.tries start x tries before after refl sum
              (within (Ok x) before begins)
              (as_one after (seeing_most (seen_in g r.extensions x) (Ok unit) after goes)),
        )
        from (Err e) before after begins goes sum = absurd (ok_no_err unit e goes.0)

  -- what is reached so
  abbrev reached_so : HasFreeImports g.file (literals_of g.language.language.parts) g.read
      (Ok tt) → (xs : List Extension) →
      ReadsUses g.file g.read.header.language g.read.header.uses files (Ok xs) → ReachesExtensions files g
  reached_so free xs reached = record { free = free; extensions = xs; reached = reached }

  all_most_from : Most (MakesUnit budgets files g) (4097 * budgets.tries)
  all_most_from =
      untried_most (HasFreeImports g.file (literals_of g.language.language.parts) g.read)
      (λ done. MakesReached budgets files g) (4097 * budgets.tries)
      (λ done free. untried_most
      (ReadsUses g.file g.read.header.language g.read.header.uses files)
      (MakesExtended budgets g) (4097 * budgets.tries)
      (λ xs reached. all_most (reached_so free xs reached)))

  made_within : (unit : UnitData) (tries : ℕ) → MakesUnit budgets files g (Ok unit) tries →
      (d : HasDialect budgets files g)
      × (tries ≤ suc (length d.extended.set.kept.more) * budgets.tries)
  made_within unit tries made =
      let free = passed (HasFreeImports g.file (literals_of g.language.language.parts) g.read)
      (λ done. MakesReached budgets files g) unit tries made in
      let reached = passed
      (ReadsUses g.file g.read.header.language g.read.header.uses files)
      (MakesExtended budgets g) unit tries free.goes in
      made_most (reached_so free.begins reached.given reached.begins) unit tries reached.goes

pub walks_are_within : UnitsWalksAreWithin
walks_are_within = record {
  made = λ budgets files g unit tries l. made_within budgets files g l unit tries;
  all = λ budgets files g result tries l. all_most_from budgets files g l result tries;
}
