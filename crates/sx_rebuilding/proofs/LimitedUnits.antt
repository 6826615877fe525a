-- The unit that the steps make of a module: its list is replayed within the limits.
use Rattle.std.proofs.Common.{◌≡◌, ℕ, ◌≤◌, List, [], ◌∷◌, ◌++◌, sym, ap}
use Rattle.std.proofs.Common.{◌∙◌, subst}
use Rattle.std.specs.Prelude.{Ok}
use Rattle.sx_term.specs.declared.role.Role.{Role}
use Rattle.sx_term.specs.declared.role.Role.TheVariants.{In, Sub, Out}
use Rattle.sx_term.specs.declared.sort.Sort.{Sort}
use Rattle.sx_term.specs.Tree.{Tree, depth_of}
use Rattle.sx_grammar.specs.Tables.{literals_of}
use Rattle.sx_grammar.specs.Told.{shapes_of}
use Rattle.sx_rules.specs.declared.rule.Place.{Place}
use Rattle.sx_rules.specs.Derivations.{Derives, nodes_of}
use Rattle.sx_rules.specs.First.{DerivesGoal}
use Rattle.sx_rules.specs.Modes.{AllModed, Goal, goal_of}
use Rattle.sx_rules.specs.Orders.{order_of}
use Rattle.sx_rules.specs.Rules.{Judgement, Rule}
use Rattle.sx_rules.specs.Views.{FormData, modes_of, subjects_in, places_at, places_or_none}
use Rattle.sx_replay.specs.Fronts.{whole}
use Rattle.sx_replay.specs.Replay.{IsWithin}
use Rattle.sx_plain.specs.Plain.{image}
use Rattle.sx_rewrite.specs.Lowers.{IsImageOf}
use Rattle.sx_rewrite.specs.Puts.{IsSmallTerm}
use Rattle.sx_rewrite.specs.Stored.{signature_of}
use Rattle.sx_rewrite.proofs.Lowerings.{lowered_are_derivations}
use Rattle.sx_extcheck.specs.declared.budgets.Budgets.{Budgets}
use Rattle.sx_notation.specs.Language.{sort_when, sorts_with}
use Rattle.sx_typing.specs.Dialects.{DialectData, IsDialect}
use Rattle.sx_typing.specs.Goals.{dialect_rules}
use Rattle.sx_typing.specs.MainGoals.{input_at, main_terms, main_goal}
use Rattle.sx_typing.specs.Outcomes.{nameless}
use Rattle.sx_rules.specs.Rules.{no_hypotheses}
use Rattle.sx_typing.proofs.Walks.{typings_are_first}
use Rattle.sx_unit.specs.Modules.{ModuleData}
use Rattle.sx_unit.specs.PrintedParts.{PrintedData}
use Rattle.sx_unit.specs.Unit.{HasLowering}
use Rattle.sx_unit.specs.Written.{UnitData, IsWritten}
use Rattle.sx_outside.specs.Files.{Files}
use Rattle.sx_steps.specs.Steps.{Untried}
use Rattle.sx_steps.proofs.StepsOn.{went_on}
use Rattle.sx_uses.specs.ReadUses.{ReadsUses}
use Rattle.sx_accepting.specs.ExtendedLanguages.{unextended}
use Rattle.sx_accepting.specs.Extending.{ExtendsLanguage}
use Rattle.sx_accepting.specs.ReadLanguage.{base_in}
use Rattle.sx_headers.specs.FreeImports.{HasFreeImports}
use Rattle.sx_importing.specs.MakeEnvironment.{SeesImports}
use Rattle.sx_compiling.specs.CompileModule.{GivesUnit}
use Rattle.sx_compiling.specs.Given.{GivenModule, interfaces_in, seen_in}
use Rattle.sx_compiling.specs.Headline.{HasUnit}
use Rattle.sx_compiling.specs.MakeUnit.{MakesUnit, MakesIn, MakesSeeing, MakesExtended}
use Rattle.sx_compiling.specs.MakeUnit.{MakesReached}
use Rattle.sx_compiling.specs.Reached.{HasNamedLanguage, ReachesExtensions, HasGround, module_over}
use Rattle.sx_compiling.proofs.MadeUnits.{dialect_by, dialect_is}
use Rattle.sx_compiling.proofs.LoweredGoals.{lowered_goal}
use Rattle.sx_rebuilding.proofs.LoweredWithin.{AllSmall, lowered_few, goal_small}
use Rattle.sx_rebuilding.proofs.LoweredWithin.{lowered_within}

-- ---- what the steps make

-- what the module is made in, and its unit, made by the walk and the lowering within the budgets
pub record MadeUnit (budgets : Budgets) (files : Files) (g : GivenModule) (unit : UnitData) : Type 0
  where
    pub ground : HasGround budgets files g
    pub gives : GivesUnit (module_over ground) budgets unit

pub made_unit : (budgets : Budgets) (files : Files) (g : GivenModule) (unit : UnitData) (tries : ℕ) →
    HasNamedLanguage g → MakesUnit budgets files g (Ok unit) tries → MadeUnit budgets files g unit
made_unit budgets files g unit tries l made =
    let free = went_on
    (Untried (HasFreeImports g.file (literals_of g.language.language.parts) g.read))
    (λ done. MakesReached budgets files g) unit tries made in
    let reached = went_on
    (Untried (ReadsUses g.file g.read.header.language g.read.header.uses files))
    (MakesExtended budgets g) unit free.after free.goes in
    let xs = reached.given in
    let extended = went_on
    (ExtendsLanguage (base_in g.language) budgets xs (unextended g.language.language))
    (λ x. MakesSeeing budgets g (seen_in g xs x)) unit reached.after reached.goes in
    let s = seen_in g xs extended.given in
    let seen = went_on (Untried (SeesImports g.file s (interfaces_in g))) (MakesIn budgets g s) unit
    extended.after extended.goes in
    let from : ReachesExtensions files g = record {
      free = free.begins.0;
      extensions = xs;
      reached = reached.begins.0;
    } in
    record {
      ground = record {
        over = dialect_by budgets files g l from extended.given extended.before extended.begins;
        environment = seen.given;
        sees = seen.begins.0.0;
        depth = seen.begins.0.1;
      };
      gives = seen.goes.0;
    }

-- ---- the environment among the terms of the goal

environment_small : (places : List Place) (environment subject : Tree) (input : Sort) →
    sorts_with In places ≡ input ∷ [] → AllSmall (main_terms places environment subject) →
    IsSmallTerm environment
environment_small [] environment subject input e h = cc
environment_small (p ∷ places) environment subject input e h =
    by_role p.role p.sort e h (environment_small places environment subject input)
  where
    by_role : (role : Role) (sort : Sort) →
        sort_when In role sort ++ sorts_with In places ≡ input ∷ [] →
        AllSmall (input_at environment subject role ++ main_terms places environment subject) →
        (sorts_with In places ≡ input ∷ [] → AllSmall (main_terms places environment subject) →
        IsSmallTerm environment) → IsSmallTerm environment
    by_role In sort e h more = h.0
    by_role Sub sort e h more = more e h.1
    by_role Out sort e h more = more e h

-- ---- its derivation

module _ (budgets : Budgets) (files : Files) (g : GivenModule) (l : HasNamedLanguage g) (u : UnitData)
    (made : MadeUnit budgets files g u) where
  abbrev pub m : ModuleData
  m = module_over made.ground

  abbrev pub d : DialectData
  d = m.source.dialect

  abbrev forms : List FormData
  forms = d.language.forms

  abbrev low : HasLowering m budgets
  low = made.gives.made.lowering

  abbrev pub terms : PrintedData
  terms = low.terms

  pub is : IsDialect d
  is = dialect_is budgets files g l made.ground.over

  pub texts : IsWritten m terms low.lowered.proof u
  texts = made.gives.made.written

  pub moded : AllModed (modes_of forms) (dialect_rules d)
  moded = subst (λ (rules : List Rule). AllModed (modes_of forms) rules) (sym is.rules_are)
      is.accepted.moded

  -- the unit with this derivation
  abbrev pub unit : HasUnit budgets files g u
  unit = record {
    ground = made.ground;
    compiled = record {
      tokens = low.typing.body.tokens;
      reading = low.typing.body.reading;
      subject = low.typing.body.subject;
      read = low.typing.body.read;
      answer = low.typing.answer;
      first = typings_are_first m.source budgets.tries low.typing.body.subject low.typing.output
          low.typing.answer moded low.typing.typed;
      output = low.typing.output;
      gives = low.typing.typed.gives;
      proof = low.lowered.proof;
      judgement = low.lowered.judgement;
      lowers = low.rewriting.0;
      terms = low.terms;
      are = low.are;
      written = made.gives.made.written;
      source_tokens = made.gives.made.source_tokens;
    };
  }

  abbrev first_judgement : Judgement
  first_judgement = unit.compiled.first.derives.0

  lowered : Derives d.set.base no_hypotheses low.lowered.judgement low.lowered.proof
      × IsImageOf d.set.table (subjects_in forms) low.lowered.judgement first_judgement
  lowered =
      lowered_are_derivations (signature_of forms) (shapes_of d.language.parts) (shapes_of d.parts)
      d.set is.accepted no_hypotheses (tt, tt) low.typing.answer.0 low.lowered.proof
      first_judgement low.lowered.judgement
      (subst (λ (rules : List Rule). Derives rules no_hypotheses first_judgement
      low.typing.answer.0) is.rules_are unit.compiled.first.derives.3) low.rewriting.0

  -- the plain image of the environment
  abbrev pub environment : Tree
  environment = image d.set.table m.source.environment

  abbrev pub asked : Goal
  asked = main_goal forms d.language.main.form environment terms.subject

  goal_is : goal_of (modes_of forms) low.lowered.judgement ≡ asked
  goal_is =
      lowered_goal (image d.set.table) m.source.environment low.typing.body.subject terms.subject
      forms d.language.main.form is.main.form _ is.main.is is.main.typed first_judgement
      low.lowered.judgement unit.compiled.first.derives.1 lowered.1.same_form lowered.1.images
      low.are.subject

  pub derived : DerivesGoal (modes_of forms) (nameless d.language.rules) no_hypotheses asked
      (low.lowered.proof, terms.signature ∷ [])
  derived = (
    low.lowered.judgement,
    goal_is,
    low.are.signature,
    subst (λ (rules : List Rule). Derives rules no_hypotheses low.lowered.judgement
        low.lowered.proof) is.base lowered.0,
  )

  -- it has no more nodes than the budget
  pub few : nodes_of low.lowered.proof ≤ budgets.nodes
  few =
      lowered_few (modes_of forms) (nameless d.language.rules) (signature_of forms)
      (shapes_of d.language.parts) (shapes_of d.parts) d.set is.accepted is.base
      low.typing.answer.0 budgets.nodes low.lowered low.rewriting

  -- the plain image of the environment is not too deep
  pub depth : depth_of environment ≤ 1000
  depth =
      (environment_small (places_at forms d.language.main.form) environment terms.subject _
      (ap (λ f. sorts_with In (places_or_none f)) is.main.is ∙ is.main.input)
      (goal_small (modes_of forms) (nameless d.language.rules) (signature_of forms)
      (shapes_of d.language.parts) (shapes_of d.parts) d.set is.accepted is.base
      low.typing.answer.0 budgets.nodes low.lowered low.rewriting asked (terms.signature ∷ [])
      derived)).0

  -- and its list is replayed within the limits
  pub within : IsWithin (modes_of forms) (nameless d.language.rules) no_hypotheses asked
      (whole (terms.signature ∷ [])) (order_of low.lowered.proof)
  within =
      lowered_within (modes_of forms) (nameless d.language.rules)
      (signature_of forms) (shapes_of d.language.parts) (shapes_of d.parts) d.set is.accepted
      is.base low.typing.answer.0 budgets.nodes low.lowered low.rewriting asked
      (terms.signature ∷ []) derived
