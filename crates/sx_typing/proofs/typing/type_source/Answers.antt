use Rattle.std.proofs.Common.{ℕ, [], None, ◌+◌, ◌≤◌, ap, ◌∙◌, sym, subst}
use Rattle.std.specs.Prelude.{Result, Ok, Err}
use Rattle.sx_term.specs.Term.{tree}
use Rattle.sx_grammar.specs.Told.{shapes_of}
use Rattle.sx_rules.specs.Deep.{AreShallow}
use Rattle.sx_rules.specs.Modes.{Goal}
use Rattle.sx_rules.specs.Views.{goal as goal_of}
use Rattle.sx_rules.proofs.Refusals.{good_moded}
use Rattle.sx_derive.specs.declared.derive_error.DeriveError.{DeriveError}
use Rattle.sx_derive.specs.declared.listed.Listed.{Listed}
use Rattle.sx_derive.specs.Deriving.{AreCounted}
use Rattle.sx_derive.specs.Search.{tries_of}
use Rattle.sx_derive.proofs.FewNodes.{tries_within}
use Rattle.sx_typing.specs.Goals.{source_events}
use Rattle.sx_typing.specs.BodySource.{source_of}
use Rattle.sx_typing.proofs.MainForms.{main_form_within}
use Rattle.sx_typing.proofs.TypedBodies.{source_goal, found_good, one_listed, typed_by}
use Rattle.sx_typing.proofs.Tries.{tried, counted_most}
use Rattle.sx_typing.proofs.Walks.{final_if}
use Rattle.sx_typing.proofs.typing.type_source.Goals as goal
use Rattle.sx_typing.proofs.typing.type_source.Goals.{Start}

-- how many tries the walk of the goal makes
abbrev made : (g : _) → Start g → ℕ
made g c = tries_of None c.args.tries
    (source_events (source_of c.args.source.now) (tree c.args.body.now.term))

-- the steps rise by no more than the tries that may be made
few_steps : (g : _) (c : Start g) (last : ℕ) (r : Result Listed DeriveError) →
    AreCounted (made g c) c.args.steps.now last r → last ≤ c.args.steps.now + c.args.tries
few_steps g c last r =
    counted_most (made g c) c.args.steps.now last c.args.tries r
    (tries_within None c.args.tries
    (source_events (source_of c.args.source.now) (tree c.args.body.now.term)))

pub main_goal-requires-clause-form : goal.main_goal-requires-clause-form
main_goal-requires-clause-form g c =
    main_form_within (source_of c.args.source.now).dialect c.requires.can.dialect.is

pub search-requires-clause-shallow : goal.search-requires-clause-shallow
search-requires-clause-shallow g c =
    let s = source_of c.args.source.now in
    let good =
    source_goal s c.requires.can.dialect.is (tree c.args.body.now.term) c.requires.can.environment
    c.requires.good in
    subst AreShallow (sym (ap (λ (x : Goal). x.terms) c.in_ok-goal.ensures)) good.shallow

pub typed-requires : goal.typed-requires
typed-requires g c =
    let s = source_of c.args.source.now in
    let found = c.in-Ok.ensures.answer in
    let good =
    found_good s c.requires.can.dialect.is (tree c.args.body.now.term) c.requires.can.environment
    c.requires.good c.args.tries found.0 found.1 in
    one_listed c.in-Ok.listed found.0 good.output found.2 good.one

pub returns-in-Ok-clause-typed : goal.returns-in-Ok-clause-typed
returns-in-Ok-clause-typed g c =
    let s = source_of c.args.source.now in
    let subject = tree c.args.body.now.term in
    let found = c.in-Ok.ensures.answer in
    let good =
    found_good s c.requires.can.dialect.is subject c.requires.can.environment c.requires.good
    c.args.tries found.0 found.1 in
    typed_by s c.args.tries subject c.in-Ok.listed found.0 c.typed.result found.1 found.2
    (ap goal_of c.typed.ensures.0 ∙ c.in_ok-goal.ensures) c.typed.ensures.1 c.typed.ensures.2 good

pub returns-in-Ok-clause-most : goal.returns-in-Ok-clause-most
returns-in-Ok-clause-most g c =
    few_steps g (goal.at.returns-in-Ok-clause-most g c).Start c.search.new.steps
    (Ok c.in-Ok.listed) c.in-Ok.ensures.steps

pub no_derivation-requires-clause-error : goal.no_derivation-requires-clause-error
no_derivation-requires-clause-error g c = (c.args.tries, c.in-Err.ensures.answer)

pub returns-in-Err-clause-refused : goal.returns-in-Err-clause-refused
returns-in-Err-clause-refused g c =
    c.no_derivation.ensures.bad c.args.tries c.in-Err.ensures.answer

pub returns-in-Err-clause-untyped : goal.returns-in-Err-clause-untyped
returns-in-Err-clause-untyped g c =
    let s = source_of c.args.source.now in
    let is = c.requires.can.dialect.is in
    final_if s c.args.tries c.no_derivation.result
    (good_moded (shapes_of s.dialect.parts) s.dialect.language.forms [] s.dialect.rules
    is.rule_set.1)
    (c.no_derivation.ensures.bad c.args.tries c.in-Err.ensures.answer)

pub returns-in-Err-clause-tries : goal.returns-in-Err-clause-tries
returns-in-Err-clause-tries g c =
    tried (made g (goal.at.returns-in-Err-clause-tries g c).Start) c.args.steps.now
    c.search.new.steps c.in-Err.error c.no_derivation.result c.in-Err.ensures.steps
    c.no_derivation.ensures.memory

pub returns-in-Err-clause-most : goal.returns-in-Err-clause-most
returns-in-Err-clause-most g c =
    few_steps g (goal.at.returns-in-Err-clause-most g c).Start c.search.new.steps
    (Err c.in-Err.error) c.in-Err.ensures.steps
