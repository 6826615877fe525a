-- `build --core` keeps its promise.
use Rattle.std.proofs.Common.{◌≡◌, ℕ, List, sym, ap, ◌∙◌, subst}
use Rattle.std.specs.Prelude.{Ok, None}
use Rattle.sx_outside.specs.Files.{Files, after_writes}
use Rattle.sx_rules.specs.Views.{modes_of}
use Rattle.sx_rules.specs.Modes.{AllModed}
use Rattle.sx_rules.specs.First.{Answer}
use Rattle.sx_rules.specs.Orders.{order_of}
use Rattle.sx_core.specs.Problem.{Problem}
use Rattle.sx_derive.specs.Search.{Ending, found, stopped, spent, exhausted, walk}
use Rattle.sx_derive.proofs.Walked.{found_is_first}
use Rattle.sx_top.specs.CoreTexts.{subject_text, list_text, term_lines}
use Rattle.sx_top.specs.ReadCore.{core_file}
use Rattle.sx_top.specs.FindFirst.{problem_rules, IsFirstOf}
use Rattle.sx_rules.specs.Rules.{no_hypotheses}
use Rattle.sx_top.specs.Search.{core_goal_events, SearchComesTo, Searches}
use Rattle.sx_steps.specs.Work.{Plan}
use Rattle.sx_top.specs.BuildCore.{core_plan, BuildsWhole, BuiltUnit}
use Rattle.sx_steps.proofs.StepsOn.{went, went_on}
use Rattle.sx_steps.proofs.Units.{written}
use Rattle.sx_top.proofs.Propers.{proper}

-- a walk that comes to an answer found it
pub comes_found : (file : List ℕ) (problem : Problem) (budget : ℕ) (ending : Ending) (answer : Answer) → SearchComesTo file problem budget ending (Ok answer) → ending ≡ found answer
comes_found file problem budget (found other) answer comes = let same : other ≡ answer = cc in ap found same
comes_found file problem budget (stopped cause) answer comes = absurd cc
comes_found file problem budget spent answer comes = absurd cc
comes_found file problem budget exhausted answer comes = let none = comes.2 in absurd cc

pub searches_first : (file : List ℕ) (budget : ℕ) (problem : Problem) (answer : Answer) → AllModed (modes_of problem.forms) (problem_rules problem) → Searches file budget problem (Ok answer) → IsFirstOf problem answer
searches_first file budget problem answer moded searches =
    found_is_first (modes_of problem.forms) (problem_rules problem) no_hypotheses moded problem.goal None budget 1 answer
    (comes_found file problem budget (walk None budget (core_goal_events problem)) answer searches)

pub build_promise : (name : List ℕ) (budget : ℕ) (old new : Files) (plan : Plan) (tries : ℕ) → BuildsWhole name budget old (Ok plan) tries → new ≡ after_writes plan.files old → BuiltUnit name old new plan.lines
unfolding core_plan
build_promise name budget old new plan tries built files_are =
    let read = went_on _ _ _ tries built in
    let held = went _ _ _ read.begins.0 in
    let search = went_on _ _ _ read.after read.goes in
    let problem = read.given in
    let answer = search.given in
    let made : plan ≡ core_plan name problem answer = cc (search.goes.0) in
    let stands = written name (subject_text problem.forms problem.goal) (list_text problem.rules (order_of answer.0)) (term_lines answer.1) old in
    let files : new ≡ after_writes ((core_plan name problem answer).files) old = files_are ∙ ap (λ (p : Plan). after_writes p.files old) made in
    subst (λ (fs : Files). BuiltUnit name old fs plan.lines) (sym files)
    (record {
      bytes = held.given;
      problem = problem;
      answer = answer;
      held = held.begins.0;
      stated = held.goes;
      first = searches_first (core_file name) budget problem answer (proper held.given problem held.goes).moded search.begins.0;
      base = stands.0;
      list = stands.1;
      interface = stands.2;
      others = stands.3;
      line = ap (λ (p : Plan). p.lines) made;
    })
