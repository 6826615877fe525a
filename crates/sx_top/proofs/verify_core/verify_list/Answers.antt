use Rattle.std.proofs.Common.{ℕ, List, ◌∙◌, sym, subst}
use Rattle.std.specs.Prelude.{Ok, Err}
use Rattle.std.specs.Global.{Vec}
use Rattle.sx_rules.specs.declared.entry.Entry.{Entry}
use Rattle.sx_rules.specs.RuleNames.{AreNames}
use Rattle.sx_rules.specs.Sets.{names_in}
use Rattle.sx_core.specs.Problem.{problem as problem_data}
use Rattle.sx_top.specs.ReadCore.{problem_rule_names}
use Rattle.sx_steps.specs.Unit.{list_file}
use Rattle.sx_steps.specs.Stop.{Gives}
use Rattle.sx_top.specs.VerifyCore.{VerifiesCoreEntries}
use Rattle.sx_steps.specs.Work.{plan_of}
use Rattle.sx_verify.specs.Lists.{ReadsEntries}
use Rattle.sx_steps.proofs.StepsOn.{goes_next, stops_first}
use Rattle.sx_top.proofs.VerifySteps.{names_are, same_two}
use Rattle.sx_top.proofs.verify_core.verify_list.Goals as goal

pub read_entries-requires : goal.read_entries-requires
read_entries-requires g c = subst AreNames (names_are c.args.problem.now.rules.rules.items) c.requires.names

pub returns-in-Ok-clause-step : goal.returns-in-Ok-clause-step
returns-in-Ok-clause-step g c = λ files told.
    let name = c.args.name.now in
    let p = problem_data c.args.problem.now in
    goes_next plan_of (ReadsEntries (list_file name) (problem_rule_names p) files) (VerifiesCoreEntries name files p) c.in-Ok.list.items c.verify_entries.result
    (same_two (λ (file : List ℕ) (names : List (List ℕ)). ReadsEntries file names files (Ok c.in-Ok.list.items)) c.in_ok-file.file (list_file name)
    (names_in c.args.problem.now.rules) (problem_rule_names p) c.in_ok-file.ensures (sym (names_are c.args.problem.now.rules.rules.items)) (c.in-Ok.ensures.step files told))
    (subst (λ (list : List Entry). Gives plan_of (VerifiesCoreEntries name files p list) c.verify_entries.result) c.deref.ensures.value
    (c.verify_entries.ensures.step files (c.in-Ok.ensures.reads.content ∙ told)))

pub returns-clause-step : goal.returns-clause-step
returns-clause-step g c = λ files told.
    let name = c.args.name.now in
    let p = problem_data c.args.problem.now in
    stops_first (λ (list : Vec Entry). list.items) plan_of (ReadsEntries (list_file name) (problem_rule_names p) files) (VerifiesCoreEntries name files p) c.in-Err.e
    (same_two (λ (file : List ℕ) (names : List (List ℕ)). Gives (λ (list : Vec Entry). list.items) (ReadsEntries file names files) (Err c.in-Err.e)) c.in_ok-file.file (list_file name)
    (names_in c.args.problem.now.rules) (problem_rule_names p) c.in_ok-file.ensures (sym (names_are c.args.problem.now.rules.rules.items)) (c.in-Err.ensures.step files told))
