use Rattle.std.proofs.Common.{ℕ, List, map, subst, sym, Vec}
use Rattle.std.specs.Global.{Global}
use Rattle.std.specs.Prelude.{Ok, Err}
use Rattle.sx_rules.specs.declared.entry.Entry.{Entry}
use Rattle.sx_rules.specs.Views.{goal as goal_of}
use Rattle.sx_notation.specs.Language.{language_data}
use Rattle.sx_steps.specs.Stop.{Gives}
use Rattle.sx_steps.specs.Unit.{list_file}
use Rattle.sx_steps.specs.Work.{plan_of}
use Rattle.sx_steps.proofs.StepsOn.{goes_next, stops_first, reads_on}
use Rattle.sx_verify.specs.Lists.{ReadsEntries}
use Rattle.sx_verify.specs.VerifyModule.{VerifiesEntries}
use Rattle.sx_verify.specs.WrittenFiles.{written_of}
use Rattle.sx_verify.proofs.NamedRules.{language_named}
use Rattle.sx_verify.proofs.RuleViews.{names_are}
use Rattle.sx_verify.proofs.verify_over.verify_list.Goals as goal

pub read_entries-requires : goal.read_entries-requires
read_entries-requires g c =
    let text = c.requires.over.text in
    language_named text.0 text.1.bytes c.args.over.now.language.now.language text.1.states

pub returns-in-Ok-clause-step : goal.returns-in-Ok-clause-step
returns-in-Ok-clause-step g c = λ files told.
    let name = c.args.asked.now.name.now in
    let w = written_of c.args.over.now.written.now in
    let l = c.args.over.now.language.now.language in
    let d = language_data l in
    let list = c.in-Ok.list.items in
    goes_next plan_of (ReadsEntries (list_file name) (map (λ r. r.name) d.rules) files)
    (VerifiesEntries name w d (goal_of c.args.goal.now)) list c.verify_entries.result
    (subst (λ (file : List ℕ). ReadsEntries file (map (λ r. r.name) d.rules) files (Ok list))
    c.requires.files.list
    (subst (λ (names : List (List ℕ)).
    ReadsEntries c.args.asked.now.list.now names files (Ok list))
    (sym (names_are l.rules.rules.items)) (c.in-Ok.ensures.step files told)))
    (subst (λ (x : List Entry).
    Gives plan_of (VerifiesEntries name w d (goal_of c.args.goal.now) x) c.verify_entries.result)
    c.deref.ensures.value c.verify_entries.ensures.step)

pub returns-in-Ok-clause-reads : goal.returns-in-Ok-clause-reads
returns-in-Ok-clause-reads g c =
    reads_on _ _ _ _ _ _ _ c.verify_entries.result c.in-Ok.ensures.reads
    c.verify_entries.ensures.no_fault

pub returns-in-Err-clause-step : goal.returns-in-Err-clause-step
returns-in-Err-clause-step g c = λ files told.
    let name = c.args.asked.now.name.now in
    let w = written_of c.args.over.now.written.now in
    let l = c.args.over.now.language.now.language in
    let d = language_data l in
    stops_first (λ (v : Vec Entry Global). v.items) plan_of
    (ReadsEntries (list_file name) (map (λ r. r.name) d.rules) files)
    (VerifiesEntries name w d (goal_of c.args.goal.now)) c.in-Err.e
    (subst (λ (file : List ℕ). Gives (λ (v : Vec Entry Global). v.items)
    (ReadsEntries file (map (λ r. r.name) d.rules) files) (Err c.in-Err.e))
    c.requires.files.list
    (subst (λ (names : List (List ℕ)). Gives (λ (v : Vec Entry Global). v.items)
    (ReadsEntries c.args.asked.now.list.now names files) (Err c.in-Err.e))
    (sym (names_are l.rules.rules.items)) (c.in-Err.ensures.step files told)))
