use Rattle.std.proofs.Common.{◌≡◌, ◌∙◌, ℕ, List, map, sym, ap, subst}
use Rattle.std.specs.Prelude.{Ok, Err}
use Rattle.sx_rules.specs.declared.entry.Entry.{Entry}
use Rattle.sx_rules.specs.Derivations.{Proof}
use Rattle.sx_rules.specs.EntryView.{entries}
use Rattle.sx_rules.specs.Sets.{bare_rules_in, rules_in}
use Rattle.sx_audit.specs.Preorder.{IsDerivationList}
use Rattle.sx_unit.specs.Written.{unit_of}
use Rattle.sx_steps.specs.Stop.{Gives}
use Rattle.sx_steps.specs.Work.{Plan, plan_of}
use Rattle.sx_steps.proofs.StepsOn.{stops_first}
use Rattle.sx_auditing.specs.Shows.{Shows}
use Rattle.sx_headers.specs.ModuleFiles.{module_file}
use Rattle.sx_compile.specs.AuditedPlans.{audited_plan}
use Rattle.sx_compile.proofs.Audited.{audited_same}
use Rattle.sx_compile.proofs.audited_work.audit_unit.Goals as goal

pub show_unit-requires : goal.show_unit-requires
show_unit-requires g c =
    let rules = bare_rules_in c.args.given.now.language.now.language.rules in
    subst (λ (list : List Entry). (p : Proof) × IsDerivationList rules (entries list) p)
    (sym c.deref.ensures.value) c.requires.list

pub returns-in-Ok-audited_work-clause-step : goal.returns-in-Ok-audited_work-clause-step
returns-in-Ok-audited_work-clause-step g c =
    let name = c.args.asked.now.name.now in
    let rules = rules_in c.args.given.now.language.now.language.rules in
    let old =
    map (λ b. (goal.Auditor-dyn g (b.vtable, b.value)).meaning b.value) c.args.auditors.now.items in
    let new = map (λ b. (goal.Auditor-dyn g (b.vtable, b.value)).meaning b.value)
    c.show_unit.new.auditors.items in
    record {
      given = Ok new;
      begins =
          subst (λ (list : List Entry). Shows (module_file name) rules old (entries list) (Ok new))
          c.deref.ensures.value
          (subst (λ (file : List ℕ). Shows file rules old (entries c.deref.result.now) (Ok new))
          c.requires.file c.in-Ok.ensures.step);
      goes = ap (λ (plan : Plan). Ok plan) (c.in-Ok-audited_work.ensures
          ∙ audited_same c.deref-in-Ok.result.now c.show_unit.new.auditors.items
          c.deref-in-Ok.ensures.value
          (λ b. (goal.Auditor-dyn g (b.vtable, b.value)).meaning b.value) name
          (unit_of c.args.unit));
    }

pub returns-in-Err-clause-step : goal.returns-in-Err-clause-step
returns-in-Err-clause-step g c =
    let name = c.args.asked.now.name.now in
    let rules = rules_in c.args.given.now.language.now.language.rules in
    let old =
    map (λ b. (goal.Auditor-dyn g (b.vtable, b.value)).meaning b.value) c.args.auditors.now.items in
    let new = map (λ b. (goal.Auditor-dyn g (b.vtable, b.value)).meaning b.value)
    c.show_unit.new.auditors.items in
    stops_first (λ (x : Unit {0}). new) plan_of
    (Shows (module_file name) rules old (entries c.args.unit.list.items))
    (λ after result. result ≡ Ok (audited_plan name (unit_of c.args.unit) after)) c.in-Err.e
    (subst (λ (list : List Entry). Gives (λ (x : Unit {0}). new)
    (Shows (module_file name) rules old (entries list)) (Err c.in-Err.e)) c.deref.ensures.value
    (subst (λ (file : List ℕ). Gives (λ (x : Unit {0}). new)
    (Shows file rules old (entries c.deref.result.now)) (Err c.in-Err.e)) c.requires.file
    c.in-Err.ensures.step))
