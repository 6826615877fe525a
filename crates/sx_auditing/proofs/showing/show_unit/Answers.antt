use Rattle.std.proofs.Common.{◌-◌, ◌^◌, ◌≤◌, ℕ, Err, length, map, arith}
use Rattle.std.proofs.lemmas.List.{length-map}
use Rattle.sx_rules.specs.EntryView.{entry, entries}
use Rattle.sx_rules.specs.Sets.{rules_in}
use Rattle.sx_audit.specs.Preorder.{nodes}
use Rattle.sx_audit.specs.Shown.{IsShown}
use Rattle.sx_audit.specs.declared.show_error.ShowError.TheVariants.{Objected}
use Rattle.sx_auditing.specs.Listed.{IsRuleAt}
use Rattle.sx_auditing.proofs.Listed.{shows-all, told-entry, shows-objection, objection-quiet}
use Rattle.sx_auditing.proofs.Listed.{seen-all, seen-refused}
use Rattle.sx_auditing.proofs.showing.show_unit.Goals as goal
use Rattle.sx_auditing.proofs.showing.show_unit.Goals.{In-Err-Objected}

-- the numbers of the entries are no longer than 64 bits
short : (g : _) (c : In-Err-Objected g) → length (entries c.args.list.now) ≤ 2 ^ 64 - 1
short g c = omega (arith, length-map c.args.list.now entry)

-- the auditors are shown the nodes as far as to the one that is refused
shown : (g : _) (c : In-Err-Objected g) →
    IsShown
    (map (λ b. (goal.Auditor-dyn g (b.vtable, b.value)).meaning b.value) c.args.auditors.now.items)
    (nodes (rules_in c.args.rules.now) 1 c.requires.0)
    (Err (Objected c.in-Err-Objected.auditor c.in-Err-Objected.node))
    (map (λ b. (goal.Auditor-dyn g (b.vtable, b.value)).meaning b.value)
    c.show_list.new.auditors.items)
shown g c =
    let is = rw c.in-Err-Objected.field-0-is at c.in-Err-Objected.ensures in
    is c.requires.0 c.requires.1

-- the rule of the node that is refused
abbrev told : (g : _) (c : In-Err-Objected g) → (r : ℕ)
    × IsRuleAt (rules_in c.args.rules.now) (entries c.args.list.now) c.in-Err-Objected.node r
told g c =
    told-entry c.args.rules.now (entries c.args.list.now) c.requires.0 c.requires.1 _ _ _ _
    (short g c) (shown g c)

pub objection-requires : goal.objection-requires
objection-requires g c = told g (goal.at.objection-requires g c).In-Err-Objected

pub returns-in-Ok-clause-step : goal.returns-in-Ok-clause-step
returns-in-Ok-clause-step g c =
    shows-all c.args.rules.now (entries c.args.list.now) c.requires.0 c.requires.1 _ _ _
    (c.in-Ok.ensures c.requires.0 c.requires.1)

pub returns-in-Ok-objection-clause-step : goal.returns-in-Ok-objection-clause-step
returns-in-Ok-objection-clause-step g c =
    let at = (goal.at.returns-in-Ok-objection-clause-step g c).In-Err-Objected in
    let entry_told = told g at in
    shows-objection c.args.rules.now (entries c.args.list.now) c.requires.0 c.requires.1 _ _ _ _
    (short g at) (shown g at) c.args.file.now c.in-Ok-objection.stop
    (c.in-Ok-objection.ensures entry_told.0 entry_told.1)

pub returns-in-Ok-objection-clause-no_fault : goal.returns-in-Ok-objection-clause-no_fault
returns-in-Ok-objection-clause-no_fault g c =
    let entry_told = told g (goal.at.returns-in-Ok-objection-clause-no_fault g c).In-Err-Objected in
    objection-quiet c.args.file.now _ _ _ c.in-Ok-objection.stop
    (c.in-Ok-objection.ensures entry_told.0 entry_told.1)

pub returns-in-Ok-clause-seen : goal.returns-in-Ok-clause-seen
returns-in-Ok-clause-seen g c = λ p is. seen-all _ _ _ (c.in-Ok.ensures p is)

pub returns-in-Err-Memory-clause-seen : goal.returns-in-Err-Memory-clause-seen
returns-in-Err-Memory-clause-seen g c = λ p is. seen-refused _ _ _ _ (c.in-Err-Memory.ensures p is)

pub returns-in-Ok-objection-clause-seen : goal.returns-in-Ok-objection-clause-seen
returns-in-Ok-objection-clause-seen g c = λ p is.
    seen-refused _ _ _ _ (c.in-Err-Objected.ensures p is)

pub returns-in-Err-clause-seen : goal.returns-in-Err-clause-seen
returns-in-Err-clause-seen g c = λ p is. seen-refused _ _ _ _ (c.in-Err-Objected.ensures p is)
