-- The step that shows the derivation of a unit to auditors.
use Rattle.std.specs.Prelude.{◌≡◌, ℕ, ◌+◌, List, map, length, Result, Ok, Err}
use Rattle.sx_words.specs.declared.refusal.Defect.TheVariants as defect
use Rattle.sx_rules.specs.Derivations.{Proof}
use Rattle.sx_rules.specs.Orders.{Entry}
use Rattle.sx_rules.specs.Views.{NamedRule}
use Rattle.sx_steps.specs.declared.step_error.StepError.{StepError}
use Rattle.sx_steps.specs.declared.stop.Stop.{Stop}
use Rattle.sx_steps.specs.Refusal.{about}
use Rattle.sx_audit.specs.Meaning.{Node, Meaning}
use Rattle.sx_audit.specs.Preorder.{nodes, IsDerivationList}
use Rattle.sx_audit.specs.Shown.{shown_after, AllAdmit, Refusal}

-- the auditor objects to the node with this number, counted from 1
abbrev pub objection : List ℕ → Meaning → ℕ → Node → Stop
objection file one number n = about file (defect.Objected one.kind.name number n.rule)

-- the auditors after these nodes, or the stop of the first that objects to one of them
abbrev pub ShowsNodes : List ℕ → List Meaning → List Node → Result (List Meaning) Stop → Type 0
ShowsNodes file old ns (Ok new) = AllAdmit ns old × (new ≡ map (shown_after ns) old)
ShowsNodes file old ns (Err stop) = (new : List Meaning) × (r : Refusal old ns new)
    × (stop ≡ objection file r.one (length r.seen + 1) r.node)

-- the auditors are shown the nodes of the derivation by these rules whose list this is
pub record Shows (file : List ℕ) (rules : List NamedRule) (old : List Meaning) (list : List Entry)
    (result : Result (List Meaning) Stop) : Type 0 where
  pub proof : Proof
  pub is : IsDerivationList (map (λ r. r.rule) rules) list proof
  pub shows : ShowsNodes file old (nodes rules 1 proof) result

-- how far showing went: each auditor has seen all nodes, or they have seen them as far as to the
-- first objection
abbrev pub HasSeen : {X : Type 0} → List Meaning → List Node → Result X StepError → List Meaning →
    Type 0
HasSeen old ns (Ok x) new = new ≡ map (shown_after ns) old
HasSeen old ns (Err e) new = Refusal old ns new
