-- What an auditor means: a state, and what no call changes.
use Rattle.std.specs.Prelude.{◌≡◌, ℕ, Bool, List, Option, Some, None, Result, Ok, Err}
use Rattle.sx_audit.specs.declared.set_error.SetError.{SetError}
use Rattle.sx_audit.specs.declared.set_error.SetError.TheVariants.{Bad, Memory}

-- a node of a derivation as an auditor sees it: the name of its rule, and its depth
pub record Node : Type 0 where
  pub rule : List ℕ
  pub depth : ℕ

-- the node by the rule of this name at this depth
abbrev pub node : List ℕ → ℕ → Node
node rule depth = record { rule = rule; depth = depth }

-- the state of an auditor
pub record AuditState : Type 0 where
  pub numbers : List ℕ
  pub texts : List (List ℕ)

-- what no call changes: the name, the step at a node to the next state and a verdict, where false
-- objects, the state that a setting gives where it is taken, and the text for a state
pub record Kind : Type 0 where
  pub name : List ℕ
  pub step : AuditState → Node → AuditState × Bool
  pub takes : List ℕ → Option AuditState
  pub text : AuditState → List ℕ

-- an auditor as plain data
pub record Meaning : Type 0 where
  pub kind : Kind
  pub state : AuditState

-- the auditor after a node
abbrev pub after_node : Meaning → Node → Meaning
after_node m n = record { kind = m.kind; state = (m.kind.step m.state n).0 }

-- its verdict on the node
abbrev pub verdict : Meaning → Node → Bool
verdict m n = (m.kind.step m.state n).1

-- the text of an auditor
abbrev pub auditor_text : Meaning → List ℕ
auditor_text m = m.kind.text m.state

-- what setting an auditor answers
abbrev pub IsAuditorSet : Meaning → List ℕ → Result (Unit {0}) SetError → Meaning → Type 0
IsAuditorSet old setting (Ok x) new = (new.kind ≡ old.kind) ×
    (old.kind.takes setting ≡ Some new.state)
IsAuditorSet old setting (Err Bad) new = (new ≡ old) × (old.kind.takes setting ≡ None)
IsAuditorSet old setting (Err Memory) new = new ≡ old
