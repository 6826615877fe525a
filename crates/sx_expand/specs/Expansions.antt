-- What expanding a list answers.
use Rattle.std.specs.Prelude.{◌≡◌, ℕ, ◌≤◌, ◌⊎◌, List, length, Result, Ok, Err}
use Rattle.sx_term.specs.Sorts.{Shape}
use Rattle.sx_rules.specs.Deep.{AreShallow}
use Rattle.sx_rules.specs.Derivations.{Proof}
use Rattle.sx_rules.specs.EntryView.{entries}
use Rattle.sx_rules.specs.First.{Answer, DerivesGoal}
use Rattle.sx_rules.specs.Modes.{Goal, Modes, outputs}
use Rattle.sx_rules.specs.Orders.{Entry, order_of}
use Rattle.sx_rules.specs.ProofView.{proof}
use Rattle.sx_rules.specs.Rules.{Hypotheses, no_hypotheses}
use Rattle.sx_rules.specs.Views.{FormData, judgement, places_at, subjects_in}
use Rattle.sx_rewrite.specs.declared.lowered.Lowered.{Lowered}
use Rattle.sx_rewrite.specs.declared.rewrite_error.RewriteError.{RewriteError}
use Rattle.sx_rewrite.specs.declared.rewrite_error.RewriteError.TheVariants.{Memory}
use Rattle.sx_rewrite.specs.Accepted.{Accepted, IsAccepted, Signature, extended_rules}
use Rattle.sx_rewrite.specs.Rewrites.{CanRewrite}
use Rattle.sx_rewrite.specs.Rewriting.{IsRewritten}
use Rattle.sx_rewrite.specs.RewrittenView.{IsRewriting}
use Rattle.sx_expand.specs.declared.expanded.Expanded.{Expanded}

-- at most one of the form's places is a subject
abbrev pub HasOneSubject : List FormData → (form : ℕ) → Type 0
HasOneSubject forms form = length (outputs (subjects_in forms form) (places_at forms form)) ≤ 1

-- The answer derives the goal from the hypotheses, and the list is that of its derivation, which
-- can be rewritten. No output is deeper than 1,000.
pub record IsListedFrom (modes : Modes) (a : Accepted) (hyps : Hypotheses) (goal : Goal)
    (list : List Entry) (answer : Answer) : Type 0 where
  pub derives : DerivesGoal modes (extended_rules a) hyps goal answer
  pub list_is : list ≡ order_of answer.0
  pub rewritable : CanRewrite a hyps answer.0
  pub near : AreShallow answer.1

-- so it is without hypotheses
abbrev pub IsListedAnswer : Modes → Accepted → Goal → List Entry → Answer → Type 0
IsListedAnswer modes a goal list answer = IsListedFrom modes a no_hypotheses goal list answer

-- the derivation is rewritten to one with this list, this judgement and so many copied nodes,
-- or the refusal is that of rewriting it
abbrev pub IsExpanding : Accepted → Modes → Hypotheses → Proof → ℕ →
    Result Expanded RewriteError → Type 0
IsExpanding a subjects hyps p budget (Ok x) =
    (q : Proof) × IsRewritten a subjects hyps p budget
    (Ok (record { proof = q; judgement = judgement x.judgement; copied = x.copied }))
    × (entries x.entries.items ≡ order_of q)
IsExpanding a subjects hyps p budget (Err e) = IsRewriting a subjects hyps p budget (Err e)

-- the one answer tells of a list what the other tells of a derivation in boxes,
-- unless memory was lacking
abbrev pub TellsAlike : Result Expanded RewriteError → Result Lowered RewriteError → Type 0
TellsAlike (Ok x) (Ok y) =
    (entries x.entries.items ≡ order_of (proof y.proof.value))
    × (judgement x.judgement ≡ judgement y.judgement) × (x.copied ≡ y.copied)
TellsAlike (Ok x) (Err e) = e ≡ Memory
TellsAlike (Err e) (Ok y) = e ≡ Memory
TellsAlike (Err e) (Err f) = (e ≡ Memory) ⊎ (f ≡ Memory) ⊎ (e ≡ f)

-- so it is of what expanding and rewriting answer of a derivation
abbrev pub ExpandingIsRewriting : Type 0
ExpandingIsRewriting =
    (sig : Signature) (base shapes : List Shape) (a : Accepted) → IsAccepted sig base shapes a →
    (hyps : Hypotheses) (p : Proof) (budget : ℕ) →
    (one : Result Expanded RewriteError) (other : Result Lowered RewriteError) →
    IsExpanding a sig.subjects hyps p budget one → IsRewriting a sig.subjects hyps p budget other →
    TellsAlike one other
