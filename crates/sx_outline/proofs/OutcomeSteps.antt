-- Outcomes of the lines of a file.
use Rattle.std.proofs.Common.{◌≡◌, ℕ, List, refl, sym, subst, inl, inr}
use Rattle.sx_lines.specs.Lines.{Lines, over, line}
use Rattle.sx_lines.specs.declared.kind.Kind.{Kind}
use Rattle.sx_directives.specs.declared.file_kind.FileKind.{FileKind}
use Rattle.sx_outline.specs.Declarations.{Declared}
use Rattle.sx_outline.specs.Stages.{State, Steps}
use Rattle.sx_outline.specs.Outcomes.{IsReadingOutcome}

-- what comes of the end and of a bad line may say less
pub outcome_to : (kind : FileKind) (known : Declared) (name : List ℕ) (After Later : State → ℕ → Type 0) (Bad Worse : ℕ → Kind → Type 0)
    → ((t : State) (end : ℕ) → After t end → Later t end) → ((number : ℕ) (bad : Kind) → Bad number bad → Worse number bad)
    → (s : State) (lines : Lines) → IsReadingOutcome kind known name s lines After Bad → IsReadingOutcome kind known name s lines Later Worse
outcome_to kind known name After Later Bad Worse f g s (over end) h = f s end h
outcome_to kind known name After Later Bad Worse f g s (line n text after more) (inl h) =
    inl (h.0, h.1, outcome_to kind known name After Later Bad Worse f g h.0 more h.2)
outcome_to kind known name After Later Bad Worse f g s (line n text after more) (inr h) = inr (h.0, h.1, g n h.0 h.2)

-- the lines lead from one state to the other, before a line of this number
abbrev pub Reaches : FileKind → Declared → List ℕ → State → Lines → State → ℕ → Type 0
Reaches kind known name s lines t number = IsReadingOutcome kind known name s lines (λ u end. (u ≡ t) × (end ≡ number)) (λ l bad. ⊥)

-- lines of which none is bad lead to a state of which this holds
pub record IsReached (kind : FileKind) (known : Declared) (name : List ℕ) (s : State) (lines : Lines) (After : State → ℕ → Type 0) : Type 0 where
  pub state : State
  pub number : ℕ
  pub holds : After state number
  pub reaches : Reaches kind known name s lines state number

pub reached : (kind : FileKind) (known : Declared) (name : List ℕ) (After : State → ℕ → Type 0) (Bad : ℕ → Kind → Type 0) → ((number : ℕ) (bad : Kind) → Bad number bad → ⊥)
    → (s : State) (lines : Lines) → IsReadingOutcome kind known name s lines After Bad → IsReached kind known name s lines After
reached kind known name After Bad n s (over end) h = record { state = s; number = end; holds = h; reaches = (refl, refl) }
reached kind known name After Bad n s (line number text after more) (inl h) =
    let next = reached kind known name After Bad n h.0 more h.2 in
    record { state = next.state; number = next.number; holds = next.holds; reaches = inl (h.0, h.1, next.reaches) }
reached kind known name After Bad n s (line number text after more) (inr h) = absurd (n number h.0 h.2)

pub reaches_outcome : (kind : FileKind) (known : Declared) (name : List ℕ) (After : State → ℕ → Type 0) (Bad : ℕ → Kind → Type 0) (s : State) (lines : Lines) (t : State) (number : ℕ)
    → Reaches kind known name s lines t number → After t number → IsReadingOutcome kind known name s lines After Bad
reaches_outcome kind known name After Bad s lines t number h a =
    outcome_to kind known name (λ u end. (u ≡ t) × (end ≡ number)) After (λ l bad. ⊥) Bad
    (λ u end e. subst (λ x. After x end) (sym e.0) (subst (After t) (sym e.1) a)) (λ l bad n. absurd n) s lines h

-- what each line keeps holds in the end
pub kept_to : (kind : FileKind) (known : Declared) (name : List ℕ) (Q : State → Lines → Type 0)
    → ((s : State) (n : ℕ) (text after : List ℕ) (more : Lines) (t : State) → Steps kind known name s n text t → Q s (line n text after more) → Q t more)
    → (s : State) (lines : Lines) (t : State) (number : ℕ) → Reaches kind known name s lines t number → Q s lines → Q t (over number)
kept_to kind known name Q on s (over end) t number h q = subst (λ x. Q x (over number)) h.0 (subst (λ x. Q s (over x)) h.1 q)
kept_to kind known name Q on s (line n text after more) t number (inl h) q = kept_to kind known name Q on h.0 more t number h.2 (on s n text after more h.0 h.1 q)
kept_to kind known name Q on s (line n text after more) t number (inr h) q = absurd h.2
