-- Lines that lead from one state to another.
use Rattle.std.proofs.Common.{◌≡◌, ℕ, List, [], ◌∷◌, ◌++◌, refl, sym, ap, subst, ◌∙◌, inl, inr}
use Rattle.sx_lines.specs.Lines.{Lines, over, line}
use Rattle.sx_lines.specs.declared.kind.Kind.{Kind}
use Rattle.sx_directives.specs.declared.file_kind.FileKind.{FileKind}
use Rattle.sx_outline.specs.Declarations.{Declared}
use Rattle.sx_outline.specs.Stages.{Numbered, State, Steps, IsBad}
use Rattle.sx_outline.specs.Outcomes.{IsReadingOutcome}
use Rattle.sx_outline.specs.Structure.{numbered_lines}
use Rattle.sx_outline.specs.BadLines.{end_number}
use Rattle.sx_outline.proofs.OneOutline.{one_step}

-- one line after the other leads on, and the last to this state
abbrev pub Leads : FileKind → Declared → List ℕ → State → List Numbered → State → Type 0
Leads kind known name s [] t = s ≡ t
Leads kind known name s (l ∷ lines) t = (u : State) × Steps kind known name s l.number l.text u × Leads kind known name u lines t

pub leads_append : (kind : FileKind) (known : Declared) (name : List ℕ) (s t u : State) (front back : List Numbered) → Leads kind known name s front t → Leads kind known name t back u
    → Leads kind known name s (front ++ back) u
leads_append kind known name s t u [] back h k = subst (λ (x : State). Leads kind known name x back u) (sym h) k
leads_append kind known name s t u (l ∷ front) back h k = (h.0, h.1, leads_append kind known name h.0 t u front back h.2 k)

pub leads_split : (kind : FileKind) (known : Declared) (name : List ℕ) (s u : State) (front back : List Numbered) → Leads kind known name s (front ++ back) u
    → (t : State) × Leads kind known name s front t × Leads kind known name t back u
leads_split kind known name s u [] back h = (s, refl, h)
leads_split kind known name s u (l ∷ front) back h =
    let rest = leads_split kind known name h.0 u front back h.2 in
    (rest.0, (h.0, h.1, rest.1), rest.2)

-- the same lines lead to one state, whatever is known
pub leads_once : (kind : FileKind) (known other : Declared) (name : List ℕ) (s t u : State) (lines : List Numbered) → Leads kind known name s lines t → Leads kind other name s lines u → t ≡ u
leads_once kind known other name s t u [] h k = sym h ∙ k
leads_once kind known other name s t u (l ∷ lines) h k =
    let same : h.0 ≡ k.0 = one_step s.stage kind known other name s l.number l.text h.0 k.0 h.1 k.1 in
    leads_once kind known other name k.0 t u lines (subst (λ (x : State). Leads kind known name x lines t) same h.2) k.2

-- the line after the first ones is bad
pub record StopsAt (kind : FileKind) (known : Declared) (name : List ℕ) (s : State) (lines : List Numbered) (number : ℕ) (wrong : Kind) : Type 0 where
  pub front : List Numbered
  pub text : List ℕ
  pub rest : List Numbered
  pub lines_are : lines ≡ front ++ record { number = number; text = text } ∷ rest
  pub state : State
  pub leads : Leads kind known name s front state
  pub bad : IsBad kind known name state text wrong

-- all lines lead to a state of which this holds
pub record EndsIn (kind : FileKind) (known : Declared) (name : List ℕ) (s : State) (lines : Lines) (After : State → ℕ → Type 0) : Type 0 where
  pub state : State
  pub leads : Leads kind known name s (numbered_lines lines) state
  pub holds : After state (end_number lines)

-- one line is bad, or all lead on
pub data Course (kind : FileKind) (known : Declared) (name : List ℕ) (s : State) (lines : Lines) (After : State → ℕ → Type 0) (Bad : ℕ → Kind → Type 0) : Type 0 where
  stops : (number : ℕ) (wrong : Kind) → StopsAt kind known name s (numbered_lines lines) number wrong → Bad number wrong → Course kind known name s lines After Bad
  ends : EndsIn kind known name s lines After → Course kind known name s lines After Bad

one_more : (kind : FileKind) (known : Declared) (name : List ℕ) (s : State) (n : ℕ) (text after : List ℕ) (more : Lines) (After : State → ℕ → Type 0) (Bad : ℕ → Kind → Type 0) (t : State)
    → Steps kind known name s n text t → Course kind known name t more After Bad → Course kind known name s (line n text after more) After Bad
one_more kind known name s n text after more After Bad t step (stops number wrong h told) =
    let here : Numbered = record { number = n; text = text } in
    stops number wrong (record {
      front = here ∷ h.front;
      text = h.text;
      rest = h.rest;
      lines_are = ap (λ (x : List Numbered). here ∷ x) h.lines_are;
      state = h.state;
      leads = (t, step, h.leads);
      bad = h.bad;
    }) told
one_more kind known name s n text after more After Bad t step (ends h) = ends (record { state = h.state; leads = (t, step, h.leads); holds = h.holds })

pub course : (kind : FileKind) (known : Declared) (name : List ℕ) (After : State → ℕ → Type 0) (Bad : ℕ → Kind → Type 0) (s : State) (lines : Lines)
    → IsReadingOutcome kind known name s lines After Bad → Course kind known name s lines After Bad
course kind known name After Bad s (over end) h = ends (record { state = s; leads = refl; holds = h })
course kind known name After Bad s (line n text after more) (inl h) = one_more kind known name s n text after more After Bad h.0 h.1 (course kind known name After Bad h.0 more h.2)
course kind known name After Bad s (line n text after more) (inr h) =
    stops n h.0 (record { front = []; text = text; rest = numbered_lines more; lines_are = refl; state = s; leads = refl; bad = h.1 }) h.2

-- lines that go on with one that does not lead on lead nowhere
pub leads_nowhere : (kind : FileKind) (known other : Declared) (name : List ℕ) (s t u : State) (front rest : List Numbered) (l : Numbered) → Leads kind known name s front t
    → ((v : State) → Steps kind other name t l.number l.text v → Leads kind other name v rest u → ⊥) → Leads kind other name s ((front ++ l ∷ []) ++ rest) u → ⊥
leads_nowhere kind known other name s t u front rest l h n k =
    let whole = leads_split kind other name s u (front ++ l ∷ []) rest k in
    let cut = leads_split kind other name s whole.0 front (l ∷ []) whole.1 in
    let same : t ≡ cut.0 = leads_once kind known other name s t cut.0 front h cut.1 in
    let step : Leads kind other name t (l ∷ []) whole.0 = subst (λ (x : State). Leads kind other name x (l ∷ []) whole.0) (sym same) cut.2 in
    n step.0 step.1 (subst (λ (x : State). Leads kind other name x rest u) (sym step.2) whole.2)
