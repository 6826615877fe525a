-- Lines that end within a plain pair or a rule.
use Rattle.std.proofs.Common.{◌≡◌, ℕ, List, [], ◌∷◌, ◌++◌, refl, sym, ap, subst, inl, inr}
use Rattle.std.specs.Prelude.{◌⊎◌}
use Rattle.sx_directives.specs.declared.file_kind.FileKind.{FileKind}
use Rattle.sx_directives.specs.declared.row.Row.{Row}
use Rattle.sx_directives.specs.declared.row.Row.TheVariants.{Sort, Prod, Var, Form, Main, Plain, Rule, End, To}
use Rattle.sx_outline.specs.Declarations.{Declared}
use Rattle.sx_outline.specs.Stages.{Numbered, PlainData, RuleData, Stage, at_start, at_declarations, at_body, at_plains, at_rules, at_premises, at_conclusion, at_end, State, StepsAt, MayStandAt, IsWhole, IsInside, state_after_row}
use Rattle.sx_outline.proofs.Led.{Leads}
use Rattle.sx_outline.proofs.LinesDeclared.{none_first, head_same, tail_same}
use Rattle.sx_outline.proofs.OneOutline.{one_step, inside_or_whole}

abbrev st : Stage → Declared → List PlainData → List RuleData → State
st at d plains rules = record { stage = at; declared = d; plains = plains; rules = rules }

-- what is open after a line began with it, or was open before
abbrev IsOpenBefore : Stage → (n number : ℕ) → Type 0
IsOpenBefore at n number = (IsWhole at × (n ≡ number)) ⊎ IsInside at number

declarations_row : (d : Declared) (plains : List PlainData) (rules : List RuleData) (n number : ℕ) (row : Row) → MayStandAt at_declarations d.mains row
    → let t : State = state_after_row (st at_declarations d plains rules) n row in IsInside t.stage number → IsOpenBefore at_declarations n number
declarations_row d plains rules n number (Sort s) stands h = absurd h
declarations_row d plains rules n number (Prod p) stands h = absurd h
declarations_row d plains rules n number (Var v) stands h = absurd h
declarations_row d plains rules n number (Form f) stands h = absurd h
declarations_row d plains rules n number (Main m) stands h = absurd h
declarations_row d plains rules n number (Plain p) stands h = inl (tt, h)
declarations_row d plains rules n number (Rule given) stands h = inl (tt, h)
declarations_row d plains rules n number _ stands h = absurd stands

plains_row : (d : Declared) (plains : List PlainData) (rules : List RuleData) (n number : ℕ) (row : Row) → MayStandAt at_plains d.mains row
    → let t : State = state_after_row (st at_plains d plains rules) n row in IsInside t.stage number → IsOpenBefore at_plains n number
plains_row d plains rules n number (Plain p) stands h = inl (tt, h)
plains_row d plains rules n number (Rule given) stands h = inl (tt, h)
plains_row d plains rules n number _ stands h = absurd stands

rules_row : (d : Declared) (plains : List PlainData) (rules : List RuleData) (n number : ℕ) (row : Row) → MayStandAt at_rules d.mains row
    → let t : State = state_after_row (st at_rules d plains rules) n row in IsInside t.stage number → IsOpenBefore at_rules n number
rules_row d plains rules n number (Rule given) stands h = inl (tt, h)
rules_row d plains rules n number _ stands h = absurd stands

end_row : (d : Declared) (r : RuleData) (plains : List PlainData) (rules : List RuleData) (n number : ℕ) (row : Row) → MayStandAt (at_end r) d.mains row
    → let t : State = state_after_row (st (at_end r) d plains rules) n row in IsInside t.stage number → IsOpenBefore (at_end r) n number
end_row d r plains rules n number End stands h = absurd h
end_row d r plains rules n number (To body) stands h = inr h
end_row d r plains rules n number _ stands h = absurd stands

open_before : (kind : FileKind) (known : Declared) (name : List ℕ) (at : Stage) (d : Declared) (plains : List PlainData) (rules : List RuleData) (n number : ℕ) (text : List ℕ) (t : State)
    → StepsAt at kind known name (st at d plains rules) n text t → IsInside t.stage number → IsOpenBefore at n number
open_before kind known name at_start d plains rules n number text t steps h = absurd (subst (λ (x : State). IsInside x.stage number) steps.1 h)
open_before kind known name at_declarations d plains rules n number text t (row, good, e) h =
    declarations_row d plains rules n number row good.stands (subst (λ (x : State). IsInside x.stage number) e h)
open_before kind known name (at_body b) d plains rules n number text t steps h = absurd (subst (λ (x : State). IsInside x.stage number) steps h)
open_before kind known name at_plains d plains rules n number text t (row, good, e) h =
    plains_row d plains rules n number row good.stands (subst (λ (x : State). IsInside x.stage number) e h)
open_before kind known name at_rules d plains rules n number text t (row, good, e) h =
    rules_row d plains rules n number row good.stands (subst (λ (x : State). IsInside x.stage number) e h)
open_before kind known name (at_premises b) d plains rules n number text t (inl steps) h = inr (subst (λ (x : State). IsInside x.stage number) steps.1 h)
open_before kind known name (at_premises b) d plains rules n number text t (inr steps) h = inr (subst (λ (x : State). IsInside x.stage number) steps.1 h)
open_before kind known name (at_conclusion b) d plains rules n number text t steps h = inr (subst (λ (x : State). IsInside x.stage number) steps h)
open_before kind known name (at_end r) d plains rules n number text t (row, good, e) h =
    end_row d r plains rules n number row good.stands (subst (λ (x : State). IsInside x.stage number) e h)

-- none of the first lines ends what is open
abbrev pub NeverEnds : FileKind → Declared → List ℕ → State → List Numbered → Type 0
NeverEnds kind known name s lines = (more after : List Numbered) (v : State) → lines ≡ more ++ after → Leads kind known name s more v → IsWhole v.stage → ⊥

-- the line of this number begins what is not ended
pub record Opened (kind : FileKind) (known : Declared) (name : List ℕ) (s : State) (lines : List Numbered) (number : ℕ) : Type 0 where
  pub front : List Numbered
  pub first : Numbered
  pub rest : List Numbered
  pub lines_are : lines ≡ front ++ first ∷ rest
  pub place : first.number ≡ number
  pub middle : State
  pub leads : Leads kind known name s front middle
  pub whole : IsWhole middle.stage
  pub none : (more after : List Numbered) (v : State) → rest ≡ more ++ after → Leads kind known name middle (first ∷ more) v → IsWhole v.stage → ⊥

never_now : (kind : FileKind) (known : Declared) (name : List ℕ) (s : State) (number : ℕ) → IsInside s.stage number → NeverEnds kind known name s []
never_now kind known name s number h [] after v e k w = inside_or_whole s.stage number h (subst (λ (x : State). IsWhole x.stage) (sym k) w)
never_now kind known name s number h (l ∷ more) after v e k w = none_first l (more ++ after) e

never_next : (kind : FileKind) (known : Declared) (name : List ℕ) (s u : State) (l : Numbered) (lines : List Numbered) → StepsAt s.stage kind known name s l.number l.text u
    → NeverEnds kind known name u lines → (more after : List Numbered) (v : State) → lines ≡ more ++ after → Leads kind known name s (l ∷ more) v → IsWhole v.stage → ⊥
never_next kind known name s u l lines step never more after v e k w =
    let same : k.0 ≡ u = one_step s.stage kind known known name s l.number l.text k.0 u k.1 step in
    never more after v e (subst (λ (x : State). Leads kind known name x more v) same k.2) w

never_more : (kind : FileKind) (known : Declared) (name : List ℕ) (s u : State) (l : Numbered) (lines : List Numbered) (number : ℕ) → IsInside s.stage number
    → StepsAt s.stage kind known name s l.number l.text u → NeverEnds kind known name u lines → NeverEnds kind known name s (l ∷ lines)
never_more kind known name s u l lines number h step never [] after v e k w = inside_or_whole s.stage number h (subst (λ (x : State). IsWhole x.stage) (sym k) w)
never_more kind known name s u l lines number h step never (m ∷ more) after v e k w =
    let same : l ≡ m = head_same l m lines (more ++ after) e in
    never_next kind known name s u l lines step never more after v (tail_same l m lines (more ++ after) e) (subst (λ (x : Numbered). Leads kind known name s (x ∷ more) v) (sym same) k) w

-- the line begins what is not ended, or it was open before it
before_it : (kind : FileKind) (known : Declared) (name : List ℕ) (number : ℕ) (s u : State) (l : Numbered) (lines : List Numbered) → StepsAt s.stage kind known name s l.number l.text u
    → NeverEnds kind known name u lines → IsOpenBefore s.stage l.number number
    → Opened kind known name s (l ∷ lines) number ⊎ (IsInside s.stage number × NeverEnds kind known name s (l ∷ lines))
before_it kind known name number s u l lines step never (inl h) = inl (record {
  front = [];
  first = l;
  rest = lines;
  lines_are = refl;
  place = h.1;
  middle = s;
  leads = refl;
  whole = h.0;
  none = never_next kind known name s u l lines step never;
})
before_it kind known name number s u l lines step never (inr h) = inr (h, never_more kind known name s u l lines number h step never)

one_more : (kind : FileKind) (known : Declared) (name : List ℕ) (number : ℕ) (s u : State) (l : Numbered) (lines : List Numbered) → StepsAt s.stage kind known name s l.number l.text u
    → Opened kind known name u lines number ⊎ (IsInside u.stage number × NeverEnds kind known name u lines)
    → Opened kind known name s (l ∷ lines) number ⊎ (IsInside s.stage number × NeverEnds kind known name s (l ∷ lines))
one_more kind known name number s u l lines step (inl h) = inl (record {
  front = l ∷ h.front;
  first = h.first;
  rest = h.rest;
  lines_are = ap (λ (x : List Numbered). l ∷ x) h.lines_are;
  place = h.place;
  middle = h.middle;
  leads = (u, step, h.leads);
  whole = h.whole;
  none = h.none;
})
one_more kind known name number s u l lines step (inr h) =
    before_it kind known name number s u l lines step h.1 (open_before kind known name s.stage s.declared s.plains s.rules l.number number l.text u step h.0)

-- what is open at the end began with one of the lines, or was open before them
pub opened : (kind : FileKind) (known : Declared) (name : List ℕ) (number : ℕ) (s : State) (lines : List Numbered) (t : State) → Leads kind known name s lines t → IsInside t.stage number
    → Opened kind known name s lines number ⊎ (IsInside s.stage number × NeverEnds kind known name s lines)
opened kind known name number s [] t h inside =
    let now : IsInside s.stage number = subst (λ (x : State). IsInside x.stage number) (sym h) inside in
    inr (now, never_now kind known name s number now)
opened kind known name number s (l ∷ lines) t h inside = one_more kind known name number s h.0 l lines h.1 (opened kind known name number h.0 lines t h.2 inside)
