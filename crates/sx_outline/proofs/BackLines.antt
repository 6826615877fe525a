-- Lines that lead to where nothing is left open are as they should be.
use Rattle.std.proofs.Common.{◌≡◌, ℕ, List, [], ◌∷◌, ◌++◌, Option, Some, None, refl, sym, ap, subst, ◌∙◌, inl, inr, append_assoc}
use Rattle.std.specs.Prelude.{◌⊎◌}
use Rattle.std.specs.List.{AllByRecursion}
use Rattle.sx_directives.specs.declared.file_kind.FileKind.{FileKind}
use Rattle.sx_directives.specs.declared.file_kind.FileKind.TheVariants as files
use Rattle.sx_directives.specs.Rows.{IsRow}
use Rattle.sx_directives.specs.declared.rows.PlainLine.{PlainLine}
use Rattle.sx_directives.specs.declared.rows.MainLine.{MainLine}
use Rattle.sx_directives.specs.declared.row.Row.{Row}
use Rattle.sx_directives.specs.declared.row.Row.TheVariants.{Sort, Prod, Var, Form, Main, Plain}
use Rattle.sx_directives.specs.declared.row.Row.TheVariants.{Rule, End, To}
use Rattle.sx_outline.specs.Declarations.{Declared, nothing, declare}
use Rattle.sx_outline.specs.Fitting.{ArePartNames, RowFits}
use Rattle.sx_outline.specs.Stages.{Numbered, PlainData, RuleData, Stage, at_start, at_declarations}
use Rattle.sx_outline.specs.Stages.{at_body, at_plains, at_rules, at_premises, at_conclusion}
use Rattle.sx_outline.specs.Stages.{at_end, State, start, start_after, StepsAt, IsGoodRow, IsBar}
use Rattle.sx_outline.specs.Stages.{IsWhole, MayStandAt, HasMain, state_after_row, begun_plain, paired}
use Rattle.sx_outline.specs.Stages.{head_row}
use Rattle.sx_outline.specs.Structure.{IsDeclaring, AreBodies, ArePlainPairs, AreRuleRows}
use Rattle.sx_outline.specs.BadLines.{AreMains, AreLinesAmong, AreLanguageLines}
use Rattle.sx_outline.proofs.Led.{Leads}

-- the lines of rules
pub record RestRules (kind : FileKind) (lines : List Numbered) : Type 0 where
  pub stated : List RuleData
  pub are : AreRuleRows kind lines stated

-- the lines of plain pairs and of rules
pub record RestPairs (kind : FileKind) (known : Declared) (lines : List Numbered) : Type 0 where
  pub pairs : List Numbered
  pub rules : List Numbered
  pub lines_are : lines ≡ pairs ++ rules
  pub plains : List PlainData
  pub pairs_are : ArePlainPairs kind known pairs plains
  pub rest : RestRules kind rules

-- a body, and then the lines of plain pairs and of rules
pub record RestBody (kind : FileKind) (known : Declared) (lines : List Numbered) : Type 0 where
  pub body : Numbered
  pub others : List Numbered
  pub lines_are : lines ≡ body ∷ others
  pub rest : RestPairs kind known others

-- the bodies and the end of a rule, and then the lines of rules
pub record RestEnd (kind : FileKind) (given : Option Numbered) (lines : List Numbered) : Type 0 where
  pub bodies : List Numbered
  pub last : Numbered
  pub back : List Numbered
  pub lines_are : lines ≡ (bodies ++ last ∷ []) ++ back
  pub body : Option Numbered
  pub bodies_are : AreBodies kind bodies body
  pub fits : (given ≡ None) ⊎ (bodies ≡ [])
  pub ends : IsRow kind last.text End
  pub rest : RestRules kind back

pub record RestConclusion (kind : FileKind) (lines : List Numbered) : Type 0 where
  pub conclusion : Numbered
  pub others : List Numbered
  pub lines_are : lines ≡ conclusion ∷ others
  pub rest : RestEnd kind None others

pub record RestPremises (kind : FileKind) (lines : List Numbered) : Type 0 where
  pub premises : List Numbered
  pub bar : Numbered
  pub others : List Numbered
  pub lines_are : lines ≡ premises ++ bar ∷ others
  pub plain : AllByRecursion (λ l. IsBar l.text → ⊥) premises
  pub divides : IsBar bar.text
  pub rest : RestConclusion kind others

pub record RestFile (kind : FileKind) (known : Declared) (name : List ℕ) (before : Declared) (lines : List Numbered) : Type 0 where
  pub first : Numbered
  pub others : List Numbered
  pub lines_are : lines ≡ first ∷ others
  pub named : IsRow kind first.text (head_row kind name)
  pub rest : AreLinesAmong kind known before others

-- what is left of lines that are as they should be, at each stage
abbrev pub Rest : FileKind → Declared → List ℕ → Stage → Declared → List Numbered → Type 0
Rest kind known name at_start d lines = RestFile kind known name d lines
Rest kind known name at_declarations d lines = AreLinesAmong kind known d lines
Rest kind known name (at_body b) d lines = RestBody kind known lines
Rest kind known name at_plains d lines = RestPairs kind known lines
Rest kind known name at_rules d lines = RestRules kind lines
Rest kind known name (at_premises b) d lines = RestPremises kind lines
Rest kind known name (at_conclusion b) d lines = RestConclusion kind lines
Rest kind known name (at_end r) d lines = RestEnd kind r.body lines

-- ---- the end

no_rules : (kind : FileKind) → RestRules kind []
no_rules kind = record { stated = []; are = refl }

none_left : (kind : FileKind) (known : Declared) (name : List ℕ) (at : Stage) (d : Declared) → IsWhole at → AreMains known d.mains → Rest kind known name at d []
none_left kind known name at_declarations d whole mains = record {
  declarations = [];
  pairs = [];
  rules = [];
  lines_are = refl;
  all = d;
  declared = refl;
  mains = mains;
  plains = [];
  pairs_are = tt;
  stated = [];
  rules_are = refl;
}
none_left kind known name at_plains d whole mains = record { pairs = []; rules = []; lines_are = refl; plains = []; pairs_are = tt; rest = no_rules kind }
none_left kind known name at_rules d whole mains = no_rules kind
none_left kind known name _ d whole mains = absurd whole

-- ---- one more line in front

begun_rule : (kind : FileKind) (l : Numbered) (given : List ℕ) (lines : List Numbered) → IsRow kind l.text (Rule given) → RestPremises kind lines → RestRules kind (l ∷ lines)
begun_rule kind l given lines spelled h =
    let conclusion = h.rest in
    let last = conclusion.rest in
    let inner : List Numbered = h.bar ∷ conclusion.conclusion ∷ last.bodies in
    let own : List Numbered = (h.premises ++ inner) ++ last.last ∷ [] in
    let parts : lines ≡ own ++ last.back =
    h.lines_are ∙ ap (λ (x : List Numbered). h.premises ++ h.bar ∷ x) (conclusion.lines_are ∙ ap (λ (x : List Numbered). conclusion.conclusion ∷ x)
    (last.lines_are ∙ append_assoc last.bodies (last.last ∷ []) last.back)) ∙ sym (append_assoc h.premises inner (last.last ∷ last.back))
    ∙ sym (append_assoc (h.premises ++ inner) (last.last ∷ []) last.back) in
    let r : RuleData = record { number = l.number; name = given; premises = h.premises; conclusion = conclusion.conclusion; body = last.body } in
    record {
      stated = r ∷ last.rest.stated;
      are = (
        l ∷ own,
        last.back,
        ap (λ (x : List Numbered). l ∷ x) parts,
        record {
          first = l;
          bar = h.bar;
          bodies = last.bodies;
          last = last.last;
          lines_are = refl;
          number = refl;
          begins = spelled;
          premises = h.plain;
          divides = h.divides;
          body = last.bodies_are;
          ends = last.ends;
        },
        last.rest.are,
      );
    }

begun_pair : (kind : FileKind) (known : Declared) (l : Numbered) (row : PlainLine) (lines : List Numbered) → IsRow kind l.text (Plain row) → ArePartNames known row.label row.names.items
    → RestBody kind known lines → RestPairs kind known (l ∷ lines)
begun_pair kind known l row lines spelled fits h = record {
  pairs = l ∷ h.body ∷ h.rest.pairs;
  rules = h.rest.rules;
  lines_are = ap (λ (x : List Numbered). l ∷ x) (h.lines_are ∙ ap (λ (x : List Numbered). h.body ∷ x) h.rest.lines_are);
  plains = paired (begun_plain l.number row) h.body ∷ h.rest.plains;
  pairs_are = (record { row = row; spelled = spelled; fits = fits; is = refl }, h.rest.pairs_are);
  rest = h.rest.rest;
}

rules_alone : (kind : FileKind) (known : Declared) (lines : List Numbered) → RestRules kind lines → RestPairs kind known lines
rules_alone kind known lines h = record { pairs = []; rules = lines; lines_are = refl; plains = []; pairs_are = tt; rest = h }

none_declared : (kind : FileKind) (known d : Declared) (lines : List Numbered) → AreMains known d.mains → RestPairs kind known lines → AreLinesAmong kind known d lines
none_declared kind known d lines mains h = record {
  declarations = [];
  pairs = h.pairs;
  rules = h.rules;
  lines_are = h.lines_are;
  all = d;
  declared = refl;
  mains = mains;
  plains = h.plains;
  pairs_are = h.pairs_are;
  stated = h.rest.stated;
  rules_are = h.rest.are;
}

one_declared : (kind : FileKind) (known d : Declared) (l : Numbered) (row : Row) (lines : List Numbered) → IsRow kind l.text row → IsDeclaring row → RowFits known d row
    → AreLinesAmong kind known (declare d row) lines → AreLinesAmong kind known d (l ∷ lines)
one_declared kind known d l row lines spelled declaring fits h = record {
  declarations = l ∷ h.declarations;
  pairs = h.pairs;
  rules = h.rules;
  lines_are = ap (λ (x : List Numbered). l ∷ x) h.lines_are;
  all = h.all;
  declared = (row, spelled, declaring, fits, h.declared);
  mains = h.mains;
  plains = h.plains;
  pairs_are = h.pairs_are;
  stated = h.stated;
  rules_are = h.rules_are;
}

-- a state at this stage
abbrev st : Stage → Declared → List PlainData → List RuleData → State
st at d plains rules = record { stage = at; declared = d; plains = plains; rules = rules }

declarations_row : (kind : FileKind) (known : Declared) (name : List ℕ) (d : Declared) (plains : List PlainData) (rules : List RuleData) (l : Numbered) (row : Row) (lines : List Numbered)
    → IsGoodRow kind known (st at_declarations d plains rules) l.text row → AreMains known d.mains
    → let t : State = state_after_row (st at_declarations d plains rules) l.number row in Rest kind known name t.stage t.declared lines
    → AreLinesAmong kind known d (l ∷ lines)
declarations_row kind known name d plains rules l (Sort s) lines good mains h = one_declared kind known d l (Sort s) lines good.spelled tt good.fits h
declarations_row kind known name d plains rules l (Prod p) lines good mains h = one_declared kind known d l (Prod p) lines good.spelled tt good.fits h
declarations_row kind known name d plains rules l (Var v) lines good mains h = one_declared kind known d l (Var v) lines good.spelled tt good.fits h
declarations_row kind known name d plains rules l (Form f) lines good mains h = one_declared kind known d l (Form f) lines good.spelled tt good.fits h
declarations_row kind known name d plains rules l (Main m) lines good mains h = one_declared kind known d l (Main m) lines good.spelled tt good.fits h
declarations_row kind known name d plains rules l (Plain row) lines good mains h = none_declared kind known d (l ∷ lines) mains (begun_pair kind known l row lines good.spelled good.fits h)
declarations_row kind known name d plains rules l (Rule given) lines good mains h =
    none_declared kind known d (l ∷ lines) mains (rules_alone kind known (l ∷ lines) (begun_rule kind l given lines good.spelled h))
declarations_row kind known name d plains rules l _ lines good mains h = absurd good.stands

plains_row : (kind : FileKind) (known : Declared) (name : List ℕ) (d : Declared) (plains : List PlainData) (rules : List RuleData) (l : Numbered) (row : Row) (lines : List Numbered)
    → IsGoodRow kind known (st at_plains d plains rules) l.text row
    → let t : State = state_after_row (st at_plains d plains rules) l.number row in Rest kind known name t.stage t.declared lines
    → RestPairs kind known (l ∷ lines)
plains_row kind known name d plains rules l (Plain row) lines good h = begun_pair kind known l row lines good.spelled good.fits h
plains_row kind known name d plains rules l (Rule given) lines good h = rules_alone kind known (l ∷ lines) (begun_rule kind l given lines good.spelled h)
plains_row kind known name d plains rules l _ lines good h = absurd good.stands

rules_row : (kind : FileKind) (known : Declared) (name : List ℕ) (d : Declared) (plains : List PlainData) (rules : List RuleData) (l : Numbered) (row : Row) (lines : List Numbered)
    → IsGoodRow kind known (st at_rules d plains rules) l.text row
    → let t : State = state_after_row (st at_rules d plains rules) l.number row in Rest kind known name t.stage t.declared lines
    → RestRules kind (l ∷ lines)
rules_row kind known name d plains rules l (Rule given) lines good h = begun_rule kind l given lines good.spelled h
rules_row kind known name d plains rules l _ lines good h = absurd good.stands

some_none : (b : Numbered) → Some b ≡ None → ⊥
some_none b e = cc

-- after its body a rule has no more
body_done : (b : Numbered) (bodies : List Numbered) → (Some b ≡ None) ⊎ (bodies ≡ []) → bodies ≡ []
body_done b bodies (inl e) = absurd (some_none b e)
body_done b bodies (inr e) = e

end_row : (kind : FileKind) (known : Declared) (name : List ℕ) (r : RuleData) (d : Declared) (plains : List PlainData) (rules : List RuleData) (l : Numbered) (row : Row) (lines : List Numbered)
    → IsGoodRow kind known (st (at_end r) d plains rules) l.text row
    → let t : State = state_after_row (st (at_end r) d plains rules) l.number row in Rest kind known name t.stage t.declared lines
    → RestEnd kind r.body (l ∷ lines)
end_row kind known name r d plains rules l End lines good h = record {
  bodies = [];
  last = l;
  back = lines;
  lines_are = refl;
  body = None;
  bodies_are = tt;
  fits = inr refl;
  ends = good.spelled;
  rest = h;
}
end_row kind known name r d plains rules l (To body) lines good h =
    let b : Numbered = record { number = l.number; text = body } in
    let done : h.bodies ≡ [] = body_done b h.bodies h.fits in
    record {
      bodies = l ∷ [];
      last = h.last;
      back = h.back;
      lines_are = ap (λ (x : List Numbered). l ∷ x) (h.lines_are ∙ ap (λ (x : List Numbered). (x ++ h.last ∷ []) ++ h.back) done);
      body = Some b;
      bodies_are = (good.spelled, refl);
      fits = inl good.stands;
      ends = h.ends;
      rest = h.rest;
    }
end_row kind known name r d plains rules l _ lines good h = absurd good.stands

back_line : (kind : FileKind) (known : Declared) (name : List ℕ) (at : Stage) (d : Declared) (plains : List PlainData) (rules : List RuleData) (l : Numbered) (t : State) (lines : List Numbered)
    → StepsAt at kind known name (st at d plains rules) l.number l.text t → AreMains known d.mains → Rest kind known name t.stage t.declared lines → Rest kind known name at d (l ∷ lines)
back_line kind known name at_start d plains rules l t lines steps mains h =
    let rest : AreLinesAmong kind known d lines = subst (λ (x : State). Rest kind known name x.stage x.declared lines) steps.1 h in
    record { first = l; others = lines; lines_are = refl; named = steps.0; rest = rest }
back_line kind known name at_declarations d plains rules l t lines (row, good, e) mains h =
    declarations_row kind known name d plains rules l row lines good mains (subst (λ (x : State). Rest kind known name x.stage x.declared lines) e h)
back_line kind known name (at_body b) d plains rules l t lines steps mains h =
    let rest : RestPairs kind known lines = subst (λ (x : State). Rest kind known name x.stage x.declared lines) steps h in
    record { body = l; others = lines; lines_are = refl; rest = rest }
back_line kind known name at_plains d plains rules l t lines (row, good, e) mains h =
    plains_row kind known name d plains rules l row lines good (subst (λ (x : State). Rest kind known name x.stage x.declared lines) e h)
back_line kind known name at_rules d plains rules l t lines (row, good, e) mains h =
    rules_row kind known name d plains rules l row lines good (subst (λ (x : State). Rest kind known name x.stage x.declared lines) e h)
back_line kind known name (at_premises b) d plains rules l t lines (inl steps) mains h =
    let rest : RestConclusion kind lines = subst (λ (x : State). Rest kind known name x.stage x.declared lines) steps.1 h in
    record { premises = []; bar = l; others = lines; lines_are = refl; plain = tt; divides = steps.0; rest = rest }
back_line kind known name (at_premises b) d plains rules l t lines (inr steps) mains h =
    let rest : RestPremises kind lines = subst (λ (x : State). Rest kind known name x.stage x.declared lines) steps.1 h in
    record {
      premises = l ∷ rest.premises;
      bar = rest.bar;
      others = rest.others;
      lines_are = ap (λ (x : List Numbered). l ∷ x) rest.lines_are;
      plain = (steps.0, rest.plain);
      divides = rest.divides;
      rest = rest.rest;
    }
back_line kind known name (at_conclusion b) d plains rules l t lines steps mains h =
    let rest : RestEnd kind None lines = subst (λ (x : State). Rest kind known name x.stage x.declared lines) steps h in
    record { conclusion = l; others = lines; lines_are = refl; rest = rest }
back_line kind known name (at_end r) d plains rules l t lines (row, good, e) mains h =
    end_row kind known name r d plains rules l row lines good (subst (λ (x : State). Rest kind known name x.stage x.declared lines) e h)

-- ---- main lines

one_main : (known : Declared) (mains : List MainLine) (m : MainLine) → mains ≡ [] → HasMain known (Main m) → AreMains known (mains ++ m ∷ [])
one_main known mains m e h = subst (λ (x : List MainLine). AreMains known (x ++ m ∷ [])) (sym e) h

row_mains : (known d : Declared) (plains : List PlainData) (rules : List RuleData) (n : ℕ) (row : Row) → MayStandAt at_declarations d.mains row → HasMain known row → AreMains known d.mains
    → let t : State = state_after_row (st at_declarations d plains rules) n row in AreMains known t.declared.mains
row_mains known d plains rules n (Sort s) stands main mains = mains
row_mains known d plains rules n (Prod p) stands main mains = mains
row_mains known d plains rules n (Var v) stands main mains = mains
row_mains known d plains rules n (Form f) stands main mains = mains
row_mains known d plains rules n (Main m) stands main mains = one_main known d.mains m stands main
row_mains known d plains rules n (Plain p) stands main mains = mains
row_mains known d plains rules n (Rule given) stands main mains = mains
row_mains known d plains rules n _ stands main mains = absurd stands

plains_mains : (known d : Declared) (plains : List PlainData) (rules : List RuleData) (n : ℕ) (row : Row) → MayStandAt at_plains d.mains row → AreMains known d.mains
    → let t : State = state_after_row (st at_plains d plains rules) n row in AreMains known t.declared.mains
plains_mains known d plains rules n (Plain p) stands mains = mains
plains_mains known d plains rules n (Rule given) stands mains = mains
plains_mains known d plains rules n _ stands mains = absurd stands

rules_mains : (known d : Declared) (plains : List PlainData) (rules : List RuleData) (n : ℕ) (row : Row) → MayStandAt at_rules d.mains row → AreMains known d.mains
    → let t : State = state_after_row (st at_rules d plains rules) n row in AreMains known t.declared.mains
rules_mains known d plains rules n (Rule given) stands mains = mains
rules_mains known d plains rules n _ stands mains = absurd stands

end_mains : (known d : Declared) (r : RuleData) (plains : List PlainData) (rules : List RuleData) (n : ℕ) (row : Row) → MayStandAt (at_end r) d.mains row → AreMains known d.mains
    → let t : State = state_after_row (st (at_end r) d plains rules) n row in AreMains known t.declared.mains
end_mains known d r plains rules n End stands mains = mains
end_mains known d r plains rules n (To body) stands mains = mains
end_mains known d r plains rules n _ stands mains = absurd stands

next_mains : (kind : FileKind) (known : Declared) (name : List ℕ) (at : Stage) (d : Declared) (plains : List PlainData) (rules : List RuleData) (n : ℕ) (text : List ℕ) (t : State)
    → StepsAt at kind known name (st at d plains rules) n text t → AreMains known d.mains → AreMains known t.declared.mains
next_mains kind known name at_start d plains rules n text t steps mains = subst (λ (x : State). AreMains known x.declared.mains) (sym steps.1) mains
next_mains kind known name at_declarations d plains rules n text t (row, good, e) mains =
    subst (λ (x : State). AreMains known x.declared.mains) (sym e) (row_mains known d plains rules n row good.stands good.main mains)
next_mains kind known name (at_body b) d plains rules n text t steps mains = subst (λ (x : State). AreMains known x.declared.mains) (sym steps) mains
next_mains kind known name at_plains d plains rules n text t (row, good, e) mains =
    subst (λ (x : State). AreMains known x.declared.mains) (sym e) (plains_mains known d plains rules n row good.stands mains)
next_mains kind known name at_rules d plains rules n text t (row, good, e) mains =
    subst (λ (x : State). AreMains known x.declared.mains) (sym e) (rules_mains known d plains rules n row good.stands mains)
next_mains kind known name (at_premises b) d plains rules n text t (inl steps) mains = subst (λ (x : State). AreMains known x.declared.mains) (sym steps.1) mains
next_mains kind known name (at_premises b) d plains rules n text t (inr steps) mains = subst (λ (x : State). AreMains known x.declared.mains) (sym steps.1) mains
next_mains kind known name (at_conclusion b) d plains rules n text t steps mains = subst (λ (x : State). AreMains known x.declared.mains) (sym steps) mains
next_mains kind known name (at_end r) d plains rules n text t (row, good, e) mains =
    subst (λ (x : State). AreMains known x.declared.mains) (sym e) (end_mains known d r plains rules n row good.stands mains)

-- ---- all of them

pub back_lines : (kind : FileKind) (known : Declared) (name : List ℕ) (s : State) (lines : List Numbered) (t : State) → Leads kind known name s lines t → IsWhole t.stage
    → AreMains known s.declared.mains → Rest kind known name s.stage s.declared lines
back_lines kind known name s [] t h whole mains = none_left kind known name s.stage s.declared (subst (λ (x : State). IsWhole x.stage) (sym h) whole) mains
back_lines kind known name s (l ∷ lines) t h whole mains =
    back_line kind known name s.stage s.declared s.plains s.rules l h.0 lines h.1 mains
    (back_lines kind known name h.0 lines t h.2 whole (next_mains kind known name s.stage s.declared s.plains s.rules l.number l.text h.0 h.1 mains))

pub lines_back : (kind : FileKind) (known before : Declared) (name : List ℕ) (lines : List Numbered) (t : State) → before.mains ≡ [] → Leads kind known name (start_after before) lines t → IsWhole t.stage
    → AreLinesAmong kind known before lines
lines_back kind known before name lines t e h whole = back_lines kind known name (start_after before) lines t h whole (subst (AreMains known) (sym e) tt)

pub language_back : (known : Declared) (name : List ℕ) (lines : List Numbered) (t : State) → Leads files.Language known name start lines t → IsWhole t.stage → AreLanguageLines name known lines
language_back known name lines t h whole =
    let file : RestFile files.Language known name nothing lines = back_lines files.Language known name start lines t h whole tt in
    record { first = file.first; others = file.others; lines_are = file.lines_are; named = file.named; among = file.rest }
