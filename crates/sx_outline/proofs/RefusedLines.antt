-- Why the lines of a language file are refused.
use Rattle.std.proofs.Common.{◌≡◌, ℕ, List, [], ◌∷◌, ◌++◌, Result, Err, false, refl, sym, ap, subst, ◌∙◌, inl, inr}
use Rattle.std.specs.Prelude.{◌⊎◌}
use Rattle.sx_lines.specs.Lines.{Lines, lines_from}
use Rattle.sx_lines.specs.declared.kind.Kind.{Kind}
use Rattle.sx_lines.specs.declared.kind.Kind.TheVariants.{Head, Directive, Shape, Order, Unfinished, Main as NoMain, Variable}
use Rattle.sx_directives.specs.declared.file_kind.FileKind.{FileKind}
use Rattle.sx_directives.specs.declared.file_kind.FileKind.TheVariants as files
use Rattle.sx_directives.specs.Spelling.{IsName}
use Rattle.sx_directives.specs.declared.rows.MainLine.{MainLine}
use Rattle.sx_directives.specs.declared.row.Row.{Row}
use Rattle.sx_directives.specs.declared.row.Row.TheVariants.{Sort, Prod, Var, Form, Main, Plain, Rule, End, To}
use Rattle.sx_outline.specs.declared.outline_error.OutlineError.{OutlineError}
use Rattle.sx_outline.specs.declared.outline_error.OutlineError.TheVariants.{Notation}
use Rattle.sx_outline.specs.Declarations.{Declared, nothing}
use Rattle.sx_outline.specs.Known.{Declares, kept_lines}
use Rattle.sx_outline.specs.Stages.{Numbered, PlainData, RuleData, Stage, at_start, at_declarations, at_body, at_plains, at_rules, at_premises, at_conclusion, at_end, State, start, StepsAt, MayStandAt, IsWhole, IsInside, state_after_row}
use Rattle.sx_outline.specs.Outlined.{OutlineData, declared_by, IsEnd, IsMissing, IsReadAs}
use Rattle.sx_outline.specs.Structure.{numbered_lines, AreOutlineLines}
use Rattle.sx_outline.specs.BadLines.{AreLanguageLines, BeginGoodFile, IsBadLine, IsNotEnded, AreCutOff, HasNoMain, IsLanguageRefused, end_number}
use Rattle.sx_outline.proofs.Led.{Leads, leads_append, leads_split, leads_once, leads_nowhere, StopsAt, Course, stops, ends, course}
use Rattle.sx_outline.proofs.GoodLines.{LeadsTo, language_leads}
use Rattle.sx_outline.proofs.BackLines.{language_back}
use Rattle.sx_outline.proofs.OtherKnown.{bad_elsewhere}
use Rattle.sx_outline.proofs.Closing.{Closes, HasBegun, language_closes}
use Rattle.sx_outline.proofs.Written.{InOrder, number_after, make_file, first_order, kept_in_order}
use Rattle.sx_outline.proofs.NotEnded.{Opened, NeverEnds, opened}
use Rattle.sx_outline.proofs.LinesDeclared.{none_first}

-- ---- a bad line

-- lines that lead on are the first of good ones
begin_good : (known : Declared) (name : List ℕ) (front : List Numbered) (t : State) → IsName name → InOrder 1 front → Leads files.Language known name start front t
    → BeginGoodFile (AreLanguageLines name known) [] front
begin_good known name front t named order h =
    let more : Closes files.Language known name t (number_after 1 front) = language_closes known name t (number_after 1 front) named in
    make_file (AreLanguageLines name known) [] front more.lines order more.order
    (language_back known name (front ++ more.lines) more.last (leads_append files.Language known name start t more.last front more.lines h more.leads) more.whole)

bad_line : (name : List ℕ) (known : Declared) (lines : Lines) (number : ℕ) (kind : Kind) → IsName name → InOrder 1 (numbered_lines lines) → StopsAt files.Language known name start (numbered_lines lines) number kind
    → IsBadLine name known lines number kind
bad_line name known lines number kind named order h =
    let bad : Numbered = record { number = number; text = h.text } in
    record {
      front = h.front;
      bad = bad;
      rest = h.rest;
      lines_are = h.lines_are;
      place = refl;
      before = begin_good known name h.front h.state named (first_order [] (numbered_lines lines) h.front (bad ∷ h.rest) h.lines_are order) h.leads;
      none = λ found.
          let other : Declared = found.1.0 in
          let good : AreLanguageLines name other ((h.front ++ bad ∷ []) ++ found.0) = found.1.2 in
          let out : LeadsTo files.Language other name start ((h.front ++ bad ∷ []) ++ found.0) good.among.all = language_leads other name ((h.front ++ bad ∷ []) ++ found.0) good in
          leads_nowhere files.Language known other name start h.state out.last h.front found.0 bad h.leads
          (λ v step more. bad_elsewhere known other name h.state number h.text v kind found.1.1 h.bad step) out.leads;
    }

stopped : (name : List ℕ) (known : Declared) (lines : Lines) (number : ℕ) (kind : Kind) → IsName name → InOrder 1 (numbered_lines lines) → StopsAt files.Language known name start (numbered_lines lines) number kind
    → IsLanguageRefused name known lines number kind
stopped name known lines number Head named order h = inl (bad_line name known lines number Head named order h)
stopped name known lines number Directive named order h = bad_line name known lines number Directive named order h
stopped name known lines number Shape named order h = bad_line name known lines number Shape named order h
stopped name known lines number Order named order h = bad_line name known lines number Order named order h
stopped name known lines number Unfinished named order h = absurd h.bad
stopped name known lines number NoMain named order h = inl (bad_line name known lines number NoMain named order h)
stopped name known lines number Variable named order h = absurd h.bad

-- ---- the end

row_begun : (s : State) (n : ℕ) (row : Row) → MayStandAt s.stage s.declared.mains row → HasBegun (state_after_row s n row).stage
row_begun s n row stands = at_row s.stage s.declared s.plains s.rules n row stands
  where
    at_row : (at : Stage) (d : Declared) (plains : List PlainData) (rules : List RuleData) (n : ℕ) (row : Row) → MayStandAt at d.mains row
        → let s : State = record { stage = at; declared = d; plains = plains; rules = rules } in HasBegun (state_after_row s n row).stage
    at_row at_declarations d plains rules n (Sort s) stands = tt
    at_row at_declarations d plains rules n (Prod p) stands = tt
    at_row at_declarations d plains rules n (Var v) stands = tt
    at_row at_declarations d plains rules n (Form f) stands = tt
    at_row at_declarations d plains rules n (Main m) stands = tt
    at_row at d plains rules n (Plain p) stands = tt
    at_row at d plains rules n (Rule given) stands = tt
    at_row (at_end r) d plains rules n End stands = tt
    at_row (at_end r) d plains rules n (To body) stands = tt
    at_row at d plains rules n row stands = absurd stands

-- after a line the reading has begun
step_begun : (kind : FileKind) (known : Declared) (name : List ℕ) (at : Stage) (s : State) (n : ℕ) (text : List ℕ) (t : State) → s.stage ≡ at → StepsAt at kind known name s n text t → HasBegun t.stage
step_begun kind known name at_start s n text t e h = subst (λ (x : State). HasBegun x.stage) (sym h.1) tt
step_begun kind known name at_declarations s n text t e (row, good, is) = subst (λ (x : State). HasBegun x.stage) (sym is) (row_begun s n row good.stands)
step_begun kind known name (at_body b) s n text t e h = subst (λ (x : State). HasBegun x.stage) (sym h) tt
step_begun kind known name at_plains s n text t e (row, good, is) = subst (λ (x : State). HasBegun x.stage) (sym is) (row_begun s n row good.stands)
step_begun kind known name at_rules s n text t e (row, good, is) = subst (λ (x : State). HasBegun x.stage) (sym is) (row_begun s n row good.stands)
step_begun kind known name (at_premises b) s n text t e (inl h) = subst (λ (x : State). HasBegun x.stage) (sym h.1) tt
step_begun kind known name (at_premises b) s n text t e (inr h) = subst (λ (x : State). HasBegun x.stage) (sym h.1) tt
step_begun kind known name (at_conclusion b) s n text t e h = subst (λ (x : State). HasBegun x.stage) (sym h) tt
step_begun kind known name (at_end r) s n text t e (row, good, is) = subst (λ (x : State). HasBegun x.stage) (sym is) (row_begun s n row good.stands)

pub leads_begun : (kind : FileKind) (known : Declared) (name : List ℕ) (s : State) (lines : List Numbered) (t : State) → HasBegun s.stage → Leads kind known name s lines t → HasBegun t.stage
leads_begun kind known name s [] t b h = subst (λ (x : State). HasBegun x.stage) h b
leads_begun kind known name s (l ∷ lines) t b h = leads_begun kind known name h.0 lines t (step_begun kind known name s.stage s l.number l.text h.0 refl h.1) h.2

-- where nothing has begun there is no line
no_lines : (kind : FileKind) (known : Declared) (name : List ℕ) (s : State) (lines : List Numbered) (t : State) → t.stage ≡ at_start → Leads kind known name s lines t → lines ≡ []
no_lines kind known name s [] t e h = refl
no_lines kind known name s (l ∷ lines) t e h =
    absurd (subst HasBegun e (leads_begun kind known name h.0 lines t (step_begun kind known name s.stage s l.number l.text h.0 refl h.1) h.2))

not_empty : (name : List ℕ) (known : Declared) → AreLanguageLines name known [] → ⊥
not_empty name known h = none_first h.first h.others h.lines_are

no_line : (name : List ℕ) (known : Declared) (lines : Lines) (number : ℕ) (t : State) → IsName name → InOrder 1 (numbered_lines lines) → Leads files.Language known name start (numbered_lines lines) t → t.stage ≡ at_start
    → number ≡ end_number lines → AreCutOff (AreLanguageLines name known) lines number
no_line name known lines number t named order h e place =
    let empty : numbered_lines lines ≡ [] = no_lines files.Language known name start (numbered_lines lines) t e h in
    record {
      place = sym place;
      on = begin_good known name (numbered_lines lines) t named order h;
      none = λ good. not_empty name known (subst (AreLanguageLines name known) empty good);
    }

no_main : (name : List ℕ) (known : Declared) (lines : Lines) (number : ℕ) (t : State) → Leads files.Language known name start (numbered_lines lines) t → IsWhole t.stage → t.declared.mains ≡ []
    → number ≡ end_number lines → HasNoMain name known lines number
no_main name known lines number t h whole none place =
    let good : AreLanguageLines name known (numbered_lines lines) = language_back known name (numbered_lines lines) t h whole in
    let out : LeadsTo files.Language known name start (numbered_lines lines) good.among.all = language_leads known name (numbered_lines lines) good in
    let same : out.last ≡ t = leads_once files.Language known known name start out.last t (numbered_lines lines) out.leads h in
    record { place = sym place; good = good; none = ap (λ (x : Declared). x.mains) (sym out.declared) ∙ ap (λ (x : State). x.declared.mains) same ∙ none }

not_ended : (name : List ℕ) (known : Declared) (lines : List Numbered) (number : ℕ) (t : State) → IsName name → InOrder 1 lines → Leads files.Language known name start lines t
    → Opened files.Language known name start lines number → IsNotEnded (AreLanguageLines name known) [] lines number
not_ended name known lines number t named order h found = record {
  front = found.front;
  first = found.first;
  rest = found.rest;
  lines_are = found.lines_are;
  place = found.place;
  on = begin_good known name lines t named order h;
  before = language_back known name found.front found.middle found.leads found.whole;
  none = λ more after e good.
      let out : LeadsTo files.Language known name start (found.front ++ found.first ∷ more) good.among.all = language_leads known name (found.front ++ found.first ∷ more) good in
      let cut = leads_split files.Language known name start out.last found.front (found.first ∷ more) out.leads in
      let same : cut.0 ≡ found.middle = leads_once files.Language known known name start cut.0 found.middle found.front cut.1 found.leads in
      found.none more after out.last e (subst (λ (x : State). Leads files.Language known name x (found.first ∷ more) out.last) same cut.2) out.whole;
}

-- before the first line nothing is open
ended_early : (name : List ℕ) (known : Declared) (lines : List Numbered) (number : ℕ) (t : State) → IsName name → InOrder 1 lines → Leads files.Language known name start lines t
    → Opened files.Language known name start lines number ⊎ (IsInside at_start number × NeverEnds files.Language known name start lines) → IsNotEnded (AreLanguageLines name known) [] lines number
ended_early name known lines number t named order h (inl found) = not_ended name known lines number t named order h found
ended_early name known lines number t named order h (inr other) = absurd other.0

missing : (name : List ℕ) (known : Declared) (lines : Lines) (number : ℕ) (kind : Kind) (t : State) → IsName name → InOrder 1 (numbered_lines lines) → Leads files.Language known name start (numbered_lines lines) t
    → IsMissing t (end_number lines) number kind → IsLanguageRefused name known lines number kind
missing name known lines number Head t named order h m = inr (no_line name known lines number t named order h m.0 m.1)
missing name known lines number Unfinished t named order h m =
    ended_early name known (numbered_lines lines) number t named order h (opened files.Language known name number start (numbered_lines lines) t h m)
missing name known lines number NoMain t named order h m = inr (no_main name known lines number t h m.0 m.1 m.2)
missing name known lines number Directive t named order h m = absurd m
missing name known lines number Shape t named order h m = absurd m
missing name known lines number Order t named order h m = absurd m
missing name known lines number Variable t named order h m = absurd m

-- ---- the file

abbrev refusal : ℕ → Kind → Result OutlineData OutlineError
refusal number kind = Err (Notation number kind)

same_refusal : (n m : ℕ) (k l : Kind) → refusal n k ≡ refusal m l → (n ≡ m) × (k ≡ l)
same_refusal n m k l e = (cc, cc)

of_course : (name : List ℕ) (known : Declared) (lines : Lines) (number : ℕ) (kind : Kind) → IsName name → InOrder 1 (numbered_lines lines)
    → Course files.Language known name start lines (λ s end. IsEnd s end (refusal number kind)) (λ n k. refusal number kind ≡ refusal n k) → IsLanguageRefused name known lines number kind
of_course name known lines number kind named order (stops n wrong h e) =
    let same = same_refusal number n kind wrong e in
    subst (λ (x : ℕ). IsLanguageRefused name known lines x kind) (sym same.0) (subst (λ (x : Kind). IsLanguageRefused name known lines n x) (sym same.1) (stopped name known lines n wrong named order h))
of_course name known lines number kind named order (ends h) = missing name known lines number kind h.state named order h.leads h.holds

pub language_refused : (name bytes : List ℕ) (number : ℕ) (kind : Kind) → IsName name → IsReadAs name bytes (Err (Notation number kind))
    → (known : Declared) × Declares files.Language false nothing (kept_lines (lines_from 1 bytes)) known × IsLanguageRefused name known (kept_lines (lines_from 1 bytes)) number kind
language_refused name bytes number kind named h =
    let lines : Lines = kept_lines (lines_from 1 bytes) in (
      h.known,
      h.declares,
      of_course name h.known lines number kind named (kept_in_order bytes h.utf8)
          (course files.Language h.known name (λ s end. IsEnd s end (refusal number kind)) (λ n k. refusal number kind ≡ refusal n k) start lines h.outcome),
    )

-- the lines of an outline are good
pub outline_good : (name : List ℕ) (lines : List Numbered) (o : OutlineData) → AreOutlineLines name lines o → (m : MainLine) × (g : AreLanguageLines name (declared_by o m) lines) × (g.among.all ≡ declared_by o m)
outline_good name lines o h = (
  h.main_line,
  record {
    first = h.first;
    others = h.declarations ++ h.rules;
    lines_are = h.lines_are;
    named = h.named;
    among = record {
      declarations = h.declarations;
      pairs = [];
      rules = h.rules;
      lines_are = refl;
      all = declared_by o h.main_line;
      declared = h.declared;
      mains = (o.main, h.main);
      plains = [];
      pairs_are = tt;
      stated = o.rules;
      rules_are = h.rules_are;
    };
  },
  refl,
)
