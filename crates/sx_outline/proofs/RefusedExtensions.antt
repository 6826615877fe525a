-- Why the lines of an extension file are refused.
use Rattle.std.proofs.Common.{◌≡◌, ℕ, true, false, List, [], ◌∷◌, ◌++◌, Result, Err, refl, sym, ap, subst, ◌∙◌, inl, inr}
use Rattle.std.proofs.lemmas.Bool.{false≢true}
use Rattle.std.specs.Prelude.{◌⊎◌}
use Rattle.sx_lines.specs.Lines.{Lines, over, line, lines_from}
use Rattle.sx_lines.specs.declared.kind.Kind.{Kind}
use Rattle.sx_lines.specs.declared.kind.Kind.TheVariants.{Head, Directive, Shape, Order, Unfinished, Main as NoMain, Variable}
use Rattle.sx_grammar.specs.declared.sort_line.SortLine.{SortLine}
use Rattle.sx_directives.specs.declared.file_kind.FileKind.TheVariants as files
use Rattle.sx_directives.specs.declared.rows.VarLine.{VarLine}
use Rattle.sx_directives.specs.declared.row.Row.{Row}
use Rattle.sx_directives.specs.declared.row.Row.TheVariants.{Plain}
use Rattle.sx_outline.specs.declared.outline_error.OutlineError.{OutlineError}
use Rattle.sx_outline.specs.declared.outline_error.OutlineError.TheVariants.{Notation}
use Rattle.sx_outline.specs.Declarations.{Declared, declared_before}
use Rattle.sx_outline.specs.Known.{Declares, kept_lines}
use Rattle.sx_outline.specs.Fitting.{ArePartNames}
use Rattle.sx_outline.specs.Reading.{IsDeclaredAhead}
use Rattle.sx_outline.specs.Stages.{Numbered, Stage, at_start, at_declarations, at_body, at_plains, at_rules, at_premises, at_conclusion, at_end, State, start_after, Steps, IsBad, IsInside, state_after_row}
use Rattle.sx_outline.specs.Headers.{HeaderData}
use Rattle.sx_outline.specs.ExtensionOutlined.{ExtensionOutlineData, extension_declares, AreReadAfter, IsExtensionEnd, IsExtensionReadAs}
use Rattle.sx_outline.specs.Structure.{numbered_lines, AreExtensionLines}
use Rattle.sx_outline.specs.BadLines.{AreLinesAmong, BeginGoodFile, IsFirstBadLine, IsNotEnded}
use Rattle.sx_outline.specs.BadExtensions.{AreWhole, AreGoodWidely, AreRestRefused, IsAnyName, IsExtensionRefused, IsHeaderRefused}
use Rattle.sx_outline.proofs.Led.{Leads, leads_append, leads_split, leads_once, leads_nowhere, StopsAt, Course, stops, ends, course}
use Rattle.sx_outline.proofs.GoodLines.{LeadsTo, lines_lead}
use Rattle.sx_outline.proofs.BackLines.{lines_back}
use Rattle.sx_outline.proofs.Closing.{Closes, closes}
use Rattle.sx_outline.proofs.Written.{InOrder, number_after, make_file, first_order, kept_in_order}
use Rattle.sx_outline.proofs.NotEnded.{Opened, NeverEnds, opened}
use Rattle.sx_outline.proofs.OneOutline.{good_or_bad}
use Rattle.sx_outline.proofs.AheadLaws.{ahead_next}
use Rattle.sx_outline.proofs.LinesDeclared.{none_first, head_same, tail_same}
use Rattle.sx_outline.proofs.OtherKnown.{bad_with}
use Rattle.sx_outline.proofs.Growing.{Grows, grows_same, grows_known, grows_leads, IsPast, leads_stay, part_names_more, row_fits}
use Rattle.sx_outline.proofs.RefusedLines.{leads_begun}
use Rattle.sx_outline.proofs.RefusedHeaders.{EndsHeader, header_course, refused_by, any_by}
use Rattle.sx_outline.proofs.HeadRows.{some_name, some_is_module}

-- ---- what is known at a bad line

ahead_grows : (at : Stage) (d : Declared) (lines : Lines) (known : Declared) → IsDeclaredAhead files.Extension at d lines known → Grows d known
ahead_grows at_start d lines known h = grows_known false d lines known h
ahead_grows at_declarations d lines known h = grows_known false d lines known h
ahead_grows (at_body b) d lines known h = grows_known true d lines known h
ahead_grows at_plains d lines known h = grows_known false d lines known h
ahead_grows at_rules d lines known h = grows_same d known (sym h)
ahead_grows (at_premises b) d lines known h = grows_same d known (sym h)
ahead_grows (at_conclusion b) d lines known h = grows_same d known (sym h)
ahead_grows (at_end r) d lines known h = grows_same d known (sym h)

-- what is known goes on from what the lines before declare
known_grows : (known : Declared) (name : List ℕ) (s : State) (lines : Lines) (front rest : List Numbered) (t : State) → numbered_lines lines ≡ front ++ rest
    → Leads files.Extension known name s front t → IsDeclaredAhead files.Extension s.stage s.declared lines known → Grows t.declared known
known_grows known name s lines [] rest t e h ahead = subst (λ (x : State). Grows x.declared known) h (ahead_grows s.stage s.declared lines known ahead)
known_grows known name s (over n) (l ∷ front) rest t e h ahead = absurd (none_first l (front ++ rest) e)
known_grows known name s (line n text after more) (l ∷ front) rest t e h ahead =
    let here : Numbered = record { number = n; text = text } in
    let same : here ≡ l = head_same here l (numbered_lines more) (front ++ rest) e in
    let step : Steps files.Extension known name s n text h.0 = subst (λ (x : Numbered). Steps files.Extension known name s x.number x.text h.0) (sym same) h.1 in
    known_grows known name h.0 more front rest t (tail_same here l (numbered_lines more) (front ++ rest) e) h.2 (ahead_next files.Extension name s n text after more known h.0 step ahead)

-- a bad line leads on in no file whose lines are good by what they declare
none_whole : (known other : Declared) (name : List ℕ) (s : State) (l : Numbered) (v : State) (tail : List Numbered) (last : State) (kind : Kind) → Grows s.declared known
    → IsBad files.Extension known name s l.text kind → Steps files.Extension other name s l.number l.text v → Leads files.Extension other name v tail last → last.declared ≡ other → ⊥
none_whole known other name s l v tail last kind grows bad step leads is =
    let on : Grows s.declared last.declared = grows_leads other name s (l ∷ tail) last (v, step, leads) in
    let sorts : known.sorts ≡ other.sorts = grows.sorts ∙ sym on.sorts ∙ ap (λ (x : Declared). x.sorts) is in
    let uses : known.uses ≡ other.uses = grows.uses ∙ sym on.uses ∙ ap (λ (x : Declared). x.uses) is in
    bad_with files.Extension known other name s l.number l.text v kind
    (λ e row spelled fits to. row_fits known other s.declared l.text row sorts uses
    (λ p plain h.
    let body : v ≡ state_after_row s l.number (Plain p) = subst (λ (x : Row). v ≡ state_after_row s l.number x) plain to in
    let past : IsPast v.stage = subst (λ (x : State). IsPast x.stage) (sym body) tt in
    let same : other ≡ s.declared = sym is ∙ leads_stay other name v tail last past leads ∙ ap (λ (x : State). x.declared) body in
    part_names_more s.declared known p.label p.names.items grows (subst (λ (x : Declared). ArePartNames x p.label p.names.items) same h)) spelled fits)
    (λ e m main spelled h. absurd (false≢true spelled.word)) bad step

none_good : (known before : Declared) (name : List ℕ) (front tail : List Numbered) (bad : Numbered) (t : State) (kind : Kind) → Leads files.Extension known name (start_after before) front t
    → IsBad files.Extension known name t bad.text kind → Grows t.declared known → AreGoodWidely known before ((front ++ bad ∷ []) ++ tail) → ⊥
none_good known before name front tail bad t kind leads wrong grows (inl good) =
    let out : LeadsTo files.Extension known name (start_after before) ((front ++ bad ∷ []) ++ tail) good.all = lines_lead files.Extension known before name ((front ++ bad ∷ []) ++ tail) good in
    leads_nowhere files.Extension known known name (start_after before) t out.last front tail bad leads
    (λ v step more. good_or_bad files.Extension known name t bad.number bad.text v kind step wrong) out.leads
none_good known before name front tail bad t kind leads wrong grows (inr whole) =
    let other : Declared = whole.known in
    let out : LeadsTo files.Extension other name (start_after before) ((front ++ bad ∷ []) ++ tail) whole.good.all =
    lines_lead files.Extension other before name ((front ++ bad ∷ []) ++ tail) whole.good in
    leads_nowhere files.Extension known other name (start_after before) t out.last front tail bad leads
    (λ v step more. none_whole known other name t bad v tail out.last kind grows wrong step more (out.declared ∙ whole.is)) out.leads

-- ---- after a header

module _ (known before : Declared) (name : List ℕ) (none_before : before.mains ≡ []) (ahead : List Numbered) where
  -- lines that lead on are the first of good ones
  rest_good : (front : List Numbered) (t : State) → InOrder 1 (ahead ++ front) → Leads files.Extension known name (start_after before) front t
      → BeginGoodFile (AreLinesAmong files.Extension known before) ahead front
  rest_good front t order h =
      let n : ℕ = number_after 1 (ahead ++ front) in
      let more : Closes files.Extension known name t n = closes files.Extension known name t n (leads_begun files.Extension known name (start_after before) front t tt h) in
      make_file (AreLinesAmong files.Extension known before) ahead front more.lines order more.order
      (lines_back files.Extension known before name (front ++ more.lines) more.last none_before
      (leads_append files.Extension known name (start_after before) t more.last front more.lines h more.leads) more.whole)

  bad_rest : (lines : Lines) (number : ℕ) (kind : Kind) → InOrder 1 (ahead ++ numbered_lines lines) → Declares files.Extension false before lines known
      → StopsAt files.Extension known name (start_after before) (numbered_lines lines) number kind
      → IsFirstBadLine (AreLinesAmong files.Extension known before) (AreGoodWidely known before) ahead (numbered_lines lines) number
  bad_rest lines number kind order declares h =
      let bad : Numbered = record { number = number; text = h.text } in
      let grows : Grows h.state.declared known = known_grows known name (start_after before) lines h.front (bad ∷ h.rest) h.state h.lines_are h.leads declares in
      record {
        front = h.front;
        bad = bad;
        rest = h.rest;
        lines_are = h.lines_are;
        place = refl;
        before = rest_good h.front h.state (first_order ahead (numbered_lines lines) h.front (bad ∷ h.rest) h.lines_are order) h.leads;
        none = λ found. none_good known before name h.front found.0 bad h.state kind h.leads h.bad grows found.1;
      }

  stopped : (lines : Lines) (number : ℕ) (kind : Kind) → InOrder 1 (ahead ++ numbered_lines lines) → Declares files.Extension false before lines known
      → StopsAt files.Extension known name (start_after before) (numbered_lines lines) number kind → AreRestRefused known before ahead (numbered_lines lines) number kind
  stopped lines number Head order declares h = bad_rest lines number Head order declares h
  stopped lines number Directive order declares h = bad_rest lines number Directive order declares h
  stopped lines number Shape order declares h = bad_rest lines number Shape order declares h
  stopped lines number Order order declares h = bad_rest lines number Order order declares h
  stopped lines number NoMain order declares h = bad_rest lines number NoMain order declares h
  stopped lines number Unfinished order declares h = absurd h.bad
  stopped lines number Variable order declares h = absurd h.bad

  not_ended : (lines : List Numbered) (number : ℕ) (t : State) → InOrder 1 (ahead ++ lines) → Leads files.Extension known name (start_after before) lines t
      → Opened files.Extension known name (start_after before) lines number → IsNotEnded (AreLinesAmong files.Extension known before) ahead lines number
  not_ended lines number t order h found = record {
    front = found.front;
    first = found.first;
    rest = found.rest;
    lines_are = found.lines_are;
    place = found.place;
    on = rest_good lines t order h;
    before = lines_back files.Extension known before name found.front found.middle none_before found.leads found.whole;
    none = λ more after e good.
        let out : LeadsTo files.Extension known name (start_after before) (found.front ++ found.first ∷ more) good.all =
        lines_lead files.Extension known before name (found.front ++ found.first ∷ more) good in
        let cut = leads_split files.Extension known name (start_after before) out.last found.front (found.first ∷ more) out.leads in
        let same : cut.0 ≡ found.middle = leads_once files.Extension known known name (start_after before) cut.0 found.middle found.front cut.1 found.leads in
        found.none more after out.last e (subst (λ (x : State). Leads files.Extension known name x (found.first ∷ more) out.last) same cut.2) out.whole;
  }

  ended_early : (lines : List Numbered) (number : ℕ) (t : State) → InOrder 1 (ahead ++ lines) → Leads files.Extension known name (start_after before) lines t
      → Opened files.Extension known name (start_after before) lines number ⊎ (IsInside at_declarations number × NeverEnds files.Extension known name (start_after before) lines)
      → IsNotEnded (AreLinesAmong files.Extension known before) ahead lines number
  ended_early lines number t order h (inl found) = not_ended lines number t order h found
  ended_early lines number t order h (inr other) = absurd other.0

abbrev refusal : ℕ → Kind → Result ExtensionOutlineData OutlineError
refusal number kind = Err (Notation number kind)

same_refusal : (n m : ℕ) (k l : Kind) → refusal n k ≡ refusal m l → (n ≡ m) × (k ≡ l)
same_refusal n m k l e = (cc, cc)

ended : (sorts : List SortLine) (vars : List VarLine) (h : HeaderData) (known : Declared) (ahead lines : List Numbered) (number : ℕ) (kind : Kind) (t : State) → InOrder 1 (ahead ++ lines)
    → Leads files.Extension known h.name (start_after (declared_before sorts vars h.uses)) lines t → IsExtensionEnd sorts h t (refusal number kind)
    → AreRestRefused known (declared_before sorts vars h.uses) ahead lines number kind
ended sorts vars h known ahead lines number Unfinished t order leads is =
    let base : Declared = declared_before sorts vars h.uses in
    ended_early known base h.name refl ahead lines number t order leads (opened files.Extension known h.name number (start_after base) lines t leads is)
ended sorts vars h known ahead lines number Head t order leads is = absurd is
ended sorts vars h known ahead lines number Directive t order leads is = absurd is
ended sorts vars h known ahead lines number Shape t order leads is = absurd is
ended sorts vars h known ahead lines number Order t order leads is = absurd is
ended sorts vars h known ahead lines number NoMain t order leads is = absurd is
ended sorts vars h known ahead lines number Variable t order leads is = absurd is

of_course : (sorts : List SortLine) (vars : List VarLine) (h : HeaderData) (known : Declared) (ahead : List Numbered) (lines : Lines) (number : ℕ) (kind : Kind)
    → InOrder 1 (ahead ++ numbered_lines lines) → Declares files.Extension false (declared_before sorts vars h.uses) lines known
    → Course files.Extension known h.name (start_after (declared_before sorts vars h.uses)) lines (λ s end. IsExtensionEnd sorts h s (refusal number kind)) (λ n k. refusal number kind ≡ refusal n k)
    → AreRestRefused known (declared_before sorts vars h.uses) ahead (numbered_lines lines) number kind
of_course sorts vars h known ahead lines number kind order declares (stops n wrong s e) =
    let base : Declared = declared_before sorts vars h.uses in
    let same = same_refusal number n kind wrong e in
    subst (λ (x : ℕ). AreRestRefused known base ahead (numbered_lines lines) x kind) (sym same.0)
    (subst (λ (x : Kind). AreRestRefused known base ahead (numbered_lines lines) n x) (sym same.1) (stopped known base h.name refl ahead lines n wrong order declares s))
of_course sorts vars h known ahead lines number kind order declares (ends e) = ended sorts vars h known ahead (numbered_lines lines) number kind e.state order e.leads e.holds

rest_refused : (sorts : List SortLine) (vars : List VarLine) (h : HeaderData) (ahead : List Numbered) (lines : Lines) (number : ℕ) (kind : Kind) → InOrder 1 (ahead ++ numbered_lines lines) → (r : AreReadAfter sorts vars h lines (Err (Notation number kind)))
    → AreRestRefused r.known (declared_before sorts vars h.uses) ahead (numbered_lines lines) number kind
rest_refused sorts vars h ahead lines number kind order r =
    of_course sorts vars h r.known ahead lines number kind order r.declares
    (course files.Extension r.known h.name (λ s end. IsExtensionEnd sorts h s (refusal number kind)) (λ n k. refusal number kind ≡ refusal n k) (start_after (declared_before sorts vars h.uses)) lines r.outcome)

-- ---- the file

of_header : (sorts : List SortLine) (vars : List VarLine) (lines : Lines) (number : ℕ) (kind : Kind) → InOrder 1 (numbered_lines lines)
    → IsHeaderRefused IsAnyName lines number kind ⊎ EndsHeader IsAnyName lines (λ h left. AreReadAfter sorts vars h left (refusal number kind)) → IsExtensionRefused sorts vars lines number kind
of_header sorts vars lines number kind order (inl h) = inl h
of_header sorts vars lines number kind order (inr h) = inr (record {
  header = h.last;
  front = h.front;
  left = h.left;
  lines_are = h.lines_are;
  are = h.are;
  other = h.other;
  known = h.holds.known;
  declares = h.holds.declares;
  refused = rest_refused sorts vars h.last h.front h.left number kind (subst (InOrder 1) h.lines_are order) h.holds;
})

pub extension_refused : (sorts : List SortLine) (vars : List VarLine) (bytes : List ℕ) (number : ℕ) (kind : Kind) → IsExtensionReadAs sorts vars bytes (Err (Notation number kind))
    → IsExtensionRefused sorts vars (kept_lines (lines_from 1 bytes)) number kind
extension_refused sorts vars bytes number kind h =
    let lines : Lines = kept_lines (lines_from 1 bytes) in
    of_header sorts vars lines number kind (kept_in_order bytes h.0)
    (refused_by IsAnyName lines number kind (λ h left. AreReadAfter sorts vars h left (refusal number kind)) (λ n k. refusal number kind ≡ refusal n k) (λ n k e. same_refusal number n kind k e)
    (header_course IsAnyName some_name lines (λ h left. AreReadAfter sorts vars h left (refusal number kind)) (λ n k. refusal number kind ≡ refusal n k) some_is_module tt (kept_in_order bytes h.0)
    (any_by lines (λ h left. AreReadAfter sorts vars h left (refusal number kind)) (λ n k. refusal number kind ≡ refusal n k) h.1)))

-- the lines after the header of an outline are whole
pub extension_whole : (sorts : List SortLine) (vars : List VarLine) (lines : List Numbered) (o : ExtensionOutlineData) (h : AreExtensionLines sorts vars lines o)
    → AreWhole (declared_before sorts vars o.header.uses) (h.declarations ++ (h.pairs ++ h.rules))
extension_whole sorts vars lines o h = record {
  known = extension_declares sorts o;
  good = record {
    declarations = h.declarations;
    pairs = h.pairs;
    rules = h.rules;
    lines_are = refl;
    all = extension_declares sorts o;
    declared = h.declared;
    mains = tt;
    plains = o.plains;
    pairs_are = h.pairs_are;
    stated = o.rules;
    rules_are = h.rules_are;
  };
  is = refl;
}
