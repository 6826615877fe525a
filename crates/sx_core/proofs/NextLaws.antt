-- What one more line makes of a reader.
use Rattle.std.proofs.Common.{◌≡◌, ℕ, ◌<◌, List, [], ◌∷◌, ◌++◌, length, inl, inr, map, refl, sym, ap, ◌∙◌, subst, append_assoc, append-nil}
use Rattle.std.specs.Prelude.{Contains, ◌^◌, ◌⊎◌, Err}
use Rattle.sx_rules.specs.declared.rule.Judgement.{Judgement as JudgementOf}
use Rattle.sx_core.specs.declared.stage.Open.{Open}
use Rattle.sx_core.specs.declared.error.CoreFileError.TheVariants.{Notation}
use Rattle.sx_lines.specs.Lines.{Lines, line}
use Rattle.sx_lines.specs.Takes.{Takes, line_number}
use Rattle.sx_term.specs.Shapes.{shape, shapes}
use Rattle.sx_term.specs.Term.{tree}
use Rattle.sx_term.specs.Sorts.{Shape}
use Rattle.sx_rules.specs.Rules.{holds, apart}
use Rattle.sx_rules.specs.Views.{FormData, form, judgement}
use Rattle.sx_core.specs.File.{SortRow, JudgementRow, Declaration, PremiseRow, if_line, not_line}
use Rattle.sx_core.specs.File.{RuleRows}
use Rattle.sx_core.specs.Rows.{sort_row, con_row}
use Rattle.sx_core.specs.Stated.{NameSorts}
use Rattle.sx_core.specs.Resolving.{rows_in, IsConOf, IsFormOf}
use Rattle.sx_core.specs.Statements.{form_names, known_in}
use Rattle.sx_core.specs.Table.{Row, row_with, row_text, premise_row, rule_rows, rows_of, Has}
use Rattle.sx_core.specs.Fitting.{Context, IsFitting, Declare, AllRowsFit, AreSorts}
use Rattle.sx_core.specs.Reading.{context, AreNamesFound, IsCoreLineRead}
use Rattle.sx_core.specs.Order.{AreRowsInOrder, phase_of, step, at_start, at_declarations, at_rules}
use Rattle.sx_core.specs.Order.{at_end}
use Rattle.sx_core.specs.Machine.{CoreSteps, IsFresh, IsBadNext, MayBegin, IsEnded, keyword_of}
use Rattle.sx_core.specs.CoreRead.{ReadTo, IsUsual, IsBadCoreLine, IsRuleOpen, IsMissingRow}
use Rattle.sx_core.specs.declared.found.Found.{Found}
use Rattle.sx_lines.specs.declared.kind.Kind.{Kind}
use Rattle.sx_lines.specs.declared.kind.Kind.TheVariants.{Head as BadHead, Directive}
use Rattle.sx_lines.specs.declared.kind.Kind.TheVariants.{Shape as BadShape, Order as BadOrder}
use Rattle.sx_lines.specs.declared.kind.Kind.TheVariants.{Unfinished, Main, Variable}
use Rattle.sx_core.specs.declared.reader.Reader.{Reader}
use Rattle.sx_core.specs.declared.stage.Stage.{Stage}
use Rattle.sx_core.specs.declared.stage.Stage.TheVariants.{Start, Declaring, Between, Premising}
use Rattle.sx_core.specs.declared.stage.Stage.TheVariants.{Concluded, Over}
use Rattle.sx_core.specs.declared.line_read.LineRead.{LineRead}
use Rattle.sx_core.specs.declared.line_read.LineRead.TheVariants.{Head as HeadRead}
use Rattle.sx_core.specs.declared.line_read.LineRead.TheVariants.{Sort as SortRead, Con as ConRead}
use Rattle.sx_core.specs.declared.line_read.LineRead.TheVariants.{Form as FormRead}
use Rattle.sx_core.specs.declared.line_read.LineRead.TheVariants.{Rule as RuleRead, If as IfRead}
use Rattle.sx_core.specs.declared.line_read.LineRead.TheVariants.{Not as NotRead, Then as ThenRead}
use Rattle.sx_core.specs.declared.line_read.LineRead.TheVariants.{End as EndRead, Goal as GoalRead}
use Rattle.sx_core.specs.declared.keyword.Keyword.{Keyword}
use Rattle.sx_core.specs.declared.keyword.Keyword.TheVariants.{Head, Sort, Con, Form, Rule, If, Not}
use Rattle.sx_core.specs.declared.keyword.Keyword.TheVariants.{Then, End, Goal}
use Rattle.sx_core.proofs.OrderLaws.{Reaches, no_front, goal_ends, open_inside, IsInside}
use Rattle.sx_core.proofs.ReaderLaws.{front_rows, Stands, IsAt, ruled_front, head_at, sort_at, con_at, form_at, rule_at, premise_at, then_at, end_at, goal_at}

-- ---- names that are new

pub fresh : (found : Found) (text : List ℕ) (x : LineRead) → AreNamesFound found → IsCoreLineRead (context found) text x → IsFresh found x
fresh found text HeadRead f h = tt
fresh found text (SortRead r) f h = h.1.1
fresh found text (ConRead r c) f h = λ k. h.0.1.1 (subst (λ (z : List (List ℕ)). Contains z r.name) f.con_names k)
fresh found text (FormRead g) f h = λ k. h.1.1.2 (subst (λ (z : List ℕ). Contains (form_names (known_in found.forms)) z) (sym h.2.name) (subst (λ (z : List (List ℕ)). Contains z g.name) f.forms.names k))
fresh found text (RuleRead name sorts) f h = tt
fresh found text (IfRead j) f h = tt
fresh found text (NotRead l r) f h = tt
fresh found text (ThenRead j) f h = tt
fresh found text EndRead f h = tt
fresh found text (GoalRead g) f h = tt

-- ---- one more line

module _ (all : List SortRow) (lines : Lines) (rows : List Row) (r s : Reader) (next more : Lines) (n : ℕ) (text after : List ℕ) (at : IsAt all lines rows r next) (e : next ≡ line n text after more) (few : length (known_in s.found.forms) < 2 ^ 32) where
  abbrev pub Now : Type 0
  Now = (x : Row) × IsAt all lines (rows ++ x ∷ []) s more

  pub next_at : (x : LineRead) → IsCoreLineRead (context r.found) text x → CoreSteps r n x s → Now
  next_at HeadRead h k = (row_with Head tt, head_at all lines rows r s next more n text after at e h k)
  next_at (SortRead y) h k = (row_with Sort (sort_row y), sort_at all lines rows r s next more n text after at e (sort_row y) h k.0 k.1 k.2 k.3)
  next_at (ConRead y c) h k = (row_with Con (con_row y), con_at all lines rows r s next more n text after at e (con_row y) (shape c) h.0 (subst (λ (z : List SortRow). IsConOf z (con_row y) (shape c)) at.same h.1) k.0 k.1 k.2 k.3)
  next_at (FormRead f) h k = (row_with Form h.0, form_at all lines rows r s next more n text after at e h.0 (form f) h.1 (subst (λ (z : List SortRow). IsFormOf z h.0 (form f)) at.same h.2) few k.0 k.1 k.2 k.3)
  next_at (RuleRead name sorts) h k = (row_with Rule h.0, rule_at all lines rows r s next more n text after at e h.0 k.1 h.1 k.0 k.2 k.3.line (h.2 ∙ sym k.3.name_is) (subst (λ (z : List SortRow). NameSorts z h.0.sorts k.1.sorts.items) at.same (subst (NameSorts (rows_in r.found.sorts) h.0.sorts) (sym k.3.sorts_are) h.3)) k.3.premises k.4)
  next_at (IfRead j) h k = (row_with If h.0, premise_at all lines rows r s next more n text after at e (if_line h.0) (holds (judgement j)) k.0 k.1 h.1 k.2 k.3 (h.2.1, tt) k.4 k.5 refl refl refl refl)
  next_at (NotRead l m) h k = (row_with Not (record { left = tree l; right = tree m }), premise_at all lines rows r s next more n text after at e (not_line (tree l) (tree m)) (apart (tree l) (tree m)) k.0 k.1 h k.2 k.3 (refl, refl, h.1, tt) k.4 k.5 refl refl refl refl)
  next_at (ThenRead j) h k = (row_with Then h.0, then_at all lines rows r s next more n text after at e h.0 k.0 j h.1 k.1 k.2 h.2.1 k.3)
  next_at EndRead h k = (row_with End tt, end_at all lines rows r s next more n text after at e k.0 k.1 h k.2 k.3 k.4 k.5)
  next_at (GoalRead g) h k = (row_with Goal h.0, goal_at all lines rows r s next more n text after at e h.0 g h.1 k.0 k.1 h.2 k.2)

-- ---- what the stage says of the rows

dummy : JudgementRow
dummy = record { form = []; terms = [] }

goal_rows : JudgementRow → List Row
goal_rows g = row_with Goal g ∷ []

extends : (ds : List Declaration) (rs : List RuleRows) (whole : RuleRows) (g : JudgementRow) (xs ys : List Row) → rule_rows whole ≡ xs ++ ys
    → rows_of (record { declarations = ds; rules = rs ++ whole ∷ []; goal = g }) ≡ (front_rows ds rs ++ xs) ++ (ys ++ row_with Goal g ∷ [])
extends ds rs whole g xs ys e =
    ap (λ (z : List Row). z ++ row_with Goal g ∷ []) (sym (ruled_front ds rs whole))
    ∙ ap (λ (z : List Row). (front_rows ds rs ++ z) ++ row_with Goal g ∷ []) e
    ∙ ap (λ (z : List Row). z ++ row_with Goal g ∷ []) (sym (append_assoc (front_rows ds rs) xs ys))
    ∙ append_assoc (front_rows ds rs ++ xs) ys (row_with Goal g ∷ [])

module _ (all : List SortRow) (S : List Shape) (known : List FormData) (lines : Lines) (rows : List Row) (ds : List Declaration) (rs : List RuleRows) (front inside : List Row) (parts : rows ≡ front ++ inside) where
  parts_are : (f i : List Row) → front ≡ f → inside ≡ i → rows ≡ f ++ i
  parts_are f i a b = parts ∙ ap (λ (z : List Row). z ++ inside) a ∙ ap (λ (z : List Row). f ++ z) b

  is_front : (f : List Row) (ds' : List Declaration) (rs' : List RuleRows) (g : JudgementRow) (rest : List Row) → rows ≡ f → rows_of (record { declarations = ds'; rules = rs'; goal = g }) ≡ f ++ rest → AreRowsInOrder rows
  is_front f ds' rs' g rest a b = (record { declarations = ds'; rules = rs'; goal = g }, rest, b ∙ ap (λ (z : List Row). z ++ rest) (sym a))

  pub front_at : (stage : Stage) → Stands all S known lines stage ds rs front inside → AreRowsInOrder rows
  front_at Start h = is_front [] [] [] dummy (rows_of (record { declarations = []; rules = []; goal = dummy })) (parts_are [] [] h.0 h.2) refl
  front_at Declaring h = is_front (front_rows ds rs) ds rs dummy (row_with Goal dummy ∷ []) (parts_are (front_rows ds rs) [] h.0 h.2 ∙ append-nil (front_rows ds rs)) refl
  front_at Between h = is_front (front_rows ds rs) ds rs dummy (row_with Goal dummy ∷ []) (parts_are (front_rows ds rs) [] h.0 h.1 ∙ append-nil (front_rows ds rs)) refl
  front_at (Premising o) h =
      let whole : RuleRows = record { name = h.1.name; sorts = h.1.sorts; premises = h.2; conclusion = dummy } in
      is_front (front_rows ds rs ++ (row_with Rule h.1 ∷ map premise_row h.2)) ds (rs ++ whole ∷ []) dummy (row_with Then dummy ∷ row_with End tt ∷ row_with Goal dummy ∷ [])
      (parts_are (front_rows ds rs) (row_with Rule h.1 ∷ map premise_row h.2) h.0 h.4)
      (extends ds rs whole dummy (row_with Rule h.1 ∷ map premise_row h.2) (row_with Then dummy ∷ row_with End tt ∷ []) refl)
  front_at (Concluded o j) h =
      let whole : RuleRows = record { name = h.1.name; sorts = h.1.sorts; premises = h.2; conclusion = h.4 } in
      is_front (front_rows ds rs ++ (row_with Rule h.1 ∷ (map premise_row h.2 ++ row_with Then h.4 ∷ []))) ds (rs ++ whole ∷ []) dummy (row_with End tt ∷ row_with Goal dummy ∷ [])
      (parts_are (front_rows ds rs) (row_with Rule h.1 ∷ (map premise_row h.2 ++ row_with Then h.4 ∷ [])) h.0 h.5)
      (extends ds rs whole dummy (row_with Rule h.1 ∷ (map premise_row h.2 ++ row_with Then h.4 ∷ [])) (row_with End tt ∷ [])
      (ap (λ (z : List Row). row_with Rule h.1 ∷ z) (sym (append_assoc (map premise_row h.2) (row_with Then h.4 ∷ []) (row_with End tt ∷ [])))))
  front_at (Over g) h =
      is_front (front_rows ds rs ++ row_with Goal h.1 ∷ []) ds rs h.1 [] (parts_are (front_rows ds rs) (row_with Goal h.1 ∷ []) h.0 h.2) (sym (append-nil (front_rows ds rs ++ row_with Goal h.1 ∷ [])))

  has_last : (xs : List Row) (g : JudgementRow) → Has Goal (xs ++ row_with Goal g ∷ [])
  has_last [] g = inl refl
  has_last (x ∷ xs) g = inr (has_last xs g)

  pub goal_there : (stage : Stage) → Stands all S known lines stage ds rs front inside → phase_of stage ≡ at_end → Has Goal rows
  goal_there Start h e = absurd cc
  goal_there Declaring h e = absurd cc
  goal_there Between h e = absurd cc
  goal_there (Premising o) h e = absurd cc
  goal_there (Concluded o j) h e = absurd cc
  goal_there (Over g) h e = subst (Has Goal) (sym (parts_are (front_rows ds rs) (row_with Goal h.1 ∷ []) h.0 h.2)) (has_last (front_rows ds rs) h.1)

  pub nothing_there : (stage : Stage) → Stands all S known lines stage ds rs front inside → phase_of stage ≡ at_start → rows ≡ []
  nothing_there Start h e = parts_are [] [] h.0 h.2
  nothing_there Declaring h e = absurd cc
  nothing_there Between h e = absurd cc
  nothing_there (Premising o) h e = absurd cc
  nothing_there (Concluded o j) h e = absurd cc
  nothing_there (Over g) h e = absurd cc

-- ---- refusals

read_row : (c : Context) (text : List ℕ) (x : LineRead) → IsCoreLineRead c text x → (r : Row) × IsFitting c text r × (r.keyword ≡ keyword_of x)
read_row c text HeadRead h = (row_with Head tt, h, refl)
read_row c text (SortRead r) h = (row_with Sort (sort_row r), h, refl)
read_row c text (ConRead r k) h = (row_with Con (con_row r), h.0, refl)
read_row c text (FormRead f) h = (row_with Form h.0, h.1, refl)
read_row c text (RuleRead name sorts) h = (row_with Rule h.0, h.1, refl)
read_row c text (IfRead j) h = (row_with If h.0, h.1, refl)
read_row c text (NotRead l r) h = (row_with Not (record { left = tree l; right = tree r }), h, refl)
read_row c text (ThenRead j) h = (row_with Then h.0, h.1, refl)
read_row c text EndRead h = (row_with End tt, h, refl)
read_row c text (GoalRead g) h = (row_with Goal h.0, h.1, refl)

module _ (all : List SortRow) (lines : Lines) (rows : List Row) (r : Reader) (next : Lines) (at : IsAt all lines rows r next) where
  pub read_to : AreSorts [] lines all → ReadTo lines rows (context r.found) next
  read_to h = record {
    sorts = subst (λ (z : List SortRow). AreSorts [] lines z) (sym at.same) h;
    takes = at.takes;
    declare = subst (λ (z : List SortRow). Declare z rows (context r.found)) (sym at.same) at.declare;
    fit = subst (λ (z : List SortRow). AllRowsFit z [] rows) (sym at.same) at.fit;
    front = front_at all (shapes r.found.shapes) (known_in r.found.forms) lines rows at.staged.declarations at.staged.ended at.staged.front at.staged.inside at.staged.parts r.stage at.staged.stands;
  }

  pub usual : (phase_of r.stage ≡ at_start → ⊥) → (phase_of r.stage ≡ at_end → ⊥) → IsUsual rows
  usual a b = (
    (λ e. a (sym (subst (λ (z : List Row). Reaches at_start z (phase_of r.stage)) e at.reach))),
    λ h. b (goal_ends rows at_start (phase_of r.stage) h at.reach),
  )

  nothing_yet : phase_of r.stage ≡ at_start → rows ≡ []
  nothing_yet e = nothing_there all (shapes r.found.shapes) (known_in r.found.forms) lines rows at.staged.declarations at.staged.ended at.staged.front at.staged.inside at.staged.parts r.stage at.staged.stands e

  pub bad_line : (text : List ℕ) (kind : Kind) → IsBadNext r text kind → IsBadCoreLine (context r.found) rows text kind
  bad_line text BadHead h = (nothing_yet h.0, h.1)
  bad_line text Directive h = (usual h.0.0 h.0.1, h.1)
  bad_line text BadShape h = (usual h.0.0 h.0.1, (λ n. n h.1 h.2 h.3), h.4.0, h.4.1)
  bad_line text BadOrder (inl e) = inl (goal_there all (shapes r.found.shapes) (known_in r.found.forms) lines rows at.staged.declarations at.staged.ended at.staged.front at.staged.inside at.staged.parts r.stage at.staged.stands e)
  bad_line text BadOrder (inr h) =
      let w = read_row (context r.found) text h.1 h.2 in
      inr (usual h.0.0 h.0.1, w.0, w.1, no_front rows w.0 (phase_of r.stage) at.reach (ap (step (phase_of r.stage)) w.2 ∙ h.3))
  bad_line text Unfinished h = absurd h
  bad_line text Main h = absurd h
  bad_line text Variable h = absurd h

-- ---- no line is left

pub has_split : (xs ys : List Row) (k : Keyword) → Has k (xs ++ ys) → (Has k xs → ⊥) → (Has k ys → ⊥) → ⊥
has_split [] ys k h a b = b h
has_split (x ∷ xs) ys k (inl e) a b = a (inl e)
has_split (x ∷ xs) ys k (inr h) a b = has_split xs ys k h (λ z. a (inr z)) b

if_end : If ≡ End → ⊥
if_end e = cc

not_end : Not ≡ End → ⊥
not_end e = cc

then_end : Then ≡ End → ⊥
then_end e = cc

premises_end : (ps : List PremiseRow) → Has End (map premise_row ps) → ⊥
premises_end [] h = h
premises_end (if_line x ∷ ps) (inl e) = if_end e
premises_end (if_line x ∷ ps) (inr h) = premises_end ps h
premises_end (not_line l m ∷ ps) (inl e) = not_end e
premises_end (not_line l m ∷ ps) (inr h) = premises_end ps h

conclusion_end : (q : JudgementRow) → Has End (row_with Then q ∷ []) → ⊥
conclusion_end q (inl e) = then_end e
conclusion_end q (inr h) = h

module _ (all : List SortRow) (lines : Lines) (rows : List Row) (r : Reader) (next : Lines) (at : IsAt all lines rows r next) where
  open_rows : (stage : Stage) (o : Open) → ((stage ≡ Premising o) ⊎ ((j : JudgementOf) × (stage ≡ Concluded o j))) → Stands all (shapes r.found.shapes) (known_in r.found.forms) lines stage at.staged.declarations at.staged.ended at.staged.front at.staged.inside
      → (front : List Row) × (after : Lines) × IsRuleOpen rows front × Takes (map row_text front) lines after × (o.line ≡ line_number after)
  open_rows stage o (inl e) h =
      let w = subst (λ (z : Stage). Stands all (shapes r.found.shapes) (known_in r.found.forms) lines z at.staged.declarations at.staged.ended at.staged.front at.staged.inside) e h in
      (at.staged.front, w.3.after, record { rule = row_with Rule w.1; inside = map premise_row w.2; parts = at.staged.parts ∙ ap (λ (z : List Row). at.staged.front ++ z) w.4; begins = refl; not_ended = premises_end w.2 }, w.3.takes, w.3.number)
  open_rows stage o (inr (j, e)) h =
      let w = subst (λ (z : Stage). Stands all (shapes r.found.shapes) (known_in r.found.forms) lines z at.staged.declarations at.staged.ended at.staged.front at.staged.inside) e h in (
        at.staged.front,
        w.3.after,
        record {
          rule = row_with Rule w.1;
          inside = map premise_row w.2 ++ row_with Then w.4 ∷ [];
          parts = at.staged.parts ∙ ap (λ (z : List Row). at.staged.front ++ z) w.5;
          begins = refl;
          not_ended = λ z. has_split (map premise_row w.2) (row_with Then w.4 ∷ []) End z (premises_end w.2) (conclusion_end w.4);
        },
        w.3.takes,
        w.3.number,
      )

  closed : (s : Stage) → MayBegin s → (phase_of s ≡ at_start → ⊥) × (phase_of s ≡ at_end → ⊥) × (IsInside (phase_of s) → ⊥)
  closed s (inl e) = subst (λ (z : Stage). (phase_of z ≡ at_start → ⊥) × (phase_of z ≡ at_end → ⊥) × (IsInside (phase_of z) → ⊥)) (sym e) ((λ q. declarations_start q), (λ q. declarations_end q), λ h. h)
    where
      declarations_start : at_declarations ≡ at_start → ⊥
      declarations_start q = cc

      declarations_end : at_declarations ≡ at_end → ⊥
      declarations_end q = cc
  closed s (inr e) = subst (λ (z : Stage). (phase_of z ≡ at_start → ⊥) × (phase_of z ≡ at_end → ⊥) × (IsInside (phase_of z) → ⊥)) (sym e) ((λ q. rules_start q), (λ q. rules_end q), λ h. h)
    where
      rules_start : at_rules ≡ at_start → ⊥
      rules_start q = cc

      rules_end : at_rules ≡ at_end → ⊥
      rules_end q = cc

  none_open : MayBegin r.stage → (front : List Row) → IsRuleOpen rows front → ⊥
  none_open m front o = (closed r.stage m).2 (open_inside front o.inside o.rule (phase_of r.stage) o.begins o.not_ended (subst (λ (z : List Row). Reaches at_start z (phase_of r.stage)) o.parts at.reach))

  pub missing : (n l : ℕ) (kind : Kind) → IsEnded r r.stage n (Err (Notation l kind)) → IsMissingRow lines rows n l kind
  missing n l BadHead h = (nothing_yet all lines rows r next at (ap phase_of h.0), h.1)
  missing n l Main h = (usual all lines rows r next at (closed r.stage h.0).0 (closed r.stage h.0).1, none_open h.0, h.1)
  missing n l Unfinished h =
      let w = open_rows r.stage h.0 h.1 at.staged.stands in
      (w.0, w.1, w.2, w.3, h.2 ∙ w.4)
  missing n l Directive h = absurd h
  missing n l BadShape h = absurd h
  missing n l BadOrder h = absurd h
  missing n l Variable h = absurd h
