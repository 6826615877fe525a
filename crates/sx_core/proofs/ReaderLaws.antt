-- What holds of a reader that has read these rows.
use Rattle.std.proofs.Common.{◌≡◌, ℕ, ◌<◌, List, [], ◌∷◌, ◌++◌, length, Some, inl, inr, map, refl, sym, ap, ◌∙◌, subst, append_assoc, append-nil}
use Rattle.std.specs.Prelude.{Contains, ◌^◌, codes}
use Rattle.std.specs.List.{flat_map}
use Rattle.sx_lines.specs.Lines.{Lines, line}
use Rattle.sx_lines.specs.Takes.{Takes, line_number}
use Rattle.sx_lines.proofs.TakeLaws.{Takes-append}
use Rattle.sx_term.specs.Shapes.{shapes}
use Rattle.sx_term.specs.Sorts.{Shape}
use Rattle.sx_rules.specs.Rules.{Premise, holds, apart}
use Rattle.sx_rules.specs.Views.{FormData, NamedRule, goal, judgement, named, premise}
use Rattle.sx_rules.specs.declared.rule.Judgement.{Judgement as JudgementOf}
use Rattle.sx_core.specs.File.{SortRow, ConRow, FormRow, Declaration, sort_line, con_line}
use Rattle.sx_core.specs.File.{form_line, JudgementRow, PremiseRow, if_line, not_line, RuleRows}
use Rattle.sx_core.specs.Stated.{IsCoreName, AreStatedNames, NameSorts, AreCons}
use Rattle.sx_lines.specs.Distinct.{AreTextsDistinct}
use Rattle.sx_core.specs.Stated.{AreForms, IsJudgement, AreCorePremises, IsCoreRule, AreCoreRules, IsGoal}
use Rattle.sx_core.specs.Resolving.{sort_names, rows_in, IsSortTable, IsConOf, IsFormOf}
use Rattle.sx_core.specs.Statements.{form_names, known_in, IsFormTable}
use Rattle.sx_core.specs.Table.{Row, row_with, row_text, RuleRow, declaration_row, premise_row}
use Rattle.sx_core.specs.Table.{rule_rows}
use Rattle.sx_core.specs.Fitting.{Context, PartsFit, IsFitting, core_sorts_at, cons_at, forms_at}
use Rattle.sx_core.specs.Fitting.{sorts_among, cons_among, forms_among, Declare, AllRowsFit}
use Rattle.sx_core.specs.Reading.{context, AreNamesFound}
use Rattle.sx_core.specs.Order.{phase_of, step, at_start, at_premises, at_end}
use Rattle.sx_core.specs.Machine.{AddsSort, AddsCon, AddsForm, IsReaderKept, HasOneMorePremise}
use Rattle.sx_core.specs.Machine.{whole_rule, MayBegin}
use Rattle.sx_core.specs.declared.found.Found.{Found}
use Rattle.sx_core.specs.declared.reader.Reader.{Reader}
use Rattle.sx_core.specs.declared.stage.Open.{Open}
use Rattle.sx_core.specs.declared.stage.Stage.{Stage}
use Rattle.sx_core.specs.declared.stage.Stage.TheVariants.{Start, Declaring, Between, Premising}
use Rattle.sx_core.specs.declared.stage.Stage.TheVariants.{Concluded, Over}
use Rattle.sx_core.specs.declared.keyword.Keyword.{Keyword}
use Rattle.sx_core.specs.declared.keyword.Keyword.TheVariants.{Head, Sort, Con, Form, Rule, Then}
use Rattle.sx_core.specs.declared.keyword.Keyword.TheVariants.{End, Goal}
use Rattle.sx_core.proofs.Wording.{map_last, names_snoc}
use Rattle.sx_core.proofs.AmongLaws.{distinct_snoc}
use Rattle.sx_core.proofs.ResolveLaws.{cons_snoc, forms_snoc}
use Rattle.sx_core.proofs.OrderLaws.{Reaches, reach_snoc}

-- ---- lists

pub among_snoc : {A B : Type 0} (f : A → List B) (xs : List A) (x : A) → flat_map f (xs ++ x ∷ []) ≡ flat_map f xs ++ f x
among_snoc f [] x = append-nil (f x)
among_snoc f (y ∷ xs) x = ap (λ r. f y ++ r) (among_snoc f xs x) ∙ sym (append_assoc (f y) (flat_map f xs) (f x))

pub none_more : {A B : Type 0} (f : A → List B) (xs : List A) (x : A) → f x ≡ [] → flat_map f (xs ++ x ∷ []) ≡ flat_map f xs
none_more f xs x e = among_snoc f xs x ∙ ap (λ r. flat_map f xs ++ r) e ∙ append-nil (flat_map f xs)

abbrev sort_of : Row → List SortRow
sort_of r = core_sorts_at r.keyword r.parts

fit_snoc : (all : List SortRow) (before rows : List Row) (r : Row) → AllRowsFit all before rows → ((c : Context) × Declare all (before ++ rows) c × PartsFit c r.keyword r.parts) → AllRowsFit all before (rows ++ r ∷ [])
fit_snoc all before [] r h k = ((k.0, subst (λ (x : List Row). Declare all x k.0) (append-nil before) k.1, k.2), tt)
fit_snoc all before (x ∷ rows) r h k =
    (h.0, fit_snoc all (before ++ x ∷ []) rows r h.1 (k.0, subst (λ (y : List Row). Declare all y k.0) (sym (append_assoc before (x ∷ []) rows)) k.1, k.2))

-- ---- what stands so far

abbrev pub front_rows : List Declaration → List RuleRows → List Row
front_rows ds rs = row_with Head tt ∷ (map declaration_row ds ++ flat_map rule_rows rs)

-- the rule that is not ended
pub record Opened (all : List SortRow) (known : List FormData) (lines : Lines) (front : List Row) (o : Open) (head : RuleRow) (premises : List PremiseRow) : Type 0 where
  pub name : head.name ≡ o.name
  pub is_name : IsCoreName o.name
  pub sorts : NameSorts all head.sorts o.sorts.items
  pub are : AreCorePremises known premises (map premise o.premises.items)
  pub after : Lines
  pub takes : Takes (map row_text front) lines after
  pub number : o.line ≡ line_number after

abbrev pub Stands : List SortRow → List Shape → List FormData → Lines → Stage → List Declaration → List RuleRows → List Row → List Row → Type 0
Stands all S known lines Start ds rs front inside = (front ≡ []) × (rs ≡ []) × (inside ≡ [])
Stands all S known lines Declaring ds rs front inside = (front ≡ front_rows ds rs) × (rs ≡ []) × (inside ≡ [])
Stands all S known lines Between ds rs front inside = (front ≡ front_rows ds rs) × (inside ≡ [])
Stands all S known lines (Premising o) ds rs front inside =
    (front ≡ front_rows ds rs) × (head : RuleRow) × (ps : List PremiseRow) × Opened all known lines front o head ps × (inside ≡ row_with Rule head ∷ map premise_row ps)
Stands all S known lines (Concluded o j) ds rs front inside =
    (front ≡ front_rows ds rs) × (head : RuleRow) × (ps : List PremiseRow) × Opened all known lines front o head ps
    × (q : JudgementRow) × (inside ≡ row_with Rule head ∷ (map premise_row ps ++ row_with Then q ∷ [])) × IsJudgement known q (judgement j)
Stands all S known lines (Over g) ds rs front inside = (front ≡ front_rows ds rs) × (q : JudgementRow) × (inside ≡ row_with Goal q ∷ []) × IsGoal S known q (goal g)

pub record Staged (all : List SortRow) (lines : Lines) (rows : List Row) (r : Reader) : Type 0 where
  pub declarations : List Declaration
  pub ended : List RuleRows
  pub front : List Row
  pub inside : List Row
  pub parts : rows ≡ front ++ inside
  pub are : AreCoreRules all (known_in r.found.forms) ended (map named r.rules.items)
  pub stands : Stands all (shapes r.found.shapes) (known_in r.found.forms) lines r.stage declarations ended front inside

pub record IsAt (all : List SortRow) (lines : Lines) (rows : List Row) (r : Reader) (next : Lines) : Type 0 where
  pub same : rows_in r.found.sorts ≡ all
  pub found : AreNamesFound r.found
  pub declare : Declare all rows (context r.found)
  pub fit : AllRowsFit all [] rows
  pub cons : AreStatedNames r.found.cons.items
  pub cons_distinct : AreTextsDistinct r.found.cons.items
  pub forms : AreStatedNames (form_names (known_in r.found.forms))
  pub reach : Reaches at_start rows (phase_of r.stage)
  pub staged : Staged all lines rows r
  pub takes : Takes (map row_text rows) lines next

-- ---- one more row

module _ (all : List SortRow) (lines : Lines) (rows : List Row) (r s : Reader) (next more : Lines) (n : ℕ) (text after : List ℕ) (at : IsAt all lines rows r next) (e : next ≡ line n text after more) where
  takes_more : (x : Row) → text ≡ row_text x → Takes (map row_text (rows ++ x ∷ [])) lines more
  takes_more x q =
      subst (λ (y : List (List ℕ)). Takes y lines more) (sym (map_last row_text rows x))
      (Takes-append (map row_text rows) (row_text x ∷ []) lines next more at.takes (subst (λ (y : Lines). Takes (row_text x ∷ []) y more) (sym e) (q, refl)))

  fit_more : (x : Row) → IsFitting (context r.found) text x → AllRowsFit all [] (rows ++ x ∷ [])
  fit_more x q = fit_snoc all [] rows x at.fit (context r.found, at.declare, q.1)

  -- a row that declares nothing
  kept : (x : Row) → IsFitting (context r.found) text x → step (phase_of r.stage) x.keyword ≡ Some (phase_of s.stage) → s.found ≡ r.found
      → core_sorts_at x.keyword x.parts ≡ [] → cons_at x.keyword x.parts ≡ [] → forms_at x.keyword x.parts ≡ [] → Staged all lines (rows ++ x ∷ []) s → IsAt all lines (rows ++ x ∷ []) s more
  kept x q f g a b d h = record {
    same = ap (λ (y : Found). rows_in y.sorts) g ∙ at.same;
    found = subst AreNamesFound (sym g) at.found;
    declare = subst (λ (y : Found). Declare all (rows ++ x ∷ []) (context y)) (sym g) (record {
      sorts = at.declare.sorts;
      taken = at.declare.taken ∙ ap sort_names (sym (none_more sort_of rows x a));
      cons = subst (λ y. AreCons all y r.found.cons.items (shapes r.found.shapes)) (sym (none_more (λ (y : Row). cons_at y.keyword y.parts) rows x b)) at.declare.cons;
      forms = subst (λ y. AreForms all y (known_in r.found.forms)) (sym (none_more (λ (y : Row). forms_at y.keyword y.parts) rows x d)) at.declare.forms;
    });
    fit = fit_more x q;
    cons = subst (λ (y : Found). AreStatedNames y.cons.items) (sym g) at.cons;
    cons_distinct = subst (λ (y : Found). AreTextsDistinct y.cons.items) (sym g) at.cons_distinct;
    forms = subst (λ (y : Found). AreStatedNames (form_names (known_in y.forms))) (sym g) at.forms;
    reach = reach_snoc rows x at_start (phase_of r.stage) (phase_of s.stage) at.reach f;
    staged = h;
    takes = takes_more x q.0;
  }

-- ---- rows of the stages

append_end : (front inside : List Row) (x : Row) → (front ++ inside) ++ x ∷ [] ≡ front ++ (inside ++ x ∷ [])
append_end front inside x = append_assoc front inside (x ∷ [])

parts_more : (rows front inside : List Row) (x : Row) → rows ≡ front ++ inside → rows ++ x ∷ [] ≡ front ++ (inside ++ x ∷ [])
parts_more rows front inside x e = ap (λ (y : List Row). y ++ x ∷ []) e ∙ append_end front inside x

-- the rows before a row that begins or declares something
whole_front : (rows front inside : List Row) (x : Row) → rows ≡ front ++ inside → inside ≡ [] → rows ++ x ∷ [] ≡ front ++ (x ∷ [])
whole_front rows front inside x e f = parts_more rows front inside x e ∙ ap (λ (y : List Row). front ++ (y ++ x ∷ [])) f

pub rows_front : (rows front inside : List Row) → rows ≡ front ++ inside → inside ≡ [] → rows ≡ front
rows_front rows front inside e f = e ∙ ap (λ (y : List Row). front ++ y) f ∙ append-nil front

flat_snoc : (rs : List RuleRows) (x : RuleRows) → flat_map rule_rows (rs ++ x ∷ []) ≡ flat_map rule_rows rs ++ rule_rows x
flat_snoc rs x = among_snoc rule_rows rs x

rules_snoc : (all : List SortRow) (known : List FormData) (ls : List RuleRows) (rs : List NamedRule) (l : RuleRows) (x : NamedRule) → AreCoreRules all known ls rs → IsCoreRule all known l x → AreCoreRules all known (ls ++ l ∷ []) (rs ++ x ∷ [])
rules_snoc all known [] [] l x h k = (k, tt)
rules_snoc all known [] (r ∷ rs) l x h k = absurd h
rules_snoc all known (m ∷ ls) [] l x h k = absurd h
rules_snoc all known (m ∷ ls) (r ∷ rs) l x h k = (h.0, rules_snoc all known ls rs l x h.1 k)

premises_snoc : (known : List FormData) (rows : List PremiseRow) (ps : List Premise) (x : PremiseRow) (p : Premise) → AreCorePremises known rows ps → AreCorePremises known (x ∷ []) (p ∷ []) → AreCorePremises known (rows ++ x ∷ []) (ps ++ p ∷ [])
premises_snoc known [] [] x p h k = k
premises_snoc known [] (q ∷ ps) x p h k = absurd h
premises_snoc known (if_line y ∷ rows) [] x p h k = absurd h
premises_snoc known (not_line l m ∷ rows) [] x p h k = absurd h
premises_snoc known (if_line y ∷ rows) (holds j ∷ ps) x p h k = (h.0, premises_snoc known rows ps x p h.1 k)
premises_snoc known (if_line y ∷ rows) (apart t u ∷ ps) x p h k = absurd h
premises_snoc known (not_line l m ∷ rows) (holds j ∷ ps) x p h k = absurd h
premises_snoc known (not_line l m ∷ rows) (apart t u ∷ ps) x p h k = (h.0, h.1, h.2, premises_snoc known rows ps x p h.3 k)

map_premises : (ps : List PremiseRow) (x : PremiseRow) → map premise_row (ps ++ x ∷ []) ≡ map premise_row ps ++ premise_row x ∷ []
map_premises ps x = map_last premise_row ps x

map_declarations : (ds : List Declaration) (x : Declaration) → map declaration_row (ds ++ x ∷ []) ≡ map declaration_row ds ++ declaration_row x ∷ []
map_declarations ds x = map_last declaration_row ds x

-- a declaration more at the front
declared_front : (ds : List Declaration) (rs : List RuleRows) (x : Declaration) → rs ≡ [] → front_rows ds rs ++ declaration_row x ∷ [] ≡ front_rows (ds ++ x ∷ []) []
declared_front ds rs x e =
    ap (λ (y : List RuleRows). front_rows ds y ++ declaration_row x ∷ []) e
    ∙ ap (λ (y : List Row). row_with Head tt ∷ (y ++ declaration_row x ∷ [])) (append-nil (map declaration_row ds))
    ∙ ap (λ (y : List Row). row_with Head tt ∷ y) (sym (map_declarations ds x))
    ∙ ap (λ (y : List Row). row_with Head tt ∷ y) (sym (append-nil (map declaration_row (ds ++ x ∷ []))))

-- a rule more at the front
pub ruled_front : (ds : List Declaration) (rs : List RuleRows) (x : RuleRows) → front_rows ds rs ++ rule_rows x ≡ front_rows ds (rs ++ x ∷ [])
ruled_front ds rs x =
    ap (λ (y : List Row). row_with Head tt ∷ y) (append_assoc (map declaration_row ds) (flat_map rule_rows rs) (rule_rows x) ∙ ap (λ (y : List Row). map declaration_row ds ++ y) (sym (flat_snoc rs x)))

stage_phase : (s t : Stage) → s ≡ t → phase_of s ≡ phase_of t
stage_phase s t e = ap phase_of e

begin_step : (s : Stage) → MayBegin s → (step (phase_of s) Rule ≡ Some at_premises) × (step (phase_of s) Goal ≡ Some at_end)
begin_step s (inl e) = (ap (λ (x : Stage). step (phase_of x) Rule) e, ap (λ (x : Stage). step (phase_of x) Goal) e)
begin_step s (inr e) = (ap (λ (x : Stage). step (phase_of x) Rule) e, ap (λ (x : Stage). step (phase_of x) Goal) e)

-- what stands where something may begin
begin_stands : (all : List SortRow) (S : List Shape) (known : List FormData) (lines : Lines) (s : Stage) (ds : List Declaration) (rs : List RuleRows) (front inside : List Row) → MayBegin s → Stands all S known lines s ds rs front inside → (front ≡ front_rows ds rs) × (inside ≡ [])
begin_stands all S known lines s ds rs front inside (inl e) h = let w = subst (λ (x : Stage). Stands all S known lines x ds rs front inside) e h in (w.0, w.2)
begin_stands all S known lines s ds rs front inside (inr e) h = subst (λ (x : Stage). Stands all S known lines x ds rs front inside) e h

module _ (all : List SortRow) (lines : Lines) (rows : List Row) (r s : Reader) (next more : Lines) (n : ℕ) (text after : List ℕ) (at : IsAt all lines rows r next) (e : next ≡ line n text after more) where
  step_of : (k : Keyword) (p q : Stage) → r.stage ≡ p → s.stage ≡ q → step (phase_of p) k ≡ Some (phase_of q) → step (phase_of r.stage) k ≡ Some (phase_of s.stage)
  step_of k p q a b f = ap (λ (x : Stage). step (phase_of x) k) a ∙ f ∙ sym (ap (λ (x : Stage). Some (phase_of x)) b)

  known : List FormData
  known = known_in r.found.forms

  stood : (p : Stage) → r.stage ≡ p → Stands all (shapes r.found.shapes) (known_in r.found.forms) lines p at.staged.declarations at.staged.ended at.staged.front at.staged.inside
  stood p f = subst (λ (x : Stage). Stands all (shapes r.found.shapes) (known_in r.found.forms) lines x at.staged.declarations at.staged.ended at.staged.front at.staged.inside) f at.staged.stands

  -- the same forms, rules and shapes, and this stage
  stage_now : (rows' : List Row) (q : Stage) → s.stage ≡ q → s.found ≡ r.found → s.rules ≡ r.rules → (ds : List Declaration) (rs : List RuleRows) (front inside : List Row) → rows' ≡ front ++ inside
      → AreCoreRules all (known_in r.found.forms) rs (map named r.rules.items) → Stands all (shapes r.found.shapes) (known_in r.found.forms) lines q ds rs front inside → Staged all lines rows' s
  stage_now rows' q f g h ds rs front inside p a t = record {
    declarations = ds;
    ended = rs;
    front = front;
    inside = inside;
    parts = p;
    are = subst (λ (y : Found). AreCoreRules all (known_in y.forms) rs (map named s.rules.items)) (sym g) (subst (λ y. AreCoreRules all (known_in r.found.forms) rs (map named y.items)) (sym h) a);
    stands = subst (λ (x : Stage). Stands all (shapes s.found.shapes) (known_in s.found.forms) lines x ds rs front inside) (sym f)
        (subst (λ (y : Found). Stands all (shapes y.shapes) (known_in y.forms) lines q ds rs front inside) (sym g) t);
  }

  pub head_at : IsFitting (context r.found) text (row_with Head tt) → (r.stage ≡ Start) × (s.stage ≡ Declaring) × IsReaderKept r s → IsAt all lines (rows ++ row_with Head tt ∷ []) s more
  head_at q h =
      let w = stood Start h.0 in
      kept all lines rows r s next more n text after at e (row_with Head tt) q (step_of Head Start Declaring h.0 h.1 refl) h.2.0 refl refl refl
      (stage_now (rows ++ row_with Head tt ∷ []) Declaring h.1 h.2.0 h.2.1 [] [] (row_with Head tt ∷ []) []
      (ap (λ (y : List Row). y ++ row_with Head tt ∷ []) (rows_front rows at.staged.front at.staged.inside at.staged.parts w.2 ∙ w.0))
      (subst (λ (y : List RuleRows). AreCoreRules all (known_in r.found.forms) y (map named r.rules.items)) w.1 at.staged.are) (refl, refl, refl))

  pub rule_at : (x : RuleRow) (o : Open) → IsFitting (context r.found) text (row_with Rule x) → MayBegin r.stage → (s.stage ≡ Premising o) → (o.line ≡ n) → (x.name ≡ o.name) → NameSorts all x.sorts o.sorts.items → (o.premises.items ≡ []) → IsReaderKept r s → IsAt all lines (rows ++ row_with Rule x ∷ []) s more
  rule_at x o q b f l m v p k =
      let w = begin_stands all (shapes r.found.shapes) (known_in r.found.forms) lines r.stage at.staged.declarations at.staged.ended at.staged.front at.staged.inside b at.staged.stands in
      let fr = rows_front rows at.staged.front at.staged.inside at.staged.parts w.1 in
      kept all lines rows r s next more n text after at e (row_with Rule x) q ((begin_step r.stage b).0 ∙ sym (ap (λ (y : Stage). Some (phase_of y)) f)) k.0 refl refl refl
      (stage_now (rows ++ row_with Rule x ∷ []) (Premising o) f k.0 k.1 at.staged.declarations at.staged.ended at.staged.front (row_with Rule x ∷ [])
      (whole_front rows at.staged.front at.staged.inside (row_with Rule x) at.staged.parts w.1) at.staged.are (
        w.0,
        x,
        [],
        record {
          name = m;
          is_name = subst IsCoreName m q.1.0.0;
          sorts = v;
          are = subst (λ (y : List Premise). AreCorePremises (known_in r.found.forms) [] y) (sym (ap (map premise) p)) tt;
          after = next;
          takes = subst (λ (y : List Row). Takes (map row_text y) lines next) fr at.takes;
          number = l ∙ sym (ap line_number e);
        },
        refl,
      ))

  -- one more premise
  pub premise_at : (x : PremiseRow) (y : Premise) (o p : Open) → IsFitting (context r.found) text (premise_row x) → (r.stage ≡ Premising o) → (s.stage ≡ Premising p) → AreCorePremises (known_in r.found.forms) (x ∷ []) (y ∷ []) → HasOneMorePremise o p y → IsReaderKept r s
      → step at_premises (premise_row x).keyword ≡ Some at_premises → core_sorts_at (premise_row x).keyword (premise_row x).parts ≡ [] → cons_at (premise_row x).keyword (premise_row x).parts ≡ [] → forms_at (premise_row x).keyword (premise_row x).parts ≡ []
      → IsAt all lines (rows ++ premise_row x ∷ []) s more
  premise_at x y o p q f g a i k st a1 a2 a3 =
      let w = stood (Premising o) f in
      let h = w.1 in
      let ps = w.2 in
      let op = w.3 in
      kept all lines rows r s next more n text after at e (premise_row x) q (step_of (premise_row x).keyword (Premising o) (Premising p) f g st) k.0 a1 a2 a3
      (stage_now (rows ++ premise_row x ∷ []) (Premising p) g k.0 k.1 at.staged.declarations at.staged.ended at.staged.front (at.staged.inside ++ premise_row x ∷ [])
      (parts_more rows at.staged.front at.staged.inside (premise_row x) at.staged.parts) at.staged.are (
        w.0,
        h,
        ps ++ x ∷ [],
        record {
          name = op.name ∙ sym i.name;
          is_name = subst IsCoreName (sym i.name) op.is_name;
          sorts = subst (λ z. NameSorts all h.sorts z.items) (sym i.sorts) op.sorts;
          are = subst (λ (z : List Premise). AreCorePremises (known_in r.found.forms) (ps ++ x ∷ []) z) (sym i.premises) (premises_snoc (known_in r.found.forms) ps (map premise o.premises.items) x y op.are a);
          after = op.after;
          takes = op.takes;
          number = i.line ∙ op.number;
        },
        ap (λ (z : List Row). z ++ premise_row x ∷ []) w.4 ∙ ap (λ (z : List Row). row_with Rule h ∷ z) (sym (map_premises ps x)),
      ))

  pub then_at : (x : JudgementRow) (o : Open) (j : JudgementOf) → IsFitting (context r.found) text (row_with Then x) → (r.stage ≡ Premising o) → (s.stage ≡ Concluded o j) → IsJudgement (known_in r.found.forms) x (judgement j) → IsReaderKept r s → IsAt all lines (rows ++ row_with Then x ∷ []) s more
  then_at x o j q f g a k =
      let w = stood (Premising o) f in
      kept all lines rows r s next more n text after at e (row_with Then x) q (step_of Then (Premising o) (Concluded o j) f g refl) k.0 refl refl refl
      (stage_now (rows ++ row_with Then x ∷ []) (Concluded o j) g k.0 k.1 at.staged.declarations at.staged.ended at.staged.front (at.staged.inside ++ row_with Then x ∷ [])
      (parts_more rows at.staged.front at.staged.inside (row_with Then x) at.staged.parts) at.staged.are
      (w.0, w.1, w.2, w.3, x, ap (λ (z : List Row). z ++ row_with Then x ∷ []) w.4, a))

  pub goal_at : (x : JudgementRow) (g : _) → IsFitting (context r.found) text (row_with Goal x) → MayBegin r.stage → (s.stage ≡ Over g) → IsGoal (shapes r.found.shapes) (known_in r.found.forms) x (goal g) → IsReaderKept r s → IsAt all lines (rows ++ row_with Goal x ∷ []) s more
  goal_at x g q b f i k =
      let w = begin_stands all (shapes r.found.shapes) (known_in r.found.forms) lines r.stage at.staged.declarations at.staged.ended at.staged.front at.staged.inside b at.staged.stands in
      kept all lines rows r s next more n text after at e (row_with Goal x) q ((begin_step r.stage b).1 ∙ sym (ap (λ (y : Stage). Some (phase_of y)) f)) k.0 refl refl refl
      (stage_now (rows ++ row_with Goal x ∷ []) (Over g) f k.0 k.1 at.staged.declarations at.staged.ended at.staged.front (row_with Goal x ∷ [])
      (whole_front rows at.staged.front at.staged.inside (row_with Goal x) at.staged.parts w.1) at.staged.are
      (w.0, x, refl, i))

  pub end_at : (o : Open) (j : JudgementOf) → IsFitting (context r.found) text (row_with End tt) → (r.stage ≡ Concluded o j) → (s.stage ≡ Between) → (s.found ≡ r.found) → (map named s.rules.items ≡ map named r.rules.items ++ whole_rule o j ∷ []) → IsAt all lines (rows ++ row_with End tt ∷ []) s more
  end_at o j q f g k u =
      let w = stood (Concluded o j) f in
      let h = w.1 in
      let ps = w.2 in
      let op = w.3 in
      let c = w.4 in
      let whole : RuleRows = record { name = h.name; sorts = h.sorts; premises = ps; conclusion = c } in
      let is : IsCoreRule all (known_in r.found.forms) whole (whole_rule o j) = record { name = op.name; is_name = op.is_name; sorts = op.sorts; premises = op.are; conclusion = w.6 } in
      let rows_are : at.staged.inside ++ row_with End tt ∷ [] ≡ rule_rows whole =
      ap (λ (z : List Row). z ++ row_with End tt ∷ []) w.5 ∙ ap (λ (z : List Row). row_with Rule (record { name = h.name; sorts = h.sorts }) ∷ z) (append_assoc (map premise_row ps) (row_with Then c ∷ []) (row_with End tt ∷ [])) in
      kept all lines rows r s next more n text after at e (row_with End tt) q (step_of End (Concluded o j) Between f g refl) k refl refl refl (record {
        declarations = at.staged.declarations;
        ended = at.staged.ended ++ whole ∷ [];
        front = front_rows at.staged.declarations (at.staged.ended ++ whole ∷ []);
        inside = [];
        parts = parts_more rows at.staged.front at.staged.inside (row_with End tt) at.staged.parts ∙ ap (λ (z : List Row). at.staged.front ++ z) rows_are ∙ ap (λ (z : List Row). z ++ rule_rows whole) w.0
            ∙ ruled_front at.staged.declarations at.staged.ended whole ∙ sym (append-nil (front_rows at.staged.declarations (at.staged.ended ++ whole ∷ [])));
        are = subst (λ (y : Found). AreCoreRules all (known_in y.forms) (at.staged.ended ++ whole ∷ []) (map named s.rules.items)) (sym k)
            (subst (λ (y : List NamedRule). AreCoreRules all (known_in r.found.forms) (at.staged.ended ++ whole ∷ []) y) (sym u) (rules_snoc all (known_in r.found.forms) at.staged.ended (map named r.rules.items) whole (whole_rule o j) at.staged.are is));
        stands = subst (λ (x : Stage). Stands all (shapes s.found.shapes) (known_in s.found.forms) lines x at.staged.declarations (at.staged.ended ++ whole ∷ []) (front_rows at.staged.declarations (at.staged.ended ++ whole ∷ [])) []) (sym g) (refl, refl);
      })

  -- one more declaration
  declared : (x : Declaration) → (r.stage ≡ Declaring) → (s.stage ≡ Declaring) → (s.rules ≡ r.rules) → Staged all lines (rows ++ declaration_row x ∷ []) s
  declared x f g h =
      let w = stood Declaring f in
      let a : AreCoreRules all (known_in r.found.forms) [] (map named s.rules.items) =
      subst (λ (y : List RuleRows). AreCoreRules all (known_in r.found.forms) y (map named s.rules.items)) w.1 (subst (λ y. AreCoreRules all (known_in r.found.forms) at.staged.ended (map named y.items)) (sym h) at.staged.are) in
      record {
        declarations = at.staged.declarations ++ x ∷ [];
        ended = [];
        front = front_rows (at.staged.declarations ++ x ∷ []) [];
        inside = [];
        parts = ap (λ (y : List Row). y ++ declaration_row x ∷ []) (rows_front rows at.staged.front at.staged.inside at.staged.parts w.2 ∙ w.0) ∙ declared_front at.staged.declarations at.staged.ended x w.1
            ∙ sym (append-nil (front_rows (at.staged.declarations ++ x ∷ []) []));
        are = no_rules (known_in r.found.forms) (known_in s.found.forms) (map named s.rules.items) a;
        stands = subst (λ (z : Stage). Stands all (shapes s.found.shapes) (known_in s.found.forms) lines z (at.staged.declarations ++ x ∷ []) [] (front_rows (at.staged.declarations ++ x ∷ []) []) []) (sym g) (refl, refl, refl);
      }
    where
      no_rules : (a b : List FormData) (rs : List NamedRule) → AreCoreRules all a [] rs → AreCoreRules all b [] rs
      no_rules a b [] k = tt
      no_rules a b (z ∷ zs) k = absurd k

  pub sort_at : (x : SortRow) → IsFitting (context r.found) text (row_with Sort x) → (r.stage ≡ Declaring) → (s.stage ≡ Declaring) → (s.rules ≡ r.rules) → AddsSort r.found s.found x.name → IsAt all lines (rows ++ row_with Sort x ∷ []) s more
  sort_at x q f g h a = record {
    same = ap rows_in a.sorts ∙ at.same;
    found = record {
      sorts = subst IsSortTable (sym a.sorts) at.found.sorts;
      forms = subst IsFormTable (sym a.forms) at.found.forms;
      con_names = a.con_names ∙ at.found.con_names ∙ ap (λ z. z.items) (sym a.cons);
    };
    declare = record {
      sorts = ap rows_in a.sorts ∙ at.same;
      taken = a.taken ∙ ap (λ (z : List (List ℕ)). z ++ x.name ∷ []) at.declare.taken ∙ sym (ap sort_names (among_snoc sort_of rows (row_with Sort x)) ∙ names_snoc (sorts_among rows));
      cons = subst (λ y. AreCons all y s.found.cons.items (shapes s.found.shapes)) (sym (none_more (λ (y : Row). cons_at y.keyword y.parts) rows (row_with Sort x) refl))
          (subst (λ z. AreCons all (cons_among rows) s.found.cons.items (shapes z)) (sym a.shapes_are) (subst (λ z. AreCons all (cons_among rows) z.items (shapes r.found.shapes)) (sym a.cons) at.declare.cons));
      forms = subst (λ y. AreForms all y (known_in s.found.forms)) (sym (none_more (λ (y : Row). forms_at y.keyword y.parts) rows (row_with Sort x) refl))
          (subst (λ z. AreForms all (forms_among rows) (known_in z)) (sym a.forms) at.declare.forms);
    };
    fit = fit_more all lines rows r s next more n text after at e (row_with Sort x) q;
    cons = subst (λ z. AreStatedNames z.items) (sym a.cons) at.cons;
    cons_distinct = subst (λ z. AreTextsDistinct z.items) (sym a.cons) at.cons_distinct;
    forms = subst (λ z. AreStatedNames (form_names (known_in z))) (sym a.forms) at.forms;
    reach = reach_snoc rows (row_with Sort x) at_start (phase_of r.stage) (phase_of s.stage) at.reach (step_of Sort Declaring Declaring f g refl);
    staged = declared (sort_line x) f g h;
    takes = takes_more all lines rows r s next more n text after at e (row_with Sort x) q.0;
  }
    where
      names_snoc : (ys : List SortRow) → sort_names (ys ++ x ∷ []) ≡ sort_names ys ++ x.name ∷ []
      names_snoc ys = ap (λ (z : List (List ℕ)). codes "id" ∷ codes "num" ∷ codes "str" ∷ z) (map_last (λ (y : SortRow). y.name) ys x)

  pub con_at : (x : ConRow) (c : Shape) → IsFitting (context r.found) text (row_with Con x) → IsConOf all x c → (r.stage ≡ Declaring) → (s.stage ≡ Declaring) → (s.rules ≡ r.rules) → AddsCon r.found s.found x.name c → IsAt all lines (rows ++ row_with Con x ∷ []) s more
  con_at x c q i f g h a = record {
    same = ap rows_in a.sorts ∙ at.same;
    found = record {
      sorts = subst IsSortTable (sym a.sorts) at.found.sorts;
      forms = subst IsFormTable (sym a.forms) at.found.forms;
      con_names = a.con_names ∙ ap (λ (z : List (List ℕ)). z ++ x.name ∷ []) at.found.con_names ∙ sym a.cons;
    };
    declare = record {
      sorts = ap rows_in a.sorts ∙ at.same;
      taken = a.taken ∙ at.declare.taken ∙ ap sort_names (sym (none_more sort_of rows (row_with Con x) refl));
      cons = subst (λ y. AreCons all y s.found.cons.items (shapes s.found.shapes)) (sym (among_snoc (λ (y : Row). cons_at y.keyword y.parts) rows (row_with Con x)))
          (subst (λ z. AreCons all (cons_among rows ++ x ∷ []) s.found.cons.items z) (sym a.shapes_are) (subst (λ z. AreCons all (cons_among rows ++ x ∷ []) z (shapes r.found.shapes ++ c ∷ [])) (sym a.cons)
          (cons_snoc all (cons_among rows) r.found.cons.items (shapes r.found.shapes) x x.name c at.declare.cons refl i)));
      forms = subst (λ y. AreForms all y (known_in s.found.forms)) (sym (none_more (λ (y : Row). forms_at y.keyword y.parts) rows (row_with Con x) refl))
          (subst (λ z. AreForms all (forms_among rows) (known_in z)) (sym a.forms) at.declare.forms);
    };
    fit = fit_more all lines rows r s next more n text after at e (row_with Con x) q;
    cons = subst AreStatedNames (sym a.cons) (names_snoc r.found.cons.items x.name at.cons q.1.0.0);
    cons_distinct = subst AreTextsDistinct (sym a.cons) (distinct_snoc r.found.cons.items x.name at.cons_distinct q.1.1);
    forms = subst (λ z. AreStatedNames (form_names (known_in z))) (sym a.forms) at.forms;
    reach = reach_snoc rows (row_with Con x) at_start (phase_of r.stage) (phase_of s.stage) at.reach (step_of Con Declaring Declaring f g refl);
    staged = declared (con_line x) f g h;
    takes = takes_more all lines rows r s next more n text after at e (row_with Con x) q.0;
  }

  pub form_at : (x : FormRow) (c : FormData) → IsFitting (context r.found) text (row_with Form x) → IsFormOf all x c → (length (known_in s.found.forms) < 2 ^ 32) → (r.stage ≡ Declaring) → (s.stage ≡ Declaring) → (s.rules ≡ r.rules) → AddsForm r.found s.found c → IsAt all lines (rows ++ row_with Form x ∷ []) s more
  form_at x c q i few f g h a =
      let names : form_names (known_in s.found.forms) ≡ form_names (known_in r.found.forms) ++ c.name ∷ [] = ap form_names a.forms ∙ map_last (λ (y : FormData). y.name) (known_in r.found.forms) c in
      let fresh : Contains (form_names (known_in r.found.forms)) c.name → ⊥ = λ k. q.1.2 (subst (λ (z : List ℕ). Contains (form_names (known_in r.found.forms)) z) (sym i.name) k) in
      record {
        same = ap rows_in a.sorts ∙ at.same;
        found = record {
          sorts = subst IsSortTable (sym a.sorts) at.found.sorts;
          forms = record {
            names = a.names ∙ ap (λ (z : List (List ℕ)). z ++ c.name ∷ []) at.found.forms.names ∙ sym names;
            distinct = subst AreTextsDistinct (sym names) (distinct_snoc (form_names (known_in r.found.forms)) c.name at.found.forms.distinct fresh);
            few = few;
          };
          con_names = a.con_names ∙ at.found.con_names ∙ ap (λ z. z.items) (sym a.cons);
        };
        declare = record {
          sorts = ap rows_in a.sorts ∙ at.same;
          taken = a.taken ∙ at.declare.taken ∙ ap sort_names (sym (none_more sort_of rows (row_with Form x) refl));
          cons = subst (λ y. AreCons all y s.found.cons.items (shapes s.found.shapes)) (sym (none_more (λ (y : Row). cons_at y.keyword y.parts) rows (row_with Form x) refl))
              (subst (λ z. AreCons all (cons_among rows) s.found.cons.items (shapes z)) (sym a.shapes_are) (subst (λ z. AreCons all (cons_among rows) z.items (shapes r.found.shapes)) (sym a.cons) at.declare.cons));
          forms = subst (λ y. AreForms all y (known_in s.found.forms)) (sym (among_snoc (λ (y : Row). forms_at y.keyword y.parts) rows (row_with Form x)))
              (subst (λ z. AreForms all (forms_among rows ++ x ∷ []) z) (sym a.forms) (forms_snoc all (forms_among rows) (known_in r.found.forms) x c at.declare.forms i));
        };
        fit = fit_more all lines rows r s next more n text after at e (row_with Form x) q;
        cons = subst (λ z. AreStatedNames z.items) (sym a.cons) at.cons;
        cons_distinct = subst (λ z. AreTextsDistinct z.items) (sym a.cons) at.cons_distinct;
        forms = subst AreStatedNames (sym names) (names_snoc (form_names (known_in r.found.forms)) c.name at.forms (subst IsCoreName i.name q.1.0));
        reach = reach_snoc rows (row_with Form x) at_start (phase_of r.stage) (phase_of s.stage) at.reach (step_of Form Declaring Declaring f g refl);
        staged = declared (form_line x) f g h;
        takes = takes_more all lines rows r s next more n text after at e (row_with Form x) q.0;
      }
