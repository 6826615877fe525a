-- What the rows of a whole file state.
use Rattle.std.proofs.Common.{◌≡◌, ℕ, List, [], ◌∷◌, ◌++◌, inl, inr, map, refl, sym, ap, ◌∙◌, subst, append_assoc, append-nil}
use Rattle.std.specs.Prelude.{Contains, ◌⊎◌}
use Rattle.std.specs.List.{flat_map}
use Rattle.sx_lines.specs.Lines.{Lines, over, line, line_texts}
use Rattle.sx_lines.specs.Takes.{Takes}
use Rattle.sx_term.specs.Shapes.{shapes}
use Rattle.sx_rules.specs.Views.{goal, named as named_rule}
use Rattle.sx_rules.specs.declared.rule.Goal.{Goal as GoalOf}
use Rattle.sx_core.specs.File.{SortRow, JudgementRow, Declaration, sort_line, con_line, form_line}
use Rattle.sx_core.specs.File.{PremiseRow, if_line, not_line, RuleRows, CoreFile}
use Rattle.sx_core.specs.Problem.{Problem}
use Rattle.sx_core.specs.Stated.{IsCoreName, AreStatedNames, AreCons, AreForms, AreCoreRules, sort_rows}
use Rattle.sx_core.specs.Stated.{con_rows, form_rows, SaysCore}
use Rattle.sx_core.specs.Resolving.{sort_names, rows_in}
use Rattle.sx_core.specs.Statements.{known_in}
use Rattle.sx_core.specs.Table.{RowParts, parts_text, Row, row_with, row_text, declaration_row, premise_row}
use Rattle.sx_core.specs.Table.{rule_rows, IsKeyword}
use Rattle.sx_core.specs.Fitting.{Context, PartsFit, core_sorts_at, cons_at, forms_at, sorts_among}
use Rattle.sx_core.specs.Fitting.{cons_among, forms_among, AllRowsFit, AreSorts}
use Rattle.sx_core.specs.CoreRead.{AreLinesOf}
use Rattle.sx_core.specs.declared.reader.Reader.{Reader}
use Rattle.sx_core.specs.declared.stage.Stage.{Stage}
use Rattle.sx_core.specs.declared.stage.Stage.TheVariants.{Over}
use Rattle.sx_core.specs.declared.keyword.Keyword.{Keyword}
use Rattle.sx_core.specs.declared.keyword.Keyword.TheVariants.{Head, Sort, Con, Form, Rule, If, Not}
use Rattle.sx_core.specs.declared.keyword.Keyword.TheVariants.{Then, End, Goal}
use Rattle.sx_core.proofs.PartLaws.{sort_same}
use Rattle.sx_core.proofs.TableLaws.{row_keyword, only_row}
use Rattle.sx_core.proofs.ReaderLaws.{among_snoc, front_rows, Stands, IsAt}

-- ---- what rows declare

flat_append : {A B : Type 0} (f : A → List B) (xs ys : List A) → flat_map f (xs ++ ys) ≡ flat_map f xs ++ flat_map f ys
flat_append f [] ys = refl
flat_append f (x ∷ xs) ys = ap (λ z. f x ++ z) (flat_append f xs ys) ∙ sym (append_assoc (f x) (flat_map f xs) (flat_map f ys))

module _ {B : Type 0} (f : Row → List B) (fh : f (row_with Head tt) ≡ []) (fr : (p : RowParts Rule) → f (row_with Rule p) ≡ []) (fi : (p : RowParts If) → f (row_with If p) ≡ []) (fn : (p : RowParts Not) → f (row_with Not p) ≡ []) (ft : (p : RowParts Then) → f (row_with Then p) ≡ [])
    (fe : f (row_with End tt) ≡ []) (fg : (p : RowParts Goal) → f (row_with Goal p) ≡ []) where
  premises_none : (ps : List PremiseRow) → flat_map f (map premise_row ps) ≡ []
  premises_none [] = refl
  premises_none (if_line x ∷ ps) = ap (λ z. z ++ flat_map f (map premise_row ps)) (fi x) ∙ premises_none ps
  premises_none (not_line l m ∷ ps) = ap (λ z. z ++ flat_map f (map premise_row ps)) (fn (record { left = l; right = m })) ∙ premises_none ps

  tail_none : (q : JudgementRow) → flat_map f (row_with Then q ∷ row_with End tt ∷ []) ≡ []
  tail_none q = ap (λ z. z ++ (f (row_with End tt) ++ [])) (ft q) ∙ ap (λ z. z ++ []) fe

  rule_none : (r : RuleRows) → flat_map f (rule_rows r) ≡ []
  rule_none r =
      ap (λ z. z ++ flat_map f (map premise_row r.premises ++ row_with Then r.conclusion ∷ row_with End tt ∷ [])) (fr (record { name = r.name; sorts = r.sorts }))
      ∙ flat_append f (map premise_row r.premises) (row_with Then r.conclusion ∷ row_with End tt ∷ []) ∙ ap (λ z. z ++ flat_map f (row_with Then r.conclusion ∷ row_with End tt ∷ [])) (premises_none r.premises) ∙ tail_none r.conclusion

  rules_none : (rs : List RuleRows) → flat_map f (flat_map rule_rows rs) ≡ []
  rules_none [] = refl
  rules_none (r ∷ rs) = flat_append f (rule_rows r) (flat_map rule_rows rs) ∙ ap (λ z. z ++ flat_map f (flat_map rule_rows rs)) (rule_none r) ∙ rules_none rs

  pub declared_rows : (ds : List Declaration) (rs : List RuleRows) (q : JudgementRow) → flat_map f (front_rows ds rs ++ row_with Goal q ∷ []) ≡ flat_map f (map declaration_row ds)
  declared_rows ds rs q =
      ap (λ z. z ++ flat_map f ((map declaration_row ds ++ flat_map rule_rows rs) ++ row_with Goal q ∷ [])) fh
      ∙ flat_append f (map declaration_row ds ++ flat_map rule_rows rs) (row_with Goal q ∷ [])
      ∙ ap (λ z. flat_map f (map declaration_row ds ++ flat_map rule_rows rs) ++ (z ++ [])) (fg q)
      ∙ append-nil (flat_map f (map declaration_row ds ++ flat_map rule_rows rs))
      ∙ flat_append f (map declaration_row ds) (flat_map rule_rows rs)
      ∙ ap (λ z. flat_map f (map declaration_row ds) ++ z) (rules_none rs)
      ∙ append-nil (flat_map f (map declaration_row ds))

pub sorts_declared : (ds : List Declaration) → sorts_among (map declaration_row ds) ≡ sort_rows ds
sorts_declared [] = refl
sorts_declared (sort_line x ∷ ds) = ap (λ z. x ∷ z) (sorts_declared ds)
sorts_declared (con_line x ∷ ds) = sorts_declared ds
sorts_declared (form_line x ∷ ds) = sorts_declared ds

pub cons_declared : (ds : List Declaration) → cons_among (map declaration_row ds) ≡ con_rows ds
cons_declared [] = refl
cons_declared (sort_line x ∷ ds) = cons_declared ds
cons_declared (con_line x ∷ ds) = ap (λ z. x ∷ z) (cons_declared ds)
cons_declared (form_line x ∷ ds) = cons_declared ds

pub forms_declared : (ds : List Declaration) → forms_among (map declaration_row ds) ≡ form_rows ds
forms_declared [] = refl
forms_declared (sort_line x ∷ ds) = forms_declared ds
forms_declared (con_line x ∷ ds) = forms_declared ds
forms_declared (form_line x ∷ ds) = ap (λ z. x ∷ z) (forms_declared ds)

-- ---- the sorts of the file are those of its rows

pub sort_or_none : (k : Keyword) (p : RowParts k) → ((x : SortRow) × (row_with k p ≡ row_with Sort x)) ⊎ (core_sorts_at k p ≡ [])
sort_or_none Head p = inr refl
sort_or_none Sort p = inl (p, refl)
sort_or_none Con p = inr refl
sort_or_none Form p = inr refl
sort_or_none Rule p = inr refl
sort_or_none If p = inr refl
sort_or_none Not p = inr refl
sort_or_none Then p = inr refl
sort_or_none End p = inr refl
sort_or_none Goal p = inr refl

abbrev sort_part : Row → List SortRow
sort_part r = core_sorts_at r.keyword r.parts

-- a row with the line of a sort is the row of that sort
pub only_sort : (text : List ℕ) (x : SortRow) → IsCoreName x.name → text ≡ row_text (row_with Sort x) → (r : Row) → text ≡ row_text r → ((y : SortRow) → r ≡ row_with Sort y → IsCoreName y.name) → r ≡ row_with Sort x
only_sort text x n e r f named =
    only_row text Sort (parts_text Sort x) (subst (λ (t : List ℕ). IsKeyword t Sort (parts_text Sort x)) (sym e) (row_keyword (row_with Sort x)))
    (λ (z : Row). ((y : SortRow) → z ≡ row_with Sort y → IsCoreName y.name) → z ≡ row_with Sort x) (λ y q h. ap (row_with Sort) (sort_same y x (h y refl) n (sym q))) r f named

sort_fits : (c : Context) (r : Row) (y : SortRow) → PartsFit c r.keyword r.parts → r ≡ row_with Sort y → IsCoreName y.name × (Contains c.taken y.name → ⊥)
sort_fits c r y h e = subst (λ (z : Row). PartsFit c z.keyword z.parts) e h

module _ (all : List SortRow) where
  sorts_are : (before rows : List Row) (found : List SortRow) (lines next : Lines) (n : ℕ) → found ≡ sorts_among before → next ≡ over n → Takes (map row_text rows) lines next → AllRowsFit all before rows → AreSorts found lines all → found ++ sorts_among rows ≡ all
  sorts_are before [] found lines next n e o t f h = append-nil found ∙ subst (λ (z : Lines). AreSorts found z all) (t ∙ o) h
  sorts_are before (r ∷ rows) found (over m) next n e o t f h = absurd t
  sorts_are before (r ∷ rows) found (line m text after more) next n e o t f (inl (x, new, h)) =
      let c = f.0.0 in
      let is = only_sort text x new.1 new.0 r t.0 (λ y q. (sort_fits c r y f.0.2 q).0) in
      let same : sort_part r ≡ x ∷ [] = ap sort_part is in
      let ih = sorts_are (before ++ r ∷ []) rows (found ++ x ∷ []) more next n (ap (λ (z : List SortRow). z ++ x ∷ []) e ∙ ap (λ (z : List SortRow). sorts_among before ++ z) (sym same) ∙ sym (among_snoc sort_part before r)) o t.1 f.1 h in
      ap (λ (z : List SortRow). found ++ (z ++ sorts_among rows)) same ∙ sym (append_assoc found (x ∷ []) (sorts_among rows)) ∙ ih
  sorts_are before (r ∷ rows) found (line m text after more) next n e o t f (inr (none, h)) =
      let c = f.0.0 in
      let nothing : sort_part r ≡ [] = elim (sort_or_none r.keyword r.parts) [
        | inl w ↦ absurd (none w.0 (t.0 ∙ ap row_text w.1, (sort_fits c r w.0 f.0.2 w.1).0, λ k. (sort_fits c r w.0 f.0.2 w.1).1 (subst (λ (z : List (List ℕ)). Contains z w.0.name) (ap sort_names e ∙ sym f.0.1.taken) k)))
        | inr w ↦ w
      ] in
      let ih = sorts_are (before ++ r ∷ []) rows found more next n (e ∙ sym (append-nil (sorts_among before)) ∙ ap (λ (z : List SortRow). sorts_among before ++ z) (sym nothing) ∙ sym (among_snoc sort_part before r)) o t.1 f.1 h in
      ap (λ (z : List SortRow). found ++ (z ++ sorts_among rows)) nothing ∙ ih

-- ---- the lines are those of the file

takes_texts : (xs : List (List ℕ)) (lines next : Lines) (n : ℕ) → next ≡ over n → Takes xs lines next → line_texts lines ≡ xs
takes_texts [] lines next n o t = ap line_texts (t ∙ o)
takes_texts (x ∷ xs) (over m) next n o t = absurd t
takes_texts (x ∷ xs) (line m text after more) next n o t = ap (λ z. z ∷ line_texts more) t.0 ∙ ap (λ z. x ∷ z) (takes_texts xs more next n o t.1)

module _ (all : List SortRow) (lines : Lines) (rows : List Row) (r : Reader) (next : Lines) (n : ℕ) (g : GoalOf) (at : IsAt all lines rows r next) (e : next ≡ over n) (stage : r.stage ≡ Over g) (sorts : AreSorts [] lines all) (named : AreStatedNames (map (λ row. row.name) all)) where
  there : Stands all (shapes r.found.shapes) (known_in r.found.forms) lines (Over g) at.staged.declarations at.staged.ended at.staged.front at.staged.inside
  there = subst (λ (z : Stage). Stands all (shapes r.found.shapes) (known_in r.found.forms) lines z at.staged.declarations at.staged.ended at.staged.front at.staged.inside) stage at.staged.stands

  pub file : CoreFile
  file = record { declarations = at.staged.declarations; rules = at.staged.ended; goal = there.1 }

  rows_are : rows ≡ front_rows at.staged.declarations at.staged.ended ++ row_with Goal there.1 ∷ []
  rows_are = at.staged.parts ∙ ap (λ (z : List Row). z ++ at.staged.inside) there.0 ∙ ap (λ (z : List Row). front_rows at.staged.declarations at.staged.ended ++ z) there.2

  pub lines_are : AreLinesOf lines file
  unfolding file
  lines_are = takes_texts (map row_text rows) lines next n e at.takes ∙ ap (map row_text) rows_are

  all_is : all ≡ sort_rows at.staged.declarations
  all_is =
      sym (sorts_are all [] rows [] lines next n refl e at.takes at.fit sorts)
      ∙ ap sorts_among rows_are
      ∙ declared_rows (λ (z : Row). core_sorts_at z.keyword z.parts) refl (λ p. refl) (λ p. refl) (λ p. refl) (λ p. refl) refl (λ p. refl) at.staged.declarations at.staged.ended there.1
      ∙ sorts_declared at.staged.declarations

  cons_are : cons_among rows ≡ con_rows at.staged.declarations
  cons_are =
      ap cons_among rows_are
      ∙ declared_rows (λ (z : Row). cons_at z.keyword z.parts) refl (λ p. refl) (λ p. refl) (λ p. refl) (λ p. refl) refl (λ p. refl) at.staged.declarations at.staged.ended there.1
      ∙ cons_declared at.staged.declarations

  forms_are : forms_among rows ≡ form_rows at.staged.declarations
  forms_are =
      ap forms_among rows_are
      ∙ declared_rows (λ (z : Row). forms_at z.keyword z.parts) refl (λ p. refl) (λ p. refl) (λ p. refl) (λ p. refl) refl (λ p. refl) at.staged.declarations at.staged.ended there.1
      ∙ forms_declared at.staged.declarations

  abbrev pub read_problem : Problem
  read_problem = record {
    sorts = map (λ row. row.name) (rows_in r.found.sorts);
    cons = r.found.cons.items;
    shapes = shapes r.found.shapes;
    forms = known_in r.found.forms;
    rules = map named_rule r.rules.items;
    goal = goal g;
  }

  pub says : SaysCore file read_problem
  unfolding file
  says = record {
    sorts = ap (map (λ row. row.name)) (at.same ∙ all_is);
    sort_names = subst (λ (z : List SortRow). AreStatedNames (map (λ row. row.name) z)) (sym at.same) named;
    sorts_distinct = at.found.sorts.distinct;
    cons = subst (λ (z : List SortRow). AreCons z (con_rows at.staged.declarations) r.found.cons.items (shapes r.found.shapes)) all_is (subst (λ z. AreCons all z r.found.cons.items (shapes r.found.shapes)) cons_are at.declare.cons);
    con_names = at.cons;
    cons_distinct = at.cons_distinct;
    forms = subst (λ (z : List SortRow). AreForms z (form_rows at.staged.declarations) (known_in r.found.forms)) all_is (subst (λ z. AreForms all z (known_in r.found.forms)) forms_are at.declare.forms);
    form_names = at.forms;
    forms_distinct = at.found.forms.distinct;
    rules = subst (λ (z : List SortRow). AreCoreRules z (known_in r.found.forms) at.staged.ended (map named_rule r.rules.items)) all_is at.staged.are;
    goal = there.3;
  }
