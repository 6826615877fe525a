-- Reading all lines of a core file.
use Rattle.std.proofs.Common.{◌≡◌, ℕ, ◌<◌, List, [], ◌∷◌, ◌++◌, length, map, refl, sym, ap, ◌∙◌, subst, arith}
use Rattle.std.specs.Prelude.{Result, Ok, Err, ◌^◌}
use Rattle.std.specs.Str.{IsUtf8}
use Rattle.sx_lines.specs.Lines.{Lines, over, line, lines_from}
use Rattle.sx_lines.specs.Reading.{kept}
use Rattle.sx_term.specs.Shapes.{shapes}
use Rattle.sx_rules.specs.Good.{IsRuleSet, IsRuleSetRefused}
use Rattle.sx_rules.specs.Deep.{RulesAreShallow}
use Rattle.sx_rules.specs.Views.{goal, named, rule}
use Rattle.sx_rules.specs.declared.rule.Goal.{Goal as GoalOf}
use Rattle.sx_rules.specs.declared.error.RuleError.{RuleError}
use Rattle.sx_rules.specs.declared.error.RuleError.TheVariants.{Memory as NoRules, TooManyRules}
use Rattle.sx_rules.specs.declared.error.RuleError.TheVariants.{TooManyVars, SameRule, SortDiffers}
use Rattle.sx_rules.specs.declared.error.RuleError.TheVariants.{Discipline, NotModed}
use Rattle.sx_core.specs.File.{SortRow}
use Rattle.sx_core.specs.Problem.{Problem, problem}
use Rattle.sx_core.specs.Stated.{AreStatedNames, AreCons, AreForms, AreCoreRules}
use Rattle.sx_lines.specs.Distinct.{AreTextsDistinct}
use Rattle.sx_core.specs.Stated.{SaysCore, StatesProblem}
use Rattle.sx_core.specs.Resolving.{rows_in, IsSortTable}
use Rattle.sx_core.specs.Statements.{form_names, known_in}
use Rattle.sx_core.specs.Table.{Row}
use Rattle.sx_core.specs.Fitting.{AreSorts}
use Rattle.sx_core.specs.Reading.{context}
use Rattle.sx_core.specs.Machine.{CoreSteps, NextRead, NextRefused, IsCoreProblem, IsEnded}
use Rattle.sx_core.specs.Machine.{IsReaderBegun}
use Rattle.sx_core.specs.CoreRead.{ReadTo, AreRulesRefused, AreCoreLinesRead, IsCoreRead}
use Rattle.sx_core.specs.declared.problem.CoreProblem.{CoreProblem}
use Rattle.sx_core.specs.declared.error.CoreFileError.{CoreFileError}
use Rattle.sx_core.specs.declared.error.CoreFileError.TheVariants.{Memory, NotUtf8, Notation}
use Rattle.sx_core.specs.declared.error.CoreFileError.TheVariants.{TooDeep, Rules}
use Rattle.sx_core.specs.declared.reader.Reader.{Reader}
use Rattle.sx_core.specs.declared.found.Found.{Found}
use Rattle.sx_core.specs.declared.sort_table.SortTable.{SortTable}
use Rattle.sx_core.specs.declared.form_table.FormTable.{FormTable}
use Rattle.sx_core.specs.Order.{phase_of}
use Rattle.sx_core.specs.declared.stage.Stage.TheVariants.{Over}
use Rattle.sx_core.specs.declared.line_read.LineRead.{LineRead}
use Rattle.sx_core.specs.declared.line_read.LineRead.TheVariants.{Head as HeadRead}
use Rattle.sx_core.specs.declared.line_read.LineRead.TheVariants.{Sort as SortRead, Con as ConRead}
use Rattle.sx_core.specs.declared.line_read.LineRead.TheVariants.{Form as FormRead}
use Rattle.sx_core.specs.declared.line_read.LineRead.TheVariants.{Rule as RuleRead, If as IfRead}
use Rattle.sx_core.specs.declared.line_read.LineRead.TheVariants.{Not as NotRead, Then as ThenRead}
use Rattle.sx_core.specs.declared.line_read.LineRead.TheVariants.{End as EndRead, Goal as GoalRead}
use Rattle.sx_core.proofs.ReaderLaws.{Stands, IsAt}
use Rattle.sx_core.proofs.FinishLaws.{rules_shallow}
use Rattle.sx_core.proofs.NextLaws.{next_at, read_to, usual, bad_line, missing}
use Rattle.sx_core.proofs.EndLaws.{file, lines_are, read_problem, says}

-- ---- refusals

module _ (all : List SortRow) (lines : Lines) (rows : List Row) (r : Reader) (next more : Lines) (n : ℕ) (text after : List ℕ) (at : IsAt all lines rows r next) (e : next ≡ line n text after more) (sorts : AreSorts [] lines all) where
  pub line_result : (x : CoreFileError) → NextRefused r n text x → AreCoreLinesRead lines (Err x)
  line_result Memory h = tt
  line_result (NotUtf8 place) h = absurd h
  line_result (Notation l kind) h =
      (rows, context r.found, line n text after more, subst (λ (z : Lines). ReadTo lines rows (context r.found) z) e (read_to all lines rows r next at sorts), (h.0, bad_line all lines rows r next at text kind h.1))
  line_result (TooDeep l depth) h =
      (rows, context r.found, line n text after more, subst (λ (z : Lines). ReadTo lines rows (context r.found) z) e (read_to all lines rows r next at sorts), (h.0, (usual all lines rows r next at h.1.0 h.1.1, h.2.0, h.2.1)))
  line_result (Rules x) h = absurd h

-- ---- the end

module _ (all : List SortRow) (lines : Lines) (rows : List Row) (r : Reader) (next : Lines) (n : ℕ) (at : IsAt all lines rows r next) (e : next ≡ over n) (sorts : AreSorts [] lines all) (names : AreStatedNames (map (λ row. row.name) all)) where
  problem_is : (g : GoalOf) (s : r.stage ≡ Over g) (p : Problem) → IsCoreProblem r.found (map named r.rules.items) (goal g) p → read_problem all lines rows r next n g at e s sorts names ≡ p
  problem_is g s p h =
      ap (λ x. record { sorts = x; cons = r.found.cons.items; shapes = shapes r.found.shapes; forms = known_in r.found.forms; rules = map named r.rules.items; goal = goal g }) (sym h.sorts)
      ∙ ap (λ x. record { sorts = p.sorts; cons = x; shapes = shapes r.found.shapes; forms = known_in r.found.forms; rules = map named r.rules.items; goal = goal g }) (sym h.cons)
      ∙ ap (λ x. record { sorts = p.sorts; cons = p.cons; shapes = x; forms = known_in r.found.forms; rules = map named r.rules.items; goal = goal g }) (sym h.shapes_are)
      ∙ ap (λ x. record { sorts = p.sorts; cons = p.cons; shapes = p.shapes; forms = x; rules = map named r.rules.items; goal = goal g }) (sym h.forms)
      ∙ ap (λ x. record { sorts = p.sorts; cons = p.cons; shapes = p.shapes; forms = p.forms; rules = x; goal = goal g }) (sym h.rules_are)
      ∙ ap (λ x. record { sorts = p.sorts; cons = p.cons; shapes = p.shapes; forms = p.forms; rules = p.rules; goal = x }) (sym h.goal_is)

  states : (g : GoalOf) (s : r.stage ≡ Over g) (p : Problem) → IsCoreProblem r.found (map named r.rules.items) (goal g) p → StatesProblem (file all lines rows r next n g at e s sorts names) p
  states g s p h = record {
    says = subst (SaysCore (file all lines rows r next n g at e s sorts names)) (problem_is g s p h) (says all lines rows r next n g at e s sorts names);
    rule_set = subst (λ x. IsRuleSet x p.forms p.rules) (sym h.shapes_are) (subst (λ x. IsRuleSet (shapes r.found.shapes) x p.rules) (sym h.forms) (subst (IsRuleSet (shapes r.found.shapes) (known_in r.found.forms)) (sym h.rules_are) h.rule_set));
  }

  refused : (g : GoalOf) (s : r.stage ≡ Over g) (x : RuleError) → (x ≡ NoRules → ⊥) → IsRuleSetRefused (shapes r.found.shapes) (known_in r.found.forms) (map named r.rules.items) x → AreRulesRefused (file all lines rows r next n g at e s sorts names) x
  refused g s NoRules q h = absurd (q refl)
  refused g s TooManyRules q h = (read_problem all lines rows r next n g at e s sorts names, says all lines rows r next n g at e s sorts names, h)
  refused g s (TooManyVars x) q h = (read_problem all lines rows r next n g at e s sorts names, says all lines rows r next n g at e s sorts names, h)
  refused g s (SameRule x) q h = (read_problem all lines rows r next n g at e s sorts names, says all lines rows r next n g at e s sorts names, h)
  refused g s (SortDiffers x) q h = (read_problem all lines rows r next n g at e s sorts names, says all lines rows r next n g at e s sorts names, h)
  refused g s (Discipline x y z) q h = (read_problem all lines rows r next n g at e s sorts names, says all lines rows r next n g at e s sorts names, h)
  refused g s (NotModed x y) q h = (read_problem all lines rows r next n g at e s sorts names, says all lines rows r next n g at e s sorts names, h)

  pub end_result : (result : Result CoreProblem CoreFileError) → IsEnded r r.stage n result → AreCoreLinesRead lines result
  end_result (Ok p) h = (file all lines rows r next n h.0 at e h.1 sorts names, lines_are all lines rows r next n h.0 at e h.1 sorts names, states h.0 h.1 (problem p) h.2)
  end_result (Err Memory) h = tt
  end_result (Err (NotUtf8 place)) h = absurd h
  end_result (Err (Notation l kind)) h = (rows, context r.found, over n, subst (λ (z : Lines). ReadTo lines rows (context r.found) z) e (read_to all lines rows r next at sorts), missing all lines rows r next at n l kind h)
  end_result (Err (TooDeep l depth)) h = absurd h
  end_result (Err (Rules x)) h = (file all lines rows r next n h.0 at e h.1 sorts names, lines_are all lines rows r next n h.0 at e h.1 sorts names, refused h.0 h.1 x h.2 h.3)

-- ---- the beginning

pub begun_at : (t : SortTable) (lines : Lines) (r : Reader) → IsSortTable t → IsReaderBegun t r → IsAt (rows_in t) lines [] r lines
begun_at t lines r h b = record {
  same = ap rows_in b.sorts_are;
  found = record {
    sorts = subst IsSortTable (sym b.sorts_are) h;
    forms = record {
      names = b.form_names ∙ sym (ap form_names b.forms);
      distinct = subst (λ x. AreTextsDistinct (form_names x)) (sym b.forms) tt;
      few = subst (λ x. length x < 2 ^ 32) (sym b.forms) (omega arith);
    };
    con_names = b.con_names ∙ sym b.cons;
  };
  declare = record {
    sorts = ap rows_in b.sorts_are;
    taken = b.taken;
    cons = subst (λ x. AreCons (rows_in t) [] x (shapes r.found.shapes)) (sym b.cons) (subst (λ x. AreCons (rows_in t) [] [] x) (sym b.shapes_are) tt);
    forms = subst (λ x. AreForms (rows_in t) [] x) (sym b.forms) tt;
  };
  fit = tt;
  cons = subst AreStatedNames (sym b.cons) tt;
  cons_distinct = subst AreTextsDistinct (sym b.cons) tt;
  forms = subst (λ x. AreStatedNames (form_names x)) (sym b.forms) tt;
  reach = sym (ap phase_of b.stage);
  staged = record {
    declarations = [];
    ended = [];
    front = [];
    inside = [];
    parts = refl;
    are = subst (λ x. AreCoreRules (rows_in t) (known_in r.found.forms) [] (map named x)) (sym b.rules) tt;
    stands = subst (λ x. Stands (rows_in t) (shapes r.found.shapes) (known_in r.found.forms) lines x [] [] [] []) (sym b.stage) (refl, refl, refl);
  };
  takes = refl;
}

-- each form has a number after a line too
pub steps_few : (r s : Reader) (n : ℕ) (x : LineRead) → length (known_in r.found.forms) < 2 ^ 32 → CoreSteps r n x s → length (known_in s.found.forms) < 2 ^ 32
steps_few r s n HeadRead l h = subst (λ (f : Found). length (known_in f.forms) < 2 ^ 32) (sym h.2.0) l
steps_few r s n (SortRead y) l h = subst (λ (f : FormTable). length (known_in f) < 2 ^ 32) (sym h.3.forms) l
steps_few r s n (ConRead y c) l h = subst (λ (f : FormTable). length (known_in f) < 2 ^ 32) (sym h.3.forms) l
steps_few r s n (FormRead f) l h = h.3.few
steps_few r s n (RuleRead name sorts) l h = subst (λ (f : Found). length (known_in f.forms) < 2 ^ 32) (sym h.4.0) l
steps_few r s n (IfRead j) l h = subst (λ (f : Found). length (known_in f.forms) < 2 ^ 32) (sym h.5.0) l
steps_few r s n (NotRead a b) l h = subst (λ (f : Found). length (known_in f.forms) < 2 ^ 32) (sym h.5.0) l
steps_few r s n (ThenRead j) l h = subst (λ (f : Found). length (known_in f.forms) < 2 ^ 32) (sym h.3.0) l
steps_few r s n EndRead l h = subst (λ (f : Found). length (known_in f.forms) < 2 ^ 32) (sym h.4) l
steps_few r s n (GoalRead g) l h = subst (λ (f : Found). length (known_in f.forms) < 2 ^ 32) (sym h.2.0) l

-- ---- the lines so far

-- the reader stands after these rows
pub record Standing (all : List SortRow) (lines : Lines) (r : Reader) (next : Lines) : Type 0 where
  pub rows : List Row
  pub at : IsAt all lines rows r next

pub stand_begin : (t : SortTable) (lines : Lines) (r : Reader) → IsSortTable t → IsReaderBegun t r → Standing (rows_in t) lines r lines
stand_begin t lines r h b = record { rows = []; at = begun_at t lines r h b }

pub stand_more : (all : List SortRow) (lines : Lines) (r s : Reader) (next more : Lines) (n : ℕ) (text after : List ℕ) → Standing all lines r next → next ≡ line n text after more → NextRead r n text s → Standing all lines s more
stand_more all lines r s next more n text after h e k =
    let few = steps_few r s n k.0 h.at.found.forms.few k.2 in
    let w = next_at all lines h.rows r s next more n text after h.at e few k.0 k.1 k.2 in
    record { rows = h.rows ++ w.0 ∷ []; at = w.1 }

pub stand_refused : (all : List SortRow) (lines : Lines) (r : Reader) (next more : Lines) (n : ℕ) (text after : List ℕ) (x : CoreFileError) → Standing all lines r next → next ≡ line n text after more → AreSorts [] lines all → NextRefused r n text x → AreCoreLinesRead lines (Err x)
stand_refused all lines r next more n text after x h e sorts k = line_result all lines h.rows r next more n text after h.at e sorts x k

pub stand_end : (all : List SortRow) (lines : Lines) (r : Reader) (next : Lines) (n : ℕ) (result : Result CoreProblem CoreFileError) → Standing all lines r next → next ≡ over n → AreSorts [] lines all → AreStatedNames (map (λ row. row.name) all) → IsEnded r r.stage n result → AreCoreLinesRead lines result
stand_end all lines r next n result h e sorts names k = end_result all lines h.rows r next n h.at e sorts names result k

pub stand_shallow : (all : List SortRow) (lines : Lines) (r : Reader) (next : Lines) → Standing all lines r next → RulesAreShallow (map rule r.rules.items)
stand_shallow all lines r next h = rules_shallow all (known_in r.found.forms) h.at.staged.ended r.rules.items h.at.staged.are

-- ---- the whole file

pub core_read : (bytes : List ℕ) (result : Result CoreProblem CoreFileError) → IsUtf8 bytes → AreCoreLinesRead (kept (lines_from 1 bytes)) result → IsCoreRead bytes result
core_read bytes (Ok p) u h = (u, h)
core_read bytes (Err Memory) u h = tt
core_read bytes (Err (NotUtf8 place)) u h = absurd h
core_read bytes (Err (Notation l kind)) u h = (u, h)
core_read bytes (Err (TooDeep l depth)) u h = (u, h)
core_read bytes (Err (Rules x)) u h = (u, h)
