-- The end of the reading of core files.
use Rattle.std.proofs.Common.{◌≡◌, ℕ, ◌+◌, ◌<◌, List, [], ◌∷◌, ◌++◌, length, get_or, take, map, sym, ap, ◌∙◌, subst}
use Rattle.std.specs.Prelude.{Result, Ok, Err}
use Rattle.sx_term.specs.Shapes.{shapes}
use Rattle.sx_rules.specs.Deep.{AreShallow, PremisesAreShallow, RulesAreShallow}
use Rattle.sx_rules.specs.Good.{IsRuleSetRefused}
use Rattle.sx_rules.specs.Modes.{Goal as GoalData}
use Rattle.sx_rules.specs.Rules.{Premise, holds, apart}
use Rattle.sx_rules.specs.Views.{FormData, NamedRule, goal, named, rule, premise}
use Rattle.sx_rules.specs.declared.rule.Goal.{Goal as GoalOf}
use Rattle.sx_rules.specs.declared.rule.Rule.{Rule as RuleOf}
use Rattle.sx_rules.specs.declared.error.RuleError.{RuleError}
use Rattle.sx_rules.specs.declared.error.RuleError.TheVariants.{Memory as NoRules, TooManyRules}
use Rattle.sx_rules.specs.declared.error.RuleError.TheVariants.{TooManyVars, SameRule, SortDiffers}
use Rattle.sx_rules.specs.declared.error.RuleError.TheVariants.{Discipline, NotModed}
use Rattle.sx_core.specs.File.{SortRow, PremiseRow, if_line, not_line, RuleRows}
use Rattle.sx_core.specs.Stated.{AreCorePremises, AreCoreRules}
use Rattle.sx_core.specs.Rows.{sort_row}
use Rattle.sx_core.specs.Statements.{known_in}
use Rattle.sx_core.specs.Machine.{IsProblemMade, IsEnded, rule_error}
use Rattle.sx_core.specs.declared.rows.SortRow.{SortRow as SortRowOf}
use Rattle.sx_core.specs.declared.found.Found.{Found}
use Rattle.sx_core.specs.declared.problem.CoreProblem.{CoreProblem}
use Rattle.sx_core.specs.declared.error.CoreFileError.{CoreFileError}
use Rattle.sx_core.specs.declared.error.CoreFileError.TheVariants.{Memory, NotUtf8, Notation}
use Rattle.sx_core.specs.declared.error.CoreFileError.TheVariants.{TooDeep, Rules}
use Rattle.sx_core.specs.declared.reader.Reader.{Reader}
use Rattle.sx_core.specs.declared.stage.Stage.{Stage}
use Rattle.sx_core.specs.declared.stage.Stage.TheVariants.{Over}
use Rattle.sx_core.proofs.SortLaws.{take_one, view_at, name_at}
use Rattle.sx_core.proofs.StatementLaws.{shallow_of}

pub row_names_more : (all : List SortRowOf) (i : ℕ) (row : SortRowOf) (names new : List (List ℕ)) (name : List ℕ) → i < length all → row ≡ get_or all i row → new ≡ names ++ name ∷ [] → name ≡ row.name
    → names ≡ take i (map (λ r. r.name) (map sort_row all)) → new ≡ take (i + 1) (map (λ r. r.name) (map sort_row all))
row_names_more all i row names new name lt is e g h =
    let k = name_at (map sort_row all) i (sort_row row) (view_at sort_row all i row lt is) in
    e ∙ ap (λ x. x ++ name ∷ []) h ∙ ap (λ (x : List ℕ). take i (map (λ (r : SortRow). r.name) (map sort_row all)) ++ x ∷ []) g ∙ sym (take_one (map (λ (r : SortRow). r.name) (map sort_row all)) i row.name k)

pub made_refused : (found : Found) (rules : List NamedRule) (g : GoalData) (e : RuleError) → IsRuleSetRefused (shapes found.shapes) (known_in found.forms) rules e → IsProblemMade found rules g (Err (rule_error e))
made_refused found rules g NoRules h = tt
made_refused found rules g TooManyRules h = ((λ q. cc), h)
made_refused found rules g (TooManyVars x) h = ((λ q. cc), h)
made_refused found rules g (SameRule x) h = ((λ q. cc), h)
made_refused found rules g (SortDiffers x) h = ((λ q. cc), h)
made_refused found rules g (Discipline x y z) h = ((λ q. cc), h)
made_refused found rules g (NotModed x y) h = ((λ q. cc), h)

pub made_ended : (r : Reader) (stage : Stage) (n : ℕ) (g : GoalOf) (result : Result CoreProblem CoreFileError) → stage ≡ Over g → IsProblemMade r.found (map named r.rules.items) (goal g) result → IsEnded r stage n result
made_ended r stage n g (Ok p) e h = (g, e, h)
made_ended r stage n g (Err Memory) e h = tt
made_ended r stage n g (Err (NotUtf8 place)) e h = absurd h
made_ended r stage n g (Err (Notation l kind)) e h = absurd h
made_ended r stage n g (Err (TooDeep l depth)) e h = absurd h
made_ended r stage n g (Err (Rules x)) e h = (g, e, h.0, h.1)

-- ---- rules that were read are not too deep

premises_shallow : (known : List FormData) (rows : List PremiseRow) (ps : List Premise) → AreCorePremises known rows ps → PremisesAreShallow ps
premises_shallow known [] [] h = tt
premises_shallow known [] (p ∷ ps) h = absurd h
premises_shallow known (if_line y ∷ rows) [] h = absurd h
premises_shallow known (not_line l m ∷ rows) [] h = absurd h
premises_shallow known (if_line y ∷ rows) (holds j ∷ ps) h = (subst AreShallow (sym h.0.places) (shallow_of y.terms h.0.readable), premises_shallow known rows ps h.1)
premises_shallow known (if_line y ∷ rows) (apart t u ∷ ps) h = absurd h
premises_shallow known (not_line l m ∷ rows) (holds j ∷ ps) h = absurd h
premises_shallow known (not_line l m ∷ rows) (apart t u ∷ ps) h =
    let k = subst (λ x. AreShallow (x ∷ m ∷ [])) h.0 (shallow_of (l ∷ m ∷ []) h.2) in
    let q = subst (λ x. AreShallow (t ∷ x ∷ [])) h.1 k in
    ((q.0, q.1.0), premises_shallow known rows ps h.3)

pub rules_shallow : (all : List SortRow) (known : List FormData) (ls : List RuleRows) (rs : List RuleOf) → AreCoreRules all known ls (map named rs) → RulesAreShallow (map rule rs)
rules_shallow all known [] [] h = tt
rules_shallow all known [] (r ∷ rs) h = absurd h
rules_shallow all known (l ∷ ls) [] h = absurd h
rules_shallow all known (l ∷ ls) (r ∷ rs) h =
    ((subst AreShallow (sym h.0.conclusion.places) (shallow_of l.conclusion.terms h.0.conclusion.readable), premises_shallow known l.premises (map premise r.premises.items) h.0.premises), rules_shallow all known ls rs h.1)
