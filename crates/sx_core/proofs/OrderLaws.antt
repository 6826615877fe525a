-- The order of lines.
use Rattle.std.proofs.Common.{◌≡◌, List, [], ◌∷◌, ◌++◌, Some, None, inl, inr, map, refl, sym, ap, ◌∙◌, subst, append_assoc}
use Rattle.std.specs.List.{flat_map}
use Rattle.sx_core.specs.File.{Declaration, sort_line, con_line, form_line, PremiseRow, if_line, not_line, JudgementRow, RuleRows, CoreFile}
use Rattle.sx_core.specs.Table.{Row, row_with, declaration_row, premise_row, rule_rows, rows_of, Has}
use Rattle.sx_core.specs.Order.{AreRowsInOrder, Phase, at_start, at_declarations, at_rules, at_premises, at_conclusion, at_end, step}
use Rattle.sx_core.specs.declared.keyword.Keyword.{Keyword}
use Rattle.sx_core.specs.declared.keyword.Keyword.TheVariants.{Head, Sort, Con, Form, Rule, If, Not, Then, End, Goal}

-- the rows lead from one phase to the other
abbrev pub Reaches : Phase → List Row → Phase → Type 0
Reaches p [] q = p ≡ q
Reaches p (r ∷ rows) q = (m : Phase) × (step p r.keyword ≡ Some m) × Reaches m rows q

pub reach_append : (xs ys : List Row) (p q r : Phase) → Reaches p xs q → Reaches q ys r → Reaches p (xs ++ ys) r
reach_append [] ys p q r h k = subst (λ (m : Phase). Reaches m ys r) (sym h) k
reach_append (x ∷ xs) ys p q r h k = (h.0, h.1, reach_append xs ys h.0 q r h.2 k)

pub reach_split : (xs ys : List Row) (p r : Phase) → Reaches p (xs ++ ys) r → (q : Phase) × Reaches p xs q × Reaches q ys r
reach_split [] ys p r h = (p, refl, h)
reach_split (x ∷ xs) ys p r h = let w = reach_split xs ys h.0 r h.2 in (w.0, (h.0, h.1, w.1), w.2)

one_next : (p q : Phase) → Some p ≡ Some q → p ≡ q
one_next p q e = cc

pub none_next : (p : Phase) → None ≡ Some p → ⊥
none_next p e = cc

pub reach_one : (xs : List Row) (p q r : Phase) → Reaches p xs q → Reaches p xs r → q ≡ r
reach_one [] p q r h k = sym h ∙ k
reach_one (x ∷ xs) p q r h k = reach_one xs h.0 q r h.2 (subst (λ (m : Phase). Reaches m xs r) (one_next k.0 h.0 (sym k.1 ∙ h.1)) k.2)

pub reach_snoc : (xs : List Row) (x : Row) (p q m : Phase) → Reaches p xs q → step q x.keyword ≡ Some m → Reaches p (xs ++ x ∷ []) m
reach_snoc xs x p q m h e = reach_append xs (x ∷ []) p q m h (m, e, refl)

-- ---- files

declarations_reach : (ds : List Declaration) → Reaches at_declarations (map declaration_row ds) at_declarations
declarations_reach [] = refl
declarations_reach (sort_line r ∷ ds) = (at_declarations, refl, declarations_reach ds)
declarations_reach (con_line r ∷ ds) = (at_declarations, refl, declarations_reach ds)
declarations_reach (form_line r ∷ ds) = (at_declarations, refl, declarations_reach ds)

premises_reach : (ps : List PremiseRow) → Reaches at_premises (map premise_row ps) at_premises
premises_reach [] = refl
premises_reach (if_line r ∷ ps) = (at_premises, refl, premises_reach ps)
premises_reach (not_line l r ∷ ps) = (at_premises, refl, premises_reach ps)

rule_reaches : (p : Phase) (r : RuleRows) → step p Rule ≡ Some at_premises → Reaches p (rule_rows r) at_rules
rule_reaches p r e =
    (at_premises, e, reach_append (map premise_row r.premises) (row_with Then r.conclusion ∷ row_with End tt ∷ []) at_premises at_premises at_rules (premises_reach r.premises) (at_conclusion, refl, (at_rules, refl, refl)))

rules_reach : (p : Phase) (rs : List RuleRows) (goal : JudgementRow) → step p Rule ≡ Some at_premises → step p Goal ≡ Some at_end → Reaches p (flat_map rule_rows rs ++ row_with Goal goal ∷ []) at_end
rules_reach p [] goal e f = (at_end, f, refl)
rules_reach p (r ∷ rs) goal e f =
    subst (λ (x : List Row). Reaches p x at_end) (sym (append_assoc (rule_rows r) (flat_map rule_rows rs) (row_with Goal goal ∷ [])))
    (reach_append (rule_rows r) (flat_map rule_rows rs ++ row_with Goal goal ∷ []) p at_rules at_end (rule_reaches p r e) (rules_reach at_rules rs goal refl refl))

pub file_reaches : (file : CoreFile) → Reaches at_start (rows_of file) at_end
file_reaches file =
    let goal = row_with Goal file.goal ∷ [] in (
      at_declarations,
      refl,
      subst (λ (x : List Row). Reaches at_declarations x at_end) (sym (append_assoc (map declaration_row file.declarations) (flat_map rule_rows file.rules) goal))
          (reach_append (map declaration_row file.declarations) (flat_map rule_rows file.rules ++ goal) at_declarations at_declarations at_end
          (declarations_reach file.declarations) (rules_reach at_declarations file.rules file.goal refl refl)),
    )

-- a row whose place is past or has not come
pub no_front : (rows : List Row) (r : Row) (q : Phase) → Reaches at_start rows q → step q r.keyword ≡ None → AreRowsInOrder (rows ++ r ∷ []) → ⊥
no_front rows r q h e f =
    let a = reach_split (rows ++ r ∷ []) f.1 at_start at_end (subst (λ (x : List Row). Reaches at_start x at_end) f.2 (file_reaches f.0)) in
    let b = reach_split rows (r ∷ []) at_start a.0 a.1 in
    let same = reach_one rows at_start b.0 q b.1 h in
    none_next b.2.0 (sym e ∙ ap (λ (m : Phase). step m r.keyword) (sym same) ∙ b.2.1)

-- ---- the goal is last

goal_step : (p m : Phase) → step p Goal ≡ Some m → m ≡ at_end
goal_step at_start m e = absurd (none_next m e)
goal_step at_declarations m e = sym (one_next at_end m e)
goal_step at_rules m e = sym (one_next at_end m e)
goal_step at_premises m e = absurd (none_next m e)
goal_step at_conclusion m e = absurd (none_next m e)
goal_step at_end m e = absurd (none_next m e)

pub end_step : (k : Keyword) (m : Phase) → step at_end k ≡ Some m → ⊥
end_step Head m e = none_next m e
end_step Sort m e = none_next m e
end_step Con m e = none_next m e
end_step Form m e = none_next m e
end_step Rule m e = none_next m e
end_step If m e = none_next m e
end_step Not m e = none_next m e
end_step Then m e = none_next m e
end_step End m e = none_next m e
end_step Goal m e = none_next m e

end_stays : (rows : List Row) (q : Phase) → Reaches at_end rows q → q ≡ at_end
end_stays [] q h = sym h
end_stays (r ∷ rows) q h = absurd (end_step r.keyword h.0 h.1)

pub goal_ends : (rows : List Row) (p q : Phase) → Has Goal rows → Reaches p rows q → q ≡ at_end
goal_ends [] p q h k = absurd h
goal_ends (r ∷ rows) p q (inl e) k =
    let m = goal_step p k.0 (ap (step p) (sym e) ∙ k.1) in
    end_stays rows q (subst (λ (x : Phase). Reaches x rows q) m k.2)
goal_ends (r ∷ rows) p q (inr h) k = goal_ends rows k.0 q h k.2

-- ---- a rule that is not ended

abbrev pub IsInside : Phase → Type 0
IsInside at_start = ⊥
IsInside at_declarations = ⊥
IsInside at_rules = ⊥
IsInside at_premises = Unit {0}
IsInside at_conclusion = Unit {0}
IsInside at_end = ⊥

inside_step : (p : Phase) (k : Keyword) (m : Phase) → IsInside p → (k ≡ End → ⊥) → step p k ≡ Some m → IsInside m
inside_step at_start k m h n e = absurd h
inside_step at_declarations k m h n e = absurd h
inside_step at_rules k m h n e = absurd h
inside_step at_premises Head m h n e = absurd (none_next m e)
inside_step at_premises Sort m h n e = absurd (none_next m e)
inside_step at_premises Con m h n e = absurd (none_next m e)
inside_step at_premises Form m h n e = absurd (none_next m e)
inside_step at_premises Rule m h n e = absurd (none_next m e)
inside_step at_premises If m h n e = subst IsInside (one_next at_premises m e) tt
inside_step at_premises Not m h n e = subst IsInside (one_next at_premises m e) tt
inside_step at_premises Then m h n e = subst IsInside (one_next at_conclusion m e) tt
inside_step at_premises End m h n e = absurd (none_next m e)
inside_step at_premises Goal m h n e = absurd (none_next m e)
inside_step at_conclusion Head m h n e = absurd (none_next m e)
inside_step at_conclusion Sort m h n e = absurd (none_next m e)
inside_step at_conclusion Con m h n e = absurd (none_next m e)
inside_step at_conclusion Form m h n e = absurd (none_next m e)
inside_step at_conclusion Rule m h n e = absurd (none_next m e)
inside_step at_conclusion If m h n e = absurd (none_next m e)
inside_step at_conclusion Not m h n e = absurd (none_next m e)
inside_step at_conclusion Then m h n e = absurd (none_next m e)
inside_step at_conclusion End m h n e = absurd (n refl)
inside_step at_conclusion Goal m h n e = absurd (none_next m e)
inside_step at_end k m h n e = absurd h

pub inside_stays : (rows : List Row) (p q : Phase) → IsInside p → (Has End rows → ⊥) → Reaches p rows q → IsInside q
inside_stays [] p q h n k = subst IsInside k h
inside_stays (r ∷ rows) p q h n k = inside_stays rows k.0 q (inside_step p r.keyword k.0 h (λ e. n (inl e)) k.1) (λ e. n (inr e)) k.2

pub rule_step : (p m : Phase) → step p Rule ≡ Some m → IsInside m
rule_step at_start m e = absurd (none_next m e)
rule_step at_declarations m e = subst IsInside (one_next at_premises m e) tt
rule_step at_rules m e = subst IsInside (one_next at_premises m e) tt
rule_step at_premises m e = absurd (none_next m e)
rule_step at_conclusion m e = absurd (none_next m e)
rule_step at_end m e = absurd (none_next m e)

pub open_inside : (front inside : List Row) (rule : Row) (q : Phase) → rule.keyword ≡ Rule → (Has End inside → ⊥) → Reaches at_start (front ++ rule ∷ inside) q → IsInside q
open_inside front inside rule q e n h =
    let a = reach_split front (rule ∷ inside) at_start q h in
    inside_stays inside a.2.0 q (rule_step a.0 a.2.0 (ap (step a.0) (sym e) ∙ a.2.1)) n a.2.2
