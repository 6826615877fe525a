-- A goal of the first form whose terms have the sorts of its places can be printed.
use Rattle.std.proofs.Common.{◌≡◌, ℕ, ◌≤◌, List, Option, Some, None, map, length, slice_get, ap, sym, subst}
use Rattle.sx_term.specs.declared.sort.Sort.{Sort}
use Rattle.sx_term.specs.declared.term.Term.{Term}
use Rattle.sx_term.specs.Tree.{Tree}
use Rattle.sx_term.specs.Term.{tree}
use Rattle.sx_term.specs.Sorts.{Shape, HaveSorts}
use Rattle.sx_grammar.specs.Parts.{Parts, numbered}
use Rattle.sx_grammar.specs.Made.{IsGrammar}
use Rattle.sx_grammar.specs.Told.{shapes_of}
use Rattle.sx_rules.specs.declared.rule.Place.{Place}
use Rattle.sx_rules.specs.Views.{FormData, places_or_none, places_at, is_out, modes_of, sorts_of}
use Rattle.sx_rules.specs.Modes.{inputs, outputs}
use Rattle.sx_rules.specs.Sorts.{GoalIsSorted}
use Rattle.sx_directives.specs.declared.rows.FormLine.{FormLine}
use Rattle.sx_notation.specs.Forms.{HasForms, GoalFits}
use Rattle.sx_notation.specs.RuleParts.{rule_parts}
use Rattle.sx_notation.specs.RuleLaws.{form_of, HaveSortsOf, MayHaveSorts}
use Rattle.sx_notation.proofs.RuleGrammars.{forms_follow, sorted_goals_fit}

pub has_forms : (p q : Parts) (known : List FormLine) (forms : List FormData) → HaveSortsOf p known → q ≡ rule_parts p known → forms ≡ map (form_of p) known → HasForms q forms
has_forms p q known forms have same each =
    subst (λ (r : Parts). HasForms r forms) (sym same) (subst (λ (fs : List FormData). HasForms (rule_parts p known) fs) (sym each) (forms_follow p known have))

pub first_goal_fits : (p q : Parts) (known : List FormLine) (forms : List FormData) (form : FormData) (sorts : List Sort) (variables : ℕ) (terms : List Tree) (got : Option (List Tree)) →
    IsGrammar p → q ≡ rule_parts p known → length sorts ≤ variables → slice_get forms 0 ≡ Some form →
    HaveSorts (shapes_of p) sorts terms (inputs (map (λ (q : Place). is_out q.role) form.places) (map (λ (q : Place). q.sort) form.places)) →
    MayHaveSorts (shapes_of p) sorts got (outputs (map (λ (q : Place). is_out q.role) form.places) (map (λ (q : Place). q.sort) form.places)) →
    GoalFits (numbered q) variables forms (record { form = 0; terms = terms }) got
first_goal_fits p q known forms form sorts variables terms got is same enough first ins outs =
    let at : places_at forms 0 ≡ form.places = ap places_or_none first in
    let sorted : GoalIsSorted (shapes_of p) (sorts_of forms) (modes_of forms) sorts (record { form = 0; terms = terms }) =
    subst (λ (ps : List Place). HaveSorts (shapes_of p) sorts terms (inputs (map (λ (q : Place). is_out q.role) ps) (map (λ (q : Place). q.sort) ps))) (sym at) ins in
    let may : MayHaveSorts (shapes_of p) sorts got (outputs (modes_of forms 0) (sorts_of forms 0)) =
    subst (λ (ps : List Place). MayHaveSorts (shapes_of p) sorts got (outputs (map (λ (q : Place). is_out q.role) ps) (map (λ (q : Place). q.sort) ps))) (sym at) outs in
    subst (λ (r : Parts). GoalFits (numbered r) variables forms (record { form = 0; terms = terms }) got) (sym same)
    (sorted_goals_fit p known forms form sorts variables (record { form = 0; terms = terms }) got is enough first sorted may)

-- the same of terms that were checked in place of equal ones, without outputs and with these outputs got
pub checked_fits : (p q : Parts) (known : List FormLine) (forms : List FormData) (form : FormData) (sorts : List Sort) (variables : ℕ) (shapes : List Shape) (places : List Place) (us ts vs ws : List Term) →
    IsGrammar p → q ≡ rule_parts p known → length sorts ≤ variables → slice_get forms 0 ≡ Some form → shapes ≡ shapes_of p → places ≡ form.places → us ≡ ts → vs ≡ ws →
    HaveSorts shapes sorts (map tree us) (inputs (map (λ (q : Place). is_out q.role) places) (map (λ (q : Place). q.sort) places)) →
    HaveSorts shapes sorts (map tree vs) (outputs (map (λ (q : Place). is_out q.role) places) (map (λ (q : Place). q.sort) places)) →
    GoalFits (numbered q) variables forms (record { form = 0; terms = map tree ts }) None × GoalFits (numbered q) variables forms (record { form = 0; terms = map tree ts }) (Some (map tree ws))
checked_fits p q known forms form sorts variables shapes places us ts vs ws is same enough first by at one other ins outs =
    let ins1 = subst (λ (s : List Shape). HaveSorts s sorts (map tree us) (inputs (map (λ (q : Place). is_out q.role) places) (map (λ (q : Place). q.sort) places))) by ins in
    let ins2 = subst (λ (ps : List Place). HaveSorts (shapes_of p) sorts (map tree us) (inputs (map (λ (q : Place). is_out q.role) ps) (map (λ (q : Place). q.sort) ps))) at ins1 in
    let ins3 = subst (λ (xs : List Term). HaveSorts (shapes_of p) sorts (map tree xs) (inputs (map (λ (q : Place). is_out q.role) form.places) (map (λ (q : Place). q.sort) form.places))) one ins2 in
    let outs1 = subst (λ (s : List Shape). HaveSorts s sorts (map tree vs) (outputs (map (λ (q : Place). is_out q.role) places) (map (λ (q : Place). q.sort) places))) by outs in
    let outs2 = subst (λ (ps : List Place). HaveSorts (shapes_of p) sorts (map tree vs) (outputs (map (λ (q : Place). is_out q.role) ps) (map (λ (q : Place). q.sort) ps))) at outs1 in
    let outs3 = subst (λ (xs : List Term). HaveSorts (shapes_of p) sorts (map tree xs) (outputs (map (λ (q : Place). is_out q.role) form.places) (map (λ (q : Place). q.sort) form.places))) other outs2 in (
      first_goal_fits p q known forms form sorts variables (map tree ts) None is same enough first ins3 tt,
      first_goal_fits p q known forms form sorts variables (map tree ts) (Some (map tree ws)) is same enough first ins3 outs3,
    )
