-- The goal by which a module is compiled, and places of parts.
use Rattle.std.proofs.Common.{◌≡◌, ℕ, ◌≤◌, Bool, List, [], ◌∷◌, ◌++◌, inr, map, Option, Some, None}
use Rattle.std.proofs.Common.{refl, sym, ap, ◌∙◌, subst}
use Rattle.std.specs.Prelude.{slice_get}
use Rattle.std.specs.List.{AllByRecursion}
use Rattle.sx_term.specs.Tree.{Tree, depth_of, part_at}
use Rattle.sx_term.specs.Sorts.{Shape, HasSort, HaveSorts}
use Rattle.sx_term.specs.declared.sort.Sort.{Sort}
use Rattle.sx_grammar.specs.Print.{term_of}
use Rattle.sx_print.specs.Cut.{HasLexemes}
use Rattle.sx_forest.specs.Places.{place_at}
use Rattle.sx_forest.proofs.Placing.{leaves_together}
use Rattle.sx_term.specs.declared.role.Role.{Role}
use Rattle.sx_term.specs.declared.role.Role.TheVariants.{In, Sub, Out}
use Rattle.sx_rules.specs.declared.rule.Place.{Place}
use Rattle.sx_rules.specs.declared.rule.Rule.{Rule as RuleOf}
use Rattle.sx_rules.specs.declared.rule_set.RuleSet.{RuleSet}
use Rattle.sx_rules.specs.Deep.{AreShallow}
use Rattle.sx_rules.specs.Modes.{inputs, outputs}
use Rattle.sx_rules.specs.Sorts.{GoalIsSorted}
use Rattle.sx_rules.specs.Views.{FormData, named, rule, modes_of, sorts_of, places_at}
use Rattle.sx_rules.specs.Views.{places_or_none, is_out, is_sub}
use Rattle.sx_rules.specs.Sets.{rules_in}
use Rattle.sx_arena.specs.Views.{rules_of}
use Rattle.sx_notation.specs.Language.{sort_when, sorts_with}
use Rattle.sx_typing.specs.Outcomes.{nameless, LeadsToPart}
use Rattle.sx_typing.specs.MainGoals.{input_at, main_terms, main_goal, MainGoalsFit}
use Rattle.sx_typing.specs.MainGoals.{MainGoalsHaveLexemes, MainGoalsAreShallow, PartsHavePlaces}

-- the rules of a set, with names and without
bare_named : (rules : List RuleOf) → nameless (map named rules) ≡ map rule rules
bare_named [] = refl
bare_named (r ∷ rules) = ap (λ rs. rule r ∷ rs) (bare_named rules)

pub bare_is : (set : RuleSet) → nameless (rules_in set) ≡ rules_of set
bare_is set = bare_named set.rules.items

abbrev outs_of : List Place → List Bool
outs_of places = map (λ p. is_out p.role) places

abbrev subs_of : List Place → List Bool
subs_of places = map (λ p. is_sub p.role) places

module _ (shapes : List Shape) (vars : List Sort) (environment subject : Tree) where
  -- both terms have each of the sorts at their places
  abbrev EachHas : Tree → List Sort → Type 0
  EachHas t sorts = AllByRecursion (HasSort shapes vars t) sorts

  sorted_place : (role : Role) (sort : Sort) (ins subs : List Sort) (bs : List Bool)
      (sorts : List Sort) (ts : List Tree) →
      EachHas environment (sort_when In role sort ++ ins) →
      EachHas subject (sort_when Sub role sort ++ subs) →
      (EachHas environment ins → EachHas subject subs → HaveSorts shapes vars ts (inputs bs sorts))
      →
      HaveSorts shapes vars (input_at environment subject role ++ ts)
      (inputs (is_out role ∷ bs) (sort ∷ sorts))
  sorted_place In sort ins subs bs sorts ts h k more = (h.0, more h.1 k)
  sorted_place Sub sort ins subs bs sorts ts h k more = (k.0, more h k.1)
  sorted_place Out sort ins subs bs sorts ts h k more = more h k

  terms_sorted : (places : List Place) → EachHas environment (sorts_with In places) →
      EachHas subject (sorts_with Sub places) →
      HaveSorts shapes vars (main_terms places environment subject)
      (inputs (outs_of places) (map (λ p. p.sort) places))
  terms_sorted [] h k = tt
  terms_sorted (p ∷ ps) h k =
      sorted_place p.role p.sort (sorts_with In ps) (sorts_with Sub ps) (outs_of ps)
      (map (λ q. q.sort) ps) (main_terms ps environment subject) h k (terms_sorted ps)

  subject_place : (role : Role) (sort : Sort) (outs subs : List Bool) (ts : List Tree)
      (sorts : List Sort) → outputs (inputs outs subs) ts ≡ map (λ s. subject) sorts →
      outputs (inputs (is_out role ∷ outs) (is_sub role ∷ subs))
      (input_at environment subject role ++ ts) ≡ map (λ s. subject)
      (sort_when Sub role sort ++ sorts)
  subject_place In sort outs subs ts sorts e = e
  subject_place Sub sort outs subs ts sorts e = ap (λ (us : List Tree). subject ∷ us) e
  subject_place Out sort outs subs ts sorts e = e

  main_subjects : (places : List Place) →
      outputs (inputs (outs_of places) (subs_of places))
      (main_terms places environment subject) ≡ map (λ s. subject) (sorts_with Sub places)
  main_subjects [] = refl
  main_subjects (p ∷ ps) = subject_place p.role p.sort (outs_of ps) (subs_of ps)
      (main_terms ps environment subject) (sorts_with Sub ps) (main_subjects ps)

output_place : (role : Role) (sort : Sort) (outs : List Bool) (sorts more : List Sort) →
    outputs outs sorts ≡ more → outputs (is_out role ∷ outs) (sort ∷ sorts) ≡ sort_when Out role
    sort ++ more
output_place In sort outs sorts more e = e
output_place Sub sort outs sorts more e = e
output_place Out sort outs sorts more e = ap (λ (ss : List Sort). sort ∷ ss) e

main_outputs : (places : List Place) →
    outputs (outs_of places) (map (λ p. p.sort) places) ≡ sorts_with Out places
main_outputs [] = refl
main_outputs (p ∷ ps) = output_place p.role p.sort (outs_of ps) (map (λ q. q.sort) ps)
    (sorts_with Out ps) (main_outputs ps)

one_sorted : (shapes : List Shape) (vars : List Sort) (sort : Sort) (ts : List Tree) →
    HaveSorts shapes vars ts (sort ∷ []) → (t : Tree) × (ts ≡ t ∷ []) × HasSort shapes vars t sort
one_sorted shapes vars sort [] h = absurd h
one_sorted shapes vars sort (t ∷ []) h = (t, refl, h.0)
one_sorted shapes vars sort (t ∷ u ∷ ts) h = absurd h.1

module _ (shapes : List Shape) (forms : List FormData) (vars : List Sort) (number : ℕ)
    (form : FormData) (is : slice_get forms number ≡ Some form) where
  -- the places of the form
  same_places : places_at forms number ≡ form.places
  same_places = ap places_or_none is

  main_goal_sorted : (input sort : Sort) (environment subject : Tree) →
      sorts_with In form.places ≡ input ∷ [] → sorts_with Sub form.places ≡ sort ∷ [] →
      HasSort shapes vars environment input → HasSort shapes vars subject sort →
      GoalIsSorted shapes (sorts_of forms) (modes_of forms) vars
      (main_goal forms number environment subject)
  main_goal_sorted input sort environment subject ins subs h k =
      subst (λ (places : List Place). HaveSorts shapes vars (main_terms places environment subject)
      (inputs (outs_of places) (map (λ p. p.sort) places))) (sym same_places)
      (terms_sorted shapes vars environment subject form.places
      (subst (λ (sorts : List Sort). AllByRecursion (HasSort shapes vars environment) sorts)
      (sym ins) (h, tt))
      (subst (λ (sorts : List Sort). AllByRecursion (HasSort shapes vars subject) sorts) (sym subs)
      (k, tt)))

  main_goal_leads : (sort : Sort) (environment subject : Tree) →
      sorts_with Sub form.places ≡ sort ∷ [] →
      LeadsToPart forms subject [] (main_goal forms number environment subject)
  main_goal_leads sort environment subject subs = (
    subject,
    refl,
    inr (main_subjects shapes vars environment subject (places_at forms number) ∙ ap
        (λ (places : List Place). map (λ s. subject) (sorts_with Sub places)) same_places ∙ ap
        (map (λ s. subject)) subs),
  )

  main_output_sorted : (output : Sort) → sorts_with Out form.places ≡ output ∷ [] →
      (outs : List Tree) →
      HaveSorts shapes vars outs (outputs (modes_of forms number) (sorts_of forms number)) →
      (t : Tree) × (outs ≡ t ∷ []) × HasSort shapes vars t output
  main_output_sorted output is_output outs h =
      one_sorted shapes vars output outs
      (subst (λ (sorts : List Sort). HaveSorts shapes vars outs sorts)
      (main_outputs (places_at forms number) ∙ ap (sorts_with Out) same_places ∙ is_output) h)

pub main_goals_fit : MainGoalsFit
main_goals_fit shapes forms vars number form input sort output environment subject is ins subs outs
    h k = (
      main_goal_sorted shapes forms vars number form is input sort environment subject ins subs h k,
      main_goal_leads shapes forms vars number form is sort environment subject subs,
      main_output_sorted shapes forms vars number form is output outs,
    )

has_place : (P : Tree → Type 0) (role : Role) (environment subject : Tree) (ts : List Tree) →
    P environment → P subject → AllByRecursion P ts →
    AllByRecursion P (input_at environment subject role ++ ts)
has_place P In environment subject ts h k all = (h, all)
has_place P Sub environment subject ts h k all = (k, all)
has_place P Out environment subject ts h k all = all

main_goals_have : (P : Tree → Type 0) (places : List Place) (environment subject : Tree) →
    P environment → P subject → AllByRecursion P (main_terms places environment subject)
main_goals_have P [] environment subject h k = tt
main_goals_have P (p ∷ ps) environment subject h k =
    has_place P p.role environment subject (main_terms ps environment subject) h k
    (main_goals_have P ps environment subject h k)

pub main_goals_have_lexemes : MainGoalsHaveLexemes
main_goals_have_lexemes literals places environment subject h k =
    main_goals_have (HasLexemes literals) places environment subject h k

all_shallow : (ts : List Tree) → AllByRecursion (λ t. depth_of t ≤ 1000) ts → AreShallow ts
all_shallow [] h = tt
all_shallow (t ∷ ts) h = (h.0, all_shallow ts h.1)

pub main_goals_are_shallow : MainGoalsAreShallow
main_goals_are_shallow places environment subject h k =
    all_shallow (main_terms places environment subject)
    (main_goals_have (λ t. depth_of t ≤ 1000) places environment subject h k)

pub parts_have_places : PartsHavePlaces
parts_have_places tokens names r path part at = go (place_at r path) refl
  where
    go : (o : Option ℕ) → place_at r path ≡ o → (place : ℕ) × (place_at r path ≡ Some place)
    go (Some place) e = (place, e)
    go None e = let gone : part_at (term_of tokens names r) path ≡ None =
        (leaves_together tokens names r path).0 e in
        let clash : Some part ≡ None = sym at ∙ gone in cc
