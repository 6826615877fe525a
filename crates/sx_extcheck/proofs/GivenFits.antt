-- The flat premises as hypotheses that are read, and the form of the flat conclusion.
use Rattle.std.proofs.Common.{◌≡◌, arith, ℕ, List, [], ◌∷◌, map, length, Option, Some, None, refl, ap, subst}
use Rattle.std.specs.Prelude.{option_map}
use Rattle.std.specs.List.{AllByRecursion}
use Rattle.std.proofs.lemmas.List.{length-map}
use Rattle.sx_term.specs.declared.sort.Sort.{Sort}
use Rattle.sx_term.specs.Sorts.{Shape, HaveSorts}
use Rattle.sx_term.specs.Term.{tree}
use Rattle.sx_term.specs.Tree.{Tree}
use Rattle.sx_rules.specs.declared.rule.Place.{Place}
use Rattle.sx_rules.specs.Modes.{outputs}
use Rattle.sx_rules.specs.Rules.{Premise, holds, apart, Hypotheses}
use Rattle.sx_rules.specs.Sets.{shapes_in, forms_in}
use Rattle.sx_rules.specs.Sorts.{PremisesAreSorted}
use Rattle.sx_rules.specs.Views.{FormData, judgement, premise, places_at, sorts_of, subjects_in}
use Rattle.sx_rules.specs.Views.{is_sub}
use Rattle.sx_plain.specs.Plain.{Table, image}
use Rattle.sx_plain.specs.Views.{table_of}
use Rattle.sx_rewrite.specs.declared.ext_rule.ExtRule.{ExtRule as ExtRuleOf}
use Rattle.sx_rewrite.specs.AcceptedView.{accepted, signature}
use Rattle.sx_rewrite.specs.Extensions.{BodyFits}
use Rattle.sx_rewrite.specs.ExtensionView.{ext_rule}
use Rattle.sx_rewrite.specs.PlainRules.{image_premise}
use Rattle.sx_rewrite.specs.Puts.{IsSmallTerm}
use Rattle.sx_rewrite.proofs.Checks.{flat_premises_are_base}
use Rattle.sx_expand.specs.Expansions.{HasOneSubject}
use Rattle.sx_expand.specs.Readings.{AllSmall, IsGivenJudgement, AreGiven}
use Rattle.sx_expand.proofs.RootTerms.{outputs-many}
use Rattle.sx_extcheck.specs.declared.checking.Checking.{Checking}
use Rattle.sx_extcheck.specs.Checks.{search_for, over_for}
use Rattle.sx_extcheck.specs.CheckView.{check_of, CanCheck}
use Rattle.sx_extcheck.specs.FlatTerms.{premise_terms}
use Rattle.sx_extcheck.specs.Hypotheses.{plain_given}
use Rattle.sx_extcheck.proofs.Given.{plain-is-flat}
use Rattle.sx_extcheck.proofs.Measurable.{small-split, small-premises}

all-small : (ts : List Tree) → AllByRecursion IsSmallTerm ts → AllSmall ts
all-small [] h = tt
all-small (t ∷ ts) h = (h.0, all-small ts h.1)

sorts-many : (shapes : List Shape) (vars : List Sort) (ts : List Tree) (sorts : List Sort) → HaveSorts shapes vars ts sorts → length ts ≡ length sorts
sorts-many shapes vars [] [] h = refl
sorts-many shapes vars [] (s ∷ sorts) h = absurd h
sorts-many shapes vars (t ∷ ts) [] h = absurd h
sorts-many shapes vars (t ∷ ts) (s ∷ sorts) h = let e = sorts-many shapes vars ts sorts h.1 in omega (arith, e)

-- the plain premises have a small term for each place of their forms
premises-given : (forms : List FormData) (all : List Shape) (vars : List Sort) (table : Table) (ps : List Premise) → PremisesAreSorted all (sorts_of forms) vars ps → AllByRecursion IsSmallTerm (premise_terms (map (image_premise table) ps)) →
    AllByRecursion (IsGivenJudgement forms) (plain_given table ps).judgements
premises-given forms all vars table [] h s = tt
premises-given forms all vars table (holds j ∷ ps) h s =
    let k = small-split (map (image table) j.places) (premise_terms (map (image_premise table) ps)) s in
    let a = length-map j.places (image table) in
    let b = sorts-many all vars j.places (sorts_of forms j.form) h.0 in
    let c = length-map (places_at forms j.form) (λ p. p.sort) in
    (record { many = omega (arith, a, b, c); small = all-small (map (image table) j.places) k.0 }, premises-given forms all vars table ps h.1 k.1)
premises-given forms all vars table (apart t u ∷ ps) h s = premises-given forms all vars table ps h.1 s.1.1

-- a form whose conclusion's body fits has at most one subject
module _ (forms : List FormData) (form : ℕ) where
  abbrev places : List Place
  places = places_at forms form

  as-many : {X : Type 0} (xs : List X) → length xs ≡ length places → length (outputs (subjects_in forms form) xs) ≡ length (outputs (subjects_in forms form) places)
  as-many xs e =
      let m = length-map places (λ (p : Place). is_sub p.role) in
      outputs-many (subjects_in forms form) xs places (omega (arith, e, m)) (omega (arith, m))

  none-one : (ts : List Tree) → length ts ≡ length places → outputs (subjects_in forms form) ts ≡ [] → HasOneSubject forms form
  none-one ts e none =
      let a = as-many ts e in
      let b = ap length none in omega (arith, a, b)

  some-one : (all : List Shape) (vars : List Sort) (t : Tree) → HaveSorts all vars (t ∷ []) (outputs (subjects_in forms form) (sorts_of forms form)) → HasOneSubject forms form
  some-one all vars t h =
      let a = as-many (sorts_of forms form) (length-map places (λ (p : Place). p.sort)) in
      let b = sorts-many all vars (t ∷ []) (outputs (subjects_in forms form) (sorts_of forms form)) h in omega (arith, a, b)

module _ (k : Checking) (e : ExtRuleOf) (can : CanCheck k.set.now k.plain.now e) where
  abbrev forms : List FormData
  forms = forms_in k.set.now.base

  abbrev table : Table
  table = table_of k.plain.now

  pub one-subject-at : HasOneSubject forms e.rule.conclusion.form
  one-subject-at = go (option_map tree e.body) can.after.body
    where
      many : length (judgement e.rule.conclusion).places ≡ length (places_at forms e.rule.conclusion.form)
      many =
          let a = sorts-many can.all e.rule.vars.items (judgement e.rule.conclusion).places (sorts_of forms e.rule.conclusion.form) can.after.sorted.0 in
          let b = length-map (places_at forms e.rule.conclusion.form) (λ (p : Place). p.sort) in omega (arith, a, b)

      go : (body : Option Tree) → BodyFits (signature k.set.now) can.all (length (shapes_in k.set.now.rules)) table (ext_rule e).rule body → HasOneSubject forms e.rule.conclusion.form
      go None f = none-one forms e.rule.conclusion.form (judgement e.rule.conclusion).places many f
      go (Some t) f = some-one forms e.rule.conclusion.form can.all e.rule.vars.items t f.0

  pub flat-given : over_for (check_of k) (ext_rule e) ≡ None → AreGiven k.set.now (search_for (check_of k) (ext_rule e)).hyps
  flat-given within =
      let sig = signature k.set.now in
      let ps = map premise e.rule.premises.items in
      let same = plain-is-flat table sig.subjects (judgement e.rule.conclusion) ps can.after.disciplined.bare in
      record {
        below = flat_premises_are_base sig (shapes_in k.set.now.base) (shapes_in k.set.now.rules) can.all (accepted k.set.now) table (ext_rule e) can.after;
        each =
            subst (λ (h : Hypotheses). AllByRecursion (IsGivenJudgement forms) h.judgements) same
            (premises-given forms can.all e.rule.vars.items table ps can.after.sorted.1 (small-premises table sig.subjects (ext_rule e) within));
      }
