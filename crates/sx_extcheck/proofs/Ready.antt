-- What a rule that can be checked meets on the way.
use Rattle.std.proofs.Common.{◌≡◌, arith, ◌^◌, ◌<◌, [], map, length, Option, Some, None, sym, ap, ◌∙◌, subst}
use Rattle.std.specs.Prelude.{option_map}
use Rattle.std.specs.List.{AllByRecursion}
use Rattle.std.proofs.lemmas.List.{length-map}
use Rattle.sx_term.specs.Term.{tree}
use Rattle.sx_term.specs.Tree.{Tree}
use Rattle.sx_rules.specs.Derivations.{ShallowJudgements}
use Rattle.sx_rules.specs.declared.rule.Hyps.{Hyps}
use Rattle.sx_rules.specs.Modes.{Modes, outputs}
use Rattle.sx_rules.specs.Rules.{Hypotheses, judgements_of}
use Rattle.sx_rules.specs.Sets.{shapes_in}
use Rattle.sx_rules.specs.Views.{goal as goal_view, hypotheses, judgement, premise, rule}
use Rattle.sx_arena.specs.Entered.{ArePairsShallow}
use Rattle.sx_plain.specs.Plain.{Table, image}
use Rattle.sx_plain.specs.Views.{table_of}
use Rattle.sx_rewrite.specs.declared.ext_rule.ExtRule.{ExtRule as ExtRuleOf}
use Rattle.sx_rewrite.specs.AcceptedView.{accepted, signature}
use Rattle.sx_rewrite.specs.Extensions.{BodyFits}
use Rattle.sx_rewrite.specs.ExtensionView.{ext_rule}
use Rattle.sx_rewrite.specs.Flat.{flat_places}
use Rattle.sx_rewrite.specs.PlainRules.{image_judgement, HasImage, PremiseHasImage}
use Rattle.sx_rewrite.specs.Puts.{IsSmallTerm}
use Rattle.sx_extcheck.specs.declared.checking.Checking.{Checking}
use Rattle.sx_extcheck.specs.declared.flat_goal.FlatGoal.{FlatGoal}
use Rattle.sx_extcheck.specs.Checks.{search_for, over_for}
use Rattle.sx_extcheck.specs.CheckView.{check_of, CanCheck, IsFlatRule}
use Rattle.sx_extcheck.specs.FlatTerms.{listed_term, RuleCanMeasure}
use Rattle.sx_extcheck.specs.Hypotheses.{plain_given}
use Rattle.sx_extcheck.specs.Searches.{Search, IsShallowSearch}
use Rattle.sx_extcheck.proofs.Given.{plain-is-flat, given-shallow, given-few}
use Rattle.sx_extcheck.proofs.Goal.{flat-small, small-inputs, small-outputs}
use Rattle.sx_extcheck.proofs.Measurable.{rule-can, rule-images, own-body-images, small-premises, small-places, small-body}

abbrev IsShallowGiven : Hypotheses → Type 0
IsShallowGiven h = ShallowJudgements h.judgements × ArePairsShallow h.pairs

module _ (k : Checking) (e : ExtRuleOf) (can : CanCheck k.set.now k.plain.now e) where
  abbrev table : Table
  table = table_of k.plain.now

  abbrev subjects : Modes
  subjects = (signature k.set.now).subjects

  abbrev search : Search
  search = search_for (check_of k) (ext_rule e)

  pub can-measure : RuleCanMeasure table (ext_rule e)
  can-measure = rule-can (signature k.set.now) (shapes_in k.set.now.base) (shapes_in k.set.now.rules) can.all (accepted k.set.now) table (ext_rule e) can.after can.shallow can.body

  plain-is : plain_given table (map premise e.rule.premises.items) ≡ search.hyps
  plain-is = plain-is-flat table subjects (judgement e.rule.conclusion) (map premise e.rule.premises.items) can.after.disciplined.bare

  module _ (within : over_for (check_of k) (ext_rule e) ≡ None) where
    pub premises-ready : AllByRecursion (PremiseHasImage table) (map premise e.rule.premises.items)
    premises-ready = (rule-images table subjects (ext_rule e) within can-measure).1

    pub places-ready : AllByRecursion (HasImage table) (judgement e.rule.conclusion).places
    places-ready = (rule-images table subjects (ext_rule e) within can-measure).0

    pub body-ready : AllByRecursion (HasImage table) (listed_term (option_map tree e.body))
    body-ready = own-body-images table subjects (ext_rule e) within can-measure

    pub flat-ready : (given : Hyps) (goal : FlatGoal) → hypotheses given ≡ plain_given table (map premise e.rule.premises.items) →
        goal_view goal.goal ≡ search.goal → map tree goal.wanted.items ≡ search.wanted → IsFlatRule k e given goal
    flat-ready given goal h g w = record { can = can; within = within; premises = h ∙ plain-is; conclusion = g; wanted = w }

    -- where there is no body there is no subject
    no-subject : (body : Option Tree) → BodyFits (signature k.set.now) can.all (length (shapes_in k.set.now.rules)) table (rule e.rule) body → option_map (image table) body ≡ None →
        outputs (subjects e.rule.conclusion.form) (judgement e.rule.conclusion).places ≡ []
    no-subject None f q = f
    no-subject (Some t) f q = cc

    small-goal : AllByRecursion IsSmallTerm (flat_places table (option_map (image table) (option_map tree e.body)) (subjects e.rule.conclusion.form) (judgement e.rule.conclusion).places)
    small-goal =
        flat-small table (option_map (image table) (option_map tree e.body)) (subjects e.rule.conclusion.form) (judgement e.rule.conclusion).places
        (small-places table subjects (ext_rule e) within) (small-body table subjects (ext_rule e) within) (no-subject (option_map tree e.body) can.after.body)

    pub search-shallow : IsShallowSearch search
    search-shallow =
        let g = given-shallow table (map premise e.rule.premises.items) (small-premises table subjects (ext_rule e) within) in
        let moved = subst (λ (h : Hypotheses). IsShallowGiven h) plain-is g in
        let places = flat_places table (option_map (image table) (option_map tree e.body)) (subjects e.rule.conclusion.form) (judgement e.rule.conclusion).places in
        let modes = (signature k.set.now).modes e.rule.conclusion.form in
        record { holds = moved.0; apart = moved.1; goal = small-inputs modes places small-goal; wanted = small-outputs modes places small-goal }

  pub given-are-few : (given : Hyps) → hypotheses given ≡ search.hyps → length given.holds.items < 2 ^ 32
  given-are-few given h =
      let same = ap (λ (x : Hypotheses). length x.judgements) (h ∙ sym plain-is) in
      let a = length-map given.holds.items judgement in
      let b = given-few (map premise e.rule.premises.items) in
      let c = length-map e.rule.premises.items premise in
      let d = length-map (judgements_of (map premise e.rule.premises.items)) (image_judgement table) in
      let f = can.few in
      omega (arith, same, a, b, c, d, f)
