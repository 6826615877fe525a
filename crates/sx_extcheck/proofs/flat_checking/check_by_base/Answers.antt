use Rattle.std.proofs.Common.{sym, ◌∙◌, subst, ap}
use Rattle.std.specs.Prelude.{Ok, option_map}
use Rattle.sx_rules.specs.declared.rule_set.RuleSet.{RuleSet}
use Rattle.sx_rules.specs.ProofView.{proof}
use Rattle.sx_term.specs.Term.{tree}
use Rattle.sx_plain.specs.Views.{table_of}
use Rattle.sx_extcheck.specs.CheckView.{check_of}
use Rattle.sx_extcheck.specs.Searches.{Search, search_of, IsShallowSearch, IsCheckSearched}
use Rattle.sx_extcheck.proofs.ByRules.{base-search}
use Rattle.sx_extcheck.proofs.Checked.{base-checked, image-shallow, same-limits}
use Rattle.sx_extcheck.proofs.Ready.{given-are-few, search-shallow, body-ready}
use Rattle.sx_extcheck.proofs.flat_checking.check_by_base.Goals as goal

pub find-requires-clause-few : goal.find-requires-clause-few
find-requires-clause-few g c = given-are-few c.args.checking.now c.args.ext.now c.requires.flat.can c.args.given.now c.requires.flat.premises

pub find-requires-clause-shallow : goal.find-requires-clause-shallow
find-requires-clause-shallow g c =
    subst (λ (s : Search). IsShallowSearch s) (sym (ap (λ (r : RuleSet). search_of r c.args.given.now c.args.goal.now) c.base_rules-rules.ensures ∙ base-search c.args.checking.now c.args.ext.now c.args.given.now c.args.goal.now c.requires.flat c.requires.base))
    (search-shallow c.args.checking.now c.args.ext.now c.requires.flat.can c.requires.flat.within)

pub with_image-requires : goal.with_image-requires
with_image-requires g c = body-ready c.args.checking.now c.args.ext.now c.requires.flat.can c.requires.flat.within

pub returns-in_ok-with_image-in-Ok-clause-answer : goal.returns-in_ok-with_image-in-Ok-clause-answer
returns-in_ok-with_image-in-Ok-clause-answer g c =
    let h = subst (λ (s : Search). IsCheckSearched s c.args.checking.now.budgets.tries (Ok c.in-Ok.proof))
    (ap (λ (r : RuleSet). search_of r c.args.given.now c.args.goal.now) c.base_rules-rules.ensures ∙ base-search c.args.checking.now c.args.ext.now c.args.given.now c.args.goal.now c.requires.flat c.requires.base)
    c.in-Ok.ensures.answer in
    let body = c.in_ok-with_image-in-Ok.ensures.0 in
    let same = c.in_ok-with_image-in-Ok.ensures.1 in
    let limits = same-limits (proof c.in-Ok.proof.value) (proof c.in_ok-with_image-in-Ok.field-0.proof.value) same h.1 h.2 in (
      base-checked (check_of c.args.checking.now) c.args.ext.now c.requires.flat.within c.requires.base (proof c.in-Ok.proof.value) h.0 c.in_ok-with_image-in-Ok.field-0 body same,
      (
        image-shallow (table_of c.args.checking.now.plain.now) (option_map tree c.args.ext.now.body) c.in_ok-with_image-in-Ok.field-0.subject
            (body-ready c.args.checking.now c.args.ext.now c.requires.flat.can c.requires.flat.within) body,
        limits.0,
        limits.1,
      ),
    )
