use Rattle.std.proofs.Common.{◌≡◌, Vec, sym, ◌∙◌, ◌+◌, subst, ap}
use Rattle.std.specs.Prelude.{Err}
use Rattle.std.specs.declared.alloc.Global.{Global}
use Rattle.sx_rules.specs.declared.entry.Entry.{Entry as EntryOf}
use Rattle.sx_rules.specs.declared.rule_set.RuleSet.{RuleSet}
use Rattle.sx_rewrite.specs.declared.flat.Flat.{Flat}
use Rattle.sx_rewrite.specs.ExtensionView.{ext_rule}
use Rattle.sx_extcheck.specs.Checks.{search_for}
use Rattle.sx_extcheck.specs.CheckView.{check_of}
use Rattle.sx_extcheck.specs.Searches.{Search, search_of, tries_in, IsShallowSearch, FindsSome}
use Rattle.sx_extcheck.specs.Searches.{IsListSearched, AreSearchesCounted}
use Rattle.sx_extcheck.proofs.ByRules.{plain-search}
use Rattle.sx_extcheck.proofs.Checked.{ended-checked, counted-any, counted-as}
use Rattle.sx_extcheck.proofs.FoundRules.{found-rule}
use Rattle.sx_extcheck.proofs.Ready.{given-are-few, search-shallow}
use Rattle.sx_extcheck.proofs.flat_checking.check_by_plain.Goals as goal

pub find_list-requires-clause-few : goal.find_list-requires-clause-few
find_list-requires-clause-few g c = given-are-few c.args.checking.now c.args.ext.now c.requires.flat.can c.args.given.now c.requires.flat.premises

pub find_list-requires-clause-shallow : goal.find_list-requires-clause-shallow
find_list-requires-clause-shallow g c =
    subst (λ (s : Search). IsShallowSearch s) (sym (ap (λ (r : RuleSet). search_of r c.args.given.now c.args.goal.now) c.plain_rules-rules.ensures ∙ plain-search c.args.checking.now c.args.ext.now c.args.given.now c.args.goal.now c.requires.flat c.facts.ensures.plain.forms_are c.facts.ensures.plain_rules c.requires.plain))
    (search-shallow c.args.checking.now c.args.ext.now c.requires.flat.can c.requires.flat.within)

pub lower_found-stored-requires : goal.lower_found-stored-requires
lower_found-stored-requires g c =
    (c.args.ext.now, found-rule c.args.checking.now c.args.ext.now c.args.given.now c.args.goal.now c.requires.flat c.requires.plain c.plain_rules-rules.ensures c.in-Ok.list c.in-Ok.ensures.answer c.deref.ensures.value)

pub returns-in-Ok-clause-answer : goal.returns-in-Ok-clause-answer
returns-in-Ok-clause-answer g c =
    c.lower_found-stored.ensures c.args.ext.now
    (found-rule c.args.checking.now c.args.ext.now c.args.given.now c.args.goal.now c.requires.flat c.requires.plain c.plain_rules-rules.ensures c.in-Ok.list c.in-Ok.ensures.answer c.deref.ensures.value)

pub returns-in-Ok-clause-steps : goal.returns-in-Ok-clause-steps
returns-in-Ok-clause-steps g c =
    counted-any Flat (tries_in (search_for (check_of c.args.checking.now) (ext_rule c.args.ext.now)) c.args.checking.now.budgets.tries) c.args.steps.now c.find_list.new.steps c.lower_found-stored.result
    (subst (λ (s : Search). c.find_list.new.steps ≡ c.args.steps.now + tries_in s c.args.checking.now.budgets.tries) (ap (λ (r : RuleSet). search_of r c.args.given.now c.args.goal.now) c.plain_rules-rules.ensures ∙ plain-search c.args.checking.now c.args.ext.now c.args.given.now c.args.goal.now c.requires.flat c.facts.ensures.plain.forms_are c.facts.ensures.plain_rules c.requires.plain) c.in-Ok.ensures.steps)

pub returns-in-Err-clause-answer : goal.returns-in-Err-clause-answer
returns-in-Err-clause-answer g c =
    ended-checked (check_of c.args.checking.now) c.args.ext.now c.requires.flat.within (FindsSome (search_for (check_of c.args.checking.now) (ext_rule c.args.ext.now)) c.args.checking.now.budgets.tries) c.in-Err.e
    (subst (λ (s : Search). IsListSearched s c.args.checking.now.budgets.tries (Err c.in-Err.e)) (ap (λ (r : RuleSet). search_of r c.args.given.now c.args.goal.now) c.plain_rules-rules.ensures ∙ plain-search c.args.checking.now c.args.ext.now c.args.given.now c.args.goal.now c.requires.flat c.facts.ensures.plain.forms_are c.facts.ensures.plain_rules c.requires.plain) c.in-Err.ensures.answer)

pub returns-in-Err-clause-steps : goal.returns-in-Err-clause-steps
returns-in-Err-clause-steps g c =
    counted-as (Vec EntryOf Global) Flat (tries_in (search_for (check_of c.args.checking.now) (ext_rule c.args.ext.now)) c.args.checking.now.budgets.tries) c.args.steps.now c.find_list.new.steps c.in-Err.e
    (subst (λ (s : Search). AreSearchesCounted {X = Vec EntryOf Global} (tries_in s c.args.checking.now.budgets.tries) c.args.steps.now c.find_list.new.steps (Err c.in-Err.e)) (ap (λ (r : RuleSet). search_of r c.args.given.now c.args.goal.now) c.plain_rules-rules.ensures ∙ plain-search c.args.checking.now c.args.ext.now c.args.given.now c.args.goal.now c.requires.flat c.facts.ensures.plain.forms_are c.facts.ensures.plain_rules c.requires.plain) c.in-Err.ensures.steps)
