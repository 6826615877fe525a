use Rattle.std.proofs.Common.{map, refl, subst}
use Rattle.sx_rules.specs.Views as view
use Rattle.sx_outline.specs.Stages.{rule_data}
use Rattle.sx_language.specs.Prepared.{reader_in, IsRuleRefusal}
use Rattle.sx_language.proofs.Stating.{rules_refused, states, fits, shallow}
use Rattle.sx_language.proofs.language_reading.with_rules.Goals as goal

pub rule_set-requires : goal.rule_set-requires
rule_set-requires c =
    shallow (reader_in c.args.prepared) (map rule_data c.args.prepared.rules.items) c.args.read.names.items c.args.read.rules.items c.requires

pub returns-in-Err-clause-refused : goal.returns-in-Err-clause-refused
returns-in-Err-clause-refused c bytes prepared =
    let x = c.args.prepared in
    let read = c.args.read in
    let error = c.in-Err.error in
    rules_refused c.args.name bytes x prepared read.names.items (map view.named read.rules.items) c.requires error c.rule_error-refusal.result
    c.in-Err.ensures
    (subst (λ ns. IsRuleRefusal (map (λ l. l.name) x.rules.items) ns error c.rule_error-refusal.result) c.deref-in-Err.ensures.value
    (subst (λ ls. IsRuleRefusal (map (λ l. l.name) ls) c.deref-in-Err.result.now error c.rule_error-refusal.result) c.deref.ensures.value c.rule_error-refusal.ensures))

pub returns-clause-stated : goal.returns-clause-stated
returns-clause-stated c bytes prepared =
    states c.args.name bytes c.args.prepared prepared c.args.read.names.items (map view.named c.args.read.rules.items)
    c.requires c.in-Ok.rules c.in-Ok.ensures _ refl refl refl refl refl refl refl

pub returns-clause-fit : goal.returns-clause-fit
returns-clause-fit c bytes prepared =
    fits c.args.name bytes c.args.prepared prepared c.args.read.names.items (map view.named c.args.read.rules.items)
    c.requires c.in-Ok.rules c.in-Ok.ensures _ refl refl refl refl
