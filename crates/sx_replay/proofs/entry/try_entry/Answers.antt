use Rattle.std.proofs.Common.{sym, ap, subst}
use Rattle.sx_arena.specs.Views.{rules_of, set_modes, rule_of}
use Rattle.sx_rules.specs.EntryView.{entry}
use Rattle.sx_rules.specs.Orders.{Entry}
use Rattle.sx_arena.proofs.Patterns.{ok_weaker}
use Rattle.sx_arena.proofs.Ruled.{rule_found}
use Rattle.sx_replay.specs.declared.step.Step.TheVariants.{Clash}
use Rattle.sx_replay.proofs.Readers.{reader_facts}
use Rattle.sx_replay.proofs.Tried.{IsEntered, fact_at, no_rule_at, given_entered, no_given_entered, rule_entered, no_rule_entered}
use Rattle.sx_replay.proofs.entry.try_entry.Goals as goal

pub returns-then-index-given : goal.returns-then-index-given
returns-then-index-given c = λ js a.
    let m = set_modes c.args.given.now.rules.now in
    let rs = rules_of c.args.given.now.rules.now in
    subst (λ (e : Entry). IsEntered m rs c.args.given.now.pairs.now c.args.reader.now c.args.reader.now c.args.form c.args.terms.now js c.args.given.now.facts.now (reader_facts m c.args.reader.now js c.args.given.now.facts.now a) c.args.reader.now Clash e) (ap entry (sym c.in-Given.is))
    (no_given_entered m rs c.args.given.now.pairs.now c.args.reader.now c.args.reader.now c.args.form c.args.terms.now js c.args.given.now.facts.now (reader_facts m c.args.reader.now js c.args.given.now.facts.now a) c.requires.reader c.in-Given.number c.if-index-given.true)

pub try_given-requires-clause-fact : goal.try_given-requires-clause-fact
try_given-requires-clause-fact c =
    let f = fact_at _ _ c.requires.facts.0 c.args.given.now.facts.now (reader_facts (set_modes c.args.given.now.rules.now) c.args.reader.now c.requires.facts.0 c.args.given.now.facts.now c.requires.facts.1) c.in-Given.number c.index-given-index.result c.if-index-given.false in
    (f.0, f.2)

pub try_rule-requires-clause-found : goal.try_rule-requires-clause-found
try_rule-requires-clause-found c = rule_found c.args.given.now.rules.now.rules.items c.in-Rule.number c.in-Some.rule.now c.in-Some.ensures

pub returns-else-index-given : goal.returns-else-index-given
returns-else-index-given c =
    ok_weaker _ _ (λ step h js a.
    let m = set_modes c.args.given.now.rules.now in
    let rs = rules_of c.args.given.now.rules.now in
    subst (λ (e : Entry). IsEntered m rs c.args.given.now.pairs.now c.args.reader.now c.try_given.new.reader c.args.form c.args.terms.now js c.args.given.now.facts.now (reader_facts m c.args.reader.now js c.args.given.now.facts.now a) c.try_given.new.reader step e) (ap entry (sym c.in-Given.is))
    (given_entered m rs c.args.given.now.pairs.now c.args.reader.now c.try_given.new.reader c.args.form c.args.terms.now js c.args.given.now.facts.now (reader_facts m c.args.reader.now js c.args.given.now.facts.now a) c.in-Given.number c.index-given-index.result step c.if-index-given.false h))
    c.try_given.result c.try_given.ensures

pub returns-in-Some : goal.returns-in-Some
returns-in-Some c =
    ok_weaker _ _ (λ step h js a.
    let m = set_modes c.args.given.now.rules.now in
    let rs = rules_of c.args.given.now.rules.now in
    subst (λ (e : Entry). IsEntered m rs c.args.given.now.pairs.now c.args.reader.now c.try_rule.new.reader c.args.form c.args.terms.now js c.args.given.now.facts.now (reader_facts m c.args.reader.now js c.args.given.now.facts.now a) c.try_rule.new.reader step e) (ap entry (sym c.in-Rule.is))
    (rule_entered m rs c.args.given.now.pairs.now c.args.reader.now c.try_rule.new.reader c.args.form c.args.terms.now js c.args.given.now.facts.now (reader_facts m c.args.reader.now js c.args.given.now.facts.now a) c.in-Rule.number (rule_of c.in-Some.rule.now) step (rule_found c.args.given.now.rules.now.rules.items c.in-Rule.number c.in-Some.rule.now c.in-Some.ensures) h))
    c.try_rule.result c.try_rule.ensures

pub returns-in-None : goal.returns-in-None
returns-in-None c = λ js a.
    let m = set_modes c.args.given.now.rules.now in
    let rs = rules_of c.args.given.now.rules.now in
    subst (λ (e : Entry). IsEntered m rs c.args.given.now.pairs.now c.args.reader.now c.args.reader.now c.args.form c.args.terms.now js c.args.given.now.facts.now (reader_facts m c.args.reader.now js c.args.given.now.facts.now a) c.args.reader.now Clash e) (ap entry (sym c.in-Rule.is))
    (no_rule_entered m rs c.args.given.now.pairs.now c.args.reader.now c.args.reader.now c.args.form c.args.terms.now js c.args.given.now.facts.now (reader_facts m c.args.reader.now js c.args.given.now.facts.now a) c.requires.reader c.in-Rule.number (no_rule_at _ c.in-Rule.number c.in-None.ensures))
