use Rattle.std.proofs.Common.{List, map, sym, ◌∙◌, subst}
use Rattle.sx_arena.specs.Places.{selected}
use Rattle.sx_term.specs.Term.{tree}
use Rattle.sx_rules.specs.Deep.{AreShallow}
use Rattle.sx_arena.specs.Matching.{match_all, nothing_bound}
use Rattle.sx_arena.specs.Arena.{tree_at}
use Rattle.sx_arena.specs.Views.{rules_of, set_modes, rule_of}
use Rattle.sx_arena.proofs.Patterns.{ok_weaker}
use Rattle.sx_replay.specs.Reader.{reader_trees}
use Rattle.sx_replay.proofs.Readers.{shallow_rule, goes_grown, base_pairs, reader_pairs}
use Rattle.sx_replay.proofs.Tried.{bound_to, bound_later, rule_none, rule_stop, rule_done, rule_handed}
use Rattle.sx_replay.proofs.entry.try_rule.Goals as goal

pub fit_places-requires-clause-shallow : goal.fit_places-requires-clause-shallow
fit_places-requires-clause-shallow c =
    let r = shallow_rule _ _ _ c.requires.shallow c.requires.found in
    subst (λ (xs : List _). AreShallow (map tree xs)) (sym c.new-side.ensures.places) r.0

pub premises-requires-clause-shallow : goal.premises-requires-clause-shallow
premises-requires-clause-shallow c = shallow_rule _ _ _ c.requires.shallow c.requires.found

pub premises-requires-clause-reader : goal.premises-requires-clause-reader
premises-requires-clause-reader c =
    (bound_later (set_modes c.args.given.now.rules.now) (rules_of c.args.given.now.rules.now) c.args.given.now.pairs.now c.args.reader.now (rule_of c.args.rule.now) c.args.form c.args.terms.now c.requires.reader c.if-rule-form.false c.fit_places.new.binds c.in_ok-fit.ensures.grows).reader

pub hand_on-requires-clause-reader : goal.hand_on-requires-clause-reader
hand_on-requires-clause-reader c = c.in_ok-other-in-Some.ensures.grows.reader

pub hand_on-requires-clause-pairs : goal.hand_on-requires-clause-pairs
hand_on-requires-clause-pairs c =
    let s = c.args.reader.now in
    let b = bound_to (set_modes c.args.given.now.rules.now) (rules_of c.args.given.now.rules.now) c.args.given.now.pairs.now s (rule_of c.args.rule.now) c.args.form c.args.terms.now c.requires.reader c.if-rule-form.false c.fit_places.new.binds c.in_ok-fit.ensures.grows in
    let l = bound_later (set_modes c.args.given.now.rules.now) (rules_of c.args.given.now.rules.now) c.args.given.now.pairs.now s (rule_of c.args.rule.now) c.args.form c.args.terms.now c.requires.reader c.if-rule-form.false c.fit_places.new.binds c.in_ok-fit.ensures.grows in
    base_pairs (rules_of c.args.given.now.rules.now) b c.premises.new.reader (goes_grown (rules_of c.args.given.now.rules.now) b c.premises.new.reader l.reader c.in_ok-other-in-Some.ensures.grows) c.args.given.now.pairs.now c.requires.pairs

pub premises-requires-clause-pairs : goal.premises-requires-clause-pairs
premises-requires-clause-pairs c = reader_pairs c.args.reader.now c.args.given.now.pairs.now c.requires.pairs

pub hand_on-requires-clause-outputs : goal.hand_on-requires-clause-outputs
hand_on-requires-clause-outputs c =
    let f = rw c.in-Some.is at c.in_ok-fit.ensures.fit in
    let s = c.args.reader.now in
    (rule_done (set_modes c.args.given.now.rules.now) (rules_of c.args.given.now.rules.now) c.args.given.now.pairs.now s (rule_of c.args.rule.now) c.args.form c.args.terms.now c.requires.reader c.if-rule-form.false c.fit_places.new.binds c.in_ok-fit.ensures.grows
    (reader_pairs s c.args.given.now.pairs.now c.requires.pairs) c.premises.new.reader c.in-Some.env
    ((λ i. match_all (selected (sym c.new-side.ensures.outputs i) (sym c.new-side.ensures.roles i) (map tree (sym c.new-side.ensures.places i))) (map (tree_at (reader_trees s)) c.args.terms.now) nothing_bound) ∙ f.1)
    c.in_ok-other-in-Some.other c.in_ok-other-in-Some.ensures c.in-Done.outputs c.in-Done.is).0

pub returns-in-None : goal.returns-in-None
returns-in-None c =
    let s = c.args.reader.now in
    rule_none (set_modes c.args.given.now.rules.now) (rules_of c.args.given.now.rules.now) c.args.given.now.pairs.now s (rule_of c.args.rule.now) c.args.form c.args.terms.now c.requires.reader c.if-rule-form.false c.fit_places.new.binds c.in_ok-fit.ensures.grows
    ((λ i. match_all (selected (sym c.new-side.ensures.outputs i) (sym c.new-side.ensures.roles i) (map tree (sym c.new-side.ensures.places i))) (map (tree_at (reader_trees s)) c.args.terms.now) nothing_bound) ∙ (rw c.in-None.is at c.in_ok-fit.ensures.fit))

pub returns-in-Done : goal.returns-in-Done
returns-in-Done c =
    let f = rw c.in-Some.is at c.in_ok-fit.ensures.fit in
    let s = c.args.reader.now in
    ok_weaker _ _ (λ step h. rule_handed (set_modes c.args.given.now.rules.now) (rules_of c.args.given.now.rules.now) c.args.given.now.pairs.now s (rule_of c.args.rule.now) c.args.form c.args.terms.now c.requires.reader c.if-rule-form.false c.fit_places.new.binds c.in_ok-fit.ensures.grows
    (reader_pairs s c.args.given.now.pairs.now c.requires.pairs) c.premises.new.reader c.in-Some.env
    ((λ i. match_all (selected (sym c.new-side.ensures.outputs i) (sym c.new-side.ensures.roles i) (map tree (sym c.new-side.ensures.places i))) (map (tree_at (reader_trees s)) c.args.terms.now) nothing_bound) ∙ f.1)
    c.in_ok-other-in-Some.other c.in_ok-other-in-Some.ensures c.in-Done.outputs c.in-Done.is c.hand_on.new.reader step h) c.hand_on.result c.hand_on.ensures

pub returns-in_default : goal.returns-in_default
returns-in_default c =
    let f = rw c.in-Some.is at c.in_ok-fit.ensures.fit in
    let s = c.args.reader.now in
    rule_stop (set_modes c.args.given.now.rules.now) (rules_of c.args.given.now.rules.now) c.args.given.now.pairs.now s (rule_of c.args.rule.now) c.args.form c.args.terms.now c.requires.reader c.if-rule-form.false c.fit_places.new.binds c.in_ok-fit.ensures.grows
    (reader_pairs s c.args.given.now.pairs.now c.requires.pairs) c.premises.new.reader c.in-Some.env
    ((λ i. match_all (selected (sym c.new-side.ensures.outputs i) (sym c.new-side.ensures.roles i) (map tree (sym c.new-side.ensures.places i))) (map (tree_at (reader_trees s)) c.args.terms.now) nothing_bound) ∙ f.1)
    c.in_ok-other-in-Some.other c.in_ok-other-in-Some.ensures (λ o e. c.in_default.not-Done o e)
