use Rattle.std.proofs.Common.{◌≡◌, true, false, refl, sym, ◌∙◌}
use Rattle.sx_arena.proofs.Patterns.{ok_weaker}
use Rattle.sx_replay.proofs.Tried.{given_form, given_other, given_handed}
use Rattle.sx_replay.proofs.entry.try_given.Goals as goal

pub returns-then-fact-form : goal.returns-then-fact-form
returns-then-fact-form c = λ j f.
    given_form _ _ _ c.args.reader.now j c.args.fact.now _ _ c.requires.reader f c.requires.terms c.if-fact-form.true

pub returns-then-not-same_numbers : goal.returns-then-not-same_numbers
returns-then-not-same_numbers c = λ j f.
    let n = c.if-not-same_numbers.ensures in
    given_other _ _ _ c.args.reader.now j c.args.fact.now _ _ c.requires.reader f c.requires.terms (λ e. let q : false ≡ true = n.1 (c.deref.ensures.value ∙ e) in cc)

pub returns : goal.returns
returns c =
    let n = c.if-not-same_numbers.ensures in
    ok_weaker _ _ (λ step h j f. given_handed _ _ c.args.given.now.pairs.now c.args.reader.now j c.args.fact.now _ _ c.requires.reader f c.requires.terms c.if-fact-form.false (sym c.deref.ensures.value ∙ n.0 refl)
    c.in_ok-outputs.outputs.items (c.in_ok-outputs.ensures ∙ c.deref-2.ensures.value) c.hand_on.new.reader step h) c.hand_on.result c.hand_on.ensures
