use Rattle.std.proofs.Common.{◌≡◌, true, false, refl, sym, ◌∙◌}
use Rattle.sx_arena.proofs.Patterns.{ok_weaker}
use Rattle.sx_derive.proofs.Tried.{given_form, given_other, given_handed}
use Rattle.sx_derive.proofs.candidates.try_given.Goals as goal

pub returns-then-fact-task : goal.returns-then-fact-task
returns-then-fact-task c = λ j f.
    given_form _ _ _ c.args.store.now j c.args.fact.now _ _ _ c.args.task.now.frames c.requires.store f c.requires.terms c.if-fact-task.true

pub returns-then-not-same_numbers : goal.returns-then-not-same_numbers
returns-then-not-same_numbers c = λ j f.
    let n = c.if-not-same_numbers.ensures in
    given_other _ _ _ c.args.store.now j c.args.fact.now _ _ _ c.args.task.now.frames c.requires.store f c.requires.terms (λ e. let q : false ≡ true = n.1 (c.deref.ensures.value ∙ e ∙ sym c.deref-2.ensures.value) in cc)

pub returns : goal.returns
returns c =
    let n = c.if-not-same_numbers.ensures in
    ok_weaker _ _ (λ step h j f. given_handed _ _ c.args.given.now.pairs.now c.args.store.now j c.args.fact.now c.args.number _ _ c.args.task.now.frames c.requires.store f c.requires.terms c.if-fact-task.false (sym c.deref.ensures.value ∙ n.0 refl ∙ c.deref-2.ensures.value)
    c.in_ok-outputs.outputs.items (c.in_ok-outputs.ensures ∙ c.deref-3.ensures.value) c.hand_on.new.store step h) c.hand_on.result c.hand_on.ensures
