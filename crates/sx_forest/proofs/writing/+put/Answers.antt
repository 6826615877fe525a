use Rattle.std.proofs.Common.{rules, arith, length, ◌∙◌}
use Rattle.std.proofs.lemmas.Result.{on_ok_weaker}
use Rattle.sx_term.proofs.Cores.{Grows-trans, Grows-same}
use Rattle.sx_grammar.specs.Parts.{labels}
use Rattle.sx_forest.specs.declared.reading.Reading.TheViews.{the_lemmas}
use Rattle.sx_forest.specs.Text.{token_texts}
use Rattle.sx_forest.proofs.Kids.{readings_depth-kids}
use Rattle.sx_forest.proofs.Wording.{node_text, kids_within, within_step, text_step, other_depth, appended}
use Rattle.sx_forest.proofs.writing.+put.Goals as goal

pub put_kids-put_reading-requires-in-loop-kid : goal.put_kids-put_reading-requires-in-loop-kid
put_kids-put_reading-requires-in-loop-kid t c =
    let d = other_depth c.args.kids.now c.in-Some.others.now c.in-Some.first.now c.kid-item.result c.loop-kid.kid-index c.in-Some.ensures.cases.0 c.loop-kid-test.true c.kid-item.is in
    let w = within_step _ _ _ _ _ c.loop-kid-test.true c.kid-item.is c.loop-kid.invariant.within in
    (search (rules, the_lemmas), ((let h = c.requires.depth in omega (arith, d, h)), w.0))

pub put_kids-loop-kid-preserved : goal.put_kids-loop-kid-preserved
put_kids-loop-kid-preserved t c = record {
  so_far = text_step (labels c.args.grammar.now.parts) (token_texts c.args.tokens.now) _ _ _ _ _ _ c.loop-kid-test.true c.kid-item.is c.in_ok-push-in-Some-2.ensures.items c.in_ok-put_reading-in-Some-2.ensures.ok ∙ c.loop-kid.invariant.so_far;
  within = (within_step _ _ _ _ _ c.loop-kid-test.true c.kid-item.is c.loop-kid.invariant.within).1;
  appends = appended _ _ _ _ c.loop-kid.invariant.appends c.in_ok-push-in-Some-2.ensures.items c.in_ok-put_reading-in-Some-2.ensures.appends;
}

pub put_reading-put_kids-requires : goal.put_reading-put_kids-requires
put_reading-put_kids-requires t c =
    let d = readings_depth-kids _ _ _ _ _ _ c.in-Node.is c.deref.ensures.value in
    let w = kids_within (length c.args.grammar.now.parts.productions) (length c.args.tokens.now) _ _ _ _ _ _ c.in-Node.is c.deref.ensures.value c.requires.within in
    (search (rules, the_lemmas), ((let h = c.requires.depth in omega (arith, d, h)), w))

pub put_reading-returns-in_ok-put_label-in-Node-clause-ok : goal.put_reading-returns-in_ok-put_label-in-Node-clause-ok
put_reading-returns-in_ok-put_label-in-Node-clause-ok t c =
    on_ok_weaker c.put_kids.result
    (λ e. node_text (labels c.args.grammar.now.parts) (token_texts c.args.tokens.now) _ _ _ _ _ _ _ _ _ c.in-Node.is c.deref.ensures.value c.in_ok-put_label-in-Node.ensures.ok e)
    c.put_kids.ensures.ok

pub put_reading-returns-in_err-put_label-in-Node-clause-appends : goal.put_reading-returns-in_err-put_label-in-Node-clause-appends
put_reading-returns-in_err-put_label-in-Node-clause-appends t c = Grows-same _ _ c.in_err-put_label-in-Node.ensures.err

pub put_reading-returns-in_ok-put_label-in-Node-clause-appends : goal.put_reading-returns-in_ok-put_label-in-Node-clause-appends
put_reading-returns-in_ok-put_label-in-Node-clause-appends t c = Grows-trans _ _ _ (_, c.in_ok-put_label-in-Node.ensures.ok) c.put_kids.ensures.appends

pub put_reading-returns-in_err-put_reading-in-Bracket-clause-appends : goal.put_reading-returns-in_err-put_reading-in-Bracket-clause-appends
put_reading-returns-in_err-put_reading-in-Bracket-clause-appends t c = Grows-trans _ _ _ (_, c.in_ok-push-in-Bracket.ensures.items) c.put_reading.ensures.appends

pub put_reading-returns-in_err-push-in-Bracket-2-clause-appends : goal.put_reading-returns-in_err-push-in-Bracket-2-clause-appends
put_reading-returns-in_err-push-in-Bracket-2-clause-appends t c =
    Grows-trans _ _ _ (Grows-trans _ _ _ (_, c.in_ok-push-in-Bracket.ensures.items) c.put_reading.ensures.appends) (Grows-same _ _ c.in_err-push-in-Bracket-2.ensures.items)

pub put_reading-returns-in_ok-push-in-Bracket-2-clause-appends : goal.put_reading-returns-in_ok-push-in-Bracket-2-clause-appends
put_reading-returns-in_ok-push-in-Bracket-2-clause-appends t c =
    Grows-trans _ _ _ (Grows-trans _ _ _ (_, c.in_ok-push-in-Bracket.ensures.items) c.put_reading.ensures.appends) (_, c.in_ok-push-in-Bracket-2.ensures.items)

pub put_kids-returns-in_err-put_reading-in-Some-clause-appends : goal.put_kids-returns-in_err-put_reading-in-Some-clause-appends
put_kids-returns-in_err-put_reading-in-Some-clause-appends t c = Grows-trans _ _ _ (_, c.in_ok-push-in-Some.ensures.items) c.put_reading.ensures.appends

pub put_kids-returns-in_err-put_reading-in-Some-2-clause-appends : goal.put_kids-returns-in_err-put_reading-in-Some-2-clause-appends
put_kids-returns-in_err-put_reading-in-Some-2-clause-appends t c =
    Grows-trans _ _ _ (Grows-trans _ _ _ c.loop-kid.invariant.appends (_, c.in_ok-push-in-Some-2.ensures.items)) c.put_reading-in-loop-kid.ensures.appends
