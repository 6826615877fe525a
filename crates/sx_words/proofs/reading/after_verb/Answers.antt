use Rattle.std.proofs.Common.{◌≡◌, ℕ, ◌+◌, Result, sym, subst, arith}
use Rattle.sx_lines.specs.Reading.{GivesRead}
use Rattle.sx_words.specs.Commands.{Meant}
use Rattle.sx_words.specs.View.{command_view, given_view, settings_view, RefusesWords}
use Rattle.sx_words.proofs.TurnLaws.{is_last, is_misfit, is_one_more, is_missing}
use Rattle.sx_words.proofs.reading.after_verb.Goals as goal

pub returns-then-not-is_option : goal.returns-then-not-is_option
returns-then-not-is_option c =
    let last = is_last c.args.verb (c.loop-at.at + 2) (settings_view c.loop-at.said) c.args.words.now c.loop-at.at _ c.loop-at.invariant.1 c.index-words-at.result (omega arith) c.index-words-at.is (sym (rw c.bytes.ensures.value at c.if-not-is_option.ensures)) in
    subst (λ (x : Result Meant ℕ). GivesRead command_view RefusesWords c.last_word.result x) last (rw c.split_at.ensures.back at c.last_word.ensures)

pub returns-in-None : goal.returns-in-None
returns-in-None c =
    let none = rw c.bytes-in-loop-at.ensures.value at c.in-None.ensures.value in
    is_misfit c.args.verb (c.loop-at.at + 2) (settings_view c.loop-at.said) c.args.words.now c.loop-at.at _ c.loop-at.invariant.1 c.index-words-at.result (omega arith) c.index-words-at.is (sym (rw c.bytes.ensures.value at c.if-not-is_option.ensures)) (sym none)

pub loop-at-preserved : goal.loop-at-preserved
loop-at-preserved c =
    let some = rw c.bytes-in-loop-at.ensures.value at c.in-Some.ensures.value in
    let more = is_one_more c.args.verb (c.loop-at.at + 2) (settings_view c.loop-at.said) c.args.words.now c.loop-at.at _ c.loop-at.invariant.1 c.index-words-at.result (omega arith) c.index-words-at.is (given_view c.in-Some.option) (sym (rw c.bytes.ensures.value at c.if-not-is_option.ensures)) (sym some) in
    let place : c.loop-at.at + 1 + 2 ≡ c.loop-at.at + 2 + 1 = omega arith in
    (omega arith, rw (place, c.in-Ok.ensures.said) more, c.in-Ok.ensures.kinds)

pub returns : goal.returns
returns c = is_missing c.args.verb (c.loop-at.at + 2) (settings_view c.loop-at.said) c.args.words.now c.loop-at.at _ c.loop-at.invariant.1 (omega arith)
