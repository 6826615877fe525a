use Rattle.std.proofs.Common.{◌++◌, drop, sym, ap, ◌∙◌}
use Rattle.std.specs.Char.{encode_utf8}
use Rattle.std.proofs.lemmas.Str.{IsCharBoundary-start}
use Rattle.sx_term.specs.Cutting.{begins_word}
use Rattle.sx_term.proofs.RunLemmas.{no_begin_in_empty, no_begin_here, word_here}
use Rattle.sx_term.proofs.runs.word_len.Goals as goal

pub returns-in_default-clause-none : goal.returns-in_default-clause-none
returns-in_default-clause-none c = λ _. no_begin_in_empty begins_word c.args.text.now c.in_default.ensures.none

pub returns-then-not-begins_word-clause-none : goal.returns-then-not-begins_word-clause-none
returns-then-not-begins_word-clause-none c = λ _. no_begin_here begins_word c.args.text.now _ c.in-Some.first (sym c.if-not-begins_word.ensures) c.in-Some.ensures.some

pub returns-then-not-begins_word-clause-boundary : goal.returns-then-not-begins_word-clause-boundary
returns-then-not-begins_word-clause-boundary c = IsCharBoundary-start c.args.text.now c.utf8.text

pub returns-clause-word : goal.returns-clause-word
returns-clause-word c = λ _.
    let others_are = c.in-Some.ensures.some ∙ ap (λ t. encode_utf8 c.in-Some.first ++ t) (ap (λ k. drop k c.args.text.now) (sym c.len_utf8.ensures.value) ∙ sym c.split_at.ensures.back) in
    word_here c.args.text.now c.split_at.result.1.now c.in-Some.first c.len_utf8-2.result c.run_len.result (sym c.if-not-begins_word.ensures) others_are c.len_utf8-2.ensures.len c.run_len.ensures.run c.run_len.ensures.bound
