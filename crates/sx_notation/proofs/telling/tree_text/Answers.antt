use Rattle.std.proofs.Common.{◌∙◌, ◌++◌, ap, sym, subst}
use Rattle.std.specs.Str.{IsUtf8}
use Rattle.sx_grammar.specs.Parts.{labels}
use Rattle.sx_forest.specs.Readings.{plain_reading}
use Rattle.sx_forest.specs.Text.{token_texts, tree_text}
use Rattle.sx_notation.proofs.TreeTexts.{tree_utf8, labels_utf8}
use Rattle.sx_notation.proofs.telling.tree_text.Goals as goal

pub of_utf8-requires : goal.of_utf8-requires
of_utf8-requires c =
    let p = c.args.grammar.now.parts in
    let written = tree_text (labels p) (token_texts c.args.tokens.now) (plain_reading c.args.reading.now) in
    subst IsUtf8 (sym (c.deref-2.ensures.value ∙ c.in_ok-write_tree.ensures.ok ∙ ap (λ x. x ++ written) c.new-bytes.ensures.items))
    (tree_utf8 (labels p) (token_texts c.args.tokens.now) (labels_utf8 p c.parts.result.now c.deref.result.now c.parts.ensures c.deref.ensures.value c.labels_are_texts.ensures) c.tokens_are_texts.ensures
    (plain_reading c.args.reading.now))
