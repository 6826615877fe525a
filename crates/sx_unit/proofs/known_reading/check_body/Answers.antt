use Rattle.std.proofs.Common.{[], ◌∷◌, ap, ◌∙◌, sym, subst}
use Rattle.sx_term.specs.Term.{tree}
use Rattle.sx_forest.specs.Readings.{plain_reading}
use Rattle.sx_interface.proofs.Lengths.{size_of}
use Rattle.sx_notation.proofs.TextReading.{err_if}
use Rattle.sx_words.specs.declared.print_defect.PrintedPart.TheVariants.{Body}
use Rattle.sx_unit.specs.Known.{token_line}
use Rattle.sx_unit.specs.Modules.{module_data}
use Rattle.sx_unit.specs.PartRefused.{IsPartRefusal}
use Rattle.sx_unit.proofs.KnownParts.{feed_blank, body_tokens, body_read}
use Rattle.sx_unit.proofs.known_reading.check_body.Goals as goal

pub returns-then-is_line_of-clause-good : goal.returns-then-is_line_of-clause-good
returns-then-is_line_of-clause-good c =
    let s = (module_data c.args.given.now).source in
    let body = c.args.body.now in
    record {
      short = c.in_ok-check_known.ensures.short;
      read = body_read s.dialect c.requires.can.dialect.is
          (c.adds_nothing.ensures c.if-adds_nothing.true) c.facts.ensures.grammar
          c.facts.ensures.brackets s.header.body body.tokens.items (plain_reading body.reading)
          (tree body.term) c.requires.body (tree c.args.term.now) c.requires.good c.args.shown.now
          c.requires.text
          (c.is_line_of.ensures c.if-is_line_of.true ∙ ap token_line c.deref.ensures.value)
          c.requires.utf8;
    }

pub returns-then-is_line_of-clause-tokens : goal.returns-then-is_line_of-clause-tokens
returns-then-is_line_of-clause-tokens c =
    let s = (module_data c.args.given.now).source in
    let body = c.args.body.now in
    size_of body.tokens c.len.result c.len.ensures
    ∙ body_tokens s.dialect c.requires.can.dialect.is
    (c.adds_nothing.ensures c.if-adds_nothing.true) c.facts.ensures.grammar
    c.facts.ensures.brackets s.header.body body.tokens.items (plain_reading body.reading)
    (tree body.term) c.requires.body (tree c.args.term.now) c.requires.good c.args.shown.now
    c.requires.text
    (c.is_line_of.ensures c.if-is_line_of.true ∙ ap token_line c.deref.ensures.value)
    c.requires.utf8

pub check_part-requires-clause-text : goal.check_part-requires-clause-text
check_part-requires-clause-text c = (10 ∷ [], feed_blank, c.requires.text)

pub returns-in_err-check_known-clause-refused : goal.returns-in_err-check_known-clause-refused
returns-in_err-check_known-clause-refused c =
    let d = (module_data c.args.given.now).source.dialect in
    let t = tree c.args.term.now in
    let P = IsPartRefusal d Body c.args.size c.args.shown.now t in
    err_if c.from_residual.result _ P c.from_residual.ensures.1
    (λ e is. subst P (sym is) (c.in_err-check_known.ensures.refused d c.args.shown.now t))
