use Rattle.std.proofs.Common.{Some, sym, ap, ◌∙◌, subst}
use Rattle.sx_term.specs.declared.lex_kind.LexKind.{LexKind}
use Rattle.sx_grammar.specs.Tables.{literals_of}
use Rattle.sx_interface.specs.FreeNames.{IsFirstIn}
use Rattle.sx_unit.specs.Captured.{lexeme_name}
use Rattle.sx_unit.proofs.Capturing.{one_first}
use Rattle.sx_unit.proofs.captured.captured_name.Goals as goal

pub returns-in-Some : goal.returns-in-Some
returns-in-Some c =
    let literals = literals_of c.args.grammar.now.parts in
    let text = c.args.text.now in
    subst (λ (kind : LexKind). IsFirstIn literals (lexeme_name kind text) text) (sym c.in-Id.is)
    (one_first literals c.in-Some.field-0 text (c.in-Some.ensures ∙ ap Some c.bytes.ensures.value))
