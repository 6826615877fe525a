use Rattle.std.proofs.Common.{sym, ◌∙◌, subst}
use Rattle.sx_directives.specs.Rows.{HasBody}
use Rattle.sx_directives.specs.declared.keyword.Keyword.{Keyword}
use Rattle.sx_directives.proofs.reading.is_line_of.Goals as goal

pub returns-then-is_word_of : goal.returns-then-is_word_of
returns-then-is_word_of c =
    let body = λ (k : Keyword). HasBody k c.args.line.now in (
      λ has. (
        sym c.is_word_of.ensures ∙ c.if-is_word_of.true,
        subst body (sym c.in-To.is) (c.has_body.ensures.0 has),
      ),
      λ is. c.has_body.ensures.1 (subst body c.in-To.is is.1),
    )
