-- The row that a line is read as.
use Rattle.std.proofs.Common.{◌≡◌, ℕ, List, Option, Some, None, Ok, subst}
use Rattle.std.specs.Prelude.{MatchOption}
use Rattle.sx_directives.specs.Rows.{IsRow, IsRowRead}
use Rattle.sx_directives.specs.declared.file_kind.FileKind.{FileKind}
use Rattle.sx_directives.specs.declared.row.Row.{Row}
use Rattle.sx_outline.proofs.SameLaws.{has_word}

-- a row is spelled, or none
pub spelled_in : (kind : FileKind) (text : List ℕ) (o : Option Row) → IsRowRead kind text (Ok o) → MatchOption o ((row : Row) → IsRow kind text row → ⊥) (λ row. IsRow kind text row)
spelled_in kind text None h = λ row is. h (has_word kind text row is)
spelled_in kind text (Some row) h = h

-- what holds where there is none
pub where_none : {X : Type 0} (N : Type 0) (S : X → Type 0) (o : Option X) → o ≡ None → MatchOption o N S → N
where_none N S o e h = subst (λ x. MatchOption x N S) e h
