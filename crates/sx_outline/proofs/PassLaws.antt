-- The first reading of a file.
use Rattle.std.proofs.Common.{◌≡◌, ℕ, true, false, List, refl, sym, subst, inl}
use Rattle.sx_lines.specs.Lines.{Lines, over, line}
use Rattle.sx_directives.specs.declared.file_kind.FileKind.{FileKind}
use Rattle.sx_directives.specs.Rows.{IsRow}
use Rattle.sx_directives.specs.declared.row.Row.{Row}
use Rattle.sx_directives.specs.declared.row.Row.TheVariants.{Rule, Plain}
use Rattle.sx_outline.specs.declared.due.Due.{Due}
use Rattle.sx_outline.specs.declared.due.Due.TheVariants as dues
use Rattle.sx_outline.specs.Declarations.{Declared, declare}
use Rattle.sx_outline.specs.Known.{Declares, RowGoesOn}
use Rattle.sx_outline.specs.Tables.{EndsOrGoesOn, TakesLine, due_after, lines_after}

-- So much is declared where these lines are left: what they declare is what all lines declare.
pub record Standing (kind : FileKind) (base : Declared) (all : Lines) (d : Declared) (rest : Lines) : Type 0 where
  pub declares : (whole : Declared) → Declares kind false d rest whole → Declares kind false base all whole

pub stand_begin : (kind : FileKind) (base : Declared) (all : Lines) → Standing kind base all base all
stand_begin kind base all = record { declares = λ whole h. h }

-- where the next line may declare something
pub stand_row : (kind : FileKind) (base : Declared) (all rest more : Lines) (n : ℕ) (text after : List ℕ) (old new : Declared) (due : Due) → Standing kind base all old rest
    → rest ≡ line n text after more → TakesLine kind old text due new → due ≡ dues.Row → Standing kind base all new more
stand_row kind base all rest more n text after old new due h e t f =
    record { declares = λ whole k. h.declares whole (subst (λ x. Declares kind false old x whole) (sym e) (t n after more whole (subst (λ x. EndsOrGoesOn kind x new more whole) (sym f) k))) }

skipped : (kind : FileKind) (d : Declared) (lines : Lines) (all : Declared) → Declares kind false d (lines_after lines) all → Declares kind true d lines all
skipped kind d (over n) all h = h
skipped kind d (line n text after more) all h = h

-- where the next line is a body
pub stand_body : (kind : FileKind) (base : Declared) (all rest more next : Lines) (n : ℕ) (text after : List ℕ) (old new : Declared) (due : Due) → Standing kind base all old rest
    → rest ≡ line n text after more → next ≡ lines_after more → TakesLine kind old text due new → due ≡ dues.Body → Standing kind base all new next
stand_body kind base all rest more next n text after old new due h e x t f = record {
  declares = λ whole k.
      h.declares whole (subst (λ y. Declares kind false old y whole) (sym e)
      (t n after more whole (subst (λ y. EndsOrGoesOn kind y new more whole) (sym f) (skipped kind new more whole (subst (λ y. Declares kind false new y whole) x k)))));
}

-- where a line ends the declarations
pub stand_ends : (kind : FileKind) (base : Declared) (all rest more : Lines) (n : ℕ) (text after : List ℕ) (old new : Declared) (due : Due) → Standing kind base all old rest
    → rest ≡ line n text after more → TakesLine kind old text due new → due ≡ dues.Nothing → Declares kind false base all new
stand_ends kind base all rest more n text after old new due h e t f =
    h.declares new (subst (λ x. Declares kind false old x new) (sym e) (t n after more new (subst (λ x. EndsOrGoesOn kind x new more new) (sym f) refl)))

-- where no line is left
pub stand_over : (kind : FileKind) (base : Declared) (all rest : Lines) (n : ℕ) (d : Declared) → Standing kind base all d rest → rest ≡ over n → Declares kind false base all d
stand_over kind base all rest n d h e = h.declares d (subst (λ x. Declares kind false d x d) (sym e) refl)

-- ---- one line

goes_of : (kind : FileKind) (old : Declared) (row : Row) (more : Lines) (all : Declared) → EndsOrGoesOn kind (due_after row) (declare old row) more all
    → RowGoesOn old row all (λ is_body next. Declares kind is_body next more all)
goes_of kind old (Rule name) more all h = h
goes_of kind old (Plain p) more all h = h
goes_of kind old _ more all h = h

-- a row takes its line
pub row_takes : (kind : FileKind) (old : Declared) (text : List ℕ) (row : Row) (due : Due) (new : Declared) → IsRow kind text row → due ≡ due_after row → new ≡ declare old row → TakesLine kind old text due new
row_takes kind old text row due new is e f = λ n after more all h.
    inl (row, is, goes_of kind old row more all (subst (λ x. EndsOrGoesOn kind x (declare old row) more all) e (subst (λ x. EndsOrGoesOn kind due x more all) f h)))
