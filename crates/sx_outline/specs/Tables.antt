-- The tables by which the names that a file declares are found.
use Rattle.std.specs.Prelude.{◌≡◌, ℕ, ◌<◌, ◌^◌, true, false, List, map, length}
use Rattle.std.specs.List.{position}
use Rattle.std.specs.Str.{bytes_eq}
use Rattle.std.specs.HashMap.{get_by_text}
use Rattle.sx_lines.specs.Lines.{Lines, over, line}
use Rattle.sx_lines.specs.Lines as lines
use Rattle.sx_grammar.specs.Parts.{labels}
use Rattle.sx_grammar.specs.Parts as grammar
use Rattle.sx_outline.specs.declared.declared_rows.DeclaredRows.{DeclaredRows}
use Rattle.sx_outline.specs.declared.places.Places.{Places}
use Rattle.sx_outline.specs.declared.tables.Tables.{Tables}
use Rattle.sx_directives.specs.declared.file_kind.FileKind.{FileKind}
use Rattle.sx_outline.specs.declared.due.Due.{Due}
use Rattle.sx_outline.specs.declared.due.Due.TheVariants as dues
use Rattle.sx_directives.specs.declared.row.Row.{Row}
use Rattle.sx_directives.specs.declared.row.Row.TheVariants.{Rule, Plain}
use Rattle.sx_outline.specs.Declarations.{Declared, declare, declared_form, declared_parts}
use Rattle.sx_outline.specs.Known.{Declares}
use Rattle.sx_outline.specs.Fitting.{declared_sort_names, stems, declared_form_names}

-- what rows declare
abbrev pub declared_in : DeclaredRows → Declared
declared_in r = record {
  sorts = r.sorts.items;
  productions = map grammar.line r.productions.items;
  vars = r.vars.items;
  forms = map declared_form r.forms.items;
  mains = r.mains.items;
  uses = r.uses.items;
}

-- each name is found at the first of its places
abbrev pub ArePlaces : List (List ℕ) → Places → Type 0
ArePlaces names places = (name : List ℕ) → get_by_text places.entries name
    ≡ position (λ other. bytes_eq other name) names

-- the names of sorts, labels, stems, names of forms and names that are used are found
pub record AreTables (d : Declared) (t : Tables) : Type 0 where
  pub sorts_found : ArePlaces (declared_sort_names d) t.sorts
  pub labels_found : ArePlaces (labels (declared_parts d)) t.labels
  pub stems_found : ArePlaces (stems d) t.stems
  pub forms_found : ArePlaces (declared_form_names d) t.forms
  pub uses_found : ArePlaces d.uses t.uses

-- the numbers of forms and productions are so small
pub record AreFew (d : Declared) : Type 0 where
  pub few_forms : length d.forms < 2 ^ 32
  pub few_productions : length d.productions < 2 ^ 32

-- where nothing is due nothing more is declared, and else the next lines declare the rest, the
-- first of them perhaps a body
abbrev pub EndsOrGoesOn : FileKind → Due → Declared → Lines → Declared → Type 0
EndsOrGoesOn kind dues.Nothing d more all = all ≡ d
EndsOrGoesOn kind dues.Body d more all = Declares kind true d more all
EndsOrGoesOn kind dues.Row d more all = Declares kind false d more all

-- what is due after a row in the first reading
abbrev pub due_after : Row → Due
due_after (Rule name) = dues.Nothing
due_after (Plain p) = dues.Body
due_after _ = dues.Row

-- so much is due after a row, and it is declared where it declares something
abbrev pub TakesRow : Declared → Row → Due → Declared → Type 0
TakesRow old row due new = (due ≡ due_after row) × (new ≡ declare old row)

-- after a line with this text so much is declared, and this is due
abbrev pub TakesLine : FileKind → Declared → List ℕ → Due → Declared → Type 0
TakesLine kind old text due new =
    (n : ℕ) (after : List ℕ) (more : Lines) (all : Declared) → EndsOrGoesOn kind due new more all →
    Declares kind false old (lines.line n text after more) all

-- the lines after the first
abbrev pub lines_after : Lines → Lines
lines_after (over n) = over n
lines_after (line n text after more) = more
