use Rattle.std.proofs.Common.{List, map, subst}
use Rattle.sx_grammar.specs.declared.production.Production.{Production}
use Rattle.sx_grammar.specs.declared.sort_line.SortLine.{SortLine}
use Rattle.sx_grammar.specs.Parts.{line}
use Rattle.sx_grammar.specs.Grammar.{Text}
use Rattle.sx_directives.specs.declared.rows.VarLine.{VarLine}
use Rattle.sx_directives.specs.declared.rows.FormLine.{FormLine}
use Rattle.sx_outline.specs.Declarations.{declared_form}
use Rattle.sx_outline.specs.Tables.{ArePlaces}
use Rattle.sx_outline.proofs.tables.Tables.put.Goals as goal

pub returns : goal.returns
returns c = record {
  sorts_found = subst (λ (l : List SortLine). ArePlaces (map (λ s. s.name) l) c.put_sorts.new.places) c.deref.ensures.value c.in_ok-put_sorts.ensures;
  labels_found = subst (λ (l : List Production). ArePlaces (map (λ p. p.label) (map line l)) c.put_labels.new.places) c.deref-2.ensures.value c.in_ok-put_labels.ensures;
  stems_found = subst (λ (l : List VarLine). ArePlaces (map (λ v. v.stem) l) c.put_stems.new.places) c.deref-3.ensures.value c.in_ok-put_stems.ensures;
  forms_found = subst (λ (l : List FormLine). ArePlaces (map (λ f. f.name) (map declared_form l)) c.put_forms.new.places) c.deref-4.ensures.value c.in_ok-put_forms.ensures;
  uses_found = subst (λ (l : List Text). ArePlaces l c.put_uses.new.places) c.deref-5.ensures.value c.in_ok-put_uses.ensures;
}
