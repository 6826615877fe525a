-- The grammars, sorts and terms of printed parts.
use Rattle.std.proofs.Common.{◌<◌, [], length, subst}
use Rattle.std.proofs.lemmas.Option.{slice_get_within}
use Rattle.sx_term.specs.declared.role.Role.TheVariants.{Sub, Out}
use Rattle.sx_term.specs.Tree.{Tree}
use Rattle.sx_grammar.specs.Grammar.{of_sort}
use Rattle.sx_grammar.specs.Parts.{Parts, numbered}
use Rattle.sx_grammar.specs.Print.{Fits}
use Rattle.sx_grammar.specs.Tables.{literals_of}
use Rattle.sx_grammar.specs.Told.{shapes_of}
use Rattle.sx_earley.specs.Completed.{IsSort, sort_number}
use Rattle.sx_words.specs.declared.print_defect.PrintedPart.{PrintedPart}
use Rattle.sx_words.specs.declared.print_defect.PrintedPart.TheVariants.{Body, Signature, Stated}
use Rattle.sx_typing.specs.Dialects.{DialectData, IsDialect}
use Rattle.sx_typing.specs.BodySource.{main_sort, IsGoodTerm}
use Rattle.sx_typing.proofs.MainSorts.{subject_is_sort, signature_is_sort}
use Rattle.sx_unit.specs.Captured.{IsFree}
use Rattle.sx_unit.specs.PrintedParts.{PrintedData, part_grammar_of, part_sort_of}
use Rattle.sx_unit.specs.Written.{ArePrintable}
use Rattle.sx_unit.proofs.Capturing.{free_lexemes}
use Rattle.sx_unit.proofs.Shown.{sorted_fit}

module _ (d : DialectData) (is : IsDialect d) where
  -- the main form is one of the forms
  pub main_within : d.language.main.form < length d.language.forms
  main_within = slice_get_within d.language.forms d.language.main.form is.main.form is.main.is

  -- the sort as which a part is printed is one of its grammar
  pub part_is_sort : (part : PrintedPart) → IsSort (part_grammar_of d part) (part_sort_of d part)
  part_is_sort Body = subst (λ (p : Parts). IsSort p (main_sort d.language Sub)) is.goes_on
      (subject_is_sort d is)
  part_is_sort Signature = subst (λ (p : Parts). IsSort p (main_sort d.language Out)) is.goes_on
      (signature_is_sort d is)
  part_is_sort Stated = signature_is_sort d is

  -- a good term fits there
  pub part_fits : (part : PrintedPart) (t : Tree) → IsGoodTerm (literals_of (part_grammar_of d part))
      (shapes_of (part_grammar_of d part)) (part_sort_of d part) t →
      Fits (numbered (part_grammar_of d part)) [] (of_sort (sort_number (part_sort_of d part))) t
  part_fits part t good = sorted_fit (part_grammar_of d part) t (part_sort_of d part) (part_is_sort part)
      good.sorted

  -- so does the stated signature
  pub stated_fits : (t : PrintedData) → ArePrintable d t → Fits (numbered d.parts) []
      (of_sort (sort_number (part_sort_of d Stated))) t.stated
  stated_fits t terms = sorted_fit d.parts t.stated (part_sort_of d Stated) (part_is_sort Stated)
      terms.stated.sorted

-- with free names it is good
pub stated_good : (d : DialectData) (t : PrintedData) → ArePrintable d t →
    IsFree (literals_of d.parts) t.stated →
    IsGoodTerm (literals_of d.parts) (shapes_of d.parts) (part_sort_of d Stated) t.stated
stated_good d t terms free = record {
  sorted = terms.stated.sorted;
  depth = terms.stated.depth;
  lexemes = free_lexemes (literals_of d.language.parts) (literals_of d.parts) t.stated
      terms.stated.lexemes free;
}
