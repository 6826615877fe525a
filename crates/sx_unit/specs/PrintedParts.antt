-- The parts that are printed of a module.
use Rattle.sx_term.specs.declared.role.Role.TheVariants.{Sub, Out}
use Rattle.sx_term.specs.declared.sort.Sort.{Sort}
use Rattle.sx_term.specs.Term.{tree}
use Rattle.sx_term.specs.Tree.{Tree}
use Rattle.sx_grammar.specs.Parts.{Parts}
use Rattle.sx_words.specs.declared.print_defect.PrintedPart.{PrintedPart}
use Rattle.sx_words.specs.declared.print_defect.PrintedPart.TheVariants.{Body, Signature, Stated}
use Rattle.sx_typing.specs.Dialects.{DialectData}
use Rattle.sx_typing.specs.BodySource.{main_sort}
use Rattle.sx_unit.specs.declared.printed_terms.PrintedTerms.{PrintedTerms}

-- the terms that are printed: the subject, the signature, and the signature as it is stated
pub record PrintedData : Type 0 where
  pub subject : Tree
  pub signature : Tree
  pub stated : Tree

-- their view
abbrev pub printed_of : PrintedTerms → PrintedData
printed_of t =
    record {
      subject = tree t.subject.now;
      signature = tree t.signature.now;
      stated = tree t.stated.now;
    }

-- the term of a part
abbrev pub part_term : PrintedData → PrintedPart → Tree
part_term t Body = t.subject
part_term t Signature = t.signature
part_term t Stated = t.stated

-- the grammar by which it is printed: the language's, and for the stated signature the dialect's
abbrev pub part_grammar_of : DialectData → PrintedPart → Parts
part_grammar_of d Body = d.language.parts
part_grammar_of d Signature = d.language.parts
part_grammar_of d Stated = d.parts

-- the sort as which it is printed
abbrev pub part_sort_of : DialectData → PrintedPart → Sort
part_sort_of d Body = main_sort d.language Sub
part_sort_of d Signature = main_sort d.language Out
part_sort_of d Stated = main_sort d.language Out
