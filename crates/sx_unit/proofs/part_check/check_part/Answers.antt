use Rattle.std.proofs.Common.{[], sym, subst}
use Rattle.sx_term.specs.declared.sort.Sort.{Sort}
use Rattle.sx_term.specs.Term.{tree}
use Rattle.sx_grammar.specs.Grammar.{of_sort}
use Rattle.sx_grammar.specs.Parts.{Parts, numbered}
use Rattle.sx_grammar.specs.Print.{Fits}
use Rattle.sx_earley.specs.Completed.{IsSort, sort_number}
use Rattle.sx_typing.specs.Dialects.{dialect_of}
use Rattle.sx_unit.specs.PrintedParts.{part_grammar_of}
use Rattle.sx_unit.proofs.PartSorts.{main_within, part_is_sort, part_fits}
use Rattle.sx_unit.proofs.part_check.check_part.Goals as goal

pub part_sort-sort-requires : goal.part_sort-sort-requires
part_sort-sort-requires c = main_within (dialect_of c.args.dialect.now) c.requires.dialect.is

pub check_print-requires-clause-sort : goal.check_print-requires-clause-sort
check_print-requires-clause-sort c =
    let d = dialect_of c.args.dialect.now in
    subst (λ (p : Parts). IsSort p c.part_sort-sort.result) (sym c.part_grammar-grammar.ensures)
    (subst (IsSort (part_grammar_of d c.args.part)) (sym c.part_sort-sort.ensures)
    (part_is_sort d c.requires.dialect.is c.args.part))

pub check_print-requires-clause-fits : goal.check_print-requires-clause-fits
check_print-requires-clause-fits c =
    let d = dialect_of c.args.dialect.now in
    let t = tree c.args.term.now in
    subst (λ (p : Parts). Fits (numbered p) [] (of_sort (sort_number c.part_sort-sort.result)) t)
    (sym c.part_grammar-grammar.ensures)
    (subst (λ (sort : Sort). Fits (numbered (part_grammar_of d c.args.part)) [] (of_sort (sort_number sort))
    t) (sym c.part_sort-sort.ensures)
    (part_fits d c.requires.dialect.is c.args.part t c.requires.good))
