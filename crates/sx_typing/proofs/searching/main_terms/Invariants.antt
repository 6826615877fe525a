use Rattle.std.proofs.Common.{◌≡◌, map, take}
use Rattle.sx_term.specs.Term.{tree}
use Rattle.sx_typing.specs.MainGoals.{main_terms}
use Rattle.sx_typing.proofs.searching.main_terms.Given as goal

abbrev pub invariant-loop-i : goal.invariant-loop-i
invariant-loop-i l = map tree l.terms.items ≡ main_terms (take l.i l.places) (tree l.environment)
    (tree l.subject)
