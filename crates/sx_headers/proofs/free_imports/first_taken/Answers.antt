use Rattle.std.proofs.Common.{ℕ, List, ap, ◌∙◌, subst}
use Rattle.std.specs.Prelude.{Contains, Some}
use Rattle.sx_grammar.specs.Tables.{literals_of}
use Rattle.sx_headers.proofs.TakenNames.{free_next, taken_here}
use Rattle.sx_headers.proofs.free_imports.first_taken.Goals as goal

pub returns-in-Some-clause-taken : goal.returns-in-Some-clause-taken
returns-in-Some-clause-taken c =
    taken_here (literals_of c.args.grammar.now.parts) c.args.names.now c.loop-i.i
    c.index-names-i.result
    c.loop-i-test.true c.index-names-i.is c.loop-i.invariant c.in-Some.field-0
    (c.in-Some.ensures ∙ ap Some c.bytes.ensures.value)

pub loop-i-preserved : goal.loop-i-preserved
loop-i-preserved c =
    let literals = literals_of c.args.grammar.now.parts in
    free_next literals c.args.names.now c.loop-i.i c.index-names-i.result c.loop-i-test.true
    c.index-names-i.is c.loop-i.invariant
    (subst (λ (name : List ℕ). ¬ (Contains literals name)) c.bytes.ensures.value c.in-None.ensures)
