use Rattle.std.proofs.Common.{map}
use Rattle.sx_term.specs.Term.{tree}
use Rattle.sx_core.specs.Statements.{known_in}
use Rattle.sx_core.proofs.StatementLaws.{judgement_is, judgement_not, judgement_no_form}
use Rattle.sx_core.proofs.statements.read_judgement.Goals as goal

pub returns-in-Ok-read_terms : goal.returns-in-Ok-read_terms
returns-in-Ok-read_terms c =
    judgement_is (known_in c.args.table.now) c.args.text.now c.in-Ok.form c.in-Ok.rest.now (map tree c.in-Ok-read_terms.places.items) c.in-Ok.ensures (rw c.places_in.ensures at c.in-Ok-read_terms.ensures)

pub returns-in-Err-read_terms : goal.returns-in-Err-read_terms
returns-in-Err-read_terms c =
    judgement_not (known_in c.args.table.now) c.requires.distinct c.args.text.now c.in-Ok.form c.in-Ok.rest.now c.in-Err-read_terms.e c.in-Ok.ensures (rw c.places_in.ensures at c.in-Err-read_terms.ensures)

pub returns-in-Err : goal.returns-in-Err
returns-in-Err c = judgement_no_form (known_in c.args.table.now) c.args.text.now c.in-Err.e c.in-Err.ensures
