use Rattle.sx_plain.specs.Views.{table_of}
use Rattle.sx_expand.proofs.RootPlaces.{subject-stands}
use Rattle.sx_expand.proofs.root_places.place_number.Goals as goal

pub returns-in-Some : goal.returns-in-Some
returns-in-Some c = subject-stands (table_of c.args.table.now) c.args.reader.now c.args.subject c.args.role c.args.term c.in-Some.number c.requires.reader c.in-Sub.is c.in-Some.is c.requires.place
