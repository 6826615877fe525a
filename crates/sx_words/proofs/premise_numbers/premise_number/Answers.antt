use Rattle.std.proofs.Common.{arith}
use Rattle.sx_words.proofs.premise_numbers.premise_number.Goals as goal

pub returns-in-Some : goal.returns-in-Some
returns-in-Some c = omega (arith, c.in-Some.ensures)

pub returns-in-None : goal.returns-in-None
returns-in-None c = omega (arith, c.in-None.ensures)
