use Rattle.sx_notation.proofs.ReadLexemes.{reads_have_lexemes, reads_are_shallow}
use Rattle.sx_notation.proofs.laws.read_terms_are_usable.Goals as goal

pub returns-clause-lexemes : goal.returns-clause-lexemes
returns-clause-lexemes c = reads_have_lexemes

pub returns-clause-shallow : goal.returns-clause-shallow
returns-clause-shallow c = reads_are_shallow
