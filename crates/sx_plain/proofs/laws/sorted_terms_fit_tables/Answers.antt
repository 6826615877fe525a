use Rattle.sx_plain.proofs.laws.sorted_terms_fit_tables.Goals as goal
use Rattle.sx_plain.proofs.Tables.{sorted_terms_fit_tables}

pub returns : goal.returns
returns c = sorted_terms_fit_tables
