use Rattle.sx_typing.proofs.Walks.{source_type_errors_are_final}
use Rattle.sx_typing.proofs.laws.source_type_errors_are_final.Goals as goal

pub returns : goal.returns
returns c = source_type_errors_are_final
