use Rattle.sx_verify.proofs.TypeErrors.{verifies_without_type_errors}
use Rattle.sx_verify.proofs.laws.verifies_without_type_errors.Goals as goal

pub returns : goal.returns
returns c = verifies_without_type_errors
