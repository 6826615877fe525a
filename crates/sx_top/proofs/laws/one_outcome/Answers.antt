use Rattle.sx_core.proofs.OneAnswer.{one_answer}
use Rattle.sx_top.proofs.VerifyOnes.{core_outcome_by, one_outcome_by}
use Rattle.sx_top.proofs.laws.one_outcome.Goals as goal

pub returns-clause-core : goal.returns-clause-core
returns-clause-core c = core_outcome_by one_answer c.one_extension_header.ensures

pub returns-clause-whole : goal.returns-clause-whole
returns-clause-whole c =
    one_outcome_by one_answer c.one_extension_header.ensures c.builds_agree.ensures
    c.compiles_agree.ensures c.verifies_agree.ensures c.samples_agree.ensures
