use Rattle.sx_words.proofs.CommandLaws.{one_command}
use Rattle.sx_words.proofs.OneAnswer.{one_misfit, no_misfit}
use Rattle.sx_words.proofs.reading.one_command_is_due.Goals as goal

pub returns-clause-command : goal.returns-clause-command
returns-clause-command c = one_command

pub returns-clause-misfit : goal.returns-clause-misfit
returns-clause-misfit c = one_misfit

pub returns-clause-either : goal.returns-clause-either
returns-clause-either c = no_misfit
