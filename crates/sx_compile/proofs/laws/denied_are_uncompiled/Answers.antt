use Rattle.sx_headers.specs.ModuleFiles.{module_file}
use Rattle.sx_compile.proofs.laws.denied_are_uncompiled.Goals as goal

pub returns : goal.returns
returns c = λ name budgets auditors old new lines it word names there.
    c.denied_are_unlisted.ensures (module_file name) it.found.language.language.rules auditors
    it.unit.list it.kept it.shown word names there
