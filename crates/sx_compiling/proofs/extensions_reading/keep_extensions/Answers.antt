use Rattle.sx_uses.specs.ExtensionFile.{extension_of}
use Rattle.sx_compiling.specs.KeptFiles.{StandsInFile}
use Rattle.sx_compiling.proofs.Members.{holds_at}
use Rattle.sx_compiling.proofs.extensions_reading.keep_extensions.Goals as goal

pub loop-i-preserved : goal.loop-i-preserved
loop-i-preserved c = λ files are all.
    c.keep_extension.ensures files (c.loop-i.invariant files are all)
    (holds_at (StandsInFile files) extension_of c.args.extensions.now c.loop-i.i
    c.index-extensions-i.result c.loop-i-test.true c.index-extensions-i.is all)

pub returns-in_err-keep_extension : goal.returns-in_err-keep_extension
returns-in_err-keep_extension c = λ files are all.
    c.keep_extension.ensures files (c.loop-i.invariant files are all)
    (holds_at (StandsInFile files) extension_of c.args.extensions.now c.loop-i.i
    c.index-extensions-i.result c.loop-i-test.true c.index-extensions-i.is all)
