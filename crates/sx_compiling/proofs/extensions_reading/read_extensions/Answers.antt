use Rattle.std.proofs.Common.{List, map, sym, subst}
use Rattle.std.specs.List.{AllByRecursion}
use Rattle.sx_uses.specs.declared.extension_file.ExtensionFile.{ExtensionFile}
use Rattle.sx_uses.specs.ExtensionFile.{extension_of, extensions_of}
use Rattle.sx_compiling.specs.KeptFiles.{StandsInFile}
use Rattle.sx_compiling.proofs.KeptReads.{uses_stand}
use Rattle.sx_compiling.proofs.extensions_reading.read_extensions.Goals as goal

pub returns-in-Ok-keep_extensions-clause-kept : goal.returns-in-Ok-keep_extensions-clause-kept
returns-in-Ok-keep_extensions-clause-kept g c = λ files told.
    let given = c.args.given.now in
    let header = given.source.now.header in
    c.keep_extensions.ensures files (c.requires files told)
    (subst (λ (xs : List ExtensionFile). AllByRecursion (StandsInFile files) (map extension_of xs))
    (sym c.deref.ensures.value)
    (uses_stand given.file.now header.language header.uses.items files
    (extensions_of c.in-Ok.extensions) (c.in-Ok.ensures.step files told)))

pub returns-in-Err-keep_extensions-clause-kept : goal.returns-in-Err-keep_extensions-clause-kept
returns-in-Err-keep_extensions-clause-kept g c = λ files told.
    let given = c.args.given.now in
    let header = given.source.now.header in
    c.keep_extensions.ensures files (c.requires files told)
    (subst (λ (xs : List ExtensionFile). AllByRecursion (StandsInFile files) (map extension_of xs))
    (sym c.deref.ensures.value)
    (uses_stand given.file.now header.language header.uses.items files
    (extensions_of c.in-Ok.extensions) (c.in-Ok.ensures.step files told)))
