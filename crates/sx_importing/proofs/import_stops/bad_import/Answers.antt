use Rattle.sx_environment.specs.SeenFrom.{interfaces_of}
use Rattle.sx_importing.proofs.AnyFile.{of_file}
use Rattle.sx_importing.proofs.import_stops.bad_import.Goals as goal

pub returns-in-LanguageDiffers : goal.returns-in-LanguageDiffers
returns-in-LanguageDiffers c =
    of_file c.args.file.now (interfaces_of c.args.imports.now) c.args.error _
    c.other_language.result c.in-LanguageDiffers.is c.other_language.ensures

pub returns-in-Differs : goal.returns-in-Differs
returns-in-Differs c =
    of_file c.args.file.now (interfaces_of c.args.imports.now) c.args.error _
    c.other_digest.result c.in-Differs.is c.other_digest.ensures

pub returns-in-Token : goal.returns-in-Token
returns-in-Token c =
    of_file c.args.file.now (interfaces_of c.args.imports.now) c.args.error _
    c.uncut_row.result c.in-Token.is c.uncut_row.ensures

pub returns-in-Read : goal.returns-in-Read
returns-in-Read c =
    of_file c.args.file.now (interfaces_of c.args.imports.now) c.args.error _
    c.unread_row.result c.in-Read.is c.unread_row.ensures

pub returns-in-StatedDiffers : goal.returns-in-StatedDiffers
returns-in-StatedDiffers c =
    of_file c.args.file.now (interfaces_of c.args.imports.now) c.args.error _
    c.other_stated.result c.in-StatedDiffers.is c.other_stated.ensures
