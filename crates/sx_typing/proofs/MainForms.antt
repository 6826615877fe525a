-- The main form of a dialect.
use Rattle.std.proofs.Common.{◌<◌, length}
use Rattle.std.proofs.lemmas.Option.{slice_get_within}
use Rattle.sx_typing.specs.Dialects.{DialectData, IsDialect}

-- there is such a form
pub main_form_within : (d : DialectData) → IsDialect d →
    d.language.main.form < length d.language.forms
main_form_within d is = slice_get_within d.language.forms d.language.main.form is.main.form
    is.main.is
