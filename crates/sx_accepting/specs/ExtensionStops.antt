-- The stops of extension files that are refused.
use Rattle.std.specs.Prelude.{List, ℕ, ◌++◌, codes, Option, Some, None}
use Rattle.sx_words.specs.declared.position.Position.TheVariants as place
use Rattle.sx_words.specs.declared.text_defect.TextDefect.TheVariants as text_defect
use Rattle.sx_words.specs.declared.extension_defect.ExtensionDefect.{ExtensionDefect}
use Rattle.sx_words.specs.declared.extension_defect.ExtensionDefect.TheVariants as extension_defect
use Rattle.sx_words.specs.declared.refusal.Defect.{Defect}
use Rattle.sx_words.specs.declared.refusal.Defect.TheVariants as defect
use Rattle.sx_steps.specs.declared.stop.Stop.{Stop}
use Rattle.sx_steps.specs.Refusal.{about}
use Rattle.sx_steps.specs.Stops.{defect_at}
use Rattle.sx_extension.specs.declared.plain_defect.PlainDefect.{PlainDefect}
use Rattle.sx_extension.specs.declared.plain_defect.PlainDefect.TheVariants as plain_defect
use Rattle.sx_extension.specs.declared.extension_error.ExtensionError.{ExtensionError}
use Rattle.sx_extension.specs.declared.extension_error.ExtensionError.TheVariants as errors
use Rattle.sx_accepting.specs.LanguageStops.{language_stop}

-- ---- plain bodies

-- a defect of the plain body of the production with this label
abbrev pub of_plain : List ℕ → List ℕ → Defect → Stop
of_plain file label what = defect_at (place.Plain label) file what

-- the body does not use the part with this name
abbrev pub dropped_part : List ℕ → List ℕ → List ℕ → Stop
dropped_part file label name =
    of_plain file label (defect.Extension (extension_defect.Drops (codes "~" ++ name)))

-- the plain body is refused; where the production has two, no place is told
abbrev pub bad_plain : List ℕ → List ℕ → PlainDefect → Stop
bad_plain file label plain_defect.Twice =
    about file (defect.Extension (extension_defect.Twice label))
bad_plain file label (plain_defect.UsesLater used) =
    of_plain file label (defect.Extension (extension_defect.UsesLater used))
bad_plain file label (plain_defect.Drops name) = dropped_part file label name
bad_plain file label (plain_defect.TooDeep depth) =
    of_plain file label (defect.Text (text_defect.TooDeep depth))
bad_plain file label (plain_defect.TooBig size) =
    of_plain file label (defect.Text (text_defect.TooBig size))

-- the plain production with this label has no plain body
abbrev pub without_plain : List ℕ → List ℕ → Stop
without_plain file label =
    defect_at (place.Production label) file (defect.Extension extension_defect.NoPlain)

-- ---- rules

-- a defect of the rule with this name
abbrev pub extension_rule_stop : List ℕ → List ℕ → ExtensionDefect → Stop
extension_rule_stop file name what = defect_at (place.Rule name) file (defect.Extension what)

-- ---- whole files

-- the stop of an extension file's refusal; out of memory has none
abbrev pub extension_stop : List ℕ → ExtensionError → Option Stop
extension_stop file errors.Memory = None
extension_stop file (errors.Notation e) = language_stop file e
extension_stop file (errors.Plain label e) = Some (bad_plain file label e)
extension_stop file (errors.NoPlain label) = Some (without_plain file label)
extension_stop file (errors.NoBody rule) =
    Some (extension_rule_stop file rule extension_defect.NoBody)
extension_stop file (errors.BodySort rule) =
    Some (extension_rule_stop file rule extension_defect.BodySort)
extension_stop file (errors.BodyExtended rule) =
    Some (extension_rule_stop file rule extension_defect.BodyExtended)
