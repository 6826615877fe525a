-- What a module is verified from: its language without extensions, by which its body is read.
use Rattle.std.specs.Prelude.{ℕ, List, [], Option, Some, None, Result, Ok, Err}
use Rattle.sx_term.specs.Tree.{Tree}
use Rattle.sx_token.specs.declared.token.Token.{Token}
use Rattle.sx_grammar.specs.Reading.{Reading}
use Rattle.sx_typing.specs.declared.module_error.ModuleError.{ModuleError}
use Rattle.sx_typing.specs.declared.module_error.ModuleError.TheVariants as module_error
use Rattle.sx_typing.specs.Goals.{IsBody}
use Rattle.sx_typing.specs.Growing.{unextended_dialect}
use Rattle.sx_typing.specs.Refused.{IsBadSource}
use Rattle.sx_typing.specs.BodySource.{BodySource}
use Rattle.sx_environment.specs.SeenFrom.{SeenFrom}
use Rattle.sx_steps.specs.declared.stop.Stop.{Stop}
use Rattle.sx_steps.specs.Lower.{Lower}
use Rattle.sx_accepting.specs.ReadLanguage.{Stated}
use Rattle.sx_headers.specs.ReadModule.{Module}
use Rattle.sx_headers.specs.TextStops.{uncut_text, unread_text}

-- ---- what the imports are seen from

-- what the imports are seen from: the language with this name, without extensions
abbrev pub seen_alone : List ℕ → Stated → SeenFrom
seen_alone name l = record {
  dialect = unextended_dialect l.language;
  language = record { name = name; digest = l.digest };
  uses = [];
}

-- ---- the body

-- the module in its language, with this environment
abbrev pub source_in : Stated → Module → (environment : Tree) → BodySource
source_in l m environment = record {
  dialect = unextended_dialect l.language;
  bytes = m.bytes;
  header = m.header;
  environment = environment;
}

-- the body of the source has only one reading, whose term is the subject, or it is refused
abbrev pub HasSubject : BodySource → Result Tree ModuleError → Type 0
HasSubject s (Ok subject) = (ts : List Token) × (r : Reading) × IsBody s ts r subject
HasSubject s (Err e) = IsBadSource s 0 e

-- the stop of a body that is not read; no goal is searched
abbrev pub body_stop : List ℕ → ModuleError → Option Stop
body_stop file (module_error.Token line column e) = uncut_text file line column e
body_stop file (module_error.Read line column u) = Some (unread_text file line column u)
body_stop file _ = None

-- the term of the body in the file
abbrev pub ReadsBody : List ℕ → BodySource → Result Tree Stop → Type 0
ReadsBody file s = Lower (body_stop file) (HasSubject s)
