-- What a module is verified over, as its steps need it.
use Rattle.std.proofs.Common.{◌≡◌, ℕ, ◌<◌, List, [], ◌∷◌, map, length, sym, ap, ◌∙◌, subst}
use Rattle.std.specs.List.{AllByRecursion}
use Rattle.std.proofs.lemmas.Option.{slice_get_within}
use Rattle.sx_term.specs.declared.role.Role.{Role}
use Rattle.sx_term.specs.Tree.{Tree}
use Rattle.sx_grammar.specs.Grammar.{Text}
use Rattle.sx_grammar.specs.Tables.{literals_of}
use Rattle.sx_interface.specs.Headers.{HeaderParts}
use Rattle.sx_interface.specs.Interfaces.{InterfaceParts, MarkData}
use Rattle.sx_interface.specs.StatedHeader.{ArePlainNames}
use Rattle.sx_notation.specs.Language.{LanguageData, IsMain}
use Rattle.sx_typing.specs.Dialects.{DialectData}
use Rattle.sx_typing.specs.Growing.{unextended_dialect}
use Rattle.sx_typing.specs.BodySource.{BodySource, IsTermFor}
use Rattle.sx_interface.specs.FreeNames.{AreFree}
use Rattle.sx_environment.specs.SeenFrom.{SeenFrom, HasFreeName}
use Rattle.sx_accepting.specs.ReadLanguage.{Stated}
use Rattle.sx_headers.specs.ReadModule.{Module}
use Rattle.sx_verify.specs.Ground.{seen_alone, source_in}
use Rattle.sx_verify.specs.Replays.{IsTermOf}

-- ---- terms

module _ (d : DialectData) (l : LanguageData) (is : d ≡ unextended_dialect l) where
  -- a term of the dialect is one of the language
  pub term_of : (role : Role) (t : Tree) → IsTermFor d role t → IsTermOf l role t
  term_of role t good =
      let h = subst (λ (x : DialectData). IsTermFor x role t) is good in (h.sorted, h.depth)

  pub literals_same : literals_of d.language.parts ≡ literals_of l.parts
  literals_same = ap (λ (x : DialectData). literals_of x.language.parts) is

-- the main form is one of the language's
pub main_within : (l : LanguageData) → IsMain l.parts l.forms l.main →
    l.main.form < length l.forms
main_within l is = slice_get_within l.forms l.main.form _ is.is

-- ---- imports

named_by : (literals : List Text) (its : List InterfaceParts) → ArePlainNames (map (λ it. it.name) its) →
    AreFree literals (map (λ it. it.name) its) → AllByRecursion (HasFreeName literals) its
named_by literals [] names free = tt
named_by literals (it ∷ its) names free =
    ((names.0, free.0), named_by literals its names.1 free.1)

-- imports whose names are names and no literals
pub named : (literals : List Text) (its : List InterfaceParts) (names : List (List ℕ)) →
    map (λ it. it.name) its ≡ names → ArePlainNames names → AreFree literals names →
    AllByRecursion (HasFreeName literals) its
named literals its names is are free =
    named_by literals its (subst ArePlainNames (sym is) are) (subst (AreFree literals) (sym is) free)

-- ---- what imports are seen from, and what a body is read from

abbrev pub seen_with : DialectData → List ℕ → List ℕ → List MarkData → SeenFrom
seen_with d name digest uses =
    record { dialect = d; language = record { name = name; digest = digest }; uses = uses }

pub seen_same : (d : DialectData) (l : Stated) (own name : List ℕ) (uses : List MarkData) →
    d ≡ unextended_dialect l.language → own ≡ name → uses ≡ [] →
    seen_with d own l.digest uses ≡ seen_alone name l
seen_same d l own name uses is same none = λ i. seen_with (is i) (same i) l.digest (none i)

abbrev pub source_with : DialectData → List ℕ → HeaderParts → Tree → BodySource
source_with d bytes header environment =
    record { dialect = d; bytes = bytes; header = header; environment = environment }

pub source_same : (d : DialectData) (l : Stated) (bytes : List ℕ) (h : List ℕ → HeaderParts)
    (m : Module) (environment : Tree) → d ≡ unextended_dialect l.language → bytes ≡ m.bytes →
    h m.bytes ≡ m.header →
    source_with d bytes (h bytes) environment ≡ source_in l m environment
source_same d l bytes h m environment is same headed = λ i.
    source_with (is i) (same i) ((ap h same ∙ headed) i) environment
