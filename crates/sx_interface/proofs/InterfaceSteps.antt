-- The steps of reading an interface, each with what is made of what it reads.
use Rattle.std.proofs.Common.{ℕ, List, [], ◌++◌, codes, Some, Result, Ok}
use Rattle.sx_lines.specs.Lines.{Lines}
use Rattle.sx_lines.specs.Reading.{◌>>=◌, the_line, next_line, no_line}
use Rattle.sx_lines.specs.Rows.{distinct_rows}
use Rattle.sx_interface.specs.declared.version.Version.{Version}
use Rattle.sx_interface.specs.Interfaces.{MarkData, InterfaceParts, mark_after, digest_after, use_after}
use Rattle.sx_interface.specs.Interfaces.{stated_signature, version_of}

abbrev pub made : (name : List ℕ) → MarkData → (uses : List MarkData) → (base : List ℕ) → (imports : List MarkData) → (signature stated : List ℕ) → InterfaceParts
made name language uses base imports signature stated =
    record { name = name; language = language; uses = uses; base = base; imports = imports; signature = signature; stated = stated }

abbrev pub from_stated : (List ℕ → InterfaceParts) → List ℕ × Lines → Result InterfaceParts ℕ
from_stated make stated = no_line stated.1 >>= λ end. Ok (make stated.0)

abbrev pub from_signature : Version → (List ℕ → List ℕ → InterfaceParts) → List ℕ × Lines → Result InterfaceParts ℕ
from_signature version make signature = stated_signature version signature >>= λ stated. from_stated (make signature.0) stated

abbrev pub from_signed : Version → (List ℕ → List ℕ → InterfaceParts) → Lines → Result InterfaceParts ℕ
from_signed version make signed = next_line Some signed >>= λ signature. from_signature version make signature

abbrev pub from_imports : Version → (List ℕ → List ℕ → InterfaceParts) → Lines → Result InterfaceParts ℕ
from_imports version make lines = the_line (codes "---") lines >>= λ signed. from_signed version make signed

abbrev pub from_base : Version → (List MarkData → List ℕ → List ℕ → InterfaceParts) → Lines → Result InterfaceParts ℕ
from_base version make lines =
    distinct_rows (λ (m : MarkData). m.name) (mark_after (codes "import ")) [] lines >>= λ imports. from_imports version (make imports.0) imports.1

abbrev pub from_uses : Version → (List ℕ → List MarkData → List ℕ → List ℕ → InterfaceParts) → Lines → Result InterfaceParts ℕ
from_uses version make lines = next_line (digest_after (codes "base ")) lines >>= λ base. from_base version (make base.0) base.1

abbrev pub from_language : Version → (List MarkData → List ℕ → List MarkData → List ℕ → List ℕ → InterfaceParts) → Lines → Result InterfaceParts ℕ
from_language version make lines =
    distinct_rows (λ (m : MarkData). m.name) (use_after version) [] lines >>= λ uses. from_uses version (make uses.0) uses.1

abbrev pub from_module : Version → (MarkData → List MarkData → List ℕ → List MarkData → List ℕ → List ℕ → InterfaceParts) → Lines → Result InterfaceParts ℕ
from_module version make lines = next_line (mark_after (codes "language ")) lines >>= λ language. from_language version (make language.0) language.1

abbrev pub from_version : List ℕ → Version → Lines → Result InterfaceParts ℕ
from_version name version lines = the_line (codes "module " ++ name) lines >>= λ rest. from_module version (made name) rest

-- all steps, one by one
abbrev pub all_steps : List ℕ → Lines → Result InterfaceParts ℕ
all_steps name lines = next_line version_of lines >>= λ version. from_version name version.0 version.1
