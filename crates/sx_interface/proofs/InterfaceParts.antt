-- An interface's parts are read by the steps that lead to them.
use Rattle.std.proofs.Common.{◌≡◌, ℕ, List, [], ◌++◌, codes, Some, Result, Ok, Err, refl}
use Rattle.sx_lines.specs.Lines.{Lines}
use Rattle.sx_lines.specs.Reading.{◌>>=◌, the_line, next_line, no_line}
use Rattle.sx_lines.specs.Rows.{distinct_rows}
use Rattle.sx_interface.specs.declared.version.Version.{Version}
use Rattle.sx_interface.specs.Interfaces.{MarkData, InterfaceParts, Front, mark_after, digest_after, version_of, use_after}
use Rattle.sx_interface.specs.Interfaces.{stated_signature, interface_front, signatures_of, interface_of}
use Rattle.sx_interface.proofs.InterfaceSteps.{made, from_stated, from_signature, from_signed, from_imports, from_base, from_uses, from_language, from_module, from_version, all_steps}

-- steps that are taken one by one come to what their parts come to
one_by_one : {A B C : Type 0} (read : Result A ℕ) (next : A → Result B ℕ) (last : B → Result C ℕ) (whole : A → Result C ℕ) → ((x : A) → whole x ≡ (next x >>= last)) → (read >>= whole) ≡ ((read >>= next) >>= last)
one_by_one (Ok x) next last whole h = h x
one_by_one (Err n) next last whole h = refl

same_next : {A B : Type 0} (read : Result A ℕ) (next other : A → Result B ℕ) → ((x : A) → next x ≡ other x) → (read >>= next) ≡ (read >>= other)
same_next (Ok x) next other h = h x
same_next (Err n) next other h = refl

-- ---- the steps to what stands before the imports

abbrev with_base : Version → MarkData → List MarkData → List ℕ × Lines → Result Front ℕ
with_base version language uses base = Ok (record { version = version; language = language; uses = uses; base = base.0; rest = base.1 })

abbrev with_uses : Version → MarkData → List MarkData × Lines → Result Front ℕ
with_uses version language uses = next_line (digest_after (codes "base ")) uses.1 >>= with_base version language uses.0

abbrev with_language : Version → MarkData × Lines → Result Front ℕ
with_language version language = distinct_rows (λ (m : MarkData). m.name) (use_after version) [] language.1 >>= with_uses version language.0

abbrev with_module : Version → Lines → Result Front ℕ
with_module version rest = next_line (mark_after (codes "language ")) rest >>= with_language version

abbrev with_version : List ℕ → Version × Lines → Result Front ℕ
with_version name version = the_line (codes "module " ++ name) version.1 >>= with_module version.0

-- ---- the steps to the signatures

abbrev with_stated : List ℕ → List ℕ × Lines → Result (List ℕ × List ℕ) ℕ
with_stated signature stated = no_line stated.1 >>= λ end. Ok (signature, stated.0)

abbrev with_signature : Version → List ℕ × Lines → Result (List ℕ × List ℕ) ℕ
with_signature version signature = stated_signature version signature >>= with_stated signature.0

abbrev with_signed : Version → Lines → Result (List ℕ × List ℕ) ℕ
with_signed version signed = next_line Some signed >>= with_signature version

-- ---- the steps to the interface

abbrev with_signatures : List ℕ → Front → List MarkData → List ℕ × List ℕ → Result InterfaceParts ℕ
with_signatures name front imports signatures = Ok (made name front.language front.uses front.base imports signatures.0 signatures.1)

abbrev with_imports : List ℕ → Front → List MarkData × Lines → Result InterfaceParts ℕ
with_imports name front imports = signatures_of front.version imports.1 >>= with_signatures name front imports.0

abbrev with_front : List ℕ → Front → Result InterfaceParts ℕ
with_front name front = distinct_rows (λ (m : MarkData). m.name) (mark_after (codes "import ")) [] front.rest >>= with_imports name front

imports_by_parts : (name : List ℕ) (front : Front) (imports : List MarkData × Lines) → from_imports front.version (made name front.language front.uses front.base imports.0) imports.1 ≡ with_imports name front imports
unfolding signatures_of
imports_by_parts name front imports =
    let last = with_signatures name front imports.0 in
    let make = made name front.language front.uses front.base imports.0 in
    one_by_one (the_line (codes "---") imports.1) (with_signed front.version) last (from_signed front.version make) (λ signed.
    one_by_one (next_line Some signed) (with_signature front.version) last (from_signature front.version make) (λ signature.
    one_by_one (stated_signature front.version signature) (with_stated signature.0) last (from_stated (make signature.0)) (λ stated.
    one_by_one (no_line stated.1) (λ end. Ok (signature.0, stated.0)) last (λ end. Ok (make signature.0 stated.0)) (λ end. refl))))

front_by_parts : (name : List ℕ) (front : Front) → from_base front.version (made name front.language front.uses front.base) front.rest ≡ with_front name front
front_by_parts name front =
    same_next (distinct_rows (λ (m : MarkData). m.name) (mark_after (codes "import ")) [] front.rest) (λ imports. from_imports front.version (made name front.language front.uses front.base imports.0) imports.1) (with_imports name front)
    (imports_by_parts name front)

pub by_steps : (name : List ℕ) (lines : Lines) → all_steps name lines ≡ interface_of name lines
unfolding interface_of interface_front
by_steps name lines =
    one_by_one (next_line version_of lines) (with_version name) (with_front name) (λ version. from_version name version.0 version.1) (λ version.
    one_by_one (the_line (codes "module " ++ name) version.1) (with_module version.0) (with_front name) (from_module version.0 (made name)) (λ rest.
    one_by_one (next_line (mark_after (codes "language ")) rest) (with_language version.0) (with_front name) (λ language. from_language version.0 (made name language.0) language.1) (λ language.
    one_by_one (distinct_rows (λ (m : MarkData). m.name) (use_after version.0) [] language.1) (with_uses version.0 language.0) (with_front name) (λ uses. from_uses version.0 (made name language.0 uses.0) uses.1) (λ uses.
    one_by_one (next_line (digest_after (codes "base ")) uses.1) (with_base version.0 language.0 uses.0) (with_front name) (λ base. from_base version.0 (made name language.0 uses.0 base.0) base.1) (λ base.
    front_by_parts name (record { version = version.0; language = language.0; uses = uses.0; base = base.0; rest = base.1 }))))))

-- as functions of the lines
pub all_by_steps : (name : List ℕ) → all_steps name ≡ interface_of name
all_by_steps name = λ i lines. by_steps name lines i
