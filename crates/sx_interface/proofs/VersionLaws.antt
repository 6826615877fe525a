-- What the versions of an interface say of its lines.
use Rattle.std.proofs.Common.{◌≡◌, ℕ, Bool, true, false, cond, List, [], ◌∷◌, ◌++◌, codes, Some, None, Ok, refl, sym, ap, subst}
use Rattle.std.specs.List.{AllByRecursion}
use Rattle.std.specs.Str.{bytes_eq}
use Rattle.std.proofs.lemmas.Slice.Eq.{bytes_eq-Decides}
use Rattle.hex.specs.Hex.{encode_lower}
use Rattle.sx_lines.specs.Lines.{Lines, over, line, line_texts}
use Rattle.sx_lines.specs.Words.{after, number_within, digits_within}
use Rattle.sx_lines.specs.Rows.{distinct_rows}
use Rattle.sx_lines.proofs.ReadLaws.{EachReads}
use Rattle.sx_lines.proofs.StepLaws.{next_line-again, NotRead}
use Rattle.sx_interface.specs.declared.version.Version.{Version}
use Rattle.sx_interface.specs.declared.version.Version.TheVariants.{One, Two}
use Rattle.sx_interface.specs.Interfaces.{MarkData, InterfaceParts, mark_text, mark_lines, lines_in}
use Rattle.sx_interface.specs.Interfaces.{mark_after, version_of, use_after, stated_signature}
use Rattle.sx_interface.specs.Interfaces.{other_version}
use Rattle.sx_interface.specs.Stated.{IsStatedMark, TellsAll}
use Rattle.sx_interface.proofs.MarkTexts.{marks_again, marks_found}

-- ---- the lines in one form

abbrev pub first_text : Version → List ℕ
first_text One = codes "sxint 1"
first_text Two = codes "sxint 2"

abbrev pub stated_lines : Version → (stated : List ℕ) → List (List ℕ)
stated_lines One stated = []
stated_lines Two stated = stated ∷ []

abbrev pub base_lines : Version → InterfaceParts → List (List ℕ)
base_lines version it = (codes "base " ++ encode_lower it.base) ∷ (mark_lines (codes "import ") it.imports ++ codes "---" ∷ it.signature ∷ stated_lines version it.stated)

abbrev pub language_lines : Version → InterfaceParts → List (List ℕ)
language_lines version it = (codes "language " ++ mark_text it.language) ∷ (mark_lines (codes "use ") it.uses ++ base_lines version it)

pub one_form : (version : Version) (it : InterfaceParts) → TellsAll version it → lines_in version it ≡ first_text version ∷ (codes "module " ++ it.name) ∷ language_lines version it
one_form One it h =
    ap (λ (uses : List MarkData). codes "sxint 1" ∷ (codes "module " ++ it.name) ∷ (codes "language " ++ mark_text it.language) ∷ (mark_lines (codes "use ") uses ++ base_lines One it)) (sym h.0)
one_form Two it h = refl

-- ---- the first line

pub version_again : (version : Version) → version_of (first_text version) ≡ Some version
version_again One = refl
version_again Two = refl

pub version_found : (text : List ℕ) (version : Version) → version_of text ≡ Some version → text ≡ first_text version
version_found text version e = first_case (bytes_eq text (codes "sxint 1")) (bytes_eq text (codes "sxint 2")) refl refl e
  where
    first_case : (one two : Bool) → bytes_eq text (codes "sxint 1") ≡ one → bytes_eq text (codes "sxint 2") ≡ two → cond one (Some One) (cond two (Some Two) None) ≡ Some version → text ≡ first_text version
    first_case true two h k e = let same : One ≡ version = cc in subst (λ (v : Version). text ≡ first_text v) same ((bytes_eq-Decides text (codes "sxint 1")).0 h)
    first_case false true h k e = let same : Two ≡ version = cc in subst (λ (v : Version). text ≡ first_text v) same ((bytes_eq-Decides text (codes "sxint 2")).0 k)
    first_case false false h k e = absurd cc

pub version_known : (lines : Lines) (version : Version) (more : List (List ℕ)) → line_texts lines ≡ first_text version ∷ more → other_version lines ≡ None
unfolding other_version after number_within digits_within
version_known (over n) version more e = absurd cc
version_known (line n words rest lines) One more e = let same : words ≡ codes "sxint 1" = cc in rw same refl
version_known (line n words rest lines) Two more e = let same : words ≡ codes "sxint 2" = cc in rw same refl

-- ---- the uses

-- version 1 has none
abbrev pub HasUses : Version → List MarkData → Type 0
HasUses One uses = uses ≡ []
HasUses Two uses = Unit {0}

pub uses_again : (version : Version) (it : InterfaceParts) → TellsAll version it → AllByRecursion IsStatedMark it.uses → EachReads (use_after version) (mark_lines (codes "use ") it.uses) it.uses
uses_again One it h k = subst (λ (uses : List MarkData). EachReads (use_after One) (mark_lines (codes "use ") uses) uses) (sym h.0) tt
uses_again Two it h k = marks_again (codes "use ") it.uses k

pub uses_found : (version : Version) (lines : List (List ℕ)) (uses : List MarkData) → EachReads (use_after version) lines uses → (lines ≡ mark_lines (codes "use ") uses) × AllByRecursion IsStatedMark uses × HasUses version uses
uses_found One [] [] h = (refl, tt, refl)
uses_found One [] (m ∷ uses) h = absurd h
uses_found One (text ∷ lines) [] h = absurd h
uses_found One (text ∷ lines) (m ∷ uses) h = absurd (let k = h.0 in cc)
uses_found Two lines uses h = let p = marks_found (codes "use ") lines uses h in (p.0, p.1, tt)

-- the row of the base file, and the end of the header, are no rows of uses or imports
pub base_unread : (version : Version) (digits : List ℕ) (more : List (List ℕ)) → NotRead (use_after version) ((codes "base " ++ digits) ∷ more)
unfolding mark_after after
base_unread One digits more = refl
base_unread Two digits more = refl

pub end_unread : (more : List (List ℕ)) → NotRead (mark_after (codes "import ")) (codes "---" ∷ more)
unfolding mark_after after
end_unread more = refl

-- ---- the stated signature

-- in version 1 it is the signature
abbrev pub HasStated : Version → (signature stated : List ℕ) → Type 0
HasStated One signature stated = stated ≡ signature
HasStated Two signature stated = Unit {0}

pub stated_again : (version : Version) (it : InterfaceParts) (lines : Lines) → TellsAll version it → line_texts lines ≡ stated_lines version it.stated → (rest : Lines) × (stated_signature version (it.signature, lines) ≡ Ok (it.stated, rest)) × (line_texts rest ≡ [])
stated_again One it lines h e = (lines, ap (λ (s : List ℕ). Ok (s, lines)) (sym h.1), e)
stated_again Two it lines h e = next_line-again Some lines it.stated [] it.stated e refl

pub is_whole : (version : Version) (it : InterfaceParts) → HasUses version it.uses → HasStated version it.signature it.stated → TellsAll version it
is_whole One it h k = (h, k)
is_whole Two it h k = tt

-- version 1 has no rows of uses
pub no_uses : (lines : Lines) → distinct_rows (λ (m : MarkData). m.name) (use_after One) [] lines ≡ Ok ([], lines)
unfolding distinct_rows
no_uses (over n) = refl
no_uses (line n words rest lines) = refl
