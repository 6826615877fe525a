-- Rows of interfaces, by their places and their texts.
use Rattle.std.proofs.Common.{◌≡◌, ◌≤◌, length, subst}
use Rattle.sx_term.specs.declared.role.Role.TheVariants.{Out}
use Rattle.sx_term.specs.declared.sort.Sort.{Sort}
use Rattle.sx_term.specs.Tree.{Tree}
use Rattle.sx_earley.specs.Completed.{IsSort}
use Rattle.sx_grammar.specs.Grammar.{Text}
use Rattle.sx_grammar.specs.Parts.{Parts}
use Rattle.sx_grammar.specs.Tables.{literals_of}
use Rattle.sx_grammar.specs.Told.{shapes_of}
use Rattle.sx_interface.specs.Interfaces.{InterfaceParts}
use Rattle.sx_typing.specs.Dialects.{IsDialect}
use Rattle.sx_typing.specs.declared.unread_text.UnreadText.{UnreadText}
use Rattle.sx_typing.specs.BodySource.{IsGoodTerm, main_sort}
use Rattle.sx_typing.specs.Unread.{IsUnreadText}
use Rattle.sx_typing.proofs.MainSorts.{signature_is_sort}
use Rattle.sx_typing.proofs.ReadSorted.{read_good}
use Rattle.sx_environment.specs.declared.row.Row.{Row}
use Rattle.sx_environment.specs.declared.row.Row.TheVariants.{Signature, Stated}
use Rattle.sx_environment.specs.Seen.{import_row_text, row_parts, row_sort, IsImportRowRead}
use Rattle.sx_environment.specs.SeenFrom.{SeenFrom, IsShort}

-- each row is read as a sort of its grammar
pub row_is_sort : (s : SeenFrom) (row : Row) → IsDialect s.dialect →
    IsSort (row_parts s row) (row_sort s)
row_is_sort s Signature is =
    let d = s.dialect in
    subst (λ (p : Parts). IsSort p (main_sort d.language Out)) is.goes_on (signature_is_sort d is)
row_is_sort s Stated is = signature_is_sort s.dialect is

-- each row is short
pub row_is_short : (it : InterfaceParts) (row : Row) → IsShort it → length (import_row_text it row) ≤ 262144
row_is_short it Signature short = short.signature
row_is_short it Stated short = short.stated

-- a text that is not read, where it is that of a row
pub unread_row : (p q : Parts) (sort other : Sort) (text shown : Text) (e : UnreadText) → p ≡ q →
    sort ≡ other → text ≡ shown → IsUnreadText p sort text e → IsUnreadText q other shown e
unread_row p q sort other text shown e parts same is h =
    subst (λ (x : Parts). IsUnreadText x other shown e) parts
    (subst (λ (x : Sort). IsUnreadText p x shown e) same
    (subst (λ (x : Text). IsUnreadText p sort x e) is h))

-- the term of a row is one of its grammar
pub row_good : (s : SeenFrom) (it : InterfaceParts) (row : Row) (t : Tree) → IsDialect s.dialect →
    IsImportRowRead s it row t → IsGoodTerm (literals_of (row_parts s row)) (shapes_of (row_parts s row))
    (row_sort s) t
row_good s it row t is read =
    read_good (row_parts s row) (row_sort s) (import_row_text it row) read.0 read.1 t (row_is_sort s row is)
    read.2
