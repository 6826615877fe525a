-- What tokens show to a grammar, by the numbers of its literals, kinds and sorts.
use Rattle.std.specs.Prelude.{◌≡◌, List, [], ◌∷◌, Option, Some, None, slice_get, Contains}
use Rattle.std.specs.HashMap.{get_by}
use Rattle.std.specs.Str.{bytes_eq}
use Rattle.sx_term.specs.declared.lex_kind.LexKind.TheVariants.{Id}
use Rattle.sx_term.specs.declared.sort.Sort.{Sort}
use Rattle.sx_term.specs.declared.sort.Sort.TheVariants as sorts
use Rattle.sx_term.specs.declared.mark.Mark.{Mark}
use Rattle.sx_term.specs.declared.mark.Mark.TheVariants as marks
use Rattle.sx_token.specs.declared.token.Token.{Token}
use Rattle.sx_grammar.specs.Grammar.{Text}
use Rattle.sx_earley.specs.declared.shown.Shown.{Shown}
use Rattle.sx_earley.specs.declared.shown.Shown.TheVariants.{Lit, Lex, Kind, Sort as OfSort, Other}
use Rattle.sx_earley.specs.declared.stem_table.StemTable.{StemTable}
use Rattle.sx_earley.specs.Tokens.{Stems, stem_sort, meta_stem}

-- the look-up finds the sort of each stem
abbrev pub IsStems : Stems → StemTable → Type 0
IsStems stems table = (text : Text) → get_by (λ k. bytes_eq text k.now) table.sorts
    ≡ stem_sort stems text

-- what a metavariable shows whose stem has this sort
abbrev pub shown_stem : Option Sort → Shown
shown_stem None = Kind Id
shown_stem (Some (sorts.Lex kind)) = Kind kind
shown_stem (Some (sorts.Plain n)) = OfSort n
shown_stem (Some (sorts.Typed n)) = OfSort n

-- a literal shows the number of its text among the grammar's literals, or that it is none of them
abbrev pub IsLiteralShown : List Text → Text → Shown → Type 0
IsLiteralShown literals text (Lit n) = slice_get literals n ≡ Some text
IsLiteralShown literals text Other = ¬ (Contains literals text)
IsLiteralShown literals text _ = ⊥

-- a token with this mark and text shows this
abbrev pub TokenShows : List Text → Stems → Mark → Text → Shown → Type 0
TokenShows literals stems (marks.Lit n) text shown = IsLiteralShown literals text shown
TokenShows literals stems (marks.Lex kind) text shown = shown ≡ Lex kind
TokenShows literals stems marks.Meta text shown = shown ≡ shown_stem (stem_sort stems
    (meta_stem text))

-- the tokens show these, one after another
abbrev pub AllShow : List Text → Stems → List Token → List Shown → Type 0
AllShow literals stems [] [] = Unit {0}
AllShow literals stems (t ∷ ts) (s ∷ shown) = TokenShows literals stems t.mark t.text s ×
    AllShow literals stems ts shown
AllShow literals stems _ _ = ⊥
