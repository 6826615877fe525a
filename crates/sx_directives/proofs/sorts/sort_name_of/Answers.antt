use Rattle.std.proofs.Common.{◌≡◌, ℕ, List, true, false, sym, ◌∙◌, subst}
use Rattle.std.specs.Prelude.{Option, Some, None, is_some, MatchOption, Result, Ok, Err}
use Rattle.std.specs.Prelude.{MatchResult}
use Rattle.std.proofs.lemmas.Bool.{false≢true}
use Rattle.sx_term.specs.declared.lex_kind.LexKind.{LexKind}
use Rattle.sx_directives.specs.declared.row_error.RowError.{RowError}
use Rattle.sx_directives.specs.Spelling.{lex_text, NotLexical, IsSpelledName, IsSortName, NoneIs}
use Rattle.sx_directives.proofs.SpellingLaws.{none_of}
use Rattle.sx_directives.proofs.sorts.sort_name_of.Goals as goal

abbrev IsKind : List ℕ → Option LexKind → Type 0
IsKind part kind = MatchOption kind (NotLexical part) (λ k. part ≡ lex_text k)

lexical : (part : List ℕ) (kind : Option LexKind) → is_some kind ≡ true → IsKind part kind →
    (name : List ℕ) → IsSortName part name → ⊥
lexical part None some is name named = false≢true some
lexical part (Some kind) some is name named = named.1 kind (sym named.0.0 ∙ is)

not_lexical : (part : List ℕ) (kind : Option LexKind) → is_some kind ≡ false → IsKind part kind →
    NotLexical part
not_lexical part None none is = is
not_lexical part (Some kind) none is = absurd (false≢true (sym none))

named_sort : (part : List ℕ) (r : Result (List ℕ) RowError) → NotLexical part →
    MatchResult r (IsSpelledName part) (NoneIs (IsSpelledName part)) →
    MatchResult r (IsSortName part) (NoneIs (IsSortName part))
named_sort part (Ok name) free is = (is, subst NotLexical is.0 free)
named_sort part (Err e) free none =
    none_of (IsSpelledName part) (IsSortName part) e (λ name named. (name, named.0)) none

pub returns-then-is_some : goal.returns-then-is_some
returns-then-is_some c =
    lexical c.args.part.now c.lexical_kind.result (sym c.is_some.ensures ∙ c.if-is_some.true)
    c.lexical_kind.ensures

pub returns : goal.returns
returns c =
    named_sort c.args.part.now c.name_of.result (not_lexical c.args.part.now c.lexical_kind.result
    (sym c.is_some.ensures ∙ c.if-is_some.false) c.lexical_kind.ensures) c.name_of.ensures
