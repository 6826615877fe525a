-- The tokens of a text with metavariables, as a grammar reads them.
use Rattle.std.specs.Prelude.{if◌then◌else◌, List, [], ◌∷◌, Option, Some, None, map}
use Rattle.std.specs.Str.{bytes_eq}
use Rattle.sx_term.specs.declared.lex_kind.LexKind.TheVariants.{Id}
use Rattle.sx_term.specs.declared.sort.Sort.{Sort}
use Rattle.sx_term.specs.declared.sort.Sort.TheVariants as sorts
use Rattle.sx_term.specs.Vars.{without_tilde}
use Rattle.sx_term.specs.declared.mark.Mark.{Mark}
use Rattle.sx_term.specs.declared.mark.Mark.TheVariants.{Lit, Lex, Meta}
use Rattle.sx_token.specs.declared.token.Token.{Token}
use Rattle.sx_grammar.specs.Grammar as plain
use Rattle.sx_grammar.specs.Grammar.{Text, Stem, of_kind, of_sort, is_literal, is_lexeme}
use Rattle.sx_grammar.specs.Grammar.{is_variable}
use Rattle.sx_grammar.specs.Stems.{without_digits}

-- the stem of a metavariable: its name, which comes after `~`, without the digits at its end
abbrev pub meta_stem : Text → Text
meta_stem text = without_digits (without_tilde text)

-- stems with their sorts
abbrev pub Stems : Type 0
Stems = List (Text × Sort)

-- the sort of the stem, where it first stands
abbrev pub stem_sort : Stems → Text → Option Sort
stem_sort [] stem = None
stem_sort (s ∷ more) stem = if bytes_eq s.0 stem then Some s.1 else stem_sort more stem

-- what a metavariable of the sort stands for
abbrev pub as_stem : Sort → Stem
as_stem (sorts.Lex kind) = of_kind kind
as_stem (sorts.Plain n) = of_sort n
as_stem (sorts.Typed n) = of_sort n

-- the same where a sort was found; the conditions exclude that none was
abbrev pub found_stem : Option Sort → Stem
found_stem None = of_kind Id
found_stem (Some sort) = as_stem sort

-- a token with this mark and text, as a grammar reads it
abbrev pub read_token : Stems → Mark → Text → plain.Token
read_token stems (Lit n) text = record { mark = is_literal; text = text }
read_token stems (Lex kind) text = record { mark = is_lexeme kind; text = text }
read_token stems Meta text = record {
  mark = is_variable (found_stem (stem_sort stems (meta_stem text)));
  text = text;
}

-- the tokens, as a grammar reads them
abbrev pub plain_tokens : Stems → List Token → List plain.Token
plain_tokens stems ts = map (λ t. read_token stems t.mark t.text) ts
