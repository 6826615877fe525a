-- The parts of the grammar by which rules are read.
use Rattle.std.specs.Prelude.{true, List, [], ◌∷◌, ◌++◌, None, map, codes}
use Rattle.sx_term.specs.declared.lex_kind.LexKind.{LexKind}
use Rattle.sx_term.specs.declared.lex_kind.LexKind.TheVariants.{Id, Num, Str}
use Rattle.sx_grammar.specs.declared.symbol.Symbol.{Symbol}
use Rattle.sx_grammar.specs.declared.symbol.Symbol.TheVariants.{Lit, Lex, Part}
use Rattle.sx_grammar.specs.declared.sort_line.SortLine.{SortLine}
use Rattle.sx_grammar.specs.Parts.{Line, Parts}
use Rattle.sx_directives.specs.Spelling.{lex_text}
use Rattle.sx_directives.specs.declared.spelled.SpelledSort.{SpelledSort}
use Rattle.sx_directives.specs.declared.spelled.SpelledSort.TheVariants.{Lex as Lexical, Named}
use Rattle.sx_directives.specs.declared.spelled.FormSymbol.{FormSymbol}
use Rattle.sx_directives.specs.declared.spelled.FormSymbol.TheVariants.{Lit as Literal, Place}
use Rattle.sx_directives.specs.declared.rows.FormLine.{FormLine}

-- the sort of judgements, which has no name that a line can spell
abbrev pub judgement_sort : SortLine
judgement_sort = record { name = codes "a judgement"; typed = true; brackets = None }

-- the symbol of a place of this sort
abbrev pub symbol_of_sort : SpelledSort → Symbol
symbol_of_sort (Lexical kind) = Lex kind
symbol_of_sort (Named sort least) = Part sort least

-- the symbol of a production that the symbol of a form is
abbrev pub symbol_for : FormSymbol → Symbol
symbol_for (Literal text) = Lit text
symbol_for (Place role sort) = symbol_of_sort sort

-- the production that a form is; no part asks for a level of its sort, so its level makes no
-- difference
abbrev pub form_line : FormLine → Line
form_line f = record {
  label = codes "form " ++ f.name;
  sort = codes "a judgement";
  level = 0;
  symbols = map symbol_for f.symbols.items;
}

-- two lexemes of the kind with `!=` between them
abbrev pub apart_line : LexKind → Line
apart_line kind =
    record {
      label = codes "apart " ++ lex_text kind;
      sort = codes "a judgement";
      level = 0;
      symbols = Lex kind ∷ Lit (codes "!=") ∷ Lex kind ∷ [];
    }

-- one of these for each lexical kind
abbrev pub apart_lines : List Line
apart_lines = apart_line Id ∷ apart_line Num ∷ apart_line Str ∷ []

-- the parts with a sort of judgements, a production for each form, and three for `!=`
abbrev pub rule_parts : Parts → List FormLine → Parts
rule_parts p forms = record {
  sorts = p.sorts ++ judgement_sort ∷ [];
  productions = p.productions ++ (map form_line forms ++ apart_lines);
}
