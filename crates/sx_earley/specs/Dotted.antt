-- Items with the symbols after their dots.
use Rattle.std.specs.Prelude.{◌≡◌, ℕ, ◌<◌, ◌^◌, Option, Some, IfSome, option_map, length}
use Rattle.sx_grammar.specs.declared.item.Item.{Item}
use Rattle.sx_grammar.specs.declared.numbered.NumberedSymbol.{NumberedSymbol}
use Rattle.sx_grammar.specs.Grammar.{Grammar, production_of}
use Rattle.sx_grammar.specs.Numbered.{symbol}
use Rattle.sx_grammar.specs.Tables.{GrammarData}
use Rattle.sx_earley.specs.Shown.{plain, literal_texts, IsLiteralBelow}
use Rattle.sx_earley.specs.Chart.{next_symbol, as_part, HasDotAtEnd, sort_made}

-- the symbol after the item's dot, with the number of its literal
pub record IsNextSymbol (d : GrammarData) (item : Item) (next : Option NumberedSymbol) : Type 0
  where
    pub is : option_map (symbol (literal_texts d)) next ≡ next_symbol (plain d) item.head item.dot
    pub below : IfSome next (IsLiteralBelow (length (literal_texts d)))
    pub small : IfSome next (λ _. item.dot < 2 ^ 63)

-- the part for which the item waits, if it waits for one
pub record WaitsFor (g : Grammar) (item : Item) (part : Option (ℕ × ℕ)) : Type 0 where
  pub is : part ≡ as_part (next_symbol g item.head item.dot)
  pub small : IfSome part (λ _. item.dot < 2 ^ 63)

-- the item is complete
abbrev pub HasEnded : Grammar → Item → Type 0
HasEnded g item = HasDotAtEnd (production_of g item.head) item.dot

-- where the item is complete, its sort
abbrev pub HasMade : Grammar → Item → Option ℕ → Type 0
HasMade g item made = (sort : ℕ) → HasDotAtEnd (production_of g item.head) item.dot →
    sort_made (production_of g item.head) ≡ Some sort → made ≡ Some sort
