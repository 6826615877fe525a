-- Levels above 99.
use Rattle.std.specs.Prelude.{Bool, false, ◌||◌, nat_lt}
use Rattle.std.specs.List.{list_any}
use Rattle.sx_grammar.specs.declared.symbol.Symbol.{Symbol}
use Rattle.sx_grammar.specs.declared.symbol.Symbol.TheVariants.{Lit, Lex, Part}
use Rattle.sx_grammar.specs.declared.production.Production.{Production}

-- the symbol asks for such a level
abbrev pub asks_high : Symbol → Bool
asks_high (Lit text) = false
asks_high (Lex kind) = false
asks_high (Part sort least) = nat_lt 99 least

-- the production has such a level, or a part that asks for one
abbrev pub is_high : Production → Bool
is_high p = nat_lt 99 p.level || list_any asks_high p.symbols.items
