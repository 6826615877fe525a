-- The part for which an item waits, by the symbol after its dot.
use Rattle.std.proofs.Common.{◌≡◌, ◌≤◌, refl, ◌∙◌, ◌<◌, ◌^◌, ap, sym, subst, ℕ, List, Option, Some, None, option_map, IfSome, length, arith}
use Rattle.std.proofs.lemmas.Option.{slice_get_within}
use Rattle.sx_grammar.specs.Grammar.{Grammar, Text, Symbol, Production, production_of}
use Rattle.sx_grammar.specs.Numbered.{symbol}
use Rattle.sx_grammar.specs.Tables.{GrammarData}
use Rattle.sx_grammar.specs.declared.item.Item.{Item}
use Rattle.sx_grammar.specs.declared.numbered.NumberedSymbol.{NumberedSymbol}
use Rattle.sx_grammar.specs.declared.numbered.NumberedSymbol.TheVariants.{Lit, Lex, Part}
use Rattle.sx_earley.specs.Shown.{plain, literal_texts}
use Rattle.sx_earley.specs.Chart.{as_part, symbol_after, HasDotAtEnd, IsOfSort}
use Rattle.sx_earley.specs.Dotted.{IsNextSymbol, WaitsFor, HasEnded, HasMade}
use Rattle.sx_earley.specs.Keys.{before_key}

-- what is of a sort is there
pub there_is : (o : Option Production) (sort least : ℕ) → IsOfSort o sort least → (p : Production) × (o ≡ Some p) × (p.sort ≡ sort) × (least ≤ p.level)
there_is None sort least h = absurd h
there_is (Some p) sort least h = (p, refl, h.0, h.1)

-- where the symbol is a part, what holds where there is a symbol
some_part : (P : Type 0) (literals : List Text) (next : Option NumberedSymbol) (part : Option (ℕ × ℕ)) → part ≡ as_part (option_map (symbol literals) next) →
    IfSome next (λ _. P) → IfSome part (λ _. P)
some_part P literals None part e h = subst (λ (o : Option (ℕ × ℕ)). IfSome o (λ _. P)) (sym e) tt
some_part P literals (Some (Lit n)) part e h = subst (λ (o : Option (ℕ × ℕ)). IfSome o (λ _. P)) (sym e) tt
some_part P literals (Some (Lex kind)) part e h = subst (λ (o : Option (ℕ × ℕ)). IfSome o (λ _. P)) (sym e) tt
some_part P literals (Some (Part sort least)) part e h = subst (λ (o : Option (ℕ × ℕ)). IfSome o (λ _. P)) (sym e) h

-- the part of the symbol after the dot is what the item waits for
pub waits_for : (d : GrammarData) (item : Item) (next : Option NumberedSymbol) (part : Option (ℕ × ℕ)) → IsNextSymbol d item next →
    ((literals : List Text) → part ≡ as_part (option_map (symbol literals) next)) → WaitsFor (plain d) item part
waits_for d item next part is by = record {
  is = by (literal_texts d) ∙ ap as_part is.is;
  small = some_part (item.dot < 2 ^ 63) (literal_texts d) next part (by (literal_texts d)) is.small;
}

pub some_not_at_end : (o : Option Production) (dot : ℕ) (s : Symbol) → symbol_after o dot ≡ Some s → HasDotAtEnd o dot → ⊥
some_not_at_end None dot s e h = absurd h
some_not_at_end (Some p) dot s e h =
    let low : dot < length p.symbols = slice_get_within p.symbols dot s e in
    let same : length p.symbols ≡ dot = h in
    absurd (omega arith)

-- where a symbol stands after the dot, the item is not complete
pub none_made : (d : GrammarData) (item : Item) (next : Option NumberedSymbol) (x : NumberedSymbol) → IsNextSymbol d item next → next ≡ Some x → HasMade (plain d) item None
none_made d item next x is some = λ sort ends made. absurd (some_not_at_end (production_of (plain d) item.head) item.dot (symbol (literal_texts d) x)
    (sym is.is ∙ ap (option_map (symbol (literal_texts d))) some) ends)

-- where an item has made a sort, and so a key, it is complete
pub complete_before : (g : Grammar) (item : Item) (made key : Option ℕ) → key ≡ before_key item made → IfSome made (λ _. HasEnded g item) → IfSome key (λ _. HasEnded g item)
complete_before g item None key e h = subst (λ (o : Option ℕ). IfSome o (λ _. HasEnded g item)) (sym e) tt
complete_before g item (Some sort) key e h = subst (λ (o : Option ℕ). IfSome o (λ _. HasEnded g item)) (sym e) h
