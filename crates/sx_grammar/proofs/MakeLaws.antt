-- What stands in good parts can be numbered.
use Rattle.std.proofs.Common.{◌≡◌, ◌<◌, ◌^◌, List, [], ◌∷◌, length, map, sym, ap, ◌∙◌, subst, arith, inl, Contains}
use Rattle.std.specs.Prelude.{option_map, flat_map}
use Rattle.std.proofs.lemmas.List.{length-map}
use Rattle.std.proofs.lemmas.List.Elements.{Contains-append_left, Contains-append_right}
use Rattle.std.proofs.lemmas.Option.{slice_get-map}
use Rattle.sx_grammar.specs.declared.symbol.Symbol.{Symbol}
use Rattle.sx_grammar.specs.declared.symbol.Symbol.TheVariants.{Lit, Lex, Part}
use Rattle.sx_grammar.specs.declared.production.Production.{Production}
use Rattle.sx_grammar.specs.declared.sort_line.SortLine.{SortLine}
use Rattle.sx_grammar.specs.Grammar.{Text}
use Rattle.sx_grammar.specs.Parts.{Line, Parts, line, names, literals, symbol_literals}
use Rattle.sx_grammar.specs.Parts.{symbol_sorts, bracket_literals}
use Rattle.sx_grammar.specs.Made.{HasKnownSorts}
use Rattle.sx_grammar.specs.Tables.{literals_of}
use Rattle.sx_grammar.specs.Known.{IsTextAmong, IsKnown, IsKnownLine, IsKnownPair}
use Rattle.sx_grammar.proofs.Finding.{at_contains, contains_place, is_head, past_head, in_flat_map}
use Rattle.sx_grammar.proofs.DistinctLaws.{distinct_has}
use Rattle.sx_grammar.proofs.TableLaws.{distinct_short}

symbol_known : (p : Parts) (r : Line) (s : Symbol) → HasKnownSorts p → Contains p.productions r → Contains r.symbols s → IsKnown (names p) (literals_of p) s
symbol_known p r (Lit text) known has there =
    distinct_has (literals p) text
    (Contains-append_right (flat_map (λ s. bracket_literals s.brackets) p.sorts) (flat_map (λ q. flat_map symbol_literals q.symbols) p.productions) text
    (in_flat_map (λ q. flat_map symbol_literals q.symbols) p.productions r text has (in_flat_map symbol_literals r.symbols (Lit text) text there (is_head text []))))
symbol_known p r (Lex kind) known has there = tt
symbol_known p r (Part name least) known has there = λ new.
    known.1 name (in_flat_map (λ q. q.sort ∷ flat_map symbol_sorts q.symbols) p.productions r name has
    (past_head r.sort (flat_map symbol_sorts r.symbols) name (in_flat_map symbol_sorts r.symbols (Part name least) name there (is_head name [])))) (inl new)

pub lines_contain : (rs : List Production) (r : Production) → Contains rs r → Contains (map line rs) (line r)
lines_contain rs r has =
    let place = contains_place rs r has in
    at_contains (map line rs) place.0 (line r) (slice_get-map line rs place.0 ∙ ap (option_map line) place.1)

pub line_known_here : (p : Parts) (ns texts : List Text) → HasKnownSorts p → ns ≡ names p → texts ≡ literals_of p → (r : Production) → Contains p.productions (line r) → IsKnownLine ns texts r
line_known_here p ns texts known same_names same_texts r there =
    subst (λ l. IsKnownLine l texts r) (sym same_names) (subst (λ l. IsKnownLine (names p) l r) (sym same_texts) (
      λ new. known.1 r.sort (in_flat_map (λ q. q.sort ∷ flat_map symbol_sorts q.symbols) p.productions (line r) r.sort there (is_head r.sort (flat_map symbol_sorts r.symbols.items))) (inl new),
      λ s s_has. symbol_known p (line r) s known there s_has,
    ))

pub line_known : (p : Parts) (rs : List Production) (ns texts : List Text) → HasKnownSorts p → p.productions ≡ map line rs → ns ≡ names p → texts ≡ literals_of p → (r : Production) → Contains rs r → IsKnownLine ns texts r
line_known p rs ns texts known of same_names same_texts r has =
    line_known_here p ns texts known same_names same_texts r (subst (λ l. Contains l (line r)) (sym of) (lines_contain rs r has))

pub pair_known : (p : Parts) (texts : List Text) → texts ≡ literals_of p → (s : SortLine) → Contains p.sorts s → IsKnownPair texts s.brackets
pair_known p texts same s has text there =
    subst (λ l. IsTextAmong l text) (sym same) (distinct_has (literals p) text
    (Contains-append_left (flat_map (λ s. bracket_literals s.brackets) p.sorts) (flat_map (λ q. flat_map symbol_literals q.symbols) p.productions) text
    (in_flat_map (λ s. bracket_literals s.brackets) p.sorts s text has there)))

pub few_names : (p : Parts) (ns : List Text) → ns ≡ names p → length p.sorts < 2 ^ 32 → length ns < 2 ^ 32
few_names p ns same few = omega (arith, few, ap length same, length-map p.sorts (λ s. s.name))

pub few_texts : (p : Parts) (texts : List Text) → texts ≡ literals_of p → length (literals p) < 2 ^ 32 → length texts < 2 ^ 32
few_texts p texts same few = omega (arith, few, ap length same, distinct_short (literals p))
