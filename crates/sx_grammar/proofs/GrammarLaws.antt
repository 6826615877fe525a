-- What follows where parts are those of a grammar.
use Rattle.std.proofs.Common.{◌≡◌, ℕ, ◌<◌, List, [], ◌∷◌, Some, sym, refl, ap, ◌∙◌, subst, inl, Contains}
use Rattle.std.specs.Prelude.{slice_get, option_map, None, Option, flat_map}
use Rattle.std.proofs.lemmas.Option.{slice_get-map}
use Rattle.sx_grammar.proofs.Finding.{at_contains, is_head, past_head, mapped_at, in_flat_map, named_at}
use Rattle.sx_grammar.specs.declared.symbol.Symbol.{Symbol}
use Rattle.sx_grammar.specs.declared.symbol.Symbol.TheVariants.{Lit, Lex, Part}
use Rattle.sx_grammar.specs.declared.sort_line.SortLine.{SortLine}
use Rattle.sx_grammar.specs.Grammar as plain
use Rattle.sx_grammar.specs.Grammar.{Text, part, pair_of, HasLevels}
use Rattle.sx_grammar.specs.Parts.{Line, Parts, names, sorts_named, number_of, symbol_sorts}
use Rattle.sx_grammar.specs.Parts.{numbered, numbered_symbol, numbered_line, numbered_sort}
use Rattle.sx_grammar.specs.Made.{IsGrammar, HasNone, IsUnknownSort, LacksBrackets}
use Rattle.sx_grammar.specs.Print.{BracketsWhereAsked}
use Rattle.sx_grammar.specs.Tables.{HasGoodLevels}

-- a numbered part comes from a part of the sort with that number
pub part_from : (ns : List Text) (s : Symbol) (sort least : ℕ) → numbered_symbol ns s ≡ part sort least → (name : Text) × (s ≡ Part name least) × (number_of ns name ≡ sort)
part_from ns (Lit text) sort least e = cc
part_from ns (Lex kind) sort least e = cc
part_from ns (Part name l) sort least e =
    let a : number_of ns name ≡ sort = cc in
    let b : l ≡ least = cc in
    (name, (λ i. Part name (b i)), a)

-- the asked levels of numbered productions are at most 99
pub levels_asked : (p : Parts) → HasGoodLevels p → HasLevels (numbered p)
levels_asked p good label r place sort least at here =
    let line = mapped_at (numbered_line (names p)) p.productions label r at in
    let symbol = mapped_at (numbered_symbol (names p)) line.0.symbols place (part sort least) (ap (λ q. slice_get q.symbols place) line.2 ∙ here) in
    let named = part_from (names p) symbol.0 sort least symbol.2 in
    good.asked line.0 named.0 least (at_contains p.productions label line.0 line.1) (at_contains line.0.symbols place (Part named.0 least) (symbol.1 ∙ ap Some named.1))

-- a sort that a production names is at its number among the names
pub own_place : (p : Parts) → HasNone (IsUnknownSort (names p)) (sorts_named p) → (r : Line) → Contains p.productions r → slice_get (names p) (number_of (names p) r.sort) ≡ Some r.sort
own_place p known r has = named_at (names p) r.sort
    (λ new. known r.sort (in_flat_map (λ q. q.sort ∷ flat_map symbol_sorts q.symbols) p.productions r r.sort has (is_head r.sort (flat_map symbol_sorts r.symbols))) (inl new))

pub part_place : (p : Parts) → HasNone (IsUnknownSort (names p)) (sorts_named p) → (r : Line) (name : Text) (least : ℕ) → Contains p.productions r → Contains r.symbols (Part name least)
    → slice_get (names p) (number_of (names p) name) ≡ Some name
part_place p known r name least has part_has = named_at (names p) name
    (λ new. known name (in_flat_map (λ q. q.sort ∷ flat_map symbol_sorts q.symbols) p.productions r name has
    (past_head r.sort (flat_map symbol_sorts r.symbols) name (in_flat_map symbol_sorts r.symbols (Part name least) name part_has (is_head name [])))) (inl new))

-- a sort line that does not lack brackets which are asked for has them
pair_where_asked : (p : Parts) (sort : ℕ) (s : SortLine) → slice_get p.sorts sort ≡ Some s → (s.brackets ≡ None → ⊥) → (pair : plain.Brackets) × (pair_of (numbered p) sort ≡ Some pair)
pair_where_asked p sort s at has = go s.brackets refl
  where
    there : pair_of (numbered p) sort ≡ (numbered_sort s).brackets
    there = ap plain.brackets_of (slice_get-map numbered_sort p.sorts sort ∙ ap (option_map numbered_sort) at)

    go : (b : Option (Text × Text)) → s.brackets ≡ b → (pair : plain.Brackets) × (pair_of (numbered p) sort ≡ Some pair)
    go None e = absurd (has e)
    go (Some pair) e = (record { opening = pair.0; closing = pair.1 }, there ∙ ap (option_map (λ q. record { opening = q.0; closing = q.1 })) e)

-- each sort of a grammar has the brackets that are asked for
pub brackets_asked : (p : Parts) → HasNone (IsUnknownSort (names p)) (sorts_named p) → HasNone (LacksBrackets p) p.sorts → BracketsWhereAsked (numbered p)
brackets_asked p known brackets label r place sort least at here label' r' at' same below =
    let asks = mapped_at (numbered_line (names p)) p.productions label r at in
    let symbol = mapped_at (numbered_symbol (names p)) asks.0.symbols place (part sort least) (ap (λ q. slice_get q.symbols place) asks.2 ∙ here) in
    let named = part_from (names p) symbol.0 sort least symbol.2 in
    let asked = mapped_at (numbered_line (names p)) p.productions label' r' at' in
    let has_asks = at_contains p.productions label asks.0 asks.1 in
    let has_part = at_contains asks.0.symbols place (Part named.0 least) (symbol.1 ∙ ap Some named.1) in
    let has_asked = at_contains p.productions label' asked.0 asked.1 in
    let by_part : slice_get (names p) sort ≡ Some named.0 = subst (λ n. slice_get (names p) n ≡ Some named.0) named.2 (part_place p known asks.0 named.0 least has_asks has_part) in
    let by_own : slice_get (names p) sort ≡ Some asked.0.sort = subst (λ n. slice_get (names p) n ≡ Some asked.0.sort) (ap (λ q. q.sort) asked.2 ∙ same) (own_place p known asked.0 has_asked) in
    let line = mapped_at (λ s. s.name) p.sorts sort named.0 by_part in
    let clash : Some asked.0.sort ≡ Some named.0 = sym by_own ∙ by_part in
    let one : asked.0.sort ≡ named.0 = cc in
    pair_where_asked p sort line.0 line.1
    (λ none. brackets line.0 (at_contains p.sorts sort line.0 line.1)
    (none, (asks.0, asked.0, least, has_asks, subst (λ n. Contains asks.0.symbols (Part n least)) (sym line.2) has_part, has_asked, one ∙ sym line.2, subst (λ q. q.level < least) (sym asked.2) below)))

pub grammar_brackets : (p : Parts) → IsGrammar p → BracketsWhereAsked (numbered p)
grammar_brackets p is = brackets_asked p is.0.0.0.0.1 is.0.1
