-- The literals that a grammar reads are among its own, and none of them is empty.
use Rattle.std.proofs.Common.{◌≡◌, ◌∙◌, refl, ap, subst, ℕ, zero, suc, ◌<◌, List, [], ◌∷◌, length, length-append, map, Contains, Option, Some, None, arith}
use Rattle.std.specs.Prelude.{slice_get, slice_index_or, flat_map}
use Rattle.std.specs.Char.{encode_utf8}
use Rattle.std.proofs.lemmas.Str.{length-encode, len_utf8_bounds}
use Rattle.std.proofs.lemmas.Option.{same_Some, none-some}
use Rattle.std.proofs.lemmas.List.Elements.{Contains-append_left, Contains-append_right}
use Rattle.sx_term.specs.Spaced.{IsWordLiteral, IsSymbolLiteral}
use Rattle.sx_grammar.specs.declared.symbol.Symbol.{Symbol as NamedSymbol}
use Rattle.sx_grammar.specs.declared.symbol.Symbol.TheVariants.{Lit, Lex, Part}
use Rattle.sx_grammar.specs.declared.head.Head.{Head}
use Rattle.sx_grammar.specs.declared.head.Head.TheVariants.{Labelled, Bracketed}
use Rattle.sx_grammar.specs.Grammar.{Text, Grammar, Production, SortLine, literal, part}
use Rattle.sx_grammar.specs.Grammar.{brackets_of, bracket_production}
use Rattle.sx_grammar.specs.Items.{NextIs}
use Rattle.sx_grammar.specs.Parts.{Parts, names, literals, symbol_literals, bracket_literals}
use Rattle.sx_grammar.specs.Parts.{numbered, numbered_symbol, numbered_line, numbered_sort}
use Rattle.sx_grammar.specs.Parts.{numbered_pair}
use Rattle.sx_grammar.specs.Made.{IsGrammar}
use Rattle.sx_grammar.specs.Known.{IsTextAmong}
use Rattle.sx_grammar.specs.Tables.{literals_of}
use Rattle.sx_grammar.proofs.Finding.{at_contains, is_head, past_head, mapped_at, in_flat_map}
use Rattle.sx_grammar.proofs.DistinctLaws.{distinct_has, distinct_from}

-- the text is a literal of the grammar: it stands in one of its productions or opens or closes brackets
abbrev pub HasLiteral : Grammar → Text → Type 0
HasLiteral g text = (head : Head) × (dot : ℕ) × NextIs g head dot (literal text)

literal_from : (ns : List Text) (s : NamedSymbol) (text : Text) → numbered_symbol ns s ≡ literal text → s ≡ Lit text
literal_from ns (Lit other) text e = let same : other ≡ text = cc in ap Lit same
literal_from ns (Lex kind) text e = cc
literal_from ns (Part name l) text e = cc

-- of the three symbols of a bracket pair the first and the last are literals
in_three : (sort : ℕ) (pair : Text × Text) (dot : ℕ) (text : Text) → slice_get (literal pair.0 ∷ part sort 0 ∷ literal pair.1 ∷ []) dot ≡ Some (literal text) → Contains (pair.0 ∷ pair.1 ∷ []) text
in_three sort pair zero text at = let same : pair.0 ≡ text = cc in subst (Contains (pair.0 ∷ pair.1 ∷ [])) same (is_head pair.0 (pair.1 ∷ []))
in_three sort pair (suc zero) text at = absurd cc
in_three sort pair (suc (suc zero)) text at =
    let same : pair.1 ≡ text = cc in subst (Contains (pair.0 ∷ pair.1 ∷ [])) same (past_head pair.0 (pair.1 ∷ []) pair.1 (is_head pair.1 []))
in_three sort pair (suc (suc (suc n))) text at = absurd (none-some (literal text) at)

in_pair : (sort dot : ℕ) (q : Production) (text : Text) (b : Option (Text × Text)) → bracket_production sort (numbered_pair b) ≡ Some q → slice_get q.symbols dot ≡ Some (literal text) → Contains (bracket_literals b) text
in_pair sort dot q text None is at = absurd (none-some q is)
in_pair sort dot q text (Some pair) is at =
    let made : Production = record { sort = sort; level = 100; symbols = literal pair.0 ∷ part sort 0 ∷ literal pair.1 ∷ [] } in
    in_three sort pair dot text (ap (λ (r : Production). slice_get r.symbols dot) (same_Some made q is) ∙ at)

module _ (p : Parts) where
  of_production : (label dot : ℕ) (text : Text) → NextIs (numbered p) (Labelled label) dot (literal text) → Contains (literals p) text
  of_production label dot text next =
      let line = mapped_at (numbered_line (names p)) p.productions label next.0 next.1 in
      let s = mapped_at (numbered_symbol (names p)) line.0.symbols dot (literal text) (ap (λ (q : Production). slice_get q.symbols dot) line.2 ∙ next.2) in
      let there : Contains (flat_map symbol_literals line.0.symbols) text =
      in_flat_map symbol_literals line.0.symbols (Lit text) text (at_contains line.0.symbols dot (Lit text) (s.1 ∙ ap Some (literal_from (names p) s.0 text s.2))) (is_head text []) in
      Contains-append_right (flat_map (λ s. bracket_literals s.brackets) p.sorts) (flat_map (λ r. flat_map symbol_literals r.symbols) p.productions) text
      (in_flat_map (λ r. flat_map symbol_literals r.symbols) p.productions line.0 text (at_contains p.productions label line.0 line.1) there)

  of_pair : (sort dot : ℕ) (q : Production) (text : Text) (o : Option SortLine) → slice_get (map numbered_sort p.sorts) sort ≡ o → bracket_production sort (brackets_of o) ≡ Some q → slice_get q.symbols dot ≡ Some (literal text) →
      Contains (literals p) text
  of_pair sort dot q text None here is at = absurd (none-some q is)
  of_pair sort dot q text (Some line) here is at =
      let s = mapped_at numbered_sort p.sorts sort line here in
      Contains-append_left (flat_map (λ s. bracket_literals s.brackets) p.sorts) (flat_map (λ r. flat_map symbol_literals r.symbols) p.productions) text
      (in_flat_map (λ s. bracket_literals s.brackets) p.sorts s.0 text (at_contains p.sorts sort s.0 s.1)
      (in_pair sort dot q text s.0.brackets (ap (λ (l : SortLine). bracket_production sort l.brackets) s.2 ∙ is) at))

  of_head : (head : Head) (dot : ℕ) (text : Text) → NextIs (numbered p) head dot (literal text) → Contains (literals p) text
  of_head (Labelled label) dot text next = of_production label dot text next
  of_head (Bracketed sort) dot text next = of_pair sort dot next.0 text (slice_get (map numbered_sort p.sorts) sort) refl next.1 next.2

  -- a literal of the grammar is among its literals
  pub own_literal : (text : Text) → HasLiteral (numbered p) text → IsTextAmong (literals_of p) text
  own_literal text has = distinct_has (literals p) text (of_head has.0 has.1 text has.2)

no_word : IsWordLiteral [] → ⊥
no_word w = absurd (omega (arith, ap length w.split, length-append (encode_utf8 w.first) w.others, length-encode w.first, (len_utf8_bounds w.first).0))

no_symbols : IsSymbolLiteral [] → ⊥
no_symbols s = absurd (omega (arith, s.0.0))

-- no literal of a grammar is empty
pub none_empty : (p : Parts) → IsGrammar p → Contains (literals_of p) [] → ⊥
none_empty p is has = is.0.0.0.0.0.0 [] (distinct_from (literals p) [] has) (no_word, no_symbols)

-- what stands at a place of the texts is among them
at_place : (texts : List Text) (n : ℕ) → n < length texts → Contains texts (slice_index_or texts n [])
at_place [] n low = absurd (omega (arith, low))
at_place (x ∷ xs) zero low = is_head x xs
at_place (x ∷ xs) (suc n) low = past_head x xs (slice_index_or xs n []) (at_place xs n (omega (arith, low)))

-- so the text of no number is
pub never_empty : (p : Parts) → IsGrammar p → (n : ℕ) → n < length (literals_of p) → slice_index_or (literals_of p) n [] ≡ [] → ⊥
never_empty p is n low e = none_empty p is (subst (Contains (literals_of p)) e (at_place (literals_of p) n low))
