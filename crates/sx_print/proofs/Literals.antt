-- The literals of productions and brackets are among those of the grammar.
use Rattle.std.proofs.Common.{◌≡◌, ℕ, List, [], ◌∷◌, Bool, true, false, not, Some, sym, refl, ap, ◌∙◌, subst, ◌⊎◌, inl, inr, ⊎_elim, Contains}
use Rattle.std.specs.Prelude.{slice_get, option_map, None, Option, flat_map, filter}
use Rattle.std.specs.Str.{bytes_eq}
use Rattle.std.proofs.lemmas.Bool.{cases_Bool}
use Rattle.std.proofs.lemmas.Slice.Eq.{bytes_eq-Decides}
use Rattle.std.proofs.lemmas.List.Elements.{Contains-append_left, Contains-append_right}
use Rattle.sx_grammar.proofs.Finding.{at_contains, contains_place, is_head, past_head, head_or_rest, mapped_at, in_flat_map}
use Rattle.sx_grammar.specs.declared.symbol.Symbol.{Symbol}
use Rattle.sx_grammar.specs.declared.symbol.Symbol.TheVariants.{Lit, Lex, Part}
use Rattle.sx_grammar.specs.declared.sort_line.SortLine.{SortLine}
use Rattle.sx_grammar.specs.Grammar as plain
use Rattle.sx_grammar.specs.Grammar.{Text, Production, literal, pair_of, brackets_of}
use Rattle.sx_grammar.specs.Parts.{Parts, names, literals, bracket_literals, symbol_literals, numbered, numbered_symbol, numbered_line, numbered_sort}
use Rattle.sx_grammar.specs.Made.{IsGrammar, IsBadLiteral}
use Rattle.sx_grammar.specs.Distinct.{distinct}
use Rattle.sx_grammar.specs.Tables.{literals_of}

filter_keeps : (p : Text → Bool) (xs : List Text) (x : Text) → Contains xs x → p x ≡ true → Contains (filter p xs) x
filter_keeps p [] x has e = has
filter_keeps p (y ∷ xs) x has e = ⊎_elim (λ same. here same) (λ rest. later (cases_Bool (p y)) (filter_keeps p xs x rest e)) (head_or_rest y xs x has)
  where
    here : y ≡ x → Contains (filter p (y ∷ xs)) x
    here same = rw (ap p same ∙ e) (subst (λ z. Contains (z ∷ filter p xs) x) (sym same) (is_head x (filter p xs)))

    later : ((p y ≡ true) ⊎ (p y ≡ false)) → Contains (filter p xs) x → Contains (filter p (y ∷ xs)) x
    later (inl t) rest = rw t (past_head y (filter p xs) x rest)
    later (inr f) rest = rw f rest

-- each text of a list is among the distinct ones
pub in_distinct : (xs : List Text) (x : Text) → Contains xs x → Contains (distinct xs) x
in_distinct [] x has = has
in_distinct (y ∷ xs) x has = ⊎_elim (λ same. here same) (λ rest. by_test (cases_Bool (bytes_eq y x)) (in_distinct xs x rest)) (head_or_rest y xs x has)
  where
    here : y ≡ x → Contains (distinct (y ∷ xs)) x
    here same = subst (Contains (distinct (y ∷ xs))) same (is_head y (filter (λ z. not (bytes_eq y z)) (distinct xs)))

    by_test : ((bytes_eq y x ≡ true) ⊎ (bytes_eq y x ≡ false)) → Contains (distinct xs) x → Contains (distinct (y ∷ xs)) x
    by_test (inl t) rest = here ((bytes_eq-Decides y x).0 t)
    by_test (inr f) rest = past_head y (filter (λ z. not (bytes_eq y z)) (distinct xs)) x (filter_keeps (λ z. not (bytes_eq y z)) (distinct xs) x rest (ap not f))

-- a literal with a number that is not bad
abbrev pub IsGoodLiteral : Parts → Text → Type 0
IsGoodLiteral p text = (number : ℕ) × (slice_get (literals_of p) number ≡ Some text) × ¬ (IsBadLiteral text)

good_literal : (p : Parts) → IsGrammar p → (text : Text) → Contains (literals p) text → IsGoodLiteral p text
good_literal p is text has =
    let place = contains_place (literals_of p) text (in_distinct (literals p) text has) in
    (place.0, place.1, is.0.0.0.0.0.0 text has)

literal_from : (ns : List Text) (s : Symbol) (text : Text) → numbered_symbol ns s ≡ literal text → s ≡ Lit text
literal_from ns (Lit other) text e = let same : other ≡ text = cc in ap Lit same
literal_from ns (Lex kind) text e = cc
literal_from ns (Part name l) text e = cc

-- a literal of a production
pub production_literal : (p : Parts) → IsGrammar p → (label : ℕ) (r : Production) → slice_get (numbered p).productions label ≡ Some r → (text : Text) → Contains r.symbols (literal text) → IsGoodLiteral p text
production_literal p is label r at text has =
    let line = mapped_at (numbered_line (names p)) p.productions label r at in
    let place = contains_place r.symbols (literal text) has in
    let s = mapped_at (numbered_symbol (names p)) line.0.symbols place.0 (literal text) (ap (λ q. slice_get q.symbols place.0) line.2 ∙ place.1) in
    let symbol = literal_from (names p) s.0 text s.2 in
    let in_symbols : Contains (flat_map symbol_literals line.0.symbols) text =
    in_flat_map symbol_literals line.0.symbols (Lit text) text (at_contains line.0.symbols place.0 (Lit text) (s.1 ∙ ap Some symbol)) (is_head text []) in
    good_literal p is text (Contains-append_right (flat_map (λ s. bracket_literals s.brackets) p.sorts) (flat_map (λ r. flat_map symbol_literals r.symbols) p.productions) text
    (in_flat_map (λ r. flat_map symbol_literals r.symbols) p.productions line.0 text (at_contains p.productions label line.0 line.1) in_symbols))

bracketed_line : (o : Option plain.SortLine) (pair : plain.Brackets) → brackets_of o ≡ Some pair → (line : plain.SortLine) × (o ≡ Some line) × (line.brackets ≡ Some pair)
bracketed_line None pair e = let clash : None ≡ Some pair = e in cc
bracketed_line (Some line) pair e = (line, refl, e)

pair_from : (b : Option (Text × Text)) (pair : plain.Brackets) → option_map (λ q. record { opening = q.0; closing = q.1 }) b ≡ Some pair → (q : Text × Text) × (b ≡ Some q) × (q.0 ≡ pair.opening) × (q.1 ≡ pair.closing)
pair_from None pair e = let clash : None ≡ Some pair = e in cc
pair_from (Some q) pair e =
    let made : plain.Brackets = record { opening = q.0; closing = q.1 } in
    let whole : Some made ≡ Some pair = e in
    let same : made ≡ pair = cc in
    (q, refl, ap (λ x. x.opening) same, ap (λ x. x.closing) same)

-- the literals of a sort's brackets
pub bracket_literal : (p : Parts) → IsGrammar p → (sort : ℕ) (pair : plain.Brackets) → pair_of (numbered p) sort ≡ Some pair → IsGoodLiteral p pair.opening × IsGoodLiteral p pair.closing
bracket_literal p is sort pair e =
    let line = bracketed_line (slice_get (numbered p).sorts sort) pair e in
    let s = mapped_at numbered_sort p.sorts sort line.0 line.1 in
    let q = pair_from s.0.brackets pair (ap (λ x. x.brackets) s.2 ∙ line.2) in
    let sorts = flat_map (λ s. bracket_literals s.brackets) p.sorts in
    let others = flat_map (λ r. flat_map symbol_literals r.symbols) p.productions in
    let among : (text : Text) → Contains (bracket_literals s.0.brackets) text → IsGoodLiteral p text =
    λ text has. good_literal p is text (Contains-append_left sorts others text (in_flat_map (λ s. bracket_literals s.brackets) p.sorts s.0 text (at_contains p.sorts sort s.0 s.1) has)) in (
      among pair.opening (subst (λ b. Contains (bracket_literals b) pair.opening) (sym q.1) (subst (Contains (q.0.0 ∷ q.0.1 ∷ [])) q.2 (is_head q.0.0 (q.0.1 ∷ [])))),
      among pair.closing (subst (λ b. Contains (bracket_literals b) pair.closing) (sym q.1) (subst (Contains (q.0.0 ∷ q.0.1 ∷ [])) q.3 (past_head q.0.0 (q.0.1 ∷ []) q.0.1 (is_head q.0.1 [])))),
    )
