use Rattle.std.proofs.Common.{◌≡◌, ◌∙◌, sym, ap, refl, ℕ, zero, suc, ◌<◌, ◌↔◌, [], ◌∷◌, List, inl, inr, Some, length, arith}
use Rattle.std.specs.Prelude.{slice_get, slice_index_or, option_map}
use Rattle.std.proofs.lemmas.Option.{same_Some, slice_get-map, slice_get-get_or}
use Rattle.sx_term.specs.Cutting.{AreDistinct}
use Rattle.sx_grammar.specs.Grammar.{Text, Token, is_literal, is_lexeme, is_variable, of_kind}
use Rattle.sx_grammar.specs.Grammar.{of_sort}
use Rattle.sx_grammar.specs.Items.{ReadsToken}
use Rattle.sx_grammar.specs.Made.{IsGrammar}
use Rattle.sx_grammar.specs.Numbered.{symbol}
use Rattle.sx_grammar.specs.Tables.{GrammarData}
use Rattle.sx_grammar.specs.declared.numbered.NumberedSymbol.{NumberedSymbol}
use Rattle.sx_grammar.specs.declared.numbered.NumberedSymbol.TheVariants as symbols
use Rattle.sx_earley.specs.declared.shown.Shown.{Shown}
use Rattle.sx_earley.specs.declared.shown.Shown.TheVariants.{Lit, Lex, Kind, Sort, Other}
use Rattle.sx_earley.specs.Shown.{TakesShown, IsLiteralBelow, ShownBelow, literal_texts, token_of}
use Rattle.sx_earley.specs.Shown.{tokens_of}
use Rattle.sx_earley.proofs.Literals.{never_empty}
use Rattle.sx_earley.proofs.shown.reads.Goals as goal

text_at : (xs : List Text) (n : ℕ) → n < length xs → slice_get xs n ≡ Some (slice_index_or xs n [])
text_at [] n low = absurd (omega (arith, low))
text_at (x ∷ xs) zero low = refl
text_at (x ∷ xs) (suc n) low = text_at xs n (omega (arith, low))

module _ (d : GrammarData) (shown : List Shown) (place : ℕ) where
  at_token : (s : Shown) → slice_get shown place ≡ Some s → slice_get (tokens_of d shown) place ≡ Some (token_of (literal_texts d) s)
  at_token s at = slice_get-map (token_of (literal_texts d)) shown place ∙ ap (λ o. option_map (token_of (literal_texts d)) o) at

  is_token : (s : Shown) (t : Token) → slice_get shown place ≡ Some s → slice_get (tokens_of d shown) place ≡ Some t → token_of (literal_texts d) s ≡ t
  is_token s t at e = same_Some (token_of (literal_texts d) s) t (sym (at_token s at) ∙ e)

  read_if_taken : (x : NumberedSymbol) (s : Shown) → slice_get shown place ≡ Some s → TakesShown x s → ReadsToken (tokens_of d shown) (symbol (literal_texts d) x) place
  read_if_taken (symbols.Lit a) (Lit b) at e = at_token (Lit b) at ∙ ap (λ n. Some (record { mark = is_literal; text = slice_index_or (literal_texts d) n [] })) (sym e)
  read_if_taken (symbols.Lit a) (Lex k) at e = absurd e
  read_if_taken (symbols.Lit a) (Kind k) at e = absurd e
  read_if_taken (symbols.Lit a) (Sort n) at e = absurd e
  read_if_taken (symbols.Lit a) Other at e = absurd e
  read_if_taken (symbols.Lex a) (Lit b) at e = absurd e
  read_if_taken (symbols.Lex a) (Lex k) at e = inl ([], at_token (Lex k) at ∙ ap (λ x. Some (record { mark = is_lexeme x; text = [] })) (sym e))
  read_if_taken (symbols.Lex a) (Kind k) at e = inr ([], at_token (Kind k) at ∙ ap (λ x. Some (record { mark = is_variable (of_kind x); text = [] })) (sym e))
  read_if_taken (symbols.Lex a) (Sort n) at e = absurd e
  read_if_taken (symbols.Lex a) Other at e = absurd e
  read_if_taken (symbols.Part sort least) (Lit b) at e = absurd e
  read_if_taken (symbols.Part sort least) (Lex k) at e = absurd e
  read_if_taken (symbols.Part sort least) (Kind k) at e = absurd e
  read_if_taken (symbols.Part sort least) (Sort n) at e = ([], at_token (Sort n) at ∙ ap (λ x. Some (record { mark = is_variable (of_sort x); text = [] })) (sym e))
  read_if_taken (symbols.Part sort least) Other at e = absurd e

  module _ (is : IsGrammar d.parts) (apart : AreDistinct (literal_texts d)) (below : ShownBelow (length (literal_texts d)) shown) where
    taken_if_read : (x : NumberedSymbol) (s : Shown) → IsLiteralBelow (length (literal_texts d)) x → slice_get shown place ≡ Some s → ReadsToken (tokens_of d shown) (symbol (literal_texts d) x) place → TakesShown x s
    taken_if_read (symbols.Lit a) (Lit b) low at h =
        let same = ap (λ (t : Token). t.text) (is_token (Lit b) _ at h) in
        apart a b (slice_index_or (literal_texts d) a []) (text_at (literal_texts d) a low) (text_at (literal_texts d) b (below place b at) ∙ ap Some same)
    taken_if_read (symbols.Lit a) (Lex k) low at h = let e = ap (λ (t : Token). t.mark) (is_token (Lex k) _ at h) in absurd cc
    taken_if_read (symbols.Lit a) (Kind k) low at h = let e = ap (λ (t : Token). t.mark) (is_token (Kind k) _ at h) in absurd cc
    taken_if_read (symbols.Lit a) (Sort n) low at h = let e = ap (λ (t : Token). t.mark) (is_token (Sort n) _ at h) in absurd cc
    taken_if_read (symbols.Lit a) Other low at h = never_empty d.parts is a low (sym (ap (λ (t : Token). t.text) (is_token Other _ at h)))
    taken_if_read (symbols.Lex a) s low at (inl h) = of_lexeme s (ap (λ (t : Token). t.mark) (is_token s _ at h.1))
      where
        of_lexeme : (s : Shown) → (token_of (literal_texts d) s).mark ≡ is_lexeme a → TakesShown (symbols.Lex a) s
        of_lexeme (Lit b) e = absurd cc
        of_lexeme (Lex k) e = cc
        of_lexeme (Kind k) e = absurd cc
        of_lexeme (Sort n) e = absurd cc
        of_lexeme Other e = absurd cc
    taken_if_read (symbols.Lex a) s low at (inr h) = of_kind_variable s (ap (λ (t : Token). t.mark) (is_token s _ at h.1))
      where
        of_kind_variable : (s : Shown) → (token_of (literal_texts d) s).mark ≡ is_variable (of_kind a) → TakesShown (symbols.Lex a) s
        of_kind_variable (Lit b) e = absurd cc
        of_kind_variable (Lex k) e = absurd cc
        of_kind_variable (Kind k) e = cc
        of_kind_variable (Sort n) e = absurd cc
        of_kind_variable Other e = absurd cc
    taken_if_read (symbols.Part sort least) s low at h = of_sort_variable s (ap (λ (t : Token). t.mark) (is_token s _ at h.1))
      where
        of_sort_variable : (s : Shown) → (token_of (literal_texts d) s).mark ≡ is_variable (of_sort sort) → TakesShown (symbols.Part sort least) s
        of_sort_variable (Lit b) e = absurd cc
        of_sort_variable (Lex k) e = absurd cc
        of_sort_variable (Kind k) e = absurd cc
        of_sort_variable (Sort n) e = cc
        of_sort_variable Other e = absurd cc

    taken : (x : NumberedSymbol) (s : Shown) → IsLiteralBelow (length (literal_texts d)) x → slice_get shown place ≡ Some s → TakesShown x s ↔ ReadsToken (tokens_of d shown) (symbol (literal_texts d) x) place
    taken x s low at = (read_if_taken x s at, taken_if_read x s low at)

pub returns-in-Some : goal.returns-in-Some
returns-in-Some c =
    let d = c.args.grammar.now in let shown = c.args.shown.now in let place = c.args.place in let s = c.in-Some.token.now in
    let there = c.in-Some.ensures.lookup.3 in
    let at : slice_get shown place ≡ Some s = slice_get-get_or shown place s there.0 ∙ ap Some (sym (there.1 s)) in
    let both = taken d shown place c.facts.ensures.grammar c.facts.ensures.literals c.requires.shown c.args.expected s c.requires.expected at in
    ((λ yes. both.0 (c.takes.ensures.0 yes)), (λ read. c.takes.ensures.1 (both.1 read)))
