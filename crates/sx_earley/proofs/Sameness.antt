-- Token lists that a grammar reads in the same way.
use Rattle.std.proofs.Common.{◌≡◌, ◌∙◌, sym, subst, refl, ℕ, zero, suc, ◌<◌, ◌⊎◌, List, [], ◌∷◌, inl, inr, ⊎_elim, Result, Ok, Err, IfOk, Some, None, Option, map, length, arith}
use Rattle.std.specs.Prelude.{slice_get}
use Rattle.std.proofs.lemmas.Option.{same_Some, none-some, slice_get_within}
use Rattle.sx_term.specs.declared.sort.Sort.{Sort}
use Rattle.sx_term.specs.declared.sort.Sort.TheVariants as sorts
use Rattle.sx_term.specs.declared.mark.Mark.{Mark}
use Rattle.sx_term.specs.declared.mark.Mark.TheVariants as marks
use Rattle.sx_token.specs.declared.token.Token.{Token as Piece}
use Rattle.sx_grammar.specs.Grammar as plain
use Rattle.sx_grammar.specs.Grammar.{Text, Grammar, Symbol, literal, lexical, part, Token}
use Rattle.sx_grammar.specs.Grammar.{is_literal, is_lexeme, is_variable, of_kind, of_sort}
use Rattle.sx_grammar.specs.Reading.{Marked, IsLiteral}
use Rattle.sx_grammar.specs.Items as items
use Rattle.sx_grammar.specs.Items.{NextIs, ReadsToken, started, predicted, scanned, completed}
use Rattle.sx_grammar.specs.ReadOne.{MoreHold, IsGreatestEnd}
use Rattle.sx_grammar.specs.Parts.{Parts, numbered}
use Rattle.sx_grammar.specs.Made.{IsGrammar}
use Rattle.sx_grammar.specs.Tables.{GrammarData, literals_of}
use Rattle.sx_grammar.specs.declared.head.Head.{Head}
use Rattle.sx_earley.specs.declared.span.Span.{Span}
use Rattle.sx_earley.specs.Completed.{IsChart, head_of}
use Rattle.sx_earley.specs.declared.shown.Shown.{Shown}
use Rattle.sx_earley.specs.declared.shown.Shown.TheVariants.{Lit, Lex, Kind, Sort as OfSort, Other}
use Rattle.sx_earley.specs.Shown.{plain as plain_of, literal_texts, token_of, tokens_of, ShownBelow}
use Rattle.sx_earley.specs.Tokens.{Stems, meta_stem, stem_sort, found_stem, read_token}
use Rattle.sx_earley.specs.Tokens.{plain_tokens}
use Rattle.sx_earley.specs.Showing.{TokenShows, AllShow, IsLiteralShown, shown_stem}
use Rattle.sx_earley.proofs.Pairs.{got_at}
use Rattle.sx_earley.proofs.Literals.{HasLiteral, own_literal, none_empty}

-- the same text, or two texts that are no literals of the grammar
abbrev pub SameText : Grammar → Text → Text → Type 0
SameText g a b = (a ≡ b) ⊎ ((HasLiteral g a → ⊥) × (HasLiteral g b → ⊥))

-- the same mark, and where it is a literal's, texts that the grammar reads alike
abbrev Same : Grammar → Token → Token → Type 0
Same g x y = (x.mark ≡ y.mark) × (x.mark ≡ is_literal → SameText g x.text y.text)

abbrev pub AllSame : Grammar → List Token → List Token → Type 0
AllSame g [] [] = Unit {0}
AllSame g [] (y ∷ ys) = ⊥
AllSame g (x ∷ xs) [] = ⊥
AllSame g (x ∷ xs) (y ∷ ys) = Same g x y × AllSame g xs ys

text_turned : (g : Grammar) (a b : Text) → SameText g a b → SameText g b a
text_turned g a b (inl e) = inl (sym e)
text_turned g a b (inr none) = inr (none.1, none.0)

pub turned : (g : Grammar) (xs ys : List Token) → AllSame g xs ys → AllSame g ys xs
turned g [] [] h = tt
turned g [] (y ∷ ys) h = absurd h
turned g (x ∷ xs) [] h = absurd h
turned g (x ∷ xs) (y ∷ ys) h = ((sym h.0.0, λ e. text_turned g x.text y.text (h.0.1 (h.0.0 ∙ e))), turned g xs ys h.1)

same_at : (g : Grammar) (xs ys : List Token) (place : ℕ) (x : Token) → AllSame g xs ys → slice_get xs place ≡ Some x → (y : Token) × (slice_get ys place ≡ Some y) × Same g x y
same_at g [] [] place x h at = absurd (none-some x at)
same_at g [] (y ∷ ys) place x h at = absurd h
same_at g (z ∷ zs) [] place x h at = absurd h
same_at g (z ∷ zs) (y ∷ ys) zero x h at = (y, refl, subst (λ w. Same g w y) (same_Some z x at) h.0)
same_at g (z ∷ zs) (y ∷ ys) (suc n) x h at = same_at g zs ys n x h.1 at

-- a literal of the grammar is the same text
text_is : (g : Grammar) (a b : Text) → HasLiteral g a → SameText g a b → a ≡ b
text_is g a b has (inl e) = e
text_is g a b has (inr none) = absurd (none.0 has)

module _ (g : Grammar) (xs ys : List Token) (same : AllSame g xs ys) where
  pub literal_same : (place : ℕ) (text : Text) → HasLiteral g text → IsLiteral xs place text → IsLiteral ys place text
  literal_same place text has at =
      let s = same_at g xs ys place (record { mark = is_literal; text = text }) same at in
      let e : text ≡ s.0.text = text_is g text s.0.text has (s.2.1 refl) in
      s.1 ∙ (λ t. Some (record { mark = sym s.2.0 t; text = sym e t }))

  pub marked_same : (place : ℕ) (m : plain.Mark) → Marked xs place m → Marked ys place m
  marked_same place m h =
      let s = same_at g xs ys place (record { mark = m; text = h.0 }) same h.1 in
      (s.0.text, s.1 ∙ (λ t. Some (record { mark = sym s.2.0 t; text = s.0.text })))

  reads_same : (symbol : Symbol) (place : ℕ) → ((text : Text) → symbol ≡ literal text → HasLiteral g text) → ReadsToken xs symbol place → ReadsToken ys symbol place
  reads_same (literal text) place own h = literal_same place text (own text refl) h
  reads_same (lexical kind) place own (inl h) = inl (marked_same place (is_lexeme kind) h)
  reads_same (lexical kind) place own (inr h) = inr (marked_same place (is_variable (of_kind kind)) h)
  reads_same (part sort least) place own h = marked_same place (is_variable (of_sort sort)) h

  items_same : (start : ℕ) {head : Head} {dot origin end : ℕ} → items.Item g xs start head dot origin end → items.Item g ys start head dot origin end
  items_same start (started makes) = started makes
  items_same start (predicted item next makes) = predicted (items_same start item) next makes
  items_same start (scanned {head = head} {dot = dot} {end = end} {symbol = symbol} item next reads) =
      scanned (items_same start item) next (reads_same symbol end (λ text e. (head, dot, subst (NextIs g head dot) e next)) reads)
  items_same start (completed item next inner makes full) = completed (items_same start item) next (items_same start inner) makes full

  pub more_same : (start n : ℕ) → MoreHold g xs start n → MoreHold g ys start n
  more_same start n more = (more.0, more.1, more.2, λ i there. items_same start (more.3 i there))

  span_same : (start : ℕ) (head : Head) (from to : ℕ) → items.Span g xs start head from to → items.Span g ys start head from to
  span_same start head from to span = (span.0, span.1, items_same start span.2)

-- what a chart tells of the one list, it tells of the other
pub chart_same : (g : Grammar) (xs ys : List Token) → AllSame g xs ys → (start : ℕ) (spans : List Span) → IsChart g xs start spans → IsChart g ys start spans
chart_same g xs ys same start spans is s = (
  λ there. span_same g xs ys same start (head_of s.of) s.from s.to ((is s).0 there),
  λ span. (is s).1 (span_same g ys xs (turned g xs ys same) start (head_of s.of) s.from s.to span),
)

pub reach_same : (g : Grammar) (xs ys : List Token) → AllSame g xs ys → (start end : ℕ) → IsGreatestEnd g xs start end → IsGreatestEnd g ys start end
reach_same g xs ys same start end is = record {
  some = ⊎_elim (λ s. inl (s.0, items_same g xs ys same start s.1, s.2)) (λ s. inr ((λ i holds. s.0 i (items_same g ys xs (turned g xs ys same) start holds)), s.1)) is.some;
  bound = λ i holds. is.bound i (items_same g ys xs (turned g xs ys same) start holds);
}

-- what follows where there is a value
pub ok_if : {T E : Type 0} (r : Result T E) (P Q : T → Type 0) → ((x : T) → P x → Q x) → IfOk r P → IfOk r Q
ok_if (Ok x) P Q f h = f x h
ok_if (Err e) P Q f h = h

-- what a metavariable shows is what it stands for
variable_same : (g : Grammar) (literals : List Text) (o : Option Sort) (text : Text) → Same g (token_of literals (shown_stem o)) (record { mark = is_variable (found_stem o); text = text })
variable_same g literals None text = (refl, λ e. absurd cc)
variable_same g literals (Some (sorts.Lex kind)) text = (refl, λ e. absurd cc)
variable_same g literals (Some (sorts.Plain n)) text = (refl, λ e. absurd cc)
variable_same g literals (Some (sorts.Typed n)) text = (refl, λ e. absurd cc)

module _ (p : Parts) (is : IsGrammar p) where
  -- what a literal shows is read as its text is
  literal_shown : (text : Text) (s : Shown) → IsLiteralShown (literals_of p) text s → Same (numbered p) (token_of (literals_of p) s) (record { mark = is_literal; text = text })
  literal_shown text (Lit n) at = (refl, λ e. inl (got_at (literals_of p) n text [] at))
  literal_shown text (Lex kind) h = absurd h
  literal_shown text (Kind kind) h = absurd h
  literal_shown text (OfSort sort) h = absurd h
  literal_shown text Other none = (refl, λ e. inr ((λ has. own_literal p [] has (none_empty p is)), (λ has. own_literal p text has none)))

  token_same : (stems : Stems) (m : Mark) (text : Text) (s : Shown) → TokenShows (literals_of p) stems m text s → Same (numbered p) (token_of (literals_of p) s) (read_token stems m text)
  token_same stems (marks.Lit n) text s h = literal_shown text s h
  token_same stems (marks.Lex kind) text s h = subst (λ (x : Shown). Same (numbered p) (token_of (literals_of p) x) (record { mark = is_lexeme kind; text = text })) (sym h) (refl, λ e. absurd cc)
  token_same stems marks.Meta text s h =
      let o = stem_sort stems (meta_stem text) in
      subst (λ (x : Shown). Same (numbered p) (token_of (literals_of p) x) (record { mark = is_variable (found_stem o); text = text })) (sym h) (variable_same (numbered p) (literals_of p) o text)

  each_same : (stems : Stems) (ts : List Piece) (ss : List Shown) → AllShow (literals_of p) stems ts ss → AllSame (numbered p) (map (token_of (literals_of p)) ss) (plain_tokens stems ts)
  each_same stems [] [] h = tt
  each_same stems [] (s ∷ ss) h = absurd h
  each_same stems (t ∷ ts) [] h = absurd h
  each_same stems (t ∷ ts) (s ∷ ss) h = (token_same stems t.mark t.text s h.0, each_same stems ts ss h.1)

-- what is shown is read as the tokens are
pub shown_same : (d : GrammarData) → IsGrammar d.parts → (stems : Stems) (ts : List Piece) (ss : List Shown) → AllShow (literal_texts d) stems ts ss → AllSame (plain_of d) (tokens_of d ss) (plain_tokens stems ts)
shown_same d is stems ts ss h = each_same d.parts is stems ts ss h

-- each token shows one thing
pub shown_long : (literals : List Text) (stems : Stems) (ts : List Piece) (ss : List Shown) → AllShow literals stems ts ss → length ss ≡ length ts
shown_long literals stems [] [] h = refl
shown_long literals stems [] (s ∷ ss) h = absurd h
shown_long literals stems (t ∷ ts) [] h = absurd h
shown_long literals stems (t ∷ ts) (s ∷ ss) h = let e = shown_long literals stems ts ss h.1 in omega arith

no_literal : (o : Option Sort) (n : ℕ) → shown_stem o ≡ Lit n → ⊥
no_literal None n e = absurd cc
no_literal (Some (sorts.Lex kind)) n e = absurd cc
no_literal (Some (sorts.Plain m)) n e = absurd cc
no_literal (Some (sorts.Typed m)) n e = absurd cc

one_below : (literals : List Text) (stems : Stems) (m : Mark) (text : Text) (n : ℕ) → TokenShows literals stems m text (Lit n) → n < length literals
one_below literals stems (marks.Lit k) text n at = slice_get_within literals n text at
one_below literals stems (marks.Lex kind) text n e = absurd cc
one_below literals stems marks.Meta text n e = absurd (no_literal (stem_sort stems (meta_stem text)) n (sym e))

-- the numbers of literals that are shown are those of literals
pub shown_below : (literals : List Text) (stems : Stems) (ts : List Piece) (ss : List Shown) → AllShow literals stems ts ss → ShownBelow (length literals) ss
shown_below literals stems [] [] h k n at = absurd (none-some (Lit n) at)
shown_below literals stems [] (s ∷ ss) h k n at = absurd h
shown_below literals stems (t ∷ ts) [] h k n at = absurd h
shown_below literals stems (t ∷ ts) (s ∷ ss) h zero n at =
    one_below literals stems t.mark t.text n (subst (TokenShows literals stems t.mark t.text) (same_Some s (Lit n) at) h.0)
shown_below literals stems (t ∷ ts) (s ∷ ss) h (suc k) n at = shown_below literals stems ts ss h.1 k n at
