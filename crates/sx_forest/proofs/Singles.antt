-- Readings by a head whose one symbol is a token.
use Rattle.std.proofs.Common.{◌≡◌, ◌∙◌, ℕ, suc, List, [], ◌∷◌, inl, inr, Some, sym, subst, ap, refl, length, arith}
use Rattle.std.specs.List.{slice_get}
use Rattle.std.proofs.lemmas.Option.{same_Some, none-some}
use Rattle.sx_term.specs.declared.lex_kind.LexKind.{LexKind}
use Rattle.sx_grammar.specs.declared.head.Head.{Head}
use Rattle.sx_grammar.specs.Grammar.{Symbol, Text, literal, lexical, Production, Grammar, Token}
use Rattle.sx_grammar.specs.Grammar.{production_of}
use Rattle.sx_grammar.specs.Reading.{Reading, Readings, done, ◌▸◌, ReadsAll, all_read, by_literal}
use Rattle.sx_grammar.specs.Reading.{by_lexeme, by_lexical_variable, ReadsBy}
use Rattle.sx_grammar.specs.Items.{ReadsToken, Span}
use Rattle.sx_grammar.specs.Tally.{IsLeafAt}
use Rattle.sx_grammar.proofs.Soundness.{items_read, whole_of}
use Rattle.sx_earley.specs.Chart.{next_symbol}
use Rattle.sx_forest.specs.declared.entry.Maker.TheVariants.{By}
use Rattle.sx_forest.specs.Rows.{symbol_count}
use Rattle.sx_forest.specs.Forests.{symbols_in, symbols_of, IsBy, HasKids, IsReadingMade}
use Rattle.sx_forest.proofs.Making.{are_kids, made_reads}
use Rattle.sx_forest.proofs.Stepwise.{symbol_there, count_long, leaf_read}

only_one : (xs : List Symbol) (x : Symbol) → length xs ≡ 1 → slice_get xs 0 ≡ Some x → xs ≡ x ∷ []
only_one [] x long e = absurd (none-some x e)
only_one (y ∷ []) x long e = ap (λ z. z ∷ []) (same_Some y x e)
only_one (y ∷ z ∷ zs) x long e = absurd (omega arith)

-- the one symbol of a head is the first
pub lone_symbol : (g : Grammar) (head : Head) (x : Symbol) → symbol_count (production_of g head) ≡ 1 → next_symbol g head 0 ≡ Some x → symbols_of g head ≡ x ∷ []
lone_symbol g head x one first =
    only_one (symbols_of g head) x (sym (count_long (production_of g head)) ∙ one) (sym (symbol_there (production_of g head) 0) ∙ first)

module _ (g : Grammar) (tokens : List Token) where
  literal_none : (text : Text) (from to : ℕ) (ks : Readings) → ReadsAll g tokens (literal text ∷ []) from to ks → ReadsAll g tokens (literal text ∷ []) from to done
  literal_none text from to ks (by_literal h all_read) = by_literal h all_read

  token_there : (kind : LexKind) (from to : ℕ) (ks : Readings) → ReadsAll g tokens (lexical kind ∷ []) from to ks → ReadsToken tokens (lexical kind) from × (to ≡ suc from)
  token_there kind from to ks (by_lexeme h all_read) = (inl h, refl)
  token_there kind from to ks (by_lexical_variable h all_read) = (inr h, refl)

  module _ (start : ℕ) (head : Head) (from to : ℕ) (span : Span g tokens start head from to) where
    abbrev p : Production
    p = span.1.0

    is : production_of g head ≡ Some p
    is = span.1.1

    symbols : symbols_of g head ≡ p.symbols
    symbols = ap symbols_in is

    some_read : (ks : Readings) × ReadsAll g tokens (symbols_of g head) from to ks
    some_read =
        let all = items_read g tokens start span.2 p is in
        let whole = whole_of g tokens head span.0 p span.1 is in
        (all.0, subst (λ xs. ReadsAll g tokens xs from to all.0) (whole ∙ sym symbols) all.1)

    -- a literal alone has no kids
    pub literal_alone : (text : Text) → symbols_of g head ≡ literal text ∷ [] → ReadsAll g tokens (symbols_of g head) from to done
    literal_alone text e =
        let all = subst (λ xs. ReadsAll g tokens xs from to some_read.0) e some_read.1 in
        subst (λ xs. ReadsAll g tokens xs from to done) (sym e) (literal_none text from to some_read.0 all)

    -- another token alone is the one kid
    pub token_alone : (kind : LexKind) (r : Reading) → symbols_of g head ≡ lexical kind ∷ [] → (ReadsToken tokens (lexical kind) from → IsLeafAt tokens kind from r) →
        ReadsAll g tokens (symbols_of g head) from to (r ▸ done)
    token_alone kind r e leaf =
        let all = subst (λ xs. ReadsAll g tokens xs from to some_read.0) e some_read.1 in
        let there = token_there kind from to some_read.0 all in
        subst (λ xs. ReadsAll g tokens xs from to (r ▸ done)) (sym e)
        (subst (λ end. ReadsAll g tokens (lexical kind ∷ []) from end (r ▸ done)) (sym there.1) (leaf_read g tokens kind from r (leaf there.0)))

    -- what reads all symbols are kids of the head
    pub kids_alone : (ks : Readings) → ReadsAll g tokens (symbols_of g head) from to ks → HasKids head ks
    kids_alone ks all = are_kids g tokens head p from to ks is (subst (λ xs. ReadsAll g tokens xs from to ks) symbols all)

    -- and what is made of them is by it
    pub made_alone : (ks : Readings) (r : Reading) → ReadsAll g tokens (symbols_of g head) from to ks → IsReadingMade head ks from to r → IsBy g tokens (By head) from to r
    made_alone ks r all made = λ sort makes.
        let reads = made_reads g tokens head p from to ks r is (subst (λ xs. ReadsAll g tokens xs from to ks) symbols all) made in
        let same : makes.production ≡ p = same_Some makes.production p (sym makes.is ∙ is) in
        let sort_is : p.sort ≡ sort = ap (λ q. q.sort) (sym same) ∙ makes.same_sort in
        subst (λ s. ReadsBy g tokens head s from to r) sort_is reads
