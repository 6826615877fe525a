-- The tokens of symbols with what stands at their places.
use Rattle.std.proofs.Common.{◌≡◌, ℕ, zero, suc, ◌+◌, ◌<◌, ◌≤◌, get_or, List, [], ◌∷◌, ◌++◌, length, map, drop, sym, ap, ◌∙◌, subst, arith}
use Rattle.std.specs.Prelude.{Option, slice_index_or}
use Rattle.std.specs.Borrow.{Bor}
use Rattle.std.proofs.lemmas.List.{at_drop_more, at_drop_all, append-nil}
use Rattle.sx_term.specs.declared.term.Term.{Term}
use Rattle.sx_term.specs.declared.lex_kind.LexKind.{LexKind}
use Rattle.sx_term.proofs.Cores.{Grows, Grows-trans}
use Rattle.sx_grammar.specs.declared.numbered.NumberedSymbol.{NumberedSymbol}
use Rattle.sx_grammar.specs.declared.numbered.NumberedSymbol.TheVariants.{Lit, Lex, Part}
use Rattle.sx_grammar.specs.Grammar.{Text, Stem, of_kind, of_sort, Token, Grammar}
use Rattle.sx_grammar.specs.Numbered.{symbol}
use Rattle.sx_grammar.specs.Print.{literal_token, print_symbols}
use Rattle.sx_print.specs.Printed.{AddsTokens, parts_in}
use Rattle.sx_print.proofs.Adding.{AddsTokens-append, AddsTokens-none}
use Rattle.sx_notation.specs.GoalText.{printer}
use Rattle.sx_notation.specs.Placed.{shown_term, IsPuttable, ArePuttable}

-- what stands at one place
pub puttable_at : (g : Grammar) (variables : ℕ) (cs : List (Option (Bor Term))) (n : ℕ) (k : Option (Bor Term)) → ArePuttable g variables (map shown_term cs) → n < length cs → k ≡ get_or cs n k → IsPuttable g variables (shown_term k)
puttable_at g variables [] n k are lt at = absurd (omega (arith, lt))
puttable_at g variables (c ∷ cs) zero k are lt at = subst (λ x. IsPuttable g variables (shown_term x)) (sym at) are.0
puttable_at g variables (c ∷ cs) (suc n) k are lt at = puttable_at g variables cs n k are.1 (omega (arith, lt)) at

module _ (literals : List Text) (g : Grammar) (vars : List Text) where
  -- the tokens of symbols and contents
  abbrev pub row : List NumberedSymbol → List (Option (Bor Term)) → List Token
  row ss cs = print_symbols (map (symbol literals) ss) (map (printer g vars) (map shown_term cs))

  -- where the symbols and contents that are left are added, all are
  abbrev pub Leads : List NumberedSymbol → List (Option (Bor Term)) → (i n : ℕ) (start now : List ℕ) → Type 0
  Leads ss cs i n start now = (end : List ℕ) → AddsTokens (row (drop i ss) (drop n cs)) now end → AddsTokens (row ss cs) start end

  leads_on : (ss : List NumberedSymbol) (cs : List (Option (Bor Term))) (i n j m : ℕ) (here : List Token) (start now next : List ℕ) → row (drop i ss) (drop n cs) ≡ here ++ row (drop j ss) (drop m cs)
      → Leads ss cs i n start now → AddsTokens here now next → Leads ss cs j m start next
  leads_on ss cs i n j m here start now next e leads adds end rest =
      leads end (subst (λ x. AddsTokens x now end) (sym e) (AddsTokens-append here (row (drop j ss) (drop m cs)) now next end adds rest))

  -- the symbol at the place, before the rest
  symbols_drop : (ss : List NumberedSymbol) (i : ℕ) (d s : NumberedSymbol) → i < length ss → get_or ss i d ≡ s → map (symbol literals) (drop i ss) ≡ symbol literals s ∷ map (symbol literals) (drop (i + 1) ss)
  symbols_drop ss i d s lt is = at_drop_more (map (symbol literals)) ss i d lt ∙ ap (λ x. symbol literals x ∷ map (symbol literals) (drop (i + 1) ss)) is

  printers_drop : (cs : List (Option (Bor Term))) (n : ℕ) (k : Option (Bor Term)) → n < length cs → k ≡ get_or cs n k
      → map (printer g vars) (map shown_term (drop n cs)) ≡ printer g vars (shown_term k) ∷ map (printer g vars) (map shown_term (drop (n + 1) cs))
  printers_drop cs n k lt at = at_drop_more (λ x. map (printer g vars) (map shown_term x)) cs n k lt ∙ ap (λ x. printer g vars (shown_term x) ∷ map (printer g vars) (map shown_term (drop (n + 1) cs))) (sym at)

  -- as many parts are left as contents
  abbrev pub Counts : List NumberedSymbol → (i n all : ℕ) → Type 0
  Counts ss i n all = parts_in (map (symbol literals) (drop i ss)) + n ≡ all

  -- where the walk over the symbols stands: before the symbol i and the content n
  pub record Progress (ss : List NumberedSymbol) (cs : List (Option (Bor Term))) (i n : ℕ) (start now : List ℕ) : Type 0 where
    pub counts : Counts ss i n (length cs)
    pub leads : Leads ss cs i n start now
    pub appends : Grows start now

  pub no_progress : (ss : List NumberedSymbol) (cs : List (Option (Bor Term))) (start : List ℕ) → parts_in (map (symbol literals) ss) ≡ length cs → Progress ss cs 0 0 start start
  no_progress ss cs start many = record {
    counts = omega (arith, many);
    leads = λ end adds. adds;
    appends = ([], sym (append-nil start));
  }

  pub past_literal : (ss : List NumberedSymbol) (cs : List (Option (Bor Term))) (i n number : ℕ) (d : NumberedSymbol) (start now next : List ℕ) → Progress ss cs i n start now → i < length ss → get_or ss i d ≡ Lit number
      → AddsTokens (literal_token (slice_index_or literals number []) ∷ []) now next → Progress ss cs (i + 1) n start next
  past_literal ss cs i n number d start now next before lt is adds =
      let e = symbols_drop ss i d (Lit number) lt is in
      record {
        counts = ap (λ x. x + n) (sym (ap parts_in e)) ∙ before.counts;
        leads = leads_on ss cs i n (i + 1) n (literal_token (slice_index_or literals number []) ∷ []) start now next
            (ap (λ x. print_symbols x (map (printer g vars) (map shown_term (drop n cs)))) e) before.leads adds;
        appends = Grows-trans start now next before.appends (_, adds.text);
      }

  counts_lexeme : (ss : List NumberedSymbol) (i n all : ℕ) (kind : LexKind) (d : NumberedSymbol) → i < length ss → get_or ss i d ≡ Lex kind → Counts ss i n all → (n < all) × Counts ss (i + 1) (n + 1) all
  counts_lexeme ss i n all kind d lt is counts =
      let e : parts_in (map (symbol literals) (drop i ss)) ≡ parts_in (map (symbol literals) (drop (i + 1) ss)) + 1 = ap parts_in (symbols_drop ss i d (Lex kind) lt is) in
      (omega (arith, e, counts), omega (arith, e, counts))

  counts_part : (ss : List NumberedSymbol) (i n all sort least : ℕ) (d : NumberedSymbol) → i < length ss → get_or ss i d ≡ Part sort least → Counts ss i n all → (n < all) × Counts ss (i + 1) (n + 1) all
  counts_part ss i n all sort least d lt is counts =
      let e : parts_in (map (symbol literals) (drop i ss)) ≡ parts_in (map (symbol literals) (drop (i + 1) ss)) + 1 = ap parts_in (symbols_drop ss i d (Part sort least) lt is) in
      (omega (arith, e, counts), omega (arith, e, counts))

  pub within_lexeme : (ss : List NumberedSymbol) (cs : List (Option (Bor Term))) (i n : ℕ) (kind : LexKind) (d : NumberedSymbol) (start now : List ℕ) → Progress ss cs i n start now → i < length ss → get_or ss i d ≡ Lex kind → n < length cs
  within_lexeme ss cs i n kind d start now before lt is = (counts_lexeme ss i n (length cs) kind d lt is before.counts).0

  pub within_part : (ss : List NumberedSymbol) (cs : List (Option (Bor Term))) (i n sort least : ℕ) (d : NumberedSymbol) (start now : List ℕ) → Progress ss cs i n start now → i < length ss → get_or ss i d ≡ Part sort least → n < length cs
  within_part ss cs i n sort least d start now before lt is = (counts_part ss i n (length cs) sort least d lt is before.counts).0

  pub past_lexeme : (ss : List NumberedSymbol) (cs : List (Option (Bor Term))) (i n : ℕ) (kind : LexKind) (d : NumberedSymbol) (k : Option (Bor Term)) (start now next : List ℕ) → Progress ss cs i n start now → i < length ss
      → get_or ss i d ≡ Lex kind → k ≡ get_or cs n k → ((place : Stem) → AddsTokens (printer g vars (shown_term k) place 0) now next) → Progress ss cs (i + 1) (n + 1) start next
  past_lexeme ss cs i n kind d k start now next before lt is at adds =
      let counts = counts_lexeme ss i n (length cs) kind d lt is before.counts in
      record {
        counts = counts.1;
        leads = leads_on ss cs i n (i + 1) (n + 1) (printer g vars (shown_term k) (of_kind kind) 0) start now next
            (λ j. print_symbols (symbols_drop ss i d (Lex kind) lt is j) (printers_drop cs n k counts.0 at j)) before.leads (adds (of_kind kind));
        appends = Grows-trans start now next before.appends (_, (adds (of_kind kind)).text);
      }

  pub past_part : (ss : List NumberedSymbol) (cs : List (Option (Bor Term))) (i n sort least : ℕ) (d : NumberedSymbol) (k : Option (Bor Term)) (start now next : List ℕ) → Progress ss cs i n start now → i < length ss
      → get_or ss i d ≡ Part sort least → k ≡ get_or cs n k → ((place : Stem) → AddsTokens (printer g vars (shown_term k) place least) now next) → Progress ss cs (i + 1) (n + 1) start next
  past_part ss cs i n sort least d k start now next before lt is at adds =
      let counts = counts_part ss i n (length cs) sort least d lt is before.counts in
      record {
        counts = counts.1;
        leads = leads_on ss cs i n (i + 1) (n + 1) (printer g vars (shown_term k) (of_sort sort) least) start now next
            (λ j. print_symbols (symbols_drop ss i d (Part sort least) lt is j) (printers_drop cs n k counts.0 at j)) before.leads (adds (of_sort sort));
        appends = Grows-trans start now next before.appends (_, (adds (of_sort sort)).text);
      }

  -- at the end nothing is left
  pub to_end : (ss : List NumberedSymbol) (cs : List (Option (Bor Term))) (i n : ℕ) (start now : List ℕ) → length ss ≤ i → Progress ss cs i n start now → AddsTokens (row ss cs) start now
  to_end ss cs i n start now past before =
      before.leads now (subst (λ x. AddsTokens x now now) (sym (at_drop_all (λ x. row x (drop n cs)) ss i past)) (AddsTokens-none now))
