-- How many tokens are printed of a node and of its symbols.
use Rattle.std.proofs.Common.{◌≡◌, ℕ, ◌+◌, ◌-◌, ◌^◌, ◌<◌, ◌≤◌, get_or, min, Bool, true, false, cond}
use Rattle.std.proofs.Common.{List, [], ◌∷◌, ◌++◌, length, map, drop, Vec, Some, sym, refl, ap, ◌∙◌}
use Rattle.std.proofs.Common.{arith, length-append}
use Rattle.std.specs.Prelude.{None, Option, slice_get, slice_index_or, nat_lt}
use Rattle.std.specs.declared.alloc.Global.{Global}
use Rattle.std.proofs.lemmas.List.{at_drop_more, at_drop_all}
use Rattle.std.proofs.lemmas.Option.{get_or_from_slice_get, slice_get-get_or}
use Rattle.sx_term.specs.declared.term.Term.{Term, Node}
use Rattle.sx_term.specs.declared.lex_kind.LexKind.{LexKind}
use Rattle.sx_term.specs.Term.{tree}
use Rattle.sx_term.proofs.Kids.{trees, tree-at_node, trees-drop}
use Rattle.sx_grammar.specs.declared.numbered.NumberedSymbol.{NumberedSymbol}
use Rattle.sx_grammar.specs.declared.numbered.NumberedSymbol.TheVariants.{Lit, Lex, Part}
use Rattle.sx_grammar.specs.declared.numbered.NumberedProduction.{NumberedProduction}
use Rattle.sx_grammar.specs.Grammar.{Brackets, Stem, of_kind, of_sort, Token, pair_of}
use Rattle.sx_grammar.specs.Parts.{Parts, numbered}
use Rattle.sx_grammar.specs.Numbered.{symbol, production}
use Rattle.sx_grammar.specs.Tables.{literals_of}
use Rattle.sx_grammar.specs.Print.{literal_token, in_brackets, print, print_each, print_node}
use Rattle.sx_grammar.specs.Print.{print_symbols}
use Rattle.sx_print.specs.Printed.{brackets_below, parts_in}
use Rattle.sx_print.proofs.Walking.{row, Counts, counts_past_literal, counts_past_lexeme}
use Rattle.sx_print.proofs.Walking.{counts_past_part}

-- brackets round tokens are as many as brackets round none
length-in_brackets : (pair : Option Brackets) (inner : List Token) → length (in_brackets pair inner)
    ≡ length (in_brackets pair []) + length inner
length-in_brackets None inner = omega arith
length-in_brackets (Some pair) inner =
    omega (arith, length-append inner (literal_token pair.closing ∷ []))

by_test : (b : Bool) (pair : Option Brackets) (inner : List Token) → cond b (in_brackets pair inner)
    inner ≡ in_brackets (cond b pair None) inner
by_test true pair inner = refl
by_test false pair inner = refl

symbol_is : (ss : List NumberedSymbol) (i : ℕ) (d s : NumberedSymbol) → i < length ss →
    get_or ss i d ≡ s → s ≡ get_or ss i s
symbol_is ss i d s lt e = sym (get_or_from_slice_get ss i s s (slice_get-get_or ss i d lt
    ∙ ap Some e))

module _ (p : Parts) where
  -- a node is its symbols in the brackets that it needs
  pub node_counts : (term : Term) (label : ℕ) (kids : Vec Term Global) (q : NumberedProduction)
      (least : ℕ) (ss : List NumberedSymbol) (ts : List Term) (brackets inner result : ℕ) →
      term ≡ Node label kids
      → slice_get (numbered p).productions label ≡ Some (production (literals_of p) q) →
      ss ≡ q.symbols.items → ts ≡ kids.items
      → brackets ≡ length (in_brackets (brackets_below (numbered p) q.sort q.level least) []) →
      inner ≡ min (length (row p [] ss ts)) (2 ^ 64 - 1) → result ≡ min (brackets + inner)
      (2 ^ 64 - 1)
      → (place : Stem) → result ≡ min (length (print (numbered p) [] (tree term) place least))
      (2 ^ 64 - 1)
  node_counts term label kids q least ss ts brackets inner result is here symbols same round within
      sum place =
      let pair = brackets_below (numbered p) q.sort q.level least in
      let e : print (numbered p) [] (tree term) place least ≡ in_brackets pair (row p [] ss ts) =
      ap (λ t. print (numbered p) [] t place least) (tree-at_node term label kids is)
      ∙ ap (λ r. print_node (numbered p) r (print_each (numbered p) [] (trees kids.items)) least)
      here
      ∙ by_test (nat_lt q.level least) (pair_of (numbered p) q.sort)
      (row p [] q.symbols.items kids.items)
      ∙ sym (λ i. in_brackets pair (row p [] (symbols i) (same i))) in
      let n : length (print (numbered p) [] (tree term) place least) ≡ length (in_brackets pair [])
      + length (row p [] ss ts) = ap length e ∙ length-in_brackets pair (row p [] ss ts) in
      omega (arith, n, round, within, sum)

  -- what is counted of the symbols before i, with what is printed of the others, is what is printed
  -- of all
  abbrev pub Sums : List NumberedSymbol → List Term → (i n total : ℕ) → Type 0
  Sums ss ts i n total = min (total + length (row p [] (drop i ss) (drop n ts))) (2 ^ 64 - 1) ≡ min
      (length (row p [] ss ts)) (2 ^ 64 - 1)

  sums_on : (ss : List NumberedSymbol) (ts : List Term) (i n j m : ℕ) (here : List Token)
      (total next : ℕ) → row p [] (drop i ss) (drop n ts) ≡ here ++ row p [] (drop j ss) (drop m ts)
      → Sums ss ts i n total → next ≡ min (total + min (length here) (2 ^ 64 - 1)) (2 ^ 64 - 1) →
      Sums ss ts j m next
  sums_on ss ts i n j m here total next e sums is =
      let l : length (row p [] (drop i ss) (drop n ts)) ≡ length here + length
      (row p [] (drop j ss) (drop m ts)) = ap length e ∙ length-append here
      (row p [] (drop j ss) (drop m ts)) in
      omega (arith, l, sums, is)

  -- where the walk over the symbols stands: before the symbol i and the kid n
  pub record Counted (ss : List NumberedSymbol) (ts : List Term) (i n total : ℕ) : Type 0 where
    pub counts : Counts p [] ss i n (length ts)
    pub sums : Sums ss ts i n total
    pub most : total ≤ 2 ^ 64 - 1

  symbols_drop : (ss : List NumberedSymbol) (i : ℕ) (s : NumberedSymbol) → i < length ss →
      s ≡ get_or ss i s → map (symbol (literals_of p)) (drop i ss) ≡ symbol (literals_of p) s ∷ map
      (symbol (literals_of p)) (drop (i + 1) ss)
  symbols_drop ss i s lt at = at_drop_more (map (symbol (literals_of p))) ss i s lt
      ∙ ap (λ x. symbol (literals_of p) x ∷ map (symbol (literals_of p)) (drop (i + 1) ss)) (sym at)

  pub nothing_counted : (ss : List NumberedSymbol) (ts : List Term) →
      parts_in (map (symbol (literals_of p)) ss) ≡ length ts → Counted ss ts 0 0 0
  nothing_counted ss ts many = record {
    counts = omega (arith, many);
    sums = omega arith;
    most =
        omega arith;
  }

  pub past_literal : (ss : List NumberedSymbol) (ts : List Term) (i n number : ℕ)
      (d : NumberedSymbol) (total next : ℕ) → Counted ss ts i n total → i < length ss →
      get_or ss i d ≡ Lit number
      → next ≡ min (total + 1) (2 ^ 64 - 1) → Counted ss ts (i + 1) n next
  past_literal ss ts i n number d total next before lt is sum =
      let at = symbol_is ss i d (Lit number) lt is in
      record {
        counts = counts_past_literal p [] ss i n (length ts) number (Lit number) lt at refl
            before.counts;
        sums = sums_on ss ts i n (i + 1) n (literal_token (slice_index_or (literals_of p) number [])
            ∷ []) total next
            (ap (λ x. print_symbols x (print_each (numbered p) [] (trees (drop n ts))))
            (symbols_drop ss i (Lit number) lt at)) before.sums (omega (arith, sum));
        most = omega (arith, sum);
      }

  pub kid_of_lexeme : (ss : List NumberedSymbol) (ts : List Term) (i n total : ℕ) (kind : LexKind)
      (d : NumberedSymbol) → Counted ss ts i n total → i < length ss → get_or ss i d ≡ Lex kind →
      n < length ts
  kid_of_lexeme ss ts i n total kind d before lt is =
      (counts_past_lexeme p [] ss i n (length ts) kind (Lex kind) lt
      (symbol_is ss i d (Lex kind) lt is) refl before.counts).0

  pub past_lexeme : (ss : List NumberedSymbol) (ts : List Term) (i n : ℕ) (kind : LexKind)
      (d : NumberedSymbol) (k : Term) (total count next : ℕ) → Counted ss ts i n total →
      i < length ss → get_or ss i d ≡ Lex kind
      → k ≡ get_or ts n k → ((place : Stem) →
      count ≡ min (length (print (numbered p) [] (tree k) place 0)) (2 ^ 64 - 1)) →
      next ≡ min (total + count) (2 ^ 64 - 1) → Counted ss ts (i + 1) (n + 1) next
  past_lexeme ss ts i n kind d k total count next before lt is kid counted sum =
      let at = symbol_is ss i d (Lex kind) lt is in
      let both = counts_past_lexeme p [] ss i n (length ts) kind (Lex kind) lt at refl before.counts
      in
      record {
        counts = both.1;
        sums = sums_on ss ts i n (i + 1) (n + 1) (print (numbered p) [] (tree k) (of_kind kind) 0)
            total next
            (λ j. print_symbols (symbols_drop ss i (Lex kind) lt at j)
            (print_each (numbered p) [] (trees-drop ts n k both.0 kid j))) before.sums
            (sum ∙ ap (λ x. min (total + x) (2 ^ 64 - 1)) (counted (of_kind kind)));
        most = omega (arith, sum);
      }

  pub kid_of_part : (ss : List NumberedSymbol) (ts : List Term) (i n total sort least : ℕ)
      (d : NumberedSymbol) → Counted ss ts i n total → i < length ss →
      get_or ss i d ≡ Part sort least → n < length ts
  kid_of_part ss ts i n total sort least d before lt is =
      (counts_past_part p [] ss i n (length ts) sort least (Part sort least) lt
      (symbol_is ss i d (Part sort least) lt is) refl before.counts).0

  pub past_part : (ss : List NumberedSymbol) (ts : List Term) (i n sort least : ℕ)
      (d : NumberedSymbol) (k : Term) (total count next : ℕ) → Counted ss ts i n total →
      i < length ss → get_or ss i d ≡ Part sort least
      → k ≡ get_or ts n k → ((place : Stem) →
      count ≡ min (length (print (numbered p) [] (tree k) place least)) (2 ^ 64 - 1)) →
      next ≡ min (total + count) (2 ^ 64 - 1) → Counted ss ts (i + 1) (n + 1) next
  past_part ss ts i n sort least d k total count next before lt is kid counted sum =
      let at = symbol_is ss i d (Part sort least) lt is in
      let both = counts_past_part p [] ss i n (length ts) sort least (Part sort least) lt at refl
      before.counts in
      record {
        counts = both.1;
        sums = sums_on ss ts i n (i + 1) (n + 1)
            (print (numbered p) [] (tree k) (of_sort sort) least) total next
            (λ j. print_symbols (symbols_drop ss i (Part sort least) lt at j)
            (print_each (numbered p) [] (trees-drop ts n k both.0 kid j))) before.sums
            (sum ∙ ap (λ x. min (total + x) (2 ^ 64 - 1)) (counted (of_sort sort)));
        most = omega (arith, sum);
      }

  -- at the end nothing is left
  pub all_counted : (ss : List NumberedSymbol) (ts : List Term) (i n total : ℕ) → length ss ≤ i →
      Counted ss ts i n total → total ≡ min (length (row p [] ss ts)) (2 ^ 64 - 1)
  all_counted ss ts i n total past before =
      let e : row p [] (drop i ss) (drop n ts) ≡ [] =
      at_drop_all (λ x. print_symbols (map (symbol (literals_of p)) x)
      (print_each (numbered p) [] (trees (drop n ts)))) ss i past in
      omega (arith, ap length e, before.sums, before.most)
