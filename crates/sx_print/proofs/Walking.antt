-- The tokens of a node and of its symbols.
use Rattle.std.proofs.Common.{◌≡◌, ℕ, zero, suc, ◌+◌, ◌<◌, ◌≤◌, get_or, Bool, true, false, cond, List, [], ◌∷◌, ◌++◌, length, map, drop, Vec, Some, sym, refl, ap, ◌∙◌, subst, arith}
use Rattle.std.specs.Prelude.{None, Option, slice_get, slice_index_or, nat_lt}
use Rattle.std.specs.declared.alloc.Global.{Global}
use Rattle.std.proofs.lemmas.List.{at_drop_more, at_drop_all, length-map, append-nil}
use Rattle.std.proofs.lemmas.Option.{slice_get_within, slice_get_read, get_or_from_slice_get, slice_get-get_or}
use Rattle.sx_term.specs.declared.term.Term.{Term, Node}
use Rattle.sx_term.specs.declared.term.Term.TheVariants as TheTerm
use Rattle.sx_term.specs.Tree.{Tree, Trees, node, listed}
use Rattle.sx_term.specs.Term.{tree}
use Rattle.sx_term.proofs.Kids.{trees, tree-at_node, trees-drop}
use Rattle.sx_term.proofs.Cores.{Grows, Grows-trans}
use Rattle.sx_grammar.specs.declared.numbered.NumberedSymbol.{NumberedSymbol}
use Rattle.sx_grammar.specs.declared.numbered.NumberedSymbol.TheVariants.{Lit, Lex, Part}
use Rattle.sx_grammar.specs.declared.numbered.NumberedProduction.{NumberedProduction}
use Rattle.sx_term.specs.declared.lex_kind.LexKind.{LexKind}
use Rattle.sx_grammar.specs.Grammar.{Text, Brackets, Grammar, Stem, of_kind, of_sort, Mark}
use Rattle.sx_grammar.specs.Grammar.{is_lexeme, is_variable, Token, pair_of}
use Rattle.sx_grammar.specs.Parts.{Parts, numbered, numbered_line, names}
use Rattle.sx_grammar.specs.Numbered.{symbol, production}
use Rattle.sx_grammar.specs.Tables.{literals_of, AreNumbered, HaveLiteralsBelow, IsNumberedPair}
use Rattle.sx_grammar.specs.Print.{literal_token, in_brackets, print, print_each, print_node}
use Rattle.sx_grammar.specs.Print.{print_symbols}
use Rattle.sx_grammar.proofs.TableLaws.{production_at, numbered_length}
use Rattle.sx_print.specs.Printed.{AddsTokens, HasProductions, HaveProductions, brackets_below, parts_in}
use Rattle.sx_print.specs.Rows.{HasLiteralsBelow}
use Rattle.sx_print.proofs.Adding.{AddsTokens-append}

-- the production of a label of a term that is built by the grammar
pub production_here : (p : Parts) (ps : List NumberedProduction) (label variables : ℕ) (q : NumberedProduction) (t : Tree) (kids : Trees) → AreNumbered p ps → t ≡ node label kids → HasProductions (numbered p) variables t → q ≡ get_or ps label q
    → slice_get (numbered p).productions label ≡ Some (production (literals_of p) q)
production_here p ps label variables q t kids same is built at =
    let h = subst (HasProductions (numbered p) variables) is built in
    let lt : label < length p.productions = omega (arith, slice_get_within (numbered p).productions label h.0 h.1, length-map p.productions (numbered_line (names p))) in
    production_at p ps label q same lt at

pub label_within : (p : Parts) (ps : List NumberedProduction) (label variables : ℕ) (t : Tree) (kids : Trees) → AreNumbered p ps → t ≡ node label kids → HasProductions (numbered p) variables t → label < length ps
label_within p ps label variables t kids same is built =
    let h = subst (HasProductions (numbered p) variables) is built in
    omega (arith, slice_get_within (numbered p).productions label h.0 h.1, length-map p.productions (numbered_line (names p)), numbered_length p ps same)

listed_length : (ts : List Term) → length (listed (trees ts)) ≡ length ts
listed_length [] = refl
listed_length (t ∷ ts) = ap suc (listed_length ts)

-- what a node's kids and its production's symbols have in common
pub kids_are_built : (p : Parts) (label variables : ℕ) (q : NumberedProduction) (term : Term) (kids : Vec Term Global) (ss : List NumberedSymbol) (ts : List Term) → term ≡ Node label kids
    → slice_get (numbered p).productions label ≡ Some (production (literals_of p) q) → ss ≡ q.symbols.items → ts ≡ kids.items → HasProductions (numbered p) variables (tree term)
    → (parts_in (map (symbol (literals_of p)) ss) ≡ length ts) × HaveProductions (numbered p) variables (trees ts)
kids_are_built p label variables q term kids ss ts is here symbols same built =
    let h = subst (HasProductions (numbered p) variables) (tree-at_node term label kids is) built in
    let one : Some h.0 ≡ Some (production (literals_of p) q) = sym h.1 ∙ here in
    let r : h.0 ≡ production (literals_of p) q = cc in (
      ap (λ x. parts_in (map (symbol (literals_of p)) x)) symbols ∙ sym (ap (λ x. parts_in x.symbols) r) ∙ h.2 ∙ listed_length kids.items ∙ sym (ap length same),
      subst (λ x. HaveProductions (numbered p) variables (trees x)) (sym same) h.3,
    )

pub kid_is_built : (g : Grammar) (variables : ℕ) (ts : List Term) (i : ℕ) (k : Term) → HaveProductions g variables (trees ts) → i < length ts → k ≡ get_or ts i k → HasProductions g variables (tree k)
kid_is_built g variables [] i k are lt at = absurd (omega (arith, lt))
kid_is_built g variables (t ∷ ts) zero k are lt at = subst (λ x. HasProductions g variables (tree x)) (sym at) are.0
kid_is_built g variables (t ∷ ts) (suc i) k are lt at = kid_is_built g variables ts i k are.1 (omega (arith, lt)) at

-- a row of the table has numbers of literals below the bound
pub row_below : (bound : ℕ) (ps : List NumberedProduction) (label : ℕ) (q : NumberedProduction) (ss : List NumberedSymbol) → HaveLiteralsBelow bound ps → label < length ps → q ≡ get_or ps label q → ss ≡ q.symbols.items → HasLiteralsBelow bound ss
row_below bound ps label q ss below lt at same = subst (HasLiteralsBelow bound) (sym same) (λ k n here. below label q k n (slice_get_read ps (length ps) label q refl lt at) here)

-- the numbers of a pair are those of literals
pub pair_within : (texts : List Text) (pair : Option Brackets) (opening closing : ℕ) → IsNumberedPair texts pair (Some (opening, closing)) → (opening < length texts) × (closing < length texts)
pair_within texts None opening closing is = absurd is
pair_within texts (Some pair) opening closing is = (slice_get_within texts opening pair.opening is.0, slice_get_within texts closing pair.closing is.1)

-- a lexeme and a variable are one token
pub lexeme_adds : (g : Grammar) (vars : List Text) (term : Term) (kind : LexKind) (text : Text) (least : ℕ) (old new : List ℕ) → term ≡ TheTerm.Lex kind text → ((mark : Mark) → AddsTokens (record { mark = mark; text = text } ∷ []) old new)
    → (place : Stem) → AddsTokens (print g vars (tree term) place least) old new
lexeme_adds g vars term kind text least old new is adds place = subst (λ t. AddsTokens (print g vars (tree t) place least) old new) (sym is) (adds (is_lexeme kind))

pub variable_adds : (g : Grammar) (vars : List Text) (term : Term) (v least : ℕ) (old new : List ℕ) → term ≡ TheTerm.Var v
    → ((place : Stem) → AddsTokens (record { mark = is_variable place; text = 126 ∷ slice_index_or vars v [] } ∷ []) old new) → (place : Stem) → AddsTokens (print g vars (tree term) place least) old new
variable_adds g vars term v least old new is adds place = subst (λ t. AddsTokens (print g vars (tree t) place least) old new) (sym is) (adds place)

-- a node is its symbols in the brackets that it needs
by_test : (b : Bool) (pair : Option Brackets) (inner : List Token) → cond b (in_brackets pair inner) inner ≡ in_brackets (cond b pair None) inner
by_test true pair inner = refl
by_test false pair inner = refl

module _ (p : Parts) (vars : List Text) where
  abbrev pub row : List NumberedSymbol → List Term → List Token
  row ss ts = print_symbols (map (symbol (literals_of p)) ss) (print_each (numbered p) vars (trees ts))

  abbrev pub pair_at : NumberedProduction → ℕ → Option Brackets
  pair_at q least = brackets_below (numbered p) q.sort q.level least

  node_prints : (term : Term) (label : ℕ) (kids : Vec Term Global) (q : NumberedProduction) (least : ℕ) (place : Stem) → term ≡ Node label kids
      → slice_get (numbered p).productions label ≡ Some (production (literals_of p) q) → print (numbered p) vars (tree term) place least ≡ in_brackets (pair_at q least) (row q.symbols.items kids.items)
  node_prints term label kids q least place is here =
      ap (λ t. print (numbered p) vars t place least) (tree-at_node term label kids is)
      ∙ ap (λ r. print_node (numbered p) r (print_each (numbered p) vars (trees kids.items)) least) here
      ∙ by_test (nat_lt q.level least) (pair_of (numbered p) q.sort) (row q.symbols.items kids.items)

  pub node_plain : (term : Term) (label : ℕ) (kids : Vec Term Global) (q : NumberedProduction) (least : ℕ) (ss : List NumberedSymbol) (ts : List Term) (old new : List ℕ) → term ≡ Node label kids
      → slice_get (numbered p).productions label ≡ Some (production (literals_of p) q) → ss ≡ q.symbols.items → ts ≡ kids.items → IsNumberedPair (literals_of p) (pair_at q least) None
      → AddsTokens (row ss ts) old new → (place : Stem) → AddsTokens (print (numbered p) vars (tree term) place least) old new
  node_plain term label kids q least ss ts old new is here symbols same bare adds place =
      let e : in_brackets (pair_at q least) (row q.symbols.items kids.items) ≡ row ss ts = unpaired (pair_at q least) bare (row q.symbols.items kids.items) ∙ sym (λ i. row (symbols i) (same i)) in
      subst (λ x. AddsTokens x old new) (sym (node_prints term label kids q least place is here ∙ e)) adds
    where
      unpaired : (pair : Option Brackets) → IsNumberedPair (literals_of p) pair None → (inner : List Token) → in_brackets pair inner ≡ inner
      unpaired None h inner = refl
      unpaired (Some pair) h inner = absurd h

  pub node_bracketed : (term : Term) (label : ℕ) (kids : Vec Term Global) (q : NumberedProduction) (least : ℕ) (ss : List NumberedSymbol) (ts : List Term) (opening closing : ℕ) (old a b new : List ℕ) → term ≡ Node label kids
      → slice_get (numbered p).productions label ≡ Some (production (literals_of p) q) → ss ≡ q.symbols.items → ts ≡ kids.items → IsNumberedPair (literals_of p) (pair_at q least) (Some (opening, closing))
      → AddsTokens (literal_token (slice_index_or (literals_of p) opening []) ∷ []) old a → AddsTokens (row ss ts) a b → AddsTokens (literal_token (slice_index_or (literals_of p) closing []) ∷ []) b new
      → (place : Stem) → AddsTokens (print (numbered p) vars (tree term) place least) old new
  node_bracketed term label kids q least ss ts opening closing old a b new is here symbols same pair first inner last place =
      let all = AddsTokens-append (literal_token (slice_index_or (literals_of p) opening []) ∷ []) (row ss ts ++ (literal_token (slice_index_or (literals_of p) closing []) ∷ [])) old a new
      first (AddsTokens-append (row ss ts) (literal_token (slice_index_or (literals_of p) closing []) ∷ []) a b new inner last) in
      let e = paired (pair_at q least) pair (row q.symbols.items kids.items) ∙ sym (λ i. literal_token (slice_index_or (literals_of p) opening []) ∷ (row (symbols i) (same i) ++ (literal_token (slice_index_or (literals_of p) closing []) ∷ []))) in
      subst (λ x. AddsTokens x old new) (sym (node_prints term label kids q least place is here ∙ e)) all
    where
      paired : (pair : Option Brackets) → IsNumberedPair (literals_of p) pair (Some (opening, closing)) → (inner : List Token)
          → in_brackets pair inner ≡ literal_token (slice_index_or (literals_of p) opening []) ∷ (inner ++ (literal_token (slice_index_or (literals_of p) closing []) ∷ []))
      paired None h inner = absurd h
      paired (Some pair) h inner =
          let o : pair.opening ≡ slice_index_or (literals_of p) opening [] = sym (get_or_from_slice_get (literals_of p) opening pair.opening [] h.0) in
          let c : pair.closing ≡ slice_index_or (literals_of p) closing [] = sym (get_or_from_slice_get (literals_of p) closing pair.closing [] h.1) in
          λ i. literal_token (o i) ∷ (inner ++ (literal_token (c i) ∷ []))

  -- where the symbols and kids that are left are added, all are
  abbrev pub Leads : List NumberedSymbol → List Term → (i n : ℕ) (start now : List ℕ) → Type 0
  Leads ss ts i n start now = (end : List ℕ) → AddsTokens (row (drop i ss) (drop n ts)) now end → AddsTokens (row ss ts) start end

  leads_on : (ss : List NumberedSymbol) (ts : List Term) (i n j m : ℕ) (here : List Token) (start now next : List ℕ) → row (drop i ss) (drop n ts) ≡ here ++ row (drop j ss) (drop m ts)
      → Leads ss ts i n start now → AddsTokens here now next → Leads ss ts j m start next
  leads_on ss ts i n j m here start now next e leads adds end rest =
      leads end (subst (λ x. AddsTokens x now end) (sym e) (AddsTokens-append here (row (drop j ss) (drop m ts)) now next end adds rest))

  symbols_drop : (ss : List NumberedSymbol) (i : ℕ) (s : NumberedSymbol) → i < length ss → s ≡ get_or ss i s → map (symbol (literals_of p)) (drop i ss) ≡ symbol (literals_of p) s ∷ map (symbol (literals_of p)) (drop (i + 1) ss)
  symbols_drop ss i s lt at = at_drop_more (map (symbol (literals_of p))) ss i s lt ∙ ap (λ x. symbol (literals_of p) x ∷ map (symbol (literals_of p)) (drop (i + 1) ss)) (sym at)

  pub leads_past_literal : (ss : List NumberedSymbol) (ts : List Term) (i n number : ℕ) (s : NumberedSymbol) (start now next : List ℕ) → i < length ss → s ≡ get_or ss i s → s ≡ Lit number
      → Leads ss ts i n start now → AddsTokens (literal_token (slice_index_or (literals_of p) number []) ∷ []) now next → Leads ss ts (i + 1) n start next
  leads_past_literal ss ts i n number s start now next lt at is leads adds =
      leads_on ss ts i n (i + 1) n (literal_token (slice_index_or (literals_of p) number []) ∷ []) start now next
      (ap (λ x. print_symbols x (print_each (numbered p) vars (trees (drop n ts)))) (symbols_drop ss i s lt at ∙ ap (λ x. symbol (literals_of p) x ∷ map (symbol (literals_of p)) (drop (i + 1) ss)) is)) leads adds

  pub leads_past_lexeme : (ss : List NumberedSymbol) (ts : List Term) (i n : ℕ) (kind : LexKind) (s : NumberedSymbol) (k : Term) (start now next : List ℕ) → i < length ss → s ≡ get_or ss i s → s ≡ Lex kind → n < length ts → k ≡ get_or ts n k
      → Leads ss ts i n start now → ((place : Stem) → AddsTokens (print (numbered p) vars (tree k) place 0) now next) → Leads ss ts (i + 1) (n + 1) start next
  leads_past_lexeme ss ts i n kind s k start now next lt at is within kid leads adds =
      leads_on ss ts i n (i + 1) (n + 1) (print (numbered p) vars (tree k) (of_kind kind) 0) start now next
      (λ j. print_symbols ((symbols_drop ss i s lt at ∙ ap (λ x. symbol (literals_of p) x ∷ map (symbol (literals_of p)) (drop (i + 1) ss)) is) j) (print_each (numbered p) vars (trees-drop ts n k within kid j)))
      leads (adds (of_kind kind))

  pub leads_past_part : (ss : List NumberedSymbol) (ts : List Term) (i n sort least : ℕ) (s : NumberedSymbol) (k : Term) (start now next : List ℕ) → i < length ss → s ≡ get_or ss i s → s ≡ Part sort least → n < length ts → k ≡ get_or ts n k
      → Leads ss ts i n start now → ((place : Stem) → AddsTokens (print (numbered p) vars (tree k) place least) now next) → Leads ss ts (i + 1) (n + 1) start next
  leads_past_part ss ts i n sort least s k start now next lt at is within kid leads adds =
      leads_on ss ts i n (i + 1) (n + 1) (print (numbered p) vars (tree k) (of_sort sort) least) start now next
      (λ j. print_symbols ((symbols_drop ss i s lt at ∙ ap (λ x. symbol (literals_of p) x ∷ map (symbol (literals_of p)) (drop (i + 1) ss)) is) j) (print_each (numbered p) vars (trees-drop ts n k within kid j)))
      leads (adds (of_sort sort))

  -- as many parts are left as kids
  abbrev pub Counts : List NumberedSymbol → (i n all : ℕ) → Type 0
  Counts ss i n all = parts_in (map (symbol (literals_of p)) (drop i ss)) + n ≡ all

  pub counts_past_literal : (ss : List NumberedSymbol) (i n all number : ℕ) (s : NumberedSymbol) → i < length ss → s ≡ get_or ss i s → s ≡ Lit number → Counts ss i n all → Counts ss (i + 1) n all
  counts_past_literal ss i n all number s lt at is counts =
      ap (λ x. x + n) (sym (ap parts_in (symbols_drop ss i s lt at ∙ ap (λ x. symbol (literals_of p) x ∷ map (symbol (literals_of p)) (drop (i + 1) ss)) is))) ∙ counts

  pub counts_past_lexeme : (ss : List NumberedSymbol) (i n all : ℕ) (kind : LexKind) (s : NumberedSymbol) → i < length ss → s ≡ get_or ss i s → s ≡ Lex kind → Counts ss i n all → (n < all) × Counts ss (i + 1) (n + 1) all
  counts_past_lexeme ss i n all kind s lt at is counts =
      let e : parts_in (map (symbol (literals_of p)) (drop i ss)) ≡ parts_in (map (symbol (literals_of p)) (drop (i + 1) ss)) + 1 =
      ap parts_in (symbols_drop ss i s lt at ∙ ap (λ x. symbol (literals_of p) x ∷ map (symbol (literals_of p)) (drop (i + 1) ss)) is) in
      (omega (arith, e, counts), omega (arith, e, counts))

  pub counts_past_part : (ss : List NumberedSymbol) (i n all sort least : ℕ) (s : NumberedSymbol) → i < length ss → s ≡ get_or ss i s → s ≡ Part sort least → Counts ss i n all → (n < all) × Counts ss (i + 1) (n + 1) all
  counts_past_part ss i n all sort least s lt at is counts =
      let e : parts_in (map (symbol (literals_of p)) (drop i ss)) ≡ parts_in (map (symbol (literals_of p)) (drop (i + 1) ss)) + 1 =
      ap parts_in (symbols_drop ss i s lt at ∙ ap (λ x. symbol (literals_of p) x ∷ map (symbol (literals_of p)) (drop (i + 1) ss)) is) in
      (omega (arith, e, counts), omega (arith, e, counts))

  symbol_is : (ss : List NumberedSymbol) (i : ℕ) (d s : NumberedSymbol) → i < length ss → get_or ss i d ≡ s → s ≡ get_or ss i s
  symbol_is ss i d s lt e = sym (get_or_from_slice_get ss i s s (slice_get-get_or ss i d lt ∙ ap Some e))

  -- where the walk over the symbols stands: before the symbol i and the kid n
  pub record Progress (ss : List NumberedSymbol) (ts : List Term) (i n : ℕ) (start now : List ℕ) : Type 0 where
    pub counts : Counts ss i n (length ts)
    pub leads : Leads ss ts i n start now
    pub appends : Grows start now

  pub past_literal : (ss : List NumberedSymbol) (ts : List Term) (i n number : ℕ) (d : NumberedSymbol) (start now next : List ℕ) → Progress ss ts i n start now → i < length ss → get_or ss i d ≡ Lit number
      → AddsTokens (literal_token (slice_index_or (literals_of p) number []) ∷ []) now next → Progress ss ts (i + 1) n start next
  past_literal ss ts i n number d start now next before lt is adds =
      let at = symbol_is ss i d (Lit number) lt is in
      record {
        counts = counts_past_literal ss i n (length ts) number (Lit number) lt at refl before.counts;
        leads = leads_past_literal ss ts i n number (Lit number) start now next lt at refl before.leads adds;
        appends = Grows-trans start now next before.appends (_, adds.text);
      }

  pub kid_of_lexeme : (ss : List NumberedSymbol) (ts : List Term) (i n : ℕ) (kind : LexKind) (d : NumberedSymbol) (start now : List ℕ) → Progress ss ts i n start now → i < length ss → get_or ss i d ≡ Lex kind → n < length ts
  kid_of_lexeme ss ts i n kind d start now before lt is = (counts_past_lexeme ss i n (length ts) kind (Lex kind) lt (symbol_is ss i d (Lex kind) lt is) refl before.counts).0

  pub past_lexeme : (ss : List NumberedSymbol) (ts : List Term) (i n : ℕ) (kind : LexKind) (d : NumberedSymbol) (k : Term) (start now next : List ℕ) → Progress ss ts i n start now → i < length ss → get_or ss i d ≡ Lex kind
      → k ≡ get_or ts n k → ((place : Stem) → AddsTokens (print (numbered p) vars (tree k) place 0) now next) → Progress ss ts (i + 1) (n + 1) start next
  past_lexeme ss ts i n kind d k start now next before lt is kid adds =
      let at = symbol_is ss i d (Lex kind) lt is in
      let counts = counts_past_lexeme ss i n (length ts) kind (Lex kind) lt at refl before.counts in
      record {
        counts = counts.1;
        leads = leads_past_lexeme ss ts i n kind (Lex kind) k start now next lt at refl counts.0 kid before.leads adds;
        appends = Grows-trans start now next before.appends (_, (adds (of_kind kind)).text);
      }

  pub kid_of_part : (ss : List NumberedSymbol) (ts : List Term) (i n sort least : ℕ) (d : NumberedSymbol) (start now : List ℕ) → Progress ss ts i n start now → i < length ss → get_or ss i d ≡ Part sort least → n < length ts
  kid_of_part ss ts i n sort least d start now before lt is = (counts_past_part ss i n (length ts) sort least (Part sort least) lt (symbol_is ss i d (Part sort least) lt is) refl before.counts).0

  pub past_part : (ss : List NumberedSymbol) (ts : List Term) (i n sort least : ℕ) (d : NumberedSymbol) (k : Term) (start now next : List ℕ) → Progress ss ts i n start now → i < length ss → get_or ss i d ≡ Part sort least
      → k ≡ get_or ts n k → ((place : Stem) → AddsTokens (print (numbered p) vars (tree k) place least) now next) → Progress ss ts (i + 1) (n + 1) start next
  past_part ss ts i n sort least d k start now next before lt is kid adds =
      let at = symbol_is ss i d (Part sort least) lt is in
      let counts = counts_past_part ss i n (length ts) sort least (Part sort least) lt at refl before.counts in
      record {
        counts = counts.1;
        leads = leads_past_part ss ts i n sort least (Part sort least) k start now next lt at refl counts.0 kid before.leads adds;
        appends = Grows-trans start now next before.appends (_, (adds (of_sort sort)).text);
      }

  pub no_progress : (ss : List NumberedSymbol) (ts : List Term) (start : List ℕ) → parts_in (map (symbol (literals_of p)) ss) ≡ length ts → Progress ss ts 0 0 start start
  no_progress ss ts start many = record {
    counts = omega (arith, many);
    leads = λ end adds. adds;
    appends = ([], sym (append-nil start));
  }

  -- at the end nothing is left
  pub leads_to_end : (ss : List NumberedSymbol) (ts : List Term) (i n : ℕ) (start now : List ℕ) → length ss ≤ i → Leads ss ts i n start now → AddsTokens (row ss ts) start now
  leads_to_end ss ts i n start now past leads =
      leads now (subst (λ x. AddsTokens x now now) (sym (at_drop_all (λ x. print_symbols (map (symbol (literals_of p)) x) (print_each (numbered p) vars (trees (drop n ts)))) ss i past)) (record { text = sym (append-nil now); utf8 = tt }))
