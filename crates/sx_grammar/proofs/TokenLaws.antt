-- Productions with a literal or a lexical kind lead from no sort to another.
use Rattle.std.proofs.Common.{◌≡◌, ℕ, zero, suc, List, [], ◌∷◌, ◌++◌, length, map, take, false, Some, ⊎_elim, sym, refl, ap, ◌∙◌, subst, arith}
use Rattle.std.specs.Prelude.{slice_get}
use Rattle.std.specs.List.{list_any}
use Rattle.std.proofs.lemmas.List.{length-map, take_at}
use Rattle.sx_grammar.specs.declared.symbol.Symbol.{Symbol as NamedSymbol}
use Rattle.sx_grammar.specs.declared.symbol.Symbol.TheVariants.{Lit, Lex, Part}
use Rattle.sx_grammar.specs.declared.production.Production.{Production as NamedProduction}
use Rattle.sx_grammar.specs.declared.sort_line.SortLine.{SortLine}
use Rattle.sx_term.specs.Cutting.{AreDistinct}
use Rattle.sx_grammar.specs.Grammar.{Text, Symbol, literal, lexical, part, Production}
use Rattle.sx_grammar.specs.Cyclic.{Vanishes, no_symbols, empty_part, StepsTo}
use Rattle.sx_grammar.specs.Order.{AreRanks, rank_at}
use Rattle.sx_grammar.specs.Parts.{Line, Parts, line, names, numbered, numbered_symbol}
use Rattle.sx_grammar.specs.Parts.{numbered_line}
use Rattle.sx_grammar.specs.Extended.{grown, listed_sort, is_token, LacksTokens, GrammarGrows}
use Rattle.sx_grammar.specs.Made.{HasNone, HasKnownSorts, MixesSorts}
use Rattle.sx_grammar.proofs.Finding.{at_contains, mapped_at}
use Rattle.sx_grammar.proofs.Widening.{got_cases, productions_grown, mixed_before}

-- the symbols are parts alone
abbrev AreParts : List Symbol → Type 0
AreParts [] = Unit {0}
AreParts (literal text ∷ rest) = ⊥
AreParts (lexical kind ∷ rest) = ⊥
AreParts (part sort least ∷ rest) = AreParts rest

parts_vanish : (p : Parts) {xs : List Symbol} → Vanishes (numbered p) xs → AreParts xs
parts_vanish p no_symbols = tt
parts_vanish p (empty_part label q at sort v w) = parts_vanish p w

parts_both : (xs : List Symbol) (sort least : ℕ) (ys : List Symbol) → AreParts xs → AreParts ys → AreParts (xs ++ part sort least ∷ ys)
parts_both [] sort least ys before behind = behind
parts_both (literal text ∷ xs) sort least ys before behind = absurd before
parts_both (lexical kind ∷ xs) sort least ys before behind = absurd before
parts_both (part other level ∷ xs) sort least ys before behind = parts_both xs sort least ys before behind

parts_lack : (ns : List Text) (ss : List NamedSymbol) → AreParts (map (numbered_symbol ns) ss) → list_any is_token ss ≡ false
parts_lack ns [] are = refl
parts_lack ns (Lit text ∷ ss) are = absurd are
parts_lack ns (Lex kind ∷ ss) are = absurd are
parts_lack ns (Part name least ∷ ss) are = parts_lack ns ss are

module _ (p : Parts) (new : List SortLine) (more : List Line) (known : HasKnownSorts p) (none : HasNone LacksTokens more) where
  -- a production of parts alone is none of those that have a literal or a lexical kind
  own_at : (label : ℕ) (q : Production) → slice_get (numbered (grown p new more)).productions label ≡ Some q → AreParts q.symbols → slice_get (numbered p).productions label ≡ Some q
  own_at label q at are =
      let with_numbers = numbered_line (names (grown p new more)) in
      ⊎_elim
      (λ own. own)
      (λ last.
      let found = mapped_at with_numbers more last.0 q last.1 in
      absurd (none found.0 (at_contains more last.0 found.0 found.1) (parts_lack (names (grown p new more)) found.0.symbols (subst (λ (z : Production). AreParts z.symbols) (sym found.2) are))))
      (got_cases (numbered p).productions (map with_numbers more) label q (ap (λ l. slice_get l label) (sym (productions_grown p new more known)) ∙ at))

  vanish_kept : {xs : List Symbol} → Vanishes (numbered (grown p new more)) xs → Vanishes (numbered p) xs
  vanish_kept no_symbols = no_symbols
  vanish_kept (empty_part label q at sort v w) = empty_part label q (own_at label q at (parts_vanish (grown p new more) v)) sort (vanish_kept v) (vanish_kept w)

  step_kept : (sort other : ℕ) → StepsTo (numbered (grown p new more)) sort other → StepsTo (numbered p) sort other
  step_kept sort other s = record {
    label = s.label;
    production = s.production;
    is = own_at s.label s.production s.is (subst AreParts (sym s.symbols)
        (parts_both s.before other s.least s.after (parts_vanish (grown p new more) s.before_vanishes) (parts_vanish (grown p new more) s.after_vanishes)));
    same_sort = s.same_sort;
    before = s.before;
    least = s.least;
    after = s.after;
    symbols = s.symbols;
    before_vanishes = vanish_kept s.before_vanishes;
    after_vanishes = vanish_kept s.after_vanishes;
  }

-- a sort that has no rank has rank 0
pub rank_pushed : (ranks : List ℕ) (sort : ℕ) → rank_at (ranks ++ 0 ∷ []) sort ≡ rank_at ranks sort
rank_pushed [] zero = refl
rank_pushed [] (suc sort) = refl
rank_pushed (n ∷ ranks) zero = refl
rank_pushed (n ∷ ranks) (suc sort) = rank_pushed ranks sort

-- the ranks stay
pub ranks_kept : (p : Parts) (more : List Line) (whole : Parts) → GrammarGrows p more whole → HasKnownSorts p → HasNone LacksTokens more → (ranks all : List ℕ) → ((sort : ℕ) → rank_at all sort ≡ rank_at ranks sort) → AreRanks (numbered p) ranks
    → AreRanks (numbered whole) all
ranks_kept p more whole grows known none ranks all same are = subst (λ (w : Parts). AreRanks (numbered w) all) (sym grows.is) (
  λ sort other step.
      let less = are.0 sort other (step_kept p (listed_sort grows.sort) more known none sort other step) in
      omega (arith, less, same sort, same other),
  λ sort. let low = are.1 sort in omega (arith, low, same sort),
)

-- none of the productions of the grammar is plain and has a typed part
pub none_mixed : (p : Parts) (more : List Line) (whole : Parts) → GrammarGrows p more whole → HasKnownSorts p → AreDistinct (names whole) → (own : List NamedProduction) (n : ℕ) → p.productions ≡ map line own → n ≡ length own
    → HasNone (MixesSorts p) p.productions → HasNone (MixesSorts whole) (take n whole.productions)
none_mixed p more whole grows known apart own n of count none =
    let new = listed_sort grows.sort in
    let front : take n (p.productions ++ more) ≡ p.productions = take_at p.productions more n (ap length of ∙ length-map own line ∙ sym count) in
    subst (λ (w : Parts). HasNone (MixesSorts w) (take n w.productions)) (sym grows.is)
    (subst (HasNone (MixesSorts (grown p new more))) (sym front)
    (λ r has mixed. none r has (mixed_before p new more known (subst (λ (w : Parts). AreDistinct (names w)) grows.is apart) r has mixed)))
