-- What is kept has what is of use.
use Rattle.std.proofs.Common.{◌≡◌, ℕ, zero, suc, ◌<◌, ◌≤◌, List, [], ◌∷◌, ◌++◌, Option, Some, None, ⊎_elim, inl, inr, map, option_map, refl, sym, subst, ap, ◌∙◌, length, arith}
use Rattle.std.specs.Global.{Vec}
use Rattle.std.specs.List.{slice_get}
use Rattle.std.proofs.lemmas.Option.{none-some, slice_get_within}
use Rattle.sx_grammar.specs.Grammar.{Symbol, literal, lexical, part, Production, Grammar, Token}
use Rattle.sx_grammar.specs.Grammar.{production_of, SortLine, brackets_of, bracket_production}
use Rattle.sx_grammar.specs.declared.head.Head.{Head}
use Rattle.sx_grammar.specs.declared.head.Head.TheVariants.{Labelled, Bracketed}
use Rattle.sx_grammar.specs.Reading.{Readings, ReadsAll}
use Rattle.sx_grammar.proofs.Deciding.{nothing_read, literal_read, lexical_read}
use Rattle.sx_grammar.proofs.Completeness.{Left, from_start, later, past, left_first}
use Rattle.sx_grammar.specs.Tables.{GrammarData}
use Rattle.sx_earley.specs.declared.shown.Shown.{Shown}
use Rattle.sx_earley.specs.Shown.{literal_texts, token_of, tokens_of}
use Rattle.sx_earley.specs.Chart.{IsOfSort, symbol_after, next_symbol}
use Rattle.sx_forest.specs.declared.levels.Levels.{Levels}
use Rattle.sx_forest.specs.declared.entry.Maker.{Maker}
use Rattle.sx_forest.specs.declared.entry.Maker.TheVariants.{Variable, By}
use Rattle.sx_forest.specs.Useful.{MayEnd, IsKidEnd, IsUseful, IsUsefulBy, useful_whole, useful_kid}
use Rattle.sx_forest.specs.Useful.{level_at, IsProductionKept, IsMetAt, IsMet, row_in, numbers_at}
use Rattle.sx_forest.specs.Useful.{row_by, levels_at, AreMetBy, AreMet, KeepsHead}
use Rattle.sx_forest.specs.Rows.{symbol_count}
use Rattle.sx_forest.proofs.Pushing.{got_before, got_last, got_cases, longer_pushed}

-- where one way to be last brings another
pub may_end_as : (tokens : List Token) {P Q : Type 0} (o : Option Symbol) (place : ℕ) → (P → Q) → MayEnd tokens o place P → MayEnd tokens o place Q
may_end_as tokens None place f h = f h
may_end_as tokens (Some (literal text)) place f h = h
may_end_as tokens (Some (lexical kind)) place f h = h
may_end_as tokens (Some (part sort least)) place f h = h

kept_from : (levels : List ℕ) (o : Option Production) (sort least : ℕ) → IsOfSort o sort least → level_at levels sort ≤ least → IsProductionKept levels o
kept_from levels None sort least h low = absurd h
kept_from levels (Some p) sort least h low =
    let same : level_at levels p.sort ≡ level_at levels sort = ap (level_at levels) h.0 in let up = h.1 in omega arith

production_there : (o : Option Production) (dot : ℕ) (x : Symbol) → symbol_after o dot ≡ Some x → (p : Production) × (o ≡ Some p)
production_there None dot x e = absurd (none-some x e)
production_there (Some p) dot x e = (p, refl)

kept_by_none : (o : Option Production) (p : Production) → o ≡ Some p → IsProductionKept [] o
kept_by_none o p e = rw e (omega arith)

none_past : {X : Type 0} (xs : List X) (place : ℕ) → length xs ≤ place → slice_get xs place ≡ None
none_past [] place long = refl
none_past (x ∷ xs) zero long = absurd (omega arith)
none_past (x ∷ xs) (suc place) long = none_past xs place (omega arith)

no_levels : (levels : Levels) (place : ℕ) → length levels.numbers.items ≤ place → levels_at levels place ≡ []
no_levels levels place long = ap (row_by levels.rows.items) (none_past levels.numbers.items place long)

module _ (g : Grammar) (tokens : List Token) (levels : Levels) (met : AreMet g tokens levels) where
  -- what a kept head may have as a part is kept
  pub kid_kept : (head other : Head) (to end : ℕ) → KeepsHead g levels head to → IsKidEnd g tokens head to other end → KeepsHead g levels other end
  kid_kept head other to end kept k =
      let low = met end head k.dot k.sort k.least k.is
      (may_end_as tokens (next_symbol g head (suc k.dot)) end (λ (same : end ≡ to). subst (λ x. KeepsHead g levels head x) (sym same) kept) k.next) in
      kept_from (levels_at levels end) (production_of g other) k.sort k.least k.fits low

  -- what is of use is kept
  pub useful_kept : length levels.numbers.items ≤ length tokens → (head : Head) (to : ℕ) → IsUseful g tokens head to → (p : Production) → production_of g head ≡ Some p → KeepsHead g levels head to
  useful_kept short head to useful_whole p is =
      subst (λ l. IsProductionKept l (production_of g head)) (sym (no_levels levels (length tokens) short)) (kept_by_none (production_of g head) p is)
  useful_kept short other end (useful_kid {head = head} {to = to} more k) p is =
      let q = production_there (production_of g head) k.dot (part k.sort k.least) k.is in
      kid_kept head other to end (useful_kept short head to more q.0 q.1) k

abbrev first_of : List Symbol → Option Symbol
first_of [] = None
first_of (x ∷ xs) = Some x

left_next : {xs : List Symbol} {dot : ℕ} {rest : List Symbol} → Left xs dot rest → slice_get xs dot ≡ first_of rest
left_next (from_start {xs = xs}) = at_first xs
  where
    at_first : (xs : List Symbol) → slice_get xs 0 ≡ first_of xs
    at_first [] = refl
    at_first (x ∷ xs) = refl
left_next (later l) = left_next l

module _ (g : Grammar) (tokens : List Token) where
  -- where the rest is read from a place, a part may end there
  rest_may : (rest : List Symbol) (end to : ℕ) (ks : Readings) → ReadsAll g tokens rest end to ks → MayEnd tokens (first_of rest) end (end ≡ to)
  rest_may [] end to ks all = sym (nothing_read g tokens all).0
  rest_may (literal text ∷ rest) end to ks all = (literal_read g tokens all).0
  rest_may (lexical kind ∷ rest) end to ks all = let l = lexical_read g tokens all in ⊎_elim (λ h. inl h.0) (λ h. inr h.0) l.2
  rest_may (part sort least ∷ rest) end to ks all = tt

  -- where a part is read, and then the rest, it may end there
  pub kid_end : (head : Head) (p : Production) → production_of g head ≡ Some p → (dot sort least : ℕ) (rest : List Symbol) → Left p.symbols dot (part sort least ∷ rest) →
      (to end : ℕ) (ks : Readings) → ReadsAll g tokens rest end to ks → (other : Head) → IsOfSort (production_of g other) sort least → IsKidEnd g tokens head to other end
  kid_end head p is dot sort least rest left to end ks all other fits = record {
    dot = dot;
    sort = sort;
    least = least;
    is = ap (λ o. symbol_after o dot) is ∙ left_first (part sort least) rest left;
    fits = fits;
    next =
        let next : next_symbol g head (suc dot) ≡ first_of rest = ap (λ o. symbol_after o (suc dot)) is ∙ left_next (past (part sort least) rest left) in
        subst (λ o. MayEnd tokens o end (end ≡ to)) (sym next) (rest_may rest end to ks all);
  }

  -- what ends with all tokens is of use
  pub useful_at_end : (m : Maker) (to : ℕ) → to ≡ length tokens → IsUsefulBy g tokens m to
  useful_at_end (Variable sort) to e = tt
  useful_at_end (By head) to e = subst (λ t. IsUseful g tokens head t) (sym e) useful_whole

-- a symbol after a dot is one of the head's
pub dot_within : (o : Option Production) (dot : ℕ) (x : Symbol) → symbol_after o dot ≡ Some x → dot < symbol_count o
dot_within None dot x e = absurd (none-some x e)
dot_within (Some p) dot x e = slice_get_within p.symbols dot x e

-- where the head stands for nothing, nothing is asked for
pub label_there : (g : Grammar) (label dot : ℕ) (x : Symbol) → next_symbol g (Labelled label) dot ≡ Some x → label < length g.productions
label_there g label dot x e = let p = production_there (slice_get g.productions label) dot x e in slice_get_within g.productions label p.0 p.1

line_there : (lines : List SortLine) (own dot : ℕ) (x : Symbol) (o : Option SortLine) → slice_get lines own ≡ o → symbol_after (bracket_production own (brackets_of o)) dot ≡ Some x → own < length lines
line_there lines own dot x None at e = absurd (none-some x e)
line_there lines own dot x (Some line) at e = slice_get_within lines own line at

pub sort_there : (g : Grammar) (own dot : ℕ) (x : Symbol) → next_symbol g (Bracketed own) dot ≡ Some x → own < length g.sorts
sort_there g own dot x e = line_there g.sorts own dot x (slice_get g.sorts own) refl e

-- no levels ask for nothing
pub none_met : (g : Grammar) (tokens : List Token) (place : ℕ) (levels : List ℕ) → levels ≡ [] → IsMet g tokens place levels
none_met g tokens place levels none = λ head dot sort least e may. subst (λ l. level_at l sort ≤ least) (sym none) (omega arith)

-- what may end at a place may end where the same token stands
may_end_like : (tokens : List Token) (P : Type 0) (o : Option Symbol) (place other : ℕ) → slice_get tokens place ≡ slice_get tokens other → MayEnd tokens o other P → MayEnd tokens o place P
may_end_like tokens P None place other same h = h
may_end_like tokens P (Some (literal text)) place other same h = same ∙ h
may_end_like tokens P (Some (lexical kind)) place other same h = ⊎_elim (λ k. inl (k.0, same ∙ k.1)) (λ k. inr (k.0, same ∙ k.1)) h
may_end_like tokens P (Some (part sort least)) place other same h = h

pub met_like : (g : Grammar) (tokens : List Token) (place other : ℕ) (levels : List ℕ) → slice_get tokens place ≡ slice_get tokens other → IsMet g tokens place levels → IsMet g tokens other levels
met_like g tokens place other levels same met head dot sort least e may =
    met head dot sort least e (may_end_like tokens (IsProductionKept levels (production_of g head)) (next_symbol g head (suc dot)) place other same may)

got_map : {X Y : Type 0} (f : X → Y) (xs : List X) (k : ℕ) → slice_get (map f xs) k ≡ option_map f (slice_get xs k)
got_map f [] k = refl
got_map f (x ∷ xs) zero = refl
got_map f (x ∷ xs) (suc k) = got_map f xs k

-- where the same is shown, the same token stands
pub shown_like : (d : GrammarData) (shown : List Shown) (place other : ℕ) → slice_get shown place ≡ slice_get shown other → slice_get (tokens_of d shown) place ≡ slice_get (tokens_of d shown) other
shown_like d shown place other same =
    got_map (token_of (literal_texts d)) shown place ∙ (ap (option_map (token_of (literal_texts d))) same ∙ sym (got_map (token_of (literal_texts d)) shown other))

-- the next place has the number of a row
pub numbered_on : (g : Grammar) (tokens : List Token) (rows : List (Vec ℕ)) (numbers new : List ℕ) (n : ℕ) → new ≡ numbers ++ n ∷ [] → AreMetBy g tokens rows numbers →
    n < length rows → IsMet g tokens (length numbers) (numbers_at rows n) → AreMetBy g tokens rows new
numbered_on g tokens rows numbers new n e met low here place number at =
    ⊎_elim (λ h. met place number h.1)
    (λ h. (subst (λ m. m < length rows) h.1 low, subst (λ p. IsMet g tokens p (numbers_at rows number)) (sym h.0) (subst (λ m. IsMet g tokens (length numbers) (numbers_at rows m)) h.1 here)))
    (got_cases numbers n number place (subst (λ l. slice_get l place ≡ Some number) e at))

-- there is a row more
pub row_pushed : (g : Grammar) (tokens : List Token) (rows new : List (Vec ℕ)) (numbers : List ℕ) (v : Vec ℕ) → new ≡ rows ++ v ∷ [] → AreMetBy g tokens rows numbers → AreMetBy g tokens new numbers
row_pushed g tokens rows new numbers v e met place number at =
    let h = met place number at in let low = h.0 in
    let same : slice_get new number ≡ slice_get rows number = ap (λ l. slice_get l number) e ∙ got_before rows (v ∷ []) number h.0 in
    (omega (arith, longer_pushed rows new v e), subst (λ o. IsMet g tokens place (row_in o)) (sym same) h.1)

pub last_row : (rows new : List (Vec ℕ)) (v : Vec ℕ) → new ≡ rows ++ v ∷ [] → numbers_at new (length rows) ≡ v.items
last_row rows new v e = ap row_in (ap (λ l. slice_get l (length rows)) e ∙ got_last rows v)

-- what places have by numbers, each place has
pub met_by_numbers : (g : Grammar) (tokens : List Token) (levels : Levels) → AreMetBy g tokens levels.rows.items levels.numbers.items → AreMet g tokens levels
met_by_numbers g tokens levels met place = by_number (slice_get levels.numbers.items place) refl
  where
    by_number : (o : Option ℕ) → slice_get levels.numbers.items place ≡ o → IsMet g tokens place (row_by levels.rows.items o)
    by_number None e = none_met g tokens place [] refl
    by_number (Some number) e = (met place number e).1

pub met_by_heads : (g : Grammar) (tokens : List Token) (place : ℕ) (levels : List ℕ) → ((label dot : ℕ) → IsMetAt g tokens place levels (Labelled label) dot) →
    ((sort dot : ℕ) → IsMetAt g tokens place levels (Bracketed sort) dot) → IsMet g tokens place levels
met_by_heads g tokens place levels labelled bracketed (Labelled label) dot = labelled label dot
met_by_heads g tokens place levels labelled bracketed (Bracketed sort) dot = bracketed sort dot
