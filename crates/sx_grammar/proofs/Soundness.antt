use Rattle.std.proofs.Common.{◌≡◌, ℕ, zero, suc, ◌≤◌, List, [], ◌∷◌, ◌++◌, Option, Some, None, take, length, refl, sym, ap, subst, inl, inr, arith}
use Rattle.std.specs.List.{slice_get}
use Rattle.std.proofs.lemmas.Option.{same_Some, none-some}
use Rattle.std.proofs.lemmas.List.{take_all}
use Rattle.sx_grammar.specs.Grammar.{Symbol, literal, lexical, part, Production, Brackets, Grammar, production_of, bracket_production, pair_of, Token}
use Rattle.sx_grammar.specs.declared.head.Head.{Head}
use Rattle.sx_grammar.specs.declared.head.Head.TheVariants.{Labelled, Bracketed}
use Rattle.sx_grammar.specs.Reading.{Reading, Readings, branch, bracket, leaf, variable, done, ◌▸◌, Reads, by_production, by_brackets, by_variable, ReadsAll, all_read, by_literal, by_lexeme, by_lexical_variable, by_part, IsOf}
use Rattle.sx_grammar.specs.Items.{ReadsToken, NextIs, AtEnd, Item, started, predicted, scanned, completed}
use Rattle.sx_grammar.specs.Laws.{ItemsAreRead, SpansAreRead}

-- one more element is the element at that place
take-slice_get : {A : Type 0} (xs : List A) (n : ℕ) (x : A) → slice_get xs n ≡ Some x → take (suc n) xs ≡ take n xs ++ (x ∷ [])
take-slice_get [] n x e = absurd (none-some x e)
take-slice_get (y ∷ xs) zero x e = ap (λ v. v ∷ []) (same_Some y x e)
take-slice_get (y ∷ xs) (suc n) x e = ap (λ v. y ∷ v) (take-slice_get xs n x e)

module _ (g : Grammar) (tokens : List Token) where
  -- some readings read the tokens between two places as the symbols
  abbrev pub Read : List Symbol → ℕ → ℕ → Type 0
  Read symbols from to = (kids : Readings) × ReadsAll g tokens symbols from to kids

  -- readings of two lists of symbols, one after the other
  pub joined : {xs : List Symbol} {from middle : ℕ} {kids : Readings} (ys : List Symbol) (to : ℕ) →
      ReadsAll g tokens xs from middle kids → Read ys middle to → Read (xs ++ ys) from to
  joined ys to all_read more = more
  joined ys to (by_literal l rest) more = let r = joined ys to rest more in (r.0, by_literal l r.1)
  joined ys to (by_lexeme {from = from} l rest) more = let r = joined ys to rest more in (leaf from ▸ r.0, by_lexeme l r.1)
  joined ys to (by_lexical_variable {from = from} l rest) more = let r = joined ys to rest more in (variable from ▸ r.0, by_lexical_variable l r.1)
  joined ys to (by_part {kid = kid} k rest) more = let r = joined ys to rest more in (kid ▸ r.0, by_part k r.1)

  -- a symbol that reads one token by itself
  pub one_token : (symbol : Symbol) (place : ℕ) → ReadsToken tokens symbol place → Read (symbol ∷ []) place (suc place)
  one_token (literal text) place h = (done, by_literal h all_read)
  one_token (lexical kind) place (inl h) = (leaf place ▸ done, by_lexeme h all_read)
  one_token (lexical kind) place (inr h) = (variable place ▸ done, by_lexical_variable h all_read)
  one_token (part sort least) place h = (variable place ▸ done, by_part (by_variable h) all_read)

  -- the readings of a bracket pair's three symbols are a bracket
  pub bracket_read : (sort least from to : ℕ) (pair : Brackets) (kids : Readings) → pair_of g sort ≡ Some pair →
      ReadsAll g tokens (literal pair.opening ∷ part sort 0 ∷ literal pair.closing ∷ []) from to kids →
      (r : Reading) × IsOf (Bracketed sort) from to r × Reads g tokens sort least from to r
  bracket_read sort least from to pair kids e (by_literal a (by_part {kid = kid} k (by_literal b all_read))) =
      (bracket kid from to, (kid, refl), by_brackets e a k b)

  -- what a head's bracket pair is
  pub bracket_head : (sort : ℕ) (o : Option Brackets) (p : Production) → bracket_production sort o ≡ Some p →
      (pair : Brackets) × (o ≡ Some pair) × (p ≡ record { sort = sort; level = 100; symbols = literal pair.opening ∷ part sort 0 ∷ literal pair.closing ∷ [] })
  bracket_head sort None p e = absurd (none-some p e)
  bracket_head sort (Some pair) p e = (pair, refl, sym (same_Some _ _ e))

  -- readings of all of a production's symbols are a reading by it
  pub by_head : (head : Head) (p : Production) (least from to : ℕ) → production_of g head ≡ Some p → least ≤ p.level →
      Read p.symbols from to → (r : Reading) × IsOf head from to r × Reads g tokens p.sort least from to r
  by_head (Labelled label) p least from to e reaches read =
      (branch label read.0 from to, (read.0, refl), by_production e reaches read.1)
  by_head (Bracketed sort) p least from to e reaches read =
      let b = bracket_head sort (pair_of g sort) p e in
      let R : Production → Type 0 = λ q. Read q.symbols from to in
      let G : Production → Type 0 = λ q. (r : Reading) × IsOf (Bracketed sort) from to r × Reads g tokens q.sort least from to r in
      let symbols = subst R b.2 read in
      subst G (sym b.2) (bracket_read sort least from to b.0 symbols.0 b.1 symbols.1)

  -- one more symbol before the dot
  pub step_read : (p : Production) (dot origin middle end : ℕ) (symbol : Symbol) → slice_get p.symbols dot ≡ Some symbol →
      Read (take dot p.symbols) origin middle → Read (symbol ∷ []) middle end → Read (take (suc dot) p.symbols) origin end
  step_read p dot origin middle end symbol e before one =
      rw (take-slice_get p.symbols dot symbol e) (joined (symbol ∷ []) end before.1 one)

  -- the symbol after the dot, in the production that the head is known to have
  pub next_symbol : (head : Head) (dot : ℕ) (symbol : Symbol) (p : Production) → NextIs g head dot symbol → production_of g head ≡ Some p → slice_get p.symbols dot ≡ Some symbol
  next_symbol head dot symbol p next e = let same : next.0 ≡ p = cc (next.1, e) in subst (λ q. slice_get q.symbols dot ≡ Some symbol) same next.2

  -- before a dot at the end stand all symbols
  pub whole_of : (head : Head) (full : ℕ) (p : Production) → AtEnd g head full → production_of g head ≡ Some p → take full p.symbols ≡ p.symbols
  whole_of head full p full_is e =
      let same : full_is.0 ≡ p = cc (full_is.1, e) in
      let long : length p.symbols ≡ full = subst (λ q. length q.symbols ≡ full) same full_is.2 in
      take_all full p.symbols (omega arith)

  -- an item that holds has readings of the symbols before its dot
  pub items_read : (start : ℕ) {head : Head} {dot origin end : ℕ} → Item g tokens start head dot origin end →
      (p : Production) → production_of g head ≡ Some p → Read (take dot p.symbols) origin end
  items_read start (started m) p e = (done, all_read)
  items_read start (predicted item next m) p e = (done, all_read)
  items_read start (scanned {head = head} {dot = dot} {origin = origin} {end = end} {symbol = symbol} item next h) p e =
      step_read p dot origin end (suc end) symbol (next_symbol head dot symbol p next e) (items_read start item p e) (one_token symbol end h)
  items_read start (completed {head = head} {other = other} {dot = dot} {full = full} {origin = origin} {middle = middle} {end = end} {sort = sort} {least = least} item next inner makes full_is) p e =
      let q = makes.production in
      let whole : take full q.symbols ≡ q.symbols = whole_of other full q full_is makes.is in
      let inside : Read q.symbols middle end = subst (λ xs. Read xs middle end) whole (items_read start inner q makes.is) in
      let r = by_head other q least middle end makes.is makes.reaches inside in
      let kid : Reads g tokens sort least middle end r.0 = subst (λ s. Reads g tokens s least middle end r.0) makes.same_sort r.2 in
      step_read p dot origin middle end (part sort least) (next_symbol head dot (part sort least) p next e) (items_read start item p e)
      (r.0 ▸ done, by_part kid all_read)

-- items are sound
pub items_sound : ItemsAreRead
items_sound g tokens start head p dot origin end item e = items_read g tokens start item p e

-- complete spans are sound
pub spans_sound : SpansAreRead
spans_sound g tokens start head p from to span e =
    let whole = whole_of g tokens head span.0 p span.1 e in
    let inside : Read g tokens p.symbols from to = subst (λ xs. Read g tokens xs from to) whole (items_read g tokens start span.2 p e) in
    by_head g tokens head p p.level from to e (omega arith) inside
