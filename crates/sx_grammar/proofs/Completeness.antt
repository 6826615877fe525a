use Rattle.std.proofs.Common.{◌≡◌, ℕ, zero, suc, ◌≤◌, List, [], ◌∷◌, Option, Some, None, length, refl, sym, ap, subst, ◌⊎◌, inl, inr, arith}
use Rattle.std.specs.List.{slice_get}
use Rattle.std.proofs.lemmas.Option.{same_Some, none-some}
use Rattle.sx_grammar.specs.Grammar.{Symbol, literal, lexical, part, Production, Brackets, Grammar, production_of, bracket_production, pair_of, of_sort, is_variable, Token, HasLevels}
use Rattle.sx_grammar.specs.declared.head.Head.{Head}
use Rattle.sx_grammar.specs.declared.head.Head.TheVariants.{Labelled, Bracketed}
use Rattle.sx_grammar.specs.Reading.{Marked, IsLiteral, Reading, Readings, branch, bracket, Reads, by_production, by_brackets, by_variable, ReadsAll, all_read, by_literal, by_lexeme, by_lexical_variable, by_part, HasSpan, at_node, at_bracket, in_node, in_bracket, AnyHasSpan, in_first, past_part, past_lexeme, past_literal}
use Rattle.sx_grammar.specs.Items.{Makes, NextIs, Item, started, predicted, scanned, completed, Span}
use Rattle.sx_grammar.specs.Laws.{SpansAreFound, InnerSpansAreFound}

-- the part of the list from this place on
pub data Left : List Symbol → ℕ → List Symbol → Type 0 where
  from_start : {xs : List Symbol} → Left xs zero xs
  later : {x : Symbol} {xs : List Symbol} {dot : ℕ} {rest : List Symbol} → Left xs dot rest → Left (x ∷ xs) (suc dot) rest

-- one symbol fewer is left
pub past : {xs : List Symbol} {dot : ℕ} (x : Symbol) (rest : List Symbol) → Left xs dot (x ∷ rest) → Left xs (suc dot) rest
past x rest from_start = later from_start
past x rest (later l) = later (past x rest l)

-- the first symbol left is the one at the place
pub left_first : {xs : List Symbol} {dot : ℕ} (x : Symbol) (rest : List Symbol) → Left xs dot (x ∷ rest) → slice_get xs dot ≡ Some x
left_first x rest from_start = refl
left_first x rest (later l) = left_first x rest l

-- where none is left, the place is the end
pub left_none : {xs : List Symbol} {dot : ℕ} → Left xs dot [] → length xs ≡ dot
left_none from_start = refl
left_none (later l) = ap suc (left_none l)

-- the one part of a bracket pair asks for level 0
bracket_low : (s : ℕ) (o : Option Brackets) (p : Production) (dot sort least : ℕ) → bracket_production s o ≡ Some p →
    slice_get p.symbols dot ≡ Some (part sort least) → least ≤ 100
bracket_low s None p dot sort least e next = absurd (none-some p e)
bracket_low s (Some pair) p dot sort least e next =
    pair_low s pair dot sort least (subst (λ q. slice_get q.symbols dot ≡ Some (part sort least)) (sym (same_Some _ _ e)) next)
  where
    pair_low : (s : ℕ) (pair : Brackets) (dot sort least : ℕ) →
        slice_get (literal pair.opening ∷ part s 0 ∷ literal pair.closing ∷ []) dot ≡ Some (part sort least) → least ≤ 100
    pair_low s pair zero sort least h = cc
    pair_low s pair (suc zero) sort least h = let same : 0 ≡ least = cc in omega arith
    pair_low s pair (suc (suc zero)) sort least h = cc
    pair_low s pair (suc (suc (suc n))) sort least h = absurd (none-some (part sort least) h)

module _ (g : Grammar) (tokens : List Token) (start : ℕ) (levels : HasLevels g) where
  -- each production of the sort from the level on is predicted at this place
  abbrev pub Predicted : (sort least place : ℕ) → Type 0
  Predicted sort least place = (head : Head) → Makes g head sort least → Item g tokens start head 0 place place

  -- the reading's head is complete, or it is a variable
  abbrev pub Reached : (sort least from to : ℕ) → Type 0
  Reached sort least from to =
      (Marked tokens from (is_variable (of_sort sort)) × (to ≡ suc from)) ⊎
      ((head : Head) × Makes g head sort least × Span g tokens start head from to)

  -- an item goes over a part that is reached
  pub over_part : (head : Head) (dot origin from to sort least : ℕ) → Item g tokens start head dot origin from →
      NextIs g head dot (part sort least) → Reached sort least from to → Item g tokens start head (suc dot) origin to
  over_part head dot origin from to sort least item next (inl v) =
      subst (λ e. Item g tokens start head (suc dot) origin e) (sym v.1) (scanned item next v.0)
  over_part head dot origin from to sort least item next (inr h) =
      completed item next h.2.2 h.1 h.2.1

  abbrev bracket_makes : (sort least : ℕ) (pair : Brackets) → least ≤ 100 → pair_of g sort ≡ Some pair → Makes g (Bracketed sort) sort least
  bracket_makes sort least pair low e = record {
    production = record { sort = sort; level = 100; symbols = literal pair.opening ∷ part sort 0 ∷ literal pair.closing ∷ [] };
    is = ap (bracket_production sort) e;
    same_sort = refl;
    reaches = low;
  }

  label_makes : (label least : ℕ) (p : Production) → slice_get g.productions label ≡ Some p → least ≤ p.level → Makes g (Labelled label) p.sort least
  label_makes label least p e high = record { production = p; is = e; same_sort = refl; reaches = high }

  -- the least level of a part is no higher than a bracket pair's
  pub part_low : (head : Head) (p : Production) (dot sort least : ℕ) → production_of g head ≡ Some p →
      slice_get p.symbols dot ≡ Some (part sort least) → least ≤ 100
  part_low (Labelled label) p dot sort least e next = let low = levels label p dot sort least e next in omega arith
  part_low (Bracketed s) p dot sort least e next = bracket_low s (pair_of g s) p dot sort least e next

  -- a bracket pair's first symbol is over, and then its part
  opened : (sort least from : ℕ) (pair : Brackets) → pair_of g sort ≡ Some pair → least ≤ 100 → IsLiteral tokens from pair.opening →
      Predicted sort least from → Item g tokens start (Bracketed sort) 1 from (suc from)
  opened sort least from pair e low a predict =
      let makes = bracket_makes sort least pair low e in
      scanned (predict (Bracketed sort) makes) (makes.production, makes.is, refl) a

  bracket_next : (sort : ℕ) (pair : Brackets) → pair_of g sort ≡ Some pair → NextIs g (Bracketed sort) 1 (part sort 0)
  bracket_next sort pair e = let makes = bracket_makes sort 0 pair (omega arith) e in (makes.production, makes.is, refl)

  -- after its last symbol a bracket pair is complete
  closed : (sort from to : ℕ) (pair : Brackets) → pair_of g sort ≡ Some pair → IsLiteral tokens to pair.closing →
      Item g tokens start (Bracketed sort) 2 from to → Span g tokens start (Bracketed sort) from (suc to)
  closed sort from to pair e b item =
      let makes = bracket_makes sort 0 pair (omega arith) e in
      (3, (makes.production, makes.is, refl), scanned item (makes.production, makes.is, refl) b)

  mutual
    pub reached : {sort least from to : ℕ} {r : Reading} → Reads g tokens sort least from to r → least ≤ 100 →
        Predicted sort least from → Reached sort least from to
    reached (by_production {least = least} {from = from} {label = label} {p = p} e high all) low predict =
        let makes = label_makes label least p e high in
        inr (Labelled label, makes, walked all (Labelled label) p zero from e from_start (predict (Labelled label) makes))
    reached (by_brackets {sort = sort} {least = least} {from = from} {to = to} {pair = pair} e a inner b) low predict =
        let next = bracket_next sort pair e in
        let before = opened sort least from pair e low a predict in
        let filled = over_part (Bracketed sort) 1 from (suc from) to sort 0 before next (reached inner (omega arith) (λ other m. predicted before next m)) in
        inr (Bracketed sort, bracket_makes sort least pair low e, closed sort from to pair e b filled)
    reached (by_variable h) low predict = inl (h, refl)

    pub walked : {rest : List Symbol} {from to : ℕ} {kids : Readings} → ReadsAll g tokens rest from to kids →
        (head : Head) (p : Production) (dot origin : ℕ) → production_of g head ≡ Some p → Left p.symbols dot rest →
        Item g tokens start head dot origin from → Span g tokens start head origin to
    walked all_read head p dot origin e left item = (dot, (p, e, left_none left), item)
    walked (by_literal {text = text} {rest = rest} h more) head p dot origin e left item =
        walked more head p (suc dot) origin e (past (literal text) rest left)
        (scanned item (p, e, left_first (literal text) rest left) h)
    walked (by_lexeme {kind = kind} {rest = rest} h more) head p dot origin e left item =
        walked more head p (suc dot) origin e (past (lexical kind) rest left)
        (scanned item (p, e, left_first (lexical kind) rest left) (inl h))
    walked (by_lexical_variable {kind = kind} {rest = rest} h more) head p dot origin e left item =
        walked more head p (suc dot) origin e (past (lexical kind) rest left)
        (scanned item (p, e, left_first (lexical kind) rest left) (inr h))
    walked (by_part {sort = sort} {least = least} {rest = rest} {from = from} {middle = middle} k more) head p dot origin e left item =
        let first = left_first (part sort least) rest left in
        let next : NextIs g head dot (part sort least) = (p, e, first) in
        walked more head p (suc dot) origin e (past (part sort least) rest left)
        (over_part head dot origin from middle sort least item next
        (reached k (part_low head p dot sort least e first) (λ other m. predicted item next m)))

  mutual
    -- each node and each bracket pair in a reading is complete
    pub found : {sort least from to : ℕ} {r : Reading} → Reads g tokens sort least from to r → (head : Head) (left right : ℕ) →
        least ≤ 100 → Predicted sort least from → HasSpan g sort r head left right → Span g tokens start head left right
    found (by_production {least = least} {from = from} {label = label} {p = p} e high all) head left right low predict at_node =
        walked all (Labelled label) p zero from e from_start (predict (Labelled label) (label_makes label least p e high))
    found (by_production {least = least} {from = from} {label = label} {p = p} {kids = kids} e high all) head left right low predict (in_node {p = q} same any) =
        let is : q ≡ p = cc (same, e) in
        let any' : AnyHasSpan g p.symbols kids head left right = subst (λ x. AnyHasSpan g x.symbols kids head left right) is any in
        found_all all head left right (Labelled label) p zero from e from_start (predict (Labelled label) (label_makes label least p e high)) any'
    found (by_brackets {sort = sort} {least = least} {from = from} {to = to} {pair = pair} e a inner b) head left right low predict at_bracket =
        let next = bracket_next sort pair e in
        let before = opened sort least from pair e low a predict in
        let filled = over_part (Bracketed sort) 1 from (suc from) to sort 0 before next (reached inner (omega arith) (λ other m. predicted before next m)) in
        closed sort from to pair e b filled
    found (by_brackets {sort = sort} {least = least} {from = from} {to = to} {pair = pair} e a inner b) head left right low predict (in_bracket within) =
        let next = bracket_next sort pair e in
        let before = opened sort least from pair e low a predict in
        found inner head left right (omega arith) (λ other m. predicted before next m) within
    found (by_variable h) head left right low predict within = elim within [ ]

    pub found_all : {rest : List Symbol} {from to : ℕ} {kids : Readings} → ReadsAll g tokens rest from to kids →
        (head : Head) (left right : ℕ) (parent : Head) (p : Production) (dot origin : ℕ) → production_of g parent ≡ Some p → Left p.symbols dot rest →
        Item g tokens start parent dot origin from → AnyHasSpan g rest kids head left right → Span g tokens start head left right
    found_all all_read head l r parent p dot origin e left item any = elim any [ ]
    found_all (by_literal {text = text} {rest = rest} h more) head l r parent p dot origin e left item (past_literal any) =
        found_all more head l r parent p (suc dot) origin e (past (literal text) rest left)
        (scanned item (p, e, left_first (literal text) rest left) h) any
    found_all (by_lexeme {kind = kind} {rest = rest} h more) head l r parent p dot origin e left item (past_lexeme any) =
        found_all more head l r parent p (suc dot) origin e (past (lexical kind) rest left)
        (scanned item (p, e, left_first (lexical kind) rest left) (inl h)) any
    found_all (by_lexical_variable {kind = kind} {rest = rest} h more) head l r parent p dot origin e left item (past_lexeme any) =
        found_all more head l r parent p (suc dot) origin e (past (lexical kind) rest left)
        (scanned item (p, e, left_first (lexical kind) rest left) (inr h)) any
    found_all (by_part {sort = sort} {least = least} {rest = rest} k more) head l r parent p dot origin e left item (in_first within) =
        let first = left_first (part sort least) rest left in
        let next : NextIs g parent dot (part sort least) = (p, e, first) in
        found k head l r (part_low parent p dot sort least e first) (λ other m. predicted item next m) within
    found_all (by_part {sort = sort} {least = least} {rest = rest} {from = from} {middle = middle} k more) head l r parent p dot origin e left item (past_part any) =
        let first = left_first (part sort least) rest left in
        let next : NextIs g parent dot (part sort least) = (p, e, first) in
        found_all more head l r parent p (suc dot) origin e (past (part sort least) rest left)
        (over_part parent dot origin from middle sort least item next
        (reached k (part_low parent p dot sort least e first) (λ other m. predicted item next m))) any

  -- an item's production begins at its origin
  pub begins : {head : Head} {dot origin end : ℕ} → Item g tokens start head dot origin end → Item g tokens start head 0 origin origin
  begins (started m) = started m
  begins (predicted item next m) = predicted item next m
  begins (scanned item next reads) = begins item
  begins (completed item next inner m full) = begins item

  -- what stands in a node whose production begins is complete
  inner_branch : {sort least from to label f t : ℕ} {kids : Readings} → Reads g tokens sort least from to (branch label kids f t) →
      (head : Head) (left right : ℕ) → Item g tokens start (Labelled label) 0 from from →
      HasSpan g sort (branch label kids f t) head left right → Span g tokens start head left right
  inner_branch (by_production {from = from} {label = label} {p = p} e high all) head left right item at_node =
      walked all (Labelled label) p zero from e from_start item
  inner_branch (by_production {from = from} {label = label} {p = p} {kids = kids} e high all) head left right item (in_node {p = q} same any) =
      let is : q ≡ p = cc (same, e) in
      let any' : AnyHasSpan g p.symbols kids head left right = subst (λ x. AnyHasSpan g x.symbols kids head left right) is any in
      found_all all head left right (Labelled label) p zero from e from_start item any'

  opened_from : (sort from : ℕ) (pair : Brackets) → pair_of g sort ≡ Some pair → IsLiteral tokens from pair.opening →
      Item g tokens start (Bracketed sort) 0 from from → Item g tokens start (Bracketed sort) 1 from (suc from)
  opened_from sort from pair e a item = let makes = bracket_makes sort 0 pair (omega arith) e in scanned item (makes.production, makes.is, refl) a

  -- and so in a bracket pair that begins
  inner_bracket : {sort least from to f t : ℕ} {inner : Reading} → Reads g tokens sort least from to (bracket inner f t) →
      (head : Head) (left right : ℕ) → Item g tokens start (Bracketed sort) 0 from from →
      HasSpan g sort (bracket inner f t) head left right → Span g tokens start head left right
  inner_bracket (by_brackets {sort = sort} {from = from} {to = to} {pair = pair} e a reads b) head left right item at_bracket =
      let next = bracket_next sort pair e in
      let before = opened_from sort from pair e a item in
      closed sort from to pair e b (over_part (Bracketed sort) 1 from (suc from) to sort 0 before next (reached reads (omega arith) (λ other m. predicted before next m)))
  inner_bracket (by_brackets {sort = sort} {from = from} {to = to} {pair = pair} e a reads b) head left right item (in_bracket within) =
      let next = bracket_next sort pair e in
      let before = opened_from sort from pair e a item in
      found reads head left right (omega arith) (λ other m. predicted before next m) within

-- a bracket pair's production is of its sort
pair_sort : (s : ℕ) (o : Option Brackets) (p : Production) → bracket_production s o ≡ Some p → p.sort ≡ s
pair_sort s None p e = absurd (none-some p e)
pair_sort s (Some pair) p e = ap (λ x. x.sort) (sym (same_Some _ p e))

-- what stands in a reading of a complete span is complete
pub spans_inside : InnerSpansAreFound
spans_inside g tokens start (Labelled label) p from to r head left right levels span e by within =
    inner_branch g tokens start levels (subst (λ x. Reads g tokens p.sort 0 from to x) by.0.1 by.1) head left right
    (begins g tokens start levels span.2) (subst (λ x. HasSpan g p.sort x head left right) by.0.1 within)
spans_inside g tokens start (Bracketed s) p from to r head left right levels span e by within =
    let same : s ≡ p.sort = sym (pair_sort s (pair_of g s) p e) in
    inner_bracket g tokens start levels (subst (λ x. Reads g tokens p.sort 0 from to x) by.0.1 by.1) head left right
    (subst (λ x. Item g tokens start (Bracketed x) 0 from from) same (begins g tokens start levels span.2))
    (subst (λ x. HasSpan g p.sort x head left right) by.0.1 within)

-- each node and bracket pair of each reading of the whole is found
pub spans_found : SpansAreFound
spans_found g tokens start r head from to levels whole within =
    found g tokens start levels whole head from to (omega arith) (λ other m. started m) within
