use Rattle.std.proofs.Common.{◌≡◌, ℕ, zero, suc, ◌-◌, ◌<◌, ◌≤◌, List, [], ◌∷◌, ◌++◌, ◌⊎◌, inl, inr, Option, Some, refl, sym, subst, ap, ◌∙◌, length, take, arith}
use Rattle.std.specs.Global.{Vec}
use Rattle.std.specs.List.{slice_get}
use Rattle.std.proofs.lemmas.Bool.{cases_lt}
use Rattle.std.proofs.lemmas.Option.{slice_get_within, same_Some}
use Rattle.sx_term.specs.declared.lex_kind.LexKind.{LexKind}
use Rattle.sx_grammar.specs.Grammar.{Symbol, literal, lexical, part, Production, Grammar, Token}
use Rattle.sx_grammar.specs.Grammar.{production_of, pair_of, is_variable, is_lexeme, of_sort}
use Rattle.sx_grammar.specs.Grammar.{of_kind, HasLevels}
use Rattle.sx_grammar.specs.declared.head.Head.{Head}
use Rattle.sx_grammar.specs.declared.head.Head.TheVariants.{Labelled, Bracketed}
use Rattle.sx_grammar.specs.Reading.{Marked, Reading, Readings, bracket, leaf, variable, Reads}
use Rattle.sx_grammar.specs.Reading.{ReadsAll, reading_depth, readings_depth, HasSpan, at_node}
use Rattle.sx_grammar.specs.Reading.{at_bracket}
use Rattle.sx_grammar.specs.Items.{ReadsToken, NextIs, Item, Span, started, predicted, scanned}
use Rattle.sx_grammar.specs.Items.{completed}
use Rattle.sx_grammar.specs.Order.{IsRanking, ComesBefore}
use Rattle.sx_grammar.specs.Tally.{Tally, no_way, one_way, IsTally, IsLeafAt, ReadsAt}
use Rattle.sx_grammar.proofs.Deciding.{lexical_read, literal_read, bracket_sort, literal_elsewhere, literal_tally, lexical_tally, none_tally, none_elsewhere, by_kind}
use Rattle.sx_grammar.proofs.Depth.{forward, forward_all}
use Rattle.sx_grammar.proofs.Ordering.{kids_before}
use Rattle.sx_grammar.proofs.Soundness.{items_read, bracket_head}
use Rattle.sx_grammar.proofs.Completeness.{Left, from_start, later, left_first, found, part_low}
use Rattle.sx_forest.specs.declared.stretch.Stretch.{Stretch}
use Rattle.sx_forest.specs.declared.entry.Maker.{Maker}
use Rattle.sx_forest.specs.declared.entry.Maker.TheVariants.{Variable, By}
use Rattle.sx_forest.specs.declared.entry.Entry.{Entry}
use Rattle.sx_forest.specs.Tallies.{tally_of, IsLastRow}
use Rattle.sx_forest.specs.Rows.{FitsPart, IsPlaceRow, IsNextRow, IsIn, IsStretchRow, entries_at}
use Rattle.sx_forest.specs.Table.{CountsReadings, IsForestTable, HasBefore, IsRight}
use Rattle.sx_forest.proofs.Counting.{makes_is, of_sort_is, KidOf, part_counted}
use Rattle.sx_forest.proofs.Using.{kid_end}

-- where a row has a way, it is made there
pub row_there : (g : Grammar) (tokens : List Token) (lists : List (Vec Entry)) (symbol : Option Symbol) (to place : ℕ) (stretch : Stretch) (next row : ℕ → Tally) →
    IsStretchRow g tokens lists symbol to stretch next row → (row place ≡ no_way → ⊥) → IsNextRow g tokens (entries_at lists place) symbol place next (row place)
row_there g tokens lists symbol to place stretch next row made some =
    by_order (cases_lt place stretch.first) (cases_lt place stretch.end) (cases_lt to place)
  where
    by_order : (place < stretch.first) ⊎ (stretch.first ≤ place) → (place < stretch.end) ⊎ (stretch.end ≤ place) → (to < place) ⊎ (place ≤ to) →
        IsNextRow g tokens (entries_at lists place) symbol place next (row place)
    by_order (inl before) h k = absurd (some (made.outside place (λ low is. let first = is.0 in omega arith)))
    by_order (inr after) (inr past) k = absurd (some (made.outside place (λ low is. let last = is.1 in omega arith)))
    by_order (inr after) (inl under) (inl beyond) = absurd (some (made.outside place (λ low is. omega arith)))
    by_order (inr after) (inl under) (inr low) = made.each place low (after, under)

module _ (g : Grammar) (tokens : List Token) (start : ℕ) where
  -- a symbol that reads a token reads one that is there
  token_there : (symbol : Symbol) (place : ℕ) → ReadsToken tokens symbol place → place < length tokens
  token_there (literal text) place h = slice_get_within tokens place _ h
  token_there (lexical kind) place (inl h) = slice_get_within tokens place _ h.1
  token_there (lexical kind) place (inr h) = slice_get_within tokens place _ h.1
  token_there (part sort least) place h = slice_get_within tokens place _ h.1

  pub item_forward : {head : Head} {dot origin end : ℕ} → Item g tokens start head dot origin end → origin ≤ end
  item_forward (started m) = omega arith
  item_forward (predicted item next m) = omega arith
  item_forward (scanned {origin = origin} {end = end} item next reads) = let h : origin ≤ end = item_forward item in omega arith
  item_forward (completed {origin = origin} {middle = middle} {end = end} item next inner m full) =
      let h : origin ≤ middle = item_forward item in let k : middle ≤ end = item_forward inner in omega arith

  pub item_within : {head : Head} {dot origin end : ℕ} → Item g tokens start head dot origin end → end ≤ length tokens
  item_within (started m) = omega arith
  item_within (predicted item next m) = item_within item
  item_within (scanned {end = end} {symbol = symbol} item next reads) = let h : end < length tokens = token_there symbol end reads in omega arith
  item_within (completed item next inner m full) = item_within inner

  pub span_forward : (head : Head) (from to : ℕ) → Span g tokens start head from to → from ≤ to
  span_forward head from to span = item_forward span.2

  pub span_within : (head : Head) (from to : ℕ) → Span g tokens start head from to → to ≤ length tokens
  span_within head from to span = item_within span.2

  -- the row after all symbols is right
  pub last_at : (to place : ℕ) (row : ℕ → Tally) → IsLastRow to row → IsTally (ReadsAll g tokens [] place to) readings_depth (row place)
  last_at to place row last = by_order (cases_lt place to) (cases_lt to place)
    where
      by_order : (place < to) ⊎ (to ≤ place) → (to < place) ⊎ (place ≤ to) → IsTally (ReadsAll g tokens [] place to) readings_depth (row place)
      by_order (inl low) h = rw (last.elsewhere place (λ same. omega arith)) (none_elsewhere g tokens place to (λ same. omega arith))
      by_order (inr high) (inl beyond) = rw (last.elsewhere place (λ same. omega arith)) (none_elsewhere g tokens place to (λ same. omega arith))
      by_order (inr high) (inr low) =
          let same : to ≡ place = omega arith in
          let P : ℕ → Type 0 = λ p. IsTally (ReadsAll g tokens [] p to) readings_depth (row p) in
          subst P same (rw last.end (none_tally g tokens to))

  pub last_right : (head : Head) (dot from to : ℕ) (row : ℕ → Tally) → IsLastRow to row → IsRight g tokens start head dot from to [] row
  last_right head dot from to row last place item = last_at to place row last

  leaf_tally : (kind : LexKind) (place : ℕ) → ReadsToken tokens (lexical kind) place → IsTally (IsLeafAt tokens kind place) reading_depth (one_way 1)
  leaf_tally kind place (inl h) = (leaf place, inl (h, refl), refl, λ r. elim [ inl k ↦ k.1 | inr k ↦ absurd (not_both h k.0) ])
    where
      not_both : Marked tokens place (is_lexeme kind) → Marked tokens place (is_variable (of_kind kind)) → ⊥
      not_both a b = let e = same_Some _ _ (sym a.1 ∙ b.1) in let m : is_lexeme kind ≡ is_variable (of_kind kind) = ap (λ t. t.mark) e in cc
  leaf_tally kind place (inr h) = (variable place, inr (h, refl), refl, λ r. elim [ inl k ↦ absurd (not_both k.0 h) | inr k ↦ k.1 ])
    where
      not_both : Marked tokens place (is_lexeme kind) → Marked tokens place (is_variable (of_kind kind)) → ⊥
      not_both a b = let e = same_Some _ _ (sym a.1 ∙ b.1) in let m : is_lexeme kind ≡ is_variable (of_kind kind) = ap (λ t. t.mark) e in cc

  no_leaf : (kind : LexKind) (place : ℕ) (r : Reading) → IsLeafAt tokens kind place r → ReadsToken tokens (lexical kind) place
  no_leaf kind place r (inl h) = inl h.0
  no_leaf kind place r (inr h) = inr h.0

  -- what begins with a literal has read a token before a part
  opening_read : (o : List ℕ) (xs : List Symbol) (dot sort least : ℕ) (rest : List Symbol) (from place : ℕ) (ks : Readings) → Left (literal o ∷ xs) dot (part sort least ∷ rest) →
      ReadsAll g tokens (take dot (literal o ∷ xs)) from place ks → from < place
  opening_read o xs zero sort least rest from place ks left all = elim left [ ]
  opening_read o xs (suc dot) sort least rest from place ks (later l) all = let f = forward_all g tokens (literal_read g tokens all).1 in omega arith

  -- a kid of a head has that head's span
  pub kid_span : (sort least place middle : ℕ) (h : Head) (kid : Reading) → ReadsAt g tokens sort least place middle h kid → HasSpan g sort kid h place middle
  kid_span sort least place middle (Labelled label) kid k = rw k.1.0.1 at_node
  kid_span sort least place middle (Bracketed s) kid k =
      let same : s ≡ sort = sym (bracket_sort g tokens s (pair_of g s) k.0.production k.0.is) ∙ k.0.same_sort in
      rw k.1.0.1 (subst (λ x. HasSpan g sort (bracket k.1.0.0 place middle) (Bracketed x) place middle) (sym same) at_bracket)

  module _ (levels : HasLevels g) (rank : ℕ → ℕ) (ranking : IsRanking g rank) (lists : List (Vec Entry)) (table : IsForestTable g tokens start lists)
      (head : Head) (p : Production) (is : production_of g head ≡ Some p) (from to : ℕ) (has : HasBefore g tokens start rank lists head from to (rank p.sort)) where
    -- the symbols before a place
    before_left : {xs : List Symbol} {dot : ℕ} {rest : List Symbol} → Left xs dot rest → xs ≡ take dot xs ++ rest
    before_left from_start = refl
    before_left (later {x = x} l) = ap (λ v. x ∷ v) (before_left l)

    -- a kid of a bracket pair is narrower
    bracket_kid : (s : ℕ) (dot place middle sort least : ℕ) (rest : List Symbol) (kid : Reading) (ks : Readings) → head ≡ Bracketed s → Left p.symbols dot (part sort least ∷ rest) →
        Item g tokens start head dot from place → Reads g tokens sort least place middle kid → ReadsAll g tokens rest middle to ks → middle - place < to - from
    bracket_kid s dot place middle sort least rest kid ks same left item reads more =
        let is' : production_of g (Bracketed s) ≡ Some p = subst (λ x. production_of g x ≡ Some p) same is in
        let b = bracket_head g tokens s (pair_of g s) p is' in
        let before = items_read g tokens start item p is in
        let symbols : p.symbols ≡ literal b.0.opening ∷ part s 0 ∷ literal b.0.closing ∷ [] = ap (λ q. q.symbols) b.2 in
        let ahead : from < place = opening_read b.0.opening (part s 0 ∷ literal b.0.closing ∷ []) dot sort least rest from place before.0
        (subst (λ xs. Left xs dot (part sort least ∷ rest)) symbols left) (subst (λ xs. ReadsAll g tokens (take dot xs) from place before.0) symbols before.1) in
        let a : place ≤ middle = forward g tokens reads in let c : middle ≤ to = forward_all g tokens more in
        omega arith

    pub kid_before : (h : Head) → head ≡ h → (dot place middle sort least : ℕ) (rest : List Symbol) (kid : Reading) (ks : Readings) → Left p.symbols dot (part sort least ∷ rest) →
        Item g tokens start head dot from place → Reads g tokens sort least place middle kid → ReadsAll g tokens rest middle to ks →
        ComesBefore (middle - place) (rank sort) (to - from) (rank p.sort)
    kid_before (Bracketed s) same dot place middle sort least rest kid ks left item reads more =
        inl (bracket_kid s dot place middle sort least rest kid ks same left item reads more)
    kid_before (Labelled label) same dot place middle sort least rest kid ks left item reads more =
        let before = items_read g tokens start item p is in
        let labelled : production_of g (Labelled label) ≡ Some p = subst (λ x. production_of g x ≡ Some p) same is in
        kids_before g tokens rank ranking label p (take dot p.symbols) sort least rest labelled (before_left left) from place middle to before.0 kid ks before.1 reads more

    pub covered : (dot place sort least : ℕ) (rest : List Symbol) → Left p.symbols dot (part sort least ∷ rest) → Item g tokens start head dot from place →
        (middle : ℕ) (kid : Reading) (ks : Readings) → Reads g tokens sort least place middle kid → ReadsAll g tokens rest middle to ks →
        (i : ℕ) × (e : Entry) × (slice_get (entries_at lists place) i ≡ Some e) × KidOf g tokens e.maker sort least place middle kid × (e.to ≡ middle)
    covered dot place sort least rest left item middle kid ks reads more = by_case (by_kind g tokens reads low)
      where
        next : NextIs g head dot (part sort least)
        next = (p, is, left_first (part sort least) rest left)

        low : least ≤ 100
        low = part_low g tokens start levels head p dot sort least is (left_first (part sort least) rest left)

        by_case : (Marked tokens place (is_variable (of_sort sort)) × (middle ≡ suc place) × (kid ≡ variable place)) ⊎ ((h : Head) × ReadsAt g tokens sort least place middle h kid) →
            (i : ℕ) × (e : Entry) × (slice_get (entries_at lists place) i ≡ Some e) × KidOf g tokens e.maker sort least place middle kid × (e.to ≡ middle)
        by_case (inl v) =
            let entry = table.variables place sort v.0 in
            (entry.0, entry.1, entry.2, subst (λ m. KidOf g tokens m sort least place middle kid) (sym entry.3) (refl, v), entry.4 ∙ sym v.1)
        by_case (inr h) =
            let span = found g tokens start levels reads h.0 place middle low (λ other m. predicted item next m) (kid_span sort least place middle h.0 kid h.1) in
            let makes = h.1.0 in
            let before = kid_before head refl dot place middle sort least rest kid ks left item reads more in
            let entry = has h.0 makes.production place middle makes.is span (item_forward item) (forward_all g tokens more) (subst (λ x. ComesBefore (middle - place) (rank x) (to - from) (rank p.sort)) (sym makes.same_sort) before)
            (kid_end g tokens head p is dot sort least rest left to middle ks more h.0 (of_sort_is g h.0 sort least makes)) in
            (entry.0, entry.1, entry.2, subst (λ m. KidOf g tokens m sort least place middle kid) (sym entry.3) h.1, entry.4)

    -- the ways at a place are those of the symbol's readings
    place_right : (dot place : ℕ) (symbol : Symbol) (rest : List Symbol) (next row : ℕ → Tally) (t : Tally) → Left p.symbols dot (symbol ∷ rest) →
        IsRight g tokens start head (suc dot) from to rest next → Item g tokens start head dot from place → IsPlaceRow g tokens (entries_at lists place) symbol place next t →
        IsTally (ReadsAll g tokens (symbol ∷ rest) place to) readings_depth t
    place_right dot place (literal text) rest next row t left right item (inl h) =
        rw h.1 (literal_tally g tokens text rest place to (next (suc place)) h.0
        (right (suc place) (scanned item (p, is, left_first (literal text) rest left) h.0)))
    place_right dot place (literal text) rest next row t left right item (inr h) = rw h.1 (literal_elsewhere g tokens text rest place to h.0)
    place_right dot place (lexical kind) rest next row t left right item (inl h) =
        rw h.1 (lexical_tally g tokens kind rest place to (one_way 1) (next (suc place)) (leaf_tally kind place h.0)
        (right (suc place) (scanned item (p, is, left_first (lexical kind) rest left) h.0)))
    place_right dot place (lexical kind) rest next row t left right item (inr h) =
        rw h.1 (λ ks all. let l = lexical_read g tokens all in h.0 (no_leaf kind place l.0 l.2))
    place_right dot place (part sort least) rest next row t left right item sum =
        part_counted g tokens start sort least place to rest next (entries_at lists place) (table.sound place) (table.once place)
        (λ i e at fits. right e.to (over e.maker e.to (tally_of e.ways) (table.sound place i e at) fits))
        t sum (covered dot place sort least rest left item)
      where
        over : (m : Maker) (middle : ℕ) (u : Tally) → CountsReadings g tokens start m place middle u → FitsPart g m sort least → Item g tokens start head (suc dot) from middle
        over (Variable other) middle u s fits =
            let marked : Marked tokens place (is_variable (of_sort sort)) = subst (λ x. Marked tokens place (is_variable (of_sort x))) fits s.0 in
            subst (λ e. Item g tokens start head (suc dot) from e) (sym s.1) (scanned item (p, is, left_first (part sort least) rest left) marked)
        over (By h) middle u s fits =
            completed item (p, is, left_first (part sort least) rest left) s.0.2 (makes_is g h sort least fits) s.0.1

    -- a row before a right row is right, where the stretch has each place from which the rest is read
    pub row_right : (dot : ℕ) (symbol : Symbol) (rest : List Symbol) (stretch : Stretch) (next row : ℕ → Tally) → Left p.symbols dot (symbol ∷ rest) →
        ((place : ℕ) (ks : Readings) → Item g tokens start head dot from place → ReadsAll g tokens (symbol ∷ rest) place to ks → IsIn stretch place) →
        IsRight g tokens start head (suc dot) from to rest next → IsStretchRow g tokens lists (Some symbol) to stretch next row → IsRight g tokens start head dot from to (symbol ∷ rest) row
    row_right dot symbol rest stretch next row left there right made place item = by_order (cases_lt place stretch.first) (cases_lt place stretch.end) (cases_lt to place)
      where
        none : (place ≤ to → IsIn stretch place → ⊥) → IsTally (ReadsAll g tokens (symbol ∷ rest) place to) readings_depth (row place)
        none out = rw (made.outside place out) (λ ks all. out (forward_all g tokens all) (there place ks item all))

        by_order : (place < stretch.first) ⊎ (stretch.first ≤ place) → (place < stretch.end) ⊎ (stretch.end ≤ place) → (to < place) ⊎ (place ≤ to) →
            IsTally (ReadsAll g tokens (symbol ∷ rest) place to) readings_depth (row place)
        by_order (inl before) h k = none (λ low is. let first = is.0 in omega arith)
        by_order (inr after) (inr past) k = none (λ low is. let last = is.1 in omega arith)
        by_order (inr after) (inl under) (inl beyond) = none (λ low is. omega arith)
        by_order (inr after) (inl under) (inr low) =
            place_right dot place symbol rest next row (row place) left right item (made.each place low (after, under))
