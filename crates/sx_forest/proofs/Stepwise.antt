-- The steps of a reading of a span of the table.
use Rattle.std.proofs.Common.{◌≡◌, ℕ, zero, suc, ◌+◌, ◌-◌, ◌<◌, ◌≤◌, List, [], ◌∷◌, ◌++◌, ◌⊎◌, inl, inr, Some, refl, sym, subst, ap, ◌∙◌, length, take, get_or, arith}
use Rattle.std.specs.Prelude.{None, Option}
use Rattle.std.specs.Global.{Vec}
use Rattle.std.specs.List.{slice_get}
use Rattle.std.proofs.lemmas.Bool.{cases_lt}
use Rattle.std.proofs.lemmas.List.{take_all}
use Rattle.std.proofs.lemmas.Option.{slice_get_within, slice_get-get_or, same_Some, none-some}
use Rattle.sx_term.specs.declared.lex_kind.LexKind.{LexKind}
use Rattle.sx_grammar.specs.Grammar.{Symbol, literal, lexical, part, Production, Grammar, Token}
use Rattle.sx_grammar.specs.Grammar.{production_of, is_variable, of_sort, HasLevels}
use Rattle.sx_grammar.specs.Reading.{Marked, Reading, Readings, done, ◌▸◌, ReadsAll, all_read}
use Rattle.sx_grammar.specs.Reading.{by_literal, by_lexeme, by_lexical_variable, by_part}
use Rattle.sx_grammar.specs.Reading.{reading_depth, readings_depth, ReadsBy}
use Rattle.sx_grammar.specs.Items.{ReadsToken, Makes, NextIs, Item, scanned, completed}
use Rattle.sx_grammar.specs.Order.{IsRanking}
use Rattle.sx_grammar.specs.Tally.{Tally, no_way, one_way, times, IsTally, IsLeafAt}
use Rattle.sx_grammar.proofs.Completeness.{Left, from_start, later, past, begins}
use Rattle.sx_grammar.proofs.Soundness.{items_read, whole_of}
use Rattle.sx_earley.specs.Chart.{next_symbol, symbol_after}
use Rattle.sx_forest.specs.declared.entry.Maker.{Maker}
use Rattle.sx_forest.specs.declared.entry.Maker.TheVariants.{Variable, By}
use Rattle.sx_forest.specs.declared.entry.Entry.{Entry}
use Rattle.sx_forest.specs.declared.opened.Opened.{Opened}
use Rattle.sx_forest.specs.declared.stretch.Stretch.{Stretch}
use Rattle.sx_forest.specs.declared.step.Step.{Step}
use Rattle.sx_forest.specs.declared.step.Step.TheVariants as steps
use Rattle.sx_forest.specs.Tallies.{tally_of}
use Rattle.sx_forest.specs.Rows.{FitsPart, IsPlaceRow, stretch_at, AreStretches, IsStretchRow}
use Rattle.sx_forest.specs.Rows.{AreRows, symbol_count, tally_at, entries_at}
use Rattle.sx_forest.specs.Useful.{IsUsefulBy, useful_kid}
use Rattle.sx_forest.specs.Table.{CountsReadings, IsFull, IsRight}
use Rattle.sx_forest.specs.Forests.{symbols_in, symbols_of, depth_in, IsMore, IsBy, IsShallowEntry}
use Rattle.sx_forest.specs.Forests.{IsOpened, row_from, IsAt, IsReadTo, IsUsableEntry}
use Rattle.sx_forest.specs.Forests.{IsFirstUsable, GoesOver, IsItemStep, followed}
use Rattle.sx_forest.proofs.Counting.{makes_is, KidOf, kid_reads, kid_tally, makes_low}
use Rattle.sx_forest.proofs.Using.{kid_end}
use Rattle.sx_forest.proofs.Rows.{row_there, item_forward, span_forward}
use Rattle.sx_forest.proofs.Firsts.{by_rows}
use Rattle.sx_forest.proofs.Spans.{rows_right}
use Rattle.sx_forest.proofs.Tabling.{all_later}
use Rattle.sx_forest.proofs.Usable.{deepest_of, bounded_by, times_none, sum_usable}
use Rattle.sx_forest.proofs.Following.{followed_none, deep_behind, read_on}
use Rattle.sx_forest.proofs.Making.{are_kids, made_reads, can_make, made_depth}

-- the symbols from a place on
left_at : (xs : List Symbol) (dot : ℕ) (x : Symbol) → slice_get xs dot ≡ Some x → (rest : List Symbol) × Left xs dot (x ∷ rest)
left_at [] dot x e = let clash : None ≡ Some x = e in cc
left_at (y ∷ xs) zero x e = (xs, subst (λ z. Left (y ∷ xs) zero (z ∷ xs)) (same_Some y x e) from_start)
left_at (y ∷ xs) (suc dot) x e = let h = left_at xs dot x e in (h.0, later h.1)

before_left : {xs : List Symbol} {dot : ℕ} {rest : List Symbol} → Left xs dot rest → take dot xs ++ rest ≡ xs
before_left from_start = refl
before_left (later {x = x} l) = ap (λ v. x ∷ v) (before_left l)

take_one_more : (xs : List Symbol) (dot : ℕ) (x : Symbol) → slice_get xs dot ≡ Some x → take (suc dot) xs ≡ take dot xs ++ x ∷ []
take_one_more [] dot x e = let clash : None ≡ Some x = e in cc
take_one_more (y ∷ xs) zero x e = ap (λ z. z ∷ []) (same_Some y x e)
take_one_more (y ∷ xs) (suc dot) x e = ap (λ v. y ∷ v) (take_one_more xs dot x e)

module _ (g : Grammar) (tokens : List Token) where
  -- what is by a maker that fits is a kid
  pub is_kid : (m : Maker) (sort least place to : ℕ) (r : Reading) → FitsPart g m sort least → IsBy g tokens m place to r → KidOf g tokens m sort least place to r
  is_kid (Variable other) sort least place to r fits by =
      (fits, (subst (λ x. Marked tokens place (is_variable (of_sort x))) fits by.0, by.1, by.2))
  is_kid (By head) sort least place to r fits by = let makes = makes_is g head sort least fits in (makes, by sort (makes_low g head sort least makes))

  pub leaf_read : (kind : LexKind) (place : ℕ) (r : Reading) → IsLeafAt tokens kind place r → ReadsAll g tokens (lexical kind ∷ []) place (suc place) (r ▸ done)
  leaf_read kind place r (inl h) = rw h.1 (by_lexeme h.0 all_read)
  leaf_read kind place r (inr h) = rw h.1 (by_lexical_variable h.0 all_read)

-- the symbol after the dot is one of the head's
pub symbol_there : (q : Option Production) (dot : ℕ) → symbol_after q dot ≡ slice_get (symbols_in q) dot
symbol_there None dot = refl
symbol_there (Some q) dot = refl

pub count_long : (q : Option Production) → symbol_count q ≡ length (symbols_in q)
count_long None = refl
count_long (Some q) = refl

-- the row after the symbol at the dot
pub next_row : (g : Grammar) (o : Opened) (dot count : ℕ) (row : ℕ → Tally) → count ≡ symbol_count (production_of g o.head) → row ≡ tally_at o.rows.items (count - dot - 1) → row ≡ row_from g o (suc dot)
next_row g o dot count row long e =
    let same : count - dot - 1 ≡ length (symbols_of g o.head) - suc dot = omega (arith, long, count_long (production_of g o.head)) in
    e ∙ ap (λ k. tally_at o.rows.items k) same

pub no_symbol : (xs : List Symbol) (dot : ℕ) → dot < length xs → slice_get xs dot ≡ None → ⊥
no_symbol xs dot low e = none-some (get_or xs dot (literal [])) (sym e ∙ slice_get-get_or xs dot (literal []) low)

-- the same of equal rows, lists and results
pub usable_as : (g : Grammar) (sort least : ℕ) {next next' : ℕ → Tally} {entries entries' : List Entry} (first : ℕ) {r r' : Option (ℕ × Entry)} → next ≡ next' → entries ≡ entries' → r ≡ r' →
    IsFirstUsable g sort least next entries first r → IsFirstUsable g sort least next' entries' first r'
usable_as g sort least {next = next} {next' = next'} {entries = entries} {entries' = entries'} first {r = r} {r' = r'} a b c h =
    let one : IsFirstUsable g sort least next' entries first r = subst (λ x. IsFirstUsable g sort least x entries first r) a h in
    let two : IsFirstUsable g sort least next' entries' first r = subst (λ x. IsFirstUsable g sort least next' x first r) b one in
    subst (λ x. IsFirstUsable g sort least next' entries' first x) c two

module _ (g : Grammar) (tokens : List Token) (start : ℕ) (levels : HasLevels g) (rank : ℕ → ℕ) (ranking : IsRanking g rank) (lists : List (Vec Entry)) (full : IsFull g tokens start lists)
    (o : Opened) (opened : IsOpened g tokens start lists o) where
  abbrev p : Production
  p = opened.sound.0.1.0

  abbrev n : ℕ
  n = length (symbols_of g o.head)

  is : production_of g o.head ≡ Some p
  is = opened.sound.0.1.1

  symbols : symbols_of g o.head ≡ p.symbols
  symbols = ap symbols_in is

  along : o.from ≤ o.to
  along = span_forward g tokens start o.head o.from o.to opened.sound.0

  abbrev stretches : List Stretch
  stretches = opened.rows.stretches

  spread : AreStretches g tokens lists o.head (length p.symbols) o.from o.to stretches
  spread = subst (λ c. AreStretches g tokens lists o.head c o.from o.to stretches) (ap symbol_count is) opened.rows.spread

  are : AreRows g tokens lists o.head (length p.symbols) (length p.symbols) o.to stretches o.rows.items
  are = subst (λ c. AreRows g tokens lists o.head c c o.to stretches o.rows.items) (ap symbol_count is) opened.rows.are

  makes : Makes g o.head p.sort 0
  makes = record { production = p; is = is; same_sort = refl; reaches = omega arith }

  -- the row of the symbols from a dot on has the tally of their readings
  pub right : (dot : ℕ) (rest : List Symbol) → dot ≤ n → Left (symbols_of g o.head) dot rest → IsRight g tokens start o.head dot o.from o.to rest (row_from g o dot)
  right dot rest low left =
      let long : n ≡ length p.symbols = ap length symbols in
      rows_right g tokens start levels rank ranking lists full.table o.head p is o.from o.to along (λ other q place end e span after within before part_of. full.has other place end span (useful_kid opened.useful part_of))
      stretches (tally_at o.rows.items) spread (by_rows are) (n - dot) dot (omega arith) rest (subst (λ xs. Left xs dot rest) symbols left)

  -- the ways from a place by the symbol after the dot
  pub place_is : (dot place : ℕ) (x : Symbol) → slice_get (symbols_of g o.head) dot ≡ Some x → IsAt g tokens start o dot place →
      IsPlaceRow g tokens (entries_at lists place) x place (row_from g o (suc dot)) ((row_from g o dot) place)
  place_is dot place x e at =
      let low : dot < n = slice_get_within (symbols_of g o.head) dot x e in
      let long : n ≡ length p.symbols = ap length symbols in
      let ahead : o.from ≤ place = item_forward g tokens start at.item in
      let row = row_from g o dot in
      let next = row_from g o (suc dot) in
      let m = n - suc dot in
      let there : length p.symbols - m - 1 ≡ dot = omega arith in
      let up : m + 1 ≡ n - dot = omega arith in
      let symbol : next_symbol g o.head dot ≡ Some x = ap (λ q. symbol_after q dot) is ∙ subst (λ xs. slice_get xs dot ≡ Some x) symbols e in
      let made = are.each m (omega arith) in
      let made' : IsStretchRow g tokens lists (Some x) o.to (stretch_at stretches dot) next row =
      subst (λ k. IsStretchRow g tokens lists (Some x) o.to (stretch_at stretches dot) next (tally_at o.rows.items k)) up
      (subst (λ s. IsStretchRow g tokens lists s o.to (stretch_at stretches dot) next (tally_at o.rows.items (m + 1))) symbol
      (subst (λ d. IsStretchRow g tokens lists (next_symbol g o.head d) o.to (stretch_at stretches d) next (tally_at o.rows.items (m + 1))) there made)) in
      row_there g tokens lists (Some x) o.to place (stretch_at stretches dot) next row made' at.some

  next_is : (dot : ℕ) (x : Symbol) → slice_get (symbols_of g o.head) dot ≡ Some x → NextIs g o.head dot x
  next_is dot x e = (p, is, subst (λ xs. slice_get xs dot ≡ Some x) symbols e)

  -- what begins at a place that is reached ends no earlier than the span begins
  pub later_there : (dot place : ℕ) → IsAt g tokens start o dot place → (i : ℕ) (e : Entry) → slice_get (entries_at lists place) i ≡ Some e → o.from ≤ e.to
  later_there dot place at i e there =
      let a = all_later g tokens start lists full.table place i e there in let b : o.from ≤ place = item_forward g tokens start at.item in omega arith

  -- the step over a literal
  pub step_literal : (dot place : ℕ) (text : List ℕ) → slice_get (symbols_of g o.head) dot ≡ Some (literal text) → IsAt g tokens start o dot place → IsItemStep g tokens start lists o dot place steps.Literal
  step_literal dot place text e at = by_case (place_is dot place (literal text) e at)
    where
      by_case : IsPlaceRow g tokens (entries_at lists place) (literal text) place (row_from g o (suc dot)) ((row_from g o dot) place) → IsItemStep g tokens start lists o dot place steps.Literal
      by_case (inl h) = record {
        symbol = literal text;
        is = e;
        over = (refl, h.0);
        after = record { item = scanned at.item (next_is dot (literal text) e) h.0; some = λ z. at.some (h.1 ∙ z) };
      }
      by_case (inr h) = absurd (at.some h.1)

  -- the step over a token
  pub step_token : (dot place : ℕ) (kind : LexKind) → slice_get (symbols_of g o.head) dot ≡ Some (lexical kind) → IsAt g tokens start o dot place → IsItemStep g tokens start lists o dot place steps.Token
  step_token dot place kind e at = by_case (place_is dot place (lexical kind) e at)
    where
      by_case : IsPlaceRow g tokens (entries_at lists place) (lexical kind) place (row_from g o (suc dot)) ((row_from g o dot) place) → IsItemStep g tokens start lists o dot place steps.Token
      by_case (inl h) = record {
        symbol = lexical kind;
        is = e;
        over = (refl, h.0);
        after = record { item = scanned at.item (next_is dot (lexical kind) e) h.0; some = λ z. at.some (h.1 ∙ ap (λ u. times (one_way 1) u) z) };
      }
      by_case (inr h) = absurd (at.some h.1)

  -- an item goes over a part by an entry that fits
  over : (dot place sort least : ℕ) (m : Maker) (middle : ℕ) (u : Tally) → NextIs g o.head dot (part sort least) → Item g tokens start o.head dot o.from place →
      CountsReadings g tokens start m place middle u → FitsPart g m sort least → Item g tokens start o.head (suc dot) o.from middle
  over dot place sort least (Variable other) middle u next item s fits =
      let marked : Marked tokens place (is_variable (of_sort sort)) = subst (λ x. Marked tokens place (is_variable (of_sort x))) fits s.0 in
      subst (λ e. Item g tokens start o.head (suc dot) o.from e) (sym s.1) (scanned item next marked)
  over dot place sort least (By h) middle u next item s fits = completed item next s.0.2 (makes_is g h sort least fits) s.0.1

  -- an item goes over a part by a usable entry, and the rest can be read
  pub after_part : (dot place sort least index : ℕ) (e : Entry) → slice_get (symbols_of g o.head) dot ≡ Some (part sort least) → IsAt g tokens start o dot place →
      slice_get (entries_at lists place) index ≡ Some e → IsUsableEntry g sort least (row_from g o (suc dot)) e → IsAt g tokens start o (suc dot) e.to
  after_part dot place sort least index e symbol at there used = record {
    item = over dot place sort least e.maker e.to (tally_of e.ways) (next_is dot (part sort least) symbol) at.item (full.table.sound place index e there) used.0;
    some = λ z. used.1 (ap (λ u. times (tally_of e.ways) u) z ∙ times_none (tally_of e.ways));
  }

  -- the step over a part
  pub step_part : (dot place sort least index : ℕ) (e : Entry) → slice_get (symbols_of g o.head) dot ≡ Some (part sort least) → IsAt g tokens start o dot place →
      IsFirstUsable g sort least (row_from g o (suc dot)) (entries_at lists place) 0 (Some (index, e)) → IsItemStep g tokens start lists o dot place (steps.Part index e)
  step_part dot place sort least index e symbol at first = record {
    symbol = part sort least;
    is = symbol;
    over = (index, e, refl, first);
    after = after_part dot place sort least index e symbol at first.1 first.2;
  }

  -- some entry is usable
  pub some_usable : (dot place sort least : ℕ) → slice_get (symbols_of g o.head) dot ≡ Some (part sort least) → IsAt g tokens start o dot place →
      IsFirstUsable g sort least (row_from g o (suc dot)) (entries_at lists place) 0 None → ⊥
  some_usable dot place sort least symbol at none =
      let u = sum_usable g sort least (row_from g o (suc dot)) (entries_at lists place) (place_is dot place (part sort least) symbol at) at.some in
      none u.0 u.1 (omega arith) u.2 u.3

  -- what an entry reads is less deep than what the span does
  pub kid_depth : (dot place sort least index : ℕ) (e : Entry) (kids : Readings) → slice_get (symbols_of g o.head) dot ≡ Some (part sort least) → IsReadTo g tokens start o dot place kids →
      slice_get (entries_at lists place) index ≡ Some e → IsUsableEntry g sort least (row_from g o (suc dot)) e → depth_in (tally_of e.ways) < depth_in (tally_of o.ways)
  kid_depth dot place sort least index e kids symbol so there used =
      let low : dot < n = slice_get_within (symbols_of g o.head) dot (part sort least) symbol in
      let left = left_at (symbols_of g o.head) dot (part sort least) symbol in
      let rest = left.0 in
      let sound = full.table.sound place index e there in
      let kid = deepest_of (KidOf g tokens e.maker sort least place e.to) reading_depth (tally_of e.ways) (kid_tally g tokens start e.maker sort least place e.to (tally_of e.ways) sound used.0)
      (λ none. used.1 (ap (λ t. times t ((row_from g o (suc dot)) e.to)) none)) in
      let after = after_part dot place sort least index e symbol so.at there used in
      let more = deepest_of (ReadsAll g tokens rest e.to o.to) readings_depth ((row_from g o (suc dot)) e.to)
      (right (suc dot) rest (omega arith) (past (part sort least) rest left.1) e.to after.item) after.some in
      let reads : ReadsAll g tokens (part sort least ∷ rest) place o.to (kid.0 ▸ more.0) = by_part (kid_reads g tokens e.maker sort least place e.to kid.0 kid.1) more.1 in
      let ks = followed kids (kid.0 ▸ more.0) in
      let all : ReadsAll g tokens p.symbols o.from o.to ks =
      subst (λ xs. ReadsAll g tokens xs o.from o.to ks) (before_left left.1 ∙ symbols) (read_on g tokens (part sort least ∷ rest) o.to (kid.0 ▸ more.0) so.read reads) in
      let made = can_make o.head ks o.from o.to (are_kids g tokens o.head p o.from o.to ks is all) in
      let bound = bounded_by (ReadsBy g tokens o.head p.sort o.from o.to) reading_depth (tally_of o.ways) (opened.sound.1 p.sort makes) made.0 (made_reads g tokens o.head p o.from o.to ks made.0 is all made.1) in
      let deep = made_depth o.head ks o.from o.to made.0 made.1 in
      let inside = deep_behind kids kid.0 more.0 in
      let own = kid.2 in
      omega arith

  pub kid_shallow : (dot place sort least index : ℕ) (e : Entry) (kids : Readings) → slice_get (symbols_of g o.head) dot ≡ Some (part sort least) → IsReadTo g tokens start o dot place kids →
      slice_get (entries_at lists place) index ≡ Some e → IsUsableEntry g sort least (row_from g o (suc dot)) e → IsShallowEntry g tokens start place e
  kid_shallow dot place sort least index e kids symbol so there used =
      let less = kid_depth dot place sort least index e kids symbol so there used in let low = opened.low in
      record { sound = full.table.sound place index e there; low = omega arith; useful = by_maker e.maker used.0 }
    where
      by_maker : (m : Maker) → FitsPart g m sort least → IsUsefulBy g tokens m e.to
      by_maker (Variable other) fits = tt
      by_maker (By head) fits =
          let low : dot < n = slice_get_within (symbols_of g o.head) dot (part sort least) symbol in
          let left = left_at (symbols_of g o.head) dot (part sort least) symbol in
          let after = after_part dot place sort least index e symbol so.at there used in
          let more = deepest_of (ReadsAll g tokens left.0 e.to o.to) readings_depth ((row_from g o (suc dot)) e.to)
          (right (suc dot) left.0 (omega arith) (past (part sort least) left.0 left.1) e.to after.item) after.some in
          let own : Left p.symbols dot (part sort least ∷ left.0) = subst (λ xs. Left xs dot (part sort least ∷ left.0)) symbols left.1 in
          useful_kid opened.useful (kid_end g tokens o.head p is dot sort least left.0 own o.to e.to more.0 more.1 head fits)

  -- one symbol more is read
  read_symbol : (dot place to : ℕ) (x : Symbol) (kids more : Readings) → slice_get (symbols_of g o.head) dot ≡ Some x → IsReadTo g tokens start o dot place kids → IsAt g tokens start o (suc dot) to →
      ReadsAll g tokens (x ∷ []) place to more → IsReadTo g tokens start o (suc dot) to (followed kids more)
  read_symbol dot place to x kids more symbol so after one = record {
    at = after;
    read = rw (take_one_more (symbols_of g o.head) dot x symbol) (read_on g tokens (x ∷ []) to more so.read one);
  }

  pub read_literal : (dot place : ℕ) (kids : Readings) → IsReadTo g tokens start o dot place kids → IsItemStep g tokens start lists o dot place steps.Literal → IsReadTo g tokens start o (suc dot) (suc place) kids
  read_literal dot place kids so step = by_symbol step.symbol step.is step.over
    where
      by_symbol : (x : Symbol) → slice_get (symbols_of g o.head) dot ≡ Some x → GoesOver g tokens lists (row_from g o (suc dot)) place x steps.Literal → IsReadTo g tokens start o (suc dot) (suc place) kids
      by_symbol (literal text) e h =
          subst (λ ks. IsReadTo g tokens start o (suc dot) (suc place) ks) (followed_none kids) (read_symbol dot place (suc place) (literal text) kids done e so step.after (by_literal h.1 all_read))
      by_symbol (lexical kind) e h = let clash : steps.Literal ≡ steps.Token = h.0 in cc
      by_symbol (part sort least) e h = let clash : steps.Literal ≡ steps.Part h.0 h.1 = h.2 in cc

  pub read_token : (dot place : ℕ) (kids new : Readings) (r : Reading) → IsReadTo g tokens start o dot place kids → IsItemStep g tokens start lists o dot place steps.Token →
      ((kind : LexKind) → ReadsToken tokens (lexical kind) place → IsLeafAt tokens kind place r) → new ≡ followed kids (r ▸ done) → IsReadTo g tokens start o (suc dot) (suc place) new
  read_token dot place kids new r so step leaf same = rw same (by_symbol step.symbol step.is step.over)
    where
      by_symbol : (x : Symbol) → slice_get (symbols_of g o.head) dot ≡ Some x → GoesOver g tokens lists (row_from g o (suc dot)) place x steps.Token →
          IsReadTo g tokens start o (suc dot) (suc place) (followed kids (r ▸ done))
      by_symbol (literal text) e h = let clash : steps.Token ≡ steps.Literal = h.0 in cc
      by_symbol (lexical kind) e h = read_symbol dot place (suc place) (lexical kind) kids (r ▸ done) e so step.after (leaf_read g tokens kind place r (leaf kind h.1))
      by_symbol (part sort least) e h = let clash : steps.Token ≡ steps.Part h.0 h.1 = h.2 in cc

  -- what a step over a part goes by
  pub record IsPartAt (dot place index : ℕ) (e : Entry) : Type 0 where
    pub sort : ℕ
    pub least : ℕ
    pub symbol : slice_get (symbols_of g o.head) dot ≡ Some (part sort least)
    pub first : IsFirstUsable g sort least (row_from g o (suc dot)) (entries_at lists place) 0 (Some (index, e))

  pub part_of : (dot place index : ℕ) (e : Entry) → IsItemStep g tokens start lists o dot place (steps.Part index e) → IsPartAt dot place index e
  part_of dot place index e step = by_symbol step.symbol step.is step.over
    where
      by_symbol : (x : Symbol) → slice_get (symbols_of g o.head) dot ≡ Some x → GoesOver g tokens lists (row_from g o (suc dot)) place x (steps.Part index e) → IsPartAt dot place index e
      by_symbol (literal text) s h = let clash : steps.Part index e ≡ steps.Literal = h.0 in cc
      by_symbol (lexical kind) s h = let clash : steps.Part index e ≡ steps.Token = h.0 in cc
      by_symbol (part sort least) s h =
          let i : index ≡ h.0 = ap index_in h.2 in
          let x : e ≡ h.1 = ap (entry_in e) h.2 in
          record {
            sort = sort;
            least = least;
            symbol = s;
            first = subst (λ j. IsFirstUsable g sort least (row_from g o (suc dot)) (entries_at lists place) 0 (Some (j, e))) (sym i)
                (subst (λ y. IsFirstUsable g sort least (row_from g o (suc dot)) (entries_at lists place) 0 (Some (h.0, y))) (sym x) h.3);
          }
        where
          index_in : Step → ℕ
          index_in steps.Literal = 0
          index_in steps.Token = 0
          index_in (steps.Part j y) = j

          entry_in : Entry → Step → Entry
          entry_in d steps.Literal = d
          entry_in d steps.Token = d
          entry_in d (steps.Part j y) = y

  -- one part more is read, by a usable entry
  pub read_part : (dot place sort least index : ℕ) (e : Entry) (kids new : Readings) (r : Reading) → slice_get (symbols_of g o.head) dot ≡ Some (part sort least) →
      IsReadTo g tokens start o dot place kids → slice_get (entries_at lists place) index ≡ Some e → IsUsableEntry g sort least (row_from g o (suc dot)) e →
      IsBy g tokens e.maker place e.to r → new ≡ followed kids (r ▸ done) → IsReadTo g tokens start o (suc dot) e.to new
  read_part dot place sort least index e kids new r symbol so there used by same =
      rw same
      (read_symbol dot place e.to (part sort least) kids (r ▸ done) symbol so (after_part dot place sort least index e symbol so.at there used)
      (by_part (kid_reads g tokens e.maker sort least place e.to r (is_kid g tokens e.maker sort least place e.to r used.0 by)) all_read))

  -- before all symbols nothing is read
  pub none_read : IsReadTo g tokens start o 0 o.from done
  none_read =
      let item = begins g tokens start levels opened.sound.0.2 in
      let all = items_read g tokens start opened.sound.0.2 p is in
      let whole = whole_of g tokens o.head opened.sound.0.0 p opened.sound.0.1 is in
      let reads : ReadsAll g tokens (symbols_of g o.head) o.from o.to all.0 = subst (λ xs. ReadsAll g tokens xs o.from o.to all.0) (whole ∙ sym symbols) all.1 in
      record {
        at = record {
          item = item;
          some = λ none. (subst (λ t. IsTally (ReadsAll g tokens (symbols_of g o.head) o.from o.to) readings_depth t) none (right 0 (symbols_of g o.head) (omega arith) from_start o.from item)) all.0 reads;
        };
        read = all_read;
      }

  -- after all symbols all is read
  pub all_is_read : (place : ℕ) (kids : Readings) → IsReadTo g tokens start o n place kids → ReadsAll g tokens (symbols_of g o.head) o.from o.to kids
  all_is_read place kids so =
      let first : n - n ≡ 0 = omega arith in
      let some : (tally_at o.rows.items 0) place ≡ no_way → ⊥ = subst (λ k. (tally_at o.rows.items k) place ≡ no_way → ⊥) first so.at.some in
      let here : place ≡ o.to = at_end some (cases_lt place o.to) (cases_lt o.to place) in
      subst (λ xs. ReadsAll g tokens xs o.from o.to kids) (take_all n (symbols_of g o.head) (omega arith)) (subst (λ q. ReadsAll g tokens (take n (symbols_of g o.head)) o.from q kids) here so.read)
    where
      at_end : (tally_at o.rows.items 0 place ≡ no_way → ⊥) → (place < o.to) ⊎ (o.to ≤ place) → (o.to < place) ⊎ (place ≤ o.to) → place ≡ o.to
      at_end some (inl low) h = absurd (some (are.last.elsewhere place (λ same. omega arith)))
      at_end some (inr high) (inl beyond) = absurd (some (are.last.elsewhere place (λ same. omega arith)))
      at_end some (inr high) (inr low) = omega arith

  -- after all symbols there is not more than one way
  pub at_the_end : (place : ℕ) → IsMore ((row_from g o n) place) → IsAt g tokens start o n place → ⊥
  at_the_end place more at = by_order (cases_lt place o.to) (cases_lt o.to place)
    where
      more' : IsMore ((tally_at o.rows.items 0) place)
      more' = let first : n - n ≡ 0 = omega arith in subst (λ k. IsMore ((tally_at o.rows.items k) place)) first more

      by_order : (place < o.to) ⊎ (o.to ≤ place) → (o.to < place) ⊎ (place ≤ o.to) → ⊥
      by_order (inl low) h = subst IsMore (are.last.elsewhere place (λ same. omega arith)) more'
      by_order (inr high) (inl beyond) = subst IsMore (are.last.elsewhere place (λ same. omega arith)) more'
      by_order (inr high) (inr low) =
          let same : place ≡ o.to = omega arith in
          subst IsMore (ap (λ k. tally_at o.rows.items 0 k) same ∙ are.last.end) more'

  pub kids_of_all : (kids : Readings) → ReadsAll g tokens (symbols_of g o.head) o.from o.to kids → ReadsAll g tokens p.symbols o.from o.to kids
  kids_of_all kids all = subst (λ xs. ReadsAll g tokens xs o.from o.to kids) symbols all
