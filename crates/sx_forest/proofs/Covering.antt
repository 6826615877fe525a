-- The places at which the symbols of a span can begin are in its stretches.
use Rattle.std.proofs.Common.{◌≡◌, ℕ, zero, suc, ◌<◌, ◌≤◌, List, ◌∷◌, Some, refl, sym, subst, ap, ◌∙◌, length, take, arith}
use Rattle.std.specs.Global.{Vec}
use Rattle.std.specs.List.{slice_get}
use Rattle.std.proofs.lemmas.Option.{same_Some}
use Rattle.sx_grammar.specs.Grammar.{Symbol, literal, lexical, part, Production, Grammar, Token}
use Rattle.sx_grammar.specs.Grammar.{production_of, HasLevels}
use Rattle.sx_grammar.specs.declared.head.Head.{Head}
use Rattle.sx_grammar.specs.Reading.{Reading, Readings, variable, ◌▸◌, Reads, by_variable, ReadsAll}
use Rattle.sx_grammar.specs.Reading.{by_part}
use Rattle.sx_grammar.specs.Items.{ReadsToken, Makes, NextIs, AtEnd, Item, started, predicted}
use Rattle.sx_grammar.specs.Items.{scanned, completed}
use Rattle.sx_grammar.specs.Order.{IsRanking}
use Rattle.sx_grammar.proofs.Depth.{forward_all}
use Rattle.sx_grammar.proofs.Soundness.{Read, joined, one_token, items_read, whole_of, by_head}
use Rattle.sx_grammar.proofs.Completeness.{Left, from_start, later}
use Rattle.sx_earley.specs.Chart.{next_symbol, symbol_after}
use Rattle.sx_forest.specs.declared.entry.Entry.{Entry}
use Rattle.sx_forest.specs.declared.stretch.Stretch.{Stretch}
use Rattle.sx_forest.specs.Rows.{entries_at, IsIn, LeadsOver, LeadsNext, stretch_at, AreStretches}
use Rattle.sx_forest.specs.Table.{IsForestTable, HasBefore}
use Rattle.sx_forest.proofs.Counting.{kid_fits}
use Rattle.sx_forest.proofs.Rows.{covered}

-- one symbol more is left before a symbol
left_before : {xs : List Symbol} {dot : ℕ} {rest : List Symbol} (x : Symbol) → slice_get xs dot ≡ Some x → Left xs (suc dot) rest → Left xs dot (x ∷ rest)
left_before {dot = zero} x e (later {x = y} {xs = xs} from_start) = subst (λ z. Left (y ∷ xs) 0 (z ∷ xs)) (same_Some y x e) from_start
left_before {dot = suc dot} x e (later l) = later (left_before x e l)

module _ (g : Grammar) (tokens : List Token) (start : ℕ) (levels : HasLevels g) (rank : ℕ → ℕ) (ranking : IsRanking g rank) (lists : List (Vec Entry)) (table : IsForestTable g tokens start lists)
    (head : Head) (p : Production) (is : production_of g head ≡ Some p) (from to : ℕ) (has : HasBefore g tokens start rank lists head from to (rank p.sort))
    (stretches : List Stretch) (spread : AreStretches g tokens lists head (length p.symbols) from to stretches) where
  -- a complete span has a reading
  span_reading : {other : Head} {full middle end sort least : ℕ} → Item g tokens start other full middle end → Makes g other sort least → AtEnd g other full →
      (r : Reading) × Reads g tokens sort least middle end r
  span_reading {other = other} {full = full} {middle = middle} {end = end} {least = least} inner makes full_is =
      let q = makes.production in
      let whole : take full q.symbols ≡ q.symbols = whole_of g tokens other full q full_is makes.is in
      let inside : Read g tokens q.symbols middle end = subst (λ xs. Read g tokens xs middle end) whole (items_read g tokens start inner q makes.is) in
      let r = by_head g tokens other q least middle end makes.is makes.reaches inside in
      (r.0, subst (λ s. Reads g tokens s least middle end r.0) makes.same_sort r.2)

  symbol_is : (h : Head) (dot : ℕ) (symbol : Symbol) → h ≡ head → NextIs g h dot symbol → slice_get p.symbols dot ≡ Some symbol
  symbol_is h dot symbol same next =
      let own : production_of g h ≡ Some p = subst (λ x. production_of g x ≡ Some p) (sym same) is in
      let alike : next.0 ≡ p = same_Some next.0 p (sym next.1 ∙ own) in
      subst (λ q. slice_get q.symbols dot ≡ Some symbol) alike next.2

  item_of : (h : Head) (dot origin end : ℕ) → h ≡ head → origin ≡ from → Item g tokens start h dot origin end → Item g tokens start head dot from end
  item_of h dot origin end a b item = subst (λ x. Item g tokens start head dot x end) b (subst (λ x. Item g tokens start x dot origin end) a item)

  -- over one symbol
  over : (dot place end : ℕ) (symbol : Symbol) → suc dot < length p.symbols → slice_get p.symbols dot ≡ Some symbol → IsIn (stretch_at stretches dot) place →
      LeadsOver g tokens (entries_at lists place) symbol place end → end ≤ to → IsIn (stretch_at stretches (suc dot)) end
  over dot place end symbol low e here leads high =
      let same : next_symbol g head dot ≡ Some symbol = ap (λ o. symbol_after o dot) is ∙ e in
      spread.each dot low place end here (subst (λ o. LeadsNext g tokens (entries_at lists place) o place end) (sym same) leads) high

  -- over a part, by the entry of a reading
  over_kid : (dot place end sort least : ℕ) (rest : List Symbol) (kid : Reading) (ks : Readings) → suc dot < length p.symbols → slice_get p.symbols dot ≡ Some (part sort least) →
      Left p.symbols dot (part sort least ∷ rest) → Item g tokens start head dot from place → IsIn (stretch_at stretches dot) place → Reads g tokens sort least place end kid →
      ReadsAll g tokens rest end to ks → IsIn (stretch_at stretches (suc dot)) end
  over_kid dot place end sort least rest kid ks low e left item here reads all =
      let c = covered g tokens start levels rank ranking lists table head p is from to has dot place sort least rest left item end kid ks reads all in
      over dot place end (part sort least) low e here (c.0, c.1, c.2, kid_fits g tokens c.1.maker sort least place end kid c.3, c.4) (forward_all g tokens all)

  over_token : (dot place : ℕ) (symbol : Symbol) (rest : List Symbol) (ks : Readings) → suc dot < length p.symbols → slice_get p.symbols dot ≡ Some symbol →
      Left p.symbols dot (symbol ∷ rest) → Item g tokens start head dot from place → IsIn (stretch_at stretches dot) place → ReadsToken tokens symbol place →
      ReadsAll g tokens rest (suc place) to ks → IsIn (stretch_at stretches (suc dot)) (suc place)
  over_token dot place (literal text) rest ks low e left item here reads all = over dot place (suc place) (literal text) low e here (reads, refl) (forward_all g tokens all)
  over_token dot place (lexical kind) rest ks low e left item here reads all = over dot place (suc place) (lexical kind) low e here (reads, refl) (forward_all g tokens all)
  over_token dot place (part sort least) rest ks low e left item here reads all =
      over_kid dot place (suc place) sort least rest (variable place) ks low e left item here (by_variable reads) all

  pub in_stretch : {h : Head} {dot origin end : ℕ} → Item g tokens start h dot origin end → h ≡ head → origin ≡ from → dot < length p.symbols → (rest : List Symbol) → Left p.symbols dot rest →
      (ks : Readings) → ReadsAll g tokens rest end to ks → IsIn (stretch_at stretches dot) end
  in_stretch (started m) a b low rest left ks all = subst (λ x. IsIn (stretch_at stretches 0) x) (sym b) spread.first
  in_stretch (predicted item next m) a b low rest left ks all = subst (λ x. IsIn (stretch_at stretches 0) x) (sym b) spread.first
  in_stretch (scanned {head = h} {dot = dot} {origin = origin} {end = end} {symbol = symbol} item next reads) a b low rest left ks all =
      let e = symbol_is h dot symbol a next in
      let left' : Left p.symbols dot (symbol ∷ rest) = left_before symbol e left in
      let more : Read g tokens (symbol ∷ rest) end to = joined g tokens rest to (one_token g tokens symbol end reads).1 (ks, all) in
      let here = in_stretch item a b (omega arith) (symbol ∷ rest) left' more.0 more.1 in
      over_token dot end symbol rest ks low e left' (item_of h dot origin end a b item) here reads all
  in_stretch (completed {head = h} {dot = dot} {origin = origin} {middle = middle} {end = end} {sort = sort} {least = least} item next inner m full) a b low rest left ks all =
      let e = symbol_is h dot (part sort least) a next in
      let left' : Left p.symbols dot (part sort least ∷ rest) = left_before (part sort least) e left in
      let kid = span_reading inner m full in
      let here = in_stretch item a b (omega arith) (part sort least ∷ rest) left' (kid.0 ▸ ks) (by_part kid.1 all) in
      over_kid dot middle end sort least rest kid.0 ks low e left' (item_of h dot origin middle a b item) here kid.1 all
