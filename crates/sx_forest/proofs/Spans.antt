use Rattle.std.proofs.Common.{◌≡◌, ℕ, zero, suc, ◌+◌, ◌-◌, ◌^◌, ◌<◌, ◌≤◌, List, [], ◌∷◌, Some, refl, sym, subst, ap, ◌∙◌, length, arith, add-one}
use Rattle.std.specs.Global.{Vec}
use Rattle.std.specs.List.{slice_get}
use Rattle.std.proofs.lemmas.Option.{same_Some}
use Rattle.std.proofs.Math.Nat.{mul-le-mul_right}
use Rattle.sx_grammar.specs.Grammar.{Symbol, literal, part, Production, Brackets, Grammar, Token}
use Rattle.sx_grammar.specs.Grammar.{production_of, pair_of, HasLevels}
use Rattle.sx_grammar.specs.declared.head.Head.{Head}
use Rattle.sx_grammar.specs.declared.head.Head.TheVariants.{Labelled, Bracketed}
use Rattle.sx_grammar.specs.Reading.{IsLiteral, Reading, Readings, bracket, done, ◌▸◌, Reads}
use Rattle.sx_grammar.specs.Reading.{by_brackets, ReadsAll, all_read, by_literal, by_part}
use Rattle.sx_grammar.specs.Reading.{reading_depth, readings_depth, ReadsBy}
use Rattle.sx_grammar.specs.Items.{Span}
use Rattle.sx_grammar.specs.Order.{IsRanking}
use Rattle.sx_grammar.specs.Tally.{Tally, no_way, one_way, more_ways, deeper, IsTally}
use Rattle.sx_grammar.proofs.Tallies.{tally_same, Made, deeper_is}
use Rattle.sx_grammar.proofs.Deciding.{node_tally, bracket_read}
use Rattle.sx_grammar.proofs.Depth.{depth_within}
use Rattle.sx_grammar.proofs.Ordering.{ranked_not_cyclic}
use Rattle.sx_grammar.proofs.Soundness.{bracket_head}
use Rattle.sx_grammar.proofs.Completeness.{Left, from_start, later, past, begins}
use Rattle.sx_earley.specs.Chart.{next_symbol, symbol_after}
use Rattle.sx_forest.specs.declared.stretch.Stretch.{Stretch}
use Rattle.sx_forest.specs.declared.entry.Maker.TheVariants.{By}
use Rattle.sx_forest.specs.declared.entry.Entry.{Entry}
use Rattle.sx_forest.specs.Tallies.{IsSmallTally}
use Rattle.sx_forest.specs.Rows.{symbol_count, stretch_at, AreStretches, AreWays, IsSpanWays}
use Rattle.sx_forest.specs.Rows.{IsStretchRow}
use Rattle.sx_forest.specs.Table.{CountsReadings, IsForestTable, HasBefore, IsRight}
use Rattle.sx_forest.proofs.Covering.{in_stretch}
use Rattle.sx_forest.proofs.Rows.{last_right, row_right, span_within}

left_end : {xs : List Symbol} {dot : ℕ} {rest : List Symbol} → Left xs dot rest → dot ≡ length xs → rest ≡ []
left_end (from_start {xs = xs}) e = empty xs e
  where
    empty : (xs : List Symbol) → 0 ≡ length xs → xs ≡ []
    empty [] e = refl
    empty (x ∷ xs) e = absurd (omega arith)
left_end (later {x = x} {xs = xs} {dot = dot} l) e = left_end l (omega arith)

left_more : {xs : List Symbol} {dot : ℕ} {rest : List Symbol} → Left xs dot rest → dot < length xs →
    (x : Symbol) × (more : List Symbol) × (rest ≡ x ∷ more) × (slice_get xs dot ≡ Some x)
left_more (from_start {xs = xs}) low = some xs low
  where
    some : (xs : List Symbol) → 0 < length xs → (x : Symbol) × (more : List Symbol) × (xs ≡ x ∷ more) × (slice_get xs 0 ≡ Some x)
    some [] low = absurd (omega arith)
    some (x ∷ xs) low = (x, xs, refl, refl)
left_more (later {x = x} {xs = xs} {dot = dot} l) low = left_more l (omega arith)

-- where each is one reading, the readings are counted as that reading
pub single_tally : (Q : Readings → Type 0) → ((ks : Readings) → Q ks → (r : Reading) × (ks ≡ r ▸ done)) → (t : Tally) → IsTally Q readings_depth t →
    IsTally (λ r. Q (r ▸ done)) reading_depth t
single_tally Q one no_way h = λ r q. h (r ▸ done) q
single_tally Q one (one_way d) h =
    let a = one h.0 h.1 in
    let is : h.0 ≡ a.0 ▸ done = a.1 in
    (a.0, subst Q is h.1, (let e : readings_depth (a.0 ▸ done) ≡ d = ap readings_depth (sym is) ∙ h.2 in omega arith), λ r q. let same : r ▸ done ≡ a.0 ▸ done = h.3 (r ▸ done) q ∙ is in cc)
single_tally Q one (more_ways d) h =
    let a = one h.0 h.2 in let b = one h.1 h.3 in let m = one h.5.deepest h.5.holds in (
      a.0,
      b.0,
      subst Q a.1 h.2,
      subst Q b.1 h.3,
      (λ same. h.4 (a.1 ∙ (ap (λ r. r ▸ done) same ∙ sym b.1))),
      record {
        deepest = m.0;
        holds = subst Q m.1 h.5.holds;
        is = (let e : readings_depth (m.0 ▸ done) ≡ d = ap readings_depth (sym m.1) ∙ h.5.is in omega arith);
        bound = λ r q. let low : readings_depth (r ▸ done) ≤ d = h.5.bound (r ▸ done) q in omega arith;
      },
    )

-- one more is a depth, and so fits where depths do
pub small_from : {A : Type 0} (P : A → Type 0) (depth : A → ℕ) (limit : ℕ) → limit ≤ 2 ^ 63 → ((a : A) → P a → depth a ≤ limit) → (t : Tally) → IsTally P depth (deeper t) → IsSmallTally t
small_from P depth limit fits bound no_way h = tt
small_from P depth limit fits bound (one_way d) h = let b = bound h.0 h.1 in omega (arith, h.2)
small_from P depth limit fits bound (more_ways d) h = let b = bound h.5.deepest h.5.holds in omega (arith, h.5.is)

module _ (g : Grammar) (tokens : List Token) where
  one_kid_read : (sort least from to : ℕ) (o c : List ℕ) (ks : Readings) → ReadsAll g tokens (literal o ∷ part sort least ∷ literal c ∷ []) from to ks → (r : Reading) × (ks ≡ r ▸ done)
  one_kid_read sort least from to o c ks (by_literal a (by_part {kid = kid} k (by_literal b all_read))) = (kid, refl)

  three_read : (s from to : ℕ) (o c : List ℕ) (r : Reading) → ReadsAll g tokens (literal o ∷ part s 0 ∷ literal c ∷ []) from to (r ▸ done) →
      (last : ℕ) × IsLiteral tokens from o × Reads g tokens s 0 (suc from) last r × IsLiteral tokens last c × (to ≡ suc last)
  three_read s from to o c r (by_literal a (by_part {middle = middle} k (by_literal b all_read))) = (middle, a, k, b, refl)

  -- the readings of a bracket pair are counted from those of its symbols
  pub pair_tally : (s from to : ℕ) (pair : Brackets) (t : Tally) → pair_of g s ≡ Some pair →
      IsTally (ReadsAll g tokens (literal pair.opening ∷ part s 0 ∷ literal pair.closing ∷ []) from to) readings_depth t →
      IsTally (ReadsBy g tokens (Bracketed s) s from to) reading_depth (deeper t)
  pair_tally s from to pair t e tally =
      let Q = ReadsAll g tokens (literal pair.opening ∷ part s 0 ∷ literal pair.closing ∷ []) from to in
      let P : Reading → Type 0 = λ r. Q (r ▸ done) in
      tally_same (Made P (λ r. bracket r from to)) (ReadsBy g tokens (Bracketed s) s from to) reading_depth (deeper t)
      (λ r m. ((m.0, m.2), made r m.0 m.1 m.2))
      (λ r by.
      let h = bracket_read g tokens (subst (λ x. Reads g tokens s 0 from to x) by.0.1 by.1) in
      (by.0.0, back by.0.0 h, by.0.1))
      (deeper_is P reading_depth reading_depth (λ r. bracket r from to) (λ a a' same. cc) (λ a. refl) t
      (single_tally Q (λ ks q. one_kid_read s 0 from to pair.opening pair.closing ks q) t tally))
    where
      made : (r inner : Reading) → ReadsAll g tokens (literal pair.opening ∷ part s 0 ∷ literal pair.closing ∷ []) from to (inner ▸ done) → r ≡ bracket inner from to → Reads g tokens s 0 from to r
      made r inner all is =
          let h = three_read s from to pair.opening pair.closing inner all in
          let P : ℕ → Type 0 = λ x. Reads g tokens s 0 from x (bracket inner from x) in
          rw is (subst P (sym h.4) (by_brackets e h.1 h.2 h.3))

      back : (inner : Reading) → ((q : Brackets) × (last : ℕ) × (pair_of g s ≡ Some q) × IsLiteral tokens from q.opening ×
          Reads g tokens s 0 (suc from) last inner × IsLiteral tokens last q.closing × (to ≡ suc last)) →
          ReadsAll g tokens (literal pair.opening ∷ part s 0 ∷ literal pair.closing ∷ []) from to (inner ▸ done)
      back inner h =
          let same : h.0 ≡ pair = same_Some h.0 pair (sym h.2 ∙ e) in
          let a : IsLiteral tokens from pair.opening = subst (λ q. IsLiteral tokens from q.opening) same h.3 in
          let b : IsLiteral tokens h.1 pair.closing = subst (λ q. IsLiteral tokens h.1 q.closing) same h.5 in
          rw h.6 (by_literal a (by_part h.4 (by_literal b all_read)))

  -- the readings by a head are counted from those of its symbols
  pub head_tally : (head : Head) (p : Production) (from to : ℕ) (t : Tally) → production_of g head ≡ Some p →
      IsTally (ReadsAll g tokens p.symbols from to) readings_depth t → IsTally (ReadsBy g tokens head p.sort from to) reading_depth (deeper t)
  head_tally (Labelled label) p from to t e tally = node_tally g tokens label p from to t e tally
  head_tally (Bracketed s) p from to t e tally =
      let b = bracket_head g tokens s (pair_of g s) p e in
      let T : Production → Type 0 = λ q. IsTally (ReadsBy g tokens (Bracketed s) q.sort from to) reading_depth (deeper t) in
      let S : Production → Type 0 = λ q. IsTally (ReadsAll g tokens q.symbols from to) readings_depth t in
      subst T (sym b.2) (pair_tally s from to b.0 t b.1 (subst S b.2 tally))

depth_fits : (g : Grammar) (tokens : List Token) (rank : ℕ → ℕ) → IsRanking g rank → length g.productions < 2 ^ 32 → length tokens ≤ 10000 →
    (sort from to : ℕ) (r : Reading) → from ≤ to → to ≤ length tokens → Reads g tokens sort 0 from to r → reading_depth r ≤ 2 ^ 62
depth_fits g tokens rank ranking many short sort from to r along within reads =
    let bound = depth_within g tokens (ranked_not_cyclic g rank ranking) sort from to r along reads in
    let wide = mul-le-mul_right {m = to - from} {n = 10000} (length g.productions + 1) (omega arith) in
    omega arith

module _ (g : Grammar) (tokens : List Token) (start : ℕ) (levels : HasLevels g) (rank : ℕ → ℕ) (ranking : IsRanking g rank) (lists : List (Vec Entry)) (table : IsForestTable g tokens start lists)
    (head : Head) (p : Production) (is : production_of g head ≡ Some p) (from to : ℕ) (along : from ≤ to) (has : HasBefore g tokens start rank lists head from to (rank p.sort)) where
  -- each row of a span is right
  pub rows_right : (stretches : List Stretch) (row : ℕ → ℕ → Tally) → AreStretches g tokens lists head (length p.symbols) from to stretches →
      AreWays g tokens lists head (length p.symbols) (length p.symbols) to stretches row → (k dot : ℕ) → dot + k ≡ length p.symbols →
      (rest : List Symbol) → Left p.symbols dot rest → IsRight g tokens start head dot from to rest (row k)
  rows_right stretches row spread are zero dot sum rest left =
      rw (left_end left (omega arith)) (last_right g tokens start head dot from to (row 0) are.last)
  rows_right stretches row spread are (suc k) dot sum rest left =
      let m = left_more left (omega arith) in
      let left' : Left p.symbols dot (m.0 ∷ m.1) = subst (λ l. Left p.symbols dot l) m.2 left in
      let after : IsRight g tokens start head (suc dot) from to m.1 (row k) = rows_right stretches row spread are k (suc dot) (omega arith) m.1 (past m.0 m.1 left') in
      let here : length p.symbols - k - 1 ≡ dot = omega arith in
      let symbol : next_symbol g head dot ≡ Some m.0 = ap (λ o. symbol_after o dot) is ∙ m.3 in
      let made = are.each k (omega arith) in
      let made' : IsStretchRow g tokens lists (Some m.0) to (stretch_at stretches dot) (row k) (row (k + 1)) =
      subst (λ o. IsStretchRow g tokens lists o to (stretch_at stretches dot) (row k) (row (k + 1))) symbol
      (subst (λ d. IsStretchRow g tokens lists (next_symbol g head d) to (stretch_at stretches d) (row k) (row (k + 1))) here made) in
      rw m.2
      (row_right g tokens start levels rank ranking lists table head p is from to has dot m.0 m.1 (stretch_at stretches dot) (row k) (row (suc k)) left'
      (λ place ks item all. in_stretch g tokens start levels rank ranking lists table head p is from to has stretches spread item refl refl (omega arith) (m.0 ∷ m.1) left' ks all)
      after (simp add-one at made'))

  -- what is computed for a span is the tally of its readings
  pub span_sound : Span g tokens start head from to → length g.productions < 2 ^ 32 → length tokens ≤ 10000 → (t : Tally) → IsSpanWays g tokens lists head from to t →
      CountsReadings g tokens start (By head) from to t
  span_sound span many short t w =
      let row = w.row in
      let n = length p.symbols in
      let counted : symbol_count (production_of g head) ≡ n = ap symbol_count is in
      let stretches = w.stretches in
      let spread : AreStretches g tokens lists head n from to stretches = subst (λ c. AreStretches g tokens lists head c from to stretches) counted w.spread in
      let are : AreWays g tokens lists head n n to stretches row = subst (λ c. AreWays g tokens lists head c c to stretches row) counted w.are in
      let u = row n from in
      let all : IsTally (ReadsAll g tokens p.symbols from to) readings_depth u =
      rows_right stretches row spread are n 0 (omega arith) p.symbols from_start from (begins g tokens start levels span.2) in
      let by : IsTally (ReadsBy g tokens head p.sort from to) reading_depth (deeper u) = head_tally g tokens head p from to u is all in
      let small : IsSmallTally u = small_from (ReadsBy g tokens head p.sort from to) reading_depth (2 ^ 62) (omega arith)
      (λ r reads. depth_fits g tokens rank ranking many short p.sort from to r along (span_within g tokens start head from to span) reads.1) u by in
      let same : t ≡ deeper u = subst (λ c. IsSmallTally (row c from) → t ≡ deeper (row c from)) counted w.is small in (
        span,
        λ sort makes.
            let production : makes.production ≡ p = same_Some makes.production p (sym makes.is ∙ is) in
            let sort_is : p.sort ≡ sort = ap (λ q. q.sort) (sym production) ∙ makes.same_sort in
            subst (λ s. IsTally (ReadsBy g tokens head s from to) reading_depth t) sort_is (rw same by),
      )
