use Rattle.std.proofs.Common.{◌≡◌, ◌≢◌, ℕ, suc, ◌≤◌, List, [], ◌∷◌, Option, Some, None, refl, sym, ap, subst, ◌⊎◌, inl, inr, arith, ◌∙◌}
use Rattle.std.specs.List.{slice_get}
use Rattle.std.proofs.lemmas.Option.{same_Some, none-some}
use Rattle.sx_term.specs.declared.lex_kind.LexKind.{LexKind}
use Rattle.sx_grammar.specs.Grammar.{Text, Symbol, literal, lexical, part, Production, Brackets, Grammar, bracket_production, pair_of, Token}
use Rattle.sx_grammar.specs.declared.head.Head.{Head}
use Rattle.sx_grammar.specs.declared.head.Head.TheVariants.{Labelled, Bracketed}
use Rattle.sx_grammar.specs.Reading.{IsLiteral, Reading, Readings, branch, bracket, leaf, variable, done, ◌▸◌, Reads, by_production, by_brackets, by_variable, ReadsAll, all_read, by_literal, by_lexeme, by_lexical_variable, by_part, reading_depth, readings_depth, ReadsBy}
use Rattle.sx_grammar.specs.Tally.{Tally, no_way, one_way, plus, times, deeper, tally_of_all, IsTally, Joined, ForSome, AllTallied, Among, EachOnce, IsLeafAt, ReadsVia, ReadsAt, IsVariableAt}
use Rattle.sx_grammar.specs.TallyLaws.{TalliesAreCounted}
use Rattle.sx_grammar.proofs.Tallies.{tally_same, plus_is, times_is, deeper_is, Made, Either, total_is, AllApart}

-- where a thing belongs to one index at most, it belongs to no other of the list
among_one : {X A : Type 0} (P : X → A → Type 0) → ((x y : X) (a : A) → P x a → P y a → x ≡ y) → (x : X) (a : A) → P x a → (ys : List X) → ForSome P ys a → Among x ys
among_one P one x a p [] h = h
among_one P one x a p (y ∷ ys) (inl h) = inl (one x y a p h)
among_one P one x a p (y ∷ ys) (inr h) = inr (among_one P one x a p ys h)

apart_once : {X A : Type 0} (P : X → A → Type 0) (depth : A → ℕ) → ((x y : X) (a : A) → P x a → P y a → x ≡ y) → (xs : List X) → EachOnce xs → AllApart P depth xs
apart_once P depth one [] once = tt
apart_once P depth one (x ∷ xs) once = ((λ a p others. once.0 (among_one P one x a p xs others)), apart_once P depth one xs once.1)

for_some_at : {X A : Type 0} (P : X → A → Type 0) (x : X) (a : A) → P x a → (xs : List X) → Among x xs → ForSome P xs a
for_some_at P x a p [] h = h
for_some_at P x a p (y ∷ ys) (inl same) = inl (subst (λ z. P z a) same p)
for_some_at P x a p (y ∷ ys) (inr h) = inr (for_some_at P x a p ys h)

some_index : {X A : Type 0} (P : X → A → Type 0) (a : A) (xs : List X) → ForSome P xs a → (x : X) × P x a
some_index P a [] h = absurd h
some_index P a (x ∷ xs) (inl h) = (x, h)
some_index P a (x ∷ xs) (inr h) = some_index P a xs h

-- the end of a reading
abbrev end_of : Reading → ℕ
end_of (branch label kids from to) = to
end_of (bracket inner from to) = to
end_of (leaf token) = suc token
end_of (variable token) = suc token

abbrev first_kid : Readings → Reading
first_kid done = leaf 0
first_kid (kid ▸ kids) = kid

module _ (g : Grammar) (tokens : List Token) where
  -- a reading carries its end
  pub ends : {sort least from to : ℕ} {r : Reading} → Reads g tokens sort least from to r → end_of r ≡ to
  ends (by_production e high all) = refl
  ends (by_brackets e a inner b) = refl
  ends (by_variable h) = refl

  pub nothing_read : {from to : ℕ} {ks : Readings} → ReadsAll g tokens [] from to ks → (to ≡ from) × (ks ≡ done)
  nothing_read all_read = (refl, refl)

  pub literal_read : {text : Text} {rest : List Symbol} {from to : ℕ} {ks : Readings} → ReadsAll g tokens (literal text ∷ rest) from to ks →
      IsLiteral tokens from text × ReadsAll g tokens rest (suc from) to ks
  literal_read (by_literal h more) = (h, more)

  pub lexical_read : {kind : LexKind} {rest : List Symbol} {from to : ℕ} {ks : Readings} → ReadsAll g tokens (lexical kind ∷ rest) from to ks →
      (r : Reading) × (kids : Readings) × IsLeafAt tokens kind from r × ReadsAll g tokens rest (suc from) to kids × (ks ≡ r ▸ kids)
  lexical_read (by_lexeme {from = from} {kids = kids} h more) = (leaf from, kids, inl (h, refl), more, refl)
  lexical_read (by_lexical_variable {from = from} {kids = kids} h more) = (variable from, kids, inr (h, refl), more, refl)

  read_lexical : (kind : LexKind) (rest : List Symbol) (from to : ℕ) (r : Reading) (kids : Readings) → IsLeafAt tokens kind from r →
      ReadsAll g tokens rest (suc from) to kids → ReadsAll g tokens (lexical kind ∷ rest) from to (r ▸ kids)
  read_lexical kind rest from to r kids (inl h) more = rw h.1 (by_lexeme h.0 more)
  read_lexical kind rest from to r kids (inr h) more = rw h.1 (by_lexical_variable h.0 more)

  pub part_read : {sort least : ℕ} {rest : List Symbol} {from to : ℕ} {ks : Readings} → ReadsAll g tokens (part sort least ∷ rest) from to ks →
      (middle : ℕ) × ReadsVia g tokens sort least rest from to middle ks
  part_read (by_part {middle = middle} {kid = kid} {kids = kids} k more) = (middle, (kid, kids, k, more, refl))

  read_part : (sort least : ℕ) (rest : List Symbol) (from to middle : ℕ) (ks : Readings) → ReadsVia g tokens sort least rest from to middle ks →
      ReadsAll g tokens (part sort least ∷ rest) from to ks
  read_part sort least rest from to middle ks via = rw via.4 (by_part via.2 via.3)

  -- no symbols are read in one way, as no tokens
  pub none_tally : (from : ℕ) → IsTally (ReadsAll g tokens [] from from) readings_depth (one_way 0)
  none_tally from = (done, all_read, refl, λ ks h. (nothing_read h).1)

  pub none_elsewhere : (from to : ℕ) → from ≢ to → IsTally (ReadsAll g tokens [] from to) readings_depth no_way
  none_elsewhere from to differ = λ ks h. differ (sym (nothing_read h).0)

  -- a literal that stands there leaves the tally of the rest
  pub literal_tally : (text : Text) (rest : List Symbol) (from to : ℕ) (t : Tally) → IsLiteral tokens from text →
      IsTally (ReadsAll g tokens rest (suc from) to) readings_depth t → IsTally (ReadsAll g tokens (literal text ∷ rest) from to) readings_depth t
  literal_tally text rest from to t h tally =
      tally_same (ReadsAll g tokens rest (suc from) to) (ReadsAll g tokens (literal text ∷ rest) from to) readings_depth t
      (λ ks more. by_literal h more) (λ ks all. (literal_read all).1) tally

  pub literal_elsewhere : (text : Text) (rest : List Symbol) (from to : ℕ) → (IsLiteral tokens from text → ⊥) →
      IsTally (ReadsAll g tokens (literal text ∷ rest) from to) readings_depth no_way
  literal_elsewhere text rest from to not_there = λ ks all. not_there (literal_read all).0

  -- a lexical symbol and the rest
  pub lexical_tally : (kind : LexKind) (rest : List Symbol) (from to : ℕ) (t u : Tally) → IsTally (IsLeafAt tokens kind from) reading_depth t →
      IsTally (ReadsAll g tokens rest (suc from) to) readings_depth u → IsTally (ReadsAll g tokens (lexical kind ∷ rest) from to) readings_depth (times t u)
  lexical_tally kind rest from to t u first more =
      let P = IsLeafAt tokens kind from in let Q = ReadsAll g tokens rest (suc from) to in
      tally_same (Joined P Q ◌▸◌) (ReadsAll g tokens (lexical kind ∷ rest) from to) readings_depth (times t u)
      (λ ks j. rw j.4 (read_lexical kind rest from to j.0 j.1 j.2 j.3))
      (λ ks all. lexical_read all)
      (times_is P Q reading_depth readings_depth readings_depth ◌▸◌ (λ a a' b b' e. cc) (λ a a' b b' e. cc) (λ a b. refl) t u first more)

  -- a part that is read up to one place, and the rest from there on
  pub via_tally : (sort least : ℕ) (rest : List Symbol) (from to middle : ℕ) (t u : Tally) → IsTally (Reads g tokens sort least from middle) reading_depth t →
      IsTally (ReadsAll g tokens rest middle to) readings_depth u → IsTally (ReadsVia g tokens sort least rest from to middle) readings_depth (times t u)
  via_tally sort least rest from to middle t u first more =
      times_is (Reads g tokens sort least from middle) (ReadsAll g tokens rest middle to) reading_depth readings_depth readings_depth ◌▸◌
      (λ a a' b b' e. cc) (λ a a' b b' e. cc) (λ a b. refl) t u first more

  -- a part and the rest, over all the places up to which the part may be read
  pub part_tally : (sort least : ℕ) (rest : List Symbol) (from to : ℕ) (middles : List ℕ) (f : ℕ → Tally) → EachOnce middles →
      ((middle : ℕ) (ks : Readings) → ReadsVia g tokens sort least rest from to middle ks → Among middle middles) →
      AllTallied (ReadsVia g tokens sort least rest from to) readings_depth f middles →
      IsTally (ReadsAll g tokens (part sort least ∷ rest) from to) readings_depth (tally_of_all f middles)
  part_tally sort least rest from to middles f once every tallied =
      let P = ReadsVia g tokens sort least rest from to in
      tally_same (ForSome P middles) (ReadsAll g tokens (part sort least ∷ rest) from to) readings_depth (tally_of_all f middles)
      (λ ks h. let v = some_index P ks middles h in read_part sort least rest from to v.0 ks v.1)
      (λ ks all. let v = part_read all in for_some_at P v.0 ks v.1 middles (every v.0 ks v.1))
      (total_is P readings_depth f middles tallied (apart_once P readings_depth one_end middles once))
    where
      one_end : (x y : ℕ) (ks : Readings) → ReadsVia g tokens sort least rest from to x ks → ReadsVia g tokens sort least rest from to y ks → x ≡ y
      one_end x y ks v w =
          let same : v.0 ≡ w.0 = ap first_kid (sym v.4 ∙ w.4) in
          sym (ends v.2) ∙ (ap end_of same ∙ ends w.2)

  -- what a node's reading says
  pub branch_read : {sort least from to label f t : ℕ} {kids : Readings} → Reads g tokens sort least from to (branch label kids f t) →
      (p : Production) × (slice_get g.productions label ≡ Some p) × (p.sort ≡ sort) × (least ≤ p.level) × ReadsAll g tokens p.symbols from to kids
  branch_read (by_production {p = p} e high all) = (p, e, refl, high, all)

  -- what a bracket's reading says
  pub bracket_read : {sort least from to f t : ℕ} {inner : Reading} → Reads g tokens sort least from to (bracket inner f t) →
      (pair : Brackets) × (last : ℕ) × (pair_of g sort ≡ Some pair) × IsLiteral tokens from pair.opening ×
      Reads g tokens sort 0 (suc from) last inner × IsLiteral tokens last pair.closing × (to ≡ suc last)
  bracket_read (by_brackets {to = to} {pair = pair} e a inner b) = (pair, to, e, a, inner, b, refl)

  -- a node of a production
  pub node_tally : (label : ℕ) (p : Production) (from to : ℕ) (t : Tally) → slice_get g.productions label ≡ Some p →
      IsTally (ReadsAll g tokens p.symbols from to) readings_depth t → IsTally (ReadsBy g tokens (Labelled label) p.sort from to) reading_depth (deeper t)
  node_tally label p from to t e tally =
      tally_same (Made (ReadsAll g tokens p.symbols from to) (λ kids. branch label kids from to)) (ReadsBy g tokens (Labelled label) p.sort from to) reading_depth (deeper t)
      (λ r m. ((m.0, m.2), rw m.2 (by_production {least = 0} e (omega arith) m.1)))
      (λ r by.
      let h = branch_read (subst (λ x. Reads g tokens p.sort 0 from to x) by.0.1 by.1) in
      let same : h.0 ≡ p = cc (h.1, e) in
      (by.0.0, subst (λ q. ReadsAll g tokens q.symbols from to by.0.0) same h.4, by.0.1))
      (deeper_is (ReadsAll g tokens p.symbols from to) readings_depth reading_depth (λ kids. branch label kids from to) (λ a a' same. cc) (λ a. refl) t tally)

  -- a bracket pair round a reading at level 0
  pub bracket_tally : (sort from to : ℕ) (pair : Brackets) (t : Tally) → pair_of g sort ≡ Some pair →
      IsLiteral tokens from pair.opening → IsLiteral tokens to pair.closing → IsTally (Reads g tokens sort 0 (suc from) to) reading_depth t →
      IsTally (ReadsBy g tokens (Bracketed sort) sort from (suc to)) reading_depth (deeper t)
  bracket_tally sort from to pair t e a b tally =
      tally_same (Made (Reads g tokens sort 0 (suc from) to) (λ inner. bracket inner from (suc to))) (ReadsBy g tokens (Bracketed sort) sort from (suc to)) reading_depth (deeper t)
      (λ r m. ((m.0, m.2), rw m.2 (by_brackets {least = 0} e a m.1 b)))
      (λ r by.
      let h = bracket_read (subst (λ x. Reads g tokens sort 0 from (suc to) x) by.0.1 by.1) in
      let last : h.1 ≡ to = omega (arith, h.6) in
      (by.0.0, subst (λ l. Reads g tokens sort 0 (suc from) l by.0.0) last h.4, by.0.1))
      (deeper_is (Reads g tokens sort 0 (suc from) to) reading_depth reading_depth (λ inner. bracket inner from (suc to)) (λ a a' same. cc) (λ a. refl) t tally)

  -- a reading of a head that makes the sort at least the level is one at that level
  pub raised : (sort least from to : ℕ) (head : Head) (r : Reading) → ReadsAt g tokens sort least from to head r → Reads g tokens sort least from to r
  raised sort least from to (Labelled label) r at =
      let makes = at.0 in
      let h = branch_read (subst (λ x. Reads g tokens sort 0 from to x) at.1.0.1 at.1.1) in
      let same : makes.production ≡ h.0 = cc (makes.is, h.1) in
      let high : least ≤ h.0.level = subst (λ q. least ≤ q.level) same makes.reaches in
      rw at.1.0.1 (subst (λ s. Reads g tokens s least from to (branch label at.1.0.0 from to)) h.2 (by_production h.1 high h.4))
  raised sort least from to (Bracketed s) r at =
      let h = bracket_read (subst (λ x. Reads g tokens sort 0 from to x) at.1.0.1 at.1.1) in
      rw (at.1.0.1, h.6) (by_brackets h.2 h.3 h.4 h.5)

  -- a reading is a variable, or of a head that makes the sort at least the level
  pub by_kind : {sort least from to : ℕ} {r : Reading} → Reads g tokens sort least from to r → least ≤ 100 →
      IsVariableAt tokens sort from to r ⊎ ((head : Head) × ReadsAt g tokens sort least from to head r)
  by_kind (by_production {from = from} {to = to} {label = label} {p = p} {kids = kids} e high all) low =
      inr (Labelled label, (record { production = p; is = e; same_sort = refl; reaches = high }, ((kids, refl), by_production e (omega arith) all)))
  by_kind (by_brackets {sort = sort} {from = from} {pair = pair} {inner = inner} e a reads b) low =
      inr (
        Bracketed sort,
        (
          record {
            production = record { sort = sort; level = 100; symbols = literal pair.opening ∷ part sort 0 ∷ literal pair.closing ∷ [] };
            is = ap (bracket_production sort) e;
            same_sort = refl;
            reaches = low;
          },
          ((inner, refl), by_brackets e a reads b),
        ),
      )
  by_kind (by_variable h) low = inl (h, refl, refl)

  -- a bracket pair's production is of its sort
  pub bracket_sort : (s : ℕ) (o : Option Brackets) (q : Production) → bracket_production s o ≡ Some q → q.sort ≡ s
  bracket_sort s None q e = absurd (none-some q e)
  bracket_sort s (Some pair) q e = ap (λ x. x.sort) (sym (same_Some _ q e))

  -- a reading is of one head
  pub one_head : (sort least from to : ℕ) (head other : Head) (r : Reading) → ReadsAt g tokens sort least from to head r →
      ReadsAt g tokens sort least from to other r → head ≡ other
  one_head sort least from to (Labelled l) (Labelled m) r a b =
      let same : branch l a.1.0.0 from to ≡ branch m b.1.0.0 from to = sym a.1.0.1 ∙ b.1.0.1 in
      let labels : l ≡ m = cc in
      ap Labelled labels
  one_head sort least from to (Labelled l) (Bracketed s) r a b =
      let same : branch l a.1.0.0 from to ≡ bracket b.1.0.0 from to = sym a.1.0.1 ∙ b.1.0.1 in cc
  one_head sort least from to (Bracketed s) (Labelled l) r a b =
      let same : bracket a.1.0.0 from to ≡ branch l b.1.0.0 from to = sym a.1.0.1 ∙ b.1.0.1 in cc
  one_head sort least from to (Bracketed s) (Bracketed t) r a b =
      ap Bracketed (sym (bracket_sort s (pair_of g s) a.0.production a.0.is) ∙ (a.0.same_sort ∙ (sym b.0.same_sort ∙ bracket_sort t (pair_of g t) b.0.production b.0.is)))

  -- a variable is of no head
  variable_apart : (sort least from to : ℕ) (heads : List Head) (r : Reading) → IsVariableAt tokens sort from to r → ForSome (ReadsAt g tokens sort least from to) heads r → ⊥
  variable_apart sort least from to [] r v h = h
  variable_apart sort least from to (Labelled l ∷ heads) r v (inl h) =
      let same : variable from ≡ branch l h.1.0.0 from to = sym v.2 ∙ h.1.0.1 in cc
  variable_apart sort least from to (Bracketed s ∷ heads) r v (inl h) =
      let same : variable from ≡ bracket h.1.0.0 from to = sym v.2 ∙ h.1.0.1 in cc
  variable_apart sort least from to (head ∷ heads) r v (inr h) = variable_apart sort least from to heads r v h

  -- a part: a metavariable, or one of the heads that make the sort at least the level
  pub sort_tally : (sort least from to : ℕ) (heads : List Head) (t : Tally) (f : Head → Tally) → least ≤ 100 → EachOnce heads →
      ((head : Head) (r : Reading) → ReadsAt g tokens sort least from to head r → Among head heads) →
      IsTally (IsVariableAt tokens sort from to) reading_depth t → AllTallied (ReadsAt g tokens sort least from to) reading_depth f heads →
      IsTally (Reads g tokens sort least from to) reading_depth (plus t (tally_of_all f heads))
  sort_tally sort least from to heads t f low once every variables tallied =
      let P = ReadsAt g tokens sort least from to in
      let V = IsVariableAt tokens sort from to in
      tally_same (Either V (ForSome P heads)) (Reads g tokens sort least from to) reading_depth (plus t (tally_of_all f heads))
      (λ r. elim [ inl v ↦ variable_read sort least from to r v | inr h ↦ let at = some_index P r heads h in raised sort least from to at.0 r at.1 ])
      (λ r reads. kinds r heads every (by_kind reads low))
      (plus_is V (ForSome P heads) reading_depth (λ r v h. variable_apart sort least from to heads r v h) t (tally_of_all f heads) variables
      (total_is P reading_depth f heads tallied (apart_once P reading_depth (λ x y r a b. one_head sort least from to x y r a b) heads once)))
    where
      variable_read : (sort least from to : ℕ) (r : Reading) → IsVariableAt tokens sort from to r → Reads g tokens sort least from to r
      variable_read sort least from to r v = rw (v.2, v.1) (by_variable v.0)

      kinds : (r : Reading) (heads : List Head) → ((head : Head) (r : Reading) → ReadsAt g tokens sort least from to head r → Among head heads) →
          IsVariableAt tokens sort from to r ⊎ ((head : Head) × ReadsAt g tokens sort least from to head r) →
          Either (IsVariableAt tokens sort from to) (ForSome (ReadsAt g tokens sort least from to) heads) r
      kinds r heads every (inl v) = inl v
      kinds r heads every (inr h) = inr (for_some_at (ReadsAt g tokens sort least from to) h.0 r h.1 heads (every h.0 r h.1))

-- the steps by which a span's readings are counted
pub tallies_counted : TalliesAreCounted
tallies_counted g tokens = record {
  no_symbols = none_tally g tokens;
  by_literal = literal_tally g tokens;
  by_lexeme = lexical_tally g tokens;
  by_part = via_tally g tokens;
  over_places = part_tally g tokens;
  by_node = node_tally g tokens;
  by_brackets = bracket_tally g tokens;
  by_sort = sort_tally g tokens;
}
