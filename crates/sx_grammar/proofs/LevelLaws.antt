-- The greatest levels that are asked for, and the least levels of productions.
use Rattle.std.proofs.Common.{◌≡◌, ℕ, zero, suc, ◌<◌, ◌≤◌, List, [], ◌∷◌, length, ◌++◌, set, max, min, take, drop, get_or, ◌↔◌, map, Some, sym, refl, ap, ◌∙◌, subst, arith, ◌⊎◌, inl, inr, ⊎_elim, Contains}
use Rattle.std.specs.Prelude.{slice_get, slice_index_or, None, option_map}
use Rattle.std.proofs.lemmas.Bool.{cases_eq, cases_lt}
use Rattle.std.proofs.Math.Seq.{take-append_seam}
use Rattle.std.proofs.lemmas.List.{length-set, get_or-set_same, get_or-set_other, length-map}
use Rattle.std.proofs.lemmas.Option.{slice_get-map, slice_get_within, slice_get_read, get_or_from_slice_get}
use Rattle.sx_grammar.specs.declared.symbol.Symbol.TheVariants as Named
use Rattle.sx_grammar.specs.declared.sort_line.SortLine.{SortLine}
use Rattle.sx_grammar.specs.declared.numbered.NumberedSymbol.{NumberedSymbol}
use Rattle.sx_grammar.specs.declared.numbered.NumberedSymbol.TheVariants.{Lit, Lex, Part}
use Rattle.sx_grammar.specs.declared.numbered.NumberedProduction.{NumberedProduction}
use Rattle.sx_grammar.specs.Grammar.{Text}
use Rattle.sx_grammar.specs.Parts.{Parts, names, number_of}
use Rattle.sx_grammar.specs.Cycles.{HaveSortsBelow, HavePartsBelow}
use Rattle.sx_grammar.specs.Tables.{AreNumbered}
use Rattle.sx_grammar.specs.Made.{HasKnownSorts, LacksBrackets}
use Rattle.sx_grammar.specs.Levels.{ArePartsBelow, AsksFor, HasLevel, AreGreatest, AreLeast, raised, raised_by, greatest_after, lowered, least_after}
use Rattle.sx_grammar.proofs.Finding.{at_contains, contains_place}
use Rattle.sx_grammar.proofs.GrammarLaws.{own_place, part_place}
use Rattle.sx_grammar.proofs.MixedLaws.{line_of, production_of_line, part_of_line, part_of_production}

-- what is read after a write
set_read : (v : List ℕ) (t x d sort : ℕ) → t < length v → ((sort ≡ t) × (slice_index_or (set v t x) sort d ≡ x)) ⊎ (slice_index_or (set v t x) sort d ≡ slice_index_or v sort d)
set_read v t x d sort lt = ⊎_elim
    (λ same. inl (same, ap (λ n. slice_index_or (set v t x) n d) same ∙ get_or-set_same v t x d lt))
    (λ apart. inr (get_or-set_other v t sort x d apart))
    (cases_eq sort t)

max_is : (a b : ℕ) → (max a b ≡ a) ⊎ (max a b ≡ b)
max_is a b = ⊎_elim (λ lt. inr (omega (arith, lt))) (λ le. inl (omega (arith, le))) (cases_lt a b)

min_is : (a b : ℕ) → (min a b ≡ a) ⊎ (min a b ≡ b)
min_is a b = ⊎_elim (λ lt. inl (omega (arith, lt))) (λ le. inr (omega (arith, le))) (cases_lt a b)

rest_below : (bound : ℕ) (s : NumberedSymbol) (ss : List NumberedSymbol) → ArePartsBelow bound (s ∷ ss) → ArePartsBelow bound ss
rest_below bound s ss below k sort least at = below (suc k) sort least at

pub raised_size : (v : List ℕ) (s : NumberedSymbol) → length (raised v s) ≡ length v
raised_size v (Lit n) = refl
raised_size v (Lex k) = refl
raised_size v (Part t l) = length-set v t (max (slice_index_or v t 0) l)

pub raised_by_size : (v : List ℕ) (ss : List NumberedSymbol) → length (raised_by v ss) ≡ length v
raised_by_size v [] = refl
raised_by_size v (s ∷ ss) = raised_by_size (raised v s) ss ∙ raised_size v s

raised_keeps : (v : List ℕ) (s : NumberedSymbol) (sort : ℕ) → ArePartsBelow (length v) (s ∷ []) → slice_index_or v sort 0 ≤ slice_index_or (raised v s) sort 0
raised_keeps v (Lit n) sort below = omega arith
raised_keeps v (Lex k) sort below = omega arith
raised_keeps v (Part t l) sort below = ⊎_elim
    (λ here. let e = ap (λ n. slice_index_or v n 0) here.0 in omega (arith, here.1, e))
    (λ other. omega (arith, other))
    (set_read v t (max (slice_index_or v t 0) l) 0 sort (below zero t l refl))

head_below : (bound : ℕ) (s : NumberedSymbol) (ss : List NumberedSymbol) → ArePartsBelow bound (s ∷ ss) → ArePartsBelow bound (s ∷ [])
head_below bound s ss below zero sort least at = below zero sort least at
head_below bound s ss below (suc k) sort least at = let clash : None ≡ Some (Part sort least) = at in cc

moved : (n m : ℕ) (ss : List NumberedSymbol) → n ≡ m → ArePartsBelow m ss → ArePartsBelow n ss
moved n m ss e below = subst (λ b. ArePartsBelow b ss) (sym e) below

raised_by_keeps : (v : List ℕ) (ss : List NumberedSymbol) (sort : ℕ) → ArePartsBelow (length v) ss → slice_index_or v sort 0 ≤ slice_index_or (raised_by v ss) sort 0
raised_by_keeps v [] sort below = omega arith
raised_by_keeps v (s ∷ ss) sort below =
    let one = raised_keeps v s sort (head_below (length v) s ss below) in
    let more = raised_by_keeps (raised v s) ss sort (moved (length (raised v s)) (length v) ss (raised_size v s) (rest_below (length v) s ss below)) in
    omega (arith, one, more)

raised_by_bound : (v : List ℕ) (ss : List NumberedSymbol) (k sort least : ℕ) → ArePartsBelow (length v) ss → slice_get ss k ≡ Some (Part sort least) → least ≤ slice_index_or (raised_by v ss) sort 0
raised_by_bound v [] k sort least below at = let clash : None ≡ Some (Part sort least) = at in cc
raised_by_bound v (s ∷ ss) zero sort least below at =
    let same : s ≡ Part sort least = cc in
    let lt = below zero sort least at in
    let here : slice_index_or (raised v s) sort 0 ≡ max (slice_index_or v sort 0) least = ap (λ x. slice_index_or (raised v x) sort 0) same ∙ get_or-set_same v sort (max (slice_index_or v sort 0) least) 0 lt in
    let more = raised_by_keeps (raised v s) ss sort (moved (length (raised v s)) (length v) ss (raised_size v s) (rest_below (length v) s ss below)) in
    omega (arith, here, more)
raised_by_bound v (s ∷ ss) (suc k) sort least below at =
    raised_by_bound (raised v s) ss k sort least (moved (length (raised v s)) (length v) ss (raised_size v s) (rest_below (length v) s ss below)) at

raised_by_some : (v : List ℕ) (ss : List NumberedSymbol) (sort : ℕ) → ArePartsBelow (length v) ss
    → (slice_index_or (raised_by v ss) sort 0 ≡ slice_index_or v sort 0) ⊎ ((k : ℕ) × (slice_get ss k ≡ Some (Part sort (slice_index_or (raised_by v ss) sort 0))))
raised_by_some v [] sort below = inl refl
raised_by_some v (s ∷ ss) sort below = ⊎_elim
    (λ same. at_first s same (head_below (length v) s ss below))
    (λ found. inr (suc found.0, found.1))
    (raised_by_some (raised v s) ss sort (moved (length (raised v s)) (length v) ss (raised_size v s) (rest_below (length v) s ss below)))
  where
    at_first : (x : NumberedSymbol) → slice_index_or (raised_by (raised v x) ss) sort 0 ≡ slice_index_or (raised v x) sort 0 → ArePartsBelow (length v) (x ∷ [])
        → (slice_index_or (raised_by (raised v x) ss) sort 0 ≡ slice_index_or v sort 0) ⊎ ((k : ℕ) × (slice_get (x ∷ ss) k ≡ Some (Part sort (slice_index_or (raised_by (raised v x) ss) sort 0))))
    at_first (Lit n) same low = inl same
    at_first (Lex k) same low = inl same
    at_first (Part t l) same low = ⊎_elim
        (λ here. ⊎_elim
        (λ old. inl (same ∙ here.1 ∙ old ∙ ap (λ n. slice_index_or v n 0) (sym here.0)))
        (λ new. inr (zero, (λ i. Some (Part (sym here.0 i) (sym (same ∙ here.1 ∙ new) i)))))
        (max_is (slice_index_or v t 0) l))
        (λ other. inl (same ∙ other))
        (set_read v t (max (slice_index_or v t 0) l) 0 sort (low zero t l refl))

tail_parts : (bound : ℕ) (p : NumberedProduction) (ps : List NumberedProduction) → HavePartsBelow bound (p ∷ ps) → HavePartsBelow bound ps
tail_parts bound p ps below label q k sort least at here = below (suc label) q k sort least at here

head_parts : (bound : ℕ) (p : NumberedProduction) (ps : List NumberedProduction) → HavePartsBelow bound (p ∷ ps) → ArePartsBelow bound p.symbols.items
head_parts bound p ps below k sort least here = below zero p k sort least refl here

after_parts : (v : List ℕ) (p : NumberedProduction) (ps : List NumberedProduction) → HavePartsBelow (length v) (p ∷ ps) → HavePartsBelow (length (raised_by v p.symbols.items)) ps
after_parts v p ps below = subst (λ b. HavePartsBelow b ps) (sym (raised_by_size v p.symbols.items)) (tail_parts (length v) p ps below)

greatest_keeps : (v : List ℕ) (ps : List NumberedProduction) (sort : ℕ) → HavePartsBelow (length v) ps → slice_index_or v sort 0 ≤ slice_index_or (greatest_after v ps) sort 0
greatest_keeps v [] sort below = omega arith
greatest_keeps v (p ∷ ps) sort below =
    let one = raised_by_keeps v p.symbols.items sort (head_parts (length v) p ps below) in
    let more = greatest_keeps (raised_by v p.symbols.items) ps sort (after_parts v p ps below) in
    omega (arith, one, more)

greatest_bound : (v : List ℕ) (ps : List NumberedProduction) (label : ℕ) (q : NumberedProduction) (k sort least : ℕ) → HavePartsBelow (length v) ps → slice_get ps label ≡ Some q → slice_get q.symbols.items k ≡ Some (Part sort least)
    → least ≤ slice_index_or (greatest_after v ps) sort 0
greatest_bound v [] label q k sort least below at here = let clash : None ≡ Some q = at in cc
greatest_bound v (p ∷ ps) zero q k sort least below at here =
    let same : p ≡ q = cc in
    let one = raised_by_bound v p.symbols.items k sort least (head_parts (length v) p ps below) (ap (λ r. slice_get r.symbols.items k) same ∙ here) in
    let more = greatest_keeps (raised_by v p.symbols.items) ps sort (after_parts v p ps below) in
    omega (arith, one, more)
greatest_bound v (p ∷ ps) (suc label) q k sort least below at here = greatest_bound (raised_by v p.symbols.items) ps label q k sort least (after_parts v p ps below) at here

greatest_some : (v : List ℕ) (ps : List NumberedProduction) (sort : ℕ) → HavePartsBelow (length v) ps
    → (slice_index_or (greatest_after v ps) sort 0 ≡ slice_index_or v sort 0) ⊎ AsksFor ps sort (slice_index_or (greatest_after v ps) sort 0)
greatest_some v [] sort below = inl refl
greatest_some v (p ∷ ps) sort below = ⊎_elim
    (λ same. ⊎_elim
    (λ old. inl (same ∙ old))
    (λ found. inr (zero, p, found.0, refl, found.1 ∙ ap (λ n. Some (Part sort n)) (sym same)))
    (raised_by_some v p.symbols.items sort (head_parts (length v) p ps below)))
    (λ found. inr (suc found.0, found.1, found.2, found.3, found.4))
    (greatest_some (raised_by v p.symbols.items) ps sort (after_parts v p ps below))

pub greatest_is : (ps : List NumberedProduction) (v w : List ℕ) → HavePartsBelow (length v) ps → ((sort : ℕ) → slice_index_or v sort 0 ≡ 0) → w ≡ greatest_after v ps → AreGreatest ps w
greatest_is ps v w below none same =
    subst (AreGreatest ps) (sym same) (record {
      bound = λ sort least asks. greatest_bound v ps asks.0 asks.1 asks.2 sort least below asks.3 asks.4;
      some = λ sort. ⊎_elim (λ old. inl (old ∙ none sort)) (λ found. inr found) (greatest_some v ps sort below);
    })

pub greatest_size : (v : List ℕ) (ps : List NumberedProduction) → length (greatest_after v ps) ≡ length v
greatest_size v [] = refl
greatest_size v (p ∷ ps) = greatest_size (raised_by v p.symbols.items) ps ∙ raised_by_size v p.symbols.items

-- what is read after the front of a list is written anew, as far as the list goes
pub written_all : (old new : List ℕ) (n : ℕ) → length new ≡ n → take n (new ++ drop (length new) old) ≡ new
written_all old new n e = subst (λ m. take m (new ++ drop (length new) old) ≡ new) e (take-append_seam new (drop (length new) old))

lowered_size : (v : List ℕ) (p : NumberedProduction) → length (lowered v p) ≡ length v
lowered_size v p = length-set v p.sort (min (slice_index_or v p.sort 255) p.level)

after_sorts : (v : List ℕ) (p : NumberedProduction) (ps : List NumberedProduction) → HaveSortsBelow (length v) (p ∷ ps) → HaveSortsBelow (length (lowered v p)) ps
after_sorts v p ps below = subst (λ b. HaveSortsBelow b ps) (sym (lowered_size v p)) (λ label q at. below (suc label) q at)

lowered_keeps : (v : List ℕ) (p : NumberedProduction) (sort : ℕ) → p.sort < length v → slice_index_or (lowered v p) sort 255 ≤ slice_index_or v sort 255
lowered_keeps v p sort lt = ⊎_elim
    (λ here. let e = ap (λ n. slice_index_or v n 255) here.0 in omega (arith, here.1, e))
    (λ other. omega (arith, other))
    (set_read v p.sort (min (slice_index_or v p.sort 255) p.level) 255 sort lt)

least_keeps : (v : List ℕ) (ps : List NumberedProduction) (sort : ℕ) → HaveSortsBelow (length v) ps → slice_index_or (least_after v ps) sort 255 ≤ slice_index_or v sort 255
least_keeps v [] sort below = omega arith
least_keeps v (p ∷ ps) sort below =
    let one = lowered_keeps v p sort (below zero p refl) in
    let more = least_keeps (lowered v p) ps sort (after_sorts v p ps below) in
    omega (arith, one, more)

least_bound : (v : List ℕ) (ps : List NumberedProduction) (label : ℕ) (q : NumberedProduction) → HaveSortsBelow (length v) ps → slice_get ps label ≡ Some q → slice_index_or (least_after v ps) q.sort 255 ≤ q.level
least_bound v [] label q below at = let clash : None ≡ Some q = at in cc
least_bound v (p ∷ ps) zero q below at =
    let same : p ≡ q = cc in
    let here : slice_index_or (lowered v p) p.sort 255 ≡ min (slice_index_or v p.sort 255) p.level = get_or-set_same v p.sort (min (slice_index_or v p.sort 255) p.level) 255 (below zero p refl) in
    let more = least_keeps (lowered v p) ps p.sort (after_sorts v p ps below) in
    subst (λ r. slice_index_or (least_after v (p ∷ ps)) r.sort 255 ≤ r.level) same (omega (arith, here, more))
least_bound v (p ∷ ps) (suc label) q below at = least_bound (lowered v p) ps label q (after_sorts v p ps below) at

least_some : (v : List ℕ) (ps : List NumberedProduction) (sort : ℕ) → HaveSortsBelow (length v) ps
    → (slice_index_or (least_after v ps) sort 255 ≡ slice_index_or v sort 255) ⊎ HasLevel ps sort (slice_index_or (least_after v ps) sort 255)
least_some v [] sort below = inl refl
least_some v (p ∷ ps) sort below = ⊎_elim
    (λ same. ⊎_elim
    (λ here. ⊎_elim
    (λ old. inl (same ∙ here.1 ∙ old ∙ ap (λ n. slice_index_or v n 255) (sym here.0)))
    (λ new. inr (zero, p, refl, sym here.0, sym (same ∙ here.1 ∙ new)))
    (min_is (slice_index_or v p.sort 255) p.level))
    (λ other. inl (same ∙ other))
    (set_read v p.sort (min (slice_index_or v p.sort 255) p.level) 255 sort (below zero p refl)))
    (λ found. inr (suc found.0, found.1, found.2, found.3, found.4))
    (least_some (lowered v p) ps sort (after_sorts v p ps below))

pub least_is : (ps : List NumberedProduction) (v w : List ℕ) → HaveSortsBelow (length v) ps → ((sort : ℕ) → slice_index_or v sort 255 ≡ 255) → w ≡ least_after v ps → AreLeast ps w
least_is ps v w below none same =
    subst (AreLeast ps) (sym same) (record {
      bound = λ sort level has. subst (λ s. slice_index_or (least_after v ps) s 255 ≤ level) has.3 (subst (λ l. slice_index_or (least_after v ps) has.1.sort 255 ≤ l) has.4 (least_bound v ps has.0 has.1 below has.2));
      some = λ sort. ⊎_elim (λ old. inl (old ∙ none sort)) (λ found. inr found) (least_some v ps sort below);
    })

pub least_size : (v : List ℕ) (ps : List NumberedProduction) → length (least_after v ps) ≡ length v
least_size v [] = refl
least_size v (p ∷ ps) = least_size (lowered v p) ps ∙ lowered_size v p

-- sorts and parts have numbers of sort lines
names_length : (p : Parts) → length (names p) ≡ length p.sorts
names_length p = length-map p.sorts (λ s. s.name)

pub sorts_below : (p : Parts) (ps : List NumberedProduction) (bound : ℕ) → HasKnownSorts p → AreNumbered p ps → bound ≡ length p.sorts → HaveSortsBelow bound ps
sorts_below p ps bound known same size label q at =
    let r = line_of p ps label q same at in
    let place = own_place p known.1 r.0 (at_contains p.productions label r.0 r.1) in
    let within = slice_get_within (names p) (number_of (names p) r.0.sort) r.0.sort place in
    omega (arith, within, names_length p, size, ap (λ l. l.sort) r.2)

pub parts_below : (p : Parts) (ps : List NumberedProduction) (bound : ℕ) → HasKnownSorts p → AreNumbered p ps → bound ≡ length p.sorts → HavePartsBelow bound ps
parts_below p ps bound known same size label q k sort least at here =
    let r = line_of p ps label q same at in
    let named = part_of_line p q r.0 k sort least (sym r.2) here in
    let place = part_place p known.1 r.0 named.0 least (at_contains p.productions label r.0 r.1) (at_contains r.0.symbols k (Named.Part named.0 least) named.1) in
    let within = slice_get_within (names p) (number_of (names p) named.0) named.0 place in
    omega (arith, within, names_length p, size, named.2)

pub name_at : (ss : List SortLine) (i : ℕ) (s : SortLine) → slice_get ss i ≡ Some s → slice_get (map (λ s. s.name) ss) i ≡ Some s.name
name_at ss i s at = slice_get-map (λ s. s.name) ss i ∙ ap (option_map (λ s. s.name)) at

-- where these are the greatest and the least level, the sort lacks brackets
pub lacks_is : (p : Parts) (ps : List NumberedProduction) (i : ℕ) (s : SortLine) (asked least : List ℕ) (a l : ℕ) → HasKnownSorts p → AreNumbered p ps → slice_get p.sorts i ≡ Some s → AreGreatest ps asked → AreLeast ps least
    → slice_index_or asked i 0 ≡ a → slice_index_or least i 255 ≡ l → a < 256 → ((s.brackets ≡ None) × (l < a)) ↔ LacksBrackets p s
lacks_is p ps i s asked least a l known same at greatest lowest a_is l_is small = (found, back)
  where
    own : slice_get (names p) i ≡ Some s.name
    own = name_at p.sorts i s at

    one_name : (name : Text) → slice_get (names p) i ≡ Some name → name ≡ s.name
    one_name name there = let e : Some name ≡ Some s.name = sym there ∙ own in cc

    from_both : s.brackets ≡ None → l < a → AsksFor ps i (slice_index_or asked i 0) → HasLevel ps i (slice_index_or least i 255) → LacksBrackets p s
    from_both none lt asks has =
        let r = line_of p ps asks.0 asks.1 same asks.3 in
        let named = part_of_line p asks.1 r.0 asks.2 i (slice_index_or asked i 0) (sym r.2) asks.4 in
        let has_r = at_contains p.productions asks.0 r.0 r.1 in
        let has_part = at_contains r.0.symbols asks.2 (Named.Part named.0 (slice_index_or asked i 0)) named.1 in
        let alike = one_name named.0 (subst (λ n. slice_get (names p) n ≡ Some named.0) named.2 (part_place p known.1 r.0 named.0 (slice_index_or asked i 0) has_r has_part)) in
        let q = line_of p ps has.0 has.1 same has.2 in
        let has_q = at_contains p.productions has.0 q.0 q.1 in
        let same_sort = one_name q.0.sort (subst (λ n. slice_get (names p) n ≡ Some q.0.sort) (ap (λ x. x.sort) q.2 ∙ has.3) (own_place p known.1 q.0 has_q)) in
        let level : q.0.level ≡ slice_index_or least i 255 = ap (λ x. x.level) q.2 ∙ has.4 in
        (none, (r.0, q.0, slice_index_or asked i 0, has_r, subst (λ n. Contains r.0.symbols (Named.Part n (slice_index_or asked i 0))) alike has_part, has_q, same_sort, omega (arith, level, a_is, l_is, lt)))

    found : (s.brackets ≡ None) × (l < a) → LacksBrackets p s
    found both = ⊎_elim
        (λ zero_asked. absurd (omega (arith, zero_asked, a_is, both.1)))
        (λ asks. ⊎_elim (λ no_level. absurd (omega (arith, no_level, l_is, both.1, small))) (λ has. from_both both.0 both.1 asks has) (lowest.some i))
        (greatest.some i)

    back : LacksBrackets p s → (s.brackets ≡ None) × (l < a)
    back lacks =
        let w = lacks.1 in
        let label = contains_place p.productions w.0 w.3 in
        let k = contains_place w.0.symbols (Named.Part s.name w.2) w.4 in
        let q = production_of_line p ps label.0 w.0 same label.1 in
        let there = part_of_production p q.0 w.0 k.0 w.2 s.name q.2 k.1 in
        let number : number_of (names p) s.name ≡ i = known.0.1 (number_of (names p) s.name) i s.name (part_place p known.1 w.0 s.name w.2 w.3 w.4) own in
        let bound = greatest.bound i w.2 (label.0, q.0, k.0, q.1, there ∙ ap (λ n. Some (Part n w.2)) number) in
        let label' = contains_place p.productions w.1 w.5 in
        let q' = production_of_line p ps label'.0 w.1 same label'.1 in
        let sort' : q'.0.sort ≡ i = ap (λ x. x.sort) q'.2 ∙ ap (number_of (names p)) w.6 ∙ number in
        let low = lowest.bound i w.1.level (label'.0, q'.0, q'.1, sort', ap (λ x. x.level) q'.2) in
        (lacks.0, omega (arith, bound, low, w.7, a_is, l_is))

-- what is read at an index
read_as : (xs : List ℕ) (i a d : ℕ) → i < length xs → a ≡ get_or xs i a → slice_index_or xs i d ≡ a
read_as xs i a d lt is = get_or_from_slice_get xs i a d (slice_get_read xs (length xs) i a refl lt is)

same_read : (xs : List ℕ) (i d e : ℕ) → i < length xs → get_or xs i d ≡ get_or xs i e
same_read [] i d e lt = absurd (omega (arith, lt))
same_read (x ∷ xs) zero d e lt = refl
same_read (x ∷ xs) (suc i) d e lt = same_read xs i d e (omega (arith, lt))

-- the element that is there, with one default and another
pub read_here : (xs : List ℕ) (i d e : ℕ) → i < length xs → slice_index_or xs i d ≡ get_or xs i e
read_here xs i d e lt = read_as xs i (get_or xs i e) d lt (same_read xs i e (get_or xs i e) lt)
