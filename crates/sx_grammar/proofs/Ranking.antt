-- Ranks of the sorts that derive the empty list, and of all sorts.
use Rattle.std.proofs.Common.{◌≡◌, ℕ, zero, suc, ◌+◌, ◌^◌, ◌<◌, List, [], ◌∷◌, ◌++◌, ◌⊎◌, inl, inr, ⊎_elim, Some, None, Option, ap, refl, sym, subst, ◌∙◌, length, map, Vec, Bool, true, false, eqb, arith, Contains, IsTrue, ◌≢◌}
use Rattle.std.specs.declared.alloc.Global.{Global}
use Rattle.std.specs.Prelude.{slice_get, slice_index_or, is_some, option_map, MatchOption}
use Rattle.std.proofs.lemmas.List.{length-map, length-append}
use Rattle.std.specs.List.{IsDistinct, AllByRecursion, list_any}
use Rattle.std.proofs.lemmas.Bool.{cases_lt, or_cases, eqb-true, false≢true}
use Rattle.std.proofs.lemmas.Bool.Decides.{eqb_tells}
use Rattle.std.proofs.lemmas.Map.Keys.{IsDistinct-cons}
use Rattle.std.proofs.lemmas.Map.Steps.{length-le_from_distinct_below}
use Rattle.std.proofs.lemmas.Option.{slice_get_within, slice_get-get_or, get_or_from_slice_get, slice_get-map}
use Rattle.sx_grammar.specs.declared.rule.Rule.{Rule}
use Rattle.sx_grammar.specs.declared.numbered.NumberedSymbol.{NumberedSymbol}
use Rattle.sx_grammar.specs.declared.numbered.NumberedSymbol.TheVariants.{Lit, Lex, Part}
use Rattle.sx_grammar.specs.declared.numbered.NumberedProduction.{NumberedProduction}
use Rattle.sx_grammar.specs.Grammar.{Text, Grammar}
use Rattle.sx_grammar.specs.Cyclic.{Vanishes, no_symbols, empty_part, StepsTo, DerivesAlone, one_step, step_after, IsNotCyclic}
use Rattle.sx_grammar.specs.Order.{IsRanking, AreRanks, rank_at}
use Rattle.sx_grammar.specs.Numbered.{symbol, production, AreOf}
use Rattle.sx_grammar.specs.Ranks.{rank_in, HasRank, IsFounded, IsComplete, HasRanksBelow, AreRulesBelow}
use Rattle.sx_grammar.specs.Cycles.{list_at, IsEmptySort, AreEmptySorts, AllMarked, IsClosed, ArePartsOf, IsRuleOf, AreRulesOf, AreStepsOf, AreStepRules, AreStepsBelow, LacksRank, HasStep, HaveSortsBelow, HavePartsBelow}
use Rattle.sx_grammar.proofs.Emptying.{numbered_at}
use Rattle.sx_grammar.proofs.Places.{got_push, got_kept, got_last}
use Rattle.sx_grammar.proofs.Stepping.{same_at}
use Rattle.sx_grammar.proofs.Linking.{steps_of, step_below}
use Rattle.sx_grammar.proofs.Depth.{none_equal}

-- parts of sorts that derive the empty list derive it
parts_vanish : (g : Grammar) (texts : List Text) (xs : List NumberedSymbol) (sorts : List ℕ) → ArePartsOf xs sorts
    → ((k x : ℕ) → slice_get sorts k ≡ Some x → IsEmptySort g x) → Vanishes g (map (symbol texts) xs)
parts_vanish g texts [] [] are empty = no_symbols
parts_vanish g texts [] (y ∷ ys) are empty = absurd are
parts_vanish g texts (Lit n ∷ xs) [] are empty = absurd are
parts_vanish g texts (Lit n ∷ xs) (y ∷ ys) are empty = absurd are
parts_vanish g texts (Lex kind ∷ xs) [] are empty = absurd are
parts_vanish g texts (Lex kind ∷ xs) (y ∷ ys) are empty = absurd are
parts_vanish g texts (Part sort least ∷ xs) [] are empty = absurd are
parts_vanish g texts (Part sort least ∷ xs) (y ∷ ys) are empty =
    let e = empty 0 y refl in
    empty_part e.0 e.1 e.2 (e.3 ∙ sym are.0) e.4 (parts_vanish g texts xs ys are.1 (λ k x at. empty (suc k) x at))

-- symbols that are parts of marked sorts are parts
marked_parts : (marks : List Bool) (texts : List Text) (xs : List NumberedSymbol) → AllMarked marks (map (symbol texts) xs)
    → (sorts : List ℕ) × ArePartsOf xs sorts × ((k x : ℕ) → slice_get sorts k ≡ Some x → IsTrue (slice_index_or marks x false))
marked_parts marks texts [] all = ([], tt, λ k x at. (let clash : None ≡ Some x = at in cc))
marked_parts marks texts (Lit n ∷ xs) all = absurd all
marked_parts marks texts (Lex kind ∷ xs) all = absurd all
marked_parts marks texts (Part sort least ∷ xs) all =
    let rest = marked_parts marks texts xs all.1 in
    (sort ∷ rest.0, (refl, rest.1), each rest.0 rest.2)
  where
    each : (sorts : List ℕ) → ((k x : ℕ) → slice_get sorts k ≡ Some x → IsTrue (slice_index_or marks x false)) → (k x : ℕ) → slice_get (sort ∷ sorts) k ≡ Some x → IsTrue (slice_index_or marks x false)
    each sorts more zero x at = let same : sort ≡ x = cc in subst (λ s. IsTrue (slice_index_or marks s false)) same all.0
    each sorts more (suc k) x at = more k x at

-- one more part
pub parts_push : (xs : List NumberedSymbol) (ys : List ℕ) (sort least : ℕ) → ArePartsOf xs ys → ArePartsOf (xs ++ Part sort least ∷ []) (ys ++ sort ∷ [])
parts_push [] [] sort least are = (refl, tt)
parts_push [] (y ∷ ys) sort least are = absurd are
parts_push (Lit n ∷ xs) [] sort least are = absurd are
parts_push (Lit n ∷ xs) (y ∷ ys) sort least are = absurd are
parts_push (Lex kind ∷ xs) [] sort least are = absurd are
parts_push (Lex kind ∷ xs) (y ∷ ys) sort least are = absurd are
parts_push (Part s l ∷ xs) [] sort least are = absurd are
parts_push (Part s l ∷ xs) (y ∷ ys) sort least are = (are.0, parts_push xs ys sort least are.1)

-- each of the symbols is a part
pub parts_each : (xs : List NumberedSymbol) (ys : List ℕ) (k : ℕ) (s : NumberedSymbol) → ArePartsOf xs ys → slice_get xs k ≡ Some s → (sort : ℕ) × (least : ℕ) × (s ≡ Part sort least)
parts_each [] ys k s are at = let clash : None ≡ Some s = at in cc
parts_each (Lit n ∷ xs) [] k s are at = absurd are
parts_each (Lit n ∷ xs) (y ∷ ys) k s are at = absurd are
parts_each (Lex kind ∷ xs) [] k s are at = absurd are
parts_each (Lex kind ∷ xs) (y ∷ ys) k s are at = absurd are
parts_each (Part sort least ∷ xs) [] k s are at = absurd are
parts_each (Part sort least ∷ xs) (y ∷ ys) zero s are at = let same : s ≡ Part sort least = cc in (sort, least, same)
parts_each (Part sort least ∷ xs) (y ∷ ys) (suc k) s are at = parts_each xs ys k s are.1 at

-- the rules of one production more
rule_pushed : (ps : List NumberedProduction) (n : ℕ) (rules : List Rule) (p : NumberedProduction) (r : Rule) → AreRulesOf ps n rules → slice_get ps n ≡ Some p → IsRuleOf p r → AreRulesOf ps (n + 1) (rules ++ r ∷ [])
rule_pushed ps n rules p r before at is = record {
  only = λ i s got. ⊎_elim (λ was. before.only i s was) (λ last. (n, p, at, subst (IsRuleOf p) last.1 is)) (got_push rules r s i got);
  all = λ label q sorts lt there are. elim (cases_lt label n) [
    | inl below ↦ (let found = before.all label q sorts below there are in (found.0, found.1, got_kept rules r found.1 found.0 found.2, found.3))
    | inr above ↦ (
        let same = same_at ps n label p q (let last : n ≡ label = omega (arith, lt, above) in last) at there in
        (length rules, r, got_last rules r, subst (λ q. IsRuleOf q r) same is))
  ];
}

pub rule_more : (ps : List NumberedProduction) (n : ℕ) (rules new : List Rule) (p : NumberedProduction) (r : Rule) → AreRulesOf ps n rules → slice_get ps n ≡ Some p → new ≡ rules ++ r ∷ [] → IsRuleOf p r → AreRulesOf ps (n + 1) new
rule_more ps n rules new p r before at e is = subst (AreRulesOf ps (n + 1)) (sym e) (rule_pushed ps n rules p r before at is)

pub rule_none : (ps : List NumberedProduction) (n : ℕ) (rules : List Rule) (p : NumberedProduction) → AreRulesOf ps n rules → slice_get ps n ≡ Some p → ((sorts : List ℕ) → ¬ (ArePartsOf p.symbols.items sorts)) → AreRulesOf ps (n + 1) rules
rule_none ps n rules p before at none = record {
  only = before.only;
  all = λ label q sorts lt there are. elim (cases_lt label n) [
    | inl below ↦ before.all label q sorts below there are
    | inr above ↦ (
        let same = same_at ps n label p q (let last : n ≡ label = omega (arith, lt, above) in last) at there in
        absurd (none sorts (subst (λ q. ArePartsOf q.symbols.items sorts) (sym same) are)))
  ];
}

-- the sorts of parts are determined
parts_same : (xs : List NumberedSymbol) (sorts others : List ℕ) → ArePartsOf xs sorts → ArePartsOf xs others → sorts ≡ others
parts_same [] [] [] are too = refl
parts_same [] [] (z ∷ zs) are too = absurd too
parts_same [] (y ∷ ys) others are too = absurd are
parts_same (Lit n ∷ xs) [] others are too = absurd are
parts_same (Lit n ∷ xs) (y ∷ ys) others are too = absurd are
parts_same (Lex kind ∷ xs) [] others are too = absurd are
parts_same (Lex kind ∷ xs) (y ∷ ys) others are too = absurd are
parts_same (Part sort least ∷ xs) [] others are too = absurd are
parts_same (Part sort least ∷ xs) (y ∷ ys) [] are too = absurd too
parts_same (Part sort least ∷ xs) (y ∷ ys) (z ∷ zs) are too = let head : y ≡ z = sym are.0 ∙ too.0 in let rest = parts_same xs ys zs are.1 too.1 in (λ i. head i ∷ rest i)

-- the sorts that are marked are those with ranks
pub marked_rank : (ranks : List (Option ℕ)) (x : ℕ) → IsTrue (slice_index_or (map is_some ranks) x false) → HasRank ranks x
marked_rank [] x is = absurd (false≢true is)
marked_rank (None ∷ ranks) zero is = absurd (false≢true is)
marked_rank (Some n ∷ ranks) zero is = (n, refl)
marked_rank (r ∷ ranks) (suc x) is = marked_rank ranks x is

pub rank_marked : (ranks : List (Option ℕ)) (x n : ℕ) → rank_in ranks x ≡ Some n → IsTrue (slice_index_or (map is_some ranks) x false)
rank_marked [] x n e = let clash : None ≡ Some n = e in cc
rank_marked (None ∷ ranks) zero n e = let clash : None ≡ Some n = e in cc
rank_marked (Some m ∷ ranks) zero n e = refl
rank_marked (r ∷ ranks) (suc x) n e = rank_marked ranks x n e

module _ (g : Grammar) (ps : List NumberedProduction) (of : AreOf g ps) (rules : List Rule) (are : AreRulesOf ps (length ps) rules) (ranks : List (Option ℕ)) where
  -- a number with a rank below the bound is a sort that derives the empty list
  ranked_empty : IsFounded rules ranks → (bound x n : ℕ) → rank_in ranks x ≡ Some n → n < bound → IsEmptySort g x
  ranked_empty founded zero x n e lt = absurd (omega (arith, lt))
  ranked_empty founded (suc bound) x n e lt =
      let f = founded x n e in
      let from = are.only f.0 f.1 f.2 in
      let q = from.1 in (
        from.0,
        production of.0 q,
        ap (λ t. slice_get t from.0) of.1 ∙ slice_get-map (production of.0) ps from.0 ∙ ap (option_map (production of.0)) from.2,
        sym from.3.0 ∙ f.3,
        parts_vanish g of.0 q.symbols.items f.1.needs.items from.3.1
            (λ k y at. let low = f.4 k y at in ranked_empty founded bound y low.0 low.1 (let less = low.2 in omega (arith, less, lt))),
      )

  pub empty_marked : IsFounded rules ranks → AreEmptySorts g (map is_some ranks)
  empty_marked founded sort is = let has = marked_rank ranks sort is in ranked_empty founded (suc has.0) sort has.0 has.1 (omega arith)

  pub closed_marked : IsComplete rules ranks → IsClosed g (map is_some ranks)
  closed_marked complete label p at all =
      let found = numbered_at of.0 ps label p (ap (λ t. slice_get t label) (sym of.1) ∙ at) in
      let q = found.0 in
      let parts = marked_parts (map is_some ranks) of.0 q.symbols.items (subst (AllMarked (map is_some ranks)) (ap (λ r. r.symbols) (sym found.2)) all) in
      let rule = are.all label q parts.0 (slice_get_within ps label q found.1) found.1 parts.1 in
      let same = parts_same q.symbols.items rule.1.needs.items parts.0 rule.3.1 parts.1 in
      let has = complete rule.0 rule.1 rule.2 (λ k x lt got. marked_rank ranks x (parts.2 k x (ap (λ l. slice_get l k) (sym same) ∙ got))) in
      rank_marked ranks p.sort has.0 (ap (rank_in ranks) (sym (rule.3.0 ∙ ap (λ r. r.sort) found.2)) ∙ has.1)

-- the numbers of the rules are sorts
parts_below : (bound : ℕ) (xs : List NumberedSymbol) (sorts : List ℕ) → ArePartsOf xs sorts → ((k sort least : ℕ) → slice_get xs k ≡ Some (Part sort least) → sort < bound)
    → (k x : ℕ) → slice_get sorts k ≡ Some x → x < bound
parts_below bound [] [] are below k x at = let clash : None ≡ Some x = at in cc
parts_below bound [] (y ∷ ys) are below k x at = absurd are
parts_below bound (Lit n ∷ xs) [] are below k x at = absurd are
parts_below bound (Lit n ∷ xs) (y ∷ ys) are below k x at = absurd are
parts_below bound (Lex kind ∷ xs) [] are below k x at = absurd are
parts_below bound (Lex kind ∷ xs) (y ∷ ys) are below k x at = absurd are
parts_below bound (Part sort least ∷ xs) [] are below k x at = absurd are
parts_below bound (Part sort least ∷ xs) (y ∷ ys) are below zero x at =
    let same : y ≡ x = cc in subst (λ s. s < bound) (are.0 ∙ same) (below zero sort least refl)
parts_below bound (Part sort least ∷ xs) (y ∷ ys) are below (suc k) x at = parts_below bound xs ys are.1 (λ k s l got. below (suc k) s l got) k x at

pub rules_below : (bound : ℕ) (ps : List NumberedProduction) (rules : List Rule) → HaveSortsBelow bound ps → HavePartsBelow bound ps → AreRulesOf ps (length ps) rules → AreRulesBelow bound rules
rules_below bound ps rules heads parts are i r at =
    let from = are.only i r at in
    let q = from.1 in
    (subst (λ s. s < bound) (sym from.3.0) (heads from.0 q from.2), parts_below bound q.symbols.items r.needs.items from.3.1 (λ k s l got. parts from.0 q k s l from.2 got))

-- the ranks of all sorts
some_at : (numbers : List ℕ) (x : ℕ) → x < length numbers → rank_in (map Some numbers) x ≡ Some (rank_at numbers x)
some_at [] x lt = absurd (omega (arith, lt))
some_at (n ∷ numbers) zero lt = refl
some_at (n ∷ numbers) (suc x) lt = some_at numbers x (omega (arith, lt))

at_some : (numbers : List ℕ) (x n : ℕ) → rank_in (map Some numbers) x ≡ Some n → rank_at numbers x ≡ n
at_some [] x n e = let clash : None ≡ Some n = e in cc
at_some (m ∷ numbers) zero n e = cc
at_some (m ∷ numbers) (suc x) n e = at_some numbers x n e

pub list_within : (lists : List (Vec ℕ Global)) (s x : ℕ) → Contains (list_at lists s) x → s < length lists
list_within [] s x has = absurd (omega (arith, has.1))
list_within (v ∷ vs) zero x has = omega arith
list_within (v ∷ vs) (suc s) x has = let h = list_within vs s x has in omega (arith, h)

-- a sort that leads anywhere has steps
pub leads_within : (g : Grammar) (lists : List (Vec ℕ Global)) → AreStepsOf g lists → {sort other : ℕ} → DerivesAlone g sort other → sort < length lists
leads_within g lists steps (one_step {sort = sort} {other = other} step) = list_within lists sort other ((steps sort other).1 step)
leads_within g lists steps (step_after leads step) = leads_within g lists steps leads

-- where an element stands
got_in : (xs : List ℕ) (x : ℕ) → Contains xs x → (k : ℕ) × (slice_get xs k ≡ Some x)
got_in xs x has = (has.0, slice_get-get_or xs has.0 x has.1 ∙ ap Some has.2)

some_within : {X : Type 0} (xs : List X) (k : ℕ) → k < length xs → (x : X) × (slice_get xs k ≡ Some x)
some_within [] k lt = absurd (omega (arith, lt))
some_within (x ∷ xs) zero lt = (x, refl)
some_within (x ∷ xs) (suc k) lt = some_within xs k (omega (arith, lt))

module _ (g : Grammar) (lists : List (Vec ℕ Global)) (steps : AreStepsOf g lists) (rules : List Rule) (are : AreStepRules lists (length lists) rules) (ranks : List (Option ℕ)) where
  pub ranking_is : (numbers : List ℕ) → IsFounded rules ranks → map Some numbers ≡ ranks → length numbers ≡ length lists → IsRanking g (rank_at numbers)
  ranking_is numbers founded e size sort other step =
      let has = (steps sort other).1 step in
      let within : sort < length numbers = (let low = list_within lists sort other has in omega (arith, low, size)) in
      let f = founded sort (rank_at numbers sort) (ap (λ l. rank_in l sort) (sym e) ∙ some_at numbers sort within) in
      let rule = are.each f.0 f.1 f.2 in
      let at : f.0 ≡ sort = sym rule.0 ∙ f.3 in
      let there = got_in f.1.needs.items other (subst (λ l. Contains l other) (sym (rule.1 ∙ ap (list_at lists) at)) has) in
      let low = f.4 there.0 other there.1 in
      let is = at_some numbers other low.0 (ap (λ l. rank_in l other) e ∙ low.1) in
      let less = low.2 in
      omega (arith, is, less)

  -- each sort of the path leads to the last
  abbrev AllFrom : List ℕ → ℕ → Type 0
  AllFrom [] x = Unit {0}
  AllFrom (s ∷ path) x = ((s < length lists) × DerivesAlone g s x) × AllFrom path x

  from_on : (path : List ℕ) (x y : ℕ) → AllFrom path x → StepsTo g x y → AllFrom path y
  from_on [] x y from step = tt
  from_on (s ∷ path) x y from step = ((from.0.0, step_after from.0.1 step), from_on path x y from.1 step)

  apart_from : IsNotCyclic g → (x s : ℕ) → DerivesAlone g s x → ((eqb x s ≡ true) × (x ≡ s)) ⊎ ((eqb x s ≡ false) × (x ≢ s)) → eqb x s ≡ false
  apart_from none x s leads (inr h) = h.0
  apart_from none x s leads (inl h) = absurd (none x (subst (λ s. DerivesAlone g s x) (sym h.1) leads))

  path_apart : IsNotCyclic g → (path : List ℕ) (x : ℕ) → AllFrom path x → AllByRecursion (λ s. eqb x s ≡ false) path
  path_apart none [] x from = tt
  path_apart none (s ∷ path) x from = (apart_from none x s from.0.1 (eqb_tells x s), path_apart none path x from.1)

  path_below : (path : List ℕ) (x q : ℕ) → AllFrom path x → list_any (eqb q) path ≡ true → q < length lists
  path_below [] x q from any = cc
  path_below (s ∷ path) x q from any = elim (or_cases (eqb q s) (list_any (eqb q) path) any) [
    | inl same ↦ (let is = eqb-true q s same in let low = from.0.0 in omega (arith, is, low))
    | inr more ↦ path_below path x q from.1 more
  ]

  -- a sort without a rank steps to another such sort, and so on
  chain : IsNotCyclic g → IsComplete rules ranks → AreStepsBelow (length lists) lists → (fuel : ℕ) (path : List ℕ) (x : ℕ) → x < length lists → rank_in ranks x ≡ None
      → IsDistinct eqb path → AllFrom path x → length lists < length path + fuel → ⊥
  chain none complete below zero path x lt e distinct from many =
      let few = length-le_from_distinct_below path (length lists) distinct (λ q any. path_below path x q from any) in
      omega (arith, few, many)
  chain none complete below (suc fuel) path x lt e distinct from many =
      let rule = some_within rules x (omega (arith, lt, are.size)) in
      let is = are.each x rule.0 rule.1 in
      let again : (y : ℕ) → Contains (list_at lists x) y → rank_in ranks y ≡ None → ⊥ =
      λ y has unknown. let step = (steps x y).0 has in
      chain none complete below fuel (x ∷ path) y (below x y has) unknown (IsDistinct-cons eqb x path (path_apart none path x from) distinct) ((lt, one_step step), from_on path x y from step) (omega (arith, many)) in
      let has = complete x rule.0 rule.1 (λ k y _ got. by_rank again k y (ap (λ l. slice_get l k) (sym is.1) ∙ got) (rank_in ranks y) refl) in
      let clash : None ≡ Some has.0 = sym e ∙ ap (rank_in ranks) (sym is.0) ∙ has.1 in
      cc
    where
      by_rank : ((y : ℕ) → Contains (list_at lists x) y → rank_in ranks y ≡ None → ⊥) → (k y : ℕ) → slice_get (list_at lists x) k ≡ Some y → (o : Option ℕ) → rank_in ranks y ≡ o → HasRank ranks y
      by_rank again k y got (Some n) known = (n, known)
      by_rank again k y got None unknown =
          absurd (again y (k, slice_get_within (list_at lists x) k y got, get_or_from_slice_get (list_at lists x) k y y got) unknown)

  pub not_ranked : IsComplete rules ranks → AreStepsBelow (length lists) lists → length ranks ≡ length lists → LacksRank ranks → ¬ (IsNotCyclic g)
  not_ranked complete below size lacks none =
      chain none complete below (suc (length lists)) [] lacks.0 (let lt = lacks.1 in omega (arith, lt, size)) lacks.2 none_equal tt (omega arith)

-- a copy of the lists has the steps of the grammar
pub steps_are : (g : Grammar) (ps : List NumberedProduction) (marks seen : List Bool) (lists those : List (Vec ℕ Global)) → AreOf g ps → AreEmptySorts g marks → IsClosed g marks → seen ≡ marks → those ≡ lists
    → ((sort other : ℕ) → Contains (list_at lists sort) other → HasStep seen ps sort other) → ((sort other : ℕ) → HasStep seen ps sort other → Contains (list_at lists sort) other) → AreStepsOf g those
steps_are g ps marks seen lists those of empty closed e f only all =
    subst (AreStepsOf g) (sym f) (steps_of g ps marks lists of empty closed
    (λ s t has. subst (λ m. HasStep m ps s t) e (only s t has)) (λ s t has. all s t (subst (λ m. HasStep m ps s t) (sym e) has)))

pub steps_low : (bound : ℕ) (ps : List NumberedProduction) (seen : List Bool) (lists those : List (Vec ℕ Global)) → HavePartsBelow bound ps → those ≡ lists → length lists ≡ bound
    → ((sort other : ℕ) → Contains (list_at lists sort) other → HasStep seen ps sort other) → AreStepsBelow (length those) those
steps_low bound ps seen lists those parts e size only s t has =
    let low = step_below bound seen ps s t parts (only s t (subst (λ l. Contains (list_at l s) t) e has)) in
    omega (arith, low, ap length e, size)

-- the rule of one sort more
pub step_rule_more : (lists : List (Vec ℕ Global)) (n : ℕ) (rules new : List Rule) (r : Rule) → AreStepRules lists n rules → new ≡ rules ++ r ∷ [] → r.head ≡ n → r.needs.items ≡ list_at lists n → AreStepRules lists (n + 1) new
step_rule_more lists n rules new r before e head needs = subst (AreStepRules lists (n + 1)) (sym e) (record {
  size = length-append rules (r ∷ []) ∙ ap (λ k. k + 1) before.size;
  each = λ i s got. ⊎_elim (λ was. before.each i s was) (λ last. added i s (last.0 ∙ before.size) last.1) (got_push rules r s i got);
})
  where
    added : (i : ℕ) (s : Rule) → i ≡ n → r ≡ s → (s.head ≡ i) × (s.needs.items ≡ list_at lists i)
    added i s at same = subst (λ (k : ℕ). (s.head ≡ k) × (s.needs.items ≡ list_at lists k)) (sym at) (subst (λ (q : Rule). (q.head ≡ n) × (q.needs.items ≡ list_at lists n)) same (head, needs))

pub step_rules_below : (lists : List (Vec ℕ Global)) (rules : List Rule) → AreStepsBelow (length lists) lists → AreStepRules lists (length lists) rules → AreRulesBelow (length lists) rules
step_rules_below lists rules below are i r at =
    let is = are.each i r at in
    let within = slice_get_within rules i r at in (
      omega (arith, within, is.0, are.size),
      λ k x got. let there = ap (λ l. slice_get l k) (sym is.1) ∙ got in
          below i x (k, slice_get_within (list_at lists i) k x there, get_or_from_slice_get (list_at lists i) k x x there),
    )

numbers_low : (bound : ℕ) (numbers : List ℕ) → bound < 2 ^ 32 → HasRanksBelow bound (map Some numbers) → (x : ℕ) → rank_at numbers x < 2 ^ 32
numbers_low bound [] few low x = omega arith
numbers_low bound (n ∷ numbers) few low zero = let h = low 0 n refl in omega (arith, h, few)
numbers_low bound (n ∷ numbers) few low (suc x) = numbers_low bound numbers few (λ y m e. low (suc y) m e) x

-- the ranks that are found, or that one lacks
pub ranks_are : (g : Grammar) (lists : List (Vec ℕ Global)) (rules : List Rule) (ranks : List (Option ℕ)) → AreStepsOf g lists → AreStepsBelow (length lists) lists → AreStepRules lists (length lists) rules
    → length lists < 2 ^ 32 → length ranks ≡ length lists → HasRanksBelow (length lists) ranks → IsFounded rules ranks → IsComplete rules ranks → (r : Option (Vec ℕ Global)) → MatchOption r (LacksRank ranks) (λ v. map Some v.items ≡ ranks)
    → MatchOption r (¬ (IsNotCyclic g)) (λ v. AreRanks g v.items)
ranks_are g lists rules ranks steps below are few size low founded complete None lacks = not_ranked g lists steps rules are ranks complete below size lacks
ranks_are g lists rules ranks steps below are few size low founded complete (Some v) e = (
  ranking_is g lists steps rules are ranks v.items founded e (sym (length-map v.items Some) ∙ ap length e ∙ size),
  λ sort. numbers_low (length lists) v.items few (subst (HasRanksBelow (length lists)) (sym e) low) sort,
)

-- some grammar has these productions
pub some_grammar : (ps : List NumberedProduction) → (g : Grammar) × AreOf g ps
some_grammar ps = (record { sorts = []; productions = map (production []) ps }, ([], refl))
