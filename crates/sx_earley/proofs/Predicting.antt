-- Productions that are predicted, one opening after another.
use Rattle.std.proofs.Common.{◌≡◌, ◌∙◌, ℕ, zero, suc, take, get_or, ◌<◌, ◌≤◌, ◌+◌, ◌^◌, ◌⊎◌, inl, inr, ⊎_elim, List, [], ◌∷◌, ◌++◌, map, refl, sym, ap, subst, length, Contains, Option, Some, None, IfSome, option_map, arith}
use Rattle.std.specs.List.{slice_get}
use Rattle.std.proofs.lemmas.Option.{same_Some, none-some, slice_get-get_or}
use Rattle.std.proofs.lemmas.List.{take_more, take_all}
use Rattle.std.proofs.lemmas.List.Elements.{Contains-push_cases, Contains-append_left, Contains-push, Contains-get_or}
use Rattle.sx_grammar.specs.Grammar.{Symbol, Production, Grammar, Token, production_of}
use Rattle.sx_grammar.specs.Numbered.{symbol}
use Rattle.sx_grammar.specs.Tables.{GrammarData}
use Rattle.sx_grammar.specs.declared.item.Item.{Item}
use Rattle.sx_earley.specs.declared.ask.Ask.{Ask}
use Rattle.sx_earley.specs.declared.opening.Opening.{Opening}
use Rattle.sx_earley.specs.Growth.{GoesOnFrom, AllNew}
use Rattle.sx_earley.specs.Shown.{plain, literal_texts, IsLiteralBelow}
use Rattle.sx_earley.specs.AskSet.{IsLevelReached, IsOfSortFrom, IsNewLevel}
use Rattle.sx_earley.specs.Chart.{IsOfSort, IsPredicted, IsMissed, IsIdle, beginning}
use Rattle.sx_earley.specs.Counted.{IsCount, IsNewlyAsked, IsBusy, AddsOrCounts, unwanted, missed, added, Predicts}
use Rattle.sx_earley.specs.Openings.{IsOpening, HasOpenings}
use Rattle.sx_earley.proofs.Counts.{count_none, count_same, count_more}
use Rattle.sx_grammar.specs.Tally.{Among, EachOnce}
use Rattle.sx_grammar.specs.declared.head.Head.TheVariants.{Labelled}
use Rattle.sx_earley.proofs.Closing.{nothing_in}
use Rattle.sx_earley.proofs.Spanning.{first_or_later}
pub use Rattle.sx_earley.proofs.Waiting.{there_is}
use Rattle.sx_earley.proofs.Growth.{extends_self, extends_on, still_there, only_more, only_on}

-- what is predicted is the beginning of its head's production
pub begins_there : (g : Grammar) (sort least place : ℕ) (i : Item) → IsPredicted g sort least place i → beginning i.head place ≡ i
begins_there g sort least place i p = λ t. record { head = i.head; dot = sym p.1 t; origin = sym p.2 t; end = sym p.3 t }

from_level : (o : Option Production) (sort : ℕ) (before : Option ℕ) (p : Production) → o ≡ Some p → IsOfSortFrom o sort before → IsLevelReached before p.level
from_level o sort None p e h = absurd h
from_level o sort (Some m) p e h = let is : IsOfSort (Some p) sort m = subst (λ x. IsOfSort x sort m) e h in is.1

reached_at : (o : Option Production) (sort : ℕ) (before : Option ℕ) (p : Production) → o ≡ Some p → p.sort ≡ sort → IsLevelReached before p.level → IsOfSortFrom o sort before
reached_at o sort None p e s h = absurd h
reached_at o sort (Some m) p e s h = subst (λ x. IsOfSort x sort m) (sym e) (s, h)

among_map : {X Y : Type 0} (f : X → Y) (xs : List X) (n : ℕ) (y : X) → slice_get xs n ≡ Some y → Among (f y) (map f xs)
among_map f [] n y at = absurd (none-some y at)
among_map f (x ∷ xs) zero y at = inl (ap f (sym (same_Some x y at)))
among_map f (x ∷ xs) (suc n) y at = inr (among_map f xs n y at)

-- what stands once does not stand before itself
fresh_by : {X Y : Type 0} (f : X → Y) (xs : List X) (n : ℕ) (y : X) → EachOnce (map f xs) → slice_get xs n ≡ Some y → (z : X) → Contains (take n xs) z → f z ≡ f y → ⊥
fresh_by f [] n y once at z there e = absurd (none-some y at)
fresh_by f (x ∷ xs) zero y once at z there e = nothing_in [] z refl there
fresh_by f (x ∷ xs) (suc n) y once at z there e = ⊎_elim
    (λ s. once.0 (subst (λ v. Among v (map f xs)) (sym (ap f s ∙ e)) (among_map f xs n y at)))
    (λ later. fresh_by f xs n y once.1 at z later e)
    (first_or_later x (take n xs) z there)

abbrev pub no_opening : Opening
no_opening = record { head = Labelled 0; level = 0; first = None }

module _ (d : GrammarData) (tokens : List Token) (ask : Ask) (before : Option ℕ) where
  abbrev g : Grammar
  g = plain d

  abbrev Wanted : Item → Type 0
  Wanted = IsNewlyAsked g ask before

  -- its head is that of an opening of the list
  abbrev pub IsFrom : List Opening → Item → Type 0
  IsFrom front i = (o : Opening) × Contains front o × (o.head ≡ i.head)

  -- so far, from these openings, with at most so many counted
  pub record Progress (front : List Opening) (bound : ℕ) (old new : List Item) (n : ℕ) : Type 0 where
    pub extends : GoesOnFrom old new
    pub only : AllNew old new (IsBusy g tokens Wanted)
    pub every : (i : Item) → Wanted i → IsFrom front i → Contains new i ⊎ IsIdle g tokens i
    pub idle : IsCount (λ i. IsIdle g tokens i × Wanted i × IsFrom front i) n
    pub few : n ≤ bound

  nothing_from : (front : List Opening) → front ≡ [] → (i : Item) → IsFrom front i → ⊥
  nothing_from front none i f = let h : Contains [] f.0 = subst (λ (l : List Opening). Contains l f.0) none f.1 in let low = h.1 in omega arith

  pub progress_none : (front : List Opening) (old : List Item) → front ≡ [] → Progress front 0 old old 0
  progress_none front old none = record {
    extends = extends_self old;
    only = λ i there. inl there;
    every = λ i w f. absurd (nothing_from front none i f);
    idle = count_none (λ i. IsIdle g tokens i × Wanted i × IsFrom front i) (λ i h. nothing_from front none i h.2);
    few = omega arith;
  }

  module _ (o : Opening) (is : IsOpening d ask.sort o) where
    -- what begins with the opening is wanted, if its level is
    pub level_wanted : ask.least ≤ o.level → (IsLevelReached before o.level → ⊥) → Wanted (beginning o.head ask.place)
    level_wanted high not = (
      (
        subst (λ x. IsOfSort x ask.sort ask.least) (sym is.is) (is.same_sort, (let same = is.same_level in omega arith)),
        refl,
        refl,
        refl,
      ),
      (λ from. not (subst (IsLevelReached before) is.same_level (from_level (production_of g o.head) ask.sort before is.production is.is from))),
    )

    -- what is wanted is of these levels
    pub wanted_level : (i : Item) → Wanted i → o.head ≡ i.head → (ask.least ≤ o.level) × (IsLevelReached before o.level → ⊥)
    wanted_level i w e =
        let at = production_of g o.head in
        let fits : IsOfSort at ask.sort ask.least = subst (λ h. IsOfSort (production_of g h) ask.sort ask.least) (sym e) w.0.0 in
        let made : IsOfSort (Some is.production) ask.sort ask.least = subst (λ x. IsOfSort x ask.sort ask.least) is.is fits in (
          (let high = made.1 in let same = is.same_level in omega arith),
          (λ reached. w.1 (subst (λ h. IsOfSortFrom (production_of g h) ask.sort before) e
              (reached_at at ask.sort before is.production is.is is.same_sort (subst (IsLevelReached before) (sym is.same_level) reached)))),
        )

    module _ (front more : List Opening) (step : more ≡ front ++ o ∷ []) where
      from_cases : (i : Item) → IsFrom more i → IsFrom front i ⊎ (o.head ≡ i.head)
      from_cases i f = ⊎_elim (λ was. inl (f.0, was, f.2)) (λ e. inr (ap (λ x. x.head) e ∙ f.2))
          (Contains-push_cases front o f.0 (subst (λ (l : List Opening). Contains l f.0) step f.1))

      from_before : (i : Item) → IsFrom front i → IsFrom more i
      from_before i f = (f.0, subst (λ (l : List Opening). Contains l f.0) (sym step) (Contains-append_left front (o ∷ []) f.0 f.1), f.2)

      from_here : (i : Item) → o.head ≡ i.head → IsFrom more i
      from_here i e = (o, subst (λ (l : List Opening). Contains l o) (sym step) (Contains-push front o), e)

      module _ (bound : ℕ) (old mid : List Item) (n : ℕ) (so_far : Progress front bound old mid n) where
        -- the opening is of no level that is wanted
        progress_skip : ((ask.least ≤ o.level) × (IsLevelReached before o.level → ⊥) → ⊥) → Progress more (bound + 1) old mid n
        progress_skip not = record {
          extends = so_far.extends;
          only = so_far.only;
          every = λ i w f. ⊎_elim (λ was. so_far.every i w was) (λ e. absurd (not (wanted_level i w e))) (from_cases i f);
          idle = count_same (λ i. IsIdle g tokens i × Wanted i × IsFrom front i) (λ i. IsIdle g tokens i × Wanted i × IsFrom more i) n
              (λ i. (
                (λ h. (h.0, h.1, from_before i h.2)),
                (λ h. ⊎_elim (λ was. (h.0, h.1, was)) (λ e. absurd (not (wanted_level i h.1 e))) (from_cases i h.2)),
              ))
              so_far.idle;
          few = (let few = so_far.few in omega arith);
        }

        module _ (high : ask.least ≤ o.level) (not : IsLevelReached before o.level → ⊥) (fresh : (x : Opening) → Contains front x → x.head ≡ o.head → ⊥) where
          abbrev x : Item
          x = beginning o.head ask.place

          idle_is : IsMissed tokens (option_map (symbol (literal_texts d)) o.first) ask.place → IsIdle g tokens x
          idle_is miss = (refl, subst (λ (s : Option Symbol). IsMissed tokens s ask.place) is.first.is miss)

          missed_is : IsIdle g tokens x → IsMissed tokens (option_map (symbol (literal_texts d)) o.first) ask.place
          missed_is idle = subst (λ (s : Option Symbol). IsMissed tokens s ask.place) (sym is.first.is) idle.1

          same_x : (i : Item) → Wanted i → o.head ≡ i.head → x ≡ i
          same_x i w e = ap (λ h. beginning h ask.place) e ∙ begins_there g ask.sort ask.least ask.place i w.0

          progress_missed : IsMissed tokens (option_map (symbol (literal_texts d)) o.first) ask.place → Progress more (bound + 1) old mid (n + 1)
          progress_missed miss = record {
            extends = so_far.extends;
            only = so_far.only;
            every = λ i w f. ⊎_elim (λ was. so_far.every i w was) (λ e. inr (subst (IsIdle g tokens) (same_x i w e) (idle_is miss))) (from_cases i f);
            idle = count_more (λ i. IsIdle g tokens i × Wanted i × IsFrom front i) (λ i. IsIdle g tokens i × Wanted i × IsFrom more i) n x
                (λ p. fresh p.2.0 p.2.1 p.2.2)
                (λ i. (
                  (λ q. ⊎_elim (λ was. inl (q.0, q.1, was)) (λ e. inr (same_x i q.1 e)) (from_cases i q.2)),
                  (λ q. ⊎_elim (λ p. (p.0, p.1, from_before i p.2))
                      (λ e. subst (λ y. IsIdle g tokens y × Wanted y × IsFrom more y) e (idle_is miss, level_wanted high not, from_here x refl)) q),
                ))
                so_far.idle;
            few = (let few = so_far.few in omega arith);
          }

          progress_added : (IsMissed tokens (option_map (symbol (literal_texts d)) o.first) ask.place → ⊥) → (new : List Item) → GoesOnFrom mid new → AllNew mid new (λ i. i ≡ x) →
              Contains new x → Progress more (bound + 1) old new n
          progress_added met new grown only there = record {
            extends = extends_on old mid new so_far.extends grown;
            only = only_on old mid new (IsBusy g tokens Wanted) so_far.only
                (only_more mid new (λ i. i ≡ x) (IsBusy g tokens Wanted)
                (λ i e. subst (IsBusy g tokens Wanted) (sym e) (level_wanted high not, λ idle. met (missed_is idle))) only);
            every = λ i w f. ⊎_elim (λ was. ⊎_elim (λ old_there. inl (still_there mid new i grown old_there)) (λ idle. inr idle) (so_far.every i w was))
                (λ e. inl (subst (Contains new) (same_x i w e) there)) (from_cases i f);
            idle = count_same (λ i. IsIdle g tokens i × Wanted i × IsFrom front i) (λ i. IsIdle g tokens i × Wanted i × IsFrom more i) n
                (λ i. (
                  (λ q. (q.0, q.1, from_before i q.2)),
                  (λ q. ⊎_elim (λ was. (q.0, q.1, was)) (λ e. absurd (met (missed_is (subst (IsIdle g tokens) (sym (same_x i q.1 e)) q.0)))) (from_cases i q.2)),
                ))
                so_far.idle;
            few = (let few = so_far.few in omega arith);
          }

        pub progress_on : ((x : Opening) → Contains front x → x.head ≡ o.head → ⊥) → (new : List Item) (b : ℕ) →
            AddsOrCounts (IsNewLevel ask before o.level) (IsMissed tokens (option_map (symbol (literal_texts d)) o.first) ask.place) (beginning o.head ask.place) mid new b →
            Progress more (bound + 1) old new (n + b)
        progress_on fresh new b (unwanted not same none) =
            subst (λ (k : ℕ). Progress more (bound + 1) old new k) (omega arith) (subst (λ l. Progress more (bound + 1) old l n) (sym same) (progress_skip not))
        progress_on fresh new b (missed w m same one) =
            subst (λ (k : ℕ). Progress more (bound + 1) old new k) (omega arith) (subst (λ l. Progress more (bound + 1) old l (n + 1)) (sym same) (progress_missed w.0 w.1 fresh m))
        progress_on fresh new b (added w met grown only there none) =
            subst (λ (k : ℕ). Progress more (bound + 1) old new k) (omega arith) (progress_added w.0 w.1 fresh met new grown only there)

  -- one more opening of the row is passed
  pub progress_at : (row : List Opening) (k : ℕ) (old mid new : List Item) (n b : ℕ) → HasOpenings d ask.sort row → k < length row →
      Progress (take k row) k old mid n →
      AddsOrCounts (IsNewLevel ask before (get_or row k no_opening).level) (IsMissed tokens (option_map (symbol (literal_texts d)) (get_or row k no_opening).first) ask.place)
      (beginning (get_or row k no_opening).head ask.place) mid new b →
      Progress (take (k + 1) row) (k + 1) old new (n + b)
  progress_at row k old mid new n b has low so_far begins =
      let o = get_or row k no_opening in
      progress_on o (has.only o (Contains-get_or row k no_opening low)) (take k row) (take (k + 1) row) (take_more row k no_opening low) k old mid n so_far
      (fresh_by (λ (x : Opening). x.head) row k o has.once (slice_get-get_or row k no_opening low)) new b begins

  -- what is wanted begins with an opening of the row
  wanted_from : (row : List Opening) → HasOpenings d ask.sort row → (i : Item) → Wanted i → IsFrom row i
  wanted_from row has i w = has.every i.head ask.least w.0.0

  -- the first symbol of an opening of the row
  pub row_below : (row : List Opening) (k : ℕ) → HasOpenings d ask.sort row → k < length row → IfSome (get_or row k no_opening).first (IsLiteralBelow (length (literal_texts d)))
  row_below row k has low = (has.only (get_or row k no_opening) (Contains-get_or row k no_opening low)).first.below

  -- all openings are passed
  pub progress_all : (row : List Opening) (k : ℕ) (old new : List Item) (n : ℕ) → HasOpenings d ask.sort row → length row ≤ k → k < 2 ^ 63 → Progress (take k row) k old new n →
      Predicts g tokens Wanted old new n
  progress_all row k old new n has all small so_far =
      let p : Progress row k old new n = subst (λ l. Progress l k old new n) (take_all k row all) so_far in
      let from = wanted_from row has in
      record {
        extends = p.extends;
        only = p.only;
        every = λ i w. p.every i w (from i w);
        idle = count_same (λ i. IsIdle g tokens i × Wanted i × IsFrom row i) (λ i. IsIdle g tokens i × Wanted i) n
            (λ i. ((λ h. (h.0, h.1)), (λ h. (h.0, h.1, from i h.1)))) p.idle;
        small = (let few = p.few in omega arith);
      }
