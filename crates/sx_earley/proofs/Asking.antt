-- What has been asked for.
use Rattle.std.proofs.Common.{◌≡◌, ◌∙◌, ◌≤◌, ◌<◌, ◌^◌, ◌+◌, ◌⊎◌, inl, inr, sym, subst, ⊎_elim, ℕ, List, [], ◌∷◌, ◌++◌, Option, Some, None, IfSome, Contains, arith}
use Rattle.std.proofs.lemmas.List.Elements.{Contains-push_cases, Contains-append_left, Contains-push}
use Rattle.std.proofs.lemmas.Bool.{cases_lt}
use Rattle.sx_grammar.specs.Grammar.{Grammar, Token, Production, production_of}
use Rattle.sx_grammar.specs.declared.item.Item.{Item}
use Rattle.sx_earley.specs.declared.ask.Ask.{Ask}
use Rattle.sx_earley.specs.Growth.{GoesOnFrom}
use Rattle.sx_earley.specs.AskSet.{ask_hash, IsBeside, IsLevelReached, IsLeastLevel, IsOfSortFrom}
use Rattle.sx_slots.specs.Mixed.{mixed_with, folded}
use Rattle.sx_earley.specs.Chart.{IsOfSort, IsPredicted, IsIdle, WasAsked}
use Rattle.sx_earley.specs.Counted.{IsCount, IsIdleAsked, IsNewlyAsked, AllAsked, AsksMore}
use Rattle.sx_earley.proofs.Growth.{still_there}
use Rattle.sx_earley.proofs.Counts.{count_both}

-- what is asked for at the same sort and place has the same hash
pub same_hash : (x y : Ask) → IsBeside x y → ask_hash x ≡ ask_hash y
same_hash x y h = (λ i. folded (mixed_with (h.1 i) (h.0 i)))

-- a production is of one sort
one_sort : (o : Option Production) (a b m n : ℕ) → IsOfSort o a m → IsOfSort o b n → a ≡ b
one_sort None a b m n h k = absurd h
one_sort (Some p) a b m n h k = sym h.0 ∙ k.0

lower_level : (o : Option Production) (sort m n : ℕ) → m ≤ n → IsOfSort o sort n → IsOfSort o sort m
lower_level None sort m n le is = absurd is
lower_level (Some p) sort m n le is = (is.0, (let high = is.1 in omega arith))

-- it is of the level that was asked for before, or not
from_or_not : (o : Option Production) (sort least : ℕ) (before : Option ℕ) → IsOfSort o sort least → IsOfSortFrom o sort before ⊎ (IsOfSortFrom o sort before → ⊥)
from_or_not None sort least before is = absurd is
from_or_not (Some p) sort least None is = inr (λ h. h)
from_or_not (Some p) sort least (Some m) is = ⊎_elim (λ low. inr (λ h. let high = h.1 in omega arith)) (λ high. inl (is.0, high)) (cases_lt p.level m)

reached_from : (o : Option Production) (sort : ℕ) (before : Option ℕ) (level : ℕ) → IsLevelReached before level → IsOfSort o sort level → IsOfSortFrom o sort before
reached_from o sort None level reached is = absurd reached
reached_from o sort (Some m) level reached is = lower_level o sort m level reached is

module _ (g : Grammar) (asked : List Ask) (ask : Ask) where
  abbrev Wanted : Item → Type 0
  Wanted = IsPredicted g ask.sort ask.least ask.place

  -- what begins from the level that was asked for before was asked for
  asked_from : (before : Option ℕ) → IfSome before (λ m. (other : Ask) × Contains asked other × IsBeside other ask × (other.least ≡ m)) →
      (i : Item) → Wanted i → IsOfSortFrom (production_of g i.head) ask.sort before → WasAsked g asked i
  asked_from None some i w from = absurd from
  asked_from (Some m) some i w from = (
    some.0,
    some.1,
    (
      subst (λ (n : ℕ). IsOfSort (production_of g i.head) some.0.sort n) (sym some.3)
          (subst (λ (s : ℕ). IsOfSort (production_of g i.head) s m) (sym some.2.1) from),
      w.1,
      w.2 ∙ sym some.2.0,
      w.3 ∙ sym some.2.0,
    ),
  )

  module _ (before : Option ℕ) (least : IsLeastLevel asked ask before) where
    was_asked : (i : Item) → Wanted i → IsOfSortFrom (production_of g i.head) ask.sort before → WasAsked g asked i
    was_asked = asked_from before least.some

    -- what was asked for before is of that level
    from_asked : (i : Item) → WasAsked g asked i → Wanted i → IsOfSortFrom (production_of g i.head) ask.sort before
    from_asked i a w =
        let o = production_of g i.head in
        let sorts : a.0.sort ≡ ask.sort = one_sort o a.0.sort ask.sort a.0.least ask.least a.2.0 w.0 in
        let places : a.0.place ≡ ask.place = sym a.2.2 ∙ w.2 in
        reached_from o ask.sort before a.0.least (least.bound a.0 a.1 (places, sorts)) (subst (λ (s : ℕ). IsOfSort o s a.0.least) sorts a.2.0)

    module _ (tokens : List Token) where
      -- all of it was asked for before
      pub asks_none : IsLevelReached before ask.least → AsksMore g tokens Wanted asked asked 0
      asks_none reached = record {
        asks = λ i. ((λ a. inl a), (λ h. ⊎_elim (λ a. a) (λ w. was_asked i w (reached_from (production_of g i.head) ask.sort before ask.least reached w.0)) h));
        idle = λ m c. let e : m ≡ m + 0 = omega arith in subst (λ (n : ℕ). IsCount (IsIdleAsked g tokens asked) n) e c;
        small = omega arith;
      }

      module _ (more : List Ask) (is : more ≡ asked ++ ask ∷ []) where
        one_more : (i : Item) → WasAsked g more i → WasAsked g asked i ⊎ Wanted i
        one_more i a = ⊎_elim (λ was. inl (a.0, was, a.2)) (λ e. inr (subst (λ (x : Ask). IsPredicted g x.sort x.least x.place i) (sym e) a.2))
            (Contains-push_cases asked ask a.0 (subst (λ (l : List Ask). Contains l a.0) is a.1))

        also_more : (i : Item) → WasAsked g asked i ⊎ Wanted i → WasAsked g more i
        also_more i (inl a) = (a.0, subst (λ (l : List Ask). Contains l a.0) (sym is) (Contains-append_left asked (ask ∷ []) a.0 a.1), a.2)
        also_more i (inr w) = (ask, subst (λ (l : List Ask). Contains l ask) (sym is) (Contains-push asked ask), w)

        -- it was asked for before, or is new
        was_or_new : (i : Item) → WasAsked g more i → WasAsked g asked i ⊎ IsNewlyAsked g ask before i
        was_or_new i a = ⊎_elim (λ was. inl was)
            (λ w. ⊎_elim (λ from. inl (was_asked i w from)) (λ new. inr (w, new)) (from_or_not (production_of g i.head) ask.sort ask.least before w.0))
            (one_more i a)

        -- one more is asked for
        pub asks_one : (n : ℕ) → n < 2 ^ 63 → IsCount (λ i. IsIdle g tokens i × IsNewlyAsked g ask before i) n → AsksMore g tokens Wanted asked more n
        asks_one n small count = record {
          asks = λ i. (one_more i, also_more i);
          idle = λ m c. count_both (IsIdleAsked g tokens asked) (λ i. IsIdle g tokens i × IsNewlyAsked g ask before i) (IsIdleAsked g tokens more) m n
              (λ i p q. q.1.1 (from_asked i p.1 q.1.0))
              (λ i. (
                (λ r. ⊎_elim (λ a. inl (r.0, a)) (λ new. inr (r.0, new)) (was_or_new i r.1)),
                (λ h. ⊎_elim (λ p. (p.0, also_more i (inl p.1))) (λ q. (q.0, also_more i (inr q.1.0))) h),
              ))
              c count;
          small = small;
        }

        pub asked_more : (old new : List Item) → GoesOnFrom old new → AllAsked g tokens asked old → ((i : Item) → IsNewlyAsked g ask before i → Contains new i ⊎ IsIdle g tokens i) →
            AllAsked g tokens more new
        asked_more old new grown all every i a = ⊎_elim
            (λ was. ⊎_elim (λ there. inl (still_there old new i grown there)) (λ idle. inr idle) (all i was))
            (λ here. every i here)
            (was_or_new i a)

module _ (g : Grammar) (tokens : List Token) where
  -- what has been asked for stays so where the items grow
  pub asked_on : (asked : List Ask) (old new : List Item) → GoesOnFrom old new → AllAsked g tokens asked old → AllAsked g tokens asked new
  asked_on asked old new grown all i a = ⊎_elim (λ there. inl (still_there old new i grown there)) (λ idle. inr idle) (all i a)

  pub nothing_asked : (asked : List Ask) → asked ≡ [] → (i : Item) → WasAsked g asked i → ⊥
  nothing_asked asked none i a = let h : Contains [] a.0 = subst (λ (l : List Ask). Contains l a.0) none a.1 in let low = h.1 in omega arith

  pub asked_none : (asked : List Ask) (keys : List Item) → asked ≡ [] → AllAsked g tokens asked keys
  asked_none asked keys none i a = absurd (nothing_asked asked none i a)

  -- what is wanted may be told otherwise
  pub asks_as : (P Q : Item → Type 0) (old new : List Ask) (n : ℕ) → ((i : Item) → P i → Q i) → ((i : Item) → Q i → P i) → AsksMore g tokens P old new n → AsksMore g tokens Q old new n
  asks_as P Q old new n to from a = record {
    asks = λ i. (
      (λ there. ⊎_elim (λ was. inl was) (λ p. inr (to i p)) ((a.asks i).0 there)),
      (λ h. (a.asks i).1 (⊎_elim (λ was. inl was) (λ q. inr (from i q)) h)),
    );
    idle = a.idle;
    small = a.small;
  }

  -- nothing is wanted
  pub asks_nothing : (P : Item → Type 0) (asked : List Ask) → ((i : Item) → P i → ⊥) → AsksMore g tokens P asked asked 0
  asks_nothing P asked none = record {
    asks = λ i. ((λ a. inl a), (λ h. ⊎_elim (λ a. a) (λ p. absurd (none i p)) h));
    idle = λ m c. let e : m ≡ m + 0 = omega arith in subst (λ (n : ℕ). IsCount (IsIdleAsked g tokens asked) n) e c;
    small = omega arith;
  }
