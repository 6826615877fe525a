-- The items that are kept, with the idle ones that are counted.
use Rattle.std.proofs.Common.{◌∙◌, ◌↔◌, sym, Bool, false, true≢false, ◌≡◌, ◌≤◌, ◌<◌, ◌+◌, ◌⊎◌, inl, inr, ⊎_elim, ℕ, List, [], ◌++◌, length, length-append, Contains, subst, arith}
use Rattle.std.specs.Prelude.{IsTrue}
use Rattle.std.proofs.lemmas.Bool.{cases_lt}
use Rattle.std.proofs.lemmas.List.Elements.{Contains-append_left, Contains-append_right, Contains-append_cases}
use Rattle.sx_grammar.specs.Grammar.{Grammar, Token}
use Rattle.sx_grammar.specs.declared.item.Item.{Item}
use Rattle.sx_grammar.specs.Tally.{EachOnce}
use Rattle.sx_grammar.specs.ReadOne.{Holds, MoreHold}
use Rattle.sx_earley.specs.declared.ask.Ask.{Ask}
use Rattle.sx_earley.specs.Growth.{AllNew}
use Rattle.sx_earley.specs.Chart.{IsPredicted, IsIdle, WasAsked, Foresees, AllHold, Treated}
use Rattle.sx_earley.specs.Counted.{IsBusy, IsCount, IsIdleAsked, AllAsked, AsksMore, AreItems}
use Rattle.sx_earley.proofs.Asking.{nothing_asked}
use Rattle.sx_earley.proofs.Closing.{nothing_in, starts_hold, start_holds, prediction_holds, closed_has}
use Rattle.sx_earley.proofs.Counting.{no_more_hold}
use Rattle.sx_earley.proofs.Counts.{count_none, once_both}
use Rattle.sx_earley.proofs.Spanning.{among_there}

-- what is known of the items that are kept, and of so many that are counted
pub record SoFar (g : Grammar) (tokens : List Token) (start : ℕ) (asked : List Ask) (keys : List Item) (n : ℕ) : Type 0 where
  pub sound : AllHold g tokens start keys
  pub right : (i : Item) → WasAsked g asked i → Holds g tokens start i
  pub busy : (i : Item) → Contains keys i → IsIdle g tokens i → ⊥
  pub starts : (i : Item) → IsPredicted g start 0 0 i → WasAsked g asked i
  pub asked_there : AllAsked g tokens asked keys
  pub count : IsCount (IsIdleAsked g tokens asked) n

module _ (g : Grammar) (tokens : List Token) (start : ℕ) where
  -- what begins is predicted
  pub so_far_first : (none asks : List Ask) (nothing keys : List Item) (n : ℕ) → none ≡ [] → nothing ≡ [] → AllNew nothing keys (IsBusy g tokens (IsPredicted g start 0 0)) →
      AllAsked g tokens asks keys → AsksMore g tokens (IsPredicted g start 0 0) none asks n → SoFar g tokens start asks keys n
  so_far_first none asks nothing keys n no_ask no_key only asked_there more = record {
    sound = starts_hold g tokens start nothing keys no_key only;
    right = λ i a. ⊎_elim (λ was. absurd (nothing_asked g tokens none no_ask i was)) (λ p. start_holds g tokens start i p) ((more.asks i).0 a);
    busy = λ i there. ⊎_elim (λ was. absurd (nothing_in nothing i no_key was)) (λ p. p.1) (only i there);
    starts = λ i p. (more.asks i).1 (inr p);
    asked_there = asked_there;
    count = let e : 0 + n ≡ n = omega arith in subst (IsCount (IsIdleAsked g tokens asks)) e
        (more.idle 0 (count_none (IsIdleAsked g tokens none) (λ i c. nothing_asked g tokens none no_ask i c.1)));
  }

  module _ (asked : List Ask) (keys : List Item) (n : ℕ) (so : SoFar g tokens start asked keys n) where
    -- one item is treated
    pub so_far_on : (item : Item) → Contains keys item → (asks : List Ask) (new : List Item) (m : ℕ) → AllHold g tokens start new →
        ((i : Item) → Contains new i → IsIdle g tokens i → ⊥) → AllAsked g tokens asks new → AsksMore g tokens (Foresees g item) asked asks m → SoFar g tokens start asks new (n + m)
    so_far_on item here asks new m sound busy asked_there more = record {
      sound = sound;
      right = λ i a. ⊎_elim (λ was. so.right i was) (λ f. prediction_holds g tokens start item i (so.sound item here) f) ((more.asks i).0 a);
      busy = busy;
      starts = λ i p. (more.asks i).1 (inl (so.starts i p));
      asked_there = asked_there;
      count = more.idle n so.count;
    }

    abbrev others : List Item
    others = so.count.0

    long : length (keys ++ others) ≡ length keys + n
    long = let many : length others ≡ n = so.count.3 in omega (arith, length-append keys others)

    others_hold : (i : Item) → Contains others i → Holds g tokens start i
    others_hold i there = so.right i ((so.count.2 i).0 there).1

    -- so many hold
    pub too_many : (limit : ℕ) → limit < length keys + n → EachOnce keys → MoreHold g tokens start limit
    too_many limit more once = (
      keys ++ others,
      (let same = long in omega arith),
      once_both keys others once so.count.1 (λ x p q. so.busy x (among_there x keys p) ((so.count.2 x).0 (among_there x others q)).0),
      (λ i there. ⊎_elim (λ kept. so.sound i kept) (λ other. others_hold i other) (Contains-append_cases keys others i there)),
    )

    module _ (closed : Treated g tokens keys asked keys) where
      met : (i : Item) → Holds g tokens start i → Contains keys i ⊎ IsIdleAsked g tokens asked i
      met i holds = closed_has g tokens start asked keys so.starts so.asked_there closed holds

      -- no more hold
      pub few_enough : (limit : ℕ) → length keys + n ≤ limit → MoreHold g tokens start limit → ⊥
      few_enough limit few = no_more_hold g tokens start (keys ++ others) limit (let same = long in omega arith)
          (λ i holds. ⊎_elim (λ kept. Contains-append_left keys others i kept) (λ c. Contains-append_right keys others i ((so.count.2 i).1 c)) (met i holds))

      pub items_are : AreItems g tokens start keys
      items_are = record {
        others = others;
        idle = λ i there. ((so.count.2 i).0 there).0;
        all = λ i. (
          (λ h. ⊎_elim (λ kept. so.sound i kept) (λ other. others_hold i other) h),
          (λ holds. ⊎_elim (λ kept. inl kept) (λ c. inr ((so.count.2 i).1 c)) (met i holds)),
        );
      }

-- where they are not too many, they are few
pub not_too_many : (keys : List Item) (n : ℕ) (b : Bool) → IsTrue b ↔ (2000000 < length keys + n) → b ≡ false → length keys + n ≤ 2000000
not_too_many keys n b is less = ⊎_elim (λ many. absurd (true≢false (sym (is.1 many) ∙ less))) (λ few. few) (cases_lt 2000000 (length keys + n))
