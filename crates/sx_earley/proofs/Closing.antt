use Rattle.std.proofs.Common.{◌≡◌, ℕ, zero, suc, ◌+◌, ◌≤◌, List, [], ◌∷◌, ◌++◌, ◌⊎◌, inl, inr, ⊎_elim, sym, subst, refl, ap, ◌∙◌, length, take, get_or, Contains, Option, Some, None, arith, add-one}
use Rattle.std.specs.List.{slice_get}
use Rattle.std.proofs.lemmas.Option.{same_Some, none-some, some_pair_parts, slice_get-get_or}
use Rattle.std.proofs.lemmas.Bool.{cases_lt}
use Rattle.sx_earley.proofs.Joining.{no_item}
use Rattle.std.proofs.lemmas.List.Elements.{Contains-push_cases, Contains-append_left, Contains-append_right, Contains-push}
use Rattle.sx_grammar.specs.Grammar.{Symbol, literal, lexical, part, Production, Grammar, Token}
use Rattle.sx_grammar.specs.Grammar.{production_of}
use Rattle.sx_grammar.specs.declared.head.Head.{Head}
use Rattle.sx_grammar.specs.Items as items
use Rattle.sx_grammar.specs.Items.{ReadsToken, Makes, NextIs, AtEnd, started, predicted, scanned}
use Rattle.sx_grammar.specs.Items.{completed}
use Rattle.sx_grammar.specs.declared.item.Item.{Item}
use Rattle.sx_earley.specs.Growth.{GoesOnFrom, AllNew}
use Rattle.sx_earley.specs.Chart.{Foresees, FollowsFrom, by_prediction, by_scanning, by_filling}
use Rattle.sx_earley.specs.Chart.{by_waiting, AllFollow, Joins, ReadsNext, next_symbol}
use Rattle.sx_earley.specs.Chart.{symbol_after, as_part, IsOfSort, HasDotAtEnd, IsPredicted, moved}
use Rattle.sx_earley.specs.Chart.{beginning, Treated, WasAsked}
use Rattle.sx_earley.specs.Counted.{AllAsked, IsBusy, IsIdleAsked}
use Rattle.sx_earley.specs.declared.ask.Ask.{Ask}
use Rattle.sx_grammar.specs.ReadOne.{Holds}
use Rattle.sx_earley.proofs.Growth.{still_there}
use Rattle.sx_earley.proofs.Waiting.{there_is}
use Rattle.sx_earley.proofs.Idling.{idle_waits, idle_open, idle_unread}

-- the symbol whose part this is
pub part_is : (o : Option Symbol) (sort least : ℕ) → as_part o ≡ Some (sort, least) → o ≡ Some (part sort least)
part_is None sort least e = absurd (none-some (sort, least) e)
part_is (Some (literal text)) sort least e = absurd (none-some (sort, least) e)
part_is (Some (lexical kind)) sort least e = absurd (none-some (sort, least) e)
part_is (Some (part s m)) sort least e =
    let p = some_pair_parts s sort m least e in ap (λ x. Some (part x m)) p.0 ∙ ap (λ y. Some (part sort y)) p.1

symbol_there : (o : Option Production) (dot : ℕ) (symbol : Symbol) → symbol_after o dot ≡ Some symbol → (p : Production) × (o ≡ Some p) × (slice_get p.symbols dot ≡ Some symbol)
symbol_there None dot symbol e = absurd (none-some symbol e)
symbol_there (Some p) dot symbol e = (p, refl, e)

module _ (g : Grammar) where
  next_is : (head : Head) (dot : ℕ) (symbol : Symbol) → next_symbol g head dot ≡ Some symbol → NextIs g head dot symbol
  next_is head dot symbol e = symbol_there (production_of g head) dot symbol e

  pub is_next : (head : Head) (dot : ℕ) (symbol : Symbol) → NextIs g head dot symbol → next_symbol g head dot ≡ Some symbol
  is_next head dot symbol n = ap (λ o. symbol_after o dot) n.1 ∙ n.2

  makes_is : (head : Head) (sort least : ℕ) → IsOfSort (production_of g head) sort least → Makes g head sort least
  makes_is head sort least h = let p = there_is (production_of g head) sort least h in record { production = p.0; is = p.1; same_sort = p.2; reaches = p.3 }

  is_of_sort : (head : Head) (sort least : ℕ) → Makes g head sort least → IsOfSort (production_of g head) sort least
  is_of_sort head sort least m = subst (λ o. IsOfSort o sort least) (sym m.is) (m.same_sort, m.reaches)

  pub ends_there : (o : Option Production) (dot : ℕ) → HasDotAtEnd o dot → (p : Production) × (o ≡ Some p) × (length p.symbols ≡ dot)
  ends_there None dot h = absurd h
  ends_there (Some p) dot h = (p, refl, h)

  pub ends_is : (head : Head) (dot : ℕ) → AtEnd g head dot → HasDotAtEnd (production_of g head) dot
  ends_is head dot a = subst (λ o. HasDotAtEnd o dot) (sym a.1) a.2

  reads_there : (tokens : List Token) (o : Option Symbol) (place : ℕ) → ReadsNext tokens o place → (symbol : Symbol) × (o ≡ Some symbol) × ReadsToken tokens symbol place
  reads_there tokens None place h = absurd h
  reads_there tokens (Some symbol) place h = (symbol, refl, h)

module _ (g : Grammar) (tokens : List Token) (start : ℕ) where
  pub start_holds : (i : Item) → IsPredicted g start 0 0 i → Holds g tokens start i
  start_holds i p = rw (p.1, p.2, p.3) (started (makes_is g i.head start 0 p.0))

  pub prediction_holds : (item i : Item) → Holds g tokens start item → Foresees g item i → Holds g tokens start i
  prediction_holds item i h f =
      let next = next_is g item.head item.dot (part f.sort f.least) (part_is (next_symbol g item.head item.dot) f.sort f.least f.waits) in
      rw (f.fits.1, f.fits.2, f.fits.3) (predicted h next (makes_is g i.head f.sort f.least f.fits.0))

  scan_holds : (item : Item) → Holds g tokens start item → ReadsNext tokens (next_symbol g item.head item.dot) item.end → Holds g tokens start (moved item (item.end + 1))
  scan_holds item h r =
      let s = reads_there g tokens (next_symbol g item.head item.dot) item.end r in
      simp add-one (scanned h (next_is g item.head item.dot s.0 s.1) s.2)

  join_holds : (before filling : Item) → Holds g tokens start before → Holds g tokens start filling → Joins g before filling → Holds g tokens start (moved before filling.end)
  join_holds before filling h k j =
      let next = next_is g before.head before.dot (part j.sort j.least) (part_is (next_symbol g before.head before.dot) j.sort j.least j.waits) in
      let inside : items.Item g tokens start filling.head filling.dot before.end filling.end = subst (λ o. items.Item g tokens start filling.head filling.dot o filling.end) (sym j.meets) k in
      simp add-one (completed h next inside (makes_is g filling.head j.sort j.least j.fits) (ends_there g (production_of g filling.head) filling.dot j.complete))

  -- what follows from items that hold holds
  pub follows_hold : (IsBefore IsFilling : Item → Type 0) (item : Item) → Holds g tokens start item → ((x : Item) → IsBefore x → Holds g tokens start x) →
      ((x : Item) → IsFilling x → Holds g tokens start x) → (i : Item) → FollowsFrom g tokens IsBefore IsFilling item i → Holds g tokens start i
  follows_hold IsBefore IsFilling item h all every i (by_prediction f busy) = prediction_holds item i h f
  follows_hold IsBefore IsFilling item h all every i (by_scanning r e) = subst (Holds g tokens start) (sym e) (scan_holds item h r)
  follows_hold IsBefore IsFilling item h all every i (by_filling j) =
      subst (Holds g tokens start) (sym j.5) (join_holds j.0 j.1 (all j.0 j.2) (subst (Holds g tokens start) (sym j.3) h) j.4)
  follows_hold IsBefore IsFilling item h all every i (by_waiting j) =
      subst (Holds g tokens start) (sym j.5) (join_holds j.0 j.1 (subst (Holds g tokens start) (sym j.2) h) (every j.1 j.3) j.4)

  -- one more item has been treated
  pub treated_more : (done : List Item) (item : Item) (asked asks : List Ask) (keys more : List Item) (IsBefore IsFilling : Item → Type 0) → GoesOnFrom keys more →
      ((i : Item) → WasAsked g asked i → WasAsked g asks i) → Treated g tokens done asked keys →
      AllFollow g tokens IsBefore IsFilling item asks more → ((x : Item) → Contains (done ++ item ∷ []) x → Joins g x item → IsBefore x) →
      ((x : Item) → Contains (done ++ item ∷ []) x → Joins g item x → IsFilling x) → Treated g tokens (done ++ item ∷ []) asks more
  treated_more done item asked asks keys more IsBefore IsFilling grown still t f has_before has_filling = record {
    predictions = λ x there i foresees. by_prediction_of x (Contains-push_cases done item x there) i foresees;
    scanned = λ x there reads. by_scan_of x (Contains-push_cases done item x there) reads;
    joined = λ before filling there there' joins. by_join_of before filling there there' (Contains-push_cases done item before there) (Contains-push_cases done item filling there') joins;
  }
    where
      by_prediction_of : (x : Item) → Contains done x ⊎ (item ≡ x) → (i : Item) → Foresees g x i → WasAsked g asks i
      by_prediction_of x (inl old) i foresees = still i (t.predictions x old i foresees)
      by_prediction_of x (inr e) i foresees = f.predictions i (subst (λ y. Foresees g y i) (sym e) foresees)

      by_scan_of : (x : Item) → Contains done x ⊎ (item ≡ x) → ReadsNext tokens (next_symbol g x.head x.dot) x.end → Contains more (moved x (x.end + 1))
      by_scan_of x (inl old) reads = still_there keys more (moved x (x.end + 1)) grown (t.scanned x old reads)
      by_scan_of x (inr e) reads =
          subst (λ y. Contains more (moved y (y.end + 1))) e (f.scanned (subst (λ y. ReadsNext tokens (next_symbol g y.head y.dot) y.end) (sym e) reads))

      by_join_of : (before filling : Item) → Contains (done ++ item ∷ []) before → Contains (done ++ item ∷ []) filling → Contains done before ⊎ (item ≡ before) → Contains done filling ⊎ (item ≡ filling) → Joins g before filling → Contains more (moved before filling.end)
      by_join_of before filling a b (inl old) (inl old') joins = still_there keys more (moved before filling.end) grown (t.joined before filling old old' joins)
      by_join_of before filling a b (inr e) c joins =
          let now = subst (λ y. Joins g y filling) (sym e) joins in
          subst (λ y. Contains more (moved y filling.end)) e (f.filling filling (has_filling filling b now) now)
      by_join_of before filling a b (inl old) (inr e) joins =
          let now = subst (λ y. Joins g before y) (sym e) joins in
          subst (λ y. Contains more (moved before y.end)) e (f.filled before (has_before before a now) now)

  -- what follows from what is asked for and closed has every item that holds, but for idle ones, which were asked for
  module _ (asked : List Ask) (keys : List Item) (starts : (i : Item) → IsPredicted g start 0 0 i → WasAsked g asked i) (all : AllAsked g tokens asked keys)
      (t : Treated g tokens keys asked keys) where
    abbrev Met : Item → Type 0
    Met i = Contains keys i ⊎ IsIdleAsked g tokens asked i

    met : (i : Item) → WasAsked g asked i → Met i
    met i a = ⊎_elim (λ there. inl there) (λ idle. inr (idle, a)) (all i a)

    -- an item that something follows from is not idle
    kept_waiting : (i : Item) (sort least : ℕ) → as_part (next_symbol g i.head i.dot) ≡ Some (sort, least) → Met i → Contains keys i
    kept_waiting i sort least e h = ⊎_elim (λ there. there) (λ c. absurd (idle_waits g tokens i c.0 sort least e)) h

    kept_reading : (i : Item) → ReadsNext tokens (next_symbol g i.head i.dot) i.end → Met i → Contains keys i
    kept_reading i r h = ⊎_elim (λ there. there) (λ c. absurd (idle_unread g tokens i c.0 r)) h

    kept_complete : (i : Item) → HasDotAtEnd (production_of g i.head) i.dot → Met i → Contains keys i
    kept_complete i ends h = ⊎_elim (λ there. there) (λ c. absurd (idle_open g tokens i c.0 ends)) h

    pub closed_has : {head : Head} {dot origin end : ℕ} → items.Item g tokens start head dot origin end →
        Contains keys (record { head = head; dot = dot; origin = origin; end = end }) ⊎ IsIdleAsked g tokens asked (record { head = head; dot = dot; origin = origin; end = end })
    closed_has (started {head = head} makes) = met (beginning head 0) (starts (beginning head 0) (is_of_sort g head start 0 makes, refl, refl, refl))
    closed_has (predicted {head = head} {other = other} {dot = dot} {origin = origin} {end = end} {sort = sort} {least = least} item next makes) =
        let at : Item = record { head = head; dot = dot; origin = origin; end = end } in
        let waits : as_part (next_symbol g head dot) ≡ Some (sort, least) = ap as_part (is_next g head dot (part sort least) next) in
        met (beginning other end) (t.predictions at (kept_waiting at sort least waits (closed_has item)) (beginning other end)
        (record { sort = sort; least = least; waits = waits; fits = (is_of_sort g other sort least makes, refl, refl, refl) }))
    closed_has (scanned {head = head} {dot = dot} {origin = origin} {end = end} {symbol = symbol} item next reads) =
        let at : Item = record { head = head; dot = dot; origin = origin; end = end } in
        let read : ReadsNext tokens (next_symbol g head dot) end = subst (λ o. ReadsNext tokens o end) (sym (is_next g head dot symbol next)) reads in
        inl (simp add-one at (t.scanned at (kept_reading at read (closed_has item)) read))
    closed_has (completed {head = head} {other = other} {dot = dot} {full = full} {origin = origin} {middle = middle} {end = end} {sort = sort} {least = least} item next inner makes full_is) =
        let before : Item = record { head = head; dot = dot; origin = origin; end = middle } in
        let filling : Item = record { head = other; dot = full; origin = middle; end = end } in
        let waits : as_part (next_symbol g head dot) ≡ Some (sort, least) = ap as_part (is_next g head dot (part sort least) next) in
        let complete : HasDotAtEnd (production_of g other) full = ends_is g other full full_is in
        inl (simp add-one at (t.joined before filling (kept_waiting before sort least waits (closed_has item)) (kept_complete filling complete (closed_has inner))
        (record {
          sort = sort;
          least = least;
          waits = waits;
          fits = is_of_sort g other sort least makes;
          complete = complete;
          meets = refl;
        })))

  -- nothing has been treated yet
  pub treated_none : (done : List Item) (asked : List Ask) (keys : List Item) → done ≡ [] → Treated g tokens done asked keys
  treated_none done asked keys none = record {
    predictions = λ x there. absurd (empty x there);
    scanned = λ x there. absurd (empty x there);
    joined = λ x y there. absurd (empty x there);
  }
    where
      empty : (x : Item) → Contains done x → ⊥
      empty x there = let h : Contains [] x = subst (λ l. Contains l x) none there in let low = h.1 in omega arith

  pub starts_hold : (old keys : List Item) → old ≡ [] → AllNew old keys (IsBusy g tokens (IsPredicted g start 0 0)) → (i : Item) → Contains keys i → Holds g tokens start i
  starts_hold old keys none only i there = ⊎_elim (λ was. absurd (empty was)) (λ p. start_holds i p.0) (only i there)
    where
      empty : Contains old i → ⊥
      empty was = let h : Contains [] i = subst (λ l. Contains l i) none was in let low = h.1 in omega arith

  pub more_hold : (old keys : List Item) (IsBefore IsFilling : Item → Type 0) (item : Item) → ((i : Item) → Contains old i → Holds g tokens start i) → Holds g tokens start item →
      ((x : Item) → IsBefore x → Holds g tokens start x) → ((x : Item) → IsFilling x → Holds g tokens start x) →
      AllNew old keys (FollowsFrom g tokens IsBefore IsFilling item) → (i : Item) → Contains keys i → Holds g tokens start i
  more_hold old keys IsBefore IsFilling item sound h all every only i there = ⊎_elim (λ was. sound i was) (λ f. follows_hold IsBefore IsFilling item h all every i f) (only i there)

-- the element at a place is in the list
pub there_at : (xs : List Item) (n : ℕ) (x : Item) → slice_get xs n ≡ Some x → Contains xs x
there_at [] n x e = absurd (none-some x e)
there_at (y ∷ xs) zero x e = subst (Contains (y ∷ xs)) (same_Some y x e) (Contains-append_left (y ∷ []) xs y (Contains-push [] y))
there_at (y ∷ xs) (suc n) x e = Contains-append_right (y ∷ []) xs x (there_at xs n x e)

-- one more element of the front, also of a list that has grown
pub front_on : (xs more : List Item) (n : ℕ) (x : Item) → slice_get xs n ≡ Some x → take n xs ++ x ∷ [] ≡ take (suc n) (xs ++ more)
front_on [] more n x e = absurd (none-some x e)
front_on (y ∷ xs) more zero x e = ap (λ v. v ∷ []) (sym (same_Some y x e))
front_on (y ∷ xs) more (suc n) x e = ap (λ v. y ∷ v) (front_on xs more n x e)

pub front_more : (keys new : List Item) (n : ℕ) (x : Item) → GoesOnFrom keys new → slice_get keys n ≡ Some x → take n keys ++ x ∷ [] ≡ take (n + 1) new
front_more keys new n x grown e = rw (add-one, grown.1) (front_on keys grown.0 n x e)

-- where there is no element, the list has ended
pub ended : (xs : List Item) (n : ℕ) → None ≡ slice_get xs n → length xs ≤ n
ended xs n e = ⊎_elim (λ low. absurd (none-some (get_or xs n no_item) (e ∙ slice_get-get_or xs n no_item low))) (λ long. long) (cases_lt n (length xs))

pub nothing_in : {X : Type 0} (l : List X) (x : X) → l ≡ [] → Contains l x → ⊥
nothing_in l x none there = let h : Contains [] x = subst (λ m. Contains m x) none there in let low = h.1 in omega arith

pub empty_front : {X : Type 0} (keys : List X) → take 0 keys ≡ []
empty_front [] = refl
empty_front (x ∷ xs) = refl
