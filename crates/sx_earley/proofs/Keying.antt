-- Items by the keys under which they are filed.
use Rattle.std.proofs.Common.{◌≡◌, ◌∙◌, ◌<◌, ◌≤◌, sym, subst, ap, refl, ◌+◌, ⊎_elim, ℕ, List, [], ◌∷◌, ◌++◌, length, get_or, Contains, Option, Some, None, arith, length-append, inl, inr}
use Rattle.std.specs.List.{slice_get}
use Rattle.std.proofs.lemmas.Option.{slice_get_within}
use Rattle.std.proofs.lemmas.List.{get_or_append_left, get_or_push}
use Rattle.std.proofs.lemmas.List.Elements.{Contains-push_cases}
use Rattle.sx_grammar.specs.Grammar.{Grammar, Production, production_of}
use Rattle.sx_grammar.specs.declared.item.Item.{Item}
use Rattle.sx_earley.specs.Growth.{GoesOnFrom}
use Rattle.sx_earley.specs.Chart.{IsOfSort, HasDotAtEnd, sort_made, as_part, symbol_after, Joins}
use Rattle.sx_earley.specs.Dotted.{WaitsFor, HasMade}
use Rattle.sx_earley.specs.Keys.{waiting_key, complete_key, before_key, filling_key, own_key, IsKey}
use Rattle.sx_earley.specs.Keys.{of_waiting, of_complete, IsAddedTo, AreNumbersWithin, IsFiled, IsKeyed}
use Rattle.sx_earley.specs.declared.filed.Filed.{Filed}
use Rattle.std.proofs.lemmas.Bool.{cases_lt}
use Rattle.sx_earley.proofs.Closing.{part_is, there_at}
use Rattle.sx_earley.proofs.Numbering.{got_earlier, got_later}

-- what is of a sort makes it
makes_sort : (o : Option Production) (sort least : ℕ) → IsOfSort o sort least → sort_made o ≡ Some sort
makes_sort None sort least h = absurd h
makes_sort (Some p) sort least h = ap (λ s. Some s) h.0

-- where a part stands after the dot, it is not at the end
not_ended : (o : Option Production) (dot sort least : ℕ) → as_part (symbol_after o dot) ≡ Some (sort, least) → HasDotAtEnd o dot → ⊥
not_ended None dot sort least e h = absurd h
not_ended (Some p) dot sort least e h =
    let low : dot < length p.symbols = slice_get_within p.symbols dot _ (part_is (slice_get p.symbols dot) sort least e) in
    let same : length p.symbols ≡ dot = h in
    absurd (omega arith)

-- an item has no other key
pub own_is : (g : Grammar) (item : Item) (part : Option (ℕ × ℕ)) (made : Option ℕ) → WaitsFor g item part → HasMade g item made →
    (key : ℕ) → IsKey g item key → own_key item part made ≡ Some key
own_is g item part made waits has key (of_waiting sort least w e) =
    ap (λ (o : Option (ℕ × ℕ)). own_key item o made) (waits.is ∙ w) ∙ ap (λ k. Some k) (sym e)
own_is g item part made waits has key (of_complete sort ends m e) = by part refl
  where
    by : (o : Option (ℕ × ℕ)) → part ≡ o → own_key item part made ≡ Some key
    by None p = ap (λ (o : Option (ℕ × ℕ)). own_key item o made) p ∙ ap (own_key item None) (has sort ends m) ∙ ap (λ k. Some k) (sym e)
    by (Some q) p = absurd (not_ended (production_of g item.head) item.dot q.0 q.1 (sym waits.is ∙ p) ends)

module _ (g : Grammar) (items : List Item) (filed : Filed) (item : Item) where
  -- what waits for a complete item has the key of its origin and sort
  pub before_there : (made : Option ℕ) → HasMade g item made → (x : Item) → Joins g x item → IsFiled g items filed x → IsKeyed items filed (before_key item made) x
  before_there made has x j f =
      let is : made ≡ Some j.sort = has j.sort j.complete (makes_sort (production_of g item.head) j.sort j.least j.fits) in
      subst (λ (o : Option ℕ). IsKeyed items filed (before_key item o) x) (sym is)
      (f (waiting_key item.origin j.sort) (of_waiting j.sort j.least j.waits (ap (λ p. waiting_key p j.sort) (sym j.meets))))

  -- what is complete and of the sort that an item waits for has the key of its end and that sort
  pub filling_there : (part : Option (ℕ × ℕ)) → WaitsFor g item part → (x : Item) → Joins g item x → IsFiled g items filed x → IsKeyed items filed (filling_key item part) x
  filling_there part waits x j f =
      subst (λ (o : Option (ℕ × ℕ)). IsKeyed items filed (filling_key item o) x) (sym (waits.is ∙ j.waits))
      (f (complete_key item.end j.sort) (of_complete j.sort j.complete (makes_sort (production_of g x.head) j.sort j.least j.fits) (ap (λ p. complete_key p j.sort) j.meets)))

module _ (old new : Filed) (number : ℕ) where
  -- what was filed stays so
  kept : (own : Option ℕ) → IsAddedTo own number old new → length old.numbers.items ≡ length old.keys → (items : List Item) (key : ℕ) (x : Item) → IsKeyed items old (Some key) x → IsKeyed items new (Some key) x
  kept None a many items key x h = (
    h.0,
    subst (λ (l : List ℕ). h.0 < length l) (sym a.0) h.1,
    ap (λ l. get_or l h.0 0) a.0 ∙ h.2,
    ap (λ l. slice_get items (get_or l h.0 0)) a.1 ∙ h.3,
  )
  kept (Some k) a many items key x h =
      let low = h.1 in
      let long : length new.keys ≡ length old.keys + 1 = ap length a.0 ∙ length-append old.keys (k ∷ []) in (
        h.0,
        omega arith,
        ap (λ l. get_or l h.0 0) a.0 ∙ get_or_append_left old.keys (k ∷ []) 0 h.0 h.1 ∙ h.2,
        ap (λ l. slice_get items (get_or l h.0 0)) a.1 ∙ ap (slice_get items) (get_or_append_left old.numbers.items (number ∷ []) 0 h.0 (omega arith)) ∙ h.3,
      )

  -- the number is there
  added : (key : ℕ) → IsAddedTo (Some key) number old new → length old.numbers.items ≡ length old.keys → (items : List Item) (item : Item) → slice_get items number ≡ Some item → IsKeyed items new (Some key) item
  added key a many items item at =
      let long : length new.keys ≡ length old.keys + 1 = ap length a.0 ∙ length-append old.keys (key ∷ []) in (
        length old.keys,
        omega arith,
        ap (λ l. get_or l (length old.keys) 0) a.0 ∙ get_or_push old.keys key 0 (length old.keys) refl,
        ap (λ l. slice_get items (get_or l (length old.keys) 0)) a.1 ∙ ap (slice_get items) (get_or_push old.numbers.items number 0 (length old.keys) many) ∙ at,
      )

  -- all that was filed stays so, and one more is filed
  pub filed_on : (g : Grammar) (items : List Item) (own : Option ℕ) (done : List Item) (item : Item) → IsAddedTo own number old new → length old.numbers.items ≡ length old.keys →
      slice_get items number ≡ Some item → ((key : ℕ) → IsKey g item key → own ≡ Some key) → ((x : Item) → Contains done x → IsFiled g items old x) →
      (x : Item) → Contains (done ++ item ∷ []) x → IsFiled g items new x
  filed_on g items own done item a many at is all x there = ⊎_elim
      (λ was key k. kept own a many items key x (all x was key k))
      (λ e. subst (IsFiled g items new) e (λ key k. added key (subst (λ (o : Option ℕ). IsAddedTo o number old new) (is key k) a) many items item at))
      (Contains-push_cases done item x there)

  pub within_on : (own : Option ℕ) (bound : ℕ) → IsAddedTo own number old new → AreNumbersWithin old bound → number < bound → AreNumbersWithin new bound
  within_on None bound a w low = record {
    same = ap length a.1 ∙ w.same ∙ sym (ap length a.0);
    within = λ n l. subst (λ (m : List ℕ). get_or m n 0 < bound) (sym a.1) (w.within n (subst (λ (m : List ℕ). n < length m) a.0 l));
  }
  within_on (Some key) bound a w low =
      let same = w.same in
      let long : length new.keys ≡ length old.keys + 1 = ap length a.0 ∙ length-append old.keys (key ∷ []) in
      let wide : length new.numbers.items ≡ length old.numbers.items + 1 = ap length a.1 ∙ length-append old.numbers.items (number ∷ []) in
      record {
        same = omega arith;
        within = λ n l. subst (λ (m : List ℕ). get_or m n 0 < bound) (sym a.1) (elim (cases_lt n (length old.keys)) [
          | inl b ↦ subst (λ (v : ℕ). v < bound) (sym (get_or_append_left old.numbers.items (number ∷ []) 0 n (omega arith))) (w.within n b)
          | inr b ↦ subst (λ (v : ℕ). v < bound) (sym (get_or_push old.numbers.items number 0 n (omega arith))) low
        ]);
      }

pub within_none : (filed : Filed) (bound : ℕ) → filed.keys ≡ [] → filed.numbers.items ≡ [] → AreNumbersWithin filed bound
within_none filed bound none nothing = record {
  same = ap length nothing ∙ sym (ap length none);
  within = λ n low. let empty : n < 0 = subst (λ (l : List ℕ). n < length l) none low in absurd (omega arith);
}

pub within_longer : (filed : Filed) (bound wider : ℕ) → bound ≤ wider → AreNumbersWithin filed bound → AreNumbersWithin filed wider
within_longer filed bound wider le w = record {
  same = w.same;
  within = λ n l. let low = w.within n l in omega arith;
}

-- items keep their numbers
pub keyed_later : (old new : List Item) (filed : Filed) (key : Option ℕ) (x : Item) → GoesOnFrom old new → IsKeyed old filed key x → IsKeyed new filed key x
keyed_later old new filed None x grown h = absurd h
keyed_later old new filed (Some key) x grown h = (h.0, h.1, h.2, got_later old new (get_or filed.numbers.items h.0 0) x grown h.3)

pub keyed_earlier : (old new : List Item) (filed : Filed) (key : Option ℕ) (x : Item) → GoesOnFrom old new → AreNumbersWithin filed (length old) → IsKeyed new filed key x → IsKeyed old filed key x
keyed_earlier old new filed None x grown w h = absurd h
keyed_earlier old new filed (Some key) x grown w h =
    (h.0, h.1, h.2, got_earlier old new (get_or filed.numbers.items h.0 0) x grown (w.within h.0 h.1) h.3)

pub keyed_there : (items : List Item) (filed : Filed) (key : Option ℕ) (x : Item) → IsKeyed items filed key x → Contains items x
keyed_there items filed None x h = absurd h
keyed_there items filed (Some key) x h = there_at items (get_or filed.numbers.items h.0 0) x h.3

pub filed_later : (g : Grammar) (old new : List Item) (filed : Filed) (x : Item) → GoesOnFrom old new → IsFiled g old filed x → IsFiled g new filed x
filed_later g old new filed x grown f = λ key k. keyed_later old new filed (Some key) x grown (f key k)
