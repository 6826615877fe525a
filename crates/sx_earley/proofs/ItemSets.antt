-- Items that are found by their hashes, and one that is added.
use Rattle.std.proofs.Common.{◌≡◌, ◌⊎◌, inl, inr, ℕ, suc, ◌+◌, ◌-◌, ◌<◌, ◌≤◌, List, [], ◌∷◌, ◌++◌, map, length, get_or, refl, sym, ap, ◌∙◌, subst, Contains, arith}
use Rattle.std.proofs.lemmas.Bool.{cases_eq, cases_lt}
use Rattle.std.proofs.lemmas.List.{get_or-map, get_or_append_left, get_or_push, length-map, length_push, map_push}
use Rattle.sx_slots.specs.Slots.{slot_of, slot_at, IsLast, AreLinked, IsSlotTable}
use Rattle.sx_slots.proofs.Linking.{linked_same, table_push, table_is}
use Rattle.sx_grammar.specs.Tally.{EachOnce}
use Rattle.sx_earley.specs.declared.packed_item.PackedItem.{PackedItem}
use Rattle.sx_earley.specs.PackedItem.{unpacked, packed_hash}
use Rattle.sx_earley.specs.ItemSet.{IsItemSet}
use Rattle.sx_earley.proofs.Packing.{packed_once}
use Rattle.sx_earley.proofs.Spanning.{once_push, among_there}

-- an item is sought from one on, backwards in its slot
pub record IsSoughtFrom (items : List PackedItem) (lasts : List ℕ) (item : PackedItem) (here : ℕ) : Type 0 where
  pub within : here ≤ length items
  pub is : (i : ℕ) → here ≡ suc i → slot_at (length lasts) (map packed_hash items) i ≡ slot_of (length lasts) (packed_hash item)
  pub none_past : (i : ℕ) → here ≤ i → i < length items → get_or items i item ≡ item → ⊥

module _ (items : List PackedItem) (links lasts : List ℕ) (item : PackedItem) (table : IsSlotTable (map packed_hash items) links lasts) where
  abbrev hashes : List ℕ
  hashes = map packed_hash items

  many : length hashes ≡ length items
  many = length-map items packed_hash

  abbrev own : ℕ
  own = slot_of (length lasts) (packed_hash item)

  alike : (i : ℕ) → i < length items → get_or items i item ≡ item → slot_at (length lasts) hashes i ≡ own
  alike i l e = ap (slot_of (length lasts)) (get_or-map packed_hash items i item 0 l ∙ ap packed_hash e)

  -- from the last item of the slot on
  pub sought_from_last : (slot here : ℕ) → slot ≡ own → slot < length lasts → here ≡ get_or lasts slot 0 → IsSoughtFrom items lasts item here
  sought_from_last slot here at l e =
      let o : IsLast (length lasts) hashes (length hashes) own here =
      subst (λ (x : ℕ). IsLast (length lasts) hashes (length hashes) own x) (sym e)
      (subst (λ (s : ℕ). IsLast (length lasts) hashes (length hashes) s (get_or lasts slot 0)) at (table.linked.of_slot slot l)) in
      record {
        within = (let w = o.within in let m = many in omega arith);
        is = o.is;
        none_past = λ i a b w. o.no_more i a (let m = many in omega arith) (alike i b w);
      }

  module _ (here : ℕ) (some : 0 < here) (sought : IsSoughtFrom items lasts item here) where
    before : (next : ℕ) → next ≡ get_or links (here - 1) 0 → IsLast (length lasts) hashes (here - 1) own next
    before next e =
        subst (λ (x : ℕ). IsLast (length lasts) hashes (here - 1) own x) (sym e)
        (subst (λ (s : ℕ). IsLast (length lasts) hashes (here - 1) s (get_or links (here - 1) 0)) (sought.is (here - 1) (omega arith))
        (table.linked.of_number (here - 1) (let w = sought.within in let m = many in omega arith)))

    -- the item before in the slot is nearer to the first
    pub sought_goes_back : (next : ℕ) → next ≡ get_or links (here - 1) 0 → next < here
    sought_goes_back next e = (let w = (before next e).within in omega arith)

    -- the item before here is not what is sought
    pub sought_from_next : (next : ℕ) → (get_or items (here - 1) item ≡ item → ⊥) → next ≡ get_or links (here - 1) 0 → IsSoughtFrom items lasts item next
    sought_from_next next d e = record {
      within = (let w = (before next e).within in let v = sought.within in omega arith);
      is = (before next e).is;
      none_past = λ i a b w. past i a b w (cases_lt i (here - 1)) (cases_eq i (here - 1));
    }
      where
        past : (i : ℕ) → next ≤ i → i < length items → get_or items i item ≡ item → (i < here - 1) ⊎ (here - 1 ≤ i) → (i ≡ here - 1) ⊎ (i ≡ here - 1 → ⊥) → ⊥
        past i a b w (inl l) c = (before next e).no_more i a l (alike i b w)
        past i a b w (inr l) (inl f) = d (ap (λ (j : ℕ). get_or items j item) (sym f) ∙ w)
        past i a b w (inr l) (inr f) = sought.none_past i (more i l f) b w
          where
            more : (i : ℕ) → here - 1 ≤ i → (i ≡ here - 1 → ⊥) → here ≤ i
            more i l f = elim (cases_lt (here - 1) i) [
              | inl y ↦ omega arith
              | inr y ↦ absurd (f (omega arith))
            ]

-- an item that is unpacked is one of the items
pub unpacked_there : (items : List PackedItem) (item other : PackedItem) (i : ℕ) → i < length items → other ≡ get_or items i other → other ≡ item → Contains (map unpacked items) (unpacked item)
unpacked_there items item other i l e f =
    (i, (let m = length-map items unpacked in omega arith), get_or-map unpacked items i other (unpacked item) l ∙ ap unpacked (sym e ∙ f))

-- all were looked at, and none is it
pub unpacked_missing : (items : List PackedItem) (lasts : List ℕ) (item : PackedItem) (here : ℕ) → IsSoughtFrom items lasts item here → here ≡ 0 → Contains (map unpacked items) (unpacked item) → ⊥
unpacked_missing items lasts item here sought none there =
    let l : there.0 < length items = (let m = length-map items unpacked in let a = there.1 in omega arith) in
    sought.none_past there.0 (omega arith) l
    (packed_once (get_or items there.0 item) item (sym (get_or-map unpacked items there.0 item (unpacked item) l) ∙ there.2))

-- where there are no slots there are no items
pub unpacked_none : (items : List PackedItem) (links lasts : List ℕ) (item : PackedItem) → IsSlotTable (map packed_hash items) links lasts → length lasts ≡ 0 → Contains (map unpacked items) (unpacked item) → ⊥
unpacked_none items links lasts item table none there =
    (let a = there.1 in let m = length-map items unpacked in let n = length-map items packed_hash in let r = table.room in absurd (omega arith))

-- what putting a number into a slot does
abbrev pub IsPut : List ℕ → List ℕ → ℕ → ℕ → ℕ → Type 0
IsPut old new hash number link =
    (hs links : List ℕ) → get_or hs number 0 ≡ hash → get_or links number 0 ≡ link → AreLinked (length old) hs links old number → AreLinked (length old) hs links new (number + 1)

-- one more item, which was not there
pub set_more : (items : List PackedItem) (links lasts new : List ℕ) (item : PackedItem) (link : ℕ) → IsItemSet items links lasts → (Contains (map unpacked items) (unpacked item) → ⊥) →
    length items < length lasts → length new ≡ length lasts → IsPut lasts new (packed_hash item) (length items) link → IsItemSet (items ++ item ∷ []) (links ++ link ∷ []) new
set_more items links lasts new item link set missing room same put =
    let hs = map packed_hash items in
    let hash = packed_hash item in
    let m : length hs ≡ length items = length-map items packed_hash in
    let t = set.table in
    let k : length links ≡ length items = t.many ∙ m in
    let old : AreLinked (length lasts) (hs ++ hash ∷ []) (links ++ link ∷ []) lasts (length items) =
    linked_same (length lasts) hs (hs ++ hash ∷ []) links (links ++ link ∷ []) lasts (length items)
    (λ i l. get_or_append_left hs (hash ∷ []) 0 i (omega arith)) (λ i l. get_or_append_left links (link ∷ []) 0 i (omega arith))
    (subst (λ (x : ℕ). AreLinked (length lasts) hs links lasts x) m t.linked) in
    let more : AreLinked (length lasts) (hs ++ hash ∷ []) (links ++ link ∷ []) new (length items + 1) =
    put (hs ++ hash ∷ []) (links ++ link ∷ []) (get_or_push hs hash 0 (length items) m) (get_or_push links link 0 (length items) k) old in
    let linked : AreLinked (length new) (hs ++ hash ∷ []) (links ++ link ∷ []) new (length hs + 1) =
    subst (λ (x : ℕ). AreLinked x (hs ++ hash ∷ []) (links ++ link ∷ []) new (length hs + 1)) (sym same)
    (subst (λ (x : ℕ). AreLinked (length lasts) (hs ++ hash ∷ []) (links ++ link ∷ []) new (x + 1)) (sym m) more) in
    record {
      once = subst EachOnce (sym (map_push unpacked items item)) (once_push (map unpacked items) (unpacked item) set.once (λ a. missing (among_there (unpacked item) (map unpacked items) a)));
      table = table_is _ _ _ _ _ _ (map_push packed_hash items item) refl refl
          (table_push hs (links ++ link ∷ []) new hash (let l = length_push links link in omega arith) (omega arith) (let f = t.few in omega arith) linked);
    }

-- the same of lists that are the same
pub set_is : (items others : List PackedItem) (links ends lasts firsts : List ℕ) → items ≡ others → links ≡ ends → lasts ≡ firsts → IsItemSet others ends firsts → IsItemSet items links lasts
set_is items others links ends lasts firsts a b c set = coe 1 0 (i. IsItemSet (a i) (b i) (c i)) set
