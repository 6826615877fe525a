-- Numbers in slots: one is put in, one is taken out, and one is sought.
use Rattle.std.proofs.Common.{◌≡◌, ℕ, suc, ◌+◌, ◌-◌, ◌^◌, ◌<◌, ◌≤◌, ◌⊎◌, inl, inr, min, List, [], ◌∷◌, ◌++◌, take, drop, replicate, length, get_or, Option, refl, sym, ap, ◌∙◌, subst, arith}
use Rattle.std.proofs.lemmas.Bool.{cases_eq, cases_lt}
use Rattle.std.proofs.lemmas.List.{append-nil, drop_all, take_all, get_or_append_left, get_or_past, get_or-take, get_or-replicate, length-replicate, length-take, length_push}
use Rattle.sx_slots.specs.Slots.{slot_of, slot_at, IsLast, AreLinked, IsSlotTable, IsLastWith}

module _ (n : ℕ) (hs links lasts : List ℕ) where
  -- no number is in a slot yet
  pub linked_none : ((s : ℕ) → get_or lasts s 0 ≡ 0) → AreLinked n hs links lasts 0
  linked_none z = record {
    of_slot = λ s l. record {
      within = (let e = z s in omega arith);
      is = λ i e. (let f = z s in absurd (omega arith));
      no_more = λ i a b e. absurd (omega arith);
    };
    of_number = λ i l. absurd (omega arith);
  }

  module _ (new_links new_lasts : List ℕ) (k : ℕ) where
    -- one more number is put in
    pub linked_more : AreLinked n hs links lasts k → (s : ℕ) → s ≡ slot_at n hs k → s < n →
        ((i : ℕ) → i < k → get_or new_links i 0 ≡ get_or links i 0) → get_or new_links k 0 ≡ get_or lasts s 0 →
        ((t : ℕ) → (t ≡ s → ⊥) → get_or new_lasts t 0 ≡ get_or lasts t 0) → get_or new_lasts s 0 ≡ k + 1 → AreLinked n hs new_links new_lasts (k + 1)
    linked_more h s at l old_links new_link old_lasts new_last = record {
      of_slot = λ t b. slot t b (cases_eq t s);
      of_number = λ i b. cell i b (cases_eq i k);
    }
      where
        here : IsLast n hs (k + 1) s (k + 1)
        here = record {
          within = omega arith;
          is = λ i e. (let f : i ≡ k = omega arith in ap (slot_at n hs) f ∙ sym at);
          no_more = λ i a b e. absurd (omega arith);
        }

        other : (t : ℕ) → (t ≡ s → ⊥) → (x : ℕ) → IsLast n hs k t x → IsLast n hs (k + 1) t x
        other t d x o = record {
          within = (let w = o.within in omega arith);
          is = o.is;
          no_more = λ i a b e. more i a b e (cases_eq i k);
        }
          where
            more : (i : ℕ) → x ≤ i → i < k + 1 → slot_at n hs i ≡ t → (i ≡ k) ⊎ (i ≡ k → ⊥) → ⊥
            more i a b e (inl f) = d (sym e ∙ ap (slot_at n hs) f ∙ sym at)
            more i a b e (inr f) = o.no_more i a (below i k b f) e
              where
                below : (i k : ℕ) → i < k + 1 → (i ≡ k → ⊥) → i < k
                below i k b f = elim (cases_lt i k) [
                  | inl y ↦ y
                  | inr y ↦ absurd (f (omega arith))
                ]

        slot : (t : ℕ) → t < n → (t ≡ s) ⊎ (t ≡ s → ⊥) → IsLast n hs (k + 1) t (get_or new_lasts t 0)
        slot t b (inl e) =
            let f : get_or new_lasts t 0 ≡ k + 1 = ap (λ u. get_or new_lasts u 0) e ∙ new_last in
            subst (λ (x : ℕ). IsLast n hs (k + 1) t x) (sym f) (subst (λ (u : ℕ). IsLast n hs (k + 1) u (k + 1)) (sym e) here)
        slot t b (inr d) = subst (λ (x : ℕ). IsLast n hs (k + 1) t x) (sym (old_lasts t d)) (other t d (get_or lasts t 0) (h.of_slot t b))

        cell : (i : ℕ) → i < k + 1 → (i ≡ k) ⊎ (i ≡ k → ⊥) → IsLast n hs i (slot_at n hs i) (get_or new_links i 0)
        cell i b (inl e) =
            let f : get_or new_links i 0 ≡ get_or lasts s 0 = ap (λ j. get_or new_links j 0) e ∙ new_link in
            let o : IsLast n hs k (slot_at n hs k) (get_or lasts s 0) = subst (λ (t : ℕ). IsLast n hs k t (get_or lasts s 0)) at (h.of_slot s l) in
            subst (λ (x : ℕ). IsLast n hs i (slot_at n hs i) x) (sym f) (subst (λ (j : ℕ). IsLast n hs j (slot_at n hs j) (get_or lasts s 0)) (sym e) o)
        cell i b (inr d) =
            let l : i < k = less i k b d in
            subst (λ (x : ℕ). IsLast n hs i (slot_at n hs i) x) (sym (old_links i l)) (h.of_number i l)
          where
            less : (i k : ℕ) → i < k + 1 → (i ≡ k → ⊥) → i < k
            less i k b f = elim (cases_lt i k) [
              | inl y ↦ y
              | inr y ↦ absurd (f (omega arith))
            ]

  module _ (new_lasts : List ℕ) (k : ℕ) where
    -- the last number is taken out
    pub linked_less : AreLinked n hs links lasts (k + 1) → (s : ℕ) → s ≡ slot_at n hs k →
        ((t : ℕ) → (t ≡ s → ⊥) → get_or new_lasts t 0 ≡ get_or lasts t 0) → get_or new_lasts s 0 ≡ get_or links k 0 → AreLinked n hs links new_lasts k
    linked_less h s at old_lasts new_last = record {
      of_slot = λ t b. slot t b (cases_eq t s);
      of_number = λ i b. h.of_number i (omega arith);
    }
      where
        other : (t : ℕ) → (t ≡ s → ⊥) → (x : ℕ) → IsLast n hs (k + 1) t x → IsLast n hs k t x
        other t d x o = record {
          within = elim (cases_eq x (k + 1)) [
            | inl e ↦ absurd (d (sym (o.is k (let f : x ≡ suc k = omega arith in f)) ∙ sym at))
            | inr e ↦ small x (k + 1) o.within e
          ];
          is = o.is;
          no_more = λ i a b e. o.no_more i a (omega arith) e;
        }
          where
            small : (x m : ℕ) → x ≤ k + 1 → (x ≡ k + 1 → ⊥) → x ≤ k
            small x m w e = elim (cases_lt k x) [
              | inl y ↦ absurd (e (omega arith))
              | inr y ↦ y
            ]

        slot : (t : ℕ) → t < n → (t ≡ s) ⊎ (t ≡ s → ⊥) → IsLast n hs k t (get_or new_lasts t 0)
        slot t b (inl e) =
            let f : get_or new_lasts t 0 ≡ get_or links k 0 = ap (λ u. get_or new_lasts u 0) e ∙ new_last in
            let o : IsLast n hs k (slot_at n hs k) (get_or links k 0) = h.of_number k (omega arith) in
            subst (λ (x : ℕ). IsLast n hs k t x) (sym f) (subst (λ (u : ℕ). IsLast n hs k u (get_or links k 0)) (sym at ∙ sym e) o)
        slot t b (inr d) = subst (λ (x : ℕ). IsLast n hs k t x) (sym (old_lasts t d)) (other t d (get_or lasts t 0) (h.of_slot t b))

-- hashes that are as far the same, and links, are linked as far
module _ (n : ℕ) (hs gs links new_links lasts : List ℕ) (k : ℕ) (same : (i : ℕ) → i < k → get_or gs i 0 ≡ get_or hs i 0) where
  slots_same : (i : ℕ) → i < k → slot_at n gs i ≡ slot_at n hs i
  slots_same i l = ap (slot_of n) (same i l)

  last_same : (j s x : ℕ) → j ≤ k → IsLast n hs j s x → IsLast n gs j s x
  last_same j s x l o = record {
    within = o.within;
    is = λ i e. slots_same i (let w = o.within in omega arith) ∙ o.is i e;
    no_more = λ i a b e. o.no_more i a b (sym (slots_same i (omega arith)) ∙ e);
  }

  pub linked_same : ((i : ℕ) → i < k → get_or new_links i 0 ≡ get_or links i 0) → AreLinked n hs links lasts k → AreLinked n gs new_links lasts k
  linked_same f h = record {
    of_slot = λ s l. last_same k s (get_or lasts s 0) (omega arith) (h.of_slot s l);
    of_number = λ i l.
        let o = last_same i (slot_at n hs i) (get_or links i 0) (omega arith) (h.of_number i l) in
        let p = subst (λ (s : ℕ). IsLast n gs i s (get_or links i 0)) (sym (slots_same i l)) o in
        subst (λ (x : ℕ). IsLast n gs i (slot_at n gs i) x) (sym (f i l)) p;
  }

-- one more hash, which is in no slot yet
pub linked_push : (n : ℕ) (hs links lasts : List ℕ) (hash : ℕ) → length links ≡ length hs → AreLinked n hs links lasts (length hs) → AreLinked n (hs ++ hash ∷ []) (links ++ 0 ∷ []) lasts (length hs)
linked_push n hs links lasts hash m h =
    linked_same n hs (hs ++ hash ∷ []) links (links ++ 0 ∷ []) lasts (length hs) (λ i l. get_or_append_left hs (hash ∷ []) 0 i l) (λ i l. get_or_append_left links (0 ∷ []) 0 i (omega arith)) h

-- the same of lists that are the same
pub linked_is : (n m : ℕ) (hs gs links others lasts ends : List ℕ) (j k : ℕ) → n ≡ m → hs ≡ gs → links ≡ others → lasts ≡ ends → j ≡ k → AreLinked m gs others ends k → AreLinked n hs links lasts j
linked_is n m hs gs links others lasts ends j k a b c d e h =
    subst (λ (v : ℕ). AreLinked v hs links lasts j) (sym a)
    (subst (λ (v : List ℕ). AreLinked m v links lasts j) (sym b)
    (subst (λ (v : List ℕ). AreLinked m gs v lasts j) (sym c)
    (subst (λ (v : List ℕ). AreLinked m gs others v j) (sym d)
    (subst (λ (v : ℕ). AreLinked m gs others ends v) (sym e) h))))

pub table_is : (hs gs links others lasts ends : List ℕ) → hs ≡ gs → links ≡ others → lasts ≡ ends → IsSlotTable gs others ends → IsSlotTable hs links lasts
table_is hs gs links others lasts ends b c d t = record {
  many = ap length c ∙ t.many ∙ ap length (sym b);
  room = (let e = ap length b in let f = ap length d in let r = t.room in omega arith);
  few = (let f = ap length d in let r = t.few in omega arith);
  linked = linked_is (length lasts) (length ends) hs gs links others lasts ends (length hs) (length gs) (ap length d) b c d (ap length b) t.linked;
}

-- what is written back to a list of the same length
pub written_back : (n : ℕ) (new old : List ℕ) → length new ≡ length old → n ≡ length old → take n (new ++ drop (length new) old) ≡ new
written_back n new old e f =
    ap (λ xs. take n (new ++ xs)) (drop_all (length new) old (omega arith)) ∙ ap (take n) (append-nil new) ∙ take_all n new (omega arith)

-- the same numbers in wider slots
pub table_grown : (hs gs links others new lasts wider : List ℕ) (n : ℕ) → IsSlotTable hs links lasts → gs ≡ hs → others ≡ links → length new ≡ length others → n ≡ length links →
    length lasts ≤ length wider → length wider < 2 ^ 32 → AreLinked (length wider) gs new wider (length gs) → IsSlotTable hs (take n (new ++ drop (length new) links)) wider
table_grown hs gs links others new lasts wider n t g o m e r f h =
    let l : length new ≡ length links = m ∙ ap length o in
    let w = written_back n new links l e in
    record {
      many = ap length w ∙ l ∙ t.many;
      room = (let a = t.room in omega arith);
      few = f;
      linked = linked_is _ (length wider) hs gs _ new _ wider _ (length gs) refl (sym g) w refl (ap length (sym g)) h;
    }

-- the first numbers, whose hashes and links are kept
pub table_cut : (hs links lasts new : List ℕ) (many : ℕ) → IsSlotTable hs links lasts → AreLinked (length lasts) hs links new (min many (length hs)) → length new ≡ length lasts →
    IsSlotTable (take many hs) (take many links) new
table_cut hs links lasts new many t h e =
    let k = min many (length hs) in
    let l : length (take many hs) ≡ k = length-take many hs in
    let m : length (take many links) ≡ min many (length links) = length-take many links in
    let a = t.many in
    let r = t.room in
    let f = t.few in
    let g = linked_same (length lasts) hs (take many hs) links (take many links) new k (λ i b. get_or-take many hs i 0 (omega arith)) (λ i b. get_or-take many links i 0 (omega arith)) h in
    record {
      many = omega arith;
      room = omega arith;
      few = omega arith;
      linked = subst (λ (x : ℕ). AreLinked x (take many hs) (take many links) new (length (take many hs))) (sym e) (subst (λ (x : ℕ). AreLinked (length lasts) (take many hs) (take many links) new x) (sym l) g);
    }

-- a table with the hashes that are told, in which there is a slot more
pub record IsRoomy (told hashes links lasts : List ℕ) : Type 0 where
  pub same : hashes ≡ told
  pub table : IsSlotTable hashes links lasts
  pub room : length hashes < length lasts

pub roomy_grown : (hs gs links others new lasts wider : List ℕ) (n : ℕ) → IsSlotTable hs links lasts → gs ≡ hs → others ≡ links → length new ≡ length others → n ≡ length links →
    length lasts ≤ length wider → length wider < 2 ^ 32 → AreLinked (length wider) gs new wider (length gs) → length gs < length wider → IsRoomy hs hs (take n (new ++ drop (length new) links)) wider
roomy_grown hs gs links others new lasts wider n t g o m e r f h more = record {
  same = refl;
  table = table_grown hs gs links others new lasts wider n t g o m e r f h;
  room = (let l = ap length g in omega arith);
}

-- one more number is put in
pub table_push : (hs links lasts : List ℕ) (hash : ℕ) → length links ≡ length hs + 1 → length hs + 1 ≤ length lasts → length lasts < 2 ^ 32 →
    AreLinked (length lasts) (hs ++ hash ∷ []) links lasts (length hs + 1) → IsSlotTable (hs ++ hash ∷ []) links lasts
table_push hs links lasts hash m r f h =
    let l = length_push hs hash in
    let k : length (hs ++ hash ∷ []) ≡ length hs + 1 = omega arith in
    record {
      many = omega arith;
      room = omega arith;
      few = f;
      linked = subst (λ (x : ℕ). AreLinked (length lasts) (hs ++ hash ∷ []) links lasts x) (sym k) h;
    }

-- a number is sought from one on, backwards in its slot
pub record Seeking (n : ℕ) (hs : List ℕ) (k hash here : ℕ) : Type 0 where
  pub within : here ≤ k
  pub is : (i : ℕ) → here ≡ suc i → slot_at n hs i ≡ slot_of n hash
  pub none_past : (i : ℕ) → here ≤ i → i < k → get_or hs i 0 ≡ hash → ⊥

-- from the last number of the slot on
pub seeking_first : (n : ℕ) (hs : List ℕ) (k hash here : ℕ) → IsLast n hs k (slot_of n hash) here → Seeking n hs k hash here
seeking_first n hs k hash here o = record {
  within = o.within;
  is = o.is;
  none_past = λ i a b e. o.no_more i a b (ap (slot_of n) e);
}

-- the number before is not what is sought
pub seeking_past : (n : ℕ) (hs links lasts : List ℕ) (k hash here next : ℕ) → AreLinked n hs links lasts (length hs) → k ≤ length hs → 0 < here → Seeking n hs k hash here →
    (get_or hs (here - 1) 0 ≡ hash → ⊥) → next ≡ get_or links (here - 1) 0 → Seeking n hs k hash next
seeking_past n hs links lasts k hash here next h few p g d e = record {
  within = (let w = o.within in let v = g.within in omega arith);
  is = o.is;
  none_past = λ j a l w. past j a l w (cases_eq j i) (cases_lt j i);
}
  where
    i : ℕ
    i = here - 1

    o : IsLast n hs i (slot_of n hash) next
    o = subst (λ (x : ℕ). IsLast n hs i (slot_of n hash) x) (sym e) (subst (λ (s : ℕ). IsLast n hs i s (get_or links i 0)) (g.is i (omega arith)) (h.of_number i (let v = g.within in omega arith)))

    past : (j : ℕ) → next ≤ j → j < k → get_or hs j 0 ≡ hash → (j ≡ i) ⊎ (j ≡ i → ⊥) → (j < i) ⊎ (i ≤ j) → ⊥
    past j a l w (inl f) c = d (ap (λ m. get_or hs m 0) (sym f) ∙ w)
    past j a l w (inr f) (inl y) = o.no_more j a y (ap (slot_of n) w)
    past j a l w (inr f) (inr y) = g.none_past j (more j y f) l w
      where
        more : (j : ℕ) → i ≤ j → (j ≡ i → ⊥) → here ≤ j
        more j y f = elim (cases_lt i j) [
          | inl z ↦ omega arith
          | inr z ↦ absurd (f (omega arith))
        ]

-- what is told of numbers that are sought from one on
abbrev pub IsAnswer : List ℕ → List ℕ → ℕ → ℕ → Option ℕ → Type 0
IsAnswer hs links hash from answer =
    (n k : ℕ) (lasts : List ℕ) → k ≤ length hs → AreLinked n hs links lasts (length hs) → IsLast n hs k (slot_of n hash) from → IsLastWith hs k hash answer

-- the last of the first k numbers with a hash is found
pub answered : (n : ℕ) (hs gs links others lasts : List ℕ) (k hash got from start : ℕ) (answer : Option ℕ) → gs ≡ hs → others ≡ links → got ≡ hash → start ≡ from → AreLinked n hs links lasts (length hs) →
    k ≤ length hs → IsLast n hs k (slot_of n hash) from → IsAnswer gs others got start answer → IsLastWith hs k hash answer
answered n hs gs links others lasts k hash got from start answer a b d e h few o f =
    let g : IsAnswer hs links hash from answer = coe 0 1 (i. IsAnswer (a i) (b i) (d i) (e i) answer) f in
    g n k lasts few h o

-- a list of zeros has 0 at each place
pub zero_at : (n : ℕ) (xs : List ℕ) → xs ≡ replicate n 0 → (s : ℕ) → get_or xs s 0 ≡ 0
zero_at n xs e s = elim (cases_lt s n) [
  | inl l ↦ ap (λ ys. get_or ys s 0) e ∙ get_or-replicate n s 0 0 l
  | inr l ↦ get_or_past xs s 0 (let k = ap length e ∙ length-replicate n 0 in omega arith)
]
