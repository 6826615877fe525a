-- A node that is shown to auditors one after another.
use Rattle.std.proofs.Common.{◌≡◌, ℕ, ◌+◌, ◌<◌, ◌≤◌, Bool, true, false, if◌then◌else◌}
use Rattle.std.proofs.Common.{List, [], ◌∷◌, ◌++◌, map, take, drop, set, get_or, length}
use Rattle.std.proofs.Common.{Result, Ok, Err, Vec, IsErrAnd}
use Rattle.std.proofs.Common.{ap, sym, refl, subst, ◌∙◌, arith}
use Rattle.std.specs.declared.alloc.Global.{Global}
use Rattle.std.proofs.lemmas.List.{map-id, map-set, length-map, length-set, length-take}
use Rattle.std.proofs.lemmas.List.{take-append-drop, take_more, take_all, drop_more, drop_all}
use Rattle.std.proofs.lemmas.List.{append-nil, get_or_at, get_or_default, get_or-map, with_items_is}
use Rattle.std.proofs.lemmas.List.Edits.{map_over_more}
use Rattle.sx_audit.specs.Meaning.{Node, Meaning, after_node, verdict}
use Rattle.sx_audit.specs.Shown.{after_nodes, shown_after, AllAdmit, Refusal, IsShowTold, IsShownAfter}
use Rattle.sx_audit.specs.declared.show_error.ShowError.{ShowError}
use Rattle.sx_audit.specs.Kinds.{as_count}
use Rattle.sx_audit.proofs.ShownNodes.{all-none, all-join, told-of}

-- so many of the auditors have admitted the node, and the others have not seen it
pub record Passing (n : Node) (old now : List Meaning) (i : ℕ) : Type 0 where
  pub states : now ≡ map (shown_after (n ∷ [])) (take i old) ++ drop i old
  pub admitted : AllAdmit (n ∷ []) (take i old)

-- what is shown of one node
after_nodes-state : (b : Bool) (m : Meaning) →
    (if◌then◌else◌ {A = Meaning × Bool} b (m, true) (m, false)).0 ≡ m
after_nodes-state true m = refl
after_nodes-state false m = refl

after_nodes-verdict : (b : Bool) (m : Meaning) →
    (if◌then◌else◌ {A = Meaning × Bool} b (m, true) (m, false)).1 ≡ b
after_nodes-verdict true m = refl
after_nodes-verdict false m = refl

after-one : (n : Node) (m : Meaning) → shown_after (n ∷ []) m ≡ after_node m n
after-one n m = after_nodes-state (verdict m n) (after_node m n)

admits-one : (n : Node) (m : Meaning) → (after_nodes m (n ∷ [])).1 ≡ verdict m n
admits-one n m = after_nodes-verdict (verdict m n) (after_node m n)

-- at first no auditor has seen the node
pub passing-none : {A : Type 0} (f : A → Meaning) (n : Node) (xs ys : List A) → ys ≡ xs →
    Passing n (map f xs) (map f ys) 0
passing-none f n xs ys e = record { states = ap (map f) e; admitted = tt }

module _ {A : Type 0} (f : A → Meaning) (n : Node) (old : List Meaning) (items : List A) (i : ℕ)
    (x y : A) (h : i < length old) (w : i < length items) (p : Passing n old (map f items) i)
    (e : x ≡ get_or items i x) (s : f y ≡ after_node (f x) n) where
  many : length (map (shown_after (n ∷ [])) (take i old)) ≡ i
  many = length-map (take i old) (shown_after (n ∷ [])) ∙ length-take i old ∙ omega (arith, h)

  -- the auditor at the place
  there : f x ≡ get_or (map f items) i (f x)
  there = ap f e ∙ sym (get_or-map f items i x (f x) w)

  -- it has not seen the node
  is-old : f x ≡ get_or old i (f x)
  is-old =
      let before = map (shown_after (n ∷ [])) (take i old) in
      there ∙ ap (λ (ms : List Meaning). get_or ms i (f x)) p.states
      ∙ ap (λ (ms : List Meaning). get_or (before ++ ms) i (f x)) (drop_more old i (f x) h)
      ∙ get_or_at before (get_or old i (f x)) (drop (i + 1) old) (f x) i many

  more : take (i + 1) old ≡ take i old ++ f x ∷ []
  more = take_more old i (f x) h ∙ ap (λ (m : Meaning). take i old ++ m ∷ []) (sym is-old)

  written : map f (set items i y) ≡ map (shown_after (n ∷ [])) (take (i + 1) old) ++ drop (i + 1) old
  written =
      map-set f items i y
      ∙ ap (set (map f items) i) (s ∙ sym (after-one n (f x)))
      ∙ map_over_more (shown_after (n ∷ [])) old (map f items) i (f x) h p.states there

  passing-more : verdict (f x) n ≡ true → Passing n old (map f (set items i y)) (i + 1)
  passing-more v = record {
    states = written;
    admitted = subst (AllAdmit (n ∷ [])) (sym more)
        (all-join (n ∷ []) (take i old) (f x ∷ []) p.admitted (admits-one n (f x) ∙ v, tt));
  }

  abbrev refused-here : verdict (f x) n ≡ false → Refusal old (n ∷ []) (map f (set items i y))
  refused-here v = record {
    before = take i old;
    one = f x;
    behind = drop (i + 1) old;
    auditors = sym (take-append-drop i old)
        ∙ ap (λ (ms : List Meaning). take i old ++ ms) (drop_more old i (f x) h)
        ∙ ap (λ (m : Meaning). take i old ++ m ∷ drop (i + 1) old) (sym is-old);
    seen = [];
    node = n;
    later = [];
    nodes = refl;
    passed = all-none old;
    admitted = p.admitted;
    refused = admits-one n (f x) ∙ v;
    states = written ∙ ap (λ (ms : List Meaning). map (shown_after (n ∷ [])) ms ++ drop (i + 1) old) more
        ∙ ap (λ (ms : List Meaning). map (shown_after (n ∷ [])) (take i old ++ f x ∷ []) ++ ms)
        (sym (map-id (drop (i + 1) old)));
  }

-- all have admitted the node
passing-all : (n : Node) (old now : List Meaning) (i : ℕ) → length old ≤ i →
    Passing n old now i → AllAdmit (n ∷ []) old × (now ≡ map (shown_after (n ∷ [])) old)
passing-all n old now i h p = (
  subst (AllAdmit (n ∷ [])) (take_all i old h) p.admitted,
  p.states
      ∙ ap (λ (ms : List Meaning). map (shown_after (n ∷ [])) (take i old) ++ ms) (drop_all i old h)
      ∙ append-nil (map (shown_after (n ∷ [])) (take i old))
      ∙ ap (map (shown_after (n ∷ []))) (take_all i old h),
)

module _ {A : Type 0} (f : A → Meaning) (n : Node) (list : Vec A Global) (items : List A)
    (i k j : ℕ) (many : length items ≡ length list.items)
    (p : Passing n (map f list.items) (map f items) i) (count : j ≡ as_count (k + 1)) where
  -- the list after its items were written
  whole : (xs : List A) → length xs ≡ length list.items →
      take list.len (xs ++ drop (length xs) list.items) ≡ xs
  whole xs h = with_items_is list xs (h ∙ sym list.ok.0)

  pub node-shown : length list.items ≤ i → IsShownAfter k (map f list.items) (n ∷ []) (Ok j)
      (map f (take list.len (items ++ drop (length items) list.items)))
  node-shown h =
      let a = passing-all n (map f list.items) (map f items) i
      (subst (λ (m : ℕ). m ≤ i) (sym (length-map list.items f)) h) p in
      (a.0, ap (map f) (whole items many) ∙ a.1, count)

  module _ (x y : A) (h : i < length list.items)
      (s : f y ≡ after_node (f (get_or items i x)) n) where
    within : i < length (map f list.items)
    within = subst (λ (m : ℕ). i < m) (sym (length-map list.items f)) h

    within-items : i < length items
    within-items = subst (λ (m : ℕ). i < m) (sym many) h

    stands : get_or items i x ≡ get_or items i (get_or items i x)
    stands = get_or_default items i x (get_or items i x) within-items

    pub node-admitted : verdict (f (get_or items i x)) n ≡ true →
        Passing n (map f list.items) (map f (set items i y)) (i + 1)
    node-admitted v =
        passing-more f n (map f list.items) items i (get_or items i x) y within within-items p
        stands s v

    pub node-refused : (r : Result ℕ ShowError) (e : ShowError) → IsErrAnd r (λ z. z ≡ e) →
        (verdict (f (get_or items i x)) n ≡ false) × IsShowTold e (f (get_or items i x)) j →
        IsShownAfter k (map f list.items) (n ∷ []) r
        (map f (take list.len (set items i y ++ drop (length (set items i y)) list.items)))
    node-refused (Ok c) e h t = absurd h
    node-refused (Err z) e h t =
        subst (λ (xs : List A). IsShownAfter k (map f list.items) (n ∷ []) (Err z) (map f xs))
        (sym (whole (set items i y) (length-set items i y ∙ many))) (
          refused-here f n (map f list.items) items i (get_or items i x) y within within-items p
              stands s t.0,
          told-of z (f (get_or items i x)) (f (get_or items i x)) j (k + 0 + 1) refl
              (omega (arith, count))
              (subst (λ (w : ShowError). IsShowTold w (f (get_or items i x)) j) (sym h) t.1),
        )
