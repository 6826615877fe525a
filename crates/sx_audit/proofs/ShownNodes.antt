-- Auditors that are shown nodes, and then more.
use Rattle.std.proofs.Common.{◌≡◌, ℕ, ◌+◌, ◌^◌, ◌≤◌, ◌-◌, Bool, true, false, if◌then◌else◌, List}
use Rattle.std.proofs.Common.{[], ◌∷◌, ◌++◌, map, length, Result, Ok, Err, append_assoc}
use Rattle.std.proofs.Common.{ap, sym, refl, subst, ◌∙◌, arith}
use Rattle.std.proofs.lemmas.Bool.{false≢true}
use Rattle.std.proofs.lemmas.List.{length-append, map-append, map-id}
use Rattle.sx_audit.specs.Meaning.{Node, Kind, Meaning, after_node, verdict}
use Rattle.sx_audit.specs.Kinds.{as_count}
use Rattle.sx_audit.specs.Shown.{after_nodes, shown_after, Admits, AllAdmit, Refusal, IsShowTold}
use Rattle.sx_audit.specs.Shown.{IsShownAfter}
use Rattle.sx_audit.specs.declared.show_error.ShowError.{ShowError}
use Rattle.sx_audit.specs.declared.show_error.ShowError.TheVariants.{Objected, Memory}

-- a node that is admitted, and then more
after_nodes-more : (m : Meaning) (n : Node) (ns : List Node) → verdict m n ≡ true →
    after_nodes m (n ∷ ns) ≡ after_nodes (after_node m n) ns
after_nodes-more m n ns h =
    ap (λ (b : Bool). if b then after_nodes (after_node m n) ns else (after_node m n, false)) h

first-admitted : (b : Bool) (m : Meaning) (rest : Meaning × Bool) →
    (if b then rest else (m, false)).1 ≡ true → b ≡ true
first-admitted true m rest h = refl
first-admitted false m rest h = absurd (false≢true h)

pub admits-first : (m : Meaning) (n : Node) (ns : List Node) → Admits (n ∷ ns) m →
    verdict m n ≡ true
admits-first m n ns h = first-admitted (verdict m n) (after_node m n) (after_nodes (after_node m n) ns) h

pub admits-rest : (m : Meaning) (n : Node) (ns : List Node) → Admits (n ∷ ns) m →
    Admits ns (after_node m n)
admits-rest m n ns h =
    sym (ap (λ (s : Meaning × Bool). s.1) (after_nodes-more m n ns (admits-first m n ns h))) ∙ h

-- nodes that are admitted, and then more
after_nodes-append : (m : Meaning) (a b : List Node) → Admits a m →
    after_nodes m (a ++ b) ≡ after_nodes (shown_after a m) b
after_nodes-append m [] b h = refl
after_nodes-append m (n ∷ ns) b h =
    let v = admits-first m n ns h in
    after_nodes-more m n (ns ++ b) v
    ∙ after_nodes-append (after_node m n) ns b (admits-rest m n ns h)
    ∙ ap (λ (s : Meaning × Bool). after_nodes s.0 b) (sym (after_nodes-more m n ns v))

-- nodes change the state alone
kind-by : (b : Bool) (m one : Meaning) (rest : Meaning × Bool) → rest.0.kind ≡ m.kind →
    one.kind ≡ m.kind → (if b then rest else (one, false)).0.kind ≡ m.kind
kind-by true m one rest h k = h
kind-by false m one rest h k = k

kind-stays : (ns : List Node) (m : Meaning) → (shown_after ns m).kind ≡ m.kind
kind-stays [] m = refl
kind-stays (n ∷ ns) m =
    kind-by (verdict m n) m (after_node m n) (after_nodes (after_node m n) ns)
    (kind-stays ns (after_node m n)) refl

module _ (a b : List Node) where
  -- what admits the nodes, and then more, admits all
  pub all-both : (ms : List Meaning) → AllAdmit a ms → AllAdmit b (map (shown_after a) ms) →
      AllAdmit (a ++ b) ms
  all-both [] h k = tt
  all-both (m ∷ ms) h k =
      (ap (λ (s : Meaning × Bool). s.1) (after_nodes-append m a b h.0) ∙ k.0, all-both ms h.1 k.1)

  -- the auditors after the nodes, and then more
  pub after-both : (ms : List Meaning) → AllAdmit a ms →
      map (shown_after b) (map (shown_after a) ms) ≡ map (shown_after (a ++ b)) ms
  after-both [] h = refl
  after-both (m ∷ ms) h =
      ap (λ (x : Meaning). x ∷ map (shown_after b) (map (shown_after a) ms))
      (sym (ap (λ (s : Meaning × Bool). s.0) (after_nodes-append m a b h.0)))
      ∙ ap (λ (xs : List Meaning). shown_after (a ++ b) m ∷ xs) (after-both ms h.1)

-- auditors before others, and behind them
all-front : (ns : List Node) (xs ys : List Meaning) → AllAdmit ns (xs ++ ys) → AllAdmit ns xs
all-front ns [] ys h = tt
all-front ns (x ∷ xs) ys h = (h.0, all-front ns xs ys h.1)

all-back : (ns : List Node) (xs ys : List Meaning) → AllAdmit ns (xs ++ ys) → AllAdmit ns ys
all-back ns [] ys h = h
all-back ns (x ∷ xs) ys h = all-back ns xs ys h.1

pub all-join : (ns : List Node) (xs ys : List Meaning) → AllAdmit ns xs → AllAdmit ns ys →
    AllAdmit ns (xs ++ ys)
all-join ns [] ys h k = k
all-join ns (x ∷ xs) ys h k = (h.0, all-join ns xs ys h.1 k)

pub all-none : (ms : List Meaning) → AllAdmit [] ms
all-none [] = tt
all-none (m ∷ ms) = (refl, all-none ms)

-- auditors of which one is found after a change
record Split (f : Meaning → Meaning) (ms front : List Meaning) (one : Meaning)
    (back : List Meaning) : Type 0 where
  before : List Meaning
  it : Meaning
  behind : List Meaning
  whole : ms ≡ before ++ it ∷ behind
  front_is : front ≡ map f before
  one_is : one ≡ f it
  back_is : back ≡ map f behind

split-more : (f : Meaning → Meaning) (m : Meaning) (ms front : List Meaning) (one : Meaning)
    (back : List Meaning) (x : Meaning) → x ≡ f m → Split f ms front one back →
    Split f (m ∷ ms) (x ∷ front) one back
split-more f m ms front one back x same s = record {
  before = m ∷ s.before;
  it = s.it;
  behind = s.behind;
  whole = ap (λ (xs : List Meaning). m ∷ xs) s.whole;
  front_is = ap (λ (y : Meaning). y ∷ front) same
      ∙ ap (λ (xs : List Meaning). f m ∷ xs) s.front_is;
  one_is = s.one_is;
  back_is = s.back_is;
}

split : (f : Meaning → Meaning) (ms front : List Meaning) (one : Meaning) (back : List Meaning) →
    map f ms ≡ front ++ one ∷ back → Split f ms front one back
split f [] [] one back h = absurd (cc)
split f [] (x ∷ front) one back h = absurd (cc)
split f (m ∷ ms) [] one back h = record {
  before = [];
  it = m;
  behind = ms;
  whole = refl;
  front_is = refl;
  one_is = cc;
  back_is = cc;
}
split f (m ∷ ms) (x ∷ front) one back h =
    let rest : map f ms ≡ front ++ one ∷ back = cc in
    let same : x ≡ f m = cc in
    split-more f m ms front one back x same (split f ms front one back rest)

-- what is told of an auditor is told of it after a change of its state
pub told-of : (e : ShowError) (one it : Meaning) (n m : ℕ) → one.kind ≡ it.kind →
    as_count n ≡ as_count m → IsShowTold e one n → IsShowTold e it m
told-of (Objected name number) one it n m h k t =
    (t.0 ∙ ap (λ (kind : Kind). kind.name) h, t.1 ∙ k)
told-of Memory one it n m h k t = tt

-- a node that is refused after nodes that are admitted
module _ (a b : List Node) (old new : List Meaning) (h : AllAdmit a old)
    (r : Refusal (map (shown_after a) old) b new) where
  abbrev part : Split (shown_after a) old r.before r.one r.behind
  part = split (shown_after a) old r.before r.one r.behind r.auditors

  abbrev last : List Node
  last = r.seen ++ r.node ∷ []

  same-last : (a ++ r.seen) ++ r.node ∷ [] ≡ a ++ last
  same-last = append_assoc a r.seen (r.node ∷ [])

  each : AllAdmit a (part.before ++ part.it ∷ part.behind)
  each = subst (AllAdmit a) part.whole h

  before : AllAdmit a part.before
  before = all-front a part.before (part.it ∷ part.behind) each

  it-and-behind : AllAdmit a (part.it ∷ part.behind)
  it-and-behind = all-back a part.before (part.it ∷ part.behind) each

  -- what has seen the node, and what has not
  saw : map (shown_after last) (r.before ++ r.one ∷ [])
      ≡ map (shown_after ((a ++ r.seen) ++ r.node ∷ [])) (part.before ++ part.it ∷ [])
  saw =
      ap (λ (xs : List Meaning). map (shown_after last) (xs ++ r.one ∷ [])) part.front_is
      ∙ ap (λ (m : Meaning). map (shown_after last) (map (shown_after a) part.before ++ m ∷ [])) part.one_is
      ∙ ap (map (shown_after last)) (sym (map-append (shown_after a) part.before (part.it ∷ [])))
      ∙ after-both a last (part.before ++ part.it ∷ [])
      (all-join a part.before (part.it ∷ []) before (it-and-behind.0, tt))
      ∙ ap (λ (ns : List Node). map (shown_after ns) (part.before ++ part.it ∷ [])) (sym same-last)

  saw-not : map (shown_after r.seen) r.behind ≡ map (shown_after (a ++ r.seen)) part.behind
  saw-not =
      ap (map (shown_after r.seen)) part.back_is ∙ after-both a r.seen part.behind it-and-behind.1

  abbrev refused-later : Refusal old (a ++ b) new
  refused-later = record {
    before = part.before;
    one = part.it;
    behind = part.behind;
    auditors = part.whole;
    seen = a ++ r.seen;
    node = r.node;
    later = r.later;
    nodes = ap (λ (ns : List Node). a ++ ns) r.nodes
        ∙ sym (append_assoc a r.seen (r.node ∷ r.later));
    passed = all-both a r.seen old h r.passed;
    admitted = subst (λ (ns : List Node). AllAdmit ns part.before) (sym same-last)
        (all-both a last part.before before
        (subst (AllAdmit last) part.front_is r.admitted));
    refused = ap (λ (ns : List Node). (after_nodes part.it ns).1) same-last
        ∙ ap (λ (s : Meaning × Bool). s.1)
        (after_nodes-append part.it a last it-and-behind.0)
        ∙ ap (λ (m : Meaning). (after_nodes m last).1) (sym part.one_is) ∙ r.refused;
    states = r.states ∙ ap (λ (xs : List Meaning). xs ++ map (shown_after r.seen) r.behind) saw
        ∙ ap (λ (xs : List Meaning). map (shown_after ((a ++ r.seen) ++ r.node ∷ []))
        (part.before ++ part.it ∷ []) ++ xs) saw-not;
  }

  told-later : (e : ShowError) (k j : ℕ) → j ≡ as_count (k + length a) →
      IsShowTold e r.one (j + length r.seen + 1) →
      IsShowTold e part.it (k + length (a ++ r.seen) + 1)
  told-later e k j c t =
      let n = length-append a r.seen in
      told-of e r.one part.it (j + length r.seen + 1) (k + length (a ++ r.seen) + 1)
      (ap (λ (m : Meaning). m.kind) part.one_is ∙ kind-stays a part.it) (omega (arith, c, n)) t

-- a node that is refused before others
abbrev refused-sooner : (old new : List Meaning) (a b : List Node) → Refusal old a new →
    Refusal old (a ++ b) new
refused-sooner old new a b r = record {
  before = r.before;
  one = r.one;
  behind = r.behind;
  auditors = r.auditors;
  seen = r.seen;
  node = r.node;
  later = r.later ++ b;
  nodes = ap (λ (ns : List Node). ns ++ b) r.nodes ∙ append_assoc r.seen (r.node ∷ r.later) b;
  passed = r.passed;
  admitted = r.admitted;
  refused = r.refused;
  states = r.states;
}

-- nodes that are shown, and then more
pub after_nodes-on : (k j : ℕ) (old mid new : List Meaning) (a b : List Node)
    (result : Result ℕ ShowError) → IsShownAfter k old a (Ok j) mid →
    IsShownAfter j mid b result new → IsShownAfter k old (a ++ b) result new
after_nodes-on k j old mid new a b (Ok i) h s =
    let n = length-append a b in
    let c = h.2 in
    let d = s.2 in (
      all-both a b old h.0 (subst (AllAdmit b) h.1 s.0),
      s.1 ∙ ap (map (shown_after b)) h.1 ∙ after-both a b old h.0,
      omega (arith, n, c, d),
    )
after_nodes-on k j old mid new a b (Err e) h s =
    let t = subst (λ (ms : List Meaning). IsShownAfter j ms b (Err e) new) h.1 s in
    (refused-later a b old new h.0 t.0, told-later a b old new h.0 t.0 e k j h.2 t.1)

-- nodes of which one is refused
pub after_nodes-stops : (k : ℕ) (old new : List Meaning) (a b : List Node) (e : ShowError) →
    IsShownAfter k old a (Err e) new → IsShownAfter k old (a ++ b) (Err e) new
after_nodes-stops k old new a b e h = (refused-sooner old new a b h.0, h.1)

-- no nodes
pub after_nodes-none : (k : ℕ) (ms : List Meaning) → k ≤ 2 ^ 64 - 1 → IsShownAfter k ms [] (Ok k) ms
after_nodes-none k ms h = (all-none ms, sym (map-id ms), omega (arith, h))
