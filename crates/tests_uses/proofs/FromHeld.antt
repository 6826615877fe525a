-- What is found of a goal from a hypothesis, and the answers that are compared.
use Rattle.std.proofs.Common.{◌≡◌, arith, ℕ, suc, ◌+◌, ◌-◌, ◌^◌, ◌<◌, ◌≤◌, drop, get_or, length, List, [], ◌∷◌, map, None, refl, sym, ap, ◌∙◌, subst}
use Rattle.std.specs.Prelude.{Result, Ok, IfOk}
use Rattle.std.specs.List.{AllByRecursion}
use Rattle.std.proofs.lemmas.List.{drop_more, drop_all}
use Rattle.sx_term.specs.declared.term.Term.{Term}
use Rattle.sx_term.specs.Sorts.{Shape, HasSort, HaveSorts}
use Rattle.sx_term.specs.Term.{tree}
use Rattle.sx_term.specs.Tree.{Tree, depth_of, size_of}
use Rattle.sx_rules.specs.declared.entry.Entry.{Entry as EntryOf}
use Rattle.sx_rules.specs.declared.proof.Proof.{Proof as ProofOf}
use Rattle.sx_rules.specs.declared.rule.Hyps.{Hyps}
use Rattle.sx_rules.specs.declared.rule.Judgement.{Judgement as JudgementOf}
use Rattle.sx_rules.specs.declared.rule.Place.{Place}
use Rattle.sx_rules.specs.declared.rule_set.RuleSet.{RuleSet}
use Rattle.sx_rules.specs.Deep.{AreShallow}
use Rattle.sx_rules.specs.Derivations.{Proof, height_of, HasShallowBinds, ShallowJudgements}
use Rattle.sx_rules.specs.EntryView.{entries}
use Rattle.sx_rules.specs.First.{Answer}
use Rattle.sx_rules.specs.Modes.{Goal}
use Rattle.sx_rules.specs.Orders.{Entry, order_of}
use Rattle.sx_rules.specs.ProofView.{proof}
use Rattle.sx_rules.specs.Rules.{Hypotheses}
use Rattle.sx_rules.specs.Sets.{shapes_in, forms_in, bare_rules_in}
use Rattle.sx_rules.specs.Sorts.{GoalIsSorted, JudgementsAreSorted}
use Rattle.sx_rules.specs.Views.{FormData, hypotheses, judgement, pair, modes_of, sorts_of}
use Rattle.sx_rules.specs.Views.{subjects_in, places_at}
use Rattle.sx_derive.specs.declared.derive_error.DeriveError.{DeriveError}
use Rattle.sx_derive.specs.declared.derived.Derived.{Derived}
use Rattle.sx_derive.specs.declared.listed.Listed.{Listed}
use Rattle.sx_derive.specs.Deriving.{answer_of, IsDerived}
use Rattle.sx_derive.specs.Listing.{ListsFirst}
use Rattle.sx_derive.specs.Search.{found, walk}
use Rattle.sx_derive.specs.Walk.{events}
use Rattle.sx_derive.proofs.Bounded.{answers_are_bounded}
use Rattle.sx_derive.proofs.Walked.{found_is_first}
use Rattle.sx_rewrite.specs.declared.accepted.Accepted.{Accepted as AcceptedOf}
use Rattle.sx_rewrite.specs.declared.lowered.Lowered.{Lowered}
use Rattle.sx_rewrite.specs.declared.rewrite_error.RewriteError.{RewriteError}
use Rattle.sx_rewrite.specs.Accepted.{Accepted, Signature, IsAccepted, extended_rules}
use Rattle.sx_rewrite.specs.AcceptedView.{accepted, signature}
use Rattle.sx_rewrite.specs.Lowers.{HypothesesBelow, JudgementsBelow, PairsBelow}
use Rattle.sx_rewrite.specs.PlainRules.{plain_of}
use Rattle.sx_rewrite.specs.Rewrites.{AreGood}
use Rattle.sx_rewrite.specs.Rewriting.{Rewritten, IsRewritten}
use Rattle.sx_rewrite.specs.RewritingLaws.{IsGoodRewriting}
use Rattle.sx_rewrite.specs.RewrittenView.{IsRewriting}
use Rattle.sx_rewrite.proofs.FitTerms.{found_can_be_rewritten}
use Rattle.sx_rewrite.proofs.LoweredSorted.{judgements-more-sorted}
use Rattle.sx_rewrite.proofs.Lowerings.{have_sorts-below}
use Rattle.sx_rewrite.proofs.PlainSets.{plain_rules_are_accepted}
use Rattle.sx_rewrite.proofs.Rewriting.{rewriting_is_good}
use Rattle.sx_expand.specs.declared.expanded.Expanded.{Expanded}
use Rattle.sx_expand.specs.Boxes.{HasList}
use Rattle.sx_expand.specs.Expansions.{IsListedFrom, IsExpanding}
use Rattle.sx_expand.specs.Readings.{AllSmall, IsGivenJudgement, AreGiven}
use Rattle.tests_uses.specs.Held.{IsHypothesisHeld, FitPlaces, FitsForm}
use Rattle.sx_derive.proofs.FoundEach.{found_each}

-- hypotheses whose terms fit the places of their forms
same-many : (shapes : List Shape) (ts : List Tree) (ps : List Place) → HaveSorts shapes [] ts (map (λ p. p.sort) ps) → length ts ≡ length ps
same-many shapes [] [] h = refl
same-many shapes [] (p ∷ ps) h = absurd h
same-many shapes (t ∷ ts) [] h = absurd h
same-many shapes (t ∷ ts) (p ∷ ps) h = ap suc (same-many shapes ts ps h.1)

all-near : (ts : List Tree) → AllSmall ts → AreShallow ts
all-near [] h = tt
all-near (t ∷ ts) h = (h.0.0, all-near ts h.1)

module _ (base : RuleSet) where
  all-sorted : (js : List JudgementOf) → AllByRecursion (FitsForm base) js → JudgementsAreSorted (shapes_in base) (sorts_of (forms_in base)) [] (map judgement js)
  all-sorted [] h = tt
  all-sorted (j ∷ js) h = (h.0.sorted, all-sorted js h.1)

  all-below : (js : List JudgementOf) → AllByRecursion (FitsForm base) js → JudgementsBelow (length (shapes_in base)) (map judgement js)
  all-below [] h = tt
  all-below (j ∷ js) h = (have_sorts-below (shapes_in base) [] (map tree j.places.items) (sorts_of (forms_in base) j.form) h.0.sorted, all-below js h.1)

  all-given : (js : List JudgementOf) → AllByRecursion (FitsForm base) js → AllByRecursion (IsGivenJudgement (forms_in base)) (map judgement js)
  all-given [] h = tt
  all-given (j ∷ js) h =
      (record { many = same-many (shapes_in base) (map tree j.places.items) (places_at (forms_in base) j.form) h.0.sorted; small = h.0.small }, all-given js h.1)

  all-shallow : (js : List JudgementOf) → AllByRecursion (FitsForm base) js → ShallowJudgements (map judgement js)
  all-shallow [] h = tt
  all-shallow (j ∷ js) h = (all-near (map tree j.places.items) h.0.small, all-shallow js h.1)

  module _ (given : Hyps) (held : IsHypothesisHeld base given) where
    pub held-near : ShallowJudgements (hypotheses given).judgements
    held-near = all-shallow given.holds.items held.each

    held-sorted : JudgementsAreSorted (shapes_in base) (sorts_of (forms_in base)) [] (hypotheses given).judgements
    held-sorted = all-sorted given.holds.items held.each

    held-below : HypothesesBelow (length (shapes_in base)) (hypotheses given)
    held-below = (
      all-below given.holds.items held.each,
      subst (λ (ps : List (Term × Term)). PairsBelow (length (shapes_in base)) (map pair ps)) (sym held.apart) tt,
    )

    pub held-few : length given.holds.items < 2 ^ 32
    held-few = let e = held.one in omega (arith, e)

pub held-given : (set : AcceptedOf) (given : Hyps) → IsHypothesisHeld set.base given → AreGiven set (hypotheses given)
held-given set given held = record { below = held-below set.base given held; each = all-given set.base given.holds.items held.each }

pub held-good : (set : AcceptedOf) (given : Hyps) → IsHypothesisHeld set.base given → AreGood (length (shapes_in set.base)) (hypotheses given)
held-good set given held = record { below = held-below set.base given held; near = held-near set.base given held }

-- the rules of a set, and a goal that is asked from hypotheses
module _ (sig : Signature) (base shapes : List Shape) (a : Accepted) (ok : IsAccepted sig base shapes a) (hyps : Hypotheses) (held : JudgementsAreSorted base sig.forms [] hyps.judgements)
    (below : HypothesesBelow (length base) hyps) (near : ShallowJudgements hyps.judgements) (goal : Goal) (sorted : GoalIsSorted shapes sig.forms sig.modes [] goal) where
  plain : IsAccepted sig base shapes (plain_of a)
  plain = plain_rules_are_accepted sig base shapes a ok

  -- what is found is an answer with a list
  open-found : AreShallow goal.terms → (budget : ℕ) (answer : Answer) (list : List Entry) → walk None budget (events sig.modes (extended_rules (plain_of a)) hyps goal 1) ≡ found answer → list ≡ order_of answer.0 →
      IsListedFrom sig.modes (plain_of a) hyps goal list answer
  open-found low budget answer list e is =
      let first = found_is_first sig.modes (extended_rules (plain_of a)) hyps plain.moded goal None budget 1 answer e in
      let given = answers_are_bounded sig.modes (extended_rules (plain_of a)) hyps near goal 1 low in
      let bounds = found_each (λ x. (height_of x.0 ≤ 3001 - 1) × HasShallowBinds x.0 × AreShallow x.1) None budget (events sig.modes (extended_rules (plain_of a)) hyps goal 1) answer given e in
      record {
        derives = first.derives;
        list_is = is;
        rewritable = found_can_be_rewritten sig base shapes (plain_of a) plain hyps [] (judgements-more-sorted base shapes ok.begins [] sig.forms hyps.judgements held) goal sorted answer first.derives bounds.0 bounds.1;
        near = bounds.2;
      }

  module _ (list : List Entry) (answer : Answer) (is : IsListedFrom sig.modes (plain_of a) hyps goal list answer) (budget : ℕ) where
    good : (r : Rewritten) → IsRewritten (plain_of a) sig.subjects hyps answer.0 budget (Ok r) → IsGoodRewriting sig base (plain_of a) hyps [] budget is.derives.0 r
    good r h =
        rewriting_is_good sig base shapes (plain_of a) plain hyps [] held below near answer.0 is.derives.0 is.derives.3
        (subst (λ (g : Goal). GoalIsSorted shapes sig.forms sig.modes [] g) (sym is.derives.1) sorted) budget r h

    -- what the two answers are within
    open-listed : (x : Expanded) → IsExpanding (plain_of a) sig.subjects hyps answer.0 budget (Ok x) →
        AreShallow (judgement x.judgement).places × ((p : Proof) × HasList a.base hyps (judgement x.judgement) (entries x.entries.items) p × HasShallowBinds p)
    open-listed x (q, h, e) =
        let g = good (record { proof = q; judgement = judgement x.judgement; copied = x.copied }) h in
        (g.places, (q, record { derives = g.derives; list_is = e; low = g.height }, g.binds))

    open-boxed : (y : Lowered) → IsRewriting (plain_of a) sig.subjects hyps answer.0 budget (Ok y) → AreShallow (judgement y.judgement).places × (height_of (proof y.proof.value) ≤ 3000) × HasShallowBinds (proof y.proof.value)
    open-boxed y h = let g = good (record { proof = proof y.proof.value; judgement = judgement y.judgement; copied = y.copied }) h in (g.places, g.height, g.binds)

-- so it is of what the two calls answer
module _ (set : AcceptedOf) (ok : IsAccepted (signature set) (shapes_in set.base) (shapes_in set.rules) (accepted set)) (given : Hyps) (held : IsHypothesisHeld set.base given) (goal : Goal)
    (sorted : GoalIsSorted (shapes_in set.rules) (signature set).forms (signature set).modes [] goal) (list : List Entry) (answer : Answer) (is : IsListedFrom (signature set).modes (plain_of (accepted set)) (hypotheses given) goal list answer) (budget : ℕ) where
  pub held-listed : (r : Result Expanded RewriteError) (x : Expanded) → r ≡ Ok x → IsExpanding (plain_of (accepted set)) (signature set).subjects (hypotheses given) answer.0 budget r →
      AreShallow (map tree x.judgement.places.items) × ((p : Proof) × HasList (bare_rules_in set.base) (hypotheses given) (judgement x.judgement) (entries x.entries.items) p × HasShallowBinds p)
  held-listed r x e h =
      open-listed (signature set) (shapes_in set.base) (shapes_in set.rules) (accepted set) ok (hypotheses given) (held-sorted set.base given held) (held-below set.base given held) (held-near set.base given held) goal sorted list answer is budget x
      (subst (λ (q : Result Expanded RewriteError). IsExpanding (plain_of (accepted set)) (signature set).subjects (hypotheses given) answer.0 budget q) e h)

  pub held-boxed : (r : Result Lowered RewriteError) (y : Lowered) → r ≡ Ok y → IsRewriting (plain_of (accepted set)) (signature set).subjects (hypotheses given) answer.0 budget r →
      AreShallow (map tree y.judgement.places.items) × (height_of (proof y.proof.value) ≤ 3000) × HasShallowBinds (proof y.proof.value)
  held-boxed r y e h =
      open-boxed (signature set) (shapes_in set.base) (shapes_in set.rules) (accepted set) ok (hypotheses given) (held-sorted set.base given held) (held-below set.base given held) (held-near set.base given held) goal sorted list answer is budget y
      (subst (λ (q : Result Lowered RewriteError). IsRewriting (plain_of (accepted set)) (signature set).subjects (hypotheses given) answer.0 budget q) e h)

-- so it is of what the two searches answer
module _ (set : AcceptedOf) (ok : IsAccepted (signature set) (shapes_in set.base) (shapes_in set.rules) (accepted set)) (rules_are : bare_rules_in set.plain_rules ≡ extended_rules (plain_of (accepted set))) (forms_are : forms_in set.plain_rules ≡ forms_in set.base)
    (x : RuleSet) (same : x ≡ set.plain_rules) (given : Hyps) (held : IsHypothesisHeld set.base given) (goal : Goal) (low : AreShallow goal.terms) (sorted : GoalIsSorted (shapes_in set.rules) (signature set).forms (signature set).modes [] goal) (budget : ℕ) where
  pub open-answers : (listed : Result Listed DeriveError) (derived : Result Derived DeriveError) (l : Listed) (d : Derived) (list : List EntryOf) (p : ProofOf) → listed ≡ Ok l → derived ≡ Ok d → list ≡ l.entries.items → p ≡ d.proof.value →
      IfOk listed (λ y. ListsFirst (modes_of (forms_in x)) (bare_rules_in x) (hypotheses given) goal None budget y) → IsDerived (modes_of (forms_in x)) (subjects_in (forms_in x)) (bare_rules_in x) (hypotheses given) goal None budget derived →
      (outs : List Tree) × IsListedFrom (signature set).modes (plain_of (accepted set)) (hypotheses given) goal (entries list) (proof p, outs)
  open-answers listed derived l d list p is-l is-d e f first told =
      let hyps = hypotheses given in
      let first' = subst (λ (r : Result Listed DeriveError). IfOk r (λ y. ListsFirst (modes_of (forms_in x)) (bare_rules_in x) hyps goal None budget y)) is-l first in
      let finds = subst (λ (r : Result Derived DeriveError). IsDerived (modes_of (forms_in x)) (subjects_in (forms_in x)) (bare_rules_in x) hyps goal None budget r) is-d told in
      let m : modes_of (forms_in x) ≡ (signature set).modes = ap (λ (y : RuleSet). modes_of (forms_in y)) same ∙ ap (λ (fs : List FormData). modes_of fs) forms_are in
      let r : bare_rules_in x ≡ extended_rules (plain_of (accepted set)) = ap bare_rules_in same ∙ rules_are in
      let es : events (modes_of (forms_in x)) (bare_rules_in x) hyps goal 1 ≡ events (signature set).modes (extended_rules (plain_of (accepted set))) hyps goal 1 = (λ i. events (m i) (r i) hyps goal 1) in
      let one : found first'.answer ≡ found (answer_of d) = sym first'.finds ∙ finds in
      let answer : first'.answer ≡ answer_of d = cc in
      let own = open-found (signature set) (shapes_in set.base) (shapes_in set.rules) (accepted set) ok hyps (held-sorted set.base given held) (held-below set.base given held) (held-near set.base given held) goal sorted low budget (answer_of d) (entries l.entries.items)
      (sym (ap (walk None budget) es) ∙ finds) (first'.lists.entries ∙ ap (λ (z : Answer). order_of z.0) answer) in (
        map tree d.outputs.items,
        subst (λ (ls : List EntryOf). IsListedFrom (signature set).modes (plain_of (accepted set)) hyps goal (entries ls) (proof p, map tree d.outputs.items)) (sym e)
            (subst (λ (q : ProofOf). IsListedFrom (signature set).modes (plain_of (accepted set)) hyps goal (entries l.entries.items) (proof q, map tree d.outputs.items)) (sym f) own),
      )

-- terms that fit their places, one after another
module _ (shapes : List Shape) (ps : List Place) (ts : List Term) where
  abbrev pub FitFrom : ℕ → Type 0
  FitFrom i = FitPlaces shapes (drop i ps) (drop i ts)

  pub fit-next : length ts ≡ length ps → (i : ℕ) → (FitFrom i → FitFrom 0) → (t : Term) (d : Place) → i < length ts → t ≡ get_or ts i t → HasSort shapes [] (tree t) (get_or ps i d).sort → size_of (tree t) ≤ 1000000 →
      depth_of (tree t) ≤ 1000 → FitFrom (i + 1) → FitFrom 0
  fit-next many i so t d l e h small low k =
      let both : FitPlaces shapes (get_or ps i d ∷ drop (i + 1) ps) (t ∷ drop (i + 1) ts) = record { sorted = (h, k.sorted); small = ((low, small), k.small) } in
      so (subst (λ (us : List Term). FitPlaces shapes (drop i ps) us) (sym (drop_more ts i t l ∙ ap (λ (x : Term). x ∷ drop (i + 1) ts) (sym e)))
      (subst (λ (qs : List Place). FitPlaces shapes qs (t ∷ drop (i + 1) ts)) (sym (drop_more ps i d (omega (arith, l, many)))) both))

  pub fit-end : length ts ≡ length ps → (i : ℕ) → length ts ≤ i → FitFrom i
  fit-end many i l =
      subst (λ (us : List Term). FitPlaces shapes (drop i ps) us) (sym (drop_all i ts l))
      (subst (λ (qs : List Place). FitPlaces shapes qs []) (sym (drop_all i ps (omega (arith, l, many)))) (record { sorted = tt; small = tt }))

-- so it is of the one hypothesis
pub one-item : (js : List JudgementOf) (it : JudgementOf) → 1 ≤ length js → length js < 2 → it ≡ get_or js 0 it → js ≡ it ∷ []
one-item [] it l m e = absurd (omega (arith, l))
one-item (j ∷ []) it l m e = ap (λ (x : JudgementOf). x ∷ []) (sym e)
one-item (j ∷ k ∷ js) it l m e = absurd (omega (arith, m))

pub one-near : (js : List JudgementOf) (it : JudgementOf) (ts : List Term) → js ≡ it ∷ [] → ts ≡ it.places.items → ShallowJudgements (map judgement js) → AreShallow (map tree ts)
one-near js it ts e f h =
    subst (λ (us : List Term). AreShallow (map tree us)) (sym f) (subst (λ (ks : List JudgementOf). ShallowJudgements (map judgement ks)) e h).0

none-apart : (ps : List (Term × Term)) → length ps ≡ 0 → ps ≡ []
none-apart [] e = refl
none-apart (p ∷ ps) e = absurd (omega (arith, e))

pub one-held : (base : RuleSet) (given : Hyps) (it : JudgementOf) (all : List Shape) (ps : List Place) (ts : List Term) → given.holds.items ≡ it ∷ [] → length given.apart.items ≡ 0 → all ≡ shapes_in base →
    ps ≡ places_at (forms_in base) it.form → ts ≡ it.places.items → FitPlaces all ps ts → IsHypothesisHeld base given
one-held base given it all ps ts holds apart a p t h =
    let own : FitsForm base it =
    subst (λ (ss : List Shape). FitPlaces ss (places_at (forms_in base) it.form) it.places.items) a
    (subst (λ (qs : List Place). FitPlaces all qs it.places.items) p (subst (λ (us : List Term). FitPlaces all ps us) t h)) in
    record {
      one = ap length holds;
      apart = none-apart given.apart.items apart;
      each = subst (AllByRecursion (FitsForm base)) (sym holds) (own, tt);
    }
