-- What is found of a goal, and the answers that are compared.
use Rattle.std.proofs.Common.{◌≡◌, arith, ℕ, ◌-◌, ◌≤◌, length, Bool, true, List, [], map, None, sym, ap, ◌∙◌, subst}
use Rattle.std.specs.Prelude.{Result, Ok, IfOk}
use Rattle.sx_term.specs.Term.{tree}
use Rattle.sx_term.specs.Tree.{Tree}
use Rattle.sx_term.specs.declared.shapes.Shapes.{Shapes}
use Rattle.sx_term.specs.Roles.{is_out, is_sub}
use Rattle.sx_term.specs.Shapes.{shapes}
use Rattle.sx_term.specs.Sorts.{Shape, HaveSorts}
use Rattle.sx_rules.specs.declared.entry.Entry.{Entry as EntryOf}
use Rattle.sx_rules.specs.declared.proof.Proof.{Proof as ProofOf}
use Rattle.sx_rules.specs.declared.rule.Goal.{Goal as GoalOf}
use Rattle.sx_rules.specs.declared.rule.Place.{Place}
use Rattle.sx_term.specs.declared.term.Term.{Term}
use Rattle.sx_rules.specs.declared.rule.Hyps.{Hyps}
use Rattle.sx_rules.specs.declared.rule_set.RuleSet.{RuleSet}
use Rattle.sx_rules.specs.Deep.{AreShallow}
use Rattle.sx_rules.specs.Derivations.{height_of, HasShallowBinds}
use Rattle.sx_rules.specs.EntryView.{entries}
use Rattle.sx_rules.specs.First.{Answer}
use Rattle.sx_rules.specs.Modes.{Goal, inputs, outputs}
use Rattle.sx_rules.specs.Orders.{Entry, order_of}
use Rattle.sx_rules.specs.ProofView.{proof}
use Rattle.sx_rules.specs.Rules.{Hypotheses, no_hypotheses}
use Rattle.sx_rules.specs.Sets.{shapes_in, forms_in, bare_rules_in}
use Rattle.sx_rules.specs.Sorts.{GoalIsSorted}
use Rattle.sx_rules.specs.Views.{FormData, goal as goal_of, judgement, pair, hypotheses, modes_of, subjects_in, places_at}
use Rattle.sx_derive.specs.declared.derive_error.DeriveError.{DeriveError}
use Rattle.sx_derive.specs.declared.derived.Derived.{Derived}
use Rattle.sx_derive.specs.declared.listed.Listed.{Listed}
use Rattle.sx_derive.specs.Deriving.{answer_of, IsDerived}
use Rattle.sx_derive.specs.Listing.{ListsFirst}
use Rattle.sx_derive.specs.Search.{found, walk}
use Rattle.sx_derive.specs.Walk.{events}
use Rattle.sx_derive.proofs.Bounded.{answers_are_bounded}
use Rattle.sx_derive.proofs.FoundEach.{found_each}
use Rattle.sx_derive.proofs.Walked.{found_is_first}
use Rattle.sx_rewrite.specs.declared.accepted.Accepted.{Accepted as AcceptedOf}
use Rattle.sx_rewrite.specs.declared.lowered.Lowered.{Lowered}
use Rattle.sx_rewrite.specs.Accepted.{Accepted, Signature, IsAccepted, extended_rules}
use Rattle.sx_rewrite.specs.AcceptedView.{accepted, signature}
use Rattle.sx_rewrite.specs.Rewriting.{Rewritten, IsRewritten}
use Rattle.sx_rewrite.specs.RewritingLaws.{IsGoodRewriting}
use Rattle.sx_rewrite.specs.RewrittenView.{IsRewriting}
use Rattle.sx_rewrite.proofs.FitTerms.{found_can_be_rewritten}
use Rattle.sx_rewrite.proofs.Rewriting.{rewriting_is_good}
use Rattle.sx_expand.specs.declared.expanded.Expanded.{Expanded}
use Rattle.sx_expand.specs.Expansions.{HasOneSubject, IsListedAnswer, IsExpanding}

-- hypotheses without entries
pub none_given : (given : Hyps) → given.holds.items ≡ [] → given.apart.items ≡ [] → hypotheses given ≡ no_hypotheses
none_given given holds apart = λ i. record { judgements = map judgement (holds i); pairs = map pair (apart i) }

module _ (sig : Signature) (base shapes : List Shape) (a : Accepted) (ok : IsAccepted sig base shapes a) (goal : Goal) (sorted : GoalIsSorted shapes sig.forms sig.modes [] goal) where
  -- what is found is an answer with a list
  pub found-listed : AreShallow goal.terms → (budget : ℕ) (answer : Answer) (list : List Entry) → walk None budget (events sig.modes (extended_rules a) no_hypotheses goal 1) ≡ found answer → list ≡ order_of answer.0 →
      IsListedAnswer sig.modes a goal list answer
  found-listed near budget answer list e is =
      let first = found_is_first sig.modes (extended_rules a) no_hypotheses ok.moded goal None budget 1 answer e in
      let given = answers_are_bounded sig.modes (extended_rules a) no_hypotheses tt goal 1 near in
      let bounds = found_each (λ x. (height_of x.0 ≤ 3001 - 1) × HasShallowBinds x.0 × AreShallow x.1) None budget (events sig.modes (extended_rules a) no_hypotheses goal 1) answer given e in
      record {
        derives = first.derives;
        list_is = is;
        rewritable = found_can_be_rewritten sig base shapes a ok no_hypotheses [] tt goal sorted answer first.derives bounds.0 bounds.1;
        near = bounds.2;
      }

  module _ (list : List Entry) (answer : Answer) (is : IsListedAnswer sig.modes a goal list answer) (budget : ℕ) where
    good : (r : Rewritten) → IsRewritten a sig.subjects no_hypotheses answer.0 budget (Ok r) → IsGoodRewriting sig base a no_hypotheses [] budget is.derives.0 r
    good r h =
        rewriting_is_good sig base shapes a ok no_hypotheses [] tt (tt, tt) tt answer.0 is.derives.0 is.derives.3
        (subst (λ (g : Goal). GoalIsSorted shapes sig.forms sig.modes [] g) (sym is.derives.1) sorted) budget r h

    -- the judgements of the two answers are shallow, and the derivation is not too deep
    pub list-shallow : (x : Expanded) → IsExpanding a sig.subjects no_hypotheses answer.0 budget (Ok x) → AreShallow (map tree x.judgement.places.items)
    list-shallow x (q, h, e) = (good (record { proof = q; judgement = judgement x.judgement; copied = x.copied }) h).places

    pub boxed-shallow : (y : Lowered) → IsRewriting a sig.subjects no_hypotheses answer.0 budget (Ok y) → AreShallow (map tree y.judgement.places.items) × (height_of (proof y.proof.value) ≤ 3000)
    boxed-shallow y h = let g = good (record { proof = proof y.proof.value; judgement = judgement y.judgement; copied = y.copied }) h in (g.places, g.height)

-- so it is of what the two searches find
module _ (set : AcceptedOf) (ok : IsAccepted (signature set) (shapes_in set.base) (shapes_in set.rules) (accepted set)) (rules_are : bare_rules_in set.rules ≡ extended_rules (accepted set)) (forms_are : forms_in set.rules ≡ forms_in set.base) where
  pub both-found : (x : RuleSet) → x ≡ set.rules → (hyps : Hypotheses) → hyps ≡ no_hypotheses → (goal : Goal) → AreShallow goal.terms → GoalIsSorted (shapes_in set.rules) (signature set).forms (signature set).modes [] goal →
      (budget : ℕ) (l : Listed) (d : Derived) → ListsFirst (modes_of (forms_in x)) (bare_rules_in x) hyps goal None budget l → walk None budget (events (modes_of (forms_in x)) (bare_rules_in x) hyps goal 1) ≡ found (answer_of d) →
      IsListedAnswer (signature set).modes (accepted set) goal (entries l.entries.items) (answer_of d)
  both-found x same hyps none goal near sorted budget l d first finds =
      let m : modes_of (forms_in x) ≡ (signature set).modes = ap (λ (y : RuleSet). modes_of (forms_in y)) same ∙ ap (λ (fs : List FormData). modes_of fs) forms_are in
      let r : bare_rules_in x ≡ extended_rules (accepted set) = ap bare_rules_in same ∙ rules_are in
      let es : events (modes_of (forms_in x)) (bare_rules_in x) hyps goal 1 ≡ events (signature set).modes (extended_rules (accepted set)) no_hypotheses goal 1 = (λ i. events (m i) (r i) (none i) goal 1) in
      let one : found first.answer ≡ found (answer_of d) = sym first.finds ∙ finds in
      let answer : first.answer ≡ answer_of d = cc in
      found-listed (signature set) (shapes_in set.base) (shapes_in set.rules) (accepted set) ok goal sorted near budget (answer_of d) (entries l.entries.items)
      (sym (ap (walk None budget) es) ∙ finds) (first.lists.entries ∙ ap (λ (z : Answer). order_of z.0) answer)

  -- as the two searches answer it
  pub answers-found : (x : RuleSet) → x ≡ set.rules → (given : Hyps) → given.holds.items ≡ [] → given.apart.items ≡ [] → (goal : Goal) → AreShallow goal.terms →
      GoalIsSorted (shapes_in set.rules) (signature set).forms (signature set).modes [] goal → (budget : ℕ) (listed : Result Listed DeriveError) (derived : Result Derived DeriveError) (l : Listed) (d : Derived) (list : List EntryOf) (p : ProofOf) →
      listed ≡ Ok l → derived ≡ Ok d → list ≡ l.entries.items → p ≡ d.proof.value → IfOk listed (λ y. ListsFirst (modes_of (forms_in x)) (bare_rules_in x) (hypotheses given) goal None budget y) →
      IsDerived (modes_of (forms_in x)) (subjects_in (forms_in x)) (bare_rules_in x) (hypotheses given) goal None budget derived →
      (outs : List Tree) × IsListedAnswer (signature set).modes (accepted set) goal (entries list) (proof p, outs)
  answers-found x same given holds apart goal near sorted budget listed derived l d list p is-l is-d e f first told =
      let first' = subst (λ (r : Result Listed DeriveError). IfOk r (λ y. ListsFirst (modes_of (forms_in x)) (bare_rules_in x) (hypotheses given) goal None budget y)) is-l first in
      let told' = subst (λ (r : Result Derived DeriveError). IsDerived (modes_of (forms_in x)) (subjects_in (forms_in x)) (bare_rules_in x) (hypotheses given) goal None budget r) is-d told in
      let own = both-found x same (hypotheses given) (none_given given holds apart) goal near sorted budget l d first' told' in (
        map tree d.outputs.items,
        subst (λ (es : List EntryOf). IsListedAnswer (signature set).modes (accepted set) goal (entries es) (proof p, map tree d.outputs.items)) (sym e)
            (subst (λ (q : ProofOf). IsListedAnswer (signature set).modes (accepted set) goal (entries l.entries.items) (proof q, map tree d.outputs.items)) (sym f) own),
      )

module _ (set : AcceptedOf) (b : RuleSet) (same : b ≡ set.base) (form : ℕ) (ps : List Place) (are : ps ≡ places_at (forms_in b) form) where
  places-are : ps ≡ places_at (forms_in set.base) form
  places-are = are ∙ ap (λ (x : RuleSet). places_at (forms_in x) form) same

  -- the form has one subject at most, as they are counted
  pub one-counted : (n : ℕ) → n ≡ length (outputs (map (λ p. is_sub p.role) ps) ps) → n ≤ 1 → HasOneSubject (forms_in set.base) form
  one-counted n e l = subst (λ (qs : List Place). length (outputs (map (λ p. is_sub p.role) qs) qs) ≤ 1) places-are (omega (arith, e, l))

  -- the goal is well sorted, as its terms are
  pub shown-sorted : (x : RuleSet) → x ≡ set.rules → (all : Shapes) → shapes all ≡ shapes_in x → (g : GoalOf) (terms : List Term) → g.form ≡ form → terms ≡ g.inputs.items → (is : Bool) →
      (is ≡ true → HaveSorts (shapes all) [] (map tree terms) (inputs (map (λ p. is_out p.role) ps) (map (λ p. p.sort) ps))) → is ≡ true →
      GoalIsSorted (shapes_in set.rules) (signature set).forms (signature set).modes [] (goal_of g)
  shown-sorted x is-x all e g terms same-form same-terms is f t =
      subst (λ (n : ℕ). HaveSorts (shapes_in set.rules) [] (map tree g.inputs.items) (inputs ((signature set).modes n) ((signature set).forms n))) (sym same-form)
      (subst (λ (us : List Term). HaveSorts (shapes_in set.rules) [] (map tree us) (inputs ((signature set).modes form) ((signature set).forms form))) same-terms
      (subst (λ (ss : List Shape). HaveSorts ss [] (map tree terms) (inputs ((signature set).modes form) ((signature set).forms form))) (e ∙ ap shapes_in is-x)
      (subst (λ (qs : List Place). HaveSorts (shapes all) [] (map tree terms) (inputs (map (λ p. is_out p.role) qs) (map (λ p. p.sort) qs))) places-are (f t))))
