-- What expanding a list answers.
use Rattle.std.proofs.Common.{◌≡◌, ℕ, ◌<◌, ◌≤◌, List, sym, ap, ◌∙◌, subst}
use Rattle.std.specs.Prelude.{Result, Ok, Err}
use Rattle.sx_term.specs.Tree.{Tree}
use Rattle.sx_rules.specs.declared.rule.Judgement.{Judgement as JudgementOf}
use Rattle.sx_rules.specs.Deep.{AreShallow}
use Rattle.sx_rules.specs.Derivations.{Proof}
use Rattle.sx_rules.specs.First.{Answer}
use Rattle.sx_rules.specs.Modes.{Goal, Modes}
use Rattle.sx_rules.specs.Orders.{Entry}
use Rattle.sx_rules.specs.Rules.{Judgement, Hypotheses}
use Rattle.sx_rules.specs.Sets.{shapes_in}
use Rattle.sx_rewrite.specs.declared.rewrite_error.RewriteError.{RewriteError}
use Rattle.sx_rewrite.specs.declared.rewrite_error.RewriteError.TheVariants.{Memory, RewriteSpent}
use Rattle.sx_rewrite.specs.declared.rewrite_error.RewriteError.TheVariants.{RewriteDeep, TooDeep}
use Rattle.sx_rewrite.specs.declared.rewrite_error.RewriteError.TheVariants.{TooBig}
use Rattle.sx_rewrite.specs.Accepted.{Accepted, Signature, IsAccepted}
use Rattle.sx_rewrite.specs.LoweredSizes.{HasFitKids}
use Rattle.sx_rewrite.specs.Lowering.{IsLoweringRefused}
use Rattle.sx_rewrite.specs.Lowers.{Lowers}
use Rattle.sx_rewrite.specs.Measured.{Measures}
use Rattle.sx_rewrite.specs.Sizes.{in_u64}
use Rattle.sx_rewrite.specs.Used.{lowered_height}
use Rattle.sx_rewrite.proofs.LoweredAlways.{lowering_exists}
use Rattle.sx_rewrite.proofs.Measured.{terms_are_measured}
use Rattle.sx_rewrite.proofs.PlainSizes.{derivations_fit}
use Rattle.sx_expand.specs.declared.expanded.Expanded.{Expanded}
use Rattle.sx_expand.specs.declared.reading.Reading.{Reading}
use Rattle.sx_expand.specs.declared.lowered_list.LoweredList.{LoweredList}
use Rattle.sx_expand.specs.Expansions.{IsListedFrom, IsExpanding}
use Rattle.sx_expand.specs.Listed.{set_in, entries_in, StandsIn}
use Rattle.sx_expand.specs.Readings.{CountsAs, IsListReading, set_by, signature_by, hyps_by}
use Rattle.sx_expand.specs.LoweredLists.{IsListLowered}
use Rattle.sx_expand.specs.Roots.{IsRoot, IsRootLowered}
use Rattle.sx_expand.proofs.Orders.{orders_are_lowered}
use Rattle.sx_expand.proofs.Standing.{whole-listed}

-- the derivation of a listed answer has the kids that the rules ask for
pub answer-fits : (sig : Signature) (a : Accepted) (hyps : Hypotheses) (goal : Goal) (list : List Entry) (answer : Answer) → IsListedFrom sig.modes a hyps goal list answer → HasFitKids a answer.0
answer-fits sig a hyps goal list answer is = derivations_fit a hyps is.rewritable.judgement answer.0 is.rewritable.derives

-- for equal sets and equal hypotheses
pub listed-as : {modes : Modes} {a b : Accepted} {h k : Hypotheses} → a ≡ b → h ≡ k →
    (goal : Goal) (list : List Entry) (answer : Answer) → IsListedFrom modes a h goal list answer →
    IsListedFrom modes b k goal list answer
listed-as {modes} {a} {b} {h} {k} e f goal list answer is =
    subst (λ (x : Accepted). IsListedFrom modes x k goal list answer) e
    (subst (λ (y : Hypotheses). IsListedFrom modes a y goal list answer) f is)

pub expanding-as : {a b : Accepted} {h k : Hypotheses} → a ≡ b → h ≡ k → (subjects : Modes)
    (p : Proof) (budget : ℕ) (r : Result Expanded RewriteError) →
    IsExpanding a subjects h p budget r → IsExpanding b subjects k p budget r
expanding-as {a} {b} {h} {k} e f subjects p budget r is =
    subst (λ (x : Accepted). IsExpanding x subjects k p budget r) e
    (subst (λ (y : Hypotheses). IsExpanding a subjects y p budget r) f is)

-- what is answered of a list by the one set of rules is answered by the other
list-as : (a b : Accepted) (p : Proof) → CountsAs a b p → (budget : ℕ) →
    (r : Result LoweredList RewriteError) → IsListLowered b p budget r → IsListLowered a p budget r
list-as a b p same budget (Ok x) h = (
  subst (λ (n : ℕ). n ≤ budget) (sym same.nodes) h.0,
  subst (λ (n : ℕ). n ≤ 3000) (sym same.height) h.1,
  h.2 ∙ ap in_u64 (sym same.copied_are),
  h.3 ∙ sym same.order,
)
list-as a b p same budget (Err Memory) h = tt
list-as a b p same budget (Err (RewriteSpent nodes)) h =
    (h.0, subst (λ (n : ℕ). budget < n) (sym same.nodes) h.1)
list-as a b p same budget (Err RewriteDeep) h = (
  subst (λ (n : ℕ). n ≤ budget) (sym same.nodes) h.0,
  subst (λ (n : ℕ). 3000 < n) (sym same.height) h.1,
)
list-as a b p same budget (Err (TooDeep depth)) h = absurd h
list-as a b p same budget (Err (TooBig nodes)) h = absurd h

module _ (l : Reading) (good : IsListReading l) (goal : Goal) (answer : Answer) (is : IsListedFrom (signature_by l).modes (set_by l) (hyps_by l) goal (entries_in l.listing) answer) where
  counts : CountsAs (set_by l) (set_in l.listing) answer.0
  counts = good.rules.counts answer.0

  -- what is answered of the list
  pub lowered-by : (budget : ℕ) (r : Result LoweredList RewriteError) →
      IsListLowered (set_in l.listing) answer.0 budget r → IsListLowered (set_by l) answer.0 budget r
  lowered-by budget r h = list-as (set_by l) (set_in l.listing) answer.0 counts budget r h

  -- it stands at the begin of the list
  pub answer-stands : StandsIn l.listing 0 answer.0
  answer-stands = whole-listed (set_in l.listing) (entries_in l.listing) answer.0 (counts.fit (answer-fits (signature_by l) (set_by l) (hyps_by l) goal (entries_in l.listing) answer is)) is.list_is

  -- and is that of the goal
  pub answer-root : lowered_height (set_by l) answer.0 ≤ 3000 → IsRoot l goal is.derives.0 answer.0
  answer-root low = record {
    can = record {
      stands = answer-stands;
      derives = is.derives.3;
      binds = is.rewritable.binds;
      fit = is.rewritable.fit;
      low = λ e. low;
    };
    goal_is = is.derives.1;
    near = subst AreShallow (sym is.derives.2) is.near;
  }

  -- the list is not lowered
  pub list-refused : (budget : ℕ) (e : RewriteError) → IsListLowered (set_by l) answer.0 budget (Err e) → IsExpanding (set_by l) (signature_by l).subjects (hyps_by l) answer.0 budget (Err e)
  list-refused budget Memory h = tt
  list-refused budget (RewriteSpent nodes) h = h
  list-refused budget RewriteDeep h = h
  list-refused budget (TooDeep depth) h = absurd h
  list-refused budget (TooBig nodes) h = absurd h

  module _ (budget : ℕ) (x : LoweredList) (lowered : IsListLowered (set_by l) answer.0 budget (Ok x)) where
    ok : IsAccepted (signature_by l) (shapes_in l.listing.set.now.base) (shapes_in l.listing.set.now.rules) (set_by l)
    ok = good.rules.accepted_with

    measured : (ts : List Tree) × Measures (set_by l) (signature_by l).subjects (hyps_by l) answer.0 ts
    measured = terms_are_measured (signature_by l) (shapes_in l.listing.set.now.base) (shapes_in l.listing.set.now.rules) (set_by l) ok (hyps_by l) answer.0 is.derives.0 is.derives.3

    -- a term passes a limit
    pub root-refused : (e : RewriteError) → IsLoweringRefused (set_by l) (signature_by l).subjects (hyps_by l) answer.0 e → IsExpanding (set_by l) (signature_by l).subjects (hyps_by l) answer.0 budget (Err e)
    root-refused Memory f = tt
    root-refused (RewriteSpent nodes) f = absurd (f measured.0 measured.1)
    root-refused RewriteDeep f = absurd (f measured.0 measured.1)
    root-refused (TooDeep depth) f = (lowered.0, lowered.1, (measured.0, measured.1, f measured.0 measured.1))
    root-refused (TooBig nodes) f = (lowered.0, lowered.1, (measured.0, measured.1, f measured.0 measured.1))

    -- the derivation is expanded
    pub root-expanded : (k : JudgementOf) → IsRootLowered l answer.0 (Ok k) →
        IsExpanding (set_by l) (signature_by l).subjects (hyps_by l) answer.0 budget (Ok (record { entries = x.entries; judgement = k; copied = x.copied }))
    root-expanded k h =
        let w = lowering_exists (signature_by l) (shapes_in l.listing.set.now.base) (shapes_in l.listing.set.now.rules) (set_by l) ok (hyps_by l) answer.0 is.derives.0 is.derives.3 in
        let lowers = subst (λ (j : Judgement). Lowers (set_by l) (signature_by l).subjects (hyps_by l) answer.0 w.0 j) (sym (h.0 w.0 w.1 w.2)) w.2 in (
          w.0,
          (lowers, lowered.2, (lowered.0, lowered.1, (measured.0, measured.1, h.1 measured.0 measured.1))),
          lowered.3 ∙ sym (orders_are_lowered (set_by l) (signature_by l).subjects (hyps_by l) answer.0 w.0 w.1 w.2),
        )
