-- The way from a goal without an answer to the stuck goal.
use Rattle.std.proofs.Common.{◌≡◌, ℕ, zero, suc, ◌-◌, ◌<◌, ◌≤◌, List, length, reverse, Option, sym, ap, ◌∙◌, arith, subst}
use Rattle.sx_term.specs.Tree.{Tree}
use Rattle.sx_rules.specs.Rules.{Rule, Hypotheses}
use Rattle.sx_rules.specs.Modes.{Modes, Goal}
use Rattle.sx_arena.specs.Arena.{AreBelow}
use Rattle.sx_arena.specs.Pairs.{pairs_of, ArePairs}
use Rattle.sx_arena.specs.declared.fact.Fact.{Fact}
use Rattle.sx_arena.specs.declared.pairs.Pair.{Pair}
use Rattle.sx_derive.specs.Blames.{blame_of}
use Rattle.sx_derive.specs.Candidates.{goal_in, AreFacts}
use Rattle.sx_derive.specs.Problems.{IsProblem}
use Rattle.sx_derive.specs.Descents.{AreHyps, spot_goal, blame_in, IsDescent}
use Rattle.sx_derive.specs.Failing.{FailsAlong}
use Rattle.sx_derive.specs.Quiet.{IsQuiet}
use Rattle.sx_derive.specs.Store.{IsStore, StoreGrows, store_trees}
use Rattle.sx_derive.specs.Stuck.{Blame, IsStuck}
use Rattle.sx_derive.specs.Walk.{goal_events, events}
use Rattle.sx_derive.specs.declared.blame.Blame.{Blame as BlameOf}
use Rattle.sx_derive.specs.declared.descent.Descent.{Descent}
use Rattle.sx_derive.specs.declared.descent.Descent.TheVariants.{Stuck, Below}
use Rattle.sx_derive.specs.declared.descent.Reason.{Reason}
use Rattle.sx_derive.specs.declared.descent.Spot.{Spot}
use Rattle.sx_derive.specs.declared.problem.Problem.{Problem}
use Rattle.sx_derive.specs.declared.store.Store.{Store}
use Rattle.sx_derive.proofs.Descended.{hyps_stay, for_hyps}
use Rattle.sx_derive.proofs.Led.{descent_weaker}
use Rattle.sx_derive.proofs.Stored.{grows_same, grows_then}

-- what holds with that many levels left, at a goal in the store
pub record Sinking (modes subjects : Modes) (rules : List Rule) (hyps : Hypotheses) (budget levels : ℕ) (old : Store) (facts : List Fact) (pairs : List Pair) (first : Spot) (now : Store) (left : ℕ) (notes : List ℕ) (here : Spot) : Type 0 where
  pub are : AreHyps modes old facts pairs hyps
  pub few : left ≤ levels
  pub grows : StoreGrows modes rules old now
  pub below : AreBelow (length (store_trees now)) here.terms.items
  pub quiet : IsQuiet budget (goal_events modes rules hyps left (spot_goal now here))
  pub fails : FailsAlong modes rules hyps left (spot_goal now here) (reverse notes)
  pub leads : (blame : Blame) → IsStuck modes subjects rules hyps left (spot_goal now here) here.path.items blame →
      IsStuck modes subjects rules hyps levels (spot_goal old first) first.path.items blame

module _ (modes subjects : Modes) (rules : List Rule) (hyps : Hypotheses) (budget levels : ℕ) (old : Store) (facts : List Fact) (pairs : List Pair) (first : Spot) where
  abbrev S : Store → ℕ → List ℕ → Spot → Type 0
  S now left notes here = Sinking modes subjects rules hyps budget levels old facts pairs first now left notes here

  abbrev Leads : Blame → Type 0
  Leads blame = IsStuck modes subjects rules hyps levels (spot_goal old first) first.path.items blame

  pub sinking_first : IsStore modes rules old → AreBelow (length (store_trees old)) first.terms.items → AreHyps modes old facts pairs hyps →
      IsQuiet budget (goal_events modes rules hyps levels (spot_goal old first)) → (notes : List ℕ) →
      FailsAlong modes rules hyps levels (spot_goal old first) (reverse notes) → S old levels notes first
  sinking_first h b a q notes f = record {
    are = a;
    few = (omega arith);
    grows = grows_same modes rules old h;
    below = b;
    quiet = q;
    fails = f;
    leads = λ blame x. x;
  }

  module _ (now : Store) (left : ℕ) (notes : List ℕ) (here : Spot) (positive : 0 < left) (d : S now left notes here) where
    one_less : suc (left - 1) ≡ left
    one_less = omega arith

    sink_are : AreHyps modes now facts pairs hyps
    sink_are = hyps_stay modes rules old now facts pairs hyps d.grows d.are

    pub sink_quiet : (x : Hypotheses) × AreHyps modes now facts pairs x × IsQuiet budget (goal_events modes rules x (suc (left - 1)) (spot_goal now here)) × FailsAlong modes rules x (suc (left - 1)) (spot_goal now here) (reverse notes)
    sink_quiet = (
      hyps,
      sink_are,
      subst (λ (n : ℕ). IsQuiet budget (goal_events modes rules hyps n (spot_goal now here))) (sym one_less) d.quiet,
      subst (λ (n : ℕ). FailsAlong modes rules hyps n (spot_goal now here) (reverse notes)) (sym one_less) d.fails,
    )

    sink_leads : (blame : Blame) → IsStuck modes subjects rules hyps (suc (left - 1)) (spot_goal now here) here.path.items blame → Leads blame
    sink_leads blame x = d.leads blame (subst (λ (n : ℕ). IsStuck modes subjects rules hyps n (spot_goal now here) here.path.items blame) one_less x)

    -- what the descent from here leads to
    module _ (new : Store) (more : List ℕ) where
      abbrev pub From : Descent → Type 0
      From x = (h : Hypotheses) → AreHyps modes now facts pairs h →
          IsDescent modes subjects rules h budget (left - 1) new more (IsStuck modes subjects rules h (suc (left - 1)) (spot_goal now here) here.path.items) x

      pub sink_descent : (x : Descent) → From x → IsDescent modes subjects rules hyps budget (left - 1) new more Leads x
      sink_descent x f =
          descent_weaker modes subjects rules hyps budget (left - 1) new more (IsStuck modes subjects rules hyps (suc (left - 1)) (spot_goal now here) here.path.items) Leads sink_leads x (f hyps sink_are)

      pub sink_ends : (spot : Spot) (reason : Reason) (blame : BlameOf) → From (Stuck spot reason) → blame_of blame ≡ blame_in new spot reason →
          (x : Hypotheses) → AreHyps modes old facts pairs x → IsStuck modes subjects rules x levels (spot_goal old first) first.path.items (blame_of blame)
      sink_ends spot reason blame f e x are =
          for_hyps modes old facts pairs hyps x d.are are (λ hs. IsStuck modes subjects rules hs levels (spot_goal old first) first.path.items (blame_of blame))
          (subst (λ (b : Blame). Leads b) (sym e) (sink_descent (Stuck spot reason) f).2)

      pub sink_goes : StoreGrows modes rules now new → (next : Spot) → From (Below next) → S new (left - 1) more next
      sink_goes g next f =
          let x = sink_descent (Below next) f in
          record { are = d.are; few = (let l = d.few in omega arith); grows = grows_then modes rules old now new d.grows g; below = x.0; quiet = x.2; fails = x.3; leads = x.4 }

  -- with no level left there is a stop
  pub sunk : (now : Store) (left : ℕ) (notes : List ℕ) (here : Spot) → left ≤ 0 → S now left notes here → ⊥
  unfolding goal_events
  sunk now zero notes here l d = d.quiet.no_stop tt
  sunk now (suc left) notes here l d = omega arith

-- the events of the first goal are those with 3,000 levels
pub events_quiet : (modes : Modes) (rules : List Rule) (hyps : Hypotheses) (budget : ℕ) (goal : Goal) → IsQuiet budget (events modes rules hyps goal 1) → IsQuiet budget (goal_events modes rules hyps 3000 goal)
unfolding events
events_quiet modes rules hyps budget goal q = q

-- a goal in a store of its own
module _ (modes : Modes) (rules : List Rule) (hyps : Hypotheses) (form : ℕ) (terms : List Tree) (wanted : Option (List Tree)) (p : Problem) (h : IsProblem modes rules hyps terms wanted p) where
  abbrev goal_here : Goal
  goal_here = record { form = form; terms = terms }

  pub goal_same : goal_in p.store form p.terms.items ≡ goal_here
  goal_same = λ i. record { form = form; terms = h.terms_are i }

  module _ (facts : List Fact) (pairs : List Pair) (e : facts ≡ p.facts.items) (f : pairs ≡ p.pairs.items) where
    pub problem_hyps : AreHyps modes p.store facts pairs hyps
    problem_hyps = record {
      facts_are = subst (λ (fs : List Fact). AreFacts modes (store_trees p.store) hyps.judgements fs) (sym e) h.facts;
      pairs_below = subst (λ (ps : List Pair). ArePairs (length (store_trees p.store)) ps) (sym f) h.pairs;
      pairs_are = ap (pairs_of (store_trees p.store)) f ∙ h.pairs_are;
    }

    pub problem_quiet : (budget levels : ℕ) (notes : List ℕ) → IsQuiet budget (goal_events modes rules hyps levels goal_here) → FailsAlong modes rules hyps levels goal_here (reverse notes) →
        (x : Hypotheses) × AreHyps modes p.store facts pairs x × IsQuiet budget (goal_events modes rules x levels (goal_in p.store form p.terms.items))
        × FailsAlong modes rules x levels (goal_in p.store form p.terms.items) (reverse notes)
    problem_quiet budget levels notes q f = (
      hyps,
      problem_hyps,
      subst (λ (g : Goal). IsQuiet budget (goal_events modes rules hyps levels g)) (sym goal_same) q,
      subst (λ (g : Goal). FailsAlong modes rules hyps levels g (reverse notes)) (sym goal_same) f,
    )

    pub problem_stuck : (subjects : Modes) (levels : ℕ) (path : List ℕ) (blame : Blame) →
        ((x : Hypotheses) → AreHyps modes p.store facts pairs x → IsStuck modes subjects rules x levels (goal_in p.store form p.terms.items) path blame) →
        IsStuck modes subjects rules hyps levels goal_here path blame
    problem_stuck subjects levels path blame s =
        subst (λ (g : Goal). IsStuck modes subjects rules hyps levels g path blame) goal_same (s hyps problem_hyps)
