-- What is lowered within the limits is replayed within them.
use Rattle.std.proofs.Common.{◌≡◌, ℕ, ◌≤◌, Bool, true, false, List, [], ◌∷◌}
use Rattle.std.proofs.Common.{◌++◌, map, Option, Some, None, refl, sym, ap, ◌∙◌, subst, arith}
use Rattle.std.specs.Prelude.{slice_get, nat_lt, Ok, if◌then◌else◌}
use Rattle.std.specs.List.{AllByRecursion}
use Rattle.std.proofs.lemmas.Bool.{le-ltb, ltb-false}
use Rattle.sx_term.specs.Sorts.{Shape}
use Rattle.sx_term.specs.Tree.{Tree, depth_of, size_of}
use Rattle.sx_rules.specs.Derivations.{Proof, Proofs, by, given, no_more, ◌⊳◌, Derives, DeriveEach}
use Rattle.sx_rules.specs.Derivations.{nodes_of, height_of}
use Rattle.sx_rules.specs.First.{DerivesGoal}
use Rattle.sx_rules.specs.Instances.{bound_by}
use Rattle.sx_rules.specs.Modes.{Modes, inputs, outputs, inputs_of, outputs_of, Goal}
use Rattle.sx_rules.specs.Orders.{order_of}
use Rattle.sx_rules.specs.Rules.{Judgement, Rule, no_hypotheses, judgement_instance}
use Rattle.sx_rules.specs.Rules.{judgements_of}
use Rattle.sx_replay.specs.Fronts.{asked_of, concluded_of, made_in, made_below, whole}
use Rattle.sx_replay.specs.Limits.{first_of, first_deep, first_big}
use Rattle.sx_replay.specs.Replay.{IsWithin}
use Rattle.sx_auditing.proofs.Once.{all-back, all-joined}
use Rattle.sx_rewrite.specs.Accepted.{Accepted, Signature, IsAccepted}
use Rattle.sx_rewrite.specs.Measured.{node_terms, AllPass, ProofPasses, ProofsPass}
use Rattle.sx_rewrite.specs.Puts.{IsSmallTerm}
use Rattle.sx_rewrite.specs.Rewriting.{first_over, Rewritten, IsRewritten}
use Rattle.sx_rewrite.proofs.BasedTerms.{small-here}
use Rattle.sx_rewrite.proofs.Counted.{lowered_are_counted}
use Rattle.sx_rewrite.proofs.Measured.{measured_are_all}

-- ---- terms that pass no limit

-- the test that a term passes none
abbrev fits : Tree → Bool
fits t =
    if nat_lt 1000 (depth_of t) then false
    else if nat_lt 1000000 (size_of t) then false else true

abbrev pub AllSmall : List Tree → Type 0
AllSmall ts = AllByRecursion IsSmallTerm ts

none_over : (ts : List Tree) → first_over ts ≡ None → AllPass fits ts
none_over [] e = tt
none_over (t ∷ ts) e =
    let here = small-here t ts e in (
      ap (λ (b : Bool). if b then false else
          if nat_lt 1000000 (size_of t) then false else true) (le-ltb 1000 (depth_of t) here.0.0)
          ∙ ap (λ (b : Bool). if b then false else true) (le-ltb 1000000 (size_of t) here.0.1),
      none_over ts here.1,
    )

both_false : (x y : Bool) → (if x then false else if y then false else true) ≡ true →
    (x ≡ false) × (y ≡ false)
both_false true y e = cc
both_false false true e = cc
both_false false false e = (refl, refl)

all_small : (ts : List Tree) → AllPass fits ts → AllSmall ts
all_small [] h = tt
all_small (t ∷ ts) h =
    let tests = both_false (nat_lt 1000 (depth_of t)) (nat_lt 1000000 (size_of t)) h.0 in
    let small : IsSmallTerm t =
    (ltb-false 1000 (depth_of t) tests.0, ltb-false 1000000 (size_of t) tests.1) in
    (small, all_small ts h.1)

none_noted : (ts : List Tree) → AllSmall ts → (first_deep ts ≡ None) × (first_big ts ≡ None)
none_noted [] h = (refl, refl)
none_noted (t ∷ ts) h =
    let rest = none_noted ts h.1 in (
      ap (λ (b : Bool). first_of b (depth_of t) (first_deep ts))
          (le-ltb 1000 (depth_of t) h.0.0) ∙ rest.0,
      ap (λ (b : Bool). first_of b (size_of t) (first_big ts))
          (le-ltb 1000000 (size_of t) h.0.1) ∙ rest.1,
    )

inputs_small : (bs : List Bool) (ts : List Tree) → AllSmall ts → AllSmall (inputs bs ts)
inputs_small [] ts h = h
inputs_small (b ∷ bs) [] h = tt
inputs_small (true ∷ bs) (t ∷ ts) h = inputs_small bs ts h.1
inputs_small (false ∷ bs) (t ∷ ts) h = (h.0, inputs_small bs ts h.1)

outputs_small : (bs : List Bool) (ts : List Tree) → AllSmall ts → AllSmall (outputs bs ts)
outputs_small [] ts h = tt
outputs_small (b ∷ bs) [] h = tt
outputs_small (true ∷ bs) (t ∷ ts) h = (h.0, outputs_small bs ts h.1)
outputs_small (false ∷ bs) (t ∷ ts) h = outputs_small bs ts h.1

-- ---- derivations of which no node has a term that passes a limit

module _ (modes : Modes) (rules : List Rule) where
  -- what a node concludes
  concluded_small : (r : ℕ) (binds : List Tree) (rule : Rule) → slice_get rules r ≡ Some rule →
      AllPass fits (node_terms (slice_get rules r) binds) →
      AllSmall (judgement_instance (bound_by binds) rule.conclusion).places
  concluded_small r binds rule at h =
      all-back IsSmallTerm binds (judgement_instance (bound_by binds) rule.conclusion).places
      (all_small (node_terms (Some rule) binds)
      (subst (λ (o : Option Rule). AllPass fits (node_terms o binds)) at h))

  root_small : (j : Judgement) (p : Proof) → Derives rules no_hypotheses j p →
      ProofPasses fits rules p → AllSmall j.places
  root_small j (given i) d h = cc
  root_small j (by r binds kids) (rule, at, many, concluded, all_apart, each) h =
      subst (λ (k : Judgement). AllSmall k.places) concluded (concluded_small r binds rule at h.0)

  mutual
    made_small : (j : Judgement) (p : Proof) → Derives rules no_hypotheses j p →
        ProofPasses fits rules p → AllSmall (made_in modes rules p)
    made_small j (given i) d h = tt
    made_small j (by r binds kids) (rule, at, many, concluded, all_apart, each) h =
        let own = judgement_instance (bound_by binds) rule.conclusion in
        subst (λ (o : Option Rule). AllSmall (made_below modes rules (asked_of o)
        (bound_by binds) kids ++ concluded_of modes o (bound_by binds))) (sym at)
        (all-joined IsSmallTerm
        (made_below modes rules (judgements_of rule.premises) (bound_by binds) kids)
        (outputs_of modes own)
        (below_small (judgements_of rule.premises) (bound_by binds) kids each h.1)
        (outputs_small (modes own.form) own.places (concluded_small r binds rule at h.0)))

    below_small : (js : List Judgement) (s : ℕ → Tree) (kids : Proofs) →
        DeriveEach rules no_hypotheses (map (judgement_instance s) js) kids →
        ProofsPass fits rules kids → AllSmall (made_below modes rules js s kids)
    below_small [] s kids d h = tt
    below_small (j ∷ js) s no_more d h = tt
    below_small (j ∷ js) s (p ⊳ kids) d h =
        let asked = judgement_instance s j in
        all-joined IsSmallTerm (inputs_of modes asked)
        (made_in modes rules p ++ made_below modes rules js s kids)
        (inputs_small (modes asked.form) asked.places (root_small asked p d.0 h.0))
        (all-joined IsSmallTerm (made_in modes rules p) (made_below modes rules js s kids)
        (made_small asked p d.0 h.0) (below_small js s kids d.1 h.1))

  -- ---- lowered derivations

  module _ (sig : Signature) (base shapes : List Shape) (a : Accepted)
      (ok : IsAccepted sig base shapes a) (same : a.base ≡ rules) (p : Proof) (nodes : ℕ)
      (x : Rewritten) (is : IsRewritten a sig.subjects no_hypotheses p nodes (Ok x)) where
    passes : ProofPasses fits rules x.proof
    passes =
        let limits = is.2 in
        let measured = limits.2 in
        subst (λ (rs : List Rule). ProofPasses fits rs x.proof) same
        (measured_are_all sig base shapes a ok no_hypotheses p x.proof x.judgement measured.0 is.0
        measured.1 fits (none_over measured.0 measured.2))

    -- it has no more nodes than there may be
    pub lowered_few : nodes_of x.proof ≤ nodes
    lowered_few =
        let counted = (lowered_are_counted sig a no_hypotheses p x.proof x.judgement is.0).0 in
        let few = is.2.0 in
        omega (arith, counted, few)

    module _ (goal : Goal) (outs : List Tree)
        (derives : DerivesGoal modes rules no_hypotheses goal (x.proof, outs)) where
      -- the terms of its goal pass no limit
      pub goal_small : AllSmall goal.terms
      goal_small =
          let j = derives.0 in
          subst (λ (g : Goal). AllSmall g.terms) derives.1
          (inputs_small (modes j.form) j.places (root_small j x.proof derives.3 passes))

      -- and it is replayed within the limits
      pub lowered_within : IsWithin modes rules no_hypotheses goal (whole outs) (order_of x.proof)
      lowered_within =
          let made = none_noted (made_in modes rules x.proof)
          (made_small derives.0 x.proof derives.3 passes) in
          let counted = (lowered_are_counted sig a no_hypotheses p x.proof x.judgement is.0).1 in
          let low = is.2.1 in
          record {
            terms = made_in modes rules x.proof;
            depth = height_of x.proof;
            front = (x.proof, derives, refl, refl, refl);
            shallow = made.0;
            small = made.1;
            level = omega (arith, counted, low);
          }
