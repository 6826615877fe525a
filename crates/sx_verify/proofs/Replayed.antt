-- What is replayed is a derivation, whose outputs pass no limit.
use Rattle.std.proofs.Common.{◌≡◌, ℕ, Bool, true, false, List, [], ◌∷◌, ◌++◌}
use Rattle.std.proofs.Common.{Option, Some, None, refl, sym, ap, ◌∙◌}
use Rattle.std.specs.Prelude.{Ok, nat_lt, slice_get}
use Rattle.std.proofs.lemmas.Bool.{ltb-false}
use Rattle.sx_term.specs.Tree.{Tree, depth_of}
use Rattle.sx_rules.specs.Rules.{Rule}
use Rattle.sx_rules.specs.Instances.{bound_by}
use Rattle.sx_rules.specs.Modes.{Modes, Goal, outputs_of}
use Rattle.sx_rules.specs.Derivations.{Proof, by, given, AreShallow}
use Rattle.sx_rules.specs.First.{Answer, DerivesGoal}
use Rattle.sx_rules.specs.Orders.{Entry, order_of}
use Rattle.sx_replay.specs.Limits.{first_of, first_deep}
use Rattle.sx_replay.specs.Fronts.{asked_of, concluded_of, whole, made_in, made_below}
use Rattle.sx_replay.specs.Replay.{IsWithin, IsReplayAnswer}
use Rattle.sx_rules.specs.Rules.{no_hypotheses}

first_none : (b : Bool) (n : ℕ) (later : Option ℕ) → first_of b n later ≡ None →
    (b ≡ false) × (later ≡ None)
first_none true n later e = absurd cc
first_none false n later e = (refl, e)

deep_later : (ts us : List Tree) → first_deep (ts ++ us) ≡ None → first_deep us ≡ None
deep_later [] us e = e
deep_later (t ∷ ts) us e =
    deep_later ts us (first_none (nat_lt 1000 (depth_of t)) (depth_of t) (first_deep (ts ++ us))
    e).1

none_deep : (ts : List Tree) → first_deep ts ≡ None → AreShallow ts
none_deep [] e = tt
none_deep (t ∷ ts) e =
    let f = first_none (nat_lt 1000 (depth_of t)) (depth_of t) (first_deep ts) e in
    (ltb-false 1000 (depth_of t) f.0, none_deep ts f.1)

no_given : {A : Type 0} (i : ℕ) (a : A) → slice_get [] i ≡ Some a → ⊥
no_given i a e = absurd cc

module _ (modes : Modes) (rules : List Rule) (goal : Goal) where
  -- the outputs are the last terms that a derivation makes
  made_last : (q : Proof) (outs : List Tree) →
      DerivesGoal modes rules no_hypotheses goal (q, outs) →
      (front : List Tree) × (made_in modes rules q ≡ front ++ outs)
  made_last (given i) outs (j, g, o, d) = absurd (no_given i j d)
  made_last (by r binds kids) outs (j, g, o, (rule, at, few, concluded, all_apart, each)) =
      let front = made_below modes rules (asked_of (slice_get rules r)) (bound_by binds) kids in (
        front,
        ap (λ ts. front ++ ts) (ap (λ x. concluded_of modes x (bound_by binds)) at
            ∙ ap (outputs_of modes) concluded ∙ o),
      )

  pub replayed_shallow : (list : List Entry) (outs : List Tree) →
      IsWithin modes rules no_hypotheses goal (whole outs) list → AreShallow outs
  replayed_shallow list outs w =
      let front = w.front in
      let last = made_last front.0 outs front.1 in
      none_deep outs (deep_later last.0 outs (ap first_deep (sym last.1 ∙ front.3) ∙ w.shallow))

  -- what is replayed is the list of a derivation with the outputs
  pub replayed_derives : (list : List Entry) (outs : List Tree) →
      IsReplayAnswer modes rules no_hypotheses goal list (Ok outs) →
      (answer : Answer) × DerivesGoal modes rules no_hypotheses goal
      answer × (order_of answer.0 ≡ list) × (answer.1 ≡ outs)
  replayed_derives list outs w = let front = w.front in ((front.0, outs), front.1, front.2, refl)
