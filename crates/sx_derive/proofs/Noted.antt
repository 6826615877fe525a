-- Notes of where a goal without an answer leads.
use Rattle.std.proofs.Common.{◌≡◌, ℕ, suc, List, [], ◌∷◌, ◌++◌, Option, Some, Vec, sym, ap, ◌∙◌, subst}
use Rattle.std.specs.Prelude.{reverse, option_to_list}
use Rattle.std.specs.declared.alloc.Global.{Global}
use Rattle.std.proofs.lemmas.List.{reverse-append}
use Rattle.sx_rules.specs.Rules.{Judgement, Rule, Hypotheses}
use Rattle.sx_rules.specs.Modes.{Modes, Goal}
use Rattle.sx_term.specs.Tree.{Tree}
use Rattle.sx_arena.specs.Arena.{trees}
use Rattle.sx_arena.specs.declared.pairs.Pair.{Pair}
use Rattle.sx_derive.specs.Descents.{RulesFailAlong}
use Rattle.sx_derive.specs.Failing.{FailsAlong}
use Rattle.sx_derive.specs.Handing.{answer_in}
use Rattle.sx_derive.specs.Noted.{IsFirstNoted}
use Rattle.sx_derive.specs.Quiet.{first_given, IsGivenIn}
use Rattle.sx_derive.specs.Store.{IsStore, IsMark, IsChainsCut, IsStoreCut, store_envs, store_kids}
use Rattle.sx_derive.specs.Traced.{IsTraced}
use Rattle.sx_derive.specs.Walk.{Answer as AnswerOf}
use Rattle.sx_derive.specs.Chains.{head_proof}
use Rattle.sx_derive.specs.Walked.{events_in}
use Rattle.sx_derive.specs.declared.first.First.TheVariants.{Answer, Nothing}
use Rattle.sx_derive.specs.declared.numbered_goal.NumberedGoal.{NumberedGoal}
use Rattle.sx_derive.specs.declared.chains.Head.{Head}
use Rattle.sx_derive.specs.declared.store.Mark.{Mark}
use Rattle.sx_derive.specs.declared.store.Store.{Store}
use Rattle.sx_derive.specs.declared.tasks.Task.{Task as TaskOf}
use Rattle.sx_derive.specs.declared.trace.Traced.TheVariants.{Answered, Failed}
use Rattle.sx_derive.proofs.Cut.{chains_cut_grows, cut_grows}
use Rattle.sx_derive.proofs.Tries.{tries-first}
use Rattle.sx_derive.proofs.Turned.{piled_grows}

-- the note that is taken off is the first of those read backwards
pub note_taken : (old new : List ℕ) (noted : Option ℕ) (k : ℕ) → old ≡ new ++ option_to_list noted → noted ≡ Some k → reverse old ≡ k ∷ reverse new
note_taken old new noted k e f = ap reverse (e ∙ ap (λ (x : Option ℕ). new ++ option_to_list x) f) ∙ reverse-append new (k ∷ [])

-- a goal that fails as the notes say does so among the rules
pub fails_rules : (modes : Modes) (rules : List Rule) (hyps : Hypotheses) (levels : ℕ) (goal : Goal) (notes : List ℕ) → FailsAlong modes rules hyps (suc levels) goal notes → RulesFailAlong modes rules hyps levels notes goal
unfolding FailsAlong
fails_rules modes rules hyps levels goal notes f k ks e = subst (λ (xs : List ℕ). FailsAlong modes rules hyps (suc levels) goal xs) e f

-- what a goal comes to, where all that it needs no more is cut off
module _ (modes : Modes) (rules : List Rule) (pairs : List Pair) (js : List Judgement) (n : ℕ) (old new last : Store) (goal : NumberedGoal) (m : Mark) (h : IsStore modes rules old) (k : IsMark old m) where
  abbrev goal_first : Option AnswerOf
  goal_first = first_given (events_in modes rules pairs js old goal.levels goal.form goal.terms.items)

  pub noted_answer : (tries spare : ℕ) (head : Head) (outs : Vec ℕ Global) (left : List TaskOf) → IsTraced modes rules pairs js n old new tries spare goal.levels goal.form goal.terms.items left (Answered head outs) → IsChainsCut m new last →
      IsFirstNoted modes rules pairs js old last goal (Answer outs)
  noted_answer tries spare head outs left x c =
      let e : goal_first ≡ Some (answer_in new head outs.items) = ap first_given x.4.2 ∙ tries-first x.4.0 _ in (
        chains_cut_grows modes rules old new last m h k (piled_grows modes rules n old new left x.1) c,
        subst (λ (ts : List Tree). IsGivenIn ts goal_first outs) (sym (ap trees c.arena)) (x.3, (head_proof (store_envs new) (store_kids new) head, e)),
      )

  pub noted_nothing : (tries spare : ℕ) (notes : Vec ℕ Global) (left : List TaskOf) → IsTraced modes rules pairs js n old new tries spare goal.levels goal.form goal.terms.items left (Failed notes) → IsStoreCut m new last → IsFirstNoted modes rules pairs js old last goal (Nothing notes)
  noted_nothing tries spare notes left x c = (cut_grows modes rules old new last m h k x.0.0 c, (ap first_given x.0.1.2 ∙ tries-first x.0.1.0 [], x.1))
