-- `verify --core` keeps its promise.
use Rattle.std.proofs.Common.{◌≡◌, ℕ, List, length, sym, ap, ◌∙◌}
use Rattle.std.specs.Prelude.{Ok, Some}
use Rattle.sx_outside.specs.Files.{Files, after_writes}
use Rattle.sx_term.specs.Tree.{Tree}
use Rattle.sx_rules.specs.Views.{modes_of}
use Rattle.sx_rules.specs.First.{Answer, DerivesGoal}
use Rattle.sx_rules.specs.Orders.{Entry, order_of}
use Rattle.sx_rules.specs.EntryView.{entries}
use Rattle.sx_core.specs.Problem.{Problem}
use Rattle.sx_replay.specs.Replay.{IsReplayAnswer}
use Rattle.sx_top.specs.CoreTexts.{term_lines}
use Rattle.sx_top.specs.FindFirst.{problem_rules}
use Rattle.sx_rules.specs.Rules.{no_hypotheses}
use Rattle.sx_steps.specs.Work.{Plan}
use Rattle.sx_verify.specs.Verified.{verified_plan}
use Rattle.sx_top.specs.VerifyCore.{VerifiesWhole, VerifiedUnit}
use Rattle.sx_steps.proofs.StepsOn.{went}

-- what is replayed is the list of a derivation with the outputs
module _ (derived : (problem : Problem) (list : List Entry) (outputs : List Tree) → IsReplayAnswer (modes_of problem.forms) (problem_rules problem) no_hypotheses problem.goal list (Ok outputs) → (answer : Answer) × DerivesGoal (modes_of problem.forms) (problem_rules problem) no_hypotheses problem.goal answer × (order_of answer.0 ≡ list) × (answer.1 ≡ outputs)) where
  pub verify_promise : (name : List ℕ) (old new : Files) (plan : Plan) → VerifiesWhole name old (Ok plan) → new ≡ after_writes plan.files old → VerifiedUnit name old new plan.lines
  verify_promise name old new plan verified files_are =
      let read = went _ _ _ verified in
      let held = went _ _ _ read.begins in
      let base = went _ _ _ read.goes in
      let base_held = went _ _ _ base.begins in
      let listed = went _ _ _ base.goes in
      let list_held = went _ _ _ listed.begins in
      let replayed = went _ _ _ listed.goes in
      let interface = went _ _ _ replayed.goes in
      let interface_held = went _ _ _ interface.begins in
      let answer = derived read.given (entries listed.given) replayed.given replayed.begins in
      let made : plan ≡ verified_plan name (length listed.given) = cc (interface.goes) in
      record {
        bytes = held.given;
        problem = read.given;
        list = listed.given;
        list_bytes = list_held.given;
        answer = answer.0;
        held = held.begins.0;
        stated = held.goes;
        base = base_held.begins.0 ∙ ap Some base_held.goes;
        listed = list_held.begins.0;
        states_list = list_held.goes;
        derives = answer.1;
        in_order = answer.2;
        interface = interface_held.begins.0 ∙ ap Some (interface_held.goes ∙ ap term_lines (sym answer.3));
        files = files_are ∙ ap (λ (p : Plan). after_writes p.files old) made;
        line = ap (λ (p : Plan). p.lines) made;
      }
