use Rattle.std.proofs.Common.{◌+◌, ◌∷◌, [], ◌++◌, List, length, None, refl, ap, ◌∙◌, subst}
use Rattle.std.proofs.lemmas.List.{append_assoc}
use Rattle.sx_derive.specs.declared.tasks.Task.{Task}
use Rattle.sx_derive.specs.Turns.{IsTaskTurn}
use Rattle.sx_arena.specs.Views.{rules_of, set_modes}
use Rattle.sx_derive.proofs.Turned.{turn_nothing, turn_passed, turn_spent, turn_goes, turn_found}
use Rattle.sx_derive.proofs.turns.turn.Goals as goal

-- the task after its next candidate
abbrev after : Task → Task
after t = record { next = t.next + 1; form = t.form; terms = t.terms; levels = t.levels; frames = t.frames; mark = t.mark }

pub returns-in-Nothing : goal.returns-in-Nothing
returns-in-Nothing c = (
  after c.args.task ∷ [],
  c.in_ok-push.ensures.items,
  λ js a before f.
      let m = set_modes c.args.given.now.rules.now in
      let rs = rules_of c.args.given.now.rules.now in
      let n = length c.args.given.now.facts.now + length rs in
      let s = c.args.store.now in
      let w = c.try_task.new.store in
      let t = c.args.task in
      let x = c.in_ok-step.ensures js a in
      (turn_nothing m rs c.args.given.now.pairs.now js n s w t (after t) before c.in_ok-step.step c.requires.store c.requires.pairs c.requires.task f c.requires.next x refl refl refl refl refl refl c.in-Nothing.is),
)

pub returns-in-Passed : goal.returns-in-Passed
returns-in-Passed c = (
  after c.args.task ∷ [],
  c.in_ok-push.ensures.items,
  λ js a before f.
      let m = set_modes c.args.given.now.rules.now in
      let rs = rules_of c.args.given.now.rules.now in
      let n = length c.args.given.now.facts.now + length rs in
      let s = c.args.store.now in
      let w = c.try_task.new.store in
      let t = c.args.task in
      let x = c.in_ok-step.ensures js a in
      (turn_passed m rs c.args.given.now.pairs.now js n s w t (after t) before c.in_ok-step.step c.requires.store c.requires.pairs c.requires.task f c.requires.next x refl refl refl refl refl refl c.in-Passed.limit c.in-Passed.is),
)

pub returns-in-DepthSpent : goal.returns-in-DepthSpent
returns-in-DepthSpent c = (
  after c.args.task ∷ [],
  c.in_ok-push.ensures.items,
  λ js a before f.
      let m = set_modes c.args.given.now.rules.now in
      let rs = rules_of c.args.given.now.rules.now in
      let n = length c.args.given.now.facts.now + length rs in
      let s = c.args.store.now in
      let w = c.try_task.new.store in
      let t = c.args.task in
      let x = c.in_ok-step.ensures js a in
      (turn_spent m rs c.args.given.now.pairs.now js n s w t (after t) before c.in_ok-step.step c.requires.store c.requires.pairs c.requires.task f c.requires.next x refl refl refl refl refl refl c.in-DepthSpent.is),
)

pub returns-in_ok-push-in-Goes : goal.returns-in_ok-push-in-Goes
returns-in_ok-push-in-Goes c = (
  after c.args.task ∷ c.new_task.result ∷ [],
  c.in_ok-push-in-Goes.ensures.items ∙ ap (λ (ts : List Task). ts ++ c.new_task.result ∷ []) c.in_ok-push.ensures.items ∙ append_assoc c.args.tasks.now.items (after c.args.task ∷ []) (c.new_task.result ∷ []),
  λ js a before f.
      let m = set_modes c.args.given.now.rules.now in
      let rs = rules_of c.args.given.now.rules.now in
      let n = length c.args.given.now.facts.now + length rs in
      let s = c.args.store.now in
      let w = c.try_task.new.store in
      let t = c.args.task in
      let x = c.in_ok-step.ensures js a in
      let more = c.new_task.result in
      subst (λ (ts : List Task). IsTaskTurn m rs c.args.given.now.pairs.now js n s w t before ts None) (append_assoc before (after t ∷ []) (more ∷ []))
      (turn_goes m rs c.args.given.now.pairs.now js n s w t (after t) before c.in_ok-step.step c.requires.store c.requires.pairs c.requires.task f c.requires.next x refl refl refl refl refl refl c.in-Goes.form c.in-Goes.terms c.in-Goes.levels c.in-Goes.frames c.mark-mark.result more c.mark-mark.ensures c.in-Goes.is c.new_task.ensures),
)

pub returns-in-Done : goal.returns-in-Done
returns-in-Done c = (
  after c.args.task ∷ [],
  c.in_ok-push.ensures.items,
  λ js a before f.
      let m = set_modes c.args.given.now.rules.now in
      let rs = rules_of c.args.given.now.rules.now in
      let n = length c.args.given.now.facts.now + length rs in
      let s = c.args.store.now in
      let w = c.try_task.new.store in
      let t = c.args.task in
      let x = c.in_ok-step.ensures js a in
      (turn_found m rs c.args.given.now.pairs.now js n s w t (after t) before c.in_ok-step.step c.requires.store c.requires.pairs c.requires.task f c.requires.next x refl refl refl refl refl refl c.in-Done.head c.in-Done.outputs c.in-Done.is),
)
