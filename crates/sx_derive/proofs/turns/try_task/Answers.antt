use Rattle.std.proofs.Common.{refl, subst}
use Rattle.sx_arena.specs.Views.{rules_of, set_modes}
use Rattle.sx_derive.specs.Tasks.{IsNextCandidate}
use Rattle.sx_derive.specs.declared.step.Step.{Step}
use Rattle.sx_derive.specs.declared.step.Step.TheVariants.{Nothing}
use Rattle.sx_derive.proofs.Cut.{cut_grows, next_cut}
use Rattle.sx_derive.proofs.turns.try_task.Goals as goal

pub returns-in-Nothing : goal.returns-in-Nothing
returns-in-Nothing c = λ js a.
    let m = set_modes c.args.given.now.rules.now in
    let rs = rules_of c.args.given.now.rules.now in
    let n = subst (λ (s : Step). IsNextCandidate m rs c.args.given.now.pairs.now js c.args.store.now c.try_next.new.store c.args.task.now s) c.in-Nothing.is (c.in_ok-other.ensures js a) in
    next_cut m rs c.args.given.now.pairs.now js c.args.store.now c.try_next.new.store c.cut.new.self c.args.task.now Nothing refl
    (cut_grows m rs c.args.store.now c.try_next.new.store c.cut.new.self c.mark-mark.result c.requires.store c.mark-mark.ensures n.grows c.cut.ensures) n
