use Rattle.sx_arena.specs.Views.{rules_of, set_modes}
use Rattle.sx_derive.specs.Runs.{candidates_of}
use Rattle.sx_derive.specs.Walked.{events_in}
use Rattle.sx_derive.proofs.Halted.{quiet_halts}
use Rattle.sx_derive.proofs.Noted.{noted_answer, noted_nothing}
use Rattle.sx_derive.proofs.first.first_noted.Goals as goal

pub returns-in-Answered : goal.returns-in-Answered
returns-in-Answered c = λ js a.
    noted_answer (set_modes c.args.given.now.rules.now) (rules_of c.args.given.now.rules.now) c.args.given.now.pairs.now js (candidates_of c.args.given.now) c.args.store.now c.trace.new.store c.cut_chains.new.self c.args.goal c.mark-mark.result c.requires.store c.mark-mark.ensures c.args.budget c.trace.new.tries c.in-Answered.head c.in-Answered.outputs c.in_ok-traced.ensures.0
    (rw c.in-Answered.is at (c.in_ok-traced.ensures.2 js a)) c.cut_chains.ensures

pub returns-in-Failed : goal.returns-in-Failed
returns-in-Failed c = λ js a.
    noted_nothing (set_modes c.args.given.now.rules.now) (rules_of c.args.given.now.rules.now) c.args.given.now.pairs.now js (candidates_of c.args.given.now) c.args.store.now c.trace.new.store c.cut.new.self c.args.goal c.mark-mark.result c.requires.store c.mark-mark.ensures c.args.budget c.trace.new.tries c.in-Failed.notes c.in_ok-traced.ensures.0
    (rw c.in-Failed.is at (c.in_ok-traced.ensures.2 js a)) c.cut.ensures

pub unreachable-requires : goal.unreachable-requires
unreachable-requires c =
    let js = c.requires.facts.0 in
    let x = rw c.in-Halted.is at (c.in_ok-traced.ensures.2 js c.requires.facts.1) in
    quiet_halts c.args.budget c.trace.new.tries (events_in (set_modes c.args.given.now.rules.now) (rules_of c.args.given.now.rules.now) c.args.given.now.pairs.now js c.args.store.now c.args.goal.levels c.args.goal.form c.args.goal.terms.items) c.in-Halted.field-0 (c.requires.quiet js c.requires.facts.1) x.1
