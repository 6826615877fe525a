use Rattle.std.proofs.Common.{⊎_elim}
use Rattle.sx_rules.specs.Views.{hypotheses}
use Rattle.sx_arena.specs.Views.{rules_of, set_modes}
use Rattle.sx_derive.proofs.Standing.{not_failed, again_passed}
use Rattle.sx_derive.proofs.search.Search.next.Goals as goal

pub returns-in-Passed-clause-next : goal.returns-in-Passed-clause-next
returns-in-Passed-clause-next g c = λ es h. again_passed (set_modes c.args.rules.now) (rules_of c.args.rules.now) (hypotheses c.args.given.now) c.args.budget c.args.steps.now c.args.self.now es h c.in-Passed.limit c.limit_error.result c.in-Passed.is c.limit_error.ensures

pub go_on-requires-clause-stands : goal.go_on-requires-clause-stands
go_on-requires-clause-stands g c = ⊎_elim (λ x. x) (λ f. absurd (not_failed c.args.self.now.state c.in-Open.is f)) c.requires.stands

pub go_on-requires-clause-open : goal.go_on-requires-clause-open
go_on-requires-clause-open g c = c.in-Open.is
