use Rattle.std.proofs.Common.{sym, subst}
use Rattle.std.specs.Prelude.{IfSome}
use Rattle.std.specs.Str.{IsValidUpTo}
use Rattle.sx_term.specs.Cutting.{not_utf8, IsOutcome, AreDistinct}
use Rattle.sx_term.proofs.CutLaws.{IsOutcome-same}
use Rattle.sx_token.specs.Tokens.{outcome_of}
use Rattle.sx_token.proofs.CutLemmas.{only_answer}
use Rattle.sx_token.proofs.literals.Literals.tokens.Goals as goal

pub returns-in-Ok-clause-only : goal.returns-in-Ok-clause-only
returns-in-Ok-clause-only c = only_answer c.args.self.now c.args.metas c.in-Ok.text.now c.args.bytes.now (outcome_of c.cut.result) (subst AreDistinct c.self.view_is c.self.invariant.0) c.in-Ok.ensures.cases.0
    (subst (λ literals. IfSome (outcome_of c.cut.result) (IsOutcome literals c.args.metas c.in-Ok.text.now)) c.self.view_is c.cut.ensures)

pub returns-in-Err-clause-only : goal.returns-in-Err-clause-only
returns-in-Err-clause-only c = λ o is.
    IsOutcome-same c.args.self.now c.args.metas c.args.bytes.now (subst AreDistinct c.self.view_is c.self.invariant.0) (not_utf8 c.valid_up_to.result) o
    (subst (IsValidUpTo c.args.bytes.now) (sym c.valid_up_to.ensures) c.in-Err.ensures.cases.1) is
