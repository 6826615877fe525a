use Rattle.std.proofs.Common.{◌≤◌, ◌++◌, ◌∙◌, ◌↔◌, IsTrue, List, ℕ, sym, subst, arith, length}
use Rattle.sx_term.specs.Shapes.{shapes}
use Rattle.sx_rules.specs.Views.{forms, named}
use Rattle.sx_rules.specs.Good.{IsAmong}
use Rattle.sx_rules.proofs.SetLaws.{is_good, not_among}
use Rattle.sx_rules.proofs.checking.Checking.check_rule.Goals as goal

pub returns : goal.returns
returns c =
    let few : length c.args.it.now.vars.items ≤ 64 = omega arith in
    let taken = c.args.self.now.before.now ++ c.args.seen.now in
    is_good (shapes c.args.self.now.shapes.now) (forms c.args.self.now.forms.now) taken (named c.args.it.now) few
    (not_among c.is_taken.result c.args.it.now.name taken c.if-is_taken.false
    (subst (λ (name : List ℕ). IsTrue c.is_taken.result ↔ IsAmong name taken) c.bytes.ensures.value c.is_taken.ensures))
    (c.rule_fits.ensures.0 c.if-not-rule_fits.false)
    (sym c.in_ok-part.ensures ∙ c.in_default.is)
    (sym c.in_ok-variable.ensures ∙ c.in_default-2.is)

pub returns-then-is_taken : goal.returns-then-is_taken
returns-then-is_taken c =
    let few : length c.args.it.now.vars.items ≤ 64 = omega arith in
    let taken = c.args.self.now.before.now ++ c.args.seen.now in (
      c.in_ok-copy-2.ensures,
      few,
      subst (λ (name : List ℕ). IsAmong name taken) c.bytes.ensures.value (c.is_taken.ensures.0 c.if-is_taken.true),
    )
