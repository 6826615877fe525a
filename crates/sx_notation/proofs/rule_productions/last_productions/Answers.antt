use Rattle.std.proofs.Common.{◌≡◌, ◌+◌, ◌-◌, ◌∙◌, length, drop, map, ap, arith}
use Rattle.std.proofs.lemmas.Result.{IfOk-weaker}
use Rattle.sx_grammar.specs.Parts.{line}
use Rattle.sx_notation.proofs.Further.{further}
use Rattle.sx_notation.proofs.rule_productions.last_productions.Goals as goal

pub returns : goal.returns
returns c =
    let first = c.len.result - (c.args.forms + 3) in
    let many_there : c.len.result ≡ length c.args.by_rules.now.productions.items = omega (arith, c.len.ensures) in
    let here : first ≡ length c.args.by_rules.now.productions.items - (c.args.forms + 3) = omega (arith, many_there) in
    let behind : c.split_at.result.1.now ≡ drop first c.args.by_rules.now.productions.items = c.split_at.ensures.back ∙ ap (drop first) c.deref.ensures.value in
    IfOk-weaker c.copy_productions.result _ _
    (λ v same lines p is many. same ∙ ap (map line) behind ∙ further c.args.by_rules.now lines p c.args.forms is many first here)
    c.copy_productions.ensures
