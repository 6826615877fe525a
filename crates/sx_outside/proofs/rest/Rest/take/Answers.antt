use Rattle.std.proofs.Common.{◌≡◌, ◌-◌, length, drop, refl, sym, ap, ◌∙◌, length-drop, rules, arith}
use Rattle.std.proofs.lemmas.Grind.{common_steps}
use Rattle.std.proofs.lemmas.List.{drop_all, drop-drop}
use Rattle.sx_outside.proofs.rest.Rest.take.Goals as goal

pub returns-then-self-len-clause-answer : goal.returns-then-self-len-clause-answer
returns-then-self-len-clause-answer c =
    let bytes = c.self.inside.bytes.items in
    let left : c.args.self.now ≡ drop c.self.inside.taken bytes = cc in
    let none = left ∙ drop_all c.self.inside.taken bytes (omega arith) in (refl, (none, none))

pub returns-clause-answer : goal.returns-clause-answer
returns-clause-answer c =
    let count = c.min-count.result in
    let taken = c.self.inside.taken in
    let bytes = c.self.inside.bytes.items in
    let left : c.args.self.now ≡ drop taken bytes = cc in
    let size : length c.args.self.now ≡ length bytes - taken =
    ap length left ∙ length-drop taken bytes in (
      omega arith,
      λ some. omega arith,
      grind (arith, common_steps),
      (
        omega arith,
        omega arith,
        search rules,
        sym (ap (drop count) left ∙ drop-drop count taken bytes),
      ),
    )
