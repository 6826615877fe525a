use Rattle.std.proofs.Common.{ℕ, List, ◌++◌, sym, ap, ◌∙◌}
use Rattle.std.proofs.lemmas.List.{append-nil}
use Rattle.sx_rules.specs.Sets.{rules_in}
use Rattle.sx_rules.proofs.NameLaws.{unnamed}
use Rattle.sx_check.proofs.certificate_text.put_name.Goals as goal

pub returns-in_default : goal.returns-in_default
returns-in_default c =
    let now = c.args.into.now.items in
    sym (append-nil now) ∙ ap (λ (more : List ℕ). now ++ more) (unnamed (rules_in c.args.rules.now) c.args.number c.in_default.ensures)
