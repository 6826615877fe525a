use Rattle.std.proofs.Common.{◌++◌, ◌∙◌, List, ℕ, ap}
use Rattle.sx_lines.specs.Reading.{written}
use Rattle.sx_rules.specs.ListText.{list_lines}
use Rattle.sx_rules.specs.Sets.{names_in}
use Rattle.sx_unit.proofs.ListTexts.{written_list}
use Rattle.sx_unit.proofs.texts.derivation_text.Goals as goal

pub returns : goal.returns
returns c =
    let text = written (list_lines (names_in c.args.rules.now) c.args.list.now) in
    c.in_ok-write_list.ensures.ok ∙ ap (λ (l : List ℕ). l ++ text) c.new-text.ensures.items
    ∙ written_list c.args.rules.now c.args.list.now
