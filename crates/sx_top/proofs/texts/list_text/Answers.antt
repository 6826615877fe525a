use Rattle.std.proofs.Common.{ℕ, List, ◌++◌, ap, ◌∙◌}
use Rattle.sx_lines.specs.Reading.{written}
use Rattle.sx_rules.specs.ListText.{list_lines}
use Rattle.sx_rules.specs.Sets.{names_in}
use Rattle.sx_top.proofs.Listed.{written_text}
use Rattle.sx_top.proofs.texts.list_text.Goals as goal

pub returns : goal.returns
returns c =
    c.in_ok-write_list.ensures.ok
    ∙ ap (λ (l : List ℕ). l ++ written (list_lines (names_in c.args.rules.now) c.args.list.now)) c.new-bytes.ensures.items
    ∙ written_text c.args.rules.now c.args.list.now
