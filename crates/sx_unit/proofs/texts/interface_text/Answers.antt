use Rattle.std.proofs.Common.{◌++◌, ◌∙◌, List, ℕ, ap}
use Rattle.sx_lines.specs.Reading.{written}
use Rattle.sx_interface.specs.InterfaceView.{interface_view}
use Rattle.sx_interface.specs.Interfaces.{InterfaceParts, interface_lines}
use Rattle.sx_unit.proofs.texts.interface_text.Goals as goal

pub returns : goal.returns
returns c =
    let text = written (interface_lines (interface_view c.in_ok-it.it)) in
    c.in_ok-write_interface.ensures.ok ∙ ap (λ (l : List ℕ). l ++ text) c.new-text.ensures.items
    ∙ ap (λ (it : InterfaceParts). written (interface_lines it)) c.in_ok-it.ensures
