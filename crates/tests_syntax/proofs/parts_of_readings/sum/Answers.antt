use Rattle.std.proofs.Common.{◌∙◌, ap, refl, ◌++◌, ◌∷◌, []}
use Rattle.sx_grammar.specs.Reading.{branch, variable, ◌▸◌, done}
use Rattle.sx_forest.specs.declared.reading.Reading.{Var}
use Rattle.sx_forest.specs.Readings.{plain_readings}
use Rattle.sx_forest.proofs.Kids.{reading-at_node}
use Rattle.tests_syntax.proofs.parts_of_readings.sum.Goals as goal

pub returns : goal.returns
returns c =
    let first = c.in_ok-push.ensures.items ∙ ap (λ xs. xs ++ c.in_ok-bracketed.field-0 ∷ []) c.new-kids.ensures.items in
    let both = c.in_ok-push-2.ensures.items ∙ ap (λ xs. xs ++ Var 4 ∷ []) first in
    reading-at_node _ 0 c.push-2.new.self 0 5 refl ∙ ap (λ rs. branch 0 (plain_readings rs) 0 5) both ∙ ap (λ r. branch 0 (r ▸ (variable 4 ▸ done)) 0 5) c.in_ok-bracketed.ensures
