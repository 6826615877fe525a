use Rattle.std.proofs.Common.{◌∙◌}
use Rattle.sx_token.proofs.TableLemmas.{found_if, none_if}
use Rattle.sx_token.proofs.table.place_of.Goals as goal

pub returns-clause-found : goal.returns-clause-found
returns-clause-found c = found_if c.args.table.now.literals.now c.args.text.now c.copied.result _ (c.copied.ensures ∙ c.get.ensures.value) (c.requires.found c.args.text.now)

pub returns-clause-none : goal.returns-clause-none
returns-clause-none c = none_if _ c.copied.result _ (c.copied.ensures ∙ c.get.ensures.value) (c.requires.none c.args.text.now)
