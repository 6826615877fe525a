use Rattle.std.proofs.Common.{◌∙◌, ap, sym}
use Rattle.sx_grammar.proofs.Filing.{list_at-is}
use Rattle.sx_grammar.proofs.cycle.list.Goals as goal

pub returns : goal.returns
returns c = c.deref.ensures.value ∙ ap (λ v. v.items) c.index-lists-place.is ∙ sym (list_at-is c.args.lists.now c.args.place c.index-lists-place.result c.requires)
