use Rattle.std.proofs.Common.{◌∙◌}
use Rattle.sx_words.proofs.options.Options.has_kind.Goals as goal

pub returns : goal.returns
returns c = c.contains.ensures ∙ c.requires c.args.kind.now
