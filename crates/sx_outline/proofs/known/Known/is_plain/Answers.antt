use Rattle.std.proofs.Common.{sym, ◌∙◌}
use Rattle.sx_outline.specs.Fitting.{sort_named}
use Rattle.sx_outline.specs.View.{known}
use Rattle.sx_outline.proofs.BeforeLaws.{plain_is, no_plain}
use Rattle.sx_outline.proofs.known.Known.is_plain.Goals as goal

pub returns-in-Some : goal.returns-in-Some
returns-in-Some c = plain_is (sort_named (known c.args.self.now) c.args.name.now) c.in-Some.typed (sym c.in-Some.is ∙ c.typed_of.ensures)

pub returns-in-None : goal.returns-in-None
returns-in-None c = no_plain (sort_named (known c.args.self.now) c.args.name.now) (sym c.in-None.is ∙ c.typed_of.ensures)
