use Rattle.std.proofs.Common.{List, ℕ, subst, Contains}
use Rattle.std.specs.Prelude.{IsTrue, ◌↔◌}
use Rattle.sx_term.proofs.NameLaws.{found_is}
use Rattle.sx_term.proofs.names.Names.has.Goals as goal

pub returns : goal.returns
returns c =
    subst (λ (names : List (List ℕ)). IsTrue c.contains.result ↔ Contains names c.args.name.now) c.self.view_is
    (found_is c.self.inside.texts.keys c.args.name.now c.contains.result c.contains.ensures)
