use Rattle.std.proofs.Common.{List, ℕ, [], ◌∷◌, ap, ◌∙◌}
use Rattle.sx_term.specs.declared.lex_kind.LexKind.TheVariants.{Id}
use Rattle.sx_term.specs.declared.term.Term.{Lex}
use Rattle.sx_term.specs.Term.{tree}
use Rattle.sx_environment.specs.Environments.{with_import}
use Rattle.sx_environment.specs.SeenFrom.{seen_from}
use Rattle.sx_environment.proofs.Nodes.{node_tree}
use Rattle.sx_environment.proofs.building.add_node.Goals as goal

pub returns : goal.returns
returns c =
    node_tree c.args.given.now.dialect.language.now.main.add c.in_ok-from_array.field-0
    (c.args.before ∷ Lex Id c.in_ok-copy.field-0 ∷ c.args.seen ∷ [])
    c.in_ok-from_array.ensures.items
    ∙ ap (λ (name : List ℕ). with_import (seen_from c.args.given.now) (tree c.args.before) name
    (tree c.args.seen)) c.in_ok-copy.ensures
