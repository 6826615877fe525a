use Rattle.std.proofs.Common.{◌-◌, ◌≤◌, List, [], length, sym, subst}
use Rattle.std.specs.List.{AllByRecursion}
use Rattle.sx_token.specs.declared.token.Token.{Token}
use Rattle.sx_grammar.specs.Print.{term_of}
use Rattle.sx_earley.specs.Tokens.{plain_tokens}
use Rattle.sx_forest.specs.Readings.{plain_reading}
use Rattle.sx_derive.specs.Blames.{blame_of}
use Rattle.sx_typing.specs.Dialects.{dialect_of}
use Rattle.sx_typing.proofs.MainGoals.{parts_have_places}
use Rattle.sx_typing.proofs.TypeErrors.{can_tell, tokens_within}
use Rattle.sx_typing.proofs.type_error.type_error.Goals as goal

pub stuck_text-requires : goal.stuck_text-requires
stuck_text-requires c =
    let tokens = plain_tokens [] c.args.body.now.tokens.items in
    can_tell (dialect_of c.args.dialect.now)
    (term_of tokens [] (plain_reading c.args.body.now.reading))
    (blame_of c.args.blame.now) c.requires.dialect.is c.facts.ensures.grammar c.requires.blame
    c.requires.shallow

pub part_place-place-requires-clause-place : goal.part_place-place-requires-clause-place
part_place-place-requires-clause-place c =
    let leads = c.requires.blame.leads in
    parts_have_places (plain_tokens [] c.args.body.now.tokens.items) []
    (plain_reading c.args.body.now.reading) c.args.blame.now.path.steps.items leads.0 leads.1

pub part_place-place-requires-clause-tokens : goal.part_place-place-requires-clause-tokens
part_place-place-requires-clause-tokens c =
    let cut = c.requires.cut in
    let size = length c.args.file.now - c.args.before in
    subst (λ (ts : List Token). AllByRecursion (λ (t : Token). t.from ≤ size) ts)
    (sym c.deref.ensures.value)
    (tokens_within c.args.dialect.now.grammar.now.parts cut.0 c.args.body.now.tokens.items size
    cut.1
    cut.2)
