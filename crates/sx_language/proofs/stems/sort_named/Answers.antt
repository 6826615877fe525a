use Rattle.sx_language.proofs.Stating.{sort_is_named}
use Rattle.sx_language.proofs.stems.sort_named.Goals as goal

pub returns-in-Some-sort_number : goal.returns-in-Some-sort_number
returns-in-Some-sort_number c =
    sort_is_named c.args.grammar.now.parts c.args.name.now c.bytes.result.now c.in-Some-sort_number.number c.sort_with.result c.facts.ensures.grammar c.in-None.ensures c.bytes.ensures.value c.in-Some-sort_number.ensures
    c.sort_with.ensures
