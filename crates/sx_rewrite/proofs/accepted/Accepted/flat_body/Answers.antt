use Rattle.sx_rules.specs.Sets.{bare_rules_in}
use Rattle.sx_plain.specs.Views.{table_of}
use Rattle.sx_rewrite.proofs.ShallowFlats.{shown-depth}
use Rattle.sx_rewrite.proofs.StoredAt.{body-some, body-none, shown}
use Rattle.sx_rewrite.proofs.accepted.Accepted.flat_body.Goals as goal

pub returns-in-Some-clause-value : goal.returns-in-Some-clause-value
returns-in-Some-clause-value c =
    let a = c.args.self.now in
    let e = body-some (bare_rules_in a.base) (bare_rules_in a.rules) a.flats.items (table_of a.plain) a.first c.args.rule a.counted a.many c.in-Some.flat.now c.in-Some.ensures.value in
    shown c.as_ref.result c.in-Some.flat.now.subject _ c.as_ref.ensures.value e

pub returns-in-None-clause-value : goal.returns-in-None-clause-value
returns-in-None-clause-value c =
    let a = c.args.self.now in
    body-none (bare_rules_in a.base) (bare_rules_in a.rules) a.flats.items (table_of a.plain) a.first c.args.rule a.counted a.many c.in-None.ensures.value

pub returns-in-Some-clause-depth : goal.returns-in-Some-clause-depth
returns-in-Some-clause-depth c = shown-depth _ _ c.as_ref.ensures.value c.in-Some.ensures.shallow.0
