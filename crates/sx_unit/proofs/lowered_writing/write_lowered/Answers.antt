use Rattle.std.proofs.Common.{List, ℕ, refl, subst}
use Rattle.std.specs.List.{AllByRecursion}
use Rattle.sx_term.specs.Term.{tree}
use Rattle.sx_rules.specs.ListText.{IsEntry}
use Rattle.sx_forest.specs.Readings.{plain_reading}
use Rattle.sx_typing.specs.BodySource.{source_of}
use Rattle.sx_unit.specs.Modules.{module_data}
use Rattle.sx_unit.specs.PrintedParts.{printed_of}
use Rattle.sx_unit.proofs.Entries.{names_are}
use Rattle.sx_unit.proofs.MadeUnits.{one_subject, one_output, terms_printable, list_good, compiled}
use Rattle.sx_unit.proofs.lowered_writing.write_lowered.Goals as goal

pub printed_terms-terms-requires-clause-subject : goal.printed_terms-terms-requires-clause-subject
printed_terms-terms-requires-clause-subject c =
    let r = c.requires in
    one_subject (source_of c.args.given.now.source) r.can.dialect.is r.can.environment
    (tree c.args.body.now.term) r.good r.lowered.0 r.lowered.1 c.args.typed.now r.lowered.2
    c.args.lowering r.lowered.3

pub printed_terms-terms-requires-clause-output : goal.printed_terms-terms-requires-clause-output
printed_terms-terms-requires-clause-output c =
    let r = c.requires in
    one_output (source_of c.args.given.now.source) r.can.dialect.is r.can.environment
    (tree c.args.body.now.term) r.good r.lowered.0 r.lowered.1 c.args.typed.now r.lowered.2
    c.args.lowering r.lowered.3

pub write_module-requires-clause-terms : goal.write_module-requires-clause-terms
write_module-requires-clause-terms c =
    let r = c.requires in
    let are = c.printed_terms-terms.ensures in
    terms_printable (source_of c.args.given.now.source) r.can.dialect.is r.can.environment
    (tree c.args.body.now.term) r.good r.lowered.0 r.lowered.1 c.args.typed.now r.lowered.2
    c.args.lowering r.lowered.3
    (printed_of c.printed_terms-terms.result)
    (record { subject = are.subject; signature = are.output; stated = are.stated })

pub write_module-requires-clause-names : goal.write_module-requires-clause-names
write_module-requires-clause-names c =
    let r = c.requires in
    let good = list_good (source_of c.args.given.now.source) r.can.dialect.is r.can.environment
    (tree c.args.body.now.term) r.good r.lowered.0 r.lowered.1 c.args.typed.now r.lowered.2
    c.args.lowering r.lowered.3 in
    subst (λ (names : List (List ℕ)). AllByRecursion (IsEntry names) c.args.lowering.list.items)
    (names_are c.args.given.now.source.dialect.language.now.rules) good.0

pub returns : goal.returns
returns c = λ b t low.
    let r = c.requires in
    let m = module_data c.args.given.now in
    let subject = tree c.args.body.now.term in
    let are = c.printed_terms-terms.ensures in
    let good = list_good m.source r.can.dialect.is r.can.environment subject r.good b.tries b.nodes
    c.args.typed.now t c.args.lowering low in
    compiled m b c.args.body.now.tokens.items (plain_reading c.args.body.now.reading) subject r.body
    c.args.typed.now t c.args.lowering low (printed_of c.printed_terms-terms.result)
    (record { subject = are.subject; signature = are.output; stated = are.stated })
    c.write_module.result _ good.1
    c.write_module.ensures.written c.write_module.ensures.tokens
    refl c.write_module.ensures.refused
