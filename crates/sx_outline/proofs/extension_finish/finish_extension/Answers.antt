use Rattle.std.proofs.Common.{refl}
use Rattle.sx_outline.specs.Headers.{HeaderData}
use Rattle.sx_outline.specs.View as view
use Rattle.sx_outline.specs.Reading.{stage}
use Rattle.sx_outline.proofs.ExtensionLaws.{finished, left_open}
use Rattle.sx_outline.proofs.extension_finish.finish_extension.Goals as goal

pub returns-in-None : goal.returns-in-None
returns-in-None c = λ s reader begun whole.
    let k = view.known c.args.known in
    let h : HeaderData = record { name = c.args.name; language = c.args.language; uses = k.uses } in
    finished k s (stage c.args.reader.stage) h _ begun reader.stage_is c.in-None.ensures whole c.requires.no_forms c.requires.no_mains
    (λ i. record { name = c.args.name; language = c.args.language; uses = c.into_own-productions.ensures.uses i }) refl
    c.into_own-productions.ensures.productions c.into_own-productions.ensures.vars reader.plains_are reader.rules_are

pub returns-in-Some : goal.returns-in-Some
returns-in-Some c = λ s reader begun whole.
    let k = view.known c.args.known in
    let h : HeaderData = record { name = c.args.name; language = c.args.language; uses = k.uses } in
    left_open k.sorts h s (stage c.args.reader.stage) c.in-Some.number c.bad_line.result reader.stage_is c.in-Some.ensures c.bad_line.ensures
