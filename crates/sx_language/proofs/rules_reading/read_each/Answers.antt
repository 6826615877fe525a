use Rattle.std.proofs.Common.{map, ap, ◌∙◌, arith}
use Rattle.std.proofs.lemmas.List.{map-append}
use Rattle.std.specs.Prelude.{option_map}
use Rattle.sx_term.specs.Term.{tree}
use Rattle.sx_rules.specs.Views as view
use Rattle.sx_language.specs.Readers.{reader}
use Rattle.sx_language.proofs.Ruling.{one_more, one_bad, at_end}
use Rattle.sx_language.proofs.rules_reading.read_each.Goals as goal

pub loop-i-preserved : goal.loop-i-preserved
loop-i-preserved c =
    one_more (reader c.args.by.now) c.args.lines.now c.loop-i.i c.loop-i.names.items (map view.named c.loop-i.rules.items) (map (option_map tree) c.loop-i.bodies.items) c.index-lines-i.result
    (omega arith) c.index-lines-i.is c.loop-i.invariant c.in-Ok.field-0.names (view.named c.in-Ok.field-0.rule) (option_map tree c.in-Ok.field-0.body) c.push-in-Ok-2.new.self.items
    (map view.named c.push.new.self.items) (map (option_map tree) c.push-in-Ok.new.self.items) c.in-Ok.ensures.read c.in_ok-push-in-Ok-3.ensures.items
    (ap (map view.named) c.in_ok-push-in-Ok.ensures.items ∙ map-append view.named c.loop-i.rules.items _)
    (ap (map (option_map tree)) c.in_ok-push-in-Ok-2.ensures.items ∙ map-append (option_map tree) c.loop-i.bodies.items _)

pub returns-in-Err-clause-refused : goal.returns-in-Err-clause-refused
returns-in-Err-clause-refused c =
    one_bad (reader c.args.by.now) c.args.lines.now c.loop-i.i c.loop-i.names.items (map view.named c.loop-i.rules.items) (map (option_map tree) c.loop-i.bodies.items) c.index-lines-i.result (omega arith) c.index-lines-i.is
    c.loop-i.invariant c.in-Err.error c.in-Err.ensures.refused

pub returns-clause-read : goal.returns-clause-read
returns-clause-read c =
    at_end (reader c.args.by.now) c.args.lines.now c.loop-i.i c.loop-i.names.items (map view.named c.loop-i.rules.items) (map (option_map tree) c.loop-i.bodies.items) (omega arith) c.loop-i.invariant
