use Rattle.std.proofs.Common.{map, ap, ◌∙◌, arith}
use Rattle.std.proofs.lemmas.List.{map-append}
use Rattle.sx_outline.specs.Stages.{plain_data}
use Rattle.sx_extension.specs.PlainBodies.{body_data}
use Rattle.sx_extension.specs.Stages.{CanReadPlain}
use Rattle.sx_extension.proofs.PlainsRead.{mapped_at_all, one_more, one_bad, at_end}
use Rattle.sx_extension.proofs.plain_reading.read_each.Goals as goal

pub read_plain-requires-clause-can : goal.read_plain-requires-clause-can
read_plain-requires-clause-can c =
    mapped_at_all (CanReadPlain c.args.grammar.now.parts c.args.tables.now) plain_data c.args.plains.now c.loop-i.i c.index-plains-i.result (omega arith) c.index-plains-i.is c.requires.can

pub returns-in-Err-clause-refused : goal.returns-in-Err-clause-refused
returns-in-Err-clause-refused c =
    one_bad c.args.grammar.now.parts c.args.tables.now c.args.plains.now c.loop-i.i (map body_data c.loop-i.bodies.items) c.index-plains-i.result (omega arith) c.index-plains-i.is c.loop-i.invariant.before c.in-Err.error
    c.in-Err.ensures.refused

pub loop-i-preserved : goal.loop-i-preserved
loop-i-preserved c = record {
  known = c.in-Ok.ensures.same ∙ c.loop-i.invariant.known;
  before = one_more c.args.grammar.now.parts c.args.tables.now c.args.plains.now c.loop-i.i (map body_data c.loop-i.bodies.items) c.index-plains-i.result (omega arith) c.index-plains-i.is c.loop-i.invariant.before
      (body_data c.in-Ok.body) (map body_data c.push.new.self.items) c.in-Ok.ensures.read (ap (map body_data) c.in_ok-push-in-Ok.ensures.items ∙ map-append body_data c.loop-i.bodies.items _);
}

pub returns-clause-read : goal.returns-clause-read
returns-clause-read c = at_end c.args.grammar.now.parts c.args.tables.now c.args.plains.now c.loop-i.i (map body_data c.loop-i.bodies.items) (omega arith) c.loop-i.invariant.before
