use Rattle.std.proofs.Common.{sym, ap}
use Rattle.sx_rules.specs.Modes.{Goal}
use Rattle.sx_expand.proofs.RootLowered.{some-stands, root-judged}
use Rattle.sx_expand.proofs.expanding.read_root.Goals as goal

pub root_judgement-judgement-requires-clause-stand :
    goal.root_judgement-judgement-requires-clause-stand
root_judgement-judgement-requires-clause-stand c =
    let r = c.requires.root in
    some-stands c.args.reading.now c.requires.reading c.args.form c.args.inputs.now c.args.reader.now c.read_node.new.reader c.requires.below c.requires.shallow c.requires.one c.in_ok-read.ensures.on c.in_ok-read.read r.0 r.1 r.2
    (c.in_ok-read.ensures.read r.0 r.1 r.2.can (sym (ap (λ (g : Goal). g.terms) r.2.goal_is)))

pub returns : goal.returns
returns c = λ j p root.
    root-judged c.args.reading.now c.requires.reading c.args.form c.args.inputs.now c.args.reader.now c.read_node.new.reader c.requires.below c.requires.shallow c.requires.one c.in_ok-read.ensures.on c.in_ok-read.read j p root
    (c.in_ok-read.ensures.read j p root.can (sym (ap (λ (g : Goal). g.terms) root.goal_is))) c.in_ok-judgement.field-0 c.in_ok-judgement.ensures.form c.in_ok-judgement.ensures.places
