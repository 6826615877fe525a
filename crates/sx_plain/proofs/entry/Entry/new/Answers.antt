use Rattle.std.proofs.Common.{ap, arith}
use Rattle.sx_term.specs.Term.{tree}
use Rattle.sx_plain.specs.Uses.{most_times}
use Rattle.sx_plain.proofs.UseLaws.{times-unused, many_noted, measured_by}
use Rattle.sx_plain.proofs.entry.Entry.new.Goals as goal

pub note-requires-clause-few : goal.note-requires-clause-few
note-requires-clause-few c =
    let e = ap most_times c.in_ok-uses.ensures in
    let z = times-unused c.args.arity in
    let s = c.requires.small in
    omega arith

pub invariant_of-result : goal.invariant_of-result
invariant_of-result c = record {
  shallow = c.requires.shallow;
  deep = c.depth-depth.ensures;
  many = many_noted c.args.arity (tree c.args.flat) _ _ c.in_ok-uses.ensures c.note.ensures;
  measured = ∣ measured_by c.args.arity (tree c.args.flat) _ _ _ _ c.requires.shallow c.requires.parts c.own_size-own.ensures c.depth-depth.ensures c.in_ok-uses.ensures c.note.ensures ∣₁;
}
