use Rattle.std.proofs.Common.{◌<◌, length, refl, arith, rules}
use Rattle.sx_term.specs.declared.term.Term.TheViews.{the_lemmas}
use Rattle.sx_term.proofs.Kids.{depth_of-kid}
use Rattle.sx_grammar.specs.Tables.{literals_of}
use Rattle.sx_unit.proofs.Capturing.{free_on, first_here, all_free}
use Rattle.sx_interface.proofs.Lengths.{size_of}
use Rattle.sx_unit.proofs.captured.+captured.Goals as goal

pub captured-requires : goal.captured-requires
captured-requires t c =
    let lt : c.loop-i.i < length c.in-Node.kids.items =
    omega (
      arith,
      c.loop-i-test.true,
      size_of c.in-Node.kids c.len-i-end.result
          c.len-i-end.ensures,
    ) in
    let k = depth_of-kid _ _ _ _ _ _ c.in-Node.is refl lt c.index-kid.ensures in
    search (rules, the_lemmas)

pub loop-i-preserved : goal.loop-i-preserved
loop-i-preserved t c =
    free_on (literals_of c.args.grammar.now.parts) c.in-Node.kids.items c.loop-i.i
    c.index-kid.result.now
    (omega (
      arith,
      c.loop-i-test.true,
      size_of c.in-Node.kids c.len-i-end.result
          c.len-i-end.ensures,
    )) c.index-kid.ensures c.loop-i.invariant c.in_default.ensures

pub returns-after-loop-i : goal.returns-after-loop-i
returns-after-loop-i t c =
    all_free (literals_of c.args.grammar.now.parts) c.args.term.now c.in-Node.label c.in-Node.kids
    c.in-Node.is c.in-Node.kids.items c.loop-i.i refl
    (omega (
      arith,
      c.loop-i-test.false,
      size_of c.in-Node.kids c.len-i-end.result
          c.len-i-end.ensures,
    )) c.loop-i.invariant

pub returns-in-Some : goal.returns-in-Some
returns-in-Some t c =
    first_here (literals_of c.args.grammar.now.parts) c.args.term.now c.in-Node.label c.in-Node.kids
    c.in-Node.is c.in-Node.kids.items c.loop-i.i c.index-kid.result.now c.in-Some.word.now refl
    (omega (
      arith,
      c.loop-i-test.true,
      size_of c.in-Node.kids c.len-i-end.result
          c.len-i-end.ensures,
    )) c.index-kid.ensures c.loop-i.invariant c.in-Some.ensures
