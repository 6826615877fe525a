use Rattle.std.proofs.Common.{arith}
use Rattle.sx_term.specs.Term.{tree}
use Rattle.sx_rewrite.proofs.PutSubjects.{deep-set, greatest-set, measures-set, made-set, past-terms, past-measures}
use Rattle.sx_rewrite.proofs.put_subjects.put_at.Goals.{else-place-len-via-then-place-len+else-place-len-2, else-place-len-via-else-place-len}
use Rattle.sx_rewrite.proofs.put_subjects.put_at.Goals as goal

pub invariant_of-puts : goal.invariant_of-puts
invariant_of-puts c =
    let d = c.depth.ensures in
    let r = c.requires in
    record {
      shallow = deep-set c.args.puts.now.terms.items c.args.variable c.args.term 1000 c.args.puts.now.shallow c.requires;
      measured = greatest-set c.args.puts.now.measures.items c.args.variable (record { depth = c.depth.result; size = c.size.result }) 1001000 c.args.puts.now.measured (omega (arith, d, r));
    }

pub returns-then-place-len-2 : goal.returns-then-place-len-2
returns-then-place-len-2 c = λ old h. (
  measures-set old c.args.puts.now.measures.items c.args.variable (tree c.args.term) (record { depth = c.depth.result; size = c.size.result }) h.0 (c.depth.ensures, c.size.ensures),
  made-set old c.args.puts.now.terms.items c.args.variable c.args.term h.1,
)

pub returns-else-place-len : goal.returns-else-place-len
returns-else-place-len c = λ old h.
    elim c.else-place-len.branch [
      | else-place-len-via-then-place-len+else-place-len-2 w ↦ past-measures old c.args.puts.now.terms.items c.args.puts.now.measures.items c.args.variable (tree c.args.term) h.0 h.1 (let e = w.len-then-place-len.ensures in let f = w.if-place-len-2.false in omega (arith, e, f))
      | else-place-len-via-else-place-len w ↦ past-terms old c.args.puts.now.terms.items c.args.puts.now.measures.items c.args.variable (tree c.args.term) h.0 h.1 (let e = c.len.ensures in let f = w.if-place-len.false in omega (arith, e, f))
    ]
