use Rattle.std.proofs.Common.{arith}
use Rattle.sx_language.specs.States.{IsNameOfSort}
use Rattle.sx_notation.proofs.Numbers.{all_at}
use Rattle.sx_language.proofs.Stating.{stems_more}
use Rattle.sx_language.proofs.stems.metas_of.Goals as goal

pub loop-i-preserved : goal.loop-i-preserved
loop-i-preserved c =
    stems_more c.args.grammar.now.parts c.args.vars.now c.loop-i.i c.index-vars-i.result c.loop-i.stems.items c.push.new.self.items (c.in_ok-stem.stem, c.sort_named.result) (omega arith) c.index-vars-i.is
    c.loop-i.invariant c.in_ok-stem.ensures c.sort_named.ensures c.in_ok-push.ensures.items

pub sort_named-requires : goal.sort_named-requires
sort_named-requires c = all_at (λ v. IsNameOfSort c.args.grammar.now.parts v.sort) c.args.vars.now c.loop-i.i c.index-vars-i.result (omega arith) c.index-vars-i.is c.requires
