use Rattle.sx_core.specs.Resolving.{rows_in}
use Rattle.sx_core.proofs.SortLaws.{sorts_more, sorts_none}
use Rattle.std.proofs.Common.{List, ℕ, [], sym, subst, arith}
use Rattle.std.proofs.lemmas.List.{take_all}
use Rattle.sx_core.specs.Stated.{NameSorts}
use Rattle.sx_core.proofs.Exits.{no_memory}
use Rattle.sx_core.proofs.sort_table.SortTable.sorts.Goals as goal

pub returns-in-None : goal.returns-in-None
returns-in-None c = sorts_none (rows_in c.args.self.now) c.args.names.now c.loop-i.i c.index-names-i.result c.loop-i-test.true c.index-names-i.is c.in-None.ensures

pub loop-i-preserved : goal.loop-i-preserved
loop-i-preserved c = sorts_more (rows_in c.args.self.now) c.args.names.now c.loop-i.i c.index-names-i.result c.loop-i.sorts.items c.push.new.self.items c.in-Some.sort c.loop-i-test.true c.index-names-i.is c.in_ok-push-in-Some.ensures.items c.loop-i.invariant c.in-Some.ensures

pub loop-i-init : goal.loop-i-init
loop-i-init c = subst (NameSorts (rows_in c.args.self.now) []) (sym c.new-sorts.ensures.items) tt

pub sort-requires : goal.sort-requires
sort-requires c = c.requires

pub returns-in_err-push-in-Some : goal.returns-in_err-push-in-Some
returns-in_err-push-in-Some c =
    no_memory c.from_residual.result (λ sorts. NameSorts (rows_in c.args.self.now) c.args.names.now sorts.items) (NameSorts (rows_in c.args.self.now) c.args.names.now) c.from_residual.ensures.1

pub returns : goal.returns
returns c =
    subst (λ (ns : List (List ℕ)). NameSorts (rows_in c.args.self.now) ns c.loop-i.sorts.items) (take_all c.loop-i.i c.args.names.now (omega (arith, c.loop-i-test.false))) c.loop-i.invariant
