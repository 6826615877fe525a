use Rattle.std.proofs.Common.{◌+◌, List, [], ◌∷◌, ◌++◌, ap, sym, subst, take, take_all, drop, arith}
use Rattle.sx_term.specs.Term.{tree}
use Rattle.sx_term.specs.Tree.{Tree, depth_of}
use Rattle.sx_interface.specs.Interfaces.{InterfaceParts}
use Rattle.sx_interface.specs.InterfaceView.{interface_view}
use Rattle.sx_notation.proofs.TextReading.{err_if}
use Rattle.sx_interface.specs.declared.import.Import.{Import}
use Rattle.sx_environment.specs.Environments.{IsEnvironment, empty_environment}
use Rattle.sx_environment.specs.ImportErrors.{HasNoEnvironment}
use Rattle.sx_environment.specs.SeenFrom.{IsShort, interfaces_of, seen_from}
use Rattle.sx_environment.proofs.EnvironmentTerms.{empty_is_sorted, added_are_sorted}
use Rattle.sx_environment.proofs.Lists.{one_more, split_at, as_many, holds_at}
use Rattle.sx_environment.proofs.Refusing.{adds_more, refused_behind}
use Rattle.sx_environment.proofs.building.environment.Goals as goal

pub loop-i-init : goal.loop-i-init
loop-i-init c = record {
  made = c.empty-environment.ensures;
  shallow = (let e = ap depth_of c.empty-environment.ensures in omega (arith, e));
}

pub added-requires-clause-short : goal.added-requires-clause-short
added-requires-clause-short c =
    holds_at IsShort (λ (i : Import). interface_view i.interface) c.args.imports.now c.loop-i.i
    c.index-imports-i.result c.loop-i-test.true c.index-imports-i.is c.requires.short

pub added-requires-clause-shallow : goal.added-requires-clause-shallow
added-requires-clause-shallow c = c.loop-i.invariant.shallow

pub returns-in_err-environment-clause-refused : goal.returns-in_err-environment-clause-refused
returns-in_err-environment-clause-refused c =
    let s = seen_from c.args.given.now in
    let view = λ (i : Import). interface_view i.interface in
    let its = c.args.imports.now in
    let i = c.loop-i.i in
    let x = c.index-imports-i.result in
    let P = HasNoEnvironment s (interfaces_of its) in
    err_if c.from_residual.result _ P c.from_residual.ensures.1
    (λ e is. subst P (sym is)
    (refused_behind s (interfaces_of its) (interfaces_of (take i its)) (view x)
    (interfaces_of (drop (i + 1) its)) i (tree c.loop-i.environment.term)
    c.in_err-environment.field-0.0
    (split_at view its i x c.loop-i-test.true c.index-imports-i.is)
    (as_many view its i x c.loop-i-test.true c.index-imports-i.is)
    c.loop-i.invariant.made c.loop-i.invariant.shallow c.in_err-environment.ensures.refused))

pub loop-i-preserved : goal.loop-i-preserved
loop-i-preserved c =
    let s = seen_from c.args.given.now in
    let view = λ (i : Import). interface_view i.interface in
    let its = c.args.imports.now in
    let i = c.loop-i.i in
    let x = c.index-imports-i.result in
    let added = c.in_ok-environment.ensures.made in
    let more = adds_more s (empty_environment s) (interfaces_of (take i its))
    (tree c.loop-i.environment.term) (view x) added.0 c.loop-i.invariant.made added.1 in
    record {
      made = subst (λ (l : List InterfaceParts). IsEnvironment s l
          (tree c.in_ok-environment.environment.term))
          (sym (one_more view its i x c.loop-i-test.true c.index-imports-i.is))
          (subst (λ (t : Tree). IsEnvironment s (interfaces_of (take i its) ++ view x ∷ []) t)
          (sym added.2) more);
      shallow = c.in_ok-environment.ensures.shallow;
    }

pub returns-clause-made : goal.returns-clause-made
returns-clause-made c =
    subst (λ (l : List Import). IsEnvironment (seen_from c.args.given.now) (interfaces_of l)
    (tree c.loop-i.environment.term))
    (take_all c.loop-i.i c.args.imports.now c.loop-i-test.false) c.loop-i.invariant.made

pub returns-clause-good : goal.returns-clause-good
returns-clause-good c =
    let s = seen_from c.args.given.now in
    let made = subst (λ (l : List Import). IsEnvironment s (interfaces_of l)
    (tree c.loop-i.environment.term))
    (take_all c.loop-i.i c.args.imports.now c.loop-i-test.false) c.loop-i.invariant.made in
    let good = added_are_sorted s c.requires.dialect.is (empty_environment s)
    (interfaces_of c.args.imports.now) (tree c.loop-i.environment.term)
    (empty_is_sorted s c.requires.dialect.is) c.requires.named made in
    record {
      sorted = good.sorted;
      depth = c.loop-i.invariant.shallow;
      lexemes = good.lexemes;
    }
