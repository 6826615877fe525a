use Rattle.std.proofs.Common.{◌<◌, ◌≤◌, List, ℕ, length, refl, sym, subst, arith}
use Rattle.std.specs.List.{AllByRecursion}
use Rattle.sx_term.specs.Term.{tree}
use Rattle.sx_rules.specs.ListText.{IsEntry}
use Rattle.sx_forest.specs.Readings.{plain_reading}
use Rattle.sx_typing.specs.declared.module_error.ModuleError.TheVariants.{RewriteSpent}
use Rattle.sx_unit.specs.Modules.{module_data}
use Rattle.sx_unit.specs.Refused.{IsBadModule}
use Rattle.sx_unit.proofs.Entries.{names_are}
use Rattle.sx_unit.proofs.TypedAlone.{own_list_fits, own_terms_printable, spent_bad, compiled_alone}
use Rattle.sx_unit.proofs.base_writing.write_typed.Goals as goal

pub write_module-compiled-requires-clause-terms : goal.write_module-compiled-requires-clause-terms
write_module-compiled-requires-clause-terms c =
    let s = (module_data c.args.given.now).source in
    let r = c.requires in
    let typed = c.args.typed in
    let ok = typed.list.ok in
    let few : length typed.list.items ≤ c.args.nodes = omega (
      arith,
      ok,
      c.len.ensures,
      c.if-len-nodes.false,
    ) in
    own_terms_printable s r.can.dialect.is (tree c.args.body.now.term) r.typed.0 c.args.nodes typed
    r.typed.1 r.alone r.small few r.can.environment r.good _ refl refl refl

pub write_module-compiled-requires-clause-names : goal.write_module-compiled-requires-clause-names
write_module-compiled-requires-clause-names c =
    let s = (module_data c.args.given.now).source in
    let r = c.requires in
    subst (λ (names : List (List ℕ)). AllByRecursion (IsEntry names) c.args.typed.list.items)
    (names_are c.args.given.now.source.dialect.language.now.rules)
    (own_list_fits s r.can.dialect.is (tree c.args.body.now.term) r.typed.0 c.args.nodes
    c.args.typed r.typed.1 r.alone).0

pub returns-then-len-nodes : goal.returns-then-len-nodes
returns-then-len-nodes c = λ b same by.
    let m = module_data c.args.given.now in
    let body = c.args.body.now in
    let r = c.requires in
    let ok = c.args.typed.list.ok in
    let many : c.args.nodes < length c.args.typed.list.items = omega (
      arith,
      ok,
      c.len.ensures,
      c.if-len-nodes.true,
    ) in
    subst (λ (n : ℕ). IsBadModule m b (RewriteSpent n)) same
    (spent_bad m b r.can.dialect.is body.tokens.items (plain_reading body.reading) (tree body.term)
    r.body c.args.typed by r.alone
    (subst (λ (n : ℕ). n < length c.args.typed.list.items) (sym same) many))

pub returns : goal.returns
returns c = λ b same by.
    let m = module_data c.args.given.now in
    let body = c.args.body.now in
    let r = c.requires in
    let ok = c.args.typed.list.ok in
    let few : length c.args.typed.list.items ≤ c.args.nodes = omega (
      arith,
      ok,
      c.len.ensures,
      c.if-len-nodes.false,
    ) in
    compiled_alone m b r.can.dialect.is body.tokens.items (plain_reading body.reading)
    (tree body.term) r.body c.args.typed by r.alone r.small
    (subst (λ (n : ℕ). length c.args.typed.list.items ≤ n) (sym same) few) r.can.environment r.good
    _ refl refl refl c.write_module-compiled.result _ c.write_module-compiled.ensures.written
    c.write_module-compiled.ensures.tokens refl c.write_module-compiled.ensures.refused
