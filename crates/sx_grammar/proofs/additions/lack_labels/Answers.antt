use Rattle.std.proofs.Common.{◌≡◌, Some, Contains, subst, sym, ◌∙◌, refl, length, map, arith}
use Rattle.std.specs.Prelude.{MatchOption, slice_get}
use Rattle.std.proofs.lemmas.Option.{slice_get_read}
use Rattle.sx_grammar.specs.Parts.{line}
use Rattle.sx_grammar.specs.Standing.{labels_in}
use Rattle.sx_grammar.proofs.FirstLaws.{new_here, none_more, none_all}
use Rattle.sx_grammar.proofs.Extending.{label_at, labels_length}
use Rattle.sx_grammar.proofs.additions.lack_labels.Goals as goal

pub loop-production-preserved : goal.loop-production-preserved
loop-production-preserved c =
    let ps = c.args.productions.now in
    let n = c.loop-production.production-index in
    let q = c.production-item.result in
    let at = slice_get_read ps (length ps) n q refl c.loop-production-test.true c.production-item.is in
    let known = c.args.known.now in
    let exact = subst (λ t. MatchOption c.number.result (¬ (Contains known t)) (λ i. slice_get known i ≡ Some t)) c.bytes.ensures.value c.number.ensures.exact in
    none_more (Contains known) (labels_in (map line ps)) n q.label (label_at ps n q at) c.loop-production.invariant
    (new_here q.label known c.number.result exact (sym c.is_some.ensures ∙ c.if-is_some.false))

pub returns : goal.returns
returns c = λ _. none_all (Contains c.args.known.now) (labels_in (map line c.args.productions.now)) c.loop-production.production-index (omega (arith, labels_length c.args.productions.now, c.loop-production-test.false)) c.loop-production.invariant
