use Rattle.std.proofs.Common.{◌∙◌, sym, ap}
use Rattle.sx_grammar.specs.Stems.{without_digits}
use Rattle.sx_earley.specs.Tokens.{stem_sort}
use Rattle.sx_language.proofs.NamedSorts.{one_named, all_named}
use Rattle.sx_language.proofs.stem_sorts.sorts_of.Goals as goal

pub loop-name-preserved : goal.loop-name-preserved
loop-name-preserved c =
    let stems = c.args.stems.now in
    one_named stems c.args.names.now c.loop-name.number c.in-Some.name.now c.in-Some-sort_of.sort c.loop-name.sorts.items c.push.new.self.items (sym c.in-Some.ensures.value)
    (sym (ap (λ x. stem_sort stems (without_digits x)) c.bytes.ensures.value) ∙ sym c.in-Some-sort_of.ensures) c.in_ok-push-in-Some-sort_of.ensures.items c.loop-name.invariant

pub returns : goal.returns
returns c = all_named c.args.stems.now c.args.names.now c.loop-name.number c.loop-name.sorts.items (sym c.in_default.ensures.value) c.loop-name.invariant
