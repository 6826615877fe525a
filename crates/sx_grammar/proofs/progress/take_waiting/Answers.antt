use Rattle.std.proofs.Common.{refl, sym, ap, ◌∙◌, ◌++◌, length, arith}
use Rattle.std.specs.Prelude.{option_to_list}
use Rattle.std.proofs.lemmas.List.{length-set}
use Rattle.sx_grammar.proofs.Places.{waiting_at-is, waiting_at-set_same, waiting_at-set_other, popped}
use Rattle.sx_grammar.proofs.progress.take_waiting.Goals as goal

pub returns : goal.returns
returns c =
    let lists = c.args.progress.now.waiting.items in
    let n = c.args.number in
    let v = c.pop.new.self in
    let was = waiting_at-is lists n c.index_mut.result.now c.requires ∙ ap (λ v. v.items) (sym c.index_mut.ensures.value) in
    let is = waiting_at-set_same lists n v c.requires in (
      record {
        ranks = refl;
        order = refl;
        lists = length-set lists n v;
        others = λ x apart. waiting_at-set_other lists n x v apart;
      },
      popped _ _ c.pop.result (was ∙ c.pop.ensures.items ∙ ap (λ l. l ++ option_to_list c.pop.result) (sym is))
          (λ lt. c.pop.ensures.variant.1 (omega (arith, lt, ap length was, c.index_mut.result.now.ok.0))),
    )
