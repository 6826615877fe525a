use Rattle.std.proofs.Common.{refl, sym, ap, ◌∙◌, ◌∷◌, ◌++◌, []}
use Rattle.std.proofs.lemmas.List.{length-set}
use Rattle.sx_grammar.proofs.Places.{waiting_at-is, waiting_at-set_same, waiting_at-set_other}
use Rattle.sx_grammar.proofs.progress.wait.Goals as goal

pub returns : goal.returns
returns c =
    let lists = c.args.progress.now.waiting.items in
    let n = c.args.number in
    let v = c.push.new.self in (
      record {
        ranks = refl;
        order = refl;
        lists = length-set lists n v;
        others = λ x apart. waiting_at-set_other lists n x v apart;
      },
      waiting_at-set_same lists n v c.requires ∙ c.in_ok-push.ensures.items ∙ ap (λ l. l ++ c.args.waiting ∷ [])
          (ap (λ v. v.items) c.index_mut.ensures.value ∙ sym (waiting_at-is lists n c.index_mut.result.now c.requires)),
    )
