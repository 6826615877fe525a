use Rattle.std.proofs.Common.{◌≡◌, ◌+◌, ◌≤◌, List, length, sym, ap, ◌∙◌, ◌++◌, ◌∷◌, [], subst, Some, Contains, not, take, arith}
use Rattle.std.specs.Prelude.{MatchOption, slice_get}
use Rattle.sx_grammar.specs.Grammar.{Text}
use Rattle.sx_grammar.specs.Parts.{texts}
use Rattle.sx_grammar.specs.Distinct.{distinct}
use Rattle.sx_grammar.proofs.FirstLaws.{text_at, texts_length}
use Rattle.sx_grammar.proofs.DistinctLaws.{distinct_more, distinct_kept, distinct_all, seam_behind}
use Rattle.sx_grammar.proofs.distinct.fill.Goals as goal
use Rattle.sx_grammar.proofs.distinct.fill.Goals.{then-is_none+in_ok-add, else-is_none}

pub loop-text-preserved : goal.loop-text-preserved
loop-text-preserved c =
    let xs = texts c.args.list.now in
    let n = c.loop-text.text-index in
    let x = c.text-item.result.now in
    let at = text_at c.args.list.now n c.text-item.result c.loop-text-test.true c.text-item.is in
    let names = c.loop-text.names in
    let exact = subst (λ t. MatchOption c.number.result (¬ (Contains names t)) (λ i. slice_get names i ≡ Some t)) c.bytes.ensures.value c.number.ensures.exact in
    elim c.if-is_none.branch [
      | then-is_none+in_ok-add w ↦
          let more : (start : List Text) → c.args.names.now ≡ distinct start → names ++ x ∷ [] ≡ distinct (start ++ take (n + 1) xs) = λ start first.
          distinct_more (start ++ take n xs) x names c.number.result (c.loop-text.invariant.has_names start first) exact (c.is_none.ensures ∙ ap not w.if-is_none.true)
          ∙ ap distinct (seam_behind start xs n x at) in
          record {
            has_texts = λ start same first.
                ap (λ v. v.items) w.out-is ∙ w.in_ok-add.ensures.texts
                ∙ ap (λ l. l ++ x ∷ []) (c.loop-text.invariant.has_texts start same first ∙ sym (c.loop-text.invariant.has_names start first)) ∙ more start first;
            has_names = λ start first. w.names-is ∙ w.in_ok-add.ensures.names ∙ more start first;
          }
      | else-is_none w ↦
          let kept : (start : List Text) → c.args.names.now ≡ distinct start → names ≡ distinct (start ++ take (n + 1) xs) = λ start first.
          distinct_kept (start ++ take n xs) x names c.number.result (c.loop-text.invariant.has_names start first) exact (c.is_none.ensures ∙ ap not w.if-is_none.false)
          ∙ ap distinct (seam_behind start xs n x at) in
          record {
            has_texts = λ start same first.
                ap (λ v. v.items) w.out-is ∙ c.loop-text.invariant.has_texts start same first ∙ sym (c.loop-text.invariant.has_names start first) ∙ kept start first;
            has_names = λ start first. w.names-is ∙ kept start first;
          }
    ]

pub returns-clause-texts : goal.returns-clause-texts
returns-clause-texts c = λ start same first.
    let xs = texts c.args.list.now in
    let whole : length xs ≤ c.loop-text.text-index = omega (arith, texts_length c.args.list.now, c.loop-text-test.false) in
    distinct_all start xs c.loop-text.text-index c.loop-text.out.items whole (c.loop-text.invariant.has_texts start same first)

pub returns-clause-names : goal.returns-clause-names
returns-clause-names c = λ start first.
    let xs = texts c.args.list.now in
    let whole : length xs ≤ c.loop-text.text-index = omega (arith, texts_length c.args.list.now, c.loop-text-test.false) in
    distinct_all start xs c.loop-text.text-index c.loop-text.names whole (c.loop-text.invariant.has_names start first)
