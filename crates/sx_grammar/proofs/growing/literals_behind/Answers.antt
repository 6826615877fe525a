use Rattle.std.proofs.Common.{◌≡◌, ◌∙◌, ◌++◌, ap, sym, subst, map}
use Rattle.std.specs.Prelude.{IfOk}
use Rattle.sx_grammar.specs.Parts.{line, parts, literals, texts}
use Rattle.sx_grammar.specs.Distinct.{distinct}
use Rattle.sx_grammar.specs.Extended.{extended}
use Rattle.sx_grammar.proofs.Extending.{literals_more}
use Rattle.sx_grammar.proofs.growing.literals_behind.Goals as goal

pub returns-clause-texts : goal.returns-clause-texts
returns-clause-texts c =
    let p = parts c.base.inside.parts in
    let more = map line c.args.more.now in
    let all = ap (λ l. literals p ++ l) (ap texts c.deref-2.ensures.value ∙ c.in_ok-list.ensures) ∙ sym (literals_more p more) ∙ ap (λ d. literals (extended d.parts more)) c.base.view_is in
    subst (λ l. IfOk c.distinct_behind.result (λ r. r.0.items ≡ distinct l)) all
    (c.distinct_behind.ensures.texts (literals p) (c.deref.ensures.value ∙ c.base.invariant.has_texts) (c.base.invariant.has_known ∙ c.base.invariant.has_texts))

pub returns-clause-names : goal.returns-clause-names
returns-clause-names c =
    let p = parts c.base.inside.parts in
    let more = map line c.args.more.now in
    let all = ap (λ l. literals p ++ l) (ap texts c.deref-2.ensures.value ∙ c.in_ok-list.ensures) ∙ sym (literals_more p more) ∙ ap (λ d. literals (extended d.parts more)) c.base.view_is in
    subst (λ l. IfOk c.distinct_behind.result (λ r. r.1 ≡ distinct l)) all
    (c.distinct_behind.ensures.names (literals p) (c.base.invariant.has_known ∙ c.base.invariant.has_texts))
