use Rattle.std.proofs.Common.{◌≡◌, ◌∙◌, sym, subst, ap, List, Some}
use Rattle.std.specs.List.{slice_get}
use Rattle.std.proofs.lemmas.Slice.Eq.{bytes_eq-Decides}
use Rattle.std.proofs.lemmas.Option.{same_Some, slice_get-get_or}
use Rattle.sx_grammar.specs.Grammar.{Text}
use Rattle.sx_earley.specs.Shown.{literal_texts}
use Rattle.sx_earley.proofs.shown.has_literal.Goals as goal

pub returns-in-Some : goal.returns-in-Some
returns-in-Some c =
    let own = c.in-Some.literal.now in let text = c.args.text.now in let n = c.args.number in
    let there = c.in-Some.ensures.lookup.3 in
    let in_list : slice_get c.literals.result.now n ≡ Some own = slice_get-get_or c.literals.result.now n own there.0 ∙ ap Some (sym (there.1 own)) in
    let at : slice_get (literal_texts c.args.grammar.now) n ≡ Some own = subst (λ (l : List Text). slice_get l n ≡ Some own) c.literals.ensures in_list in
    let bytes = c.bytes.result.now in (
      (λ yes. at ∙ ap Some (sym c.bytes.ensures.value ∙ (bytes_eq-Decides bytes text).0 (sym c.eq.ensures ∙ yes))),
      (λ same. c.eq.ensures ∙ (bytes_eq-Decides bytes text).1 (c.bytes.ensures.value ∙ same_Some own text (sym at ∙ same))),
    )
