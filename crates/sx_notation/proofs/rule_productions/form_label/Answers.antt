use Rattle.std.proofs.Common.{◌≡◌, ◌++◌, sym, subst, ap, ◌∙◌, codes, rules, List, ℕ}
use Rattle.std.specs.Str.{IsUtf8}
use Rattle.std.proofs.lemmas.Str.{IsUtf8-append}
use Rattle.sx_notation.proofs.rule_productions.form_label.Goals as goal

utf8_label : (name : List ℕ) → IsUtf8 name → IsUtf8 (codes "form " ++ name)
utf8_label name utf8 = IsUtf8-append (codes "form ") name (search rules) utf8

pub of_utf8-requires : goal.of_utf8-requires
of_utf8-requires c =
    let e : c.deref.result.now ≡ codes "form " ++ c.bytes.result.now = c.deref.ensures.value ∙ c.in_ok-extend_from_slice.ensures.items ∙ ap (λ x. x ++ c.bytes.result.now) c.in_ok-label.ensures.items in
    subst IsUtf8 (sym e) (utf8_label c.bytes.result.now c.bytes.ensures.utf8)
