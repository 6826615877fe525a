use Rattle.std.proofs.Common.{◌≡◌, List, Ok, Err, ap, ◌∙◌, subst}
use Rattle.sx_grammar.specs.declared.sort_line.SortLine.{SortLine}
use Rattle.sx_grammar.specs.Parts.{Parts}
use Rattle.sx_outline.specs.ExtensionOutlined.{extension_outline, IsExtensionOutlined}
use Rattle.sx_outline.specs.ExtensionSized.{IsExtensionFit}
use Rattle.sx_extension.specs.Grounds.{ground}
use Rattle.sx_extension.proofs.Outlining.{usable, unoutlined}
use Rattle.sx_extension.proofs.preparing.outline_after.Goals as goal

pub returns-in-Ok-clause-usable : goal.returns-in-Ok-clause-usable
returns-in-Ok-clause-usable c =
    let g = ground c.args.before.now in
    let vars = c.args.vars.now in
    let o = c.in-Ok.outline in
    let same : c.deref.result.now ≡ g.language.sorts = c.deref.ensures.value ∙ ap (λ (p : Parts). p.sorts) c.parts.ensures in
    usable g c.requires.before c.facts.ensures.limits c.facts-2.ensures.limits c.args.bytes.now vars o c.requires.short c.requires.stems
    (subst (λ (ss : List SortLine). IsExtensionOutlined ss vars c.args.bytes.now (Ok o)) same c.in-Ok.ensures.answer) c.in-Ok.ensures.sized
    (subst (λ (ss : List SortLine). IsExtensionFit ss vars (extension_outline o)) same c.in-Ok.ensures.fit)

pub returns-in-Err-clause-refused : goal.returns-in-Err-clause-refused
returns-in-Err-clause-refused c =
    let g = ground c.args.before.now in
    let vars = c.args.vars.now in
    let same : c.deref.result.now ≡ g.language.sorts = c.deref.ensures.value ∙ ap (λ (p : Parts). p.sorts) c.parts.ensures in
    unoutlined g c.args.bytes.now vars c.in-Err.error c.outline_error.result c.requires.stems
    (subst (λ (ss : List SortLine). IsExtensionOutlined ss vars c.args.bytes.now (Err c.in-Err.error)) same c.in-Err.ensures.answer) c.outline_error.ensures
