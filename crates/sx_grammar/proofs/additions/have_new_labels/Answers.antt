use Rattle.std.proofs.Common.{◌≡◌, ◌∙◌, ap, map, subst, Contains}
use Rattle.sx_term.specs.Cutting.{AreDistinct}
use Rattle.sx_grammar.specs.Parts.{line, texts}
use Rattle.sx_grammar.specs.Standing.{labels_in}
use Rattle.sx_grammar.specs.Numbering.{IsNumberedAs}
use Rattle.sx_grammar.specs.Made.{HasNone}
use Rattle.sx_grammar.proofs.Extending.{distinct_both}
use Rattle.sx_grammar.proofs.additions.have_new_labels.Goals as goal

pub returns-in-Distinct : goal.returns-in-Distinct
returns-in-Distinct c = λ new before.
    let own = labels_in (map line c.args.before.now) in
    let more = labels_in (map line c.args.more.now) in
    let listed = ap texts c.deref.ensures.value ∙ c.in_ok-list.ensures in
    let numbered : AreDistinct (texts c.deref.result.now) × (c.in-Distinct.known ≡ texts c.deref.result.now) = subst (IsNumberedAs (texts c.deref.result.now)) c.in-Distinct.is c.in_ok-known.ensures in
    distinct_both own more before (subst AreDistinct listed numbered.0) (subst (λ l. HasNone (Contains l) own) (numbered.1 ∙ listed) (c.lack_labels-new.ensures new))
