use Rattle.std.proofs.Common.{length, sym, ◌∙◌, ap}
use Rattle.std.proofs.lemmas.Bool.{eqb-true}
use Rattle.sx_term.specs.Shapes.{shapes}
use Rattle.tests_uses.proofs.FromHeld.{one-item, one-near, one-held}
use Rattle.tests_uses.proofs.opened.is_held.Goals as goal

pub places_fit-requires : goal.places_fit-requires
places_fit-requires c =
    let item = one-item c.as_slice-holds.result.now c.it-item.result c.in-len1.len_at_least c.in-len1.len_below c.it-item.is in
    one-near c.args.given.now.holds.items c.it-item.result c.deref.result.now (sym c.as_slice-holds.ensures.value ∙ item) c.deref.ensures.value c.requires

pub returns-else-not-is_empty : goal.returns-else-not-is_empty
returns-else-not-is_empty c = λ e.
    let item = one-item c.as_slice-holds.result.now c.it-item.result c.in-len1.len_at_least c.in-len1.len_below c.it-item.is in
    one-held c.args.base.now c.args.given.now c.it-item.result (shapes c.shapes.result.now) c.places_of.result.now c.deref.result.now (sym c.as_slice-holds.ensures.value ∙ item)
    (sym (ap length c.as_slice-apart.ensures.value) ∙ eqb-true (length c.as_slice-apart.result.now) 0 (sym c.if-not-is_empty.ensures)) c.shapes.ensures c.places_of.ensures.places c.deref.ensures.value (c.places_fit.ensures e)
