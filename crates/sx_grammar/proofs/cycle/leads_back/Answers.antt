use Rattle.std.proofs.Common.{rules, length, sym, subst, ap, ◌∙◌, ◌≡◌, arith, Contains}
use Rattle.std.proofs.lemmas.Bool.{false≢true}
use Rattle.std.proofs.lemmas.List.Elements.{Contains-push}
use Rattle.sx_grammar.proofs.Searching.{SearchBefore, Marked, search_begins, search_more, search_ends, marked_within, written}
use Rattle.sx_grammar.proofs.cycle.leads_back.Goals as goal

pub visit-requires : goal.visit-requires
visit-requires c = λ t has.
    let low = c.requires.below c.args.sort t (subst (λ l. Contains l t) c.list.ensures has) in
    omega (arith, low, c.deref_mut.ensures.len, ap length c.deref_mut.ensures.value, c.in_ok-marks.ensures.size)

pub loop-next-init : goal.loop-next-init
loop-next-init c =
    let old = c.deref_mut.result.now in
    let done = c.in_ok-visit.ensures in
    let same : length c.visit.new.marks ≡ length c.in_ok-marks.marks.items = done.same ∙ ap length c.deref_mut.ensures.value in
    subst (λ m. SearchBefore c.args.steps.now c.args.sort m c.visit.new.stack.items) (sym (written c.in_ok-marks.marks.items c.visit.new.marks c.in_ok-marks.marks.len c.in_ok-marks.marks.ok.0 same))
    (search_begins c.args.steps.now c.args.sort old c.visit.new.marks c.new-stack.result.items c.visit.new.stack.items c.list.result.now c.list.ensures
    (ap length c.deref_mut.ensures.value ∙ c.in_ok-marks.ensures.size)
    (λ t is. false≢true (sym (c.in_ok-marks.ensures.none t) ∙ subst (λ m. Marked m t) c.deref_mut.ensures.value is))
    c.new-stack.ensures.items done.same done.only done.all done.waits done.stacked)

pub list-requires-in-Some : goal.list-requires-in-Some
list-requires-in-Some c =
    let h = c.loop-next.invariant in
    let marked = h.stacked c.in-Some.next (subst (λ l. Contains l c.in-Some.next) (sym c.in-Some.ensures.items) (Contains-push c.pop.new.self.items c.in-Some.next)) in
    omega (arith, h.same, marked_within c.loop-next.marks.items c.in-Some.next marked)

pub visit-requires-in-Some : goal.visit-requires-in-Some
visit-requires-in-Some c = λ t has.
    let low = c.requires.below c.in-Some.next t (subst (λ l. Contains l t) c.list-in-Some.ensures has) in
    omega (arith, low, ap length c.deref_mut-in-Some.ensures.value, c.loop-next.invariant.same)

pub loop-next-preserved : goal.loop-next-preserved
loop-next-preserved c =
    let done = c.in_ok-visit-2.ensures in
    let value = c.deref_mut-in-Some.ensures.value in
    let same : length c.visit-in-Some.new.marks ≡ length c.loop-next.marks.items = done.same ∙ ap length value in
    subst (λ m. SearchBefore c.args.steps.now c.args.sort m c.visit-in-Some.new.stack.items) (sym (written c.loop-next.marks.items c.visit-in-Some.new.marks c.loop-next.marks.len c.loop-next.marks.ok.0 same))
    (search_more c.args.steps.now c.args.sort c.deref_mut-in-Some.result.now c.visit-in-Some.new.marks c.pop.new.self.items c.visit-in-Some.new.stack.items c.loop-next.stack.items c.list-in-Some.result.now c.in-Some.next
    (subst (λ m. SearchBefore c.args.steps.now c.args.sort m c.loop-next.stack.items) (sym value) c.loop-next.invariant) c.in-Some.ensures.items c.list-in-Some.ensures
    done.same done.kept done.only done.all done.waits done.stack_kept done.stacked)

pub returns : goal.returns
returns c = λ g are.
    let h = c.loop-next.invariant in
    let result = c.is_marked_sort.ensures in
    let value = c.deref.ensures.value in (
      λ is. h.reached g are c.args.sort (subst (λ m. Marked m c.args.sort) value (sym result ∙ is)),
      λ cyclic. result ∙ subst (λ m. Marked m c.args.sort) (sym value) (search_ends g c.args.steps.now are c.loop-next.marks.items c.loop-next.stack.items (search rules) h cyclic),
    )
