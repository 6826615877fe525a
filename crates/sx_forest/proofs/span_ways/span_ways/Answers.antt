use Rattle.std.proofs.Common.{◌≡◌, sym, ap, ◌∙◌, subst}
use Rattle.std.specs.List.{slice_get}
use Rattle.sx_earley.specs.Shown.{plain}
use Rattle.sx_forest.specs.declared.kept.Kept.{Kept}
use Rattle.sx_forest.specs.Tallies.{tally_of}
use Rattle.sx_forest.specs.Rows.{IsSpanWays}
use Rattle.sx_forest.specs.KeptRows.{AllKept, AreStretchesKept}
use Rattle.sx_forest.proofs.Wider.{basis_tokens, ready_kept, all_kept_more, all_kept_set, none_kept, found_same}
use Rattle.sx_forest.proofs.span_ways.span_ways.Goals as goal
use Rattle.sx_forest.proofs.span_ways.span_ways.Goals.{then-not-has_room, else-not-has_room}

pub wider_ways-requires-clause-kept : goal.wider_ways-requires-clause-kept
wider_ways-requires-clause-kept c =
    let g = plain c.args.basis.grammar.now in let ts = basis_tokens c.args.basis in let lists = c.args.basis.table.now.lists.items in
    let k = c.in-Some.ensures.0 in let there = ap (λ l. slice_get l c.in-Some.index) (sym c.deref.ensures.value) ∙ c.in-Some.ensures.1 in
    subst (AreStretchesKept g ts lists) (sym (found_same c.args.kept.now.items c.in-Some.index k c.index_mut.result.now c.index_mut.ensures.value there)) (c.requires.kept c.in-Some.index k there)

pub returns-in_ok-ways-in-Some-clause-kept : goal.returns-in_ok-ways-in-Some-clause-kept
returns-in_ok-ways-in-Some-clause-kept c =
    all_kept_set (plain c.args.basis.grammar.now) (basis_tokens c.args.basis) c.args.basis.table.now.lists.items c.args.kept.now.items c.in-Some.index c.wider_ways.new.kept
    c.requires.kept c.in_ok-ways-in-Some.ensures.kept

pub returns-in_ok-ways-in-Some-clause-ways : goal.returns-in_ok-ways-in-Some-clause-ways
returns-in_ok-ways-in-Some-clause-ways c =
    let g = plain c.args.basis.grammar.now in let ts = basis_tokens c.args.basis in let lists = c.args.basis.table.now.lists.items in
    let t = tally_of c.in_ok-ways-in-Some.ways in
    let by : (k : Kept) → IsSpanWays g ts lists k.head c.args.from k.to t → k ≡ c.in-Some.ensures.0 → IsSpanWays g ts lists c.args.head c.args.from c.args.to t =
    λ k is same.
    subst (λ h. IsSpanWays g ts lists h c.args.from c.args.to t) (ap (λ x. x.head) same ∙ c.in-Some.ensures.2)
    (subst (λ e. IsSpanWays g ts lists k.head c.args.from e t) (ap (λ x. x.to) same ∙ c.in-Some.ensures.3) is) in
    let there = ap (λ l. slice_get l c.in-Some.index) (sym c.deref.ensures.value) ∙ c.in-Some.ensures.1 in
    by c.index_mut.result.now c.in_ok-ways-in-Some.ensures.ways (found_same c.args.kept.now.items c.in-Some.index c.in-Some.ensures.0 c.index_mut.result.now c.index_mut.ensures.value there)

pub returns-in_ok-push-in-None-clause-kept : goal.returns-in_ok-push-in-None-clause-kept
returns-in_ok-push-in-None-clause-kept c =
    let g = plain c.args.basis.grammar.now in let ts = basis_tokens c.args.basis in let lists = c.args.basis.table.now.lists.items in
    let own = c.in_ok-own-in-None.own in
    let before : AllKept g ts lists c.if-not-has_room.kept.items =
    elim c.if-not-has_room.branch [
      | then-not-has_room w ↦ none_kept g ts lists c.if-not-has_room.kept.items (ap (λ v. v.items) w.kept-is ∙ w.clear.ensures.items)
      | else-not-has_room w ↦ subst (λ v. AllKept g ts lists v.items) (sym w.kept-is) c.requires.kept
    ] in
    all_kept_more g ts lists c.if-not-has_room.kept.items c.push.new.self.items own c.in_ok-push-in-None.ensures.items before (ready_kept g ts lists c.args.from own c.in_ok-own-in-None.ensures.ready)
