use Rattle.std.proofs.Common.{◌≡◌, ◌-◌, suc, option_map, refl, subst, arith}
use Rattle.sx_grammar.specs.Numbered.{symbol}
use Rattle.sx_earley.specs.Shown.{plain, literal_texts, tokens_of}
use Rattle.sx_forest.specs.Tallies.{tally_of, ways_of}
use Rattle.sx_forest.specs.Rows.{entries_at, IsNextRow}
use Rattle.sx_forest.proofs.Skipping.{extends_none, extends_pushed, extends_idle, extends_all}
use Rattle.sx_forest.proofs.span_rows.extend.Goals as goal

pub loop-place-init : goal.loop-place-init
loop-place-init c =
    extends_none (plain c.args.basis.grammar.now) (tokens_of c.args.basis.grammar.now c.args.basis.shown.now) c.args.basis.table.now.lists.items (option_map (symbol (literal_texts c.args.basis.grammar.now)) c.args.expected)
    (ways_of c.args.next.now) c.args.places c.args.row.now c.requires.joins

pub loop-place-preserved : goal.loop-place-preserved
loop-place-preserved c =
    let g = plain c.args.basis.grammar.now in let ts = tokens_of c.args.basis.grammar.now c.args.basis.shown.now in
    let lists = c.args.basis.table.now.lists.items in let x = option_map (symbol (literal_texts c.args.basis.grammar.now)) c.args.expected in
    let next = ways_of c.args.next.now in let row = c.loop-place.row in let place = c.loop-place.place - 1 in let w = c.next_ways-here.result in
    let at : c.loop-place.place ≡ suc place = let h = c.loop-place-test.true in omega arith in
    let here : IsNextRow g ts (entries_at lists place) x place next (tally_of w) = subst (λ l. IsNextRow g ts l x place next (tally_of w)) c.from-entries.ensures c.next_ways-here.ensures in
    extends_pushed g ts lists x next c.args.places c.args.row.now c.loop-place.place row c.loop-place.invariant place at c.loop-place-test.true w here
    (record { end = row.end; ways = c.push.new.self }) refl c.in_ok-push.ensures.items

pub loop-place-preserved-then-is_idle : goal.loop-place-preserved-then-is_idle
loop-place-preserved-then-is_idle c =
    let g = plain c.args.basis.grammar.now in let ts = tokens_of c.args.basis.grammar.now c.args.basis.shown.now in
    let lists = c.args.basis.table.now.lists.items in let x = option_map (symbol (literal_texts c.args.basis.grammar.now)) c.args.expected in
    let next = ways_of c.args.next.now in let row = c.loop-place.row in let place = c.loop-place.place - 1 in let w = c.next_ways-here.result in
    let at : c.loop-place.place ≡ suc place = let h = c.loop-place-test.true in omega arith in
    let here : IsNextRow g ts (entries_at lists place) x place next (tally_of w) = subst (λ l. IsNextRow g ts l x place next (tally_of w)) c.from-entries.ensures c.next_ways-here.ensures in
    let idle = c.is_idle.ensures c.if-is_idle.true in
    extends_idle g ts lists x next c.args.places c.args.row.now c.loop-place.place row c.loop-place.invariant place at c.loop-place-test.true w here
    (record { end = place; ways = row.ways }) refl refl idle.0 idle.1

pub returns : goal.returns
returns c =
    extends_all (plain c.args.basis.grammar.now) (tokens_of c.args.basis.grammar.now c.args.basis.shown.now) c.args.basis.table.now.lists.items (option_map (symbol (literal_texts c.args.basis.grammar.now)) c.args.expected)
    (ways_of c.args.next.now) c.args.places c.args.row.now c.loop-place.place c.loop-place.row c.loop-place.invariant c.loop-place-test.false
