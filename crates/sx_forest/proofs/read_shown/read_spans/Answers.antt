use Rattle.std.proofs.Common.{◌≡◌, ◌≤◌, ◌∙◌, subst, sym, length}
use Rattle.std.proofs.lemmas.List.{length-map}
use Rattle.sx_grammar.specs.Reading.{ReadsWhole, reading_depth}
use Rattle.sx_grammar.specs.Tally.{IsTally}
use Rattle.sx_earley.specs.Shown.{plain, literal_texts, token_of, tokens_of}
use Rattle.sx_forest.specs.Readings.{plain_reading}
use Rattle.sx_forest.specs.Tallies.{tally_of}
use Rattle.sx_forest.specs.Rows.{IsWholeWays}
use Rattle.sx_forest.proofs.Whole.{whole_tally}
use Rattle.sx_forest.proofs.read_shown.read_spans.Goals as goal
use Rattle.sx_forest.proofs.read_shown.read_spans.Goals.{After-whole_ways-ways}

-- the ways tell how the whole is read
ways_tell : (c : After-whole_ways-ways) → IsTally (ReadsWhole (plain c.args.grammar.now) (tokens_of c.args.grammar.now c.args.shown.now) c.args.start) reading_depth (tally_of c.whole_ways-ways.result)
ways_tell c =
    let g = plain c.args.grammar.now in let ts = tokens_of c.args.grammar.now c.args.shown.now in
    let long : length ts ≡ length c.args.shown.now = length-map c.args.shown.now (token_of (literal_texts c.args.grammar.now)) in
    let lists = c.in_ok-table.table.lists.items in let t = tally_of c.whole_ways-ways.result in
    whole_tally g ts c.args.start c.facts.ensures.levels lists c.in_ok-table.ensures t
    (subst (λ n. IsWholeWays g c.args.start n lists t) (sym long) c.whole_ways-ways.ensures)

pub unreachable-requires : goal.unreachable-requires
unreachable-requires c =
    let g = plain c.args.grammar.now in let ts = tokens_of c.args.grammar.now c.args.shown.now in
    let tally = ways_tell (goal.at.unreachable-requires c).After-whole_ways-ways in
    let v = c.in-Nothing.ensures g ts c.args.start c.requires.few tally in
    absurd (v c.requires.some.0 c.requires.some.1)

pub returns-in-TooDeep-clause-refused : goal.returns-in-TooDeep-clause-refused
returns-in-TooDeep-clause-refused c = λ l m.
    let g = plain c.args.grammar.now in let ts = tokens_of c.args.grammar.now c.args.shown.now in
    let tally = ways_tell (goal.at.returns-in-TooDeep-clause-refused c).After-whole_ways-ways in
    let v = c.in-TooDeep.ensures g ts c.args.start c.requires.few tally in
    v

pub first_reading-requires-clause-low : goal.first_reading-requires-clause-low
first_reading-requires-clause-low c =
    let g = plain c.args.grammar.now in let ts = tokens_of c.args.grammar.now c.args.shown.now in
    let tally = ways_tell (goal.at.first_reading-requires-clause-low c).After-whole_ways-ways in
    let v = c.in-One.ensures g ts c.args.start c.requires.few tally in
    λ r reads. subst (λ x. reading_depth x ≤ 1000) (sym (v.1.1.1 r reads)) v.1.2

pub first_reading-requires-clause-some : goal.first_reading-requires-clause-some
first_reading-requires-clause-some c =
    let g = plain c.args.grammar.now in let ts = tokens_of c.args.grammar.now c.args.shown.now in
    let tally = ways_tell (goal.at.first_reading-requires-clause-some c).After-whole_ways-ways in
    let v = c.in-One.ensures g ts c.args.start c.requires.few tally in
    (v.0, v.1.1.0)

pub returns-in-One-clause-found : goal.returns-in-One-clause-found
returns-in-One-clause-found c =
    let g = plain c.args.grammar.now in let ts = tokens_of c.args.grammar.now c.args.shown.now in
    let tally = ways_tell (goal.at.returns-in-One-clause-found c).After-whole_ways-ways in
    let v = c.in-One.ensures g ts c.args.start c.requires.few tally in
    let h = c.in_ok-first_reading-in-One.ensures in let r = plain_reading c.in_ok-first_reading-in-One.field-0 in
    (v.1.0, (h, λ other reads. v.1.1.1 other reads ∙ sym (v.1.1.1 r h)), subst (λ x. reading_depth x ≤ 1000) (sym (v.1.1.1 r h)) v.1.2)

pub two_readings-requires-clause-low : goal.two_readings-requires-clause-low
two_readings-requires-clause-low c =
    let g = plain c.args.grammar.now in let ts = tokens_of c.args.grammar.now c.args.shown.now in
    let tally = ways_tell (goal.at.two_readings-requires-clause-low c).After-whole_ways-ways in
    let v = c.in-More.ensures g ts c.args.start c.requires.few tally in
    v.2.1

pub two_readings-requires-clause-two : goal.two_readings-requires-clause-two
two_readings-requires-clause-two c =
    let g = plain c.args.grammar.now in let ts = tokens_of c.args.grammar.now c.args.shown.now in
    let tally = ways_tell (goal.at.two_readings-requires-clause-two c).After-whole_ways-ways in
    let v = c.in-More.ensures g ts c.args.start c.requires.few tally in
    (v.0, v.1, v.2.2, v.2.3, v.2.4)

pub returns-clause-found : goal.returns-clause-found
returns-clause-found c =
    let g = plain c.args.grammar.now in let ts = tokens_of c.args.grammar.now c.args.shown.now in
    let tally = ways_tell (goal.at.returns-clause-found c).After-whole_ways-ways in
    let v = c.in-More.ensures g ts c.args.start c.requires.few tally in
    let e = c.in_ok-one-in-More.ensures in
    (v.2.0, v.2.1, e.one, e.other, e.apart)
