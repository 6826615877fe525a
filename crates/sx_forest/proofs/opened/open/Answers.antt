use Rattle.std.proofs.Common.{arith, subst}
use Rattle.std.proofs.lemmas.List.{length-map}
use Rattle.sx_earley.specs.Shown.{literal_texts, token_of}
use Rattle.sx_forest.specs.Tallies.{tally_of}
use Rattle.sx_forest.specs.Table.{CountsReadings}
use Rattle.sx_forest.specs.Forests.{grammar_in, tokens_in}
use Rattle.sx_forest.proofs.Rows.{span_forward, span_within}
use Rattle.sx_forest.proofs.opened.open.Goals as goal

pub all_rows-requires-clause-short : goal.all_rows-requires-clause-short
all_rows-requires-clause-short c =
    let F = c.args.forest in
    let s = subst (λ m. CountsReadings (grammar_in F) (tokens_in F) F.start m c.args.from c.args.entry.to (tally_of c.args.entry.ways)) c.requires.by c.requires.entry.sound in
    let w = span_within (grammar_in F) (tokens_in F) F.start c.args.head c.args.from c.args.entry.to s.0 in
    let l = length-map F.shown.now (token_of (literal_texts F.grammar.now)) in
    let h = c.requires.forest.short in
    omega (arith, w, l, h)

pub all_rows-requires-clause-along : goal.all_rows-requires-clause-along
all_rows-requires-clause-along c =
    let F = c.args.forest in
    let s = subst (λ m. CountsReadings (grammar_in F) (tokens_in F) F.start m c.args.from c.args.entry.to (tally_of c.args.entry.ways)) c.requires.by c.requires.entry.sound in
    span_forward (grammar_in F) (tokens_in F) F.start c.args.head c.args.from c.args.entry.to s.0

pub all_rows-requires-clause-sorted : goal.all_rows-requires-clause-sorted
all_rows-requires-clause-sorted c = c.requires.forest.full.table.sorted
