use Rattle.std.proofs.Common.{◌≡◌, arith, ◌+◌}
use Rattle.std.proofs.lemmas.List.{length-map}
use Rattle.sx_earley.specs.Shown.{plain, literal_texts, token_of, tokens_of}
use Rattle.sx_earley.specs.Chart.{ReadsNext, next_symbol, moved}
use Rattle.sx_earley.proofs.Growth.{only_more}
use Rattle.sx_earley.proofs.Scanning.{within_tokens, reads_after}
use Rattle.sx_earley.proofs.growing.scan.Goals as goal

pub overflow_add-item-then-reads : goal.overflow_add-item-then-reads
overflow_add-item-then-reads c =
    let d = c.args.grammar.now in let item = c.args.dotted.item in
    let tokens = tokens_of d c.args.shown.now in let after = next_symbol (plain d) item.head item.dot in
    let here = reads_after tokens (literal_texts d) after c.args.dotted.symbol c.in-Some.expected item.end c.requires.next.is c.in-Some.is (c.reads.ensures.0 c.if-reads.true) in
    let low = within_tokens tokens after item.end here in
    let same = length-map c.args.shown.now (token_of (literal_texts d)) in
    let short = c.requires.short in
    omega arith

pub returns-then-reads-clause-only : goal.returns-then-reads-clause-only
returns-then-reads-clause-only c =
    let d = c.args.grammar.now in let item = c.args.dotted.item in
    let tokens = tokens_of d c.args.shown.now in let after = next_symbol (plain d) item.head item.dot in
    let here = reads_after tokens (literal_texts d) after c.args.dotted.symbol c.in-Some.expected item.end c.requires.next.is c.in-Some.is (c.reads.ensures.0 c.if-reads.true) in
    only_more c.args.found.now c.add.new.found (λ i. i ≡ moved item (item.end + 1)) (λ i. ReadsNext tokens after item.end × (i ≡ moved item (item.end + 1)))
    (λ i e. (here, e)) c.add.ensures.only
