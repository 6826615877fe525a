use Rattle.sx_directives.proofs.BodyLaws.{cut_here, no_word, no_blank}
use Rattle.std.proofs.Common.{rules}
use Rattle.sx_directives.proofs.body.split_body.Goals as goal

pub returns-then-begins_blank : goal.returns-then-begins_blank
returns-then-begins_blank c = cut_here c.args.line.now c.split_at.result.1.now c.in-Some.body.now c.blanks_len-blanks.result c.blanks_len-blanks.ensures c.split_at.ensures.back c.in-Some.ensures (c.begins_blank.ensures.0 c.if-begins_blank.true)

pub returns-else-begins_blank : goal.returns-else-begins_blank
returns-else-begins_blank c = no_blank c.args.line.now c.split_at.result.1.now c.in-Some.body.now c.blanks_len-blanks.result c.blanks_len-blanks.ensures c.split_at.ensures.back c.in-Some.ensures (search rules)

pub returns-in-None : goal.returns-in-None
returns-in-None c = no_word c.args.line.now c.split_at.result.1.now c.blanks_len-blanks.result c.blanks_len-blanks.ensures c.split_at.ensures.back c.in-None.ensures
