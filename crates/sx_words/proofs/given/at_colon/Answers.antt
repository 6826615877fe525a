use Rattle.std.proofs.Common.{sym}
use Rattle.sx_words.proofs.ColonLaws.{colon_parts, colon_utf8, at_colon-none}
use Rattle.sx_words.proofs.given.at_colon.Goals as goal

pub returns-in-Some-clause-value : goal.returns-in-Some-clause-value
returns-in-Some-clause-value c = colon_parts c.args.text.now c.in-Some.at _ _ _ c.in-Some.ensures c.split_at.ensures.front c.split_at.ensures.back c.split_at-in-Some.ensures.back

pub returns-in-Some-clause-utf8 : goal.returns-in-Some-clause-utf8
returns-in-Some-clause-utf8 c = λ u. colon_utf8 c.args.text.now c.in-Some.at _ _ _ c.in-Some.ensures c.split_at.ensures.front c.split_at.ensures.back c.split_at-in-Some.ensures.back u

pub returns-in-None-clause-value : goal.returns-in-None-clause-value
returns-in-None-clause-value c = sym (at_colon-none c.args.text.now c.in-None.ensures)
