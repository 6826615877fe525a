use Rattle.std.proofs.Common.{rules, ◌≢◌, []}
use Rattle.sx_directives.proofs.PartLaws.{first_cut, no_part}
use Rattle.sx_directives.proofs.parts.next_part.Goals as goal

pub returns-then-is_empty-clause-parts : goal.returns-then-is_empty-clause-parts
returns-then-is_empty-clause-parts c = no_part c.args.text.now c.split_at.result.1.now c.blanks_len.result c.blanks_len.ensures c.split_at.ensures.back (search rules)

pub returns-clause-parts : goal.returns-clause-parts
returns-clause-parts c =
    let n : c.split_at.result.1.now ≢ [] = search rules in
    first_cut c.args.text.now c.split_at.result.1.now c.split_at-2.result.0.now c.split_at-2.result.1.now c.blanks_len.result c.part_len.result
    c.blanks_len.ensures c.split_at.ensures.back c.part_len.ensures n c.split_at-2.ensures.front c.split_at-2.ensures.back
