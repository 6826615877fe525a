use Rattle.sx_rules.specs.Sets.{names_in}
use Rattle.sx_rules.proofs.ListLaws.{all_entries}
use Rattle.sx_rules.proofs.list_writing.write_list.Goals as goal

pub put_lines-requires : goal.put_lines-requires
put_lines-requires c = all_entries (names_in c.args.rules.now) c.args.list.now c.requires
