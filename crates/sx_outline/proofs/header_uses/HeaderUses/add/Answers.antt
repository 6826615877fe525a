use Rattle.std.proofs.Common.{◌≡◌, length, rules}
use Rattle.sx_outline.proofs.HeaderLaws.{not_before}
use Rattle.sx_outline.proofs.header_uses.HeaderUses.add.Goals as goal

pub returns-clause-added : goal.returns-clause-added
returns-clause-added c =
    let many : c.len.result ≡ length c.args.self.now.names.items = search rules in (
      not_before c.args.self.now.names.items c.args.name c.len.result c.is_before.result many (c.is_before.ensures c.args.self.now.names.items c.requires) c.if-is_before.false,
      c.in_ok-push-2.ensures.items,
    )
