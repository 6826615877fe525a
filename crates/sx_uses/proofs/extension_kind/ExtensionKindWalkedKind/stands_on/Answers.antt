use Rattle.std.proofs.Common.{rules}
use Rattle.sx_uses.proofs.extension_kind.ExtensionKindWalkedKind.stands_on.Goals as goal

pub returns-then-same-clause-step : goal.returns-then-same-clause-step
returns-then-same-clause-step c = search rules

pub returns-clause-step : goal.returns-clause-step
returns-clause-step c = search rules
