use Rattle.std.proofs.Common.{[], subst}
use Rattle.sx_notation.specs.WhyUnread.{IsUnreadAs}
use Rattle.sx_unit.proofs.print_check.print_refusal.Goals as goal

pub unreachable-requires : goal.unreachable-requires
unreachable-requires c =
    let h = subst (IsUnreadAs c.args.grammar.now.parts [] c.requires.0 c.args.tokens.now 0)
    c.in-Ok-NoReading.field-0-is (c.in-Ok-NoReading.ensures [] c.requires.0 c.requires.3) in
    h.1.1 c.requires.1 c.requires.2

pub returns-in-Ok-TooHard : goal.returns-in-Ok-TooHard
returns-in-Ok-TooHard c sort e =
    subst (IsUnreadAs c.args.grammar.now.parts [] sort c.args.tokens.now 0)
    c.in-Ok-TooHard.field-0-is (c.in-Ok-TooHard.ensures [] sort e)

pub returns-in-Ok-TooDeep : goal.returns-in-Ok-TooDeep
returns-in-Ok-TooDeep c sort e =
    subst (IsUnreadAs c.args.grammar.now.parts [] sort c.args.tokens.now 0)
    c.in-Ok-TooDeep.field-0-is (c.in-Ok-TooDeep.ensures [] sort e)

pub returns-in-Ok-Ambiguous : goal.returns-in-Ok-Ambiguous
returns-in-Ok-Ambiguous c sort e =
    subst (IsUnreadAs c.args.grammar.now.parts [] sort c.args.tokens.now 0)
    c.in-Ok-Ambiguous.field-0-is (c.in-Ok-Ambiguous.ensures [] sort e)
