use Rattle.std.proofs.Common.{subst, sym, map}
use Rattle.sx_rules.specs.Views.{rule}
use Rattle.sx_rules.specs.Deep.{RulesAreShallow}
use Rattle.sx_rules.specs.Sets.{bare_rules_in}
use Rattle.sx_rules.proofs.Facts.{kept_shallow, shallow_joined}
use Rattle.sx_rules.proofs.extend.joined.Goals as goal

pub copy_rules-requires : goal.copy_rules-requires
copy_rules-requires c =
    subst (λ rs. RulesAreShallow (map rule rs)) (sym c.deref.ensures.value) (kept_shallow (bare_rules_in c.args.base.now) c.args.base.now.shallow)

pub returns-in-Ok-append-clause-shallow : goal.returns-in-Ok-append-clause-shallow
returns-in-Ok-append-clause-shallow c =
    shallow_joined c.deref.result.now c.in-Ok.rules.items c.args.more.items c.append.new.self.items c.in-Ok-append.ensures.items c.in-Ok.ensures
    (subst (λ rs. RulesAreShallow (map rule rs)) (sym c.deref.ensures.value) (kept_shallow (bare_rules_in c.args.base.now) c.args.base.now.shallow)) c.requires
