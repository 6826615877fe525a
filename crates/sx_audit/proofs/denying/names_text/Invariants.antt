use Rattle.std.proofs.Common.{◌≡◌, ◌++◌, drop, codes}
use Rattle.std.specs.List.{flat_map}
use Rattle.sx_audit.specs.Kinds.{after_blank}
use Rattle.sx_audit.proofs.denying.names_text.Given as goal

abbrev pub invariant-loop-name : goal.invariant-loop-name
invariant-loop-name l =
    l.made.items ++ flat_map after_blank (drop l.name-index l.names)
    ≡ codes "deny" ++ flat_map after_blank l.names
