use Rattle.std.proofs.Common.{◌≡◌, ◌++◌, drop, map, true}
use Rattle.std.specs.List.{list_all}
use Rattle.sx_lines.specs.Words.{is_name}
use Rattle.sx_audit.proofs.settings.rule_names.Given as goal

abbrev pub invariant-loop-part : goal.invariant-loop-part
invariant-loop-part l =
    (l.names.items ++ map (λ x. x.now) (drop l.part-index l.parts) ≡ map (λ x. x.now) l.parts)
    × (list_all (is_name true) (map (λ x. x.now) (drop l.part-index l.parts))
    ≡ list_all (is_name true) (map (λ x. x.now) l.parts))
