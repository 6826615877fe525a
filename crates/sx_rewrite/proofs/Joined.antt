-- A set with an extension after it, by what it has.
use Rattle.std.proofs.Common.{◌≡◌, List, ◌++◌, ap, ◌∙◌}
use Rattle.std.specs.Prelude.{Result, Ok, Err}
use Rattle.sx_term.specs.Sorts.{Shape}
use Rattle.sx_rules.specs.Sets.{shapes_in, rules_in, bare_rules_in}
use Rattle.sx_plain.specs.Views.{table_of}
use Rattle.sx_rewrite.specs.declared.accepted.Accepted.{Accepted}
use Rattle.sx_rewrite.specs.declared.extension_data.ExtensionData.{ExtensionData}
use Rattle.sx_rewrite.specs.declared.grown.Grown.{Grown}
use Rattle.sx_rewrite.specs.declared.flat.Flat.{Flat}
use Rattle.sx_rewrite.specs.Extensions.{extended_by}
use Rattle.sx_rewrite.specs.Stored.{accepted_from}
use Rattle.sx_rewrite.specs.AcceptedView.{accepted}
use Rattle.sx_rewrite.specs.ExtensionView.{named_rules, extension_with}
use Rattle.sx_rewrite.specs.Adds.{IsSetJoined, IsExtensionAdded}

pub added-by : (old : Accepted) (grown : Grown) (ext : ExtensionData) (all : List Shape) (flats : List Flat) (r : Result Accepted Accepted) → IsSetJoined old grown ext.plain flats r →
    shapes_in grown.rules ≡ all → rules_in grown.rules ≡ rules_in old.rules ++ named_rules ext →
    accepted_from (bare_rules_in old.base) (bare_rules_in grown.rules) (table_of ext.plain) (old.flats.items ++ flats) ≡ extended_by (accepted old) (extension_with ext flats) →
    IsExtensionAdded old all ext flats r
added-by old grown ext all flats (Ok new) (base_is, rules_are, plain_is, flats_are) s n e = (
  base_is,
  ap shapes_in rules_are ∙ s,
  ap rules_in rules_are ∙ n,
  (λ i. accepted_from (bare_rules_in (base_is i)) (bare_rules_in (rules_are i)) (table_of (plain_is i)) (flats_are i)) ∙ e,
)
added-by old grown ext all flats (Err kept) h s n e = h
