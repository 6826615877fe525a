-- What adding an extension to an accepted set answers.
use Rattle.std.specs.Prelude.{◌≡◌, List, ◌++◌, Result, Ok, Err}
use Rattle.sx_term.specs.Sorts.{Shape}
use Rattle.sx_rules.specs.Sets.{shapes_in, rules_in}
use Rattle.sx_plain.specs.declared.table.PlainTable.{PlainTable}
use Rattle.sx_rewrite.specs.declared.accepted.Accepted.{Accepted}
use Rattle.sx_rewrite.specs.declared.grown.Grown.{Grown}
use Rattle.sx_rewrite.specs.declared.extension_data.ExtensionData.{ExtensionData}
use Rattle.sx_rewrite.specs.declared.flat.Flat.{Flat}
use Rattle.sx_rewrite.specs.Extensions.{extended_by}
use Rattle.sx_rewrite.specs.AcceptedView.{accepted}
use Rattle.sx_rewrite.specs.ExtensionView.{named_rules, extension_with}

-- the set is as it was
pub record IsAsBefore (old kept : Accepted) : Type 0 where
  pub base : kept.base ≡ old.base
  pub rules : kept.rules ≡ old.rules
  pub plain_rules : kept.plain_rules ≡ old.plain_rules
  pub plain : kept.plain ≡ old.plain
  pub flats : kept.flats.items ≡ old.flats.items

-- the set has other rules and another table, and more is stored, or it is as it was
abbrev pub IsSetJoined : Accepted → Grown → PlainTable → List Flat → Result Accepted Accepted →
    Type 0
IsSetJoined old grown plain flats (Ok new) =
    (new.base ≡ old.base) × (new.rules ≡ grown.rules) × (new.plain ≡ plain)
    × (new.flats.items ≡ old.flats.items ++ flats)
IsSetJoined old grown plain flats (Err kept) = IsAsBefore old kept

-- the set with the extension after it, whose rules have the shapes, or the set as it was
abbrev pub IsExtensionAdded : Accepted → List Shape → ExtensionData → List Flat →
    Result Accepted Accepted → Type 0
IsExtensionAdded old all ext flats (Ok new) =
    (new.base ≡ old.base) × (shapes_in new.rules ≡ all)
    × (rules_in new.rules ≡ rules_in old.rules ++ named_rules ext)
    × (accepted new ≡ extended_by (accepted old) (extension_with ext flats))
IsExtensionAdded old all ext flats (Err kept) = IsAsBefore old kept
