-- The rules of an extension that is added are sound after the set.
use Rattle.std.proofs.Common.{List, [], ◌∷◌, ◌++◌, map, ap}
use Rattle.sx_rules.specs.Modes.{Modes, AllModed}
use Rattle.sx_rules.specs.Rules.{Rule}
use Rattle.sx_rules.specs.Sets.{shapes_in}
use Rattle.sx_rules.specs.Views.{rule}
use Rattle.sx_plain.specs.Views.{table_of}
use Rattle.sx_rewrite.specs.Accepted.{Accepted, Checked, basic, checked, rule_in}
use Rattle.sx_rewrite.specs.AcceptedView.{accepted, signature}
use Rattle.sx_rewrite.specs.Extensions.{with_table}
use Rattle.sx_rewrite.specs.ExtensionView.{extension_with}
use Rattle.sx_rewrite.specs.Stored.{checked_of}
use Rattle.sx_rewrite.proofs.Checks.{stored_extensions_are_sound}
use Rattle.sx_rewrite.proofs.Growing.{longer}
use Rattle.sx_rewrite.proofs.PlainSets.{plain_rules_are_accepted}
use Rattle.sx_extcheck.specs.Laws.{AddedRulesAreSound}
use Rattle.sx_extcheck.proofs.Fitting.{all-stored}

-- the base rules are moded with all
base-moded : (modes : Modes) (base : List Rule) (more : List Checked) → AllModed modes (map rule_in (map basic base ++ map checked more)) → AllModed modes base
base-moded modes [] more h = tt
base-moded modes (r ∷ base) more h = (h.0, base-moded modes base more h.1)

pub added_rules_are_sound : AddedRulesAreSound
added_rules_are_sound old all ext budgets is fits count new (flats, checks, added) =
    let sig = signature old in
    let base = shapes_in old.base in
    let shapes = shapes_in old.rules in
    let table = table_of ext.plain in
    let stored = checked_of (map (λ e. rule e.rule) ext.rules.items) flats in
    let with_its = longer sig base shapes all (accepted old) table is fits.goes_on in
    let plain = plain_rules_are_accepted sig base all (with_table (accepted old) table) with_its in
    record {
      stored = stored;
      stored_are = ap (λ (a : Accepted). a.more) added.3;
      sound =
          stored_extensions_are_sound sig base shapes all (accepted old) is (extension_with ext flats) fits
          (all-stored old ext.plain budgets (base-moded sig.modes (accepted old).base (accepted old).more is.moded) plain.moded ext.rules.items stored count checks);
    }
