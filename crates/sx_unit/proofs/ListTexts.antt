-- The text that is written of a derivation's list.
use Rattle.std.proofs.Common.{◌≡◌, ℕ, List, [], ◌∷◌, map, refl, ap, ◌∙◌, sym, codes}
use Rattle.sx_lines.specs.Reading.{written}
use Rattle.sx_rules.specs.declared.rule_set.RuleSet.{RuleSet}
use Rattle.sx_rules.specs.declared.entry.Entry.{Entry as EntryOf}
use Rattle.sx_rules.specs.declared.entry.Entry.TheVariants as entry_of
use Rattle.sx_rules.specs.EntryView.{entries}
use Rattle.sx_rules.specs.Orders.{of_rule, of_given}
use Rattle.sx_rules.specs.ListText.{entry_line, list_lines}
use Rattle.sx_rules.specs.Sets.{names_in, rules_in}
use Rattle.sx_unit.specs.Texts.{entry_text, derivation_text}
use Rattle.sx_unit.proofs.Entries.{names_are}

lines_same : (names : List (List ℕ)) (list : List EntryOf) → map (entry_line names) list ≡ map
    (entry_text names) (entries list)
lines_same names [] = refl
lines_same names (entry_of.Rule r ∷ list) =
    ap (λ (l : List (List ℕ)). entry_text names (of_rule r) ∷ l) (lines_same names list)
lines_same names (entry_of.Given n ∷ list) =
    ap (λ (l : List (List ℕ)). entry_text names (of_given n) ∷ l) (lines_same names list)

pub written_list : (set : RuleSet) (list : List EntryOf) → written (list_lines (names_in set) list)
    ≡ derivation_text (rules_in set) (entries list)
written_list set list =
    ap (λ (l : List (List ℕ)). written (codes "sxder 1" ∷ l)) (lines_same (names_in set) list)
    ∙ ap (λ (names : List (List ℕ)).
    written (codes "sxder 1" ∷ map (entry_text names) (entries list))) (sym (names_are set))
