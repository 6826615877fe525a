-- The list of a derivation without hypotheses.
use Rattle.std.proofs.Common.{◌≡◌, ℕ, suc, List, [], ◌∷◌, map, length, refl, sym, ap, ◌∙◌, subst}
use Rattle.std.specs.List.{AllByRecursion}
use Rattle.std.proofs.lemmas.List.{length-map}
use Rattle.sx_lines.specs.Reading.{written}
use Rattle.sx_rules.specs.declared.rule.Rule.{Rule as RuleOf}
use Rattle.sx_rules.specs.declared.rule_set.RuleSet.{RuleSet}
use Rattle.sx_rules.specs.declared.entry.Entry.{Entry as EntryOf}
use Rattle.sx_rules.specs.declared.entry.Entry.TheVariants as entry_of
use Rattle.sx_rules.specs.Rules.{Judgement}
use Rattle.sx_rules.specs.Views.{named}
use Rattle.sx_rules.specs.Good.{names_of}
use Rattle.sx_rules.specs.Sets.{names_in, rules_in}
use Rattle.sx_rules.specs.Derivations.{Proof, nodes_of, Derives}
use Rattle.sx_rules.specs.Orders.{order_of}
use Rattle.sx_rules.specs.EntryView.{entry, entries}
use Rattle.sx_rules.specs.ListText.{IsEntry, list_lines}
use Rattle.sx_core.specs.Problem.{problem}
use Rattle.sx_core.specs.declared.problem.CoreProblem.{CoreProblem}
use Rattle.sx_top.specs.CoreTexts.{list_text}
use Rattle.sx_top.proofs.ListTexts.{AreOfRules, of_rules, order_length, list_again, names_of as names_of_data, text_is}
use Rattle.sx_top.specs.FindFirst.{problem_rules}
use Rattle.sx_rules.specs.Rules.{no_hypotheses}

-- a list has an entry for each node
pub nodes_listed : (list : List EntryOf) (p : Proof) → entries list ≡ order_of p → length list ≡ nodes_of p
nodes_listed list p same = sym (length-map list entry) ∙ ap length same ∙ order_length p

-- ---- entries

all_entries : (names : List (List ℕ)) (list : List EntryOf) → AreOfRules (length names) (entries list) → AllByRecursion (IsEntry names) list
all_entries names [] all = tt
all_entries names (entry_of.Rule r ∷ list) all = (all.0, all_entries names list all.1)
all_entries names (entry_of.Given i ∷ list) all = absurd all

same_length : (rules : List RuleOf) → length (map (λ r. r.rule) (map named rules)) ≡ length (names_of rules)
same_length [] = refl
same_length (r ∷ rules) = ap suc (same_length rules)

-- the entries of a derivation of a problem are of its rules
pub entries_listed : (p : CoreProblem) (j : Judgement) (q : Proof) (list : List EntryOf) → Derives (problem_rules (problem p)) no_hypotheses j q → entries list ≡ order_of q → AllByRecursion (IsEntry (names_in p.rules)) list
entries_listed p j q list derives same =
    all_entries (names_in p.rules) list
    (subst (λ (n : ℕ). AreOfRules n (entries list)) (same_length p.rules.rules.items)
    (subst (AreOfRules (length (problem_rules (problem p)))) (sym same) (of_rules (problem_rules (problem p)) no_hypotheses refl j q derives)))

-- ---- texts

again_same : (list : List EntryOf) → list_again (entries list) ≡ list
again_same [] = refl
again_same (entry_of.Rule r ∷ list) = ap (λ (l : List EntryOf). entry_of.Rule r ∷ l) (again_same list)
again_same (entry_of.Given i ∷ list) = ap (λ (l : List EntryOf). entry_of.Given i ∷ l) (again_same list)

names_same : (rules : List RuleOf) → names_of_data (map named rules) ≡ names_of rules
names_same [] = refl
names_same (r ∷ rules) = ap (λ (l : List (List ℕ)). r.name ∷ l) (names_same rules)

-- the text that is written of a list is its text
pub written_text : (rules : RuleSet) (list : List EntryOf) → written (list_lines (names_in rules) list) ≡ list_text (rules_in rules) (entries list)
written_text rules list =
    (λ i. written (list_lines (sym (names_same rules.rules.items) i) (sym (again_same list) i)))
    ∙ sym (text_is (rules_in rules) (entries list))
