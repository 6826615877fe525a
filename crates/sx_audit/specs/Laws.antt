-- Laws of nodes that are shown.
use Rattle.std.specs.Prelude.{◌≡◌, ℕ, false, List, map, length, Contains}
use Rattle.sx_rules.specs.declared.entry.Entry.{Entry}
use Rattle.sx_rules.specs.declared.rule_set.RuleSet.{RuleSet}
use Rattle.sx_rules.specs.Derivations.{Proof, Derives}
use Rattle.sx_rules.specs.EntryView.{entries}
use Rattle.sx_rules.specs.ListText.{entry_line}
use Rattle.sx_rules.specs.Orders.{order_of}
use Rattle.sx_rules.specs.Rules.{Judgement, no_hypotheses}
use Rattle.sx_rules.specs.Sets.{rules_in, bare_rules_in, names_in}
use Rattle.sx_audit.specs.Meaning.{Node}
use Rattle.sx_audit.specs.Kinds.{is_among, of_names, deny_kind}
use Rattle.sx_audit.specs.Shown.{Admits}
use Rattle.sx_audit.specs.Preorder.{nodes, IsByRules}

-- none of the nodes that an auditor of the kind `deny` admits is by one of its rules
abbrev pub DeniedAreAbsent : Type 0
DeniedAreAbsent = (name : List ℕ) (names : List (List ℕ)) (ns : List Node) →
    Admits ns (record { kind = deny_kind name; state = of_names names }) →
    (n : Node) → Contains ns n → is_among names n.rule ≡ false

-- a derivation without hypotheses has no givens, and is by the rules of the set
abbrev pub DerivationsAreByRules : Type 0
DerivationsAreByRules = (set : RuleSet) (j : Judgement) (p : Proof) →
    Derives (bare_rules_in set) no_hypotheses j p → IsByRules (length (rules_in set)) p

-- the rules of its nodes are those that the lines of its list name
abbrev pub LinesNameNodes : Type 0
LinesNameNodes = (set : RuleSet) (depth : ℕ) (j : Judgement) (p : Proof) (list : List Entry) →
    Derives (bare_rules_in set) no_hypotheses j p → entries list ≡ order_of p →
    map (λ n. n.rule) (nodes (rules_in set) depth p) ≡ map (entry_line (names_in set)) list
