-- The text of a certificate.
use Rattle.std.specs.Prelude.{ℕ, ◌+◌, List, [], ◌∷◌, ◌++◌, codes, decimal}
use Rattle.std.specs.List.{flat_map}
use Rattle.sx_rules.specs.Derivations.{Proof}
use Rattle.sx_rules.specs.Orders.{Entry, of_rule, of_given, order_of}
use Rattle.sx_rules.specs.Views.{NamedRule, rule_name}

-- an entry: the name of a rule, or `given N` with N counted from 1
abbrev pub certificate_entry_text : List NamedRule → Entry → List ℕ
certificate_entry_text rules (of_rule number) = rule_name rules number
certificate_entry_text rules (of_given number) = codes "given " ++ decimal (number + 1)

-- entries in order, each after a blank
abbrev pub entries_text : List NamedRule → List Entry → List ℕ
entries_text rules list = flat_map (λ e. 32 ∷ certificate_entry_text rules e) list

-- the line of a rule's certificate, by the rules that it is a derivation by: the rule's name, `:`,
-- and the entries in preorder, each after a blank
abbrev pub certificate_line : List NamedRule → (name : List ℕ) → Proof → List ℕ
certificate_line rules name p = name ++ codes ":" ++ entries_text rules (order_of p) ++ 10 ∷ []
