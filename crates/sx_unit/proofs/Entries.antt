-- Lists of derivations without hypotheses.
use Rattle.std.proofs.Common.{◌≡◌, ℕ, ◌<◌, List, [], ◌∷◌, ◌++◌, map, length, refl, sym, ap, ◌∙◌}
use Rattle.std.proofs.Common.{subst, arith}
use Rattle.std.specs.List.{AllByRecursion}
use Rattle.std.proofs.lemmas.List.{length-append, length-map}
use Rattle.std.proofs.lemmas.Option.{slice_get_within}
use Rattle.sx_rules.specs.declared.rule.Rule.{Rule as RuleOf}
use Rattle.sx_rules.specs.declared.rule_set.RuleSet.{RuleSet}
use Rattle.sx_rules.specs.declared.entry.Entry.{Entry as EntryOf}
use Rattle.sx_rules.specs.declared.entry.Entry.TheVariants as entry_of
use Rattle.sx_rules.specs.Rules.{Judgement}
use Rattle.sx_rules.specs.Views.{NamedRule, named}
use Rattle.sx_rules.specs.Good.{names_of}
use Rattle.sx_rules.specs.Sets.{names_in, rules_in}
use Rattle.sx_rules.specs.Derivations.{Proof, Proofs, by, given, no_more, ◌⊳◌, nodes_of}
use Rattle.sx_rules.specs.Derivations.{nodes_of_all, Derives, DeriveEach}
use Rattle.sx_rules.specs.Orders.{Entry, of_rule, of_given, order_of, order_of_all}
use Rattle.sx_rules.specs.EntryView.{entry, entries}
use Rattle.sx_rules.specs.ListText.{IsEntry}
use Rattle.sx_typing.specs.Outcomes.{nameless}
use Rattle.sx_rules.specs.Rules.{no_hypotheses}

-- each entry is one of so many rules
abbrev AreOfRules : ℕ → List Entry → Type 0
AreOfRules n [] = Unit {0}
AreOfRules n (of_rule r ∷ list) = (r < n) × AreOfRules n list
AreOfRules n (of_given i ∷ list) = ⊥

of_both : (n : ℕ) (list more : List Entry) → AreOfRules n list → AreOfRules n more →
    AreOfRules n (list ++ more)
of_both n [] more h k = k
of_both n (of_rule r ∷ list) more h k = (h.0, of_both n list more h.1 k)
of_both n (of_given i ∷ list) more h k = absurd h

module _ (rules : List NamedRule) where
  mutual
    of_rules : (j : Judgement) (p : Proof) → Derives (nameless rules) no_hypotheses j p →
        AreOfRules (length (nameless rules)) (order_of p)
    of_rules j (given i) d = cc
    of_rules j (by r binds kids) (rule, at, e, f, g, each) =
        (slice_get_within (nameless rules) r rule at, all_of_rules _ kids each)

    all_of_rules : (js : List Judgement) (ps : Proofs) → DeriveEach (nameless rules) no_hypotheses js ps
        → AreOfRules (length (nameless rules)) (order_of_all ps)
    all_of_rules [] no_more d = tt
    all_of_rules [] (p ⊳ ps) d = absurd d
    all_of_rules (j ∷ js) no_more d = absurd d
    all_of_rules (j ∷ js) (p ⊳ ps) d = of_both (length (nameless rules)) (order_of p) (order_of_all ps)
        (of_rules j p d.0) (all_of_rules js ps d.1)

  all_entries : (n : ℕ) → n ≡ length (map (λ (r : NamedRule). r.name) rules) →
      (list : List EntryOf) → AreOfRules n (entries list) →
      AllByRecursion (IsEntry (map (λ r. r.name) rules)) list
  all_entries n many [] all = tt
  all_entries n many (entry_of.Rule r ∷ list) all =
      (let h = all.0 in omega arith, all_entries n many list all.1)
  all_entries n many (entry_of.Given i ∷ list) all = absurd all

-- a derivation has as many entries as nodes
mutual
  order_length : (p : Proof) → length (order_of p) ≡ nodes_of p
  order_length (given i) = refl
  order_length (by r binds kids) = let e = orders_length kids in omega arith

  orders_length : (ps : Proofs) → length (order_of_all ps) ≡ nodes_of_all ps
  orders_length no_more = refl
  orders_length (p ⊳ ps) =
      let e = order_length p in
      let f = orders_length ps in
      let g = length-append (order_of p) (order_of_all ps) in
      omega arith

-- the list of a derivation has an entry for each node, and names rules that are there
pub lists_fit : (rules : List NamedRule) (j : Judgement) (p : Proof) (list : List EntryOf) →
    Derives (nameless rules) no_hypotheses j p → entries list ≡ order_of p →
    AllByRecursion (IsEntry (map (λ r. r.name) rules)) list × (length list ≡ nodes_of p)
lists_fit rules j p list d same = (
  all_entries rules (length (nameless rules)) (length-map rules (λ r. r.rule)
      ∙ sym (length-map rules (λ r. r.name))) list
      (subst (AreOfRules (length (nameless rules))) (sym same) (of_rules rules j p d)),
  sym (length-map list entry) ∙ ap length same ∙ order_length p,
)

names_named : (rules : List RuleOf) → map (λ r. r.name) (map named rules) ≡ names_of rules
names_named [] = refl
names_named (r ∷ rules) = ap (λ (names : List (List ℕ)). r.name ∷ names) (names_named rules)

-- the names of the rules of a set
pub names_are : (set : RuleSet) → map (λ r. r.name) (rules_in set) ≡ names_in set
names_are set = names_named set.rules.items
