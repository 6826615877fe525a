-- What nodes that are shown have to do with the lists of derivations.
use Rattle.std.proofs.Common.{◌≡◌, ℕ, zero, suc, ◌+◌, ◌<◌, Bool, true, false, not, List, [], ◌∷◌}
use Rattle.std.proofs.Common.{◌++◌, map, length, codes, Some, None, ap, sym, refl, subst, ◌∙◌, arith}
use Rattle.std.specs.Prelude.{Contains, slice_get, slice_index_or}
use Rattle.std.specs.Fmt.{decimal}
use Rattle.std.proofs.lemmas.Bool.{false≢true}
use Rattle.std.proofs.lemmas.List.{map-append}
use Rattle.sx_rules.specs.declared.entry.Entry.{Entry}
use Rattle.sx_rules.specs.declared.entry.Entry.TheVariants.{Rule as RuleEntry, Given}
use Rattle.sx_rules.specs.declared.rule.Rule.{Rule as RuleOf}
use Rattle.sx_rules.specs.declared.rule_set.RuleSet.{RuleSet}
use Rattle.sx_rules.specs.Derivations.{Proof, Proofs, by, given, no_more, ◌⊳◌, Derives, DeriveEach}
use Rattle.sx_rules.specs.EntryView.{entry, entries}
use Rattle.sx_rules.specs.Good.{names_of}
use Rattle.sx_rules.specs.ListText.{entry_line}
use Rattle.sx_rules.specs.Orders.{Entry as EntryData, of_rule, of_given, order_of, order_of_all}
use Rattle.sx_rules.specs.Rules.{Judgement, Rule, no_hypotheses}
use Rattle.sx_rules.specs.Sets.{rules_in, bare_rules_in, names_in}
use Rattle.sx_rules.specs.Views.{NamedRule, named, rule, rule_name}
use Rattle.sx_audit.specs.Meaning.{Node, Meaning}
use Rattle.sx_audit.specs.Kinds.{is_among, of_names, deny_kind}
use Rattle.sx_audit.specs.Shown.{Admits}
use Rattle.sx_audit.specs.Preorder.{nodes, nodes_of_each, IsByRules, AreByRules}
use Rattle.sx_audit.proofs.ShownNodes.{admits-first, admits-rest}

-- the auditor
abbrev denying : List ℕ → List (List ℕ) → Meaning
denying name names = record { kind = deny_kind name; state = of_names names }

not-true : (b : Bool) → not b ≡ true → b ≡ false
not-true false h = refl
not-true true h = absurd (false≢true h)

pub denied-absent : (name : List ℕ) (names : List (List ℕ)) (ns : List Node) →
    Admits ns (denying name names) → (n : Node) → Contains ns n → is_among names n.rule ≡ false
denied-absent name names [] h n (k, l, e) = absurd (omega (arith, l))
denied-absent name names (m ∷ ns) h n (zero, l, e) =
    ap (λ (x : Node). is_among names x.rule) (sym e)
    ∙ not-true (is_among names m.rule) (admits-first (denying name names) m ns h)
denied-absent name names (m ∷ ns) h n (suc k, l, e) =
    denied-absent name names ns (admits-rest (denying name names) m ns h) n
    (k, omega (arith, l), e)

-- the line of an entry
abbrev line_of : List NamedRule → EntryData → List ℕ
line_of rules (of_rule r) = rule_name rules r
line_of rules (of_given i) = codes "given " ++ decimal (i + 1)

mutual
  nodes-named : (rules : List NamedRule) (depth many : ℕ) (p : Proof) → IsByRules many p →
      map (λ n. n.rule) (nodes rules depth p) ≡ map (line_of rules) (order_of p)
  nodes-named rules depth many (given i) h = absurd h
  nodes-named rules depth many (by r binds kids) h =
      ap (λ (ns : List (List ℕ)). rule_name rules r ∷ ns)
      (each-named rules (depth + 1) many kids h.1)

  each-named : (rules : List NamedRule) (depth many : ℕ) (ps : Proofs) → AreByRules many ps →
      map (λ n. n.rule) (nodes_of_each rules depth ps) ≡ map (line_of rules) (order_of_all ps)
  each-named rules depth many no_more h = refl
  each-named rules depth many (p ⊳ ps) h =
      map-append (λ (n : Node). n.rule) (nodes rules depth p) (nodes_of_each rules depth ps)
      ∙ ap (λ (ns : List (List ℕ)). ns ++ map (λ n. n.rule) (nodes_of_each rules depth ps))
      (nodes-named rules depth many p h.0)
      ∙ ap (λ (ns : List (List ℕ)). map (line_of rules) (order_of p) ++ ns)
      (each-named rules depth many ps h.1)
      ∙ sym (map-append (line_of rules) (order_of p) (order_of_all ps))

-- the same lines by the names alone
name-in : (rs : List RuleOf) (r : ℕ) → rule_name (map named rs) r ≡ slice_index_or (names_of rs) r []
name-in [] r = refl
name-in (x ∷ rs) zero = refl
name-in (x ∷ rs) (suc r) = name-in rs r

same-line : (rs : List RuleOf) (e : Entry) →
    line_of (map named rs) (entry e) ≡ entry_line (names_of rs) e
same-line rs (RuleEntry r) = name-in rs r
same-line rs (Given i) = refl

same-lines : (rs : List RuleOf) (list : List Entry) →
    map (line_of (map named rs)) (entries list) ≡ map (entry_line (names_of rs)) list
same-lines rs [] = refl
same-lines rs (e ∷ list) =
    ap (λ (l : List ℕ). l ∷ map (line_of (map named rs)) (entries list)) (same-line rs e)
    ∙ ap (λ (ls : List (List ℕ)). entry_line (names_of rs) e ∷ ls) (same-lines rs list)

pub some-below : {A : Type 0} (xs : List A) (i : ℕ) (x : A) → slice_get xs i ≡ Some x →
    i < length xs
some-below [] i x e = absurd (cc)
some-below (y ∷ xs) zero x e = omega arith
some-below (y ∷ xs) (suc i) x e = let r = some-below xs i x e in omega (arith, r)

-- as many rules as rules with their names
pub same-length : (rs : List RuleOf) → length (map rule rs) ≡ length (map named rs)
same-length [] = refl
same-length (x ∷ rs) = ap suc (same-length rs)

-- a derivation without hypotheses is by its rules
mutual
  derived-by : (rules : List Rule) (j : Judgement) (p : Proof) → Derives rules no_hypotheses j p →
      IsByRules (length rules) p
  derived-by rules j (given i) d = absurd (let h : None ≡ Some j = d in cc)
  derived-by rules j (by r binds kids) d =
      (some-below rules r d.0 d.1, each-derived-by rules _ kids d.5)

  each-derived-by : (rules : List Rule) (js : List Judgement) (ps : Proofs) →
      DeriveEach rules no_hypotheses js ps → AreByRules (length rules) ps
  each-derived-by rules js no_more d = tt
  each-derived-by rules [] (p ⊳ ps) d = absurd d
  each-derived-by rules (j ∷ js) (p ⊳ ps) d =
      (derived-by rules j p d.0, each-derived-by rules js ps d.1)

pub derived-by-rules : (set : RuleSet) (j : Judgement) (p : Proof) →
    Derives (bare_rules_in set) no_hypotheses j p → IsByRules (length (rules_in set)) p
derived-by-rules set j p d =
    subst (λ (n : ℕ). IsByRules n p) (same-length set.rules.items)
    (derived-by (bare_rules_in set) j p d)

pub lines-named : (set : RuleSet) (depth : ℕ) (j : Judgement) (p : Proof) (list : List Entry) →
    Derives (bare_rules_in set) no_hypotheses j p → entries list ≡ order_of p →
    map (λ n. n.rule) (nodes (rules_in set) depth p) ≡ map (entry_line (names_in set)) list
lines-named set depth j p list d e =
    nodes-named (rules_in set) depth _ p (derived-by-rules set j p d)
    ∙ ap (map (line_of (rules_in set))) (sym e) ∙ same-lines set.rules.items list
