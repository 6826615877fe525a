-- The text of a derivation's list: it is read again, and it is short.
use Rattle.std.proofs.Common.{◌≡◌, ℕ, zero, suc, ◌+◌, ◌*◌, ◌<◌, ◌≤◌, ◌&&◌, Bool, true, false, List, [], ◌∷◌, ◌++◌, map, length, codes, Some, refl, sym, ap, ◌∙◌, subst, append_assoc, arith}
use Rattle.std.specs.Prelude.{slice_get, slice_index_or, nat_le}
use Rattle.std.specs.List.{AllByRecursion, list_all}
use Rattle.std.specs.Char.{is_ascii_alphabetic}
use Rattle.std.proofs.lemmas.Bool.{leb-true}
use Rattle.std.proofs.lemmas.List.{length-append, length-map}
use Rattle.std.proofs.lemmas.Option.{slice_get_within}
use Rattle.sx_lines.specs.Lines.{lines_from, line_texts}
use Rattle.sx_lines.specs.Reading.{written}
use Rattle.sx_lines.specs.Words.{is_name, is_name_byte}
use Rattle.sx_lines.proofs.ReadLaws.{numbered}
use Rattle.sx_rules.specs.declared.entry.Entry.{Entry as EntryOf}
use Rattle.sx_rules.specs.declared.entry.Entry.TheVariants.{Rule as RuleEntry, Given as GivenEntry}
use Rattle.sx_rules.specs.Rules.{Judgement, Rule, Hypotheses}
use Rattle.sx_rules.specs.Derivations.{Proof, Proofs, by, given, no_more, ◌⊳◌, Derives, DeriveEach}
use Rattle.sx_rules.specs.Derivations.{nodes_of, nodes_of_all}
use Rattle.sx_rules.specs.Orders.{Entry, of_given, of_rule, order_of, order_of_all}
use Rattle.sx_rules.specs.EntryView.{entries}
use Rattle.sx_rules.specs.RuleNames.{AreNames, AreNamesDistinct}
use Rattle.sx_rules.specs.Views.{NamedRule}
use Rattle.sx_rules.specs.ListText.{IsEntry, entry_line, list_lines, StatesList}
use Rattle.sx_rules.proofs.ListLaws.{list_stated, list_round}
use Rattle.sx_top.specs.CoreTexts.{core_rule_name, core_entry_text, entry_lines, list_text}

-- ---- entries

-- the entry as it is read
abbrev entry_again : Entry → EntryOf
entry_again (of_rule number) = RuleEntry number
entry_again (of_given number) = GivenEntry number

abbrev pub list_again : List Entry → List EntryOf
list_again list = map entry_again list

pub same_entries : (list : List Entry) → entries (list_again list) ≡ list
same_entries [] = refl
same_entries (of_rule n ∷ list) = ap (λ (x : List Entry). of_rule n ∷ x) (same_entries list)
same_entries (of_given n ∷ list) = ap (λ (x : List Entry). of_given n ∷ x) (same_entries list)

-- each entry is a rule of so many
abbrev pub AreOfRules : ℕ → List Entry → Type 0
AreOfRules n [] = Unit {0}
AreOfRules n (of_rule r ∷ list) = (r < n) × AreOfRules n list
AreOfRules n (of_given i ∷ list) = ⊥

of_both : (n : ℕ) (list more : List Entry) → AreOfRules n list → AreOfRules n more → AreOfRules n (list ++ more)
of_both n [] more h k = k
of_both n (of_rule r ∷ list) more h k = (h.0, of_both n list more h.1 k)
of_both n (of_given i ∷ list) more h k = absurd h

-- a derivation without hypotheses has rules alone
module _ (rules : List Rule) (hyps : Hypotheses) (none : hyps.judgements ≡ []) where
  no_given : (i : ℕ) (j : Judgement) → slice_get hyps.judgements i ≡ Some j → ⊥
  no_given i j e = let q : slice_get [] i ≡ Some j = sym (ap (λ (js : List Judgement). slice_get js i) none) ∙ e in cc

  mutual
    pub of_rules : (j : Judgement) (p : Proof) → Derives rules hyps j p → AreOfRules (length rules) (order_of p)
    of_rules j (given i) d = absurd (no_given i j d)
    of_rules j (by r binds kids) (rule, at, e, f, g, each) = (slice_get_within rules r rule at, all_of_rules _ kids each)

    all_of_rules : (js : List Judgement) (ps : Proofs) → DeriveEach rules hyps js ps → AreOfRules (length rules) (order_of_all ps)
    all_of_rules [] no_more d = tt
    all_of_rules [] (p ⊳ ps) d = absurd d
    all_of_rules (j ∷ js) no_more d = absurd d
    all_of_rules (j ∷ js) (p ⊳ ps) d = of_both (length rules) (order_of p) (order_of_all ps) (of_rules j p d.0) (all_of_rules js ps d.1)

-- a derivation has as many entries as nodes
mutual
  pub order_length : (p : Proof) → length (order_of p) ≡ nodes_of p
  order_length (given i) = refl
  order_length (by r binds kids) = let e = orders_length kids in omega arith

  orders_length : (ps : Proofs) → length (order_of_all ps) ≡ nodes_of_all ps
  orders_length no_more = refl
  orders_length (p ⊳ ps) =
      let e = order_length p in
      let f = orders_length ps in
      let g = length-append (order_of p) (order_of_all ps) in
      omega arith

-- ---- the text

-- the names of rules
abbrev pub names_of : List NamedRule → List (List ℕ)
names_of rules = map (λ r. r.name) rules

name_is : (rules : List NamedRule) (r : ℕ) → core_rule_name rules r ≡ slice_index_or (names_of rules) r []
name_is [] zero = refl
name_is [] (suc r) = refl
name_is (x ∷ rules) zero = refl
name_is (x ∷ rules) (suc r) = name_is rules r

entry_is : (rules : List NamedRule) (e : Entry) → core_entry_text rules e ≡ entry_line (names_of rules) (entry_again e)
entry_is rules (of_rule r) = name_is rules r
entry_is rules (of_given n) = refl

lines_are : (rules : List NamedRule) (list : List Entry) → entry_lines rules list ≡ written (map (entry_line (names_of rules)) (list_again list))
lines_are rules [] = refl
lines_are rules (e ∷ list) =
    ap (λ (x : List ℕ). x ++ 10 ∷ entry_lines rules list) (entry_is rules e)
    ∙ ap (λ (x : List ℕ). entry_line (names_of rules) (entry_again e) ++ 10 ∷ x) (lines_are rules list)
    ∙ sym (append_assoc (entry_line (names_of rules) (entry_again e)) (10 ∷ []) (written (map (entry_line (names_of rules)) (list_again list))))

-- the text is that of the list as it is written
pub text_is : (rules : List NamedRule) (list : List Entry) → list_text rules list ≡ written (list_lines (names_of rules) (list_again list))
text_is rules list = ap (λ (x : List ℕ). codes "sxder 1" ++ 10 ∷ x) (lines_are rules list)
    ∙ sym (append_assoc (codes "sxder 1") (10 ∷ []) (written (map (entry_line (names_of rules)) (list_again list))))

are_entries : (names : List (List ℕ)) (n : ℕ) (list : List Entry) → n ≡ length names → AreOfRules n list → AllByRecursion (IsEntry names) (list_again list)
are_entries names n [] e h = tt
are_entries names n (of_rule r ∷ list) e h = (subst (λ (m : ℕ). r < m) e h.0, are_entries names n list e h.1)
are_entries names n (of_given i ∷ list) e h = absurd h

-- the text states the list
pub text_states : (rules : List NamedRule) (n : ℕ) (list : List Entry) → AreNames (names_of rules) → AreNamesDistinct (names_of rules) → n ≡ length rules → AreOfRules n list →
    StatesList (names_of rules) (line_texts (lines_from 1 (list_text rules list))) (list_again list)
text_states rules n list named distinct e h =
    let names = names_of rules in
    let made = written (list_lines names (list_again list)) in
    let few : n ≡ length names = e ∙ sym (length-map rules (λ r. r.name)) in
    let read = list_round names (list_again list) (record { named = named; distinct = distinct }) (are_entries names n list few h) in
    let stated = list_stated names (lines_from 1 made) (list_again list) (numbered 1 made) read in
    subst (λ (bytes : List ℕ). StatesList names (line_texts (lines_from 1 bytes)) (list_again list)) (sym (text_is rules list)) stated

-- ---- its length

middle : (a b c : Bool) → (a && b && c) ≡ true → b ≡ true
middle true true c e = refl
middle true false c e = cc
middle false true c e = refl
middle false false c e = cc

name_short : (name : List ℕ) → is_name true name ≡ true → length name ≤ 64
unfolding is_name
name_short [] e = omega arith
name_short (c ∷ cs) e =
    let l = leb-true (length cs) 63 (middle (is_ascii_alphabetic c) (nat_le (length cs) 63) (list_all (is_name_byte true) cs) e) in
    omega arith

rule_name_short : (rules : List NamedRule) (r : ℕ) → AreNames (names_of rules) → length (core_rule_name rules r) ≤ 64
rule_name_short [] r h = omega arith
rule_name_short (x ∷ rules) zero h = name_short x.name h.0
rule_name_short (x ∷ rules) (suc r) h = rule_name_short rules r h.1

lines_length : (rules : List NamedRule) (n : ℕ) (list : List Entry) → AreNames (names_of rules) → AreOfRules n list → length (entry_lines rules list) ≤ 65 * length list
lines_length rules n [] named h = omega arith
lines_length rules n (of_rule r ∷ list) named h =
    let e = length-append (core_rule_name rules r) (10 ∷ entry_lines rules list) in
    let s = rule_name_short rules r named in
    let m = lines_length rules n list named h.1 in
    omega arith
lines_length rules n (of_given i ∷ list) named h = absurd h

-- at most 65 bytes for each entry, and those of the first line
pub text_length : (rules : List NamedRule) (n : ℕ) (list : List Entry) → AreNames (names_of rules) → AreOfRules n list → length (list_text rules list) ≤ 65 * length list + 8
text_length rules n list named h =
    let e = length-append (codes "sxder 1") (10 ∷ entry_lines rules list) in
    let m = lines_length rules n list named h in
    omega arith
