-- The text of a derivation's list is read again, and it is short.
use Rattle.std.proofs.Common.{◌≡◌, ℕ, zero, suc, ◌+◌, ◌*◌, ◌≤◌, ◌&&◌, Bool, true, false}
use Rattle.std.proofs.Common.{List, [], ◌∷◌, ◌++◌, map, length, codes, refl, ap, arith}
use Rattle.std.specs.Prelude.{slice_index_or, nat_le}
use Rattle.std.specs.Fmt.{decimal}
use Rattle.std.specs.List.{AllByRecursion, list_all}
use Rattle.std.specs.Char.{is_ascii_alphabetic}
use Rattle.std.proofs.lemmas.Bool.{leb-true}
use Rattle.std.proofs.lemmas.Fmt.{length-decimal-le}
use Rattle.std.proofs.lemmas.List.{length-append}
use Rattle.sx_lines.specs.Lines.{lines_from, line_texts}
use Rattle.sx_lines.specs.Reading.{written}
use Rattle.sx_lines.specs.Words.{is_name, is_name_byte}
use Rattle.sx_lines.proofs.ReadLaws.{numbered}
use Rattle.sx_rules.specs.declared.entry.Entry.{Entry as EntryOf}
use Rattle.sx_rules.specs.declared.entry.Entry.TheVariants as entry_of
use Rattle.sx_rules.specs.EntryView.{entries}
use Rattle.sx_rules.specs.ListText.{IsEntry, entry_line, list_lines, StatesList}
use Rattle.sx_rules.specs.Orders.{Entry, of_given, of_rule}
use Rattle.sx_rules.specs.RuleNames.{AreNames}
use Rattle.sx_rules.proofs.ListLaws.{AreRuleNames, list_stated, list_round}

-- ---- entries

-- the entry as it is read
abbrev entry_again : Entry → EntryOf
entry_again (of_rule number) = entry_of.Rule number
entry_again (of_given number) = entry_of.Given number

abbrev pub list_again : List Entry → List EntryOf
list_again list = map entry_again list

pub same_entries : (list : List Entry) → entries (list_again list) ≡ list
same_entries [] = refl
same_entries (of_rule n ∷ list) = ap (λ (x : List Entry). of_rule n ∷ x) (same_entries list)
same_entries (of_given n ∷ list) = ap (λ (x : List Entry). of_given n ∷ x) (same_entries list)

-- ---- the text

-- the text of the list, by rules with these names
abbrev pub text_of : List (List ℕ) → List EntryOf → List ℕ
text_of names list = written (list_lines names list)

-- it states the list
pub text_states : (names : List (List ℕ)) (list : List EntryOf) → AreRuleNames names →
    AllByRecursion (IsEntry names) list →
    StatesList names (line_texts (lines_from 1 (text_of names list))) list
text_states names list named are =
    list_stated names (lines_from 1 (text_of names list)) list (numbered 1 (text_of names list))
    (list_round names list named are)

-- ---- its length

middle : (a b c : Bool) → (a && b && c) ≡ true → b ≡ true
middle true true c e = refl
middle true false c e = cc
middle false true c e = refl
middle false false c e = cc

name_short : (name : List ℕ) → is_name true name ≡ true → length name ≤ 64
unfolding is_name
name_short [] e = omega arith
name_short (c ∷ cs) e =
    let short = leb-true (length cs) 63 (middle (is_ascii_alphabetic c) (nat_le (length cs) 63)
    (list_all (is_name_byte true) cs) e) in
    omega (arith, short)

row_short : (names : List (List ℕ)) (r : ℕ) → AreNames names →
    length (slice_index_or names r []) ≤ 64
row_short [] r h = omega arith
row_short (name ∷ names) zero h = name_short name h.0
row_short (name ∷ names) (suc r) h = row_short names r h.1

entry_short : (names : List (List ℕ)) (e : EntryOf) → AreNames names → IsEntry names e →
    length (entry_line names e) ≤ 64
entry_short names (entry_of.Rule r) named h = row_short names r named
entry_short names (entry_of.Given n) named h =
    let digits = length-decimal-le 10 (n + 1) (omega arith) (omega (arith, h))
    (omega (arith, h)) in
    let whole = length-append (codes "given ") (decimal (n + 1)) in
    omega (arith, digits, whole)

rows_length : (names : List (List ℕ)) (list : List EntryOf) → AreNames names →
    AllByRecursion (IsEntry names) list →
    length (written (map (entry_line names) list)) ≤ 65 * length list
rows_length names [] named h = omega arith
rows_length names (e ∷ list) named h =
    let row = entry_line names e in
    let rest = written (map (entry_line names) list) in
    let whole = length-append (row ++ 10 ∷ []) rest in
    let own = length-append row (10 ∷ []) in
    let short = entry_short names e named h.0 in
    let more = rows_length names list named h.1 in
    omega (arith, whole, own, short, more)

-- at most 65 bytes for each entry, and those of the first line
pub text_length : (names : List (List ℕ)) (list : List EntryOf) → AreNames names →
    AllByRecursion (IsEntry names) list → length (text_of names list) ≤ 65 * length list + 8
text_length names list named h =
    let whole = length-append (codes "sxder 1" ++ 10 ∷ [])
    (written (map (entry_line names) list)) in
    let rows = rows_length names list named h in
    omega (arith, whole, rows)
