-- The four kinds of auditors.
use Rattle.std.specs.Prelude.{ℕ, ◌+◌, ◌-◌, ◌^◌, min, max, Bool, true, not, ◌==◌, ◌&&◌}
use Rattle.std.specs.Prelude.{if◌then◌else◌, nat_le, List, [], ◌∷◌, ◌++◌, length, map, codes}
use Rattle.std.specs.Prelude.{Option, Some, None, option_map, option_and_then, slice_index}
use Rattle.std.specs.List.{list_all, list_any, flat_map, slice_split, zip}
use Rattle.std.specs.Str.{bytes_eq}
use Rattle.std.specs.Fmt.{decimal}
use Rattle.sx_lines.specs.Words.{is_name, count_of}
use Rattle.sx_audit.specs.Meaning.{AuditState, Kind}
use Rattle.sx_rules.specs.Limits.{most_levels}
use Rattle.sx_term.specs.Limits.{most_budget}

-- a count stays at its greatest value
abbrev pub as_count : ℕ → ℕ
as_count n = min n (2 ^ 64 - 1)

-- the name is one of these
abbrev pub is_among : List (List ℕ) → List ℕ → Bool
is_among names name = list_any (λ x. bytes_eq x name) names

-- no name stands twice
abbrev pub are_distinct : List (List ℕ) → Bool
are_distinct [] = true
are_distinct (x ∷ names) = not (is_among names x) && are_distinct names

-- these, where they are at most 64 names of rules
abbrev pub rule_names : List (List ℕ) → Option (List (List ℕ))
rule_names parts = if nat_le (length parts) 64 && list_all (is_name true) parts then Some parts
    else None

-- the names of rules that a setting lists, with commas between
abbrev pub listed_names : List ℕ → Option (List (List ℕ))
listed_names setting = rule_names (slice_split (λ b. b == 44) setting)

-- the names, where none stands twice
abbrev pub unless_repeated : List (List ℕ) → Option (List (List ℕ))
unless_repeated names = if are_distinct names then Some names else None

-- the state of `deny`: its names
abbrev pub of_names : List (List ℕ) → AuditState
of_names names = record { numbers = []; texts = names }

-- the state of `depth` and of `nodes`: the limit, and the greatest depth or the nodes seen so far
abbrev pub of_limit : ℕ → ℕ → AuditState
of_limit limit so_far = record { numbers = limit ∷ so_far ∷ []; texts = [] }

-- the limit of such a state
abbrev pub limit_of : AuditState → ℕ
limit_of s = slice_index s.numbers 0

-- what was seen so far
abbrev pub so_far_of : AuditState → ℕ
so_far_of s = slice_index s.numbers 1

-- the state of `tally`: its names with their counts
abbrev pub of_counts : List (List ℕ) → List ℕ → AuditState
of_counts names counts = record { numbers = counts; texts = names }

-- the counts of the names after a node by this rule
abbrev pub counted : List ℕ → List (List ℕ) → List ℕ → List ℕ
counted rule names counts = map (λ (c : List ℕ × ℕ). if bytes_eq c.0 rule then as_count (c.1 + 1)
    else c.1) (zip names counts)

-- a word of a text, after a blank
abbrev pub after_blank : List ℕ → List ℕ
after_blank word = 32 ∷ word

-- the text of a limit, after the kind's word
abbrev pub limit_text : List ℕ → AuditState → List ℕ
limit_text word s = word ++ after_blank (decimal (so_far_of s)) ++ codes " of"
    ++ after_blank (decimal (limit_of s))

-- the text of names with their counts
abbrev pub counts_text : List (List ℕ) → List ℕ → List ℕ
counts_text names counts = flat_map (λ (c : List ℕ × ℕ). after_blank c.0
    ++ after_blank (decimal c.1)) (zip names counts)

-- objects to each node by one of its rules
abbrev pub deny_kind : List ℕ → Kind
deny_kind name = record {
  name = name;
  step = λ s n. (s, not (is_among s.texts n.rule));
  takes = λ setting. option_map of_names (listed_names setting);
  text = λ s. codes "deny" ++ flat_map after_blank s.texts;
}

-- objects to each node that is deeper than its limit
abbrev pub depth_kind : List ℕ → Kind
depth_kind name = record {
  name = name;
  step = λ s n. (of_limit (limit_of s) (max (so_far_of s) n.depth), nat_le n.depth (limit_of s));
  takes = λ setting. option_map (λ n. of_limit n 0) (count_of most_levels setting);
  text = limit_text (codes "depth");
}

-- objects to each node after as many as its limit
abbrev pub nodes_kind : List ℕ → Kind
nodes_kind name = record {
  name = name;
  step = λ s n. let seen = as_count (so_far_of s + 1) in
      (of_limit (limit_of s) seen, nat_le seen (limit_of s));
  takes = λ setting. option_map (λ n. of_limit n 0) (count_of most_budget setting);
  text = limit_text (codes "nodes");
}

-- objects to no node, and counts those by each of its rules
abbrev pub tally_kind : List ℕ → Kind
tally_kind name = record {
  name = name;
  step = λ s n. (of_counts s.texts (counted n.rule s.texts s.numbers), true);
  takes = λ setting. option_map (λ names. of_counts names (map (λ x. 0) names))
      (option_and_then unless_repeated (listed_names setting));
  text = λ s. codes "tally" ++ counts_text s.texts s.numbers;
}
