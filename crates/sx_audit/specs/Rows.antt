-- Rows of names with their counts.
use Rattle.std.specs.Prelude.{ℕ, ◌+◌, List, map, if◌then◌else◌}
use Rattle.std.specs.Str.{bytes_eq}
use Rattle.sx_audit.specs.declared.row.Row.{Row}
use Rattle.sx_audit.specs.Kinds.{as_count}

-- the names of the rows
abbrev pub row_names : List Row → List (List ℕ)
row_names rows = map (λ r. r.name) rows

-- their counts
abbrev pub counts_of : List Row → List ℕ
counts_of rows = map (λ r. r.count) rows

-- the row after a node by this rule
abbrev pub row_after : List ℕ → Row → Row
row_after rule r = record {
  name = r.name;
  count = if bytes_eq r.name rule then as_count (r.count + 1) else r.count;
}
