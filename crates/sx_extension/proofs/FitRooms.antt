-- The grammar of rules of an extension has few productions and literals more.
use Rattle.std.proofs.Common.{◌≡◌, ℕ, ◌+◌, ◌≤◌, List, ◌++◌, length, length-append, map, arith}
use Rattle.sx_grammar.specs.Parts.{Line, Parts, literals}
use Rattle.sx_grammar.specs.Extended.{extended}
use Rattle.sx_directives.specs.declared.rows.FormLine.{FormLine}
use Rattle.sx_notation.specs.RuleParts.{form_line, apart_lines, rule_parts}
use Rattle.sx_extension.proofs.Rooms.{S, own_of, parts_literals, two}

module _ (p : Parts) (lines : List FormLine) (own : List Line) where
  abbrev more : List Line
  more = map form_line lines ++ apart_lines

  abbrev q : Parts
  q = rule_parts (extended p own) lines

  pub few_productions : (n : ℕ) → length own ≤ n →
      length q.productions ≤ length (rule_parts p lines).productions + n
  few_productions n few = omega (
    arith,
    few,
    length-append (p.productions ++ own) more,
    length-append p.productions own,
    length-append p.productions more,
  )

  pub few_literals : (n : ℕ) → length (literals (own_of own)) ≤ n →
      length (literals q) ≤ length (literals (rule_parts p lines)) + n
  few_literals n few =
      let same : length (S q) ≡ length (S (rule_parts p lines)) = λ i. length (S q) in
      omega (
        arith,
        few,
        parts_literals q,
        parts_literals (rule_parts p lines),
        parts_literals (own_of own),
        same,
        two (p.productions ++ own) more,
        two p.productions own,
        two p.productions more,
      )
