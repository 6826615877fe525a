-- The last productions of a grammar by which rules are read.
use Rattle.std.proofs.Common.{◌≡◌, ℕ, zero, suc, ◌+◌, ◌-◌, ◌≤◌, List, [], ◌∷◌, ◌++◌, length, length-append, drop, map, refl, ap, ◌∙◌, arith}
use Rattle.std.proofs.lemmas.List.{length-map}
use Rattle.sx_grammar.specs.declared.grammar_parts.GrammarParts.{GrammarParts}
use Rattle.sx_grammar.specs.Parts.{Line, Parts, line, parts}
use Rattle.sx_directives.specs.declared.rows.FormLine.{FormLine}
use Rattle.sx_notation.specs.RuleParts.{form_line, apart_lines, rule_parts}

drop_front : {X : Type 0} (xs ys : List X) → drop (length xs) (xs ++ ys) ≡ ys
drop_front [] ys = refl
drop_front (x ∷ xs) ys = drop_front xs ys

map_drop : {X Y : Type 0} (f : X → Y) (xs : List X) (n : ℕ) → map f (drop n xs) ≡ drop n (map f xs)
map_drop f xs zero = refl
map_drop f [] (suc n) = refl
map_drop f (x ∷ xs) (suc n) = map_drop f xs n

module _ (by_rules : GrammarParts) (lines : List FormLine) (p : Parts) (forms : ℕ) (is : parts by_rules ≡ rule_parts p lines) (many : length lines ≡ forms) where
  abbrev more : List Line
  more = map form_line lines ++ apart_lines

  as_many : length by_rules.productions.items ≡ length p.productions + (forms + 3)
  as_many =
      omega (
        arith,
        ap (λ (q : Parts). length q.productions) is,
        length-map by_rules.productions.items line,
        length-append p.productions more,
        length-append (map form_line lines) apart_lines,
        length-map lines form_line,
        many,
      )

  -- there are so many, and three more
  pub room : forms + 3 ≤ length by_rules.productions.items
  room = omega (arith, as_many)

  pub further : (first : ℕ) → first ≡ length by_rules.productions.items - (forms + 3) → map line (drop first by_rules.productions.items) ≡ more
  further first e =
      let here : first ≡ length p.productions = omega (arith, as_many, e) in
      map_drop line by_rules.productions.items first ∙ ap (λ (q : Parts). drop first q.productions) is ∙ ap (λ n. drop n (p.productions ++ more)) here ∙ drop_front p.productions more
