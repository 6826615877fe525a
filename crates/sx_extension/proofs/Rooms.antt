-- Grammars have room for the productions of one extension more.
use Rattle.std.proofs.Common.{◌≡◌, ℕ, ◌+◌, ◌≤◌, ◌^◌, ◌⊎◌, inl, inr, List, [], ◌∷◌, ◌++◌, length, length-append, map, Contains, ap, ◌∙◌, arith}
use Rattle.std.specs.Prelude.{flat_map}
use Rattle.std.proofs.lemmas.Grind.{flat_map-append}
use Rattle.std.proofs.lemmas.List.Elements.{Contains-append_left, Contains-append_right, Contains-append_cases}
use Rattle.sx_grammar.specs.declared.symbol.Symbol.TheVariants.{Part}
use Rattle.sx_grammar.specs.Grammar.{Text}
use Rattle.sx_grammar.specs.Parts.{Line, Parts, literals, symbol_literals, bracket_literals}
use Rattle.sx_grammar.specs.Tables.{IsWithinLimits, HasGoodLevels}
use Rattle.sx_grammar.specs.Extended.{extended}
use Rattle.sx_directives.specs.declared.rows.FormLine.{FormLine}
use Rattle.sx_notation.specs.RuleParts.{judgement_sort, form_line, apart_lines, rule_parts}

abbrev pub L : List Line → List Text
L ls = flat_map (λ r. flat_map symbol_literals r.symbols) ls

abbrev pub S : Parts → List Text
S p = flat_map (λ s. bracket_literals s.brackets) p.sorts

abbrev pub own_of : List Line → Parts
own_of own = record { sorts = []; productions = own }

pub parts_literals : (p : Parts) → length (literals p) ≡ length (S p) + length (L p.productions)
parts_literals p = length-append (S p) (L p.productions)

pub two : (xs ys : List Line) → length (L (xs ++ ys)) ≡ length (L xs) + length (L ys)
two xs ys = ap length (flat_map-append (λ r. flat_map symbol_literals r.symbols) xs ys) ∙ length-append (L xs) (L ys)

-- parts that have the productions of some parts, and own ones, are within the limits
module _ (p q : Parts) (own : List Line) (within : IsWithinLimits p) (levels : HasGoodLevels (own_of own)) (from : (r : Line) → Contains q.productions r → Contains p.productions r ⊎ Contains own r) where
  level_low : (r : Line) → Contains q.productions r → r.level ≤ 99
  level_low r h = by (from r h)
    where
      by : Contains p.productions r ⊎ Contains own r → r.level ≤ 99
      by (inl k) = within.levels.levels r k
      by (inr k) = levels.levels r k

  level_asked : (r : Line) (name : Text) (least : ℕ) → Contains q.productions r → Contains r.symbols (Part name least) → least ≤ 99
  level_asked r name least h k = by (from r h)
    where
      by : Contains p.productions r ⊎ Contains own r → least ≤ 99
      by (inl x) = within.levels.asked r name least x k
      by (inr x) = levels.asked r name least x k

  pub within_more : length q.sorts ≤ length p.sorts → length q.productions ≤ length p.productions + length own → length (literals q) ≤ length (literals p) + length (literals (own_of own)) →
      length p.productions + 262144 ≤ 2 ^ 31 → length (literals p) + 262144 ≤ 2 ^ 31 → length own + length (literals (own_of own)) ≤ 262144 → IsWithinLimits q
  within_more sorts productions texts few_productions few_literals few = record {
    sorts = omega (arith, sorts, within.sorts);
    productions = omega (arith, productions, few_productions, few);
    literals = omega (arith, texts, few_literals, few);
    levels = record { levels = level_low; asked = level_asked };
  }

module _ (p : Parts) (lines : List FormLine) (own : List Line) (few : length own + length (literals (own_of own)) ≤ 262144) (levels : HasGoodLevels (own_of own)) where
  abbrev more : List Line
  more = map form_line lines ++ apart_lines

  abbrev by_rules : Parts
  by_rules = rule_parts p lines

  sort_texts : length (S by_rules) ≡ length (S p)
  sort_texts = let e = ap length (flat_map-append (λ s. bracket_literals s.brackets) p.sorts (judgement_sort ∷ [])) ∙ length-append (S p) [] in omega (arith, e)

  -- the grammar of rules has all productions
  pub has_fewer : (length p.productions ≤ length by_rules.productions) × (length (literals p) ≤ length (literals by_rules))
  has_fewer =
      (omega (arith, length-append p.productions more), omega (arith, parts_literals p, parts_literals by_rules, sort_texts, two p.productions more))

  pub room : IsWithinLimits p → length by_rules.productions + 262144 ≤ 2 ^ 31 → length (literals by_rules) + 262144 ≤ 2 ^ 31 → IsWithinLimits (extended p own)
  room within productions texts =
      within_more p (extended p own) own within levels (λ r h. Contains-append_cases p.productions own r h) (omega arith) (omega (arith, length-append p.productions own))
      (omega (arith, parts_literals p, parts_literals (extended p own), two p.productions own, parts_literals (own_of own))) (omega (arith, productions, has_fewer.0)) (omega (arith, texts, has_fewer.1)) few

  from : (r : Line) → Contains (rule_parts (extended p own) lines).productions r → Contains by_rules.productions r ⊎ Contains own r
  from r h = by (Contains-append_cases (p.productions ++ own) more r h)
    where
      before : Contains p.productions r ⊎ Contains own r → Contains by_rules.productions r ⊎ Contains own r
      before (inl k) = inl (Contains-append_left p.productions more r k)
      before (inr k) = inr k

      by : Contains (p.productions ++ own) r ⊎ Contains more r → Contains by_rules.productions r ⊎ Contains own r
      by (inl k) = before (Contains-append_cases p.productions own r k)
      by (inr k) = inl (Contains-append_right p.productions more r k)

  pub rule_room : IsWithinLimits by_rules → length by_rules.productions + 262144 ≤ 2 ^ 31 → length (literals by_rules) + 262144 ≤ 2 ^ 31 → IsWithinLimits (rule_parts (extended p own) lines)
  rule_room within productions texts =
      let q = rule_parts (extended p own) lines in
      let s : length (S q) ≡ length (S by_rules) = ap length refl_sorts in
      within_more by_rules q own within levels from (omega arith) (omega (arith, length-append (p.productions ++ own) more, length-append p.productions own, length-append p.productions more))
      (omega (arith, parts_literals by_rules, parts_literals q, two (p.productions ++ own) more, two p.productions own, two p.productions more, parts_literals (own_of own), s)) productions texts few
    where
      refl_sorts : S (rule_parts (extended p own) lines) ≡ S by_rules
      refl_sorts = λ i. S by_rules
