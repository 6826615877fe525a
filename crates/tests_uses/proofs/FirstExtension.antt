-- What the first extension of a language is read after, and what holds of each of its rules.
use Rattle.std.proofs.Common.{◌≡◌, ℕ, zero, suc, ◌<◌, List, [], ◌∷◌, None, length, map, get_or, sym}
use Rattle.std.proofs.Common.{subst, arith}
use Rattle.std.specs.List.{AllByRecursion}
use Rattle.sx_plain.specs.Plain.{Table}
use Rattle.sx_rules.specs.Sets.{shapes_in, forms_in, rules_in}
use Rattle.sx_notation.specs.declared.language.Language.{Language}
use Rattle.sx_extension.specs.Grounds.{Ground, IsGroundBefore}
use Rattle.sx_extension.specs.Laws.{first_ground}

-- what is read after the language and a plain table
abbrev with_table : Language → ℕ → Table → Ground
with_table l base table = record {
  language = l.grammar.parts;
  stems = l.metas.stems.items;
  forms = forms_in l.rules;
  grammar = l.grammar;
  by_rules = l.rule_grammar.parts;
  rules = rules_in l.rules;
  shapes = shapes_in l.rules;
  rule_forms = forms_in l.rules;
  base = base;
  table = table;
}

-- where the table has no entries the first extension can be read
pub is_before : (l : Language) (base : ℕ) (table : Table) →
    base ≡ length l.grammar.parts.productions → table ≡ (λ label. None) →
    IsGroundBefore (first_ground l) → IsGroundBefore (with_table l base table)
is_before l base table at none is =
    subst (λ (n : ℕ). IsGroundBefore (with_table l n table)) (sym at)
    (subst (λ (t : Table). IsGroundBefore (with_table l (length l.grammar.parts.productions) t))
    (sym none) is)

-- what holds of each of some values that are made of others
pub at_each : {X Y : Type 0} (P : Y → Type 0) (f : X → Y) (xs : List X) (i : ℕ) (x : X) →
    i < length xs → x ≡ get_or xs i x → AllByRecursion P (map f xs) → P (f x)
at_each P f [] i x low is all = absurd (omega (arith, low))
at_each {X} P f (y ∷ ys) zero x low is all = subst (λ (z : X). P (f z)) (sym is) all.0
at_each P f (y ∷ ys) (suc i) x low is all = at_each P f ys i x (omega (arith, low)) is all.1
