-- Rules that are read have their bodies read where there are some.
use Rattle.std.proofs.Common.{◌≡◌, ℕ, zero, suc, ◌<◌, List, [], ◌∷◌, length, map, Option, Some, None, get_or, ap, ◌∙◌, subst, arith}
use Rattle.std.specs.Prelude.{option_map}
use Rattle.std.proofs.lemmas.List.{length-map}
use Rattle.std.proofs.lemmas.Option.{slice_get-map}
use Rattle.sx_term.specs.declared.sort.Sort.{Sort}
use Rattle.sx_term.specs.Sorts.{Shape}
use Rattle.sx_term.specs.Tree.{Tree}
use Rattle.sx_grammar.specs.Grammar.{Text}
use Rattle.sx_rules.specs.Views.{FormData, NamedRule}
use Rattle.sx_outline.specs.declared.rule_lines.RuleLines.{RuleLines}
use Rattle.sx_outline.specs.Stages.{Numbered, RuleData, rule_data}
use Rattle.sx_language.specs.RuleLine.{Reader, subject_sort}
use Rattle.sx_language.specs.RuleTexts.{IsRuleBody, AreRules}
use Rattle.sx_extension.specs.declared.body_defect.BodyDefect.{BodyDefect}
use Rattle.sx_extension.specs.declared.extension_error.ExtensionError.{ExtensionError}
use Rattle.sx_extension.specs.BodyRefusals.{IsBodyRefusal, HaveBadBody}
use Rattle.sx_extension.proofs.NamesCopied.{read_at}
use Rattle.sx_extension.specs.Bodies.{IsReadBody, AreReadBodies, IsFirstDefect}

body_read : (r : Reader) (line : Option Numbered) (subject : Option Sort) (old new : List Text) (body : Option Tree) → IsRuleBody r line subject old new body → IsReadBody subject line body
body_read r None None old new body h = h.1
body_read r None (Some sort) old new body h = h.1
body_read r (Some l) None old new body h = h.1
body_read r (Some l) (Some sort) old new None h = absurd h
body_read r (Some l) (Some sort) old new (Some t) h = tt

pub bodies_read : (r : Reader) (ls : List RuleData) (ns : List (List Text)) (qs : List NamedRule) (bs : List (Option Tree)) → AreRules r ls ns qs bs → AreReadBodies r.forms ls qs bs
bodies_read r [] [] [] [] h = tt
bodies_read r (l ∷ ls) (n ∷ ns) (q ∷ qs) (b ∷ bs) h =
    (body_read r l.body (subject_sort r.forms q.rule.conclusion.form) h.0.stated.last n b h.0.stated.bodied, bodies_read r ls ns qs bs h.1)
bodies_read r [] [] [] (b ∷ bs) h = absurd h
bodies_read r [] [] (q ∷ qs) bs h = absurd h
bodies_read r [] (n ∷ ns) qs bs h = absurd h
bodies_read r (l ∷ ls) [] qs bs h = absurd h
bodies_read r (l ∷ ls) (n ∷ ns) [] bs h = absurd h
bodies_read r (l ∷ ls) (n ∷ ns) (q ∷ qs) [] h = absurd h

-- the first defect is that of one of the rules
pub defect_there : (forms : List FormData) (shapes : List Shape) (first : ℕ) (ls : List RuleData) (qs : List NamedRule) (bs : List (Option Tree)) (number : ℕ) (d : BodyDefect) →
    IsFirstDefect forms shapes first ls qs bs number d → number < length ls
defect_there forms shapes first (l ∷ ls) (q ∷ qs) (b ∷ bs) zero d h = omega arith
defect_there forms shapes first (l ∷ ls) (q ∷ qs) (b ∷ bs) (suc n) d h = let m = defect_there forms shapes first ls qs bs n d h.1 in omega (arith, m)
defect_there forms shapes first [] qs bs n d h = absurd h
defect_there forms shapes first (l ∷ ls) [] bs n d h = absurd h
defect_there forms shapes first (l ∷ ls) (q ∷ qs) [] n d h = absurd h

-- the refusal of the first rule with a defect
pub bad_body : (forms gs : List FormData) (shapes : List Shape) (first n : ℕ) (ls ms : List RuleLines) (qs : List NamedRule) (bs : List (Option Tree)) (number : ℕ) (d : BodyDefect) (rule : RuleLines) (e : ExtensionError) →
    gs ≡ forms → n ≡ first → ls ≡ ms → IsFirstDefect gs shapes n (map rule_data ls) qs bs number d → rule ≡ get_or ms number rule → IsBodyRefusal rule.name d e → HaveBadBody forms shapes first (map rule_data ms) qs bs e
bad_body forms gs shapes first n ls ms qs bs number d rule e same_forms same_first same_lines defect is refused =
    let here : IsFirstDefect forms shapes first (map rule_data ms) qs bs number d =
    subst (λ (fs : List FormData). IsFirstDefect fs shapes first (map rule_data ms) qs bs number d) same_forms
    (subst (λ (k : ℕ). IsFirstDefect gs shapes k (map rule_data ms) qs bs number d) same_first
    (subst (λ (xs : List RuleLines). IsFirstDefect gs shapes n (map rule_data xs) qs bs number d) same_lines defect)) in
    let low : number < length ms = let m = defect_there forms shapes first (map rule_data ms) qs bs number d here in omega (arith, m, length-map ms rule_data) in
    record {
      number = number;
      defect = d;
      is_first = here;
      lines = rule_data rule;
      there = slice_get-map rule_data ms number ∙ ap (option_map rule_data) (read_at ms number rule low is);
      refused = refused;
    }
