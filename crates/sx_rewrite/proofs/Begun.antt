-- The accepted set without extensions.
use Rattle.std.proofs.Common.{◌≡◌, ℕ, List, [], ◌∷◌, ◌++◌, map, length, drop, None, refl, sym, ap, ◌∙◌, subst}
use Rattle.sx_term.specs.Sorts.{Shape}
use Rattle.sx_term.specs.Untyped.{PlainHaveNoTyped}
use Rattle.sx_rules.specs.Rules.{Rule}
use Rattle.sx_rules.specs.Modes.{AllModed}
use Rattle.sx_rules.specs.Sorts.{RulesAreSorted}
use Rattle.sx_rules.specs.declared.rule.Rule.{Rule as RuleOf}
use Rattle.sx_rules.specs.Views.{FormData, NamedRule, modes_of, subjects_in, sorts_of, named, rule}
use Rattle.sx_rules.specs.Good.{IsRuleSet}
use Rattle.sx_plain.specs.Plain.{Table}
use Rattle.sx_rewrite.specs.declared.flat.Flat.{Flat}
use Rattle.sx_rewrite.specs.Accepted.{Accepted, extended_rules, AllDisciplined, IsAccepted}
use Rattle.sx_rewrite.specs.Extensions.{without_extensions, HasGrownSoundly}
use Rattle.sx_rewrite.specs.Kinds.{HaveSortsFor}
use Rattle.sx_rewrite.specs.Stored.{checked_of, accepted_from, signature_of, IsSetHeld}
use Rattle.sx_rewrite.proofs.RuleSets.{good_rules_are_disciplined}
use Rattle.sx_rewrite.proofs.KindLaws.{forms-fit, forms-typed}
use Rattle.sx_rewrite.proofs.Growing.{same-rules, base_rules_are_accepted}
use Rattle.sx_rewrite.proofs.KeptAccepted.{bare-rules}

checked-none : (rs : List Rule) → checked_of rs [] ≡ []
checked-none [] = refl
checked-none (r ∷ rs) = refl

pub same-bare : (rs os : List RuleOf) → map named rs ≡ map named os → map rule rs ≡ map rule os
same-bare rs os e = bare-rules rs ∙ ap (map (λ (r : NamedRule). r.rule)) e ∙ sym (bare-rules os)

pub begins-as : (base rules : List Rule) (table : Table) (flats : List Flat) → table ≡ (λ (label : ℕ). None) → flats ≡ [] → accepted_from base rules table flats ≡ without_extensions base
begins-as base rules table flats t f =
    let m = ap (checked_of (drop (length base) rules)) f ∙ checked-none (drop (length base) rules) in
    λ i. record { base = base; more = m i; table = t i }

pub begins-sound : (subjects : _) (n : ℕ) (base rules : List Rule) (table : Table) (flats : List Flat) → table ≡ (λ (label : ℕ). None) → flats ≡ [] →
    HasGrownSoundly subjects n (accepted_from base rules table flats)
begins-sound subjects n base rules table flats t f = ∣ ([], sym (begins-as base rules table flats t f)) ∣₁

pub begins-held : (ss ts : List Shape) (fs gs : List FormData) (os rs : List RuleOf) (table : Table) (flats : List Flat) → ts ≡ ss → gs ≡ fs → map named rs ≡ map named os →
    table ≡ (λ (label : ℕ). None) → flats ≡ [] → IsRuleSet ss fs (map named os) → PlainHaveNoTyped ss → HaveSortsFor fs →
    IsSetHeld ss ts fs gs (map rule rs) (accepted_from (map rule os) (map rule rs) table flats)
begins-held ss ts fs gs os rs table flats shapes_are forms_are rules_are t f good no_typed kinds =
    let sig = signature_of fs in
    let of_all = good_rules_are_disciplined ss fs [] (map named os) good.1 in
    let bare = sym (bare-rules os) in
    let ok = base_rules_are_accepted sig ss (map rule os) no_typed (forms-fit fs kinds) (forms-typed fs kinds)
    (subst (λ (x : List Rule). RulesAreSorted ss (sorts_of fs) x) bare of_all.0) (subst (λ (x : List Rule). AllModed (modes_of fs) x) bare of_all.1)
    (subst (λ (x : List Rule). AllDisciplined (subjects_in fs) x) bare of_all.2) in
    let same = begins-as (map rule os) (map rule rs) table flats t f in
    let moved = subst (λ (a : Accepted). IsAccepted sig ss ss a) (sym same) ok in
    record {
      accepted = subst (λ (x : List Shape). IsAccepted sig ss x (accepted_from (map rule os) (map rule rs) table flats)) (sym shapes_are) moved;
      rules_are = same-bare rs os rules_are ∙ sym (same-rules (map rule os)) ∙ ap extended_rules (sym same);
      same_forms = forms_are;
    }

-- a copy of rules
pub copied-rules : (own base : List NamedRule) (more : List RuleOf) → own ≡ base ++ map named more → more ≡ [] → own ≡ base
copied-rules own base more e f = e ∙ ap (λ (x : List RuleOf). base ++ map named x) f ∙ append-none base
  where
    append-none : (xs : List NamedRule) → xs ++ [] ≡ xs
    append-none [] = refl
    append-none (x ∷ xs) = ap (λ (ys : List NamedRule). x ∷ ys) (append-none xs)

pub same-length : (rs os : List RuleOf) → map named rs ≡ map named os → length (map rule rs) ≡ length (map rule os)
same-length rs os e = ap length (same-bare rs os e)
