-- Each of the last rules has a certificate.
use Rattle.std.proofs.Common.{◌≡◌, ℕ, zero, suc, ◌+◌, ◌≤◌, ◌<◌, List, [], ◌∷◌, ◌++◌, length, length-append, map, refl, sym, ap, ◌∙◌, subst, arith}
use Rattle.std.specs.Prelude.{Ok, Some, option_map, slice_get}
use Rattle.std.proofs.lemmas.List.{length-map}
use Rattle.sx_rules.specs.Derivations.{Proof}
use Rattle.sx_rules.specs.Rules.{Rule}
use Rattle.sx_rules.specs.Views.{NamedRule, named}
use Rattle.sx_rewrite.specs.declared.ext_rule.ExtRule.{ExtRule as ExtRuleOf}
use Rattle.sx_rewrite.specs.Accepted.{Accepted, Checked, basic, checked}
use Rattle.sx_rewrite.specs.Stored.{stored_in, certificate_at}
use Rattle.sx_extcheck.specs.declared.budgets.Budgets.{Budgets}
use Rattle.sx_extcheck.specs.Accepts.{AreRulesChecked}
use Rattle.sx_extcheck.specs.Checks.{Check}
use Rattle.sx_steps.specs.Steps.{Untried}
use Rattle.sx_steps.specs.declared.stop.Stop.{Stop}
use Rattle.sx_steps.proofs.Ones.{ok_same}
use Rattle.sx_steps.proofs.StepsOn.{went_on}
use Rattle.sx_uses.specs.ExtensionFile.{Extension, extension_file}
use Rattle.sx_accepting.specs.ExtendedLanguages.{BaseLanguage, ExtendedData, unextended}
use Rattle.sx_accepting.specs.Extending.{ReadData, ReadsAfter, HaveChecks, Accepts, ExtendsBy}
use Rattle.sx_accepting.specs.Extending.{ExtendsLanguage}
use Rattle.sx_notation.specs.Language.{LanguageData}
use Rattle.sx_check.specs.CheckedExtension.{HaveCertificates}

-- ---- certificates by number

-- a rule after the base rules has one
of_checked : (more : List Checked) (n : ℕ) → n < length more → (p : Proof) × (option_map (λ (c : Checked). c.proof) (stored_in (slice_get (map checked more) n)) ≡ Some p)
of_checked [] n low = absurd (omega (arith, low))
of_checked (c ∷ more) zero low = (c.proof, refl)
of_checked (c ∷ more) (suc n) low = of_checked more n (omega (arith, low))

past_base : (base : List Rule) (more : List Checked) (n : ℕ) → length base ≤ n → n < length base + length more →
    (p : Proof) × (option_map (λ (c : Checked). c.proof) (stored_in (slice_get (map basic base ++ map checked more) n)) ≡ Some p)
past_base [] more n low high = of_checked more n (omega (arith, high))
past_base (r ∷ base) more zero low high = absurd (omega (arith, low))
past_base (r ∷ base) more (suc n) low high = past_base base more n (omega (arith, low)) (omega (arith, high))

certificate_there : (a : Accepted) (n : ℕ) → length a.base ≤ n → n < length a.base + length a.more → (p : Proof) × (certificate_at a n ≡ Some p)
certificate_there a n low high = past_base a.base a.more n low high

-- ---- as many rules as are stored

-- the rules are the base rules and those that are stored, and the last ones are among these
pub record AreCounted (x : ExtendedData) : Type 0 where
  pub all : length x.set.rules ≡ length x.set.kept.base + length x.set.kept.more
  pub last : x.last ≤ length x.set.kept.more

pub begin_counted : (l : LanguageData) → AreCounted (unextended l)
begin_counted l =
    let same = length-map l.rules (λ (r : NamedRule). r.rule) in
    record { all = omega (arith, same); last = omega arith }

stored_count : (c : Check) (es : List ExtRuleOf) (stored : List Checked) (tries : ℕ) → AreRulesChecked c es tries (Ok stored) → length es ≡ length stored
stored_count c [] [] tries h = refl
stored_count c [] (s ∷ stored) tries h = absurd h
stored_count c (e ∷ es) [] tries h = absurd h
stored_count c (e ∷ es) (s ∷ stored) tries h = ap suc (stored_count c es stored h.1 h.3)

read_count : (c : Check) (read : ReadData) (stored : List Checked) (tries : ℕ) → HaveChecks c read tries (Ok stored) → length read.rules ≡ length stored
read_count c read stored tries h = sym (ap length h.rules) ∙ length-map h.held (λ (e : ExtRuleOf). named e.rule) ∙ stored_count c h.held stored tries h.checked

module _ (l : BaseLanguage) (budgets : Budgets) where
  next_counted : (file : List ℕ) (x y : ExtendedData) (read : ReadData) (tries : ℕ) → AreCounted x → Accepts l budgets file x read (Ok y) tries → AreCounted y
  next_counted file x y read tries h accepts =
      let stored = accepts.0 in
      let count = read_count _ read stored tries accepts.1 in
      let rules = length-append x.set.rules read.rules in
      let more = length-append x.set.kept.more stored in
      let before = h.all in
      subst AreCounted (sym accepts.2) (record { all = omega (arith, count, rules, more, before); last = omega (arith, count, more) })

  pub all_counted : (files : List Extension) (x y : ExtendedData) (tries : ℕ) → AreCounted x → ExtendsLanguage l budgets files x (Ok y) tries → AreCounted y
  all_counted [] x y tries h e = subst AreCounted (sym (ok_same {B = Stop} y x e.0)) h
  all_counted (file ∷ files) x y tries h e =
      let at = went_on (ExtendsBy l budgets file x) (ExtendsLanguage l budgets files) y tries e in
      let read = went_on (Untried (ReadsAfter l x file)) (Accepts l budgets (extension_file file.header.name) x) at.given at.before at.begins in
      all_counted files at.given y at.after (next_counted (extension_file file.header.name) x at.given read.given read.after h read.goes) at.goes

-- ---- the last rules

pub have_certificates : (x : ExtendedData) → AreCounted x → HaveCertificates x.set x.last
have_certificates x h number low high =
    let all = h.all in
    let last = h.last in
    certificate_there x.set.kept number (omega (arith, all, last, low)) (omega (arith, all, high))
