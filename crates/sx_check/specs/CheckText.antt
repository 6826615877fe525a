-- The lines of `check NAME`.
use Rattle.std.specs.Prelude.{ℕ, zero, suc, List, [], ◌∷◌, ◌++◌, Option, Some, None, codes}
use Rattle.std.specs.Prelude.{decimal}
use Rattle.sx_rules.specs.Derivations.{Proof}
use Rattle.sx_rules.specs.Sets.{rules_in}
use Rattle.sx_rules.specs.Views.{NamedRule, rule_name}
use Rattle.sx_rewrite.specs.declared.accepted.Accepted.{Accepted as AcceptedOf}
use Rattle.sx_rewrite.specs.Accepted.{Accepted}
use Rattle.sx_rewrite.specs.AcceptedView.{accepted}
use Rattle.sx_rewrite.specs.Stored.{certificate_at}
use Rattle.sx_check.specs.CertificateText.{certificate_line}

-- an accepted set, its base rules with their names, and all its rules with theirs
pub record Shown : Type 0 where
  pub set : Accepted
  pub base : List NamedRule
  pub rules : List NamedRule

-- the view of an accepted set
abbrev pub shown_set : AcceptedOf → Shown
shown_set a = record { set = accepted a; base = rules_in a.base; rules = rules_in a.rules }

-- the line of the certificate, where there is one
abbrev pub line_with : Shown → (name : List ℕ) → Option Proof → List ℕ
line_with s name None = []
line_with s name (Some p) = certificate_line s.base name p

-- the line of the certificate of the rule with this number
abbrev pub rule_line : Shown → ℕ → List ℕ
rule_line s number = line_with s (rule_name s.rules number) (certificate_at s.set number)

-- the lines of so many rules, from the one with this number on
abbrev pub rule_lines : Shown → (first count : ℕ) → List ℕ
rule_lines s first zero = []
rule_lines s first (suc count) = rule_line s first ++ rule_lines s (suc first) count

-- the line that tells how many rules were accepted
abbrev pub accepted_line : (name : List ℕ) → (count : ℕ) → List ℕ
accepted_line name count =
    codes "accepted " ++ name ++ codes ": " ++ decimal count ++ codes " rules" ++ 10 ∷ []

-- the lines of an extension whose rules are so many, from the one with this number on
abbrev pub check_text : Shown → (name : List ℕ) → (first count : ℕ) → List ℕ
check_text s name first count = rule_lines s first count ++ accepted_line name count
