-- How an extension rule is checked against an accepted set.
-- The variables of the rule are constants.
use Rattle.std.specs.Prelude.{◌≡◌, ℕ, List, [], ◌∷◌, ◌⊎◌, Some, option_map}
use Rattle.sx_term.specs.Tree.{Tree}
use Rattle.sx_rules.specs.Rules.{Judgement, Rule}
use Rattle.sx_rules.specs.Modes.{outputs_of, goal_of}
use Rattle.sx_rules.specs.Discipline.{subjects_of}
use Rattle.sx_rules.specs.First.{Answer, IsFirst, IsUnderivable}
use Rattle.sx_rules.specs.Derivations.{Proof}
use Rattle.sx_plain.specs.Plain.{image}
use Rattle.sx_rewrite.specs.Accepted.{ExtRule, Checked, Accepted, extended_rules, Signature}
use Rattle.sx_rewrite.specs.Lowers.{Lowers}
use Rattle.sx_rewrite.specs.PlainRules.{plain_of}
use Rattle.sx_rewrite.specs.Sound.{HasBaseSyntax, flat_given, flat_goal}

-- the first derivation of the flat goal from the flat premises by the rules
abbrev pub IsFirstBy : Signature → Accepted → List Rule → ExtRule → Answer → Type 0
IsFirstBy sig a rules ext answer =
    let j = flat_goal a.table sig.subjects ext in
    IsFirst sig.modes rules (flat_given a.table sig.subjects ext) (goal_of sig.modes j)
    (Some (outputs_of sig.modes j)) answer

-- there is no such derivation
abbrev pub HasNoneBy : Signature → Accepted → List Rule → ExtRule → Type 0
HasNoneBy sig a rules ext =
    let j = flat_goal a.table sig.subjects ext in
    IsUnderivable sig.modes rules (flat_given a.table sig.subjects ext) (goal_of sig.modes j)
    (Some (outputs_of sig.modes j))

-- the rule is checked by these rules: the base rules where the typed syntax of its body is base,
-- or else these and the plain rules of the set
abbrev pub ChecksBy : ℕ → Accepted → ExtRule → List Rule → Type 0
ChecksBy n a ext rules =
    (HasBaseSyntax n a.table ext.body × (rules ≡ a.base))
    ⊎ ((HasBaseSyntax n a.table ext.body → ⊥) × (rules ≡ extended_rules (plain_of a)))

-- by the rules that it is checked by the rule has no derivation
abbrev pub IsRejected : Signature → ℕ → Accepted → ExtRule → Type 0
IsRejected sig n a ext = (rules : List Rule) × ChecksBy n a ext rules × HasNoneBy sig a rules ext

-- what a proof by the plain rules is lowered to is stored, with the subject of what it derives
pub record IsStoredLowered (sig : Signature) (a : Accepted) (ext : ExtRule) (proof : Proof)
    (c : Checked) : Type 0 where
  pub same_rule : c.rule ≡ ext.rule
  pub judgement : Judgement
  pub subject : Tree
  pub lowers : Lowers (plain_of a) sig.subjects
      (flat_given a.table sig.subjects ext) proof c.proof judgement
  pub is_subject : subjects_of sig.subjects judgement ≡ subject ∷ []
  pub flat_body : c.body ≡ Some subject

-- what is stored of a rule that is accepted: the first derivation by the base rules with the
-- plain image of the body, or what the first derivation by the plain rules is lowered to
abbrev pub IsStored : Signature → ℕ → Accepted → ExtRule → Checked → Type 0
IsStored sig n a ext c =
    (HasBaseSyntax n a.table ext.body × (answer : Answer) × IsFirstBy sig a a.base ext answer
    × (c ≡ record {
      rule = ext.rule;
      body = option_map (image a.table) ext.body;
      proof = answer.0;
    }))
    ⊎ ((HasBaseSyntax n a.table ext.body → ⊥) × (answer : Answer)
    × IsFirstBy sig a (extended_rules (plain_of a)) ext answer
    × IsStoredLowered sig a ext answer.0 c)

-- so it is of each rule, with what stands at its place
abbrev pub AreStored : Signature → ℕ → Accepted → List ExtRule → List Checked → Type 0
AreStored sig n a [] [] = Unit {0}
AreStored sig n a (e ∷ es) (c ∷ cs) = IsStored sig n a e c × AreStored sig n a es cs
AreStored sig n a _ _ = ⊥
