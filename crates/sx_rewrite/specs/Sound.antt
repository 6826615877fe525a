-- When an extension rule is sound after the extensions of an accepted set.
-- The variables of the rule are constants.
use Rattle.std.specs.Prelude.{◌≡◌, ℕ, List, [], ◌∷◌, ◌⊎◌, Option, Some, None, option_map}
use Rattle.sx_term.specs.Tree.{Tree}
use Rattle.sx_rules.specs.Rules.{Judgement, Hypotheses}
use Rattle.sx_rules.specs.Modes.{Modes}
use Rattle.sx_rules.specs.Discipline.{subjects_of}
use Rattle.sx_rules.specs.Derivations.{Proof, Derives}
use Rattle.sx_plain.specs.Plain.{Table, image}
use Rattle.sx_plain.specs.Tables.{IsCovered}
use Rattle.sx_rewrite.specs.Flat.{flat_judgement, flat_hypotheses}
use Rattle.sx_rewrite.specs.Accepted.{ExtRule, Checked, Accepted, IsCertified, extended_rules}
use Rattle.sx_rewrite.specs.Lowers.{Lowers}
use Rattle.sx_rewrite.specs.PlainRules.{plain_of}

-- there is no body, or its typed syntax is base
abbrev pub HasBaseSyntax : ℕ → Table → Option Tree → Type 0
HasBaseSyntax n table None = Unit {0}
HasBaseSyntax n table (Some body) = IsCovered n table body

-- the flat premises of the rule, as hypotheses
abbrev pub flat_given : Table → Modes → ExtRule → Hypotheses
flat_given table subjects ext = flat_hypotheses table subjects ext.rule.premises

-- the flat conclusion, whose subject is the body with its plain parts lowered
abbrev pub flat_goal : Table → Modes → ExtRule → Judgement
flat_goal table subjects ext =
    flat_judgement table subjects (option_map (image table) ext.body) ext.rule.conclusion

-- a proof derives the flat goal by the base rules and the plain rules of the set,
-- and the term is the subject of what it is lowered to
pub record IsLoweredBody (subjects : Modes) (a : Accepted) (ext : ExtRule)
    (t : Tree) : Type 0 where
  pub proof : Proof
  pub lowered : Proof
  pub judgement : Judgement
  pub derives : Derives (extended_rules (plain_of a)) (flat_given a.table subjects ext)
      (flat_goal a.table subjects ext) proof
  pub lowers : Lowers (plain_of a) subjects
      (flat_given a.table subjects ext) proof lowered judgement
  pub subject : subjects_of subjects judgement ≡ t ∷ []

-- The flat body: the plain image of the body where its typed syntax is base,
-- or else the subject of a lowering of the flat goal. The labels below n are base.
abbrev pub IsFlatBody : Modes → ℕ → Accepted → ExtRule → Option Tree → Type 0
IsFlatBody subjects n a ext flat =
    (HasBaseSyntax n a.table ext.body × (flat ≡ option_map (image a.table) ext.body))
    ⊎ ((HasBaseSyntax n a.table ext.body → ⊥) × (t : Tree) × (flat ≡ Some t)
    × IsLoweredBody subjects a ext t)

-- the rule is sound after the set, by what is stored of it: a flat body,
-- and a certificate that derives the flat conclusion from the flat premises by the base rules
pub record IsSoundBy (subjects : Modes) (n : ℕ) (a : Accepted) (ext : ExtRule)
    (c : Checked) : Type 0 where
  pub same_rule : c.rule ≡ ext.rule
  pub flat_body : IsFlatBody subjects n a ext c.body
  pub certified : IsCertified a.table subjects a.base c

-- each rule is sound after the set by what is stored at its place
abbrev pub AreSoundBy : Modes → ℕ → Accepted → List ExtRule → List Checked → Type 0
AreSoundBy subjects n a [] [] = Unit {0}
AreSoundBy subjects n a (e ∷ es) (c ∷ cs) =
    IsSoundBy subjects n a e c × AreSoundBy subjects n a es cs
AreSoundBy subjects n a _ _ = ⊥
