-- Laws of checking extension rules.
use Rattle.std.specs.Prelude.{ℕ, List, ◌++◌, [], ◌∷◌, length}
use Rattle.sx_term.specs.Tree.{Tree}
use Rattle.sx_term.specs.Sorts.{Shape}
use Rattle.sx_rules.specs.Rules.{Rule, Hypotheses, judgement_instance}
use Rattle.sx_rules.specs.Modes.{Modes, outputs, AllModed}
use Rattle.sx_rules.specs.Sorts.{RuleIsSorted, RulesAreSorted, JudgementIsSorted}
use Rattle.sx_rules.specs.Sorts.{JudgementsAreSorted}
use Rattle.sx_rules.specs.Discipline.{IsDisciplined, PlainHaveNoTyped, FormsFit}
use Rattle.sx_rules.specs.Derivations.{Proofs, Derives, DeriveEach, proof_instance}
use Rattle.sx_rules.specs.Derivations.{hypotheses_instance, graft}
use Rattle.sx_rules.specs.DerivationLaws.{PairsApart}
use Rattle.sx_plain.specs.Plain.{Table}
use Rattle.sx_plain.specs.Tables.{Begins, Desugars}
use Rattle.sx_rewrite.specs.Flat.{flat_hypotheses}
use Rattle.sx_rewrite.specs.Accepted.{ExtRule, Checked, flat_conclusion, IsCertified, Accepted}
use Rattle.sx_rewrite.specs.Accepted.{AreTypedSorts, AllDisciplined, Signature, IsAccepted}
use Rattle.sx_rewrite.specs.Sound.{HasBaseSyntax, flat_given, flat_goal, IsSoundBy, AreSoundBy}
use Rattle.sx_rewrite.specs.Accepting.{IsStored, IsRejected}
use Rattle.sx_rewrite.specs.Extensions.{StoredExtension, without_extensions, with_table}
use Rattle.sx_rewrite.specs.Extensions.{extended_by}
use Rattle.sx_rewrite.specs.Extensions.{GrowsSoundly, BodyFits, FitsRules}

-- a certificate holds for all terms that are put for the rule's variables: from derivations
-- of the instances of the flat premises it makes one of the instance of the flat conclusion
abbrev pub CertificatesHold : Type 0
CertificatesHold =
    (table : Table) (subjects : Modes) (base : List Rule) (c : Checked) →
    IsCertified table subjects base c →
    (s : ℕ → Tree) (hyps : Hypotheses) (kids : Proofs) →
    DeriveEach base hyps
    (hypotheses_instance s (flat_hypotheses table subjects c.rule.premises)).judgements kids →
    PairsApart hyps
    (hypotheses_instance s (flat_hypotheses table subjects c.rule.premises)).pairs →
    Derives base hyps (judgement_instance s (flat_conclusion table subjects c))
    (graft kids (proof_instance s c.proof))

-- what is stored of an accepted rule makes it sound
abbrev pub StoredIsSound : Type 0
StoredIsSound =
    (sig : Signature) (base shapes : List Shape) (a : Accepted) → IsAccepted sig base shapes a →
    (n : ℕ) (ext : ExtRule) → RuleIsSorted shapes sig.forms ext.rule →
    IsDisciplined sig.subjects ext.rule → BodyFits sig shapes n a.table ext.rule ext.body →
    (c : Checked) → IsStored sig (length base) a ext c →
    IsSoundBy sig.subjects (length base) a ext c

-- a rule that is rejected is sound by nothing
abbrev pub RejectedIsUnsound : Type 0
RejectedIsUnsound =
    (sig : Signature) (n : ℕ) (a : Accepted) (ext : ExtRule) (c : Checked) →
    IsRejected sig n a ext → IsSoundBy sig.subjects n a ext c → ⊥

-- the flat premises of a rule that fits are well sorted by the base shapes; the flat goal
-- is well sorted, and by the base shapes too where the typed syntax of the body is base
abbrev pub FlatFormsAreSorted : Type 0
FlatFormsAreSorted =
    (sig : Signature) (base shapes : List Shape) (table : Table) → Begins base shapes →
    PlainHaveNoTyped shapes → FormsFit sig.modes sig.subjects sig.forms →
    Desugars base shapes table →
    (n : ℕ) (ext : ExtRule) → RuleIsSorted shapes sig.forms ext.rule →
    IsDisciplined sig.subjects ext.rule → BodyFits sig shapes n table ext.rule ext.body →
    JudgementsAreSorted base sig.forms ext.rule.sorts
    (flat_given table sig.subjects ext).judgements
    × JudgementIsSorted shapes sig.forms ext.rule.sorts (flat_goal table sig.subjects ext)
    × (HasBaseSyntax (length base) table ext.body →
    JudgementIsSorted base sig.forms ext.rule.sorts (flat_goal table sig.subjects ext))

-- the flat conclusion of a sound rule is well sorted by the base shapes
abbrev pub SoundRulesAreSorted : Type 0
SoundRulesAreSorted =
    (sig : Signature) (base shapes : List Shape) (a : Accepted) → IsAccepted sig base shapes a →
    (n : ℕ) (ext : ExtRule) → RuleIsSorted shapes sig.forms ext.rule →
    IsDisciplined sig.subjects ext.rule → BodyFits sig shapes n a.table ext.rule ext.body →
    (c : Checked) → IsSoundBy sig.subjects (length base) a ext c →
    JudgementIsSorted base sig.forms c.rule.sorts (flat_conclusion a.table sig.subjects c)

-- base rules alone are an accepted set
abbrev pub BaseRulesAreAccepted : Type 0
BaseRulesAreAccepted =
    (sig : Signature) (base : List Shape) (rules : List Rule) → PlainHaveNoTyped base →
    FormsFit sig.modes sig.subjects sig.forms →
    ((form : ℕ) → AreTypedSorts (outputs (sig.subjects form) (sig.forms form))) →
    RulesAreSorted base sig.forms rules → AllModed sig.modes rules →
    AllDisciplined sig.subjects rules → IsAccepted sig base base (without_extensions rules)

-- an accepted set stays one with an extension that fits and is sound after it
abbrev pub AcceptedSetsGrow : Type 0
AcceptedSetsGrow =
    (sig : Signature) (base shapes all : List Shape) (a : Accepted) (e : StoredExtension) →
    IsAccepted sig base shapes a →
    FitsRules sig base shapes all a.table e.table e.rules →
    AreSoundBy sig.subjects (length base) (with_table a e.table) e.rules e.stored →
    IsAccepted sig base all (extended_by a e)

-- what has grown soundly goes on to
abbrev pub GrowthGoesOn : Type 0
GrowthGoesOn =
    (subjects : Modes) (n : ℕ) (start a : Accepted) (es : List StoredExtension)
    (e : StoredExtension) →
    GrowsSoundly subjects n start es a →
    AreSoundBy subjects n (with_table a e.table) e.rules e.stored →
    GrowsSoundly subjects n start (es ++ e ∷ []) (extended_by a e)
