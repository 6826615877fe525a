-- Extension rules that are sound, and the sets of rules that are accepted.
use Rattle.std.specs.Prelude.{◌≡◌, ℕ, List, [], ◌∷◌, ◌++◌, map, Option}
use Rattle.sx_term.specs.Tree.{Tree}
use Rattle.sx_term.specs.declared.sort.Sort.{Sort}
use Rattle.sx_term.specs.declared.sort.Sort.TheVariants.{Typed}
use Rattle.sx_term.specs.Sorts.{Shape}
use Rattle.sx_rules.specs.Rules.{Judgement, Rule}
use Rattle.sx_rules.specs.Modes.{Modes, outputs, AllModed}
use Rattle.sx_rules.specs.Sorts.{FormSorts, JudgementIsSorted, RulesAreSorted}
use Rattle.sx_rules.specs.Discipline.{IsDisciplined, PlainHaveNoTyped, FormsFit}
use Rattle.sx_rules.specs.Derivations.{Proof, Derives}
use Rattle.sx_plain.specs.Plain.{Table}
use Rattle.sx_plain.specs.Tables.{Begins, Desugars}
use Rattle.sx_rewrite.specs.Flat.{flat_judgement, flat_hypotheses}

-- an extension rule, with a body where its conclusion has a subject
pub record ExtRule : Type 0 where
  pub rule : Rule
  pub body : Option Tree

-- an extension rule as it is stored: with its flat body, where its conclusion has a subject,
-- and its certificate
pub record Checked : Type 0 where
  pub rule : Rule
  pub body : Option Tree
  pub proof : Proof

-- the flat conclusion, with the flat body as its subject
abbrev pub flat_conclusion : Table → Modes → Checked → Judgement
flat_conclusion table subjects c = flat_judgement table subjects c.body c.rule.conclusion

-- by the base rules the certificate derives the flat conclusion from the flat premises;
-- the variables of the rule are constants
abbrev pub IsCertified : Table → Modes → List Rule → Checked → Type 0
IsCertified table subjects base c =
    Derives base (flat_hypotheses table subjects c.rule.premises)
    (flat_conclusion table subjects c) c.proof

-- a rule of an accepted set: a base rule, or an extension rule
pub data Known : Type 0 where
  basic : Rule → Known
  checked : Checked → Known

-- its rule
abbrev pub rule_in : Known → Rule
rule_in (basic rule) = rule
rule_in (checked c) = c.rule

-- base rules, the extension rules after them, and the plain table
pub record Accepted : Type 0 where
  pub base : List Rule
  pub more : List Checked
  pub table : Table

-- the rules in order, with what is known of each
abbrev pub known_of : Accepted → List Known
known_of a = map basic a.base ++ map checked a.more

-- the extended rules
abbrev pub extended_rules : Accepted → List Rule
extended_rules a = map rule_in (known_of a)

-- each extension rule has a certificate, and its flat conclusion is well sorted by the base shapes
abbrev pub AllCertified : Table → Modes → FormSorts → List Shape → List Rule →
    List Checked → Type 0
AllCertified table subjects forms shapes base [] = Unit {0}
AllCertified table subjects forms shapes base (c ∷ cs) =
    IsCertified table subjects base c
    × JudgementIsSorted shapes forms c.rule.sorts (flat_conclusion table subjects c)
    × AllCertified table subjects forms shapes base cs

-- each of the rules is disciplined
abbrev pub AllDisciplined : Modes → List Rule → Type 0
AllDisciplined subjects [] = Unit {0}
AllDisciplined subjects (r ∷ rs) = IsDisciplined subjects r × AllDisciplined subjects rs

-- each of the sorts is typed
abbrev pub AreTypedSorts : List Sort → Type 0
AreTypedSorts [] = Unit {0}
AreTypedSorts (sort ∷ sorts) = ((k : ℕ) × (sort ≡ Typed k)) × AreTypedSorts sorts

-- the forms of rules: which places are outputs and which are subjects, and the sorts of all
pub record Signature : Type 0 where
  pub modes : Modes
  pub subjects : Modes
  pub forms : FormSorts

-- An accepted set, with the shapes of its base rules and of all its rules. All rules are well
-- sorted, moded and disciplined, the base rules by the base shapes alone; the table
-- desugars the plain constructors; and each extension rule has a certificate.
pub record IsAccepted (sig : Signature) (base shapes : List Shape) (a : Accepted) : Type 0 where
  pub begins : Begins base shapes
  pub no_typed : PlainHaveNoTyped shapes
  pub fits : FormsFit sig.modes sig.subjects sig.forms
  pub typed : (form : ℕ) → AreTypedSorts (outputs (sig.subjects form) (sig.forms form))
  pub base_sorted : RulesAreSorted base sig.forms a.base
  pub sorted : RulesAreSorted shapes sig.forms (extended_rules a)
  pub moded : AllModed sig.modes (extended_rules a)
  pub disciplined : AllDisciplined sig.subjects (extended_rules a)
  pub desugars : Desugars base shapes a.table
  pub certified : AllCertified a.table sig.subjects sig.forms base a.base a.more
