-- Laws of checking the rules of an extension by the set before it, with the extension's table.
use Rattle.std.specs.Prelude.{◌≡◌, ◌↔◌, ℕ, ◌<◌, ◌≤◌, List, length, Result}
use Rattle.sx_term.specs.declared.sort.Sort.{Sort}
use Rattle.sx_term.specs.Sorts.{Shape}
use Rattle.sx_rules.specs.Rules.{Hypotheses}
use Rattle.sx_rules.specs.Sorts.{JudgementIsSorted, ProofIsSorted}
use Rattle.sx_rules.specs.Derivations.{Proof, Derives, HasShallowBinds, height_of}
use Rattle.sx_rules.specs.First.{Answer}
use Rattle.sx_plain.specs.Plain.{Table}
use Rattle.sx_rewrite.specs.declared.lowered.Lowered.{Lowered}
use Rattle.sx_rewrite.specs.declared.rewrite_error.RewriteError.{RewriteError}
use Rattle.sx_rewrite.specs.Accepted.{ExtRule, Checked, Accepted, Signature, IsAccepted}
use Rattle.sx_rewrite.specs.Accepted.{extended_rules}
use Rattle.sx_rewrite.specs.Accepting.{IsFirstBy, IsStored, AreStored}
use Rattle.sx_rewrite.specs.Extensions.{StoredExtension, with_table, ShapesGoOn, FitsRules}
use Rattle.sx_rewrite.specs.Extensions.{ComesAfter}
use Rattle.sx_rewrite.specs.Lowering.{BindsFit}
use Rattle.sx_rewrite.specs.Lowers.{HypothesesBelow}
use Rattle.sx_rewrite.specs.PlainRules.{plain_of}
use Rattle.sx_rewrite.specs.Rewrites.{CanRewrite}
use Rattle.sx_rewrite.specs.RewrittenView.{IsRewriting}
use Rattle.sx_rewrite.specs.Sound.{flat_given, flat_goal, IsSoundBy, AreSoundBy}
use Rattle.sx_rules.specs.Limits.{most_levels}

-- the set is accepted with a table that goes on from its own, by all shapes
abbrev pub LongerTablesAreAccepted : Type 0
LongerTablesAreAccepted =
    (sig : Signature) (base shapes all : List Shape) →
    (a : Accepted) → IsAccepted sig base shapes a → (table : Table) →
    ShapesGoOn base shapes all a.table table →
    IsAccepted sig base all (with_table a table)

-- its plain rules stay as they are
abbrev pub PlainRulesStay : Type 0
PlainRulesStay =
    (sig : Signature) (base shapes : List Shape) (a : Accepted) → IsAccepted sig base shapes a →
    (table : Table) → ((label : ℕ) → label < length shapes → a.table label ≡ table label) →
    plain_of (with_table a table) ≡ with_table (plain_of a) table

-- a derivation whose terms are well sorted by the shapes of the set is rewritten alike
abbrev pub LongerTablesRewriteAlike : Type 0
LongerTablesRewriteAlike =
    (sig : Signature) (base shapes : List Shape) (a : Accepted) → IsAccepted sig base shapes a →
    (table : Table) → ((label : ℕ) → label < length shapes → a.table label ≡ table label) →
    (hyps : Hypotheses) (vars : List Sort) (p : Proof) →
    ProofIsSorted shapes (extended_rules a) vars p →
    (budget : ℕ) (result : Result Lowered RewriteError) →
    IsRewriting a sig.subjects hyps p budget result
    ↔ IsRewriting (with_table a table) sig.subjects hyps p budget result

-- the labels of the flat premises are base
abbrev pub FlatPremisesAreBase : Type 0
FlatPremisesAreBase =
    (sig : Signature) (base shapes all : List Shape) (a : Accepted) (table : Table) →
    (ext : ExtRule) → ComesAfter sig base shapes all a table ext →
    HypothesesBelow (length base) (flat_given table sig.subjects ext)

-- the flat goal is well sorted by the shapes before the extension
abbrev pub FlatGoalsStay : Type 0
FlatGoalsStay =
    (sig : Signature) (base shapes all : List Shape) (a : Accepted) (table : Table) →
    (ext : ExtRule) → ComesAfter sig base shapes all a table ext →
    JudgementIsSorted shapes sig.forms ext.rule.sorts (flat_goal table sig.subjects ext)

-- the terms of a derivation of it by plain rules have as many parts as the set's table asks for
abbrev pub ChecksHaveFitTerms : Type 0
ChecksHaveFitTerms =
    (sig : Signature) (base shapes all : List Shape) (a : Accepted) (table : Table) →
    (ext : ExtRule) → ComesAfter sig base shapes all a table ext →
    let given = flat_given table sig.subjects ext in
    (p : Proof) → Derives (extended_rules (plain_of a)) given (flat_goal table sig.subjects ext) p →
    BindsFit a.table p

-- the first can be rewritten, if it is no deeper than 3,000 and no term of it deeper than 1,000
abbrev pub FoundChecksCanBeRewritten : Type 0
FoundChecksCanBeRewritten =
    (sig : Signature) (base shapes all : List Shape) (a : Accepted) (table : Table) →
    (ext : ExtRule) → ComesAfter sig base shapes all a table ext →
    (answer : Answer) →
    IsFirstBy sig (with_table a table) (extended_rules (plain_of a)) ext answer →
    height_of answer.0 ≤ most_levels → HasShallowBinds answer.0 →
    CanRewrite (plain_of a) (flat_given table sig.subjects ext) answer.0

-- and each is rewritten by the set as by the set with the extension's table
abbrev pub ChecksAreRewrittenAlike : Type 0
ChecksAreRewrittenAlike =
    (sig : Signature) (base shapes all : List Shape) (a : Accepted) (table : Table) →
    (ext : ExtRule) → ComesAfter sig base shapes all a table ext →
    let given = flat_given table sig.subjects ext in
    (p : Proof) → Derives (extended_rules (plain_of a)) given (flat_goal table sig.subjects ext) p →
    (budget : ℕ) (result : Result Lowered RewriteError) →
    IsRewriting (plain_of a) sig.subjects given p budget result
    ↔ IsRewriting (plain_of (with_table a table)) sig.subjects given p budget result

-- what is stored of the rule makes it sound after the set
abbrev pub ChecksAreSound : Type 0
ChecksAreSound =
    (sig : Signature) (base shapes all : List Shape) (a : Accepted) (table : Table) →
    (ext : ExtRule) → ComesAfter sig base shapes all a table ext →
    (c : Checked) → IsStored sig (length base) (with_table a table) ext c →
    IsSoundBy sig.subjects (length base) (with_table a table) ext c

-- so it is of the rules of an extension that fits
abbrev pub StoredExtensionsAreSound : Type 0
StoredExtensionsAreSound =
    (sig : Signature) (base shapes all : List Shape) →
    (a : Accepted) → IsAccepted sig base shapes a → (e : StoredExtension) →
    FitsRules sig base shapes all a.table e.table e.rules →
    AreStored sig (length base) (with_table a e.table) e.rules e.stored →
    AreSoundBy sig.subjects (length base) (with_table a e.table) e.rules e.stored
