-- A module has one unit or one refusal, but for the readings that a refusal may show of a text with
-- more than two.
use Rattle.std.proofs.Common.{◌≡◌, ◌≢◌, ℕ, [], ◌∷◌, ◌⊎◌, inl, inr, length, refl, sym, ap, ◌∙◌}
use Rattle.std.proofs.Common.{subst}
use Rattle.std.specs.Prelude.{Result, Ok, Err}
use Rattle.sx_grammar.specs.Told.{shapes_of}
use Rattle.sx_rules.specs.Derivations.{Proof}
use Rattle.sx_rules.specs.First.{Answer}
use Rattle.sx_rules.specs.Modes.{AllModed, outputs_of}
use Rattle.sx_rules.specs.Views.{modes_of, subjects_in}
use Rattle.sx_rules.proofs.Refusals.{good_moded}
use Rattle.sx_rewrite.specs.declared.rewrite_error.RewriteError.{RewriteError}
use Rattle.sx_rewrite.specs.declared.rewrite_error.RewriteError.TheVariants as rewrite
use Rattle.sx_rewrite.specs.Rewriting.{RewriteRefusal, Rewritten, IsRewritten, spent, deep, too_deep}
use Rattle.sx_rewrite.specs.Rewriting.{too_big}
use Rattle.sx_rewrite.specs.Stored.{signature_of}
use Rattle.sx_rewrite.proofs.Rewriting.{rewriting_is_unique}
use Rattle.sx_extcheck.specs.declared.budgets.Budgets.{Budgets}
use Rattle.sx_typing.specs.Alike as typed
use Rattle.sx_typing.specs.Dialects.{IsDialect}
use Rattle.sx_typing.specs.Goals.{dialect_rules}
use Rattle.sx_rules.specs.Rules.{no_hypotheses}
use Rattle.sx_typing.specs.Refused.{HasTyping, IsBadSource}
use Rattle.sx_typing.proofs.OneTyping.{one_typing}
use Rattle.sx_typing.specs.declared.module_error.ModuleError.{ModuleError}
use Rattle.sx_typing.specs.declared.module_error.ModuleError.TheVariants.{Memory, Token, Read}
use Rattle.sx_typing.specs.declared.module_error.ModuleError.TheVariants.{TypeError, BudgetSpent}
use Rattle.sx_typing.specs.declared.module_error.ModuleError.TheVariants.{DepthSpent, TooDeep, TooBig}
use Rattle.sx_typing.specs.declared.module_error.ModuleError.TheVariants.{RewriteSpent, RewriteDeep}
use Rattle.sx_typing.specs.declared.module_error.ModuleError.TheVariants.{Print, Captured}
use Rattle.sx_unit.specs.Alike.{ShowOthers, AreUnitsAlike, OneUnit}
use Rattle.sx_unit.specs.Errors.{of_rewrite}
use Rattle.sx_unit.specs.Modules.{ModuleData}
use Rattle.sx_unit.specs.PrintedParts.{PrintedData}
use Rattle.sx_unit.specs.Refused.{IsBadModule}
use Rattle.sx_unit.specs.Unit.{HasLowering, IsUnitMade}
use Rattle.sx_unit.specs.Written.{UnitData, IsUnwritten, IsWritten}
use Rattle.sx_unit.proofs.OneWriting.{unwritten_one, written_none, written_one}

same_head : {A : Type 0} (x y : A) → x ∷ [] ≡ y ∷ [] → x ≡ y
same_head x y e = cc

abbrev rewritten_to : Rewritten → Result Rewritten RewriteRefusal
rewritten_to x = Ok x

abbrev refused_with : RewriteRefusal → Result Rewritten RewriteRefusal
refused_with x = Err x

ok_same : (x y : Rewritten) → rewritten_to x ≡ rewritten_to y → x ≡ y
ok_same x y e = cc

err_same : (x y : RewriteRefusal) → refused_with x ≡ refused_with y → x ≡ y
err_same x y e = cc

ok_or_err : (x : Rewritten) (y : RewriteRefusal) → rewritten_to x ≡ refused_with y → ⊥
ok_or_err x y e = cc

-- what a refusal of rewriting tells
abbrev told : ℕ → RewriteRefusal → RewriteError
told budget spent = rewrite.RewriteSpent budget
told budget deep = rewrite.RewriteDeep
told budget (too_deep n) = rewrite.TooDeep n
told budget (too_big n) = rewrite.TooBig n

module _ (m : ModuleData) (b : Budgets) (dialect : IsDialect m.source.dialect) where
  abbrev Rewrites : Proof → Result Rewritten RewriteRefusal → Type 0
  Rewrites p r = IsRewritten m.source.dialect.set (subjects_in m.source.dialect.language.forms)
      no_hypotheses p b.nodes r

  rewrites_one : (p : Proof) (r s : Result Rewritten RewriteRefusal) → Rewrites p r → Rewrites p s → r ≡ s
  rewrites_one p r s h k =
      rewriting_is_unique (signature_of m.source.dialect.language.forms)
      (shapes_of m.source.dialect.language.parts) (shapes_of m.source.dialect.parts)
      m.source.dialect.set dialect.accepted
      no_hypotheses p b.nodes r s h k

  -- ---- the three steps

  record IsUnread (e : ModuleError) : Type 0 where
    not : e ≢ Memory
    bad : IsBadSource m.source b.tries e

  record IsUnrewritten (e : ModuleError) : Type 0 where
    typing : HasTyping m.source b.tries
    refusal : RewriteRefusal
    is : e ≡ of_rewrite (told b.nodes refusal)
    rewrites : Rewrites typing.answer.0 (Err refusal)

  record IsUnput (e : ModuleError) : Type 0 where
    lowering : HasLowering m b
    not : e ≢ Memory
    unwritten : IsUnwritten m lowering.terms e

  abbrev Cases : ModuleError → Type 0
  Cases e = (e ≡ Memory) ⊎ IsUnread e ⊎ IsUnrewritten e ⊎ IsUnput e

  read_case : (e : ModuleError) → e ≢ Memory → IsBadSource m.source b.tries e → Cases e
  read_case e not h = inr (inl (record { not = not; bad = h }))

  rewrite_case : (refusal : RewriteRefusal) (t : HasTyping m.source b.tries) →
      Rewrites t.answer.0 (Err refusal) → Cases (of_rewrite (told b.nodes refusal))
  rewrite_case refusal t h = inr
      (inr (inl (record { typing = t; refusal = refusal; is = refl; rewrites = h })))

  cases : (e : ModuleError) → IsBadModule m b e → Cases e
  cases Memory h = inl refl
  cases (Token line column x) h = read_case (Token line column x) (λ e. cc) h
  cases (Read line column u) h = read_case (Read line column u) (λ e. cc) h
  cases (TypeError line column text) h = read_case (TypeError line column text) (λ e. cc) h
  cases (BudgetSpent n) h = read_case (BudgetSpent n) (λ e. cc) h
  cases DepthSpent h = read_case DepthSpent (λ e. cc) h
  cases (TooDeep n) (inl h) = read_case (TooDeep n) (λ e. cc) h
  cases (TooDeep n) (inr h) = rewrite_case (too_deep n) h.0 h.1
  cases (TooBig n) (inl h) = read_case (TooBig n) (λ e. cc) h
  cases (TooBig n) (inr h) = rewrite_case (too_big n) h.0 h.1
  cases (RewriteSpent n) h = subst (λ (k : ℕ). Cases (RewriteSpent k)) (sym h.1.0)
      (rewrite_case spent h.0 h.1.1)
  cases RewriteDeep h = rewrite_case deep h.0 h.1
  cases (Print part defect) h = inr
      (inr (inr (record { lowering = h.0; not = λ e. cc; unwritten = h.1 })))
  cases (Captured word) h = inr (inr
      (inr (record { lowering = h.0; not = λ e. cc; unwritten = h.1 })))

  -- ---- what is typed and lowered

  same_answer : (t u : HasTyping m.source b.tries) → t.answer ≡ u.answer
  same_answer t u = (one_typing.found m.source b.tries t u).answer

  rewrites_same : (t u : HasTyping m.source b.tries) (r s : Result Rewritten RewriteRefusal) →
      Rewrites t.answer.0 r → Rewrites u.answer.0 s → r ≡ s
  rewrites_same t u r s h k = rewrites_one u.answer.0 r s
      (subst (λ (a : Answer). Rewrites a.0 r) (same_answer t u) h) k

  same_lowered : (l k : HasLowering m b) → l.lowered ≡ k.lowered
  same_lowered l k = ok_same l.lowered k.lowered (rewrites_same l.typing k.typing (Ok l.lowered)
      (Ok k.lowered) l.rewriting k.rewriting)

  same_terms : (l k : HasLowering m b) → l.terms ≡ k.terms
  same_terms l k = λ i. record { subject = subject i; signature = signature i; stated = stated i }
    where
      subject : l.terms.subject ≡ k.terms.subject
      subject = same_head l.terms.subject k.terms.subject
          (sym l.are.subject ∙ ap (λ (x : Rewritten).
          outputs_of (subjects_in m.source.dialect.language.forms) x.judgement)
          (same_lowered l k) ∙ k.are.subject)

      signature : l.terms.signature ≡ k.terms.signature
      signature = same_head l.terms.signature k.terms.signature
          (sym l.are.signature ∙ ap (λ (x : Rewritten).
          outputs_of (modes_of m.source.dialect.language.forms) x.judgement) (same_lowered l k)
          ∙ k.are.signature)

      stated : l.terms.stated ≡ k.terms.stated
      stated = l.are.stated ∙ (one_typing.found m.source b.tries l.typing k.typing).output
          ∙ sym k.are.stated

  -- ---- refusals

  reads_alike : (e d : ModuleError) → typed.AreTypingsAlike m.source e d → AreUnitsAlike m b e d
  reads_alike e d (inl same) = inl same
  reads_alike e d (inr others) = inr (inl others)

  puts_alike : (l : HasLowering m b) (e d : ModuleError) → (e ≡ d) ⊎ ShowOthers m l.terms e d →
      AreUnitsAlike m b e d
  puts_alike l e d (inl same) = inl same
  puts_alike l e d (inr show) = inr (inr (l, show))

  -- a body that is typed is not refused
  typed_none : (e : ModuleError) → HasTyping m.source b.tries → IsUnread e → ⊥
  typed_none e t h = h.not (one_typing.either m.source b.tries t e h.bad)

  -- what is lowered is not refused
  lowered_none : (e : ModuleError) → HasLowering m b → IsUnrewritten e → ⊥
  lowered_none e l h = ok_or_err l.lowered h.refusal (rewrites_same l.typing h.typing (Ok l.lowered)
      (Err h.refusal) l.rewriting h.rewrites)

  moded : AllModed (modes_of m.source.dialect.language.forms) (dialect_rules m.source.dialect)
  moded = good_moded (shapes_of m.source.dialect.parts) m.source.dialect.language.forms []
      m.source.dialect.rules dialect.rule_set.1

  reads_one : (e d : ModuleError) → IsUnread e → IsUnread d → AreUnitsAlike m b e d
  reads_one e d h k =
      reads_alike e d (one_typing.refused m.source b.tries e d moded h.bad k.bad h.not k.not)

  rewrites_alike : (e d : ModuleError) → IsUnrewritten e → IsUnrewritten d → AreUnitsAlike m b e d
  rewrites_alike e d h k =
      let same = err_same h.refusal k.refusal (rewrites_same h.typing k.typing (Err h.refusal)
      (Err k.refusal) h.rewrites k.rewrites) in
      inl (h.is ∙ ap (λ (r : RewriteRefusal). of_rewrite (told b.nodes r)) same ∙ sym k.is)

  puts_one : (e d : ModuleError) → IsUnput e → IsUnput d → AreUnitsAlike m b e d
  puts_one e d h k =
      puts_alike k.lowering e d
      (unwritten_one m k.lowering.terms e d h.not k.not
      (subst (λ (t : PrintedData). IsUnwritten m t e) (same_terms h.lowering k.lowering)
      h.unwritten) k.unwritten)

  refused_one : (e d : ModuleError) → Cases e → Cases d → e ≢ Memory → d ≢ Memory → AreUnitsAlike m b e d
  refused_one e d (inl h) k n o = absurd (n h)
  refused_one e d (inr h) (inl k) n o = absurd (o k)
  refused_one e d (inr (inl h)) (inr (inl k)) n o = reads_one e d h k
  refused_one e d (inr (inl h)) (inr (inr (inl k))) n o = absurd (typed_none e k.typing h)
  refused_one e d (inr (inl h)) (inr (inr (inr k))) n o = absurd (typed_none e k.lowering.typing h)
  refused_one e d (inr (inr (inl h))) (inr (inl k)) n o = absurd (typed_none d h.typing k)
  refused_one e d (inr (inr (inl h))) (inr (inr (inl k))) n o = rewrites_alike e d h k
  refused_one e d (inr (inr (inl h))) (inr (inr (inr k))) n o = absurd (lowered_none e k.lowering h)
  refused_one e d (inr (inr (inr h))) (inr (inl k)) n o = absurd (typed_none d h.lowering.typing k)
  refused_one e d (inr (inr (inr h))) (inr (inr (inl k))) n o = absurd (lowered_none d h.lowering k)
  refused_one e d (inr (inr (inr h))) (inr (inr (inr k))) n o = puts_one e d h k

  -- ---- units

  either_one : (u : UnitData) (e : ModuleError) → IsUnitMade m b u → Cases e → e ≡ Memory
  either_one u e made (inl h) = h
  either_one u e made (inr (inl h)) = absurd (typed_none e made.lowering.typing h)
  either_one u e made (inr (inr (inl h))) = absurd (lowered_none e made.lowering h)
  either_one u e made (inr (inr (inr h))) =
      absurd (written_none m made.lowering.terms e made.lowering.lowered.proof u h.not
      (subst (λ (t : PrintedData). IsUnwritten m t e) (same_terms h.lowering made.lowering)
      h.unwritten) made.written)

  found_one : (u v : UnitData) → IsUnitMade m b u → IsUnitMade m b v → u ≡ v
  found_one u v h k =
      let there = subst (λ (x : Rewritten). IsWritten m h.lowering.terms x.proof u)
      (same_lowered h.lowering k.lowering) h.written in
      let here = subst (λ (t : PrintedData). IsWritten m t k.lowering.lowered.proof u)
      (same_terms h.lowering k.lowering) there in
      let body = (one_typing.found m.source b.tries h.lowering.typing k.lowering.typing).body in
      written_one m k.lowering.terms k.lowering.lowered.proof u v here k.written
      (h.source_tokens ∙ ap length body.tokens ∙ sym k.source_tokens)

pub one_unit : OneUnit
one_unit = record {
  found = λ m b u v dialect. found_one m b dialect u v;
  either = λ m b u e dialect made bad. either_one m b dialect u e made (cases m b dialect e bad);
  refused = λ m b e d dialect h k. refused_one m b dialect e d (cases m b dialect e h)
      (cases m b dialect d k);
  counted = λ m tries made other. one_typing.counted m.source tries made other;
}
