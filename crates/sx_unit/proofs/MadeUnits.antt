-- What compiling answers, from what its steps do.
use Rattle.std.proofs.Common.{◌≡◌, ◌⊎◌, inl, inr, ℕ, ◌+◌, List, [], ◌∷◌, map, None, length, refl}
use Rattle.std.proofs.Common.{sym, ap, ◌∙◌, subst, arith}
use Rattle.std.specs.List.{AllByRecursion}
use Rattle.std.specs.Prelude.{Result, Ok, Err, IfOk, IfErr}
use Rattle.sx_term.specs.declared.role.Role.TheVariants.{In, Sub}
use Rattle.std.specs.Result.{IsErrAnd}
use Rattle.sx_term.specs.Term.{tree}
use Rattle.sx_term.specs.Tree.{Tree}
use Rattle.sx_token.specs.declared.token.Token.{Token as TokenOf}
use Rattle.sx_grammar.specs.Reading.{Reading}
use Rattle.sx_rules.specs.Derivations.{Proof, nodes_of}
use Rattle.sx_rules.specs.EntryView.{entries}
use Rattle.sx_rules.specs.ListText.{IsEntry}
use Rattle.sx_rules.specs.Modes.{AllModed, outputs_of}
use Rattle.sx_rules.specs.Orders.{order_of}
use Rattle.sx_rules.specs.Rules.{Judgement}
use Rattle.sx_rules.specs.Views.{judgement, modes_of, subjects_in}
use Rattle.sx_derive.specs.Search.{tries_of}
use Rattle.sx_rewrite.specs.declared.rewrite_error.RewriteError.{RewriteError}
use Rattle.sx_rewrite.specs.declared.rewrite_error.RewriteError.TheVariants as rewrite
use Rattle.sx_extcheck.specs.declared.budgets.Budgets.{Budgets}
use Rattle.sx_typing.specs.declared.typed.Typed.{Typed}
use Rattle.sx_typing.specs.Dialects.{IsDialect}
use Rattle.sx_typing.specs.BodySource.{BodySource, IsTermFor}
use Rattle.sx_typing.specs.Goals.{dialect_rules, source_events, IsBody, AreTriesCounted, IsTypedBy}
use Rattle.sx_typing.specs.Refused.{HasReadBody, HasTyping, HasWalked, IsBadSource}
use Rattle.sx_unit.specs.declared.compiled.Compiled.{Compiled}
use Rattle.sx_unit.specs.declared.lowering.Lowering.{Lowering}
use Rattle.sx_typing.specs.declared.module_error.ModuleError.{ModuleError}
use Rattle.sx_typing.specs.declared.module_error.ModuleError.TheVariants.{Memory, Token, Read}
use Rattle.sx_typing.specs.declared.module_error.ModuleError.TheVariants.{TypeError, BudgetSpent}
use Rattle.sx_typing.specs.declared.module_error.ModuleError.TheVariants.{DepthSpent, TooDeep, TooBig}
use Rattle.sx_typing.specs.declared.module_error.ModuleError.TheVariants.{RewriteSpent, RewriteDeep}
use Rattle.sx_typing.specs.declared.module_error.ModuleError.TheVariants.{Print, Captured}
use Rattle.sx_unit.specs.Errors.{of_rewrite}
use Rattle.sx_unit.specs.Lowered.{IsLowering}
use Rattle.sx_unit.specs.Modules.{ModuleData}
use Rattle.sx_unit.specs.PrintedParts.{PrintedData}
use Rattle.sx_unit.specs.Refused.{IsUnlowered, IsBadModule, IsCompiled, IsCounted, IsFinal}
use Rattle.sx_unit.specs.Unit.{ArePrinted, HasLowering, IsUnit}
use Rattle.sx_unit.specs.Written.{unit_of, ArePrintable, IsWritten, IsUnwritten}
use Rattle.sx_unit.proofs.LoweredTerms.{subject_good, output_good, printable, list_fits}
use Rattle.sx_unit.proofs.Units.{units_are_made, final}

-- ---- what is lowered

module _ (s : BodySource) (is : IsDialect s.dialect) (he : IsTermFor s.dialect In s.environment)
    (subject : Tree) (hs : IsTermFor s.dialect Sub subject) (tries nodes : ℕ) (t : Typed)
    (by : IsTypedBy s tries subject t) (l : Lowering)
    (low : IsLowering s.dialect by.answer.0 nodes l) where
  -- there is one subject and one output
  pub one_subject : (u : Tree) × (outputs_of (subjects_in s.dialect.language.forms)
      (judgement l.judgement) ≡ u ∷ [])
  one_subject =
      let good = subject_good s is subject (tree t.output) he hs by.good by.answer by.derives nodes
      low.lowered low.rewriting in (
        good.0,
        ap (outputs_of (subjects_in s.dialect.language.forms)) (sym low.judgement_is)
            ∙ good.1,
      )

  pub one_output : (u : Tree) × (outputs_of (modes_of s.dialect.language.forms)
      (judgement l.judgement) ≡ u ∷ [])
  one_output =
      let good = output_good s is subject (tree t.output) he hs by.good by.answer by.derives nodes
      low.lowered low.rewriting in
      (good.0, ap (outputs_of (modes_of s.dialect.language.forms)) (sym low.judgement_is) ∙ good.1)

  -- these can be printed
  pub terms_printable : (terms : PrintedData) → ArePrinted s.dialect (judgement l.judgement)
      (tree t.output) terms → ArePrintable s.dialect terms
  terms_printable terms are =
      printable s is subject (tree t.output) he hs by.good by.answer by.derives nodes low.lowered
      low.rewriting terms
      (subst (λ (j : Judgement). ArePrinted s.dialect j (tree t.output) terms)
      (sym low.judgement_is) are)

  -- the list can be written
  pub list_good : AllByRecursion (IsEntry (map (λ r. r.name) s.dialect.language.rules)) l.list.items
      × (length l.list.items ≡ nodes_of low.lowered.proof)
  list_good = list_fits s is subject (tree t.output) he hs by.good by.answer by.derives nodes
      low.lowered low.rewriting l.list.items low.list_is

module _ (m : ModuleData) (b : Budgets) where
  -- ---- refusals of the steps

  pub unread_bad : (e : ModuleError) → IsBadSource m.source b.tries e → IsBadModule m b e
  unread_bad Memory h = tt
  unread_bad (Token line column x) h = h
  unread_bad (Read line column u) h = h
  unread_bad (TypeError line column text) h = h
  unread_bad (BudgetSpent n) h = h
  unread_bad DepthSpent h = h
  unread_bad (TooDeep n) h = inl h
  unread_bad (TooBig n) h = inl h
  unread_bad (RewriteSpent n) h = absurd h
  unread_bad RewriteDeep h = absurd h
  unread_bad (Print part defect) h = absurd h
  unread_bad (Captured word) h = absurd h

  -- a refusal that is passed on
  pub not_compiled : (r : Result Compiled ModuleError) (P : ModuleError → Type 0) → IsErrAnd r P →
      ((e : ModuleError) → P e → IsBadModule m b e) → IsCompiled m b r
  not_compiled (Ok c) P h f = absurd h
  not_compiled (Err e) P h f = f e h

  pub unlowered_bad : (e : RewriteError) → IsUnlowered m b e → IsBadModule m b (of_rewrite e)
  unlowered_bad rewrite.Memory h = tt
  unlowered_bad (rewrite.RewriteSpent n) h = h
  unlowered_bad rewrite.RewriteDeep h = h
  unlowered_bad (rewrite.TooDeep n) h = inr h
  unlowered_bad (rewrite.TooBig n) h = inr h

  pub unwritten_bad : (l : HasLowering m b) (e : ModuleError) → IsUnwritten m l.terms e →
      IsBadModule m b e
  unwritten_bad l Memory h = tt
  unwritten_bad l (Token line column x) h = absurd h
  unwritten_bad l (Read line column u) h = absurd h
  unwritten_bad l (TypeError line column text) h = absurd h
  unwritten_bad l (BudgetSpent n) h = absurd h
  unwritten_bad l DepthSpent h = absurd h
  unwritten_bad l (TooDeep n) h = absurd h
  unwritten_bad l (TooBig n) h = absurd h
  unwritten_bad l (RewriteSpent n) h = absurd h
  unwritten_bad l RewriteDeep h = absurd h
  unwritten_bad l (Print part defect) h = (l, h)
  unwritten_bad l (Captured word) h = (l, h)

  -- ---- what is written

  module _ (tokens : List TokenOf) (reading : Reading) (subject : Tree)
      (read : IsBody m.source tokens reading subject) (t : Typed)
      (by : IsTypedBy m.source b.tries subject t) where
    abbrev pub typing_is : HasTyping m.source b.tries
    typing_is = record {
      body = record {
        tokens = tokens;
        reading = reading;
        subject = subject;
        read = read;
      };
      output = tree t.output;
      answer = by.answer;
      typed = by.typed;
    }

    module _ (l : Lowering) (low : IsLowering m.source.dialect by.answer.0 b.nodes l)
        (terms : PrintedData) (are : ArePrinted m.source.dialect (judgement l.judgement)
        (tree t.output) terms) where
      pub are_printed : ArePrinted m.source.dialect low.lowered.judgement (tree t.output) terms
      are_printed = subst (λ (j : Judgement). ArePrinted m.source.dialect j (tree t.output) terms)
          (sym low.judgement_is) are

      abbrev lowering_is : HasLowering m b
      lowering_is = record {
        typing = typing_is;
        lowered = low.lowered;
        rewriting = low.rewriting;
        terms = terms;
        are = are_printed;
      }

      pub compiled : (r : Result Compiled ModuleError) (count : ℕ) → length l.list.items ≡ nodes_of
          low.lowered.proof →
          IfOk r (λ c. (q : Proof) → entries l.list.items ≡ order_of q →
          length l.list.items ≡ nodes_of q → IsWritten m terms q (unit_of c)) →
          IfOk r (λ c. c.source_tokens ≡ count) → count ≡ length tokens →
          IfErr r (IsUnwritten m terms) → IsCompiled m b r
      compiled (Ok c) count nodes written counted many refused =
          record {
            lowering = lowering_is;
            written = written low.lowered.proof low.list_is nodes;
            source_tokens = subst (λ (n : ℕ). c.source_tokens ≡ n) many counted;
          }
      compiled (Err e) count nodes written counted many refused = unwritten_bad lowering_is e
          refused

  -- ---- tries

  -- so many tries were made, and none is missing
  all_counted : (made first last : ℕ) → HasWalked m.source b.tries made → last ≡ first + made →
      (r : Result Compiled ModuleError) → IsCounted m b r first last
  all_counted made first last walked h (Ok c) = (made, walked, h)
  all_counted made first last walked h (Err Memory) =
      (omega (arith, h), inr (made, walked, omega (arith, h)))
  all_counted made first last walked h (Err (Token line column e)) = (made, walked, h)
  all_counted made first last walked h (Err (Read line column e)) = (made, walked, h)
  all_counted made first last walked h (Err (TypeError line column e)) = (made, walked, h)
  all_counted made first last walked h (Err (BudgetSpent n)) = (made, walked, h)
  all_counted made first last walked h (Err DepthSpent) = (made, walked, h)
  all_counted made first last walked h (Err (TooDeep n)) = (made, walked, h)
  all_counted made first last walked h (Err (TooBig n)) = (made, walked, h)
  all_counted made first last walked h (Err (RewriteSpent n)) = (made, walked, h)
  all_counted made first last walked h (Err RewriteDeep) = (made, walked, h)
  all_counted made first last walked h (Err (Print part defect)) = (made, walked, h)
  all_counted made first last walked h (Err (Captured word)) = (made, walked, h)

  -- where a refusal is passed on they are its tries
  pub passed_counted : (first last : ℕ) (r : Result Compiled ModuleError)
      (P : ModuleError → Type 0) → IsErrAnd r P →
      ((e : ModuleError) → P e → IsCounted m b (Err e) first last) → IsCounted m b r first last
  passed_counted first last (Ok c) P h f = absurd h
  passed_counted first last (Err e) P h f = f e h

  -- where the body is refused there are none
  pub unread_counted : (e : ModuleError) (at : ℕ) → (e ≡ Memory) ⊎ (HasReadBody m.source → ⊥) →
      IsCounted m b (Err e) at at
  unread_counted e at (inl memory) =
      subst (λ (x : ModuleError). IsCounted m b (Err x) at at) (sym memory)
      (omega arith, inl refl)
  unread_counted e at (inr none) = all_counted 0 at at (inr (none, refl)) (omega arith) (Err e)

  module _ (body : HasReadBody m.source) where
    abbrev made : ℕ
    made = tries_of None b.tries (source_events m.source body.subject)

    walked : HasWalked m.source b.tries made
    walked = inl (body, refl)

    -- where the goal has a derivation the tries are those of its walk, whatever comes then
    pub typed_counted : (first last : ℕ) (t : Typed) → AreTriesCounted made first last (Ok t) →
        (r : Result Compiled ModuleError) → IsCounted m b r first last
    typed_counted first last t h r = all_counted made first last walked h r

    -- and so they are where it has none
    pub untyped_counted : (first last : ℕ) (e : ModuleError) → AreTriesCounted {X = Typed} made first last
        (Err e) → IsCounted m b (Err e) first last
    untyped_counted first last Memory h = (h.0, inr (made, walked, h.1))
    untyped_counted first last (Token line column e) h = (made, walked, h)
    untyped_counted first last (Read line column e) h = (made, walked, h)
    untyped_counted first last (TypeError line column e) h = (made, walked, h)
    untyped_counted first last (BudgetSpent n) h = (made, walked, h)
    untyped_counted first last DepthSpent h = (made, walked, h)
    untyped_counted first last (TooDeep n) h = (made, walked, h)
    untyped_counted first last (TooBig n) h = (made, walked, h)
    untyped_counted first last (RewriteSpent n) h = (made, walked, h)
    untyped_counted first last RewriteDeep h = (made, walked, h)
    untyped_counted first last (Print part defect) h = (made, walked, h)
    untyped_counted first last (Captured word) h = (made, walked, h)

  -- ---- units and type errors

  module _ (moded : AllModed (modes_of m.source.dialect.language.forms) (dialect_rules m.source.dialect))
    where
      pub unit_if : (r : Result Compiled ModuleError) → IsCompiled m b r →
          IfOk r (λ c. IsUnit m (unit_of c))
      unit_if (Ok c) h = units_are_made m b (unit_of c) moded h
      unit_if (Err e) h = tt

      final_of : (e : ModuleError) → IsBadModule m b e → IsFinal m e
      final_of Memory h = tt
      final_of (Token line column x) h = tt
      final_of (Read line column u) h = tt
      final_of (TypeError line column text) h = final m b line column text moded h
      final_of (BudgetSpent n) h = tt
      final_of DepthSpent h = tt
      final_of (TooDeep n) h = tt
      final_of (TooBig n) h = tt
      final_of (RewriteSpent n) h = tt
      final_of RewriteDeep h = tt
      final_of (Print part defect) h = tt
      final_of (Captured word) h = tt

      pub final_if : (r : Result Compiled ModuleError) → IsCompiled m b r → IfErr r (IsFinal m)
      final_if (Ok c) h = tt
      final_if (Err e) h = final_of e h
