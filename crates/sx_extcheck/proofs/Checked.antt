-- What the check of one rule answers, from what its steps answer.
use Rattle.std.proofs.Common.{◌≡◌, arith, ℕ, ◌+◌, ◌≤◌, Bool, true, false, List, [], ◌∷◌, inl, inr, Option, Some, None, refl, sym, subst}
use Rattle.std.specs.Prelude.{option_map, Result, Ok, Err, MatchOption, IfSome}
use Rattle.std.specs.List.{AllByRecursion}
use Rattle.sx_term.specs.declared.term.Term.{Term}
use Rattle.sx_term.specs.Tree.{Tree, depth_of}
use Rattle.sx_term.specs.Term.{tree}
use Rattle.sx_rules.specs.Deep.{AreShallow}
use Rattle.sx_rules.specs.Derivations.{Proof, height_of, HasShallowBinds}
use Rattle.sx_rules.specs.Modes.{outputs}
use Rattle.sx_rules.specs.Discipline.{subjects_of}
use Rattle.sx_rules.specs.ProofView.{proof}
use Rattle.sx_rules.specs.Views.{rule, judgement}
use Rattle.sx_plain.specs.Plain.{Table, image}
use Rattle.sx_derive.specs.Search.{found}
use Rattle.sx_derive.proofs.Bounded.{shallow_outputs}
use Rattle.sx_rewrite.specs.declared.ext_rule.ExtRule.{ExtRule as ExtRuleOf}
use Rattle.sx_rewrite.specs.declared.flat.Flat.{Flat}
use Rattle.sx_rewrite.specs.declared.lowered.Lowered.{Lowered}
use Rattle.sx_rewrite.specs.declared.rewrite_error.RewriteError.{RewriteError}
use Rattle.sx_rewrite.specs.declared.rewrite_error.RewriteError.TheVariants.{Memory as NoMemory}
use Rattle.sx_rewrite.specs.declared.rewrite_error.RewriteError.TheVariants.{RewriteSpent as NodesSpent}
use Rattle.sx_rewrite.specs.declared.rewrite_error.RewriteError.TheVariants.{RewriteDeep as Deep}
use Rattle.sx_rewrite.specs.declared.rewrite_error.RewriteError.TheVariants.{TooDeep as DeepTerm}
use Rattle.sx_rewrite.specs.declared.rewrite_error.RewriteError.TheVariants.{TooBig as BigTerm}
use Rattle.sx_rewrite.specs.ExtensionView.{ext_rule}
use Rattle.sx_rewrite.specs.PlainRules.{plain_of, HasImage}
use Rattle.sx_rewrite.specs.Puts.{Tells}
use Rattle.sx_rewrite.specs.RewrittenView.{rewritten, IsRewriting}
use Rattle.sx_rewrite.specs.Stored.{checked_with}
use Rattle.sx_extcheck.specs.declared.check_error.CheckError.{CheckError}
use Rattle.sx_extcheck.specs.declared.check_error.CheckError.TheVariants.{Memory, Defect}
use Rattle.sx_extcheck.specs.declared.rule_refusal.RuleRefusal.TheVariants.{Rejected, BudgetSpent}
use Rattle.sx_extcheck.specs.declared.rule_refusal.RuleRefusal.TheVariants.{DepthSpent, TooDeep}
use Rattle.sx_extcheck.specs.declared.rule_refusal.RuleRefusal.TheVariants.{TooBig, RewriteSpent}
use Rattle.sx_extcheck.specs.declared.rule_refusal.RuleRefusal.TheVariants.{RewriteDeep}
use Rattle.sx_extcheck.specs.Checks.{Check, by_base, search_for, over_for, IsStoredFor}
use Rattle.sx_extcheck.specs.CheckView.{IsRuleChecked}
use Rattle.sx_extcheck.specs.FlatTerms.{listed_term}
use Rattle.sx_extcheck.specs.Limits.{limit_defect}
use Rattle.sx_extcheck.specs.Searches.{ending_of, IsSearchedBy, AreSearchesCounted}

-- the first of the subjects is shallow
pub first-shallow : (bs : List Bool) (ts : List Tree) (t : Term) → AreShallow ts → (rest : List Tree) × (outputs bs ts ≡ tree t ∷ rest) → depth_of (tree t) ≤ 1000
first-shallow bs ts t h (rest, e) = (subst (λ (us : List Tree). AreShallow us) e (shallow_outputs bs ts h)).0

-- the flat body is shallow
pub image-shallow : (table : Table) (body : Option Tree) (o : Option Term) → AllByRecursion (HasImage table) (listed_term body) → option_map tree o ≡ option_map (image table) body →
    IfSome o (λ t. depth_of (tree t) ≤ 1000)
image-shallow table body None h e = tt
image-shallow table None (Some t) h e = cc
image-shallow table (Some b) (Some t) h e =
    let same : tree t ≡ image table b = cc in
    subst (λ (u : Tree). depth_of u ≤ 1000) (sym same) h.0.image_shallow

-- a rule of which a measured term passes a limit
pub over-checked : (c : Check) (e : ExtRuleOf) (r : RewriteError) → Tells (over_for c (ext_rule e)) r → IsRuleChecked c e (Err (limit_defect r))
over-checked c e NoMemory h = tt
over-checked c e (NodesSpent n) h = absurd h
over-checked c e Deep h = absurd h
over-checked c e (DeepTerm n) h = inl h
over-checked c e (BigTerm n) h = inl h

-- the tries of a search are counted, whatever comes after it
pub counted-any : (X : Type 0) (tries first last : ℕ) (r : Result X CheckError) → last ≡ first + tries → AreSearchesCounted tries first last r
counted-any X tries first last (Ok x) h = h
counted-any X tries first last (Err Memory) h = (omega (arith, h), omega (arith, h))
counted-any X tries first last (Err (Defect d)) h = h

pub counted-as : (X Y : Type 0) (tries first last : ℕ) (e : CheckError) → AreSearchesCounted {X = X} tries first last (Err e) → AreSearchesCounted {X = Y} tries first last (Err e)
counted-as X Y tries first last Memory h = h
counted-as X Y tries first last (Defect d) h = h

-- the limits of derivations hold of equal ones
pub same-limits : (p q : Proof) → q ≡ p → height_of p ≤ 3000 → HasShallowBinds p → (height_of q ≤ 3000) × HasShallowBinds q
same-limits p q e h b = (subst (λ (x : Proof). height_of x ≤ 3000) (sym e) h, subst (λ (x : Proof). HasShallowBinds x) (sym e) b)

-- the subject of shallow places is shallow
pub subject-shallow : (bs : List Bool) (ts : List Tree) (o : Option Term) → AreShallow ts → MatchOption o ⊥ (λ t. outputs bs ts ≡ tree t ∷ []) → IfSome o (λ t. depth_of (tree t) ≤ 1000)
subject-shallow bs ts None h s = tt
subject-shallow bs ts (Some t) h s = first-shallow bs ts t h ([], s)

-- a search without an answer
module _ (c : Check) (e : ExtRuleOf) (within : over_for c (ext_rule e) ≡ None) where
  pub ended-checked : {X : Type 0} (Finds : X → Type 0) (r : CheckError) → IsSearchedBy Finds (search_for c (ext_rule e)) c.tries (Err r) → IsRuleChecked c e (Err r)
  ended-checked Finds Memory h = tt
  ended-checked Finds (Defect (Rejected b)) h = ((within, h.0), h.1)
  ended-checked Finds (Defect (BudgetSpent n)) h = ((within, h.0), h.1)
  ended-checked Finds (Defect (DepthSpent n)) h = ((within, h.0), h.1)
  ended-checked Finds (Defect (TooDeep n)) h = inr (inl (h.0, (within, h.1), h.2))
  ended-checked Finds (Defect (TooBig n)) h = inr (inl (h.0, (within, h.1), h.2))
  ended-checked Finds (Defect (RewriteSpent n)) h = absurd h
  ended-checked Finds (Defect RewriteDeep) h = absurd h

  -- a derivation that is found by the base rules
  pub base-checked : by_base c (ext_rule e) ≡ true → (p : Proof) → ((outs : List Tree) × (ending_of (search_for c (ext_rule e)) c.tries ≡ found (p, outs))) →
      (flat : Flat) → option_map tree flat.subject ≡ option_map (image c.set.table) (ext_rule e).body → proof flat.proof.value ≡ p →
      IsStoredFor c (ext_rule e) (checked_with (rule e.rule) flat)
  base-checked b p (outs, ends) flat body same =
      inl (b, p, outs, (within, ends), λ i. record { rule = rule e.rule; body = body i; proof = same i })

  -- one that is found by base and plain rules, and is not rewritten
  pub refused-checked : by_base c (ext_rule e) ≡ false → (p : Proof) → ((outs : List Tree) × (ending_of (search_for c (ext_rule e)) c.tries ≡ found (p, outs))) →
      (r : RewriteError) → IsRewriting (plain_of c.set) c.sig.subjects (search_for c (ext_rule e)).hyps p c.nodes (Err r) → IsRuleChecked c e (Err (limit_defect r))
  refused-checked b p (outs, ends) NoMemory h = tt
  refused-checked b p (outs, ends) (NodesSpent n) h = ((b, p, outs, (within, ends), h.1), h.0)
  refused-checked b p (outs, ends) Deep h = (b, p, outs, (within, ends), h)
  refused-checked b p (outs, ends) (DeepTerm n) h = inr (inr (b, p, outs, (within, ends), h))
  refused-checked b p (outs, ends) (BigTerm n) h = inr (inr (b, p, outs, (within, ends), h))

  -- one that is rewritten
  pub lowered-checked : by_base c (ext_rule e) ≡ false → (p : Proof) → ((outs : List Tree) × (ending_of (search_for c (ext_rule e)) c.tries ≡ found (p, outs))) →
      (x : Lowered) → IsRewriting (plain_of c.set) c.sig.subjects (search_for c (ext_rule e)).hyps p c.nodes (Ok x) →
      (flat : Flat) → MatchOption flat.subject ⊥ (λ t. subjects_of c.sig.subjects (judgement x.judgement) ≡ tree t ∷ []) → proof flat.proof.value ≡ proof x.proof.value →
      IsStoredFor c (ext_rule e) (checked_with (rule e.rule) flat)
  lowered-checked b p (outs, ends) x h flat s same = go flat.subject refl s
    where
      go : (o : Option Term) → flat.subject ≡ o → MatchOption o ⊥ (λ t. subjects_of c.sig.subjects (judgement x.judgement) ≡ tree t ∷ []) → IsStoredFor c (ext_rule e) (checked_with (rule e.rule) flat)
      go None q s = absurd s
      go (Some t) q s = inr (rewritten x, (b, p, outs, (within, ends), h), tree t, s, λ i. record { rule = rule e.rule; body = option_map tree (q i); proof = same i })
