-- A rule has one verdict: what is stored of it, or why it is refused.
use Rattle.std.proofs.Common.{◌≡◌, ℕ, ◌-◌, ◌^◌, min, Bool, true, false, List, [], ◌∷◌, ◌⊎◌, inl, inr, Option, Some, None, refl, sym, ap, ◌∙◌, subst, if◌then◌else◌}
use Rattle.std.specs.Prelude.{option_map, Result, Ok, Err}
use Rattle.sx_term.specs.Sorts.{Shape}
use Rattle.sx_term.specs.Tree.{Tree}
use Rattle.sx_rules.specs.Derivations.{Proof}
use Rattle.sx_rules.specs.Discipline.{subjects_of}
use Rattle.sx_rules.specs.Modes.{AllModed}
use Rattle.sx_plain.specs.Plain.{image}
use Rattle.sx_derive.specs.Search.{Ending, found, stopped, spent as no_tries, exhausted}
use Rattle.sx_derive.specs.Stuck.{Blame}
use Rattle.sx_derive.specs.Walk.{Cause, depth_spent, too_deep as deep_term, too_big as big_term}
use Rattle.sx_derive.proofs.BlamedOnce.{stuck_goal_is_unique}
use Rattle.sx_rewrite.specs.Accepted.{ExtRule, Checked, IsAccepted, extended_rules}
use Rattle.sx_rewrite.specs.PlainRules.{plain_of}
use Rattle.sx_rewrite.specs.Rewriting.{RewriteRefusal, Rewritten, IsRewritten, spent, deep, too_deep, too_big}
use Rattle.sx_rewrite.proofs.LoweredSorted.{moded-base}
use Rattle.sx_rewrite.proofs.PlainSets.{plain_rules_are_accepted}
use Rattle.sx_rewrite.proofs.Rewriting.{rewriting_is_unique}
use Rattle.sx_extcheck.specs.declared.rule_refusal.RuleRefusal.{RuleRefusal}
use Rattle.sx_extcheck.specs.declared.rule_refusal.RuleRefusal.TheVariants.{Rejected, BudgetSpent, DepthSpent, TooDeep, TooBig, RewriteSpent, RewriteDeep}
use Rattle.sx_extcheck.specs.Agree.{DefectData, unsound, other, defect_as_data}
use Rattle.sx_extcheck.specs.Checks.{Check, by_base, search_for, over_for, EndsSo, IsLowered, IsStoredFor, IsRefusedFor}
use Rattle.sx_extcheck.specs.Searches.{Search, StuckIn}

abbrev pub Verdict : Type 0
Verdict = Checked ⊎ DefectData

-- how a check goes: a measured term passes a limit, a goal is stuck, or else the walk ends so, or what it finds is rewritten to this
pub data Course : Type 0 where
  limited : RewriteRefusal → Course
  stuck : Blame → Course
  ended : Ending → Course
  lowered : Result Rewritten RewriteRefusal → Course

abbrev head_of : List Tree → Option Tree
head_of [] = None
head_of (t ∷ ts) = Some t

abbrev limit_of : ℕ → RewriteRefusal → RuleRefusal
limit_of nodes spent = RewriteSpent nodes
limit_of nodes deep = RewriteDeep
limit_of nodes (too_deep n) = TooDeep n
limit_of nodes (too_big n) = TooBig n

abbrev cause_tells : Cause → RuleRefusal
cause_tells depth_spent = DepthSpent 3000
cause_tells (deep_term depth) = TooDeep (min depth (2 ^ 64 - 1))
cause_tells (big_term size) = TooBig (min size (2 ^ 64 - 1))

-- what a walk finds, and the limit that is passed
abbrev proof_in : Ending → Proof → Proof
proof_in (found (p, outs)) q = p
proof_in (stopped cause) q = q
proof_in no_tries q = q
proof_in exhausted q = q

abbrev refusal_in : Option RewriteRefusal → RewriteRefusal → RewriteRefusal
refusal_in (Some over) r = over
refusal_in None r = r

module _ (c : Check) (ext : ExtRule) where
  -- of a walk that finds a derivation by base rules, or ends without one and with no stuck goal
  abbrev IsOwn : Ending → Type 0
  IsOwn (found (p, outs)) = by_base c ext ≡ true
  IsOwn (stopped cause) = Unit {0}
  IsOwn no_tries = Unit {0}
  IsOwn exhausted = ⊥

  abbrev IsCourse : Course → Type 0
  IsCourse (limited over) = over_for c ext ≡ Some over
  IsCourse (stuck b) = EndsSo c ext exhausted × StuckIn (search_for c ext) b
  IsCourse (ended e) = EndsSo c ext e × IsOwn e
  IsCourse (lowered answer) = IsLowered c ext answer

  abbrev tells : Course → Verdict
  tells (limited over) = inr (other (limit_of c.nodes over))
  tells (stuck b) = inr (unsound b)
  tells (ended (found (p, outs))) = inl (record { rule = ext.rule; body = option_map (image c.set.table) ext.body; proof = p })
  tells (ended (stopped cause)) = inr (other (cause_tells cause))
  tells (ended no_tries) = inr (other (BudgetSpent c.tries))
  tells (ended exhausted) = inr (other (BudgetSpent c.tries))
  tells (lowered (Ok x)) = inl (record { rule = ext.rule; body = head_of (subjects_of c.sig.subjects x.judgement); proof = x.proof })
  tells (lowered (Err over)) = inr (other (limit_of c.nodes over))

  abbrev pub IsVerdict : Verdict → Type 0
  IsVerdict v = (k : Course) × IsCourse k × (tells k ≡ v)

  pub stored-verdict : (s : Checked) → IsStoredFor c ext s → IsVerdict (inl s)
  stored-verdict s (inl (b, p, outs, ends, same)) = (ended (found (p, outs)), (ends, b), ap (λ (x : Checked). let v : Verdict = inl x in v) (sym same))
  stored-verdict s (inr (x, h, t, subject, same)) = (
    lowered (Ok x),
    h,
    ap (λ (ts : List Tree). let v : Verdict = inl (record { rule = ext.rule; body = head_of ts; proof = x.proof }) in v) subject
        ∙ ap (λ (x : Checked). let v : Verdict = inl x in v) (sym same),
  )

  told : (d e : RuleRefusal) → d ≡ e → let v : Verdict = inr (other d) in let w : Verdict = inr (other e) in v ≡ w
  told d e q = ap (λ (x : RuleRefusal). let v : Verdict = inr (other x) in v) q

  pub refused-verdict : (d : RuleRefusal) → IsRefusedFor c ext d → IsVerdict (inr (defect_as_data d))
  refused-verdict (Rejected b) h = (stuck _, h, refl)
  refused-verdict (BudgetSpent n) (h, e) = (ended no_tries, (h, tt), told (BudgetSpent c.tries) (BudgetSpent n) (ap BudgetSpent (sym e)))
  refused-verdict (DepthSpent n) (h, e) = (ended (stopped depth_spent), (h, tt), told (DepthSpent 3000) (DepthSpent n) (ap DepthSpent (sym e)))
  refused-verdict (TooDeep n) (inl h) = (limited (too_deep n), h, refl)
  refused-verdict (TooDeep n) (inr (inl (depth, h, e))) =
      (ended (stopped (deep_term depth)), (h, tt), told (TooDeep (min depth (2 ^ 64 - 1))) (TooDeep n) (ap TooDeep (sym e)))
  refused-verdict (TooDeep n) (inr (inr h)) = (lowered (Err (too_deep n)), h, refl)
  refused-verdict (TooBig n) (inl h) = (limited (too_big n), h, refl)
  refused-verdict (TooBig n) (inr (inl (size, h, e))) =
      (ended (stopped (big_term size)), (h, tt), told (TooBig (min size (2 ^ 64 - 1))) (TooBig n) (ap TooBig (sym e)))
  refused-verdict (TooBig n) (inr (inr h)) = (lowered (Err (too_big n)), h, refl)
  refused-verdict (RewriteSpent n) (h, e) = (lowered (Err spent), h, told (RewriteSpent c.nodes) (RewriteSpent n) (ap RewriteSpent (sym e)))
  refused-verdict RewriteDeep h = (lowered (Err deep), h, refl)

  module _ (base shapes : List Shape) (ok : IsAccepted c.sig base shapes c.set) where
    plain_ok : IsAccepted c.sig base shapes (plain_of c.set)
    plain_ok = plain_rules_are_accepted c.sig base shapes c.set ok

    moded : (b : Bool) → AllModed c.sig.modes (if b then c.set.base else extended_rules (plain_of c.set))
    moded true = moded-base c.sig.modes c.set.base c.set.more ok.moded
    moded false = plain_ok.moded

    never : (e : Ending) → EndsSo c ext e → IsOwn e → (p : Proof) (outs : List Tree) → e ≡ found (p, outs) → by_base c ext ≡ false → ⊥
    never (found (q, us)) h o p outs same b = let r : true ≡ false = sym o ∙ b in cc
    never (stopped cause) h o p outs same b = cc
    never no_tries h o p outs same b = cc
    never exhausted h o p outs same b = cc

    own : (e : Ending) → IsOwn e → exhausted ≡ e → ⊥
    own (found (q, us)) o same = cc
    own (stopped cause) o same = cc
    own no_tries o same = cc
    own exhausted o same = o

    within-not : (over : RewriteRefusal) → over_for c ext ≡ Some over → over_for c ext ≡ None → ⊥
    within-not over h w = let r : Some over ≡ None = sym h ∙ w in cc

    one-course : (k l : Course) → IsCourse k → IsCourse l → k ≡ l
    one-course (limited r) (limited q) h i = ap limited (ap (λ (o : Option RewriteRefusal). refusal_in o r) (sym h ∙ i))
    one-course (limited r) (stuck b) h i = absurd (within-not r h i.0.0)
    one-course (limited r) (ended e) h i = absurd (within-not r h i.0.0)
    one-course (limited r) (lowered a) h (b, p, outs, (w, e), x) = absurd (within-not r h w)
    one-course (stuck b) (limited r) h i = absurd (within-not r i h.0.0)
    one-course (stuck b) (stuck d) h i =
        let s : Search = search_for c ext in
        ap stuck (stuck_goal_is_unique s.modes s.subjects s.rules s.hyps (moded (by_base c ext)) s.goal [] 3000 3000 b d h.1 i.1)
    one-course (stuck b) (ended e) h i = absurd (own e i.1 (sym h.0.1 ∙ i.0.1))
    one-course (stuck b) (lowered a) h (d, p, outs, (w, e), x) = let r : exhausted ≡ found (p, outs) = sym h.0.1 ∙ e in absurd cc
    one-course (ended e) (limited r) h i = absurd (within-not r i h.0.0)
    one-course (ended e) (stuck b) h i = absurd (own e h.1 (sym i.0.1 ∙ h.0.1))
    one-course (ended e) (ended f) h i = ap ended (sym h.0.1 ∙ i.0.1)
    one-course (ended e) (lowered a) h (b, p, outs, (w, f), x) = absurd (never e h.0 h.1 p outs (sym h.0.1 ∙ f) b)
    one-course (lowered a) (limited r) (b, p, outs, (w, e), x) i = absurd (within-not r i w)
    one-course (lowered a) (stuck b) (d, p, outs, (w, e), x) i = let r : exhausted ≡ found (p, outs) = sym i.0.1 ∙ e in absurd cc
    one-course (lowered a) (ended f) (b, p, outs, (w, e), x) i = absurd (never f i.0 i.1 p outs (sym i.0.1 ∙ e) b)
    one-course (lowered a) (lowered d) (b, p, outs, (w, e), x) (b', p', outs', (w', e'), x') =
        let same : p ≡ p' = ap (λ (z : Ending). proof_in z p) (sym e ∙ e') in
        let s : Search = search_for c ext in
        ap lowered (rewriting_is_unique c.sig base shapes (plain_of c.set) plain_ok s.hyps p' c.nodes a d
        (subst (λ (q : Proof). IsRewritten (plain_of c.set) c.sig.subjects s.hyps q c.nodes a) same x) x')

    pub one-verdict : (v w : Verdict) → IsVerdict v → IsVerdict w → v ≡ w
    one-verdict v w (k, h, e) (l, i, f) = sym e ∙ ap tells (one-course k l h i) ∙ f

    pub stored-once : (s t : Checked) → IsStoredFor c ext s → IsStoredFor c ext t → s ≡ t
    stored-once s t h i = ap (λ (v : Verdict). checked_in v s) (one-verdict (inl s) (inl t) (stored-verdict s h) (stored-verdict t i))
      where
        checked_in : Verdict → Checked → Checked
        checked_in (inl x) y = x
        checked_in (inr x) y = y

    pub refused-once : (d e : RuleRefusal) → IsRefusedFor c ext d → IsRefusedFor c ext e → defect_as_data d ≡ defect_as_data e
    refused-once d e h i =
        ap (λ (v : Verdict). data_in v (defect_as_data d)) (one-verdict (inr (defect_as_data d)) (inr (defect_as_data e)) (refused-verdict d h) (refused-verdict e i))
      where
        data_in : Verdict → DefectData → DefectData
        data_in (inl x) y = y
        data_in (inr x) y = x

    pub not-both : (s : Checked) (d : RuleRefusal) → IsStoredFor c ext s → IsRefusedFor c ext d → ⊥
    not-both s d h i =
        subst (λ (v : Verdict). IsLeft v) (one-verdict (inl s) (inr (defect_as_data d)) (stored-verdict s h) (refused-verdict d i)) tt
      where
        IsLeft : Verdict → Type 0
        IsLeft (inl x) = Unit {0}
        IsLeft (inr x) = ⊥
