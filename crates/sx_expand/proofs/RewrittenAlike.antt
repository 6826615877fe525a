-- Expanding a list and rewriting the derivation in boxes answer the same.
use Rattle.std.proofs.Common.{◌≡◌, ℕ, ◌⊎◌, inl, inr, List, refl, sym, ap, ◌∙◌}
use Rattle.std.specs.Prelude.{Result, Ok, Err}
use Rattle.sx_term.specs.Sorts.{Shape}
use Rattle.sx_rules.specs.Derivations.{Proof}
use Rattle.sx_rules.specs.Orders.{order_of}
use Rattle.sx_rules.specs.Rules.{Hypotheses}
use Rattle.sx_rules.specs.Views.{judgement}
use Rattle.sx_rewrite.specs.declared.lowered.Lowered.{Lowered}
use Rattle.sx_rewrite.specs.declared.rewrite_error.RewriteError.{RewriteError}
use Rattle.sx_rewrite.specs.declared.rewrite_error.RewriteError.TheVariants.{Memory, RewriteSpent, RewriteDeep, TooDeep, TooBig}
use Rattle.sx_rewrite.specs.Accepted.{Accepted, Signature, IsAccepted}
use Rattle.sx_rewrite.specs.Rewriting.{RewriteRefusal, Rewritten, IsRewritten, spent, deep, too_deep, too_big}
use Rattle.sx_rewrite.specs.RewrittenView.{IsRewriting, rewritten}
use Rattle.sx_rewrite.proofs.Rewriting.{rewriting_is_unique}
use Rattle.sx_expand.specs.declared.expanded.Expanded.{Expanded}
use Rattle.sx_expand.specs.Expansions.{IsExpanding, TellsAlike, ExpandingIsRewriting}

module _ (sig : Signature) (base shapes : List Shape) (a : Accepted) (ok : IsAccepted sig base shapes a) (hyps : Hypotheses) (p : Proof) (budget : ℕ) where
  abbrev Answer : Type 0
  Answer = Result Rewritten RewriteRefusal

  one : (x y : Answer) → IsRewritten a sig.subjects hyps p budget x → IsRewritten a sig.subjects hyps p budget y → x ≡ y
  one x y h k = rewriting_is_unique sig base shapes a ok hyps p budget x y h k

  -- an answer and a refusal, and two refusals
  never : (x : Rewritten) (e : RewriteError) → IsRewritten a sig.subjects hyps p budget (Ok x) → IsRewriting a sig.subjects hyps p budget (Err e) → e ≡ Memory
  never x Memory h k = refl
  never x (RewriteSpent n) h k = let q : (let r : Answer = Ok x in r) ≡ Err spent = one (Ok x) (Err spent) h k.1 in cc
  never x RewriteDeep h k = let q : (let r : Answer = Ok x in r) ≡ Err deep = one (Ok x) (Err deep) h k in cc
  never x (TooDeep n) h k = let q : (let r : Answer = Ok x in r) ≡ Err (too_deep n) = one (Ok x) (Err (too_deep n)) h k in cc
  never x (TooBig n) h k = let q : (let r : Answer = Ok x in r) ≡ Err (too_big n) = one (Ok x) (Err (too_big n)) h k in cc

  both : (e f : RewriteError) → IsRewriting a sig.subjects hyps p budget (Err e) → IsRewriting a sig.subjects hyps p budget (Err f) → (e ≡ Memory) ⊎ (f ≡ Memory) ⊎ (e ≡ f)
  both Memory f h k = inl refl
  both (RewriteSpent n) Memory h k = inr (inl refl)
  both (RewriteSpent n) (RewriteSpent m) h k = inr (inr (ap RewriteSpent (h.0 ∙ sym k.0)))
  both (RewriteSpent n) RewriteDeep h k = let q : (let r : Answer = Err spent in r) ≡ Err deep = one (Err spent) (Err deep) h.1 k in cc
  both (RewriteSpent n) (TooDeep m) h k = let q : (let r : Answer = Err spent in r) ≡ Err (too_deep m) = one (Err spent) (Err (too_deep m)) h.1 k in cc
  both (RewriteSpent n) (TooBig m) h k = let q : (let r : Answer = Err spent in r) ≡ Err (too_big m) = one (Err spent) (Err (too_big m)) h.1 k in cc
  both RewriteDeep Memory h k = inr (inl refl)
  both RewriteDeep (RewriteSpent m) h k = let q : (let r : Answer = Err deep in r) ≡ Err spent = one (Err deep) (Err spent) h k.1 in cc
  both RewriteDeep RewriteDeep h k = inr (inr refl)
  both RewriteDeep (TooDeep m) h k = let q : (let r : Answer = Err deep in r) ≡ Err (too_deep m) = one (Err deep) (Err (too_deep m)) h k in cc
  both RewriteDeep (TooBig m) h k = let q : (let r : Answer = Err deep in r) ≡ Err (too_big m) = one (Err deep) (Err (too_big m)) h k in cc
  both (TooDeep n) Memory h k = inr (inl refl)
  both (TooDeep n) (RewriteSpent m) h k = let q : (let r : Answer = Err (too_deep n) in r) ≡ Err spent = one (Err (too_deep n)) (Err spent) h k.1 in cc
  both (TooDeep n) RewriteDeep h k = let q : (let r : Answer = Err (too_deep n) in r) ≡ Err deep = one (Err (too_deep n)) (Err deep) h k in cc
  both (TooDeep n) (TooDeep m) h k = let q : (let r : Answer = Err (too_deep n) in r) ≡ Err (too_deep m) = one (Err (too_deep n)) (Err (too_deep m)) h k in let e : n ≡ m = cc in inr (inr (ap TooDeep e))
  both (TooDeep n) (TooBig m) h k = let q : (let r : Answer = Err (too_deep n) in r) ≡ Err (too_big m) = one (Err (too_deep n)) (Err (too_big m)) h k in cc
  both (TooBig n) Memory h k = inr (inl refl)
  both (TooBig n) (RewriteSpent m) h k = let q : (let r : Answer = Err (too_big n) in r) ≡ Err spent = one (Err (too_big n)) (Err spent) h k.1 in cc
  both (TooBig n) RewriteDeep h k = let q : (let r : Answer = Err (too_big n) in r) ≡ Err deep = one (Err (too_big n)) (Err deep) h k in cc
  both (TooBig n) (TooDeep m) h k = let q : (let r : Answer = Err (too_big n) in r) ≡ Err (too_deep m) = one (Err (too_big n)) (Err (too_deep m)) h k in cc
  both (TooBig n) (TooBig m) h k = let q : (let r : Answer = Err (too_big n) in r) ≡ Err (too_big m) = one (Err (too_big n)) (Err (too_big m)) h k in let e : n ≡ m = cc in inr (inr (ap TooBig e))

  alike : (x : Result Expanded RewriteError) (y : Result Lowered RewriteError) → IsExpanding a sig.subjects hyps p budget x → IsRewriting a sig.subjects hyps p budget y → TellsAlike x y
  alike (Ok x) (Ok y) (q, h, e) k =
      let r : Rewritten = record { proof = q; judgement = judgement x.judgement; copied = x.copied } in
      let same : (let r : Answer = Ok r in r) ≡ Ok (rewritten y) = one (Ok r) (Ok (rewritten y)) h k in
      let is : r ≡ rewritten y = cc in
      (e ∙ ap (λ (z : Rewritten). order_of z.proof) is, ap (λ (z : Rewritten). z.judgement) is, ap (λ (z : Rewritten). z.copied) is)
  alike (Ok x) (Err e) (q, h, _) k = never (record { proof = q; judgement = judgement x.judgement; copied = x.copied }) e h k
  alike (Err e) (Ok y) h k = never (rewritten y) e k h
  alike (Err e) (Err f) h k = both e f h k

pub expanding_is_rewriting : ExpandingIsRewriting
expanding_is_rewriting sig base shapes a ok hyps p budget x y h k = alike sig base shapes a ok hyps p budget x y h k
