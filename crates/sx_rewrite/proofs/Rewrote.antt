-- What rewriting a derivation answers, by the rules of a source.
use Rattle.std.proofs.Common.{◌≡◌, arith, ℕ, ◌<◌, ◌≤◌, List, Some, None, refl, sym, ◌∙◌, subst}
use Rattle.std.specs.Prelude.{Result, Ok, Err, MatchResult}
use Rattle.sx_term.specs.Tree.{Tree}
use Rattle.sx_rules.specs.Rules.{Judgement, Hypotheses}
use Rattle.sx_rules.specs.Derivations.{Proof, Derives}
use Rattle.sx_rules.specs.ProofView.{proof}
use Rattle.sx_rules.specs.Sets.{shapes_in, forms_in, bare_rules_in}
use Rattle.sx_rules.specs.Views.{hypotheses, subjects_in, judgement}
use Rattle.sx_rewrite.specs.declared.lowered.Lowered.{Lowered}
use Rattle.sx_rewrite.specs.declared.lowered_size.LoweredSize.{LoweredSize}
use Rattle.sx_rewrite.specs.declared.rewrite_error.RewriteError.{RewriteError}
use Rattle.sx_rewrite.specs.declared.rewrite_error.RewriteError.TheVariants.{Memory, RewriteSpent}
use Rattle.sx_rewrite.specs.declared.rewrite_error.RewriteError.TheVariants.{RewriteDeep, TooDeep}
use Rattle.sx_rewrite.specs.declared.rewrite_error.RewriteError.TheVariants.{TooBig}
use Rattle.sx_rewrite.specs.declared.source.Source.{Source}
use Rattle.sx_rewrite.specs.Accepted.{Accepted}
use Rattle.sx_rewrite.specs.AcceptedView.{accepted, signature}
use Rattle.sx_rewrite.specs.LoweredSizes.{HasFitKids, IsLoweredSize}
use Rattle.sx_rewrite.specs.Lowering.{CanLower, IsLoweredTo, IsLoweringRefused}
use Rattle.sx_rewrite.specs.Lowers.{Lowers}
use Rattle.sx_rewrite.specs.Measured.{Measures}
use Rattle.sx_rewrite.specs.PutSubjects.{IsProofReady}
use Rattle.sx_rewrite.specs.Rewrites.{CanRewrite, CountsAlike}
use Rattle.sx_rewrite.specs.RewrittenView.{IsRewriting}
use Rattle.sx_rewrite.specs.SourceView.{set_of, IsSource}
use Rattle.sx_rewrite.specs.Used.{lowered_nodes, lowered_height}
use Rattle.sx_rewrite.proofs.Lowerings.{lowered_are_derivations}
use Rattle.sx_rewrite.proofs.LoweredAlways.{lowering_exists}
use Rattle.sx_rewrite.proofs.LoweredKids.{lowered-ready}
use Rattle.sx_rewrite.proofs.Measured.{terms_are_measured}
use Rattle.sx_rewrite.proofs.PlainSizes.{derivations_fit}

module _ (s : Source) (source : IsSource s) (counts : CountsAlike s) (p : Proof) (can : CanRewrite (set_of s) (hypotheses s.given.now) p) (budget : ℕ) where
  abbrev set : Accepted
  set = set_of s

  abbrev hyps : Hypotheses
  hyps = hypotheses s.given.now

  pub kids-fit : HasFitKids (accepted s.set.now) p
  kids-fit = (counts p).0 (derivations_fit set hyps can.judgement p can.derives)

  pub is-spent : IsLoweredSize (accepted s.set.now) p budget None → IsRewriting set (signature s.set.now).subjects hyps p budget (Err (RewriteSpent budget))
  is-spent h = let n = (counts p).1 in (refl, omega (arith, h, n))

  module _ (size : LoweredSize) (h : IsLoweredSize (accepted s.set.now) p budget (Some size)) where
    few : lowered_nodes set p ≤ budget
    few = let n = (counts p).1 in let l = h.0 in omega (arith, n, l)

    pub is-deep : 3000 < size.height → IsRewriting set (signature s.set.now).subjects hyps p budget (Err RewriteDeep)
    is-deep l = let n = (counts p).2 in let e = h.2 in (few, omega (arith, n, e, l))

    module _ (low : size.height ≤ 3000) where
      less : lowered_height set p ≤ 3000
      less = let n = (counts p).2 in let e = h.2 in omega (arith, n, e, low)

      pub can-lower : CanLower set hyps p
      can-lower = record { judgement = can.judgement; derives = can.derives; binds = can.binds; fit = can.fit; low = less }

      pub is-refused : (e : RewriteError) → IsLoweringRefused set (subjects_in (forms_in s.set.now.base)) hyps p e → IsRewriting set (signature s.set.now).subjects hyps p budget (Err e)
      is-refused e f = go (terms_are_measured (signature s.set.now) (shapes_in s.set.now.base) (shapes_in s.set.now.rules) set source.accepted_with hyps p can.judgement can.derives) e f
        where
          go : (ts : List Tree) × Measures set (signature s.set.now).subjects hyps p ts → (e : RewriteError) → IsLoweringRefused set (subjects_in (forms_in s.set.now.base)) hyps p e →
              IsRewriting set (signature s.set.now).subjects hyps p budget (Err e)
          go (ts, m) Memory f = tt
          go (ts, m) (RewriteSpent n) f = absurd (f ts m)
          go (ts, m) RewriteDeep f = absurd (f ts m)
          go (ts, m) (TooDeep n) f = (few, less, (ts, m, f ts m))
          go (ts, m) (TooBig n) f = (few, less, (ts, m, f ts m))

      module _ (q : Proof) (is : IsLoweredTo set (subjects_in (forms_in s.set.now.base)) hyps p q) where
        pub is-ready : IsProofReady (bare_rules_in s.set.now.base) hyps q
        is-ready = lowered-ready (signature s.set.now) (shapes_in s.set.now.base) (shapes_in s.set.now.rules) set source.accepted_with hyps source.below source.near p q can-lower is

        pub is-done : (result : Result Lowered RewriteError) →
            MatchResult result (λ x. (proof x.proof.value ≡ q) × (x.copied ≡ size.copied) × ((k : Judgement) → Derives (bare_rules_in s.set.now.base) hyps k q → judgement x.judgement ≡ k)) (λ e. e ≡ Memory) →
            IsRewriting set (signature s.set.now).subjects hyps p budget result
        is-done (Err e) f = subst (λ (x : RewriteError). IsRewriting set (signature s.set.now).subjects hyps p budget (Err x)) (sym f) tt
        is-done (Ok x) (same, many, judges) =
            go (lowering_exists (signature s.set.now) (shapes_in s.set.now.base) (shapes_in s.set.now.rules) set source.accepted_with hyps p can.judgement can.derives)
            (terms_are_measured (signature s.set.now) (shapes_in s.set.now.base) (shapes_in s.set.now.rules) set source.accepted_with hyps p can.judgement can.derives)
          where
            go : (o : Proof) × (k : Judgement) × Lowers set (signature s.set.now).subjects hyps p o k → (ts : List Tree) × Measures set (signature s.set.now).subjects hyps p ts →
                IsRewriting set (signature s.set.now).subjects hyps p budget (Ok x)
            go (o, k, l) (ts, m) =
                let e = is.lowered o k l in
                let d = (lowered_are_derivations (signature s.set.now) (shapes_in s.set.now.base) (shapes_in s.set.now.rules) set source.accepted_with hyps source.below p o can.judgement k can.derives l).0 in
                let j = judges k (subst (λ (y : Proof). Derives set.base hyps k y) (sym e) d) in
                let n = (counts p).3 in
                let c = h.3 in (
                  subst (λ (y : Judgement). Lowers set (signature s.set.now).subjects hyps p (proof x.proof.value) y) (sym j)
                      (subst (λ (y : Proof). Lowers set (signature s.set.now).subjects hyps p y k) (sym (same ∙ e)) l),
                  omega (arith, many, c, n),
                  (few, less, (ts, m, is.small ts m)),
                )
