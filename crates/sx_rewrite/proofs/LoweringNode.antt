-- A node of a derivation that is lowered, as the code holds it.
use Rattle.std.proofs.Common.{◌≡◌, arith, ℕ, ◌≤◌, true, length, List, [], ◌∷◌, map, Box, Vec, Option, Some, refl, sym, ap, ◌∙◌, subst}
use Rattle.std.specs.declared.alloc.Global.{Global}
use Rattle.std.specs.Prelude.{slice_get, Result, Ok, Err, MatchResult}
use Rattle.sx_term.specs.declared.term.Term.{Term}
use Rattle.sx_term.specs.Term.{tree}
use Rattle.sx_term.specs.Tree.{Tree}
use Rattle.sx_rules.specs.declared.proof.Proof.{Proof as ProofOf, By}
use Rattle.sx_rules.specs.Rules.{Rule, Hypotheses, judgements_of}
use Rattle.sx_rules.specs.Derivations.{Proof, by, proof_at, most_height, HaveShallowBinds}
use Rattle.sx_rules.specs.ProofView.{proof, boxed}
use Rattle.sx_rules.specs.Sets.{shapes_in, forms_in, bare_rules_in}
use Rattle.sx_rules.specs.Views.{hypotheses, subjects_in}
use Rattle.sx_rules.proofs.ProofRows.{proof-at_by}
use Rattle.sx_plain.specs.Views.{table_of}
use Rattle.sx_rewrite.specs.declared.put_terms.PutTerms.{PutTerms}
use Rattle.sx_rewrite.specs.declared.rewrite_error.RewriteError.{RewriteError}
use Rattle.sx_rewrite.specs.declared.source.Source.{Source}
use Rattle.sx_rewrite.specs.Accepted.{Accepted, extended_rules}
use Rattle.sx_rewrite.specs.AcceptedView.{accepted, signature}
use Rattle.sx_rewrite.specs.Lowering.{CanLower, IsLoweredTo, AreLoweredTo, IsLoweringRefused}
use Rattle.sx_rewrite.specs.Lowering.{AreRefused, own_terms, own_proof, CanGraft}
use Rattle.sx_rewrite.specs.LoweredSizes.{proof_count}
use Rattle.sx_rewrite.specs.Needed.{needed}
use Rattle.sx_rewrite.specs.Put.{ArePut}
use Rattle.sx_rewrite.specs.Puts.{Answers}
use Rattle.sx_rewrite.specs.PutImages.{images_for}
use Rattle.sx_rewrite.specs.PutSubjects.{AreReady, ArePutBelow, IsNodeOf}
use Rattle.sx_rewrite.specs.Rewriting.{first_over}
use Rattle.sx_rewrite.specs.SourceView.{set_of, IsSource}
use Rattle.sx_rewrite.specs.Stored.{certificate_at}
use Rattle.sx_rewrite.proofs.Tallied.{number-boxed}
use Rattle.sx_rewrite.proofs.LoweredBy.{by-can, by-refuse, by-ready, by-high, by-binds, by-node, by-graft, by-lowers, by-refuses}

module _ (s : Source) (source : IsSource s) (p : ProofOf) (r : ℕ) (bs : Vec Term Global) (ks : Vec (Box ProofOf Global) Global) (is : p ≡ By r bs ks) (can : CanLower (set_of s) (hypotheses s.given.now) (proof p)) where
  abbrev set : Accepted
  set = set_of s

  abbrev hyps : Hypotheses
  hyps = hypotheses s.given.now

  abbrev cert : Option Proof
  cert = certificate_at (accepted s.set.now) r

  abbrev node : Proof
  node = by r (map tree bs.items) (boxed ks.items)

  view : proof p ≡ node
  view = proof-at_by p r bs ks is

  can-node : CanLower set hyps node
  can-node = subst (CanLower set hyps) view can

  module _ (kids : List (Box ProofOf Global)) (row : kids ≡ ks.items) where
    pub here-can : (i : ℕ) (q : Proof) → needed cert i ≡ true → proof_at (boxed kids) i ≡ Some q → CanLower set hyps q
    here-can i q n e =
        by-can (signature s.set.now) (shapes_in s.set.now.base) (shapes_in s.set.now.rules) set source.accepted_with hyps source.below source.near r (map tree bs.items) (boxed ks.items) can-node cert (source.proofs_are r) i q n
        (subst (λ (xs : List (Box ProofOf Global)). proof_at (boxed xs) i ≡ Some q) row e)

    pub here-refuse : (e : RewriteError) → AreRefused set (subjects_in (forms_in s.set.now.base)) hyps (needed cert) (boxed kids) e → IsLoweringRefused set (subjects_in (forms_in s.set.now.base)) hyps (proof p) e
    here-refuse e h =
        subst (λ (q : Proof). IsLoweringRefused set (subjects_in (forms_in s.set.now.base)) hyps q e) (sym view)
        (by-refuse (signature s.set.now) (shapes_in s.set.now.base) (shapes_in s.set.now.rules) set source.accepted_with hyps source.below source.near r (map tree bs.items) (boxed ks.items) can-node cert (source.proofs_are r) e
        (subst (λ (xs : List (Box ProofOf Global)). AreRefused set (subjects_in (forms_in s.set.now.base)) hyps (needed cert) (boxed xs) e) row h))

    module _ (news : List (Box ProofOf Global)) (done : AreLoweredTo set (subjects_in (forms_in s.set.now.base)) hyps (needed cert) (boxed kids) (boxed news)) where
      done-node : AreLoweredTo set (subjects_in (forms_in s.set.now.base)) hyps (needed cert) (boxed ks.items) (boxed news)
      done-node = subst (λ (xs : List (Box ProofOf Global)). AreLoweredTo set (subjects_in (forms_in s.set.now.base)) hyps (needed cert) (boxed xs) (boxed news)) row done

      pub here-high : most_height (boxed news) ≤ 3000
      here-high = by-high (signature s.set.now) (shapes_in s.set.now.base) (shapes_in s.set.now.rules) set source.accepted_with hyps source.below source.near r (map tree bs.items) (boxed ks.items) can-node cert (source.proofs_are r) (boxed news) done-node

      pub here-binds : HaveShallowBinds (boxed news)
      here-binds = by-binds (signature s.set.now) (shapes_in s.set.now.base) (shapes_in s.set.now.rules) set source.accepted_with hyps source.below source.near r (map tree bs.items) (boxed ks.items) can-node cert (source.proofs_are r) (boxed news) done-node

      pub here-graft : CanGraft cert (boxed news)
      here-graft = by-graft (signature s.set.now) (shapes_in s.set.now.base) (shapes_in s.set.now.rules) set source.accepted_with hyps source.below source.near r (map tree bs.items) (boxed ks.items) can-node cert (source.proofs_are r) (boxed news) done-node

      -- what is put reads slices
      module _ (terms : List Term) (same : terms ≡ bs.items) (lowered : List (Box ProofOf Global)) (like : lowered ≡ news) where
        pub here-ready : AreReady (bare_rules_in s.set.now.base) hyps (needed cert) (boxed lowered)
        here-ready =
            subst (λ (xs : List (Box ProofOf Global)). AreReady (bare_rules_in s.set.now.base) hyps (needed cert) (boxed xs)) (sym like)
            (by-ready (signature s.set.now) (shapes_in s.set.now.base) (shapes_in s.set.now.rules) set source.accepted_with hyps source.below source.near r (map tree bs.items) (boxed ks.items) can-node cert (source.proofs_are r) (boxed news) done-node)

        many-terms : length (map tree bs.items) ≡ length terms
        many-terms = map-many bs.items ∙ ap (λ (xs : List Term). length xs) (sym same)
          where
            map-many : (xs : List Term) → length (map tree xs) ≡ length xs
            map-many [] = refl
            map-many (x ∷ xs) = let h = map-many xs in omega (arith, h)

        many-lowered : length lowered ≡ proof_count (boxed news)
        many-lowered = ap (λ (xs : List (Box ProofOf Global)). length xs) like ∙ sym (number-boxed news)

        pub here-node : IsNodeOf (bare_rules_in s.rules.now) (subjects_in (forms_in s.set.now.base)) r (length terms) (length lowered)
        here-node =
            let x = by-node (signature s.set.now) (shapes_in s.set.now.base) (shapes_in s.set.now.rules) set source.accepted_with hyps source.below source.near r (map tree bs.items) (boxed ks.items) can-node cert (source.proofs_are r) (boxed news) done-node in
            record {
              rule = x.rule;
              at = ap (λ (rules : List Rule). slice_get rules r) source.rules_are ∙ x.at;
              binds_many = sym many-terms ∙ x.binds_many;
              kids_many = many-lowered ∙ x.kids_many;
              bare = x.bare;
            }

        abbrev IsPutHere : PutTerms → Type 0
        IsPutHere puts =
            (x : Rule) → slice_get (bare_rules_in s.rules.now) r ≡ Some x → (more : List Tree) × ArePut more puts
            × ArePutBelow (subjects_in (forms_in s.set.now.base)) (bare_rules_in s.set.now.base) hyps (needed cert) (judgements_of x.premises) (boxed lowered) (length lowered)
            (images_for (table_of s.set.now.plain) x.sorts (map tree terms)) more

        pub here-put : (puts : PutTerms) → IsPutHere puts → (more : List Tree) × ArePut more puts
        here-put puts f = let n = here-node in let x = f n.rule n.at in (x.0, x.1)

        pub here-lowers : (puts : PutTerms) → IsPutHere puts → (result : Result (Box ProofOf Global) RewriteError) →
            ((more : List Tree) → ArePut more puts → Answers (first_over (own_terms (bare_rules_in s.set.now.base) cert r more)) (λ x. proof x.value ≡ own_proof cert r more (boxed news)) result) →
            MatchResult result (λ x. IsLoweredTo set (subjects_in (forms_in s.set.now.base)) hyps (proof p) (proof x.value)) (IsLoweringRefused set (subjects_in (forms_in s.set.now.base)) hyps (proof p))
        here-lowers puts f result g = go result (g w.0 w.1)
          where
            x : IsNodeOf (bare_rules_in s.rules.now) (subjects_in (forms_in s.set.now.base)) r (length terms) (length lowered)
            x = here-node

            w : (more : List Tree) × ArePut more puts
                × ArePutBelow (subjects_in (forms_in s.set.now.base)) (bare_rules_in s.set.now.base) hyps (needed cert) (judgements_of x.rule.premises) (boxed lowered) (length lowered)
                (images_for (table_of s.set.now.plain) x.rule.sorts (map tree terms)) more
            w = f x.rule x.at

            at_rule : slice_get (extended_rules set) r ≡ Some x.rule
            at_rule = ap (λ (rules : List Rule). slice_get rules r) (sym source.rules_are) ∙ x.at

            put : ArePutBelow (subjects_in (forms_in s.set.now.base)) (bare_rules_in s.set.now.base) hyps (needed cert) (judgements_of x.rule.premises) (boxed news) (length lowered)
                (images_for (table_of s.set.now.plain) x.rule.sorts (map tree bs.items)) w.0
            put =
                subst (λ (us : List Term). ArePutBelow (subjects_in (forms_in s.set.now.base)) (bare_rules_in s.set.now.base) hyps (needed cert) (judgements_of x.rule.premises) (boxed news) (length lowered)
                (images_for (table_of s.set.now.plain) x.rule.sorts (map tree us)) w.0) same
                (subst (λ (xs : List (Box ProofOf Global)). ArePutBelow (subjects_in (forms_in s.set.now.base)) (bare_rules_in s.set.now.base) hyps (needed cert) (judgements_of x.rule.premises) (boxed xs) (length lowered)
                (images_for (table_of s.set.now.plain) x.rule.sorts (map tree terms)) w.0) like w.2)

            go : (y : Result (Box ProofOf Global) RewriteError) → Answers (first_over (own_terms (bare_rules_in s.set.now.base) cert r w.0)) (λ z. proof z.value ≡ own_proof cert r w.0 (boxed news)) y →
                MatchResult y (λ z. IsLoweredTo set (subjects_in (forms_in s.set.now.base)) hyps (proof p) (proof z.value)) (IsLoweringRefused set (subjects_in (forms_in s.set.now.base)) hyps (proof p))
            go (Ok y) h =
                subst (λ (q : Proof). IsLoweredTo set (subjects_in (forms_in s.set.now.base)) hyps q (proof y.value)) (sym view)
                (by-lowers (signature s.set.now) (shapes_in s.set.now.base) (shapes_in s.set.now.rules) set source.accepted_with hyps source.below source.near r (map tree bs.items) (boxed ks.items) can-node cert (source.proofs_are r) (boxed news) done-node
                (length lowered) many-lowered w.0 x.rule at_rule put (proof y.value) h)
            go (Err e) h =
                subst (λ (q : Proof). IsLoweringRefused set (subjects_in (forms_in s.set.now.base)) hyps q e) (sym view)
                (by-refuses (signature s.set.now) (shapes_in s.set.now.base) (shapes_in s.set.now.rules) set source.accepted_with hyps source.below source.near r (map tree bs.items) (boxed ks.items) can-node cert (source.proofs_are r) (boxed news) done-node
                (length lowered) many-lowered w.0 x.rule at_rule put e h)
