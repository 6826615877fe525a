-- The bindings at a node, premise by premise.
use Rattle.std.proofs.Common.{◌≡◌, ℕ, ◌<◌, List, [], ◌∷◌, ◌⊎◌, inl, inr, length, Some, sym, ◌∙◌}
use Rattle.sx_term.specs.Tree.{Tree}
use Rattle.sx_rules.specs.Instances.{StandsAmong, bound_by}
use Rattle.sx_rules.specs.Rules.{Judgement, Premise, holds, apart, Rule, judgement_instance}
use Rattle.sx_rules.specs.Modes.{Modes, inputs_of, outputs_of, AreModed, IsModed}
use Rattle.sx_rules.proofs.Moded.{inputs-map, outputs-map}
use Rattle.sx_arena.specs.Matching.{Assignment, nothing_bound, match_all, filled, IsBound}
use Rattle.sx_arena.specs.Limits.{first_values}
use Rattle.sx_arena.proofs.Matchings.{match_all-matches, match_all_found, stays-bound}
use Rattle.sx_arena.proofs.Filled.{filled-agrees, filled-inputs, filled-outputs, first_values-bound}
use Rattle.sx_expand.specs.Followed.{FollowsNode, NodeHasInputs}

-- what is bound may be told in another way
moded-same : (modes : Modes) (rule : Rule) (ps : List Premise) (P Q : ℕ → Type 0) → ((v : ℕ) → P v → Q v) → ((v : ℕ) → Q v → P v) → AreModed modes P ps rule → AreModed modes Q ps rule
moded-same modes rule [] P Q f g m = ((λ v h. f v (m.0 v h)), (λ v. ((λ h. (m.1 v).0 (g v h)), (λ l. f v ((m.1 v).1 l)))))
moded-same modes rule (apart t u ∷ ps) P Q f g m = ((λ v h. f v (m.0 v h)), moded-same modes rule ps P Q f g m.1)
moded-same modes rule (holds j ∷ ps) P Q f g m = (
  (λ v h. f v (m.0 v h)),
  moded-same modes rule ps (λ v. P v ⊎ StandsAmong v (outputs_of modes j)) (λ v. Q v ⊎ StandsAmong v (outputs_of modes j))
      (λ v. elim [ inl x ↦ inl (f v x) | inr x ↦ inr x ]) (λ v. elim [ inl x ↦ inl (g v x) | inr x ↦ inr x ]) m.1,
)

-- what is found where the next terms are matched
pub record Matched (modes : Modes) (rule : Rule) (s : ℕ → Tree) (patterns terms : List Tree) (env : Assignment) (ps : List Premise) : Type 0 where
  pub more : Assignment
  pub found : match_all patterns terms env ≡ Some more
  pub follows : FollowsNode modes rule s ps more

module _ (modes : Modes) (rule : Rule) (s : ℕ → Tree) where
  -- the inputs of the conclusion are matched
  pub follows-start : (terms : List Tree) → IsModed modes rule → NodeHasInputs modes rule s terms → Matched modes rule s (inputs_of modes rule.conclusion) terms nothing_bound rule.premises
  follows-start terms m is =
      let patterns = inputs_of modes rule.conclusion in
      let n = match_all_found patterns terms nothing_bound s (λ v u e. cc) (sym (inputs-map s (modes rule.conclusion.form) rule.conclusion.places) ∙ sym is) in
      let k = match_all-matches patterns terms nothing_bound n.0 n.1 in
      record {
        more = n.0;
        found = n.1;
        follows = record {
          agrees = n.2;
          moded = moded-same modes rule rule.premises (λ v. StandsAmong v patterns) (IsBound n.0) k.every (λ v b. only v (k.only v b)) m;
        };
      }
    where
      only : (v : ℕ) → IsBound nothing_bound v ⊎ StandsAmong v (inputs_of modes rule.conclusion) → StandsAmong v (inputs_of modes rule.conclusion)
      only v (inl (u, e)) = cc
      only v (inr h) = h

  -- a premise that asks for no derivation
  pub follows-apart : (t u : Tree) (ps : List Premise) (env : Assignment) → FollowsNode modes rule s (apart t u ∷ ps) env → FollowsNode modes rule s ps env
  follows-apart t u ps env f = record { agrees = f.agrees; moded = f.moded.1 }

  module _ (j : Judgement) (ps : List Premise) (env : Assignment) (f : FollowsNode modes rule s (holds j ∷ ps) env) where
    -- the inputs of the next judgement
    pub follows-inputs : inputs_of modes (judgement_instance (filled env) j) ≡ inputs_of modes (judgement_instance s j)
    follows-inputs = filled-inputs modes env s f.agrees j f.moded.0

    -- its outputs are matched
    pub follows-outputs : (outs : List Tree) → outs ≡ outputs_of modes (judgement_instance s j) → Matched modes rule s (outputs_of modes j) outs env ps
    follows-outputs outs is =
        let patterns = outputs_of modes j in
        let n = match_all_found patterns outs env s f.agrees (sym (outputs-map s (modes j.form) j.places) ∙ sym is) in
        let k = match_all-matches patterns outs env n.0 n.1 in
        record {
          more = n.0;
          found = n.1;
          follows = record {
            agrees = n.2;
            moded = moded-same modes rule ps (λ v. IsBound env v ⊎ StandsAmong v patterns) (IsBound n.0)
                (λ v. elim [ inl x ↦ stays-bound env n.0 k.extends v x | inr x ↦ k.every v x ]) k.only f.moded.1;
          };
        }

  -- at the end all variables are bound
  pub follows-bound : (env : Assignment) → FollowsNode modes rule s [] env → (v : ℕ) → v < length rule.sorts → IsBound env v
  follows-bound env f v l = (f.moded.1 v).1 l

  pub follows-concluded : (env : Assignment) → FollowsNode modes rule s [] env → outputs_of modes (judgement_instance (filled env) rule.conclusion) ≡ outputs_of modes (judgement_instance s rule.conclusion)
  follows-concluded env f = filled-outputs modes env s f.agrees rule.conclusion f.moded.0

-- and are those of the node
pub follows-binds : (modes : Modes) (rule : Rule) (binds : List Tree) (env : Assignment) → FollowsNode modes rule (bound_by binds) [] env → length binds ≡ length rule.sorts → first_values (length rule.sorts) (filled env) ≡ binds
follows-binds modes rule binds env f many =
    first_values-bound binds (length rule.sorts) (filled env) many (λ v l. filled-agrees env (bound_by binds) f.agrees v (follows-bound modes rule (bound_by binds) env f v l))
