-- The terms of a lowered derivation, in the order in which they are measured.
use Rattle.std.specs.Prelude.{◌≡◌, ℕ, ◌+◌, Bool, true, false, ◌||◌, List, [], ◌∷◌, ◌++◌, map}
use Rattle.std.specs.Prelude.{Option, Some, None, slice_get, nat_eq, if◌then◌else◌}
use Rattle.sx_term.specs.Tree.{Tree}
use Rattle.sx_rules.specs.Instances.{instance, bound_by}
use Rattle.sx_rules.specs.Rules.{Judgement, Rule, Hypotheses, judgement_instance}
use Rattle.sx_rules.specs.Modes.{Modes}
use Rattle.sx_rules.specs.Derivations.{Proof, Proofs, by, given, no_more, ◌⊳◌}
use Rattle.sx_rewrite.specs.Accepted.{Known, basic, checked, rule_in, Accepted, known_of}
use Rattle.sx_rewrite.specs.Lowers.{AreLoweredBinds, LowersEach}

-- whether the given i stands in the proof
abbrev mutual
  pub is_used : ℕ → Proof → Bool
  is_used i (by r binds kids) = is_used_among i kids
  is_used i (given j) = nat_eq i j

  -- or in one of the proofs
  pub is_used_among : ℕ → Proofs → Bool
  is_used_among i no_more = false
  is_used_among i (p ⊳ ps) = is_used i p || is_used_among i ps

-- the terms of a node: its bindings and then the places of its conclusion
abbrev pub node_terms : Option Rule → List Tree → List Tree
node_terms None binds = binds
node_terms (Some rule) binds =
    binds ++ (judgement_instance (bound_by binds) rule.conclusion).places

-- the terms of the instance of a certificate, node by node in preorder
abbrev mutual
  pub certificate_terms : List Rule → (ℕ → Tree) → Proof → List Tree
  certificate_terms base s (by r binds kids) =
      node_terms (slice_get base r) (map (instance s) binds) ++ certificate_terms_of base s kids
  certificate_terms base s (given i) = []

  -- the same of each proof
  pub certificate_terms_of : List Rule → (ℕ → Tree) → Proofs → List Tree
  certificate_terms_of base s no_more = []
  certificate_terms_of base s (p ⊳ ps) =
      certificate_terms base s p ++ certificate_terms_of base s ps

-- the terms of the kids, counted from i, whose givens the certificate uses
abbrev pub used_terms : Proof → ℕ → List (List Tree) → List Tree
used_terms certificate i [] = []
used_terms certificate i (ts ∷ tss) =
    (if is_used i certificate then ts else []) ++ used_terms certificate (i + 1) tss

-- the terms of all of them
abbrev pub all_terms : List (List Tree) → List Tree
all_terms [] = []
all_terms (ts ∷ tss) = ts ++ all_terms tss

-- those of the kids that are lowered, and then those of the node
abbrev pub terms_at : Accepted → Known → ℕ → List Tree → List (List Tree) → List Tree
terms_at a (basic rule) r more tss = all_terms tss ++ node_terms (slice_get a.base r) more
terms_at a (checked c) r more tss =
    used_terms c.proof 0 tss ++ certificate_terms a.base (bound_by more) c.proof

-- the terms of the derivation that p is lowered to, in the order in which they are measured
abbrev mutual
  pub Measures : Accepted → Modes → Hypotheses → Proof → List Tree → Type 0
  Measures a subjects hyps (given i) ts = ts ≡ []
  Measures a subjects hyps (by r binds kids) ts =
      (known : Known) × (qs : Proofs) × (ks : List Judgement) × (more : List Tree)
      × (tss : List (List Tree))
      × (slice_get (known_of a) r ≡ Some known)
      × LowersEach a subjects hyps kids qs ks
      × AreLoweredBinds a.table subjects (rule_in known) binds more ks
      × MeasuresEach a subjects hyps kids tss
      × (ts ≡ terms_at a known r more tss)

  -- each has the terms at its place
  pub MeasuresEach : Accepted → Modes → Hypotheses → Proofs → List (List Tree) → Type 0
  MeasuresEach a subjects hyps no_more [] = Unit {0}
  MeasuresEach a subjects hyps (p ⊳ ps) (ts ∷ tss) =
      Measures a subjects hyps p ts × MeasuresEach a subjects hyps ps tss
  MeasuresEach a subjects hyps _ _ = ⊥

-- each of the terms passes a test
abbrev pub AllPass : (Tree → Bool) → List Tree → Type 0
AllPass test [] = Unit {0}
AllPass test (t ∷ ts) = (test t ≡ true) × AllPass test ts

-- so it is of the bindings and the conclusion's places of each node of a derivation by the rules
abbrev mutual
  pub ProofPasses : (Tree → Bool) → List Rule → Proof → Type 0
  ProofPasses test rules (by r binds kids) =
      AllPass test (node_terms (slice_get rules r) binds) × ProofsPass test rules kids
  ProofPasses test rules (given i) = Unit {0}

  -- and of each proof
  pub ProofsPass : (Tree → Bool) → List Rule → Proofs → Type 0
  ProofsPass test rules no_more = Unit {0}
  ProofsPass test rules (p ⊳ ps) = ProofPasses test rules p × ProofsPass test rules ps
