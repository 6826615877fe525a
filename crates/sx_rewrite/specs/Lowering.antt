-- How derivations are lowered, kid by kid.
use Rattle.std.specs.Prelude.{◌≡◌, ℕ, ◌+◌, ◌≤◌, Bool, true, false, List, [], ◌∷◌, ◌++◌, Option}
use Rattle.std.specs.Prelude.{Some, None, slice_get, if◌then◌else◌}
use Rattle.sx_term.specs.Tree.{Tree, forest}
use Rattle.sx_rules.specs.Instances.{bound_by}
use Rattle.sx_rules.specs.Rules.{Judgement, Rule, Hypotheses}
use Rattle.sx_rules.specs.Modes.{Modes}
use Rattle.sx_rules.specs.Derivations.{Proof, Proofs, by, given, no_more, ◌⊳◌, proof_at, Derives}
use Rattle.sx_rules.specs.Derivations.{HasShallowBinds, height_of, proof_instance, graft}
use Rattle.sx_plain.specs.Plain.{Table}
use Rattle.sx_plain.specs.Tables.{FitTable}
use Rattle.sx_rewrite.specs.declared.rewrite_error.RewriteError.{RewriteError}
use Rattle.sx_rewrite.specs.Accepted.{Accepted, extended_rules}
use Rattle.sx_rewrite.specs.Lowers.{Lowers}
use Rattle.sx_rewrite.specs.Used.{lowered_height}
use Rattle.sx_rewrite.specs.Measured.{node_terms, certificate_terms, Measures, MeasuresEach}
use Rattle.sx_rewrite.specs.Givens.{givens_of, NumbersBelow}
use Rattle.sx_rewrite.specs.Rewriting.{first_over}
use Rattle.sx_rewrite.specs.LoweredSizes.{proof_count}
use Rattle.sx_rewrite.specs.Puts.{Tells}
use Rattle.sx_rules.specs.Limits.{most_levels}

-- each node of the bound terms has as many parts as the table asks for
abbrev mutual
  pub BindsFit : Table → Proof → Type 0
  BindsFit table (by r binds kids) = FitTable table (forest binds) × AllBindsFit table kids
  BindsFit table (given i) = Unit {0}

  -- so it is of each proof
  pub AllBindsFit : Table → Proofs → Type 0
  AllBindsFit table no_more = Unit {0}
  AllBindsFit table (p ⊳ ps) = BindsFit table p × AllBindsFit table ps

-- the proof is a derivation with good terms, and what it is lowered to is no deeper than 3,000
pub record CanLower (a : Accepted) (hyps : Hypotheses) (p : Proof) : Type 0 where
  pub judgement : Judgement
  pub derives : Derives (extended_rules a) hyps judgement p
  pub binds : HasShallowBinds p
  pub fit : BindsFit a.table p
  pub low : lowered_height a p ≤ most_levels

-- p is lowered to q, and no term that is measured for it passes a limit
pub record IsLoweredTo (a : Accepted) (subjects : Modes) (hyps : Hypotheses)
    (p q : Proof) : Type 0 where
  pub lowered : (other : Proof) (k : Judgement) → Lowers a subjects hyps p other k → q ≡ other
  pub small : (ts : List Tree) → Measures a subjects hyps p ts → first_over ts ≡ None

-- each kid that is needed is lowered to the one at its place,
-- and in the place of another stands a given
pub record AreLoweredTo (a : Accepted) (subjects : Modes) (hyps : Hypotheses) (need : ℕ → Bool)
    (ps qs : Proofs) : Type 0 where
  pub many : proof_count qs ≡ proof_count ps
  pub each : (i : ℕ) (p q : Proof) → need i ≡ true → proof_at ps i ≡ Some p →
      proof_at qs i ≡ Some q → IsLoweredTo a subjects hyps p q
  pub blank : (i : ℕ) (q : Proof) → need i ≡ false → proof_at qs i ≡ Some q →
      (n : ℕ) × (q ≡ given n)

-- the terms of the kids, counted from i, that are needed
abbrev pub needed_terms : (ℕ → Bool) → ℕ → List (List Tree) → List Tree
needed_terms need i [] = []
needed_terms need i (ts ∷ tss) = (if need i then ts else []) ++ needed_terms need (i + 1) tss

-- the error tells the first term that is measured for the proof and passes a limit,
-- or out of memory
abbrev pub IsLoweringRefused : Accepted → Modes → Hypotheses → Proof → RewriteError → Type 0
IsLoweringRefused a subjects hyps p e =
    (ts : List Tree) → Measures a subjects hyps p ts → Tells (first_over ts) e

-- so it does of the kids that are needed
abbrev pub AreRefused : Accepted → Modes → Hypotheses → (ℕ → Bool) → Proofs → RewriteError → Type 0
AreRefused a subjects hyps need ps e =
    (tss : List (List Tree)) → MeasuresEach a subjects hyps ps tss →
    Tells (first_over (needed_terms need 0 tss)) e

-- the terms of a node by a base rule, or else those of its certificate, under what is put
abbrev pub own_terms : List Rule → Option Proof → ℕ → List Tree → List Tree
own_terms base None r more = node_terms (slice_get base r) more
own_terms base (Some certificate) r more = certificate_terms base (bound_by more) certificate

-- the node itself, with its lowered kids
abbrev pub own_proof : Option Proof → ℕ → List Tree → Proofs → Proof
own_proof None r more qs = by r more qs
own_proof (Some certificate) r more qs = graft qs (proof_instance (bound_by more) certificate)

-- where the node has a certificate, it uses the givens of kids alone,
-- and with these in their place it is no deeper than 3,000
abbrev pub CanGraft : Option Proof → Proofs → Type 0
CanGraft certificate qs =
    (p : Proof) → certificate ≡ Some p →
    NumbersBelow (proof_count qs) (givens_of p) × (height_of (graft qs p) ≤ most_levels)

-- the kid is lowered where it is needed, and else a given stands in its place
abbrev pub IsKidLowered : Accepted → Modes → Hypotheses → Bool → Proof → Proof → Type 0
IsKidLowered a subjects hyps need p q =
    (need ≡ true → IsLoweredTo a subjects hyps p q) × (need ≡ false → (n : ℕ) × (q ≡ given n))

-- the error tells the first term that passes a limit of a kid that is needed, or out of memory
abbrev pub IsKidRefused : Accepted → Modes → Hypotheses → Bool → Proof → RewriteError → Type 0
IsKidRefused a subjects hyps need p e =
    (ts : List Tree) → Measures a subjects hyps p ts →
    Tells (first_over (if need then ts else [])) e
