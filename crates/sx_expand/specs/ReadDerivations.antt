-- What is read of derivations in a list, node by node.
use Rattle.std.specs.Prelude.{◌≡◌, ℕ, ◌≤◌, Bool, true, false, List, map, length, Result, Ok, Err}
use Rattle.sx_term.specs.Tree.{Tree}
use Rattle.sx_rules.specs.Derivations.{Proof, Derives, HasShallowBinds}
use Rattle.sx_rules.specs.Modes.{inputs_of, outputs_of}
use Rattle.sx_rules.specs.Rules.{Judgement}
use Rattle.sx_arena.specs.Arena.{tree_at, AreBelow}
use Rattle.sx_rewrite.specs.declared.rewrite_error.RewriteError.{RewriteError}
use Rattle.sx_rewrite.specs.declared.rewrite_error.RewriteError.TheVariants.{Memory}
use Rattle.sx_rewrite.specs.Accepted.{extended_rules}
use Rattle.sx_rewrite.specs.Lowering.{BindsFit, IsLoweringRefused}
use Rattle.sx_rewrite.specs.Used.{lowered_height}
use Rattle.sx_expand.specs.declared.read.Read.{Read}
use Rattle.sx_expand.specs.declared.reading.Reading.{Reading}
use Rattle.sx_expand.specs.KidsRead.{IsKidRead}
use Rattle.sx_expand.specs.Listed.{StandsIn}
use Rattle.sx_expand.specs.Readings.{set_by, signature_by, hyps_by}
use Rattle.sx_rules.specs.Limits.{most_levels}

-- A derivation of the judgement, from the hypotheses, stands in the list from the number on. Its
-- terms are good, and what it is lowered to is not too deep where it is needed.
pub record CanReadDerivation (l : Reading) (at : ℕ) (is_needed : Bool) (j : Judgement) (p : Proof) :
    Type 0 where
  pub stands : StandsIn l.listing at p
  pub derives : Derives (extended_rules (set_by l)) (hyps_by l) j p
  pub binds : HasShallowBinds p
  pub fit : BindsFit (set_by l).table p
  pub low : is_needed ≡ true → lowered_height (set_by l) p ≤ most_levels

-- the terms with these numbers are the inputs of the judgement
abbrev pub AreInputs : Reading → List Tree → List ℕ → Judgement → Type 0
AreInputs l terms numbers j =
    map (tree_at terms) numbers ≡ inputs_of (signature_by l).modes j

-- the error tells the first measured term that passes a limit, or out of memory;
-- where the derivation is not needed, out of memory alone
abbrev pub IsReadRefused : Reading → Bool → Proof → RewriteError → Type 0
IsReadRefused l is_needed p e =
    (is_needed ≡ true → IsLoweringRefused (set_by l) (signature_by l).subjects (hyps_by l) p e)
    × (is_needed ≡ false → e ≡ Memory)

-- the outputs of the judgement stand at the numbers, and where the derivation is needed it is read;
-- or it is refused
abbrev pub IsDerivationRead : Reading → List Tree → Bool → Judgement → Proof →
    Result Read RewriteError →
    Type 0
IsDerivationRead l terms is_needed j p (Ok r) =
    AreBelow (length terms) r.outputs.items
    × (map (tree_at terms) r.outputs.items ≡ outputs_of (signature_by l).modes j)
    × (is_needed ≡ true →
    IsKidRead (set_by l) (signature_by l).subjects (hyps_by l) terms p r.subject)
IsDerivationRead l terms is_needed j p (Err e) = IsReadRefused l is_needed p e
