-- What rewriting answers, as plain data.
use Rattle.std.specs.Prelude.{◌≡◌, ℕ, Result, Ok, Err}
use Rattle.sx_rules.specs.Rules.{Hypotheses}
use Rattle.sx_rules.specs.Modes.{Modes}
use Rattle.sx_rules.specs.Derivations.{Proof}
use Rattle.sx_rules.specs.ProofView.{proof}
use Rattle.sx_rules.specs.Views.{judgement}
use Rattle.sx_rewrite.specs.declared.lowered.Lowered.{Lowered}
use Rattle.sx_rewrite.specs.declared.rewrite_error.RewriteError.{RewriteError}
use Rattle.sx_rewrite.specs.declared.rewrite_error.RewriteError.TheVariants.{Memory, RewriteSpent}
use Rattle.sx_rewrite.specs.declared.rewrite_error.RewriteError.TheVariants.{RewriteDeep, TooDeep}
use Rattle.sx_rewrite.specs.declared.rewrite_error.RewriteError.TheVariants.{TooBig}
use Rattle.sx_rewrite.specs.Accepted.{Accepted}
use Rattle.sx_rewrite.specs.Rewriting.{Rewritten, IsRewritten, spent, deep, too_deep, too_big}

-- the view of a lowered derivation
abbrev pub rewritten : Lowered → Rewritten
rewritten x =
    record { proof = proof x.proof.value; judgement = judgement x.judgement; copied = x.copied }

-- the answer is that of rewriting the derivation, or memory was lacking
abbrev pub IsRewriting : Accepted → Modes → Hypotheses → Proof → ℕ →
    Result Lowered RewriteError → Type 0
IsRewriting a subjects hyps p budget (Ok x) =
    IsRewritten a subjects hyps p budget (Ok (rewritten x))
IsRewriting a subjects hyps p budget (Err Memory) = Unit {0}
IsRewriting a subjects hyps p budget (Err (RewriteSpent nodes)) =
    (nodes ≡ budget) × IsRewritten a subjects hyps p budget (Err spent)
IsRewriting a subjects hyps p budget (Err RewriteDeep) =
    IsRewritten a subjects hyps p budget (Err deep)
IsRewriting a subjects hyps p budget (Err (TooDeep depth)) =
    IsRewritten a subjects hyps p budget (Err (too_deep depth))
IsRewriting a subjects hyps p budget (Err (TooBig nodes)) =
    IsRewritten a subjects hyps p budget (Err (too_big nodes))
