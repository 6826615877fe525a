-- What lowering a derivation answers.
use Rattle.std.specs.Prelude.{◌≡◌, ℕ, Result, Ok, Err}
use Rattle.sx_rules.specs.Derivations.{Proof}
use Rattle.sx_rules.specs.EntryView.{entries}
use Rattle.sx_rules.specs.Orders.{order_of}
use Rattle.sx_rules.specs.Views.{judgement, subjects_in}
use Rattle.sx_rewrite.specs.declared.rewrite_error.RewriteError.{RewriteError}
use Rattle.sx_rewrite.specs.Rewriting.{Rewritten, IsRewritten}
use Rattle.sx_rewrite.specs.RewrittenView.{IsRewriting}
use Rattle.sx_typing.specs.Dialects.{DialectData}
use Rattle.sx_rules.specs.Rules.{no_hypotheses}
use Rattle.sx_unit.specs.declared.lowering.Lowering.{Lowering}

-- the list and the judgement are those of what the derivation is lowered to with so many nodes
pub record IsLowering (d : DialectData) (p : Proof) (nodes : ℕ) (l : Lowering) : Type 0 where
  pub lowered : Rewritten
  pub rewriting : IsRewritten d.set (subjects_in d.language.forms) no_hypotheses p nodes
      (Ok lowered)
  pub judgement_is : lowered.judgement ≡ judgement l.judgement
  pub list_is : entries l.list.items ≡ order_of lowered.proof

-- or the refusal is that of rewriting it
abbrev pub IsLoweringOf : DialectData → Proof → ℕ → Result Lowering RewriteError → Type 0
IsLoweringOf d p nodes (Ok l) = IsLowering d p nodes l
IsLoweringOf d p nodes (Err e) =
    IsRewriting d.set (subjects_in d.language.forms) no_hypotheses p nodes (Err e)
