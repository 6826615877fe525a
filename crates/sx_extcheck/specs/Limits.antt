-- Limits that a rule passes.
use Rattle.sx_rewrite.specs.declared.rewrite_error.RewriteError.{RewriteError}
use Rattle.sx_rewrite.specs.declared.rewrite_error.RewriteError.TheVariants.{
  Memory as NoMemory,
  RewriteSpent as NodesSpent,
  RewriteDeep as Deep,
  TooDeep as DeepTerm,
  TooBig as BigTerm,
}
use Rattle.sx_extcheck.specs.declared.check_error.CheckError.{CheckError}
use Rattle.sx_extcheck.specs.declared.check_error.CheckError.TheVariants.{Memory, Defect}
use Rattle.sx_extcheck.specs.declared.rule_refusal.RuleRefusal.TheVariants.{
  TooDeep,
  TooBig,
  RewriteSpent,
  RewriteDeep,
}

-- the error of a measure or of rewriting, as out of memory or as a defect
abbrev pub limit_defect : RewriteError → CheckError
limit_defect NoMemory = Memory
limit_defect (NodesSpent n) = Defect (RewriteSpent n)
limit_defect Deep = Defect RewriteDeep
limit_defect (DeepTerm n) = Defect (TooDeep n)
limit_defect (BigTerm n) = Defect (TooBig n)
