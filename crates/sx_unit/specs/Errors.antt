-- Refusals of rewriting as those of modules.
use Rattle.sx_rewrite.specs.declared.rewrite_error.RewriteError.{RewriteError}
use Rattle.sx_rewrite.specs.declared.rewrite_error.RewriteError.TheVariants as rewrite
use Rattle.sx_typing.specs.declared.module_error.ModuleError.{ModuleError}
use Rattle.sx_typing.specs.declared.module_error.ModuleError.TheVariants.{Memory, RewriteSpent}
use Rattle.sx_typing.specs.declared.module_error.ModuleError.TheVariants.{RewriteDeep, TooDeep}
use Rattle.sx_typing.specs.declared.module_error.ModuleError.TheVariants.{TooBig}

-- a derivation that is not lowered
abbrev pub of_rewrite : RewriteError → ModuleError
of_rewrite rewrite.Memory = Memory
of_rewrite (rewrite.RewriteSpent n) = RewriteSpent n
of_rewrite rewrite.RewriteDeep = RewriteDeep
of_rewrite (rewrite.TooDeep n) = TooDeep n
of_rewrite (rewrite.TooBig n) = TooBig n
