-- What holds where a function answers an error that is passed on.
use Rattle.std.proofs.Common.{◌≡◌, sym, subst}
use Rattle.std.specs.Prelude.{Result, Ok, Err, MatchResult}
use Rattle.std.specs.Result.{IsErrAnd}
use Rattle.sx_core.specs.declared.terms_row.RowError.{RowError}
use Rattle.sx_core.specs.declared.terms_row.RowError.TheVariants.{Memory}
use Rattle.sx_core.specs.Resolving.{NoCoreRowIs}

-- out of memory says nothing of a row
pub no_memory : {A B : Type 0} (r : Result A RowError) (P : A → Type 0) (Q : B → Type 0) → IsErrAnd r (λ e. e ≡ Memory) → MatchResult r P (λ e. NoCoreRowIs Q e)
no_memory (Ok x) P Q h = absurd h
no_memory (Err e) P Q h = subst (NoCoreRowIs Q) (sym h) tt
