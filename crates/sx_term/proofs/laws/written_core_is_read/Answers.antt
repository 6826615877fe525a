use Rattle.std.proofs.Common.{length, subst, append_assoc}
use Rattle.sx_term.specs.Core.{core}
use Rattle.sx_term.specs.Read.{IsTermRead}
use Rattle.sx_term.proofs.ReadLaws.{written_core_is_read}
use Rattle.sx_term.proofs.laws.written_core_is_read.Goals as goal

pub returns : goal.returns
returns c before t rest read has_core shallow no_digit is_read =
    written_core_is_read before t rest read has_core shallow no_digit (subst (λ bytes. IsTermRead bytes (length before) read) (append_assoc before (core t) rest) is_read)
