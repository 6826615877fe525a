use Rattle.std.proofs.Common.{◌≡◌, ◌++◌, ◌∙◌, ℕ, List, length, take, refl, ap}
use Rattle.std.proofs.lemmas.List.{take_at}
use Rattle.sx_lines.specs.Reading.{BeginsWith}
use Rattle.sx_lines.proofs.WriteLaws.{on_err}
use Rattle.sx_words.proofs.parts.put.Goals as goal

begins : (old more new : List ℕ) → new ≡ old ++ more → BeginsWith new old
begins old more new e = ap (take (length old)) e ∙ take_at old more (length old) refl

pub returns-in_err-extend_from_slice-clause-err : goal.returns-in_err-extend_from_slice-clause-err
returns-in_err-extend_from_slice-clause-err c =
    on_err (BeginsWith c.extend_from_slice.new.self.items c.args.into.now.items) _
    (begins c.args.into.now.items _ c.extend_from_slice.new.self.items (c.in_err-extend_from_slice.ensures.items ∙ c.loop-part.invariant))
