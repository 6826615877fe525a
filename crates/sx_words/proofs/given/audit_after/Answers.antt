use Rattle.std.proofs.Common.{ℕ, List, codes, sym, subst, arith}
use Rattle.std.specs.Str.{IsUtf8}
use Rattle.sx_lines.proofs.WordLaws.{front_of}
use Rattle.sx_lines.proofs.Utf8Laws.{utf8_cut}
use Rattle.sx_words.proofs.given.audit_after.Goals as goal

pub returns-in-Some-clause-utf8 : goal.returns-in-Some-clause-utf8
returns-in-Some-clause-utf8 c = λ u.
    let parts = front_of (codes "--audit=") c.args.word.now c.in-Some.both.now (sym c.in-Some.ensures) in
    let cut = utf8_cut (codes "--audit") c.in-Some.both.now 61 (omega arith) (subst (λ (x : List ℕ). IsUtf8 x) parts u) in
    c.at_colon.ensures.utf8 cut.1
