use Rattle.std.proofs.Common.{sym, subst}
use Rattle.std.specs.Str.{IsUtf8}
use Rattle.sx_outline.proofs.StemLaws.{utf8_stem}
use Rattle.sx_outline.proofs.stems.stem_of.Goals as goal

pub unreachable-requires : goal.unreachable-requires
unreachable-requires c =
    let bytes = c.bytes.result.now in
    c.in-Err.ensures.cases.0 (subst IsUtf8 (sym c.without_digits.ensures) (utf8_stem bytes c.bytes.ensures.utf8))
