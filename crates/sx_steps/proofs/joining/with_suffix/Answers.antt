use Rattle.std.proofs.Common.{◌≡◌, ◌++◌, sym, subst}
use Rattle.std.specs.Str.{IsUtf8}
use Rattle.std.proofs.lemmas.Str.{IsUtf8-append}
use Rattle.sx_steps.proofs.joining.with_suffix.Goals as goal

pub of_utf8-requires : goal.of_utf8-requires
of_utf8-requires c =
    let all : c.deref.result.now ≡ c.args.text.now ++ c.args.suffix.now = cc (c.in_ok-bytes.ensures.items, c.in_ok-extend_from_slice.ensures.items) in
    subst IsUtf8 (sym all) (IsUtf8-append c.args.text.now c.args.suffix.now (subst IsUtf8 c.bytes.ensures.value c.bytes.ensures.utf8) c.utf8.suffix)
