use Rattle.std.proofs.Common.{◌≡◌, ◌++◌, sym, subst}
use Rattle.std.specs.Str.{IsUtf8}
use Rattle.std.proofs.lemmas.Str.{IsUtf8-append}
use Rattle.sx_steps.proofs.joining.joined.Goals as goal

pub of_utf8-requires : goal.of_utf8-requires
of_utf8-requires c =
    let all : c.deref.result.now ≡ c.args.text.now ++ c.args.other.now = cc (c.in_ok-bytes.ensures.items, c.in_ok-extend_from_slice.ensures.items) in
    subst IsUtf8 (sym all) (IsUtf8-append c.args.text.now c.args.other.now (subst IsUtf8 c.bytes.ensures.value c.bytes.ensures.utf8) (subst IsUtf8 c.bytes-2.ensures.value c.bytes-2.ensures.utf8))
