use Rattle.std.proofs.Common.{◌≡◌, ◌<◌, length, get_or, refl, sym, arith}
use Rattle.std.proofs.lemmas.Option.{slice_get_read, get_or_from_slice_get}
use Rattle.sx_language.proofs.StemLines.{stem_named, lines_more}
use Rattle.sx_language.proofs.stems.var_lines.Goals as goal

pub name_of-requires : goal.name_of-requires
name_of-requires c =
    let ss = c.args.metas.now.stems.items in
    let s = c.index-stem.result.now in
    let low : c.loop-i.i < length ss = omega (arith, c.loop-i-test.true, c.len-i-end.ensures) in
    let is : s ≡ get_or ss c.loop-i.i s = sym (get_or_from_slice_get ss c.loop-i.i s s (slice_get_read ss (length ss) c.loop-i.i s refl low c.index-stem.ensures)) in
    stem_named c.args.grammar.now.parts c.requires.0 ss c.loop-i.i s low is c.requires.1

pub loop-i-preserved : goal.loop-i-preserved
loop-i-preserved c =
    let ss = c.args.metas.now.stems.items in
    let s = c.index-stem.result.now in
    let low : c.loop-i.i < length ss = omega (arith, c.loop-i-test.true, c.len-i-end.ensures) in
    let is : s ≡ get_or ss c.loop-i.i s = sym (get_or_from_slice_get ss c.loop-i.i s s (slice_get_read ss (length ss) c.loop-i.i s refl low c.index-stem.ensures)) in
    lines_more c.args.grammar.now.parts c.loop-i.lines.items c.push.new.self.items ss c.loop-i.i s (record { stem = c.in_ok-copy.field-0; sort = c.in_ok-name_of.field-0 }) low is c.loop-i.invariant
    c.in_ok-copy.ensures c.in_ok-name_of.ensures c.in_ok-push.ensures.items
