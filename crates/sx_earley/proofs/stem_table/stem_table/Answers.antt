use Rattle.std.proofs.Common.{◌≡◌, ◌∙◌, ◌+◌, ◌-◌, ◌<◌, sym, ap, cond, Some, length, drop, arith}
use Rattle.std.specs.Str.{bytes_eq}
use Rattle.std.specs.HashMap.{get_by}
use Rattle.std.proofs.lemmas.Map.Text.{hash_map_updates_str}
use Rattle.sx_earley.specs.Tokens.{stem_sort}
use Rattle.sx_earley.proofs.StemLaws.{stem_first}
use Rattle.sx_earley.proofs.stem_table.stem_table.Goals as goal

pub loop-left-preserved : goal.loop-left-preserved
loop-left-preserved c =
    let xs = c.args.metas.now.stems.items in
    let s = c.index-stem.result.now in
    let low : c.loop-left.left - 1 < length xs = omega arith in
    let back : c.loop-left.left - 1 + 1 ≡ c.loop-left.left = omega arith in
    record {
      within = omega arith;
      known = stem_first xs (c.loop-left.left - 1) s (λ t. get_by (λ k. bytes_eq t k.now) c.loop-left.sorts) (λ t. get_by (λ k. bytes_eq t k.now) c.insert.new.self) low c.index-stem.ensures
          (λ t. c.loop-left.invariant.known t ∙ ap (λ n. stem_sort (drop n xs) t) (sym back))
          (λ t. hash_map_updates_str c.bytes.result.now c.loop-left.sorts c.insert.new.self _ c.in_ok-insert.ensures.updates t
          ∙ ap (λ k. cond (bytes_eq k t) (Some s.1) (get_by (λ k. bytes_eq t k.now) c.loop-left.sorts)) c.bytes.ensures.value);
    }
