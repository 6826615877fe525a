use Rattle.std.proofs.Common.{arith, ◌≡◌, ◌+◌, ℕ, max, ap, ◌∙◌}
use Rattle.sx_rewrite.specs.Sizes.{in_u128}
use Rattle.sx_rewrite.proofs.Tallied.{with-used}
use Rattle.sx_rewrite.proofs.lowered_tally.LoweredTally.with_kid.Goals as goal

pub returns : goal.returns
returns c = λ a p h.
    let so = c.args.self in
    let kid = c.args.kid in
    let f = c.from.ensures in
    let e = c.max.ensures in
    let high : c.max.result ≡ max so.height (c.args.given.above + kid.height) = omega arith in
    with-used a c.args.given p so kid _ c.requires.used h
    (c.saturating_add.ensures ∙ ap (λ (x : ℕ). in_u128 (so.nodes + x)) c.saturating_mul-nodes.ensures) high c.requires.near
    (c.saturating_add-3.ensures ∙ ap (λ (x : ℕ). in_u128 (x + kid.copied)) (c.saturating_add-2.ensures ∙ ap (λ (x : ℕ). in_u128 (so.copied + x)) c.saturating_mul-more.ensures))
