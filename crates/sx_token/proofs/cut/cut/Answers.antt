use Rattle.std.proofs.Common.{◌-◌, length, ap, sym, refl, subst, length-drop, arith}
use Rattle.std.proofs.lemmas.List.{length-map}
use Rattle.sx_term.specs.Cutting.{Piece}
use Rattle.sx_token.specs.Tokens.{pieces, piece_of}
use Rattle.sx_token.proofs.CutLemmas.{CutBefore, cut_none, cut_skip, cut_token, cut_many}
use Rattle.sx_token.proofs.cut.cut.Goals as goal

pub loop-rest-init : goal.loop-rest-init
loop-rest-init c = subst (λ ts. CutBefore c.args.table.now.literals.now c.args.metas c.args.text.now (pieces ts) c.args.text.now) (sym c.new-out.ensures.items) (cut_none _ c.args.metas c.args.text.now c.utf8.text)

pub loop-rest-preserved-in-Skip : goal.loop-rest-preserved-in-Skip
loop-rest-preserved-in-Skip c = cut_skip _ c.args.metas c.args.text.now _ c.loop-rest.rest.now c.split_at.result.1.now c.in-Skip.len c.loop-rest.invariant c.in-Skip.ensures c.split_at.ensures.back

pub returns-then-len-eq-MOST_TOKENS : goal.returns-then-len-eq-MOST_TOKENS
returns-then-len-eq-MOST_TOKENS c =
    let rest = c.loop-rest.rest.now in
    let stands = c.in-Token.ensures in (
      c.utf8.text,
      cut_many _ c.args.metas c.args.text.now (pieces c.loop-rest.out.items) rest c.in-Token.mark c.in-Token.len c.loop-rest.invariant stands
          (omega (arith, length-map c.loop-rest.out.items piece_of, c.len.ensures, c.if-len-eq-MOST_TOKENS.true, c.loop-rest.out.ok.0)),
    )

pub loop-rest-preserved : goal.loop-rest-preserved
loop-rest-preserved c =
    let rest = c.loop-rest.rest.now in
    let after = c.split_at-in-Token.result.1.now in
    let stands = c.in-Token.ensures in
    let t : Piece = record { mark = c.in-Token.mark; text = c.split_at-in-Token.result.0.now; from = length c.args.text.now - length rest; to = length c.args.text.now - length after } in
    cut_token _ c.args.metas c.args.text.now (pieces c.loop-rest.out.items) (pieces c.push_token.new.out.items) rest after t c.in-Token.len c.loop-rest.invariant stands
    c.split_at-in-Token.ensures.front c.split_at-in-Token.ensures.back refl refl
    (λ full. absurd (omega (arith, length-map c.loop-rest.out.items piece_of, c.len.ensures, c.if-len-eq-MOST_TOKENS.false, c.loop-rest.out.ok.0, full)))
    c.in-Ok.ensures.ok

pub split_at-requires : goal.split_at-requires
split_at-requires c = c.in-Skip.ensures.0.1

pub loop-rest-smaller-in-Skip : goal.loop-rest-smaller-in-Skip
loop-rest-smaller-in-Skip c =
    omega (arith, c.in-Skip.ensures.0.0, c.in-Skip.ensures.0.1.0, ap length c.split_at.ensures.back, length-drop c.in-Skip.len c.loop-rest.rest.now)

pub split_at-requires-in-Token : goal.split_at-requires-in-Token
split_at-requires-in-Token c = c.in-Token.ensures.0.1

pub loop-rest-smaller : goal.loop-rest-smaller
loop-rest-smaller c =
    omega (arith, c.in-Token.ensures.0.0, c.in-Token.ensures.0.1.0, ap length c.split_at-in-Token.ensures.back, length-drop c.in-Token.len c.loop-rest.rest.now)

pub returns-in-Open : goal.returns-in-Open
returns-in-Open c = record {
  utf8 = c.utf8.text;
  before = pieces c.loop-rest.out.items;
  few = c.loop-rest.invariant.few;
  rest = c.loop-rest.rest.now;
  cuts = c.loop-rest.invariant.cuts;
  at = omega (arith, c.loop-rest.invariant.fits);
  is = c.in-Open.ensures;
}

pub returns-in-Bad : goal.returns-in-Bad
returns-in-Bad c = record {
  utf8 = c.utf8.text;
  before = pieces c.loop-rest.out.items;
  few = c.loop-rest.invariant.few;
  rest = c.loop-rest.rest.now;
  cuts = c.loop-rest.invariant.cuts;
  at = omega (arith, c.loop-rest.invariant.fits);
  is = c.in-Bad.ensures;
}
