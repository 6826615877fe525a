use Rattle.std.proofs.Common.{◌≡◌, ℕ, zero, suc, ◌<◌, get_or, length, take, List, [], ◌∷◌, refl, sym, subst, add-one, arith}
use Rattle.std.specs.List.{AllByRecursion}
use Rattle.std.proofs.lemmas.Option.{slice_get_read}
use Rattle.sx_token.specs.declared.token.Token.{Token}
use Rattle.sx_earley.specs.Unknown.{HasKnownStem}
use Rattle.sx_earley.proofs.stems.first_unknown_of.Goals as goal

all_more : (P : Token → Type 0) (xs : List Token) (i : ℕ) (x : Token) → i < length xs → x ≡ get_or xs i x → AllByRecursion P (take i xs) → P x → AllByRecursion P (take (suc i) xs)
all_more P [] i x lt at all one = absurd (omega (arith, lt))
all_more P (y ∷ ys) zero x lt at all one = (subst P at one, tt)
all_more P (y ∷ ys) (suc i) x lt at all one = (all.0, all_more P ys i x (omega (arith, lt)) at all.1 one)

pub returns-then-not-knows : goal.returns-then-not-knows
returns-then-not-knows c = λ stems is. (
  c.loop-i.invariant stems is,
  (
    c.index-tokens-i.result,
    slice_get_read c.args.tokens.now (length c.args.tokens.now) c.loop-i.i c.index-tokens-i.result refl c.loop-i-test.true c.index-tokens-i.is,
    c.knows.ensures.not stems is c.if-not-knows.true,
  ),
)

pub loop-i-preserved : goal.loop-i-preserved
loop-i-preserved c = λ stems is.
    subst (λ n. AllByRecursion (HasKnownStem stems) (take n c.args.tokens.now)) (sym (add-one c.loop-i.i))
    (all_more (HasKnownStem stems) c.args.tokens.now c.loop-i.i c.index-tokens-i.result c.loop-i-test.true c.index-tokens-i.is (c.loop-i.invariant stems is)
    (c.knows.ensures.yes stems is c.if-not-knows.false))
