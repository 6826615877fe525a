use Rattle.std.proofs.Common.{◌≡◌, ◌<◌, Some, sym, subst, ap, ◌∙◌, length, arith}
use Rattle.std.specs.List.{slice_get}
use Rattle.sx_earley.specs.Shown.{plain, tokens_of}
use Rattle.sx_forest.specs.Useful.{IsMet, numbers_at}
use Rattle.sx_forest.proofs.Pushing.{longer_pushed}
use Rattle.sx_forest.proofs.Using.{shown_like, met_like, numbered_on, row_pushed, last_row}
use Rattle.sx_forest.proofs.levels.Levels.push.Goals as goal

pub returns-in-Some-clause-met : goal.returns-in-Some-clause-met
returns-in-Some-clause-met c =
    let d = c.args.grammar.now in let shown = c.args.shown.now in let g = plain d in let ts = tokens_of d shown in
    let numbers = c.args.self.now.numbers.items in let rows = c.args.self.now.rows.items in let n = c.in-Some.number in
    let first = c.in-Some.ensures in
    let at : slice_get numbers first.0 ≡ Some n = subst (λ l. slice_get l first.0 ≡ Some n) c.deref-2.ensures.value first.1 in
    let met = c.requires.met first.0 n at in
    numbered_on g ts rows numbers c.push.new.self.items n c.in_ok-push.ensures.items c.requires.met met.0
    (subst (λ p. IsMet g ts p (numbers_at rows n)) (sym c.requires.next) (met_like g ts first.0 c.args.place (numbers_at rows n) (shown_like d shown first.0 c.args.place first.2) met.1))

pub returns-clause-met : goal.returns-clause-met
returns-clause-met c =
    let d = c.args.grammar.now in let g = plain d in let ts = tokens_of d c.args.shown.now in
    let numbers = c.args.self.now.numbers.items in let rows = c.args.self.now.rows.items in
    let new = c.push-2.new.self.items in let v = c.in_ok-row.row in let n = c.len-number.result in
    let e = c.in_ok-push-2.ensures.items in
    let same : n ≡ length rows = omega (arith, c.len-number.ensures) in
    let low : n < length new = omega (arith, longer_pushed rows new v e, same) in
    let row : numbers_at new n ≡ v.items = ap (numbers_at new) same ∙ last_row rows new v e in
    numbered_on g ts new numbers c.push-3.new.self.items n c.in_ok-push-3.ensures.items (row_pushed g ts rows new numbers v e c.requires.met) low
    (subst (λ p. IsMet g ts p (numbers_at new n)) (sym c.requires.next) (subst (IsMet g ts c.args.place) (sym row) c.in_ok-row.ensures))
