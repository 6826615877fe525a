use Rattle.std.proofs.Common.{rules, ◌≡◌, sym, subst, ap, length, arith, add-one}
use Rattle.std.proofs.lemmas.Result.{IfOk-weaker}
use Rattle.sx_grammar.specs.Grammar.{production_of}
use Rattle.sx_grammar.specs.Items.{Span}
use Rattle.sx_forest.specs.declared.step.Step.TheVariants as steps
use Rattle.sx_forest.specs.Readings.{plain_reading, plain_readings}
use Rattle.sx_forest.specs.Tallies.{tally_of}
use Rattle.sx_forest.specs.Table.{CountsReadings}
use Rattle.sx_forest.specs.Forests.{grammar_in, tokens_in, lists_in, symbols_of, depth_in, IsReadTo}
use Rattle.sx_forest.specs.Forests.{IsItemStep, HasKids, IsBy, IsReadingMade}
use Rattle.sx_forest.proofs.Stepwise.{count_long}
use Rattle.sx_forest.proofs.Singles.{kids_alone, made_alone}
use Rattle.sx_forest.proofs.Growing.{none_behind, one_behind, twice_behind, place_low, entry_shallow, entry_less, over_literal, over_token, over_part, begun, finished, kids_are, made_as}
use Rattle.sx_forest.proofs.building.+build.Goals as goal

pub build-wrap-requires : goal.build-wrap-requires
build-wrap-requires t c =
    let F = c.args.forest in let e = c.args.entry in let head = c.in-By.head in
    let span : Span (grammar_in F) (tokens_in F) F.start head c.args.from e.to =
    (subst (λ m. CountsReadings (grammar_in F) (tokens_in F) F.start m c.args.from e.to (tally_of e.ways)) c.in-By.is c.requires.entry.sound).0 in
    kids_alone (grammar_in F) (tokens_in F) F.start head c.args.from e.to span (plain_readings c.read_alone.new.kids.items) (c.in_ok-read_alone-in-By.ensures.yes c.if-branch.true e.to span)

pub build-returns-then-branch : goal.build-returns-then-branch
build-returns-then-branch t c =
    let F = c.args.forest in let e = c.args.entry in let head = c.in-By.head in let kids = plain_readings c.read_alone.new.kids.items in
    let span : Span (grammar_in F) (tokens_in F) F.start head c.args.from e.to =
    (subst (λ m. CountsReadings (grammar_in F) (tokens_in F) F.start m c.args.from e.to (tally_of e.ways)) c.in-By.is c.requires.entry.sound).0 in
    IfOk-weaker c.wrap.result (λ r. IsReadingMade head kids c.args.from e.to (plain_reading r))
    (λ r. IsBy (grammar_in F) (tokens_in F) e.maker c.args.from e.to (plain_reading r))
    (λ r made. subst (λ m. IsBy (grammar_in F) (tokens_in F) m c.args.from e.to (plain_reading r)) (sym c.in-By.is)
    (made_alone (grammar_in F) (tokens_in F) F.start head c.args.from e.to span kids (plain_reading r) (c.in_ok-read_alone-in-By.ensures.yes c.if-branch.true e.to span) made))
    c.wrap.ensures

pub build-extend-requires : goal.build-extend-requires
build-extend-requires t c =
    let F = c.args.forest in let o = c.in_ok-opened-in-By.opened in
    let opened = c.in_ok-opened-in-By.ensures.opened in
    let same = c.in_ok-opened-in-By.ensures.same in
    let empty = ap plain_readings (c.in_ok-read_alone-in-By.ensures.no c.if-branch.false) in
    let read : IsReadTo (grammar_in F) (tokens_in F) F.start o 0 c.args.from (plain_readings c.read_alone.new.kids.items) =
    subst (λ p. IsReadTo (grammar_in F) (tokens_in F) F.start o 0 p (plain_readings c.read_alone.new.kids.items)) same.1
    (subst (λ k. IsReadTo (grammar_in F) (tokens_in F) F.start o 0 o.from k) (sym empty) (begun F c.requires.forest o opened)) in
    let deep : depth_in (tally_of o.ways) ≡ depth_in (tally_of c.args.entry.ways) = ap (λ w. depth_in (tally_of w)) same.3 in
    (search rules, (c.requires.forest, (opened, (read, omega arith))))

pub build-wrap-requires-in-By : goal.build-wrap-requires-in-By
build-wrap-requires-in-By t c =
    let F = c.args.forest in let o = c.in_ok-opened-in-By.opened in
    let same = c.in_ok-opened-in-By.ensures.same in
    subst (λ h. HasKids h (plain_readings c.extend.new.kids.items)) same.0
    (kids_are F c.requires.forest o c.in_ok-opened-in-By.ensures.opened (plain_readings c.extend.new.kids.items) c.in_ok-extend-in-By.ensures.read)

pub build-returns-in_ok-extend-in-By : goal.build-returns-in_ok-extend-in-By
build-returns-in_ok-extend-in-By t c =
    let F = c.args.forest in let o = c.in_ok-opened-in-By.opened in
    let same = c.in_ok-opened-in-By.ensures.same in
    let kids = plain_readings c.extend.new.kids.items in
    IfOk-weaker c.wrap-in-By.result (λ r. IsReadingMade c.in-By.head kids c.args.from c.args.entry.to (plain_reading r))
    (λ r. IsBy (grammar_in F) (tokens_in F) c.args.entry.maker c.args.from c.args.entry.to (plain_reading r))
    (λ r made. made_as F c.requires.forest o c.in_ok-opened-in-By.ensures.opened c.in-By.head c.args.from c.args.entry.to c.args.entry.maker same.0 same.1 same.2 c.in-By.is kids (plain_reading r) c.in_ok-extend-in-By.ensures.read made)
    c.wrap-in-By.ensures

pub extend-loop-next-init : goal.extend-loop-next-init
extend-loop-next-init t c = record { read = c.requires.read; within = c.requires.within; behind = none_behind c.args.kids.now.items }

pub extend-end-here-requires : goal.extend-end-here-requires
extend-end-here-requires t c = place_low c.args.forest c.requires.forest c.args.opened.now c.requires.opened c.loop-next.next c.loop-next.here c.loop-next.invariant.read.at

pub extend-loop-next-preserved : goal.extend-loop-next-preserved
extend-loop-next-preserved t c =
    let F = c.args.forest in let o = c.args.opened.now in
    let count = count_long (production_of (grammar_in F) o.head) in
    let read = c.in_ok-go_over.ensures.read in
    record {
      read = rw (c.end-here.ensures, add-one c.loop-next.next) read;
      within = (let h = c.symbol_count-next-end.ensures in omega (arith, c.loop-next-test.true, h, count));
      behind = twice_behind c.args.kids.now.items c.loop-next.kids.items c.go_over.new.kids.items c.loop-next.invariant.behind c.in_ok-go_over.ensures.behind;
    }

pub extend-returns-clause-read : goal.extend-returns-clause-read
extend-returns-clause-read t c =
    let F = c.args.forest in let o = c.args.opened.now in
    let count = count_long (production_of (grammar_in F) o.head) in
    let h = c.symbol_count-next-end.ensures in
    let w = c.loop-next.invariant.within in
    let end : c.loop-next.next ≡ length (symbols_of (grammar_in F) o.head) = omega (arith, c.loop-next-test.false, h, count, w) in
    finished F c.requires.forest o c.requires.opened c.loop-next.next c.loop-next.here (plain_readings c.loop-next.kids.items) end c.loop-next.invariant.read

pub go_over-build-requires : goal.go_over-build-requires
go_over-build-requires t c =
    let F = c.args.forest in let o = c.args.here.opened.now in
    let step : IsItemStep (grammar_in F) (tokens_in F) F.start (lists_in F) o c.args.here.dot c.args.here.place (steps.Part c.in-Part.field-0 c.in-Part.entry) =
    subst (λ s. IsItemStep (grammar_in F) (tokens_in F) F.start (lists_in F) o c.args.here.dot c.args.here.place s) c.in-Part.is c.requires.step in
    let shallow = entry_shallow F c.requires.forest o c.requires.opened c.args.here.dot c.args.here.place c.in-Part.field-0 c.in-Part.entry (plain_readings c.args.kids.now.items) c.requires.read step in
    let less = entry_less F c.requires.forest o c.requires.opened c.args.here.dot c.args.here.place c.in-Part.field-0 c.in-Part.entry (plain_readings c.args.kids.now.items) c.requires.read step in
    (search rules, (c.requires.forest, shallow))

pub go_over-returns-in-Literal-clause-read : goal.go_over-returns-in-Literal-clause-read
go_over-returns-in-Literal-clause-read t c =
    over_literal c.args.forest c.requires.forest c.args.here.opened.now c.requires.opened c.args.here.dot c.args.here.place c.args.step (plain_readings c.args.kids.now.items) c.in-Literal.is c.requires.read c.requires.step

pub go_over-returns-in-Literal-clause-behind : goal.go_over-returns-in-Literal-clause-behind
go_over-returns-in-Literal-clause-behind t c = none_behind c.args.kids.now.items

pub go_over-returns-in_ok-push-in-Token-clause-read : goal.go_over-returns-in_ok-push-in-Token-clause-read
go_over-returns-in_ok-push-in-Token-clause-read t c =
    over_token c.args.forest c.requires.forest c.args.here.opened.now c.requires.opened c.args.here.dot c.args.here.place c.args.step c.args.kids.now.items c.push.new.self.items c.token_reading.result
    c.in-Token.is c.requires.read c.requires.step (c.token_reading.ensures c.args.forest.grammar.now) c.in_ok-push-in-Token.ensures.items

pub go_over-returns-in_ok-push-in-Token-clause-behind : goal.go_over-returns-in_ok-push-in-Token-clause-behind
go_over-returns-in_ok-push-in-Token-clause-behind t c = one_behind c.args.kids.now.items c.push.new.self.items c.token_reading.result c.in_ok-push-in-Token.ensures.items

pub go_over-returns-in_ok-push-in-Part-clause-read : goal.go_over-returns-in_ok-push-in-Part-clause-read
go_over-returns-in_ok-push-in-Part-clause-read t c =
    over_part c.args.forest c.requires.forest c.args.here.opened.now c.requires.opened c.args.here.dot c.args.here.place c.in-Part.field-0 c.in-Part.entry c.args.step c.args.kids.now.items c.push-in-Part.new.self.items c.in_ok-kid-in-Part.kid
    c.in-Part.is c.requires.read c.requires.step c.in_ok-kid-in-Part.ensures c.in_ok-push-in-Part.ensures.items

pub go_over-returns-in_ok-push-in-Part-clause-behind : goal.go_over-returns-in_ok-push-in-Part-clause-behind
go_over-returns-in_ok-push-in-Part-clause-behind t c = one_behind c.args.kids.now.items c.push-in-Part.new.self.items c.in_ok-kid-in-Part.kid c.in_ok-push-in-Part.ensures.items
