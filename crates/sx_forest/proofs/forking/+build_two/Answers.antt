use Rattle.std.proofs.Common.{rules, ◌≡◌, IfOk, sym, subst, ap, length, arith, add-one}
use Rattle.std.proofs.lemmas.Option.{slice_get_within}
use Rattle.sx_grammar.specs.Grammar.{production_of, part}
use Rattle.sx_forest.specs.Readings.{plain_reading, plain_readings}
use Rattle.sx_forest.specs.Tallies.{tally_of}
use Rattle.sx_forest.specs.Forests.{grammar_in, tokens_in, symbols_of, depth_in, one_of, other_of}
use Rattle.sx_forest.specs.Forests.{IsBy, IsMore, IsApart, IsShallowEntry, IsParting, IsReadTo}
use Rattle.sx_forest.specs.Forests.{HasKids, IsReadingMade}
use Rattle.sx_forest.proofs.Stepwise.{count_long}
use Rattle.sx_forest.proofs.Making.{made_same}
use Rattle.sx_forest.proofs.Growing.{place_low, begun, kids_are, made_as}
use Rattle.sx_forest.proofs.Branching.{both_ok, more_first, more_last, fork_parting, there_less, over_there, rows_apart}
use Rattle.sx_forest.proofs.Parting.{pair_apart, one_variable}
use Rattle.sx_forest.proofs.forking.+build_two.Goals as goal

pub build_two-kids_apart-requires : goal.build_two-kids_apart-requires
build_two-kids_apart-requires t c =
    let o = c.in_ok-opened-in-By.opened in
    let opened = c.in_ok-opened-in-By.ensures.opened in
    let same = c.in_ok-opened-in-By.ensures.same in
    let more : IsMore (tally_of o.ways) = subst (λ w. IsMore (tally_of w)) (sym same.3) c.requires.more in
    let deep : depth_in (tally_of o.ways) ≡ depth_in (tally_of c.args.entry.ways) = ap (λ w. depth_in (tally_of w)) same.3 in
    (search rules, (c.requires.forest, (opened, (more, (c.new-one.ensures.items, c.new-other.ensures.items)))))

pub build_two-unreachable-requires : goal.build_two-unreachable-requires
build_two-unreachable-requires t c =
    let F = c.args.forest in
    one_variable (grammar_in F) (tokens_in F) F.start c.args.from c.args.entry.to _ c.args.entry.maker (tally_of c.args.entry.ways) c.in-Variable.is c.requires.entry.sound c.requires.more

pub build_two-wrap-requires : goal.build_two-wrap-requires
build_two-wrap-requires t c =
    let o = c.in_ok-opened-in-By.opened in
    subst (λ h. HasKids h (plain_readings c.kids_apart.new.one.items)) c.in_ok-opened-in-By.ensures.same.0
    (kids_are c.args.forest c.requires.forest o c.in_ok-opened-in-By.ensures.opened (plain_readings c.kids_apart.new.one.items) c.in_ok-kids_apart-in-By.ensures.one_read)

pub build_two-wrap-requires-in-By : goal.build_two-wrap-requires-in-By
build_two-wrap-requires-in-By t c =
    let o = c.in_ok-opened-in-By.opened in
    subst (λ h. HasKids h (plain_readings c.kids_apart.new.other.items)) c.in_ok-opened-in-By.ensures.same.0
    (kids_are c.args.forest c.requires.forest o c.in_ok-opened-in-By.ensures.opened (plain_readings c.kids_apart.new.other.items) c.in_ok-kids_apart-in-By.ensures.other_read)

pub build_two-returns-clause-one : goal.build_two-returns-clause-one
build_two-returns-clause-one t c =
    let o = c.in_ok-opened-in-By.opened in let same = c.in_ok-opened-in-By.ensures.same in
    made_as c.args.forest c.requires.forest o c.in_ok-opened-in-By.ensures.opened c.in-By.head c.args.from c.args.entry.to c.args.entry.maker same.0 same.1 same.2 c.in-By.is
    (plain_readings c.kids_apart.new.one.items) (plain_reading c.in_ok-first-in-By.first) c.in_ok-kids_apart-in-By.ensures.one_read c.in_ok-first-in-By.ensures

pub build_two-returns-clause-other : goal.build_two-returns-clause-other
build_two-returns-clause-other t c =
    let o = c.in_ok-opened-in-By.opened in let same = c.in_ok-opened-in-By.ensures.same in
    made_as c.args.forest c.requires.forest o c.in_ok-opened-in-By.ensures.opened c.in-By.head c.args.from c.args.entry.to c.args.entry.maker same.0 same.1 same.2 c.in-By.is
    (plain_readings c.kids_apart.new.other.items) (plain_reading c.in_ok-second-in-By.second) c.in_ok-kids_apart-in-By.ensures.other_read c.in_ok-second-in-By.ensures

pub build_two-returns-clause-apart : goal.build_two-returns-clause-apart
build_two-returns-clause-apart t c = λ same.
    let ks = plain_readings c.kids_apart.new.one.items in let ls = plain_readings c.kids_apart.new.other.items in
    c.in_ok-kids_apart-in-By.ensures.apart
    (made_same c.in-By.head ks ls c.args.from c.args.entry.to (plain_reading c.in_ok-second-in-By.second)
    (subst (λ r. IsReadingMade c.in-By.head ks c.args.from c.args.entry.to r) same c.in_ok-first-in-By.ensures) c.in_ok-second-in-By.ensures)

pub kids_apart-loop-dot-init : goal.kids_apart-loop-dot-init
kids_apart-loop-dot-init t c =
    let F = c.args.forest in let o = c.args.opened.now in
    let first = begun F c.requires.forest o c.requires.opened in
    record {
      one = subst (λ k. IsReadTo (grammar_in F) (tokens_in F) F.start o 0 o.from k) (sym (ap plain_readings c.requires.one)) first;
      other = subst (λ k. IsReadTo (grammar_in F) (tokens_in F) F.start o 0 o.from k) (sym (ap plain_readings c.requires.other)) first;
      more = more_first F c.requires.forest o c.requires.opened c.requires.more first.at;
      within = omega arith;
    }

pub kids_apart-loop-dot-preserved : goal.kids_apart-loop-dot-preserved
kids_apart-loop-dot-preserved t c =
    let F = c.args.forest in let o = c.args.opened.now in
    let count = count_long (production_of (grammar_in F) o.head) in
    record {
      one = rw (c.end-place.ensures, add-one c.loop-dot.dot) c.in_ok-go_over.ensures.read;
      other = rw (c.end-place.ensures, add-one c.loop-dot.dot) c.in_ok-go_over-2.ensures.read;
      more = rw (c.end-place.ensures, add-one c.loop-dot.dot) (c.fork_at.ensures.on c.in_default.is c.loop-dot.invariant.more);
      within = (let h = c.symbol_count-dot-end.ensures in omega (arith, c.loop-dot-test.true, h, count));
    }

pub kids_apart-unreachable-requires : goal.kids_apart-unreachable-requires
kids_apart-unreachable-requires t c =
    let F = c.args.forest in let o = c.args.opened.now in
    let count = count_long (production_of (grammar_in F) o.head) in
    let h = c.symbol_count-dot-end.ensures in
    let w = c.loop-dot.invariant.within in
    let end : c.loop-dot.dot ≡ length (symbols_of (grammar_in F) o.head) = omega (arith, c.loop-dot-test.false, h, count, w) in
    more_last F c.requires.forest o c.requires.opened c.loop-dot.dot c.loop-dot.place end c.loop-dot.invariant.one.at c.loop-dot.invariant.more

pub kids_apart-end-place-requires : goal.kids_apart-end-place-requires
kids_apart-end-place-requires t c = place_low c.args.forest c.requires.forest c.args.opened.now c.requires.opened c.loop-dot.dot c.loop-dot.place c.loop-dot.invariant.one.at

pub kids_apart-part-requires : goal.kids_apart-part-requires
kids_apart-part-requires t c =
    (search rules, (c.requires.forest, (c.requires.opened, (c.loop-dot.invariant.one, (c.loop-dot.invariant.other, c.in-Some.ensures.fork)))))

pub part-pair_at-requires : goal.part-pair_at-requires
part-pair_at-requires t c =
    let F = c.args.forest in let o = c.args.here.opened.now in let k = c.requires.fork in
    let parting = fork_parting F c.requires.forest o c.requires.opened c.args.here.dot c.args.here.place c.args.fork (plain_readings c.args.one.now.items) c.requires.one k in
    let less = there_less F c.requires.forest o c.requires.opened c.args.here.dot c.args.here.place k.sort k.least (one_of c.args.fork) (plain_readings c.args.one.now.items) k.symbol k.one c.requires.one in
    (search rules, (c.requires.forest, parting))

pub part-extend-requires : goal.part-extend-requires
part-extend-requires t c =
    let F = c.args.forest in let o = c.args.here.opened.now in let k = c.requires.fork in
    let low = slice_get_within (symbols_of (grammar_in F) o.head) c.args.here.dot (part k.sort k.least) k.symbol in
    record {
      forest = c.requires.forest;
      opened = c.requires.opened;
      read = rw (ap (λ e. e.to) c.one.ensures, add-one c.args.here.dot)
          (over_there F c.requires.forest o c.requires.opened c.args.here.dot c.args.here.place k.sort k.least (one_of c.args.fork) c.args.one.now.items c.push.new.self.items c.in_ok-first.first
          k.symbol k.one c.requires.one c.in_ok-first.ensures.one c.in_ok-push.ensures.items);
      within = omega (arith, low);
    }

pub part-extend-requires-2-clause-read : goal.part-extend-requires-2-clause-read
part-extend-requires-2-clause-read t c =
    let F = c.args.forest in let o = c.args.here.opened.now in let k = c.requires.fork in
    rw (ap (λ e. e.to) c.other.ensures, add-one c.args.here.dot)
    (over_there F c.requires.forest o c.requires.opened c.args.here.dot c.args.here.place k.sort k.least (other_of c.args.fork) c.args.other.now.items c.push-2.new.self.items c.in_ok-first.second
    k.symbol k.other c.requires.other c.in_ok-first.ensures.other c.in_ok-push-2.ensures.items)

pub part-extend-requires-2-clause-within : goal.part-extend-requires-2-clause-within
part-extend-requires-2-clause-within t c =
    let k = c.requires.fork in
    let low = slice_get_within (symbols_of (grammar_in c.args.forest) c.args.here.opened.now.head) c.args.here.dot (part k.sort k.least) k.symbol in
    omega (arith, low)

pub part-returns : goal.part-returns
part-returns t c =
    let F = c.args.forest in let o = c.args.here.opened.now in
    both_ok c.extend-2.result
    (λ read behind. record {
      one_read = c.in_ok-extend.ensures.read;
      other_read = read;
      apart = rows_apart F c.requires.forest o c.requires.opened c.args.here.dot c.args.here.place c.args.one.now.items c.args.other.now.items c.in_ok-first.first c.in_ok-first.second
          c.push.new.self.items c.push-2.new.self.items c.extend.new.kids.items c.extend-2.new.kids.items c.requires.one c.requires.other c.in_ok-first.ensures.apart
          c.in_ok-push.ensures.items c.in_ok-push-2.ensures.items c.in_ok-extend.ensures.behind behind;
    }) c.extend-2.ensures.read c.extend-2.ensures.behind

pub pair_at-build_two-requires : goal.pair_at-build_two-requires
pair_at-build_two-requires t c =
    let F = c.args.forest in
    let shallow : IsShallowEntry (grammar_in F) (tokens_in F) F.start c.args.place c.in-Inside.entry = subst (λ k. IsShallowEntry (grammar_in F) (tokens_in F) F.start c.args.place (one_of k)) c.in-Inside.is c.requires.parting.one in
    let more : IsMore (tally_of c.in-Inside.entry.ways) = subst (λ k. IsApart k) c.in-Inside.is c.requires.parting.apart in
    let deep : depth_in (tally_of (one_of c.args.fork).ways) ≡ depth_in (tally_of c.in-Inside.entry.ways) = ap (λ k. depth_in (tally_of (one_of k).ways)) c.in-Inside.is in
    (search rules, (c.requires.forest, (shallow, more)))

pub pair_at-returns-in_ok-second-in-Apart-clause-apart : goal.pair_at-returns-in_ok-second-in-Apart-clause-apart
pair_at-returns-in_ok-second-in-Apart-clause-apart t c =
    let F = c.args.forest in
    pair_apart (grammar_in F) (tokens_in F) F.start c.args.place c.in-Apart.one c.in-Apart.other (plain_reading c.in_ok-first-in-Apart.first) (plain_reading c.in_ok-second-in-Apart.second)
    (subst (λ k. IsParting (grammar_in F) (tokens_in F) F.start c.args.place k) c.in-Apart.is c.requires.parting) c.in_ok-first-in-Apart.ensures c.in_ok-second-in-Apart.ensures

pub build_two-open-requires : goal.build_two-open-requires
build_two-open-requires t c = record { forest = c.requires.forest; entry = c.requires.entry; by = c.in-By.is }

pub kids_apart-step_at-step-requires-clause-at : goal.kids_apart-step_at-step-requires-clause-at
kids_apart-step_at-step-requires-clause-at t c = c.loop-dot.invariant.one.at

pub kids_apart-step_at-step-requires-clause-within : goal.kids_apart-step_at-step-requires-clause-within
kids_apart-step_at-step-requires-clause-within t c =
    let count = count_long (production_of (grammar_in c.args.forest) c.args.opened.now.head) in
    let h = c.symbol_count-dot-end.ensures in
    omega (arith, c.loop-dot-test.true, h, count)

pub kids_apart-fork_at-requires-clause-step : goal.kids_apart-fork_at-requires-clause-step
kids_apart-fork_at-requires-clause-step t c = c.step_at-step.ensures

pub kids_apart-go_over-requires : goal.kids_apart-go_over-requires
kids_apart-go_over-requires t c = record { forest = c.requires.forest; opened = c.requires.opened; read = c.loop-dot.invariant.one; step = c.step_at-step.ensures }

pub kids_apart-go_over-requires-in-loop-dot : goal.kids_apart-go_over-requires-in-loop-dot
kids_apart-go_over-requires-in-loop-dot t c = record { forest = c.requires.forest; opened = c.requires.opened; read = c.loop-dot.invariant.other; step = c.step_at-step.ensures }

pub pair_at-build-requires : goal.pair_at-build-requires
pair_at-build-requires t c =
    let F = c.args.forest in record {
      forest = c.requires.forest;
      entry = subst (λ k. IsShallowEntry (grammar_in F) (tokens_in F) F.start c.args.place (one_of k)) c.in-Apart.is c.requires.parting.one;
    }

pub pair_at-build-requires-in-Apart : goal.pair_at-build-requires-in-Apart
pair_at-build-requires-in-Apart t c =
    let F = c.args.forest in record {
      forest = c.requires.forest;
      entry = subst (λ k. IsShallowEntry (grammar_in F) (tokens_in F) F.start c.args.place (other_of k)) c.in-Apart.is c.requires.parting.other;
    }

pub pair_at-returns-in_ok-second-in-Apart-clause-one : goal.pair_at-returns-in_ok-second-in-Apart-clause-one
pair_at-returns-in_ok-second-in-Apart-clause-one t c =
    let F = c.args.forest in
    subst (λ k. IsBy (grammar_in F) (tokens_in F) (one_of k).maker c.args.place (one_of k).to (plain_reading c.in_ok-first-in-Apart.first)) (sym c.in-Apart.is) c.in_ok-first-in-Apart.ensures

pub pair_at-returns-in_ok-second-in-Apart-clause-other : goal.pair_at-returns-in_ok-second-in-Apart-clause-other
pair_at-returns-in_ok-second-in-Apart-clause-other t c =
    let F = c.args.forest in
    subst (λ k. IsBy (grammar_in F) (tokens_in F) (other_of k).maker c.args.place (other_of k).to (plain_reading c.in_ok-second-in-Apart.second)) (sym c.in-Apart.is) c.in_ok-second-in-Apart.ensures

pub pair_at-returns-in-Inside-clause-one : goal.pair_at-returns-in-Inside-clause-one
pair_at-returns-in-Inside-clause-one t c =
    let F = c.args.forest in
    subst (λ k. IfOk c.build_two.result (λ r. IsBy (grammar_in F) (tokens_in F) (one_of k).maker c.args.place (one_of k).to (plain_reading r.0))) (sym c.in-Inside.is) c.build_two.ensures.one

pub pair_at-returns-in-Inside-clause-other : goal.pair_at-returns-in-Inside-clause-other
pair_at-returns-in-Inside-clause-other t c =
    let F = c.args.forest in
    subst (λ k. IfOk c.build_two.result (λ r. IsBy (grammar_in F) (tokens_in F) (other_of k).maker c.args.place (other_of k).to (plain_reading r.1))) (sym c.in-Inside.is) c.build_two.ensures.other
