use Rattle.std.proofs.Common.{◌≡◌, ◌∙◌, ◌+◌, ℕ, sym, subst, length, take, Option, Some, slice_get, inl, arith}
use Rattle.std.proofs.lemmas.Option.{slice_get_within}
use Rattle.std.proofs.lemmas.List.{take_all}
use Rattle.sx_earley.specs.Shown.{plain, tokens_of}
use Rattle.sx_earley.specs.Chart.{Treated}
use Rattle.sx_earley.specs.Dotted.{IsNextSymbol, WaitsFor}
use Rattle.sx_earley.specs.Keys.{IsKeyed}
use Rattle.sx_earley.proofs.Growth.{longer}
use Rattle.sx_earley.proofs.Asking.{asked_none}
use Rattle.sx_earley.proofs.Turning.{Turn, turn_holds, turn_busy, turn_closed, turn_filed}
use Rattle.sx_earley.proofs.Keying.{before_there, filling_there, own_is, within_on, within_longer, within_none}
use Rattle.sx_earley.proofs.Waiting.{waits_for, complete_before}
use Rattle.sx_earley.proofs.Whole.{so_far_first, so_far_on, too_many, few_enough, items_are, not_too_many}
use Rattle.sx_earley.proofs.Closing.{treated_none, ended, empty_front, nothing_in, there_at}
use Rattle.sx_earley.proofs.all_items.collect.Goals as goal

pub predict_once-requires-clause-asked : goal.predict_once-requires-clause-asked
predict_once-requires-clause-asked c =
    asked_none (plain c.args.given.grammar.now) (tokens_of c.args.given.grammar.now c.args.given.shown.now) c.args.notes.now.asked c.args.found.now c.requires.asked

pub loop-item-init : goal.loop-item-init
loop-item-init c =
    let g = plain c.args.given.grammar.now in let ts = tokens_of c.args.given.grammar.now c.args.given.shown.now in
    let keys = c.predict_once.new.found in let asks = c.predict_once.new.asked in
    record {
      few = not_too_many keys c.in_ok-idle.idle c.are_too_many.result c.are_too_many.ensures.many c.if-are_too_many.false;
      within = omega arith;
      so = so_far_first g ts c.args.start c.args.notes.now.asked asks c.args.found.now keys c.in_ok-idle.idle c.requires.asked c.requires.none
          c.in_ok-idle.ensures.only c.in_ok-idle.ensures.asked c.in_ok-idle.ensures.asks;
      closed = treated_none g ts c.args.start (take 0 keys) asks keys (empty_front keys);
      filed = λ x there. absurd (nothing_in (take 0 keys) x (empty_front keys) there);
      numbers = within_none c.args.notes.now.filed (length keys) c.requires.keys c.requires.numbers;
    }

pub returns-then-are_too_many-clause-hard : goal.returns-then-are_too_many-clause-hard
returns-then-are_too_many-clause-hard c = λ _.
    let g = plain c.args.given.grammar.now in let ts = tokens_of c.args.given.grammar.now c.args.given.shown.now in
    let keys = c.predict_once.new.found in let asks = c.predict_once.new.asked in
    too_many g ts c.args.start asks keys c.in_ok-idle.idle
    (so_far_first g ts c.args.start c.args.notes.now.asked asks c.args.found.now keys c.in_ok-idle.idle c.requires.asked c.requires.none
    c.in_ok-idle.ensures.only c.in_ok-idle.ensures.asked c.in_ok-idle.ensures.asks)
    2000000 (c.are_too_many.ensures.many.0 c.if-are_too_many.true) c.are_too_many.ensures.once

pub loop-item-preserved : goal.loop-item-preserved
loop-item-preserved c =
    let d = c.args.given.grammar.now in let g = plain d in let ts = tokens_of d c.args.given.shown.now in
    let old = c.loop-item.found in let new = c.treat.new.found in let item = c.in-Some.item in
    let inv = c.loop-item.invariant in
    let at : slice_get old c.loop-item.next ≡ Some item = sym c.in-Some.ensures in
    let ks = c.loop-item.notes.filed in let more = c.file.new.self in
    let before = c.before_key.result in let filling = c.filling_key.result in
    let next : IsNextSymbol d item c.symbol_of-symbol.result = record { is = c.symbol_of-symbol.ensures.is; below = c.symbol_of-symbol.ensures.below; small = c.symbol_of-symbol.ensures.small } in
    let waits : WaitsFor g item c.part_of-part.result = waits_for d item c.symbol_of-symbol.result _ next c.part_of-part.ensures in
    let turn : Turn g ts c.args.start old c.loop-item.next item ks more before filling = record {
      at = at;
      sound = inv.so.sound;
      filed = inv.filed;
      many = inv.numbers.same;
      own = c.own_key-own.result;
      own_is = λ key k. c.own_key-own.ensures ∙ own_is g item _ _ waits c.sort_made-made.ensures.made key k;
      added = c.in_ok-file.ensures;
      befores_all = λ x j f. subst (λ (o : Option ℕ). IsKeyed old more o x) (sym c.before_key.ensures) (before_there g old more item _ c.sort_made-made.ensures.made x j f);
      fillings_all = λ x j f. subst (λ (o : Option ℕ). IsKeyed old more o x) (sym c.filling_key.ensures) (filling_there g old more item _ waits x j f);
    } in
    let told = c.in_ok-idle-2.ensures in
    record {
      few = not_too_many new (c.loop-item.idle + c.in_ok-idle-2.field-0) c.are_too_many-in-Some.result c.are_too_many-in-Some.ensures.many c.if-are_too_many-2.false;
      within = omega (arith, slice_get_within old c.loop-item.next item at, longer old new told.extends);
      so = so_far_on g ts c.args.start c.loop-item.notes.asked old c.loop-item.idle inv.so item (there_at old c.loop-item.next item at) c.treat.new.asked new c.in_ok-idle-2.field-0
          (turn_holds g ts c.args.start old c.loop-item.next item ks more before filling turn new told.only)
          (turn_busy g ts c.args.start old c.loop-item.next item ks more before filling turn new inv.so.busy told.only) told.asked told.asks;
      closed = turn_closed g ts c.args.start old c.loop-item.next item ks more before filling turn new told.extends c.loop-item.notes.asked c.treat.new.asked
          (λ i a. (told.asks.asks i).1 (inl a)) inv.closed told.every;
      filed = turn_filed g ts c.args.start old c.loop-item.next item ks more before filling turn new told.extends;
      numbers = within_longer more (length old) (length new) (longer old new told.extends)
          (within_on ks more c.loop-item.next c.own_key-own.result (length old) c.in_ok-file.ensures inv.numbers (slice_get_within old c.loop-item.next item at));
    }

pub returns-then-are_too_many-2-clause-hard : goal.returns-then-are_too_many-2-clause-hard
returns-then-are_too_many-2-clause-hard c = λ _.
    let d = c.args.given.grammar.now in let g = plain d in let ts = tokens_of d c.args.given.shown.now in
    let old = c.loop-item.found in let new = c.treat.new.found in let item = c.in-Some.item in
    let inv = c.loop-item.invariant in
    let at : slice_get old c.loop-item.next ≡ Some item = sym c.in-Some.ensures in
    let ks = c.loop-item.notes.filed in let more = c.file.new.self in
    let before = c.before_key.result in let filling = c.filling_key.result in
    let next : IsNextSymbol d item c.symbol_of-symbol.result = record { is = c.symbol_of-symbol.ensures.is; below = c.symbol_of-symbol.ensures.below; small = c.symbol_of-symbol.ensures.small } in
    let waits : WaitsFor g item c.part_of-part.result = waits_for d item c.symbol_of-symbol.result _ next c.part_of-part.ensures in
    let turn : Turn g ts c.args.start old c.loop-item.next item ks more before filling = record {
      at = at;
      sound = inv.so.sound;
      filed = inv.filed;
      many = inv.numbers.same;
      own = c.own_key-own.result;
      own_is = λ key k. c.own_key-own.ensures ∙ own_is g item _ _ waits c.sort_made-made.ensures.made key k;
      added = c.in_ok-file.ensures;
      befores_all = λ x j f. subst (λ (o : Option ℕ). IsKeyed old more o x) (sym c.before_key.ensures) (before_there g old more item _ c.sort_made-made.ensures.made x j f);
      fillings_all = λ x j f. subst (λ (o : Option ℕ). IsKeyed old more o x) (sym c.filling_key.ensures) (filling_there g old more item _ waits x j f);
    } in
    let told = c.in_ok-idle-2.ensures in
    too_many g ts c.args.start c.treat.new.asked new (c.loop-item.idle + c.in_ok-idle-2.field-0)
    (so_far_on g ts c.args.start c.loop-item.notes.asked old c.loop-item.idle inv.so item (there_at old c.loop-item.next item at) c.treat.new.asked new c.in_ok-idle-2.field-0
    (turn_holds g ts c.args.start old c.loop-item.next item ks more before filling turn new told.only)
    (turn_busy g ts c.args.start old c.loop-item.next item ks more before filling turn new inv.so.busy told.only) told.asked told.asks)
    2000000 (c.are_too_many-in-Some.ensures.many.0 c.if-are_too_many-2.true) c.are_too_many-in-Some.ensures.once

pub returns-clause-all : goal.returns-clause-all
returns-clause-all c =
    let d = c.args.given.grammar.now in let g = plain d in let ts = tokens_of d c.args.given.shown.now in
    let keys = c.loop-item.found in let asks = c.loop-item.notes.asked in
    let whole = take_all c.loop-item.next keys (ended keys c.loop-item.next c.in_default.ensures) in
    items_are g ts c.args.start asks keys c.loop-item.idle c.loop-item.invariant.so (subst (λ l. Treated g ts l asks keys) whole c.loop-item.invariant.closed)

pub returns-clause-few : goal.returns-clause-few
returns-clause-few c =
    let d = c.args.given.grammar.now in let g = plain d in let ts = tokens_of d c.args.given.shown.now in
    let keys = c.loop-item.found in let asks = c.loop-item.notes.asked in
    let whole = take_all c.loop-item.next keys (ended keys c.loop-item.next c.in_default.ensures) in
    few_enough g ts c.args.start asks keys c.loop-item.idle c.loop-item.invariant.so (subst (λ l. Treated g ts l asks keys) whole c.loop-item.invariant.closed)
    2000000 c.loop-item.invariant.few

pub treat-requires-clause-complete : goal.treat-requires-clause-complete
treat-requires-clause-complete c = complete_before (plain c.args.given.grammar.now) c.in-Some.item _ _ c.before_key.ensures c.sort_made-made.ensures.complete
