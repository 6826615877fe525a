use Rattle.std.proofs.Common.{sym, ◌∙◌}
use Rattle.sx_earley.specs.Shown.{plain, tokens_of}
use Rattle.sx_earley.specs.Chart.{Foresees, IsPredicted}
use Rattle.sx_earley.specs.Counted.{IsBusy, AsksMore}
use Rattle.sx_grammar.specs.declared.item.Item.{Item}
use Rattle.sx_earley.specs.Growth.{AllNew}
use Rattle.sx_earley.proofs.Sameness.{ok_if}
use Rattle.sx_earley.proofs.Growth.{only_more}
use Rattle.sx_earley.proofs.Asking.{asks_as, asks_nothing}
use Rattle.sx_earley.proofs.Foreseeing.{to_foreseen, from_foreseen, none_foreseen}
use Rattle.sx_earley.proofs.prediction.predict_next.Goals as goal

pub returns-in_default-clause-asks : goal.returns-in_default-clause-asks
returns-in_default-clause-asks c =
    let d = c.args.given.grammar.now in let g = plain d in
    asks_nothing g (tokens_of d c.args.given.shown.now) (Foresees g c.args.item) c.args.asked.now (none_foreseen g c.args.item (sym c.in_default.is ∙ c.requires.waits.is))

pub returns-clause-only : goal.returns-clause-only
returns-clause-only c =
    let d = c.args.given.grammar.now in let g = plain d in let ts = tokens_of d c.args.given.shown.now in let item = c.args.item in
    let old = c.args.found.now in let new = c.predict_once.new.found in
    let IsBegun : Item → Type 0 = IsBusy g ts (IsPredicted g c.in-Some.sort c.in-Some.least item.end) in
    ok_if c.predict_once.result (λ _. AllNew old new IsBegun) (λ _. AllNew old new (IsBusy g ts (Foresees g item)))
    (λ _ only. only_more old new IsBegun (IsBusy g ts (Foresees g item))
    (λ i p. (to_foreseen g item c.in-Some.sort c.in-Some.least (sym c.in-Some.is ∙ c.requires.waits.is) i p.0, p.1)) only) c.predict_once.ensures.only

pub returns-clause-asks : goal.returns-clause-asks
returns-clause-asks c =
    let d = c.args.given.grammar.now in let g = plain d in let ts = tokens_of d c.args.given.shown.now in let item = c.args.item in
    let waits = sym c.in-Some.is ∙ c.requires.waits.is in let old = c.args.asked.now in let new = c.predict_once.new.asked in
    ok_if c.predict_once.result (AsksMore g ts (IsPredicted g c.in-Some.sort c.in-Some.least item.end) old new) (AsksMore g ts (Foresees g item) old new)
    (λ n asks. asks_as g ts (IsPredicted g c.in-Some.sort c.in-Some.least item.end) (Foresees g item) old new n
    (to_foreseen g item c.in-Some.sort c.in-Some.least waits) (from_foreseen g item c.in-Some.sort c.in-Some.least waits) asks) c.predict_once.ensures.asks
