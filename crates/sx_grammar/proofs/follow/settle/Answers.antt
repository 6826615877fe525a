use Rattle.std.proofs.Common.{◌≡◌, Some, refl, length, arith, sym, subst}
use Rattle.std.specs.Prelude.{slice_get}
use Rattle.std.proofs.lemmas.Option.{slice_get_read, get_or_from_slice_get}
use Rattle.std.proofs.lemmas.Result.{on_ok_weaker}
use Rattle.sx_grammar.specs.Ranks.{HasRank}
use Rattle.sx_grammar.proofs.Settling.{IsUnranked, learn_settles, put_settles, found_in, none_in}
use Rattle.sx_grammar.proofs.follow.settle.Goals as goal
use Rattle.sx_grammar.proofs.follow.settle.Goals.{After-index-rules-index, In-Some}

-- the rule at hand
rule_at : (c : After-index-rules-index)
    → slice_get c.args.rules.now c.args.index ≡ Some c.index-rules-index.result
rule_at c = slice_get_read c.args.rules.now (length c.args.rules.now) c.args.index c.index-rules-index.result refl c.requires.index c.index-rules-index.is

-- the place that the search came to
unranked_at : (c : In-Some) → slice_get c.args.rules.now c.args.index ≡ Some c.index-rules-index.result
    → IsUnranked c.args.progress.now.ranks.items c.index-rules-index.result.needs.items c.in-Some.later
unranked_at c at =
    let rule = c.index-rules-index.result in
    found_in c.deref.result.now c.args.progress.now.ranks.items c.deref-2.result.now rule.needs.items c.args.place c.in-Some.later
    c.deref.ensures.value c.deref-2.ensures.value c.in-Some.ensures (c.requires.place rule at)

pub index-number-requires : goal.index-number-requires
index-number-requires c =
    let w = goal.at.index-number-requires c in
    let found = unranked_at w.In-Some (rule_at w.After-index-rules-index) in
    omega (arith, found.0, c.index-rules-index.result.needs.ok.0)

pub wait-requires : goal.wait-requires
wait-requires c =
    let w = goal.at.wait-requires c in
    let rule = c.index-rules-index.result in
    let at = rule_at w.After-index-rules-index in
    let found = unranked_at w.In-Some at in
    let need = slice_get_read rule.needs.items (length rule.needs.items) c.in-Some.later c.index-number.result.now refl found.0 c.index-number.ensures in
    let low = (c.requires.below c.args.index rule at).1 c.in-Some.later c.index-number.result.now need in
    omega (arith, low, c.requires.sound.lists)

pub learn-requires : goal.learn-requires
learn-requires c =
    let at = rule_at (goal.at.learn-requires c).After-index-rules-index in
    (c.requires.below c.args.index c.index-rules-index.result at).0

pub returns-in-Some : goal.returns-in-Some
returns-in-Some c =
    let w = goal.at.returns-in-Some c in
    let rule = c.index-rules-index.result in
    let at = rule_at w.After-index-rules-index in
    let found = unranked_at w.In-Some at in
    let number = c.index-number.result.now in
    let need = slice_get_read rule.needs.items (length rule.needs.items) c.in-Some.later number refl found.0 c.index-number.ensures in
    let none : ¬ (HasRank c.args.progress.now.ranks.items number) = λ has. found.2 (subst (HasRank c.args.progress.now.ranks.items) (sym (get_or_from_slice_get rule.needs.items c.in-Some.later number 0 need)) has) in
    on_ok_weaker c.wait.result (put_settles c.args.rules.now c.args.progress.now c.wait.new.progress c.args.index number c.in-Some.later rule c.requires.sound at need found.1 none) c.wait.ensures

pub returns-in-None : goal.returns-in-None
returns-in-None c =
    let rule = c.index-rules-index.result in
    let at = rule_at (goal.at.returns-in-None c).After-index-rules-index in
    let all = none_in c.deref.result.now c.args.progress.now.ranks.items c.deref-2.result.now rule.needs.items c.args.place c.deref.ensures.value c.deref-2.ensures.value c.in-None.ensures
    (c.requires.place rule at) in
    on_ok_weaker c.learn.result (learn_settles c.args.rules.now c.args.progress.now c.learn.new.progress c.args.index rule c.requires.sound at all (c.requires.below c.args.index rule at).0) c.learn.ensures
