use Rattle.std.proofs.Common.{◌≡◌, ◌+◌, Some, set, refl, sym, subst, ap, ◌∙◌, arith}
use Rattle.std.specs.List.{slice_get}
use Rattle.std.proofs.lemmas.Option.{get_or_from_slice_get}
use Rattle.sx_forest.specs.Rows.{IsIn}
use Rattle.sx_forest.specs.declared.reach.Reach.{Reach}
use Rattle.sx_forest.proofs.Reaching.{reach_set, reach_there, reach_pushed, reach_last}
use Rattle.sx_forest.proofs.reaches.note.Goals as goal

pub returns-in-Some : goal.returns-in-Some
returns-in-Some c =
    let reaches = c.args.reaches.now.items in let index = c.in-Some.index in let found = c.in-Some.ensures in
    let there : slice_get reaches index ≡ Some found.0 = subst (λ l. slice_get l index ≡ Some found.0) c.deref.ensures.value found.1 in
    let x : Reach = record { maker = c.index_mut.result.now.maker; places = c.with.result } in
    let one : found.0 ≡ c.index_mut.result.now = sym (get_or_from_slice_get reaches index found.0 c.index_mut.result.now there) ∙ sym c.index_mut.ensures.value in
    let other : found.0 ≡ c.index.result.now = sym (get_or_from_slice_get reaches index found.0 c.index.result.now there) ∙ sym c.index.ensures in
    let maker : x.maker ≡ found.0.maker = ap (λ r. r.maker) (sym one) in
    record {
      kept = reach_set reaches (set reaches index x) index found.0 x there refl maker (λ p is. c.with.ensures.kept p (subst (λ r. IsIn r.places p) other is));
      here = reach_there reaches (set reaches index x) index found.0 x there refl c.args.maker (maker ∙ found.2) c.args.place c.with.ensures.here;
    }

pub returns-in_ok-push-in-None-clause-kept : goal.returns-in_ok-push-in-None-clause-kept
returns-in_ok-push-in-None-clause-kept c =
    reach_pushed c.args.reaches.now.items c.push.new.self.items (record { maker = c.args.maker; places = record { first = c.args.place; end = c.args.place + 1 } }) c.in_ok-push-in-None.ensures.items

pub returns-in_ok-push-in-None-clause-here : goal.returns-in_ok-push-in-None-clause-here
returns-in_ok-push-in-None-clause-here c =
    reach_last c.args.reaches.now.items c.push.new.self.items (record { maker = c.args.maker; places = record { first = c.args.place; end = c.args.place + 1 } }) c.in_ok-push-in-None.ensures.items
    c.args.place (omega arith, omega arith)
