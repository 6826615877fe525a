use Rattle.std.proofs.Common.{◌≡◌, Some, None, ◌∙◌}
use Rattle.std.proofs.lemmas.Bool.{false≢true, lt-ltb, ltb-true}
use Rattle.sx_outline.proofs.PlaceLaws.{first_at, found_first, before_in, in_before, none_in_front}
use Rattle.sx_outline.proofs.places.Places.is_before.Goals as goal

pub returns-in-Some : goal.returns-in-Some
returns-in-Some c = λ names h.
    let found : first_at c.args.name.now names ≡ Some c.in-Some.place = found_first names c.args.self.now c.args.name.now c.place.result h c.place.ensures ∙ c.in-Some.is in
    ((λ t. before_in names c.args.name.now c.args.count c.in-Some.place found (ltb-true c.in-Some.place c.args.count t)), λ k. lt-ltb c.in-Some.place c.args.count (in_before names c.args.name.now c.args.count c.in-Some.place found k))

pub returns-in-None : goal.returns-in-None
returns-in-None c = λ names h.
    let found : first_at c.args.name.now names ≡ None = found_first names c.args.self.now c.args.name.now c.place.result h c.place.ensures ∙ c.in-None.is in
    ((λ t. absurd (false≢true t)), λ k. absurd (none_in_front names c.args.name.now c.args.count found k))
