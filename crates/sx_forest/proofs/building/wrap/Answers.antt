use Rattle.std.proofs.Common.{sym, subst, ap, ◌≡◌, ◌++◌, ◌∷◌, []}
use Rattle.sx_grammar.specs.Reading.{bracket, done, ◌▸◌}
use Rattle.sx_forest.specs.Readings.{plain_reading, plain_readings}
use Rattle.sx_forest.specs.Forests.{HasKids}
use Rattle.sx_forest.proofs.Following.{last_kid}
use Rattle.sx_forest.proofs.building.wrap.Goals as goal

pub returns-in-Labelled : goal.returns-in-Labelled
returns-in-Labelled c = rw c.in-Labelled.is c.node.ensures

pub returns-in_ok-new-in-Some : goal.returns-in_ok-new-in-Some
returns-in_ok-new-in-Some c =
    let one = subst (λ h. HasKids h (plain_readings c.args.kids.items)) c.in-Bracketed.is c.requires in
    let x = c.in-Some.inner in
    let e : c.args.kids.items ≡ c.pop.new.self.items ++ x ∷ [] = c.in-Some.ensures.items in
    let kids : plain_readings c.args.kids.items ≡ plain_reading x ▸ done =
    subst (λ l. plain_readings l ≡ plain_reading x ▸ done) (sym e) (last_kid c.pop.new.self.items x one.0 (subst (λ l. plain_readings l ≡ one.0 ▸ done) e one.1)) in
    rw c.in-Bracketed.is (plain_reading x, kids, ap (λ y. bracket (plain_reading y) c.args.from c.args.to) c.in_ok-new-in-Some.ensures.ok)
