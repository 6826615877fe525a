use Rattle.std.proofs.Common.{◌≡◌, ◌++◌, [], ◌∷◌, List, length, sym, arith}
use Rattle.std.proofs.lemmas.Bool.Decides.{nat_tests}
use Rattle.std.proofs.lemmas.Slice.Eq.{bytes_eq-Decides}
use Rattle.sx_imports.specs.Walk.{Name}
use Rattle.sx_imports.specs.Rounds.{gathered}
use Rattle.sx_imports.proofs.state.gather.Goals as goal

one_gathered : (names more : List Name) (name next : Name) → length names ≡ 0 → next ≡ name → more ≡ names ++ next ∷ [] → more ≡ gathered names name next
one_gathered [] more name next e same is = rw ((bytes_eq-Decides name next).1 (sym same)) is
one_gathered (first ∷ names) more name next e same is = absurd (omega (arith, e))

pub returns-in_ok-push : goal.returns-in_ok-push
returns-in_ok-push c =
    let none : length c.args.names.now.items ≡ 0 = grind (arith, nat_tests, c.is_empty.ensures, c.if-is_empty.true) in
    let is : c.push.new.self.items ≡ c.args.names.now.items ++ c.args.next.now ∷ [] = cc (c.in_ok-push.ensures.items, c.in_ok-copy.ensures) in
    one_gathered c.args.names.now.items c.push.new.self.items c.args.name.now c.args.next.now none (c.same.ensures.0 c.if-same.true) is
