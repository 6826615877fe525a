use Rattle.std.proofs.Common.{length, ap, sym, ◌∙◌, arith}
use Rattle.std.proofs.lemmas.Bool.{eqb-true, eqb-false}
use Rattle.std.proofs.lemmas.List.{nil_from_length}
use Rattle.std.specs.Vec.{vec_len}
use Rattle.sx_rules.specs.Sets.{bare_rules_in}
use Rattle.sx_rewrite.proofs.StoredAt.{none-stored, some-stored}
use Rattle.sx_rewrite.proofs.accepted.Accepted.is_base_alone.Goals as goal

pub returns-clause-yes : goal.returns-clause-yes
returns-clause-yes c = λ yes.
    let flats = c.args.self.now.flats in
    let ok = flats.ok in
    let zero = eqb-true (vec_len flats) 0 (sym c.is_empty.ensures ∙ yes) in
    none-stored _ flats.items (nil_from_length flats.items (omega (arith, ok, zero)))

pub returns-clause-no : goal.returns-clause-no
returns-clause-no c = λ no none.
    let a = c.args.self.now in
    let ok = a.flats.ok in
    let nil = ap length (some-stored (bare_rules_in a.base) (bare_rules_in a.rules) a.flats.items a.first a.counted a.many none) in
    eqb-false (vec_len a.flats) 0 (sym c.is_empty.ensures ∙ no) (omega (arith, ok, nil))
