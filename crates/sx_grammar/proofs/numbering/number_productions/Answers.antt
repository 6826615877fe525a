use Rattle.std.proofs.Common.{◌≡◌, map, take, ◌+◌, refl, length, subst, sym}
use Rattle.std.proofs.lemmas.Option.{slice_get_read}
use Rattle.sx_grammar.specs.Parts.{line, numbered_line}
use Rattle.sx_grammar.specs.Numbered as plain
use Rattle.sx_grammar.specs.Tables.{HaveLiteralsBelow}
use Rattle.sx_grammar.proofs.NumberLaws.{item_in, mapped_push_twice, lines_push}
use Rattle.sx_grammar.proofs.numbering.number_productions.Goals as goal

pub number_production-requires-clause-known : goal.number_production-requires-clause-known
number_production-requires-clause-known c =
    c.requires.known c.production-item.result (item_in c.args.productions.now c.loop-production.production-index c.production-item.result c.loop-production-test.true c.production-item.is)

pub loop-production-preserved : goal.loop-production-preserved
loop-production-preserved c =
    let xs = c.args.productions.now in
    let n = c.loop-production.production-index in
    let at = slice_get_read xs (length xs) n c.production-item.result refl c.loop-production-test.true c.production-item.is in
    let texts = c.args.literals.now in
    let q = c.in_ok-number_production.field-0 in
    record {
      same = subst (λ l. map (plain.production texts) l ≡ map (numbered_line c.args.sorts.now) (map line (take (n + 1) xs))) (sym c.in_ok-push.ensures.items)
          (mapped_push_twice (plain.production texts) (numbered_line c.args.sorts.now) line c.loop-production.out.items xs n q c.production-item.result c.loop-production.invariant.same at c.in_ok-number_production.ensures.same);
      below = subst (HaveLiteralsBelow (length texts)) (sym c.in_ok-push.ensures.items) (lines_push (length texts) c.loop-production.out.items q c.loop-production.invariant.below c.in_ok-number_production.ensures.below);
    }
