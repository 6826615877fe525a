use Rattle.std.proofs.Common.{◌≡◌, sym, subst, map, refl, arith, ℕ}
use Rattle.sx_grammar.specs.Parts.{line, parts, numbered}
use Rattle.sx_grammar.specs.Order.{rank_at}
use Rattle.sx_grammar.specs.Extended.{GrammarGrows}
use Rattle.sx_grammar.specs.Tables.{GrammarData}
use Rattle.sx_grammar.proofs.Ordering.{ranked_not_cyclic}
use Rattle.sx_grammar.proofs.TokenLaws.{none_mixed, ranks_kept}
use Rattle.sx_grammar.proofs.numbered_behind.ranks_behind.Goals as goal
use Rattle.sx_grammar.proofs.numbered_behind.ranks_behind.Goals.{After-base}

-- the whole grows from what is in the base
grown : (c : After-base)
    → GrammarGrows (parts c.base.inside.parts) (map line c.args.more.now) (parts c.args.from.now)
grown c = subst (λ (d : GrammarData). GrammarGrows d.parts (map line c.args.more.now) (parts c.args.from.now)) (sym c.base.view_is) c.requires.behind

pub keeps_sorts-requires-clause-before : goal.keeps_sorts-requires-clause-before
keeps_sorts-requires-clause-before c =
    let p = parts c.base.inside.parts in
    let more = map line c.args.more.now in
    let whole = parts c.args.from.now in
    let grows = grown (goal.at.keeps_sorts-requires-clause-before c).After-base in
    let is = c.base.invariant.is_grammar in
    none_mixed p more whole grows is.0.0.0.0 c.requires.labels.0.0.1 c.base.inside.parts.productions.items c.len.result refl (omega (arith, c.len.ensures)) is.0.0.1

pub returns-then-have_tokens-clause-ranking : goal.returns-then-have_tokens-clause-ranking
returns-then-have_tokens-clause-ranking c =
    let p = parts c.base.inside.parts in
    let more = map line c.args.more.now in
    let whole = parts c.args.from.now in
    let grows = grown (goal.at.returns-then-have_tokens-clause-ranking c).After-base in
    let same = λ (sort : ℕ). subst (λ l. rank_at c.in_ok-ranks_with.field-0.items sort ≡ rank_at l sort) c.deref.ensures.value (c.in_ok-ranks_with.ensures sort) in
    ranks_kept p more whole grows c.base.invariant.is_grammar.0.0.0.0 (c.have_tokens.ensures c.if-have_tokens.true) c.base.inside.ranks.items c.in_ok-ranks_with.field-0.items same c.base.invariant.ranked

pub returns-then-have_tokens-clause-good : goal.returns-then-have_tokens-clause-good
returns-then-have_tokens-clause-good c =
    let p = parts c.base.inside.parts in
    let more = map line c.args.more.now in
    let whole = parts c.args.from.now in
    let grows = grown (goal.at.returns-then-have_tokens-clause-good c).After-base in
    let ranks = ranks_kept p more whole grows c.base.invariant.is_grammar.0.0.0.0 (c.have_tokens.ensures c.if-have_tokens.true) c.base.inside.ranks.items c.base.inside.ranks.items (λ sort. refl) c.base.invariant.ranked in
    (c.in_ok-has_brackets.ensures.good, ranked_not_cyclic (numbered whole) (rank_at c.base.inside.ranks.items) ranks.0)
