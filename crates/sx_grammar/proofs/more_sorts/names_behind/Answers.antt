use Rattle.std.proofs.Common.{◌≡◌, ◌∙◌, ◌++◌, ◌∷◌, [], ◌<◌, List, Option, None, Some, length, refl, ap, sym, subst, arith}
use Rattle.std.proofs.lemmas.Result.{IfOk-weaker}
use Rattle.std.proofs.lemmas.Option.{slice_get_read}
use Rattle.std.proofs.lemmas.List.{append-nil}
use Rattle.sx_term.specs.Cutting.{AreDistinct}
use Rattle.sx_grammar.specs.declared.sort_line.SortLine.{SortLine}
use Rattle.sx_grammar.specs.Grammar.{Text}
use Rattle.sx_grammar.specs.Parts.{Line, parts, names}
use Rattle.sx_grammar.specs.Extended.{grown, listed_sort, LacksPair}
use Rattle.sx_grammar.specs.Tables.{GrammarData}
use Rattle.sx_grammar.proofs.Widening.{no_more, sort_is, sort_is_none, names_listed, match_weaker}
use Rattle.sx_grammar.proofs.more_sorts.names_behind.Goals as goal

pub returns-clause-names : goal.returns-clause-names
returns-clause-names c =
    let p = c.args.base.now.parts in
    let whole = parts c.args.from.now in
    let s = c.index-sort.result.now in
    let sorts = c.args.from.now.sorts.items in
    let count : c.len.result ≡ length p.sorts = omega (arith, c.len.ensures, ap (λ (d : GrammarData). length d.parts.sorts) c.base.view_is) in
    let lt : c.len.result < length sorts = omega (arith, count, c.has_more.ensures.0 c.if-not-has_more.false) in
    let at = slice_get_read sorts (length sorts) c.len.result s refl lt c.index-sort.ensures in
    let sort = sort_is p c.requires.1 whole c.requires.0 c.len.result s c.requires.2 count at in
    let own = ap (λ (d : GrammarData). names d.parts) (sym c.base.view_is) ∙ sym c.base.invariant.has_sorts in
    let all = names_listed p c.requires.1 whole c.requires.0 (Some s) c.requires.2 sort ∙ ap (λ l. l ++ s.name ∷ []) own in
    let apart = subst AreDistinct (sym c.base.invariant.has_sorts) c.base.invariant.is_grammar.0.0.0.0.0.1 in
    IfOk-weaker c.names_with.result _ _
    (λ r is. match_weaker r (Unit {0})
    (λ (n : List Text). (s.brackets ≡ None) × (n ≡ c.base.inside.sort_names ++ s.name ∷ []) × (AreDistinct c.base.inside.sort_names → AreDistinct n))
    (λ (n : List Text). (n ≡ names whole) × AreDistinct n)
    (λ n h. (h.1 ∙ sym all, h.2 apart)) is)
    c.names_with.ensures

pub returns-clause-plain : goal.returns-clause-plain
returns-clause-plain c =
    let p = c.args.base.now.parts in
    let whole = parts c.args.from.now in
    let s = c.index-sort.result.now in
    let sorts = c.args.from.now.sorts.items in
    let count : c.len.result ≡ length p.sorts = omega (arith, c.len.ensures, ap (λ (d : GrammarData). length d.parts.sorts) c.base.view_is) in
    let lt : c.len.result < length sorts = omega (arith, count, c.has_more.ensures.0 c.if-not-has_more.false) in
    let at = slice_get_read sorts (length sorts) c.len.result s refl lt c.index-sort.ensures in
    IfOk-weaker c.names_with.result _ _
    (λ r is. match_weaker r (Unit {0})
    (λ (n : List Text). (s.brackets ≡ None) × (n ≡ c.base.inside.sort_names ++ s.name ∷ []) × (AreDistinct c.base.inside.sort_names → AreDistinct n))
    (λ (n : List Text). (sort : Option SortLine) (more : List Line) → whole ≡ grown p (listed_sort sort) more → LacksPair sort)
    (λ n h sort more grown. subst LacksPair (sym (sort_is p more whole sort c.len.result s grown count at)) h.0) is)
    c.names_with.ensures

pub returns-then-not-has_more-clause-names : goal.returns-then-not-has_more-clause-names
returns-then-not-has_more-clause-names c =
    let p = c.args.base.now.parts in
    let whole = parts c.args.from.now in
    let few = no_more (length p.sorts) (length whole.sorts) c.has_more.result c.has_more.ensures c.if-not-has_more.true in
    let all = names_listed p c.requires.1 whole c.requires.0 None c.requires.2 (sort_is_none p c.requires.1 whole c.requires.0 c.requires.2 few) in
    let own = ap (λ (d : GrammarData). names d.parts) (sym c.base.view_is) ∙ sym c.base.invariant.has_sorts in
    let apart = subst AreDistinct (sym c.base.invariant.has_sorts) c.base.invariant.is_grammar.0.0.0.0.0.1 in
    (c.in_ok-copy.ensures ∙ sym own ∙ sym (append-nil (names p)) ∙ sym all, subst AreDistinct (sym c.in_ok-copy.ensures) apart)

pub returns-then-not-has_more-clause-plain : goal.returns-then-not-has_more-clause-plain
returns-then-not-has_more-clause-plain c =
    let p = c.args.base.now.parts in
    let whole = parts c.args.from.now in
    let few = no_more (length p.sorts) (length whole.sorts) c.has_more.result c.has_more.ensures c.if-not-has_more.true in
    λ sort more grown. subst LacksPair (sym (sort_is_none p more whole sort grown few)) tt
