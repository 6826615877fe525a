use Rattle.std.proofs.Common.{◌≡◌, ◌∙◌, ap, sym, subst, length, arith, List, Option}
use Rattle.std.specs.Prelude.{MatchOption}
use Rattle.sx_term.specs.Cutting.{AreDistinct}
use Rattle.sx_grammar.specs.declared.sort_line.SortLine.{SortLine}
use Rattle.sx_grammar.specs.Grammar.{Text}
use Rattle.sx_grammar.specs.Parts.{Line, Parts, parts, names}
use Rattle.sx_grammar.specs.Extended.{grown, listed_sort, LacksPair}
use Rattle.sx_grammar.specs.Tables.{GrammarData}
use Rattle.sx_grammar.proofs.Extending.{lines_behind, room_behind}
use Rattle.sx_grammar.proofs.growing.tables_behind.Goals as goal

pub split_at-requires : goal.split_at-requires
split_at-requires c =
    let own = c.base.inside.parts.productions.items in
    let is = c.requires.behind.2 ∙ ap (λ (d : GrammarData). grown d.parts (listed_sort c.requires.behind.0) c.requires.behind.1) (sym c.base.view_is) in
    omega (arith, room_behind own c.requires.behind.1 c.args.from.now.productions.items (ap (λ (q : Parts). q.productions) is), c.len.ensures, ap length c.deref.ensures.value)

pub tables_sorted-requires-clause-behind : goal.tables_sorted-requires-clause-behind
tables_sorted-requires-clause-behind c =
    let sort = c.requires.behind.0 in
    let more = c.requires.behind.1 in
    let own = c.base.inside.parts.productions.items in
    let all = c.args.from.now.productions.items in
    let is = c.requires.behind.2 ∙ ap (λ (d : GrammarData). grown d.parts (listed_sort sort) more) (sym c.base.view_is) in
    let count : c.len.result ≡ length own = omega (arith, c.len.ensures) in
    let named = lines_behind own more all c.deref.result.now c.split_at.result.1.now c.len.result (ap (λ (q : Parts). q.productions) is) c.deref.ensures.value count c.split_at.ensures.back in
    let plain = subst (λ r. MatchOption r (Unit {0}) (λ (n : List Text). (o : Option SortLine) (m : List Line) → parts c.args.from.now ≡ grown c.args.base.now.parts (listed_sort o) m → LacksPair o)) c.in-Some.is c.in_ok-sort_names.ensures.plain in
    record { sort = sort; plain = plain sort more c.requires.behind.2; is = c.requires.behind.2 ∙ ap (grown c.args.base.now.parts (listed_sort sort)) (sym named) }

pub tables_sorted-requires-clause-sorts : goal.tables_sorted-requires-clause-sorts
tables_sorted-requires-clause-sorts c =
    (subst (λ r. MatchOption r (Unit {0}) (λ (n : List Text). (n ≡ names (parts c.args.from.now)) × AreDistinct n)) c.in-Some.is c.in_ok-sort_names.ensures.names).0

pub tables_sorted-requires-clause-distinct : goal.tables_sorted-requires-clause-distinct
tables_sorted-requires-clause-distinct c =
    (subst (λ r. MatchOption r (Unit {0}) (λ (n : List Text). (n ≡ names (parts c.args.from.now)) × AreDistinct n)) c.in-Some.is c.in_ok-sort_names.ensures.names).1
