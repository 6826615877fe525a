use Rattle.std.proofs.Common.{subst, sym, length, Some, arith}
use Rattle.std.specs.Prelude.{None}
use Rattle.std.proofs.lemmas.List.{length-map}
use Rattle.sx_grammar.specs.Reading.{ReadsWhole}
use Rattle.sx_earley.specs.Shown.{literal_texts, token_of}
use Rattle.sx_earley.proofs.Sameness.{ok_if}
use Rattle.sx_forest.specs.Readings.{plain_reading}
use Rattle.sx_forest.specs.Tallies.{ways_of, IsLastRow}
use Rattle.sx_forest.specs.Rows.{entries_at}
use Rattle.sx_forest.specs.Forests.{grammar_in, tokens_in, lists_in, IsBy, IsFirstUsable}
use Rattle.sx_forest.proofs.AllTokens.{by_used, of_used, used_shallow}
use Rattle.sx_forest.proofs.all_tokens.first_reading.Goals as goal
use Rattle.sx_forest.proofs.all_tokens.first_reading.Goals.{Start, In-Some}

-- the row is the one behind all tokens
row_is_last : (c : Start) → IsLastRow (length (tokens_in c.args.forest)) (ways_of c.args.row.now)
row_is_last c =
    let f = c.args.forest in
    subst (λ n. IsLastRow n (ways_of c.args.row.now)) (sym (length-map f.shown.now (token_of (literal_texts f.grammar.now)))) c.requires.row

-- the entry is the first that can be used
first_is_usable : (c : In-Some) → IsFirstUsable (grammar_in c.args.forest) c.args.forest.start 0 (ways_of c.args.row.now) (entries_at (lists_in c.args.forest) 0) 0 (Some (c.in-Some.field-0-0, c.in-Some.entry))
first_is_usable c =
    subst (λ l. IsFirstUsable (grammar_in c.args.forest) c.args.forest.start 0 (ways_of c.args.row.now) l 0 (Some (c.in-Some.field-0-0, c.in-Some.entry))) c.from-entries.ensures c.in-Some.ensures

pub build-requires-clause-entry : goal.build-requires-clause-entry
build-requires-clause-entry c =
    let f = c.args.forest in let g = grammar_in f in let ts = tokens_in f in let lists = lists_in f in let row = ways_of c.args.row.now in
    let last = row_is_last (goal.at.build-requires-clause-entry c).Start in
    let levels = c.facts.ensures.levels in let full = c.requires.forest.full in
    let i = c.in-Some.field-0-0 in let e = c.in-Some.entry in
    let first = first_is_usable (goal.at.build-requires-clause-entry c).In-Some in
    used_shallow g ts f.start levels lists full row last c.requires.low i e first.1 first.2

pub unreachable-requires : goal.unreachable-requires
unreachable-requires c =
    let f = c.args.forest in let g = grammar_in f in let ts = tokens_in f in let lists = lists_in f in let row = ways_of c.args.row.now in
    let last = row_is_last (goal.at.unreachable-requires c).Start in
    let levels = c.facts.ensures.levels in let full = c.requires.forest.full in
    let none : IsFirstUsable g f.start 0 row (entries_at lists 0) 0 None =
    subst (λ l. IsFirstUsable g f.start 0 row l 0 None) c.from-entries.ensures c.in-None.ensures in
    let u = of_used g ts f.start levels lists full row last c.requires.some.0 c.requires.some.1 in
    none u.0 u.1 (omega arith) u.2 u.3

pub returns : goal.returns
returns c =
    let f = c.args.forest in let g = grammar_in f in let ts = tokens_in f in let lists = lists_in f in let row = ways_of c.args.row.now in
    let last = row_is_last (goal.at.returns c).Start in
    let levels = c.facts.ensures.levels in let full = c.requires.forest.full in
    let i = c.in-Some.field-0-0 in let e = c.in-Some.entry in
    let first = first_is_usable (goal.at.returns c).In-Some in
    ok_if c.build.result (λ r. IsBy g ts e.maker 0 e.to (plain_reading r)) (λ r. ReadsWhole g ts f.start (plain_reading r))
    (λ r by. by_used g ts f.start levels lists full row last e first.2 (plain_reading r) by) c.build.ensures
