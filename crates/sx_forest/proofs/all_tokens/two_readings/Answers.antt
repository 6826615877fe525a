use Rattle.std.proofs.Common.{subst, sym, length, Some, arith}
use Rattle.std.specs.Prelude.{None}
use Rattle.std.proofs.lemmas.List.{length-map}
use Rattle.sx_grammar.specs.Reading.{ReadsWhole}
use Rattle.sx_earley.specs.Shown.{literal_texts, token_of}
use Rattle.sx_earley.proofs.Sameness.{ok_if}
use Rattle.sx_forest.specs.Readings.{plain_reading}
use Rattle.sx_forest.specs.Tallies.{ways_of, IsLastRow}
use Rattle.sx_forest.specs.Rows.{entries_at}
use Rattle.sx_forest.specs.Forests.{grammar_in, tokens_in, lists_in, one_of, other_of, IsBy}
use Rattle.sx_forest.specs.Forests.{IsFirstUsable, IsForkOf}
use Rattle.sx_forest.proofs.AllTokens.{by_used, of_used, not_parted, parted, both_used}
use Rattle.sx_forest.proofs.all_tokens.two_readings.Goals as goal
use Rattle.sx_forest.proofs.all_tokens.two_readings.Goals.{Start, In-Some, In-Some-fork_of}

-- the row is the one behind all tokens
row_is_last : (c : Start) → IsLastRow (length (tokens_in c.args.forest)) (ways_of c.args.row.now)
row_is_last c =
    let f = c.args.forest in
    subst (λ n. IsLastRow n (ways_of c.args.row.now)) (sym (length-map f.shown.now (token_of (literal_texts f.grammar.now)))) c.requires.row

-- the entry is the first that can be used
first_is_usable : (c : In-Some) → IsFirstUsable (grammar_in c.args.forest) c.args.forest.start 0 (ways_of c.args.row.now) (entries_at (lists_in c.args.forest) 0) 0 (Some (c.in-Some.index, c.in-Some.entry))
first_is_usable c =
    subst (λ l. IsFirstUsable (grammar_in c.args.forest) c.args.forest.start 0 (ways_of c.args.row.now) l 0 (Some (c.in-Some.index, c.in-Some.entry))) c.from-entries.ensures c.in-Some.ensures

-- and it forks
entry_forks : (c : In-Some-fork_of) → IsForkOf (grammar_in c.args.forest) c.args.forest.start 0 (ways_of c.args.row.now) (entries_at (lists_in c.args.forest) 0) c.in-Some.index c.in-Some.entry (Some c.in-Some-fork_of.fork)
entry_forks c =
    subst (λ l. IsForkOf (grammar_in c.args.forest) c.args.forest.start 0 (ways_of c.args.row.now) l c.in-Some.index c.in-Some.entry (Some c.in-Some-fork_of.fork)) c.from-entries.ensures c.in-Some-fork_of.ensures

pub pair_at-requires-clause-parting : goal.pair_at-requires-clause-parting
pair_at-requires-clause-parting c =
    let f = c.args.forest in let g = grammar_in f in let ts = tokens_in f in let lists = lists_in f in let row = ways_of c.args.row.now in
    let last = row_is_last (goal.at.pair_at-requires-clause-parting c).Start in
    let levels = c.facts.ensures.levels in let full = c.requires.forest.full in
    let i = c.in-Some.index in let e = c.in-Some.entry in
    let first = first_is_usable (goal.at.pair_at-requires-clause-parting c).In-Some in
    let fork = c.in-Some-fork_of.fork in
    let is = entry_forks (goal.at.pair_at-requires-clause-parting c).In-Some-fork_of in
    parted g ts f.start levels lists full row last c.requires.low i e first fork is

pub unreachable-requires : goal.unreachable-requires
unreachable-requires c =
    let f = c.args.forest in let g = grammar_in f in let ts = tokens_in f in let lists = lists_in f in let row = ways_of c.args.row.now in
    let last = row_is_last (goal.at.unreachable-requires c).Start in
    let levels = c.facts.ensures.levels in let full = c.requires.forest.full in
    let i = c.in-Some.index in let e = c.in-Some.entry in
    let first = first_is_usable (goal.at.unreachable-requires c).In-Some in
    let is : IsForkOf g f.start 0 row (entries_at lists 0) i e None =
    subst (λ l. IsForkOf g f.start 0 row l i e None) c.from-entries.ensures c.in-None-fork_of.ensures in
    let two = c.requires.two in
    two.4 (not_parted g ts f.start levels lists full row last i e first is two.0 two.1 two.2 two.3)

pub unreachable-requires-in-None : goal.unreachable-requires-in-None
unreachable-requires-in-None c =
    let f = c.args.forest in let g = grammar_in f in let ts = tokens_in f in let lists = lists_in f in let row = ways_of c.args.row.now in
    let last = row_is_last (goal.at.unreachable-requires-in-None c).Start in
    let levels = c.facts.ensures.levels in let full = c.requires.forest.full in
    let none : IsFirstUsable g f.start 0 row (entries_at lists 0) 0 None =
    subst (λ l. IsFirstUsable g f.start 0 row l 0 None) c.from-entries.ensures c.in-None.ensures in
    let u = of_used g ts f.start levels lists full row last c.requires.two.0 c.requires.two.2 in
    none u.0 u.1 (omega arith) u.2 u.3

pub returns-clause-one : goal.returns-clause-one
returns-clause-one c =
    let f = c.args.forest in let g = grammar_in f in let ts = tokens_in f in let lists = lists_in f in let row = ways_of c.args.row.now in
    let last = row_is_last (goal.at.returns-clause-one c).Start in
    let levels = c.facts.ensures.levels in let full = c.requires.forest.full in
    let i = c.in-Some.index in let e = c.in-Some.entry in
    let first = first_is_usable (goal.at.returns-clause-one c).In-Some in
    let fork = c.in-Some-fork_of.fork in
    let is = entry_forks (goal.at.returns-clause-one c).In-Some-fork_of in
    let used = both_used g ts f.start levels lists full row last i e first fork is in
    ok_if c.pair_at.result (λ r. IsBy g ts (one_of fork).maker 0 (one_of fork).to (plain_reading r.0)) (λ r. ReadsWhole g ts f.start (plain_reading r.0))
    (λ r by. by_used g ts f.start levels lists full row last (one_of fork) used.0 (plain_reading r.0) by) c.pair_at.ensures.one

pub returns-clause-other : goal.returns-clause-other
returns-clause-other c =
    let f = c.args.forest in let g = grammar_in f in let ts = tokens_in f in let lists = lists_in f in let row = ways_of c.args.row.now in
    let last = row_is_last (goal.at.returns-clause-other c).Start in
    let levels = c.facts.ensures.levels in let full = c.requires.forest.full in
    let i = c.in-Some.index in let e = c.in-Some.entry in
    let first = first_is_usable (goal.at.returns-clause-other c).In-Some in
    let fork = c.in-Some-fork_of.fork in
    let is = entry_forks (goal.at.returns-clause-other c).In-Some-fork_of in
    let used = both_used g ts f.start levels lists full row last i e first fork is in
    ok_if c.pair_at.result (λ r. IsBy g ts (other_of fork).maker 0 (other_of fork).to (plain_reading r.1)) (λ r. ReadsWhole g ts f.start (plain_reading r.1))
    (λ r by. by_used g ts f.start levels lists full row last (other_of fork) used.1 (plain_reading r.1) by) c.pair_at.ensures.other
