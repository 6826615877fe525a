use Rattle.std.proofs.Common.{◌+◌, List, ℕ, refl, subst, arith}
use Rattle.sx_rules.specs.Rules.{Judgement}
use Rattle.sx_arena.specs.Views.{rules_of, set_modes}
use Rattle.sx_arena.specs.Facts.{AreFacts}
use Rattle.sx_rules.specs.EntryView.{entry}
use Rattle.sx_replay.specs.Reader.{base_trees}
use Rattle.sx_replay.proofs.Readers.{base_pairs, base_facts}
use Rattle.sx_replay.proofs.Followed.{IsStepped, followed_end, wrong_entry, done_refused, asks_refused, long_list, whole_list, following_more, done_below}
use Rattle.sx_replay.proofs.follow.follow.Goals as goal
use Rattle.sx_replay.proofs.follow.follow.Goals.{In_ok-try_entry}

-- what the entry does at the terms that the loop has
entry_stepped : (c : In_ok-try_entry) → (js : List Judgement) → AreFacts (set_modes c.args.given.now.rules.now) (base_trees c.loop-i.reader) js c.args.given.now.facts.now → IsStepped (set_modes c.args.given.now.rules.now) (rules_of c.args.given.now.rules.now) c.args.given.now.pairs.now c.loop-i.reader c.try_entry.new.reader c.loop-i.form c.loop-i.terms.items js c.in_ok-try_entry.field-0 (entry c.entry_at-entry.result)
entry_stepped c =
    subst (λ (ts : List ℕ). (js : List Judgement) → AreFacts (set_modes c.args.given.now.rules.now) (base_trees c.loop-i.reader) js c.args.given.now.facts.now →
    IsStepped (set_modes c.args.given.now.rules.now) (rules_of c.args.given.now.rules.now) c.args.given.now.pairs.now c.loop-i.reader c.try_entry.new.reader c.loop-i.form ts js c.in_ok-try_entry.field-0 (entry c.entry_at-entry.result)) c.deref.ensures.value c.in_ok-try_entry.ensures

pub try_entry-requires-clause-pairs : goal.try_entry-requires-clause-pairs
try_entry-requires-clause-pairs c = base_pairs (rules_of c.args.given.now.rules.now) c.args.reader.now c.loop-i.reader c.loop-i.invariant.grows c.args.given.now.pairs.now c.requires.pairs

pub try_entry-requires-clause-facts : goal.try_entry-requires-clause-facts
try_entry-requires-clause-facts c =
    (c.requires.facts.0, base_facts (set_modes c.args.given.now.rules.now) (rules_of c.args.given.now.rules.now) c.args.reader.now c.loop-i.reader c.loop-i.invariant.grows c.requires.facts.0 c.args.given.now.facts.now c.requires.facts.1)

pub returns-in-Clash-clause-followed : goal.returns-in-Clash-clause-followed
returns-in-Clash-clause-followed c =
    let h = entry_stepped (goal.at.returns-in-Clash-clause-followed c).In_ok-try_entry in
    wrong_entry (set_modes c.args.given.now.rules.now) (rules_of c.args.given.now.rules.now) c.args.given.now.facts.now c.args.given.now.pairs.now c.args.reader.now c.args.form c.args.terms.items c.args.list.now
    c.loop-i.reader c.try_entry.new.reader c.loop-i.i c.loop-i.form c.len-level.result c.loop-i.terms.items c.entry_at-entry.result c.in_ok-try_entry.field-0 c.requires.pairs c.loop-i.invariant c.loop-i-test.true c.entry_at-entry.ensures (let k = c.loop-i.reader.waiting.ok in let z = c.len-level.ensures in omega arith) h
    c.in-Clash.is (c.loop-i.i + 1) refl

pub returns-in-Err-clause-followed : goal.returns-in-Err-clause-followed
returns-in-Err-clause-followed c =
    let h = entry_stepped (goal.at.returns-in-Err-clause-followed c).In_ok-try_entry in
    done_refused (set_modes c.args.given.now.rules.now) (rules_of c.args.given.now.rules.now) c.args.given.now.facts.now c.args.given.now.pairs.now c.args.reader.now c.args.form c.args.terms.items c.args.list.now
    c.loop-i.reader c.try_entry.new.reader c.loop-i.i c.loop-i.form c.len-level.result c.loop-i.terms.items c.entry_at-entry.result c.in_ok-try_entry.field-0 c.requires.pairs c.loop-i.invariant c.loop-i-test.true c.entry_at-entry.ensures (let k = c.loop-i.reader.waiting.ok in let z = c.len-level.ensures in omega arith) h
    c.in-Done.outputs c.in-Done.is (c.loop-i.i + 1) refl c.in-Err.error c.in-Err.ensures

pub returns-then-i-list-clause-followed : goal.returns-then-i-list-clause-followed
returns-then-i-list-clause-followed c =
    let h = entry_stepped (goal.at.returns-then-i-list-clause-followed c).In_ok-try_entry in
    long_list (set_modes c.args.given.now.rules.now) (rules_of c.args.given.now.rules.now) c.args.given.now.facts.now c.args.given.now.pairs.now c.args.reader.now c.args.form c.args.terms.items c.args.list.now
    c.loop-i.reader c.try_entry.new.reader c.loop-i.i c.loop-i.form c.len-level.result c.loop-i.terms.items c.entry_at-entry.result c.in_ok-try_entry.field-0 c.requires.pairs c.loop-i.invariant c.loop-i-test.true c.entry_at-entry.ensures (let k = c.loop-i.reader.waiting.ok in let z = c.len-level.ensures in omega arith) h
    c.in-Done.outputs c.in-Done.is c.in_default.ensures.0 c.in_default.ensures.1 (c.loop-i.i + 1 + 1) (omega arith) c.if-i-list.true

pub returns-in-Done-clause-arena : goal.returns-in-Done-clause-arena
returns-in-Done-clause-arena c =
    let s = c.in_ok-try_entry.ensures c.requires.facts.0 (base_facts (set_modes c.args.given.now.rules.now) (rules_of c.args.given.now.rules.now) c.args.reader.now c.loop-i.reader c.loop-i.invariant.grows c.requires.facts.0 c.args.given.now.facts.now c.requires.facts.1) in
    s.0.reader.arena

pub returns-in-Done-clause-within : goal.returns-in-Done-clause-within
returns-in-Done-clause-within c =
    let h = entry_stepped (goal.at.returns-in-Done-clause-within c).In_ok-try_entry in
    done_below (set_modes c.args.given.now.rules.now) (rules_of c.args.given.now.rules.now) c.args.given.now.facts.now c.args.given.now.pairs.now c.args.reader.now c.args.form c.args.terms.items c.args.list.now
    c.loop-i.reader c.try_entry.new.reader c.loop-i.i c.loop-i.form c.len-level.result c.loop-i.terms.items c.entry_at-entry.result c.in_ok-try_entry.field-0 c.requires.pairs c.loop-i.invariant c.loop-i-test.true c.entry_at-entry.ensures (let k = c.loop-i.reader.waiting.ok in let z = c.len-level.ensures in omega arith) h
    c.in-Done.outputs c.in-Done.is c.requires.facts.0 c.requires.facts.1

pub returns-in-Done-clause-followed : goal.returns-in-Done-clause-followed
returns-in-Done-clause-followed c =
    let h = entry_stepped (goal.at.returns-in-Done-clause-followed c).In_ok-try_entry in
    whole_list (set_modes c.args.given.now.rules.now) (rules_of c.args.given.now.rules.now) c.args.given.now.facts.now c.args.given.now.pairs.now c.args.reader.now c.args.form c.args.terms.items c.args.list.now
    c.loop-i.reader c.try_entry.new.reader c.loop-i.i c.loop-i.form c.len-level.result c.loop-i.terms.items c.entry_at-entry.result c.in_ok-try_entry.field-0 c.requires.pairs c.loop-i.invariant c.loop-i-test.true c.entry_at-entry.ensures (let k = c.loop-i.reader.waiting.ok in let z = c.len-level.ensures in omega arith) h
    c.in-Done.outputs c.in-Done.is c.in_default.ensures.0 c.in_default.ensures.1 c.if-i-list.false

pub returns-in-Err-checked-clause-followed : goal.returns-in-Err-checked-clause-followed
returns-in-Err-checked-clause-followed c =
    let h = entry_stepped (goal.at.returns-in-Err-checked-clause-followed c).In_ok-try_entry in
    asks_refused (set_modes c.args.given.now.rules.now) (rules_of c.args.given.now.rules.now) c.args.given.now.facts.now c.args.given.now.pairs.now c.args.reader.now c.args.form c.args.terms.items c.args.list.now
    c.loop-i.reader c.try_entry.new.reader c.loop-i.i c.loop-i.form c.len-level.result c.loop-i.terms.items c.entry_at-entry.result c.in_ok-try_entry.field-0 c.requires.pairs c.loop-i.invariant c.loop-i-test.true c.entry_at-entry.ensures (let k = c.loop-i.reader.waiting.ok in let z = c.len-level.ensures in omega arith) h
    c.in-Asks.next c.in-Asks.made c.in-Asks.is (c.loop-i.i + 1) refl c.in-Err-checked.error c.in-Err-checked.ensures

pub loop-i-preserved : goal.loop-i-preserved
loop-i-preserved c =
    let h = entry_stepped (goal.at.loop-i-preserved c).In_ok-try_entry in
    following_more (set_modes c.args.given.now.rules.now) (rules_of c.args.given.now.rules.now) c.args.given.now.facts.now c.args.given.now.pairs.now c.args.reader.now c.args.form c.args.terms.items c.args.list.now
    c.loop-i.reader c.try_entry.new.reader c.loop-i.i c.loop-i.form c.len-level.result c.loop-i.terms.items c.entry_at-entry.result c.in_ok-try_entry.field-0 c.requires.pairs c.loop-i.invariant c.loop-i-test.true c.entry_at-entry.ensures (let k = c.loop-i.reader.waiting.ok in let z = c.len-level.ensures in omega arith) h
    c.in-Asks.next c.in-Asks.made c.in-Asks.is c.in_default-checked.ensures.0 c.in_default-checked.ensures.1 c.requires.facts.0 c.requires.facts.1

pub returns-clause-followed : goal.returns-clause-followed
returns-clause-followed c =
    followed_end (set_modes c.args.given.now.rules.now) (rules_of c.args.given.now.rules.now) c.args.given.now.facts.now c.args.given.now.pairs.now c.args.reader.now c.args.form c.args.terms.items c.args.list.now c.loop-i.reader c.loop-i.i c.loop-i.form c.loop-i.terms.items
    c.loop-i.invariant c.loop-i-test.false
