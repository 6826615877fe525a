-- A problem in a new reader, and what is answered of it.
use Rattle.std.proofs.Common.{◌≡◌, ℕ, List, [], map, length, ◌∙◌, refl, sym, ap, arith, subst}
use Rattle.std.specs.Prelude.{Result, Ok, Err, Vec, take}
use Rattle.std.proofs.Math.Seq.{take-length}
use Rattle.std.specs.declared.alloc.Global.{Global}
use Rattle.sx_term.specs.Tree.{Tree}
use Rattle.sx_term.specs.Term.{tree}
use Rattle.sx_term.specs.declared.term.Term.{Term}
use Rattle.sx_rules.specs.Rules.{Rule, Hypotheses}
use Rattle.sx_rules.specs.Modes.{Modes, Goal, AllModed}
use Rattle.sx_rules.specs.Orders.{Entry}
use Rattle.sx_arena.specs.declared.arena.Arena.{Arena}
use Rattle.sx_arena.specs.Arena.{trees, tree_at}
use Rattle.sx_arena.specs.Entered.{AreFactsIn, ArePairsIn}
use Rattle.sx_arena.specs.Facts.{AreFacts}
use Rattle.sx_arena.specs.Pairs.{ArePairs}
use Rattle.sx_arena.specs.Places.{AreHeld}
use Rattle.sx_arena.proofs.Facts.{facts_stay}
use Rattle.sx_arena.proofs.Growing.{extends-then, extends-length}
use Rattle.sx_arena.proofs.Parted.{pairs_more_terms, pairs_stay}
use Rattle.sx_replay.specs.declared.reader.Reader.{Reader}
use Rattle.sx_replay.specs.declared.reader.Waiting.{Waiting}
use Rattle.sx_replay.specs.declared.replaying.Problem.{Problem}
use Rattle.sx_replay.specs.declared.replay_error.ReplayError.{ReplayError}
use Rattle.sx_replay.specs.Limits.{nothing_noted}
use Rattle.sx_replay.specs.Fronts.{whole}
use Rattle.sx_replay.specs.Reader.{reader_trees, base_trees, AreKept, IsReplayReader, replay_hypotheses}
use Rattle.sx_replay.specs.Reader.{replay_goal}
use Rattle.sx_replay.specs.Problem.{IsReplayProblem}
use Rattle.sx_replay.specs.Following.{IsFollowed}
use Rattle.sx_replay.specs.Replay.{IsWithin, IsReplayed}
use Rattle.sx_replay.proofs.Readers.{grows_terms}
use Rattle.sx_replay.proofs.Answered.{whole_within, refusal_is}

pub problem_is : (modes : Modes) (rules : List Rule) (hyps : Hypotheses) (terms : List Tree) (s : Reader) (a b : Arena) (p : Problem) → IsReplayReader rules s → s.waiting.items ≡ [] → s.noted ≡ nothing_noted →
    AreFactsIn modes s.arena a hyps.judgements p.facts.items → ArePairsIn a b hyps.pairs p.pairs.items → AreHeld b p.reader.arena p.terms.items terms →
    p.reader.binds ≡ s.binds → p.reader.waiting.items ≡ s.waiting.items → p.reader.noted ≡ s.noted → p.reader.base ≡ length (trees p.reader.arena) → IsReplayProblem modes rules hyps terms p
problem_is modes rules hyps terms s a b p h sw sn f q t eb ew en ez =
    let c = p.reader.arena in
    let xb = t.extends in
    let xa = extends-then (trees a) (trees b) (trees c) q.extends xb in
    let xs = extends-then (trees s.arena) (trees a) (trees c) f.extends xa in
    let before : Reader = record { arena = c; binds = p.reader.binds; waiting = p.reader.waiting; noted = p.reader.noted; base = s.base } in
    let g = (grows_terms rules s before h t.arena xs eb ew refl).reader in
    let all : base_trees p.reader ≡ trees c = ap (λ (n : ℕ). take n (trees c)) ez ∙ take-length (trees c) in
    record {
      reader = record {
        arena = t.arena;
        binds = g.binds;
        waiting = g.waiting;
        base = (omega arith);
        kept = subst (λ (cs : List Waiting). AreKept p.reader.base p.reader.binds.cells.items cs) (sym (ew ∙ sw)) tt;
      };
      none_waits = ew ∙ sw;
      noted = en ∙ sn;
      facts = subst (λ (ts : List Tree). AreFacts modes ts hyps.judgements p.facts.items) (sym all) (facts_stay modes (trees a) (trees c) xa hyps.judgements p.facts.items f.are);
      pairs = subst (λ (ts : List Tree). ArePairs (length ts) p.pairs.items) (sym all) (pairs_more_terms (length (trees b)) (length (trees c)) (extends-length (trees b) (trees c) xb) p.pairs.items q.within);
      pairs_are = pairs_stay (trees b) (trees c) xb p.pairs.items q.within ∙ q.are;
      terms_below = t.within;
      terms_are = t.are;
    }

module _ (modes : Modes) (rules : List Rule) (hyps : Hypotheses) (moded : AllModed modes rules) (form : ℕ) (terms : List Tree) (p : Problem) (h : IsReplayProblem modes rules hyps terms p) (list : List Entry) (new : Reader) where
  abbrev goal : Goal
  goal = record { form = form; terms = terms }

  followed_as : (r : Result (Vec ℕ Global) ReplayError) → IsFollowed modes rules (replay_hypotheses p.pairs.items p.reader hyps.judgements) (replay_goal p.reader form p.terms.items) list new r → IsFollowed modes rules hyps goal list new r
  followed_as r f =
      subst (λ (ts : List Tree). IsFollowed modes rules hyps (let g : Goal = record { form = form; terms = ts } in g) list new r) h.terms_are
      (subst (λ (ps : List (Tree × Tree)). IsFollowed modes rules (let x : Hypotheses = record { judgements = hyps.judgements; pairs = ps } in x) (replay_goal p.reader form p.terms.items) list new r) h.pairs_are f)

  pub replayed_ok : (outs : Vec ℕ Global) (made : Vec Term Global) → IsFollowed modes rules (replay_hypotheses p.pairs.items p.reader hyps.judgements) (replay_goal p.reader form p.terms.items) list new (Ok outs) →
      map tree made.items ≡ map (tree_at (reader_trees new)) outs.items → IsReplayed modes rules hyps goal list (Ok made)
  replayed_ok outs made f e =
      let w = whole_within modes rules hyps moded goal list (map (tree_at (reader_trees new)) outs.items) (followed_as (Ok outs) f) in
      subst (λ (ts : List Tree). IsWithin modes rules hyps goal (whole ts) list) (sym e) w

  pub replayed_err : (err : ReplayError) → IsFollowed modes rules (replay_hypotheses p.pairs.items p.reader hyps.judgements) (replay_goal p.reader form p.terms.items) list new (Err err) → IsReplayed modes rules hyps goal list (Err err)
  replayed_err err f = refusal_is modes rules hyps moded goal list err (followed_as (Err err) f)
