use Rattle.std.proofs.Common.{map, Ok, Err, sym, ap, subst, ◌∙◌}
use Rattle.sx_rules.specs.Views.{hypotheses, goal as goal_of}
use Rattle.sx_rules.specs.EntryView.{entries}
use Rattle.sx_arena.specs.Arena.{tree_at}
use Rattle.sx_arena.specs.Facts.{AreFacts}
use Rattle.sx_arena.specs.Views.{rules_of, set_modes}
use Rattle.sx_replay.specs.Following.{IsFollowed}
use Rattle.sx_replay.specs.Reader.{reader_trees, base_trees, replay_hypotheses, replay_goal}
use Rattle.sx_replay.proofs.Started.{replayed_ok, replayed_err}
use Rattle.sx_replay.proofs.replaying.replay.Goals as goal

pub returns-in-Ok-exported : goal.returns-in-Ok-exported
returns-in-Ok-exported c =
    let m = set_modes c.args.rules.now in
    let rs = rules_of c.args.rules.now in
    let p = c.in-Ok.problem in
    let h = c.in-Ok.ensures in
    let hyps = hypotheses c.args.given.now in
    replayed_ok m rs hyps c.facts.ensures.moded c.args.goal.now.form (goal_of c.args.goal.now).terms p h (entries c.args.list.now) c.follow.new.reader c.in-Ok-follow.outputs c.in-Ok-exported.terms
    (subst (λ ps. IsFollowed m rs (replay_hypotheses ps p.reader hyps.judgements) (replay_goal p.reader c.args.goal.now.form p.terms.items) (entries c.args.list.now) c.follow.new.reader (Ok c.in-Ok-follow.outputs)) c.deref-2.ensures.value
    (c.in-Ok-follow.ensures.followed hyps.judgements (subst (λ fs. AreFacts m (base_trees p.reader) hyps.judgements fs) (sym c.deref.ensures.value) h.facts)))
    (c.in-Ok-exported.ensures ∙ ap (map (tree_at (reader_trees c.follow.new.reader))) c.deref-in-Ok-follow.ensures.value)

pub returns-in-Err : goal.returns-in-Err
returns-in-Err c =
    let m = set_modes c.args.rules.now in
    let rs = rules_of c.args.rules.now in
    let p = c.in-Ok.problem in
    let h = c.in-Ok.ensures in
    let hyps = hypotheses c.args.given.now in
    replayed_err m rs hyps c.facts.ensures.moded c.args.goal.now.form (goal_of c.args.goal.now).terms p h (entries c.args.list.now) c.follow.new.reader c.in-Err.error
    (subst (λ ps. IsFollowed m rs (replay_hypotheses ps p.reader hyps.judgements) (replay_goal p.reader c.args.goal.now.form p.terms.items) (entries c.args.list.now) c.follow.new.reader (Err c.in-Err.error)) c.deref-2.ensures.value
    (c.in-Err.ensures.followed hyps.judgements (subst (λ fs. AreFacts m (base_trees p.reader) hyps.judgements fs) (sym c.deref.ensures.value) h.facts)))
