use Rattle.std.proofs.Common.{sym, ◌∙◌}
use Rattle.std.proofs.Math.Logic.{∥∥₁_map}
use Rattle.sx_forest.proofs.Reaching.{still_reached, reached_added}
use Rattle.sx_forest.proofs.entries.Entries.put.Goals as goal

pub invariant_of-self : goal.invariant_of-self
invariant_of-self c = let t = c.args.self.now in record {
  reached = ∥∥₁_map t.reached (still_reached t.lists.items t.ends.lists.items t.starts.lists.items c.put.new.self.lists.items t.starts.lists.items c.put.ensures.kept (λ q m p h. h));
  ends_long = c.put.ensures.same ∙ t.ends_long;
  starts_long = t.starts_long;
}

pub invariant_of-self-in-Break-branch-2 : goal.invariant_of-self-in-Break-branch-2
invariant_of-self-in-Break-branch-2 c = let t = c.args.self.now in record {
  reached = ∥∥₁_map t.reached (still_reached t.lists.items t.ends.lists.items t.starts.lists.items c.put.new.self.lists.items c.put-2.new.self.lists.items c.put.ensures.kept c.put-2.ensures.kept);
  ends_long = c.put.ensures.same ∙ t.ends_long;
  starts_long = c.put-2.ensures.same ∙ t.starts_long;
}

pub invariant_of-self-2 : goal.invariant_of-self-2
invariant_of-self-2 c =
    let t = c.args.self.now in let new = c.add.new.lists.items in
    let ends = c.put.new.self.lists.items in let starts = c.put-2.new.self.lists.items in let added = c.add.ensures in
    record {
      reached = ∥∥₁_map t.reached (λ h. reached_added c.add.result t.lists.items new ends starts c.args.place c.args.entry added.same added.there added.failed added.others
          (still_reached t.lists.items t.ends.lists.items t.starts.lists.items ends starts c.put.ensures.kept c.put-2.ensures.kept h) c.in_ok-put.ensures.here c.in_ok-put-2.ensures.here);
      ends_long = c.put.ensures.same ∙ (t.ends_long ∙ sym added.same);
      starts_long = c.put-2.ensures.same ∙ (t.starts_long ∙ sym added.same);
    }
