use Rattle.std.proofs.Common.{◌≡◌, set, refl, sym, subst, length-set}
use Rattle.std.proofs.lemmas.Result.{on_ok_weaker}
use Rattle.sx_forest.specs.Reached.{HasReach, reaches_at}
use Rattle.sx_forest.proofs.Reaching.{reached_there, reached_kept, reached_got}
use Rattle.sx_forest.proofs.reaches.Reaches.put.Goals as goal

pub returns : goal.returns
returns c =
    let lists = c.args.self.now.lists.items in let new = set lists c.args.from c.note.new.reaches in let v = c.index_mut.result.now in
    let got : reaches_at lists c.args.from ≡ v.items = reached_got lists c.args.from v c.requires.inside c.index_mut.ensures.value in
    record {
      same = length-set lists c.args.from c.note.new.reaches;
      kept = reached_kept lists new c.args.from c.note.new.reaches c.requires.inside refl (λ m p h. c.note.ensures.kept m p (subst (λ l. HasReach l m p) got h));
      here = on_ok_weaker c.note.result (λ h. subst (λ l. HasReach l c.args.maker c.args.place) (sym (reached_there lists new c.args.from c.note.new.reaches c.requires.inside refl)) h) c.note.ensures.here;
    }
