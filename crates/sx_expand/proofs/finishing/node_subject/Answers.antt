use Rattle.std.proofs.Common.{◌≡◌, ℕ, List, length, map, sym, ap, ◌∙◌, subst}
use Rattle.std.proofs.lemmas.List.{length-map}
use Rattle.sx_term.specs.Tree.{Tree, forest}
use Rattle.sx_rules.specs.Deep.{AreShallow}
use Rattle.sx_rules.specs.Sets.{bare_rules_in}
use Rattle.sx_plain.specs.Tables.{FitTable}
use Rattle.sx_arena.specs.Arena.{tree_at}
use Rattle.sx_expand.specs.Readings.{set_by}
use Rattle.sx_expand.specs.ReadNodes.{NodeData, IsNodeIn, IsNodeRead}
use Rattle.sx_expand.specs.Readers.{terms_in}
use Rattle.sx_expand.proofs.NodeAnswers.{kids-have-subjects, node-of, subject-read}
use Rattle.sx_expand.proofs.finishing.node_subject.Goals.{After-deref}
use Rattle.sx_expand.proofs.finishing.node_subject.Goals as goal

-- the terms that are bound
bound-are : (c : After-deref) → (d : NodeData) → IsNodeIn c.args.reading.now c.args.node.now d → IsNodeRead c.args.reading.now c.args.node.now (terms_in c.args.reader.now) c.args.work.now c.args.subjects.now d →
    map (tree_at (terms_in c.args.reader.now)) c.deref.result.now ≡ d.binds
bound-are c d is read = ap (λ (ns : List ℕ). map (tree_at (terms_in c.args.reader.now)) ns) c.deref.ensures.value ∙ c.in_ok-bound.ensures.terms d is read.followed

pub lower_node-subject-requires-clause-node : goal.lower_node-subject-requires-clause-node
lower_node-subject-requires-clause-node c =
    let l = c.args.reading.now in
    let n = c.requires.node in
    node-of l c.requires.reading c.args.node.now c.if-not-node.false n.0 n.1 (terms_in c.args.reader.now) c.args.work.now c.args.subjects.now n.2 (bare_rules_in l.rules.now) c.requires.reading.rules.rules_are
    (length c.deref.result.now) (sym (length-map c.deref.result.now (tree_at (terms_in c.args.reader.now))) ∙ ap length (bound-are c n.0 n.1 n.2))

pub lower_node-subject-requires-clause-shallow : goal.lower_node-subject-requires-clause-shallow
lower_node-subject-requires-clause-shallow c = let n = c.requires.node in subst AreShallow (sym (bound-are c n.0 n.1 n.2)) n.1.can.binds.0

pub lower_node-subject-requires-clause-fit : goal.lower_node-subject-requires-clause-fit
lower_node-subject-requires-clause-fit c = let n = c.requires.node in subst (λ (ts : List Tree). FitTable (set_by c.args.reading.now).table (forest ts)) (sym (bound-are c n.0 n.1 n.2)) n.1.can.fit.0

pub lower_node-subject-requires-clause-kids : goal.lower_node-subject-requires-clause-kids
lower_node-subject-requires-clause-kids c =
    let l = c.args.reading.now in
    let n = c.requires.node in
    kids-have-subjects l c.requires.reading c.args.node.now c.if-not-node.false n.0 n.1 (terms_in c.args.reader.now) c.args.work.now c.args.subjects.now n.2

pub returns-clause-read : goal.returns-clause-read
returns-clause-read c = λ d is read.
    let l = c.args.reading.now in
    subject-read l c.requires.reading c.args.node.now c.if-not-node.false d is (terms_in c.args.reader.now) c.args.work.now c.args.subjects.now read
    (terms_in c.lower_node-subject.new.reader) (map (tree_at (terms_in c.args.reader.now)) c.deref.result.now) (bound-are c.before.before d is read) c.lower_node-subject.result c.lower_node-subject.ensures.lowered
