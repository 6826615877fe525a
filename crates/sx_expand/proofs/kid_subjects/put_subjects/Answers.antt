use Rattle.std.proofs.Common.{rules, arith, ◌≡◌, ◌+◌, ◌<◌, ℕ, length, sym, subst, List, Option}
use Rattle.sx_term.specs.Tree.{Tree}
use Rattle.sx_rules.specs.declared.rule_set.RuleSet.{RuleSet}
use Rattle.sx_rules.specs.Derivations.{Proof}
use Rattle.sx_rules.specs.Rules.{Hypotheses}
use Rattle.sx_rules.specs.Sets.{forms_in, bare_rules_in}
use Rattle.sx_rules.specs.Views.{judgement, subjects_in}
use Rattle.sx_arena.specs.Arena.{trees}
use Rattle.sx_rewrite.specs.AcceptedView.{accepted}
use Rattle.sx_rewrite.specs.Stored.{certificate_at}
use Rattle.sx_rewrite.specs.Needed.{needed}
use Rattle.sx_rewrite.specs.PutSubjects.{IsSubjectPut}
use Rattle.sx_expand.specs.declared.put_numbers.PutNumbers.{PutNumbers}
use Rattle.sx_expand.specs.KidSubjects.{IsKidSubject}
use Rattle.sx_expand.specs.Put.{ArePutAt}
use Rattle.sx_expand.proofs.KidsPut.{KidsSoFar, kids-start, apart-next, next-within, skip-next, put-next, kids-end, proof-within}
use Rattle.sx_expand.proofs.kid_subjects.put_subjects.Goals.{In-Holds, in-Holds, then-is_needed, else-is_needed, in-Apart}
use Rattle.sx_expand.proofs.kid_subjects.put_subjects.Goals as goal

-- the subject of the premise is there
subject_is_there : (c : In-Holds) → c.loop-from.number < length c.args.subjects.now
subject_is_there c =
    let l = next-within (subjects_in (forms_in c.args.set.now.base)) (bare_rules_in c.args.set.now.base) (needed (certificate_at (accepted c.args.set.now) c.args.rule)) (trees c.args.arena.now) c.args.premises.now c.args.subjects.now
    c.loop-from.from-index c.loop-from.number c.args.puts.now c.loop-from.puts c.loop-from.invariant c.loop-from-test.true c.from-item.result c.from-item.is c.in-Holds.it c.in-Holds.is in
    let m = c.requires.many in omega (arith, l, m)

pub loop-from-init : goal.loop-from-init
loop-from-init c = kids-start (subjects_in (forms_in c.args.set.now.base)) (bare_rules_in c.args.set.now.base) (needed (certificate_at (accepted c.args.set.now) c.args.rule)) (trees c.args.arena.now) c.args.premises.now c.args.subjects.now c.args.puts.now

pub subject_at-requires : goal.subject_at-requires
subject_at-requires c =
    let n = subject_is_there (goal.at.subject_at-requires c).In-Holds in omega (arith, n)

pub put_subject-requires-clause-kid : goal.put_subject-requires-clause-kid
put_subject-requires-clause-kid c =
    let l = subject_is_there (goal.at.put_subject-requires-clause-kid c).In-Holds in
    let m = c.requires.many in
    let r = c.requires.kids in
    let n = r.2.many in
    let q = proof-within r.1 c.loop-from.number (omega (arith, l, m, n)) in
    let is = r.2.each c.loop-from.number q.0 (sym c.if-is_needed.ensures) q.1 in
    let ts = trees c.args.arena.now in
    subst (λ (b : RuleSet). (x : Hypotheses) × (x' : Proof) × IsKidSubject (subjects_in (forms_in b)) (bare_rules_in b) x ts x' c.subject_at.result) (sym c.base_rules.ensures)
    (subst (λ (o : Option ℕ). (x : Hypotheses) × (x' : Proof) × IsKidSubject (subjects_in (forms_in c.args.set.now.base)) (bare_rules_in c.args.set.now.base) x ts x' o) (sym c.subject_at.ensures) (r.0, q.0, is))

pub overflow_add-number : goal.overflow_add-number
overflow_add-number c =
    let n = subject_is_there (goal.at.overflow_add-number c).In-Holds in search (rules, n)

pub loop-from-preserved : goal.loop-from-preserved
loop-from-preserved c =
    let subjects = subjects_in (forms_in c.args.set.now.base) in
    let base = bare_rules_in c.args.set.now.base in
    let need = needed (certificate_at (accepted c.args.set.now) c.args.rule) in
    let ts = trees c.args.arena.now in
    let ps = c.args.premises.now in
    let ns = c.args.subjects.now in
    let i = c.loop-from.from-index in
    let n = c.loop-from.number in
    let there : ℕ → PutNumbers → Type 0 = (λ m puts. KidsSoFar subjects base need ts ps ns (i + 1) m c.args.puts.now puts) in
    let as_is : (m : ℕ) (puts : PutNumbers) → m ≡ c.match-from.number → puts ≡ c.match-from.puts → there m puts → there c.match-from.number c.match-from.puts =
    (λ m puts e f h. subst (λ (x : PutNumbers). there c.match-from.number x) f (subst (λ (x : ℕ). there x puts) e h)) in
    elim c.match-from.branch [
      | in-Holds w ↦ as_is (n + 1) w.if-is_needed.puts (sym w.number-is) (sym w.puts-is) (elim w.if-is_needed.branch [
        | then-is_needed v ↦ subst (λ (x : PutNumbers). there (n + 1) x) (sym v.puts-is)
            (put-next subjects base need ts ps ns i n c.args.puts.now c.loop-from.puts c.loop-from.invariant c.loop-from-test.true c.from-item.result c.from-item.is w.in-Holds.it w.in-Holds.is c.requires.bare (sym v.if-is_needed.ensures) c.requires.many v.put_subject.new.puts
            (λ hyps kid is.
            subst (λ (b : RuleSet). (old : List Tree) → ArePutAt ts old c.loop-from.puts.numbers.items c.loop-from.puts.measures.items → (more : List Tree) × ArePutAt ts more v.put_subject.new.puts.numbers.items v.put_subject.new.puts.measures.items
            × IsSubjectPut (subjects_in (forms_in b)) (bare_rules_in b) hyps (judgement w.in-Holds.it) kid old more) v.base_rules.ensures
            (v.put_subject.ensures hyps kid
            (subst (λ (b : RuleSet). IsKidSubject (subjects_in (forms_in b)) (bare_rules_in b) hyps ts kid v.subject_at.result) (sym v.base_rules.ensures)
            (subst (λ (o : Option ℕ). IsKidSubject subjects base hyps ts kid o) (sym v.subject_at.ensures) is)))))
        | else-is_needed v ↦ subst (λ (x : PutNumbers). there (n + 1) x) (sym v.puts-is)
            (skip-next subjects base need ts ps ns i n c.args.puts.now c.loop-from.puts c.loop-from.invariant c.loop-from-test.true c.from-item.result c.from-item.is w.in-Holds.it w.in-Holds.is c.requires.bare (sym v.if-is_needed.ensures))
      ])
      | in-Apart w ↦ as_is n c.loop-from.puts (sym w.number-is) (sym w.puts-is)
          (apart-next subjects base need ts ps ns i n c.args.puts.now c.loop-from.puts c.loop-from.invariant c.loop-from-test.true c.from-item.result c.from-item.is w.in-Apart.field-0 w.in-Apart.field-1 w.in-Apart.is)
    ]

pub returns : goal.returns
returns c = λ hyps kids is old h.
    kids-end (subjects_in (forms_in c.args.set.now.base)) (bare_rules_in c.args.set.now.base) (needed (certificate_at (accepted c.args.set.now) c.args.rule)) (trees c.args.arena.now) c.args.premises.now c.args.subjects.now
    c.loop-from.from-index c.loop-from.number c.args.puts.now c.loop-from.puts c.loop-from.invariant c.loop-from-test.false (length c.args.subjects.now) c.requires.many hyps kids is old h
