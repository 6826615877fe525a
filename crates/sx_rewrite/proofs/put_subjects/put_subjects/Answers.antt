use Rattle.std.proofs.Common.{rules, arith, ◌≡◌, ◌+◌, ◌<◌, ℕ, length, sym, subst}
use Rattle.sx_rules.specs.ProofView.{proof, boxed}
use Rattle.sx_rules.specs.Sets.{forms_in, bare_rules_in}
use Rattle.sx_rules.specs.Views.{hypotheses, subjects_in}
use Rattle.sx_rewrite.specs.declared.put_terms.PutTerms.{PutTerms}
use Rattle.sx_rewrite.specs.AcceptedView.{accepted}
use Rattle.sx_rewrite.specs.Stored.{certificate_at}
use Rattle.sx_rewrite.specs.Needed.{needed}
use Rattle.sx_rewrite.proofs.PutEach.{PutSoFar, put-start, apart-step, holds-within, skip-step, put-step, put-all, boxed-at}
use Rattle.sx_rewrite.proofs.put_subjects.put_subjects.Goals.{In-Holds, in-Holds, then-is_needed+in_ok-put_subject-in-Holds, else-is_needed, in-Apart}
use Rattle.sx_rewrite.proofs.put_subjects.put_subjects.Goals as goal

-- the kid of the premise is there
kid_is_there : (c : In-Holds) → c.loop-from.number < length c.args.kids.now
kid_is_there c =
    let l = holds-within (subjects_in (forms_in c.args.source.now.set.now.base)) (bare_rules_in c.args.source.now.set.now.base) (hypotheses c.args.source.now.given.now) (needed (certificate_at (accepted c.args.source.now.set.now) c.args.rule)) c.args.premises.now (boxed c.args.kids.now) c.loop-from.from-index c.loop-from.number c.args.puts.now c.loop-from.puts c.loop-from.invariant c.loop-from-test.true c.from-item.result c.from-item.is c.in-Holds.it c.in-Holds.is in
    let m = c.requires.many in omega (arith, l, m)

pub loop-from-init : goal.loop-from-init
loop-from-init c = put-start (subjects_in (forms_in c.args.source.now.set.now.base)) (bare_rules_in c.args.source.now.set.now.base) (hypotheses c.args.source.now.given.now) (needed (certificate_at (accepted c.args.source.now.set.now) c.args.rule)) c.args.premises.now (boxed c.args.kids.now) c.args.puts.now

pub bounds-kids-number : goal.bounds-kids-number
bounds-kids-number c =
    let n = kid_is_there (goal.at.bounds-kids-number c).In-Holds in omega (arith, n)

pub offset_bounds-kids-number : goal.offset_bounds-kids-number
offset_bounds-kids-number c =
    let n = kid_is_there (goal.at.offset_bounds-kids-number c).In-Holds in search (rules, n)

pub put_subject-requires-clause-ready : goal.put_subject-requires-clause-ready
put_subject-requires-clause-ready c =
    let n = kid_is_there (goal.at.put_subject-requires-clause-ready c).In-Holds in
    c.requires.ready c.loop-from.number (proof c.deref.result.now) (sym c.if-is_needed.ensures) (boxed-at c.args.kids.now c.loop-from.number _ c.deref.result.now n c.index-kids-number.is c.deref.ensures)

pub overflow_add-number : goal.overflow_add-number
overflow_add-number c =
    let n = kid_is_there (goal.at.overflow_add-number c).In-Holds in search (rules, n)

pub loop-from-preserved : goal.loop-from-preserved
loop-from-preserved c =
    let i = c.loop-from.from-index in
    let n = c.loop-from.number in
    let there : ℕ → PutTerms → Type 0 = (λ m puts. PutSoFar (subjects_in (forms_in c.args.source.now.set.now.base)) (bare_rules_in c.args.source.now.set.now.base) (hypotheses c.args.source.now.given.now) (needed (certificate_at (accepted c.args.source.now.set.now) c.args.rule)) c.args.premises.now (boxed c.args.kids.now) (i + 1) m c.args.puts.now puts) in
    let as_is : (m : ℕ) (puts : PutTerms) → m ≡ c.match-from.number → puts ≡ c.match-from.puts → there m puts → there c.match-from.number c.match-from.puts =
    (λ m puts e f h. subst (λ (x : PutTerms). there c.match-from.number x) f (subst (λ (x : ℕ). there x puts) e h)) in
    elim c.match-from.branch [
      | in-Holds w ↦ as_is (n + 1) w.if-is_needed.puts (sym w.number-is) (sym w.puts-is) (elim w.if-is_needed.branch [
        | then-is_needed+in_ok-put_subject-in-Holds v ↦ subst (λ (x : PutTerms). there (n + 1) x) (sym v.puts-is)
            (let l = holds-within (subjects_in (forms_in c.args.source.now.set.now.base)) (bare_rules_in c.args.source.now.set.now.base) (hypotheses c.args.source.now.given.now) (needed (certificate_at (accepted c.args.source.now.set.now) c.args.rule)) c.args.premises.now (boxed c.args.kids.now) c.loop-from.from-index c.loop-from.number c.args.puts.now c.loop-from.puts c.loop-from.invariant c.loop-from-test.true c.from-item.result c.from-item.is w.in-Holds.it w.in-Holds.is in
            let m = c.requires.many in
            let k : n < length c.args.kids.now = omega (arith, l, m) in
            put-step (subjects_in (forms_in c.args.source.now.set.now.base)) (bare_rules_in c.args.source.now.set.now.base) (hypotheses c.args.source.now.given.now) (needed (certificate_at (accepted c.args.source.now.set.now) c.args.rule)) c.args.premises.now (boxed c.args.kids.now) c.loop-from.from-index c.loop-from.number c.args.puts.now c.loop-from.puts c.loop-from.invariant c.loop-from-test.true c.from-item.result c.from-item.is w.in-Holds.it w.in-Holds.is c.requires.bare (proof v.deref.result.now)
            (boxed-at c.args.kids.now n _ v.deref.result.now k v.index-kids-number.is v.deref.ensures) v.put_subject.new.puts v.in_ok-put_subject-in-Holds.ensures)
        | else-is_needed v ↦ subst (λ (x : PutTerms). there (n + 1) x) (sym v.puts-is)
            (skip-step (subjects_in (forms_in c.args.source.now.set.now.base)) (bare_rules_in c.args.source.now.set.now.base) (hypotheses c.args.source.now.given.now) (needed (certificate_at (accepted c.args.source.now.set.now) c.args.rule)) c.args.premises.now (boxed c.args.kids.now) c.loop-from.from-index c.loop-from.number c.args.puts.now c.loop-from.puts c.loop-from.invariant c.loop-from-test.true c.from-item.result c.from-item.is w.in-Holds.it w.in-Holds.is c.requires.bare (sym v.if-is_needed.ensures))
      ])
      | in-Apart w ↦ as_is n c.loop-from.puts (sym w.number-is) (sym w.puts-is) (apart-step (subjects_in (forms_in c.args.source.now.set.now.base)) (bare_rules_in c.args.source.now.set.now.base) (hypotheses c.args.source.now.given.now) (needed (certificate_at (accepted c.args.source.now.set.now) c.args.rule)) c.args.premises.now (boxed c.args.kids.now) c.loop-from.from-index c.loop-from.number c.args.puts.now c.loop-from.puts c.loop-from.invariant c.loop-from-test.true c.from-item.result c.from-item.is w.in-Apart.field-0 w.in-Apart.field-1 w.in-Apart.is)
    ]

pub returns : goal.returns
returns c = put-all (subjects_in (forms_in c.args.source.now.set.now.base)) (bare_rules_in c.args.source.now.set.now.base) (hypotheses c.args.source.now.given.now) (needed (certificate_at (accepted c.args.source.now.set.now) c.args.rule)) c.args.premises.now (boxed c.args.kids.now) c.loop-from.from-index c.loop-from.number c.args.puts.now c.loop-from.puts c.loop-from.invariant c.loop-from-test.false (length c.args.kids.now) c.requires.many
