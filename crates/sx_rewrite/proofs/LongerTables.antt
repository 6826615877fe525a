-- An accepted set with a longer table: derivations with terms before it are rewritten alike.
use Rattle.std.proofs.Common.{◌≡◌, ℕ, ◌<◌, ◌≤◌, ◌-◌, ◌^◌, min, List, [], ◌∷◌, map, length, Option, Some, None, refl, sym, ap, ◌∙◌, subst}
use Rattle.std.specs.Prelude.{slice_get, Result, Ok, Err}
use Rattle.sx_term.specs.Tree.{Tree}
use Rattle.sx_term.specs.declared.sort.Sort.{Sort}
use Rattle.sx_term.specs.Sorts.{Shape, HaveSorts}
use Rattle.sx_rules.specs.Instances.{bound_by}
use Rattle.sx_rules.specs.Rules.{Judgement, Rule, Hypotheses, judgement_instance}
use Rattle.sx_rules.specs.Modes.{Modes}
use Rattle.sx_rules.specs.Sorts.{FormSorts, RuleIsSorted, RulesAreSorted, ProofIsSorted, ProofsAreSorted}
use Rattle.sx_rules.specs.Derivations.{Proof, Proofs, by, given, no_more, ◌⊳◌}
use Rattle.sx_plain.specs.Plain.{Table}
use Rattle.sx_rewrite.specs.declared.lowered.Lowered.{Lowered}
use Rattle.sx_rewrite.specs.declared.rewrite_error.RewriteError.{RewriteError}
use Rattle.sx_rewrite.specs.declared.rewrite_error.RewriteError.TheVariants.{Memory, RewriteSpent, RewriteDeep, TooDeep, TooBig}
use Rattle.sx_rewrite.specs.Accepted.{Checked, Known, basic, checked, rule_in, Accepted, known_of, extended_rules}
use Rattle.sx_rewrite.specs.CheckLaws.{PlainRulesStay, LongerTablesRewriteAlike}
use Rattle.sx_rewrite.specs.Copied.{copied, copied_of, copied_at}
use Rattle.sx_rewrite.specs.Extensions.{with_table}
use Rattle.sx_rewrite.specs.Lowers.{AreLoweredBinds, LowersTo, Lowers, LowersEach}
use Rattle.sx_rewrite.specs.Measured.{Measures, MeasuresEach, terms_at}
use Rattle.sx_rewrite.specs.PlainRules.{plain_checked}
use Rattle.sx_rewrite.specs.RewrittenView.{rewritten, IsRewriting}
use Rattle.sx_rewrite.specs.Rewriting.{RewriteRefusal, spent, deep, too_deep, too_big, Rewritten, FirstOver, IsRewritten}
use Rattle.sx_rewrite.specs.Used.{lowered_nodes, lowered_nodes_of, lowered_height, lowered_heights_of, nodes_at, height_at}
use Rattle.sx_rewrite.proofs.Growing.{same-image, same-flat, sorted-more}
use Rattle.sx_rewrite.proofs.Known.{rule-at, sorted-at}
use Rattle.sx_rewrite.proofs.LoweredSorted.{sorts-at}
use Rattle.sx_rewrite.proofs.PlainGood.{rule-same}

-- plain rules stay
all-checked : (shapes : List Shape) (forms : FormSorts) (subjects : Modes) (table other : Table) → ((label : ℕ) → label < length shapes → table label ≡ other label) →
    (cs : List Checked) → RulesAreSorted shapes forms (map rule_in (map checked cs)) → map (plain_checked other) cs ≡ map (plain_checked table) cs
all-checked shapes forms subjects table other keeps [] h = refl
all-checked shapes forms subjects table other keeps (c ∷ cs) h =
    let a = sym (rule-same shapes forms subjects table other keeps c.rule h.0) in
    let b = all-checked shapes forms subjects table other keeps cs h.1 in
    λ i. record { rule = a i; body = c.body; proof = c.proof } ∷ b i

pub plain_rules_stay : PlainRulesStay
plain_rules_stay sig base shapes a ok table keeps =
    let sorted = sorted-more shapes sig.forms a.base (map checked a.more) ok.sorted in
    let more = all-checked shapes sig.forms sig.subjects a.table table keeps a.more sorted in
    λ i. record { base = a.base; more = more i; table = table }

-- what is counted is counted without the table
module _ (a : Accepted) (table : Table) where
  abbrev b : Accepted
  b = with_table a table

  mutual
    nodes : (p : Proof) → lowered_nodes b p ≡ lowered_nodes a p
    nodes (by r binds kids) = ap (nodes_at (slice_get (known_of a) r)) (all_nodes kids)
    nodes (given i) = refl

    all_nodes : (ps : Proofs) → lowered_nodes_of b ps ≡ lowered_nodes_of a ps
    all_nodes no_more = refl
    all_nodes (p ⊳ ps) = let h = nodes p in let k = all_nodes ps in λ i. h i ∷ k i

  mutual
    height : (p : Proof) → lowered_height b p ≡ lowered_height a p
    height (by r binds kids) = ap (height_at (slice_get (known_of a) r)) (all_height kids)
    height (given i) = refl

    all_height : (ps : Proofs) → lowered_heights_of b ps ≡ lowered_heights_of a ps
    all_height no_more = refl
    all_height (p ⊳ ps) = let h = height p in let k = all_height ps in λ i. h i ∷ k i

  mutual
    copies : (p : Proof) → copied b p ≡ copied a p
    copies (by r binds kids) = let n = all_nodes kids in let c = all_copies kids in λ i. copied_at (slice_get (known_of a) r) (n i) (c i)
    copies (given i) = refl

    all_copies : (ps : Proofs) → copied_of b ps ≡ copied_of a ps
    all_copies no_more = refl
    all_copies (p ⊳ ps) = let h = copies p in let k = all_copies ps in λ i. h i ∷ k i

-- lowering by tables that agree at the labels of the shapes
module _ (shapes : List Shape) (forms : FormSorts) (subjects : Modes) (a : Accepted) (table : Table) (keeps : (label : ℕ) → label < length shapes → a.table label ≡ table label)
    (sorted : RulesAreSorted shapes forms (extended_rules a)) (vars : List Sort) (hyps : Hypotheses) where
  abbrev after : Accepted
  after = with_table a table

  binds-alike : (rule : Rule) (binds more : List Tree) (ks : List Judgement) → HaveSorts shapes vars binds rule.sorts → AreLoweredBinds a.table subjects rule binds more ks → AreLoweredBinds table subjects rule binds more ks
  binds-alike rule binds more ks h x = record {
    many = x.many;
    images = λ v u. x.images v u ∙ same-image shapes forms subjects a.table table keeps vars (bound_by binds v) u.0 (sorts-at shapes vars binds rule.sorts v u.0 h u.1);
    subjects_are = x.subjects_are;
  }

  to-alike : (known : Known) (r : ℕ) (more : List Tree) (qs : Proofs) (q : Proof) (k : Judgement) → RuleIsSorted shapes forms (rule_in known) → LowersTo a.table subjects known r more qs q k → LowersTo table subjects known r more qs q k
  to-alike (basic rule) r more qs q k h l = l
  to-alike (checked c) r more qs q k h l =
      (l.0, l.1 ∙ ap (judgement_instance (bound_by more)) (same-flat shapes forms subjects a.table table keeps c.rule.sorts c.body c.rule.conclusion h.0))

  -- the bindings of a node have the sorts of its rule, as it is known
  own-sorts : (r : ℕ) (known : Known) (rule : Rule) (binds : List Tree) → slice_get (known_of a) r ≡ Some known → slice_get (extended_rules a) r ≡ Some rule → HaveSorts shapes vars binds rule.sorts → HaveSorts shapes vars binds (rule_in known).sorts
  own-sorts r known rule binds at_k at_r h =
      let same_some : Some rule ≡ Some (rule_in known) = sym at_r ∙ rule-at (known_of a) r known at_k in
      let same : rule ≡ rule_in known = cc in
      subst (λ (x : Rule). HaveSorts shapes vars binds x.sorts) same h

  mutual
    lowers-alike : (p q : Proof) (k : Judgement) → ProofIsSorted shapes (extended_rules a) vars p → Lowers a subjects hyps p q k → Lowers after subjects hyps p q k
    lowers-alike (given i) q k h l = l
    lowers-alike (by r binds kids) q k (rule, at_r, h, kids_sorted) (known, qs, ks, more, at_k, each, x, to) = (
      known,
      qs,
      ks,
      more,
      at_k,
      each-alike kids qs ks kids_sorted each,
      binds-alike (rule_in known) binds more ks (own-sorts r known rule binds at_k at_r h) x,
      to-alike known r more qs q k (sorted-at shapes forms (extended_rules a) r (rule_in known) sorted (rule-at (known_of a) r known at_k)) to,
    )

    each-alike : (ps qs : Proofs) (ks : List Judgement) → ProofsAreSorted shapes (extended_rules a) vars ps → LowersEach a subjects hyps ps qs ks → LowersEach after subjects hyps ps qs ks
    each-alike no_more no_more [] h l = tt
    each-alike no_more no_more (k ∷ ks) h l = absurd l
    each-alike no_more (q ⊳ qs) ks h l = absurd l
    each-alike (p ⊳ ps) no_more ks h l = absurd l
    each-alike (p ⊳ ps) (q ⊳ qs) [] h l = absurd l
    each-alike (p ⊳ ps) (q ⊳ qs) (k ∷ ks) h l = (lowers-alike p q k h.0 l.0, each-alike ps qs ks h.1 l.1)

  terms-alike : (known : Known) (r : ℕ) (more : List Tree) (tss : List (List Tree)) → terms_at a known r more tss ≡ terms_at after known r more tss
  terms-alike (basic rule) r more tss = refl
  terms-alike (checked c) r more tss = refl

  mutual
    measures-alike : (p : Proof) (ts : List Tree) → ProofIsSorted shapes (extended_rules a) vars p → Measures a subjects hyps p ts → Measures after subjects hyps p ts
    measures-alike (given i) ts h m = m
    measures-alike (by r binds kids) ts (rule, at_r, h, kids_sorted) (known, qs, ks, more, tss, at_k, each, x, below, is) = (
      known,
      qs,
      ks,
      more,
      tss,
      at_k,
      each-alike kids qs ks kids_sorted each,
      binds-alike (rule_in known) binds more ks (own-sorts r known rule binds at_k at_r h) x,
      each_measured-alike kids tss kids_sorted below,
      is ∙ terms-alike known r more tss,
    )

    each_measured-alike : (ps : Proofs) (tss : List (List Tree)) → ProofsAreSorted shapes (extended_rules a) vars ps → MeasuresEach a subjects hyps ps tss → MeasuresEach after subjects hyps ps tss
    each_measured-alike no_more [] h m = tt
    each_measured-alike no_more (ts ∷ tss) h m = absurd m
    each_measured-alike (p ⊳ ps) [] h m = absurd m
    each_measured-alike (p ⊳ ps) (ts ∷ tss) h m = (measures-alike p ts h.0 m.0, each_measured-alike ps tss h.1 m.1)

  -- what rewriting answers
  module _ (p : Proof) (is_sorted : ProofIsSorted shapes (extended_rules a) vars p) (budget : ℕ) where
    over-alike : (o : Option RewriteRefusal) → FirstOver a subjects hyps p budget o → FirstOver after subjects hyps p budget o
    over-alike o (n, h, (ts, m, e)) = (
      subst (λ (x : ℕ). x ≤ budget) (sym (nodes a table p)) n,
      subst (λ (x : ℕ). x ≤ 3000) (sym (height a table p)) h,
      (ts, measures-alike p ts is_sorted m, e),
    )

    rewritten-alike : (answer : Result Rewritten RewriteRefusal) → IsRewritten a subjects hyps p budget answer → IsRewritten after subjects hyps p budget answer
    rewritten-alike (Ok x) h = (
      lowers-alike p x.proof x.judgement is_sorted h.0,
      h.1 ∙ ap (λ (n : ℕ). min n (2 ^ 64 - 1)) (sym (copies a table p)),
      over-alike None h.2,
    )
    rewritten-alike (Err spent) h = subst (λ (x : ℕ). budget < x) (sym (nodes a table p)) h
    rewritten-alike (Err deep) h = (
      subst (λ (x : ℕ). x ≤ budget) (sym (nodes a table p)) h.0,
      subst (λ (x : ℕ). 3000 < x) (sym (height a table p)) h.1,
    )
    rewritten-alike (Err (too_deep n)) h = over-alike (Some (too_deep n)) h
    rewritten-alike (Err (too_big n)) h = over-alike (Some (too_big n)) h

    rewriting-alike : (result : Result Lowered RewriteError) → IsRewriting a subjects hyps p budget result → IsRewriting after subjects hyps p budget result
    rewriting-alike (Ok x) h = rewritten-alike (Ok (rewritten x)) h
    rewriting-alike (Err Memory) h = tt
    rewriting-alike (Err (RewriteSpent n)) h = (h.0, rewritten-alike (Err spent) h.1)
    rewriting-alike (Err RewriteDeep) h = rewritten-alike (Err deep) h
    rewriting-alike (Err (TooDeep n)) h = rewritten-alike (Err (too_deep n)) h
    rewriting-alike (Err (TooBig n)) h = rewritten-alike (Err (too_big n)) h

pub longer_tables_rewrite_alike : LongerTablesRewriteAlike
longer_tables_rewrite_alike sig base shapes a ok table keeps hyps vars p is_sorted budget result = (
  rewriting-alike shapes sig.forms sig.subjects a table keeps ok.sorted vars hyps p is_sorted budget result,
  rewriting-alike shapes sig.forms sig.subjects (with_table a table) a.table (λ label l. sym (keeps label l)) ok.sorted vars hyps p is_sorted budget result,
)
