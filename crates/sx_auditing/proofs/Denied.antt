-- What is not objected to by an auditor of the kind `deny`.
use Rattle.std.proofs.Common.{◌≡◌, ℕ, zero, suc, ◌+◌, Bool, true, false, not, List, [], ◌∷◌}
use Rattle.std.proofs.Common.{map, if◌then◌else◌, Some, None, Ok, ap, sym, refl}
use Rattle.std.proofs.Common.{subst, ◌∙◌, arith}
use Rattle.std.specs.Prelude.{Contains}
use Rattle.std.specs.List.{AllByRecursion}
use Rattle.sx_rules.specs.Derivations.{Proof, Proofs, by, given, no_more, ◌⊳◌, Derives, DeriveEach}
use Rattle.sx_rules.specs.Orders.{Entry, order_of, order_of_all}
use Rattle.sx_rules.specs.Rules.{Judgement, Rule, no_hypotheses}
use Rattle.sx_rules.specs.Views.{NamedRule}
use Rattle.sx_audit.specs.Kinds.{is_among}
use Rattle.sx_audit.specs.Meaning.{Node, Meaning, verdict}
use Rattle.sx_audit.specs.Preorder.{nodes, nodes_of_each}
use Rattle.sx_audit.specs.Shown.{after_nodes, shown_after, Admits}
use Rattle.sx_audit.proofs.ShownNodes.{admits-first, admits-rest}
use Rattle.sx_auditing.specs.Laws.{denying, IsByOther}
use Rattle.sx_auditing.specs.Shows.{Shows}
use Rattle.sx_auditing.proofs.Once.{all-front, all-back, all-joined}

-- what holds of all holds of one that is there
all-there : {A : Type 0} (P : A → Type 0) (xs : List A) (x : A) → AllByRecursion P xs →
    Contains xs x → P x
all-there P [] x h (k, l, e) = absurd (omega (arith, l))
all-there P (y ∷ xs) x h (zero, l, e) = subst P e h.0
all-there P (y ∷ xs) x h (suc k, l, e) = all-there P xs x h.1 (k, omega (arith, l), e)

-- what a change leaves as it is is there after it
there-after : {A : Type 0} (f : A → A) (xs : List A) (x : A) → f x ≡ x → Contains xs x →
    Contains (map f xs) x
there-after f [] x h (k, l, e) = absurd (omega (arith, l))
there-after f (y ∷ xs) x h (zero, l, e) = (zero, omega arith, ap f e ∙ h)
there-after f (y ∷ xs) x h (suc k, l, e) =
    let r = there-after f xs x h (k, omega (arith, l), e) in
    let m = r.1 in
    (suc r.0, omega (arith, m), r.2)

module _ (name : List ℕ) (names : List (List ℕ)) where
  -- no node changes the auditor
  stays : (b : Bool) (m : Meaning) (rest : Meaning × Bool) → rest.0 ≡ m →
      (if◌then◌else◌ {A = Meaning × Bool} b rest (m, false)).0 ≡ m
  stays true m rest h = h
  stays false m rest h = refl

  denying-after : (ns : List Node) → shown_after ns (denying name names) ≡ denying name names
  denying-after [] = refl
  denying-after (n ∷ ns) =
      stays (verdict (denying name names) n) (denying name names) (after_nodes (denying name names) ns)
      (denying-after ns)

  not-true : (b : Bool) → not b ≡ true → b ≡ false
  not-true false h = refl
  not-true true h = absurd cc

  -- no node is by one of the rules
  abbrev IsOther : Node → Type 0
  IsOther n = is_among names n.rule ≡ false

  nodes-other : (ns : List Node) → Admits ns (denying name names) → AllByRecursion IsOther ns
  nodes-other [] h = tt
  nodes-other (n ∷ ns) h = (
    not-true (is_among names n.rule) (admits-first (denying name names) n ns h),
    nodes-other ns (admits-rest (denying name names) n ns h),
  )

  -- so no entry is
  module _ (named : List NamedRule) (rules : List Rule) where
    mutual
      entries-other : (depth : ℕ) (j : Judgement) (p : Proof) →
          Derives rules no_hypotheses j p → AllByRecursion IsOther (nodes named depth p) →
          AllByRecursion (IsByOther named names) (order_of p)
      entries-other depth j (given i) d h = absurd (let k : None ≡ Some j = d in cc)
      entries-other depth j (by r binds kids) d h =
          (h.0, each-other (depth + 1) _ kids d.5 h.1)

      each-other : (depth : ℕ) (js : List Judgement) (ps : Proofs) →
          DeriveEach rules no_hypotheses js ps →
          AllByRecursion IsOther (nodes_of_each named depth ps) →
          AllByRecursion (IsByOther named names) (order_of_all ps)
      each-other depth js no_more d h = tt
      each-other depth [] (p ⊳ ps) d h = absurd d
      each-other depth (j ∷ js) (p ⊳ ps) d h =
          all-joined (IsByOther named names) (order_of p) (order_of_all ps)
          (entries-other depth j p d.0
          (all-front IsOther (nodes named depth p) (nodes_of_each named depth ps) h))
          (each-other depth js ps d.1
          (all-back IsOther (nodes named depth p) (nodes_of_each named depth ps) h))

  module _ (file : List ℕ) (rules : List NamedRule) (old : List Meaning) (list : List Entry)
      (new : List Meaning) (s : Shows file rules old list (Ok new))
      (there : Contains old (denying name names)) where
    pub denied-unlisted : AllByRecursion (IsByOther rules names) list
    denied-unlisted =
        subst (AllByRecursion (IsByOther rules names)) (sym s.is.order)
        (entries-other rules (map (λ r. r.rule) rules) 1 s.is.judgement s.proof s.is.derives
        (nodes-other (nodes rules 1 s.proof)
        (all-there (Admits (nodes rules 1 s.proof)) old (denying name names) s.shows.0 there)))

    pub denying-there : Contains new (denying name names)
    denying-there =
        subst (λ (ms : List Meaning). Contains ms (denying name names)) (sym s.shows.1)
        (there-after (shown_after (nodes rules 1 s.proof)) old (denying name names)
        (denying-after (nodes rules 1 s.proof)) there)
