-- The sizes of certificates that an accepted set keeps.
use Rattle.std.proofs.Common.{◌≡◌, arith, ℕ, zero, suc, ◌+◌, ◌-◌, ◌<◌, ◌≤◌, ◌⊎◌, inl, inr, List, [], ◌∷◌, ◌++◌, map, take, take_all, length, get_or, Option, Some, None, refl, sym, ap, ◌∙◌, subst, if◌then◌else◌}
use Rattle.std.specs.Prelude.{slice_get}
use Rattle.sx_term.specs.Sorts.{Shape}
use Rattle.sx_rules.specs.Rules.{Rule, judgements_of}
use Rattle.sx_rules.specs.Derivations.{Proof, height_of}
use Rattle.sx_rules.specs.ProofView.{proof}
use Rattle.sx_rules.specs.declared.proof.Proof.{Proof as ProofOf}
use Rattle.sx_rules.specs.declared.rule.Premise.{Premise}
use Rattle.sx_rules.specs.Views.{rule, premise}
use Rattle.sx_plain.proofs.Kept.{unrefuted, same_or_not}
use Rattle.sx_rewrite.specs.declared.given_use.GivenUse.{GivenUse}
use Rattle.sx_rewrite.specs.declared.certificate_size.CertificateSize.{CertificateSize}
use Rattle.sx_rewrite.specs.declared.ext_rule.ExtRule.{ExtRule}
use Rattle.sx_rewrite.specs.declared.flat.Flat.{Flat}
use Rattle.sx_rewrite.specs.Accepted.{Known, basic, checked, Checked, Accepted, known_of, Signature}
use Rattle.sx_rewrite.specs.Accepted.{IsAccepted}
use Rattle.sx_rewrite.specs.Stored.{checked_with, checked_of, stored_in, stored_at}
use Rattle.sx_rewrite.specs.Measured.{is_used}
use Rattle.sx_rewrite.specs.Copied.{times_given}
use Rattle.sx_rewrite.specs.Counts.{own_nodes, own_height, nodes_above}
use Rattle.sx_rewrite.specs.Sizes.{in_u128, IsUseOf, AreUsesOf, IsSizeOf, AreSizesOf, IsSizeIn}
use Rattle.sx_rewrite.specs.Sizes.{IsSmallCertificate, UsesPremises}
use Rattle.sx_rewrite.proofs.Stable.{Decided, decided, stable, both}
use Rattle.sx_rewrite.proofs.StoredAt.{base-none, after-base}
use Rattle.sx_rewrite.proofs.Summed.{certificates_use_premises}
use Rattle.sx_rewrite.proofs.SizeLaws.{own_height-within, uses-near}

either : (a b : ℕ) → (a ≤ b) ⊎ (b < a)
either a b = grind arith

within : (a b : ℕ) → Decided (a ≤ b)
within a b = go (either a b)
  where
    go : (a ≤ b) ⊎ (b < a) → Decided (a ≤ b)
    go (inl l) = inl l
    go (inr l) = inr (λ h. omega (arith, l, h))

-- what is kept holds as it stands
use_or_not : (i : ℕ) (p : Proof) (u : GivenUse) → Decided (IsUseOf i p u)
use_or_not i p u = both (same_or_not u.times (in_u128 (times_given i p))) (same_or_not u.above (if is_used i p then nodes_above i p else 0))

uses_or_not : (i : ℕ) (p : Proof) (us : List GivenUse) → Decided (AreUsesOf i p us)
uses_or_not i p [] = inl tt
uses_or_not i p (u ∷ us) = both (use_or_not i p u) (uses_or_not (i + 1) p us)

size_or_not : (c : Checked) (s : CertificateSize) → Decided (IsSizeOf c s)
size_or_not c s =
    decided (λ x. record { shallow = x.0; nodes = x.1.0; height = x.1.1.0; many = x.1.1.1.0; uses = x.1.1.1.1 }) (λ x. (x.shallow, (x.nodes, (x.height, (x.many, x.uses)))))
    (both (within (height_of c.proof) 3000) (both (same_or_not s.nodes (in_u128 (own_nodes c.proof))) (both (same_or_not s.height (own_height c.proof))
    (both (same_or_not (length s.uses.items) (length (judgements_of c.rule.premises))) (uses_or_not 0 c.proof s.uses.items)))))

sizes_or_not : (cs : List Checked) (ss : List CertificateSize) → Decided (AreSizesOf cs ss)
sizes_or_not [] [] = inl tt
sizes_or_not [] (s ∷ ss) = inr (λ h. h)
sizes_or_not (c ∷ cs) [] = inr (λ h. h)
sizes_or_not (c ∷ cs) (s ∷ ss) = both (size_or_not c s) (sizes_or_not cs ss)

kept_sizes : (cs : List Checked) (ss : List CertificateSize) → ∥ AreSizesOf cs ss ∥₁ → AreSizesOf cs ss
kept_sizes cs ss t = stable (sizes_or_not cs ss) (unrefuted t)

-- the size at a place, and none past the last
in-more : (cs : List Checked) (ss : List CertificateSize) (i : ℕ) (s : CertificateSize) → AreSizesOf cs ss → i < length ss → s ≡ get_or ss i s → IsSizeIn (stored_in (slice_get (map checked cs) i)) s
in-more [] [] i s h l e = absurd (omega (arith, l))
in-more [] (x ∷ ss) i s h l e = absurd h
in-more (c ∷ cs) [] i s h l e = absurd h
in-more (c ∷ cs) (x ∷ ss) zero s h l e = subst (λ (y : CertificateSize). IsSizeOf c y) (sym e) h.0
in-more (c ∷ cs) (x ∷ ss) (suc i) s h l e = in-more cs ss i s h.1 (omega (arith, l)) e

past-more : (cs : List Checked) (ss : List CertificateSize) (i : ℕ) → AreSizesOf cs ss → length ss ≤ i → stored_in (slice_get (map checked cs) i) ≡ None
past-more [] [] i h l = refl
past-more [] (x ∷ ss) i h l = absurd h
past-more (c ∷ cs) [] i h l = absurd h
past-more (c ∷ cs) (x ∷ ss) zero h l = absurd (omega (arith, l))
past-more (c ∷ cs) (x ∷ ss) (suc i) h l = past-more cs ss i h.1 (omega (arith, l))

module _ (a : Accepted) (ss : List CertificateSize) (first r : ℕ) (counted : first ≡ length a.base) (sized : ∥ AreSizesOf a.more ss ∥₁) where
  pub no-size-before : r < first → stored_at a r ≡ None
  no-size-before l = base-none a.base (map checked a.more) r (omega (arith, l, counted))

  pub no-size-past : first ≤ r → length ss ≤ r - first → stored_at a r ≡ None
  no-size-past l m =
      ap stored_in (after-base a.base (map checked a.more) r (omega (arith, l, counted)))
      ∙ past-more a.more ss (r - length a.base) (kept_sizes a.more ss sized) (omega (arith, m, counted))

  pub size-at : (s : CertificateSize) → first ≤ r → r - first < length ss → s ≡ get_or ss (r - first) s → IsSizeIn (stored_at a r) s
  size-at s l m e =
      let at = ap stored_in (after-base a.base (map checked a.more) r (omega (arith, l, counted))) in
      let g : s ≡ get_or ss (r - length a.base) s = e ∙ ap (λ (n : ℕ). get_or ss (r - n) s) counted in
      subst (λ (o : Option Checked). IsSizeIn o s) (sym at) (in-more a.more ss (r - length a.base) s (kept_sizes a.more ss sized) (omega (arith, m, counted)) g)

-- what holds of a size
pub size-small : (o : Option Checked) (s : CertificateSize) → IsSizeIn o s → IsSmallCertificate s
size-small None s h = absurd h
size-small (Some c) s h =
    let a = own_height-within c.proof in
    let b = h.height in
    let d = h.shallow in
    let n = h.nodes in (omega (arith, n), omega (arith, a, b, d), uses-near 0 c.proof s.uses.items h.shallow h.uses)

pub size-only : (sig : Signature) (base shapes : List Shape) (a : Accepted) → IsAccepted sig base shapes a → (r : ℕ) → UsesPremises (stored_at a r)
size-only sig base shapes a ok r = go (slice_get (known_of a) r) refl
  where
    go : (o : Option Known) → slice_get (known_of a) r ≡ o → UsesPremises (stored_in o)
    go None e = tt
    go (Some (basic x)) e = tt
    go (Some (checked c)) e = λ i u. certificates_use_premises sig base shapes a ok r c e i u

-- more of them
pub sizes-both : (cs ds : List Checked) (ss ts : List CertificateSize) → AreSizesOf cs ss → AreSizesOf ds ts → AreSizesOf (cs ++ ds) (ss ++ ts)
sizes-both [] ds [] ts h k = k
sizes-both [] ds (s ∷ ss) ts h k = absurd h
sizes-both (c ∷ cs) ds [] ts h k = absurd h
sizes-both (c ∷ cs) ds (s ∷ ss) ts h k = (h.0, sizes-both cs ds ss ts h.1 k)

-- what is stored of the rules, with the size of one more
stored-at : (rs : List ExtRule) (fs : List Flat) (i : ℕ) (e : ExtRule) (f : Flat) → i < length fs → length fs ≡ length rs → e ≡ get_or rs i e → f ≡ get_or fs i f →
    checked_with (rule e.rule) f ≡ get_or (checked_of (map (λ x. rule x.rule) rs) fs) i (checked_with (rule e.rule) f)
stored-at rs [] i e f l m g h = absurd (omega (arith, l))
stored-at [] (y ∷ fs) i e f l m g h = absurd (omega (arith, m))
stored-at (x ∷ rs) (y ∷ fs) zero e f l m g h = λ k. checked_with (rule (g k).rule) (h k)
stored-at (x ∷ rs) (y ∷ fs) (suc i) e f l m g h = stored-at rs fs i e f (omega (arith, l)) (omega (arith, m)) g h

many-stored : (rs : List ExtRule) (fs : List Flat) → length fs ≡ length rs → length (checked_of (map (λ x. rule x.rule) rs) fs) ≡ length fs
many-stored [] [] m = refl
many-stored [] (f ∷ fs) m = absurd (omega (arith, m))
many-stored (r ∷ rs) [] m = refl
many-stored (r ∷ rs) (f ∷ fs) m = ap suc (many-stored rs fs (omega (arith, m)))

sizes-push : (cs : List Checked) (i : ℕ) (c : Checked) (ss : List CertificateSize) (s : CertificateSize) → i < length cs → c ≡ get_or cs i c → AreSizesOf (take i cs) ss → IsSizeOf c s →
    AreSizesOf (take (i + 1) cs) (ss ++ s ∷ [])
sizes-push [] i c ss s l e h k = absurd (omega (arith, l))
sizes-push (x ∷ cs) zero c [] s l e h k = (subst (λ (y : Checked). IsSizeOf y s) e k, tt)
sizes-push (x ∷ cs) zero c (y ∷ ss) s l e h k = absurd h
sizes-push (x ∷ cs) (suc i) c [] s l e h k = absurd h
sizes-push (x ∷ cs) (suc i) c (y ∷ ss) s l e h k =
    let n : suc i + 1 ≡ suc (i + 1) = omega arith in rw n (h.0, sizes-push cs i c ss s (omega (arith, l)) e h.1 k)

pub sizes-on : (rs : List ExtRule) (fs : List Flat) (i : ℕ) (e : ExtRule) (f : Flat) (old new : List CertificateSize) (s : CertificateSize) → i < length fs → length fs ≡ length rs →
    e ≡ get_or rs i e → f ≡ get_or fs i f → IsSizeOf (checked_with (rule e.rule) f) s → new ≡ old ++ s ∷ [] →
    AreSizesOf (take i (checked_of (map (λ x. rule x.rule) rs) fs)) old → AreSizesOf (take (i + 1) (checked_of (map (λ x. rule x.rule) rs) fs)) new
sizes-on rs fs i e f old new s l m g h k more so =
    let n = many-stored rs fs m in
    subst (λ (x : List CertificateSize). AreSizesOf (take (i + 1) (checked_of (map (λ y. rule y.rule) rs) fs)) x) (sym more)
    (sizes-push (checked_of (map (λ x. rule x.rule) rs) fs) i (checked_with (rule e.rule) f) old s (omega (arith, l, n)) (stored-at rs fs i e f l m g h) so k)

pub sizes-all : (rs : List ExtRule) (fs : List Flat) (i : ℕ) (ss : List CertificateSize) → length fs ≤ i → length fs ≡ length rs →
    AreSizesOf (take i (checked_of (map (λ x. rule x.rule) rs) fs)) ss → AreSizesOf (checked_of (map (λ x. rule x.rule) rs) fs) ss
sizes-all rs fs i ss l m h =
    let n = many-stored rs fs m in
    subst (λ (x : List Checked). AreSizesOf x ss) (take_all i (checked_of (map (λ x. rule x.rule) rs) fs) (omega (arith, l, n))) h

-- no sizes of no certificates
pub sizes-none : (rs : List Rule) (fs : List Flat) (ss : List CertificateSize) → fs ≡ [] → ss ≡ [] → AreSizesOf (checked_of rs fs) ss
sizes-none rs fs ss e f = subst (λ (x : List Flat). AreSizesOf (checked_of rs x) ss) (sym e) (subst (λ (x : List CertificateSize). AreSizesOf (checked_of rs []) x) (sym f) (none rs))
  where
    none : (xs : List Rule) → AreSizesOf (checked_of xs []) []
    none [] = tt
    none (x ∷ xs) = tt

-- the size of a certificate
pub size-made : (e : ExtRule) (f : Flat) (q : ProofOf) (ps : List Premise) (s : CertificateSize) → q ≡ f.proof.value → ps ≡ e.rule.premises.items → height_of (proof f.proof.value) ≤ 3000 →
    s.nodes ≡ in_u128 (own_nodes (proof q)) → s.height ≡ own_height (proof q) → length s.uses.items ≡ length (judgements_of (map premise ps)) → AreUsesOf 0 (proof q) s.uses.items →
    IsSizeOf (checked_with (rule e.rule) f) s
size-made e f q ps s is same l n h m u = record {
  shallow = l;
  nodes = n ∙ ap (λ (x : ProofOf). in_u128 (own_nodes (proof x))) is;
  height = h ∙ ap (λ (x : ProofOf). own_height (proof x)) is;
  many = m ∙ ap (λ (x : List Premise). length (judgements_of (map premise x))) same;
  uses = subst (λ (x : ProofOf). AreUsesOf 0 (proof x) s.uses.items) is u;
}

-- of equal rules with equal certificates
pub sizes-of : (rs qs : List ExtRule) (fs gs : List Flat) (ss : List CertificateSize) → rs ≡ qs → fs ≡ gs → AreSizesOf (checked_of (map (λ x. rule x.rule) rs) fs) ss →
    AreSizesOf (checked_of (map (λ x. rule x.rule) qs) gs) ss
sizes-of rs qs fs gs ss e f h = subst (λ (x : List Checked). AreSizesOf x ss) (λ k. checked_of (map (λ x. rule x.rule) (e k)) (f k)) h
