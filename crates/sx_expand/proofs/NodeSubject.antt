-- The subject of a node whose kids are read.
use Rattle.std.proofs.Common.{◌≡◌, arith, ℕ, zero, suc, ◌-◌, ◌^◌, ◌<◌, min, ◌⊎◌, inl, inr, Bool, true, false, List, [], ◌∷◌, ◌++◌, map, length, Option, Some, None, option_map, if◌then◌else◌, refl, sym, ap, ◌∙◌, subst}
use Rattle.std.specs.Prelude.{slice_get, nat_lt, get_or}
use Rattle.std.proofs.lemmas.Bool.{ltb-false, eq-eqb}
use Rattle.sx_term.specs.Tree.{Tree, hole, depth_of, size_of}
use Rattle.sx_term.specs.Sorts.{Shape}
use Rattle.sx_rules.specs.Instances.{instance, bound_by}
use Rattle.sx_term.specs.declared.sort.Sort.{Sort}
use Rattle.sx_term.specs.declared.sort.Sort.TheVariants.{Typed}
use Rattle.std.proofs.lemmas.Option.{slice_get_within}
use Rattle.sx_rules.specs.Discipline.{subjects_of, IsSubjectIn}
use Rattle.sx_rules.specs.Modes.{Modes, outputs}
use Rattle.sx_rules.specs.Rules.{Judgement, Rule, Hypotheses, judgement_instance, judgements_of}
use Rattle.sx_rules.specs.Derivations.{Proof, Proofs, by, given, no_more, ◌⊳◌, proof_at, put_for}
use Rattle.sx_rules.specs.Derivations.{Derives, DeriveEach, ShallowJudgements, proof_instance}
use Rattle.sx_rules.specs.Derivations.{graft}
use Rattle.sx_rules.proofs.Instancing.{map_instance-bound}
use Rattle.sx_rules.proofs.Moded.{outputs-map}
use Rattle.sx_arena.specs.Arena.{tree_at}
use Rattle.sx_rewrite.specs.Accepted.{Known, basic, checked, Checked, rule_in, Accepted, known_of}
use Rattle.sx_rewrite.specs.Accepted.{extended_rules, Signature, IsAccepted, flat_conclusion}
use Rattle.sx_rewrite.specs.Flat.{flat_judgement, flat_hypotheses}
use Rattle.sx_rewrite.specs.Lowering.{CanLower}
use Rattle.sx_rewrite.specs.Lowers.{LowersTo, Lowers, HypothesesBelow}
use Rattle.sx_rewrite.specs.Measured.{node_terms, certificate_terms, certificate_terms_of}
use Rattle.sx_rewrite.specs.Needed.{needed}
use Rattle.sx_rewrite.specs.Puts.{IsSmallTerm}
use Rattle.sx_rewrite.specs.Rewriting.{too_deep, too_big, first_over}
use Rattle.sx_rewrite.specs.Stored.{stored_in, certificate_at}
use Rattle.sx_plain.specs.Plain.{Table}
use Rattle.sx_rewrite.specs.LoweredSizes.{proof_count}
use Rattle.sx_rewrite.specs.PutImages.{images_for}
use Rattle.sx_rewrite.specs.PutSubjects.{ArePutBelow}
use Rattle.sx_rewrite.proofs.Known.{certified-at, rule-at, accepted-sorted, accepted-disciplined}
use Rattle.sx_rewrite.proofs.LoweredAlways.{subject_typed}
use Rattle.sx_rewrite.proofs.UsedKids.{bare-at}
use Rattle.sx_rewrite.proofs.Lowerings.{lowered_are_derivations}
use Rattle.sx_rewrite.proofs.LoweredNode as node
use Rattle.sx_rewrite.proofs.Puts.{put-made}
use Rattle.sx_expand.specs.KidSubjects.{IsSubjectAt, AreKidSubjects}
use Rattle.sx_expand.specs.LoweredNodes.{IsInstanceAt, IsOwnSubject}
use Rattle.sx_expand.specs.OwnSubjects.{own_judgement}
use Rattle.sx_expand.specs.Readings.{AllSmall}
use Rattle.sx_expand.proofs.KidsLowered.{KidsLoweredTo}
use Rattle.sx_expand.proofs.KidsPut.{proof-within}
use Rattle.sx_expand.proofs.NodeRead.{puts, own-is, lowered}
use Rattle.sx_expand.proofs.OwnSubject.{flat-none, flat-own}

small-all : (ts : List Tree) → first_over ts ≡ None → AllSmall ts
small-all [] e = tt
small-all (t ∷ ts) e = go (small-all ts) (nat_lt 1000 (depth_of t)) (nat_lt 1000000 (size_of t)) refl refl e
  where
    go : (first_over ts ≡ None → AllSmall ts) → (x y : Bool) → nat_lt 1000 (depth_of t) ≡ x → nat_lt 1000000 (size_of t) ≡ y →
        (if x then Some (too_deep (depth_of t)) else if y then Some (too_big (min (size_of t) (2 ^ 64 - 1))) else first_over ts) ≡ None → AllSmall (t ∷ ts)
    go again true y q r f = cc
    go again false true q r f = cc
    go again false false q r f = let a = ltb-false 1000 (depth_of t) q in let b = ltb-false 1000000 (size_of t) r in ((omega (arith, a), omega (arith, b)), again f)

small-left : (ts us : List Tree) → AllSmall (ts ++ us) → AllSmall ts
small-left [] us h = tt
small-left (t ∷ ts) us h = (h.0, small-left ts us h.1)

small-right : (ts us : List Tree) → AllSmall (ts ++ us) → AllSmall us
small-right [] us h = h
small-right (t ∷ ts) us h = small-right ts us h.1

small-outputs : (mask : List Bool) (ts : List Tree) → AllSmall ts → AllSmall (outputs mask ts)
small-outputs [] ts h = tt
small-outputs (b ∷ mask) [] h = tt
small-outputs (true ∷ mask) (t ∷ ts) h = (h.0, small-outputs mask ts h.1)
small-outputs (false ∷ mask) (t ∷ ts) h = small-outputs mask ts h.1

-- so does the first subject of a judgement whose places pass none
pub subject-small : (modes : Modes) (j : Judgement) (t : Tree) (rest : List Tree) →
    AllSmall j.places → subjects_of modes j ≡ t ∷ rest → IsSmallTerm t
subject-small modes j t rest h is =
    (subst AllSmall is (small-outputs (modes j.form) j.places h)).0

-- the first subject of the lowered judgement is an instance that passes no limit
pub record Head (s : ℕ → Tree) (t : Tree) (subjects : List Tree) : Type 0 where
  pub rest : List Tree
  pub is : subjects ≡ instance s t ∷ rest
  pub small : IsSmallTerm (instance s t)

from-places : (modes : Modes) (s : ℕ → Tree) (own k : Judgement) (t : Tree) (rest : List Tree) → k ≡ judgement_instance s own → AllSmall k.places → subjects_of modes own ≡ t ∷ rest → Head s t (subjects_of modes k)
from-places modes s own k t rest e h f =
    let is : subjects_of modes k ≡ instance s t ∷ map (instance s) rest = ap (subjects_of modes) e ∙ outputs-map s (modes own.form) own.places ∙ ap (map (instance s)) f in
    let all = subst AllSmall is (small-outputs (modes k.form) k.places h) in
    record { rest = map (instance s) rest; is = is; small = all.0 }

known-basic : (base : List Rule) (more : List Checked) (r : ℕ) (rule : Rule) → slice_get base r ≡ Some rule → slice_get (map basic base ++ map checked more) r ≡ Some (basic rule)
known-basic [] more r rule e = cc
known-basic (b ∷ bs) more zero rule e = let q : b ≡ rule = cc in cc
known-basic (b ∷ bs) more (suc r) rule e = known-basic bs more r rule e

-- the places of a node that derives a judgement
pub node-places : (base : List Rule) (hyps : Hypotheses) (r : ℕ) (binds : List Tree) (qs : Proofs) (k : Judgement) → Derives base hyps k (by r binds qs) → AllSmall (node_terms (slice_get base r) binds) → AllSmall k.places
node-places base hyps r binds qs k (rule, at, many, concluded, apart_ones, each) h =
    let all = subst (λ (o : Option Rule). AllSmall (node_terms o binds)) at h in
    subst (λ (j : Judgement). AllSmall j.places) concluded (small-right binds (judgement_instance (bound_by binds) rule.conclusion).places all)

-- an instance of a derivation's last step derives the instance of what it derives
node-instance : (base : List Rule) (hyps others : Hypotheses) (s : ℕ → Tree) (r : ℕ) (binds : List Tree) (ks qs : Proofs) (own k : Judgement) → Derives base others own (by r binds ks) → Derives base hyps k (by r (map (instance s) binds) qs) → k ≡ judgement_instance s own
node-instance base hyps others s r binds ks qs own k (rule, at, many, concluded, apart_ones, each) (rule', at', many', concluded', apart_ones', each') =
    let q : Some rule' ≡ Some rule = sym at' ∙ at in
    let same : rule' ≡ rule = cc in
    let places = map_instance-bound s binds rule.conclusion.places in
    sym concluded' ∙ ap (λ (x : Rule). judgement_instance (bound_by (map (instance s) binds)) x.conclusion) same
    ∙ sym (ap (λ (ts : List Tree). let j : Judgement = record { form = rule.conclusion.form; places = ts } in j) places) ∙ ap (judgement_instance s) concluded

module _ (sig : Signature) (base shapes : List Shape) (a : Accepted) (ok : IsAccepted sig base shapes a) (s : ℕ → Tree) (hyps : Hypotheses) (news : Proofs) (r : ℕ) (t : Tree) (rest : List Tree) (k : Judgement) where
  -- a node by a base rule
  pub basic-head : (rule : Rule) (more : List Tree) → slice_get (known_of a) r ≡ Some (basic rule) → Derives a.base hyps k (by r more news) → AllSmall (node_terms (slice_get a.base r) more) → subjects_of sig.subjects rule.conclusion ≡ t ∷ rest →
      Head (bound_by more) t (subjects_of sig.subjects k)
  basic-head rule more at d h e = go d
    where
      go : Derives a.base hyps k (by r more news) → Head (bound_by more) t (subjects_of sig.subjects k)
      go (found, at_found, many, concluded, apart_ones, each) =
          let q : Some (basic found) ≡ Some (basic rule) = sym (known-basic a.base a.more r found at_found) ∙ at in
          let same : found ≡ rule = cc in
          from-places sig.subjects (bound_by more) rule.conclusion k t rest (sym concluded ∙ ap (λ (x : Rule). judgement_instance (bound_by more) x.conclusion) same) (node-places a.base hyps r more news k d h) e

  -- a node by an extension rule whose certificate has a last step
  pub step-head : (c : Checked) (r0 : ℕ) (b0 : List Tree) (k0 : Proofs) → slice_get (known_of a) r ≡ Some (checked c) → c.proof ≡ by r0 b0 k0 → Derives a.base hyps k (graft news (proof_instance s c.proof)) →
      AllSmall (certificate_terms a.base s c.proof) → subjects_of sig.subjects (flat_conclusion a.table sig.subjects c) ≡ t ∷ rest → Head s t (subjects_of sig.subjects k)
  step-head c r0 b0 k0 at is d h e =
      let cert = (certified-at a.table sig.subjects sig.forms base a.base a.base a.more r c ok.certified at).0 in
      let own = flat_conclusion a.table sig.subjects c in
      let d' = subst (λ (p : Proof). Derives a.base hyps k (graft news (proof_instance s p))) is d in
      let h' = subst (λ (p : Proof). AllSmall (certificate_terms a.base s p)) is h in
      let flats = flat_hypotheses a.table sig.subjects c.rule.premises in
      let cert' = subst (λ (p : Proof). Derives a.base flats own p) is cert in
      from-places sig.subjects s own k t rest (node-instance a.base hyps flats s r0 b0 k0 _ own k cert' d') (node-places a.base hyps r0 (map (instance s) b0) _ k d' (small-left (node_terms (slice_get a.base r0) (map (instance s) b0)) (certificate_terms_of a.base s k0) h')) e

-- the premise whose flat form is a hypothesis
premise-of : (table : Table) (subjects : Modes) (js : List Judgement) (i : ℕ) (h : Judgement) → slice_get (map (flat_judgement table subjects None) js) i ≡ Some h →
    (j : Judgement) × (slice_get js i ≡ Some j) × (flat_judgement table subjects None j ≡ h)
premise-of table subjects [] i h e = cc
premise-of table subjects (j ∷ js) zero h e = (j, refl, (let q : flat_judgement table subjects None j ≡ h = cc in q))
premise-of table subjects (j ∷ js) (suc i) h e = premise-of table subjects js i h e

among : (subjects : Modes) (js : List Judgement) (i w : ℕ) (j : Judgement) → slice_get js i ≡ Some j → subjects_of subjects j ≡ hole w ∷ [] → IsSubjectIn subjects w js
among subjects [] i w j e f = cc
among subjects (x ∷ js) zero w j e f = let q : x ≡ j = cc in inl (ap (subjects_of subjects) q ∙ f)
among subjects (x ∷ js) (suc i) w j e f = inr (among subjects js i w j e f)

images-many : (table : Table) (sorts : List Sort) (ts : List Tree) → length ts ≡ length sorts → length (images_for table sorts ts) ≡ length sorts
images-many table [] ts n = refl
images-many table (x ∷ sorts) [] n = absurd (omega (arith, n))
images-many table (x ∷ sorts) (t ∷ ts) n = let h = images-many table sorts ts (omega (arith, n)) in omega (arith, h)

get-within : (js : List Judgement) (i : ℕ) (j : Judgement) → slice_get js i ≡ Some j → i < length js
get-within [] i j e = cc
get-within (x ∷ js) zero j e = omega arith
get-within (x ∷ js) (suc i) j e = let h = get-within js i j e in omega (arith, h)

module _ (sig : Signature) (base shapes : List Shape) (a : Accepted) (ok : IsAccepted sig base shapes a) (hyps : Hypotheses) (terms : List Tree) (news : Proofs) (numbers : List (Option ℕ)) (need : ℕ → Bool)
    (subjects : AreKidSubjects sig.subjects a.base hyps need terms news numbers) (r : ℕ) (c : Checked) (at : slice_get (known_of a) r ≡ Some (checked c)) (binds more : List Tree) (many : length binds ≡ length c.rule.sorts)
    (kids_many : proof_count news ≡ length (judgements_of c.rule.premises)) (put : ArePutBelow sig.subjects a.base hyps need (judgements_of c.rule.premises) news (length numbers) (images_for a.table c.rule.sorts binds) more)
    (t : Tree) (rest : List Tree) (k : Judgement) (u : Tree) (us : List Tree) (has : subjects_of sig.subjects k ≡ u ∷ us) where
  -- a node by an extension rule whose certificate is a given
  pub given-head : (i : ℕ) → c.proof ≡ given i → need i ≡ true → Derives a.base hyps k (graft news (proof_instance (bound_by more) c.proof)) → subjects_of sig.subjects (flat_conclusion a.table sig.subjects c) ≡ t ∷ rest →
      Head (bound_by more) t (subjects_of sig.subjects k)
  given-head i is needs d e =
      let js = judgements_of c.rule.premises in
      let own = flat_conclusion a.table sig.subjects c in
      let cert = (certified-at a.table sig.subjects sig.forms base a.base a.base a.more r c ok.certified at).0 in
      let cert' = subst (λ (p : Proof). Derives a.base (flat_hypotheses a.table sig.subjects c.rule.premises) own p) is cert in
      let j = premise-of a.table sig.subjects js i own cert' in
      let l = get-within js i j.0 j.1 in
      let q = proof-within news i (omega (arith, l, kids_many)) in
      let d' = subst (λ (p : Proof). Derives a.base hyps k (graft news (proof_instance (bound_by more) p))) is d in
      let dq = subst (λ (o : Option Proof). Derives a.base hyps k (put_for o i)) q.1 d' in
      bare-head j.0 j.1 j.2 (bare-at sig.subjects c.rule.conclusion [] js i j.0 (accepted-disciplined sig base shapes a ok r (checked c) at).bare j.1) q.0 q.1 dq (get_or numbers i None) ((subjects.each i q.0 needs q.1).is k dq)
    where
      bare-head : (j : Judgement) → slice_get (judgements_of c.rule.premises) i ≡ Some j → flat_judgement a.table sig.subjects None j ≡ flat_conclusion a.table sig.subjects c →
          (subjects_of sig.subjects j ≡ []) ⊎ (w : ℕ) × (subjects_of sig.subjects j ≡ hole w ∷ []) → (q : Proof) → proof_at news i ≡ Some q → Derives a.base hyps k q → (o : Option ℕ) → IsSubjectAt terms (subjects_of sig.subjects k) o →
          Head (bound_by more) t (subjects_of sig.subjects k)
      bare-head j at_j flat (inl none) q at_q dq o st =
          let z : [] ≡ t ∷ rest = sym (flat-none a.table None (sig.subjects j.form) j.places none) ∙ ap (subjects_of sig.subjects) flat ∙ e in cc
      bare-head j at_j flat (inr (w, one)) q at_q dq None st = let z : [] ≡ u ∷ us = sym st ∙ has in cc
      bare-head j at_j flat (inr (w, one)) q at_q dq (Some n) st =
          let x = flat-own a.table (sig.subjects j.form) j.places (hole w) [] one in
          let z : hole w ∷ x.0 ≡ t ∷ rest = sym x.1 ∙ ap (subjects_of sig.subjects) flat ∙ e in
          let same : hole w ≡ t = cc in
          let ty = subject_typed sig.subjects shapes sig.forms ok.typed c.rule.sorts c.rule.premises w (accepted-sorted sig base shapes a ok r (checked c) at).1 (among sig.subjects (judgements_of c.rule.premises) i w j at_j one) in
          let within = slice_get_within c.rule.sorts w (Typed ty.0) ty.1 in
          let old = images-many a.table c.rule.sorts binds many in
          let l = get-within (judgements_of c.rule.premises) i j at_j in
          let sm = subjects.many in
          let v = put.here i j w (omega (arith, l, kids_many, sm)) at_j one (omega (arith, within, old)) needs q at_q k dq (tree_at terms n) st.2.0 st.2.1 in
          let h : Head (bound_by more) (hole w) (subjects_of sig.subjects k) =
          record { rest = st.2.0; is = st.2.1 ∙ ap (λ (y : Tree). y ∷ st.2.0) (sym v); small = subst IsSmallTerm (sym v) st.1 } in
          subst (λ (y : Tree). Head (bound_by more) y (subjects_of sig.subjects k)) same h

each-many : (rules : List Rule) (hyps : Hypotheses) (f : Judgement → Judgement) (js : List Judgement) (ps : Proofs) → DeriveEach rules hyps (map f js) ps → proof_count ps ≡ length js
each-many rules hyps f [] no_more d = refl
each-many rules hyps f [] (p ⊳ ps) d = absurd d
each-many rules hyps f (j ∷ js) no_more d = absurd d
each-many rules hyps f (j ∷ js) (p ⊳ ps) d = let h = each-many rules hyps f js ps d.1 in omega (arith, h)

lowers-judgement : (table : Table) (subjects : Modes) (y : Known) (r : ℕ) (other : List Tree) (os : Proofs) (q : Proof) (k : Judgement) → LowersTo table subjects y r other os q k → k ≡ judgement_instance (bound_by other) (own_judgement table subjects y)
lowers-judgement table subjects (basic rule) r other os q k h = h.1
lowers-judgement table subjects (checked c) r other os q k h = h.1

module _ (sig : Signature) (base shapes : List Shape) (a : Accepted) (ok : IsAccepted sig base shapes a) (hyps : Hypotheses) (below : HypothesesBelow (length base) hyps) (near : ShallowJudgements hyps.judgements)
    (r : ℕ) (binds : List Tree) (kids : Proofs) (can : CanLower a hyps (by r binds kids)) (known : Known) (at_r : slice_get (known_of a) r ≡ Some known)
    (terms : List Tree) (numbers : List (Option ℕ)) (kl : KidsLoweredTo a sig hyps (needed (certificate_at a r)) terms kids numbers)
    (later : List Tree) (number : Option ℕ) (own : IsOwnSubject a sig.subjects hyps later (record { rule = r; known = known; binds = binds; kids = kl.news; count = length numbers }) number)
    (q : Proof) (k : Judgement) (l : Lowers a sig.subjects hyps (by r binds kids) q k) where
  kids-many : proof_count kl.news ≡ length (judgements_of (rule_in known).premises)
  kids-many = kl.lowered.many ∙ go can.derives
    where
      go : Derives (extended_rules a) hyps can.judgement (by r binds kids) → proof_count kids ≡ length (judgements_of (rule_in known).premises)
      go (found, at, many, concluded, apart_ones, each) =
          let o : Some found ≡ Some (rule_in known) = sym at ∙ rule-at (known_of a) r known at_r in
          let same : found ≡ rule_in known = cc in
          each-many (extended_rules a) hyps (judgement_instance (bound_by binds)) (judgements_of found.premises) kids each ∙ ap (λ (x : Rule). length (judgements_of x.premises)) same

  k-subjects : (other : List Tree) × (subjects_of sig.subjects k ≡ map (instance (bound_by other)) (subjects_of sig.subjects (own_judgement a.table sig.subjects known)))
  k-subjects = go l
    where
      go : Lowers a sig.subjects hyps (by r binds kids) q k → (other : List Tree) × (subjects_of sig.subjects k ≡ map (instance (bound_by other)) (subjects_of sig.subjects (own_judgement a.table sig.subjects known)))
      go (known', os, ls, other, at', each, b, to) =
          let o : Some known' ≡ Some known = sym at' ∙ at_r in
          let same : known' ≡ known = cc in
          let j = own_judgement a.table sig.subjects known in
          let is = lowers-judgement a.table sig.subjects known' r other os q k to ∙ ap (λ (y : Known). judgement_instance (bound_by other) (own_judgement a.table sig.subjects y)) same in
          (other, ap (subjects_of sig.subjects) is ∙ outputs-map (bound_by other) (sig.subjects j.form) j.places)

  derived : Derives a.base hyps k (node.own_proof known r own.more kl.news)
  derived =
      let d = (lowered_are_derivations sig base shapes a ok hyps below (by r binds kids) q can.judgement k can.derives l).0 in
      let is = node.node-proof sig base shapes a ok hyps below near r binds kids can known at_r kl.news (lowered sig base shapes a ok hyps below near r binds kids can known at_r terms numbers kl) (length numbers) (sym kl.subjects.many) own.more
      (puts sig base shapes a ok hyps below near r binds kids can known at_r terms numbers kl own.more own.put) q k l in
      subst (λ (p : Proof). Derives a.base hyps k p) (sym is) d

  smalls : AllSmall (node.own_terms a known r own.more)
  smalls = small-all (node.own_terms a known r own.more) (ap first_over (own-is sig base shapes a ok hyps below near r binds kids can known at_r terms numbers kl own.more) ∙ own.small)

  head-of : (t : Tree) (rest : List Tree) → subjects_of sig.subjects (own_judgement a.table sig.subjects known) ≡ t ∷ rest → Head (bound_by own.more) t (subjects_of sig.subjects k)
  head-of t rest e = go known refl
    where
      go : (y : Known) → known ≡ y → Head (bound_by own.more) t (subjects_of sig.subjects k)
      go (basic rule) same =
          basic-head sig base shapes a ok (bound_by own.more) hyps kl.news r t rest k rule own.more (at_r ∙ ap (λ (y : Known). let o : Option Known = Some y in o) same)
          (subst (λ (y : Known). Derives a.base hyps k (node.own_proof y r own.more kl.news)) same derived) (subst (λ (y : Known). AllSmall (node.own_terms a y r own.more)) same smalls)
          (subst (λ (y : Known). subjects_of sig.subjects (own_judgement a.table sig.subjects y) ≡ t ∷ rest) same e)
      go (checked c) same = by_proof c.proof refl
        where
          at : slice_get (known_of a) r ≡ Some (checked c)
          at = at_r ∙ ap (λ (y : Known). let o : Option Known = Some y in o) same

          d : Derives a.base hyps k (graft kl.news (proof_instance (bound_by own.more) c.proof))
          d = subst (λ (y : Known). Derives a.base hyps k (node.own_proof y r own.more kl.news)) same derived

          f : subjects_of sig.subjects (flat_conclusion a.table sig.subjects c) ≡ t ∷ rest
          f = subst (λ (y : Known). subjects_of sig.subjects (own_judgement a.table sig.subjects y) ≡ t ∷ rest) same e

          by_proof : (p : Proof) → c.proof ≡ p → Head (bound_by own.more) t (subjects_of sig.subjects k)
          by_proof (by r0 b0 k0) is = step-head sig base shapes a ok (bound_by own.more) hyps kl.news r t rest k c r0 b0 k0 at is d (subst (λ (y : Known). AllSmall (node.own_terms a y r own.more)) same smalls) f
          by_proof (given i) is =
              let needs : needed (certificate_at a r) i ≡ true = ap (λ (o : Option Known). needed (option_map (λ (x : Checked). x.proof) (stored_in o)) i) at ∙ ap (λ (p : Proof). needed (Some p) i) is ∙ eq-eqb i i refl in
              given-head sig base shapes a ok hyps terms kl.news numbers (needed (certificate_at a r)) kl.subjects r c at binds own.more
              (subst (λ (y : Known). length binds ≡ length (rule_in y).sorts) same (node.binds-many sig base shapes a ok hyps below near r binds kids can known at_r))
              (subst (λ (y : Known). proof_count kl.news ≡ length (judgements_of (rule_in y).premises)) same kids-many)
              (subst (λ (y : Known). ArePutBelow sig.subjects a.base hyps (needed (certificate_at a r)) (judgements_of (rule_in y).premises) kl.news (length numbers) (images_for a.table (rule_in y).sorts binds) own.more) same own.put)
              t rest k (instance (bound_by k-subjects.0) t) (map (instance (bound_by k-subjects.0)) rest) (k-subjects.1 ∙ ap (map (instance (bound_by k-subjects.0))) e) i is needs d f

  -- the subject of what the node is lowered to stands at the number
  pub node-subject : IsSubjectAt later (subjects_of sig.subjects k) number
  node-subject = go number own.subject
    where
      go : (o : Option ℕ) → IsInstanceAt later own.made (subjects_of sig.subjects (own_judgement a.table sig.subjects known)) o → IsSubjectAt later (subjects_of sig.subjects k) o
      go None h = k-subjects.1 ∙ ap (map (instance (bound_by k-subjects.0))) h
      go (Some i) (t, rest, e, within, is) =
          let h = head-of t rest e in
          let m = is ∙ put-made own.more own.made t own.made_are h.small in
          (within, subst IsSmallTerm (sym m) h.small, (h.rest, h.is ∙ ap (λ (y : Tree). y ∷ h.rest) (sym m)))
