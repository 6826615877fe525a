-- Kids that are read one after another.
use Rattle.std.proofs.Common.{◌≡◌, arith, ℕ, zero, suc, ◌+◌, ◌<◌, ◌≤◌, ◌&&◌, ◌⊎◌, Bool, true, false, List, [], ◌∷◌, ◌++◌, length, drop, get_or, map, Option, Some, None, if◌then◌else◌, refl, sym, ap, ◌∙◌, subst, inl, inr}
use Rattle.std.proofs.lemmas.Bool.{cases_eq, and_from, and_parts, and_left, and_right}
use Rattle.std.proofs.lemmas.List.{drop_all, length_push, get_or_append_left, get_or_push}
use Rattle.sx_term.specs.declared.term.Term.{Term}
use Rattle.sx_term.specs.Sorts.{Shape}
use Rattle.sx_term.specs.Tree.{Tree}
use Rattle.sx_rules.specs.declared.rule.Premise.{Premise as PremiseOf}
use Rattle.sx_rules.specs.declared.rule.Premise.TheVariants.{Holds, Apart}
use Rattle.sx_rules.specs.declared.rule.Judgement.{Judgement as JudgementOf}
use Rattle.sx_rules.specs.Deep.{AreShallow, PremiseIsShallow, PremisesAreShallow}
use Rattle.sx_rules.specs.Derivations.{Proof, Proofs, no_more, ◌⊳◌, proof_at, Derives, DeriveEach}
use Rattle.sx_rules.specs.Derivations.{HasShallowBinds, HaveShallowBinds, ShallowJudgements}
use Rattle.sx_rules.specs.Derivations.{nodes_of}
use Rattle.sx_rules.specs.Instances.{bound_by}
use Rattle.sx_rules.specs.Modes.{Modes}
use Rattle.sx_rules.specs.Rules.{Premise, holds, Hypotheses, judgement_instance, judgements_of}
use Rattle.sx_rules.specs.Sets.{shapes_in}
use Rattle.sx_rules.specs.Views.{premise, judgement}
use Rattle.sx_arena.specs.Arena.{Extends}
use Rattle.sx_arena.specs.Matching.{Assignment}
use Rattle.sx_rewrite.specs.declared.rewrite_error.RewriteError.{RewriteError}
use Rattle.sx_rewrite.specs.Accepted.{Accepted, extended_rules, IsAccepted}
use Rattle.sx_rewrite.specs.Lowering.{BindsFit, AllBindsFit, CanLower, IsLoweringRefused}
use Rattle.sx_rewrite.specs.Lowering.{needed_terms, IsKidRefused}
use Rattle.sx_rewrite.specs.LoweredSizes.{proof_count}
use Rattle.sx_rewrite.specs.Measured.{Measures, MeasuresEach}
use Rattle.sx_rewrite.specs.Needed.{needed}
use Rattle.sx_rewrite.specs.Puts.{Tells}
use Rattle.sx_rewrite.specs.Rewriting.{RewriteRefusal, first_over}
use Rattle.sx_rewrite.specs.Stored.{certificate_at}
use Rattle.sx_rewrite.proofs.LoweredBy.{by-can, by-refuse}
use Rattle.sx_rewrite.proofs.Puts.{over-left, over-right}
use Rattle.sx_expand.specs.declared.kid.Kid.{Kid}
use Rattle.sx_expand.specs.declared.reading.Reading.{Reading}
use Rattle.sx_expand.specs.declared.node.Node.{Node}
use Rattle.sx_expand.specs.declared.work.Work.{Work}
use Rattle.sx_expand.specs.declared.reader.Reader.{Reader}
use Rattle.sx_expand.specs.Followed.{IsWork, bindings_of}
use Rattle.sx_expand.specs.KidsRead.{IsKidRead}
use Rattle.sx_expand.specs.Listed.{StandsIn, StandInRow, set_in, entries_in}
use Rattle.sx_expand.specs.Readings.{IsListReading, set_by, signature_by, hyps_by}
use Rattle.sx_expand.specs.ReadDerivations.{IsReadRefused}
use Rattle.sx_expand.specs.ReadNodes.{NodeData, IsNodeIn, proof_by, AreFollowed, IsNodeRead}
use Rattle.sx_expand.specs.ReadNodes.{KidData, IsKidIn}
use Rattle.sx_expand.specs.Readers.{terms_in, ReaderGoesOn}
use Rattle.sx_expand.proofs.Bindings.{is-by, bindings-stay}
use Rattle.sx_expand.proofs.Following.{follows-apart}
use Rattle.sx_expand.proofs.Givens.{given-near}
use Rattle.sx_expand.proofs.KidsStay.{subject-stays}
use Rattle.sx_expand.proofs.Standing.{listed-kids, listed-first, stands-within, nodes-some}
use Rattle.sx_expand.proofs.Steps.{premise-drop}

-- what is known of a kid stays where terms are put into the arena
pub read-stays : (a : Accepted) (subjects : Modes) (hyps : Hypotheses) (old new : List Tree) (p : Proof) (o : Option ℕ) → Extends old new → IsKidRead a subjects hyps old p o → IsKidRead a subjects hyps new p o
read-stays a subjects hyps old new p o x h = record { small = h.small; subject = λ q k l. subject-stays old new _ o x (h.subject q k l) }

pub node-read-stays : (l : Reading) (n : Node) (old new : List Tree) (w : Work) (numbers : List (Option ℕ)) (d : NodeData) → Extends old new → IsWork old w → IsNodeRead l n old w numbers d → IsNodeRead l n new w numbers d
node-read-stays l n old new w numbers d x work h = record {
  followed = subst (λ (env : Assignment). AreFollowed l d.rule d.binds [] env) (sym (bindings-stay old new w x work)) h.followed;
  kids = λ need. record {
    many = (h.kids need).many;
    each = λ i p needs at. read-stays (set_by l) (signature_by l).subjects (hyps_by l) old new p (get_or numbers i None) x ((h.kids need).each i p needs at);
  };
}

-- a node that is needed can be lowered
pub can-lower : (l : Reading) (n : Node) (d : NodeData) → IsNodeIn l n d → n.is_needed ≡ true → CanLower (set_by l) (hyps_by l) (proof_by n d)
can-lower l n d is need = record { judgement = d.judgement; derives = is.can.derives; binds = is.can.binds; fit = is.can.fit; low = is.can.low need }

-- the error of a kid is that of all, where those before it pass no limit
refused-at : (a : Accepted) (subjects : Modes) (hyps : Hypotheses) (need : ℕ → Bool) (e : RewriteError) (n : ℕ) (ps : Proofs) (i : ℕ) (p : Proof) (tss : List (List Tree)) →
    ((m : ℕ) (x : Proof) → m < i → need (n + m) ≡ true → proof_at ps m ≡ Some x → (ts : List Tree) → Measures a subjects hyps x ts → first_over ts ≡ None) →
    proof_at ps i ≡ Some p → IsKidRefused a subjects hyps (need (n + i)) p e → MeasuresEach a subjects hyps ps tss → Tells (first_over (needed_terms need n tss)) e
refused-at a subjects hyps need e n no_more i p tss f g k h = cc
refused-at a subjects hyps need e n (x ⊳ ps) i p [] f g k h = absurd h
refused-at a subjects hyps need e n (x ⊳ ps) zero p (ts ∷ tss) f g k h =
    let same : x ≡ p = cc in
    let measures = subst (λ (y : Proof). Measures a subjects hyps y ts) same h.0 in
    let z : n + 0 ≡ n = omega arith in
    over-left (if need n then ts else []) (needed_terms need (n + 1) tss) e (subst (λ (l : ℕ). Tells (first_over (if need l then ts else [])) e) z (k ts measures))
refused-at a subjects hyps need e n (x ⊳ ps) (suc i) p (ts ∷ tss) f g k h =
    let z : n + suc i ≡ n + 1 + i = omega arith in
    let rest = refused-at a subjects hyps need e (n + 1) ps i p tss (λ m y l w c. f (suc m) y (omega (arith, l)) (let v : n + suc m ≡ n + 1 + m = omega arith in ap need v ∙ w) c) g
    (subst (λ (l : ℕ). IsKidRefused a subjects hyps (need l) p e) z k) h.1 in
    subst (λ (o : Option RewriteRefusal). Tells o e) (sym (over-right (if need n then ts else []) (needed_terms need (n + 1) tss) (here (need n) refl))) rest
  where
    here : (b : Bool) → need n ≡ b → first_over (if b then ts else []) ≡ None
    here true c = f 0 x (omega arith) (let v : n + 0 ≡ n = omega arith in ap need v ∙ c) refl ts h.0
    here false c = refl

within-number : (ps : Proofs) (i : ℕ) (p : Proof) → proof_at ps i ≡ Some p → i < proof_count ps
within-number no_more i p e = cc
within-number (x ⊳ ps) zero p e = omega arith
within-number (x ⊳ ps) (suc i) p e = let h = within-number ps i p e in omega (arith, h)

-- the kids up to a premise are read
pub record KidsSoFar (l : Reading) (n : Node) (ps : List PremiseOf) (i at : ℕ) (terms : List Tree) (w : Work) (numbers : List (Option ℕ)) (d : NodeData) : Type 0 where
  pub left : Proofs
  pub row : StandInRow l.listing at left
  pub each : DeriveEach (extended_rules (set_by l)) (hyps_by l) (map (judgement_instance (bound_by d.binds)) (judgements_of (map premise (drop i ps)))) left
  pub binds : HaveShallowBinds left
  pub fit : AllBindsFit (set_by l).table left
  pub from : (m : ℕ) → proof_at left m ≡ proof_at d.kids (length numbers + m)
  pub many : proof_count d.kids ≡ length numbers + proof_count left
  pub followed : AreFollowed l d.rule d.binds (map premise (drop i ps)) (bindings_of terms w)
  pub read : (m : ℕ) (p : Proof) → n.is_needed ≡ true → m < length numbers → needed (certificate_at (set_by l) n.number) m ≡ true → proof_at d.kids m ≡ Some p →
      IsKidRead (set_by l) (signature_by l).subjects (hyps_by l) terms p (get_or numbers m None)

module _ (l : Reading) (good : IsListReading l) (n : Node) (d : NodeData) (is : IsNodeIn l n d) where
  ok : IsAccepted (signature_by l) (shapes_in l.listing.set.now.base) (shapes_in l.listing.set.now.rules) (set_by l)
  ok = good.rules.accepted_with

  abbrev a : Accepted
  a = set_by l

  abbrev base : List Shape
  base = shapes_in l.listing.set.now.base

  abbrev shapes : List Shape
  shapes = shapes_in l.listing.set.now.rules

  near : ShallowJudgements (hyps_by l).judgements
  near = given-near l.listing.set.now (hyps_by l) good.given

  abbrev cert : Option Proof
  cert = certificate_at a n.number

  module _ (ps : List PremiseOf) (premises_are : map premise ps ≡ d.rule.premises) where
    pub kids-start : (at : ℕ) (terms : List Tree) (w : Work) (numbers : List (Option ℕ)) → at ≡ n.at + 1 → numbers ≡ [] → AreFollowed l d.rule d.binds d.rule.premises (bindings_of terms w) → KidsSoFar l n ps 0 at terms w numbers d
    kids-start at terms w numbers e none f =
        let row = listed-kids (set_in l.listing) (entries_in l.listing) n.at n.number d.binds d.kids is.can.stands in
        let b = is-by (extended_rules a) (hyps_by l) n.number d.rule d.judgement d.binds d.kids is.found is.can.derives in
        let zero_many : length numbers ≡ 0 = ap length none in
        record {
          left = d.kids;
          row = subst (λ (i : ℕ). StandInRow l.listing i d.kids) (sym e) row;
          each = subst (λ (xs : List Premise). DeriveEach (extended_rules a) (hyps_by l) (map (judgement_instance (bound_by d.binds)) (judgements_of xs)) d.kids) (sym premises_are) b.each;
          binds = is.can.binds.1;
          fit = is.can.fit.1;
          from = λ m. ap (proof_at d.kids) (let z : m ≡ length numbers + m = omega (arith, zero_many) in z);
          many = omega (arith, zero_many);
          followed = subst (λ (xs : List Premise). AreFollowed l d.rule d.binds xs (bindings_of terms w)) (sym premises_are) f;
          read = λ m p need low. absurd (omega (arith, low, zero_many));
        }

  module _ (ps : List PremiseOf) (i at : ℕ) (terms : List Tree) (w : Work) (numbers : List (Option ℕ)) (so : KidsSoFar l n ps i at terms w numbers d) where
    pub kids-end : length ps ≤ i → IsNodeRead l n terms w numbers d
    kids-end past =
        let none = ap (λ (xs : List PremiseOf). map premise xs) (drop_all i ps past) in
        let each = subst (λ (xs : List Premise). DeriveEach (extended_rules a) (hyps_by l) (map (judgement_instance (bound_by d.binds)) (judgements_of xs)) so.left) none so.each in
        let many = so.many ∙ ap (λ (k : ℕ). length numbers + k) (empty so.left each) in
        record {
          followed = subst (λ (xs : List Premise). AreFollowed l d.rule d.binds xs (bindings_of terms w)) none so.followed;
          kids = λ need. record {
            many = omega (arith, many);
            each = λ m p needs at_m. so.read m p need (let x = within-number d.kids m p at_m in omega (arith, x, many)) needs at_m;
          };
        }
      where
        empty : (left : Proofs) → DeriveEach (extended_rules a) (hyps_by l) [] left → proof_count left ≡ 0
        empty no_more h = refl
        empty (q ⊳ qs) h = absurd h

    module _ (p : PremiseOf) (within : i < length ps) (at_i : p ≡ get_or ps i p) where
      pub apart-next : (t u : Term) → p ≡ Apart t u → KidsSoFar l n ps (i + 1) at terms w numbers d
      apart-next t u is_apart =
          let row = premise-drop ps i p within at_i ∙ ap (λ (x : PremiseOf). premise x ∷ map premise (drop (i + 1) ps)) is_apart in
          record {
            left = so.left;
            row = so.row;
            each = subst (λ (xs : List Premise). DeriveEach (extended_rules a) (hyps_by l) (map (judgement_instance (bound_by d.binds)) (judgements_of xs)) so.left) row so.each;
            binds = so.binds;
            fit = so.fit;
            from = so.from;
            many = so.many;
            followed = follows-apart (signature_by l).modes d.rule (bound_by d.binds) _ _ (map premise (drop (i + 1) ps)) (bindings_of terms w)
                (subst (λ (xs : List Premise). AreFollowed l d.rule d.binds xs (bindings_of terms w)) row so.followed);
            read = so.read;
          }

      module _ (j : JudgementOf) (is_holds : p ≡ Holds j) where
        row_here : map premise (drop i ps) ≡ holds (judgement j) ∷ map premise (drop (i + 1) ps)
        row_here = premise-drop ps i p within at_i ∙ ap (λ (x : PremiseOf). premise x ∷ map premise (drop (i + 1) ps)) is_holds

        -- the kid that is read next
        pub record NextKid : Type 0 where
          pub first : Proof
          pub rest : Proofs
          pub is_left : so.left ≡ first ⊳ rest
          pub at_kid : proof_at d.kids (length numbers) ≡ Some first
          pub listed : StandsIn l.listing at first
          pub next : StandInRow l.listing (at + nodes_of first) rest
          pub derives : Derives (extended_rules a) (hyps_by l) (judgement_instance (bound_by d.binds) (judgement j)) first
          pub each : DeriveEach (extended_rules a) (hyps_by l) (map (judgement_instance (bound_by d.binds)) (judgements_of (map premise (drop (i + 1) ps)))) rest
          pub binds : HasShallowBinds first × HaveShallowBinds rest
          pub fit : BindsFit a.table first × AllBindsFit a.table rest

        pub next-kid : NextKid
        next-kid = go so.left refl (subst (λ (xs : List Premise). DeriveEach (extended_rules a) (hyps_by l) (map (judgement_instance (bound_by d.binds)) (judgements_of xs)) so.left) row_here so.each)
          where
            go : (left : Proofs) → so.left ≡ left → DeriveEach (extended_rules a) (hyps_by l) (judgement_instance (bound_by d.binds) (judgement j) ∷ map (judgement_instance (bound_by d.binds)) (judgements_of (map premise (drop (i + 1) ps)))) left → NextKid
            go no_more e h = absurd h
            go (q ⊳ qs) e h =
                let s = listed-first (set_in l.listing) (entries_in l.listing) at q qs (subst (λ (x : Proofs). StandInRow l.listing at x) e so.row) in
                record {
                  first = q;
                  rest = qs;
                  is_left = e;
                  at_kid = (let z : length numbers + 0 ≡ length numbers = omega arith in sym (ap (proof_at d.kids) z) ∙ sym (so.from 0) ∙ ap (λ (x : Proofs). proof_at x 0) e);
                  listed = s.0;
                  next = s.1;
                  derives = h.0;
                  each = h.1;
                  binds = subst HaveShallowBinds e so.binds;
                  fit = subst (AllBindsFit a.table) e so.fit;
                }

        pub kid-within : at < length l.listing.ends.now
        kid-within =
            let k = next-kid in
            let w = stands-within (entries_in l.listing) at k.first k.listed.stands in
            let s = nodes-some k.first in
            let m = good.ends.many in omega (arith, w, s, m)

        pub kid-after : (end : ℕ) → end ≡ get_or l.listing.ends.now at 0 → at ≤ end
        kid-after end to = let e = to ∙ good.ends.each at next-kid.first (omega arith) next-kid.listed in omega (arith, e)

        abbrev pub kid-data : KidData
        kid-data = record { rule = d.rule; binds = d.binds; rest = map premise (drop (i + 1) ps); proof = next-kid.first }

        module _ (k : Kid) (for_premise : k.premise.now ≡ j) (there : k.at ≡ at) (needs : k.is_needed ≡ (n.is_needed && needed cert (length numbers))) where
          pub kid-in : IsKidIn l k (bindings_of terms w) kid-data
          kid-in =
              let x = next-kid in
              record {
                can = record {
                  stands = subst (λ (m : ℕ). StandsIn l.listing m x.first) (sym there) x.listed;
                  derives = subst (λ (y : JudgementOf). Derives (extended_rules a) (hyps_by l) (judgement_instance (bound_by d.binds) (judgement y)) x.first) (sym for_premise) x.derives;
                  binds = x.binds.0;
                  fit = x.fit.0;
                  low = λ e.
                      let both = sym needs ∙ e in
                      (by-can (signature_by l) base shapes a ok (hyps_by l) good.given.below near n.number d.binds d.kids (can-lower l n d is (and_parts n.is_needed _ both).0) cert refl (length numbers) x.first (and_parts n.is_needed _ both).1 x.at_kid).low;
                };
                followed = subst (λ (y : JudgementOf). AreFollowed l d.rule d.binds (holds (judgement y) ∷ map premise (drop (i + 1) ps)) (bindings_of terms w)) (sym for_premise)
                    (subst (λ (xs : List Premise). AreFollowed l d.rule d.binds xs (bindings_of terms w)) row_here so.followed);
              }

        module _ (kid_needed : Bool) (needs : kid_needed ≡ (n.is_needed && needed cert (length numbers))) where
          -- it is read
          pub kid-next : (later : List Tree) (v : Work) (number : Option ℕ) (new : List (Option ℕ)) (end : ℕ) → Extends terms later → new ≡ numbers ++ number ∷ [] → end ≡ get_or l.listing.ends.now at 0 →
              AreFollowed l d.rule d.binds (map premise (drop (i + 1) ps)) (bindings_of later v) × (kid_needed ≡ true → IsKidRead a (signature_by l).subjects (hyps_by l) later next-kid.first number) →
              KidsSoFar l n ps (i + 1) end later v new d
          kid-next later v number new end x is_new to h =
              let q = next-kid in
              let one : length new ≡ length numbers + 1 = ap length is_new ∙ length_push numbers number in
              let after : end ≡ at + nodes_of q.first = to ∙ good.ends.each at q.first (omega arith) q.listed in
              let left_many : proof_count so.left ≡ proof_count q.rest + 1 = ap proof_count q.is_left in
              let all = so.many in
              record {
                left = q.rest;
                row = subst (λ (m : ℕ). StandInRow l.listing m q.rest) (sym after) q.next;
                each = q.each;
                binds = q.binds.1;
                fit = q.fit.1;
                from = λ m. ap (λ (y : Proofs). proof_at y (suc m)) (sym q.is_left) ∙ so.from (suc m) ∙ ap (proof_at d.kids) (let z : length numbers + suc m ≡ length new + m = omega (arith, one) in z);
                many = omega (arith, one, left_many, all);
                followed = h.0;
                read = λ m p need low needs_m at_m. subst (λ (xs : List (Option ℕ)). IsKidRead a (signature_by l).subjects (hyps_by l) later p (get_or xs m None)) (sym is_new) (read-at m p need (omega (arith, low, one)) needs_m at_m (cases_eq m (length numbers)));
              }
            where
              read-at : (m : ℕ) (p : Proof) → n.is_needed ≡ true → m < length numbers + 1 → needed cert m ≡ true → proof_at d.kids m ≡ Some p → (m ≡ length numbers) ⊎ (m ≡ length numbers → ⊥) →
                  IsKidRead a (signature_by l).subjects (hyps_by l) later p (get_or (numbers ++ number ∷ []) m None)
              read-at m p need low needs_m at_m (inl same) =
                  let o : Some next-kid.first ≡ Some p = sym next-kid.at_kid ∙ sym (ap (proof_at d.kids) same) ∙ at_m in
                  let is_p : next-kid.first ≡ p = cc in
                  let got : get_or (numbers ++ number ∷ []) m None ≡ number = get_or_push numbers number None m (sym same) in
                  let it = h.1 (needs ∙ and_from n.is_needed _ need (sym (ap (needed cert) same) ∙ needs_m)) in
                  subst (λ (o : Option ℕ). IsKidRead a (signature_by l).subjects (hyps_by l) later p o) (sym got) (subst (λ (y : Proof). IsKidRead a (signature_by l).subjects (hyps_by l) later y number) is_p it)
              read-at m p need low needs_m at_m (inr other) =
                  let before : m < length numbers = omega (arith, low, other) in
                  let got : get_or (numbers ++ number ∷ []) m None ≡ get_or numbers m None = get_or_append_left numbers (number ∷ []) None m before in
                  subst (λ (o : Option ℕ). IsKidRead a (signature_by l).subjects (hyps_by l) later p o) (sym got)
                  (read-stays a (signature_by l).subjects (hyps_by l) terms later p (get_or numbers m None) x (so.read m p need before needs_m at_m))

          -- or refused
          pub kid-refuses : (e : RewriteError) → IsReadRefused l kid_needed next-kid.first e → IsReadRefused l n.is_needed (proof_by n d) e
          kid-refuses e h = (refuses, (λ f. h.1 (needs ∙ and_left n.is_needed _ f)))
            where
              here : n.is_needed ≡ true → (b : Bool) → needed cert (length numbers) ≡ b → IsKidRefused a (signature_by l).subjects (hyps_by l) b next-kid.first e
              here need true f ts m = h.0 (needs ∙ and_from n.is_needed _ need f) ts m
              here need false f ts m = subst (λ (x : RewriteError). Tells None x) (sym (h.1 (needs ∙ and_right n.is_needed _ f))) tt

              refuses : n.is_needed ≡ true → IsLoweringRefused a (signature_by l).subjects (hyps_by l) (proof_by n d) e
              refuses need = by-refuse (signature_by l) base shapes a ok (hyps_by l) good.given.below near n.number d.binds d.kids (can-lower l n d is need) cert refl e (λ tss m.
                  refused-at a (signature_by l).subjects (hyps_by l) (needed cert) e 0 d.kids (length numbers) next-kid.first tss
                  (λ i x low f g. (so.read i x need low (let z : 0 + i ≡ i = omega arith in sym (ap (needed cert) z) ∙ f) g).small)
                  next-kid.at_kid (let z : 0 + length numbers ≡ length numbers = omega arith in subst (λ (v : ℕ). IsKidRefused a (signature_by l).subjects (hyps_by l) (needed cert v) next-kid.first e) (sym z) (here need (needed cert (length numbers)) refl)) m)

-- in the loop over the premises the reader goes on, and the kids up to here are read
pub record IsLooping (l : Reading) (n : Node) (ps : List PremiseOf) (i at : ℕ) (start now : Reader) (old w : Work) (numbers : List (Option ℕ)) : Type 0 where
  pub on : ReaderGoesOn (set_by l).table start now
  pub work : IsWork (terms_in now) w
  pub after : n.at + 1 ≤ at
  pub kids : (d : NodeData) → IsNodeIn l n d → AreFollowed l d.rule d.binds d.rule.premises (bindings_of (terms_in start) old) → KidsSoFar l n ps i at (terms_in now) w numbers d

pub looping-is : (l : Reading) (n : Node) (ps : List PremiseOf) (i : ℕ) (start : Reader) (old : Work) (at here : ℕ) (now reader : Reader) (w work : Work) (numbers made : List (Option ℕ)) → at ≡ here → now ≡ reader → w ≡ work → numbers ≡ made →
    IsLooping l n ps i here start reader old work made → IsLooping l n ps i at start now old w numbers
looping-is l n ps i start old at here now reader w work numbers made e f g h x =
    subst (λ (m : ℕ). IsLooping l n ps i m start now old w numbers) (sym e)
    (subst (λ (r : Reader). IsLooping l n ps i here start r old w numbers) (sym f)
    (subst (λ (v : Work). IsLooping l n ps i here start reader old v numbers) (sym g)
    (subst (λ (xs : List (Option ℕ)). IsLooping l n ps i here start reader old work xs) (sym h) x)))

-- the terms of a premise are no deeper than 1,000
pub premise-shallow : (ps : List PremiseOf) (i : ℕ) (p : PremiseOf) (j : JudgementOf) → PremisesAreShallow (map premise ps) → i < length ps → p ≡ get_or ps i p → p ≡ Holds j → AreShallow (judgement j).places
premise-shallow [] i p j h l e f = absurd (omega (arith, l))
premise-shallow (x ∷ ps) zero p j h l e f =
    let same : x ≡ Holds j = sym e ∙ f in
    subst (λ (y : PremiseOf). PremiseIsShallow (premise y)) same h.0
premise-shallow (x ∷ ps) (suc i) p j h l e f = premise-shallow ps i p j h.1 (omega (arith, l)) e f
