-- Kids that are made in boxes one after another.
use Rattle.std.proofs.Common.{◌≡◌, arith, ℕ, ◌+◌, ◌<◌, ◌≤◌, List, [], ◌∷◌, ◌++◌, Box, length, drop, get_or, map, refl, sym, ap, ◌∙◌, subst}
use Rattle.std.proofs.lemmas.List.{drop_all}
use Rattle.std.specs.declared.alloc.Global.{Global}
use Rattle.sx_term.specs.declared.term.Term.{Term}
use Rattle.sx_term.specs.Tree.{Tree}
use Rattle.sx_rules.specs.declared.proof.Proof.{Proof as ProofOf}
use Rattle.sx_rules.specs.declared.rule.Judgement.{Judgement as JudgementOf}
use Rattle.sx_rules.specs.declared.rule.Premise.{Premise as PremiseOf}
use Rattle.sx_rules.specs.declared.rule.Premise.TheVariants.{Holds, Apart}
use Rattle.sx_rules.specs.Derivations.{Proof, Proofs, no_more, ◌⊳◌, Derives, DeriveEach, nodes_of, nodes_of_all}
use Rattle.sx_rules.specs.Instances.{bound_by}
use Rattle.sx_rules.specs.ProofView.{proof, boxed}
use Rattle.sx_rules.specs.Rules.{Premise, holds, judgement_instance, judgements_of}
use Rattle.sx_rules.specs.Views.{premise, judgement}
use Rattle.sx_arena.proofs.Growing.{extends-then}
use Rattle.sx_expand.specs.declared.cursor.Cursor.{Cursor}
use Rattle.sx_expand.specs.declared.origin.Origin.{Origin}
use Rattle.sx_expand.specs.declared.work.Work.{Work}
use Rattle.sx_expand.specs.Boxes.{rules_from, modes_from, hyps_from, listed_entries, cursor_terms, Advances, IsBoxNode, IsBoxKid, IsFollowed}
use Rattle.sx_expand.specs.Followed.{IsWork, bindings_of}
use Rattle.sx_expand.specs.ReadNodes.{NodeData, KidData}
use Rattle.sx_expand.specs.Standing.{StandsInList, StandEach}
use Rattle.sx_expand.proofs.Bindings.{is-by}
use Rattle.sx_expand.proofs.Following.{follows-apart}
use Rattle.sx_expand.proofs.Standing.{first-stands, joined}
use Rattle.sx_expand.proofs.Steps.{premise-drop}

-- one cursor after another
pub advances-then : (old mid new : Cursor) → Advances old mid → Advances mid new → Advances old new
advances-then old mid new g h = record { arena = h.arena; extends = extends-then (cursor_terms old) (cursor_terms mid) (cursor_terms new) g.extends h.extends }

-- a row with one more, and with none after it
joined-push : (made : List (Box ProofOf Global)) (b : Box ProofOf Global) (rest : Proofs) → joined (boxed (made ++ b ∷ [])) rest ≡ joined (boxed made) (proof b.value ⊳ rest)
joined-push [] b rest = refl
joined-push (x ∷ made) b rest = ap (λ (ps : Proofs). proof x.value ⊳ ps) (joined-push made b rest)

joined-none : (ps : Proofs) → joined ps no_more ≡ ps
joined-none no_more = refl
joined-none (p ⊳ ps) = ap (λ (qs : Proofs). p ⊳ qs) (joined-none ps)

-- the kids up to a premise are made
pub record BoxedSoFar (o : Origin) (ps : List PremiseOf) (i first at : ℕ) (terms : List Tree) (w : Work) (made : List (Box ProofOf Global)) (d : NodeData) : Type 0 where
  pub left : Proofs
  pub row : StandEach (listed_entries o) at left
  pub each : DeriveEach (rules_from o) (hyps_from o) (map (judgement_instance (bound_by d.binds)) (judgements_of (map premise (drop i ps)))) left
  pub followed : IsFollowed o d.rule d.binds (map premise (drop i ps)) (bindings_of terms w)
  pub kids_are : joined (boxed made) left ≡ d.kids
  pub sum : at + nodes_of_all left ≡ first + nodes_of_all d.kids

-- they are all made
pub record AllBoxed (o : Origin) (first at : ℕ) (terms : List Tree) (w : Work) (made : List (Box ProofOf Global)) (d : NodeData) : Type 0 where
  pub kids_are : boxed made ≡ d.kids
  pub end : at ≡ first + nodes_of_all d.kids
  pub followed : IsFollowed o d.rule d.binds [] (bindings_of terms w)

module _ (o : Origin) (d : NodeData) (ps : List PremiseOf) where
  -- what is asked of the kids for these premises
  abbrev Asked : List Premise → Proofs → Type 0
  Asked xs left = DeriveEach (rules_from o) (hyps_from o) (map (judgement_instance (bound_by d.binds)) (judgements_of xs)) left

  pub boxes-start : (r first : ℕ) → IsBoxNode o first r d → map premise ps ≡ d.rule.premises → (terms : List Tree) (w : Work) (made : List (Box ProofOf Global)) → made ≡ [] → IsFollowed o d.rule d.binds d.rule.premises (bindings_of terms w) → BoxedSoFar o ps 0 first first terms w made d
  boxes-start r first is premises_are terms w made none f =
      let b = is-by (rules_from o) (hyps_from o) r d.rule d.judgement d.binds d.kids is.found is.derives in
      record {
        left = d.kids;
        row = is.stand;
        each = subst (λ (xs : List Premise). Asked xs d.kids) (sym premises_are) b.each;
        followed = subst (λ (xs : List Premise). IsFollowed o d.rule d.binds xs (bindings_of terms w)) (sym premises_are) f;
        kids_are = ap (λ (bs : List (Box ProofOf Global)). joined (boxed bs) d.kids) none;
        sum = refl;
      }

  module _ (i first at : ℕ) (terms : List Tree) (w : Work) (made : List (Box ProofOf Global)) (so : BoxedSoFar o ps i first at terms w made d) where
    pub boxes-end : length ps ≤ i → AllBoxed o first at terms w made d
    boxes-end past =
        let none = ap (λ (xs : List PremiseOf). map premise xs) (drop_all i ps past) in
        let empty = no-kids so.left (subst (λ (xs : List Premise). Asked xs so.left) none so.each) in
        let sum = so.sum in
        let zero = ap nodes_of_all empty in
        record {
          kids_are = sym (joined-none (boxed made)) ∙ ap (joined (boxed made)) (sym empty) ∙ so.kids_are;
          end = omega (arith, sum, zero);
          followed = subst (λ (xs : List Premise). IsFollowed o d.rule d.binds xs (bindings_of terms w)) none so.followed;
        }
      where
        no-kids : (left : Proofs) → Asked [] left → left ≡ no_more
        no-kids no_more h = refl
        no-kids (q ⊳ qs) h = absurd h

    module _ (p : PremiseOf) (within : i < length ps) (at_i : p ≡ get_or ps i p) where
      row_here : map premise (drop i ps) ≡ premise p ∷ map premise (drop (i + 1) ps)
      row_here = premise-drop ps i p within at_i

      pub boxes-apart : (t u : Term) → p ≡ Apart t u → BoxedSoFar o ps (i + 1) first at terms w made d
      boxes-apart t u is_apart =
          let row = row_here ∙ ap (λ (x : PremiseOf). premise x ∷ map premise (drop (i + 1) ps)) is_apart in
          record {
            left = so.left;
            row = so.row;
            each = subst (λ (xs : List Premise). Asked xs so.left) row so.each;
            followed = follows-apart (modes_from o) d.rule (bound_by d.binds) _ _ (map premise (drop (i + 1) ps)) (bindings_of terms w)
                (subst (λ (xs : List Premise). IsFollowed o d.rule d.binds xs (bindings_of terms w)) row so.followed);
            kids_are = so.kids_are;
            sum = so.sum;
          }

      module _ (j : JudgementOf) (is_holds : p ≡ Holds j) where
        held_here : map premise (drop i ps) ≡ holds (judgement j) ∷ map premise (drop (i + 1) ps)
        held_here = row_here ∙ ap (λ (x : PremiseOf). premise x ∷ map premise (drop (i + 1) ps)) is_holds

        -- the kid that is made next
        pub record NextBox : Type 0 where
          pub first_kid : Proof
          pub rest : Proofs
          pub is_left : so.left ≡ first_kid ⊳ rest
          pub stands : StandsInList (listed_entries o) at first_kid
          pub next : StandEach (listed_entries o) (at + nodes_of first_kid) rest
          pub derives : Derives (rules_from o) (hyps_from o) (judgement_instance (bound_by d.binds) (judgement j)) first_kid
          pub each : Asked (map premise (drop (i + 1) ps)) rest

        pub next-box : NextBox
        next-box = go so.left refl (subst (λ (xs : List Premise). Asked xs so.left) held_here so.each)
          where
            go : (left : Proofs) → so.left ≡ left → Asked (holds (judgement j) ∷ map premise (drop (i + 1) ps)) left → NextBox
            go no_more e h = absurd h
            go (q ⊳ qs) e h =
                let s = first-stands (listed_entries o) at q qs (subst (λ (x : Proofs). StandEach (listed_entries o) at x) e so.row) in
                record { first_kid = q; rest = qs; is_left = e; stands = s.0; next = s.1; derives = h.0; each = h.1 }

        abbrev pub box-data : KidData
        box-data = record { rule = d.rule; binds = d.binds; rest = map premise (drop (i + 1) ps); proof = next-box.first_kid }

        pub box-kid : IsBoxKid o at j (bindings_of terms w) box-data
        box-kid = record {
          can = record { stands = next-box.stands; derives = next-box.derives };
          followed = subst (λ (xs : List Premise). IsFollowed o d.rule d.binds xs (bindings_of terms w)) held_here so.followed;
        }

        -- it is made
        pub boxes-next : (later : List Tree) (v : Work) (b : Box ProofOf Global) (more : List (Box ProofOf Global)) (end : ℕ) → more ≡ made ++ b ∷ [] →
            proof b.value ≡ next-box.first_kid → end ≡ at + nodes_of next-box.first_kid → IsFollowed o d.rule d.binds (map premise (drop (i + 1) ps)) (bindings_of later v) → BoxedSoFar o ps (i + 1) first end later v more d
        boxes-next later v b more end is_more same to f =
            let q = next-box in
            let sum = so.sum in
            let all = ap nodes_of_all q.is_left in
            record {
              left = q.rest;
              row = subst (λ (m : ℕ). StandEach (listed_entries o) m q.rest) (sym to) q.next;
              each = q.each;
              followed = f;
              kids_are =
                  ap (λ (bs : List (Box ProofOf Global)). joined (boxed bs) q.rest) is_more ∙ joined-push made b q.rest
                  ∙ ap (λ (x : Proof). joined (boxed made) (x ⊳ q.rest)) same ∙ ap (joined (boxed made)) (sym q.is_left) ∙ so.kids_are;
              sum = omega (arith, sum, all, to);
            }

-- in the loop over the premises the cursor goes on, and the kids up to here are made
pub record IsBoxing (o : Origin) (r : ℕ) (ps : List PremiseOf) (i : ℕ) (start now : Cursor) (old w : Work) (made : List (Box ProofOf Global)) : Type 0 where
  pub on : Advances start now
  pub work : IsWork (cursor_terms now) w
  pub after : start.next ≤ now.next
  pub kids : (d : NodeData) → IsBoxNode o start.next r d → IsFollowed o d.rule d.binds d.rule.premises (bindings_of (cursor_terms start) old) → BoxedSoFar o ps i start.next now.next (cursor_terms now) w made d

pub boxing-is : (o : Origin) (r : ℕ) (ps : List PremiseOf) (i : ℕ) (start : Cursor) (old : Work) (now cursor : Cursor) (w work : Work) (kids made : List (Box ProofOf Global)) → now ≡ cursor → w ≡ work → kids ≡ made →
    IsBoxing o r ps i start cursor old work made → IsBoxing o r ps i start now old w kids
boxing-is o r ps i start old now cursor w work kids made f g h x =
    subst (λ (c : Cursor). IsBoxing o r ps i start c old w kids) (sym f)
    (subst (λ (v : Work). IsBoxing o r ps i start cursor old v kids) (sym g)
    (subst (λ (xs : List (Box ProofOf Global)). IsBoxing o r ps i start cursor old work xs) (sym h) x))
