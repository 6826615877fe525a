-- Proofs of a store as values of their own.
use Rattle.std.proofs.Common.{◌≡◌, ℕ, suc, ◌-◌, ◌<◌, ◌≤◌, List, [], ◌∷◌, ◌++◌, map, length, get_or, reverse, Vec, Box, refl, sym, ap, ◌∙◌, arith, subst}
use Rattle.std.specs.declared.alloc.Global.{Global}
use Rattle.std.proofs.lemmas.List.{reverse-append}
use Rattle.sx_term.specs.Term.{tree}
use Rattle.sx_term.specs.declared.term.Term.{Term}
use Rattle.sx_rules.specs.declared.proof.Proof.{Proof as ProofOf, By as ByOf}
use Rattle.sx_rules.specs.Derivations.{Proof, Proofs, by, no_more, ◌⊳◌}
use Rattle.sx_rules.specs.ProofView.{proof, boxed}
use Rattle.sx_rules.proofs.ProofRows.{proof-at_by}
use Rattle.sx_arena.specs.Matching.{Assignment, filled}
use Rattle.sx_derive.specs.Walk.{first_values}
use Rattle.sx_derive.specs.Machine.{joined_proofs}
use Rattle.sx_derive.specs.declared.chains.Head.{Head}
use Rattle.sx_derive.specs.declared.chains.Head.TheVariants.{Given, By}
use Rattle.sx_derive.specs.declared.chains.Kid.{Kid}
use Rattle.sx_arena.specs.Binds.{env_at}
use Rattle.sx_derive.specs.Chains.{kids_at, head_proof, kid_step, HeadFits, KidFits, kid_chains}
use Rattle.sx_derive.specs.Chains.{AreKids}
use Rattle.sx_derive.specs.Listing.{head_kids}
use Rattle.sx_arena.proofs.Growing.{extends-length, extends-same, grown-at}
use Rattle.sx_derive.proofs.Chained.{kids_stay_at, head_stays}
use Rattle.sx_derive.proofs.Stepped.{joined_proofs-assoc, joined_proofs-none}

-- the cell at a number
pub record KidRead (es : List Assignment) (ks : List Proofs) (here : ℕ) (c : Kid) : Type 0 where
  pub kids : kids_at ks here ≡ joined_proofs (kids_at ks c.before) (head_proof es ks c.head ⊳ no_more)
  pub head : HeadFits (length es) (length ks) c.head
  pub less : head_kids c.head < here
  pub before : c.before < here

fits_kids : (m n : ℕ) (h : Head) → HeadFits m n h → head_kids h ≤ n
fits_kids m n (Given k) f = omega arith
fits_kids m n (By k v env kids) f = f.1

fits_more : (m n q : ℕ) (h : Head) → n ≤ q → HeadFits m n h → HeadFits m q h
fits_more m n q (Given k) l f = tt
fits_more m n q (By k v env kids) l f = (f.0, (let z = f.1 in omega arith))

kid_read_at : (es : List Assignment) (cs : List Kid) → AreKids es cs → (i : ℕ) (c : Kid) → i < length cs → c ≡ get_or cs i c → KidRead es (kid_chains es cs) (suc i) c
kid_read_at es cs h i c l e =
    let r = grown-at (kid_step es) (KidFits es) cs h i c no_more l e in
    let front = r.0 in
    let p = r.1 in
    let n : length front ≡ i = r.2 in
    let w = p.before in
    let k = fits_kids (length es) (length front) c.head p.head in
    let x = extends-length front (kid_chains es cs) r.3 in
    record {
      kids = r.4 ∙ (λ j. joined_proofs (sym (kids_stay_at front (kid_chains es cs) r.3 c.before w) j) (sym (head_stays es es front (kid_chains es cs) (extends-same es) r.3 c.head p.head) j ⊳ no_more));
      head = fits_more (length es) (length front) (length (kid_chains es cs)) c.head x p.head;
      less = (omega arith);
      before = (omega arith);
    }

pub kid_read : (es : List Assignment) (cs : List Kid) → AreKids es cs → (here : ℕ) (c : Kid) → 0 < here → here ≤ length cs → c ≡ get_or cs (here - 1) c → KidRead es (kid_chains es cs) here c
kid_read es cs h here c p l e =
    let f : suc (here - 1) ≡ here = omega arith in
    subst (λ (n : ℕ). KidRead es (kid_chains es cs) n c) f (kid_read_at es cs h (here - 1) c (omega arith) e)

-- the kids that are made so far are the last of the chain
pub record Proving (ks : List Proofs) (kids here : ℕ) (proofs : List (Box ProofOf Global)) : Type 0 where
  pub within : here ≤ kids
  pub same : kids_at ks kids ≡ joined_proofs (kids_at ks here) (boxed (reverse proofs))

pub proving_first : (ks : List Proofs) (kids : ℕ) (proofs : List (Box ProofOf Global)) → proofs ≡ [] → Proving ks kids kids proofs
proving_first ks kids proofs e = record {
  within = (omega arith);
  same = sym (joined_proofs-none (kids_at ks kids)) ∙ ap (λ (ps : List (Box ProofOf Global)). joined_proofs (kids_at ks kids) (boxed (reverse ps))) (sym e);
}

pub proving_more : (es : List Assignment) (ks : List Proofs) (kids here : ℕ) (proofs more : List (Box ProofOf Global)) (c : Kid) (b : Box ProofOf Global) (p : ProofOf) → Proving ks kids here proofs → KidRead es ks here c →
    proof p ≡ head_proof es ks c.head → b.value ≡ p → more ≡ proofs ++ b ∷ [] → Proving ks kids c.before more
proving_more es ks kids here proofs more c b p h r e f g =
    let w = h.within in
    let l = r.before in
    let q : boxed (reverse more) ≡ head_proof es ks c.head ⊳ boxed (reverse proofs) =
    ap (λ (ps : List (Box ProofOf Global)). boxed (reverse ps)) g ∙ ap boxed (reverse-append proofs (b ∷ [])) ∙ ap (λ (x : Proof). x ⊳ boxed (reverse proofs)) (ap proof f ∙ e) in
    record {
      within = (omega arith);
      same = h.same ∙ ap (λ (x : Proofs). joined_proofs x (boxed (reverse proofs))) r.kids ∙ joined_proofs-assoc (kids_at ks c.before) (head_proof es ks c.head ⊳ no_more) (boxed (reverse proofs))
          ∙ ap (joined_proofs (kids_at ks c.before)) (sym q);
    }

pub proving_end : (es : List Assignment) (ks : List Proofs) (kids here number variables env : ℕ) (proofs : List (Box ProofOf Global)) (head : Head) (binds : Vec Term Global) (row : Vec (Box ProofOf Global) Global) → Proving ks kids here proofs → here ≡ 0 →
    head ≡ By number variables env kids → map tree binds.items ≡ first_values variables (filled (env_at es env)) → row.items ≡ reverse proofs → proof (ByOf number binds row) ≡ head_proof es ks head
proving_end es ks kids here number variables env proofs head binds row h z e b r =
    proof-at_by (ByOf number binds row) number binds row refl
    ∙ (λ i. by number (b i) ((ap boxed r ∙ sym (h.same ∙ ap (λ (n : ℕ). joined_proofs (kids_at ks n) (boxed (reverse proofs))) z)) i))
    ∙ sym (ap (head_proof es ks) e)
