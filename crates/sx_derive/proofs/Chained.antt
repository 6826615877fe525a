-- Chains of proofs and of frames stay as they are when the store grows.
use Rattle.std.proofs.Common.{◌≡◌, ℕ, zero, suc, ◌+◌, ◌<◌, ◌≤◌, Bool, true, false, List, [], ◌∷◌, ◌++◌, length, get_or, refl, sym, ap, ◌∙◌, arith, subst}
use Rattle.std.specs.Prelude.{nat_eq}
use Rattle.std.proofs.lemmas.Bool.Decides.{Decides-eqb}
use Rattle.std.proofs.lemmas.List.{get_or_push}
use Rattle.sx_arena.specs.Matching.{Assignment, filled}
use Rattle.sx_rules.specs.Rules.{Rule}
use Rattle.sx_rules.specs.Modes.{Modes}
use Rattle.sx_rules.specs.Derivations.{Proofs, by, no_more, ◌⊳◌}
use Rattle.sx_derive.specs.Walk.{first_values}
use Rattle.sx_derive.specs.Machine.{Frame, joined_proofs}
use Rattle.sx_derive.specs.declared.chains.Head.{Head}
use Rattle.sx_derive.specs.declared.chains.Head.TheVariants.{Given, By}
use Rattle.sx_derive.specs.declared.chains.Kid.{Kid}
use Rattle.sx_derive.specs.declared.chains.Waiting.{Waiting}
use Rattle.sx_arena.specs.Grown.{Extends, grown_from}
use Rattle.sx_derive.specs.Chains.{kids_at, head_proof, kid_step, HeadFits, KidFits, kid_chains}
use Rattle.sx_derive.specs.Chains.{AreKids, frame_of, frames_at, waiting_chain, waiting_step, WaitingFits}
use Rattle.sx_derive.specs.Chains.{chain_unless, frames_of, AreFrames}
use Rattle.sx_arena.proofs.Growing.{extends-same, extends-length, extends-at, grown_from-one, grown-length, fits-one, grown-same}
use Rattle.sx_arena.proofs.BindChains.{env_stays}

pub kids_stay_at : (ks ls : List Proofs) → Extends ks ls → (i : ℕ) → i ≤ length ks → kids_at ls i ≡ kids_at ks i
kids_stay_at ks ls x zero h = refl
kids_stay_at ks ls x (suc i) h = extends-at ks ls x i no_more (omega arith)

pub frames_stay_at : (fs gs : List (List Frame)) → Extends fs gs → (i : ℕ) → i ≤ length fs → frames_at gs i ≡ frames_at fs i
frames_stay_at fs gs x zero h = refl
frames_stay_at fs gs x (suc i) h = extends-at fs gs x i [] (omega arith)

-- a proof
pub head_stays : (es ds : List Assignment) (ks ls : List Proofs) → Extends es ds → Extends ks ls → (h : Head) → HeadFits (length es) (length ks) h → head_proof ds ls h ≡ head_proof es ks h
head_stays es ds ks ls x y (Given n) f = refl
head_stays es ds ks ls x y (By n v env kids) f =
    let a = env_stays es ds x env f.0 in
    let b = kids_stay_at ks ls y kids f.1 in
    λ i. by n (first_values v (filled (a i))) (b i)

pub head_fits_more : (m n p q : ℕ) → m ≤ n → p ≤ q → (h : Head) → HeadFits m p h → HeadFits n q h
head_fits_more m n p q a b (Given k) f = tt
head_fits_more m n p q a b (By k v env kids) f = ((let z = f.0 in omega arith), (let z = f.1 in omega arith))

-- more bindings change no chain of proofs
pub kids_stay : (es ds : List Assignment) → Extends es ds → (cs : List Kid) → AreKids es cs → (kid_chains ds cs ≡ kid_chains es cs) × AreKids ds cs
kids_stay es ds x cs h = grown-same (kid_step es) (kid_step ds) (KidFits es) (KidFits ds)
    (λ ks c p. (
      ap (λ q. joined_proofs (kids_at ks c.before) (q ⊳ no_more)) (sym (head_stays es ds ks ks x (extends-same ks) c.head p.head)),
      record { head = head_fits_more (length es) (length ds) (length ks) (length ks) (extends-length es ds x) (omega arith) c.head p.head; before = p.before },
    ))
    [] cs h

-- one more proof
pub kids_one : (es : List Assignment) (old new : List Kid) (c : Kid) → AreKids es old → HeadFits (length es) (length old) c.head → c.before ≤ length old → new ≡ old ++ c ∷ [] →
    AreKids es new × Extends (kid_chains es old) (kid_chains es new) × (kids_at (kid_chains es new) (length old + 1) ≡ joined_proofs (kids_at (kid_chains es old) c.before) (head_proof es (kid_chains es old) c.head ⊳ no_more))
kids_one es old new c h f l e =
    let n = grown-length (kid_step es) old in
    let g : kid_chains es new ≡ kid_chains es old ++ kid_step es (kid_chains es old) c ∷ [] = ap (grown_from (kid_step es) []) e ∙ grown_from-one (kid_step es) [] old c in
    let p : KidFits es (kid_chains es old) c = record { head = subst (λ (m : ℕ). HeadFits (length es) m c.head) (sym n) f; before = (omega arith) } in
    let k : length old + 1 ≡ suc (length old) = omega arith in (
      subst (λ (x : List Kid). AreKids es x) (sym e) (fits-one (kid_step es) (KidFits es) [] old c h p),
      (kid_step es (kid_chains es old) c ∷ [], g),
      ap (kids_at (kid_chains es new)) k ∙ ap (λ ks. get_or ks (length old) no_more) g ∙ get_or_push (kid_chains es old) (kid_step es (kid_chains es old) c) no_more (length old) n,
    )

-- whether a number is that at which answers are handed out
pub number_is : (m n : ℕ) → m ≡ n → nat_eq m n ≡ true
number_is m n e = (Decides-eqb m n).1 e

pub number_past : (m n : ℕ) → n < m → nat_eq m n ≡ false
number_past m n l = go (nat_eq m n) refl
  where
    go : (b : Bool) → nat_eq m n ≡ b → b ≡ false
    go true e = absurd (let f = (Decides-eqb m n).0 e in omega arith)
    go false e = refl

-- more bindings and proofs change no chain of frames
pub frames_stay : (modes : Modes) (rules : List Rule) (until : ℕ) (es ds : List Assignment) (ks ls : List Proofs) → Extends es ds → Extends ks ls → (cs : List Waiting) → AreFrames modes rules until es ks cs →
    (frames_of modes rules until ds ls cs ≡ frames_of modes rules until es ks cs) × AreFrames modes rules until ds ls cs
frames_stay modes rules until es ds ks ls x y cs h = grown-same (waiting_step modes rules until es ks) (waiting_step modes rules until ds ls) (WaitingFits rules until es ks) (WaitingFits rules until ds ls)
    (λ fs c p. (
      ap (chain_unless (nat_eq (suc (length fs)) until)) (frames_same fs c p),
      record { waits = p.waits; env = (let a = p.env in let z = extends-length es ds x in omega arith); kids = (let a = p.kids in let z = extends-length ks ls y in omega arith); before = p.before; above = p.above },
    ))
    [] cs h
  where
    frames_same : (fs : List (List Frame)) (c : Waiting) → WaitingFits rules until es ks fs c → waiting_chain modes rules es ks fs c ≡ waiting_chain modes rules ds ls fs c
    frames_same fs c p =
        let a = sym (env_stays es ds x c.env p.env) in
        let b = sym (kids_stay_at ks ls y c.kids p.kids) in
        let F = frame_of modes rules es ks c in
        ap (λ (f : Frame). f ∷ frames_at fs c.before) (λ i. record { number = F.number; rule = F.rule; rest = F.rest; patterns = F.patterns; env = a i; kids = b i; levels = F.levels })

-- one more frame
pub frames_one : (modes : Modes) (rules : List Rule) (until : ℕ) (es : List Assignment) (ks : List Proofs) (old new : List Waiting) (c : Waiting) → AreFrames modes rules until es ks old →
    WaitingFits rules until es ks (frames_of modes rules until es ks old) c → until ≤ length old → new ≡ old ++ c ∷ [] →
    AreFrames modes rules until es ks new × Extends (frames_of modes rules until es ks old) (frames_of modes rules until es ks new)
    × (frames_at (frames_of modes rules until es ks new) (length old + 1) ≡ frame_of modes rules es ks c ∷ frames_at (frames_of modes rules until es ks old) c.before)
frames_one modes rules until es ks old new c h p l e =
    let step = waiting_step modes rules until es ks in
    let fs = frames_of modes rules until es ks old in
    let n = grown-length step old in
    let g : frames_of modes rules until es ks new ≡ fs ++ step fs c ∷ [] = ap (grown_from step []) e ∙ grown_from-one step [] old c in
    let k : length old + 1 ≡ suc (length old) = omega arith in
    let past : nat_eq (suc (length fs)) until ≡ false = number_past (suc (length fs)) until (omega arith) in (
      subst (λ (x : List Waiting). AreFrames modes rules until es ks x) (sym e) (fits-one step (WaitingFits rules until es ks) [] old c h p),
      (step fs c ∷ [], g),
      ap (frames_at (frames_of modes rules until es ks new)) k ∙ ap (λ xs. get_or xs (length old) []) g ∙ get_or_push fs (step fs c) [] (length old) n
          ∙ ap (λ (b : Bool). chain_unless b (waiting_chain modes rules es ks fs c)) past,
    )
