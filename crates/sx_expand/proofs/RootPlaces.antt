-- The places of the judgement that a derivation is lowered to, one after another.
use Rattle.std.proofs.Common.{◌≡◌, arith, ℕ, zero, suc, ◌+◌, ◌<◌, ◌≤◌, ◌⊎◌, inl, inr, get_or, length, drop, List, [], ◌∷◌, ◌++◌, map, Option, Some, None, refl, sym, ap, ◌∙◌, subst, append_assoc, append-nil}
use Rattle.std.proofs.lemmas.List.{drop_more, drop_all}
use Rattle.sx_term.specs.Tree.{Tree, node, none, depth_of}
use Rattle.sx_term.specs.declared.role.Role.{Role}
use Rattle.sx_term.specs.declared.role.Role.TheVariants.{In, Sub, Out}
use Rattle.sx_rules.specs.declared.rule.Place.{Place}
use Rattle.sx_plain.specs.Plain.{Table, image}
use Rattle.sx_plain.specs.Tables.{FitsTable}
use Rattle.sx_arena.specs.Arena.{tree_at, AreBelow, Extends}
use Rattle.sx_arena.proofs.Arenas.{maps_same, below_more}
use Rattle.sx_arena.proofs.Growing.{extends-then, extends-length, extends-at, extends-same}
use Rattle.sx_expand.specs.declared.reader.Reader.{Reader}
use Rattle.sx_expand.specs.Readers.{terms_in, IsLoweringReader, ReaderGoesOn}
use Rattle.sx_expand.specs.Roots.{IsImagePlace, IsSubjectPlace, IsRootPlace, StandAt, roles_of}
use Rattle.sx_expand.proofs.NumbersPut.{below-both, maps-both}

-- what stands at a place stays where terms are put into the arena
image-place-stays : (table : Table) (old new : List Tree) (i : ℕ) (k : Tree) → Extends old new → IsImagePlace table old i k → IsImagePlace table new i k
image-place-stays table old new i k x h =
    let same = extends-at old new x i (node 0 none) h.within in
    let n = extends-length old new x in
    let w = h.within in
    record {
      within = omega (arith, w, n);
      shallow = subst (λ (t : Tree). depth_of t ≤ 1000) (sym same) h.shallow;
      fits = subst (FitsTable table) (sym same) h.fits;
      is = h.is ∙ ap (image table) (sym same);
      small = h.small;
    }

subject-place-stays : (old new : List Tree) (o : Option ℕ) (k : Tree) → Extends old new → IsSubjectPlace old o k → IsSubjectPlace new o k
subject-place-stays old new None k x h = h
subject-place-stays old new (Some i) k x h =
    let w = h.0 in
    let n = extends-length old new x in (omega (arith, w, n), extends-at old new x i (node 0 none) w ∙ h.1)

place-stays : (table : Table) (old new : List Tree) (o : Option ℕ) (role : Role) (i : ℕ) (k : Tree) → Extends old new → IsRootPlace table old o role i k → IsRootPlace table new o role i k
place-stays table old new o In i k x h = image-place-stays table old new i k x h
place-stays table old new o Sub i k x h = subject-place-stays old new o k x h
place-stays table old new o Out i k x h = image-place-stays table old new i k x h

-- the subject stands at its number
pub subject-stands : (table : Table) (r : Reader) (o : Option ℕ) (role : Role) (i n : ℕ) → IsLoweringReader table r → role ≡ Sub → o ≡ Some n → (k : Tree) × IsRootPlace table (terms_in r) o role i k →
    ReaderGoesOn table r r × (n < length (terms_in r)) × ((k : Tree) → IsRootPlace table (terms_in r) o role i k → tree_at (terms_in r) n ≡ k)
subject-stands table r o role i n known e f (k, h) =
    let at : (t : Tree) → IsRootPlace table (terms_in r) o role i t → IsSubjectPlace (terms_in r) (Some n) t =
    (λ t p. subst (λ (x : Option ℕ). IsSubjectPlace (terms_in r) x t) f (subst (λ (x : Role). IsRootPlace table (terms_in r) o x i t) e p)) in
    (record { reader = known; extends = extends-same (terms_in r) }, (at k h).0, λ t p. (at t p).1)

module _ (table : Table) (terms : List Tree) (subject : Option ℕ) where
  -- the first of the places, and those after it
  pub record First (role : Role) (roles : List Role) (i : ℕ) (is os : List ℕ) (ks : List Tree) : Type 0 where
    pub k : Tree
    pub rest : List Tree
    pub are : ks ≡ k ∷ rest
    pub place : IsRootPlace table terms subject role i k
    pub stand : StandAt table terms subject roles is os rest

  first-input : (role : Role) → (role ≡ In) ⊎ (role ≡ Sub) → (roles : List Role) (is os : List ℕ) (ks : List Tree) → StandAt table terms subject (role ∷ roles) is os ks →
      (i : ℕ) × (more : List ℕ) × (is ≡ i ∷ more) × First role roles i more os ks
  first-input In e roles [] os ks h = absurd h
  first-input In e roles (i ∷ is) os [] h = absurd h
  first-input In e roles (i ∷ is) os (k ∷ ks) h = (i, is, refl, record { k = k; rest = ks; are = refl; place = h.0; stand = h.1 })
  first-input Sub e roles [] os ks h = absurd h
  first-input Sub e roles (i ∷ is) os [] h = absurd h
  first-input Sub e roles (i ∷ is) os (k ∷ ks) h = (i, is, refl, record { k = k; rest = ks; are = refl; place = h.0; stand = h.1 })
  first-input Out (inl e) roles is os ks h = cc
  first-input Out (inr e) roles is os ks h = cc

  first-output : (role : Role) → role ≡ Out → (roles : List Role) (is os : List ℕ) (ks : List Tree) → StandAt table terms subject (role ∷ roles) is os ks →
      (o : ℕ) × (more : List ℕ) × (os ≡ o ∷ more) × First role roles o is more ks
  first-output In e roles is os ks h = cc
  first-output Sub e roles is os ks h = cc
  first-output Out e roles is [] ks h = absurd h
  first-output Out e roles is (o ∷ os) [] h = absurd h
  first-output Out e roles is (o ∷ os) (k ∷ ks) h = (o, os, refl, record { k = k; rest = ks; are = refl; place = h.0; stand = h.1 })

  none-left : (is os : List ℕ) (ks : List Tree) → StandAt table terms subject [] is os ks → ks ≡ []
  none-left [] [] [] h = refl
  none-left [] [] (k ∷ ks) h = absurd h
  none-left [] (o ∷ os) ks h = absurd h
  none-left (i ∷ is) os ks h = absurd h

drop-is : (ns : List ℕ) (n i : ℕ) (more : List ℕ) → drop n ns ≡ i ∷ more → (n < length ns) × (get_or ns n 0 ≡ i) × (drop (n + 1) ns ≡ more)
drop-is [] zero i more e = cc
drop-is [] (suc n) i more e = cc
drop-is (x ∷ ns) zero i more e = let q : x ≡ i = cc in let r : ns ≡ more = cc in (omega arith, q, r)
drop-is (x ∷ ns) (suc n) i more e =
    let h = drop-is ns n i more e in
    let l = h.0 in
    let m : suc n + 1 ≡ suc (n + 1) = omega arith in (omega (arith, l), h.1, rw m h.2)

roles-drop : (ps : List Place) (i : ℕ) (p d : Place) → i < length ps → p ≡ get_or ps i d → roles_of (drop i ps) ≡ p.role ∷ roles_of (drop (i + 1) ps)
roles-drop ps i p d l e = ap roles_of (drop_more ps i d l) ∙ ap (λ (x : Place). x.role ∷ roles_of (drop (i + 1) ps)) (sym e)

module _ (table : Table) (places : List Place) (ins outs : List ℕ) (subject : Option ℕ) (start : Reader) where
  -- what stands at the places from one on
  abbrev LeftAt : ℕ → ℕ → ℕ → List Tree → Type 0
  LeftAt i given made left = StandAt table (terms_in start) subject (roles_of (drop i places)) (drop given ins) (drop made outs) left

  -- what stands at all of them
  abbrev pub StandAll : List Tree → Type 0
  StandAll ks = StandAt table (terms_in start) subject (roles_of places) ins outs ks

  -- the numbers up to a place
  pub record PlacesSoFar (i given made : ℕ) (now : Reader) (numbers : List ℕ) : Type 0 where
    pub on : ReaderGoesOn table start now
    pub below : AreBelow (length (terms_in now)) numbers
    pub rest : (ks : List Tree) → StandAll ks → (left : List Tree) × LeftAt i given made left × (ks ≡ map (tree_at (terms_in now)) numbers ++ left)

  pub no-places : (numbers : List ℕ) → IsLoweringReader table start → numbers ≡ [] → PlacesSoFar 0 0 0 start numbers
  no-places numbers r e = subst (λ (ns : List ℕ). PlacesSoFar 0 0 0 start ns) (sym e)
      (record {
        on = record { reader = r; extends = extends-same (terms_in start) };
        below = tt;
        rest = λ ks h. (ks, h, refl);
      })

  pub places-end : (i given made : ℕ) (now : Reader) (numbers : List ℕ) → PlacesSoFar i given made now numbers → length places ≤ i →
      ReaderGoesOn table start now × AreBelow (length (terms_in now)) numbers × ((ks : List Tree) → StandAll ks → map (tree_at (terms_in now)) numbers ≡ ks)
  places-end i given made now numbers so l = (
    so.on,
    so.below,
    λ ks h.
        let w = so.rest ks h in
        let s = subst (λ (ps : List Place). StandAt table (terms_in start) subject (roles_of ps) (drop given ins) (drop made outs) w.0) (drop_all i places l) w.1 in
        let z = none-left table (terms_in start) subject (drop given ins) (drop made outs) w.0 s in
        let ns = map (tree_at (terms_in now)) numbers in
        sym (w.2 ∙ ap (λ (ts : List Tree). ns ++ ts) z ∙ append-nil ns),
  )

  module _ (i given made : ℕ) (now : Reader) (numbers : List ℕ) (so : PlacesSoFar i given made now numbers) (within : i < length places) (d : Place) where
    abbrev p : Place
    p = get_or places i d

    -- the term of the next place is taken
    pub record Takes (given' made' term : ℕ) : Type 0 where
      pub each : (left : List Tree) → LeftAt i given made left → First table (terms_in start) subject p.role (roles_of (drop (i + 1) places)) term (drop given' ins) (drop made' outs) left

    split-left : (left : List Tree) → LeftAt i given made left → StandAt table (terms_in start) subject (p.role ∷ roles_of (drop (i + 1) places)) (drop given ins) (drop made outs) left
    split-left left h = subst (λ (rs : List Role). StandAt table (terms_in start) subject rs (drop given ins) (drop made outs) left) (roles-drop places i p d within refl) h

    -- an input is next
    module _ (role : (p.role ≡ In) ⊎ (p.role ≡ Sub)) where
      pub input-within : (ks : List Tree) × StandAll ks → given < length ins
      input-within (ks, h) =
          let w = so.rest ks h in
          let f = first-input table (terms_in start) subject p.role role (roles_of (drop (i + 1) places)) (drop given ins) (drop made outs) w.0 (split-left w.0 w.1) in
          (drop-is ins given f.0 f.1 f.2).0

      pub takes-input : (given' made' term : ℕ) → given' ≡ given + 1 → made' ≡ made → term ≡ get_or ins given 0 → Takes given' made' term
      takes-input given' made' term g m e = subst (λ (n : ℕ). Takes n made' term) (sym g) (subst (λ (n : ℕ). Takes (given + 1) n term) (sym m) (record {
        each = λ left h.
            let f = first-input table (terms_in start) subject p.role role (roles_of (drop (i + 1) places)) (drop given ins) (drop made outs) left (split-left left h) in
            let d = drop-is ins given f.0 f.1 f.2 in
            subst (λ (n : ℕ). First table (terms_in start) subject p.role (roles_of (drop (i + 1) places)) n (drop (given + 1) ins) (drop made outs) left) (sym (e ∙ d.1))
            (subst (λ (ns : List ℕ). First table (terms_in start) subject p.role (roles_of (drop (i + 1) places)) f.0 ns (drop made outs) left) (sym d.2) f.3);
      }))

    -- an output is next
    module _ (role : p.role ≡ Out) where
      pub output-within : (ks : List Tree) × StandAll ks → made < length outs
      output-within (ks, h) =
          let w = so.rest ks h in
          let f = first-output table (terms_in start) subject p.role role (roles_of (drop (i + 1) places)) (drop given ins) (drop made outs) w.0 (split-left w.0 w.1) in
          (drop-is outs made f.0 f.1 f.2).0

      pub takes-output : (given' made' term : ℕ) → given' ≡ given → made' ≡ made + 1 → term ≡ get_or outs made 0 → Takes given' made' term
      takes-output given' made' term g m e = subst (λ (n : ℕ). Takes n made' term) (sym g) (subst (λ (n : ℕ). Takes given n term) (sym m) (record {
        each = λ left h.
            let f = first-output table (terms_in start) subject p.role role (roles_of (drop (i + 1) places)) (drop given ins) (drop made outs) left (split-left left h) in
            let d = drop-is outs made f.0 f.1 f.2 in
            subst (λ (n : ℕ). First table (terms_in start) subject p.role (roles_of (drop (i + 1) places)) n (drop given ins) (drop (made + 1) outs) left) (sym (e ∙ d.1))
            (subst (λ (ns : List ℕ). First table (terms_in start) subject p.role (roles_of (drop (i + 1) places)) f.0 (drop given ins) ns left) (sym d.2) f.3);
      }))

    module _ (given' made' term : ℕ) (takes : Takes given' made' term) where
      -- what is to stand at the next place
      pub next-place : (ks : List Tree) × StandAll ks → (k : Tree) × IsRootPlace table (terms_in now) subject p.role term k
      next-place (ks, h) =
          let w = so.rest ks h in
          let f = takes.each w.0 w.1 in
          (f.k, place-stays table (terms_in start) (terms_in now) subject p.role term f.k so.on.extends f.place)

      -- it stands there
      pub place-next : (next : Reader) (n : ℕ) → ReaderGoesOn table now next → n < length (terms_in next) → ((k : Tree) → IsRootPlace table (terms_in now) subject p.role term k → tree_at (terms_in next) n ≡ k) →
          PlacesSoFar (i + 1) given' made' next (numbers ++ n ∷ [])
      place-next next n on l is = record {
        on = record { reader = on.reader; extends = extends-then (terms_in start) (terms_in now) (terms_in next) so.on.extends on.extends };
        below = below-both (length (terms_in next)) numbers n (below_more (length (terms_in now)) (length (terms_in next)) (extends-length (terms_in now) (terms_in next) on.extends) numbers so.below) l;
        rest = λ ks h.
            let w = so.rest ks h in
            let f = takes.each w.0 w.1 in
            let k = is f.k (place-stays table (terms_in start) (terms_in now) subject p.role term f.k so.on.extends f.place) in
            let same = maps_same (terms_in now) (terms_in next) on.extends numbers so.below in
            let before = map (tree_at (terms_in now)) numbers in
            let all = maps-both (tree_at (terms_in next)) numbers n ∙ ap (λ (ts : List Tree). ts ++ tree_at (terms_in next) n ∷ []) same ∙ ap (λ (t : Tree). before ++ t ∷ []) k in (
              f.rest,
              f.stand,
              w.2 ∙ ap (λ (ts : List Tree). before ++ ts) f.are ∙ sym (append_assoc before (f.k ∷ []) f.rest) ∙ ap (λ (ts : List Tree). ts ++ f.rest) (sym all),
            );
      }
